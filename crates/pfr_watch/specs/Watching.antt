-- What happens to a watch: it begins, ticks, is passed, expires.
use Rattle.std.specs.Prelude.{ℕ, ◌+◌, ◌-◌, min, nat_lt, nat_le, Bool, false, if◌then◌else◌}
use Rattle.pfr_flash.specs.declared.names.Bank.{Bank}
use Rattle.pfr_watch.specs.declared.stage.Stage.{Stage}
use Rattle.pfr_watch.specs.declared.stage.Stage.TheVariants.{Done}
use Rattle.pfr_watch.specs.declared.watch.Watch.{Watch}
use Rattle.pfr_watch.specs.Stages.{first_stage, next_stage, length_of}

-- at the beginning of a stage, with all its ticks left
abbrev pub at_stage : Stage → ℕ → Watch
at_stage stage recoveries = record { stage = stage; left = length_of stage; recoveries = recoveries }

-- at the beginning of a bank's boot
abbrev pub begun : Bank → ℕ → Watch
begun bank recoveries = at_stage (first_stage bank) recoveries

-- a value for a boot that goes on, and another for one that is done
abbrev pub unless_done : {A : Type 0} → Stage → A → A → A
unless_done Done going done = done
unless_done _ going done = going

-- n ticks end the stage's time: no more than these are left
abbrev pub expires : Watch → ℕ → Bool
expires watch n = unless_done watch.stage (nat_le watch.left n) false

-- after n ticks; a watch that expires by them stays as it was, and so does one over a boot that is done
abbrev pub ticked : Watch → ℕ → Watch
ticked watch n =
    unless_done watch.stage (if nat_lt n watch.left then record watch { left = watch.left - n } else watch) watch

-- after its stage was passed; a boot that is done has no recoveries
abbrev pub passed : Watch → Watch
passed watch = let next = next_stage watch.stage in at_stage next (unless_done next watch.recoveries 0)

-- after an expiry: one recovery more, 4 at most
abbrev pub expired : Watch → Watch
expired watch = record watch { recoveries = min (watch.recoveries + 1) 4 }
