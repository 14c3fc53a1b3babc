-- The stages of a boot: which is first, which is next, and how many ticks each may last.
use Rattle.std.specs.Prelude.{ℕ}
use Rattle.pfr_flash.specs.declared.names.Bank.{Bank}
use Rattle.pfr_flash.specs.declared.names.Bank.TheVariants as bank
use Rattle.pfr_watch.specs.declared.stage.Stage.{Stage}
use Rattle.pfr_watch.specs.declared.stage.Stage.TheVariants.{Bmc, Me, Acm, Ibb, Obb, Done}

-- the BMC's boot has one stage, the PCH's begins with the management engine
abbrev pub first_stage : Bank → Stage
first_stage bank.Bmc = Bmc
first_stage bank.Pch = Me

abbrev pub next_stage : Stage → Stage
next_stage Bmc = Done
next_stage Me = Acm
next_stage Acm = Ibb
next_stage Ibb = Obb
next_stage Obb = Done
next_stage Done = Done

-- in ticks
abbrev pub length_of : Stage → ℕ
length_of Bmc = 1500
length_of Me = 500
length_of Acm = 500
length_of Ibb = 1000
length_of Obb = 2000
length_of Done = 0
