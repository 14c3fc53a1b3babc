-- What guards a bank while its processor runs, and how notes move it.
use Rattle.std.specs.Prelude.{Bool, true, false, if◌then◌else◌}
use Rattle.pfr_flash.specs.declared.names.Bank.{Bank}
use Rattle.pfr_flash.specs.declared.names.Bank.TheVariants as bank
use Rattle.pfr_filter.specs.Asking.{latched}
use Rattle.pfr_report.specs.declared.note.What.{What}
use Rattle.pfr_report.specs.declared.note.What.TheVariants.{Held, Released, Locked, Lost, Power, BusPassed, Expired, Passed, Booted}
use Rattle.pfr_watch.specs.Watching.{begun, passed}
use Rattle.pfr_watch.specs.declared.watch.Watch.{Watch}
use Rattle.pfr_story.specs.declared.watches.Watches.{Watches}

-- the watch over the boot of a bank's processor, and whether writes of its bus are enabled
pub record Guard : Type 0 where
  pub watch : Watch
  pub latch : Bool

pub record Guards : Type 0 where
  pub bmc : Guard
  pub pch : Guard

abbrev pub guard_at : Bank → Guards → Guard
guard_at bank.Bmc guards = guards.bmc
guard_at bank.Pch guards = guards.pch

abbrev pub first_watches : Watches
first_watches = record { bmc = begun bank.Bmc 0; pch = begun bank.Pch 0 }

-- before anything was noted
abbrev pub first_guards : Guards
first_guards = record { bmc = record { watch = begun bank.Bmc 0; latch = false }; pch = record { watch = begun bank.Pch 0; latch = false } }

abbrev pub same_bank : Bank → Bank → Bool
same_bank bank.Bmc bank.Bmc = true
same_bank bank.Bmc bank.Pch = false
same_bank bank.Pch bank.Bmc = false
same_bank bank.Pch bank.Pch = true

-- The watch of a bank once this is noted: a release begins it again, after as many recoveries as before, a stage that is passed
-- takes it to the next one, an expiry tells how many recoveries there were, and a power-on forgets them.
abbrev pub watch_after : Bank → What → Watch → Watch
watch_after which (Released b svn counts) watch = if same_bank which b then begun which watch.recoveries else watch
watch_after which (Passed b stage) watch = if same_bank which b then passed watch else watch
watch_after which (Booted b) watch = if same_bank which b then passed watch else watch
watch_after which (Expired b level) watch = if same_bank which b then record watch { recoveries = level } else watch
watch_after which Power watch = record watch { recoveries = 0 }
watch_after which what watch = watch

abbrev pub watches_after : What → Watches → Watches
watches_after what watches = record { bmc = watch_after bank.Bmc what watches.bmc; pch = watch_after bank.Pch what watches.pch }

-- The latch of a bank's bus once this is noted: a frame that passes moves it, and it is off where the bank is released, held or
-- locked, and where the power is lost.
abbrev pub latch_after : Bank → What → Bool → Bool
latch_after which (BusPassed b op) latch = if same_bank which b then latched op latch else latch
latch_after which (Released b svn counts) latch = if same_bank which b then false else latch
latch_after which (Held b counts) latch = if same_bank which b then false else latch
latch_after which (Locked b why counts) latch = if same_bank which b then false else latch
latch_after which (Lost device counts) latch = false
latch_after which what latch = latch

abbrev pub guard_after : Bank → What → Guard → Guard
guard_after which what guard = record { watch = watch_after which what guard.watch; latch = latch_after which what guard.latch }

abbrev pub guards_after : What → Guards → Guards
guards_after what guards = record { bmc = guard_after bank.Bmc what guards.bmc; pch = guard_after bank.Pch what guards.pch }
