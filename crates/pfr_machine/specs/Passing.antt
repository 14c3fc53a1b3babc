-- A pass over the pages of a bank in work, as the platform tells it.
use Rattle.std.specs.Prelude.{◌≡◌, ◌≢◌, ℕ, List}
use Rattle.pfr_flash.specs.declared.names.Bank.{Bank}
use Rattle.pfr_flash.specs.declared.names.Device.TheVariants.{Nv}
use Rattle.pfr_capsule.specs.CapsuleState.{CapsuleState}
use Rattle.pfr_fuses.specs.FusesState.{FusesState}
use Rattle.pfr_fuses.specs.RootSlot.{layout_of}
use Rattle.pfr_jobs.specs.LogState.{LogState, log_of}
use Rattle.pfr_jobs.specs.declared.job.JobKind.{JobKind}
use Rattle.pfr_jobs.specs.declared.job.OpenJob.TheVariants as job
use Rattle.pfr_strokes.specs.declared.side.CopyFail.{CopyFail}
use Rattle.pfr_strokes.specs.declared.side.CopyFail.TheVariants as fails
use Rattle.pfr_copy.specs.Marking.{active_deeds, recovery_deeds}
use Rattle.pfr_copy.specs.declared.marks.Marks.{Marks}
use Rattle.pfr_copy.specs.declared.marks.Marks.TheVariants.{Heed, Ignore, Without}
use Rattle.pfr_story.specs.Deeds.{deed_moves}
use Rattle.pfr_story.specs.Plans.{mine, store}
use Rattle.pfr_story.specs.Story.{Plan, device_of}
use Rattle.pfr_story.specs.declared.stop.Stop.{Stop}

-- a bank's log in a store, as it is kept, has a job open
pub record IsOpenLog (bank : Bank) (nv : List ℕ) (log : LogState) : Type 0 where
  pub stands : log ≡ log_of nv bank
  pub opened : log.job ≢ job.None

-- what must be known of the log
abbrev pub KnowsLog : Marks → Bank → List ℕ → LogState → Type 0
KnowsLog Heed bank nv log = IsOpenLog bank nv log
KnowsLog Ignore bank nv log = IsOpenLog bank nv log
KnowsLog Without bank nv log = Unit {0}

-- the call that failed
abbrev pub stop_at : Bank → CopyFail → Stop
stop_at bank (fails.Bank fail) = record { device = device_of bank; fail = fail }
stop_at bank (fails.Store fail) = record { device = Nv; fail = fail }

-- a capsule is applied to the active image
abbrev pub applied_by : Marks → Bank → JobKind → FusesState → CapsuleState → Plan
applied_by marks bank kind fuses capsule story = deed_moves bank (active_deeds marks kind bank (mine bank story) (store story) capsule (layout_of fuses.provision bank))

-- or copied to the recovery area
abbrev pub copied_by : Marks → Bank → FusesState → CapsuleState → Plan
copied_by marks bank fuses capsule story = deed_moves bank (recovery_deeds marks bank (mine bank story) (store story) capsule (layout_of fuses.provision bank))
