-- What a bank is held for.
use Rattle.std.specs.Prelude.{◌≡◌, ℕ, List, [], ◌∷◌, true, Result}
use Rattle.pfr_flash.specs.declared.names.Bank.{Bank}
use Rattle.pfr_engine.specs.Acceptance.{Acceptance}
use Rattle.pfr_fuses.specs.FusesState.{FusesState}
use Rattle.pfr_jobs.specs.Log.{open_job}
use Rattle.pfr_jobs.specs.LogPlans.{IsKind}
use Rattle.pfr_jobs.specs.declared.job.JobKind.TheVariants.{ActiveFromRecovery}
use Rattle.pfr_jobs.specs.declared.job.OpenJob.TheVariants as job
use Rattle.pfr_report.specs.declared.note.LockWhy.{LockWhy}
use Rattle.pfr_report.specs.declared.note.What.TheVariants.{Held, Locked}
use Rattle.pfr_story.specs.Course.{Stretch}
use Rattle.pfr_story.specs.Plans.{asks_store, by_ready, ready_of, recovered_with}
use Rattle.pfr_story.specs.UpdatePlans.{updated_with}
use Rattle.pfr_story.specs.Story.{Plan, Says, says, then}
use Rattle.pfr_story.specs.Turn.{fault_of}
use Rattle.pfr_machine.specs.declared.working.Work.{Work}
use Rattle.pfr_machine.specs.declared.working.Work.TheVariants.{BringUp, Recover, Update}

-- what is done by the fuses, or where there are none to check the bank by
abbrev pub by_work : Acceptance → Bank → Work → Result FusesState LockWhy → Plan
by_work accepts bank BringUp ready = by_ready accepts bank ready
by_work accepts bank (Recover level) ready = recovered_with accepts bank level ready
by_work accepts bank (Update intent) ready = updated_with accepts bank intent ready

-- No job of the bank is open where it is held for this; where it is brought up one may be. It is restored at a level from 1 to 3.
abbrev pub IsFreeFor : Work → Bank → List ℕ → Type 0
IsFreeFor BringUp bank nv = Unit {0}
IsFreeFor (Recover level) bank nv = IsKind (ActiveFromRecovery level) × (open_job nv bank ≡ job.None)
IsFreeFor (Update intent) bank nv = open_job nv bank ≡ job.None

-- by the fuses in the store
abbrev pub by_fuses : Acceptance → Work → Bank → Plan
by_fuses accepts work bank story = by_work accepts bank work (ready_of bank story) story

-- the whole; at a fault of its device or of the store the bank is locked
abbrev pub work_stretch : Acceptance → Bank → Work → Stretch
work_stretch accepts bank work = record {
  plan = then (says (Held bank)) (then asks_store (by_fuses accepts work bank));
  on_fault = λ device. Says (Locked bank (fault_of device)) ∷ [];
  goes_on = true;
}
