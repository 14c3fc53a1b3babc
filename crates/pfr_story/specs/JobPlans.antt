-- What is done where work on a bank is a job in its log.
use Rattle.std.specs.Prelude.{ℕ, Bool, true, false, List, [], Result, Ok, Err, nat_eq}
use Rattle.std.specs.Cmp.Lexicographic.{pointwise}
use Rattle.pfr_flash.specs.declared.names.Bank.{Bank}
use Rattle.pfr_flash.specs.declared.names.Device.TheVariants as device
use Rattle.pfr_engine.specs.Acceptance.{Acceptance}
use Rattle.pfr_fuses.specs.Changes.{raise_plan}
use Rattle.pfr_fuses.specs.FusesState.{FusesState, floor_of}
use Rattle.pfr_fuses.specs.RootSlot.{layout_of}
use Rattle.pfr_capsule.specs.CapsuleState.{CapsuleState}
use Rattle.pfr_capsule.specs.declared.fail.CapsuleFail.{CapsuleFail}
use Rattle.pfr_auth.specs.Areas.{judge_area}
use Rattle.pfr_auth.specs.declared.areas.Area.{Area}
use Rattle.pfr_auth.specs.declared.areas.Area.TheVariants.{Recovery, Staging}
use Rattle.pfr_jobs.specs.Log.{open_job}
use Rattle.pfr_jobs.specs.LogPlans.{begin_plan, finish_plan}
use Rattle.pfr_jobs.specs.LogState.{is_spent}
use Rattle.pfr_jobs.specs.declared.job.JobKind.{JobKind}
use Rattle.pfr_jobs.specs.declared.job.JobKind.TheVariants.{ActiveFromRecovery, ActiveFromStaging, RecoveryFromStaging}
use Rattle.pfr_jobs.specs.declared.job.OpenJob.{OpenJob}
use Rattle.pfr_jobs.specs.declared.job.OpenJob.TheVariants as job
use Rattle.pfr_rebuilt.specs.Passing.{active_heeding, active_ignoring, recovery_heeding, recovery_ignoring}
use Rattle.pfr_report.specs.declared.note.What.{What}
use Rattle.pfr_report.specs.declared.note.What.TheVariants.{Restored, Updated, Resumed, Abandoned, RecoveryUpdated}
use Rattle.pfr_story.specs.Deeds.{deed_moves}
use Rattle.pfr_story.specs.Views.{mine, store, asks, asks_store, judged_recovery}
use Rattle.pfr_story.specs.Story.{Story, Plan, then, says, called}

-- ---- a bank's log, by the store as it is then
abbrev pub begun_job : Bank → JobKind → List ℕ → Plan
begun_job bank kind digest story = called device.Nv (begin_plan (store story) bank kind digest)

abbrev pub finished_job : Bank → Plan
finished_job bank story = called device.Nv (finish_plan (store story) bank)

-- what was begun is given up
abbrev pub abandoned : What → Bank → Plan
abandoned that bank = then (finished_job bank) (says (λ _. that))

-- ---- a job on the active image
-- its pages are written, but those of marked groups, and the groups are marked
abbrev pub worked : Bank → JobKind → FusesState → CapsuleState → Plan
worked bank kind fuses capsule story = deed_moves bank (active_heeding kind bank (mine bank story) (store story) capsule (layout_of fuses.provision bank))

-- all of its pages are written, without a job
abbrev pub written_over : Bank → JobKind → FusesState → CapsuleState → Plan
written_over bank kind fuses capsule story = deed_moves bank (active_ignoring kind (mine bank story) capsule (layout_of fuses.provision bank))

-- the open job is done, finished and told
abbrev pub done_with : Bank → JobKind → FusesState → CapsuleState → What → Plan
done_with bank kind fuses capsule that = then (worked bank kind fuses capsule) (then (finished_job bank) (says (λ _. that)))

-- by a job of its own, unless the log is spent
abbrev pub by_log : Bool → Bank → JobKind → FusesState → CapsuleState → What → Plan
by_log true bank kind fuses capsule that = then (written_over bank kind fuses capsule) (says (λ _. that))
by_log false bank kind fuses capsule that = then (begun_job bank kind capsule.digest) (done_with bank kind fuses capsule that)

abbrev pub with_job : Bank → JobKind → FusesState → CapsuleState → What → Plan
with_job bank kind fuses capsule that = then asks_store (λ story. by_log (is_spent (store story) bank) bank kind fuses capsule that story)

-- ---- a job on the recovery area
-- the first pass heeds marks and sets them, the second ignores them
abbrev pub copied_over : Bank → FusesState → CapsuleState → Plan
copied_over bank fuses capsule story = deed_moves bank (recovery_heeding bank (mine bank story) (store story) capsule.length (layout_of fuses.provision bank))

abbrev pub copied_again : Bank → FusesState → CapsuleState → Plan
copied_again bank fuses capsule story = deed_moves bank (recovery_ignoring (mine bank story) capsule.length (layout_of fuses.provision bank))

-- the bank's floor is raised to a security version number
abbrev pub raised_to : ℕ → Bank → FusesState → Plan
raised_to svn bank fuses story = called device.Nv (raise_plan (floor_of fuses bank) bank svn)

-- the floor is raised to that of the capsule that stands in the recovery area then, and the job finished and told
abbrev pub concluded : (ℕ → What) → Bank → FusesState → CapsuleState → Plan
concluded told bank fuses found = then (raised_to found.manifest.svn bank fuses) (then (finished_job bank) (says (λ _. told found.manifest.svn)))

-- behind the second pass a good capsule stands there always
abbrev pub by_second_pass : What → (ℕ → What) → Bank → FusesState → Result CapsuleState CapsuleFail → Plan
by_second_pass given_up told bank fuses (Ok found) = concluded told bank fuses found
by_second_pass given_up told bank fuses (Err cause) = abandoned given_up bank

abbrev pub second_pass : What → (ℕ → What) → Acceptance → Bank → FusesState → CapsuleState → Plan
second_pass given_up told accepts bank fuses capsule =
    then (copied_again bank fuses capsule) (then (asks bank) (λ story. by_second_pass given_up told bank fuses (judged_recovery accepts bank fuses story) story))

abbrev pub same_digest : List ℕ → List ℕ → Bool
same_digest digest other = pointwise nat_eq digest other

-- behind the first one, that of the job may stand there or not
abbrev pub by_digest : Bool → What → (ℕ → What) → Acceptance → Bank → FusesState → CapsuleState → CapsuleState → Plan
by_digest true given_up told accepts bank fuses capsule found = concluded told bank fuses found
by_digest false given_up told accepts bank fuses capsule found = second_pass given_up told accepts bank fuses capsule

abbrev pub by_first_pass : What → (ℕ → What) → Acceptance → Bank → FusesState → CapsuleState → Result CapsuleState CapsuleFail → Plan
by_first_pass given_up told accepts bank fuses capsule (Ok found) = by_digest (same_digest found.digest capsule.digest) given_up told accepts bank fuses capsule found
by_first_pass given_up told accepts bank fuses capsule (Err cause) = second_pass given_up told accepts bank fuses capsule

abbrev pub recovery_work : What → (ℕ → What) → Acceptance → Bank → FusesState → CapsuleState → Plan
recovery_work given_up told accepts bank fuses capsule =
    then (copied_over bank fuses capsule) (then (asks bank) (λ story. by_first_pass given_up told accepts bank fuses capsule (judged_recovery accepts bank fuses story) story))

abbrev pub recovery_job : What → (ℕ → What) → Acceptance → Bank → FusesState → CapsuleState → Plan
recovery_job given_up told accepts bank fuses capsule =
    then (begun_job bank RecoveryFromStaging capsule.digest) (recovery_work given_up told accepts bank fuses capsule)

-- ---- a job that is open at a power-on
abbrev pub source_of : JobKind → Area
source_of (ActiveFromRecovery level) = Recovery
source_of (ActiveFromStaging dynamic) = Staging
source_of RecoveryFromStaging = Staging

abbrev pub judged_source : Acceptance → Bank → FusesState → JobKind → Story → Result CapsuleState CapsuleFail
judged_source accepts bank fuses kind story = judge_area (source_of kind) bank (mine bank story) fuses accepts

-- what is noted of it
pub record JobNotes : Type 0 where
  pub resumed : JobKind → What
  pub given_up : What
  pub recovery_updated : ℕ → What

-- of a job of this bank
abbrev pub job_notes : Bank → JobNotes
job_notes bank = record { resumed = λ kind. Resumed bank kind; given_up = Abandoned bank; recovery_updated = λ svn. RecoveryUpdated bank svn }

abbrev pub work_of : JobNotes → Acceptance → Bank → FusesState → CapsuleState → JobKind → Plan
work_of notes accepts bank fuses capsule (ActiveFromRecovery level) = done_with bank (ActiveFromRecovery level) fuses capsule (Restored bank level)
work_of notes accepts bank fuses capsule (ActiveFromStaging dynamic) = done_with bank (ActiveFromStaging dynamic) fuses capsule (Updated bank dynamic capsule.manifest.svn)
work_of notes accepts bank fuses capsule RecoveryFromStaging = recovery_work notes.given_up notes.recovery_updated accepts bank fuses capsule

-- it is resumed where the capsule that it works on stands in its source area, and else given up
abbrev pub resumed_if : Bool → JobNotes → Acceptance → Bank → FusesState → CapsuleState → JobKind → Plan
resumed_if true notes accepts bank fuses capsule kind = then (says (λ _. notes.resumed kind)) (work_of notes accepts bank fuses capsule kind)
resumed_if false notes accepts bank fuses capsule kind = abandoned notes.given_up bank

abbrev pub by_source : JobNotes → Acceptance → Bank → FusesState → JobKind → List ℕ → Result CapsuleState CapsuleFail → Plan
by_source notes accepts bank fuses kind digest (Ok capsule) = resumed_if (same_digest capsule.digest digest) notes accepts bank fuses capsule kind
by_source notes accepts bank fuses kind digest (Err cause) = abandoned notes.given_up bank

abbrev pub by_open : JobNotes → Acceptance → Bank → FusesState → OpenJob → Plan
by_open notes accepts bank fuses job.None = λ story. []
by_open notes accepts bank fuses job.Bad = abandoned notes.given_up bank
by_open notes accepts bank fuses (job.Job kind digest) = then (asks bank) (λ story. by_source notes accepts bank fuses kind digest (judged_source accepts bank fuses kind story) story)

abbrev pub resumed : JobNotes → Acceptance → Bank → FusesState → Plan
resumed notes accepts bank fuses = then asks_store (λ story. by_open notes accepts bank fuses (open_job (store story) bank) story)
