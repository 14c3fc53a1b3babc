-- Each plan leaves each bank one that can be recovered.
use Rattle.std.proofs.Common.{◌≡◌, inl, inr, refl, [], ◌∷◌, length, Ok}
use Rattle.pfr_flash.specs.declared.names.Bank.{Bank}
use Rattle.pfr_flash.specs.declared.names.Device.TheVariants as device
use Rattle.pfr_fuses.specs.Changes.{cancellation}
use Rattle.pfr_fuses.specs.FusesState.{FusesState}
use Rattle.pfr_fuses.specs.FusesOf.{fuses_of}
use Rattle.pfr_fuses.proofs.BlankLemmas.{judged-ok}
use Rattle.pfr_fuses.proofs.StandsLemmas.{fuses_of-ok}
use Rattle.pfr_jobs.specs.Log.{open_job}
use Rattle.pfr_jobs.specs.declared.job.OpenJob.TheVariants as job
use Rattle.pfr_recoverable.specs.Recoverable.{IsRecoverable}
use Rattle.pfr_report.specs.declared.note.What.TheVariants as what
use Rattle.pfr_story.specs.Story.{Story, Says, called}
use Rattle.pfr_story.specs.Views.{mine, store}
use Rattle.pfr_story.specs.JobContents.{CanWork}
use Rattle.pfr_story.specs.Recovery.{KeepsRecoverable}
use Rattle.pfr_story.specs.SafePlans.{CancelsSafely, CopiesSafely, MigratesSafely, ProvisionsSafely, RebuildsSafely, ResumesSafely}
use Rattle.pfr_story.proofs.FoundLaws.{cert_own}
use Rattle.pfr_story.proofs.JobReleases.{holds_jobs}
use Rattle.pfr_story.proofs.JobSafety.{IsJobless}
use Rattle.pfr_story.proofs.JobSafetyFuses.{migration_recoverable}
use Rattle.pfr_story.proofs.JobSafetyLaws.{cancelled_safe, recovery_job_safe, resumed_safe, with_job_safe}
use Rattle.pfr_story.proofs.WorkKnown.{keys_apart}
use Rattle.pfr_story.proofs.SafetyLaws.{AllSafe-append}

jobless : (which : Bank) (fuses : FusesState) (story : Story) → CanWork which fuses story → open_job (store story) which ≡ job.None → IsJobless which fuses story
jobless which fuses story h none = record { holds = holds_jobs which fuses story h; none = none }

pub resumes_safely : ResumesSafely
resumes_safely notes accepts which fuses story h = λ bank. resumed_safe accepts which fuses bank notes story (holds_jobs which fuses story h)

pub rebuilds_safely : RebuildsSafely
rebuilds_safely accepts which kind fuses capsule that story h none valid active j =
    λ bank. with_job_safe accepts which fuses kind active valid capsule that story (jobless which fuses story h none) j bank

pub copies_safely : CopiesSafely
copies_safely given_up told accepts which fuses capsule story h none free j =
    λ bank. recovery_job_safe accepts which fuses given_up told capsule story (jobless which fuses story h none) free j bank

pub cancels_safely : CancelsSafely
cancels_safely accepts which fuses cert story h none j applies =
    λ bank. (let own = cert_own accepts which fuses cert story j in
    AllSafe-append (KeepsRecoverable accepts bank) (called device.Nv (cancellation cert.ty cert.id)) (Says (λ _. what.Cancelled cert.ty cert.id) ∷ []) story
    (cancelled_safe accepts which fuses bank cert.ty cert.id story
    (record { jobless = jobless which fuses story h none; few = own.1; own = own.0; apart = keys_apart which fuses cert _ own.0 applies })) (tt, tt))

pub migrates_safely : MigratesSafely
migrates_safely accepts story size small = λ bank. (tt, migration_recoverable accepts bank story size small (fuses_of (store story)) refl)

pub provisions_safely : ProvisionsSafely
provisions_safely accepts which number what story judged r = by_kind r
  where
    none : (fuses : FusesState) → fuses_of (store story) ≡ Ok fuses → ⊥
    none fuses read =
        let by = fuses_of-ok (store story) fuses read in
        (judged-ok (store story) what (length story.bmc.start) (length story.pch.start) number judged).unset.gates by.0 by.1.within by.1.gate

    by_kind : IsRecoverable which (mine which story) (store story) accepts → ⊥
    by_kind (inl good) = none good.fuses good.provisioned
    by_kind (inr opened) = none opened.fuses opened.provisioned
