-- Plans that leave each bank one that can be recovered, wherever they are cut and whatever the cut tore.
use Rattle.std.specs.Prelude.{◌≡◌, ℕ, false, List, length, Ok}
use Rattle.pfr_flash.specs.Bytes.{AreBytes}
use Rattle.pfr_flash.specs.declared.names.Bank.{Bank}
use Rattle.pfr_engine.specs.Acceptance.{Acceptance}
use Rattle.pfr_fuses.specs.FusesState.{FusesState}
use Rattle.pfr_fuses.specs.Provisioning.{judge_provision}
use Rattle.pfr_fuses.specs.declared.root_slot.RootSlot.{RootSlot}
use Rattle.pfr_capsule.specs.CapsuleState.{CapsuleState}
use Rattle.pfr_cert.specs.Applying.{judge_apply}
use Rattle.pfr_cert.specs.declared.cert.Cert.{Cert}
use Rattle.pfr_jobs.specs.Log.{open_job}
use Rattle.pfr_jobs.specs.LogPlans.{IsKind}
use Rattle.pfr_jobs.specs.LogState.{is_spent}
use Rattle.pfr_jobs.specs.declared.job.JobKind.{JobKind}
use Rattle.pfr_jobs.specs.declared.job.JobKind.TheVariants.{RecoveryFromStaging}
use Rattle.pfr_jobs.specs.declared.job.OpenJob.TheVariants as job
use Rattle.pfr_recoverable.specs.Recoverable.{IsRecoverable}
use Rattle.pfr_report.specs.declared.note.What.{What}
use Rattle.pfr_story.specs.Story.{Story, Move}
use Rattle.pfr_story.specs.Views.{mine, store, judged_staging, judged_recovery}
use Rattle.pfr_story.specs.Plans.{migrated}
use Rattle.pfr_story.specs.JobPlans.{JobNotes, judged_source, recovery_job, resumed, with_job}
use Rattle.pfr_story.specs.UpdatePlans.{cancelled_key, judged_cert, standing_capsule}
use Rattle.pfr_story.specs.JobContents.{CanWork}
use Rattle.pfr_story.specs.Recovery.{KeepsRecoverable}
use Rattle.pfr_story.specs.Safety.{AllSafe}

-- each of these moves, whole or torn, leaves a bank that could be recovered so
abbrev pub LeavesRecoverable : Acceptance → List Move → Story → Type 0
LeavesRecoverable accepts moves story = (bank : Bank) → AllSafe (KeepsRecoverable accepts bank) moves story

-- So does a power-on with the job that is open, whether it resumes it or gives it up.
abbrev pub ResumesSafely : Type 0
ResumesSafely = (notes : JobNotes) (accepts : Acceptance) (which : Bank) (fuses : FusesState) (story : Story) → CanWork which fuses story
    → LeavesRecoverable accepts (resumed notes accepts which fuses story) story

-- A restore or an update of the active image does: its job is begun, its groups are marked, and it is finished; in a spent log there is none.
abbrev pub RebuildsSafely : Type 0
RebuildsSafely = (accepts : Acceptance) (which : Bank) (kind : JobKind) (fuses : FusesState) (capsule : CapsuleState) (that : What) (story : Story) → CanWork which fuses story
    → open_job (store story) which ≡ job.None → IsKind kind → ¬ (kind ≡ RecoveryFromStaging) → judged_source accepts which fuses kind story ≡ Ok capsule
    → LeavesRecoverable accepts (with_job which kind fuses capsule that story) story

-- An update of the recovery area does, which raises the floor besides.
abbrev pub CopiesSafely : Type 0
CopiesSafely = (given_up : What) (told : ℕ → What) (accepts : Acceptance) (which : Bank) (fuses : FusesState) (capsule : CapsuleState) (story : Story) → CanWork which fuses story
    → open_job (store story) which ≡ job.None → is_spent (store story) which ≡ false → judged_staging accepts which fuses story ≡ Ok capsule
    → LeavesRecoverable accepts (recovery_job given_up told accepts which fuses capsule story) story

-- A certificate does whose key is cancelled, since the recovery area doesn't need that key.
abbrev pub CancelsSafely : Type 0
CancelsSafely = (accepts : Acceptance) (which : Bank) (fuses : FusesState) (cert : Cert) (story : Story) → CanWork which fuses story
    → open_job (store story) which ≡ job.None → judged_cert accepts which fuses story ≡ Ok cert
    → judge_apply fuses cert (standing_capsule (judged_recovery accepts which fuses story)) ≡ Ok tt
    → LeavesRecoverable accepts (cancelled_key cert story) story

-- A migration does.
abbrev pub MigratesSafely : Type 0
MigratesSafely = (accepts : Acceptance) (story : Story) → length (store story) ≡ 32768 → AreBytes (store story) → LeavesRecoverable accepts (migrated story) story

-- And where a platform is provisioned no bank could be recovered before.
abbrev pub ProvisionsSafely : Type 0
ProvisionsSafely = (accepts : Acceptance) (which : Bank) (number : ℕ) (what : RootSlot) (story : Story)
    → judge_provision (store story) what (length story.bmc.start) (length story.pch.start) ≡ Ok number
    → ¬ IsRecoverable which (mine which story) (store story) accepts
