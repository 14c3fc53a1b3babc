-- What work on a job leaves, by whole images.
use Rattle.std.specs.Prelude.{◌≡◌, ℕ, Bool, false, if◌then◌else◌, List, length, Result, Ok, Err}
use Rattle.pfr_flash.specs.Bytes.{AreBytes}
use Rattle.pfr_flash.specs.Layout.{IsBankSize, IsValidLayout}
use Rattle.pfr_flash.specs.declared.layout.Layout.{Layout}
use Rattle.pfr_flash.specs.declared.names.Bank.{Bank}
use Rattle.pfr_engine.specs.Acceptance.{Acceptance}
use Rattle.pfr_fuses.specs.Changes.{raised}
use Rattle.pfr_fuses.specs.FusesState.{FusesState}
use Rattle.pfr_fuses.specs.FusesOf.{fuses_of}
use Rattle.pfr_fuses.specs.RootSlot.{layout_of}
use Rattle.pfr_fuses.specs.declared.profile.Profile.TheVariants.{Two}
use Rattle.pfr_manifest.specs.declared.manifest.Manifest.{Manifest}
use Rattle.pfr_capsule.specs.CapsuleState.{CapsuleState}
use Rattle.pfr_capsule.specs.declared.fail.CapsuleFail.{CapsuleFail}
use Rattle.pfr_auth.specs.Areas.{judge_area}
use Rattle.pfr_auth.specs.declared.areas.Area.TheVariants.{Recovery}
use Rattle.pfr_auth.specs.Trusted.{IsTrusted}
use Rattle.pfr_jobs.specs.Log.{open_job}
use Rattle.pfr_jobs.specs.LogPlans.{IsKind}
use Rattle.pfr_jobs.specs.LogState.{is_marked, is_spent}
use Rattle.pfr_jobs.specs.declared.job.JobKind.{JobKind}
use Rattle.pfr_jobs.specs.declared.job.JobKind.TheVariants.{ActiveFromRecovery, ActiveFromStaging, RecoveryFromStaging}
use Rattle.pfr_jobs.specs.declared.job.OpenJob.{OpenJob}
use Rattle.pfr_jobs.specs.declared.job.OpenJob.TheVariants as job
use Rattle.pfr_strokes.specs.Replaced.{replaced}
use Rattle.pfr_rebuilt.specs.ActiveCopying.{active_page, active_pages, active_rebuilt}
use Rattle.pfr_rebuilt.specs.Copying.{recovery_page, recovery_pages, recovery_rebuilt}
use Rattle.pfr_rebuilt.specs.Passing.{group_pages, left_pages}
use Rattle.pfr_report.specs.declared.note.What.{What}
use Rattle.pfr_story.specs.Story.{Story, after, other_bank}
use Rattle.pfr_story.specs.Plans.{mine, store, judged_staging}
use Rattle.pfr_story.specs.JobPlans.{with_job, same_digest, recovery_job, source_of, judged_source, JobNotes, resumed}

-- an active job: each page whose group isn't marked holds what the capsule gives for it
abbrev pub active_resumed : JobKind → Bank → List ℕ → List ℕ → CapsuleState → Layout → List ℕ
active_resumed kind bank image nv capsule layout =
    replaced image (active_page image capsule layout) (left_pages (is_marked nv bank) (group_pages (length image)) (active_pages kind image capsule layout))

-- a recovery job: each page of the recovery area whose group isn't marked holds what stands in the staging area
abbrev pub recovery_resumed : Bank → List ℕ → List ℕ → ℕ → Layout → List ℕ
recovery_resumed bank image nv len layout =
    replaced image (recovery_page image layout.staging_at len layout) (left_pages (is_marked nv bank) (group_pages (length image)) (recovery_pages layout len (length image)))

-- a good capsule with this digest was found
abbrev pub is_found : Result CapsuleState CapsuleFail → List ℕ → Bool
is_found (Ok found) digest = same_digest found.digest digest
is_found (Err cause) digest = false

-- and where that of the job doesn't stand in the recovery area then, all its pages are copied
abbrev pub recovery_redone : Acceptance → Bank → List ℕ → FusesState → CapsuleState → List ℕ
recovery_redone accepts bank once fuses capsule =
    let layout = layout_of fuses.provision bank in
    if is_found (judge_area Recovery bank once fuses accepts) capsule.digest then once else recovery_rebuilt once layout.staging_at capsule.length layout

abbrev pub recovery_done : Acceptance → Bank → List ℕ → List ℕ → FusesState → CapsuleState → List ℕ
recovery_done accepts bank image nv fuses capsule = recovery_redone accepts bank (recovery_resumed bank image nv capsule.length (layout_of fuses.provision bank)) fuses capsule

-- ---- a job that is open
-- done with this capsule
abbrev pub image_worked : Acceptance → Bank → List ℕ → List ℕ → FusesState → CapsuleState → JobKind → List ℕ
image_worked accepts bank image nv fuses capsule (ActiveFromRecovery level) = active_resumed (ActiveFromRecovery level) bank image nv capsule (layout_of fuses.provision bank)
image_worked accepts bank image nv fuses capsule (ActiveFromStaging dynamic) = active_resumed (ActiveFromStaging dynamic) bank image nv capsule (layout_of fuses.provision bank)
image_worked accepts bank image nv fuses capsule RecoveryFromStaging = recovery_done accepts bank image nv fuses capsule

-- where its capsule stands in its source area, and else nothing is done
abbrev pub image_from : Acceptance → Bank → List ℕ → List ℕ → FusesState → JobKind → List ℕ → Result CapsuleState CapsuleFail → List ℕ
image_from accepts bank image nv fuses kind digest (Ok capsule) = if same_digest capsule.digest digest then image_worked accepts bank image nv fuses capsule kind else image
image_from accepts bank image nv fuses kind digest (Err cause) = image

abbrev pub image_by : Acceptance → Bank → List ℕ → List ℕ → FusesState → OpenJob → List ℕ
image_by accepts bank image nv fuses job.None = image
image_by accepts bank image nv fuses job.Bad = image
image_by accepts bank image nv fuses (job.Job kind digest) = image_from accepts bank image nv fuses kind digest (judge_area (source_of kind) bank image fuses accepts)

-- The bank once the job that is open was resumed or given up.
abbrev pub image_resumed : Acceptance → Bank → List ℕ → List ℕ → FusesState → List ℕ
image_resumed accepts bank image nv fuses = image_by accepts bank image nv fuses (open_job nv bank)

-- ---- what the store says then
-- the floor is raised to the version of a capsule that was found
abbrev pub fuses_by : Bank → FusesState → Result CapsuleState CapsuleFail → FusesState
fuses_by bank fuses (Ok found) = raised fuses bank found.manifest.svn
fuses_by bank fuses (Err cause) = fuses

-- a recovery job raises it to that of the capsule in the recovery area
abbrev pub fuses_worked : Acceptance → Bank → List ℕ → List ℕ → FusesState → CapsuleState → JobKind → FusesState
fuses_worked accepts bank image nv fuses capsule (ActiveFromRecovery level) = fuses
fuses_worked accepts bank image nv fuses capsule (ActiveFromStaging dynamic) = fuses
fuses_worked accepts bank image nv fuses capsule RecoveryFromStaging = fuses_by bank fuses (judge_area Recovery bank (recovery_done accepts bank image nv fuses capsule) fuses accepts)

abbrev pub fuses_from : Acceptance → Bank → List ℕ → List ℕ → FusesState → JobKind → List ℕ → Result CapsuleState CapsuleFail → FusesState
fuses_from accepts bank image nv fuses kind digest (Ok capsule) = if same_digest capsule.digest digest then fuses_worked accepts bank image nv fuses capsule kind else fuses
fuses_from accepts bank image nv fuses kind digest (Err cause) = fuses

abbrev pub fuses_at : Acceptance → Bank → List ℕ → List ℕ → FusesState → OpenJob → FusesState
fuses_at accepts bank image nv fuses job.None = fuses
fuses_at accepts bank image nv fuses job.Bad = fuses
fuses_at accepts bank image nv fuses (job.Job kind digest) = fuses_from accepts bank image nv fuses kind digest (judge_area (source_of kind) bank image fuses accepts)

-- The fuses once the job that is open was resumed or given up.
abbrev pub fuses_resumed : Acceptance → Bank → List ℕ → List ℕ → FusesState → FusesState
fuses_resumed accepts bank image nv fuses = fuses_at accepts bank image nv fuses (open_job nv bank)

-- ---- the laws
-- what work on a bank goes by: the store says these fuses, of profile 2, with a valid layout, and both devices have their sizes
pub record CanWork (which : Bank) (fuses : FusesState) (story : Story) : Type 0 where
  pub provisioned : fuses_of (store story) ≡ Ok fuses
  pub two : fuses.profile ≡ Two
  pub layout : IsValidLayout (layout_of fuses.provision which) (length (mine which story))
  pub size : IsBankSize (length (mine which story))
  pub bytes : AreBytes (mine which story)
  pub store_size : length (store story) ≡ 32768

-- the bank holds this, its log has nothing open, the store says these fuses, and the other bank is as before
pub record IsWorked (which : Bank) (image : List ℕ) (fuses : FusesState) (old new : Story) : Type 0 where
  pub holds : mine which new ≡ image
  pub opened : open_job (store new) which ≡ job.None
  pub says : fuses_of (store new) ≡ Ok fuses
  pub other : mine (other_bank which) new ≡ mine (other_bank which) old

-- the bank is trusted, by this manifest
abbrev pub IsTrustedBy : Acceptance → Bank → Manifest → Story → Type 0
IsTrustedBy accepts which manifest story = (t : IsTrusted (mine which story) (store story) which accepts) × (t.manifest ≡ manifest)

-- So a bank is left where the job that is open is resumed or given up.
abbrev pub ResumesWhole : Type 0
ResumesWhole = (notes : JobNotes) (accepts : Acceptance) (which : Bank) (fuses : FusesState) (story : Story) → CanWork which fuses story
    → IsWorked which (image_resumed accepts which (mine which story) (store story) fuses) (fuses_resumed accepts which (mine which story) (store story) fuses) story
    (after (resumed notes accepts which fuses story) story)

-- So where an active job is begun and done at once, from a good capsule in its source area, whether the log takes it or is spent;
-- and the bank is trusted then.
abbrev pub RebuildsWhole : Type 0
RebuildsWhole = (accepts : Acceptance) (which : Bank) (kind : JobKind) (fuses : FusesState) (capsule : CapsuleState) (that : What) (story : Story) → CanWork which fuses story
    → open_job (store story) which ≡ job.None → IsKind kind → ¬ (kind ≡ RecoveryFromStaging) → judged_source accepts which fuses kind story ≡ Ok capsule
    → IsWorked which (active_rebuilt kind (mine which story) capsule (layout_of fuses.provision which)) fuses story (after (with_job which kind fuses capsule that story) story)
    × IsTrustedBy accepts which capsule.manifest (after (with_job which kind fuses capsule that story) story)

-- And so where a recovery job is, in a log that isn't spent.
abbrev pub CopiesWhole : Type 0
CopiesWhole = (given_up : What) (told : ℕ → What) (accepts : Acceptance) (which : Bank) (fuses : FusesState) (capsule : CapsuleState) (story : Story) → CanWork which fuses story
    → open_job (store story) which ≡ job.None → is_spent (store story) which ≡ false → judged_staging accepts which fuses story ≡ Ok capsule
    → IsWorked which (recovery_rebuilt (mine which story) (layout_of fuses.provision which).staging_at capsule.length (layout_of fuses.provision which)) (raised fuses which capsule.manifest.svn) story
    (after (recovery_job given_up told accepts which fuses capsule story) story)
