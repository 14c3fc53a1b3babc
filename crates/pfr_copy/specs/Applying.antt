-- What must hold where a capsule is applied to a bank, or copied to its recovery area.
use Rattle.std.specs.Prelude.{◌≡◌, ℕ, ◌*◌, ◌⊎◌, Bool, if◌then◌else◌, List, [], length, All}
use Rattle.pfr_flash.specs.Layout.{IsValidLayout}
use Rattle.pfr_flash.specs.Operation.{Operation}
use Rattle.pfr_flash.specs.declared.layout.Layout.{Layout}
use Rattle.pfr_manifest.specs.Regions.{IsRegion}
use Rattle.pfr_capsule.specs.CapsuleState.{CapsuleState}
use Rattle.pfr_capsule.specs.Lying.{LiesAt}
use Rattle.pfr_capsule.specs.Pages.{HasIndex}
use Rattle.pfr_jobs.specs.declared.job.JobKind.{JobKind}
use Rattle.pfr_jobs.specs.declared.job.JobKind.TheVariants.{ActiveFromRecovery, ActiveFromStaging, RecoveryFromStaging}
use Rattle.pfr_strokes.specs.Strokes.{strokes}

-- a job on the active image: a restore of some level, or an update
abbrev pub IsActive : JobKind → Type 0
IsActive (ActiveFromRecovery level) = Unit {0}
IsActive (ActiveFromStaging dynamic) = Unit {0}
IsActive RecoveryFromStaging = ⊥

-- a capsule lies in the recovery or in the staging area
abbrev pub LiesInArea : List ℕ → Layout → CapsuleState → Type 0
LiesInArea image layout capsule = LiesAt image layout.recovery_at layout.area_len capsule ⊎ LiesAt image layout.staging_at layout.area_len capsule

-- A capsule that was judged with a bank's layout lies in one of the bank's areas, and its bytes are as they were judged.
pub record CanApply (image : List ℕ) (layout : Layout) (capsule : CapsuleState) : Type 0 where
  pub valid : IsValidLayout layout (length image)
  pub lies : LiesInArea image layout capsule
  pub index : HasIndex image capsule.pages
  -- its maps have the bank's pages, and its regions lie in the bank
  pub bits : 4096 * capsule.pages.bits ≡ length image
  pub regions : All (IsRegion layout (length image)) capsule.manifest.regions

-- A capsule that was judged in a bank's staging area lies there, and is to be copied to the recovery area.
pub record CanCopyOver (image : List ℕ) (layout : Layout) (capsule : CapsuleState) : Type 0 where
  pub valid : IsValidLayout layout (length image)
  pub lies : LiesAt image layout.staging_at layout.area_len capsule

-- what is done for a page: its strokes where it passes a test, else nothing
abbrev pub page_plan : (ℕ → List ℕ) → (ℕ → Bool) → ℕ → List Operation
page_plan content test page = if test page then strokes page (content page) else []
