-- What the contents say where a bank is released, locked or called untrusted.
use Rattle.std.specs.Prelude.{◌≡◌, ◌≢◌, ℕ, List, length, Ok, Err}
use Rattle.pfr_flash.specs.Layout.{IsValidLayout, judge_layout}
use Rattle.pfr_flash.specs.declared.layout.LayoutRule.{LayoutRule}
use Rattle.pfr_flash.specs.declared.names.Bank.{Bank}
use Rattle.pfr_engine.specs.Acceptance.{Acceptance}
use Rattle.pfr_fuses.specs.FusesState.{FusesState}
use Rattle.pfr_fuses.specs.FusesOf.{fuses_of}
use Rattle.pfr_fuses.specs.RootSlot.{layout_of}
use Rattle.pfr_fuses.specs.Slots.{IsUnset, HasBlank}
use Rattle.pfr_capsule.specs.Good.{IsGood}
use Rattle.pfr_capsule.specs.declared.fail.CapsuleFail.{CapsuleFail}
use Rattle.pfr_auth.specs.Areas.{judge_area, place_of as area_at}
use Rattle.pfr_auth.specs.Judge.{judge_active}
use Rattle.pfr_auth.specs.Trusted.{IsTrusted}
use Rattle.pfr_auth.specs.declared.areas.Area.TheVariants.{Recovery, Staging}
use Rattle.pfr_auth.specs.declared.fail.ActiveFail.{ActiveFail}
use Rattle.pfr_jobs.specs.Log.{open_job}
use Rattle.pfr_jobs.specs.declared.job.JobKind.{JobKind}
use Rattle.pfr_jobs.specs.declared.job.OpenJob.TheVariants as job
use Rattle.pfr_recoverable.specs.Recoverable.{HasGoodRecovery}
use Rattle.pfr_report.specs.declared.note.LockWhy.{LockWhy}
use Rattle.pfr_report.specs.declared.note.LockWhy.TheVariants as why
use Rattle.pfr_story.specs.JobPlans.{source_of}

-- an image that is trusted, and has this security version number
abbrev pub IsTrustedWith : ℕ → List ℕ → List ℕ → Bank → Acceptance → Type 0
IsTrustedWith svn image nv which accepts = (t : IsTrusted image nv which accepts) × (t.manifest.svn ≡ svn)

-- the store provisions the bank with a layout that breaks this rule first
pub record IsMisplaced (rule : LayoutRule) (which : Bank) (image nv : List ℕ) : Type 0 where
  pub fuses : FusesState
  pub provisioned : fuses_of nv ≡ Ok fuses
  pub broken : judge_layout (layout_of fuses.provision which) (length image) ≡ Err rule

-- the store provisions the bank with a valid layout, and its active image isn't trusted
pub record IsNotTrusted (which : Bank) (image nv : List ℕ) (accepts : Acceptance) : Type 0 where
  pub fuses : FusesState
  pub provisioned : fuses_of nv ≡ Ok fuses
  pub layout : IsValidLayout (layout_of fuses.provision which) (length image)
  pub distrusted : ¬ IsTrusted image nv which accepts

-- its active image isn't trusted, and a good capsule stands in its recovery area: it is to be restored
abbrev pub IsRestorable : Bank → List ℕ → List ℕ → Acceptance → Type 0
IsRestorable which image nv accepts = IsNotTrusted which image nv accepts × HasGoodRecovery which image nv accepts

-- the check of the active image, by a valid layout, names this cause
pub record IsAgainst (cause : ActiveFail) (which : Bank) (image nv : List ℕ) (accepts : Acceptance) : Type 0 where
  pub fuses : FusesState
  pub provisioned : fuses_of nv ≡ Ok fuses
  pub layout : IsValidLayout (layout_of fuses.provision which) (length image)
  pub judged : judge_active image which fuses accepts ≡ Err cause

-- this is the first cause against what stands in the staging area
pub record HasBadStaging (cause : CapsuleFail) (which : Bank) (image nv : List ℕ) (accepts : Acceptance) : Type 0 where
  pub fuses : FusesState
  pub provisioned : fuses_of nv ≡ Ok fuses
  pub judged : judge_area Staging which image fuses accepts ≡ Err cause

-- a good capsule stands in the bank's staging area
pub record HasGoodStaging (which : Bank) (image nv : List ℕ) (accepts : Acceptance) : Type 0 where
  pub fuses : FusesState
  pub provisioned : fuses_of nv ≡ Ok fuses
  pub good : IsGood image (layout_of fuses.provision which).staging_at (layout_of fuses.provision which).area_len nv which accepts

-- this is the first cause against what stands in the recovery area
pub record HasBadRecovery (cause : CapsuleFail) (which : Bank) (image nv : List ℕ) (accepts : Acceptance) : Type 0 where
  pub fuses : FusesState
  pub provisioned : fuses_of nv ≡ Ok fuses
  pub judged : judge_area Recovery which image fuses accepts ≡ Err cause

-- the capsule that the open job works on stands good in the area that it is copied from
pub record IsResumable (kind : JobKind) (which : Bank) (image nv : List ℕ) (accepts : Acceptance) : Type 0 where
  pub fuses : FusesState
  pub provisioned : fuses_of nv ≡ Ok fuses
  pub layout : IsValidLayout (layout_of fuses.provision which) (length image)
  pub good : IsGood image (area_at (layout_of fuses.provision which) (source_of kind)) (layout_of fuses.provision which).area_len nv which accepts
  pub opened : open_job nv which ≡ job.Job kind good.capsule.digest

-- a bank that can be checked has a job open in its log
pub record HasOpenJob (which : Bank) (image nv : List ℕ) : Type 0 where
  pub fuses : FusesState
  pub provisioned : fuses_of nv ≡ Ok fuses
  pub layout : IsValidLayout (layout_of fuses.provision which) (length image)
  pub opened : open_job nv which ≢ job.None

-- one that can't be resumed
pub record IsGivenUp (which : Bank) (image nv : List ℕ) (accepts : Acceptance) : Type 0 where
  pub opened : HasOpenJob which image nv
  pub never : (kind : JobKind) → ¬ IsResumable kind which image nv accepts

-- when the contents call for a lock, and for which; locks for faults and of expired watches aren't among these
abbrev pub IsDue : LockWhy → Bank → List ℕ → List ℕ → Acceptance → Type 0
IsDue why.Unprovisioned which image nv accepts = IsUnset nv × HasBlank nv
IsDue why.SlotsSpent which image nv accepts = IsUnset nv × ¬ HasBlank nv
IsDue (why.Layout rule) which image nv accepts = IsMisplaced rule which image nv
IsDue (why.NoGoodImage active recovery) which image nv accepts = IsAgainst active which image nv accepts × HasBadRecovery recovery which image nv accepts
IsDue why.WatchdogSpent which image nv accepts = ⊥
IsDue (why.NoRecovery recovery) which image nv accepts = ⊥
IsDue why.FlashFault which image nv accepts = ⊥
IsDue why.StoreFault which image nv accepts = ⊥
