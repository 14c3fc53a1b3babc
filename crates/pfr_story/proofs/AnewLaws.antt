-- An active image that is made anew from a good capsule, by a job of either kind.
use Rattle.std.proofs.Common.{◌≡◌, ◌∙◌, sym, subst, ℕ, ◌+◌, ◌≤◌, List, length, Ok}
use Rattle.pfr_flash.specs.Bytes.{AreBytes}
use Rattle.pfr_flash.specs.Layout.{IsBankSize}
use Rattle.pfr_flash.specs.declared.names.Bank.{Bank}
use Rattle.pfr_flash.specs.declared.names.Bank.TheVariants as bank
use Rattle.pfr_engine.specs.Acceptance.{Acceptance}
use Rattle.pfr_fuses.specs.FusesState.{FusesState}
use Rattle.pfr_fuses.specs.FusesOf.{fuses_of}
use Rattle.pfr_fuses.specs.RootSlot.{layout_of}
use Rattle.pfr_capsule.specs.CapsuleState.{CapsuleState}
use Rattle.pfr_capsule.specs.Good.{IsGood}
use Rattle.pfr_auth.specs.Trusted.{IsTrusted}
use Rattle.pfr_jobs.specs.declared.job.JobKind.{JobKind}
use Rattle.pfr_rebuilt.specs.ActiveCopying.{active_rebuilt}
use Rattle.pfr_story.specs.Story.{Story}
use Rattle.pfr_story.specs.World.{World, story_of}
use Rattle.pfr_story.specs.Making.{IsMadeFrom}
use Rattle.pfr_story.specs.Plans.{mine, store}

-- what it is made from: a good capsule that lies in the bank
pub record MadeFrom (accepts : Acceptance) (b : Bank) (fuses : FusesState) (capsule : CapsuleState) (story : Story) : Type 0 where
  pub place : ℕ
  pub len : ℕ
  pub good : IsGood (mine b story) place len (store story) b accepts
  pub capsule_is : good.capsule ≡ capsule
  pub provisioned : fuses_of (store story) ≡ Ok fuses
  pub inside : place + len ≤ length (mine b story)
  pub size : IsBankSize (length (mine b story))
  pub bytes : AreBytes (mine b story)

-- the bank's image is rebuilt from what it held before, and trusted by the capsule's manifest
pub record IsAnew (accepts : Acceptance) (b : Bank) (kind : JobKind) (fuses : FusesState) (capsule : CapsuleState) (before : List ℕ) (story : Story) : Type 0 where
  pub image : mine b story ≡ active_rebuilt kind before capsule (layout_of fuses.provision b)
  pub trusted : (t : IsTrusted (mine b story) (store story) b accepts) × (t.manifest ≡ capsule.manifest)

-- and stays so while the bank and the store hold the same
pub anew_later : (accepts : Acceptance) (b : Bank) (kind : JobKind) (fuses : FusesState) (capsule : CapsuleState) (before : List ℕ) (story later : Story) → mine b later ≡ mine b story → store later ≡ store story
    → IsAnew accepts b kind fuses capsule before story → IsAnew accepts b kind fuses capsule before later
anew_later accepts b kind fuses capsule before story later same stored p = record {
  image = same ∙ p.image;
  trusted = subst (λ (nv : List ℕ). (t : IsTrusted (mine b later) nv b accepts) × (t.manifest ≡ capsule.manifest)) (sym stored)
      (subst (λ (image : List ℕ). (t : IsTrusted image (store story) b accepts) × (t.manifest ≡ capsule.manifest)) (sym same) p.trusted);
}

-- so the device holds it
pub made_so : (accepts : Acceptance) (b : Bank) (kind : JobKind) (fuses : FusesState) (capsule : CapsuleState) (before : List ℕ) (w : World) → IsAnew accepts b kind fuses capsule before (story_of w)
    → IsMadeFrom accepts b kind before capsule (layout_of fuses.provision b) w
made_so accepts bank.Bmc kind fuses capsule before w p = record { image = p.image; trusted = p.trusted }
made_so accepts bank.Pch kind fuses capsule before w p = record { image = p.image; trusted = p.trusted }
