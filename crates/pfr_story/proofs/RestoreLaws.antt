-- What is judged well in an area of a bank is good.
use Rattle.std.proofs.Common.{◌≡◌, refl, ℕ, Bool, List, length, Ok}
use Rattle.pfr_flash.specs.Bytes.{AreBytes}
use Rattle.pfr_flash.specs.Layout.{IsBankSize, IsValidLayout}
use Rattle.pfr_flash.specs.declared.layout.Layout.{Layout}
use Rattle.pfr_flash.specs.declared.names.Bank.{Bank}
use Rattle.pfr_engine.specs.Acceptance.{Acceptance}
use Rattle.pfr_fuses.specs.FusesState.{FusesState}
use Rattle.pfr_fuses.specs.FusesOf.{fuses_of}
use Rattle.pfr_fuses.specs.RootSlot.{layout_of}
use Rattle.pfr_capsule.specs.CapsuleState.{CapsuleState}
use Rattle.pfr_capsule.specs.Good.{IsGood, StandForBank}
use Rattle.pfr_capsule.proofs.GoodLaw.{judged_good}
use Rattle.pfr_jobs.specs.declared.job.JobKind.TheVariants.{ActiveFromRecovery, ActiveFromStaging, RecoveryFromStaging}
use Rattle.pfr_story.specs.Story.{Story}
use Rattle.pfr_story.specs.Plans.{mine, store, judged_staging, judged_recovery}

-- restores and updates are jobs on the active image
pub not_recovery : (level : ℕ) → ¬ (ActiveFromRecovery level ≡ RecoveryFromStaging)
not_recovery level e = absurd cc

pub not_staging : (dynamic : Bool) → ¬ (ActiveFromStaging dynamic ≡ RecoveryFromStaging)
not_staging dynamic e = absurd cc

-- what a restore is made from
pub record RestoresFrom (accepts : Acceptance) (b : Bank) (fuses : FusesState) (capsule : CapsuleState) (story : Story) : Type 0 where
  pub provisioned : fuses_of (store story) ≡ Ok fuses
  pub layout : IsValidLayout (layout_of fuses.provision b) (length (mine b story))
  pub size : IsBankSize (length (mine b story))
  pub bytes : AreBytes (mine b story)
  pub judged : judged_recovery accepts b fuses story ≡ Ok capsule

-- fuses that a store says stand for a bank
pub stand_for : (nv : List ℕ) (fuses : FusesState) (b : Bank) → fuses_of nv ≡ Ok fuses → StandForBank nv fuses b
stand_for nv fuses b p = record { all = fuses; provisioned = p; provision = refl; floor = refl; capsule_row = refl; manifest_row = refl }

-- what is judged well in the recovery area is good
pub found_good : (accepts : Acceptance) (b : Bank) (fuses : FusesState) (capsule : CapsuleState) (story : Story) → fuses_of (store story) ≡ Ok fuses
    → IsValidLayout (layout_of fuses.provision b) (length (mine b story)) → AreBytes (mine b story) → judged_recovery accepts b fuses story ≡ Ok capsule
    → (g : IsGood (mine b story) (layout_of fuses.provision b).recovery_at (layout_of fuses.provision b).area_len (store story) b accepts) × (g.capsule ≡ capsule)
found_good accepts b fuses capsule story provisioned layout bytes judged =
    let l : Layout = layout_of fuses.provision b in
    judged_good (mine b story) (store story) l.recovery_at l.area_len b accepts fuses capsule (stand_for (store story) fuses b provisioned) layout bytes judged

-- and so is what is judged well in the staging area
pub found_staged : (accepts : Acceptance) (b : Bank) (fuses : FusesState) (capsule : CapsuleState) (story : Story) → fuses_of (store story) ≡ Ok fuses
    → IsValidLayout (layout_of fuses.provision b) (length (mine b story)) → AreBytes (mine b story) → judged_staging accepts b fuses story ≡ Ok capsule
    → (g : IsGood (mine b story) (layout_of fuses.provision b).staging_at (layout_of fuses.provision b).area_len (store story) b accepts) × (g.capsule ≡ capsule)
found_staged accepts b fuses capsule story provisioned layout bytes judged =
    let l : Layout = layout_of fuses.provision b in
    judged_good (mine b story) (store story) l.staging_at l.area_len b accepts fuses capsule (stand_for (store story) fuses b provisioned) layout bytes judged
