-- When a bank can be recovered.
use Rattle.std.specs.Prelude.{◌≡◌, ℕ, ◌⊎◌, List, Ok}
use Rattle.pfr_flash.specs.declared.names.Bank.{Bank}
use Rattle.pfr_engine.specs.Acceptance.{Acceptance}
use Rattle.pfr_fuses.specs.FusesState.{FusesState}
use Rattle.pfr_fuses.specs.FusesOf.{fuses_of}
use Rattle.pfr_fuses.specs.RootSlot.{layout_of}
use Rattle.pfr_capsule.specs.Good.{IsGood}
use Rattle.pfr_jobs.specs.Log.{open_job}
use Rattle.pfr_jobs.specs.declared.job.JobKind.TheVariants.{RecoveryFromStaging}
use Rattle.pfr_jobs.specs.declared.job.OpenJob.TheVariants.{Job}

-- a good capsule stands in the bank's recovery area
pub record HasGoodRecovery (bank : Bank) (image nv : List ℕ) (accepts : Acceptance) : Type 0 where
  pub fuses : FusesState
  pub provisioned : fuses_of nv ≡ Ok fuses
  pub good : IsGood image (layout_of fuses.provision bank).recovery_at (layout_of fuses.provision bank).area_len nv bank accepts

-- the recovery area is being replaced: by an open job from the staging area, where the capsule of the job stands good
pub record HasRecoveryJob (bank : Bank) (image nv : List ℕ) (accepts : Acceptance) : Type 0 where
  pub fuses : FusesState
  pub provisioned : fuses_of nv ≡ Ok fuses
  pub good : IsGood image (layout_of fuses.provision bank).staging_at (layout_of fuses.provision bank).area_len nv bank accepts
  pub opened : open_job nv bank ≡ Job RecoveryFromStaging good.capsule.digest

-- The bank can be recovered, by what it and the store hold.
abbrev pub IsRecoverable : Bank → List ℕ → List ℕ → Acceptance → Type 0
IsRecoverable bank image nv accepts = HasGoodRecovery bank image nv accepts ⊎ HasRecoveryJob bank image nv accepts
