-- What is found of a bank and its images, by what its flash and the store hold.
use Rattle.std.specs.Prelude.{◌⊎◌, Some, None, ◌≡◌, ◌↔◌, ℕ, List, length, Bool, false, IsTrue, Result, Ok, Err}
use Rattle.pfr_flash.specs.Bytes.{bytes_at}
use Rattle.pfr_flash.specs.Layout.{judge_layout}
use Rattle.pfr_flash.specs.declared.layout.LayoutRule.{LayoutRule}
use Rattle.pfr_flash.specs.FlashState.{FlashState}
use Rattle.pfr_flash.specs.Reading.{EndsAt}
use Rattle.pfr_flash.specs.declared.flash.FlashFail.{FlashFail}
use Rattle.pfr_flash.specs.declared.names.Bank.{Bank}
use Rattle.pfr_engine.specs.Acceptance.{Acceptance}
use Rattle.pfr_chain.specs.declared.fail.ChainFail.TheVariants.{ShortBlock}
use Rattle.pfr_manifest.specs.declared.manifest.Manifest.{Manifest}
use Rattle.pfr_fuses.specs.FusesState.{FusesState, floor_of}
use Rattle.pfr_fuses.specs.FusesOf.{fuses_of}
use Rattle.pfr_fuses.specs.RootSlot.{layout_of}
use Rattle.pfr_fuses.specs.declared.fuse_fail.FuseFail.{FuseFail}
use Rattle.pfr_fuses.specs.declared.fuse_fail.FuseFail.TheVariants as fuse
use Rattle.pfr_capsule.specs.CapsuleState.{CapsuleState}
use Rattle.pfr_capsule.specs.Good.{IsGood}
use Rattle.pfr_capsule.specs.declared.fail.CapsuleFail.{CapsuleFail}
use Rattle.pfr_capsule.specs.declared.fail.CapsuleFail.TheVariants as capsule
use Rattle.pfr_auth.specs.Areas.{place_of, judge_area}
use Rattle.pfr_auth.specs.Judge.{judge_active}
use Rattle.pfr_auth.specs.Trusted.{IsTrusted}
use Rattle.pfr_auth.specs.declared.areas.Area.{Area}
use Rattle.pfr_auth.specs.declared.areas.Area.TheVariants.{Recovery, Staging}
use Rattle.pfr_auth.specs.declared.fail.ActiveFail.{ActiveFail}
use Rattle.pfr_auth.specs.declared.fail.ActiveFail.TheVariants as active
use Rattle.pfr_jobs.specs.Log.{open_job}
use Rattle.pfr_jobs.specs.declared.job.OpenJob.{OpenJob}
use Rattle.pfr_jobs.specs.declared.job.OpenJob.TheVariants as job
use Rattle.pfr_report.specs.declared.verdict.BankVerdict.{BankVerdict}
use Rattle.pfr_report.specs.declared.verdict.Standing.{Standing}
use Rattle.pfr_report.specs.declared.verdict.Standing.TheVariants.{Unprovisioned, SlotsSpent, LayoutBad, Ready}
use Rattle.pfr_story.specs.UpdatePlans.{spell_same}

-- the security version number of what is judged well
abbrev pub svn_of_image : Result Manifest ActiveFail → Result ℕ ActiveFail
svn_of_image (Ok manifest) = Ok manifest.svn
svn_of_image (Err cause) = Err cause

abbrev pub svn_of_capsule : Result CapsuleState CapsuleFail → Result ℕ CapsuleFail
svn_of_capsule (Ok found) = Ok found.manifest.svn
svn_of_capsule (Err cause) = Err cause

-- an image and a capsule that are judged well have the same manifest
abbrev pub share_manifest : Result Manifest ActiveFail → Result CapsuleState CapsuleFail → Bool
share_manifest (Ok manifest) (Ok found) = spell_same manifest found.manifest
share_manifest image found = false

-- of a bank that isn't ready only that is told
abbrev pub untold : Standing → BankVerdict
untold standing = record {
  standing = standing;
  floor = 0;
  job = job.None;
  active = Err (active.Chain ShortBlock);
  recovery = Err (capsule.Chain ShortBlock);
  staging = Err (capsule.Chain ShortBlock);
  same_manifest = false;
}

-- of one that is ready, what is judged of its images
abbrev pub told : ℕ → Result Manifest ActiveFail → Result CapsuleState CapsuleFail → Result CapsuleState CapsuleFail → BankVerdict
told floor image recovery staging = record {
  standing = Ready;
  floor = floor;
  job = job.None;
  active = svn_of_image image;
  recovery = svn_of_capsule recovery;
  staging = svn_of_capsule staging;
  same_manifest = share_manifest image staging;
}

abbrev pub ready : Bank → List ℕ → FusesState → Acceptance → BankVerdict
ready bank image fuses accepts =
    told (floor_of fuses bank) (judge_active image bank fuses accepts) (judge_area Recovery bank image fuses accepts) (judge_area Staging bank image fuses accepts)

-- a bank whose layout breaks a rule isn't ready
abbrev pub ready_if : Result (Unit {0}) LayoutRule → BankVerdict → BankVerdict
ready_if (Ok valid) verdict = verdict
ready_if (Err rule) verdict = untold (LayoutBad rule)

-- a bank by the provision and the fuses, or by why there are none
abbrev pub verdict_with : Bank → List ℕ → Acceptance → Result FusesState FuseFail → BankVerdict
verdict_with bank image accepts (Ok fuses) = ready_if (judge_layout (layout_of fuses.provision bank) (length image)) (ready bank image fuses accepts)
verdict_with bank image accepts (Err fuse.SlotsSpent) = untold SlotsSpent
verdict_with bank image accepts (Err cause) = untold Unprovisioned

-- a bank's images, by what the store holds
unfoldable pub images_of : Bank → List ℕ → List ℕ → Acceptance → BankVerdict
images_of bank image nv accepts = verdict_with bank image accepts (fuses_of nv)

-- of a bank that is ready, what its log has open is told too
abbrev pub job_told : Standing → OpenJob → BankVerdict → BankVerdict
job_told Ready opened verdict = record verdict { job = opened }
job_told standing opened verdict = verdict

-- The verdict of a bank, by its image and what the store holds.
abbrev pub verdict_of : Bank → List ℕ → List ℕ → Acceptance → BankVerdict
verdict_of bank image nv accepts = job_told (images_of bank image nv accepts).standing (open_job nv bank) (images_of bank image nv accepts)

-- ---- what a verdict says

-- the active image is trusted, and has this security version number
pub record HasTrusted (svn : ℕ) (bank : Bank) (image nv : List ℕ) (accepts : Acceptance) : Type 0 where
  pub trusted : IsTrusted image nv bank accepts
  pub numbered : trusted.manifest.svn ≡ svn

-- a good capsule stands in an area, and has this security version number
pub record HasGood (area : Area) (svn : ℕ) (bank : Bank) (image nv : List ℕ) (accepts : Acceptance) : Type 0 where
  pub fuses : FusesState
  pub provisioned : fuses_of nv ≡ Ok fuses
  pub good : IsGood image (place_of (layout_of fuses.provision bank) area) (layout_of fuses.provision bank).area_len nv bank accepts
  pub numbered : good.capsule.manifest.svn ≡ svn

-- the active image is trusted, the staged capsule is good, and the same bytes stand where their manifests do
pub record HasSameManifest (bank : Bank) (image nv : List ℕ) (accepts : Acceptance) : Type 0 where
  pub trusted : IsTrusted image nv bank accepts
  pub fuses : FusesState
  pub provisioned : fuses_of nv ≡ Ok fuses
  pub staged : IsGood image (layout_of fuses.provision bank).staging_at (layout_of fuses.provision bank).area_len nv bank accepts
  pub same : bytes_at image trusted.chain.content_at trusted.chain.length ≡ bytes_at image staged.parts.inner.content_at staged.parts.inner.length

-- A verdict tells exactly what is so.
pub record IsVerdict (verdict : BankVerdict) (bank : Bank) (image nv : List ℕ) (accepts : Acceptance) : Type 0 where
  pub active : (svn : ℕ) → ((verdict.active ≡ Ok svn) ↔ HasTrusted svn bank image nv accepts)
  pub recovery : (svn : ℕ) → ((verdict.recovery ≡ Ok svn) ↔ HasGood Recovery svn bank image nv accepts)
  pub staging : (svn : ℕ) → ((verdict.staging ≡ Ok svn) ↔ HasGood Staging svn bank image nv accepts)
  pub same_manifest : IsTrue verdict.same_manifest ↔ HasSameManifest bank image nv accepts
  pub job : verdict.standing ≡ Ready → verdict.job ≡ open_job nv bank

-- what a verdict does to both devices: it reads, and where it fails one read of one device did, and no other
abbrev pub EndsEither : {A : Type 0} → Result A FlashFail → (bank bank_after nv nv_after : FlashState) → Type 0
EndsEither (Ok x) bank bank_after nv nv_after = EndsAt None bank bank_after × EndsAt None nv nv_after
EndsEither (Err fail) bank bank_after nv nv_after =
    (EndsAt (Some fail) nv nv_after × (bank_after ≡ bank)) ⊎ (EndsAt None nv nv_after × EndsAt (Some fail) bank bank_after)
