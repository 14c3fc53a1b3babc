-- How a verdict comes to be.
use Rattle.std.specs.Prelude.{◌↔◌, ◌≡◌, ℕ, List, Bool, IsTrue, Result, Ok, IfOk}
use Rattle.pfr_flash.specs.declared.names.Bank.{Bank}
use Rattle.pfr_engine.specs.Acceptance.{Acceptance}
use Rattle.pfr_manifest.specs.declared.manifest.Manifest.{Manifest}
use Rattle.pfr_fuses.specs.FusesState.{FusesState}
use Rattle.pfr_fuses.specs.FusesOf.{fuses_of}
use Rattle.pfr_fuses.specs.RootSlot.{layout_of}
use Rattle.pfr_fuses.specs.declared.fuse_fail.FuseFail.{FuseFail}
use Rattle.pfr_fuses.specs.declared.fuse_fail.FuseFail.TheVariants as fuse
use Rattle.pfr_capsule.specs.CapsuleState.{CapsuleState}
use Rattle.pfr_capsule.specs.Good.{IsGood}
use Rattle.pfr_capsule.specs.declared.fail.CapsuleFail.{CapsuleFail}
use Rattle.pfr_auth.specs.Areas.{place_of}
use Rattle.pfr_auth.specs.Trusted.{IsTrusted}
use Rattle.pfr_auth.specs.declared.areas.Area.{Area}
use Rattle.pfr_auth.specs.declared.areas.Area.TheVariants.{Recovery, Staging}
use Rattle.pfr_auth.specs.declared.fail.ActiveFail.{ActiveFail}
use Rattle.pfr_report.specs.declared.verdict.BankVerdict.{BankVerdict}
use Rattle.pfr_report.specs.declared.verdict.Standing.{Standing}
use Rattle.pfr_report.specs.declared.verdict.Standing.TheVariants.{Unprovisioned, SlotsSpent}
use Rattle.pfr_machine.specs.Verdicts.{told, HasTrusted, HasGood, HasSameManifest}

-- how every bank stands where there are no fuses
abbrev pub standing_without : FuseFail → Standing
standing_without fuse.SlotsSpent = SlotsSpent
standing_without cause = Unprovisioned

-- of a bank that is ready, with this answer to whether both have one manifest
abbrev pub tells : ℕ → Result Manifest ActiveFail → Result CapsuleState CapsuleFail → Result CapsuleState CapsuleFail → Bool → BankVerdict
tells floor image recovery staging same = record (told floor image recovery staging) { same_manifest = same }

-- both were judged well, and have one manifest
abbrev pub AreOne : Result Manifest ActiveFail → Result CapsuleState CapsuleFail → Type 0
AreOne (Ok manifest) (Ok found) = found.manifest ≡ manifest
AreOne image found = ⊥

-- the capsule was judged well, and has this manifest
abbrev pub Brings : Manifest → Result CapsuleState CapsuleFail → Type 0
Brings manifest (Ok found) = found.manifest ≡ manifest
Brings manifest found = ⊥

-- what is judged well is trusted, by this manifest, with each store that the fuses stand for
abbrev pub IsBorneOut : Bank → List ℕ → FusesState → Acceptance → Manifest → Type 0
IsBorneOut bank image fuses accepts manifest =
    (nv : List ℕ) → fuses_of nv ≡ Ok fuses → (t : IsTrusted image nv bank accepts) × (t.manifest ≡ manifest)

-- the same of a capsule in an area
abbrev pub IsGoodIn : Area → Bank → List ℕ → FusesState → Acceptance → CapsuleState → Type 0
IsGoodIn area bank image fuses accepts found =
    (nv : List ℕ) → fuses_of nv ≡ Ok fuses →
    (g : IsGood image (place_of (layout_of fuses.provision bank) area) (layout_of fuses.provision bank).area_len nv bank accepts) × (g.capsule ≡ found)

-- what a verdict tells is so
pub record IsSound (verdict : BankVerdict) (bank : Bank) (image nv : List ℕ) (accepts : Acceptance) : Type 0 where
  pub active : IfOk verdict.active (λ svn. HasTrusted svn bank image nv accepts)
  pub recovery : IfOk verdict.recovery (λ svn. HasGood Recovery svn bank image nv accepts)
  pub staging : IfOk verdict.staging (λ svn. HasGood Staging svn bank image nv accepts)
  pub same_manifest : IsTrue verdict.same_manifest → HasSameManifest bank image nv accepts

-- and it tells of the images exactly what is so
pub record TellsImages (verdict : BankVerdict) (bank : Bank) (image nv : List ℕ) (accepts : Acceptance) : Type 0 where
  pub active : (svn : ℕ) → ((verdict.active ≡ Ok svn) ↔ HasTrusted svn bank image nv accepts)
  pub recovery : (svn : ℕ) → ((verdict.recovery ≡ Ok svn) ↔ HasGood Recovery svn bank image nv accepts)
  pub staging : (svn : ℕ) → ((verdict.staging ≡ Ok svn) ↔ HasGood Staging svn bank image nv accepts)
  pub same_manifest : IsTrue verdict.same_manifest ↔ HasSameManifest bank image nv accepts
