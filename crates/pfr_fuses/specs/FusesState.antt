-- The provision and the fuses as they are kept.
use Rattle.std.specs.Prelude.{ℕ, zero, suc, if◌then◌else◌, List, replicate}
use Rattle.pfr_flash.specs.FuseRow.{is_cleared}
use Rattle.pfr_flash.specs.declared.names.Bank.{Bank}
use Rattle.pfr_flash.specs.declared.names.Bank.TheVariants.{Bmc, Pch}
use Rattle.pfr_flash.specs.declared.names.ContentType.{ContentType}
use Rattle.pfr_flash.specs.declared.names.ContentType.TheVariants.{PchManifest, PchCapsule, BmcManifest, BmcCapsule}
use Rattle.pfr_fuses.specs.declared.profile.Profile.{Profile}
use Rattle.pfr_fuses.specs.declared.root_slot.RootSlot.{RootSlot}

pub record FusesState : Type 0 where
  pub provision : RootSlot
  pub profile : Profile
  -- the floors' fuses, 16 bytes each
  pub bmc_floor : List ℕ
  pub pch_floor : List ℕ
  -- the cancelled keys of each signing type, 32 bytes each
  pub pch_manifest : List ℕ
  pub pch_capsule : List ℕ
  pub bmc_manifest : List ℕ
  pub bmc_capsule : List ℕ

abbrev pub floor_row : FusesState → Bank → List ℕ
floor_row fuses Bmc = fuses.bmc_floor
floor_row fuses Pch = fuses.pch_floor

-- A type that no key can be cancelled for has a row without cancellations.
abbrev pub row_of : FusesState → ContentType → List ℕ
row_of fuses PchManifest = fuses.pch_manifest
row_of fuses PchCapsule = fuses.pch_capsule
row_of fuses BmcManifest = fuses.bmc_manifest
row_of fuses BmcCapsule = fuses.bmc_capsule
row_of fuses type = replicate 32 255

-- one plus the highest cleared bit's number among the first so many, or 0
unfoldable pub floor_in : ℕ → List ℕ → ℕ
floor_in zero row = 0
floor_in (suc k) row = if is_cleared row k then suc k else floor_in k row

abbrev pub floor_of : FusesState → Bank → ℕ
floor_of fuses bank = floor_in 128 (floor_row fuses bank)
