-- The provision and the fuses that a store's bytes say.
use Rattle.std.specs.Prelude.{◌≡◌, ◌↔◌, ℕ, ◌<◌, List, Result, Ok}
use Rattle.pfr_flash.specs.Bytes.{bytes_at, continued}
use Rattle.pfr_flash.specs.FuseRow.{IsCleared}
use Rattle.pfr_flash.specs.Judging.{◌>>=◌}
use Rattle.pfr_flash.specs.declared.names.Bank.{Bank}
use Rattle.pfr_flash.specs.declared.names.Bank.TheVariants.{Bmc, Pch}
use Rattle.pfr_flash.specs.declared.names.ContentType.{ContentType}
use Rattle.pfr_flash.specs.declared.names.ContentType.TheVariants.{PchManifest, PchCapsule, BmcManifest, BmcCapsule}
use Rattle.pfr_fuses.specs.RootSlot.{provision_in}
use Rattle.pfr_fuses.specs.Slots.{IsProvisionedBy, IsUnset, HasBlank, slot_at, provisioned_slot}
use Rattle.pfr_fuses.specs.FuseMap.{IsFloorBit, IsCancelled, profile_of, floor_at, floor_width, row_at, row_width}
use Rattle.pfr_fuses.specs.FusesState.{FusesState, floor_row, row_of}
use Rattle.pfr_fuses.specs.declared.fuse_fail.FuseFail.{FuseFail}
use Rattle.pfr_fuses.specs.declared.fuse_fail.FuseFail.TheVariants.{NotProvisioned, SlotsSpent, Flash}

-- The fuses of a floor and of a row as they are kept: behind those that the store has, none is cleared.
unfoldable pub floor_fuses : List ℕ → Bank → List ℕ
floor_fuses nv bank = continued (bytes_at nv (floor_at (profile_of nv) bank) (floor_width (profile_of nv))) 16

unfoldable pub row_fuses : List ℕ → ContentType → List ℕ
row_fuses nv type = continued (bytes_at nv (row_at (profile_of nv) type) (row_width (profile_of nv))) 32

-- what is kept of a store that is provisioned by a slot
abbrev pub fuses_with : List ℕ → List ℕ → FusesState
fuses_with nv slot = record {
  provision = provision_in slot;
  profile = profile_of nv;
  bmc_floor = floor_fuses nv Bmc;
  pch_floor = floor_fuses nv Pch;
  pch_manifest = row_fuses nv PchManifest;
  pch_capsule = row_fuses nv PchCapsule;
  bmc_manifest = row_fuses nv BmcManifest;
  bmc_capsule = row_fuses nv BmcCapsule;
}

-- the provision and the fuses of a store, or why it has none
unfoldable pub fuses_of : List ℕ → Result FusesState FuseFail
fuses_of nv = provisioned_slot nv >>= λ slot. Ok (fuses_with nv slot)

-- the kept fuses of a bank's floor are those of the store
pub record FloorStands (nv : List ℕ) (fuses : FusesState) (bank : Bank) : Type 0 where
  pub fuses_same : (k : ℕ) → k < 128 → (IsCleared (floor_row fuses bank) k ↔ IsFloorBit nv bank k)

-- the kept cancellations of a type are those of the store
pub record RowStands (nv : List ℕ) (fuses : FusesState) (type : ContentType) : Type 0 where
  pub fuses_same : (id : ℕ) → id < 256 → (IsCleared (row_of fuses type) id ↔ IsCancelled nv type id)

-- What is kept says what the store says.
pub record Stands (nv : List ℕ) (fuses : FusesState) : Type 0 where
  pub slot : ℕ
  pub provisioned : IsProvisionedBy nv slot
  pub provision : fuses.provision ≡ provision_in (slot_at nv slot)
  pub profile : fuses.profile ≡ profile_of nv
  pub floors : (bank : Bank) → FloorStands nv fuses bank
  pub rows : (type : ContentType) → RowStands nv fuses type

-- Why a call that reads the fuses is refused: the store has no provision, or the device failed, which another clause tells.
abbrev pub IsRefused : List ℕ → FuseFail → Type 0
IsRefused nv NotProvisioned = IsUnset nv × HasBlank nv
IsRefused nv SlotsSpent = IsUnset nv × ¬ HasBlank nv
IsRefused nv (Flash f) = Unit {0}
IsRefused nv cause = ⊥
