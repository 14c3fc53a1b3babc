-- What is done to the fuses of a store, and what stays.
use Rattle.std.specs.Prelude.{◌≡◌, ◌≢◌, ◌↔◌, ℕ, ◌+◌, ◌-◌, ◌<◌, ◌⊎◌, nat_le, if◌then◌else◌, List, [], ◌∷◌, ◌++◌, length}
use Rattle.pfr_flash.specs.Operation.{Operation, Erase, Program}
use Rattle.pfr_flash.specs.FuseRow.{IsCleared, clearing, with_cleared}
use Rattle.pfr_flash.specs.Range.{IsWithin}
use Rattle.pfr_flash.specs.declared.names.Bank.{Bank}
use Rattle.pfr_flash.specs.declared.names.Bank.TheVariants.{Bmc, Pch}
use Rattle.pfr_flash.specs.declared.names.ContentType.{ContentType}
use Rattle.pfr_flash.specs.declared.names.ContentType.TheVariants.{PchManifest, PchCapsule, BmcManifest, BmcCapsule}
use Rattle.pfr_fuses.specs.Slots.{slot_at}
use Rattle.pfr_fuses.specs.FuseMap.{IsCancelled, profile_of, floor_at, row_at}
use Rattle.pfr_fuses.specs.FusesState.{FusesState, floor_row, row_of, floor_of}
use Rattle.pfr_fuses.specs.FusesOf.{FloorStands, RowStands}
use Rattle.pfr_fuses.specs.declared.profile.Profile.TheVariants.{Two}

-- A bank's floor is raised, unless it is as high already.
abbrev pub raise_plan : ℕ → Bank → ℕ → List Operation
raise_plan floor bank to = if nat_le to floor then [] else clearing (floor_at Two bank) (to - 1)

-- a key of a signing type is cancelled
abbrev pub cancellation : ContentType → ℕ → List Operation
cancellation type id = clearing (row_at Two type) id

-- the kept fuses as they lie in sector 7
abbrev pub migrated : FusesState → List ℕ
migrated fuses = fuses.bmc_floor ++ (fuses.pch_floor ++ (fuses.pch_manifest ++ (fuses.pch_capsule ++ (fuses.bmc_manifest ++ fuses.bmc_capsule))))

-- the rows of fuses that are kept have this many bytes
pub record AreRows (fuses : FusesState) : Type 0 where
  pub bmc_floor : length fuses.bmc_floor ≡ 16
  pub pch_floor : length fuses.pch_floor ≡ 16
  pub pch_manifest : length fuses.pch_manifest ≡ 32
  pub pch_capsule : length fuses.pch_capsule ≡ 32
  pub bmc_manifest : length fuses.bmc_manifest ≡ 32
  pub bmc_capsule : length fuses.bmc_capsule ≡ 32

-- The fuses are written to sector 7, and the profile gate last.
abbrev pub migration : FusesState → List Operation
migration fuses = Erase 7 ∷ Program 0x7000 (migrated fuses) ∷ Program 0xA00 (0 ∷ []) ∷ []

-- it touches no byte but those of sector 7, or the profile gate
abbrev pub IsMigrating : Operation → Type 0
IsMigrating op = IsWithin 0x7000 4096 op ⊎ IsWithin 0xA00 1 op

-- ---- what is kept afterwards
abbrev pub with_floor : FusesState → Bank → List ℕ → FusesState
with_floor fuses Bmc row = record fuses { bmc_floor = row }
with_floor fuses Pch row = record fuses { pch_floor = row }

abbrev pub with_row : FusesState → ContentType → List ℕ → FusesState
with_row fuses PchManifest row = record fuses { pch_manifest = row }
with_row fuses PchCapsule row = record fuses { pch_capsule = row }
with_row fuses BmcManifest row = record fuses { bmc_manifest = row }
with_row fuses BmcCapsule row = record fuses { bmc_capsule = row }
with_row fuses type row = fuses

abbrev pub raised : FusesState → Bank → ℕ → FusesState
raised fuses bank to =
    if nat_le to (floor_of fuses bank) then fuses else with_floor fuses bank (with_cleared (floor_row fuses bank) (to - 1))

abbrev pub with_cancelled : FusesState → ContentType → ℕ → FusesState
with_cancelled fuses type id = with_row fuses type (with_cleared (row_of fuses type) id)

-- the fuses of a bank's floor are those of before, and that of the floor where it is raised
pub record Raises (old : FusesState) (bank : Bank) (to : ℕ) (new : FusesState) : Type 0 where
  pub fuses : floor_of old bank < to → (k : ℕ) → k < 128 → (IsCleared (floor_row new bank) k ↔ (IsCleared (floor_row old bank) k ⊎ (k + 1 ≡ to)))

-- the cancelled keys of a type are those of before, and this one
pub record Cancels (old : FusesState) (type : ContentType) (id : ℕ) (new : FusesState) : Type 0 where
  pub fuses : (k : ℕ) → k < 256 → (IsCleared (row_of new type) k ↔ (IsCleared (row_of old type) k ⊎ (k ≡ id)))

-- in the new store the cancelled keys of a type are those of the old one, and this one or not
pub record CancelsAtMost (old : List ℕ) (type : ContentType) (id : ℕ) (new : List ℕ) : Type 0 where
  pub others : (k : ℕ) → k ≢ id → (IsCancelled new type k ↔ IsCancelled old type k)
  pub keeps : IsCancelled old type id → IsCancelled new type id

-- ---- what stays
-- the provision slots and the profile are the same
pub record SameProvision (old new : List ℕ) : Type 0 where
  pub slots : (k : ℕ) → k < 8 → slot_at new k ≡ slot_at old k
  pub profile : profile_of new ≡ profile_of old

-- what stands for a store besides a bank's floor
pub record StaysButFloor (bank : Bank) (old : List ℕ) (fuses : FusesState) (new : List ℕ) (after : FusesState) : Type 0 where
  pub floors : (other : Bank) → other ≢ bank → FloorStands old fuses other → FloorStands new after other
  pub rows : (type : ContentType) → RowStands old fuses type → RowStands new after type
  pub store : SameProvision old new
  pub provision : after.provision ≡ fuses.provision
  pub profile : after.profile ≡ fuses.profile

-- what stands for a store besides the cancelled keys of a type
pub record StaysButRow (type : ContentType) (old : List ℕ) (fuses : FusesState) (new : List ℕ) (after : FusesState) : Type 0 where
  pub floors : (bank : Bank) → FloorStands old fuses bank → FloorStands new after bank
  pub rows : (other : ContentType) → other ≢ type → RowStands old fuses other → RowStands new after other
  pub store : SameProvision old new
  pub provision : after.provision ≡ fuses.provision
  pub profile : after.profile ≡ fuses.profile
