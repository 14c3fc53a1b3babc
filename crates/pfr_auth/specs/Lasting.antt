-- The bytes that the trust in a bank's active image rests on.
use Rattle.std.specs.Prelude.{◌≡◌, ℕ, ◌+◌, ◌-◌, ◌≤◌, ◌<◌, List, length, slice_index, All}
use Rattle.pfr_flash.specs.Names.{manifest_type}
use Rattle.pfr_flash.specs.declared.layout.Layout.{Layout}
use Rattle.pfr_flash.specs.declared.names.Bank.{Bank}
use Rattle.pfr_fuses.specs.FuseMap.{profile_of, floor_at, floor_width, row_at, row_width}
use Rattle.pfr_manifest.specs.Access.{static_regions}
use Rattle.pfr_manifest.specs.declared.manifest.Manifest.{Manifest}

-- so many bytes from a place on are the same
pub record SameAt (at count : ℕ) (old new : List ℕ) : Type 0 where
  pub stays : (k : ℕ) → at ≤ k → k < at + count → slice_index new k ≡ slice_index old k

-- of a bank the manifest area and the static regions of its manifest are the same
pub record KeepsTrustedBytes (layout : Layout) (m : Manifest) (old new : List ℕ) : Type 0 where
  pub size : length new ≡ length old
  pub area : SameAt layout.manifest_at layout.manifest_len old new
  pub static : All (λ region. SameAt region.start (region.end - region.start) old new) (static_regions m)

-- of the store the slots, the profile gate, the bank's floor, and the row of its manifests' keys are the same
pub record KeepsTrustedFuses (bank : Bank) (old new : List ℕ) : Type 0 where
  pub size : length new ≡ length old
  pub slots : SameAt 0 0x800 old new
  pub gate : slice_index new 0xA00 ≡ slice_index old 0xA00
  pub floor : SameAt (floor_at (profile_of old) bank) (floor_width (profile_of old)) old new
  pub row : SameAt (row_at (profile_of old) (manifest_type bank)) (row_width (profile_of old)) old new
