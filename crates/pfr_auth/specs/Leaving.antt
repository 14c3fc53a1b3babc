-- Which operations leave the bytes that the trust in a bank's active image rests on.
use Rattle.std.specs.Prelude.{◌-◌, All}
use Rattle.pfr_flash.specs.Operation.{Operation}
use Rattle.pfr_flash.specs.Range.{Leaves}
use Rattle.pfr_flash.specs.Names.{manifest_type}
use Rattle.pfr_flash.specs.declared.layout.Layout.{Layout}
use Rattle.pfr_flash.specs.declared.names.Bank.{Bank}
use Rattle.pfr_fuses.specs.FuseMap.{floor_at, floor_width, row_at, row_width}
use Rattle.pfr_fuses.specs.FusesState.{FusesState}
use Rattle.pfr_manifest.specs.Access.{static_regions}
use Rattle.pfr_manifest.specs.declared.manifest.Manifest.{Manifest}

-- of a bank: neither the manifest area nor a static region of its manifest
pub record LeavesImage (layout : Layout) (manifest : Manifest) (op : Operation) : Type 0 where
  pub area : Leaves layout.manifest_at layout.manifest_len op
  pub static : All (λ region. Leaves region.start (region.end - region.start) op) (static_regions manifest)

-- of the store: none of the slots, the profile gate, the bank's floor, and the row of its manifests' keys
pub record LeavesStore (fuses : FusesState) (bank : Bank) (op : Operation) : Type 0 where
  pub slots : Leaves 0 0x800 op
  pub gate : Leaves 0xA00 1 op
  pub floor : Leaves (floor_at fuses.profile bank) (floor_width fuses.profile) op
  pub row : Leaves (row_at fuses.profile (manifest_type bank)) (row_width fuses.profile) op
