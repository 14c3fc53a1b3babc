-- Which texts are manifests.
use Rattle.std.specs.Prelude.{◌≡◌, ℕ, ◌+◌, ◌<◌, ◌≤◌, ◌%◌, ◌^◌, List, length, All}
use Rattle.pfr_flash.specs.declared.layout.Layout.{Layout}
use Rattle.pfr_manifest.specs.declared.manifest.Manifest.{Manifest}
use Rattle.pfr_manifest.specs.declared.region.Region.{Region}
use Rattle.pfr_manifest.specs.declared.rule.Rule.{Rule}
use Rattle.pfr_manifest.specs.Regions.{IsDigest, IsRegion, IsInOrder}
use Rattle.pfr_manifest.specs.Spelling.{body_bytes, manifest_bytes}

-- what a field holds is as wide as the field
pub record IsHeaderWide (m : Manifest) : Type 0 where
  pub revision : length m.revision ≡ 2
  pub reserved : length m.reserved ≡ 4
  pub oem : length m.oem ≡ 16
  pub long : m.length < 2 ^ 32

pub record IsRegionWide (region : Region) : Type 0 where
  pub reserved : length region.reserved ≡ 4
  pub start : region.start < 2 ^ 32
  pub end : region.end < 2 ^ 32
  pub digest : IsDigest region.hash

pub record IsRuleWide (rule : Rule) : Type 0 where
  pub reserved : length rule.reserved ≡ 4
  pub commands : length rule.commands ≡ 32

pub record IsWide (m : Manifest) : Type 0 where
  pub header : IsHeaderWide m
  pub regions : All IsRegionWide m.regions
  pub rules : All IsRuleWide m.rules

-- the least multiple of 128 that holds so many bytes
pub record IsLeastMultiple (count multiple : ℕ) : Type 0 where
  pub multiple_of : multiple % 128 ≡ 0
  pub holds : count ≤ multiple
  pub least : multiple < count + 128

-- The bytes spell this manifest, for a bank of this layout and this size.
pub record IsManifestOf (bytes : List ℕ) (m : Manifest) (layout : Layout) (size : ℕ) : Type 0 where
  pub spelled : bytes ≡ manifest_bytes m
  pub long : IsLeastMultiple (length (body_bytes m)) m.length
  pub wide : IsWide m
  pub svn : m.svn ≤ 127
  pub few_regions : length m.regions ≤ 64
  pub few_rules : length m.rules ≤ 64
  pub each_region : All (IsRegion layout size) m.regions
  pub in_order : IsInOrder m.regions
