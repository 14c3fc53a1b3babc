-- The manifest that is made of a bank's description and its active image.
use Rattle.std.specs.Prelude.{ℕ, ◌+◌, ◌-◌, ◌%◌, List, ◌++◌, length, map, Option, Some, None}
use Rattle.std.specs.List.{flat_map}
use Rattle.sha2.specs.Sha256.{sha256}
use Rattle.sha2.specs.Sha512.{sha384}
use Rattle.pfr_manifest.specs.Hashes.{bytes_between}
use Rattle.pfr_manifest.specs.Spelling.{region_bytes, rule_bytes, manifest_bytes}
use Rattle.pfr_manifest.specs.declared.manifest.Manifest.{Manifest}
use Rattle.pfr_manifest.specs.declared.region.Region.{Region}
use Rattle.pfr_manifest.specs.declared.region.RegionHash.{RegionHash}
use Rattle.pfr_manifest.specs.declared.region.RegionHash.TheVariants as hashes
use Rattle.pfr_manifest.specs.declared.rule.Rule.{Rule}
use Rattle.pfr_made.specs.Fields.{zeros}
use Rattle.pfr_description.specs.Described.{BankDescription}
use Rattle.pfr_description.specs.declared.region.HashKind.{HashKind}
use Rattle.pfr_description.specs.declared.region.HashKind.TheVariants.{Sha256, Sha384}
use Rattle.pfr_description.specs.declared.region.RegionDescription.{RegionDescription}
use Rattle.pfr_description.specs.declared.smbus.SmbusDescription.{SmbusDescription}

-- the hash of these bytes
abbrev pub hash_of : Option HashKind → List ℕ → RegionHash
hash_of None bytes = hashes.None
hash_of (Some Sha256) bytes = hashes.Sha256 (sha256 bytes)
hash_of (Some Sha384) bytes = hashes.Sha384 (sha384 bytes)

-- a region's definition, with the hash of what the active image has there
unfoldable pub region_of : List ℕ → RegionDescription → Region
region_of active region = record {
  mask = region.mask;
  reserved = zeros 4;
  start = region.start;
  end = region.end;
  hash = hash_of region.hash (bytes_between active region.start region.end);
}

unfoldable pub rule_of : SmbusDescription → Rule
rule_of smbus = record {
  reserved = zeros 4;
  bus = smbus.bus;
  rule = smbus.rule;
  address = smbus.address;
  commands = smbus.commands;
}

-- the regions' definitions, then the rules'
unfoldable pub entry_bytes : BankDescription → List ℕ → List ℕ
entry_bytes part active =
    flat_map region_bytes (map (region_of active) part.regions) ++ flat_map rule_bytes (map rule_of part.smbus)

-- the least multiple of 128 that holds so many bytes
abbrev pub least_multiple : ℕ → ℕ
least_multiple count = count + (128 - count % 128) % 128

-- the manifest's length: of its header of 32 bytes, and its entries
abbrev pub manifest_length : BankDescription → List ℕ → ℕ
manifest_length part active = least_multiple (32 + length (entry_bytes part active))

-- the manifest with this length, and these regions and rules
abbrev pub manifest_with : BankDescription → ℕ → List Region → List Rule → Manifest
manifest_with part count regions rules = record {
  svn = part.svn;
  bkc = part.bkc;
  revision = part.revision;
  reserved = zeros 4;
  oem = part.oem;
  length = count;
  regions = regions;
  rules = rules;
}

unfoldable pub manifest_of : BankDescription → List ℕ → Manifest
manifest_of part active =
    manifest_with part (manifest_length part active) (map (region_of active) part.regions) (map rule_of part.smbus)

-- the manifest's bytes
unfoldable pub text_of : BankDescription → List ℕ → List ℕ
text_of part active = manifest_bytes (manifest_of part active)
