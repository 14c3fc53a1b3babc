-- How a manifest is spelled: a header, the regions, the rules, and 0xFF up to its length.
use Rattle.std.specs.Prelude.{ℕ, ◌-◌, List, [], ◌∷◌, ◌++◌, length, replicate}
use Rattle.std.specs.List.{flat_map}
use Rattle.byteorder.specs.Endian.{little_bytes}
use Rattle.pfr_manifest.specs.declared.manifest.Manifest.{Manifest}
use Rattle.pfr_manifest.specs.declared.region.Region.{Region}
use Rattle.pfr_manifest.specs.declared.region.RegionHash.{RegionHash}
use Rattle.pfr_manifest.specs.declared.region.RegionHash.TheVariants as hashes
use Rattle.pfr_manifest.specs.declared.rule.Rule.{Rule}

-- what a header begins with
abbrev pub magic : ℕ
magic = 0x02B3CE1D

abbrev pub hash_info : RegionHash → ℕ
hash_info hashes.None = 0
hash_info (hashes.Sha256 digest) = 1
hash_info (hashes.Sha384 digest) = 2

abbrev pub digest_of : RegionHash → List ℕ
digest_of hashes.None = []
digest_of (hashes.Sha256 digest) = digest
digest_of (hashes.Sha384 digest) = digest

unfoldable pub header_bytes : Manifest → List ℕ
header_bytes m =
    little_bytes 4 magic ++ m.svn ∷ m.bkc ∷ [] ++ m.revision ++ m.reserved ++ m.oem ++ little_bytes 4 m.length

unfoldable pub region_bytes : Region → List ℕ
region_bytes region =
    1 ∷ region.mask ∷ [] ++ little_bytes 2 (hash_info region.hash) ++ region.reserved
    ++ little_bytes 4 region.start ++ little_bytes 4 region.end ++ digest_of region.hash

unfoldable pub rule_bytes : Rule → List ℕ
rule_bytes rule = 2 ∷ [] ++ rule.reserved ++ rule.bus ∷ rule.rule ∷ rule.address ∷ [] ++ rule.commands

-- the header and the entries
abbrev pub body_bytes : Manifest → List ℕ
body_bytes m = header_bytes m ++ flat_map region_bytes m.regions ++ flat_map rule_bytes m.rules

-- the whole text
abbrev pub manifest_bytes : Manifest → List ℕ
manifest_bytes m = body_bytes m ++ replicate (m.length - length (body_bytes m)) 255
