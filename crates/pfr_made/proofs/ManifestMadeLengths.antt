-- How long a made manifest is.
use Rattle.std.proofs.Common.{◌≡◌, ℕ, ◌+◌, ◌-◌, ◌*◌, ◌<◌, ◌≤◌, ◌^◌, Some, None, List, [], ◌∷◌, ◌++◌, length, map, replicate, Option, All, refl, arith, length-append}
use Rattle.std.specs.List.{flat_map}
use Rattle.std.proofs.lemmas.List.{length-replicate}
use Rattle.std.proofs.lemmas.List.Elements.{All-head, All-tail}
use Rattle.sha2.proofs.Facts256.{length-sha256}
use Rattle.sha2.proofs.Facts512.{length-sha384}
use Rattle.pfr_manifest.specs.Manifest.{IsLeastMultiple}
use Rattle.pfr_manifest.specs.Regions.{IsDigest}
use Rattle.pfr_manifest.specs.Spelling.{digest_of, header_bytes, region_bytes, rule_bytes, body_bytes}
use Rattle.pfr_manifest.specs.declared.region.Region.{Region}
use Rattle.pfr_manifest.specs.declared.region.RegionHash.{RegionHash}
use Rattle.pfr_manifest.specs.declared.region.RegionHash.TheVariants as hashes
use Rattle.pfr_manifest.specs.declared.rule.Rule.{Rule}
use Rattle.pfr_description.specs.Described.{BankDescription}
use Rattle.pfr_description.specs.declared.region.HashKind.{HashKind}
use Rattle.pfr_description.specs.declared.region.HashKind.TheVariants.{Sha256, Sha384}
use Rattle.pfr_description.specs.declared.region.RegionDescription.{RegionDescription}
use Rattle.pfr_description.specs.declared.smbus.SmbusDescription.{SmbusDescription}
use Rattle.pfr_made.specs.Fields.{zeros}
use Rattle.pfr_made.specs.Manifests.{hash_of, region_of, rule_of, entry_bytes, least_multiple, manifest_length, manifest_with, manifest_of, text_of}
use Rattle.pfr_manifest.specs.Hashes.{bytes_between}
use Rattle.pfr_description.specs.Typed.{IsRuleValue, IsBankValue}

-- a hash is as long as its kind says
pub digest_made : (hash : Option HashKind) (bytes : List ℕ) → IsDigest (hash_of hash bytes)
digest_made None bytes = tt
digest_made (Some Sha256) bytes = length-sha256 bytes
digest_made (Some Sha384) bytes = length-sha384 bytes

digest_short : (hash : RegionHash) → IsDigest hash → length (digest_of hash) ≤ 48
digest_short hashes.None h = omega arith
digest_short (hashes.Sha256 digest) h = omega arith
digest_short (hashes.Sha384 digest) h = omega arith

pub region_short : (active : List ℕ) (region : RegionDescription) → length (region_bytes (region_of active region)) ≤ 64
unfolding region_of region_bytes zeros
region_short active region =
    let hash : RegionHash = hash_of region.hash (bytes_between active region.start region.end) in
    let d = digest_short hash (digest_made region.hash (bytes_between active region.start region.end)) in
    omega arith

regions_short : (active : List ℕ) (regions : List RegionDescription) → length (flat_map region_bytes (map (region_of active) regions)) ≤ 64 * length regions
regions_short active [] = omega arith
regions_short active (region ∷ others) =
    let e = length-append (region_bytes (region_of active region)) (flat_map region_bytes (map (region_of active) others)) in
    omega (arith, region_short active region, regions_short active others)

pub rule_len : (rule : SmbusDescription) → IsRuleValue rule → length (rule_bytes (rule_of rule)) ≡ 40
unfolding rule_of rule_bytes zeros
rule_len rule is = omega (arith, is.commands)

rules_len : (rules : List SmbusDescription) → All IsRuleValue rules → length (flat_map rule_bytes (map rule_of rules)) ≡ 40 * length rules
rules_len [] are = refl
rules_len (rule ∷ others) are =
    let e = length-append (rule_bytes (rule_of rule)) (flat_map rule_bytes (map rule_of others)) in
    omega (arith, rule_len rule (All-head IsRuleValue rule others are), rules_len others (All-tail IsRuleValue rule others are))

least_multiple_is : (count : ℕ) → IsLeastMultiple count (least_multiple count)
least_multiple_is count = record { multiple_of = omega arith; holds = omega arith; least = omega arith }

-- bytes and 0xFF behind them are as long as they are filled up to
filled_len : (bytes : List ℕ) (count : ℕ) → length bytes ≤ count → length (bytes ++ replicate (count - length bytes) 255) ≡ count
filled_len bytes count fits =
    let blank : length (replicate {A = ℕ} (count - length bytes) 255) ≡ count - length bytes = length-replicate (count - length bytes) 255 in
    simp length-append (omega arith)

module _ (part : BankDescription) (is : IsBankValue part) where
  header_len : (count : ℕ) (regions : List Region) (rules : List Rule) → length (header_bytes (manifest_with part count regions rules)) ≡ 32
  unfolding header_bytes zeros
  header_len count regions rules = simp length-append (omega (arith, is.revision, is.oem))

  body_len : (count : ℕ) (regions : List Region) (rules : List Rule) → length (body_bytes (manifest_with part count regions rules)) ≡ 32 + length (flat_map region_bytes regions ++ flat_map rule_bytes rules)
  body_len count regions rules =
      let head = header_len count regions rules in
      simp length-append (omega (arith, head))

module _ (part : BankDescription) (active : List ℕ) (is : IsBankValue part) where
  -- the header and the entries are as long as the manifest's length counts
  body_made : length (body_bytes (manifest_of part active)) ≡ 32 + length (entry_bytes part active)
  unfolding manifest_of entry_bytes
  body_made = body_len part is (manifest_length part active) (map (region_of active) part.regions) (map rule_of part.smbus)

  pub least_made : IsLeastMultiple (length (body_bytes (manifest_of part active))) (manifest_length part active)
  least_made = rw body_made (least_multiple_is (32 + length (entry_bytes part active)))

  pub manifest_len_made : length (text_of part active) ≡ manifest_length part active
  unfolding text_of manifest_of
  manifest_len_made = filled_len (body_bytes (manifest_of part active)) (manifest_length part active) least_made.holds

  entries_short : length part.regions ≤ 64 → length part.smbus ≤ 64 → length (entry_bytes part active) ≤ 64 * 64 + 40 * 64
  unfolding entry_bytes
  entries_short regions rules = simp length-append (omega (arith, regions_short active part.regions, rules_len part.smbus is.rules))

  -- a manifest of so few regions and rules is short
  pub manifest_short : length part.regions ≤ 64 → length part.smbus ≤ 64 → manifest_length part active < 2 ^ 32
  manifest_short regions rules = omega (arith, entries_short regions rules)

  pub text_some : 0 < length (text_of part active)
  text_some = omega (arith, manifest_len_made)
