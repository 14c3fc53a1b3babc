-- A made manifest is the manifest that its text spells, and its regions have their hashes.
use Rattle.std.proofs.Common.{◌≡◌, ℕ, ◌^◌, ◌<◌, ◌≤◌, nat_le, Some, None, List, length, map, Option, Ok, All, refl, arith}
use Rattle.std.proofs.lemmas.Bool.{leb-true}
use Rattle.std.proofs.lemmas.List.{length-map}
use Rattle.std.proofs.lemmas.List.Elements.{All-map, All-weaker}
use Rattle.pfr_manifest.specs.Hashes.{HasHash, bytes_between}
use Rattle.pfr_flash.specs.Judging.{◌>>◌, require}
use Rattle.pfr_manifest.specs.Manifest.{IsRegionWide, IsRuleWide, IsManifestOf}
use Rattle.pfr_manifest.specs.declared.fail.ManifestFail.TheVariants.{Svn, TooMany}
use Rattle.pfr_flash.proofs.JudgingLemmas.{passed_test, passed_unit, passed_last}
use Rattle.pfr_auth.specs.Regions.{IsHashed}
use Rattle.pfr_description.specs.Described.{BankDescription}
use Rattle.pfr_description.specs.declared.region.HashKind.{HashKind}
use Rattle.pfr_description.specs.declared.region.HashKind.TheVariants.{Sha256, Sha384}
use Rattle.pfr_description.specs.declared.region.RegionDescription.{RegionDescription}
use Rattle.pfr_description.specs.declared.smbus.SmbusDescription.{SmbusDescription}
use Rattle.pfr_made.specs.Fields.{zeros}
use Rattle.pfr_made.specs.Manifests.{hash_of, region_of, rule_of, manifest_of, text_of, manifest_length}
use Rattle.pfr_made.specs.Entries.{judge_regions, judge_entries}
use Rattle.pfr_description.specs.Typed.{IsRegionValue, IsRuleValue, IsBankValue}
use Rattle.pfr_made.proofs.ManifestMadeRegions.{AreRegions, all_regions_made}
use Rattle.pfr_made.proofs.ManifestMadeLengths.{digest_made, least_made, manifest_len_made, manifest_short}

-- what the judgement of a description tells
record IsJudged (part : BankDescription) : Type 0 where
  pub svn : part.svn ≤ 127
  pub regions : judge_regions 0 0 0 part.regions part.layout part.size ≡ Ok tt
  pub rules : length part.smbus ≤ 64

entries_judged : (part : BankDescription) → judge_entries part ≡ Ok tt → IsJudged part
unfolding judge_entries
entries_judged part judged =
    let regions = judge_regions 0 0 0 part.regions part.layout part.size in
    let last = require TooMany (nat_le (length part.smbus) 64) in
    let p = passed_test Svn (nat_le part.svn 127) (regions >> last) tt judged in
    let q = passed_unit regions last tt p.1 in
    record {
      svn = leb-true part.svn 127 p.0;
      regions = q.0;
      rules = leb-true (length part.smbus) 64 (passed_last TooMany (nat_le (length part.smbus) 64) q.1);
    }

pub manifest_regions : (part : BankDescription) (active : List ℕ) → (manifest_of part active).regions ≡ map (region_of active) part.regions
unfolding manifest_of
manifest_regions part active = refl

region_wide : (active : List ℕ) (region : RegionDescription) → IsRegionValue region → IsRegionWide (region_of active region)
unfolding region_of zeros
region_wide active region is = record { reserved = refl; start = is.start; end = is.end; digest = digest_made region.hash (bytes_between active region.start region.end) }

rule_wide : (rule : SmbusDescription) → IsRuleValue rule → IsRuleWide (rule_of rule)
unfolding rule_of zeros
rule_wide rule is = record { reserved = refl; commands = is.commands }

regions_wide : (active : List ℕ) (regions : List RegionDescription) → All IsRegionValue regions → All IsRegionWide (map (region_of active) regions)
regions_wide active regions are =
    All-map IsRegionWide (region_of active) regions (All-weaker IsRegionValue (λ region. IsRegionWide (region_of active region)) (region_wide active) regions are)

rules_wide : (rules : List SmbusDescription) → All IsRuleValue rules → All IsRuleWide (map rule_of rules)
rules_wide rules are = All-map IsRuleWide rule_of rules (All-weaker IsRuleValue (λ rule. IsRuleWide (rule_of rule)) rule_wide rules are)

-- the regions that a description gives a bank are those of a manifest
pub regions_judged : (part : BankDescription) (active : List ℕ) → judge_entries part ≡ Ok tt → AreRegions part.layout part.size (map (region_of active) part.regions)
regions_judged part active judged = all_regions_made active part.layout part.size part.regions (entries_judged part judged).regions

module _ (part : BankDescription) (active : List ℕ) (is : IsBankValue part) (judged : judge_entries part ≡ Ok tt) where
  short : manifest_length part active < 2 ^ 32
  short =
      let regions = regions_judged part active judged in
      let few : length part.regions ≤ 64 = omega (arith, length-map part.regions (region_of active)) in
      manifest_short part active is few (entries_judged part judged).rules

  pub text_small : length (text_of part active) < 2 ^ 32
  text_small = omega (arith, manifest_len_made part active is, short)

  -- the text spells the manifest, and the manifest keeps the rules of manifests
  pub manifest_made : IsManifestOf (text_of part active) (manifest_of part active) part.layout part.size
  unfolding text_of manifest_of zeros
  manifest_made =
      let tells = entries_judged part judged in
      let regions = regions_judged part active judged in
      record {
        spelled = refl;
        long = least_made part active is;
        wide = record {
          header = record { revision = is.revision; reserved = refl; oem = is.oem; long = short };
          regions = regions_wide active part.regions is.regions;
          rules = rules_wide part.smbus is.rules;
        };
        svn = tells.svn;
        few_regions = regions.few;
        few_rules = omega (arith, length-map part.smbus rule_of, tells.rules);
        each_region = regions.each;
        in_order = regions.in_order;
      }

-- a hash is that of its bytes
hash_is_made : (hash : Option HashKind) (bytes : List ℕ) → HasHash bytes (hash_of hash bytes)
hash_is_made None bytes = tt
hash_is_made (Some Sha256) bytes = refl
hash_is_made (Some Sha384) bytes = refl

region_hashed : (active : List ℕ) (region : RegionDescription) → IsHashed active (region_of active region)
unfolding region_of
region_hashed active region = hash_is_made region.hash (bytes_between active region.start region.end)

pub hashes_made : (part : BankDescription) (active : List ℕ) → All (IsHashed active) (manifest_of part active).regions
unfolding manifest_of
hashes_made part active = All-map (IsHashed active) (region_of active) part.regions (λ k d within. region_hashed active _)
