-- Equal regions, rules and manifests are the same.
use Rattle.std.proofs.Common.{◌≡◌, ◌↔◌, ℕ, Bool, IsTrue, List, refl, sym, ap, subst, rules}
use Rattle.std.specs.Bool.{Decides}
use Rattle.std.proofs.lemmas.Slice.Eq.{slice_eq-Decides}
use Rattle.pfr_flash.specs.declared.layout.Layout.{Layout}
use Rattle.pfr_manifest.specs.Manifest.{IsManifestOf}
use Rattle.pfr_manifest.specs.Spelling.{manifest_bytes}
use Rattle.pfr_manifest.specs.declared.manifest.Manifest.{Manifest}
use Rattle.pfr_manifest.specs.declared.region.Region.{Region}
use Rattle.pfr_manifest.specs.declared.region.RegionHash.{RegionHash}
use Rattle.pfr_manifest.specs.declared.rule.Rule.{Rule}
use Rattle.pfr_manifest.specs.contracts.region.RegionHashPartialEq.TheImpl.{ghosts as hash}
use Rattle.pfr_manifest.specs.contracts.region.RegionPartialEq.TheImpl.{ghosts as region}
use Rattle.pfr_manifest.specs.contracts.rule.RulePartialEq.TheImpl.{ghosts as rule}
use Rattle.pfr_manifest.specs.contracts.regions.RegionsPartialEq.TheImpl.{ghosts as regions}
use Rattle.pfr_manifest.specs.contracts.rules.RulesPartialEq.TheImpl.{ghosts as rules_of}
use Rattle.pfr_manifest.specs.contracts.manifest.ManifestPartialEq.TheImpl.{ghosts as manifest}
use Rattle.pfr_manifest.proofs.FindingLaw.{manifest_is_one}

same_hash : (a b : RegionHash) → Decides (hash.eq a b) (a ≡ b)
same_hash a b = search rules

same_region : (a b : Region) → Decides (region.eq a b) (a ≡ b)
same_region a b = search (same_hash, rules)

same_rule : (a b : Rule) → Decides (rule.eq a b) (a ≡ b)
same_rule a b = search rules

same_regions : (xs ys : List Region) → Decides (regions.eq xs ys) (xs ≡ ys)
same_regions xs ys = slice_eq-Decides same_region xs ys (regions.eq xs ys) refl

same_rules : (xs ys : List Rule) → Decides (rules_of.eq xs ys) (xs ≡ ys)
same_rules xs ys = slice_eq-Decides same_rule xs ys (rules_of.eq xs ys) refl

pub same_manifest : (a b : Manifest) → Decides (manifest.eq a b) (a ≡ b)
same_manifest a b = search (same_regions, same_rules, rules)

-- two manifests of a bank are the same where the same bytes spell them
pub same_texts : (a b : Manifest) (layout : Layout) (size : ℕ) → IsManifestOf (manifest_bytes a) a layout size → IsManifestOf (manifest_bytes b) b layout size → manifest_bytes a ≡ manifest_bytes b → a ≡ b
same_texts a b layout size is also same =
    manifest_is_one (manifest_bytes a) layout size a b is (subst (λ (bytes : List ℕ). IsManifestOf bytes b layout size) (sym same) also)

same_by : (a b : Manifest) (r : Bool) → r ≡ manifest.eq a b → (IsTrue r ↔ a ≡ b)
same_by a b r told = search (same_manifest, rules)

-- so the test of two manifests tells whether the same bytes spell them
pub same_texts_by : (a b : Manifest) (layout : Layout) (size : ℕ) (r : Bool) → r ≡ manifest.eq a b → IsManifestOf (manifest_bytes a) a layout size → IsManifestOf (manifest_bytes b) b layout size
    → (IsTrue r ↔ manifest_bytes a ≡ manifest_bytes b)
same_texts_by a b layout size r told is also =
    let both = same_by a b r told in
    ((λ yes. ap manifest_bytes (both.0 yes)), (λ same. both.1 (same_texts a b layout size is also same)))
