-- Regions that are judged to be a manifest's are those of a manifest.
use Rattle.std.proofs.Common.{◌≡◌, ℕ, ◌+◌, ◌≤◌, ◌<◌, nat_lt, is_some, Some, None, List, [], ◌∷◌, ◌++◌, length, map, Option, Ok, All, refl, sym, ◌∙◌, arith, subst, append_assoc}
use Rattle.std.proofs.lemmas.Bool.{ltb-true}
use Rattle.std.proofs.lemmas.List.{append-nil, length_push}
use Rattle.std.proofs.lemmas.List.Elements.{All-nil, All-push}
use Rattle.pfr_flash.specs.declared.layout.Layout.{Layout}
use Rattle.pfr_manifest.specs.Judge as manifests
use Rattle.pfr_flash.specs.Judging.{◌>>◌, require}
use Rattle.pfr_manifest.specs.Regions.{IsRegion, IsInOrder, has_hash, last_start, last_end}
use Rattle.pfr_manifest.specs.declared.fail.ManifestFail.TheVariants.{TooMany}
use Rattle.pfr_manifest.specs.declared.region.Region.{Region}
use Rattle.pfr_manifest.proofs.PartLaws.{region_holds}
use Rattle.pfr_manifest.proofs.RegionLemmas.{IsInOrder-push, last_start-push, last_end-push}
use Rattle.pfr_flash.proofs.JudgingLemmas.{passed_unit, passed_test}
use Rattle.pfr_description.specs.declared.region.HashKind.{HashKind}
use Rattle.pfr_description.specs.declared.region.HashKind.TheVariants.{Sha256, Sha384}
use Rattle.pfr_description.specs.declared.region.RegionDescription.{RegionDescription}
use Rattle.pfr_made.specs.Manifests.{hash_of, region_of}
use Rattle.pfr_made.specs.Entries.{judge_next, judge_regions}
use Rattle.pfr_manifest.specs.Hashes.{bytes_between}

-- a region is static where a hash is asked for
pub has_hash_of : (hash : Option HashKind) (bytes : List ℕ) → has_hash (hash_of hash bytes) ≡ is_some hash
has_hash_of None bytes = refl
has_hash_of (Some Sha256) bytes = refl
has_hash_of (Some Sha384) bytes = refl

-- a region is judged as manifests are, behind those before it
judged_as_made : (active : List ℕ) (region : RegionDescription) (before : List Region) (layout : Layout) (size : ℕ) →
    judge_next (length before) region (last_start before) (last_end before) layout size
    ≡ (require TooMany (nat_lt (length before) 64) >> manifests.judge_region (region_of active region) before layout size)
unfolding judge_next region_of
judged_as_made active region before layout size = rw (has_hash_of region.hash (bytes_between active region.start region.end)) refl

-- regions that a manifest may have
pub record AreRegions (layout : Layout) (size : ℕ) (regions : List Region) : Type 0 where
  pub few : length regions ≤ 64
  pub each : All (IsRegion layout size) regions
  pub in_order : IsInOrder regions

module _ (active : List ℕ) (layout : Layout) (size : ℕ) where
  region_made : (before : List Region) (region : RegionDescription) → AreRegions layout size before
      → judge_next (length before) region (last_start before) (last_end before) layout size ≡ Ok tt → AreRegions layout size (before ++ region_of active region ∷ [])
  region_made before region are judged =
      let made : Region = region_of active region in
      let p = passed_test TooMany (nat_lt (length before) 64) (manifests.judge_region made before layout size) tt (sym (judged_as_made active region before layout size) ∙ judged) in
      let room : length before < 64 = ltb-true (length before) 64 p.0 in
      let h = region_holds made before layout size p.1 in
      let long = length_push before made in
      record {
        few = omega arith;
        each = All-push (IsRegion layout size) before made are.each h.0;
        in_order = IsInOrder-push before made are.in_order h.1;
      }

  -- where the last region begins and ends is what the description says
  judged_behind : (before : List Region) (region : RegionDescription) (others : List RegionDescription) → judge_regions (length before + 1) region.start region.end others layout size
      ≡ judge_regions (length (before ++ region_of active region ∷ [])) (last_start (before ++ region_of active region ∷ [])) (last_end (before ++ region_of active region ∷ [])) others layout size
  unfolding region_of
  judged_behind before region others =
      let made : Region = region_of active region in
      rw (length_push before made, last_start-push before made, last_end-push before made) refl

  regions_made : (before : List Region) (regions : List RegionDescription) → AreRegions layout size before
      → judge_regions (length before) (last_start before) (last_end before) regions layout size ≡ Ok tt → AreRegions layout size (before ++ map (region_of active) regions)
  unfolding judge_regions
  regions_made before [] are judged = subst (AreRegions layout size) (sym (append-nil before)) are
  regions_made before (region ∷ others) are judged =
      let made : Region = region_of active region in
      let p = passed_unit (judge_next (length before) region (last_start before) (last_end before) layout size) (judge_regions (length before + 1) region.start region.end others layout size) tt judged in
      let next = region_made before region are p.0 in
      let rest = regions_made (before ++ made ∷ []) others next (sym (judged_behind before region others) ∙ p.1) in
      subst (AreRegions layout size) (append_assoc before (made ∷ []) (map (region_of active) others)) rest

  pub all_regions_made : (regions : List RegionDescription) → judge_regions 0 0 0 regions layout size ≡ Ok tt → AreRegions layout size (map (region_of active) regions)
  all_regions_made regions judged = regions_made [] regions (record { few = omega arith; each = All-nil (IsRegion layout size); in_order = tt }) judged
