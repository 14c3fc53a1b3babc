-- What the description says of a page: each page of a region has the region's use, and a page with another use than Keep lies in a region.
use Rattle.std.proofs.Common.{◌≡◌, ◌∙◌, ap, sym, refl, ℕ, zero, suc, ◌*◌, ◌%◌, ◌<◌, ◌≤◌, Bool, true, false, ◌&&◌, nat_le, nat_lt, List, [], ◌∷◌, length, get_or, map, All, Any, inl, inr, Ok, arith}
use Rattle.std.proofs.lemmas.Bool.{cases_Bool, cond-false, and_parts, and_from, le-leb, leb-true, lt-ltb, le-ltb, ltb-true}
use Rattle.std.proofs.lemmas.List.Elements.{All-head, All-tail}
use Rattle.pfr_flash.specs.declared.layout.Layout.{Layout}
use Rattle.pfr_manifest.specs.Regions.{IsRegion, IsInOrder, LiesInside}
use Rattle.pfr_manifest.specs.declared.region.Region.{Region}
use Rattle.pfr_capsule.specs.Maps.{IsPageOf}
use Rattle.pfr_description.specs.Described.{BankDescription}
use Rattle.pfr_description.specs.declared.region.PageUse.{PageUse}
use Rattle.pfr_description.specs.declared.region.RegionDescription.{RegionDescription}
use Rattle.pfr_made.specs.Entries.{judge_entries}
use Rattle.pfr_made.specs.Manifests.{region_of}
use Rattle.pfr_made.specs.Pages.{has_bit, has_byte, use_of}
use Rattle.pfr_made.specs.declared.page_map.PageMap.TheVariants as maps
use Rattle.pfr_made.proofs.ManifestMade.{regions_judged}
use Rattle.pfr_made.proofs.ManifestMadeRegions.{AreRegions}

-- ---- what the judgement tells of the regions' places
pub record IsWhole (size : ℕ) (region : RegionDescription) : Type 0 where
  pub start_aligned : region.start % 4096 ≡ 0
  pub end_aligned : region.end % 4096 ≡ 0
  pub some : region.start < region.end
  pub inside : region.end ≤ size

-- they stand one behind the other from a place on
abbrev pub AreOrdered : ℕ → ℕ → List RegionDescription → Type 0
AreOrdered from size [] = Unit {0}
AreOrdered from size (region ∷ others) = IsWhole size region × (from ≤ region.start) × AreOrdered region.end size others

not_second : (a b : Bool) → b ≡ false → (a && b) ≡ false
not_second true b h = h
not_second false b h = refl

region_whole : (layout : Layout) (size : ℕ) (region : RegionDescription) → IsRegion layout size (region_of [] region) → IsWhole size region
unfolding region_of
region_whole layout size region is = record { start_aligned = is.start_aligned; end_aligned = is.end_aligned; some = is.some; inside = is.inside }

regions_ordered : (layout : Layout) (size from : ℕ) (region : RegionDescription) (others : List RegionDescription) → from ≤ region.start
    → All (IsRegion layout size) (map (region_of []) (region ∷ others)) → IsInOrder (map (region_of []) (region ∷ others)) → AreOrdered from size (region ∷ others)
unfolding region_of
regions_ordered layout size from region [] behind are in_order =
    (region_whole layout size region (All-head (IsRegion layout size) (region_of [] region) [] are), behind, tt)
regions_ordered layout size from region (next ∷ others) behind are in_order = (
  region_whole layout size region (All-head (IsRegion layout size) (region_of [] region) (map (region_of []) (next ∷ others)) are),
  behind,
  regions_ordered layout size region.end next others in_order.0
      (All-tail (IsRegion layout size) (region_of [] region) (map (region_of []) (next ∷ others)) are) in_order.1,
)

some_ordered : (layout : Layout) (size : ℕ) (regions : List RegionDescription) → AreRegions layout size (map (region_of []) regions) → AreOrdered 0 size regions
some_ordered layout size [] are = tt
some_ordered layout size (region ∷ others) are = regions_ordered layout size 0 region others (omega arith) are.each are.in_order

pub entries_ordered : (part : BankDescription) → judge_entries part ≡ Ok tt → AreOrdered 0 part.size part.regions
entries_ordered part judged = some_ordered part.layout part.size part.regions (regions_judged part [] judged)

-- ---- one region of them
pub region_at : (from size : ℕ) (regions : List RegionDescription) (k : ℕ) (d : RegionDescription) → AreOrdered from size regions → k < length regions
    → IsWhole size (get_or regions k d) × (from ≤ (get_or regions k d).start)
region_at from size [] k d h within = absurd (omega arith)
region_at from size (region ∷ others) zero d h within = (h.0, h.1)
region_at from size (region ∷ others) (suc k) d h within =
    let rest = region_at region.end size others k d h.2 (omega arith) in
    (rest.0, omega (arith, h.0.some, h.1, rest.1))

pub entries_inside : (part : BankDescription) → judge_entries part ≡ Ok tt → All (λ region. LiesInside part.size region.start region.end) part.regions
entries_inside part judged = λ k d within.
    let is = region_at 0 part.size part.regions k d (entries_ordered part judged) within in
    record { begins = omega (arith, is.0.some); ends = is.0.inside }

-- each page of a region has the region's use
pub use_is : (from size : ℕ) (regions : List RegionDescription) (k page : ℕ) (d : RegionDescription) → AreOrdered from size regions → k < length regions
    → (get_or regions k d).start ≤ 4096 * page → 4096 * page < (get_or regions k d).end → use_of regions page ≡ (get_or regions k d).pages
unfolding use_of
use_is from size [] k page d h within low high = absurd (omega arith)
use_is from size (region ∷ others) zero page d h within low high =
    let has : has_byte region (4096 * page) ≡ true = and_from _ _ (le-leb _ _ low) (lt-ltb _ _ high) in
    rw has refl
use_is from size (region ∷ others) (suc k) page d h within low high =
    let rest = region_at region.end size others k d h.2 (omega arith) in
    let no : nat_lt (4096 * page) region.end ≡ false = le-ltb (4096 * page) region.end (omega (arith, rest.1)) in
    let lacks : has_byte region (4096 * page) ≡ false = not_second (nat_le region.start (4096 * page)) (nat_lt (4096 * page) region.end) no in
    rw lacks (use_is region.end size others k page d h.2 (omega arith) low high)

-- ---- a page that is erased lies in a region
pub in_region : (active : List ℕ) (regions : List RegionDescription) (page : ℕ) → has_bit maps.Erase (use_of regions page) ≡ true → Any (λ region. IsPageOf region page) (map (region_of active) regions)
unfolding use_of region_of
in_region active [] page h = absurd cc
in_region active (region ∷ others) page h = elim (cases_Bool (has_byte region (4096 * page))) [
  | inl has ↦
      let p = and_parts (nat_le region.start (4096 * page)) (nat_lt (4096 * page) region.end) has in
      (zero, region_of active region, omega arith, refl, record { low = leb-true _ _ p.0; high = ltb-true _ _ p.1 })
  | inr lacks ↦
      let rest : has_bit maps.Erase (use_of others page) ≡ true = ap (λ (x : PageUse). has_bit maps.Erase x) (sym (cond-false (has_byte region (4096 * page)) region.pages (use_of others page) lacks)) ∙ h in
      let found : Any (λ (other : Region). IsPageOf other page) (map (region_of active) others) = in_region active others page rest in
      (suc found.0, found.1, omega (arith, found.2), found.3, found.4)
]
