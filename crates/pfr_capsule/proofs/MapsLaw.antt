-- No page and no region is found to be wrong exactly where each is right.
use Rattle.std.proofs.Common.{◌≡◌, ◌↔◌, sym, refl, ℕ, ◌<◌, Bool, true, false, not, ◌&&◌, List, length, get_or, All, Any, Option, Some, None, is_some}
use Rattle.std.specs.Bool.{Decides}
use Rattle.std.proofs.lemmas.Bool.{and_parts, and_from, both_ways, le-leb, leb-true, lt-ltb, ltb-true, not-true, not-false, not_from_true}
use Rattle.pfr_manifest.proofs.HashLemmas.{Decides-hash}
use Rattle.pfr_manifest.proofs.StretchLemmas.{Decides-any}
use Rattle.pfr_manifest.specs.declared.region.Region.{Region}
use Rattle.pfr_manifest.specs.Regions.{is_static}
use Rattle.pfr_capsule.specs.Maps.{CopiesAreErased, ErasedLieInRegions, IsCovered, IsPageOf, has_page, in_some_region, is_uncovered, kept_page, least_below, map_bit, page_outside, uncovered_region, unerased_copy}
use Rattle.pfr_capsule.specs.PageBytes.{IsCoherent, incoherent_region, is_coherent, region_bytes}
use Rattle.pfr_capsule.specs.declared.pages.Pages.{Pages}
use Rattle.pfr_capsule.proofs.LeastLaws.{none_below, below_none, least_passes, none_first, first_passes}

-- where no number passes the first test and fails the second, each that passes the first passes the second
beside : (a b : Bool) → (a && not b) ≡ false → a ≡ true → b ≡ true
beside true true h k = refl
beside true false h k = sym h
beside false b h k = absurd cc

never_alone : (a b : Bool) → (a ≡ true → b ≡ true) → (a && not b) ≡ false
never_alone true true h = refl
never_alone true false h = sym (h refl)
never_alone false b h = refl

none_alone : (a b : ℕ → Bool) (bits : ℕ) → least_below (λ n. a n && not (b n)) bits ≡ None ↔ ((n : ℕ) → n < bits → a n ≡ true → b n ≡ true)
none_alone a b bits = (
  λ h n inside. beside (a n) (b n) (none_below _ bits h n inside),
  λ h. below_none _ bits (λ n inside. never_alone (a n) (b n) (h n inside)),
)

-- ---- pages that are copied
pub none_copied : (erase copy : List ℕ) (bits : ℕ) → unerased_copy erase copy bits ≡ None ↔ CopiesAreErased erase copy bits
unfolding unerased_copy
none_copied erase copy bits = none_alone (map_bit copy) (map_bit erase) bits

-- ---- pages of regions
Decides-page : (region : Region) (n : ℕ) → Decides (has_page region n) (IsPageOf region n)
Decides-page region n = (
  λ h. let p = and_parts _ _ h in record { low = leb-true _ _ p.0; high = ltb-true _ _ p.1 },
  λ h. and_from _ _ (le-leb _ _ h.low) (lt-ltb _ _ h.high),
)

Decides-inside : (regions : List Region) (n : ℕ) → Decides (in_some_region regions n) (Any (λ region. IsPageOf region n) regions)
Decides-inside regions n = Decides-any (λ region. has_page region n) (λ region. IsPageOf region n) (λ region. Decides-page region n) regions

pub none_outside : (erase : List ℕ) (regions : List Region) (bits : ℕ) → page_outside erase regions bits ≡ None ↔ ErasedLieInRegions erase regions bits
unfolding page_outside
none_outside erase regions bits =
    let a = none_alone (map_bit erase) (in_some_region regions) bits in
    (λ h n inside erased. (Decides-inside regions n).0 (a.0 h n inside erased), λ h. a.1 (λ n inside erased. (Decides-inside regions n).1 (h n inside erased)))

-- ---- static regions
region_covered : (erase : List ℕ) (bits : ℕ) (region : Region) → is_uncovered erase bits region ≡ false ↔ IsCovered erase bits region
unfolding kept_page
region_covered erase bits region = by_case (is_static region) (kept_page erase bits region) (none_alone (has_page region) (map_bit erase) bits)
  where
    by_case : (static : Bool) (kept : Option ℕ) → (kept ≡ None ↔ ((n : ℕ) → n < bits → has_page region n ≡ true → map_bit erase n ≡ true))
        → ((static && is_some kept) ≡ false ↔ (static ≡ true → (n : ℕ) → n < bits → IsPageOf region n → map_bit erase n ≡ true))
    by_case false kept h = (λ _ static. cc, λ _. refl)
    by_case true None h = (λ _ _ n inside page. h.0 refl n inside ((Decides-page region n).1 page), λ _. refl)
    by_case true (Some k) h = (λ e. cc, λ each. let none = h.1 (λ n inside has. each refl n inside ((Decides-page region n).0 has)) in cc)

pub none_uncovered : (erase : List ℕ) (regions : List Region) (bits : ℕ) → uncovered_region erase regions bits ≡ None ↔ All (IsCovered erase bits) regions
unfolding uncovered_region
none_uncovered erase regions bits = none_first (is_uncovered erase bits) (IsCovered erase bits) (region_covered erase bits) regions

-- ---- the hashes
region_coherent : (image : List ℕ) (pages : Pages) (region : Region) → not (is_coherent image pages region) ≡ false ↔ IsCoherent image pages region
unfolding is_coherent
region_coherent image pages region =
    let d = Decides-hash (region_bytes image pages region) region.hash in
    (λ h. d.0 (not-false _ h), λ h. not_from_true _ (d.1 h))

pub none_incoherent : (image : List ℕ) (pages : Pages) (regions : List Region) → incoherent_region image pages regions ≡ None ↔ All (IsCoherent image pages) regions
unfolding incoherent_region
none_incoherent image pages regions = none_first (λ region. not (is_coherent image pages region)) (IsCoherent image pages) (region_coherent image pages) regions

-- ---- where there is one, it is the first
pub some_copied : (erase copy : List ℕ) (bits n : ℕ) → unerased_copy erase copy bits ≡ Some n → (n < bits) × (map_bit copy n ≡ true) × (map_bit erase n ≡ false) × CopiesAreErased erase copy n
unfolding unerased_copy
some_copied erase copy bits n h =
    let p = least_passes (λ (k : ℕ). map_bit copy k && not (map_bit erase k)) bits n h in
    let q : (map_bit copy n ≡ true) × (not (map_bit erase n) ≡ true) = and_parts _ _ p.1 in
    (p.0, q.0, not-true _ q.1, (none_copied erase copy n).0 (below_none _ n p.2))

pub some_outside : (erase : List ℕ) (regions : List Region) (bits n : ℕ) → page_outside erase regions bits ≡ Some n →
    (n < bits) × (map_bit erase n ≡ true) × ¬ (Any (λ region. IsPageOf region n) regions) × ErasedLieInRegions erase regions n
unfolding page_outside
some_outside erase regions bits n h =
    let p = least_passes (λ (k : ℕ). map_bit erase k && not (in_some_region regions k)) bits n h in
    let q : (map_bit erase n ≡ true) × (not (in_some_region regions n) ≡ true) = and_parts _ _ p.1 in
    (p.0, q.0, λ any. both_ways _ (not-true _ q.1) ((Decides-inside regions n).1 any), (none_outside erase regions n).0 (below_none _ n p.2))

pub some_uncovered : (erase : List ℕ) (regions : List Region) (bits k : ℕ) (d : Region) → uncovered_region erase regions bits ≡ Some k →
    (k < length regions) × ¬ (IsCovered erase bits (get_or regions k d)) × ((j : ℕ) → j < k → IsCovered erase bits (get_or regions j d))
unfolding uncovered_region
some_uncovered erase regions bits k d h =
    let p = first_passes (is_uncovered erase bits) regions k d h in
    (p.0, λ covered. both_ways _ ((region_covered erase bits (get_or regions k d)).1 covered) p.1, λ j below. (region_covered erase bits (get_or regions j d)).0 (p.2 j below))

pub some_incoherent : (image : List ℕ) (pages : Pages) (regions : List Region) (k : ℕ) (d : Region) → incoherent_region image pages regions ≡ Some k →
    (k < length regions) × ¬ (IsCoherent image pages (get_or regions k d)) × ((j : ℕ) → j < k → IsCoherent image pages (get_or regions j d))
unfolding incoherent_region
some_incoherent image pages regions k d h =
    let p = first_passes (λ (region : Region). not (is_coherent image pages region)) regions k d h in
    (p.0, λ coherent. both_ways _ ((region_coherent image pages (get_or regions k d)).1 coherent) p.1, λ j below. (region_coherent image pages (get_or regions j d)).0 (p.2 j below))
