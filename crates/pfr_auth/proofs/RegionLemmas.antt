-- The regions of a manifest, one after the other.
use Rattle.std.proofs.Common.{◌≡◌, ◌∙◌, ap, sym, subst, refl, ℕ, zero, suc, ◌+◌, ◌<◌, ◌≤◌, Bool, true, false, cond, List, [], ◌∷◌, length, drop, get_or, filter, All, Ok, Err, arith}
use Rattle.std.specs.Bool.{Decides}
use Rattle.std.proofs.lemmas.List.{drop_more, drop_all}
use Rattle.std.proofs.lemmas.List.Elements.{All-nil, All-cons, All-head, All-tail, All-weaker}
use Rattle.pfr_flash.specs.declared.layout.Layout.{Layout}
use Rattle.pfr_manifest.specs.Hashes.{HasHash, bytes_between}
use Rattle.pfr_manifest.specs.Regions.{IsRegion, LiesInside, has_hash}
use Rattle.pfr_manifest.specs.declared.region.Region.{Region}
use Rattle.pfr_manifest.specs.declared.region.RegionHash.{RegionHash}
use Rattle.pfr_manifest.specs.declared.region.RegionHash.TheVariants as hashes
use Rattle.pfr_flash.specs.Judging.{◌>>◌, require}
use Rattle.pfr_manifest.proofs.HashLemmas.{Decides-hash}
use Rattle.pfr_auth.specs.Judge.{is_hashed, judge_regions}
use Rattle.pfr_auth.specs.Regions.{IsHashed}
use Rattle.pfr_auth.specs.declared.fail.ActiveFail.TheVariants as causes
use Rattle.pfr_flash.proofs.JudgingLemmas.{passed_test}

Decides-hashed : (image : List ℕ) (region : Region) → Decides (is_hashed image region) (IsHashed image region)
unfolding is_hashed
Decides-hashed image region = Decides-hash (bytes_between image region.start region.end) region.hash

-- ---- the judgement of the regions ends well exactly where each has its hash
pub regions_hold : (image : List ℕ) (k : ℕ) (regions : List Region) → judge_regions image k regions ≡ Ok tt → All (IsHashed image) regions
unfolding judge_regions
regions_hold image k [] h = All-nil (IsHashed image)
regions_hold image k (region ∷ others) h =
    let p = passed_test (causes.RegionHash k) (is_hashed image region) (judge_regions image (k + 1) others) tt h in
    All-cons (IsHashed image) region others ((Decides-hashed image region).0 p.0) (regions_hold image (k + 1) others p.1)

pub regions_end : (image : List ℕ) (k : ℕ) (regions : List Region) → All (IsHashed image) regions → judge_regions image k regions ≡ Ok tt
unfolding judge_regions
regions_end image k [] h = refl
regions_end image k (region ∷ others) h =
    let here : is_hashed image region ≡ true = (Decides-hashed image region).1 (All-head (IsHashed image) region others h) in
    let rest : judge_regions image (k + 1) others ≡ Ok tt = regions_end image (k + 1) others (All-tail (IsHashed image) region others h) in
    rw (here, rest) refl

-- ---- the loop over the regions
step : (image : List ℕ) (regions : List Region) (k : ℕ) (region : Region) → k < length regions → region ≡ get_or regions k region →
    judge_regions image k (drop k regions) ≡ (require (causes.RegionHash k) (is_hashed image region) >> judge_regions image (k + 1) (drop (k + 1) regions))
unfolding judge_regions
step image regions k region within is =
    let e : drop k regions ≡ get_or regions k region ∷ drop (k + 1) regions = drop_more regions k region within in
    rw (e, ← is) refl

pub region_passed : (image : List ℕ) (regions : List Region) (k : ℕ) (region : Region) → k < length regions → region ≡ get_or regions k region → is_hashed image region ≡ true →
    judge_regions image k (drop k regions) ≡ judge_regions image (k + 1) (drop (k + 1) regions)
region_passed image regions k region within is h =
    step image regions k region within is ∙ ap (λ (test : Bool). require (causes.RegionHash k) test >> judge_regions image (k + 1) (drop (k + 1) regions)) h

pub region_refused : (image : List ℕ) (regions : List Region) (k : ℕ) (region : Region) → k < length regions → region ≡ get_or regions k region → is_hashed image region ≡ false →
    judge_regions image k (drop k regions) ≡ Err (causes.RegionHash k)
region_refused image regions k region within is h =
    step image regions k region within is ∙ ap (λ (test : Bool). require (causes.RegionHash k) test >> judge_regions image (k + 1) (drop (k + 1) regions)) h

-- what was found of a region's bytes, after calls that only read
pub found_of : (image later : List ℕ) (region : Region) (found test : Bool) → later ≡ image → found ≡ is_hashed later region → found ≡ test → is_hashed image region ≡ test
found_of image later region found test same is h = ap (λ (bytes : List ℕ). is_hashed bytes region) (sym same) ∙ sym is ∙ h

pub regions_done : (image : List ℕ) (regions : List Region) (k : ℕ) → length regions ≤ k → judge_regions image k (drop k regions) ≡ Ok tt
unfolding judge_regions
regions_done image regions k h = rw (drop_all k regions h) refl

-- ---- the regions of a manifest lie in the bank
inside : (layout : Layout) (size : ℕ) (region : Region) → IsRegion layout size region → LiesInside size region.start region.end
inside layout size region h = record { begins = omega (arith, h.some); ends = h.inside }

pub regions_inside : (layout : Layout) (size : ℕ) (regions : List Region) → All (IsRegion layout size) regions → All (λ region. LiesInside size region.start region.end) regions
regions_inside layout size regions h = All-weaker (IsRegion layout size) (λ region. LiesInside size region.start region.end) (inside layout size) regions h

-- ---- hashes
-- where there is a hash, these bytes are those that have it
pub same_hash : (bytes other : List ℕ) (hash : RegionHash) → (has_hash hash ≡ true → other ≡ bytes) → HasHash bytes hash → HasHash other hash
same_hash bytes other hashes.None same h = tt
same_hash bytes other (hashes.Sha256 digest) same h = subst (λ (b : List ℕ). HasHash b (hashes.Sha256 digest)) (sym (same refl)) h
same_hash bytes other (hashes.Sha384 digest) same h = subst (λ (b : List ℕ). HasHash b (hashes.Sha384 digest)) (sym (same refl)) h

-- ---- the static regions
-- what holds of the elements that pass a test holds of each element that passes it
pub of_filtered : {X : Type 0} (p : X → Bool) (P : X → Type 0) (xs : List X) → All P (filter p xs) → (k : ℕ) (d : X) → k < length xs → p (get_or xs k d) ≡ true → P (get_or xs k d)
of_filtered p P [] h k d below e = absurd (omega (arith, below))
of_filtered p P (x ∷ xs) h zero d below e = first (p x) e h
  where
    first : (b : Bool) → b ≡ true → All P (cond b (x ∷ filter p xs) (filter p xs)) → P x
    first true e h = h 0 d (omega arith)
    first false e h = absurd cc
of_filtered p P (x ∷ xs) h (suc k) d below e = of_filtered p P xs (rest (p x) h) k d (omega arith) e
  where
    rest : (b : Bool) → All P (cond b (x ∷ filter p xs) (filter p xs)) → All P (filter p xs)
    rest true h = λ j d below. h (suc j) d (omega arith)
    rest false h = h
