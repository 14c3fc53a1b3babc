-- Search by halves in a table of stretches.
use Rattle.std.proofs.Common.{◌≡◌, ◌≢◌, Bool, true, false, ◌&&◌, nat_lt, refl, ℕ, ◌+◌, ◌-◌, ◌*◌, ◌/◌, ◌^◌, ◌<◌, ◌≤◌, List, length, get_or, ⊎_elim, inl, inr, add-one, sym, ap, ◌∙◌, arith}
use Rattle.std.proofs.Math.Nat.{mul-le-mul_left, pow-suc, pow-le-pow_right}
use Rattle.std.specs.List.{list_any}
use Rattle.std.proofs.lemmas.Bool.{cases_lt, lt-ltb, ltb-true}
use Rattle.std.proofs.lemmas.Bool.Decides.{nat_tests}
use Rattle.std.proofs.lemmas.List.Elements.{All-from_get_or}
use Rattle.std.proofs.lemmas.List.Folds.{list_any_none, list_any_at}
use Rattle.std.proofs.lemmas.List.{get_or_default}
use Rattle.pfr_manifest.specs.declared.stretch.Stretch.{Stretch}
use Rattle.pfr_manifest.specs.Stretches.{IsTable, lets_write}

-- the ends rise with the stretches
ends_rise : (stretches : List Stretch) → IsTable stretches → (i j : ℕ) (d : Stretch) → i ≤ j → j < length stretches → (get_or stretches i d).end ≤ (get_or stretches j d).end
ends_rise stretches is i j d h k = elim (cases_lt i j) [
  | inl less ↦ let some = (is.each j d k).some in omega (arith, is.in_order i j d less k)
  | inr more ↦ let e : i ≡ j = omega arith in rw e (omega arith)
]

-- The first stretch that ends behind a place is the one from low up to high. So many were looked at.
pub record IsHalving (stretches : List Stretch) (at low high looks : ℕ) : Type 0 where
  pub order : low ≤ high
  pub within : high ≤ length stretches
  pub below : (k : ℕ) (d : Stretch) → k < low → (get_or stretches k d).end ≤ at
  pub above : (k : ℕ) (d : Stretch) → high ≤ k → k < length stretches → at < (get_or stretches k d).end
  pub few : 2 ^ looks * (high - low) ≤ length stretches
  pub cost : 2 ^ looks ≤ 2 * length stretches + 1

-- the same of a table, by the counts before it and now
pub record IsSearching (stretches : List Stretch) (at low high before counted : ℕ) : Type 0 where
  pub table : IsTable stretches
  pub rises : before ≤ counted
  pub halving : IsHalving stretches at low high (counted - before)

-- half of them is left after a look
half_left : (p whole left n : ℕ) → 2 * left ≤ whole → p * whole ≤ n → p * 2 * left ≤ n
half_left p whole left n h k = omega (arith, mul-le-mul_left p h)

twice_few : (p whole n : ℕ) → 0 < whole → p * whole ≤ n → p * 2 ≤ 2 * n + 1
twice_few p whole n some h = let one : 1 ≤ whole = omega arith in omega (arith, mul-le-mul_left p one)

module _ {stretches : List Stretch} {at low high looks middle : ℕ} (is : IsTable stretches) (h : IsHalving stretches at low high looks) (some : low < high) (half : middle ≡ low + (high - low) / 2) (found : Stretch) (here : found ≡ get_or stretches middle found) where
  look_more : (low' high' : ℕ) → 2 * (high' - low') ≤ high - low → 2 ^ (looks + 1) * (high' - low') ≤ length stretches
  look_more low' high' less = rw (add-one, pow-suc 2 looks) (half_left (2 ^ looks) (high - low) (high' - low') (length stretches) less h.few)

  more_cost : 2 ^ (looks + 1) ≤ 2 * length stretches + 1
  more_cost = rw (add-one, pow-suc 2 looks) (twice_few (2 ^ looks) (high - low) (length stretches) (omega arith) h.few)

  at_middle : (d : Stretch) → get_or stretches middle d ≡ found
  at_middle d = get_or_default stretches middle d found (omega (arith, h.within)) ∙ sym here

  pub go_up : found.end ≤ at → IsHalving stretches at (middle + 1) high (looks + 1)
  go_up ends = record {
    order = omega arith;
    within = h.within;
    below = λ k d less. omega (arith, ends, ap (λ (s : Stretch). s.end) (at_middle d), ends_rise stretches is k middle d (omega arith) (omega (arith, h.within)));
    above = h.above;
    few = look_more (middle + 1) high (omega arith);
    cost = more_cost;
  }

  pub go_down : at < found.end → IsHalving stretches at low middle (looks + 1)
  go_down ends = record {
    order = omega arith;
    within = omega (arith, h.within);
    below = h.below;
    above = λ k d more less. omega (arith, ends, ap (λ (s : Stretch). s.end) (at_middle d), ends_rise stretches is middle k d more less);
    few = look_more low middle (omega arith);
    cost = more_cost;
  }

-- among 64 that is seven times at most
pub seven_looks : (looks count : ℕ) → count ≤ 64 → 2 ^ looks ≤ 2 * count + 1 → looks ≤ 7
seven_looks looks count few cost = elim (cases_lt looks 8) [
  | inl less ↦ omega arith
  | inr more ↦ let p : 2 ^ 8 ≤ 2 ^ looks = pow-le-pow_right (omega arith) more in omega arith
]

-- ---- the first stretch that ends behind a page's begin tells whether the bus may write the page
ended_lets_none : (page : ℕ) (stretch : Stretch) → stretch.end ≤ 4096 * page → lets_write page stretch ≡ false
ended_lets_none page stretch h = grind (arith, nat_tests)

later_lets_none : (page : ℕ) (stretch : Stretch) → 4096 * page < stretch.start → lets_write page stretch ≡ false
later_lets_none page stretch h = grind (arith, nat_tests)

module _ (stretches : List Stretch) (page first : ℕ) (d : Stretch) (is : IsTable stretches)
    (below : (k : ℕ) (d : Stretch) → k < first → (get_or stretches k d).end ≤ 4096 * page) (above : (k : ℕ) (d : Stretch) → first ≤ k → k < length stretches → 4096 * page < (get_or stretches k d).end) where
  -- the others let the bus write nothing of the page
  other_lets_none : (k : ℕ) → k < length stretches → k ≢ first → lets_write page (get_or stretches k d) ≡ false
  other_lets_none k h other = elim (cases_lt k first) [
    | inl less ↦ ended_lets_none page (get_or stretches k d) (below k d less)
    | inr more ↦
        let past : first < k = ⊎_elim (λ less. less) (λ less. absurd (other (omega arith))) (cases_lt first k) in
        later_lets_none page (get_or stretches k d) (omega (arith, is.in_order first k d past h, above first d (omega arith) (omega arith)))
  ]

  by_first : (has : Bool) → nat_lt first (length stretches) ≡ has → (lets : Bool) → lets_write page (get_or stretches first d) ≡ lets → list_any (lets_write page) stretches ≡ (has && lets)
  by_first false e lets f = list_any_none (lets_write page) stretches (All-from_get_or (λ (s : Stretch). lets_write page s ≡ false) stretches d (λ k h. other_lets_none k h (λ (same : k ≡ first). let t = lt-ltb first (length stretches) (omega arith) in cc)))
  by_first true e true f = list_any_at (lets_write page) stretches first d (ltb-true first (length stretches) e) f
  by_first true e false f = list_any_none (lets_write page) stretches (All-from_get_or (λ (s : Stretch). lets_write page s ≡ false) stretches d (λ k h. at k h))
    where
      at : (k : ℕ) → k < length stretches → lets_write page (get_or stretches k d) ≡ false
      at k h = ⊎_elim (λ less. other_lets_none k h (λ (same : k ≡ first). omega arith)) (λ more. ⊎_elim (λ less. other_lets_none k h (λ (same : k ≡ first). omega arith)) (λ less. same (omega arith)) (cases_lt first k)) (cases_lt k first)
        where
          same : k ≡ first → lets_write page (get_or stretches k d) ≡ false
          same e = ap (λ (n : ℕ). lets_write page (get_or stretches n d)) e ∙ f

  pub first_tells : list_any (lets_write page) stretches ≡ (nat_lt first (length stretches) && lets_write page (get_or stretches first d))
  first_tells = by_first (nat_lt first (length stretches)) refl (lets_write page (get_or stretches first d)) refl
