-- The index of a copy map, page by page, and what it says of a page.
use Rattle.std.proofs.Common.{◌≡◌, ◌≢◌, ◌∙◌, sym, ℕ, ◌+◌, ◌*◌, ◌/◌, ◌%◌, ◌<◌, ◌⊎◌, inl, inr, List, length, get_or, set, replicate, arith, get_or-set_same, get_or-set_other}
use Rattle.std.proofs.lemmas.Bool.Decides.{nat_tests}
use Rattle.std.proofs.lemmas.List.{get_or-replicate}
use Rattle.pfr_capsule.specs.Maps.{count_before}
use Rattle.pfr_capsule.specs.Pages.{indexed}

pub indexed_begin : (copy : List ℕ) (i : ℕ) → i < 256 → get_or (replicate 256 0) i 0 ≡ indexed copy 0 i
indexed_begin copy i h = get_or-replicate 256 i 0 0 h ∙ (let none : indexed copy 0 i ≡ 0 = grind (arith, nat_tests) in sym none)

-- a page that begins no stretch leaves the index
pub indexed_same : (copy : List ℕ) (n i : ℕ) → 64 * i ≢ n → indexed copy (n + 1) i ≡ indexed copy n i
indexed_same copy n i other = grind (arith, nat_tests)

pub indexed_inside : (copy : List ℕ) (bits i : ℕ) → 64 * i < bits → indexed copy bits i ≡ count_before copy (64 * i)
indexed_inside copy bits i h = grind (arith, nat_tests)

pub index_kept : (copy before : List ℕ) (n : ℕ) → n % 64 ≢ 0 → ((i : ℕ) → i < 256 → get_or before i 0 ≡ indexed copy n i) → (i : ℕ) → i < 256 → get_or before i 0 ≡ indexed copy (n + 1) i
index_kept copy before n other is i h =
    let ne : 64 * i ≢ n = λ e. other (omega (arith, e)) in
    is i h ∙ sym (indexed_same copy n i ne)

set_or_not : (i j : ℕ) → (i ≡ j) ⊎ (i ≢ j)
set_or_not i j = grind arith

pub index_set : (copy before : List ℕ) (n count : ℕ) → length before ≡ 256 → n % 64 ≡ 0 → n / 64 < 256 → count ≡ count_before copy n → ((i : ℕ) → i < 256 → get_or before i 0 ≡ indexed copy n i) →
    (i : ℕ) → i < 256 → get_or (set before (n / 64) count) i 0 ≡ indexed copy (n + 1) i
index_set copy before n count long begins few counted is i h = elim (set_or_not i (n / 64)) [
  | inl same ↦
      let here : 64 * i ≡ n = omega arith in
      let within : n / 64 < length before = omega arith in
      let inside : 64 * i < n + 1 = omega arith in
      rw (indexed_inside copy (n + 1) i inside, here, same) (get_or-set_same before (n / 64) count 0 within ∙ counted)
  | inr other ↦
      let ne : 64 * i ≢ n = λ e. other (omega (arith, e)) in
      get_or-set_other before (n / 64) i count 0 other ∙ is i h ∙ sym (indexed_same copy n i ne)
]
