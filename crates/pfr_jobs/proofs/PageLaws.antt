-- A page is searched from its last slot down, and the selector from its first byte on.
use Rattle.std.proofs.Common.{◌≡◌, ◌≢◌, ◌∙◌, ℕ, zero, suc, ◌+◌, ◌<◌, ◌==◌, Bool, true, false, not, cond, if◌then◌else◌, List, [], ◌∷◌, length, get_or, count_by, Option, Some, None, refl, sym, ap, arith}
use Rattle.std.specs.List.{list_all}
use Rattle.std.proofs.lemmas.Bool.{eqb-true}
use Rattle.std.proofs.lemmas.List.Recursion.{is_count_by}
use Rattle.pfr_jobs.specs.Log.{spent_in, is_gated, last_gated, job_slot, used_in, one_more, first_unspent}

pub spent_count : (bytes : List ℕ) → spent_in bytes ≡ count_by (λ byte. not (byte == 255)) bytes
unfolding spent_in
spent_count bytes = is_count_by spent_in (λ byte. not (byte == 255)) refl (λ x xs. step (x == 255) (spent_in xs)) bytes
  where
    step : (t : Bool) (n : ℕ) → (if t then 0 else 1) + n ≡ cond (not t) (1 + n) n
    step true n = omega arith
    step false n = refl

-- ---- the last gated slot
pub last_none : (page : List ℕ) → last_gated page 0 ≡ None
unfolding last_gated
last_none page = refl

last_step : (page : List ℕ) (k n : ℕ) → k ≡ suc n → last_gated page k ≡ (if is_gated page n then Some n else last_gated page n)
unfolding last_gated
last_step page k n e = ap (λ (m : ℕ). last_gated page m) e

pub last_here : (page : List ℕ) (k n : ℕ) → k ≡ suc n → is_gated page n ≡ true → last_gated page k ≡ Some n
last_here page k n e gated = last_step page k n e ∙ ap (λ (t : Bool). if t then Some n else last_gated page n) gated

pub last_before : (page : List ℕ) (k n : ℕ) → k ≡ suc n → is_gated page n ≡ false → last_gated page k ≡ last_gated page n
last_before page k n e ungated = last_step page k n e ∙ ap (λ (t : Bool). if t then Some n else last_gated page n) ungated

-- ---- the slots that were used
pub used_none : (page : List ℕ) → used_in page 0 ≡ 0
unfolding used_in
used_none page = refl

used_step : (page : List ℕ) (k n : ℕ) → k ≡ suc n → used_in page k ≡ (if list_all (λ byte. byte == 255) (job_slot page n) then used_in page n else suc n)
unfolding used_in
used_step page k n e = ap (λ (m : ℕ). used_in page m) e

pub used_here : (page : List ℕ) (k n : ℕ) → k ≡ suc n → list_all (λ byte. byte == 255) (job_slot page n) ≡ false → used_in page k ≡ k
used_here page k n e filled = used_step page k n e ∙ ap (λ (t : Bool). if t then used_in page n else suc n) filled ∙ sym e

pub used_before : (page : List ℕ) (k n : ℕ) → k ≡ suc n → list_all (λ byte. byte == 255) (job_slot page n) ≡ true → used_in page k ≡ used_in page n
used_before page k n e blank = used_step page k n e ∙ ap (λ (t : Bool). if t then used_in page n else suc n) blank

-- ---- the first byte of the selector that is 0xFF
pub first_found : (xs : List ℕ) (n : ℕ) → n < length xs → get_or xs n 0 ≡ 255 → ((i : ℕ) → i < n → get_or xs i 0 ≢ 255) → first_unspent xs ≡ Some n
unfolding first_unspent
first_found [] n inside here before = absurd (omega arith)
first_found (x ∷ xs) zero inside here before = ap (λ (v : ℕ). if v == 255 then Some 0 else one_more (first_unspent xs)) here
first_found (x ∷ xs) (suc n) inside here before =
    by_first (x == 255) refl ∙ ap (λ (f : Option ℕ). one_more f) (first_found xs n (omega (arith, inside)) here (λ i h. before (suc i) (omega (arith, h))))
  where
    by_first : (t : Bool) → (x == 255) ≡ t → (if x == 255 then Some 0 else one_more (first_unspent xs)) ≡ one_more (first_unspent xs)
    by_first true e = absurd (before 0 (omega arith) (eqb-true x 255 e))
    by_first false e = ap (λ (t : Bool). if t then Some 0 else one_more (first_unspent xs)) e

pub first_none : (xs : List ℕ) → ((i : ℕ) → i < length xs → get_or xs i 0 ≢ 255) → first_unspent xs ≡ None
unfolding first_unspent
first_none [] before = refl
first_none (x ∷ xs) before = by_first (x == 255) refl ∙ ap (λ (f : Option ℕ). one_more f) (first_none xs (λ i h. before (suc i) (omega (arith, h))))
  where
    by_first : (t : Bool) → (x == 255) ≡ t → (if x == 255 then Some 0 else one_more (first_unspent xs)) ≡ one_more (first_unspent xs)
    by_first true e = absurd (before 0 (omega arith) (eqb-true x 255 e))
    by_first false e = ap (λ (t : Bool). if t then Some 0 else one_more (first_unspent xs)) e
