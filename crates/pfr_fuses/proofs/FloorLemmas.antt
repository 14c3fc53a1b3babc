-- Rows that are kept, and the floor that a row has.
use Rattle.std.proofs.Common.{◌≡◌, ℕ, zero, suc, ◌+◌, ◌-◌, ◌*◌, ◌/◌, ◌%◌, ◌≤◌, ◌<◌, Bool, true, false, if◌then◌else◌, List, ◌++◌, length, get_or, take, drop, replicate, refl, sym, ap, ◌∙◌, subst, arith, ◌⊎◌, inl, inr}
use Rattle.std.specs.Prelude.{◌↔◌, ◌≢◌}
use Rattle.std.specs.Int.{bit_at}
use Rattle.std.proofs.Math.ListN.{get_or-append}
use Rattle.std.proofs.Math.Seq.{get_or-append_right, take-append-add}
use Rattle.std.proofs.lemmas.List.{get_or-take, get_or-replicate, length-take, length-replicate, drop-replicate, take-replicate}
use Rattle.std.proofs.lemmas.Nat.Bits.{bit_at_ones}
use Rattle.std.proofs.lemmas.Bool.{cases_lt, false≢true}
use Rattle.std.proofs.lemmas.Bool.Decides.{Decides-eqb}
use Rattle.pfr_flash.specs.Bytes.{bytes_at, continued}
use Rattle.pfr_flash.specs.FuseRow.{IsCleared, IsHighest, is_cleared, fuse_at}
use Rattle.pfr_flash.proofs.BytesLemmas.{length-bytes_at}
use Rattle.pfr_fuses.specs.FusesState.{floor_in}

-- ---- the floor of a row
above_step : (b : Bool) (n floor : ℕ) (row : List ℕ) (k : ℕ) → is_cleared row n ≡ b → k < suc n → IsCleared row k → (k < n → k < floor) → k < (if b then suc n else floor)
above_step true n floor row k e below h rest = below
above_step false n floor row k e below h rest =
    let other : k ≢ n = λ (same : k ≡ n). let c : is_cleared row n ≡ true = subst (λ (j : ℕ). is_cleared row j ≡ true) same ((Decides-eqb (fuse_at row k) 0).1 h) in false≢true (sym e ∙ c) in
    rest (omega (arith, other))

-- a cleared bit is below the floor
pub floor_in-above : (n : ℕ) (row : List ℕ) (k : ℕ) → k < n → IsCleared row k → k < floor_in n row
unfolding floor_in
floor_in-above zero row k below h = absurd (omega arith)
floor_in-above (suc n) row k below h = above_step (is_cleared row n) n (floor_in n row) row k refl below h (λ q. floor_in-above n row k q h)

bit_step : (b : Bool) (n floor : ℕ) (row : List ℕ) (k : ℕ) → is_cleared row n ≡ b → (if b then suc n else floor) ≡ k + 1 → (floor ≡ k + 1 → (k < n) × IsCleared row k) → (k < suc n) × IsCleared row k
bit_step true n floor row k e h rest =
    let same : n ≡ k = omega arith in
    (omega arith, subst (λ (j : ℕ). IsCleared row j) same ((Decides-eqb (fuse_at row n) 0).0 e))
bit_step false n floor row k e h rest = let p = rest h in (omega (arith, p.0), p.1)

-- where the floor is not 0, the bit below it is cleared
pub floor_in-bit : (n : ℕ) (row : List ℕ) (k : ℕ) → floor_in n row ≡ k + 1 → (k < n) × IsCleared row k
unfolding floor_in
floor_in-bit zero row k h = absurd (omega arith)
floor_in-bit (suc n) row k h = bit_step (is_cleared row n) n (floor_in n row) row k refl h (λ e. floor_in-bit n row k e)

none_step : (m : ℕ) → ((k : ℕ) → m ≡ k + 1 → ⊥) → 0 ≡ m
none_step zero h = refl
none_step (suc k) h = absurd (h k (omega arith))

pub floor_in-none : (n : ℕ) (row : List ℕ) → ((k : ℕ) → k < n → ¬ IsCleared row k) → 0 ≡ floor_in n row
floor_in-none n row none = none_step (floor_in n row) (λ k e. let p = floor_in-bit n row k e in none k p.0 p.1)

highest_step : (m k : ℕ) → k < m → ((j : ℕ) → k < j → m ≡ j + 1 → ⊥) → k + 1 ≡ m
highest_step zero k below none = absurd (omega arith)
highest_step (suc j) k below none = let not_above : ¬ (k < j) = λ (q : k < j). none j q (omega arith) in omega (arith, not_above)

pub floor_in-highest : (n : ℕ) (row : List ℕ) (k : ℕ) → IsHighest n row k → k + 1 ≡ floor_in n row
floor_in-highest n row k h = highest_step (floor_in n row) k (floor_in-above n row k h.within h.cleared) (λ j q e. let p = floor_in-bit n row j e in h.above j q p.0 p.1)

-- what the highest cleared bit tells of the floor
pub ruleset floors = (floor_in-none, floor_in-highest)

-- ---- a row that is kept
continued_inside : (row : List ℕ) (n i : ℕ) → i < length row → length row ≤ n → get_or (continued row n) i 0 ≡ get_or row i 0
unfolding continued
continued_inside row n i h fits = let below : i < n = omega arith in rw get_or-take (get_or-append row (replicate n 255) 0 i h)

continued_behind : (row : List ℕ) (n i : ℕ) → length row ≤ i → i < n → get_or (continued row n) i 0 ≡ 255
unfolding continued
continued_behind row n i h below = rw get_or-take (get_or-append_right row (replicate n 255) i 0 h ∙ get_or-replicate n (i - length row) 255 0 (omega arith))

-- the cleared fuses of a kept row are those of the row, and none behind them
pub IsCleared-continued : (row : List ℕ) (n k : ℕ) → length row ≤ n → k < 8 * n → (IsCleared (continued row n) k ↔ ((k < 8 * length row) × IsCleared row k))
IsCleared-continued row n k fits within = by_place (cases_lt (k / 8) (length row))
  where
    by_place : ((k / 8 < length row) ⊎ (length row ≤ k / 8)) → (IsCleared (continued row n) k ↔ ((k < 8 * length row) × IsCleared row k))
    by_place (inl inside) =
        let byte : bit_at (get_or (continued row n) (k / 8) 0) (k % 8) ≡ bit_at (get_or row (k / 8) 0) (k % 8) = ap (λ (x : ℕ). bit_at x (k % 8)) (continued_inside row n (k / 8) inside fits) in
        (λ z. (omega arith, sym byte ∙ z), λ p. byte ∙ p.1)
    by_place (inr behind) =
        let one : bit_at (get_or (continued row n) (k / 8) 0) (k % 8) ≡ 1 = ap (λ (x : ℕ). bit_at x (k % 8)) (continued_behind row n (k / 8) behind (omega arith)) ∙ bit_at_ones 8 (k % 8) (omega arith) in
        (λ z. absurd (omega arith), λ p. absurd (omega (arith, p.0)))

-- no fuse of 0xFF is cleared
pub not_cleared : (n k : ℕ) → k < 8 * n → ¬ IsCleared (replicate n 255) k
not_cleared n k below z =
    let one : bit_at (get_or (replicate n 255) (k / 8) 0) (k % 8) ≡ 1 = ap (λ (x : ℕ). bit_at x (k % 8)) (get_or-replicate n (k / 8) 255 0 (omega arith)) ∙ bit_at_ones 8 (k % 8) (omega arith) in
    omega arith

continued_from : (row : List ℕ) (n : ℕ) → length row ≤ n → row ++ drop (length row) (replicate n 255) ≡ continued row n
unfolding continued
continued_from row n fits =
    let whole : n ≡ length row + (n - length row) = omega arith in
    let front : take (length row + (n - length row)) (row ++ replicate n 255) ≡ row ++ replicate (n - length row) 255 =
    take-append-add row (replicate n 255) (n - length row) ∙ ap (λ (zs : List ℕ). row ++ zs) (take-replicate (n - length row) n 255 (omega arith)) in
    ap (λ (zs : List ℕ). row ++ zs) (drop-replicate (length row) n 255) ∙ sym (ap (λ (k : ℕ). take k (row ++ replicate n 255)) whole ∙ front)

-- what was read in front of 0xFF
pub kept_row : (image : List ℕ) (at width n : ℕ) (row read : List ℕ) → row ≡ read ++ drop (width - 0) (replicate n 255) → read ≡ bytes_at image at (length {A = ℕ} (take (width - 0) (replicate n 255)))
    → at + width ≤ length image → width ≤ n → row ≡ continued (bytes_at image at width) n
kept_row image at width n row read h k fits narrow =
    let all : width - 0 ≡ width = omega arith in
    let asked : length {A = ℕ} (take (width - 0) (replicate n 255)) ≡ width = simp (length-take, length-replicate) (omega arith) in
    let bytes : read ≡ bytes_at image at width = k ∙ ap (λ (m : ℕ). bytes_at image at m) asked in
    let long : length (bytes_at image at width) ≡ width = length-bytes_at image at width fits in
    h ∙ ap (λ (xs : List ℕ). xs ++ drop (width - 0) (replicate n 255)) bytes
    ∙ ap (λ (m : ℕ). bytes_at image at width ++ drop m (replicate n 255)) (all ∙ sym long)
    ∙ continued_from (bytes_at image at width) n (omega arith)
