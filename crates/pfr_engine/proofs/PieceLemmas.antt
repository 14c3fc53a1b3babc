-- Splitting a text at its first separator.
use Rattle.std.proofs.Common.{◌≡◌, ℕ, ◌+◌, ◌-◌, ◌<◌, ◌≤◌, ◌==◌, Bool, List, ◌∷◌, [], length, take, drop, Some, None, position, arith, subst, length-drop}
use Rattle.std.specs.List.{position_or_len, slice_split}
use Rattle.std.proofs.lemmas.List.{take_all}
use Rattle.std.proofs.lemmas.List.Splits.{slice_split_first, slice_split_none}
use Rattle.std.proofs.lemmas.List.Sums.{fails_before_first}
use Rattle.std.proofs.lemmas.Bool.Decides.{nat_tests}

-- the first piece of a text and what stands behind its separator, as slices have the two parts
pub first_parts : (separator : ℕ) (text : List ℕ) (end : ℕ) → position (λ byte. byte == separator) text ≡ Some end →
    slice_split (λ byte. byte == separator) text ≡ take (end - 0) text ∷ slice_split (λ byte. byte == separator) (take (length text - (end + 1)) (drop (end + 1) text))
first_parts separator text end h =
    let test : ℕ → Bool = λ byte. byte == separator in
    let within : position_or_len test text < length text = grind (arith, nat_tests) in
    let is : position_or_len test text ≡ end = grind (arith, nat_tests) in
    let first : end - 0 ≡ end = omega arith in
    let behind : take (length text - (end + 1)) (drop (end + 1) text) ≡ drop (end + 1) text =
    take_all (length text - (end + 1)) (drop (end + 1) text) (omega (arith, length-drop (end + 1) text)) in
    let P : ℕ → Type 0 = λ n. slice_split test text ≡ take n text ∷ slice_split test (drop (n + 1) text) in
    rw (first, behind) (subst P is (slice_split_first test text 0 within))

-- a text without a separator is one piece
pub last_piece : (separator : ℕ) (text : List ℕ) → position (λ byte. byte == separator) text ≡ None → slice_split (λ byte. byte == separator) text ≡ text ∷ []
last_piece separator text h =
    let test : ℕ → Bool = λ byte. byte == separator in
    let past : length text ≤ position_or_len test text = grind (arith, nat_tests) in
    slice_split_none test text (λ k d i. fails_before_first test text k d (omega arith))
