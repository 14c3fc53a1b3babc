-- The numbers that words spell.
use Rattle.std.proofs.Common.{◌≡◌, ℕ, ◌<◌, ◌≤◌, ◌==◌, true, false, not, nat_le, List, [], ◌∷◌, length, Option, Some, None, Result, Ok, Err, refl, arith, if◌then◌else◌}
use Rattle.std.specs.Char.{is_ascii_digit}
use Rattle.std.specs.List.{list_all}
use Rattle.std.specs.Str.Parse.{digits_value, ParsesUnsigned}
use Rattle.std.proofs.lemmas.Bool.{and_parts}
use Rattle.std.proofs.lemmas.Bool.Decides.{nat_tests}
use Rattle.std.proofs.lemmas.Str.Parse.{parse_digits}
use Rattle.pfr_script.proofs.NumberLemmas.{numerals}
use Rattle.pfr.specs.Commands.{id_of, is_decimal, is_numeral, run_request, wear_of}

digits_of : (word : List ℕ) → is_numeral word ≡ true → list_all is_ascii_digit word ≡ true
digits_of [] h = cc
digits_of (first ∷ rest) h = (and_parts (list_all is_ascii_digit (first ∷ rest)) (not (first == 48)) h).0

some_digit : (word : List ℕ) → is_numeral word ≡ true → 0 < length word
some_digit [] h = cc
some_digit (first ∷ rest) h = omega arith

-- what was parsed, where it is at most 16
abbrev pub within : {E : Type 0} → Result ℕ E → Option ℕ
within (Ok wear) = if nat_le wear 16 then Some wear else None
within (Err e) = None

pub parsed : {E : Type 0} (word : List ℕ) (r : Result ℕ E) → is_numeral word ≡ true → ParsesUnsigned 32 10 word r → within r ≡ wear_of word
parsed {E} word (Ok wear) numeral h =
    let p = parse_digits numerals {E = E} 32 word (Ok wear) h (digits_of word numeral) in
    rw (numeral, p.1) refl
parsed {E} word (Err e) numeral h =
    let p = parse_digits numerals {E = E} 32 word (Err e) h (digits_of word numeral) in
    let wide : nat_le (digits_value 10 word) 16 ≡ false = grind (arith, nat_tests, some_digit word numeral) in
    rw (numeral, wide) refl

-- ---- ids
decimal_digits : (word : List ℕ) → is_decimal word ≡ true → list_all is_ascii_digit word ≡ true
decimal_digits [] h = cc
decimal_digits (digit ∷ []) h = rw h refl
decimal_digits (first ∷ next ∷ rest) h = (and_parts (list_all is_ascii_digit (first ∷ next ∷ rest)) (not (first == 48)) h).0

some_decimal : (word : List ℕ) → is_decimal word ≡ true → 0 < length word
some_decimal [] h = cc
some_decimal (first ∷ rest) h = omega arith

-- what was parsed as a byte
abbrev pub number_in : {E : Type 0} → Result ℕ E → Option ℕ
number_in (Ok id) = Some id
number_in (Err e) = None

pub parsed_id : {E : Type 0} (word : List ℕ) (r : Result ℕ E) → is_decimal word ≡ true → ParsesUnsigned 8 10 word r → number_in r ≡ id_of word
parsed_id {E} word (Ok id) decimal h =
    let p = parse_digits numerals {E = E} 8 word (Ok id) h (decimal_digits word decimal) in
    let small : nat_le (digits_value 10 word) 255 ≡ true = grind (arith, nat_tests) in
    rw (decimal, small, p.1) refl
parsed_id {E} word (Err e) decimal h =
    let p = parse_digits numerals {E = E} 8 word (Err e) h (decimal_digits word decimal) in
    let wide : nat_le (digits_value 10 word) 255 ≡ false = grind (arith, nat_tests, some_decimal word decimal) in
    rw (decimal, wide) refl

-- words of a run are five or six
pub run_none : (words : List (List ℕ)) → ¬ ((5 ≤ length words) × (length words ≤ 6)) → run_request words ≡ None
run_none [] n = refl
run_none (a ∷ []) n = refl
run_none (a ∷ b ∷ []) n = refl
run_none (a ∷ b ∷ c ∷ []) n = refl
run_none (a ∷ b ∷ c ∷ d ∷ []) n = refl
run_none (a ∷ b ∷ c ∷ d ∷ e ∷ []) n = absurd (n (omega arith, omega arith))
run_none (a ∷ b ∷ c ∷ d ∷ e ∷ f ∷ []) n = absurd (n (omega arith, omega arith))
run_none (a ∷ b ∷ c ∷ d ∷ e ∷ f ∷ g ∷ rest) n = refl
