-- Numbers that digits spell.
use Rattle.std.proofs.Common.{◌≡◌, ℕ, ◌+◌, ◌*◌, ◌<◌, ◌≤◌, Bool, true, false, nat_le, List, [], ◌∷◌, length, Result, Ok, Err, refl, ◌∙◌, arith, rules}
use Rattle.std.specs.Prelude.{IfOk}
use Rattle.std.specs.Char.{is_ascii_digit, digit_value}
use Rattle.std.specs.List.{list_all}
use Rattle.std.specs.Str.{IsUtf8}
use Rattle.std.specs.Str.Parse.{digits_value, digits_value_after, ParsesUnsigned}
use Rattle.std.proofs.lemmas.Bool.{and_parts}
use Rattle.std.proofs.lemmas.Bool.Decides.{nat_tests, Decides-ltb}
use Rattle.std.proofs.lemmas.Fmt.{IsAscii-from_digits}
use Rattle.std.proofs.lemmas.Str.{IsUtf8-from_ascii}
use Rattle.std.proofs.lemmas.Str.Parse.{IsNumeralModel, numerals_by_value, parse_digits}
use Rattle.pfr_flash.specs.Judging.{◌>>=◌, ◌>>◌, require}
use Rattle.pfr_script.specs.declared.script_why.ScriptWhy.{ScriptWhy}
use Rattle.pfr_script.specs.declared.script_why.ScriptWhy.TheVariants as causes
use Rattle.pfr_script.specs.Numbers.{begins_above_zero, is_numeral, judge_number}

pub numerals : IsNumeralModel (λ ds. list_all is_ascii_digit ds ≡ true) (digits_value 10)
numerals = numerals_by_value (λ ds. list_all is_ascii_digit ds ≡ true) (search rules)

pub digits_are_text : (word : List ℕ) → list_all is_ascii_digit word ≡ true → IsUtf8 word
digits_are_text word h = IsUtf8-from_ascii word (IsAscii-from_digits word (numerals.to word h))

pub some_digit : (word : List ℕ) → begins_above_zero word ≡ true → 0 < length word
some_digit [] h = cc
some_digit (first ∷ others) h = omega arith

-- what was parsed, with the cause for each failure
abbrev pub caused : {E : Type 0} → Result ℕ E → Result ℕ ScriptWhy
caused (Ok number) = Ok number
caused (Err e) = Err causes.Number

pub parsed : {E : Type 0} (word : List ℕ) (r : Result ℕ E) → list_all is_ascii_digit word ≡ true → begins_above_zero word ≡ true →
    ParsesUnsigned 32 10 word r → caused r ≡ judge_number 4294967295 word
unfolding judge_number
parsed {E} word (Ok number) digits begins h =
    let p = parse_digits numerals {E = E} 32 word (Ok number) h digits in
    let small : nat_le (digits_value 10 word) 4294967295 ≡ true = grind (arith, nat_tests) in
    rw (digits, begins, small, p.1) refl
parsed {E} word (Err e) digits begins h =
    let p = parse_digits numerals {E = E} 32 word (Err e) h digits in
    let wide : nat_le (digits_value 10 word) 4294967295 ≡ false = grind (arith, nat_tests, some_digit word begins) in
    rw (digits, begins, wide) refl

value_grows : (n : ℕ) (digits : List ℕ) → n ≤ digits_value_after 10 n digits
value_grows n [] = omega arith
value_grows n (digit ∷ digits) = omega (arith, value_grows (n * 10 + digit_value digit) digits)

first_counts : (first : ℕ) → is_ascii_digit first ≡ true → 48 < first → 1 ≤ digit_value first
first_counts first digit above = grind (arith, nat_tests)

-- a number that begins above zero is above zero
pub above_zero : (word : List ℕ) → list_all is_ascii_digit word ≡ true → begins_above_zero word ≡ true → 1 ≤ digits_value 10 word
above_zero [] digits begins = cc
above_zero (first ∷ others) digits begins =
    let p = and_parts (is_ascii_digit first) (list_all is_ascii_digit others) digits in
    let above : 48 < first = (Decides-ltb 48 first).0 begins in
    omega (arith, value_grows (0 * 10 + digit_value first) others, first_counts first p.0 above)

pub parsed_above_zero : {E : Type 0} (word : List ℕ) (r : Result ℕ E) → list_all is_ascii_digit word ≡ true → begins_above_zero word ≡ true →
    ParsesUnsigned 32 10 word r → IfOk r (λ number. 1 ≤ number)
parsed_above_zero {E} word (Ok number) digits begins h = rw (parse_digits numerals {E = E} 32 word (Ok number) h digits).1 (above_zero word digits begins)
parsed_above_zero word (Err e) digits begins h = tt

-- where the value isn't in the wider range, it isn't in the narrower one
narrowed_by : (numeral fits : Bool) (value most : ℕ) → most ≤ 4294967295 → nat_le value 4294967295 ≡ fits →
    ◌≡◌ {A = Result ℕ ScriptWhy} (require causes.Number numeral >> (require causes.Number (nat_le value most) >> Ok value))
    ((require causes.Number numeral >> (require causes.Number fits >> Ok value)) >>= λ number. require causes.Number (nat_le number most) >> Ok number)
narrowed_by false fits value most h wide = refl
narrowed_by true true value most h wide = refl
narrowed_by true false value most h wide = let small : nat_le value most ≡ false = grind (arith, nat_tests) in rw small refl

-- a narrower range is judged after the wider one
pub narrowed : (most : ℕ) (word : List ℕ) → most ≤ 4294967295 →
    judge_number most word ≡ (judge_number 4294967295 word >>= λ number. require causes.Number (nat_le number most) >> Ok number)
unfolding judge_number
narrowed most word h = narrowed_by (is_numeral word) (nat_le (digits_value 10 word) 4294967295) (digits_value 10 word) most h refl

pub narrow_in : (most : ℕ) (word : List ℕ) (n : ℕ) → most ≤ 4294967295 → judge_number 4294967295 word ≡ Ok n → n ≤ most → judge_number most word ≡ Ok n
narrow_in most word n wide is few = let small : nat_le n most ≡ true = grind (arith, nat_tests) in narrowed most word wide ∙ rw (is, small) refl

pub narrow_out : (most : ℕ) (word : List ℕ) (n : ℕ) → most ≤ 4294967295 → judge_number 4294967295 word ≡ Ok n → most < n → judge_number most word ≡ Err causes.Number
narrow_out most word n wide is many = let large : nat_le n most ≡ false = grind (arith, nat_tests) in narrowed most word wide ∙ rw (is, large) refl

pub narrow_err : (most : ℕ) (word : List ℕ) (why : ScriptWhy) → most ≤ 4294967295 → judge_number 4294967295 word ≡ Err why → judge_number most word ≡ Err why
narrow_err most word why wide is = narrowed most word wide ∙ rw is refl
