-- Words that are hex, and those that aren't.
use Rattle.std.proofs.Common.{◌≡◌, ℕ, ◌*◌, ◌/◌, ◌%◌, ◌<◌, ◌≤◌, ◌==◌, true, false, nat_le, codes, List, length, Result, Ok, Err, refl, sym, ◌∙◌, arith}
use Rattle.std.specs.List.{list_all}
use Rattle.std.specs.Str.{bytes_eq}
use Rattle.std.proofs.lemmas.Bool.{and_parts}
use Rattle.std.proofs.lemmas.Bool.Decides.{nat_tests}
use Rattle.std.proofs.lemmas.List.Sums.{AllPass-from_list_all, list_all-from_AllPass}
use Rattle.hex.specs.Hex.{decode_of, decode_sized, is_hex_digit}
use Rattle.hex.specs.declared.error.FromHexError.{FromHexError}
use Rattle.hex.proofs.HexLemmas.{decode_of-ok, decode_of-digits, decode_sized-twice}
use Rattle.pfr_script.specs.declared.script_why.ScriptWhy.TheVariants as causes
use Rattle.pfr_script.specs.Hex.{is_hex, decoded, judge_frame, judge_slot, judge_tear}

refused : (word : List ℕ) (r : Result (List ℕ) FromHexError) → is_hex word ≡ false → decode_of word ≡ r → decoded r ≡ Err causes.Hex
refused word (Ok bytes) h e =
    let p = decode_of-ok word bytes e in
    let even : (length word % 2 == 0) ≡ true = grind (arith, nat_tests) in
    let digits : list_all is_hex_digit word ≡ true = list_all-from_AllPass is_hex_digit word p.1 in
    let yes : is_hex word ≡ true = rw (even, digits) refl in
    cc
refused word (Err e) h is = refl

-- what is no hex doesn't decode
pub not_hex : (word : List ℕ) → is_hex word ≡ false → decoded (decode_of word) ≡ Err causes.Hex
not_hex word h = refused word (decode_of word) h refl

-- what is hex decodes, two digits a byte
pub hex_bytes : (word : List ℕ) → is_hex word ≡ true → (bytes : List ℕ) × (decode_of word ≡ Ok bytes) × (length word ≡ 2 * length bytes)
hex_bytes word h =
    let p = and_parts (length word % 2 == 0) (list_all is_hex_digit word) h in
    let even : length word % 2 ≡ 0 = grind (arith, nat_tests) in
    let d = decode_of-digits word even (AllPass-from_list_all is_hex_digit word p.1) in
    (d.0, d.1, (decode_of-ok word d.0 d.1).2)

pub slot_not_hex : (word : List ℕ) → is_hex word ≡ false → judge_slot word ≡ Err causes.Hex
unfolding judge_slot
slot_not_hex word h = rw (not_hex word h) refl

pub slot_length : (word : List ℕ) (e : FromHexError) → is_hex word ≡ true → decode_sized word 72 ≡ Err e → judge_slot word ≡ Err causes.Length
unfolding judge_slot
slot_length word e h wrong =
    let d = hex_bytes word h in
    let other : (length word ≡ 2 * 72) → ⊥ = λ same. (let both : Ok d.0 ≡ Err e = sym (decode_sized-twice word 72 same ∙ d.1) ∙ wrong in cc) in
    let no : (length d.0 == 72) ≡ false = grind (arith, nat_tests, other, d.2) in
    rw (d.1, no) refl

pub tear_not_hex : (word : List ℕ) → bytes_eq word (codes "-") ≡ false → is_hex word ≡ false → judge_tear word ≡ Err causes.Hex
unfolding judge_tear
tear_not_hex word other h = rw (other, not_hex word h) refl

pub tear_length : (word : List ℕ) → bytes_eq word (codes "-") ≡ false → is_hex word ≡ true → 8192 < length word → judge_tear word ≡ Err causes.Length
unfolding judge_tear
tear_length word other h long =
    let d = hex_bytes word h in
    let no : nat_le (length d.0) 4096 ≡ false = grind (arith, nat_tests, d.2) in
    rw (other, d.1, no) refl

pub frame_not_hex : (most : ℕ) (word : List ℕ) → is_hex word ≡ false → judge_frame most word ≡ Err causes.Hex
unfolding judge_frame
frame_not_hex most word h = rw (not_hex word h) refl

pub frame_none : (most : ℕ) (word : List ℕ) → is_hex word ≡ true → length word / 2 ≡ 0 → judge_frame most word ≡ Err causes.Length
unfolding judge_frame
frame_none most word h none =
    let d = hex_bytes word h in
    let no : nat_le 1 (length d.0) ≡ false = grind (arith, nat_tests, d.2, none) in
    rw (d.1, no) refl

pub frame_long : (most : ℕ) (word : List ℕ) → is_hex word ≡ true → 1 ≤ length word / 2 → most < length word / 2 → judge_frame most word ≡ Err causes.Length
unfolding judge_frame
frame_long most word h some long =
    let d = hex_bytes word h in
    let yes : nat_le 1 (length d.0) ≡ true = grind (arith, nat_tests, d.2, some) in
    let no : nat_le (length d.0) most ≡ false = grind (arith, nat_tests, d.2, long) in
    rw (d.1, yes, no) refl

pub frame_fits : (most : ℕ) (word : List ℕ) → is_hex word ≡ true → 1 ≤ length word / 2 → length word / 2 ≤ most → judge_frame most word ≡ decoded (decode_of word)
unfolding judge_frame
frame_fits most word h some few =
    let d = hex_bytes word h in
    let yes : nat_le 1 (length d.0) ≡ true = grind (arith, nat_tests, d.2, some) in
    let fits : nat_le (length d.0) most ≡ true = grind (arith, nat_tests, d.2, few) in
    rw (d.1, yes, fits) refl
