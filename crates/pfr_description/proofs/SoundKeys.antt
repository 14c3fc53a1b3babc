-- What holds of what is read at a key: numbers are in their ranges, and bytes are bytes, of their count.
use Rattle.std.proofs.Common.{◌≡◌, ℕ, ℤ, pos, negsuc, ◌≤◌, nat_le, Bool, true, false, List, length, Option, Some, None, Result, Ok, Err, if◌then◌else◌, refl, sym, ◌∙◌, arith}
use Rattle.std.specs.Prelude.{IfOk}
use Rattle.std.proofs.lemmas.Bool.{leb-true}
use Rattle.hex.specs.Hex.{decode_sized}
use Rattle.hex.specs.declared.error.FromHexError.{FromHexError}
use Rattle.hex.proofs.HexLemmas.{decode_of-ok, decode_sized-ok, decode_sized-twice}
use Rattle.toml.specs.Data.{Members, as_integer}
use Rattle.pfr_flash.specs.Bytes.{AreBytes}
use Rattle.pfr_flash.specs.declared.names.Bank.{Bank}
use Rattle.pfr_flash.specs.Judging.{◌>>=◌, known, require}
use Rattle.pfr_description.specs.Keys.{value_in, text_in, within, number_in, decoded, bytes_in}
use Rattle.pfr_description.specs.declared.fail.DescWhy.{DescWhy}
use Rattle.pfr_description.specs.declared.fail.DescWhy.TheVariants.{Kind, Value}
use Rattle.pfr_description.specs.declared.field.Field.{Field}

-- ---- a reading that ends well went on past its parts
pub after_part : {A B : Type 0} (Q : A → Type 0) (P : B → Type 0) (r : Result A DescWhy) (rest : A → Result B DescWhy)
    → IfOk r Q → ((x : A) → Q x → IfOk (rest x) P) → IfOk (r >>= rest) P
after_part Q P (Ok x) rest q h = h x q
after_part Q P (Err why) rest q h = tt

pub after_any : {A B : Type 0} (P : B → Type 0) (r : Result A DescWhy) (rest : A → Result B DescWhy)
    → ((x : A) → IfOk (rest x) P) → IfOk (r >>= rest) P
after_any P (Ok x) rest h = h x
after_any P (Err why) rest h = tt

pub after_test : {B : Type 0} (P : B → Type 0) (why : DescWhy) (test : Bool) (rest : Unit {0} → Result B DescWhy)
    → (test ≡ true → IfOk (rest tt) P) → IfOk (require why test >>= rest) P
after_test P why true rest h = h refl
after_test P why false rest h = tt

-- the value of a reading that ended well
pub value_is : {A : Type 0} (P : A → Type 0) (r : Result A DescWhy) (x : A) → IfOk r P → r ≡ Ok x → P x
value_is P r x h e = rw e at h

-- ---- numbers
in_range : (why : DescWhy) (most n : ℕ) (test : Bool) → nat_le n most ≡ test → IfOk (known why (if test then Some n else None)) (λ number. number ≤ most)
in_range why most n true is = leb-true n most is
in_range why most n false is = tt

within_range : (why : DescWhy) (most : ℕ) (number : ℤ) → IfOk (known why (within most number)) (λ n. n ≤ most)
within_range why most (pos n) = in_range why most n (nat_le n most) refl
within_range why most (negsuc n) = tt

pub number_is : (bank : Option Bank) (key : Field) (most : ℕ) (table : Members) → IfOk (number_in bank key most table) (λ number. number ≤ most)
number_is bank key most table =
    after_any (λ (number : ℕ). number ≤ most) (value_in bank key table) _
    (λ value. after_any (λ (number : ℕ). number ≤ most) (known (Kind bank key) (as_integer value)) _
    (λ number. within_range (Value bank key) most number))

-- ---- bytes
abbrev pub AreCounted : ℕ → List ℕ → Type 0
AreCounted count bytes = (length bytes ≡ count) × AreBytes bytes

decoded_is : (why : DescWhy) (text : List ℕ) (count : ℕ) (read : Result (List ℕ) FromHexError) → decode_sized text count ≡ read → IfOk (decoded why read) (AreCounted count)
decoded_is why text count (Ok bytes) is =
    let twice = decode_sized-ok text count bytes is in
    let read = decode_of-ok text bytes (sym (decode_sized-twice text count twice) ∙ is) in
    (omega (arith, read.2), read.3)
decoded_is why text count (Err e) is = tt

pub bytes_are : (bank : Option Bank) (key : Field) (count : ℕ) (table : Members) → IfOk (bytes_in bank key count table) (AreCounted count)
bytes_are bank key count table =
    after_any (AreCounted count) (text_in bank key table) _
    (λ text. decoded_is (Value bank key) text count (decode_sized text count) refl)
