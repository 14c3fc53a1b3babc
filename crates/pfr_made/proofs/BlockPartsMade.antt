-- Parts of lists of bytes that are put together, and the numbers in them.
use Rattle.std.proofs.Common.{◌≡◌, ℕ, ◌+◌, ◌-◌, ◌^◌, ◌<◌, ◌≤◌, List, [], ◌++◌, length, take, drop, refl, sym, ap, ◌∙◌, arith, length-append, length-drop}
use Rattle.std.proofs.lemmas.List.{length-replicate, drop_at, drop-drop, drop-take, take_at, take-take, take_all, drop-append-le, take-append-le, append-nil}
use Rattle.byteorder.specs.Endian.{little_number}
use Rattle.byteorder.specs.Numbers.{little_number-reads_back, length-bytes_low_first}
use Rattle.pfr_flash.specs.Bytes.{bytes_at}
use Rattle.pfr_flash.specs.Numbers.{little_at, number_at}
use Rattle.pfr_flash.proofs.PartsLemmas.{part_of}
use Rattle.pfr_made.specs.Fields.{number_bytes, zeros, padded}

pub length-number : (x : ℕ) → length (number_bytes x) ≡ 4
unfolding number_bytes
length-number x = length-bytes_low_first 0 4 x

pub length-zeros : (count : ℕ) → length (zeros count) ≡ count
unfolding zeros
length-zeros count = length-replicate {A = ℕ} count 0

pub length-padded : (count : ℕ) (bytes : List ℕ) → length bytes ≤ count → length (padded count bytes) ≡ count
unfolding padded
length-padded count bytes h = simp length-append (omega (arith, length-zeros (count - length bytes)))

-- ---- parts
-- a part of the front
pub in_front : (a b : List ℕ) (at count : ℕ) → at + count ≤ length a → bytes_at (a ++ b) at count ≡ bytes_at a at count
in_front a b at count h =
    rw (drop-append-le at a b (omega arith)) (take-append-le count (drop at a) b (omega (arith, length-drop at a)))

-- the part behind a front
pub last_part : (a b : List ℕ) (at count : ℕ) → length a ≡ at → length b ≡ count → bytes_at (a ++ b) at count ≡ b
last_part a b at count front long = rw (drop_at a b at front) (take_all count b (omega arith))

-- the front
pub first_part : (a b : List ℕ) (count : ℕ) → length a ≡ count → bytes_at (a ++ b) 0 count ≡ a
first_part a b count long = take_at a b count long

-- the front of what stands at a place, and the rest
pub front_stands : (image : List ℕ) (at : ℕ) (xs ys : List ℕ) → bytes_at image at (length (xs ++ ys)) ≡ xs ++ ys → bytes_at image at (length xs) ≡ xs
front_stands image at xs ys h =
    let short : length xs ≤ length (xs ++ ys) = omega (arith, length-append xs ys) in
    sym (take-take (length xs) (length (xs ++ ys)) (drop at image) short) ∙ ap (λ (bytes : List ℕ). take (length xs) bytes) h ∙ take_at xs ys (length xs) refl

pub rest_stands : (image : List ℕ) (at : ℕ) (xs ys : List ℕ) → bytes_at image at (length (xs ++ ys)) ≡ xs ++ ys → bytes_at image (at + length xs) (length ys) ≡ ys
rest_stands image at xs ys h =
    let all : bytes_at image at (length xs + length ys) ≡ xs ++ ys = ap (λ (n : ℕ). bytes_at image at n) (sym (length-append xs ys)) ∙ h in
    ap (λ (bytes : List ℕ). take (length ys) bytes) (sym (drop-drop (length xs) at image)) ∙ sym (drop-take (length xs) (length ys) (drop at image))
    ∙ ap (λ (bytes : List ℕ). drop (length xs) bytes) all ∙ drop_at xs ys (length xs) refl

-- a part of a part that is known
pub inside : (all part : List ℕ) (at n off count : ℕ) → bytes_at all at n ≡ part → off + count ≤ n → bytes_at all (at + off) count ≡ bytes_at part off count
inside all part at n off count is fits = sym (part_of all at n off count fits) ∙ ap (λ (bytes : List ℕ). bytes_at bytes off count) is

-- the same, of a place that is counted from another
pub inside_at : (all part : List ℕ) (from n off at count : ℕ) → bytes_at all from n ≡ part → at ≡ from + off → off + count ≤ n → bytes_at all at count ≡ bytes_at part off count
inside_at all part from n off at count is there fits = ap (λ (place : ℕ). bytes_at all place count) there ∙ inside all part from n off count is fits

-- ---- numbers
-- the number that four bytes spell
pub number_there : (all : List ℕ) (at x : ℕ) → x < 2 ^ 32 → bytes_at all at 4 ≡ number_bytes x → number_at all at ≡ x
unfolding little_at number_bytes
number_there all at x fits is = ap (little_number 4) (is ∙ sym (append-nil (number_bytes x))) ∙ little_number-reads_back 4 x [] fits

-- a number in a part that is known
pub number_inside : (all part : List ℕ) (at n off : ℕ) → bytes_at all at n ≡ part → off + 4 ≤ n → number_at all (at + off) ≡ number_at part off
unfolding little_at
number_inside all part at n off is fits = ap (little_number 4) (inside all part at n off 4 is fits)

pub number_inside_at : (all part : List ℕ) (from n off at : ℕ) → bytes_at all from n ≡ part → at ≡ from + off → off + 4 ≤ n → number_at all at ≡ number_at part off
number_inside_at all part from n off at is there fits = ap (number_at all) there ∙ number_inside all part from n off is fits
