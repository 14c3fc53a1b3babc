-- Parts of a list of bytes.
use Rattle.std.proofs.Common.{◌≡◌, ℕ, ◌+◌, ◌-◌, ◌≤◌, List, ◌++◌, slice_range, take, drop, append_assoc, sym, ◌∙◌, ap, arith, refl}
use Rattle.std.proofs.Math.Nat.{add-sub_cancel_left}
use Rattle.std.proofs.Math.Seq.{take-add}
use Rattle.std.proofs.lemmas.List.{drop-drop, drop-take, take-take}
use Rattle.byteorder.specs.Endian.{little_number}
use Rattle.pfr_flash.specs.Bytes.{bytes_at}
use Rattle.pfr_flash.specs.Numbers.{little_at, number_at}

-- a slice as so many bytes
pub slice_is : (bytes : List ℕ) (at count : ℕ) → slice_range bytes at (at + count) ≡ bytes_at bytes at count
slice_is bytes at count = rw (add-sub_cancel_left at count) refl

-- a part and the part behind it
pub bytes_at-append : (bytes : List ℕ) (at done count : ℕ) → bytes_at bytes at done ++ bytes_at bytes (at + done) count ≡ bytes_at bytes at (done + count)
bytes_at-append bytes at done count = rw (take-add done count (drop at bytes), drop-drop done at bytes) refl

-- what a hasher holds once the next piece is read
pub joined : (m xs ys piece : List ℕ) (at done count read : ℕ) → ys ≡ xs → read ≡ count → piece ≡ bytes_at ys (at + done) read → (m ++ bytes_at xs at done) ++ piece ≡ m ++ bytes_at xs at (done + count)
joined m xs ys piece at done count read same long is =
    rw (is, same, long, append_assoc, bytes_at-append xs at done count) refl

-- the number that a field of four bytes is
pub number_at_part : (bytes : List ℕ) (at : ℕ) → number_at (bytes_at bytes at 4) 0 ≡ number_at bytes at
unfolding little_at
number_at_part bytes at = ap (little_number 4) (take-take 4 4 (drop at bytes) (omega arith))

-- a part of a part
pub part_of : (bytes : List ℕ) (at n off count : ℕ) → off + count ≤ n → bytes_at (bytes_at bytes at n) off count ≡ bytes_at bytes (at + off) count
part_of bytes at n off count fits =
    let m : ℕ = n - off in
    let is : off + m ≡ n = omega arith in
    let shorter : count ≤ m = omega arith in
    rw (← is, drop-take off m (drop at bytes), take-take count m (drop off (drop at bytes)) shorter, drop-drop off at bytes) refl

-- a number inside of a part
pub number_in_part : (bytes : List ℕ) (at count off : ℕ) → off + 4 ≤ count → number_at (bytes_at bytes at count) off ≡ number_at bytes (at + off)
unfolding little_at
number_in_part bytes at count off fits = ap (little_number 4) (part_of bytes at count off 4 fits)

-- Where two lists have the same bytes from a place each on, they have the same parts there.
pub same_part : (a b : List ℕ) (p q n off count : ℕ) → bytes_at a p n ≡ bytes_at b q n → off + count ≤ n → bytes_at a (p + off) count ≡ bytes_at b (q + off) count
same_part a b p q n off count same fits =
    sym (part_of a p n off count fits) ∙ ap (λ (bytes : List ℕ). bytes_at bytes off count) same ∙ part_of b q n off count fits

pub same_front : (a b : List ℕ) (p q n count : ℕ) → bytes_at a p n ≡ bytes_at b q n → count ≤ n → bytes_at a p count ≡ bytes_at b q count
same_front a b p q n count same fits =
    sym (take-take count n (drop p a) fits) ∙ ap (λ (bytes : List ℕ). take count bytes) same ∙ take-take count n (drop q b) fits
