-- The bits of a map that is made: page n has the bit that the description gives it.
use Rattle.std.proofs.Common.{◌≡◌, ◌∙◌, ap, refl, ℕ, zero, suc, ◌+◌, ◌-◌, ◌*◌, ◌/◌, ◌%◌, ◌<◌, ◌≤◌, Bool, true, false, ◌==◌, if◌then◌else◌, [], ◌∷◌, ◌++◌, length, get_or, arith, ⊎_elim}
use Rattle.std.specs.Int.{bit_at}
use Rattle.std.proofs.lemmas.Bool.{cases_lt}
use Rattle.std.proofs.lemmas.List.{get_or_append_left, get_or_push, length_push}
use Rattle.std.proofs.lemmas.Nat.Bits.{bit_at_lowest, bit_at-suc}
use Rattle.pfr_capsule.specs.Maps.{map_bit}
use Rattle.pfr_description.specs.Described.{BankDescription}
use Rattle.pfr_made.specs.Pages.{page_bit, bits_of, map_bytes}
use Rattle.pfr_made.specs.declared.page_map.PageMap.{PageMap}

-- ---- the bits of a number that grows at its low end
pub value_small : (b : Bool) → (if b then 1 else 0) ≤ 1
value_small true = omega arith
value_small false = omega arith

value_is : (b : Bool) → ((if b then 1 else 0) == 1) ≡ b
value_is true = refl
value_is false = refl

lowest_bit : (n v : ℕ) → v ≤ 1 → bit_at (n * 2 + v) 0 ≡ v
lowest_bit n v h = bit_at_lowest (n * 2 + v) ∙ omega arith

higher_bit : (n v k : ℕ) → v ≤ 1 → bit_at (n * 2 + v) (suc k) ≡ bit_at n k
higher_bit n v k h = bit_at-suc (n * 2 + v) k ∙ (let half : (n * 2 + v) / 2 ≡ n = omega arith in ap (λ (m : ℕ). bit_at m k) half)

-- bit k of so many is that of the page that has k behind it
bit_of_bits : (part : BankDescription) (map : PageMap) (first count k page : ℕ) → k < count → page + k + 1 ≡ first + count
    → bit_at (bits_of part map first count) k ≡ (if page_bit part map page then 1 else 0)
unfolding bits_of
bit_of_bits part map first zero k page h e = absurd (omega arith)
bit_of_bits part map first (suc count) zero page h e =
    let last : first + count ≡ page = omega arith in
    lowest_bit (bits_of part map first count) (if page_bit part map (first + count) then 1 else 0) (value_small (page_bit part map (first + count)))
    ∙ ap (λ (n : ℕ). if page_bit part map n then 1 else 0) last
bit_of_bits part map first (suc count) (suc k) page h e =
    higher_bit (bits_of part map first count) (if page_bit part map (first + count) then 1 else 0) k (value_small (page_bit part map (first + count)))
    ∙ bit_of_bits part map first count k page (omega arith) (omega arith)

-- ---- the bytes of a map
pub length-map_bytes : (part : BankDescription) (map : PageMap) (count : ℕ) → length (map_bytes part map count) ≡ count
unfolding map_bytes
length-map_bytes part map zero = refl
length-map_bytes part map (suc count) =
    let front : length (map_bytes part map count) ≡ count = length-map_bytes part map count in
    length_push (map_bytes part map count) (bits_of part map (8 * count) 8) ∙ omega arith

get_or-map_bytes : (part : BankDescription) (map : PageMap) (count i : ℕ) → i < count → get_or (map_bytes part map count) i 0 ≡ bits_of part map (8 * i) 8
unfolding map_bytes
get_or-map_bytes part map zero i h = absurd (omega arith)
get_or-map_bytes part map (suc count) i h = ⊎_elim (λ k. before k (get_or-map_bytes part map count i k)) (λ k. last k) (cases_lt i count)
  where
    long : length (map_bytes part map count) ≡ count
    long = length-map_bytes part map count

    before : i < count → get_or (map_bytes part map count) i 0 ≡ bits_of part map (8 * i) 8 → get_or (map_bytes part map count ++ bits_of part map (8 * count) 8 ∷ []) i 0 ≡ bits_of part map (8 * i) 8
    before k e = get_or_append_left (map_bytes part map count) (bits_of part map (8 * count) 8 ∷ []) 0 i (omega (arith, long)) ∙ e

    last : count ≤ i → get_or (map_bytes part map count ++ bits_of part map (8 * count) 8 ∷ []) i 0 ≡ bits_of part map (8 * i) 8
    last k =
        let e : i ≡ count = omega arith in
        rw e (get_or_push (map_bytes part map count) (bits_of part map (8 * count) 8) 0 count long)

-- page n of a map of so many bytes
pub map_bit_made : (part : BankDescription) (map : PageMap) (count n : ℕ) → n < 8 * count → map_bit (map_bytes part map count) n ≡ page_bit part map n
unfolding map_bit
map_bit_made part map count n h =
    let within : n / 8 < count = omega arith in
    let byte : get_or (map_bytes part map count) (n / 8) 0 ≡ bits_of part map (8 * (n / 8)) 8 = get_or-map_bytes part map count (n / 8) within in
    let bit : bit_at (bits_of part map (8 * (n / 8)) 8) (7 - n % 8) ≡ (if page_bit part map n then 1 else 0) =
    bit_of_bits part map (8 * (n / 8)) 8 (7 - n % 8) n (omega arith) (omega arith) in
    rw (byte, bit) (value_is (page_bit part map n))
