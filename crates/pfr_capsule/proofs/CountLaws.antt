-- Counts of the bits of a map: byte by byte, and of a part of it.
use Rattle.std.proofs.Common.{◌≡◌, ◌∙◌, ap, sym, refl, ℕ, zero, suc, ◌+◌, ◌-◌, ◌*◌, ◌/◌, ◌%◌, ◌^◌, ◌<◌, ◌≤◌, Bool, true, false, ◌==◌, if◌then◌else◌, List, take, drop, get_or, arith, add-one, count_ones}
use Rattle.std.specs.Int.{bit_at}
use Rattle.std.proofs.lemmas.List.{get_or-take, get_or-drop}
use Rattle.std.proofs.lemmas.Nat.{shr-shr, ones_le_self}
use Rattle.std.proofs.lemmas.Nat.Bits.{bit_at-lt}
use Rattle.std.proofs.lemmas.Bool.Decides.{nat_tests}
use lib.Count.{ones_step}
use Rattle.pfr_capsule.specs.Maps.{map_bit, count_before}

-- ---- one page more
pub count_more : (map : List ℕ) (n : ℕ) → count_before map (n + 1) ≡ count_before map n + (if map_bit map n then 1 else 0)
unfolding count_before
count_more map n = rw add-one refl

pub count_more_yes : (map : List ℕ) (n : ℕ) → map_bit map n ≡ true → count_before map (n + 1) ≡ count_before map n + 1
count_more_yes map n h = count_more map n ∙ ap (λ (b : Bool). count_before map n + (if b then 1 else 0)) h

pub count_more_no : (map : List ℕ) (n : ℕ) → map_bit map n ≡ false → count_before map (n + 1) ≡ count_before map n
count_more_no map n h = let e : count_before map (n + 1) ≡ count_before map n + 0 = count_more map n ∙ ap (λ (b : Bool). count_before map n + (if b then 1 else 0)) h in omega arith

-- what one page adds is 0 or 1
page_counts : (b : Bool) → (if b then 1 else 0) ≤ 1
page_counts true = omega arith
page_counts false = omega arith

pub count_le : (map : List ℕ) (n : ℕ) → count_before map n ≤ n
unfolding count_before
count_le map zero = omega arith
count_le map (suc n) = omega (arith, count_le map n, page_counts (map_bit map n))

pub count_grows : (map : List ℕ) (n more : ℕ) → count_before map n ≤ count_before map (n + more)
count_grows map n zero = let e : n + zero ≡ n = omega arith in rw e (omega arith)
count_grows map n (suc more) =
    let e : n + suc more ≡ (n + more) + 1 = omega arith in
    rw e (omega (arith, count_grows map n more, count_more map (n + more)))

-- a page that has its bit is counted behind it
pub counted : (map : List ℕ) (n m : ℕ) → n < m → map_bit map n ≡ true → count_before map n + 1 ≤ count_before map m
counted map n m h is =
    let e : (n + 1) + (m - (n + 1)) ≡ m = omega arith in
    let grows : count_before map (n + 1) ≤ count_before map ((n + 1) + (m - (n + 1))) = count_grows map (n + 1) (m - (n + 1)) in
    omega (arith, rw e at grows, count_more_yes map n is)

-- ---- the ones of a byte
ones_above : (byte k : ℕ) → count_ones (byte / 2 ^ k) ≡ bit_at byte k + count_ones (byte / 2 ^ (k + 1))
ones_above byte k = ones_step (byte / 2 ^ k) ∙ ap (λ (n : ℕ). bit_at byte k + count_ones n) (shr-shr byte k 1)

bit_counts : (byte k : ℕ) → (if bit_at byte k == 1 then 1 else 0) ≡ bit_at byte k
bit_counts byte k = grind (arith, nat_tests, bit_at-lt byte k)

bit_in_byte : (map : List ℕ) (i r : ℕ) → r < 8 → map_bit map (8 * i + r) ≡ (bit_at (get_or map i 0) (7 - r) == 1)
unfolding map_bit
bit_in_byte map i r h =
    let q : (8 * i + r) / 8 ≡ i = omega arith in
    let m : (8 * i + r) % 8 ≡ r = omega arith in
    rw (q, m) refl

-- the first bits of a byte are those that a shift leaves
pub count_in_byte : (map : List ℕ) (i r : ℕ) → get_or map i 0 < 256 → r ≤ 8 → count_before map (8 * i + r) ≡ count_before map (8 * i) + count_ones (get_or map i 0 / 2 ^ (8 - r))
count_in_byte map i zero byte h =
    let e : 8 * i + zero ≡ 8 * i = omega arith in
    let none : get_or map i 0 / 2 ^ (8 - zero) ≡ 0 = omega arith in
    rw (e, none) (omega (arith, ones_le_self 0))
count_in_byte map i (suc r) byte h =
    let e : 8 * i + suc r ≡ (8 * i + r) + 1 = omega arith in
    let below : r < 8 = omega arith in
    let before : count_before map (8 * i + r) ≡ count_before map (8 * i) + count_ones (get_or map i 0 / 2 ^ (8 - r)) = count_in_byte map i r byte (omega arith) in
    let above : count_ones (get_or map i 0 / 2 ^ (7 - r)) ≡ bit_at (get_or map i 0) (7 - r) + count_ones (get_or map i 0 / 2 ^ ((7 - r) + 1)) = ones_above (get_or map i 0) (7 - r) in
    let up : (7 - r) + 1 ≡ 8 - r = omega arith in
    let down : 8 - suc r ≡ 7 - r = omega arith in
    let here : (if map_bit map (8 * i + r) then 1 else 0) ≡ bit_at (get_or map i 0) (7 - r) = ap (λ (b : Bool). if b then 1 else 0) (bit_in_byte map i r below) ∙ bit_counts (get_or map i 0) (7 - r) in
    let more : count_before map ((8 * i + r) + 1) ≡ count_before map (8 * i + r) + (if map_bit map (8 * i + r) then 1 else 0) = count_more map (8 * i + r) in
    rw (e, down) (omega (arith, before, rw up at above, here, more))

-- a byte more
pub count_byte : (map : List ℕ) (i : ℕ) → get_or map i 0 < 256 → count_before map (8 * (i + 1)) ≡ count_before map (8 * i) + count_ones (get_or map i 0)
count_byte map i byte =
    let e : 8 * i + 8 ≡ 8 * (i + 1) = omega arith in
    let whole : get_or map i 0 / 2 ^ (8 - 8) ≡ get_or map i 0 = omega arith in
    let is : count_before map (8 * i + 8) ≡ count_before map (8 * i) + count_ones (get_or map i 0 / 2 ^ (8 - 8)) = count_in_byte map i 8 byte (omega arith) in
    rw (e, whole) at is

-- the count of the bytes below a place, and those of the byte there
pub count_and_byte : (map : List ℕ) (limit i count : ℕ) → i < limit → get_or map i 0 < 256 → count ≡ count_before map (8 * i)
    → count + count_ones (get_or (take limit map) i 0) ≡ count_before map (8 * (i + 1))
count_and_byte map limit i count inside byte is = rw (get_or-take limit map i 0 inside, is) (sym (count_byte map i byte))

pub count_and_rest : (map : List ℕ) (n i count : ℕ) → i ≡ n / 8 → get_or map (n / 8) 0 < 256 → count ≡ count_before map (8 * i)
    → count + count_ones (get_or map (n / 8) 0 / 2 ^ (8 - n % 8)) ≡ count_before map n
count_and_rest map n i count here byte is =
    let e : 8 * (n / 8) + n % 8 ≡ n = omega arith in
    let all : count_before map (8 * (n / 8) + n % 8) ≡ count_before map (8 * (n / 8)) + count_ones (get_or map (n / 8) 0 / 2 ^ (8 - n % 8)) = count_in_byte map (n / 8) (n % 8) byte (omega arith) in
    rw (is, here) (sym (rw e at all))

-- ---- a part of a map
pub bit_of_rest : (map : List ℕ) (i m : ℕ) → map_bit map (8 * i + m) ≡ map_bit (drop i map) m
unfolding map_bit
bit_of_rest map i m =
    let q : (8 * i + m) / 8 ≡ i + m / 8 = omega arith in
    let r : (8 * i + m) % 8 ≡ m % 8 = omega arith in
    rw (q, r, get_or-drop i map (m / 8) 0) refl

pub count_of_rest : (map : List ℕ) (i m : ℕ) → count_before map (8 * i + m) ≡ count_before map (8 * i) + count_before (drop i map) m
unfolding count_before
count_of_rest map i zero = let e : 8 * i + zero ≡ 8 * i = omega arith in rw e (omega arith)
count_of_rest map i (suc m) =
    let e : 8 * i + suc m ≡ suc (8 * i + m) = omega arith in
    rw (e, bit_of_rest map i m) (omega (arith, count_of_rest map i m))

pub bit_of_front : (map : List ℕ) (count n : ℕ) → n < 8 * count → map_bit (take count map) n ≡ map_bit map n
unfolding map_bit
bit_of_front map count n h =
    let below : n / 8 < count = omega arith in
    rw (get_or-take count map (n / 8) 0 below) refl

pub count_of_front : (map : List ℕ) (count n : ℕ) → n ≤ 8 * count → count_before (take count map) n ≡ count_before map n
unfolding count_before
count_of_front map count zero h = refl
count_of_front map count (suc n) h =
    let e : count_before (take count map) n ≡ count_before map n = count_of_front map count n (omega arith) in
    let b : map_bit (take count map) n ≡ map_bit map n = bit_of_front map count n (omega arith) in
    rw (e, b) refl
