-- What is read of the maps tells what becomes of a page.
use Rattle.std.proofs.Common.{◌≡◌, ◌∙◌, ap, sym, refl, ℕ, ◌+◌, ◌*◌, ◌/◌, ◌%◌, ◌<◌, ◌≤◌, Bool, true, false, if◌then◌else◌, List, length, drop, get_or, Option, Some, None, arith}
use Rattle.pfr_flash.proofs.PartsLemmas.{part_of}
use Rattle.pfr_flash.specs.Bytes.{bytes_at}
use Rattle.pfr_capsule.specs.Maps.{map_bit, count_before, copied_before}
use Rattle.pfr_capsule.specs.Pages.{HasIndex, erase_map, copy_map, page_in, page_of}
use Rattle.pfr_capsule.specs.declared.pages.Page.TheVariants.{Keep, Blank, Copy}
use Rattle.pfr_capsule.specs.declared.pages.Pages.{Pages}
use Rattle.pfr_capsule.proofs.CountLaws.{bit_of_front, bit_of_rest, count_of_front, count_of_rest, counted}
use Rattle.pfr_capsule.proofs.IndexLaws.{indexed_inside}

-- ---- a part of a map that was read
bit_of_part : (image : List ℕ) (at whole i count m : ℕ) → i + count ≤ whole → m < 8 * count → map_bit (bytes_at image (at + i) count) m ≡ map_bit (bytes_at image at whole) (8 * i + m)
bit_of_part image at whole i count m fits h =
    rw (← part_of image at whole i count fits, bit_of_front (drop i (bytes_at image at whole)) count m h) (sym (bit_of_rest (bytes_at image at whole) i m))

count_of_part : (image : List ℕ) (at whole i count m : ℕ) → i + count ≤ whole → m ≤ 8 * count →
    count_before (bytes_at image at whole) (8 * i) + count_before (bytes_at image (at + i) count) m ≡ count_before (bytes_at image at whole) (8 * i + m)
count_of_part image at whole i count m fits h =
    rw (← part_of image at whole i count fits, count_of_front (drop i (bytes_at image at whole)) count m h) (sym (count_of_rest (bytes_at image at whole) i m))

-- a byte of the erase map
pub erase_bit : (image byte : List ℕ) (pages : Pages) (n : ℕ) (erased : Bool) → HasIndex image pages → n < pages.bits → byte ≡ bytes_at image (pages.erase_at + n / 8) 1 → erased ≡ map_bit byte (n % 8) →
    erased ≡ map_bit (erase_map image pages) n
erase_bit image byte pages n erased index inside read is =
    let fits : n / 8 + 1 ≤ pages.bits / 8 = omega (arith, index.whole) in
    let few : n % 8 < 8 * 1 = omega arith in
    let all : 8 * (n / 8) + n % 8 ≡ n = omega arith in
    let part : map_bit (bytes_at image (pages.erase_at + n / 8) 1) (n % 8) ≡ map_bit (erase_map image pages) (8 * (n / 8) + n % 8) = bit_of_part image pages.erase_at (pages.bits / 8) (n / 8) 1 (n % 8) fits few in
    is ∙ ap (λ (bytes : List ℕ). map_bit bytes (n % 8)) read ∙ part ∙ ap (λ (k : ℕ). map_bit (erase_map image pages) k) all

-- the stretch of the copy map, up to the page
pub copied_in_stretch : (image stretch : List ℕ) (pages : Pages) (n : ℕ) (answer : Option ℕ) → HasIndex image pages → n < pages.bits →
    stretch ≡ bytes_at image (pages.copy_at + n / 64 * 8) (n / 8 % 8 + 1) →
    answer ≡ (if map_bit stretch (n % 64) then Some (get_or pages.before (n / 64) 0 + count_before stretch (n % 64)) else None) →
    answer ≡ copied_before (copy_map image pages) n
copied_in_stretch image stretch pages n answer index inside read is =
    let copy : List ℕ = copy_map image pages in
    let fits : n / 64 * 8 + (n / 8 % 8 + 1) ≤ pages.bits / 8 = omega (arith, index.whole) in
    let few : n % 64 < 8 * (n / 8 % 8 + 1) = omega arith in
    let all : 8 * (n / 64 * 8) + n % 64 ≡ n = omega arith in
    let turned : 8 * (n / 64 * 8) ≡ 64 * (n / 64) = omega arith in
    let bit : map_bit (bytes_at image (pages.copy_at + n / 64 * 8) (n / 8 % 8 + 1)) (n % 64) ≡ map_bit (copy_map image pages) (8 * (n / 64 * 8) + n % 64) =
    bit_of_part image pages.copy_at (pages.bits / 8) (n / 64 * 8) (n / 8 % 8 + 1) (n % 64) fits few in
    let count : count_before (copy_map image pages) (8 * (n / 64 * 8)) + count_before (bytes_at image (pages.copy_at + n / 64 * 8) (n / 8 % 8 + 1)) (n % 64) ≡ count_before (copy_map image pages) (8 * (n / 64 * 8) + n % 64) =
    count_of_part image pages.copy_at (pages.bits / 8) (n / 64 * 8) (n / 8 % 8 + 1) (n % 64) fits (omega arith) in
    let before : get_or pages.before (n / 64) 0 ≡ count_before (copy_map image pages) (64 * (n / 64)) =
    index.index (n / 64) (omega (arith, index.few)) ∙ indexed_inside (copy_map image pages) pages.bits (n / 64) (omega arith) in
    let bit_here : map_bit stretch (n % 64) ≡ map_bit (copy_map image pages) n = ap (λ (bytes : List ℕ). map_bit bytes (n % 64)) read ∙ bit ∙ ap (λ (k : ℕ). map_bit (copy_map image pages) k) all in
    let same : count_before stretch (n % 64) ≡ count_before (bytes_at image (pages.copy_at + n / 64 * 8) (n / 8 % 8 + 1)) (n % 64) = ap (λ (bytes : List ℕ). count_before bytes (n % 64)) read in
    let count_here : get_or pages.before (n / 64) 0 + count_before stretch (n % 64) ≡ count_before (copy_map image pages) n =
    omega (arith, before, same, rw (all, turned) at count) in
    is ∙ ap (λ (b : Bool). if b then Some (get_or pages.before (n / 64) 0 + count_before stretch (n % 64)) else None) bit_here
    ∙ ap (λ (k : ℕ). if map_bit (copy_map image pages) n then Some k else None) count_here

-- ---- what becomes of the page
some_counted : (b : Bool) (x y : ℕ) → Some y ≡ (if b then Some x else None) → (b ≡ true) × (y ≡ x)
some_counted true x y h = (refl, cc)
some_counted false x y h = absurd cc

none_counted : (b : Bool) (x : ℕ) → None ≡ (if b then Some x else None) → b ≡ false
none_counted true x h = absurd cc
none_counted false x h = refl

pub page_kept : (image : List ℕ) (pages : Pages) (n : ℕ) (erased : Bool) → erased ≡ map_bit (erase_map image pages) n → erased ≡ false → Keep ≡ page_of image pages n
unfolding page_in
page_kept image pages n erased is h = let e : map_bit (erase_map image pages) n ≡ false = sym is ∙ h in rw e refl

pub page_blank : (image later : List ℕ) (pages : Pages) (n : ℕ) (erased : Bool) (found : Option ℕ) → later ≡ image → erased ≡ map_bit (erase_map image pages) n → erased ≡ true →
    found ≡ copied_before (copy_map later pages) n → found ≡ None → Blank ≡ page_of image pages n
unfolding page_in
page_blank image later pages n erased found same is h copied none =
    let e : map_bit (erase_map image pages) n ≡ true = sym is ∙ h in
    let f : None ≡ copied_before (copy_map image pages) n = sym none ∙ copied ∙ ap (λ (bytes : List ℕ). copied_before (copy_map bytes pages) n) same in
    rw (e, none_counted (map_bit (copy_map image pages) n) (count_before (copy_map image pages) n) f) refl

counted_page : (image later : List ℕ) (pages : Pages) (n count : ℕ) (found : Option ℕ) → later ≡ image → found ≡ copied_before (copy_map later pages) n → found ≡ Some count →
    (map_bit (copy_map image pages) n ≡ true) × (count ≡ count_before (copy_map image pages) n)
counted_page image later pages n count found same copied some =
    let f : Some count ≡ copied_before (copy_map image pages) n = sym some ∙ copied ∙ ap (λ (bytes : List ℕ). copied_before (copy_map bytes pages) n) same in
    some_counted (map_bit (copy_map image pages) n) (count_before (copy_map image pages) n) count f

pub page_copied : (image later : List ℕ) (pages : Pages) (n count : ℕ) (erased : Bool) (found : Option ℕ) → later ≡ image → erased ≡ map_bit (erase_map image pages) n → erased ≡ true →
    found ≡ copied_before (copy_map later pages) n → found ≡ Some count → Copy (pages.payload_at + count * 4096) ≡ page_of image pages n
unfolding page_in
page_copied image later pages n count erased found same is h copied some =
    let e : map_bit (erase_map image pages) n ≡ true = sym is ∙ h in
    let p : (map_bit (copy_map image pages) n ≡ true) × (count ≡ count_before (copy_map image pages) n) = counted_page image later pages n count found same copied some in
    let place : pages.payload_at + count * 4096 ≡ pages.payload_at + 4096 * count_before (copy_map image pages) n = omega (arith, p.1) in
    rw (e, p.0) (ap (λ (k : ℕ). Copy k) place)

-- its payload lies in the image
pub payload_inside : (image later : List ℕ) (pages : Pages) (n count : ℕ) (found : Option ℕ) → HasIndex image pages → n < pages.bits → later ≡ image →
    found ≡ copied_before (copy_map later pages) n → found ≡ Some count → pages.payload_at + count * 4096 + 4096 ≤ length image
payload_inside image later pages n count found index inside same copied some =
    let p : (map_bit (copy_map image pages) n ≡ true) × (count ≡ count_before (copy_map image pages) n) = counted_page image later pages n count found same copied some in
    omega (arith, p.1, index.payload_inside, counted (copy_map image pages) n pages.bits inside p.0)
