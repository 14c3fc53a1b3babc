-- Pages one after the other.
use Rattle.std.proofs.Common.{◌≡◌, ℕ, zero, suc, ◌+◌, ◌*◌, ◌<◌, ◌≤◌, ◌^◌, true, false, List, [], length, take, drop, get_or, refl, arith}
use Rattle.std.proofs.lemmas.Bool.{cond-true, cond-false}
use Rattle.std.proofs.lemmas.List.{drop_more, drop_all}
use Rattle.std.proofs.Math.Pow.{pow_mono}
use Rattle.pfr_made.proofs.PagesBits.{value_small}
use Rattle.pfr_made.specs.Pages.{has_byte, use_of, page_bit, bits_of, page_payload}
use Rattle.pfr_description.specs.Described.{BankDescription}
use Rattle.pfr_made.specs.declared.page_map.PageMap.{PageMap}
use Rattle.pfr_made.specs.declared.page_map.PageMap.TheVariants as maps
use Rattle.pfr_description.specs.declared.region.PageUse.TheVariants.{Keep}
use Rattle.pfr_description.specs.declared.region.RegionDescription.{RegionDescription}

two_pow : (n : ℕ) → 2 ^ (suc n) ≡ 2 ^ n * 2
two_pow n = grind arith

bits_below : (part : BankDescription) (map : PageMap) (first n : ℕ) → bits_of part map first n < 2 ^ n
unfolding bits_of
bits_below part map first zero = omega arith
bits_below part map first (suc n) =
    let h = bits_below part map first n in
    let b = value_small (page_bit part map (first + n)) in
    rw (two_pow n) (omega arith)

pub bits_small : (part : BankDescription) (map : PageMap) (first n : ℕ) → n < 8 → bits_of part map first n ≤ 127
bits_small part map first n h =
    let below = bits_below part map first n in
    let most : 2 ^ n ≤ 2 ^ 7 = pow_mono {i = n} {j = 7} (omega arith) in
    omega arith

-- the first region that has the page says its use
pub found_use : (xs : List RegionDescription) (i page : ℕ) (d : RegionDescription) → i < length xs → has_byte (get_or xs i d) (4096 * page) ≡ true
    → use_of (drop i xs) page ≡ (get_or xs i d).pages
unfolding use_of
found_use xs i page d h has = rw (drop_more xs i d h) (cond-true (has_byte (get_or xs i d) (4096 * page)) (get_or xs i d).pages (use_of (drop (i + 1) xs) page) has)

pub next_use : (xs : List RegionDescription) (i page : ℕ) (d : RegionDescription) → i < length xs → has_byte (get_or xs i d) (4096 * page) ≡ false
    → use_of (drop i xs) page ≡ use_of (drop (i + 1) xs) page
unfolding use_of
next_use xs i page d h has = rw (drop_more xs i d h) (cond-false (has_byte (get_or xs i d) (4096 * page)) (get_or xs i d).pages (use_of (drop (i + 1) xs) page) has)

pub no_use : (xs : List RegionDescription) (i page : ℕ) → length xs ≤ i → use_of (drop i xs) page ≡ Keep
unfolding use_of
no_use xs i page h = rw (drop_all i xs h) refl

-- what is brought for a copied page
pub copied_page : (part : BankDescription) (active : List ℕ) (page : ℕ) → page_bit part maps.Copy page ≡ true
    → page_payload part active page ≡ take 4096 (drop (4096 * page) active)
copied_page part active page h = cond-true (page_bit part maps.Copy page) (take 4096 (drop (4096 * page) active)) [] h
