-- What a capsule of a demo brings: no page but those of the static region.
use Rattle.std.proofs.Common.{◌≡◌, ◌∙◌, ap, sym, refl, ℕ, zero, suc, ◌-◌, ◌*◌, ◌<◌, ◌≤◌, Bool, true, false, nat_le, nat_lt, inl, inr, if◌then◌else◌, List, [], length, drop, length-append, arith}
use Rattle.std.proofs.lemmas.Bool.{cases_Bool, cond-true, cond-false, and_parts, leb-true, ltb-true}
use Rattle.std.proofs.lemmas.List.{length-take}
use Rattle.pfr_flash.specs.Bytes.{bytes_at}
use Rattle.pfr_description.specs.Described.{BankDescription}
use Rattle.pfr_description.specs.declared.region.PageUse.TheVariants as uses
use Rattle.pfr_made.specs.Demo.{IsDemoSize, data_region, demo_bank, static_region}
use Rattle.pfr_made.specs.Pages.{has_bit, has_byte, page_bit, page_payload, payload_of, use_of}
use Rattle.pfr_made.specs.declared.page_map.PageMap.TheVariants as maps

by_regions : (a b : Bool) → has_bit maps.Copy (if a then uses.Copy else if b then uses.Erase else uses.Keep) ≡ a
by_regions true b = refl
by_regions false true = refl
by_regions false false = refl

-- the pages that are copied are those of the static region
static_bit : (svn sectors page : ℕ) → page_bit (demo_bank svn sectors) maps.Copy page ≡ has_byte (static_region sectors) (4096 * page)
unfolding use_of demo_bank
static_bit svn sectors page = by_regions (has_byte (static_region sectors) (4096 * page)) (has_byte (data_region sectors) (4096 * page))

copied_static : (svn sectors page : ℕ) → page_bit (demo_bank svn sectors) maps.Copy page ≡ true → (65536 ≤ 4096 * page) × (4096 * page < 1024 * sectors)
copied_static svn sectors page copied =
    let has : has_byte (static_region sectors) (4096 * page) ≡ true = sym (static_bit svn sectors page) ∙ copied in
    let p = and_parts (nat_le 65536 (4096 * page)) (nat_lt (4096 * page) (1024 * sectors)) has in
    (leb-true _ _ p.0, ltb-true _ _ p.1)

page_most : (part : BankDescription) (active : List ℕ) (page : ℕ) → page_bit part maps.Copy page ≡ true → length (page_payload part active page) ≤ 4096
page_most part active page copied =
    let brought : page_payload part active page ≡ bytes_at active (4096 * page) 4096 = cond-true (page_bit part maps.Copy page) (bytes_at active (4096 * page) 4096) [] copied in
    rw brought (omega (arith, length-take 4096 (drop (4096 * page) active)))

page_none : (part : BankDescription) (active : List ℕ) (page : ℕ) → page_bit part maps.Copy page ≡ false → length (page_payload part active page) ≡ 0
page_none part active page left = ap length (cond-false (page_bit part maps.Copy page) (bytes_at active (4096 * page) 4096) [] left)

-- what the first so many pages bring
pub payload_short : (svn sectors : ℕ) (active : List ℕ) (pages : ℕ) → IsDemoSize sectors →
    (length (payload_of (demo_bank svn sectors) active pages) ≤ 4096 * (pages - 16)) × (length (payload_of (demo_bank svn sectors) active pages) ≤ 1024 * sectors - 65536)
unfolding payload_of
payload_short svn sectors active zero size = (omega arith, omega arith)
payload_short svn sectors active (suc pages) size =
    let part : BankDescription = demo_bank svn sectors in
    let before = payload_short svn sectors active pages size in
    let long = length-append (payload_of part active pages) (page_payload part active pages) in
    elim (cases_Bool (page_bit part maps.Copy pages)) [
      | inl copied ↦
          let place = copied_static svn sectors pages copied in
          let most = page_most part active pages copied in
          (omega (arith, long, before.0, most, place.0), omega (arith, long, before.0, most, place.0, place.1, size.sixteens, size.least))
      | inr left ↦
          let none = page_none part active pages left in
          (omega (arith, long, before.0, none), omega (arith, long, before.1, none))
    ]
