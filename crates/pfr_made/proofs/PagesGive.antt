-- What the pages of a made capsule give: for a copied page the active image's bytes, for an erased one 0xFF.
use Rattle.std.proofs.Common.{◌≡◌, ◌∙◌, ap, sym, refl, ℕ, zero, suc, ◌+◌, ◌-◌, ◌*◌, ◌/◌, ◌%◌, ◌<◌, ◌≤◌, true, List, length, take, replicate, arith}
use Rattle.std.proofs.lemmas.List.{drop-replicate, take-replicate}
use Rattle.pfr_flash.specs.Bytes.{blank, bytes_at}
use Rattle.pfr_flash.proofs.PartsLemmas.{bytes_at-append, part_of}
use Rattle.pfr_capsule.specs.Maps.{count_before, map_bit}
use Rattle.pfr_capsule.specs.PageBytes.{bytes_of_pages, page_bytes}
use Rattle.pfr_capsule.specs.Pages.{copy_map, erase_map, page_in, page_of, pages_at}
use Rattle.pfr_capsule.specs.declared.pages.Pages.{Pages}
use Rattle.pfr_capsule.proofs.CountLaws.{counted}
use Rattle.pfr_description.specs.Described.{BankDescription}
use Rattle.pfr_description.specs.declared.region.PageUse.{PageUse}
use Rattle.pfr_description.specs.declared.region.PageUse.TheVariants as uses
use Rattle.pfr_made.specs.Capsules.{page_count}
use Rattle.pfr_made.specs.Pages.{has_bit, page_bit, payload_of, use_of}
use Rattle.pfr_made.specs.declared.page_map.PageMap.TheVariants as maps
use Rattle.pfr_made.proofs.PagesBits.{map_bit_made}
use Rattle.pfr_made.proofs.PagesPayload.{length-payload_of, page_brought}
use Rattle.pfr_made.proofs.PagesPlace.{PagesStand, payload_length}

-- ---- pages one behind the other
-- where each of so many pages gives what another image has there, all of them give that image's bytes
pub pages_give : (image active : List ℕ) (pages : Pages) (first count : ℕ) → ((n : ℕ) → first ≤ n → n < first + count → page_bytes image (page_of image pages n) ≡ bytes_at active (4096 * n) 4096)
    → bytes_of_pages image pages first count ≡ bytes_at active (4096 * first) (4096 * count)
unfolding bytes_of_pages
pages_give image active pages first zero each = refl
pages_give image active pages first (suc count) each =
    let before : bytes_of_pages image pages first count ≡ bytes_at active (4096 * first) (4096 * count) = pages_give image active pages first count (λ n low high. each n low (omega (arith, high))) in
    let last : page_bytes image (page_of image pages (first + count)) ≡ bytes_at active (4096 * (first + count)) 4096 = each (first + count) (omega arith) (omega arith) in
    let there : 4096 * (first + count) ≡ 4096 * first + 4096 * count = omega arith in
    let more : 4096 * count + 4096 ≡ 4096 * suc count = omega arith in
    rw (before, last, there, bytes_at-append active (4096 * first) (4096 * count) 4096, more) refl

-- a page of bytes that are all 0xFF
part_of_blanks : (active : List ℕ) (start count off : ℕ) → bytes_at active start count ≡ replicate count 255 → off + 4096 ≤ count → bytes_at active (start + off) 4096 ≡ blank
unfolding blank
part_of_blanks active start count off all fits =
    let enough : 4096 ≤ count - off = omega arith in
    sym (part_of active start count off 4096 fits) ∙ ap (λ (bytes : List ℕ). bytes_at bytes off 4096) all
    ∙ ap (λ (bytes : List ℕ). take 4096 bytes) (drop-replicate off count 255) ∙ take-replicate 4096 (count - off) 255 enough

pub page_of_blanks : (active : List ℕ) (start count page : ℕ) → bytes_at active start count ≡ replicate count 255 → start ≤ 4096 * page → 4096 * page + 4096 ≤ start + count → bytes_at active (4096 * page) 4096 ≡ blank
page_of_blanks active start count page all low high =
    let there : start + (4096 * page - start) ≡ 4096 * page = omega arith in
    let is = part_of_blanks active start count (4096 * page - start) all (omega arith) in
    rw there at is

-- ---- one page of a made capsule
module _ (image active : List ℕ) (at : ℕ) (part : BankDescription) (whole : part.size % 65536 ≡ 0) (long : length active ≡ part.size) (stand : PagesStand image at part active) where
  pub erase_bit : (n : ℕ) → n < page_count part → map_bit (erase_map image (pages_at image (at + 128) (page_count part))) n ≡ page_bit part maps.Erase n
  erase_bit n h = ap (λ (map : List ℕ). map_bit map n) stand.erase ∙ map_bit_made part maps.Erase (page_count part / 8) n (omega (arith, h, whole))

  pub copy_bit : (n : ℕ) → n < page_count part → map_bit (copy_map image (pages_at image (at + 128) (page_count part))) n ≡ page_bit part maps.Copy n
  copy_bit n h = ap (λ (map : List ℕ). map_bit map n) stand.copy ∙ map_bit_made part maps.Copy (page_count part / 8) n (omega (arith, h, whole))

  -- the payload has the copied pages, and no more
  pub payload_counted : payload_length part active ≡ 4096 * count_before (copy_map image (pages_at image (at + 128) (page_count part))) (page_count part)
  payload_counted = length-payload_of part active (copy_map image (pages_at image (at + 128) (page_count part))) (page_count part) copy_bit (page_count part) (omega (arith, long)) (omega arith)

  pub erased_page : (n : ℕ) → n < page_count part → use_of part.regions n ≡ uses.Erase → page_bytes image (page_of image (pages_at image (at + 128) (page_count part)) n) ≡ blank
  unfolding page_in
  erased_page n h is =
      let e = erase_bit n h ∙ ap (λ (x : PageUse). has_bit maps.Erase x) is in
      let c = copy_bit n h ∙ ap (λ (x : PageUse). has_bit maps.Copy x) is in
      rw (e, c) refl

  pub copied_page : (n : ℕ) → n < page_count part → use_of part.regions n ≡ uses.Copy → page_bytes image (page_of image (pages_at image (at + 128) (page_count part)) n) ≡ bytes_at active (4096 * n) 4096
  unfolding page_in
  copied_page n h is =
      let copy : List ℕ = copy_map image (pages_at image (at + 128) (page_count part)) in
      let e = erase_bit n h ∙ ap (λ (x : PageUse). has_bit maps.Erase x) is in
      let bit : page_bit part maps.Copy n ≡ true = ap (λ (x : PageUse). has_bit maps.Copy x) is in
      let c = copy_bit n h ∙ bit in
      let place : ℕ = at + 128 + page_count part / 8 + page_count part / 8 in
      let fits : 4096 * count_before copy n + 4096 ≤ payload_length part active = omega (arith, payload_counted, counted copy n (page_count part) h c) in
      let piece : bytes_at (payload_of part active (page_count part)) (4096 * count_before copy n) 4096 ≡ bytes_at active (4096 * n) 4096 = page_brought part active copy (page_count part) copy_bit (page_count part) n h (omega (arith, long)) (omega arith) bit in
      rw (e, c) (sym (part_of image place (payload_length part active) (4096 * count_before copy n) 4096 fits) ∙ ap (λ (bytes : List ℕ). bytes_at bytes (4096 * count_before copy n) 4096) stand.payload ∙ piece)
