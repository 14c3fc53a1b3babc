-- The index of a copy map as a list, and the pages of a capsule as they are read.
use Rattle.std.proofs.Common.{◌≡◌, ◌∙◌, ap, refl, sym, ℕ, zero, suc, ◌+◌, ◌*◌, ◌/◌, ◌%◌, ◌<◌, ◌≤◌, List, [], ◌∷◌, ◌++◌, length, take, replicate, get_or, length-take, All, Ok, arith, ⊎_elim}
use Rattle.std.proofs.lemmas.Bool.{cases_lt}
use Rattle.std.proofs.lemmas.List.{ext_get_or, get_or_append_left, get_or_push, length_push, length-replicate}
use Rattle.std.proofs.lemmas.List.Elements.{All-weaker}
use Rattle.pfr_flash.specs.Bytes.{bytes_at}
use Rattle.pfr_flash.specs.declared.layout.Layout.{Layout}
use Rattle.pfr_manifest.specs.Regions.{IsRegion}
use Rattle.pfr_manifest.specs.declared.region.Region.{Region}
use Rattle.pfr_capsule.specs.Judge.{judge_maps, judge_pages}
use Rattle.pfr_capsule.specs.Maps.{count_before}
use Rattle.pfr_capsule.specs.PageBytes.{EndsInMap}
use Rattle.pfr_capsule.specs.Pages.{HasIndex, copy_map, index_of, indexed, pages_at}
use Rattle.pfr_capsule.specs.declared.page_header.PageHeader.{PageHeader}
use Rattle.pfr_capsule.specs.declared.pages.Pages.{Pages}

length-index_of : (copy : List ℕ) (bits n : ℕ) → length (index_of copy bits n) ≡ n
unfolding index_of
length-index_of copy bits zero = refl
length-index_of copy bits (suc n) = length_push (index_of copy bits n) (indexed copy bits n) ∙ (let rest : length (index_of copy bits n) ≡ n = length-index_of copy bits n in omega arith)

get_or-index_of : (copy : List ℕ) (bits n i : ℕ) → i < n → get_or (index_of copy bits n) i 0 ≡ indexed copy bits i
unfolding index_of
get_or-index_of copy bits zero i h = absurd (omega arith)
get_or-index_of copy bits (suc n) i h = ⊎_elim (λ k. before k (get_or-index_of copy bits n i k)) (λ k. last k) (cases_lt i n)
  where
    long : length (index_of copy bits n) ≡ n
    long = length-index_of copy bits n

    before : i < n → get_or (index_of copy bits n) i 0 ≡ indexed copy bits i → get_or (index_of copy bits n ++ indexed copy bits n ∷ []) i 0 ≡ indexed copy bits i
    before k e = get_or_append_left (index_of copy bits n) (indexed copy bits n ∷ []) 0 i (omega (arith, long)) ∙ e

    last : n ≤ i → get_or (index_of copy bits n ++ indexed copy bits n ∷ []) i 0 ≡ indexed copy bits i
    last k =
        let e : i ≡ n = omega arith in
        rw e (get_or_push (index_of copy bits n) (indexed copy bits n) 0 n long)

-- an index, number by number
pub index_is : (copy before : List ℕ) (bits n : ℕ) → length before ≡ n → ((i : ℕ) → i < n → get_or before i 0 ≡ indexed copy bits i) → before ≡ index_of copy bits n
index_is copy before bits n long each =
    ext_get_or 0 before (index_of copy bits n) (long ∙ sym (length-index_of copy bits n))
    (λ i h. let within : i < n = omega (arith, long, h) in each i within ∙ sym (get_or-index_of copy bits n i within))

-- a front of zeros
pub long_front : (n m : ℕ) → n ≤ m → length {A = ℕ} (take n (replicate m 0)) ≡ n
long_front n m h = length-take n (replicate m 0) ∙ (let long : length {A = ℕ} (replicate m 0) ≡ m = length-replicate m 0 in omega arith)

-- ---- the pages behind a header, as both maps are read
module _ (image : List ℕ) (at : ℕ) (header : PageHeader) (erase copy before : List ℕ)
    (erased : erase ≡ bytes_at image at (header.map_bits / 8)) (copied : copy ≡ bytes_at image (at + header.map_bits / 8) (header.map_bits / 8))
    (each : (i : ℕ) → i < 256 → get_or before i 0 ≡ indexed copy header.map_bits i) where
  -- what is read of them
  found : Pages
  found = record {
    erase_at = at;
    copy_at = at + header.map_bits / 8;
    payload_at = at + header.map_bits / 8 + header.map_bits / 8;
    bits = header.map_bits;
    before = before;
  }

  pub pages_judged : (regions : List Region) → length before ≡ 256 → judge_maps erase copy header.map_bits header.payload_len regions ≡ Ok tt → judge_pages image at header regions ≡ Ok (record {
    erase_at = at;
    copy_at = at + header.map_bits / 8;
    payload_at = at + header.map_bits / 8 + header.map_bits / 8;
    bits = header.map_bits;
    before = before;
  })
  unfolding judge_pages
  pages_judged regions long judged =
      let index = index_is copy before header.map_bits 256 long each in
      rw (← erased, ← copied, judged, ← index) refl

  pub has_index : header.map_bits ≤ 16384 → header.map_bits % 16 ≡ 0 → at + header.map_bits / 8 + header.map_bits / 8 + header.payload_len ≤ length image → header.payload_len ≡ 4096 * count_before copy header.map_bits → HasIndex image (record {
    erase_at = at;
    copy_at = at + header.map_bits / 8;
    payload_at = at + header.map_bits / 8 + header.map_bits / 8;
    bits = header.map_bits;
    before = before;
  })
  has_index few whole inside payload =
      let same : count_before copy header.map_bits ≡ count_before (bytes_at image (at + header.map_bits / 8) (header.map_bits / 8)) header.map_bits = ap (λ (map : List ℕ). count_before map header.map_bits) copied in
      record {
        whole = whole;
        few = few;
        erase_inside = omega (arith, inside);
        copy_inside = omega (arith, inside);
        payload_inside = omega (arith, inside, payload, same);
        index = λ i h. each i h ∙ ap (λ (map : List ℕ). indexed map header.map_bits i) copied;
      }

-- those that are where a header says can be asked for
pub has_pages_at : (image : List ℕ) (at : ℕ) (header : PageHeader) → header.map_bits ≤ 16384 → header.map_bits % 16 ≡ 0 → at + header.map_bits / 8 + header.map_bits / 8 + header.payload_len ≤ length image
    → header.payload_len ≡ 4096 * count_before (copy_map image (pages_at image at header.map_bits)) header.map_bits → HasIndex image (pages_at image at header.map_bits)
has_pages_at image at header few whole inside payload =
    let copy : List ℕ = copy_map image (pages_at image at header.map_bits) in
    has_index image at header (bytes_at image at (header.map_bits / 8)) copy (index_of copy header.map_bits 256) refl refl (get_or-index_of copy header.map_bits 256) few whole inside payload

-- ---- the regions of a bank end within the pages of its maps
pub ends_in_map : (size : ℕ) (layout : Layout) (pages : Pages) (regions : List Region) → size % 65536 ≡ 0 → pages.bits ≡ size / 4096 → All (IsRegion layout size) regions → All (EndsInMap pages) regions
ends_in_map size layout pages regions blocks bits each = All-weaker (IsRegion layout size) (EndsInMap pages) (λ region h. within region h.inside) regions each
  where
    within : (region : Region) → region.end ≤ size → region.end ≤ 4096 * pages.bits
    within region h = omega (arith, h, blocks, bits)
