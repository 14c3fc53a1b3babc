-- The pages that are made of a description serve its regions, and their header is right.
use Rattle.std.proofs.Common.{◌≡◌, ◌∙◌, ap, sym, refl, ℕ, ◌+◌, ◌-◌, ◌*◌, ◌/◌, ◌<◌, ◌≤◌, Bool, true, false, not, ◌&&◌, is_some, List, length, get_or, map, replicate, All, Option, Some, None, Ok, arith}
use Rattle.std.proofs.lemmas.List.Elements.{All-map}
use Rattle.std.proofs.lemmas.Bool.{and_from}
use Rattle.sha2.specs.Sha256.{sha256}
use Rattle.sha2.specs.Sha512.{sha384}
use Rattle.pfr_flash.specs.Bytes.{blank, bytes_at}
use Rattle.pfr_manifest.specs.Hashes.{HasHash, bytes_between}
use Rattle.pfr_capsule.specs.Good.{Serves}
use Rattle.pfr_capsule.specs.Maps.{IsCovered}
use Rattle.pfr_capsule.specs.PageBytes.{IsCoherent, page_bytes, region_bytes}
use Rattle.pfr_capsule.specs.PageHeader.{HasHeader, page_header_of}
use Rattle.pfr_capsule.specs.Pages.{copy_map, erase_map, page_of, pages_at}
use Rattle.pfr_capsule.specs.declared.page_header.PageHeader.{PageHeader}
use Rattle.pfr_capsule.specs.declared.pages.Pages.{Pages}
use Rattle.pfr_capsule.proofs.CountLaws.{count_le}
use Rattle.pfr_description.specs.Sound.{IsBrought}
use Rattle.pfr_description.specs.Tables.{is_kept}
use Rattle.pfr_description.specs.Described.{BankDescription}
use Rattle.pfr_description.specs.declared.region.HashKind.{HashKind}
use Rattle.pfr_description.specs.declared.region.HashKind.TheVariants.{Sha256, Sha384}
use Rattle.pfr_description.specs.declared.region.PageUse.{PageUse}
use Rattle.pfr_description.specs.declared.region.PageUse.TheVariants as uses
use Rattle.pfr_description.specs.declared.region.RegionDescription.{RegionDescription}
use Rattle.pfr_made.specs.Capsules.{page_count, pages_bytes}
use Rattle.pfr_made.specs.Images.{is_blank, is_erased_only}
use Rattle.pfr_made.specs.Judge.{IsPlaced}
use Rattle.pfr_made.specs.Manifests.{hash_of, region_of}
use Rattle.pfr_made.specs.Pages.{has_bit, use_of}
use Rattle.pfr_made.specs.Entries.{judge_entries}
use Rattle.pfr_made.specs.declared.page_map.PageMap.TheVariants as maps
use Rattle.pfr_made.proofs.ManifestMadeRegions.{has_hash_of}
use Rattle.pfr_made.proofs.PagesGive.{copied_page, copy_bit, erase_bit, erased_page, page_of_blanks, pages_give, payload_counted}
use Rattle.pfr_made.proofs.PagesHeader.{header_read, header_with}
use Rattle.pfr_made.proofs.PagesPlace.{PagesStand, length-pages_bytes, pages_stand, payload_length}
use Rattle.pfr_made.proofs.PagesUse.{IsWhole, entries_ordered, in_region, region_at, use_is}

-- a region whose pages are only erased, and that has a hash, is 0xFF in the active image
abbrev pub IsBlanked : List ℕ → RegionDescription → Type 0
IsBlanked active region = is_blank region ≡ true → bytes_between active region.start region.end ≡ replicate (region.end - region.start) 255

-- the header that is made
abbrev pub made_header : BankDescription → List ℕ → PageHeader
made_header part active = header_with (page_count part) (payload_length part active)

-- ---- regions with a hash
hash_made : (kind : Option HashKind) (made bytes : List ℕ) → (is_some kind ≡ true → made ≡ bytes) → HasHash made (hash_of kind bytes)
hash_made None made bytes h = tt
hash_made (Some Sha256) made bytes h = ap sha256 (h refl)
hash_made (Some Sha384) made bytes h = ap sha384 (h refl)

not_kept : (hashed : Bool) (pages : PageUse) → not (hashed && is_kept pages) ≡ true → hashed ≡ true → is_kept pages ≡ false
not_kept true uses.Copy h k = refl
not_kept true uses.Erase h k = refl
not_kept true uses.Keep h k = absurd cc
not_kept false pages h k = absurd cc

-- ---- the uses of a page
erased_too : (pages : PageUse) → has_bit maps.Copy pages ≡ true → has_bit maps.Erase pages ≡ true
erased_too uses.Copy h = refl
erased_too uses.Erase h = absurd cc
erased_too uses.Keep h = absurd cc

erased_unless_kept : (pages : PageUse) → is_kept pages ≡ false → has_bit maps.Erase pages ≡ true
erased_unless_kept uses.Copy h = refl
erased_unless_kept uses.Erase h = refl
erased_unless_kept uses.Keep h = absurd cc

module _ (image active : List ℕ) (at : ℕ) (part : BankDescription) (sized : length image ≡ part.size) (long : length active ≡ part.size) (placed : IsPlaced part)
    (stands : bytes_at image at (length (pages_bytes part active)) ≡ pages_bytes part active) where
  stand : PagesStand image at part active
  stand = pages_stand image at part active stands

  -- the maps have a bit for each page of the bank
  bits_whole : 4096 * page_count part ≡ part.size
  bits_whole = omega (arith, placed.size.blocks)

  -- the header says what stands behind it
  pub header_made : HasHeader image at (at + length (pages_bytes part active)) (made_header part active)
  header_made =
      let short : payload_length part active ≤ part.size = omega (arith, payload_counted image active at part placed.size.blocks long stand, bits_whole, count_le (copy_map image (pages_at image (at + 128) (page_count part))) (page_count part)) in
      let all = length-pages_bytes part active in
      record {
        within = omega (arith, all);
        spelled = sym (header_read (page_count part) (payload_length part active) (omega (arith, placed.size.most)) (omega (arith, short, placed.size.most))) ∙ ap page_header_of (sym stand.header);
        constants = record { magic = refl; version = refl; page_size = refl; pattern_size = refl; pattern = refl };
        map_bits = ap (λ (n : ℕ). n / 4096) (sym sized);
        fills = omega (arith, all);
      }

  -- a page by its use
  page_by_use : (page : ℕ) (pages : PageUse) → page < page_count part → use_of part.regions page ≡ pages → is_kept pages ≡ false → (pages ≡ uses.Erase → bytes_at active (4096 * page) 4096 ≡ blank)
      → page_bytes image (page_of image (pages_at image (at + 128) (page_count part)) page) ≡ bytes_at active (4096 * page) 4096
  page_by_use page uses.Copy inside is kept blanks = copied_page image active at part placed.size.blocks long stand page inside is
  page_by_use page uses.Erase inside is kept blanks = erased_page image active at part placed.size.blocks long stand page inside is ∙ sym (blanks refl)
  page_by_use page uses.Keep inside is kept blanks = absurd cc

  -- ---- a region whose pages have its use
  module _ (region : RegionDescription) (whole : IsWhole part.size region) (used : (page : ℕ) → region.start ≤ 4096 * page → 4096 * page < region.end → use_of part.regions page ≡ region.pages)
      (brought : IsBrought region) (blanked : IsBlanked active region) where
    -- each page of it is erased, if it has a hash
    region_covered : IsCovered (erase_map image (pages_at image (at + 128) (page_count part))) (page_count part) (region_of active region)
    unfolding region_of
    region_covered static page inside lies =
        let hashed : is_some region.hash ≡ true = sym (has_hash_of region.hash (bytes_between active region.start region.end)) ∙ static in
        erase_bit image active at part placed.size.blocks long stand page inside ∙ ap (λ (pages : PageUse). has_bit maps.Erase pages) (used page lies.low lies.high)
        ∙ erased_unless_kept region.pages (not_kept (is_some region.hash) region.pages brought hashed)

    -- and gives what the active image has there
    page_given : is_some region.hash ≡ true → (page : ℕ) → region.start ≤ 4096 * page → 4096 * page + 4096 ≤ region.end
        → page_bytes image (page_of image (pages_at image (at + 128) (page_count part)) page) ≡ bytes_at active (4096 * page) 4096
    page_given hashed page low high =
        page_by_use page region.pages (omega (arith, bits_whole, whole.inside)) (used page low (omega arith)) (not_kept (is_some region.hash) region.pages brought hashed)
        (λ is. page_of_blanks active region.start (region.end - region.start) page (blanked (and_from _ _ hashed (ap is_erased_only is))) low (omega (arith, whole.some)))

    region_given : is_some region.hash ≡ true → region_bytes image (pages_at image (at + 128) (page_count part)) (region_of active region) ≡ bytes_between active region.start region.end
    unfolding region_of
    region_given hashed =
        let first : ℕ = region.start / 4096 in
        let count : ℕ = region.end / 4096 - region.start / 4096 in
        let begins : 4096 * first ≡ region.start = omega (arith, whole.start_aligned) in
        let ends : 4096 * count ≡ region.end - region.start = omega (arith, whole.start_aligned, whole.end_aligned, whole.some) in
        rw (begins, ends) at (pages_give image active (pages_at image (at + 128) (page_count part)) first count
        (λ page low high. page_given hashed page (omega (arith, begins)) (omega (arith, begins, ends, whole.some))))

    region_coherent : IsCoherent image (pages_at image (at + 128) (page_count part)) (region_of active region)
    unfolding region_of
    region_coherent = hash_made region.hash (region_bytes image (pages_at image (at + 128) (page_count part)) (region_of active region)) (bytes_between active region.start region.end) region_given

  -- ---- all regions of the description
  module _ (judged : judge_entries part ≡ Ok tt) (brought : All IsBrought part.regions) (blanked : All (IsBlanked active) part.regions) where
    used_by : (k : ℕ) (d : RegionDescription) → k < length part.regions → (page : ℕ) → (get_or part.regions k d).start ≤ 4096 * page → 4096 * page < (get_or part.regions k d).end
        → use_of part.regions page ≡ (get_or part.regions k d).pages
    used_by k d h page low high = use_is 0 part.size part.regions k page d (entries_ordered part judged) h low high

    whole_at : (k : ℕ) (d : RegionDescription) → k < length part.regions → IsWhole part.size (get_or part.regions k d)
    whole_at k d h = (region_at 0 part.size part.regions k d (entries_ordered part judged) h).0

    -- The pages serve the regions of the manifest that is made.
    pub serves_made : Serves image (pages_at image (at + 128) (page_count part)) (payload_length part active) (map (region_of active) part.regions)
    serves_made =
        let pages : Pages = pages_at image (at + 128) (page_count part) in
        record {
          erased = λ n h copied. erase_bit image active at part placed.size.blocks long stand n h ∙ erased_too (use_of part.regions n) (sym (copy_bit image active at part placed.size.blocks long stand n h) ∙ copied);
          within_regions = λ n h erased. in_region active part.regions n (sym (erase_bit image active at part placed.size.blocks long stand n h) ∙ erased);
          payload = payload_counted image active at part placed.size.blocks long stand;
          covered = All-map (IsCovered (erase_map image pages) (page_count part)) (region_of active) part.regions
              (λ k d h. region_covered (get_or part.regions k d) (whole_at k d h) (used_by k d h) (brought k d h) (blanked k d h));
          coherent = All-map (IsCoherent image pages) (region_of active) part.regions
              (λ k d h. region_coherent (get_or part.regions k d) (whole_at k d h) (used_by k d h) (brought k d h) (blanked k d h));
        }
