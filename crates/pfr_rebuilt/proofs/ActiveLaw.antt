-- Once a good capsule is applied, the manifest area and the static regions hold what it gives.
use Rattle.std.proofs.Common.{◌≡◌, ◌∙◌, ap, sym, refl, arith, ℕ, suc, zero, ◌+◌, ◌-◌, ◌*◌, ◌/◌, ◌≤◌, ◌<◌, ◌%◌, ◌==◌, ◌&&◌, ◌||◌, not, Bool, true, false, if◌then◌else◌, List, [], ◌∷◌, length, get_or, All, filter, ◌⊎◌, inl, inr}
use Rattle.std.specs.Int.{bit_at}
use Rattle.std.specs.List.{list_any}
use Rattle.std.proofs.lemmas.Bool.{cases_lt, and_from, or_left, or_right, false≢true}
use Rattle.std.proofs.lemmas.Bool.Decides.{nat_tests}
use Rattle.std.proofs.lemmas.List.{ext_get_or, get_or_past}
use Rattle.pfr_flash.specs.Bytes.{AreBytes, blank, bytes_at}
use Rattle.pfr_flash.specs.Layout.{IsValidLayout}
use Rattle.pfr_flash.specs.declared.layout.Layout.{Layout}
use Rattle.pfr_flash.proofs.AreBytesLemmas.{AreBytes-bytes_at}
use Rattle.pfr_flash.proofs.BytesLemmas.{length-bytes_at, get_or-bytes_at, length-blank, get_or-blank}
use Rattle.pfr_manifest.specs.Hashes.{bytes_between}
use Rattle.pfr_manifest.specs.Regions.{IsRegion, is_static}
use Rattle.pfr_manifest.specs.declared.region.Region.{Region}
use Rattle.pfr_capsule.specs.CapsuleState.{CapsuleState}
use Rattle.pfr_capsule.specs.Maps.{IsPageOf, IsCovered, has_page, in_some_region, map_bit, count_before}
use Rattle.pfr_capsule.specs.PageBytes.{page_bytes, region_bytes}
use Rattle.pfr_capsule.specs.Pages.{HasIndex, erase_map, copy_map, page_in, page_of}
use Rattle.pfr_capsule.specs.declared.pages.Page.TheVariants.{Keep, Blank, Copy}
use Rattle.pfr_capsule.proofs.CountLaws.{counted}
use Rattle.pfr_capsule.proofs.RegionBytesLaw.{region_holds}
use Rattle.pfr_jobs.specs.declared.job.JobKind.{JobKind}
use Rattle.pfr_jobs.specs.declared.job.JobKind.TheVariants.{ActiveFromRecovery, ActiveFromStaging, RecoveryFromStaging}
use Rattle.pfr_flash.specs.Operation.{play}
use Rattle.pfr_strokes.specs.Strokes.{strokes_of}
use Rattle.pfr_strokes.specs.Replaced.{IsPage}
use Rattle.pfr_strokes.proofs.ReplacedLaws.{AllCan, IsOneOf, ArePagesBelow, pages_are, length-replaced, replaced_inside, strokes_replace}
use Rattle.pfr_rebuilt.specs.Copying.{text_page, holds_text}
use Rattle.pfr_rebuilt.specs.ActiveCopying.{is_taken, is_kept, is_active_page, active_pages, active_page, active_rebuilt}
use Rattle.pfr_rebuilt.proofs.CopiedLaw.{text_fills, text_stands}

-- ---- tests
any_kept : (p test : Region → Bool) (regions : List Region) (k : ℕ) (d : Region) → k < length regions → p (get_or regions k d) ≡ true → test (get_or regions k d) ≡ true → list_any test (filter p regions) ≡ true
any_kept p test [] k d h passes is = absurd (omega arith)
any_kept p test (r ∷ others) zero d h passes is = rw passes (or_left (test r) (list_any test (filter p others)) is)
any_kept p test (r ∷ others) (suc k) d h passes is = by_test (p r) (any_kept p test others k d (omega arith) passes is)
  where
    by_test : (b : Bool) → list_any test (filter p others) ≡ true → list_any test (if b then r ∷ filter p others else filter p others) ≡ true
    by_test true rest = or_right (test r) (list_any test (filter p others)) rest
    by_test false rest = rest

static_taken : (kind : JobKind) (region : Region) → ¬ (kind ≡ RecoveryFromStaging) → is_static region ≡ true → is_taken kind region ≡ true
static_taken (ActiveFromRecovery level) region active h = or_left (is_static region) (bit_at region.mask (level + 1) == 1) h
static_taken (ActiveFromStaging dynamic) region active h = or_left (is_static region) dynamic h
static_taken RecoveryFromStaging region active h = absurd (active refl)

-- ---- a page of the capsule
-- one that isn't left gives a page's bytes
module _ (image : List ℕ) (bytes : AreBytes image) where
  blank_fills : IsPage blank
  blank_fills = record { whole = length-blank; small = λ i. blank_small i (cases_lt i 4096) }
    where
      blank_small : (i : ℕ) → (i < 4096) ⊎ (4096 ≤ i) → get_or blank i 0 < 256
      blank_small i (inl h) = omega (arith, get_or-blank i h)
      blank_small i (inr h) = omega (arith, get_or_past blank i 0 (omega (arith, h, length-blank)))

  part_fills : (at : ℕ) → at + 4096 ≤ length image → IsPage (bytes_at image at 4096)
  part_fills at inside = record {
    whole = length-bytes_at image at 4096 inside;
    small = AreBytes-bytes_at image at 4096 bytes;
  }

  gives : (erased copied : Bool) (at : ℕ) → (copied ≡ true → at + 4096 ≤ length image)
      → is_kept (if erased then (if copied then Copy at else Blank) else Keep) ≡ false → IsPage (page_bytes image (if erased then (if copied then Copy at else Blank) else Keep))
  gives true true at inside h = part_fills at (inside refl)
  gives true false at inside h = blank_fills
  gives false copied at inside h = absurd (false≢true (sym h))

  pub page_gives : (capsule : CapsuleState) (n : ℕ) → HasIndex image capsule.pages → n < capsule.pages.bits → is_kept (page_of image capsule.pages n) ≡ false → IsPage (page_bytes image (page_of image capsule.pages n))
  unfolding page_in
  page_gives capsule n index below h =
      let pages = capsule.pages in
      gives (map_bit (erase_map image pages) n) (map_bit (copy_map image pages) n) (pages.payload_at + 4096 * count_before (copy_map image pages) n)
      (λ copied. omega (arith, index.payload_inside, counted (copy_map image pages) n pages.bits below copied)) h

-- an erased page isn't left
erased_not_kept : (image : List ℕ) (capsule : CapsuleState) (n : ℕ) → map_bit (erase_map image capsule.pages) n ≡ true → is_kept (page_of image capsule.pages n) ≡ false
unfolding page_in
erased_not_kept image capsule n h = rw h (by_copy (map_bit (copy_map image capsule.pages) n))
  where
    by_copy : (b : Bool) → is_kept (if b then Copy (capsule.pages.payload_at + 4096 * count_before (copy_map image capsule.pages) n) else Blank) ≡ false
    by_copy true = refl
    by_copy false = refl

-- there are no more of the job's pages than pages
pub active_few : (kind : JobKind) (image : List ℕ) (capsule : CapsuleState) (layout : Layout) → length (active_pages kind image capsule layout) ≤ length image / 4096
unfolding active_pages
active_few kind image capsule layout = (pages_are (is_active_page kind image capsule layout) (length image / 4096)).few

-- ---- the image as a job leaves it
module _ (kind : JobKind) (active : ¬ (kind ≡ RecoveryFromStaging)) (image : List ℕ) (capsule : CapsuleState) (layout : Layout) (valid : IsValidLayout layout (length image)) (blocks : length image % 65536 ≡ 0)
    (bytes : AreBytes image) (index : HasIndex image capsule.pages) (bits : capsule.pages.bits ≡ length image / 4096)
    (manifest_inside : capsule.signed_manifest.at + capsule.signed_manifest.len ≤ length image) (manifest_fits : capsule.signed_manifest.len ≤ layout.manifest_len)
    (regions : All (IsRegion layout (length image)) capsule.manifest.regions) (covered : All (IsCovered (erase_map image capsule.pages) capsule.pages.bits) capsule.manifest.regions) where
  text : List ℕ
  text = bytes_at image capsule.signed_manifest.at capsule.signed_manifest.len

  text_long : length text ≡ capsule.signed_manifest.len
  unfolding text
  text_long = length-bytes_at image capsule.signed_manifest.at capsule.signed_manifest.len manifest_inside

  text_small : AreBytes text
  unfolding text
  text_small = AreBytes-bytes_at image capsule.signed_manifest.at capsule.signed_manifest.len bytes

  found : ArePagesBelow (is_active_page kind image capsule layout) (length image / 4096) (active_pages kind image capsule layout)
  unfolding active_pages
  found = pages_are (is_active_page kind image capsule layout) (length image / 4096)

  -- each of the pages can be replaced
  fills : (n : ℕ) → n < length image / 4096 → is_active_page kind image capsule layout n ≡ true → IsPage (active_page image capsule layout n)
  unfolding is_active_page active_page text
  fills n below h = by_area (holds_text layout.manifest_at layout.manifest_len n) (is_kept (page_of image capsule.pages n)) refl h
    where
      by_area : (area kept : Bool) → is_kept (page_of image capsule.pages n) ≡ kept → (area || (in_some_region (filter (λ (region : Region). is_taken kind region) capsule.manifest.regions) n && not kept)) ≡ true
          → IsPage (if area then text_page (bytes_at image capsule.signed_manifest.at capsule.signed_manifest.len) (4096 * n - layout.manifest_at) else page_bytes image (page_of image capsule.pages n))
      by_area true kept e h = text_fills text text_small (4096 * n - layout.manifest_at)
      by_area false false e h = page_gives image bytes capsule n index (omega (arith, bits, below)) e
      by_area false true e h = absurd (no_and (in_some_region (filter (λ (region : Region). is_taken kind region) capsule.manifest.regions) n) h)
        where
          no_and : (b : Bool) → (b && false) ≡ true → ⊥
          no_and true k = false≢true k
          no_and false k = false≢true k

  all_can : (list : List ℕ) → ((n : ℕ) → IsOneOf n list → (n < length image / 4096) × (is_active_page kind image capsule layout n ≡ true)) → AllCan (length image) (active_page image capsule layout) list
  all_can [] each = tt
  all_can (n ∷ list) each =
      let e = each n (inl refl) in
      (record { inside = omega (arith, e.0); fills = fills n e.0 e.1 }, all_can list (λ m one. each m (inr one)))

  -- the strokes of the pages leave the image so
  pub active_played : play image (strokes_of (active_page image capsule layout) (active_pages kind image capsule layout)) ≡ active_rebuilt kind image capsule layout
  active_played = strokes_replace image (active_page image capsule layout) (active_pages kind image capsule layout) (all_can (active_pages kind image capsule layout) (λ m there. found.only m there))

  size : length (active_rebuilt kind image capsule layout) ≡ length image
  size = length-replaced image (active_page image capsule layout) (active_pages kind image capsule layout)

  page_byte : (n r : ℕ) → n < length image / 4096 → is_active_page kind image capsule layout n ≡ true → r < 4096
      → get_or (active_rebuilt kind image capsule layout) (4096 * n + r) 0 ≡ get_or (active_page image capsule layout n) r 0
  page_byte n r below one short =
      replaced_inside image (active_page image capsule layout) (active_pages kind image capsule layout) n r
      (all_can (active_pages kind image capsule layout) (λ m there. found.only m there)) found.rising (found.all n below one) short

  -- The manifest area begins with the signed manifest.
  manifest_byte : (i : ℕ) → i < capsule.signed_manifest.len → get_or (active_rebuilt kind image capsule layout) (layout.manifest_at + i) 0 ≡ get_or image (capsule.signed_manifest.at + i) 0
  unfolding is_active_page active_page text
  manifest_byte i h =
      let at : ℕ = layout.manifest_at in
      let n : ℕ = (at + i) / 4096 in
      let r : ℕ = (at + i) % 4096 in
      let split : 4096 * n + r ≡ at + i = omega arith in
      let short : r < 4096 = omega arith in
      let low : at ≤ 4096 * n = omega (arith, valid.aligned.manifest_at) in
      let high : 4096 * n < at + layout.manifest_len = omega (arith, h, manifest_fits) in
      let below : n < length image / 4096 = omega (arith, h, manifest_fits, valid.inside.manifest, valid.aligned.manifest_at, valid.aligned.manifest_len) in
      let holds : holds_text layout.manifest_at layout.manifest_len n ≡ true = grind (arith, nat_tests) in
      let off : 4096 * n - at + r ≡ i = omega (arith, low, split) in
      let one : is_active_page kind image capsule layout n ≡ true = or_left (holds_text layout.manifest_at layout.manifest_len n) _ holds in
      let is : active_page image capsule layout n ≡ text_page text (4096 * n - at) = ap (λ (b : Bool). if b then text_page text (4096 * n - at) else page_bytes image (page_of image capsule.pages n)) holds in
      ap (λ (k : ℕ). get_or (active_rebuilt kind image capsule layout) k 0) (sym split)
      ∙ page_byte n r below one short
      ∙ ap (λ (xs : List ℕ). get_or xs r 0) is
      ∙ text_stands text text_small (4096 * n - at) r short (omega (arith, off, h, text_long))
      ∙ ap (λ (k : ℕ). get_or text k 0) off
      ∙ get_or-bytes_at image capsule.signed_manifest.at capsule.signed_manifest.len i 0 h

  pub manifest_copied : bytes_at image capsule.signed_manifest.at capsule.signed_manifest.len ≡ bytes_at (active_rebuilt kind image capsule layout) layout.manifest_at capsule.signed_manifest.len
  manifest_copied =
      let new : List ℕ = active_rebuilt kind image capsule layout in
      let len : ℕ = capsule.signed_manifest.len in
      let from : length (bytes_at image capsule.signed_manifest.at len) ≡ len = length-bytes_at image capsule.signed_manifest.at len manifest_inside in
      let to : length (bytes_at new layout.manifest_at len) ≡ len = length-bytes_at new layout.manifest_at len (omega (arith, size, manifest_fits, valid.inside.manifest)) in
      ext_get_or 0 (bytes_at image capsule.signed_manifest.at len) (bytes_at new layout.manifest_at len) (from ∙ sym to) (λ i below.
      let h : i < len = omega (arith, below, from) in
      get_or-bytes_at image capsule.signed_manifest.at len i 0 h ∙ sym (manifest_byte i h) ∙ sym (get_or-bytes_at new layout.manifest_at len i 0 h))

  -- ---- a static region
  module _ (k : ℕ) (d : Region) (h : k < length capsule.manifest.regions) (static : is_static (get_or capsule.manifest.regions k d) ≡ true) where
    region : Region
    region = get_or capsule.manifest.regions k d

    region_page : (n : ℕ) → IsPageOf (get_or capsule.manifest.regions k d) n
        → bytes_at (active_rebuilt kind image capsule layout) (4096 * n) 4096 ≡ page_bytes image (page_of image capsule.pages n)
    unfolding is_active_page active_page
    region_page n p =
        let r : Region = get_or capsule.manifest.regions k d in
        let new : List ℕ = active_rebuilt kind image capsule layout in
        let is_region : IsRegion layout (length image) (get_or capsule.manifest.regions k d) = regions k d h in
        let below : n < length image / 4096 = omega (arith, p.high, is_region.inside, is_region.end_aligned) in
        let erased : map_bit (erase_map image capsule.pages) n ≡ true = covered k d h static n (omega (arith, bits, below)) p in
        let not_kept : is_kept (page_of image capsule.pages n) ≡ false = erased_not_kept image capsule n erased in
        let has : has_page (get_or capsule.manifest.regions k d) n ≡ true = grind (arith, nat_tests) in
        let some : in_some_region (filter (λ (region : Region). is_taken kind region) capsule.manifest.regions) n ≡ true =
        any_kept (λ (region : Region). is_taken kind region) (λ (region : Region). has_page region n) capsule.manifest.regions k d h (static_taken kind (get_or capsule.manifest.regions k d) active static) has in
        let one : is_active_page kind image capsule layout n ≡ true =
        or_right (holds_text layout.manifest_at layout.manifest_len n) _ (and_from _ (not (is_kept (page_of image capsule.pages n))) some (ap not not_kept)) in
        let outside : holds_text layout.manifest_at layout.manifest_len n ≡ false = not_held n p.low p.high is_region.clear_of_manifest in
        let is : active_page image capsule layout n ≡ page_bytes image (page_of image capsule.pages n) =
        ap (λ (b : Bool). if b then text_page (bytes_at image capsule.signed_manifest.at capsule.signed_manifest.len) (4096 * n - layout.manifest_at) else page_bytes image (page_of image capsule.pages n)) outside in
        let full : IsPage (page_bytes image (page_of image capsule.pages n)) = page_gives image bytes capsule n index (omega (arith, bits, below)) not_kept in
        let long : length (bytes_at new (4096 * n) 4096) ≡ 4096 = length-bytes_at new (4096 * n) 4096 (omega (arith, size, below)) in
        ext_get_or 0 (bytes_at new (4096 * n) 4096) (page_bytes image (page_of image capsule.pages n)) (long ∙ sym full.whole) (λ i under.
        let short : i < 4096 = omega (arith, under, long) in
        get_or-bytes_at new (4096 * n) 4096 i 0 short ∙ page_byte n i below one short ∙ ap (λ (xs : List ℕ). get_or xs i 0) is)
      where
        not_held : (n : ℕ) → (get_or capsule.manifest.regions k d).start ≤ 4096 * n → 4096 * n < (get_or capsule.manifest.regions k d).end → ((get_or capsule.manifest.regions k d).end ≤ layout.manifest_at) ⊎ (layout.manifest_at + layout.manifest_len ≤ (get_or capsule.manifest.regions k d).start)
            → holds_text layout.manifest_at layout.manifest_len n ≡ false
        not_held n low high (inl before) = grind (arith, nat_tests)
        not_held n low high (inr behind) = grind (arith, nat_tests)

    pub region_restored : bytes_between (active_rebuilt kind image capsule layout) (get_or capsule.manifest.regions k d).start (get_or capsule.manifest.regions k d).end ≡ region_bytes image capsule.pages (get_or capsule.manifest.regions k d)
    region_restored =
        let is_region : IsRegion layout (length image) (get_or capsule.manifest.regions k d) = regions k d h in
        region_holds (active_rebuilt kind image capsule layout) image capsule.pages (get_or capsule.manifest.regions k d) is_region.start_aligned is_region.end_aligned (λ n p. region_page n p)
