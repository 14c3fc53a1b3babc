-- The pages of a job lie apart from the capsule that is applied, so what is read of it later is what was there at first.
use Rattle.std.proofs.Common.{◌≡◌, ◌∙◌, ℕ, ◌+◌, ◌-◌, ◌*◌, ◌/◌, ◌≤◌, ◌<◌, ◌%◌, ◌&&◌, ◌||◌, not, Bool, true, false, if◌then◌else◌, refl, sym, ap, subst, arith, List, [], ◌∷◌, length, All, filter, ◌⊎◌, inl, inr}
use Rattle.std.specs.List.{list_any}
use Rattle.std.proofs.lemmas.Bool.{false≢true}
use Rattle.std.proofs.lemmas.Bool.Decides.{nat_tests}
use Rattle.std.proofs.lemmas.List.Elements.{All-head, All-tail}
use Rattle.pfr_flash.specs.Bytes.{AreBytes, bytes_at}
use Rattle.pfr_flash.specs.Layout.{AreApart, IsValidLayout}
use Rattle.pfr_flash.specs.Operation.{play}
use Rattle.pfr_flash.specs.declared.layout.Layout.{Layout}
use Rattle.pfr_flash.proofs.AreBytesLemmas.{AreBytes-bytes_at}
use Rattle.pfr_flash.proofs.PartsLemmas.{same_part}
use Rattle.pfr_flash.proofs.PlayLemmas.{length-play, play-append}
use Rattle.pfr_flash.proofs.RangeLemmas.{SameOutside-play, bytes_at-outside}
use Rattle.pfr_manifest.specs.Regions.{IsRegion, IsClearOf}
use Rattle.pfr_manifest.specs.declared.region.Region.{Region}
use Rattle.pfr_capsule.specs.CapsuleState.{CapsuleState}
use Rattle.pfr_capsule.specs.Lying.{LiesAt}
use Rattle.pfr_capsule.specs.Maps.{count_before, has_page, in_some_region, map_bit}
use Rattle.pfr_capsule.specs.PageBytes.{page_bytes}
use Rattle.pfr_capsule.specs.Pages.{HasIndex, copy_map, erase_map, page_in, page_of, indexed}
use Rattle.pfr_capsule.specs.declared.pages.Page.{Page}
use Rattle.pfr_capsule.specs.declared.pages.Page.TheVariants.{Keep, Blank, Copy}
use Rattle.pfr_capsule.proofs.CountLaws.{counted}
use Rattle.pfr_jobs.specs.declared.job.JobKind.{JobKind}
use Rattle.pfr_strokes.specs.Strokes.{strokes, strokes_of}
use Rattle.pfr_strokes.specs.Replaced.{IsPage}
use Rattle.pfr_strokes.proofs.StrokesLaws.{strokes_within}
use Rattle.pfr_strokes.proofs.ReplacedLaws.{IsOneOf}
use Rattle.pfr_rebuilt.specs.Copying.{holds_text, text_page}
use Rattle.pfr_rebuilt.specs.ActiveCopying.{is_taken, is_kept, is_active_page, active_page}
use Rattle.pfr_rebuilt.proofs.ActiveLaw.{page_gives}
use Rattle.pfr_rebuilt.proofs.CopiedLaw.{text_fills}
use Rattle.pfr_copy.specs.Applying.{CanApply, LiesInArea}

-- ---- what is read of a capsule is the same in both images
pub record SameSources (image later : List ℕ) (capsule : CapsuleState) : Type 0 where
  pub size : length later ≡ length image
  pub text : bytes_at later capsule.signed_manifest.at capsule.signed_manifest.len ≡ bytes_at image capsule.signed_manifest.at capsule.signed_manifest.len
  pub erase : erase_map later capsule.pages ≡ erase_map image capsule.pages
  pub copy : copy_map later capsule.pages ≡ copy_map image capsule.pages
  pub payload : (k : ℕ) → k + 1 ≤ count_before (copy_map image capsule.pages) capsule.pages.bits
      → bytes_at later (capsule.pages.payload_at + 4096 * k) 4096 ≡ bytes_at image (capsule.pages.payload_at + 4096 * k) 4096

same_inside : (image later : List ℕ) (from len at count : ℕ) → bytes_at later from len ≡ bytes_at image from len → from ≤ at → at + count ≤ from + len → bytes_at later at count ≡ bytes_at image at count
same_inside image later from len at count same low high =
    let off : from + (at - from) ≡ at = omega arith in
    subst (λ (n : ℕ). bytes_at later n count ≡ bytes_at image n count) off (same_part later image from from len (at - from) count same (omega arith))

pub sources_same : (image later : List ℕ) (capsule : CapsuleState) (place len : ℕ) → LiesAt image place len capsule → length later ≡ length image → bytes_at later place len ≡ bytes_at image place len
    → SameSources image later capsule
sources_same image later capsule place len lies size same = record {
  size = size;
  text = same_inside image later place len capsule.signed_manifest.at capsule.signed_manifest.len same lies.signed_manifest.low (omega (arith, lies.within, lies.signed_manifest.high));
  erase = same_inside image later place len capsule.pages.erase_at (capsule.pages.bits / 8) same lies.erase.low (omega (arith, lies.within, lies.erase.high));
  copy = same_inside image later place len capsule.pages.copy_at (capsule.pages.bits / 8) same lies.copy.low (omega (arith, lies.within, lies.copy.high));
  payload = λ k few. same_inside image later place len (capsule.pages.payload_at + 4096 * k) 4096 same (omega (arith, lies.payload.low)) (omega (arith, few, lies.within, lies.payload.high));
}

module _ (image later : List ℕ) (capsule : CapsuleState) (layout : Layout) (s : SameSources image later capsule) where
  same_page : (n : ℕ) → page_of later capsule.pages n ≡ page_of image capsule.pages n
  same_page n =
      ap (λ (map : List ℕ). page_in map (copy_map later capsule.pages) capsule.pages.payload_at n) s.erase ∙ ap (λ (map : List ℕ). page_in (erase_map image capsule.pages) map capsule.pages.payload_at n) s.copy

  pub same_test : (kind : JobKind) (n : ℕ) → is_active_page kind later capsule layout n ≡ is_active_page kind image capsule layout n
  unfolding is_active_page
  same_test kind n =
      ap (λ (p : Page). holds_text layout.manifest_at layout.manifest_len n || (in_some_region (filter (λ (region : Region). is_taken kind region) capsule.manifest.regions) n && not (is_kept p))) (same_page n)

  gives_same : (erased copied : Bool) (count : ℕ) → (copied ≡ true → count + 1 ≤ count_before (copy_map image capsule.pages) capsule.pages.bits)
      → page_bytes later (if erased then (if copied then Copy (capsule.pages.payload_at + 4096 * count) else Blank) else Keep) ≡ page_bytes image (if erased then (if copied then Copy (capsule.pages.payload_at + 4096 * count) else Blank) else Keep)
  gives_same true true count few = s.payload count (few refl)
  gives_same true false count few = refl
  gives_same false copied count few = refl

  given_same : (n : ℕ) → n < capsule.pages.bits → page_bytes later (page_of image capsule.pages n) ≡ page_bytes image (page_of image capsule.pages n)
  unfolding page_in
  given_same n below =
      gives_same (map_bit (erase_map image capsule.pages) n) (map_bit (copy_map image capsule.pages) n) (count_before (copy_map image capsule.pages) n)
      (λ copied. counted (copy_map image capsule.pages) n capsule.pages.bits below copied)

  pub same_content : (n : ℕ) → n < capsule.pages.bits → active_page later capsule layout n ≡ active_page image capsule layout n
  unfolding active_page
  same_content n below =
      ap (λ (xs : List ℕ). if holds_text layout.manifest_at layout.manifest_len n then text_page xs (4096 * n - layout.manifest_at) else page_bytes later (page_of later capsule.pages n)) s.text
      ∙ ap (λ (xs : List ℕ). if holds_text layout.manifest_at layout.manifest_len n then text_page (bytes_at image capsule.signed_manifest.at capsule.signed_manifest.len) (4096 * n - layout.manifest_at) else xs)
      (ap (λ (p : Page). page_bytes later p) (same_page n) ∙ given_same n below)

  pub lies_later : (place : ℕ) → LiesAt image place layout.area_len capsule → LiesAt later place layout.area_len capsule
  lies_later place h = record {
    within = h.within;
    signed_manifest = h.signed_manifest;
    erase = h.erase;
    copy = h.copy;
    payload = record { low = h.payload.low; high = omega (arith, h.payload.high, ap (λ (map : List ℕ). count_before map capsule.pages.bits) s.copy) };
  }

  index_later : HasIndex image capsule.pages → HasIndex later capsule.pages
  index_later h = record {
    whole = h.whole;
    few = h.few;
    erase_inside = omega (arith, h.erase_inside, s.size);
    copy_inside = omega (arith, h.copy_inside, s.size);
    payload_inside = omega (arith, h.payload_inside, s.size, ap (λ (map : List ℕ). count_before map capsule.pages.bits) s.copy);
    index = λ i below. h.index i below ∙ ap (λ (map : List ℕ). indexed map capsule.pages.bits i) (sym s.copy);
  }

  -- the capsule can be applied still
  pub can_later : CanApply image layout capsule → CanApply later layout capsule
  can_later h = record {
    valid = subst (λ (size : ℕ). IsValidLayout layout size) (sym s.size) h.valid;
    lies = by_area h.lies;
    index = index_later h.index;
    bits = h.bits ∙ sym s.size;
    regions = subst (λ (size : ℕ). All (IsRegion layout size) capsule.manifest.regions) (sym s.size) h.regions;
  }
    where
      by_area : LiesInArea image layout capsule → LiesInArea later layout capsule
      by_area (inl lies) = inl (lies_later layout.recovery_at lies)
      by_area (inr lies) = inr (lies_later layout.staging_at lies)

-- ---- the strokes of pages that lie apart leave an area
pub record IsPageApart (from len : ℕ) (content : ℕ → List ℕ) (page : ℕ) : Type 0 where
  pub apart : (from + len ≤ 4096 * page) ⊎ (4096 * page + 4096 ≤ from)
  pub whole : length (content page) ≡ 4096

pub strokes_leave : (image : List ℕ) (content : ℕ → List ℕ) (pages : List ℕ) (from len : ℕ) → ((page : ℕ) → IsOneOf page pages → IsPageApart from len content page) → from + len ≤ length image
    → bytes_at (play image (strokes_of content pages)) from len ≡ bytes_at image from len
unfolding strokes_of
strokes_leave image content [] from len each inside = refl
strokes_leave image content (page ∷ pages) from len each inside =
    let here = each page (inl refl) in
    let size : length (play image (strokes page (content page))) ≡ length image = length-play image (strokes page (content page)) in
    ap (λ (xs : List ℕ). bytes_at xs from len) (play-append image (strokes page (content page)) (strokes_of content pages))
    ∙ strokes_leave (play image (strokes page (content page))) content pages from len (λ other one. each other (inr one)) (omega (arith, inside, size))
    ∙ bytes_at-outside (4096 * page) 4096 image (play image (strokes page (content page))) from len
    (SameOutside-play (4096 * page) 4096 image (strokes page (content page)) (strokes_within page (content page) here.whole)) size here.apart inside

-- ---- the pages of a job
-- a page of a taken region lies apart from an area that each region is clear of
region_apart : (place len n : ℕ) (p : Region → Bool) (regions : List Region) → All (λ (r : Region). IsClearOf r place len × (r.end % 4096 ≡ 0)) regions
    → list_any (λ (region : Region). has_page region n) (filter p regions) ≡ true → (place + len ≤ 4096 * n) ⊎ (4096 * n + 4096 ≤ place)
region_apart place len n p [] each some = absurd (false≢true some)
region_apart place len n p (r ∷ others) each some =
    by_taken (p r) some (All-head (λ (r : Region). IsClearOf r place len × (r.end % 4096 ≡ 0)) r others each)
    (region_apart place len n p others (All-tail (λ (r : Region). IsClearOf r place len × (r.end % 4096 ≡ 0)) r others each))
  where
    in_one : has_page r n ≡ true → r.end % 4096 ≡ 0 → IsClearOf r place len → (place + len ≤ 4096 * n) ⊎ (4096 * n + 4096 ≤ place)
    in_one has aligned (inl before) =
        let high : 4096 * n < r.end = grind (arith, nat_tests) in
        inr (omega (arith, high, aligned, before))
    in_one has aligned (inr behind) =
        let low : r.start ≤ 4096 * n = grind (arith, nat_tests) in
        inl (omega (arith, low, behind))

    by_has : (b : Bool) → has_page r n ≡ b → (b || list_any (λ (region : Region). has_page region n) (filter p others)) ≡ true → IsClearOf r place len × (r.end % 4096 ≡ 0)
        → (list_any (λ (region : Region). has_page region n) (filter p others) ≡ true → (place + len ≤ 4096 * n) ⊎ (4096 * n + 4096 ≤ place)) → (place + len ≤ 4096 * n) ⊎ (4096 * n + 4096 ≤ place)
    by_has true e some clear later = in_one e clear.1 clear.0
    by_has false e some clear later = later some

    by_taken : (b : Bool) → list_any (λ (region : Region). has_page region n) (if b then r ∷ filter p others else filter p others) ≡ true → IsClearOf r place len × (r.end % 4096 ≡ 0)
        → (list_any (λ (region : Region). has_page region n) (filter p others) ≡ true → (place + len ≤ 4096 * n) ⊎ (4096 * n + 4096 ≤ place)) → (place + len ≤ 4096 * n) ⊎ (4096 * n + 4096 ≤ place)
    by_taken true some clear later = by_has (has_page r n) refl some clear later
    by_taken false some clear later = later some

module _ (kind : JobKind) (image : List ℕ) (capsule : CapsuleState) (layout : Layout) (can : CanApply image layout capsule) (bytes : AreBytes image) where
  no_and : (b : Bool) → (b && false) ≡ true → ⊥
  no_and true k = false≢true k
  no_and false k = false≢true k

  -- each is to hold a page's bytes
  pub fills : (n : ℕ) → n < length image / 4096 → is_active_page kind image capsule layout n ≡ true → IsPage (active_page image capsule layout n)
  unfolding is_active_page active_page
  fills n below h = by_area (holds_text layout.manifest_at layout.manifest_len n) (is_kept (page_of image capsule.pages n)) refl h
    where
      by_area : (area kept : Bool) → is_kept (page_of image capsule.pages n) ≡ kept → (area || (in_some_region (filter (λ (region : Region). is_taken kind region) capsule.manifest.regions) n && not kept)) ≡ true
          → IsPage (if area then text_page (bytes_at image capsule.signed_manifest.at capsule.signed_manifest.len) (4096 * n - layout.manifest_at) else page_bytes image (page_of image capsule.pages n))
      by_area true kept e h = text_fills (bytes_at image capsule.signed_manifest.at capsule.signed_manifest.len) (AreBytes-bytes_at image capsule.signed_manifest.at capsule.signed_manifest.len bytes) (4096 * n - layout.manifest_at)
      by_area false false e h = page_gives image bytes capsule n can.index (omega (arith, can.bits, below)) e
      by_area false true e h = absurd (no_and (in_some_region (filter (λ (region : Region). is_taken kind region) capsule.manifest.regions) n) h)

  -- each lies apart from an area that the manifest area and each region are clear of
  module _ (place : ℕ) (manifest : AreApart layout.manifest_at layout.manifest_len place layout.area_len) (clear : All (λ (r : Region). IsClearOf r place layout.area_len × (r.end % 4096 ≡ 0)) capsule.manifest.regions) where
    in_manifest : (n : ℕ) → holds_text layout.manifest_at layout.manifest_len n ≡ true → (place + layout.area_len ≤ 4096 * n) ⊎ (4096 * n + 4096 ≤ place)
    in_manifest n holds = by_side manifest
      where
        by_side : AreApart layout.manifest_at layout.manifest_len place layout.area_len → (place + layout.area_len ≤ 4096 * n) ⊎ (4096 * n + 4096 ≤ place)
        by_side (inl before) =
            let high : 4096 * n < layout.manifest_at + layout.manifest_len = grind (arith, nat_tests) in
            inr (omega (arith, high, before, can.valid.aligned.manifest_at, can.valid.aligned.manifest_len))
        by_side (inr behind) =
            let low : layout.manifest_at ≤ 4096 * n = grind (arith, nat_tests) in
            inl (omega (arith, low, behind))

    pub page_apart : (n : ℕ) → is_active_page kind image capsule layout n ≡ true → (place + layout.area_len ≤ 4096 * n) ⊎ (4096 * n + 4096 ≤ place)
    unfolding is_active_page
    page_apart n h = by_area (holds_text layout.manifest_at layout.manifest_len n) refl h
      where
        first : (a b : Bool) → (a && b) ≡ true → a ≡ true
        first true b k = refl
        first false b k = absurd (false≢true k)

        by_area : (area : Bool) → holds_text layout.manifest_at layout.manifest_len n ≡ area → (area || (in_some_region (filter (λ (region : Region). is_taken kind region) capsule.manifest.regions) n && not (is_kept (page_of image capsule.pages n)))) ≡ true
            → (place + layout.area_len ≤ 4096 * n) ⊎ (4096 * n + 4096 ≤ place)
        by_area true e k = in_manifest n e
        by_area false e k = region_apart place layout.area_len n (λ (region : Region). is_taken kind region) capsule.manifest.regions clear
            (first (in_some_region (filter (λ (region : Region). is_taken kind region) capsule.manifest.regions) n) (not (is_kept (page_of image capsule.pages n))) k)

    area_stays : (pages : List ℕ) → ((n : ℕ) → IsOneOf n pages → (n < length image / 4096) × (is_active_page kind image capsule layout n ≡ true)) → place + layout.area_len ≤ length image
        → bytes_at (play image (strokes_of (active_page image capsule layout) pages)) place layout.area_len ≡ bytes_at image place layout.area_len
    area_stays pages each inside =
        strokes_leave image (active_page image capsule layout) pages place layout.area_len
        (λ n one. record { apart = page_apart n (each n one).1; whole = (fills n (each n one).0 (each n one).1).whole })
        inside

  -- Once the strokes of some of them are done, what is read of the capsule is as it was.
  pub sources_stay : (pages : List ℕ) → ((n : ℕ) → IsOneOf n pages → (n < length image / 4096) × (is_active_page kind image capsule layout n ≡ true))
      → SameSources image (play image (strokes_of (active_page image capsule layout) pages)) capsule
  sources_stay pages each = by_area can.lies
    where
      size : length (play image (strokes_of (active_page image capsule layout) pages)) ≡ length image
      size = length-play image (strokes_of (active_page image capsule layout) pages)

      by_area : LiesInArea image layout capsule → SameSources image (play image (strokes_of (active_page image capsule layout) pages)) capsule
      by_area (inl lies) = sources_same image _ capsule layout.recovery_at layout.area_len lies size
          (area_stays layout.recovery_at can.valid.apart.manifest_recovery (λ i d below. let r = can.regions i d below in (r.clear_of_recovery, r.end_aligned)) pages each can.valid.inside.recovery)
      by_area (inr lies) = sources_same image _ capsule layout.staging_at layout.area_len lies size
          (area_stays layout.staging_at can.valid.apart.manifest_staging (λ i d below. let r = can.regions i d below in (r.clear_of_staging, r.end_aligned)) pages each can.valid.inside.staging)
