-- Each page of a job can be replaced, and the staged capsule stays while the recovery area is.
use Rattle.std.proofs.Common.{◌≡◌, ◌∙◌, ℕ, ◌+◌, ◌-◌, ◌*◌, ◌/◌, ◌%◌, ◌≤◌, ◌<◌, ◌&&◌, ◌||◌, Bool, true, false, not, if◌then◌else◌, refl, sym, ap, subst, arith, List, [], ◌∷◌, length, filter, ◌⊎◌, inl, inr}
use Rattle.std.proofs.lemmas.Bool.{false≢true}
use Rattle.pfr_flash.specs.Bytes.{AreBytes, bytes_at, written}
use Rattle.pfr_flash.specs.Layout.{IsValidLayout}
use Rattle.pfr_flash.specs.Operation.{Operation, play}
use Rattle.pfr_flash.specs.Range.{AllWithin, SameOutside}
use Rattle.pfr_flash.specs.declared.layout.Layout.{Layout}
use Rattle.pfr_flash.specs.declared.names.Bank.{Bank}
use Rattle.pfr_flash.proofs.AreBytesLemmas.{AreBytes-bytes_at, AreBytes-written}
use Rattle.pfr_flash.proofs.PartsLemmas.{same_front}
use Rattle.pfr_flash.proofs.PlayLemmas.{length-play}
use Rattle.pfr_flash.proofs.RangeLemmas.{SameOutside-play, bytes_at-outside, AllWithin-append}
use Rattle.pfr_engine.specs.Acceptance.{Acceptance}
use Rattle.pfr_fuses.specs.FusesOf.{fuses_of}
use Rattle.pfr_manifest.specs.declared.region.Region.{Region}
use Rattle.pfr_capsule.specs.CapsuleState.{CapsuleState}
use Rattle.pfr_capsule.specs.Good.{IsGood}
use Rattle.pfr_capsule.specs.Maps.{in_some_region}
use Rattle.pfr_capsule.specs.PageBytes.{page_bytes}
use Rattle.pfr_capsule.specs.Pages.{HasIndex, page_of}
use Rattle.pfr_capsule.proofs.GoodFacts.{good_within, good_pages}
use Rattle.pfr_capsule.proofs.MovedLaw.{good_moved, capsule_moved, length_moved, digest_moved, manifest_moved}
use Rattle.pfr_jobs.specs.declared.job.JobKind.{JobKind}
use Rattle.pfr_strokes.specs.Strokes.{strokes, strokes_of}
use Rattle.pfr_strokes.specs.Replaced.{IsPage, replaced}
use Rattle.pfr_strokes.proofs.StrokesLaws.{strokes_within}
use Rattle.pfr_strokes.proofs.ReplacedLaws.{AllCan, IsOneOf, pages_are, strokes_replace}
use Rattle.pfr_rebuilt.specs.ActiveCopying.{is_taken, is_kept, is_active_page, active_page, active_pages}
use Rattle.pfr_rebuilt.specs.Copying.{text_page, holds_text, recovery_page, recovery_pages}
use Rattle.pfr_rebuilt.proofs.ActiveLaw.{page_gives}
use Rattle.pfr_rebuilt.proofs.CopiedLaw.{text_fills, pages_inside}
use Rattle.pfr_recoverable.proofs.CutLaw.{good_with}

-- ---- an image with pages replaced holds bytes
pub replaced_bytes : (size : ℕ) (image : List ℕ) (content : ℕ → List ℕ) (pages : List ℕ) → AreBytes image → AllCan size content pages → AreBytes (replaced image content pages)
unfolding replaced
replaced_bytes size image content [] bytes can = bytes
replaced_bytes size image content (page ∷ pages) bytes can =
    replaced_bytes size (written image (4096 * page) (content page)) content pages (AreBytes-written image (4096 * page) (content page) bytes can.0.fills.small) can.1

-- ---- the pages of an active job
module _ (kind : JobKind) (image nv : List ℕ) (place len : ℕ) (b : Bank) (accepts : Acceptance) (g : IsGood image place len nv b accepts)
    (blocks : length image % 65536 ≡ 0) (most : length image ≤ 67108864) (inside : place + len ≤ length image) (bytes : AreBytes image) (layout : Layout) where
  index : HasIndex image g.capsule.pages
  index = good_pages image nv place len b accepts g blocks most (omega (arith, inside, good_within image nv place len b accepts g))

  bits : g.capsule.pages.bits ≡ length image / 4096
  bits = ap (λ (c : CapsuleState). c.pages.bits) g.found ∙ g.framed.map_bits

  active_fills : (n : ℕ) → n < length image / 4096 → is_active_page kind image g.capsule layout n ≡ true → IsPage (active_page image g.capsule layout n)
  unfolding is_active_page active_page
  active_fills n below h = by_area (holds_text layout.manifest_at layout.manifest_len n) (is_kept (page_of image g.capsule.pages n)) refl h
    where
      no_and : (t : Bool) → (t && false) ≡ true → ⊥
      no_and true k = false≢true k
      no_and false k = false≢true k

      by_area : (area kept : Bool) → is_kept (page_of image g.capsule.pages n) ≡ kept → (area || (in_some_region (filter (λ (region : Region). is_taken kind region) g.capsule.manifest.regions) n && not kept)) ≡ true
          → IsPage (if area then text_page (bytes_at image g.capsule.signed_manifest.at g.capsule.signed_manifest.len) (4096 * n - layout.manifest_at) else page_bytes image (page_of image g.capsule.pages n))
      by_area true kept e h =
          text_fills (bytes_at image g.capsule.signed_manifest.at g.capsule.signed_manifest.len) (AreBytes-bytes_at image g.capsule.signed_manifest.at g.capsule.signed_manifest.len bytes) (4096 * n - layout.manifest_at)
      by_area false false e h = page_gives image bytes g.capsule n index (omega (arith, bits, below)) e
      by_area false true e h = absurd (no_and (in_some_region (filter (λ (region : Region). is_taken kind region) g.capsule.manifest.regions) n) h)

  active_one : (n : ℕ) → IsOneOf n (active_pages kind image g.capsule layout) → (n < length image / 4096) × (is_active_page kind image g.capsule layout n ≡ true)
  unfolding active_pages
  active_one n one = (pages_are (is_active_page kind image g.capsule layout) (length image / 4096)).only n one

  pub active_can : (list : List ℕ) → ((n : ℕ) → IsOneOf n list → IsOneOf n (active_pages kind image g.capsule layout)) → AllCan (length image) (active_page image g.capsule layout) list
  active_can [] each = tt
  active_can (n ∷ list) each =
      let e = active_one n (each n (inl refl)) in
      (record { inside = omega (arith, e.0); fills = active_fills n e.0 e.1 }, active_can list (λ m one. each m (inr one)))

  -- Its strokes leave the image with these pages replaced.
  pub active_replaced : (list : List ℕ) → ((n : ℕ) → IsOneOf n list → IsOneOf n (active_pages kind image g.capsule layout))
      → play image (strokes_of (active_page image g.capsule layout) list) ≡ replaced image (active_page image g.capsule layout) list
  active_replaced list each = strokes_replace image (active_page image g.capsule layout) list (active_can list each)

-- ---- those of a recovery job
strokes_inside : (from len : ℕ) (content : ℕ → List ℕ) (pages : List ℕ) → ((n : ℕ) → IsOneOf n pages → (from ≤ 4096 * n) × (4096 * n + 4096 ≤ from + len) × IsPage (content n)) → AllWithin from len (strokes_of content pages)
unfolding strokes_of
strokes_inside from len content [] each = tt
strokes_inside from len content (n ∷ pages) each =
    let e = each n (inl refl) in
    AllWithin-append from len (strokes n (content n)) (strokes_of content pages)
    (wider (strokes n (content n)) e.0 e.1 (strokes_within n (content n) e.2.whole)) (strokes_inside from len content pages (λ m one. each m (inr one)))
  where
    wider : (ops : List Operation) → from ≤ 4096 * n → 4096 * n + 4096 ≤ from + len → AllWithin (4096 * n) 4096 ops → AllWithin from len ops
    wider [] low high all = tt
    wider (op ∷ ops) low high all = (record { low = omega (arith, low, all.0.low); high = omega (arith, high, all.0.high) }, wider ops low high all.1)

module _ (image nv : List ℕ) (b : Bank) (accepts : Acceptance) (layout : Layout) (g : IsGood image layout.staging_at layout.area_len nv b accepts)
    (valid : IsValidLayout layout (length image)) (blocks : length image % 65536 ≡ 0) (bytes : AreBytes image)
    (list : List ℕ) (each : (n : ℕ) → IsOneOf n list → IsOneOf n (recovery_pages layout g.capsule.length (length image))) where
  in_area : (n : ℕ) → IsOneOf n list → (layout.recovery_at ≤ 4096 * n) × (4096 * n + 4096 ≤ layout.recovery_at + layout.area_len) × IsPage (recovery_page image layout.staging_at g.capsule.length layout n)
  in_area n one = pages_inside image nv b accepts layout g valid blocks bytes n (each n one)

  can_all : (some : List ℕ) → ((n : ℕ) → IsOneOf n some → IsOneOf n list) → AllCan (length image) (recovery_page image layout.staging_at g.capsule.length layout) some
  can_all [] in_list = tt
  can_all (n ∷ some) in_list =
      let e = in_area n (in_list n (inl refl)) in
      (record { inside = omega (arith, e.1, valid.inside.recovery); fills = e.2 }, can_all some (λ m one. in_list m (inr one)))

  pub recovery_can : AllCan (length image) (recovery_page image layout.staging_at g.capsule.length layout) list
  recovery_can = can_all list (λ n one. one)

  abbrev written_so : List ℕ
  written_so = play image (strokes_of (recovery_page image layout.staging_at g.capsule.length layout) list)

  -- Its strokes leave the image with these pages replaced.
  pub recovery_replaced : written_so ≡ replaced image (recovery_page image layout.staging_at g.capsule.length layout) list
  recovery_replaced = strokes_replace image (recovery_page image layout.staging_at g.capsule.length layout) list recovery_can

  pub recovery_bytes : AreBytes written_so
  recovery_bytes = subst AreBytes (sym recovery_replaced) (replaced_bytes (length image) image (recovery_page image layout.staging_at g.capsule.length layout) list bytes recovery_can)

  -- and all but the recovery area as it was
  pub recovery_outside : SameOutside layout.recovery_at layout.area_len image written_so
  recovery_outside =
      let content : ℕ → List ℕ = recovery_page image layout.staging_at g.capsule.length layout in
      SameOutside-play layout.recovery_at layout.area_len image (strokes_of content list) (strokes_inside layout.recovery_at layout.area_len content list in_area)

  -- so the staging area too
  pub staging_stays : bytes_at written_so layout.staging_at layout.area_len ≡ bytes_at image layout.staging_at layout.area_len
  staging_stays =
      let ops : List Operation = strokes_of (recovery_page image layout.staging_at g.capsule.length layout) list in
      bytes_at-outside layout.recovery_at layout.area_len image (play image ops) layout.staging_at layout.area_len
      recovery_outside (length-play image ops) (apart valid.apart.recovery_staging) valid.inside.staging
    where
      apart : ((layout.recovery_at + layout.area_len ≤ layout.staging_at) ⊎ (layout.staging_at + layout.area_len ≤ layout.recovery_at))
          → ((layout.staging_at + layout.area_len ≤ layout.recovery_at) ⊎ (layout.recovery_at + layout.area_len ≤ layout.staging_at))
      apart (inl before) = inr before
      apart (inr behind) = inl behind

-- ---- a good capsule in an area that stays, where the store says the same fuses
-- the same capsule, as far as its bytes tell
pub record IsSameCapsule (one other : CapsuleState) : Type 0 where
  pub len : one.length ≡ other.length
  pub digest : one.digest ≡ other.digest
  pub manifest : one.manifest ≡ other.manifest

pub same_again : (one other third : CapsuleState) → IsSameCapsule one other → IsSameCapsule other third → IsSameCapsule one third
same_again one other third p q = record { len = p.len ∙ q.len; digest = p.digest ∙ q.digest; manifest = p.manifest ∙ q.manifest }

pub good_again : (image later nv then_nv : List ℕ) (place len : ℕ) (b : Bank) (accepts : Acceptance) (g : IsGood image place len nv b accepts) → length later ≡ length image → length image % 65536 ≡ 0
    → bytes_at later place len ≡ bytes_at image place len → fuses_of then_nv ≡ fuses_of nv → (h : IsGood later place len then_nv b accepts) × IsSameCapsule h.capsule g.capsule
good_again image later nv then_nv place len b accepts g size blocks same stored =
    let room = good_within image nv place len b accepts g in
    let front : bytes_at image place g.capsule.length ≡ bytes_at later place g.capsule.length = same_front image later place place len g.capsule.length (sym same) room in
    let moved : IsGood later place len nv b accepts = good_moved image later nv place place len len b accepts g (sym size) blocks front room in
    let is = capsule_moved image later nv place place len len b accepts g (sym size) blocks front room in
    let h = good_with later nv then_nv place len b accepts moved stored in (
      h.0,
      record {
        len = ap (λ (c : CapsuleState). c.length) (h.1 ∙ is) ∙ length_moved image later nv place place len len b accepts g (sym size) blocks front room;
        digest = ap (λ (c : CapsuleState). c.digest) (h.1 ∙ is) ∙ digest_moved image later nv place place len len b accepts g (sym size) blocks front room;
        manifest = ap (λ (c : CapsuleState). c.manifest) (h.1 ∙ is) ∙ manifest_moved image later nv place place len len b accepts g (sym size) blocks front room;
      },
    )
