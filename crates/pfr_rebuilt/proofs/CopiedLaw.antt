-- Once a good staged capsule is copied, the recovery area is good.
use Rattle.std.proofs.Common.{◌≡◌, ◌∙◌, ap, sym, refl, arith, ℕ, ◌+◌, ◌-◌, ◌*◌, ◌/◌, ◌≤◌, ◌<◌, ◌%◌, true, List, [], ◌∷◌, ◌++◌, replicate, drop, length, get_or, inl, inr}
use Rattle.std.proofs.lemmas.Bool.Decides.{nat_tests}
use Rattle.std.proofs.lemmas.List.{ext_get_or, get_or-take, get_or_append_left, length-take, length-drop}
use Rattle.pfr_flash.specs.Bytes.{AreBytes, bytes_at, continued}
use Rattle.pfr_flash.specs.Layout.{IsValidLayout}
use Rattle.pfr_flash.specs.declared.layout.Layout.{Layout}
use Rattle.pfr_flash.specs.declared.names.Bank.{Bank}
use Rattle.pfr_flash.proofs.AreBytesLemmas.{AreBytes-bytes_at, AreBytes-continued}
use Rattle.pfr_flash.proofs.BytesLemmas.{length-bytes_at, get_or-bytes_at, length-continued}
use Rattle.pfr_engine.specs.Acceptance.{Acceptance}
use Rattle.pfr_capsule.specs.CapsuleState.{CapsuleState}
use Rattle.pfr_capsule.specs.Good.{IsGood}
use Rattle.pfr_capsule.proofs.GoodFacts.{good_within}
use Rattle.pfr_capsule.proofs.MovedLaw.{good_moved, capsule_moved, digest_moved, manifest_moved}
use Rattle.pfr_flash.specs.Operation.{play}
use Rattle.pfr_strokes.specs.Strokes.{strokes_of}
use Rattle.pfr_strokes.specs.Replaced.{IsPage}
use Rattle.pfr_strokes.proofs.ReplacedLaws.{AllCan, IsOneOf, ArePagesBelow, pages_are, length-replaced, replaced_inside, strokes_replace}
use Rattle.pfr_rebuilt.specs.Copying.{text_page, holds_text, recovery_pages, recovery_page, recovery_rebuilt}

-- ---- a page of a text
-- a byte of what goes on with 0xFF
continued_front : (pattern : List ℕ) (count i : ℕ) → i < count → i < length pattern → get_or (continued pattern count) i 0 ≡ get_or pattern i 0
unfolding continued
continued_front pattern count i h k = get_or-take count (pattern ++ replicate count 255) i 0 h ∙ get_or_append_left pattern (replicate count 255) 0 i k

module _ (text : List ℕ) (small : AreBytes text) where
  part_byte : (off i : ℕ) → i < 4096 → off + i < length text → i < length (bytes_at text off 4096)
  part_byte off i h k = omega (arith, h, k, length-take 4096 (drop off text), length-drop off text)

  -- a page of it is a page's bytes, of which those of the text are the text's
  pub text_fills : (off : ℕ) → IsPage (text_page text off)
  unfolding text_page
  text_fills off = record {
    whole = length-continued (bytes_at text off 4096) 4096;
    small = AreBytes-continued (bytes_at text off 4096) 4096 (AreBytes-bytes_at text off 4096 small);
  }

  pub text_stands : (off i : ℕ) → i < 4096 → off + i < length text → get_or (text_page text off) i 0 ≡ get_or text (off + i) 0
  unfolding text_page
  text_stands off i h k = continued_front (bytes_at text off 4096) 4096 i h (part_byte off i h k) ∙ get_or-bytes_at text off 4096 i 0 h

-- ---- the whole area
module _ (image nv : List ℕ) (bank : Bank) (accepts : Acceptance) (layout : Layout) (g : IsGood image layout.staging_at layout.area_len nv bank accepts)
    (valid : IsValidLayout layout (length image)) (blocks : length image % 65536 ≡ 0) (bytes : AreBytes image) where
  text : List ℕ
  text = bytes_at image layout.staging_at g.capsule.length

  fits : g.capsule.length ≤ layout.area_len
  fits = good_within image nv layout.staging_at layout.area_len bank accepts g

  text_long : length text ≡ g.capsule.length
  unfolding text
  text_long = length-bytes_at image layout.staging_at g.capsule.length (omega (arith, fits, valid.inside.staging))

  text_small : AreBytes text
  unfolding text
  text_small = AreBytes-bytes_at image layout.staging_at g.capsule.length bytes

  pages : List ℕ
  pages = recovery_pages layout g.capsule.length (length image)

  content : ℕ → List ℕ
  content = recovery_page image layout.staging_at g.capsule.length layout

  found : ArePagesBelow (holds_text layout.recovery_at g.capsule.length) (length image / 4096) (recovery_pages layout g.capsule.length (length image))
  unfolding recovery_pages
  found = pages_are (holds_text layout.recovery_at g.capsule.length) (length image / 4096)

  all_can : (list : List ℕ) → ((n : ℕ) → IsOneOf n list → n < length image / 4096) → AllCan (length image) (recovery_page image layout.staging_at g.capsule.length layout) list
  unfolding recovery_page text
  all_can [] below = tt
  all_can (n ∷ list) below =
      (record { inside = omega (arith, below n (inl refl)); fills = text_fills text text_small (4096 * n - layout.recovery_at) }, all_can list (λ m one. below m (inr one)))

  -- byte by byte
  copied_byte : (i : ℕ) → i < g.capsule.length → get_or (recovery_rebuilt image layout.staging_at g.capsule.length layout) (layout.recovery_at + i) 0 ≡ get_or image (layout.staging_at + i) 0
  unfolding recovery_page text
  copied_byte i h =
      let at : ℕ = layout.recovery_at in
      let n : ℕ = (at + i) / 4096 in
      let r : ℕ = (at + i) % 4096 in
      let split : 4096 * n + r ≡ at + i = omega arith in
      let short : r < 4096 = omega arith in
      let low : at ≤ 4096 * n = omega (arith, valid.aligned.recovery_at) in
      let high : 4096 * n < at + g.capsule.length = omega (arith, h) in
      let below : n < length image / 4096 = omega (arith, h, fits, valid.inside.recovery, valid.aligned.recovery_at, valid.aligned.area_len) in
      let holds : holds_text at g.capsule.length n ≡ true = grind (arith, nat_tests) in
      let off : 4096 * n - at + r ≡ i = omega (arith, low, split) in
      ap (λ (k : ℕ). get_or (recovery_rebuilt image layout.staging_at g.capsule.length layout) k 0) (sym split)
      ∙ replaced_inside image (recovery_page image layout.staging_at g.capsule.length layout) (recovery_pages layout g.capsule.length (length image)) n r
      (all_can (recovery_pages layout g.capsule.length (length image)) (λ m one. (found.only m one).0)) found.rising (found.all n below holds) short
      ∙ text_stands text text_small (4096 * n - at) r short (omega (arith, off, h, text_long))
      ∙ ap (λ (k : ℕ). get_or text k 0) off
      ∙ get_or-bytes_at image layout.staging_at g.capsule.length i 0 h

  -- the strokes of the pages leave the image so
  pub copied_played : play image (strokes_of (recovery_page image layout.staging_at g.capsule.length layout) (recovery_pages layout g.capsule.length (length image))) ≡ recovery_rebuilt image layout.staging_at g.capsule.length layout
  copied_played = strokes_replace image (recovery_page image layout.staging_at g.capsule.length layout) (recovery_pages layout g.capsule.length (length image))
      (all_can (recovery_pages layout g.capsule.length (length image)) (λ m one. (found.only m one).0))

  -- each page lies in the recovery area
  pub pages_inside : (n : ℕ) → IsOneOf n (recovery_pages layout g.capsule.length (length image)) → (layout.recovery_at ≤ 4096 * n) × (4096 * n + 4096 ≤ layout.recovery_at + layout.area_len) × IsPage (recovery_page image layout.staging_at g.capsule.length layout n)
  unfolding recovery_page text
  pages_inside n one =
      let holds = (found.only n one).1 in
      let low : layout.recovery_at ≤ 4096 * n = grind (arith, nat_tests) in
      let high : 4096 * n < layout.recovery_at + g.capsule.length = grind (arith, nat_tests) in
      (low, omega (arith, high, fits, valid.aligned.recovery_at, valid.aligned.area_len), text_fills text text_small (4096 * n - layout.recovery_at))

  size : length image ≡ length (recovery_rebuilt image layout.staging_at g.capsule.length layout)
  size = sym (length-replaced image (recovery_page image layout.staging_at g.capsule.length layout) (recovery_pages layout g.capsule.length (length image)))

  copied_bytes : bytes_at image layout.staging_at g.capsule.length ≡ bytes_at (recovery_rebuilt image layout.staging_at g.capsule.length layout) layout.recovery_at g.capsule.length
  copied_bytes =
      let rebuilt : List ℕ = recovery_rebuilt image layout.staging_at g.capsule.length layout in
      let from : length (bytes_at image layout.staging_at g.capsule.length) ≡ g.capsule.length = length-bytes_at image layout.staging_at g.capsule.length (omega (arith, fits, valid.inside.staging)) in
      let to : length (bytes_at rebuilt layout.recovery_at g.capsule.length) ≡ g.capsule.length = length-bytes_at rebuilt layout.recovery_at g.capsule.length (omega (arith, fits, valid.inside.recovery, size)) in
      ext_get_or 0 (bytes_at image layout.staging_at g.capsule.length) (bytes_at rebuilt layout.recovery_at g.capsule.length) (from ∙ sym to) (λ i below.
      let h : i < g.capsule.length = omega (arith, below, from) in
      get_or-bytes_at image layout.staging_at g.capsule.length i 0 h ∙ sym (copied_byte i h) ∙ sym (get_or-bytes_at rebuilt layout.recovery_at g.capsule.length i 0 h))

  -- The image with the staged capsule in its recovery area has it good there, and it is the same capsule.
  pub copied_good : IsGood (recovery_rebuilt image layout.staging_at g.capsule.length layout) layout.recovery_at layout.area_len nv bank accepts
  copied_good = good_moved image (recovery_rebuilt image layout.staging_at g.capsule.length layout) nv layout.staging_at layout.recovery_at layout.area_len layout.area_len bank accepts g size blocks copied_bytes fits

  pub copied_digest : copied_good.capsule.digest ≡ g.capsule.digest
  unfolding copied_good
  copied_digest = ap (λ (c : CapsuleState). c.digest) (capsule_moved image (recovery_rebuilt image layout.staging_at g.capsule.length layout) nv layout.staging_at layout.recovery_at layout.area_len layout.area_len bank accepts g size blocks copied_bytes fits)
      ∙ digest_moved image (recovery_rebuilt image layout.staging_at g.capsule.length layout) nv layout.staging_at layout.recovery_at layout.area_len layout.area_len bank accepts g size blocks copied_bytes fits

  pub copied_manifest : copied_good.capsule.manifest ≡ g.capsule.manifest
  unfolding copied_good
  copied_manifest = ap (λ (c : CapsuleState). c.manifest) (capsule_moved image (recovery_rebuilt image layout.staging_at g.capsule.length layout) nv layout.staging_at layout.recovery_at layout.area_len layout.area_len bank accepts g size blocks copied_bytes fits)
      ∙ manifest_moved image (recovery_rebuilt image layout.staging_at g.capsule.length layout) nv layout.staging_at layout.recovery_at layout.area_len layout.area_len bank accepts g size blocks copied_bytes fits
