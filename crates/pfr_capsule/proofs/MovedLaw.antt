-- A capsule depends on its own bytes alone: it is good wherever they stand in a bank.
use Rattle.std.proofs.Common.{◌≡◌, ◌∙◌, ap, refl, sym, subst, ℕ, zero, suc, ◌+◌, ◌-◌, ◌*◌, ◌/◌, ◌%◌, ◌<◌, ◌≤◌, min, Bool, true, false, if◌then◌else◌, List, length, get_or, All, Some, arith}
use Rattle.sha2.specs.Sha256.{sha256}
use Rattle.pfr_flash.specs.Bytes.{bytes_at}
use Rattle.pfr_flash.specs.Layout.{IsValidLayout}
use Rattle.pfr_flash.specs.Names.{capsule_type, manifest_type}
use Rattle.pfr_flash.specs.declared.layout.Layout.{Layout}
use Rattle.pfr_flash.specs.declared.names.Bank.{Bank}
use Rattle.pfr_engine.specs.Acceptance.{Acceptance}
use Rattle.pfr_chain.specs.declared.judging.Chain.{Chain}
use Rattle.pfr_chain.proofs.MovedLaw.{IsChain-moved, moved}
use Rattle.pfr_flash.proofs.PartsLemmas.{same_part}
use Rattle.pfr_fuses.specs.FusesState.{FusesState, row_of}
use Rattle.pfr_fuses.specs.RootSlot.{layout_of}
use Rattle.pfr_manifest.specs.Hashes.{HasHash}
use Rattle.pfr_manifest.specs.Manifest.{IsManifestOf}
use Rattle.pfr_manifest.specs.Regions.{IsRegion}
use Rattle.pfr_manifest.specs.declared.region.Region.{Region}
use Rattle.pfr_capsule.specs.CapsuleState.{CapsuleState, capsule_of}
use Rattle.pfr_capsule.specs.Good.{IsGood, Serves}
use Rattle.pfr_capsule.specs.Maps.{count_before, map_bit}
use Rattle.pfr_capsule.specs.PageBytes.{bytes_of_pages, page_bytes, region_bytes}
use Rattle.pfr_capsule.specs.PageHeader.{HasHeader, page_header_of}
use Rattle.pfr_capsule.specs.Pages.{copy_map, erase_map, page_in, page_of, pages_at}
use Rattle.pfr_capsule.specs.Signed.{IsSigned, end_of}
use Rattle.pfr_capsule.specs.declared.pages.Page.TheVariants.{Keep, Blank, Copy}
use Rattle.pfr_capsule.specs.declared.pages.Pages.{Pages}
use Rattle.pfr_capsule.specs.declared.signed.Signed.{Signed}
use Rattle.pfr_capsule.proofs.CountLaws.{counted}
use Rattle.pfr_capsule.proofs.GoodFacts as facts

-- ---- one page, of the same maps over two images
-- what a page gives, by its bits and its payload's place
page_by : (a b : List ℕ) (x y : ℕ) (erased copied : Bool) → (copied ≡ true → bytes_at a x 4096 ≡ bytes_at b y 4096) →
    page_bytes a (if erased then (if copied then Copy x else Blank) else Keep) ≡ page_bytes b (if erased then (if copied then Copy y else Blank) else Keep)
page_by a b x y true true same = same refl
page_by a b x y true false same = refl
page_by a b x y false copied same = refl

module _ (a b : List ℕ) (x y bits : ℕ) (erase copy : List ℕ) (payload : (n : ℕ) → n < count_before copy bits → bytes_at a (x + 4096 * n) 4096 ≡ bytes_at b (y + 4096 * n) 4096) where
  page_same : (n : ℕ) → n < bits → page_bytes a (page_in erase copy x n) ≡ page_bytes b (page_in erase copy y n)
  unfolding page_in
  page_same n h = page_by a b (x + 4096 * count_before copy n) (y + 4096 * count_before copy n) (map_bit erase n) (map_bit copy n)
      (λ copied. payload (count_before copy n) (omega (arith, counted copy n bits h copied)))

-- ---- the pages behind a header, over two images
module _ (a b : List ℕ) (at at' bits len : ℕ) (same : (x y off count : ℕ) → x ≡ at + off → y ≡ at' + off → off + count ≤ len → bytes_at a x count ≡ bytes_at b y count) where
  same_erase : bits / 8 ≤ len → erase_map b (pages_at b at' bits) ≡ erase_map a (pages_at a at bits)
  same_erase h = sym (same at at' 0 (bits / 8) (omega arith) (omega arith) (omega (arith, h)))

  same_copy : bits / 8 + bits / 8 ≤ len → copy_map b (pages_at b at' bits) ≡ copy_map a (pages_at a at bits)
  same_copy h = sym (same (at + bits / 8) (at' + bits / 8) (bits / 8) (bits / 8) refl refl h)

  module _ (fits : bits / 8 + bits / 8 + 4096 * count_before (copy_map a (pages_at a at bits)) bits ≤ len) where
    page_moved : (n : ℕ) → n < bits → page_bytes a (page_of a (pages_at a at bits) n) ≡ page_bytes b (page_of b (pages_at b at' bits) n)
    page_moved n h =
        let erase : List ℕ = erase_map a (pages_at a at bits) in
        let copy : List ℕ = copy_map a (pages_at a at bits) in
        let e : erase_map b (pages_at b at' bits) ≡ erase = same_erase (omega (arith, fits)) in
        let f : copy_map b (pages_at b at' bits) ≡ copy = same_copy (omega (arith, fits)) in
        page_same a b (at + bits / 8 + bits / 8) (at' + bits / 8 + bits / 8) bits erase copy
        (λ k within. same (at + bits / 8 + bits / 8 + 4096 * k) (at' + bits / 8 + bits / 8 + 4096 * k) (bits / 8 + bits / 8 + 4096 * k) 4096 (omega arith) (omega arith) (omega (arith, within, fits))) n h
        ∙ ap (λ (map : List ℕ). page_bytes b (page_in map copy (at' + bits / 8 + bits / 8) n)) (sym e)
        ∙ ap (λ (map : List ℕ). page_bytes b (page_in (erase_map b (pages_at b at' bits)) map (at' + bits / 8 + bits / 8) n)) (sym f)

    bytes_moved : (first count : ℕ) → first + count ≤ bits → bytes_of_pages a (pages_at a at bits) first count ≡ bytes_of_pages b (pages_at b at' bits) first count
    unfolding bytes_of_pages
    bytes_moved first zero h = refl
    bytes_moved first (suc count) h =
        let before = bytes_moved first count (omega (arith, h)) in
        let last = page_moved (first + count) (omega (arith, h)) in
        rw (before, last) refl

    -- the regions of a bank lie within the pages of its maps
    module _ (layout : Layout) (size : ℕ) (whole : size ≤ 4096 * bits) where
      region_moved : (region : Region) → IsRegion layout size region → region_bytes a (pages_at a at bits) region ≡ region_bytes b (pages_at b at' bits) region
      region_moved region h = bytes_moved (region.start / 4096) (region.end / 4096 - region.start / 4096) (omega (arith, whole, h.some, h.inside))

      serves_moved : (payload_len : ℕ) (regions : List Region) → All (IsRegion layout size) regions → Serves a (pages_at a at bits) payload_len regions → Serves b (pages_at b at' bits) payload_len regions
      serves_moved payload_len regions each s =
          let e : erase_map a (pages_at a at bits) ≡ erase_map b (pages_at b at' bits) = sym (same_erase (omega (arith, fits))) in
          let f : copy_map a (pages_at a at bits) ≡ copy_map b (pages_at b at' bits) = sym (same_copy (omega (arith, fits))) in
          record {
            erased = rw (e, f) at s.erased;
            within_regions = rw e at s.within_regions;
            payload = rw f at s.payload;
            covered = rw e at s.covered;
            coherent = λ k d h. subst (λ (bytes : List ℕ). HasHash bytes (get_or regions k d).hash) (region_moved (get_or regions k d) (each k d h)) (s.coherent k d h);
          }

-- ---- a good capsule, over two banks of one size
module _ (a b nv : List ℕ) (p q len len' : ℕ) (bank : Bank) (accepts : Acceptance) (g : IsGood a p len nv bank accepts)
    (sized : length a ≡ length b) (blocks : length a % 65536 ≡ 0) (same : bytes_at a p g.capsule.length ≡ bytes_at b q g.capsule.length) (room : g.capsule.length ≤ len') where
  parts_there : Signed
  parts_there = record { capsule = moved p q g.parts.capsule; inner = moved g.parts.capsule.content_at (q + (g.parts.capsule.content_at - p)) g.parts.inner; manifest = g.parts.manifest }

  -- what is at places of the capsule
  same_at : (x y off count : ℕ) → x ≡ p + off → y ≡ q + off → off + count ≤ g.capsule.length → bytes_at a x count ≡ bytes_at b y count
  same_at x y off count at at' fits = rw (at, at') (same_part a b p q g.capsule.length off count same fits)

  -- where the capsule's and the manifest's content begin and end
  laid : facts.IsLaid p len (layout_of g.fuses.provision bank).manifest_len g.parts
  laid = facts.good_laid a nv p len bank accepts g

  long : p + g.capsule.length ≡ end_of g.parts.capsule
  long = facts.capsule_ends a nv p len bank accepts g

  signed_there : IsSigned b q len' bank (layout_of g.fuses.provision bank) g.fuses accepts parts_there
  unfolding parts_there
  signed_there =
      let layout : Layout = layout_of g.fuses.provision bank in
      let fuses : FusesState = g.fuses in
      let c : Chain = g.parts.capsule in
      let i : Chain = g.parts.inner in
      let there : ℕ = q + (c.content_at - p) in
      let body : bytes_at a c.content_at c.length ≡ bytes_at b there c.length = same_at c.content_at there (c.content_at - p) c.length (omega (arith, laid.capsule_begins)) refl (omega (arith, long, laid.capsule_begins)) in
      let content : bytes_at a i.content_at i.length ≡ bytes_at b (there + (i.content_at - c.content_at)) i.length =
      same_at i.content_at (there + (i.content_at - c.content_at)) (i.content_at - p) i.length (omega (arith, laid.capsule_begins, laid.inner_begins)) (omega (arith, laid.capsule_begins, laid.inner_begins)) (omega (arith, long, laid.capsule_begins, laid.inner_begins, laid.inner_ends)) in
      let M : List ℕ → Type 0 = λ bytes. IsManifestOf bytes g.parts.manifest layout (length a) in
      record {
        capsule = IsChain-moved a b p q len len' g.capsule.length (capsule_type bank) fuses.provision.root (row_of fuses (capsule_type bank)) accepts c same (omega (arith, long)) (omega (arith, long, room)) g.signed.capsule;
        inner = IsChain-moved a b c.content_at there (min c.length layout.manifest_len) (min c.length layout.manifest_len) c.length (manifest_type bank) fuses.provision.root (row_of fuses (manifest_type bank)) accepts i body
            (omega (arith, laid.inner_begins, laid.inner_ends)) (omega (arith, laid.inner_begins, laid.inner_ends)) g.signed.inner;
        spelled = rw sized at (subst M content g.signed.spelled);
        svn = g.signed.svn;
      }

  framed_there : HasHeader b (end_of parts_there.inner) (end_of parts_there.capsule) g.header
  unfolding parts_there
  framed_there =
      let at : ℕ = end_of g.parts.inner in
      let h = g.framed in
      record {
        within = omega (arith, h.within, laid.capsule_begins, laid.inner_begins);
        spelled = h.spelled ∙ ap page_header_of (same_at at (end_of parts_there.inner) (at - p) 128 (omega (arith, laid.capsule_begins, laid.inner_begins)) (omega (arith, laid.capsule_begins, laid.inner_begins)) (omega (arith, long, h.within, laid.capsule_begins, laid.inner_begins)));
        constants = h.constants;
        map_bits = h.map_bits ∙ ap (λ (n : ℕ). n / 4096) sized;
        fills = omega (arith, h.fills, laid.capsule_begins, laid.inner_begins);
      }

  -- the capsule that stands there
  pub found_there : CapsuleState
  unfolding parts_there
  found_there = capsule_of b q parts_there (pages_at b (end_of parts_there.inner + 128) g.header.map_bits)

  paged_there : Serves b found_there.pages g.header.payload_len parts_there.manifest.regions
  unfolding parts_there found_there
  paged_there =
      let at : ℕ = end_of g.parts.inner + 128 in
      let bits : ℕ = g.header.map_bits in
      let h = g.framed in
      let here : Pages = pages_at a at bits in
      let is : g.capsule.pages ≡ here = ap (λ (c : CapsuleState). c.pages) g.found in
      let P : Pages → Type 0 = λ pages. Serves a pages g.header.payload_len g.parts.manifest.regions in
      let s : Serves a here g.header.payload_len g.parts.manifest.regions = subst P is g.paged in
      serves_moved a b at (end_of parts_there.inner + 128) bits (bits / 8 + bits / 8 + g.header.payload_len)
      (λ x y off count from to fits. same_at x y (at - p + off) count (omega (arith, from, laid.capsule_begins, laid.inner_begins)) (omega (arith, to, laid.capsule_begins, laid.inner_begins)) (omega (arith, fits, long, h.fills, laid.capsule_begins, laid.inner_begins)))
      (omega (arith, s.payload)) (layout_of g.fuses.provision bank) (length a) (omega (arith, h.map_bits, blocks)) g.header.payload_len g.parts.manifest.regions g.signed.spelled.each_region s

  -- A good capsule is one wherever its bytes stand in a bank of this size, and is the same capsule.
  pub good_moved : IsGood b q len' nv bank accepts
  unfolding parts_there found_there
  good_moved = record {
    fuses = g.fuses;
    parts = parts_there;
    header = g.header;
    capsule = found_there;
    provisioned = g.provisioned;
    layout = subst (λ (size : ℕ). IsValidLayout (layout_of g.fuses.provision bank) size) sized g.layout;
    signed = signed_there;
    framed = framed_there;
    paged = paged_there;
    capsule_key = g.capsule_key ∙ ap (λ (c : CapsuleState). Some c.capsule_key) g.found;
    manifest_key = g.manifest_key ∙ ap (λ (c : CapsuleState). Some c.manifest_key) g.found;
    found = refl;
  }

  -- the capsule that is good there is that one
  pub capsule_moved : good_moved.capsule ≡ found_there
  unfolding good_moved
  capsule_moved = refl

  pub manifest_moved : found_there.manifest ≡ g.capsule.manifest
  unfolding parts_there found_there
  manifest_moved = ap (λ (c : CapsuleState). c.manifest) (sym g.found)

  pub length_moved : found_there.length ≡ g.capsule.length
  unfolding parts_there found_there
  length_moved = omega (arith, long, laid.capsule_begins)

  pub digest_moved : found_there.digest ≡ g.capsule.digest
  unfolding parts_there found_there
  digest_moved =
      let is : g.capsule.digest ≡ sha256 (bytes_at a p (end_of g.parts.capsule - p)) = ap (λ (c : CapsuleState). c.digest) g.found in
      let here : end_of g.parts.capsule - p ≡ g.capsule.length = ap (λ (c : CapsuleState). c.length) (sym g.found) in
      let there : end_of parts_there.capsule - q ≡ g.capsule.length = omega (arith, long, laid.capsule_begins) in
      ap (λ (n : ℕ). sha256 (bytes_at b q n)) there ∙ ap sha256 (sym same) ∙ ap (λ (n : ℕ). sha256 (bytes_at a p n)) (sym here) ∙ sym is

  pub keys_moved : (found_there.capsule_key ≡ g.capsule.capsule_key) × (found_there.manifest_key ≡ g.capsule.manifest_key)
  unfolding parts_there found_there
  keys_moved = (ap (λ (c : CapsuleState). c.capsule_key) (sym g.found), ap (λ (c : CapsuleState). c.manifest_key) (sym g.found))
