-- A capsule is judged well exactly where it is good.
use Rattle.std.proofs.Common.{◌≡◌, ◌∙◌, ap, refl, sym, subst, ℕ, ◌+◌, ◌*◌, ◌/◌, ◌==◌, nat_le, true, false, min, List, length, Option, Some, None, Ok, arith}
use Rattle.std.proofs.lemmas.Bool.{eq-eqb, eqb-true, le-leb, leb-true}
use Rattle.std.proofs.lemmas.Bool.Decides.{nat_tests}
use Rattle.pfr_flash.specs.Bytes.{AreBytes, bytes_at}
use Rattle.pfr_flash.specs.Layout.{IsValidLayout}
use Rattle.pfr_flash.specs.Names.{capsule_type, manifest_type}
use Rattle.pfr_flash.specs.declared.layout.Layout.{Layout}
use Rattle.pfr_flash.specs.declared.names.Bank.{Bank}
use Rattle.pfr_flash.specs.declared.names.Bank.TheVariants.{Bmc, Pch}
use Rattle.pfr_flash.specs.declared.names.ContentType.{ContentType}
use Rattle.pfr_engine.specs.Acceptance.{Acceptance}
use Rattle.pfr_chain.specs.Chain.{IsBlock1, IsChain}
use Rattle.pfr_chain.specs.Types.{is_certificate}
use Rattle.pfr_chain.specs.declared.form.Form.{Form}
use Rattle.pfr_chain.specs.declared.form.Form.TheVariants.{One, Two}
use Rattle.pfr_chain.specs.declared.judging.Chain.{Chain}
use Rattle.pfr_chain.specs.Judge.{judge}
use Rattle.pfr_chain.proofs.ChainLaw.{judge_ends as chain_ends, judge_holds as chain_holds}
use Rattle.pfr_fuses.specs.FusesState.{FusesState, floor_of, row_of}
use Rattle.pfr_fuses.specs.RootSlot.{layout_of}
use Rattle.pfr_manifest.specs.declared.region.Region.{Region}
use Rattle.pfr_manifest.specs.Judge.{judge_manifest}
use Rattle.pfr_manifest.proofs.FindingLaw.{judge_ends as manifest_ends}
use Rattle.pfr_manifest.proofs.ReadingLaw.{judge_holds as manifest_holds}
use Rattle.pfr_capsule.specs.CapsuleState.{CapsuleState, capsule_of}
use Rattle.pfr_capsule.specs.Good.{IsGood, Serves, StandForBank}
use Rattle.pfr_capsule.specs.Judge.{judge_capsule, judge_header, judge_maps, judge_numbers, judge_pages}
use Rattle.pfr_flash.specs.Judging.{told_as}
use Rattle.pfr_capsule.specs.Maps.{count_before, page_outside, uncovered_region, unerased_copy}
use Rattle.pfr_capsule.specs.PageBytes.{incoherent_region}
use Rattle.pfr_capsule.specs.PageHeader.{HasHeader, IsPageHeader, page_header_of}
use Rattle.pfr_capsule.specs.Pages.{copy_map, erase_map, pages_at}
use Rattle.pfr_capsule.specs.Signed.{IsSigned, end_of, id_or_zero, key_of}
use Rattle.pfr_capsule.specs.SignedJudge.{judge_capsule_chain, judge_inner_chain, judge_signed}
use Rattle.pfr_capsule.specs.declared.fail.CapsuleFail.TheVariants as causes
use Rattle.pfr_capsule.specs.declared.page_header.PageHeader.{PageHeader}
use Rattle.pfr_capsule.specs.declared.pages.Pages.{Pages}
use Rattle.pfr_capsule.specs.declared.signed.Signed.{Signed}
use Rattle.pfr_flash.proofs.JudgingLemmas.{passed_part, passed_unit, passed_test, passed_none, passed_last_none, told_ok}
use Rattle.pfr_flash.proofs.AreBytesLemmas.{AreBytes-bytes_at}
use Rattle.pfr_capsule.specs.Lying.{LiesAt}
use Rattle.pfr_capsule.proofs.GoodFacts.{parts_lie}
use Rattle.pfr_capsule.proofs.MapsLaw.{none_copied, none_outside, none_uncovered, none_incoherent}

-- ---- the header
numbers_hold : (header : PageHeader) (at end size : ℕ) → judge_numbers header at end size ≡ Ok tt
    → IsPageHeader header × (header.map_bits ≡ size / 4096) × (at + 128 + header.map_bits / 8 + header.map_bits / 8 + header.payload_len ≡ end)
unfolding judge_numbers
numbers_hold header at end size h = grind (arith, nat_tests)

numbers_end : (header : PageHeader) (at end size : ℕ) → IsPageHeader header → header.map_bits ≡ size / 4096 → at + 128 + header.map_bits / 8 + header.map_bits / 8 + header.payload_len ≡ end
    → judge_numbers header at end size ≡ Ok tt
unfolding judge_numbers
numbers_end header at end size constants bits fills = grind (arith, nat_tests)

header_holds : (image : List ℕ) (at end : ℕ) (header : PageHeader) → judge_header image at end ≡ Ok header → HasHeader image at end header
unfolding judge_header
header_holds image at end header h =
    let said : PageHeader = page_header_of (bytes_at image at 128) in
    let a = passed_test causes.PbcHeader (nat_le (at + 128) end) _ header h in
    let b = passed_unit (judge_numbers said at end (length image)) (Ok said) header a.1 in
    let n = numbers_hold said at end (length image) b.0 in
    let is : said ≡ header = cc in
    let P : PageHeader → Type 0 = λ said. HasHeader image at end said in
    subst P is (record { within = leb-true (at + 128) end a.0; spelled = refl; constants = n.0; map_bits = n.1; fills = n.2 })

header_ends : (image : List ℕ) (at end : ℕ) (header : PageHeader) → HasHeader image at end header → judge_header image at end ≡ Ok header
unfolding judge_header
header_ends image at end header h =
    let within = le-leb (at + 128) end h.within in
    let numbers = numbers_end header at end (length image) h.constants h.map_bits h.fills in
    rw (within, ← h.spelled, numbers) refl

-- ---- the maps
maps_hold : (image : List ℕ) (pages : Pages) (payload_len : ℕ) (regions : List Region) → judge_maps (erase_map image pages) (copy_map image pages) pages.bits payload_len regions ≡ Ok tt
    → incoherent_region image pages regions ≡ None → Serves image pages payload_len regions
unfolding judge_maps
maps_hold image pages payload_len regions h coherent =
    let erase : List ℕ = erase_map image pages in
    let copy : List ℕ = copy_map image pages in
    let a = passed_none causes.CopyNotErase (unerased_copy erase copy pages.bits) _ tt h in
    let b = passed_none causes.PageOutside (page_outside erase regions pages.bits) _ tt a.1 in
    let d = passed_test causes.PayloadLength (payload_len == 4096 * count_before copy pages.bits) _ tt b.1 in
    record {
      erased = (none_copied erase copy pages.bits).0 a.0;
      within_regions = (none_outside erase regions pages.bits).0 b.0;
      payload = eqb-true payload_len (4096 * count_before copy pages.bits) d.0;
      covered = (none_uncovered erase regions pages.bits).0 (passed_last_none causes.StaticNotCovered (uncovered_region erase regions pages.bits) d.1);
      coherent = (none_incoherent image pages regions).0 coherent;
    }

maps_end : (image : List ℕ) (pages : Pages) (payload_len : ℕ) (regions : List Region) → Serves image pages payload_len regions
    → judge_maps (erase_map image pages) (copy_map image pages) pages.bits payload_len regions ≡ Ok tt
unfolding judge_maps
maps_end image pages payload_len regions s =
    let erase : List ℕ = erase_map image pages in
    let copy : List ℕ = copy_map image pages in
    let a = (none_copied erase copy pages.bits).1 s.erased in
    let b = (none_outside erase regions pages.bits).1 s.within_regions in
    let d : (payload_len == 4096 * count_before copy pages.bits) ≡ true = eq-eqb payload_len (4096 * count_before copy pages.bits) s.payload in
    let e = (none_uncovered erase regions pages.bits).1 s.covered in
    rw (a, b, d, e) refl

pages_hold : (image : List ℕ) (at : ℕ) (header : PageHeader) (regions : List Region) (pages : Pages) → judge_pages image at header regions ≡ Ok pages
    → (judge_maps (erase_map image pages) (copy_map image pages) pages.bits header.payload_len regions ≡ Ok tt) × (pages ≡ pages_at image at header.map_bits)
unfolding judge_pages
pages_hold image at header regions pages h =
    let here : Pages = pages_at image at header.map_bits in
    let a = passed_unit (judge_maps (erase_map image here) (copy_map image here) header.map_bits header.payload_len regions) (Ok here) pages h in
    let is : here ≡ pages = cc in
    let P : Pages → Type 0 = λ p. (judge_maps (erase_map image p) (copy_map image p) p.bits header.payload_len regions ≡ Ok tt) × (p ≡ here) in
    subst P is (a.0, refl)

-- ---- what is signed
signed_ends : (image : List ℕ) (place len : ℕ) (bank : Bank) (layout : Layout) (fuses : FusesState) (accepts : Acceptance) (signed : Signed) →
    IsSigned image place len bank layout fuses accepts signed → judge_signed image place len bank layout fuses accepts ≡ Ok signed
unfolding judge_signed judge_capsule_chain judge_inner_chain
signed_ends image place len bank layout fuses accepts signed s =
    let outer = chain_ends image place len (capsule_type bank) fuses.provision.root (row_of fuses (capsule_type bank)) accepts signed.capsule s.capsule in
    let inner = chain_ends image signed.capsule.content_at (min signed.capsule.length layout.manifest_len) (manifest_type bank) fuses.provision.root (row_of fuses (manifest_type bank)) accepts signed.inner s.inner in
    let spelled = manifest_ends (bytes_at image signed.inner.content_at signed.inner.length) layout (length image) signed.manifest s.spelled in
    let above = le-leb (floor_of fuses bank) signed.manifest.svn s.svn in
    rw (outer, inner, spelled, above) refl

pub signed_holds : (image : List ℕ) (place len : ℕ) (bank : Bank) (layout : Layout) (fuses : FusesState) (accepts : Acceptance) (signed : Signed) → AreBytes image →
    judge_signed image place len bank layout fuses accepts ≡ Ok signed → IsSigned image place len bank layout fuses accepts signed
unfolding judge_signed judge_capsule_chain judge_inner_chain
signed_holds image place len bank layout fuses accepts signed bytes h =
    let a = passed_part (judge_capsule_chain image place len bank fuses accepts) _ signed h in
    let outer = told_ok causes.Chain (judge image place len (capsule_type bank) fuses.provision.root (row_of fuses (capsule_type bank)) accepts) a.0 a.1 in
    let b = passed_part (judge_inner_chain image bank layout fuses accepts a.0) _ signed a.2 in
    let inner = told_ok causes.ManifestChain (judge image a.0.content_at (min a.0.length layout.manifest_len) (manifest_type bank) fuses.provision.root (row_of fuses (manifest_type bank)) accepts) b.0 b.1 in
    let d = passed_part (told_as causes.Manifest (judge_manifest (bytes_at image b.0.content_at b.0.length) layout (length image))) _ signed b.2 in
    let spelled = told_ok causes.Manifest (judge_manifest (bytes_at image b.0.content_at b.0.length) layout (length image)) d.0 d.1 in
    let e = passed_test causes.SvnFloor (nat_le (floor_of fuses bank) d.0.svn) _ signed d.2 in
    let found : Signed = record { capsule = a.0; inner = b.0; manifest = d.0 } in
    let same : found ≡ signed = let last = e.1 in cc in
    subst (λ (s : Signed). IsSigned image place len bank layout fuses accepts s) same (record {
      capsule = chain_holds image place len (capsule_type bank) fuses.provision.root (row_of fuses (capsule_type bank)) accepts a.0 outer;
      inner = chain_holds image a.0.content_at (min a.0.length layout.manifest_len) (manifest_type bank) fuses.provision.root (row_of fuses (manifest_type bank)) accepts b.0 inner;
      spelled = manifest_holds (bytes_at image b.0.content_at b.0.length) layout (length image) d.0 (AreBytes-bytes_at image b.0.content_at b.0.length bytes) spelled;
      svn = leb-true (floor_of fuses bank) d.0.svn e.0;
    })

-- only the provision, the floor and both rows of the bank are looked at
stands_same : (image nv : List ℕ) (place len : ℕ) (bank : Bank) (accepts : Acceptance) (fuses : FusesState) (p : StandForBank nv fuses bank) →
    judge_capsule image place len bank (layout_of fuses.provision bank) fuses accepts ≡ judge_capsule image place len bank (layout_of p.all.provision bank) p.all accepts
unfolding judge_capsule judge_signed judge_capsule_chain judge_inner_chain
stands_same image nv place len bank accepts fuses p = rw (p.provision, p.floor, p.capsule_row, p.manifest_row) refl

-- ---- the keys that signed
block1_key : (form : Form) (key : Option ℕ) (block : List ℕ) (type : ContentType) (root row : List ℕ) (accepts : Acceptance) → is_certificate type ≡ false → IsBlock1 form block type root row accepts key → key ≡ Some (id_or_zero key)
block1_key One None block type root row accepts plain s = let e = s.signer.certificate in cc
block1_key Two None block type root row accepts plain s = let e = s.signer.certificate in cc
block1_key One (Some id) block type root row accepts plain s = refl
block1_key Two (Some id) block type root row accepts plain s = refl

chain_key : (image : List ℕ) (place len : ℕ) (type : ContentType) (root row : List ℕ) (accepts : Acceptance) (chain : Chain) → is_certificate type ≡ false → IsChain image place len type root row accepts chain → chain.key ≡ Some (key_of chain)
chain_key image place len type root row accepts chain plain s = block1_key s.block.form chain.key (bytes_at image place s.blen) type root row accepts plain s.signed

no_certificates : (bank : Bank) → (is_certificate (capsule_type bank) ≡ false) × (is_certificate (manifest_type bank) ≡ false)
no_certificates Bmc = (refl, refl)
no_certificates Pch = (refl, refl)

-- ---- What is judged well is good, where what is signed was found to be.
-- the parts of a capsule that was judged well
record Parts (image : List ℕ) (place len : ℕ) (bank : Bank) (layout : Layout) (fuses : FusesState) (accepts : Acceptance) (capsule : CapsuleState) : Type 0 where
  signed : Signed
  header : PageHeader
  judged : judge_signed image place len bank layout fuses accepts ≡ Ok signed
  framed : HasHeader image (end_of signed.inner) (end_of signed.capsule) header
  paged : Serves image capsule.pages header.payload_len signed.manifest.regions
  found : capsule ≡ capsule_of image place signed (pages_at image (end_of signed.inner + 128) header.map_bits)

judged_parts : (image : List ℕ) (place len : ℕ) (bank : Bank) (layout : Layout) (fuses : FusesState) (accepts : Acceptance) (capsule : CapsuleState) →
    judge_capsule image place len bank layout fuses accepts ≡ Ok capsule → Parts image place len bank layout fuses accepts capsule
unfolding judge_capsule
judged_parts image place len bank layout fuses accepts capsule h =
    let a = passed_part (judge_signed image place len bank layout fuses accepts) _ capsule h in
    let b = passed_part (judge_header image (end_of a.0.inner) (end_of a.0.capsule)) _ capsule a.2 in
    let d = passed_part (judge_pages image (end_of a.0.inner + 128) b.0 a.0.manifest.regions) _ capsule b.2 in
    let e = pages_hold image (end_of a.0.inner + 128) b.0 a.0.manifest.regions d.0 d.1 in
    let f = passed_none causes.Incoherent (incoherent_region image d.0 a.0.manifest.regions) (Ok (capsule_of image place a.0 d.0)) capsule d.2 in
    let is : capsule_of image place a.0 d.0 ≡ capsule = let last = f.1 in cc in
    record {
      signed = a.0;
      header = b.0;
      judged = a.1;
      framed = header_holds image (end_of a.0.inner) (end_of a.0.capsule) b.0 b.1;
      paged = subst (λ (c : CapsuleState). Serves image c.pages b.0.payload_len a.0.manifest.regions) is (maps_hold image d.0 b.0.payload_len a.0.manifest.regions e.0 f.0);
      found = sym is ∙ ap (capsule_of image place a.0) e.1;
    }

pub judged_good : (image nv : List ℕ) (place len : ℕ) (bank : Bank) (accepts : Acceptance) (fuses : FusesState) (capsule : CapsuleState) → StandForBank nv fuses bank
    → IsValidLayout (layout_of fuses.provision bank) (length image) → AreBytes image
    → judge_capsule image place len bank (layout_of fuses.provision bank) fuses accepts ≡ Ok capsule → (g : IsGood image place len nv bank accepts) × (g.capsule ≡ capsule)
judged_good image nv place len bank accepts fuses capsule p valid bytes h =
    let layout : Layout = layout_of p.all.provision bank in
    let j = judged_parts image place len bank layout p.all accepts capsule (sym (stands_same image nv place len bank accepts fuses p) ∙ h) in
    let signed : IsSigned image place len bank layout p.all accepts j.signed = signed_holds image place len bank layout p.all accepts j.signed bytes j.judged in
    let plain = no_certificates bank in
    let g : IsGood image place len nv bank accepts = record {
      fuses = p.all;
      parts = j.signed;
      header = j.header;
      capsule = capsule;
      provisioned = p.provisioned;
      layout = rw p.provision at valid;
      signed = signed;
      framed = j.framed;
      paged = j.paged;
      capsule_key = chain_key _ _ _ _ _ _ _ _ plain.0 signed.capsule ∙ ap (λ (c : CapsuleState). Some c.capsule_key) (sym j.found);
      manifest_key = chain_key _ _ _ _ _ _ _ _ plain.1 signed.inner ∙ ap (λ (c : CapsuleState). Some c.manifest_key) (sym j.found);
      found = j.found;
    } in
    (g, refl)

-- and lies where it was judged
pub judged_lies : (image : List ℕ) (place len : ℕ) (bank : Bank) (layout : Layout) (fuses : FusesState) (accepts : Acceptance) (capsule : CapsuleState) → AreBytes image
    → judge_capsule image place len bank layout fuses accepts ≡ Ok capsule → LiesAt image place len capsule
judged_lies image place len bank layout fuses accepts capsule bytes h =
    let j = judged_parts image place len bank layout fuses accepts capsule h in
    parts_lie image place len bank layout fuses accepts j.signed (signed_holds image place len bank layout fuses accepts j.signed bytes j.judged) j.header j.framed capsule j.paged j.found

-- ---- What is good is judged well.
pub good_judged : (image nv : List ℕ) (place len : ℕ) (bank : Bank) (accepts : Acceptance) (g : IsGood image place len nv bank accepts) →
    judge_capsule image place len bank (layout_of g.fuses.provision bank) g.fuses accepts ≡ Ok g.capsule
unfolding judge_capsule judge_pages
good_judged image nv place len bank accepts g =
    let here : Pages = pages_at image (end_of g.parts.inner + 128) g.header.map_bits in
    let regions : List Region = g.parts.manifest.regions in
    let serves : Serves image here g.header.payload_len regions = rw g.found at g.paged in
    let a = signed_ends image place len bank (layout_of g.fuses.provision bank) g.fuses accepts g.parts g.signed in
    let b = header_ends image (end_of g.parts.inner) (end_of g.parts.capsule) g.header g.framed in
    let d = maps_end image here g.header.payload_len regions serves in
    let e = (none_incoherent image here regions).1 serves.coherent in
    rw (a, b, d, e, g.found) refl

pub good_found : (image nv : List ℕ) (place len : ℕ) (bank : Bank) (accepts : Acceptance) (fuses : FusesState) → StandForBank nv fuses bank → (g : IsGood image place len nv bank accepts) →
    judge_capsule image place len bank (layout_of fuses.provision bank) fuses accepts ≡ Ok g.capsule
good_found image nv place len bank accepts fuses p g =
    let is = p.provisioned in
    let here = g.provisioned in
    let e : g.fuses ≡ p.all = cc in
    stands_same image nv place len bank accepts fuses p ∙ (rw e at (good_judged image nv place len bank accepts g))
