-- A capsule that was judged in an area of its bank can be applied.
use Rattle.std.proofs.Common.{◌≡◌, ◌∙◌, ap, sym, subst, arith, ℕ, ◌+◌, nat_le, ◌/◌, ◌%◌, List, length, All, Ok}
use Rattle.std.proofs.lemmas.Bool.Decides.{nat_tests}
use Rattle.pfr_flash.specs.Bytes.{bytes_at}
use Rattle.pfr_flash.specs.FlashState.{FlashState, now, size_of}
use Rattle.pfr_flash.specs.Layout.{IsBankSize, IsValidLayout}
use Rattle.pfr_flash.specs.declared.layout.Layout.{Layout}
use Rattle.pfr_flash.specs.declared.names.Bank.{Bank}
use Rattle.pfr_flash.proofs.JudgingLemmas.{passed_part, passed_unit, passed_test, passed_none}
use Rattle.pfr_flash.proofs.RangeLemmas.{length-now}
use Rattle.pfr_engine.specs.Acceptance.{Acceptance}
use Rattle.pfr_fuses.specs.FusesState.{FusesState}
use Rattle.pfr_manifest.specs.Regions.{IsRegion}
use Rattle.pfr_manifest.specs.declared.region.Region.{Region}
use Rattle.pfr_capsule.specs.CapsuleState.{CapsuleState, capsule_of}
use Rattle.pfr_capsule.specs.Judge.{judge_capsule, judge_header, judge_maps, judge_numbers, judge_pages}
use Rattle.pfr_capsule.specs.PageBytes.{incoherent_region}
use Rattle.pfr_capsule.specs.PageHeader.{page_header_of}
use Rattle.pfr_capsule.specs.Pages.{HasIndex, copy_map, erase_map, pages_at}
use Rattle.pfr_capsule.specs.Signed.{end_of}
use Rattle.pfr_capsule.specs.SignedJudge.{judge_signed}
use Rattle.pfr_capsule.specs.declared.fail.CapsuleFail.TheVariants as causes
use Rattle.pfr_capsule.specs.declared.page_header.PageHeader.{PageHeader}
use Rattle.pfr_capsule.specs.declared.pages.Pages.{Pages}
use Rattle.pfr_copy.specs.Applying.{CanApply, LiesInArea}

numbers_bits : (header : PageHeader) (at end size : ℕ) → judge_numbers header at end size ≡ Ok tt → header.map_bits ≡ size / 4096
unfolding judge_numbers
numbers_bits header at end size h = grind (arith, nat_tests)

header_bits : (image : List ℕ) (at end : ℕ) (header : PageHeader) → judge_header image at end ≡ Ok header → header.map_bits ≡ length image / 4096
unfolding judge_header
header_bits image at end header h =
    let said : PageHeader = page_header_of (bytes_at image at 128) in
    let a = passed_test causes.PbcHeader (nat_le (at + 128) end) _ header h in
    let b = passed_unit (judge_numbers said at end (length image)) (Ok said) header a.1 in
    let is : said ≡ header = cc in
    ap (λ (p : PageHeader). p.map_bits) (sym is) ∙ numbers_bits said at end (length image) b.0

pages_bits : (image : List ℕ) (at : ℕ) (header : PageHeader) (regions : List Region) (pages : Pages) → judge_pages image at header regions ≡ Ok pages → pages.bits ≡ header.map_bits
unfolding judge_pages
pages_bits image at header regions pages h =
    let here : Pages = pages_at image at header.map_bits in
    let a = passed_unit (judge_maps (erase_map image here) (copy_map image here) header.map_bits header.payload_len regions) (Ok here) pages h in
    let is : here ≡ pages = cc in
    ap (λ (p : Pages). p.bits) (sym is)

-- its maps have the pages of the bank
judged_bits : (image : List ℕ) (place len : ℕ) (bank : Bank) (layout : Layout) (fuses : FusesState) (accepts : Acceptance) (capsule : CapsuleState)
    → judge_capsule image place len bank layout fuses accepts ≡ Ok capsule → capsule.pages.bits ≡ length image / 4096
unfolding judge_capsule
judged_bits image place len bank layout fuses accepts capsule h =
    let a = passed_part (judge_signed image place len bank layout fuses accepts) _ capsule h in
    let b = passed_part (judge_header image (end_of a.0.inner) (end_of a.0.capsule)) _ capsule a.2 in
    let d = passed_part (judge_pages image (end_of a.0.inner + 128) b.0 a.0.manifest.regions) _ capsule b.2 in
    let f = passed_none causes.Incoherent (incoherent_region image d.0 a.0.manifest.regions) (Ok (capsule_of image place a.0 d.0)) capsule d.2 in
    let is : capsule_of image place a.0 d.0 ≡ capsule = let last = f.1 in cc in
    ap (λ (c : CapsuleState). c.pages.bits) (sym is)
    ∙ (pages_bits image (end_of a.0.inner + 128) b.0 a.0.manifest.regions d.0 d.1 ∙ header_bits image (end_of a.0.inner) (end_of a.0.capsule) b.0 b.1)

-- What a judgement tells of a good capsule is all that is asked of one that is applied.
pub judged_applies : (d : FlashState) (place : ℕ) (bank : Bank) (layout : Layout) (fuses : FusesState) (accepts : Acceptance) (capsule : CapsuleState) → IsBankSize (size_of d) → IsValidLayout layout (size_of d)
    → judge_capsule (now d) place layout.area_len bank layout fuses accepts ≡ Ok capsule → HasIndex (now d) capsule.pages → All (IsRegion layout (size_of d)) capsule.manifest.regions
    → LiesInArea (now d) layout capsule → CanApply (now d) layout capsule
judged_applies d place bank layout fuses accepts capsule size valid judged index regions lies =
    let same : size_of d ≡ length (now d) = sym (length-now d) in
    let blocks : length (now d) % 65536 ≡ 0 = subst (λ (n : ℕ). n % 65536 ≡ 0) same size.blocks in
    let bits = judged_bits (now d) place layout.area_len bank layout fuses accepts capsule judged in
    record {
      valid = subst (λ (n : ℕ). IsValidLayout layout n) same valid;
      lies = lies;
      index = index;
      bits = omega (arith, bits, blocks);
      regions = subst (λ (n : ℕ). All (IsRegion layout n) capsule.manifest.regions) same regions;
    }
