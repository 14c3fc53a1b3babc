-- The parts of the judgement of a capsule, as its calls find them one after the other.
use Rattle.std.proofs.Common.{◌≡◌, ◌∙◌, ap, refl, sym, ℕ, ◌+◌, ◌<◌, ◌≤◌, nat_le, false, List, length, None, Result, Ok, Err}
use Rattle.std.proofs.lemmas.Bool.{le-leb, lt-leb}
use Rattle.pfr_flash.specs.Bytes.{bytes_at}
use Rattle.pfr_flash.specs.FlashState.{FlashState, now, size_of}
use Rattle.pfr_flash.specs.declared.layout.Layout.{Layout}
use Rattle.pfr_flash.specs.declared.names.Bank.{Bank}
use Rattle.pfr_flash.specs.Reading.{EndsAt}
use Rattle.pfr_flash.proofs.EndsLemmas.{ends_content}
use Rattle.pfr_flash.proofs.RangeLemmas.{length-now}
use Rattle.pfr_engine.specs.Acceptance.{Acceptance}
use Rattle.pfr_chain.specs.declared.judging.Chain.{Chain}
use Rattle.pfr_fuses.specs.FusesState.{FusesState, floor_of}
use Rattle.pfr_manifest.specs.Answer.{manifest_failure}
use Rattle.pfr_manifest.specs.Judge.{judge_manifest}
use Rattle.pfr_manifest.specs.Manifest.{IsManifestOf}
use Rattle.pfr_manifest.specs.declared.fail.ManifestFail.{ManifestFail}
use Rattle.pfr_manifest.specs.declared.manifest.Manifest.{Manifest}
use Rattle.pfr_flash.specs.Answer.{Answers}
use Rattle.pfr_capsule.specs.Answer.{capsule_failure}
use Rattle.pfr_capsule.specs.Judge.{judge_header, judge_numbers}
use Rattle.pfr_flash.specs.Judging.{◌>>=◌, ◌>>◌, require, told_as}
use Rattle.pfr_capsule.specs.PageHeader.{page_header_of}
use Rattle.pfr_capsule.specs.Signed.{IsSigned, IsCapsuleChain, IsInnerChain}
use Rattle.pfr_capsule.specs.SignedJudge.{judge_capsule_chain, judge_inner_chain, judge_signed}
use Rattle.pfr_capsule.specs.declared.fail.CapsuleFail.{CapsuleFail}
use Rattle.pfr_capsule.specs.declared.fail.CapsuleFail.TheVariants as causes
use Rattle.pfr_capsule.specs.declared.page_header.PageHeader.{PageHeader}
use Rattle.pfr_flash.proofs.AnswerLemmas.{refused, told_refused}

-- ---- the header, as its bytes are read
pub header_judged : (image : List ℕ) (at end size : ℕ) (bytes : List ℕ) (header : PageHeader) → at + 128 ≤ end → bytes ≡ bytes_at image at 128 → header ≡ page_header_of bytes → size ≡ length image
    → (answer : Result (Unit {0}) CapsuleFail) → judge_numbers header at end size ≡ answer → judge_header image at end ≡ (answer >> Ok header)
unfolding judge_header
header_judged image at end size bytes header fits read is long answer h =
    let within = le-leb (at + 128) end fits in
    let said : page_header_of (bytes_at image at 128) ≡ header = ap page_header_of (sym read) ∙ sym is in
    let same : judge_numbers header at end (length image) ≡ answer = ap (λ (n : ℕ). judge_numbers header at end n) (sym long) ∙ h in
    rw (within, said, same) refl

-- ---- what is signed, as the chains and the manifest are found one after the other
module _ {old mid late : FlashState} (place len : ℕ) (bank : Bank) (layout : Layout) (fuses : FusesState) (accepts : Acceptance) (capsule inner : Chain) (first : EndsAt None old mid) (second : EndsAt None mid late)
    (outer_found : judge_capsule_chain (now old) place len bank fuses accepts ≡ Ok capsule) (inner_found : judge_inner_chain (now mid) bank layout fuses accepts capsule ≡ Ok inner) where
  rest : judge_signed (now old) place len bank layout fuses accepts ≡ (told_as causes.Manifest (judge_manifest (bytes_at (now late) inner.content_at inner.length) layout (size_of late)) >>= λ manifest.
      require causes.SvnFloor (nat_le (floor_of fuses bank) manifest.svn) >> Ok (record { capsule = capsule; inner = inner; manifest = manifest }))
  unfolding judge_signed
  rest =
      let found : judge_inner_chain (now old) bank layout fuses accepts capsule ≡ Ok inner = rw (ends_content first) at inner_found in
      rw (outer_found, found, ← ends_content first, ← ends_content second, length-now late) refl

  pub manifest_refused : (cause : ManifestFail) → Answers manifest_failure (Err cause) (judge_manifest (bytes_at (now late) inner.content_at inner.length) layout (size_of late)) →
      Answers capsule_failure (Err (causes.Manifest cause)) (judge_signed (now old) place len bank layout fuses accepts)
  manifest_refused cause h =
      let judged : Result Manifest ManifestFail = judge_manifest (bytes_at (now late) inner.content_at inner.length) layout (size_of late) in
      refused capsule_failure (causes.Manifest cause) (told_as causes.Manifest judged) _ (λ e. rest ∙ rw e refl) (told_refused manifest_failure capsule_failure causes.Manifest cause judged refl h)

  pub below_floor : (manifest : Manifest) → judge_manifest (bytes_at (now late) inner.content_at inner.length) layout (size_of late) ≡ Ok manifest → manifest.svn < floor_of fuses bank →
      judge_signed (now old) place len bank layout fuses accepts ≡ Err causes.SvnFloor
  below_floor manifest h below =
      let test : nat_le (floor_of fuses bank) manifest.svn ≡ false = lt-leb (floor_of fuses bank) manifest.svn below in
      rest ∙ rw (h, test) refl

  pub signed_found : (manifest : Manifest) → judge_manifest (bytes_at (now late) inner.content_at inner.length) layout (size_of late) ≡ Ok manifest → floor_of fuses bank ≤ manifest.svn →
      judge_signed (now old) place len bank layout fuses accepts ≡ Ok (record { capsule = capsule; inner = inner; manifest = manifest })
  signed_found manifest h above =
      let test = le-leb (floor_of fuses bank) manifest.svn above in
      rest ∙ rw (h, test) refl

  pub signed_is : (manifest : Manifest) → IsCapsuleChain (now old) place len bank fuses accepts capsule → IsInnerChain (now mid) bank layout fuses accepts capsule inner →
      IsManifestOf (bytes_at (now late) inner.content_at inner.length) manifest layout (size_of late) → floor_of fuses bank ≤ manifest.svn →
      IsSigned (now old) place len bank layout fuses accepts (record { capsule = capsule; inner = inner; manifest = manifest })
  signed_is manifest outer within spelled above = record {
    capsule = outer;
    inner = rw (ends_content first) at within;
    spelled = rw (← length-now late, ends_content second, ends_content first) at spelled;
    svn = above;
  }
