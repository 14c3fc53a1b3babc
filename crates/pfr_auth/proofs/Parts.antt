-- The parts of the judgement of an active image.
use Rattle.std.proofs.Common.{◌≡◌, ◌∙◌, ap, sym, refl, ℕ, ◌≤◌, List, length, Result, Ok, Err}
use Rattle.std.proofs.lemmas.Bool.{le-leb}
use Rattle.pfr_flash.specs.Bytes.{bytes_at}
use Rattle.pfr_flash.specs.FlashState.{FlashState, now, size_of}
use Rattle.pfr_flash.specs.Names.{manifest_type}
use Rattle.pfr_flash.specs.declared.layout.Layout.{Layout}
use Rattle.pfr_flash.specs.declared.names.Bank.{Bank}
use Rattle.pfr_flash.specs.declared.names.ContentType.{ContentType}
use Rattle.pfr_flash.proofs.RangeLemmas.{length-now}
use Rattle.pfr_engine.specs.Acceptance.{Acceptance}
use Rattle.pfr_flash.specs.Answer.{Answers}
use Rattle.pfr_chain.specs.Answer.{chain_failure}
use Rattle.pfr_chain.specs.Judge.{judge}
use Rattle.pfr_chain.specs.declared.fail.ChainFail.{ChainFail}
use Rattle.pfr_chain.specs.declared.judging.Chain.{Chain}
use Rattle.pfr_fuses.specs.FusesState.{FusesState, floor_of, row_of}
use Rattle.pfr_fuses.specs.RootSlot.{layout_of}
use Rattle.pfr_manifest.specs.Answer.{manifest_failure}
use Rattle.pfr_manifest.specs.Judge.{judge_manifest}
use Rattle.pfr_manifest.specs.declared.fail.ManifestFail.{ManifestFail}
use Rattle.pfr_manifest.specs.declared.manifest.Manifest.{Manifest}
use Rattle.pfr_auth.specs.Answer.{active_failure}
use Rattle.pfr_flash.specs.Judging.{◌>>=◌, told_as}
use Rattle.pfr_auth.specs.Judge.{judge_active, judge_regions, judge_signed}
use Rattle.pfr_auth.specs.declared.fail.ActiveFail.{ActiveFail}
use Rattle.pfr_auth.specs.declared.fail.ActiveFail.TheVariants as causes
use Rattle.pfr_flash.proofs.AnswerLemmas.{refused, told_refused}

-- ---- the manifest that is signed, where what is asked of the chain are these values of the bank
module _ (image : List ℕ) (bank : Bank) (fuses : FusesState) (accepts : Acceptance) (layout : Layout) (ty : ContentType) (root row : List ℕ)
    (laid : layout ≡ layout_of fuses.provision bank) (typed : ty ≡ manifest_type bank) (rooted : root ≡ fuses.provision.root) (cancelled : row ≡ row_of fuses ty) where
  pub signed_is : judge_signed image bank fuses accepts ≡
      (told_as causes.Chain (judge image layout.manifest_at layout.manifest_len ty root row accepts) >>= λ chain. told_as causes.Manifest (judge_manifest (bytes_at image chain.content_at chain.length) layout (length image)))
  unfolding judge_signed
  signed_is = rw (cancelled, typed, rooted, laid) refl

  pub signed_content : (chain : Chain) → judge image layout.manifest_at layout.manifest_len ty root row accepts ≡ Ok chain →
      judge_signed image bank fuses accepts ≡ told_as causes.Manifest (judge_manifest (bytes_at image chain.content_at chain.length) layout (length image))
  signed_content chain h = signed_is ∙ ap (λ (r : Result Chain ChainFail). told_as causes.Chain r >>= λ chain. told_as causes.Manifest (judge_manifest (bytes_at image chain.content_at chain.length) layout (length image))) h

module _ (old : FlashState) (bank : Bank) (fuses : FusesState) (accepts : Acceptance) (layout : Layout) (ty : ContentType) (root row : List ℕ)
    (laid : layout ≡ layout_of fuses.provision bank) (typed : ty ≡ manifest_type bank) (rooted : root ≡ fuses.provision.root) (cancelled : row ≡ row_of fuses ty) where
  pub chain_refused : (cause : ChainFail) → Answers chain_failure (Err cause) (judge (now old) layout.manifest_at layout.manifest_len ty root row accepts) →
      Answers active_failure (Err (causes.Chain cause)) (judge_signed (now old) bank fuses accepts)
  chain_refused cause h =
      let judged : Result Chain ChainFail = judge (now old) layout.manifest_at layout.manifest_len ty root row accepts in
      refused active_failure (causes.Chain cause) (told_as causes.Chain judged) _ (λ e. signed_is (now old) bank fuses accepts layout ty root row laid typed rooted cancelled ∙ rw e refl)
      (told_refused chain_failure active_failure causes.Chain cause judged refl h)

  signed_later : (mid : FlashState) (chain : Chain) → now mid ≡ now old → judge (now old) layout.manifest_at layout.manifest_len ty root row accepts ≡ Ok chain →
      judge_signed (now old) bank fuses accepts ≡ told_as causes.Manifest (judge_manifest (bytes_at (now mid) chain.content_at chain.length) layout (size_of mid))
  signed_later mid chain reads h =
      signed_content (now old) bank fuses accepts layout ty root row laid typed rooted cancelled chain h ∙ rw (← reads, length-now mid) refl

  pub manifest_refused : (mid : FlashState) (chain : Chain) (cause : ManifestFail) → now mid ≡ now old → judge (now old) layout.manifest_at layout.manifest_len ty root row accepts ≡ Ok chain →
      Answers manifest_failure (Err cause) (judge_manifest (bytes_at (now mid) chain.content_at chain.length) layout (size_of mid)) →
      Answers active_failure (Err (causes.Manifest cause)) (judge_signed (now old) bank fuses accepts)
  manifest_refused mid chain cause reads h k =
      let judged : Result Manifest ManifestFail = judge_manifest (bytes_at (now mid) chain.content_at chain.length) layout (size_of mid) in
      refused active_failure (causes.Manifest cause) (told_as causes.Manifest judged) _ (λ e. signed_later mid chain reads h ∙ e)
      (told_refused manifest_failure active_failure causes.Manifest cause judged refl k)

  pub manifest_found : (mid : FlashState) (chain : Chain) (m : Manifest) → now mid ≡ now old → judge (now old) layout.manifest_at layout.manifest_len ty root row accepts ≡ Ok chain →
      judge_manifest (bytes_at (now mid) chain.content_at chain.length) layout (size_of mid) ≡ Ok m →
      judge_signed (now old) bank fuses accepts ≡ Ok m
  manifest_found mid chain m reads h k =
      signed_later mid chain reads h ∙ ap (λ (r : Result Manifest ManifestFail). told_as causes.Manifest r) k

-- a refusal of the regions, after calls that only read, is one of the whole
pub regions_refused : (old mid : FlashState) (bank : Bank) (fuses : FusesState) (accepts : Acceptance) (m : Manifest) (cause : ActiveFail) → now mid ≡ now old →
    judge_signed (now old) bank fuses accepts ≡ Ok m → floor_of fuses bank ≤ m.svn → Answers active_failure (Err cause) (judge_regions (now mid) 0 m.regions) →
    Answers active_failure (Err cause) (judge_active (now old) bank fuses accepts)
unfolding judge_active
regions_refused old mid bank fuses accepts m cause reads signed above h =
    let over = le-leb (floor_of fuses bank) m.svn above in
    refused active_failure cause (judge_regions (now mid) 0 m.regions) _
    (λ e. let k : judge_regions (now old) 0 m.regions ≡ Err cause = ap (λ (image : List ℕ). judge_regions image 0 m.regions) (sym reads) ∙ e in
    rw (signed, over, k) refl) h
