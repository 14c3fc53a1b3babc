use Rattle.std.proofs.Common.{◌≡◌, ◌∙◌, sym, ap, subst, ℕ, List, length, drop, Result, arith}
use Rattle.std.proofs.lemmas.Result.{err_from_is_err_and}
use Rattle.pfr_flash.specs.Bytes.{bytes_at}
use Rattle.pfr_flash.specs.FlashState.{FlashState, now, size_of}
use Rattle.pfr_flash.proofs.RangeLemmas.{length-now}
use Rattle.pfr_flash.proofs.EndsLemmas.{ends_content}
use Rattle.pfr_manifest.specs.Answer.{manifest_failure}
use Rattle.pfr_manifest.specs.Judge.{turns_left, judge_entries}
use Rattle.pfr_flash.proofs.BytesLemmas.{length-bytes_at}
use Rattle.pfr_flash.proofs.AnswerLemmas.{refused}
use Rattle.pfr_flash.specs.Answer.{Answers}
use Rattle.pfr_manifest.proofs.EntryLemmas.{header_refused, header_passed}
use Rattle.pfr_manifest.specs.declared.fail.ManifestFail.{ManifestFail}
use Rattle.pfr_manifest.specs.declared.manifest.Manifest.{Manifest}
use Rattle.pfr_manifest.proofs.reading.judged.Goals as goal

pub returns-in_err-header-clause-exact : goal.returns-in_err-header-clause-exact
returns-in_err-header-clause-exact g c =
    let p = err_from_is_err_and c.from_residual.result c.from_residual.ensures.1 in
    let old : FlashState = g.F.Flash.device c.args.flash.now in
    let long : length (bytes_at (now old) c.args.place c.args.size) ≡ c.args.size = length-bytes_at (now old) c.args.place c.args.size (omega (arith, length-now old)) in
    rw (p.1, p.2) (refused manifest_failure c.in_err-header.field-0.0 _ _ (λ e. header_refused _ c.args.size c.args.layout.now (size_of old) _ long e) c.in_err-header.ensures.exact)

pub returns-clause-exact : goal.returns-clause-exact
returns-clause-exact g c =
    let old : FlashState = g.F.Flash.device c.args.flash.now in
    let bytes : List ℕ = bytes_at (now old) c.args.place c.args.size in
    let long : length bytes ≡ c.args.size = length-bytes_at (now old) c.args.place c.args.size (omega (arith, length-now old)) in
    let whole = header_passed bytes c.args.size c.args.layout.now (size_of old) c.in_ok-header.header long c.in_ok-header.ensures.exact in
    let same = ap (λ image. judge_entries (turns_left c.in_ok-header.header) (drop 32 (bytes_at image c.args.place c.args.size)) 32 c.in_ok-header.header c.args.layout.now c.size-bank.result) (ends_content c.in_ok-header.ensures.ends) in
    let sized = ap (λ bank. judge_entries (turns_left c.in_ok-header.header) (drop 32 bytes) 32 c.in_ok-header.header c.args.layout.now bank) c.size-bank.ensures in
    subst (λ (judged : Result Manifest ManifestFail). Answers manifest_failure c.entries_at.result judged) (same ∙ sized ∙ sym whole) c.entries_at.ensures.exact
