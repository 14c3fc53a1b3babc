use Rattle.std.proofs.Common.{◌∙◌, ◌/◌, length, ap, arith, Err}
use Rattle.std.proofs.lemmas.Result.{err_from_is_err_and}
use Rattle.pfr_flash.specs.FlashState.{now}
use Rattle.pfr_flash.specs.declared.flash.FlashFail.{FlashFail}
use Rattle.pfr_flash.proofs.RangeLemmas.{length-now}
use Rattle.pfr_copy.specs.Working.{is_job_page, job_page}
use Rattle.pfr_copy.proofs.PlanLemmas.{all_done, all_failed}
use Rattle.pfr_copy.proofs.copying.replace_all.Goals as goal

pub returns-in_err-replace_pages : goal.returns-in_err-replace_pages
returns-in_err-replace_pages g c =
    let d = g.F.Flash.device c.args.flash.now in
    let p = err_from_is_err_and c.from_residual.result c.from_residual.ensures.1 in
    all_failed (job_page c.args.kind (now d) c.args.capsule.now c.args.layout.now) (is_job_page c.args.kind (now d) c.args.capsule.now c.args.layout.now) _ (length (now d) / 4096) (omega (arith, c.size.ensures, length-now d)) _ _ c.replace_pages.result c.from_residual.result c.in_err-replace_pages.field-0.0
    c.replace_pages.ensures.follows c.in_err-replace_pages.was (p.1 ∙ ap (λ (e : FlashFail). Err e) p.2)

pub returns : goal.returns
returns g c =
    let d = g.F.Flash.device c.args.flash.now in
    all_done (job_page c.args.kind (now d) c.args.capsule.now c.args.layout.now) (is_job_page c.args.kind (now d) c.args.capsule.now c.args.layout.now) _ (length (now d) / 4096) (omega (arith, c.size.ensures, length-now d)) _ _ c.replace_pages.result c.in_ok-replace_pages.field-0 tt
    c.replace_pages.ensures.follows c.in_ok-replace_pages.was
