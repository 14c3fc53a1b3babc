use Rattle.std.proofs.Common.{◌∙◌, ap, Err, true, false}
use Rattle.std.proofs.lemmas.Result.{err_from_is_err_and}
use Rattle.pfr_flash.specs.FlashState.{now}
use Rattle.pfr_flash.specs.declared.flash.FlashFail.{FlashFail}
use Rattle.pfr_copy.specs.Working.{is_job_page, job_page}
use Rattle.pfr_copy.proofs.PlanLemmas.{page_stops, page_written, page_unwritten, page_passed, is_written, isnt_written}
use Rattle.pfr_copy.proofs.pages.replace_page.Goals as goal

pub returns-in_err-bytes-clause-follows : goal.returns-in_err-bytes-clause-follows
returns-in_err-bytes-clause-follows g c =
    let image = now (g.F.Flash.device c.args.flash.now) in
    let p = err_from_is_err_and c.from_residual.result c.from_residual.ensures.1 in
    page_stops (job_page c.args.kind image c.args.capsule.now c.args.layout.now) (is_job_page c.args.kind image c.args.capsule.now c.args.layout.now) c.args.n _ _ c.from_residual.result c.in_err-bytes.field-0.0
    c.in_err-bytes.ensures.ends (p.1 ∙ ap (λ (e : FlashFail). Err e) p.2)

pub returns-in_err-write_page-in-Some-clause-follows : goal.returns-in_err-write_page-in-Some-clause-follows
returns-in_err-write_page-in-Some-clause-follows g c =
    let image = now (g.F.Flash.device c.args.flash.now) in
    let p = err_from_is_err_and c.from_residual-in_err-write_page-in-Some.result c.from_residual-in_err-write_page-in-Some.ensures.1 in
    let w = is_written (job_page c.args.kind image c.args.capsule.now c.args.layout.now) (is_job_page c.args.kind image c.args.capsule.now c.args.layout.now) c.args.n c.in-Some.bytes c.in_ok-bytes.field-0 c.in_ok-bytes.ensures.found c.in-Some.is in
    page_unwritten (job_page c.args.kind image c.args.capsule.now c.args.layout.now) (is_job_page c.args.kind image c.args.capsule.now c.args.layout.now) c.args.n c.in-Some.bytes _ _ _ c.write_page.result
    c.from_residual-in_err-write_page-in-Some.result c.in_err-write_page-in-Some.field-0.0 w.0 w.1 c.in_ok-bytes.ensures.ends c.write_page.ensures c.in_err-write_page-in-Some.was (p.1 ∙ ap (λ (e : FlashFail). Err e) p.2)

pub returns-in_ok-write_page-in-Some-clause-follows : goal.returns-in_ok-write_page-in-Some-clause-follows
returns-in_ok-write_page-in-Some-clause-follows g c =
    let image = now (g.F.Flash.device c.args.flash.now) in
    let w = is_written (job_page c.args.kind image c.args.capsule.now c.args.layout.now) (is_job_page c.args.kind image c.args.capsule.now c.args.layout.now) c.args.n c.in-Some.bytes c.in_ok-bytes.field-0 c.in_ok-bytes.ensures.found c.in-Some.is in
    page_written (job_page c.args.kind image c.args.capsule.now c.args.layout.now) (is_job_page c.args.kind image c.args.capsule.now c.args.layout.now) c.args.n c.in-Some.bytes _ _ _ c.in_ok-write_page-in-Some.field-0 true c.write_page.result
    w.0 w.1 c.in_ok-bytes.ensures.ends c.write_page.ensures c.in_ok-write_page-in-Some.was

pub returns-in-None-clause-follows : goal.returns-in-None-clause-follows
returns-in-None-clause-follows g c =
    let image = now (g.F.Flash.device c.args.flash.now) in
    page_passed (job_page c.args.kind image c.args.capsule.now c.args.layout.now) (is_job_page c.args.kind image c.args.capsule.now c.args.layout.now) c.args.n _ _ false
    (isnt_written (job_page c.args.kind image c.args.capsule.now c.args.layout.now) (is_job_page c.args.kind image c.args.capsule.now c.args.layout.now) c.args.n c.in_ok-bytes.field-0 c.in_ok-bytes.ensures.found c.in-None.is) c.in_ok-bytes.ensures.ends
