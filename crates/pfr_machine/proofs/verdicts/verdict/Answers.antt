use Rattle.pfr_flash.proofs.RangeLemmas.{length-now}
use Rattle.pfr_flash.proofs.EndsLemmas.{ends_content, then_ends}
use Rattle.std.proofs.Common.{◌∙◌, refl, inl, inr}
use Rattle.std.proofs.lemmas.Result.{err_from_is_err_and}
use Rattle.pfr_machine.proofs.VerdictLaw.{floor_told, job_by, told_is, told_means}
use Rattle.pfr_machine.proofs.verdicts.verdict.Goals as goal

pub returns-in_err-found-clause-ends : goal.returns-in_err-found-clause-ends
returns-in_err-found-clause-ends g c =
    let p = err_from_is_err_and c.from_residual.result c.from_residual.ensures.1 in
    rw (p.1, p.2) (inl (c.in_err-found.ensures.ends, refl))

pub returns-in_err-log-clause-ends : goal.returns-in_err-log-clause-ends
returns-in_err-log-clause-ends g c =
    let p = err_from_is_err_and c.from_residual-in_err-log.result c.from_residual-in_err-log.ensures.1 in
    rw (p.1, p.2) (inl (then_ends c.in_ok-found.ensures.ends c.in_err-log.ensures.ends, refl))

pub returns-in_err-verdict-clause-ends : goal.returns-in_err-verdict-clause-ends
returns-in_err-verdict-clause-ends g c =
    let p = err_from_is_err_and c.from_residual-in_err-verdict.result c.from_residual-in_err-verdict.ensures.1 in
    rw (p.1, p.2) (inr (then_ends c.in_ok-found.ensures.ends c.in_ok-log.ensures.ends, c.in_err-verdict.ensures.ends))

pub returns-clause-ends : goal.returns-clause-ends
returns-clause-ends g c = (c.in_ok-verdict.ensures.ends, then_ends c.in_ok-found.ensures.ends c.in_ok-log.ensures.ends)

pub returns-clause-exact : goal.returns-clause-exact
returns-clause-exact g c =
    let log = job_by _ _ _ _ _ c.job.ensures c.in_ok-log.ensures.found (ends_content c.in_ok-found.ensures.ends) in
    told_is c.args.bank _ _ _ c.in_ok-found.found c.in_ok-found.ensures.found c.job.result log c.in_ok-verdict.verdict c.tell_job.result c.tell_job.ensures.told c.in_ok-verdict.ensures.found

pub returns-clause-means : goal.returns-clause-means
returns-clause-means g c =
    let log = job_by _ _ _ _ _ c.job.ensures c.in_ok-log.ensures.found (ends_content c.in_ok-found.ensures.ends) in
    told_means c.args.bank _ _ _ c.in_ok-found.found c.in_ok-found.ensures.found c.job.result log c.in_ok-verdict.verdict c.tell_job.result c.tell_job.ensures.told c.in_ok-verdict.ensures.found c.in_ok-verdict.ensures.sound

pub returns-clause-floor : goal.returns-clause-floor
returns-clause-floor g c =
    let log = job_by _ _ _ _ _ c.job.ensures c.in_ok-log.ensures.found (ends_content c.in_ok-found.ensures.ends) in
    floor_told c.args.bank _ _ _ c.tell_job.result (length-now (g.F.Flash.device c.args.nv.now) ∙ c.requires.store)
    (told_is c.args.bank _ _ _ c.in_ok-found.found c.in_ok-found.ensures.found c.job.result log c.in_ok-verdict.verdict c.tell_job.result c.tell_job.ensures.told c.in_ok-verdict.ensures.found)
