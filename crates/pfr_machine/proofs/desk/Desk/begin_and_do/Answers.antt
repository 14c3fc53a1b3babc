use Rattle.std.proofs.lemmas.Result.{err_from_is_err_and}
use Rattle.pfr_story.specs.JobPlans.{begun_job, done_with}
use Rattle.pfr_story.proofs.Sequence.{Stopped-first}
use Rattle.pfr_machine.proofs.PlanLemmas.{goes_behind}
use Rattle.pfr_machine.proofs.desk.Desk.begin_and_do.Goals as goal

pub returns-in_err-begin_job-clause-goes : goal.returns-in_err-begin_job-clause-goes
returns-in_err-begin_job-clause-goes g c =
    let p = err_from_is_err_and c.from_residual.result c.from_residual.ensures.1 in
    rw (p.1, p.2) (Stopped-first (begun_job c.args.self.now.bank c.args.kind c.args.capsule.now.digest) (done_with c.args.self.now.bank c.args.kind c.args.fuses.now c.args.capsule.now c.args.that) _ _ _ _ (rw c.digest.ensures at c.in_err-begin_job.ensures.goes))

pub returns-clause-goes : goal.returns-clause-goes
returns-clause-goes g c =
    goes_behind (begun_job c.args.self.now.bank c.args.kind c.args.capsule.now.digest) (λ b. done_with b c.args.kind c.args.fuses.now c.args.capsule.now c.args.that) c.args.self.now c.begin_job.new.self c.do_job.new.self c.do_job.result
    c.in_ok-begin_job.ensures.stays.bank (rw c.digest.ensures at c.in_ok-begin_job.ensures.goes) c.do_job.ensures.goes
