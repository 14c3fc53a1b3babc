use Rattle.std.proofs.lemmas.Result.{err_from_is_err_and}
use Rattle.pfr_jobs.specs.declared.job.JobKind.TheVariants.{RecoveryFromStaging}
use Rattle.pfr_report.specs.declared.note.What.TheVariants.{Abandoned, RecoveryUpdated}
use Rattle.pfr_story.specs.JobPlans.{begun_job, recovery_work}
use Rattle.pfr_story.proofs.Sequence.{Stopped-first}
use Rattle.pfr_machine.proofs.PlanLemmas.{goes_behind}
use Rattle.pfr_machine.proofs.desk.Desk.recovery_job.Goals as goal

pub returns-in_err-begin_job-clause-goes : goal.returns-in_err-begin_job-clause-goes
returns-in_err-begin_job-clause-goes g c =
    let p = err_from_is_err_and c.from_residual.result c.from_residual.ensures.1 in
    rw (p.1, p.2) (Stopped-first (begun_job c.args.self.now.bank RecoveryFromStaging c.args.capsule.now.digest) (recovery_work (Abandoned c.args.self.now.bank) (λ svn. RecoveryUpdated c.args.self.now.bank svn) (g.E.Engine.accepts c.args.engine.now) c.args.self.now.bank c.args.fuses.now c.args.capsule.now) _ _ _ _ (rw c.digest.ensures at c.in_err-begin_job.ensures.goes))

pub returns-clause-goes : goal.returns-clause-goes
returns-clause-goes g c =
    goes_behind (begun_job c.args.self.now.bank RecoveryFromStaging c.args.capsule.now.digest) (λ b. recovery_work (Abandoned b) (λ svn. RecoveryUpdated b svn) (g.E.Engine.accepts c.args.engine.now) b c.args.fuses.now c.args.capsule.now) c.args.self.now c.begin_job.new.self c.recovery_work.new.self c.recovery_work.result
    c.in_ok-begin_job.ensures.stays.bank (rw c.digest.ensures at c.in_ok-begin_job.ensures.goes) c.recovery_work.ensures.goes
