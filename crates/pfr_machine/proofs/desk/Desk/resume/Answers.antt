use Rattle.std.proofs.lemmas.Result.{err_from_is_err_and}
use Rattle.pfr_flash.specs.declared.names.Bank.{Bank}
use Rattle.pfr_jobs.specs.LogState.{LogState}
use Rattle.pfr_story.specs.JobPlans.{by_open, job_notes}
use Rattle.pfr_story.specs.Story.{Plan}
use Rattle.pfr_machine.proofs.PlanLemmas.{loaded_goes, loaded_stopped}
use Rattle.pfr_machine.proofs.desk.Desk.resume.Goals as goal

pub returns-in_err-log-clause-goes : goal.returns-in_err-log-clause-goes
returns-in_err-log-clause-goes g c =
    let p = err_from_is_err_and c.from_residual.result c.from_residual.ensures.1 in
    let next : LogState → Bank → Plan = λ log b. by_open (job_notes b) (g.E.Engine.accepts c.args.engine.now) b c.args.fuses.now log.job in
    rw (p.1, p.2) (loaded_stopped next c.args.self.now.bank _ _ _ _ c.in_err-log.ensures.goes)

pub returns-clause-goes : goal.returns-clause-goes
returns-clause-goes g c =
    let next : LogState → Bank → Plan = λ log b. by_open (job_notes b) (g.E.Engine.accepts c.args.engine.now) b c.args.fuses.now log.job in
    loaded_goes next c.args.self.now c.load_log.new.self c.by_open.new.self c.by_open.result c.in_ok-log.log c.in_ok-log.ensures.goes c.in_ok-log.ensures.stays.bank c.in_ok-log.ensures.found c.by_open.ensures.goes
