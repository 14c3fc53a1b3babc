use Rattle.std.proofs.lemmas.Result.{err_from_is_err_and}
use Rattle.pfr_report.specs.declared.note.What.TheVariants.{Abandoned, RecoveryUpdated}
use Rattle.pfr_story.specs.JobPlans.{copied_over}
use Rattle.pfr_machine.specs.Renewing.{looked_over}
use Rattle.pfr_story.proofs.Sequence.{Stopped-first}
use Rattle.pfr_machine.proofs.PlanLemmas.{goes_behind}
use Rattle.pfr_machine.proofs.desk.Desk.recovery_work.Goals as goal

pub returns-in_err-copy_over-clause-goes : goal.returns-in_err-copy_over-clause-goes
returns-in_err-copy_over-clause-goes g c =
    let p = err_from_is_err_and c.from_residual.result c.from_residual.ensures.1 in
    rw (p.1, p.2) (Stopped-first (copied_over c.args.self.now.bank c.args.fuses.now c.args.capsule.now) (looked_over (Abandoned c.args.self.now.bank) (λ svn. RecoveryUpdated c.args.self.now.bank svn) (g.E.Engine.accepts c.args.engine.now) c.args.fuses.now c.args.capsule.now c.args.self.now.bank) _ _ _ _ c.in_err-copy_over.ensures.goes)

pub returns-clause-goes : goal.returns-clause-goes
returns-clause-goes g c =
    goes_behind (copied_over c.args.self.now.bank c.args.fuses.now c.args.capsule.now) (λ b. looked_over (Abandoned b) (λ svn. RecoveryUpdated b svn) (g.E.Engine.accepts c.args.engine.now) c.args.fuses.now c.args.capsule.now b) c.args.self.now c.copy_over.new.self c.look_over.new.self c.look_over.result
    c.in_ok-copy_over.ensures.stays.bank c.in_ok-copy_over.ensures.goes c.look_over.ensures.goes
