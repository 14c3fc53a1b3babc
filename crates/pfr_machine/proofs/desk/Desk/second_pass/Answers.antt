use Rattle.std.proofs.lemmas.Result.{err_from_is_err_and}
use Rattle.pfr_report.specs.declared.note.What.TheVariants.{Abandoned, RecoveryUpdated}
use Rattle.pfr_story.specs.JobPlans.{copied_again}
use Rattle.pfr_machine.specs.Renewing.{looked_again}
use Rattle.pfr_story.proofs.Sequence.{Stopped-first}
use Rattle.pfr_machine.proofs.PlanLemmas.{goes_behind}
use Rattle.pfr_machine.proofs.desk.Desk.second_pass.Goals as goal

pub returns-in_err-copy_again-clause-goes : goal.returns-in_err-copy_again-clause-goes
returns-in_err-copy_again-clause-goes g c =
    let p = err_from_is_err_and c.from_residual.result c.from_residual.ensures.1 in
    rw (p.1, p.2) (Stopped-first (copied_again c.args.self.now.bank c.args.fuses.now c.args.capsule.now) (looked_again (Abandoned c.args.self.now.bank) (λ svn. RecoveryUpdated c.args.self.now.bank svn) (g.E.Engine.accepts c.args.engine.now) c.args.fuses.now c.args.self.now.bank) _ _ _ _ c.in_err-copy_again.ensures.goes)

pub returns-clause-goes : goal.returns-clause-goes
returns-clause-goes g c =
    goes_behind (copied_again c.args.self.now.bank c.args.fuses.now c.args.capsule.now) (λ b. looked_again (Abandoned b) (λ svn. RecoveryUpdated b svn) (g.E.Engine.accepts c.args.engine.now) c.args.fuses.now b) c.args.self.now c.copy_again.new.self c.look_again.new.self c.look_again.result
    c.in_ok-copy_again.ensures.stays.bank c.in_ok-copy_again.ensures.goes c.look_again.ensures.goes
