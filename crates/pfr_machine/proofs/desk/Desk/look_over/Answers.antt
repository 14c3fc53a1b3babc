use Rattle.std.proofs.Common.{Result, Ok, Err}
use Rattle.pfr_flash.specs.declared.names.Bank.{Bank}
use Rattle.pfr_capsule.specs.CapsuleState.{CapsuleState}
use Rattle.pfr_capsule.specs.declared.fail.CapsuleFail.{CapsuleFail}
use Rattle.pfr_auth.specs.declared.areas.Area.TheVariants.{Recovery}
use Rattle.pfr_report.specs.declared.note.What.TheVariants.{Abandoned, RecoveryUpdated}
use Rattle.pfr_story.specs.JobPlans.{by_first_pass}
use Rattle.pfr_story.specs.Story.{Plan}
use Rattle.pfr_machine.proofs.PlanLemmas.{judged_goes, judged_stopped}
use Rattle.pfr_machine.proofs.desk.Desk.look_over.Goals as goal

pub returns-in-Ok-Ok-clause-goes : goal.returns-in-Ok-Ok-clause-goes
returns-in-Ok-Ok-clause-goes g c =
    let next : Bank → Result CapsuleState CapsuleFail → Plan = λ b found. by_first_pass (Abandoned b) (λ svn. RecoveryUpdated b svn) (g.E.Engine.accepts c.args.engine.now) b c.args.fuses.now c.args.capsule.now found in
    judged_goes (g.E.Engine.accepts c.args.engine.now) c.args.fuses.now Recovery next c.args.self.now c.judge.new.self c.by_found.new.self c.by_found.result c.in-Ok-Ok.ensures.goes c.in-Ok-Ok.ensures.stays.bank
    (Ok c.in-Ok-Ok.found) (rw c.in-Ok-Ok.field-0-is at c.in-Ok-Ok.ensures.is) c.by_found.ensures.goes

pub returns-in-Ok-Err-clause-goes : goal.returns-in-Ok-Err-clause-goes
returns-in-Ok-Err-clause-goes g c =
    let next : Bank → Result CapsuleState CapsuleFail → Plan = λ b found. by_first_pass (Abandoned b) (λ svn. RecoveryUpdated b svn) (g.E.Engine.accepts c.args.engine.now) b c.args.fuses.now c.args.capsule.now found in
    judged_goes (g.E.Engine.accepts c.args.engine.now) c.args.fuses.now Recovery next c.args.self.now c.judge.new.self c.second_pass.new.self c.second_pass.result c.in-Ok-Err.ensures.goes c.in-Ok-Err.ensures.stays.bank
    (Err c.in-Ok-Err.field-0-0) (rw c.in-Ok-Err.field-0-is at c.in-Ok-Err.ensures.is) c.second_pass.ensures.goes

pub returns-in-Err-clause-goes : goal.returns-in-Err-clause-goes
returns-in-Err-clause-goes g c =
    let next : Bank → Result CapsuleState CapsuleFail → Plan = λ b found. by_first_pass (Abandoned b) (λ svn. RecoveryUpdated b svn) (g.E.Engine.accepts c.args.engine.now) b c.args.fuses.now c.args.capsule.now found in
    judged_stopped (g.E.Engine.accepts c.args.engine.now) c.args.fuses.now Recovery next c.args.self.now.bank c.in-Err.stop.device c.in-Err.stop.fail c.args.self.now.world c.judge.new.self.world c.in-Err.ensures.goes
