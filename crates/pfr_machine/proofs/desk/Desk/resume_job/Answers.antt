use Rattle.std.proofs.Common.{◌≡◌, subst, Result, Ok, Err}
use Rattle.pfr_flash.specs.declared.names.Bank.{Bank}
use Rattle.pfr_capsule.specs.CapsuleState.{CapsuleState}
use Rattle.pfr_capsule.specs.declared.fail.CapsuleFail.{CapsuleFail}
use Rattle.pfr_auth.specs.Areas.{judge_area}
use Rattle.pfr_auth.specs.declared.areas.Area.{Area}
use Rattle.pfr_story.specs.JobPlans.{by_source, job_notes, source_of}
use Rattle.pfr_story.specs.Plans.{mine}
use Rattle.pfr_story.specs.World.{story_of}
use Rattle.pfr_story.specs.Story.{Plan}
use Rattle.pfr_machine.proofs.PlanLemmas.{judged_goes, judged_stopped}
use Rattle.pfr_machine.proofs.desk.Desk.resume_job.Goals as goal

pub returns-in-Ok-Ok-clause-goes : goal.returns-in-Ok-Ok-clause-goes
returns-in-Ok-Ok-clause-goes g c =
    let next : Bank → Result CapsuleState CapsuleFail → Plan = λ b found. by_source (job_notes b) (g.E.Engine.accepts c.args.engine.now) b c.args.fuses.now c.args.kind c.args.digest.now found in
    judged_goes (g.E.Engine.accepts c.args.engine.now) c.args.fuses.now (source_of c.args.kind) next c.args.self.now c.judge.new.self c.resume_from.new.self c.resume_from.result c.in-Ok-Ok.ensures.goes c.in-Ok-Ok.ensures.stays.bank
    (Ok c.in-Ok-Ok.found) (subst (λ (area : Area). Ok c.in-Ok-Ok.found ≡ judge_area area c.args.self.now.bank (mine c.args.self.now.bank (story_of c.args.self.now.world)) c.args.fuses.now (g.E.Engine.accepts c.args.engine.now)) c.source_of.ensures (rw c.in-Ok-Ok.field-0-is at c.in-Ok-Ok.ensures.is)) c.resume_from.ensures.goes

pub returns-in-Ok-Err-clause-goes : goal.returns-in-Ok-Err-clause-goes
returns-in-Ok-Err-clause-goes g c =
    let next : Bank → Result CapsuleState CapsuleFail → Plan = λ b found. by_source (job_notes b) (g.E.Engine.accepts c.args.engine.now) b c.args.fuses.now c.args.kind c.args.digest.now found in
    judged_goes (g.E.Engine.accepts c.args.engine.now) c.args.fuses.now (source_of c.args.kind) next c.args.self.now c.judge.new.self c.give_up.new.self c.give_up.result c.in-Ok-Err.ensures.goes c.in-Ok-Err.ensures.stays.bank
    (Err c.in-Ok-Err.field-0-0) (subst (λ (area : Area). Err c.in-Ok-Err.field-0-0 ≡ judge_area area c.args.self.now.bank (mine c.args.self.now.bank (story_of c.args.self.now.world)) c.args.fuses.now (g.E.Engine.accepts c.args.engine.now)) c.source_of.ensures (rw c.in-Ok-Err.field-0-is at c.in-Ok-Err.ensures.is)) c.give_up.ensures.goes

pub returns-in-Err-clause-goes : goal.returns-in-Err-clause-goes
returns-in-Err-clause-goes g c =
    let next : Bank → Result CapsuleState CapsuleFail → Plan = λ b found. by_source (job_notes b) (g.E.Engine.accepts c.args.engine.now) b c.args.fuses.now c.args.kind c.args.digest.now found in
    judged_stopped (g.E.Engine.accepts c.args.engine.now) c.args.fuses.now (source_of c.args.kind) next c.args.self.now.bank c.in-Err.stop.device c.in-Err.stop.fail c.args.self.now.world c.judge.new.self.world c.in-Err.ensures.goes
