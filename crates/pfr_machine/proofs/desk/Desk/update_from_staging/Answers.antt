use Rattle.std.proofs.Common.{arith, Result, Ok, Err}
use Rattle.pfr_flash.specs.declared.names.Bank.{Bank}
use Rattle.pfr_capsule.specs.CapsuleState.{CapsuleState}
use Rattle.pfr_capsule.specs.declared.fail.CapsuleFail.{CapsuleFail}
use Rattle.pfr_auth.specs.declared.areas.Area.TheVariants.{Staging}
use Rattle.pfr_story.specs.UpdatePlans.{by_staged}
use Rattle.pfr_story.specs.Story.{Plan}
use Rattle.pfr_machine.proofs.BringLemmas.{found_ends, found_halted}
use Rattle.pfr_machine.proofs.CapsuleLemmas.{left_valid}
use Rattle.pfr_machine.proofs.EndsLemmas.{ends_most}
use Rattle.pfr_machine.proofs.desk.Desk.update_from_staging.Goals as goal

pub update_and_check-requires-clause-valid : goal.update_and_check-requires-clause-valid
update_and_check-requires-clause-valid g c =
    left_valid c.args.fuses.now c.args.self c.judge.new.self c.in-Ok-Ok.capsule c.in-Ok-Ok.ensures.stays.bank (rw c.in-Ok-Ok.field-0-is at c.in-Ok-Ok.ensures.can)

pub returns-in-Ok-Ok : goal.returns-in-Ok-Ok
returns-in-Ok-Ok g c =
    let accepts = g.E.Engine.accepts c.args.engine.now in
    let next : Bank → Result CapsuleState CapsuleFail → Plan = λ b found. by_staged accepts b c.args.dynamic c.args.fuses.now found in
    found_ends accepts c.args.fuses.now Staging next 4 c.args.self c.judge.new.self _ c.update_and_check.result c.in-Ok-Ok.ensures.goes c.in-Ok-Ok.ensures.stays
    (Ok c.in-Ok-Ok.capsule) (rw c.in-Ok-Ok.field-0-is at c.in-Ok-Ok.ensures.is)
    (ends_most (next c.judge.new.self.bank (Ok c.in-Ok-Ok.capsule)) 2 4 c.judge.new.self c.update_and_check.result (omega arith) c.update_and_check.ensures)

pub returns-in-Ok-Err : goal.returns-in-Ok-Err
returns-in-Ok-Err g c =
    let accepts = g.E.Engine.accepts c.args.engine.now in
    let next : Bank → Result CapsuleState CapsuleFail → Plan = λ b found. by_staged accepts b c.args.dynamic c.args.fuses.now found in
    found_ends accepts c.args.fuses.now Staging next 4 c.args.self c.judge.new.self _ c.refuse_so.result c.in-Ok-Err.ensures.goes c.in-Ok-Err.ensures.stays
    (Err c.in-Ok-Err.cause) (rw c.in-Ok-Err.field-0-is at c.in-Ok-Err.ensures.is) c.refuse_so.ensures

pub returns-in-Err : goal.returns-in-Err
returns-in-Err g c =
    let accepts = g.E.Engine.accepts c.args.engine.now in
    let next : Bank → Result CapsuleState CapsuleFail → Plan = λ b found. by_staged accepts b c.args.dynamic c.args.fuses.now found in
    found_halted accepts c.args.fuses.now Staging next 4 c.args.self c.in-Err.stop c.judge.new.self c.in-Err.ensures.goes c.in-Err.ensures.stays
