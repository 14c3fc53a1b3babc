use Rattle.std.proofs.Common.{arith, Result, Ok, Err}
use Rattle.pfr_flash.specs.declared.names.Bank.{Bank}
use Rattle.pfr_capsule.specs.CapsuleState.{CapsuleState}
use Rattle.pfr_capsule.specs.declared.fail.CapsuleFail.{CapsuleFail}
use Rattle.pfr_auth.specs.declared.areas.Area.TheVariants.{Recovery}
use Rattle.pfr_story.specs.Plans.{by_capsule}
use Rattle.pfr_story.specs.Story.{Plan}
use Rattle.pfr_machine.proofs.BringLemmas.{found_ends, found_halted}
use Rattle.pfr_machine.proofs.EndsLemmas.{leaves_most}
use Rattle.pfr_machine.proofs.desk.Desk.recover_at.Goals as goal

pub returns-in-Ok-Ok : goal.returns-in-Ok-Ok
returns-in-Ok-Ok g c =
    let accepts = g.E.Engine.accepts c.args.engine.now in
    let next : Bank → Result CapsuleState CapsuleFail → Plan = λ b found. by_capsule accepts b c.args.fuses.now c.args.level found in
    found_ends accepts c.args.fuses.now Recovery next 2 c.args.self c.judge.new.self _ c.restore_and_check.result c.in-Ok-Ok.ensures.goes c.in-Ok-Ok.ensures.stays
    (Ok c.in-Ok-Ok.capsule) (rw c.in-Ok-Ok.field-0-is at c.in-Ok-Ok.ensures.is) c.restore_and_check.ensures

pub returns-in-Ok-Err : goal.returns-in-Ok-Err
returns-in-Ok-Err g c =
    let accepts = g.E.Engine.accepts c.args.engine.now in
    let next : Bank → Result CapsuleState CapsuleFail → Plan = λ b found. by_capsule accepts b c.args.fuses.now c.args.level found in
    found_ends accepts c.args.fuses.now Recovery next 2 {F = Unit {0}} c.args.self c.judge.new.self _ (Ok c.lock.result) c.in-Ok-Err.ensures.goes c.in-Ok-Err.ensures.stays
    (Err c.in-Ok-Err.cause) (rw c.in-Ok-Err.field-0-is at c.in-Ok-Err.ensures.is) (c.lock.ensures.ran, leaves_most 1 2 c.judge.new.self c.lock.result (omega arith) c.lock.ensures.leaves)

pub returns-in-Err : goal.returns-in-Err
returns-in-Err g c =
    let accepts = g.E.Engine.accepts c.args.engine.now in
    let next : Bank → Result CapsuleState CapsuleFail → Plan = λ b found. by_capsule accepts b c.args.fuses.now c.args.level found in
    found_halted accepts c.args.fuses.now Recovery next 2 c.args.self c.in-Err.stop c.judge.new.self c.in-Err.ensures.goes c.in-Err.ensures.stays
