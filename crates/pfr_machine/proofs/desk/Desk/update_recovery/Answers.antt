use Rattle.std.proofs.Common.{ap, arith, Result, Ok, Err}
use Rattle.pfr_flash.specs.FlashState.{FlashState, now}
use Rattle.pfr_flash.specs.declared.names.Bank.{Bank}
use Rattle.pfr_capsule.specs.CapsuleState.{CapsuleState}
use Rattle.pfr_capsule.specs.declared.fail.CapsuleFail.{CapsuleFail}
use Rattle.pfr_auth.specs.declared.areas.Area.TheVariants.{Staging}
use Rattle.pfr_story.specs.Story.{Plan}
use Rattle.pfr_story.specs.UpdatePlans.{by_new_recovery}
use Rattle.pfr_machine.proofs.BringLemmas.{found_ends, found_halted}
use Rattle.pfr_machine.proofs.EndsLemmas.{ends_most}
use Rattle.pfr_machine.proofs.ReadyLemmas.{ready_behind, ready_fewer}
use Rattle.pfr_machine.proofs.desk.Desk.update_recovery.Goals as goal

pub renew-requires-clause-ready : goal.renew-requires-clause-ready
renew-requires-clause-ready g c =
    ready_fewer 5 4 c.args.fuses c.judge.new.self (omega arith)
    (ready_behind 0 5 c.args.fuses c.args.self c.judge.new.self _ c.in-Ok-Ok.ensures.goes c.in-Ok-Ok.ensures.stays (ap (λ (d : FlashState). now d) c.judge.ensures.store) c.requires.ready)

pub returns-in-Ok-Ok : goal.returns-in-Ok-Ok
returns-in-Ok-Ok g c =
    let accepts = g.E.Engine.accepts c.args.engine.now in
    let next : Bank → Result CapsuleState CapsuleFail → Plan = λ b found. by_new_recovery accepts b c.args.fuses found in
    found_ends accepts c.args.fuses Staging next 5 c.args.self c.judge.new.self _ c.renew.result c.in-Ok-Ok.ensures.goes c.in-Ok-Ok.ensures.stays
    (Ok c.in-Ok-Ok.capsule) (rw c.in-Ok-Ok.field-0-is at c.in-Ok-Ok.ensures.is)
    (ends_most (next c.judge.new.self.bank (Ok c.in-Ok-Ok.capsule)) 4 5 c.judge.new.self c.renew.result (omega arith) c.renew.ensures)

pub returns-in-Ok-Err : goal.returns-in-Ok-Err
returns-in-Ok-Err g c =
    let accepts = g.E.Engine.accepts c.args.engine.now in
    let next : Bank → Result CapsuleState CapsuleFail → Plan = λ b found. by_new_recovery accepts b c.args.fuses found in
    found_ends accepts c.args.fuses Staging next 5 c.args.self c.judge.new.self _ c.refuse_so.result c.in-Ok-Err.ensures.goes c.in-Ok-Err.ensures.stays
    (Err c.in-Ok-Err.cause) (rw c.in-Ok-Err.field-0-is at c.in-Ok-Err.ensures.is)
    (ends_most (next c.judge.new.self.bank (Err c.in-Ok-Err.cause)) 4 5 c.judge.new.self c.refuse_so.result (omega arith) c.refuse_so.ensures)

pub returns-in-Err : goal.returns-in-Err
returns-in-Err g c =
    let accepts = g.E.Engine.accepts c.args.engine.now in
    let next : Bank → Result CapsuleState CapsuleFail → Plan = λ b found. by_new_recovery accepts b c.args.fuses found in
    found_halted accepts c.args.fuses Staging next 5 c.args.self c.in-Err.stop c.judge.new.self c.in-Err.ensures.goes c.in-Err.ensures.stays
