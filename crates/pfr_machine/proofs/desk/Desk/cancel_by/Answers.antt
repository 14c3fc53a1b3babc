use Rattle.std.proofs.Common.{Result}
use Rattle.pfr_flash.specs.declared.names.Bank.{Bank}
use Rattle.pfr_capsule.specs.CapsuleState.{CapsuleState}
use Rattle.pfr_capsule.specs.declared.fail.CapsuleFail.{CapsuleFail}
use Rattle.pfr_cert.specs.Applying.{judge_apply}
use Rattle.pfr_auth.specs.declared.areas.Area.TheVariants.{Recovery}
use Rattle.pfr_story.specs.Story.{Plan}
use Rattle.pfr_story.specs.UpdatePlans.{by_use, standing_capsule}
use Rattle.pfr_machine.proofs.BringLemmas.{found_ends, found_halted}
use Rattle.pfr_machine.proofs.UpdateLemmas.{valid_behind}
use Rattle.pfr_machine.proofs.desk.Desk.cancel_by.Goals as goal

pub cancel_beside-requires-clause-valid : goal.cancel_beside-requires-clause-valid
cancel_beside-requires-clause-valid g c = valid_behind c.args.fuses.provision c.args.self c.judge.new.self c.in-Ok.ensures.goes c.in-Ok.ensures.stays.bank c.requires.valid

pub returns-in-Ok : goal.returns-in-Ok
returns-in-Ok g c =
    let accepts = g.E.Engine.accepts c.args.engine.now in
    let next : Bank → Result CapsuleState CapsuleFail → Plan = λ b found. by_use accepts b c.args.fuses c.args.cert.now (judge_apply c.args.fuses c.args.cert.now (standing_capsule found)) in
    found_ends accepts c.args.fuses Recovery next 4 c.args.self c.judge.new.self _ c.cancel_beside.result c.in-Ok.ensures.goes c.in-Ok.ensures.stays
    c.in-Ok.found c.in-Ok.ensures.is c.cancel_beside.ensures

pub returns-in-Err : goal.returns-in-Err
returns-in-Err g c =
    let accepts = g.E.Engine.accepts c.args.engine.now in
    let next : Bank → Result CapsuleState CapsuleFail → Plan = λ b found. by_use accepts b c.args.fuses c.args.cert.now (judge_apply c.args.fuses c.args.cert.now (standing_capsule found)) in
    found_halted accepts c.args.fuses Recovery next 4 c.args.self c.in-Err.stop c.judge.new.self c.in-Err.ensures.goes c.in-Err.ensures.stays
