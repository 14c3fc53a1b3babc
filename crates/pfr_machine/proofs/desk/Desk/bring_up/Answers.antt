use Rattle.pfr_machine.proofs.BringLemmas.{resumed_ends, resumed_halted, then_ends, valid_behind}
use Rattle.pfr_machine.proofs.desk.Desk.bring_up.Goals as goal

pub returns-in-Ok : goal.returns-in-Ok
returns-in-Ok g c =
    let accepts = g.E.Engine.accepts c.args.engine.now in
    let valid = valid_behind accepts c.args.fuses c.resume.new.fuses _ c.args.self c.resume.new.self c.in-Ok.ensures.goes c.in-Ok.ensures.stays.bank c.in-Ok.ensures.leaves.provision c.requires.valid in
    resumed_ends accepts c.args.fuses c.args.self c.resume.new.self _ c.tail.result c.in-Ok.ensures.goes c.in-Ok.ensures.stays
    (then_ends accepts c.resume.new.fuses c.resume.new.self c.tail.result c.in-Ok.ensures.leaves.found valid c.tail.ensures)

pub returns-in-Err : goal.returns-in-Err
returns-in-Err g c = resumed_halted (g.E.Engine.accepts c.args.engine.now) c.args.fuses c.args.self c.in-Err.stop c.resume.new.self c.in-Err.ensures.goes c.in-Err.ensures.stays
