use Rattle.pfr_story.specs.Plans.{restored}
use Rattle.pfr_machine.proofs.BringLemmas.{anew_ends, anew_halted, restored_trusted}
use Rattle.pfr_machine.proofs.desk.Desk.restore_and_check.Goals as goal

pub check_again-requires-clause-trusted : goal.check_again-requires-clause-trusted
check_again-requires-clause-trusted g c =
    restored_trusted (g.E.Engine.accepts c.args.engine.now) c.args.fuses.now c.args.capsule.now c.args.self c.restore.new.self c.requires.found c.requires.valid c.known.ensures.size c.known.ensures.bytes c.known.ensures.store c.requires.none
    c.args.level c.requires.level c.requires.good c.in-Ok.ensures.goes c.in-Ok.ensures.stays.bank

pub returns-in-Ok : goal.returns-in-Ok
returns-in-Ok g c =
    anew_ends (g.E.Engine.accepts c.args.engine.now) c.args.fuses.now (restored c.args.self.bank c.args.level c.args.fuses.now c.args.capsule.now) c.args.self c.restore.new.self _ c.check_again.result
    c.in-Ok.ensures.goes c.in-Ok.ensures.stays c.check_again.ensures

pub returns-in-Err : goal.returns-in-Err
returns-in-Err g c =
    anew_halted (g.E.Engine.accepts c.args.engine.now) c.args.fuses.now (restored c.args.self.bank c.args.level c.args.fuses.now c.args.capsule.now) c.args.self c.in-Err.stop c.restore.new.self c.in-Err.ensures.goes c.in-Err.ensures.stays
