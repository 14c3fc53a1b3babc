use Rattle.pfr_story.specs.UpdatePlans.{updated}
use Rattle.pfr_machine.proofs.BringLemmas.{anew_ends, anew_halted, updated_trusted}
use Rattle.pfr_machine.proofs.desk.Desk.update_and_check.Goals as goal

pub check_again-requires-clause-trusted : goal.check_again-requires-clause-trusted
check_again-requires-clause-trusted g c =
    updated_trusted (g.E.Engine.accepts c.args.engine.now) c.args.fuses.now c.args.capsule.now c.args.self c.update.new.self c.requires.found c.requires.valid c.known.ensures.size c.known.ensures.bytes c.known.ensures.store c.requires.none
    c.args.dynamic c.requires.good c.in-Ok.ensures.goes c.in-Ok.ensures.stays.bank

pub returns-in-Ok : goal.returns-in-Ok
returns-in-Ok g c =
    anew_ends (g.E.Engine.accepts c.args.engine.now) c.args.fuses.now (updated c.args.self.bank c.args.dynamic c.args.fuses.now c.args.capsule.now) c.args.self c.update.new.self _ c.check_again.result
    c.in-Ok.ensures.goes c.in-Ok.ensures.stays c.check_again.ensures

pub returns-in-Err : goal.returns-in-Err
returns-in-Err g c =
    anew_halted (g.E.Engine.accepts c.args.engine.now) c.args.fuses.now (updated c.args.self.bank c.args.dynamic c.args.fuses.now c.args.capsule.now) c.args.self c.in-Err.stop c.update.new.self c.in-Err.ensures.goes c.in-Err.ensures.stays
