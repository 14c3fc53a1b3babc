use Rattle.pfr_machine.proofs.BringLemmas.{again_halted}
use Rattle.pfr_machine.proofs.desk.Desk.check_again.Goals as goal

pub returns-in-Err : goal.returns-in-Err
returns-in-Err g c = again_halted (g.E.Engine.accepts c.args.engine.now) c.args.fuses.now c.args.self _ _ c.in-Err.ensures.checks
