use Rattle.pfr_machine.proofs.BringLemmas.{tail_halted, tail_distrusted}
use Rattle.pfr_machine.proofs.desk.Desk.tail.Goals as goal

pub returns-in-Err : goal.returns-in-Err
returns-in-Err g c = tail_halted (g.E.Engine.accepts c.args.engine.now) c.args.fuses.now c.args.self _ _ c.in-Err.ensures.checks

pub returns-in-Ok-Distrusted : goal.returns-in-Ok-Distrusted
returns-in-Ok-Distrusted g c =
    tail_distrusted (g.E.Engine.accepts c.args.engine.now) c.args.fuses.now c.in-Ok-Distrusted.why c.args.self c.in-Ok-Distrusted.desk c.distrust_and_recover.result
    (rw c.in-Ok-Distrusted.field-0-is at c.in-Ok-Distrusted.ensures.checks) c.distrust_and_recover.ensures
