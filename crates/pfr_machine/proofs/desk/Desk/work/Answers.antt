use Rattle.pfr_machine.proofs.WorkLemmas.{loaded_ends, loaded_halted}
use Rattle.pfr_machine.proofs.desk.Desk.work.Goals as goal

pub returns-in-Ok : goal.returns-in-Ok
returns-in-Ok g c = loaded_ends (g.E.Engine.accepts c.args.engine.now) c.args.work c.args.self c.load.new.self _ c.proceed.result c.in-Ok.ensures.goes c.in-Ok.ensures.stays c.proceed.ensures

pub returns-in-Err : goal.returns-in-Err
returns-in-Err g c = loaded_halted (g.E.Engine.accepts c.args.engine.now) c.args.work c.args.self c.in-Err.stop c.load.new.self c.in-Err.ensures.goes c.in-Err.ensures.stays
