use Rattle.pfr_machine.proofs.UpdateLemmas.{renewed_ends, renewed_halted}
use Rattle.pfr_machine.proofs.desk.Desk.renew_and_check.Goals as goal

pub returns-in-Ok : goal.returns-in-Ok
returns-in-Ok g c =
    renewed_ends (g.E.Engine.accepts c.args.engine.now) c.args.fuses c.args.capsule.now c.args.self c.recovery_job.new.self _ c.check_then.result c.in-Ok.ensures.goes c.in-Ok.ensures.stays c.check_then.ensures

pub returns-in-Err : goal.returns-in-Err
returns-in-Err g c =
    renewed_halted (g.E.Engine.accepts c.args.engine.now) c.args.fuses c.args.capsule.now c.args.self c.in-Err.stop c.recovery_job.new.self c.in-Err.ensures.goes c.in-Err.ensures.stays
