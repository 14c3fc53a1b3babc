use Rattle.pfr_machine.proofs.UpdateLemmas.{cleared_ends, kept_ends, cleared_halted}
use Rattle.pfr_machine.proofs.desk.Desk.cancel_beside.Goals as goal

pub returns-in-Ok-Ok : goal.returns-in-Ok-Ok
returns-in-Ok-Ok g c =
    cleared_ends (g.E.Engine.accepts c.args.engine.now) c.args.fuses c.args.cert.now c.args.self c.clear_key.new.self _ c.tell_and_check.result _ (rw c.in-Ok-Ok.field-0-is at c.in-Ok-Ok.ensures.is)
    c.in-Ok-Ok.ensures.goes c.in-Ok-Ok.ensures.stays c.tell_and_check.ensures

pub returns-in-Ok-Err : goal.returns-in-Ok-Err
returns-in-Ok-Err g c =
    kept_ends (g.E.Engine.accepts c.args.engine.now) c.args.fuses c.args.cert.now c.clear_key.new.fuses c.args.self c.clear_key.new.self _ c.refuse_so.result _ c.in-Ok-Err.cause
    (rw c.in-Ok-Err.field-0-is at c.in-Ok-Err.ensures.is) (rw c.in-Ok-Err.field-0-is at c.in-Ok-Err.ensures.left) c.in-Ok-Err.ensures.goes c.in-Ok-Err.ensures.stays c.refuse_so.ensures

pub returns-in-Err : goal.returns-in-Err
returns-in-Err g c =
    cleared_halted (g.E.Engine.accepts c.args.engine.now) c.args.fuses c.args.cert.now c.args.self c.in-Err.stop c.clear_key.new.self _ c.in-Err.ensures.goes c.in-Err.ensures.stays
