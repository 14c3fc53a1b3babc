use Rattle.std.proofs.Common.{Ok, Err}
use Rattle.pfr_machine.proofs.UpdateLemmas.{cert_ends, cert_halted}
use Rattle.pfr_machine.proofs.desk.Desk.cancel_key.Goals as goal

pub returns-in-Ok-Ok : goal.returns-in-Ok-Ok
returns-in-Ok-Ok g c =
    let accepts = g.E.Engine.accepts c.args.engine.now in
    cert_ends accepts c.args.fuses c.args.self c.judge_cert.new.self _ c.cancel_by.result (Ok c.in-Ok-Ok.cert) (rw c.in-Ok-Ok.field-0-is at c.in-Ok-Ok.ensures.is) c.in-Ok-Ok.ensures.goes c.in-Ok-Ok.ensures.stays
    c.cancel_by.ensures

pub returns-in-Ok-Err : goal.returns-in-Ok-Err
returns-in-Ok-Err g c =
    let accepts = g.E.Engine.accepts c.args.engine.now in
    cert_ends accepts c.args.fuses c.args.self c.judge_cert.new.self _ c.refuse_so.result (Err c.in-Ok-Err.cause) (rw c.in-Ok-Err.field-0-is at c.in-Ok-Err.ensures.is) c.in-Ok-Err.ensures.goes c.in-Ok-Err.ensures.stays
    c.refuse_so.ensures

pub returns-in-Err : goal.returns-in-Err
returns-in-Err g c =
    cert_halted (g.E.Engine.accepts c.args.engine.now) c.args.fuses c.args.self c.in-Err.stop c.judge_cert.new.self c.in-Err.ensures.goes c.in-Err.ensures.stays
