use Rattle.pfr_machine.proofs.WorkLemmas.{brought_ok, brought_halted}
use Rattle.pfr_machine.proofs.inner.Inner.work.Goals as goal

pub returns-in-Ok : goal.returns-in-Ok
returns-in-Ok g c =
    brought_ok (g.E.Engine.accepts c.args.engine.now) c.args.bank c.args.work c.args.self c.hold.result c.hold.ensures.bank c.hold.ensures.other c.hold.ensures.ran c.hold.ensures.notes c.in-Ok.inner c.in-Ok.ensures

pub returns-in-Err : goal.returns-in-Err
returns-in-Err g c =
    brought_halted (g.E.Engine.accepts c.args.engine.now) c.args.bank c.args.work c.args.self c.hold.result c.hold.ensures.bank c.hold.ensures.other c.hold.ensures.ran c.hold.ensures.notes c.in-Err.halt c.end.result c.in-Err.ensures c.end.ensures
