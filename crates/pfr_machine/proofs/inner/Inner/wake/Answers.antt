use Rattle.std.proofs.Common.{inl}
use Rattle.pfr_machine.proofs.TurnLemmas.{unread}
use Rattle.pfr_machine.proofs.inner.Inner.wake.Goals as goal

pub returns-in-Fault-clause-steps : goal.returns-in-Fault-clause-steps
returns-in-Fault-clause-steps g c =
    unread (g.E.Engine.accepts c.args.engine.now) c.in-Err.stop.device c.in-Err.stop.fail _ _ _ c.in-Fault.is c.in-Err.ensures.goes c.lock_unread.ensures.ran

pub returns-in-Err-bring_up_both-clause-steps : goal.returns-in-Err-bring_up_both-clause-steps
returns-in-Err-bring_up_both-clause-steps g c = rw c.off.ensures.same (inl (c.prepare.new.self, c.in-Ok.ensures.goes, c.in-Err-bring_up_both.ensures.0))
