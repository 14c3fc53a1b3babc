use Rattle.pfr_machine.proofs.TurnLemmas.{powered}
use Rattle.pfr_machine.proofs.inner.Inner.power.Goals as goal

pub returns-clause-follows : goal.returns-clause-follows
returns-clause-follows g c = powered (g.E.Engine.accepts c.args.engine.now) _ _ _ _ c.power_store.ensures.up c.note.ensures.noted c.wake.ensures.steps
