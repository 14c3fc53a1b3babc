use Rattle.pfr_engine.proofs.AcceptLemmas.{accepts_short}
use Rattle.pfr_engine.proofs.list_engine.ListEngineEngine.check.Goals as goal

pub returns-clause-row : goal.returns-clause-row
returns-clause-row c = rw (c.has_short.ensures, c.deref.ensures.value, c.self.view_is) (accepts_short c.args.ask.now c.args.self.now)
