use Rattle.pfr_engine.specs.Accepting.{long_ask}
use Rattle.pfr_engine.proofs.AcceptLemmas.{accepts_long}
use Rattle.pfr_engine.proofs.list_engine.ListEngineEngine.check_long.Goals as goal

pub returns-clause-row : goal.returns-clause-row
returns-clause-row c = rw (c.has_long.ensures, c.deref.ensures.value, c.self.view_is, c.digest-digest.ensures) (accepts_long (long_ask c.args.scheme c.args.key.now c.args.message.now c.args.signature.now) c.args.self.now)
