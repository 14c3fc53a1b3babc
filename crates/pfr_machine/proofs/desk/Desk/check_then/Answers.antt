use Rattle.pfr_machine.proofs.BringLemmas.{then_ends}
use Rattle.pfr_machine.proofs.desk.Desk.check_then.Goals as goal

pub returns : goal.returns
returns g c = then_ends (g.E.Engine.accepts c.args.engine.now) c.args.fuses.now c.args.self c.tail.result c.requires.found c.requires.valid c.tail.ensures
