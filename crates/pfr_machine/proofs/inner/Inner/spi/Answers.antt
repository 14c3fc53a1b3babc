use Rattle.pfr_machine.proofs.BusLemmas.{spi_done}
use Rattle.pfr_machine.proofs.inner.Inner.spi.Goals as goal

pub returns-clause-follows : goal.returns-clause-follows
returns-clause-follows g c = λ accepts t.
    spi_done g.F.Flash.device c.sides-bank.result c.args.self c.in-Running.running c.sides-bank.ensures.is c.sides-bank.ensures.seated c.in-Running.is c.args.frame.now c.filter.result c.known.ensures.spells c.filter.ensures.steps accepts
    c.args.bank c.sides-bank.ensures.bank t
