use Rattle.std.proofs.Common.{ap}
use Rattle.pfr_machine.proofs.SeatLemmas.{held_is_desk, held_says}
use Rattle.pfr_machine.proofs.inner.Inner.hold.Goals as goal

pub invariant_of-result : goal.invariant_of-result
invariant_of-result g c =
    held_is_desk g.F.Flash.device c.sides-bank.result c.sides-bank.ensures.seated (g.F.Flash.device c.hold.result.flash) c.hold.ensures.off (λ on. ap g.F.Flash.device (c.hold.ensures.on on))
    c.counts-counts.result c.hold.result.bank c.power_up.new.self c.push.new.self c.hold.ensures.bank c.power_up.ensures c.push.ensures.noted

pub returns-clause-ran : goal.returns-clause-ran
returns-clause-ran g c =
    held_says g.F.Flash.device c.sides-bank.result c.sides-bank.ensures.seated (g.F.Flash.device c.hold.result.flash) c.hold.ensures.off (λ on. ap g.F.Flash.device (c.hold.ensures.on on))
    c.args.bank c.counts-counts.result c.args.self c.power_up.new.self c.push.new.self c.sides-bank.ensures.bank c.sides-bank.ensures.is c.counts-counts.ensures c.power_up.ensures c.push.ensures.noted
