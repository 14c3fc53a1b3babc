use Rattle.std.proofs.Common.{◌∙◌}
use Rattle.pfr_machine.proofs.SeatLemmas.{dark_beside, dark_is}
use Rattle.pfr_machine.proofs.sides.Sides.lose.Goals as goal

pub inner-requires : goal.inner-requires
inner-requires g c = record {
  seated = dark_beside g.F.Flash.device c.args.self (g.F.Flash.device c.lose.result.flash) (g.F.Flash.device c.lose-2.result.flash) c.push.new.self c.power_down.new.self c.args.device c.counts-counts.result
      c.lose.ensures.flash c.lose-2.ensures.flash c.power_down.ensures c.push.ensures.noted c.lose.result.bank c.lose-2.result.bank c.lose.ensures.bank c.lose-2.ensures.bank c.requires.owned;
}

pub returns : goal.returns
returns g c =
    c.inner.ensures
    ∙ dark_is g.F.Flash.device c.args.self (g.F.Flash.device c.lose.result.flash) (g.F.Flash.device c.lose-2.result.flash) c.push.new.self c.power_down.new.self c.args.device c.counts-counts.result
    c.lose.ensures.flash c.lose-2.ensures.flash c.power_down.ensures c.push.ensures.noted c.counts-counts.ensures
