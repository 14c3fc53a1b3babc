use Rattle.pfr_machine.specs.Worlds.{sides_world, sits_in}
use Rattle.pfr_machine.proofs.SeatLemmas.{beside_owned, lost_dark, lost_from, lost_notes, lost_ran}
use Rattle.pfr_machine.proofs.inner.Inner.lose.Goals as goal

pub lose-requires-clause-owned : goal.lose-requires-clause-owned
lose-requires-clause-owned g c = beside_owned c.sides.result.bank (sits_in c.sides.result.mine) (sits_in c.sides.result.other) (sides_world g.F.Flash.device c.sides.result) c.sides.ensures.seated

pub returns : goal.returns
returns g c =
    let is = lost_from c.args.device (sides_world g.F.Flash.device c.sides.result) c.args.self c.lose.result c.sides.ensures.is c.lose.ensures in
    record {
      ran = lost_ran c.args.device c.args.self c.lose.result is;
      dark = lost_dark c.args.device c.args.self c.lose.result is;
      notes = lost_notes c.args.device c.args.self c.lose.result is c.requires.room;
    }
