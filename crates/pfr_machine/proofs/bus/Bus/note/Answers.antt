use Rattle.std.proofs.Common.{◌∙◌, ap}
use Rattle.pfr_machine.specs.Buses.{bus_world}
use Rattle.pfr_machine.specs.Worlds.{sides_world}
use Rattle.pfr_machine.proofs.BusLemmas.{bus_noted}
use Rattle.pfr_machine.proofs.bus.Bus.note.Goals as goal

pub inner-requires : goal.inner-requires
inner-requires g c = record {
  seated = rw c.sides.ensures (bus_noted g.F.Flash.device c.args.self c.args.what c.push.new.self c.push.ensures.noted c.requires.text c.requires.still c.requires.seated);
}

pub returns : goal.returns
returns g c =
    c.inner.ensures
    ∙ (ap (λ s. sides_world g.F.Flash.device s) c.sides.ensures ∙ ap (λ board. bus_world g.F.Flash.device (record c.args.self { board = board })) c.push.ensures.noted)
