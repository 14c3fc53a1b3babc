use Rattle.std.proofs.Common.{◌∙◌, sym}
use Rattle.pfr_bank.proofs.BusLemmas.{bus_inside, bus_leaves_image, bus_leaves_recovery, bus_spells}
use Rattle.pfr_bank.proofs.running.Running.bus.Goals as goal

pub carry_out-requires-clause-inside : goal.carry_out-requires-clause-inside
carry_out-requires-clause-inside g c =
    bus_inside g.F.Flash.device _ _ c.self.view_is c.args.judged.now c.in-Pass.op (sym c.verdict.ensures.is ∙ c.in-Pass.is) c.verdict.ensures.formed c.requires c.self.invariant.0

pub invariant_of-self : goal.invariant_of-self
invariant_of-self g c = (
  bus_spells g.F.Flash.device _ _ c.self.view_is c.args.judged.now c.in-Pass.op (sym c.verdict.ensures.is ∙ c.in-Pass.is) c.verdict.ensures.formed c.requires c.self.invariant.0
      _ c.carry_out.result c.carry_out.ensures.follows,
  c.self.invariant.1,
)

pub returns-in_err-carry_out-clause-image : goal.returns-in_err-carry_out-clause-image
returns-in_err-carry_out-clause-image g c =
    bus_leaves_image g.F.Flash.device _ _ c.self.view_is c.args.judged.now c.in-Pass.op (sym c.verdict.ensures.is ∙ c.in-Pass.is) c.verdict.ensures.formed c.requires c.self.invariant.0
    _ c.carry_out.result c.carry_out.ensures.follows

pub returns-in_err-carry_out-clause-recovery : goal.returns-in_err-carry_out-clause-recovery
returns-in_err-carry_out-clause-recovery g c =
    bus_leaves_recovery g.F.Flash.device _ _ c.self.view_is c.args.judged.now c.in-Pass.op (sym c.verdict.ensures.is ∙ c.in-Pass.is) c.verdict.ensures.formed c.requires c.self.invariant.0
    _ c.carry_out.result c.carry_out.ensures.follows

pub invariant_of-self-2 : goal.invariant_of-self-2
invariant_of-self-2 g c = (
  bus_spells g.F.Flash.device _ _ c.self.view_is c.args.judged.now c.in-Pass.op (sym c.verdict.ensures.is ∙ c.in-Pass.is) c.verdict.ensures.formed c.requires c.self.invariant.0
      _ c.carry_out.result c.carry_out.ensures.follows,
  c.self.invariant.1,
)

pub returns-clause-image : goal.returns-clause-image
returns-clause-image g c =
    bus_leaves_image g.F.Flash.device _ _ c.self.view_is c.args.judged.now c.in-Pass.op (sym c.verdict.ensures.is ∙ c.in-Pass.is) c.verdict.ensures.formed c.requires c.self.invariant.0
    _ c.carry_out.result c.carry_out.ensures.follows

pub returns-clause-recovery : goal.returns-clause-recovery
returns-clause-recovery g c =
    bus_leaves_recovery g.F.Flash.device _ _ c.self.view_is c.args.judged.now c.in-Pass.op (sym c.verdict.ensures.is ∙ c.in-Pass.is) c.verdict.ensures.formed c.requires c.self.invariant.0
    _ c.carry_out.result c.carry_out.ensures.follows
