use Rattle.std.proofs.Common.{arith, None}
use Rattle.pfr_machine.proofs.StandLemmas.{lost_leaves}
use Rattle.pfr_machine.proofs.TurnLemmas.{only_noted}
use Rattle.pfr_machine.proofs.WorldLemmas.{AddsNotes-most}
use Rattle.pfr_machine.proofs.inner.Inner.off.Goals as goal

pub returns-clause-follows : goal.returns-clause-follows
returns-clause-follows g c = only_noted _ _ _ c.lose.ensures.ran

pub returns-clause-leaves : goal.returns-clause-leaves
returns-clause-leaves g c = lost_leaves 64 None _ _ _ c.lose.ensures.ran (AddsNotes-most 1 64 _ _ c.lose.ensures.notes (omega arith))
