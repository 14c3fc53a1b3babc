use Rattle.pfr_machine.proofs.StretchLemmas.{one_brought}
use Rattle.pfr_machine.proofs.inner.Inner.fail_boot.Goals as goal

pub returns-in-Ok-clause-steps : goal.returns-in-Ok-clause-steps
returns-in-Ok-clause-steps g c = one_brought _ _ _ c.in-Ok.ensures.0
