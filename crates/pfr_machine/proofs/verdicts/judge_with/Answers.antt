use Rattle.pfr_flash.proofs.EndsLemmas.{EndsAt-refl}
use Rattle.pfr_machine.proofs.verdicts.judge_with.Goals as goal

pub returns-in-Err-clause-ends : goal.returns-in-Err-clause-ends
returns-in-Err-clause-ends g c = EndsAt-refl _
