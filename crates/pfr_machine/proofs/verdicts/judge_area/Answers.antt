use Rattle.pfr_machine.proofs.JudgeLemmas.{stands_bank}
use Rattle.pfr_machine.proofs.verdicts.judge_area.Goals as goal

pub returns-in-Ok-clause-good : goal.returns-in-Ok-clause-good
returns-in-Ok-clause-good g c = λ nv f. rw c.requires.layout at (c.in-Ok.ensures.ok nv (stands_bank nv c.args.fuses.now c.args.bank f))
