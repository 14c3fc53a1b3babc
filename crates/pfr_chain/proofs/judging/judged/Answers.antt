use Rattle.pfr_flash.proofs.EndsLemmas.{EndsAt-refl}
use Rattle.pfr_chain.proofs.judging.judged.Goals as goal

pub returns-then-len-lt-SHORTEST-clause-ends : goal.returns-then-len-lt-SHORTEST-clause-ends
returns-then-len-lt-SHORTEST-clause-ends g c = EndsAt-refl _
