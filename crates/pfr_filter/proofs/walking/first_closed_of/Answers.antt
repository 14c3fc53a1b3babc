use Rattle.std.proofs.Common.{arith}
use Rattle.pfr_filter.proofs.WalkLemmas.{one_number, length-numbers_from}
use Rattle.pfr_filter.proofs.walking.first_closed_of.Goals as goal

pub returns-in-Program-clause-exact : goal.returns-in-Program-clause-exact
returns-in-Program-clause-exact g c =
    rw c.in-Program.is (rw (← (one_number _)) c.first_closed.ensures.exact)

pub returns-in-Erase-clause-cost : goal.returns-in-Erase-clause-cost
returns-in-Erase-clause-cost g c =
    rw c.in-Erase.is (omega (arith, length-numbers_from c.in-Erase.sector c.in-Erase.count, c.first_closed-in-Erase.ensures.cost))
