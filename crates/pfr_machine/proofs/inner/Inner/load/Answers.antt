use Rattle.std.proofs.Common.{[], Ok, Err}
use Rattle.pfr_flash.proofs.FollowsLemmas.{Follows-reads}
use Rattle.pfr_machine.proofs.StoreLemmas.{store_goes}
use Rattle.pfr_machine.proofs.inner.Inner.load.Goals as goal

pub returns-in-Ok-clause-goes : goal.returns-in-Ok-clause-goes
returns-in-Ok-clause-goes g c = store_goes _ _ c.read_store.ensures.same [] (Ok c.in-Ok.found) c.requires.on (Follows-reads _ _ (Ok c.in-Ok.found) c.in-Ok.ensures.ends)

pub returns-in-Err-clause-goes : goal.returns-in-Err-clause-goes
returns-in-Err-clause-goes g c =
    store_goes _ _ c.read_store.ensures.same {A = Unit {0}} [] (Err c.in-Err.fail) c.requires.on (Follows-reads _ _ (Err c.in-Err.fail) c.in-Err.ensures.ends)
