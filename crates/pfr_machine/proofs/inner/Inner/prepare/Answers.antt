use Rattle.std.proofs.lemmas.Result.{err_from_is_err_and}
use Rattle.pfr_story.proofs.Sequence.{Stopped-first, Goes-then}
use Rattle.pfr_story.specs.Plans.{asks_store}
use Rattle.pfr_machine.proofs.StoreLemmas.{migrates}
use Rattle.pfr_machine.proofs.RestLemmas.{migrated_there}
use Rattle.pfr_machine.proofs.inner.Inner.prepare.Goals as goal

pub returns-in_err-found-clause-goes : goal.returns-in_err-found-clause-goes
returns-in_err-found-clause-goes g c =
    let p = err_from_is_err_and c.from_residual.result c.from_residual.ensures.1 in
    rw (p.1, p.2) (Stopped-first asks_store migrates _ _ _ _ c.in_err-found.ensures.goes)

pub returns-clause-goes : goal.returns-clause-goes
returns-clause-goes g c = Goes-then asks_store migrates _ _ _ _ c.in_ok-found.ensures.goes c.migrate.ensures.goes

pub returns-clause-settled : goal.returns-clause-settled
returns-clause-settled g c = migrated_there c.args.self.now _ c.migrate.result (Goes-then asks_store migrates _ _ _ _ c.in_ok-found.ensures.goes c.migrate.ensures.goes) c.known.ensures.sizes.nv c.known.ensures.bytes
