use Rattle.std.proofs.Common.{Ok, Err}
use Rattle.pfr_machine.proofs.StoreLemmas.{migration_goes}
use Rattle.pfr_machine.proofs.inner.Inner.migrate.Goals as goal

pub returns-in-Ok-clause-goes : goal.returns-in-Ok-clause-goes
returns-in-Ok-clause-goes g c = migration_goes _ _ c.migrate_store.ensures.same c.args.found c.requires.found (Ok tt) c.requires.on c.in-Ok.ensures.follows

pub returns-in-Err-clause-goes : goal.returns-in-Err-clause-goes
returns-in-Err-clause-goes g c = migration_goes _ _ c.migrate_store.ensures.same c.args.found c.requires.found (Err c.in-Err.fail) c.requires.on c.in-Err.ensures.follows
