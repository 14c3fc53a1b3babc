use Rattle.std.proofs.Common.{ap, Result}
use Rattle.pfr_fuses.specs.FusesState.{FusesState}
use Rattle.pfr_fuses.specs.declared.fuse_fail.FuseFail.{FuseFail}
use Rattle.pfr_story.specs.Plans.{migration_in}
use Rattle.pfr_machine.proofs.StoreLemmas.{none_to_do}
use Rattle.pfr_machine.proofs.preparing.migrate.Goals as goal

pub returns-in-Err-clause-follows : goal.returns-in-Err-clause-follows
returns-in-Err-clause-follows g c = none_to_do _ _ (ap (λ (f : Result FusesState FuseFail). migration_in f) c.in-Err.is)
