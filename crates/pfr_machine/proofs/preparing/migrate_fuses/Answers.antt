use Rattle.std.proofs.Common.{◌∙◌}
use Rattle.pfr_flash.proofs.RangeLemmas.{length-now}
use Rattle.pfr_fuses.proofs.StandsLemmas.{fuses_of-stands}
use Rattle.pfr_machine.proofs.LaidLemmas.{migrated_laid}
use Rattle.pfr_machine.proofs.StoreLemmas.{two_by_number, none_to_do}
use Rattle.pfr_machine.proofs.preparing.migrate_fuses.Goals as goal

pub migrate-requires-clause-stands : goal.migrate-requires-clause-stands
migrate-requires-clause-stands g c = fuses_of-stands _ _ (length-now (g.F.Flash.device c.args.nv.now) ∙ c.requires.size) c.requires.found

pub returns-then-profile-eq1-clause-laid : goal.returns-then-profile-eq1-clause-laid
returns-then-profile-eq1-clause-laid g c = migrated_laid c.migrate.result _ _ c.args.fuses.now _ _ c.requires.found c.migrate.ensures.kept c.migrate.ensures.left (c.migrate.ensures.rest c.requires.found)

pub returns-else-profile-eq1-clause-follows : goal.returns-else-profile-eq1-clause-follows
returns-else-profile-eq1-clause-follows g c = none_to_do _ _ (two_by_number c.args.fuses.now.profile c.args.fuses.now (λ e. c.if-profile-eq1.false (c.profile.ensures ∙ e)))
