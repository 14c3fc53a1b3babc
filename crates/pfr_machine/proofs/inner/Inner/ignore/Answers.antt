use Rattle.std.proofs.Common.{arith, refl}
use Rattle.pfr_report.specs.declared.note.What.TheVariants.{Ignored}
use Rattle.pfr_machine.proofs.WorldLemmas.{noted_ran}
use Rattle.pfr_machine.proofs.StandLemmas.{noted_leaves}
use Rattle.pfr_machine.proofs.TurnLemmas.{only_noted}
use Rattle.pfr_machine.proofs.inner.Inner.ignore.Goals as goal

pub returns-clause-follows : goal.returns-clause-follows
returns-clause-follows g c = only_noted _ _ _ (noted_ran (λ at. Ignored) Ignored _ _ refl c.note.ensures.noted)

pub returns-clause-leaves : goal.returns-clause-leaves
returns-clause-leaves g c = noted_leaves Ignored _ _ (λ which s. refl) c.note.ensures.noted (omega (arith, c.requires.room)) c.requires.whole
