use Rattle.pfr_story.proofs.Sequence.{Ran-refl}
use Rattle.pfr_machine.proofs.TurnLemmas.{only_noted}
use Rattle.pfr_machine.proofs.inner.Inner.boot.Goals as goal

pub returns-then-pass-clause-follows : goal.returns-then-pass-clause-follows
returns-then-pass-clause-follows g c = rw c.if-pass.true (only_noted _ c.args.self c.pass_stage.new.self c.pass_stage.ensures.ran)

pub returns-else-pass-clause-follows : goal.returns-else-pass-clause-follows
returns-else-pass-clause-follows g c = rw c.if-pass.false (c.args.self, Ran-refl c.args.self, c.fail_boot.ensures.steps)
