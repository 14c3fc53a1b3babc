use Rattle.std.proofs.Common.{subst, sym}
use Rattle.pfr_script.specs.declared.event.Event.{Event}
use Rattle.pfr_story.specs.Course.{Follows}
use Rattle.pfr_story.specs.Turn.{taken}
use Rattle.pfr_story.specs.World.{story_of}
use Rattle.pfr_machine.specs.Watching.{clocked}
use Rattle.pfr_machine.proofs.TurnLemmas.{not_off, running_only}
use Rattle.pfr_machine.proofs.inner.Inner.take.Goals as goal

pub provision-requires-clause-some : goal.provision-requires-clause-some
provision-requires-clause-some g c = not_off _ (rw c.in-Provision.is at c.requires.taken)

pub spi-requires-clause-runs : goal.spi-requires-clause-runs
spi-requires-clause-runs g c = running_only _ (rw c.in-Spi.is at c.requires.taken)

pub smbus-requires-clause-runs : goal.smbus-requires-clause-runs
smbus-requires-clause-runs g c = running_only _ (rw c.in-Smbus.is at c.requires.taken)

pub returns-in-Spi-clause-follows : goal.returns-in-Spi-clause-follows
returns-in-Spi-clause-follows g c =
    let accepts = g.E.Engine.accepts c.args.engine.now in
    subst (λ (e : Event). Follows (taken accepts e (story_of c.args.self)) (clocked e c.args.self) c.spi.result) (sym c.in-Spi.is)
    (c.spi.ensures.follows accepts (c.requires.trusted c.in-Spi.bank (running_only _ (rw c.in-Spi.is at c.requires.taken))))

pub returns-in-Smbus-clause-follows : goal.returns-in-Smbus-clause-follows
returns-in-Smbus-clause-follows g c =
    let accepts = g.E.Engine.accepts c.args.engine.now in
    subst (λ (e : Event). Follows (taken accepts e (story_of c.args.self)) (clocked e c.args.self) c.smbus.result) (sym c.in-Smbus.is)
    (c.smbus.ensures.follows accepts (c.requires.trusted c.in-Smbus.bank (running_only _ (rw c.in-Smbus.is at c.requires.taken))))

pub returns-in-Update-clause-follows : goal.returns-in-Update-clause-follows
returns-in-Update-clause-follows g c =
    let accepts = g.E.Engine.accepts c.args.engine.now in
    subst (λ (e : Event). Follows (taken accepts e (story_of c.args.self)) (clocked e c.args.self) c.update.result) (sym c.in-Update.is) c.update.ensures.follows
