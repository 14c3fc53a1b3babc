use Rattle.std.proofs.Common.{arith}
use Rattle.pfr_report.specs.declared.note.What.TheVariants.{Untrusted}
use Rattle.pfr_story.specs.Plans.{recovered}
use Rattle.pfr_machine.proofs.EndsLemmas.{behind_note}
use Rattle.pfr_machine.proofs.desk.Desk.distrust_and_recover.Goals as goal

pub returns : goal.returns
returns g c =
    behind_note (Untrusted c.args.self.bank c.args.why) (λ b. recovered (g.E.Engine.accepts c.args.engine.now) b c.args.fuses.now c.args.why) 2 c.args.self c.distrust.new.self c.recover.result
    c.distrust.ensures.noted (omega (arith, c.requires.room)) c.requires.on c.recover.ensures
