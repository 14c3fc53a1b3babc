use Rattle.std.proofs.Common.{arith}
use Rattle.pfr_report.specs.declared.note.What.TheVariants.{Refused}
use Rattle.pfr_story.specs.Plans.{tail}
use Rattle.pfr_machine.proofs.EndsLemmas.{behind_note}
use Rattle.pfr_machine.proofs.desk.Desk.refuse_so.Goals as goal

pub returns : goal.returns
returns g c =
    behind_note (Refused c.args.self.bank c.args.why) (λ b. tail (g.E.Engine.accepts c.args.engine.now) b c.args.fuses.now) 3 c.args.self c.note_refusal.new.self c.tail.result
    c.note_refusal.ensures.noted (omega (arith, c.requires.room)) c.requires.on c.tail.ensures
