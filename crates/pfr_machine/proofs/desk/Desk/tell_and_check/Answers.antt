use Rattle.std.proofs.Common.{arith}
use Rattle.pfr_report.specs.declared.note.What.TheVariants.{Cancelled}
use Rattle.pfr_story.specs.Plans.{checked_then}
use Rattle.pfr_machine.proofs.EndsLemmas.{behind_note}
use Rattle.pfr_machine.proofs.desk.Desk.tell_and_check.Goals as goal

pub returns : goal.returns
returns g c =
    behind_note (Cancelled c.args.cert.now.ty c.args.cert.now.id) (λ b. checked_then (g.E.Engine.accepts c.args.engine.now) b) 3 c.args.self c.note_cancelled.new.self c.check_then.result
    c.note_cancelled.ensures.noted (omega (arith, c.requires.room)) c.requires.on c.check_then.ensures
