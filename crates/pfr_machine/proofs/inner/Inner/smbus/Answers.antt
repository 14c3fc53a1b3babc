use Rattle.std.proofs.Common.{List, subst, sym}
use Rattle.pfr_story.specs.Goes.{Ran}
use Rattle.pfr_story.specs.Plans.{smbus_note}
use Rattle.pfr_story.specs.Story.{Move}
use Rattle.pfr_story.proofs.Sequence.{Ran-refl}
use Rattle.pfr_machine.proofs.BusLemmas.{smbus_done}
use Rattle.pfr_machine.proofs.WorldLemmas.{noted_ran}
use Rattle.pfr_machine.proofs.inner.Inner.smbus.Goals as goal

pub returns-clause-follows : goal.returns-clause-follows
returns-clause-follows g c = λ accepts t. (
  c.note.new.self,
  subst (λ (moves : List Move). Ran moves c.args.self c.note.new.self) (sym (c.judge_smbus-judged.ensures accepts t))
      (noted_ran (λ _. smbus_note c.args.bank c.judge_smbus-judged.result) c.smbus_note.result c.args.self c.note.new.self c.smbus_note.ensures c.note.ensures.noted),
  Ran-refl c.note.new.self,
)

pub returns-clause-leaves : goal.returns-clause-leaves
returns-clause-leaves g c = (smbus_done c.args.bank c.judge_smbus-judged.result c.smbus_note.result c.args.self c.note.new.self c.smbus_note.ensures c.note.ensures.noted c.requires.room c.requires.whole c.requires.runs).0

pub returns-clause-dark : goal.returns-clause-dark
returns-clause-dark g c = (smbus_done c.args.bank c.judge_smbus-judged.result c.smbus_note.result c.args.self c.note.new.self c.smbus_note.ensures c.note.ensures.noted c.requires.room c.requires.whole c.requires.runs).1
