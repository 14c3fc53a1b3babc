use Rattle.std.proofs.Common.{refl, ap, [], ◌∷◌}
use Rattle.std.proofs.lemmas.Result.{err_from_is_err_and}
use Rattle.pfr_story.specs.JobPlans.{written_over}
use Rattle.pfr_story.specs.Story.{Says, says}
use Rattle.pfr_story.specs.World.{story_of}
use Rattle.pfr_story.proofs.Sequence.{Stopped-first, Ran-append}
use Rattle.pfr_machine.specs.Worlds.{DeskState}
use Rattle.pfr_machine.proofs.WorldLemmas.{noted_ran}
use Rattle.pfr_machine.proofs.desk.Desk.write_and_note.Goals as goal

pub returns-in_err-write_over-clause-goes : goal.returns-in_err-write_over-clause-goes
returns-in_err-write_over-clause-goes g c =
    let p = err_from_is_err_and c.from_residual.result c.from_residual.ensures.1 in
    rw (p.1, p.2) (Stopped-first (written_over c.args.self.now.bank c.args.kind c.args.fuses.now c.args.capsule.now) (says (λ _. c.args.that)) _ _ _ _ c.in_err-write_over.ensures.goes)

pub returns-clause-goes : goal.returns-clause-goes
returns-clause-goes g c =
    Ran-append (written_over c.args.self.now.bank c.args.kind c.args.fuses.now c.args.capsule.now (story_of c.args.self.now.world)) (Says (λ _. c.args.that) ∷ []) c.args.self.now.world c.write_over.new.self.world c.note.new.self.world c.in_ok-write_over.ensures.goes
    (noted_ran (λ _. c.args.that) c.args.that c.write_over.new.self.world c.note.new.self.world refl (ap (λ (d : DeskState). d.world) c.note.ensures.noted))
