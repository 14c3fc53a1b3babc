use Rattle.std.proofs.Common.{refl, ap, [], ◌∷◌}
use Rattle.std.proofs.lemmas.Result.{err_from_is_err_and}
use Rattle.pfr_story.specs.JobPlans.{finished_job}
use Rattle.pfr_story.specs.Story.{Says, says}
use Rattle.pfr_story.specs.World.{story_of}
use Rattle.pfr_story.proofs.Sequence.{Stopped-first, Ran-append}
use Rattle.pfr_machine.specs.Worlds.{DeskState}
use Rattle.pfr_machine.proofs.WorldLemmas.{noted_ran}
use Rattle.pfr_machine.proofs.desk.Desk.close_job.Goals as goal

pub returns-in_err-finish_job-clause-goes : goal.returns-in_err-finish_job-clause-goes
returns-in_err-finish_job-clause-goes g c =
    let p = err_from_is_err_and c.from_residual.result c.from_residual.ensures.1 in
    rw (p.1, p.2) (Stopped-first (finished_job c.args.self.now.bank) (says (λ _. c.args.what)) _ _ _ _ c.in_err-finish_job.ensures.goes)

pub returns-clause-goes : goal.returns-clause-goes
returns-clause-goes g c =
    Ran-append (finished_job c.args.self.now.bank (story_of c.args.self.now.world)) (Says (λ _. c.args.what) ∷ []) c.args.self.now.world c.finish_job.new.self.world c.note.new.self.world c.in_ok-finish_job.ensures.goes
    (noted_ran (λ _. c.args.what) c.args.what c.finish_job.new.self.world c.note.new.self.world refl (ap (λ (d : DeskState). d.world) c.note.ensures.noted))
