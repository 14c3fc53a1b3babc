use Rattle.std.proofs.Common.{◌∙◌, sym}
use Rattle.pfr_story.proofs.Sequence.{Ran-refl}
use Rattle.pfr_machine.proofs.desk.Desk.by_open.Goals as goal

pub returns-in-None-clause-goes : goal.returns-in-None-clause-goes
returns-in-None-clause-goes g c = rw (sym c.job.ensures ∙ c.in-None.is) (Ran-refl c.args.self.now.world)
