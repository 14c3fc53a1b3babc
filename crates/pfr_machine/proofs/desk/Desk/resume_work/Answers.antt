use Rattle.std.proofs.Common.{ap}
use Rattle.pfr_flash.specs.declared.names.Bank.{Bank}
use Rattle.pfr_report.specs.declared.note.What.TheVariants.{Resumed}
use Rattle.pfr_story.specs.JobPlans.{job_notes, work_of}
use Rattle.pfr_machine.specs.Worlds.{DeskState}
use Rattle.pfr_machine.proofs.PlanLemmas.{noted_goes}
use Rattle.pfr_machine.proofs.desk.Desk.resume_work.Goals as goal

pub returns-clause-goes : goal.returns-clause-goes
returns-clause-goes g c =
    let own = ap (λ (d : DeskState). d.bank) c.self.view_is in
    noted_goes (λ b. Resumed b c.args.kind) (Resumed c.self.inside.bank c.args.kind) (λ b. work_of (job_notes b) (g.E.Engine.accepts c.args.engine.now) b c.args.fuses.now c.args.capsule.now c.args.kind) c.args.self.now c.note.new.self c.do_work.new.self c.do_work.result
    (ap (λ (b : Bank). Resumed b c.args.kind) own) c.note.ensures.noted c.do_work.ensures.goes
