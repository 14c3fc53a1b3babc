use Rattle.pfr_story.specs.JobPlans.{abandoned, worked}
use Rattle.pfr_machine.proofs.PlanLemmas.{goes_behind}
use Rattle.pfr_machine.proofs.desk.Desk.do_job.Goals as goal

pub returns-clause-goes : goal.returns-clause-goes
returns-clause-goes g c =
    goes_behind (worked c.args.self.now.bank c.args.kind c.args.fuses.now c.args.capsule.now) (λ b. abandoned c.args.that b) c.args.self.now c.work_on.new.self c.close_job.new.self c.close_job.result
    c.in_ok-work_on.ensures.stays.bank c.in_ok-work_on.ensures.goes c.close_job.ensures.goes
