use Rattle.std.proofs.Common.{ap, subst}
use Rattle.pfr_flash.specs.declared.names.Bank.{Bank}
use Rattle.pfr_jobs.specs.declared.job.JobKind.TheVariants.{ActiveFromRecovery, ActiveFromStaging}
use Rattle.pfr_manifest.specs.declared.manifest.Manifest.{Manifest}
use Rattle.pfr_report.specs.declared.note.What.TheVariants.{Restored, Updated}
use Rattle.pfr_story.specs.Goes.{Goes}
use Rattle.pfr_story.specs.JobPlans.{done_with}
use Rattle.pfr_machine.specs.Worlds.{DeskState}
use Rattle.pfr_machine.proofs.desk.Desk.do_work.Goals as goal

pub returns-in-ActiveFromRecovery-clause-goes : goal.returns-in-ActiveFromRecovery-clause-goes
returns-in-ActiveFromRecovery-clause-goes g c =
    let own = ap (λ (d : DeskState). d.bank) c.self.view_is in
    let level = c.in-ActiveFromRecovery.level in
    rw c.in-ActiveFromRecovery.is (subst (λ (b : Bank). Goes (done_with c.args.self.now.bank (ActiveFromRecovery level) c.args.fuses.now c.args.capsule.now (Restored b level)) c.args.self.now.world c.do_job.new.self.world c.do_job.result) own c.do_job.ensures.goes)

pub returns-in-ActiveFromStaging-clause-goes : goal.returns-in-ActiveFromStaging-clause-goes
returns-in-ActiveFromStaging-clause-goes g c =
    let own = ap (λ (d : DeskState). d.bank) c.self.view_is in
    let dynamic = c.in-ActiveFromStaging.dynamic in
    rw c.in-ActiveFromStaging.is
    (subst (λ (b : Bank). Goes (done_with c.args.self.now.bank (ActiveFromStaging dynamic) c.args.fuses.now c.args.capsule.now (Updated b dynamic c.args.capsule.now.manifest.svn)) c.args.self.now.world c.do_job-in-ActiveFromStaging.new.self.world c.do_job-in-ActiveFromStaging.result) own
    (subst (λ (m : Manifest). Goes (done_with c.args.self.now.bank (ActiveFromStaging dynamic) c.args.fuses.now c.args.capsule.now (Updated c.self.inside.bank dynamic m.svn)) c.args.self.now.world c.do_job-in-ActiveFromStaging.new.self.world c.do_job-in-ActiveFromStaging.result) c.manifest.ensures
    c.do_job-in-ActiveFromStaging.ensures.goes))
