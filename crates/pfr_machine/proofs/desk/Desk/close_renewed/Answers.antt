use Rattle.std.proofs.Common.{ap, subst}
use Rattle.pfr_flash.specs.declared.names.Bank.{Bank}
use Rattle.pfr_report.specs.declared.note.What.TheVariants.{RecoveryUpdated}
use Rattle.pfr_story.specs.Goes.{Goes}
use Rattle.pfr_story.specs.JobPlans.{abandoned}
use Rattle.pfr_machine.specs.Worlds.{DeskState}
use Rattle.pfr_machine.proofs.desk.Desk.close_renewed.Goals as goal

pub returns-clause-goes : goal.returns-clause-goes
returns-clause-goes g c =
    let own = ap (λ (d : DeskState). d.bank) c.self.view_is in
    subst (λ (b : Bank). Goes (abandoned (RecoveryUpdated b c.args.svn) c.args.self.now.bank) c.args.self.now.world c.close_job.new.self.world c.close_job.result) own c.close_job.ensures.goes
