use Rattle.std.proofs.Common.{arith, Ok}
use Rattle.pfr_machine.specs.Working.{by_work}
use Rattle.pfr_machine.specs.declared.working.Work.TheVariants.{BringUp, Recover}
use Rattle.pfr_machine.proofs.EndsLemmas.{ends_most}
use Rattle.pfr_machine.proofs.desk.Desk.carry_on.Goals as goal

pub returns-in-BringUp : goal.returns-in-BringUp
returns-in-BringUp g c =
    rw c.in-BringUp.is (ends_most (by_work (g.E.Engine.accepts c.args.engine.now) c.args.self.bank BringUp (Ok c.args.fuses)) 5 5 c.args.self c.bring_up.result (omega arith) c.bring_up.ensures)

pub returns-in-Recover : goal.returns-in-Recover
returns-in-Recover g c =
    rw c.in-Recover.is (ends_most (by_work (g.E.Engine.accepts c.args.engine.now) c.args.self.bank (Recover c.in-Recover.level) (Ok c.args.fuses)) 2 5 c.args.self c.recover_at.result (omega arith) c.recover_at.ensures)
