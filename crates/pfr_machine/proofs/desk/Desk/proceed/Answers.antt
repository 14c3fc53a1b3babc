use Rattle.pfr_machine.proofs.WorkLemmas.{ready_found, readied, readied_locked}
use Rattle.pfr_machine.proofs.desk.Desk.proceed.Goals as goal

pub returns-in-Ok : goal.returns-in-Ok
returns-in-Ok g c =
    readied (g.E.Engine.accepts c.args.engine.now) c.args.work c.args.self _ c.carry_on.result
    (ready_found c.self.inside.bank _ _ _ _ c.self.inside.board c.args.self _ c.args.found _ c.self.view_is c.size.ensures c.requires.found c.in-Ok.ensures.is) c.carry_on.ensures

pub returns-in-Err : goal.returns-in-Err
returns-in-Err g c =
    readied_locked (g.E.Engine.accepts c.args.engine.now) c.args.work c.args.self c.in-Err.why c.lock.result
    (ready_found c.self.inside.bank _ _ _ _ c.self.inside.board c.args.self _ c.args.found _ c.self.view_is c.size.ensures c.requires.found c.in-Err.ensures.is) c.lock.ensures.ran c.lock.ensures.leaves
