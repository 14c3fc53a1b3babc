use Rattle.pfr_machine.proofs.ReadyLemmas.{ready_behind}
use Rattle.pfr_machine.proofs.UpdateLemmas.{room_ends, room_halted}
use Rattle.pfr_machine.proofs.desk.Desk.renew_by_log.Goals as goal

pub renew_by_room-requires-clause-ready : goal.renew_by_room-requires-clause-ready
renew_by_room-requires-clause-ready g c =
    ready_behind 0 4 c.args.fuses c.args.self c.load_log.new.self _ c.in-Ok.ensures.goes c.in-Ok.ensures.stays c.load_log.ensures.store c.requires.ready

pub returns-in-Ok : goal.returns-in-Ok
returns-in-Ok g c =
    room_ends (g.E.Engine.accepts c.args.engine.now) c.args.fuses c.args.capsule.now c.args.self c.load_log.new.self _ c.renew_by_room.result c.in-Ok.log c.in-Ok.ensures.found c.in-Ok.ensures.goes c.in-Ok.ensures.stays
    c.renew_by_room.ensures

pub returns-in-Err : goal.returns-in-Err
returns-in-Err g c =
    room_halted (g.E.Engine.accepts c.args.engine.now) c.args.fuses c.args.capsule.now c.args.self c.in-Err.stop c.load_log.new.self c.in-Err.ensures.goes c.in-Err.ensures.stays
