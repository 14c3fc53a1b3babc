use Rattle.std.proofs.Common.{false, Some}
use Rattle.pfr_story.specs.World.{World}
use Rattle.pfr_machine.specs.Worlds.{desk_world, flash_in, latch_in, latches_by, sits_in}
use Rattle.pfr_machine.proofs.SeatLemmas.{desk_lost, desk_owned, lost_dark, lost_notes, lost_ran}
use Rattle.pfr_machine.proofs.desk.Desk.lose.Goals as goal

pub lose-requires-clause-owned : goal.lose-requires-clause-owned
lose-requires-clause-owned g c =
    desk_owned c.self.inside.bank c.self.inside.held.bank (sits_in c.self.inside.other) (g.F.Flash.device c.self.inside.held.flash) (g.F.Flash.device c.lost.result.flash) (g.F.Flash.device (flash_in c.self.inside.other)) (g.F.Flash.device c.self.inside.board.nv) (latches_by c.self.inside.bank false (latch_in c.self.inside.other)) c.self.inside.board
    c.lost.ensures.down c.lost.result.bank c.lost.ensures.bank c.self.invariant

pub returns : goal.returns
returns g c =
    let is = desk_lost c.self.inside.bank c.self.inside.held.bank (sits_in c.self.inside.other) (g.F.Flash.device c.self.inside.held.flash) (g.F.Flash.device c.lost.result.flash) (g.F.Flash.device (flash_in c.self.inside.other)) (g.F.Flash.device c.self.inside.board.nv) (latches_by c.self.inside.bank false (latch_in c.self.inside.other)) c.self.inside.board
    c.lost.ensures.down (Some c.args.device) c.lose.result c.lose.ensures in
    let old : World = desk_world c.self.inside.bank (g.F.Flash.device c.self.inside.held.flash) (g.F.Flash.device (flash_in c.self.inside.other)) (g.F.Flash.device c.self.inside.board.nv) (latches_by c.self.inside.bank false (latch_in c.self.inside.other)) c.self.inside.board in
    rw (← c.self.view_is) (record {
      ran = lost_ran (Some c.args.device) old c.lose.result is;
      dark = lost_dark (Some c.args.device) old c.lose.result is;
      notes = lost_notes (Some c.args.device) old c.lose.result is (rw (← c.self.view_is) at c.requires.room);
    })
