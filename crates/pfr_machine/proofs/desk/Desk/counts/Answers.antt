use Rattle.std.proofs.Common.{false}
use Rattle.pfr_machine.specs.Worlds.{flash_in, latch_in, latches_by}
use Rattle.pfr_machine.proofs.WorldLemmas.{counts_desk}
use Rattle.pfr_machine.proofs.desk.Desk.counts.Goals as goal

pub returns : goal.returns
returns g c =
    rw (← c.self.view_is) (cc (counts_desk c.self.inside.bank (g.F.Flash.device c.self.inside.held.flash) (g.F.Flash.device (flash_in c.self.inside.other)) (g.F.Flash.device c.self.inside.board.nv)
    (latches_by c.self.inside.bank false (latch_in c.self.inside.other)) c.self.inside.board))
