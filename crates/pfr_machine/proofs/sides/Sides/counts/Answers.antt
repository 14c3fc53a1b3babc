use Rattle.pfr_machine.specs.Worlds.{flash_in, latch_in, latches_by}
use Rattle.pfr_machine.proofs.WorldLemmas.{counts_desk}
use Rattle.pfr_machine.proofs.sides.Sides.counts.Goals as goal

pub returns : goal.returns
returns g c =
    cc (counts_desk c.args.self.now.bank (g.F.Flash.device (flash_in c.args.self.now.mine)) (g.F.Flash.device (flash_in c.args.self.now.other)) (g.F.Flash.device c.args.self.now.board.nv)
    (latches_by c.args.self.now.bank (latch_in c.args.self.now.mine) (latch_in c.args.self.now.other)) c.args.self.now.board)
