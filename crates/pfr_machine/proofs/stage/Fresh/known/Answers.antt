use Rattle.std.proofs.Common.{subst}
use Rattle.pfr_story.specs.World.{World, AreDevices}
use Rattle.pfr_machine.proofs.stage.Fresh.known.Goals as goal

pub returns-clause-bytes : goal.returns-clause-bytes
returns-clause-bytes g c =
    subst (λ (w : World). AreDevices w) c.self.view_is (record {
      bmc = g.met.F.Flash.holds_bytes c.self.inside.bmc;
      pch = g.met.F.Flash.holds_bytes c.self.inside.pch;
      nv = g.met.F.Flash.holds_bytes c.self.inside.board.nv;
    })
