use Rattle.std.proofs.Common.{subst, sym}
use Rattle.pfr_flash.specs.FlashState.{FlashState}
use Rattle.pfr_flash.specs.Holding.{HoldsBytes}
use Rattle.pfr_story.specs.Story.{device_of}
use Rattle.pfr_story.specs.World.{state_at}
use Rattle.pfr_machine.specs.Worlds.{DeskState}
use Rattle.pfr_machine.proofs.DeskLemmas.{state_mine}
use Rattle.pfr_machine.proofs.desk.Desk.known.Goals as goal

pub returns-clause-bytes : goal.returns-clause-bytes
returns-clause-bytes g c =
    subst (λ (d : DeskState). HoldsBytes (state_at (device_of d.bank) d.world)) c.self.view_is
    (subst (λ (d : FlashState). HoldsBytes d) (sym (state_mine c.self.inside.bank _ _ _ _ c.self.inside.board)) (g.met.F.Flash.holds_bytes c.self.inside.held.flash))
