use Rattle.std.proofs.Common.{refl}
use Rattle.pfr_flash.specs.declared.names.Bank.TheVariants.{Bmc, Pch}
use Rattle.pfr_story.specs.World.{World}
use Rattle.pfr_machine.specs.Worlds.{flash_in, latch_in, latches_by, world_with}
use Rattle.pfr_machine.proofs.BusLemmas.{smbus_seat}
use Rattle.pfr_machine.proofs.inner.Inner.judge_smbus.Goals as goal

pub returns-in-Bmc : goal.returns-in-Bmc
returns-in-Bmc g c =
    let w : World = world_with (g.F.Flash.device (flash_in c.self.inside.bmc)) (g.F.Flash.device (flash_in c.self.inside.pch)) (g.F.Flash.device c.self.inside.board.nv) (latches_by Bmc (latch_in c.self.inside.bmc) (latch_in c.self.inside.pch)) c.self.inside.board in
    rw (c.in-Bmc.is, ← c.self.view_is) (smbus_seat g.F.Flash.device Bmc c.self.inside.bmc w c.args.frame.now c.as_slice.result.now c.judge_smbus.result refl (rw (c.in-Bmc.is, ← c.self.view_is) at c.requires) c.self.invariant.bmc
    c.as_slice.ensures.bytes c.judge_smbus.ensures.judged c.judge_smbus.ensures.spells)

pub returns-in-Pch : goal.returns-in-Pch
returns-in-Pch g c =
    let w : World = world_with (g.F.Flash.device (flash_in c.self.inside.bmc)) (g.F.Flash.device (flash_in c.self.inside.pch)) (g.F.Flash.device c.self.inside.board.nv) (latches_by Bmc (latch_in c.self.inside.bmc) (latch_in c.self.inside.pch)) c.self.inside.board in
    rw (c.in-Pch.is, ← c.self.view_is) (smbus_seat g.F.Flash.device Pch c.self.inside.pch w c.args.frame.now c.as_slice-in-Pch.result.now c.judge_smbus-in-Pch.result refl (rw (c.in-Pch.is, ← c.self.view_is) at c.requires) c.self.invariant.pch
    c.as_slice-in-Pch.ensures.bytes c.judge_smbus-in-Pch.ensures.judged c.judge_smbus-in-Pch.ensures.spells)
