use Rattle.std.proofs.Common.{refl}
use Rattle.pfr_machine.specs.Worlds.{flash_in, sits_in}
use Rattle.pfr_machine.proofs.DeskLemmas.{alike_armed, alike_same, seated_alike}
use Rattle.pfr_machine.proofs.inner.Inner.arm.Goals.{in-Bmc, in-Pch, in-Nv}
use Rattle.pfr_machine.proofs.inner.Inner.arm.Goals as goal

pub invariant_of-self : goal.invariant_of-self
invariant_of-self g c =
    let bmc = g.F.Flash.device (flash_in c.self.inside.bmc) in
    let pch = g.F.Flash.device (flash_in c.self.inside.pch) in
    let nv = g.F.Flash.device c.self.inside.board.nv in
    elim c.match-arm.branch [
      | in-Bmc w ↦ rw w.self-inside-is (seated_alike (sits_in c.self.inside.bmc) (sits_in c.self.inside.pch) _ _ _ _ w.arm.ensures.sits refl (alike_armed c.args.arm.now.what c.args.arm.now.nth c.args.tear.now bmc _ w.arm.ensures.flash) (alike_same pch) (alike_same nv) refl c.self.invariant)
      | in-Pch w ↦ rw w.self-inside-is (seated_alike (sits_in c.self.inside.bmc) (sits_in c.self.inside.pch) _ _ _ _ refl w.arm-in-Pch.ensures.sits (alike_same bmc) (alike_armed c.args.arm.now.what c.args.arm.now.nth c.args.tear.now pch _ w.arm-in-Pch.ensures.flash) (alike_same nv) refl c.self.invariant)
      | in-Nv w ↦ rw w.self-inside-is (seated_alike (sits_in c.self.inside.bmc) (sits_in c.self.inside.pch) _ _ _ _ refl refl (alike_same bmc) (alike_same pch) (alike_armed c.args.arm.now.what c.args.arm.now.nth c.args.tear.now nv _ w.arm_device.ensures) refl c.self.invariant)
    ]
