use Rattle.std.proofs.Common.{ap, length, List, ℕ}
use Rattle.pfr_flash.specs.declared.names.Bank.TheVariants.{Bmc}
use Rattle.pfr_machine.specs.Worlds.{flash_in, latch_in, latches_by, sits_in}
use Rattle.pfr_machine.proofs.DeskLemmas.{seated_store}
use Rattle.pfr_machine.proofs.LaidLemmas.{provision_laid}
use Rattle.pfr_machine.proofs.inner.Inner.provision_store.Goals as goal

pub invariant_of-self : goal.invariant_of-self
invariant_of-self g c =
    let f = c.provision_as_noted.ensures.follows in
    seated_store (sits_in c.self.inside.bmc) (sits_in c.self.inside.pch) (g.F.Flash.device (flash_in c.self.inside.bmc)) (g.F.Flash.device (flash_in c.self.inside.pch)) (g.F.Flash.device c.self.inside.board.nv) (g.F.Flash.device c.provision_as_noted.new.nv)
    (latches_by Bmc (latch_in c.self.inside.bmc) (latch_in c.self.inside.pch)) c.self.inside.board c.provision_as_noted.new.nv
    (ap (λ (bytes : List ℕ). length bytes) f.worked.moved.start) (provision_laid c.args.what.now _ _ (g.F.Flash.device c.self.inside.board.nv) (g.F.Flash.device c.provision_as_noted.new.nv) c.provision_as_noted.result f) c.self.invariant
