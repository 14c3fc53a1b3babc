use Rattle.pfr_flash.specs.declared.names.Bank.TheVariants.{Bmc}
use Rattle.pfr_machine.specs.Worlds.{Latches, flash_in, latch_in, latches_by, sits_in}
use Rattle.pfr_machine.proofs.DeskLemmas.{desk_pushed_is, seated_pushed}
use Rattle.pfr_machine.proofs.WorldLemmas.{still_latches}
use Rattle.pfr_machine.proofs.inner.Inner.note.Goals as goal

pub invariant_of-self : goal.invariant_of-self
invariant_of-self g c =
    let latches : Latches = latches_by Bmc (latch_in c.self.inside.bmc) (latch_in c.self.inside.pch) in
    seated_pushed g.F.Flash.device c.args.what (sits_in c.self.inside.bmc) (sits_in c.self.inside.pch) (g.F.Flash.device (flash_in c.self.inside.bmc)) (g.F.Flash.device (flash_in c.self.inside.pch)) latches latches c.self.inside.board c.push.new.self
    (still_latches c.args.what latches c.requires.still_latch) c.push.ensures.noted c.requires.text c.requires.still c.self.invariant

pub returns : goal.returns
returns g c =
    let latches : Latches = latches_by Bmc (latch_in c.self.inside.bmc) (latch_in c.self.inside.pch) in
    record {
      noted = rw (← c.self.view_is) (desk_pushed_is g.F.Flash.device c.args.what Bmc (g.F.Flash.device (flash_in c.self.inside.bmc)) (g.F.Flash.device (flash_in c.self.inside.pch)) latches latches c.self.inside.board c.push.new.self
          (still_latches c.args.what latches c.requires.still_latch) c.push.ensures.noted);
    }
