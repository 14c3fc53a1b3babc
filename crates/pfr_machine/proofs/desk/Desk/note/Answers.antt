use Rattle.std.proofs.Common.{ap, false}
use Rattle.pfr_story.specs.World.{World}
use Rattle.pfr_machine.specs.Worlds.{Latches, flash_in, latch_in, latches_by, line_in}
use Rattle.pfr_machine.proofs.DeskLemmas.{desk_pushed, desk_pushed_is}
use Rattle.pfr_machine.proofs.WorldLemmas.{still_latches}
use Rattle.pfr_machine.proofs.desk.Desk.note.Goals as goal

pub invariant_of-self : goal.invariant_of-self
invariant_of-self g c =
    let latches : Latches = latches_by c.self.inside.bank false (latch_in c.self.inside.other) in
    desk_pushed g.F.Flash.device c.args.what _ _ _ _ _ latches latches c.self.inside.board _ (still_latches c.args.what latches c.requires.still_latch) c.push.ensures.noted c.requires.text c.requires.still c.self.invariant

pub returns : goal.returns
returns g c =
    let latches : Latches = latches_by c.self.inside.bank false (latch_in c.self.inside.other) in
    let how = line_in c.self.inside.other in
    let is = desk_pushed_is g.F.Flash.device c.args.what c.self.inside.bank (g.F.Flash.device c.self.inside.held.flash) (g.F.Flash.device (flash_in c.self.inside.other)) latches latches c.self.inside.board c.push.new.self
    (still_latches c.args.what latches c.requires.still_latch) c.push.ensures.noted in
    record { noted = rw (← c.self.view_is) (ap (λ (w : World). record { bank = c.self.inside.bank; other = how; world = w }) is) }
