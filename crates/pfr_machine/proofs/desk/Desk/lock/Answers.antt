use Rattle.std.proofs.Common.{ap, false, refl}
use Rattle.pfr_report.specs.declared.note.What.TheVariants.{Locked}
use Rattle.pfr_machine.specs.Worlds.{flash_in, latch_in, latches_by, sits_in}
use Rattle.pfr_machine.proofs.DeskLemmas.{awake_mine, awake_store}
use Rattle.pfr_machine.proofs.SeatLemmas.{desk_beside, desk_locks, desk_leaves}
use Rattle.pfr_machine.proofs.LaidLemmas.{none_laid}
use Rattle.pfr_machine.proofs.WorldLemmas.{after_locked, locked_latches, locked_seat, other_locked}
use Rattle.pfr_machine.proofs.desk.Desk.lock.Goals as goal

pub inner-requires : goal.inner-requires
inner-requires g c = record {
  seated = desk_beside g.F.Flash.device c.self.inside.bank c.self.inside.held.bank (sits_in c.self.inside.other) (g.F.Flash.device c.self.inside.held.flash) (g.F.Flash.device c.lock.result.flash) (g.F.Flash.device (flash_in c.self.inside.other)) (latches_by c.self.inside.bank false (latch_in c.self.inside.other)) c.self.inside.board
      c.self.invariant (awake_mine c.self.inside.bank (g.F.Flash.device c.self.inside.held.flash) (g.F.Flash.device (flash_in c.self.inside.other)) (g.F.Flash.device c.self.inside.board.nv) (latches_by c.self.inside.bank false (latch_in c.self.inside.other)) c.self.inside.board (rw (← c.self.view_is) at c.requires.on)) (ap g.F.Flash.device c.lock.ensures.flash)
      (Locked c.self.inside.bank c.args.why c.counts-counts.result) (locked_latches c.self.inside.bank c.args.why c.counts-counts.result false (latch_in c.self.inside.other)) c.push.new.self c.push.ensures.noted (locked_seat c.lock.result.bank) c.lock.ensures.bank (λ r e. none_laid c.self.inside.bank _ r e) c.requires.text
      (after_locked c.self.inside.bank c.args.why c.counts-counts.result) (other_locked c.self.inside.bank c.args.why c.counts-counts.result);
}

pub returns-clause-ran : goal.returns-clause-ran
returns-clause-ran g c =
    rw (c.inner.ensures, ← c.self.view_is) (desk_locks g.F.Flash.device c.self.inside.bank c.self.inside.held.bank (sits_in c.self.inside.other) (g.F.Flash.device c.self.inside.held.flash) (g.F.Flash.device c.lock.result.flash) (g.F.Flash.device (flash_in c.self.inside.other)) (latches_by c.self.inside.bank false (latch_in c.self.inside.other)) c.self.inside.board
    c.self.invariant (awake_mine c.self.inside.bank (g.F.Flash.device c.self.inside.held.flash) (g.F.Flash.device (flash_in c.self.inside.other)) (g.F.Flash.device c.self.inside.board.nv) (latches_by c.self.inside.bank false (latch_in c.self.inside.other)) c.self.inside.board (rw (← c.self.view_is) at c.requires.on)) (ap g.F.Flash.device c.lock.ensures.flash) c.args.why c.counts-counts.result c.push.new.self (locked_latches c.self.inside.bank c.args.why c.counts-counts.result false (latch_in c.self.inside.other)) (rw (← c.self.view_is) at c.counts-counts.ensures) c.push.ensures.noted)

pub returns-clause-leaves : goal.returns-clause-leaves
returns-clause-leaves g c =
    rw (c.inner.ensures, ← c.self.view_is) (desk_leaves g.F.Flash.device c.self.inside.bank c.self.inside.held.bank (sits_in c.self.inside.other) (g.F.Flash.device c.self.inside.held.flash) (g.F.Flash.device c.lock.result.flash) (g.F.Flash.device (flash_in c.self.inside.other)) (latches_by c.self.inside.bank false (latch_in c.self.inside.other)) c.self.inside.board
    c.self.invariant (awake_mine c.self.inside.bank (g.F.Flash.device c.self.inside.held.flash) (g.F.Flash.device (flash_in c.self.inside.other)) (g.F.Flash.device c.self.inside.board.nv) (latches_by c.self.inside.bank false (latch_in c.self.inside.other)) c.self.inside.board (rw (← c.self.view_is) at c.requires.on)) (ap g.F.Flash.device c.lock.ensures.flash)
    (Locked c.self.inside.bank c.args.why c.counts-counts.result) (locked_latches c.self.inside.bank c.args.why c.counts-counts.result false (latch_in c.self.inside.other)) c.push.new.self c.push.ensures.noted (locked_seat c.self.inside.held.bank) refl (λ r e. none_laid c.self.inside.bank _ r e) (rw (← c.self.view_is) at c.requires.room) (awake_store c.self.inside.bank (g.F.Flash.device c.self.inside.held.flash) (g.F.Flash.device (flash_in c.self.inside.other)) (g.F.Flash.device c.self.inside.board.nv) (latches_by c.self.inside.bank false (latch_in c.self.inside.other)) c.self.inside.board (rw (← c.self.view_is) at c.requires.on))
    c.requires.text (λ e. cc)
    (after_locked c.self.inside.bank c.args.why c.counts-counts.result) (other_locked c.self.inside.bank c.args.why c.counts-counts.result))
