use Rattle.std.proofs.Common.{◌∙◌, ap, false, refl, sym, Some, None}
use Rattle.pfr_flash.specs.FlashState.{now, size_of}
use Rattle.pfr_flash.proofs.EndsLemmas.{ends_content}
use Rattle.pfr_machine.specs.Worlds.{flash_in, latch_in, latches_by, sits_in}
use Rattle.pfr_machine.proofs.DeskLemmas.{awake_mine, desk_worked, mine_read, mine_unread, read_size, state_mine, state_store}
use Rattle.pfr_machine.proofs.UpdateLemmas.{lent}
use Rattle.pfr_machine.proofs.desk.Desk.judge_image.Goals as goal
use Rattle.pfr_machine.proofs.desk.Desk.judge_image.Goals.{in-Ok, in-Err+in-Some, in-Err+in-None}

pub returns-clause-goes : goal.returns-clause-goes
returns-clause-goes g c =
    let on = awake_mine c.self.inside.bank (g.F.Flash.device c.self.inside.held.flash) (g.F.Flash.device (flash_in c.self.inside.other)) (g.F.Flash.device c.self.inside.board.nv) (latches_by c.self.inside.bank false (latch_in c.self.inside.other)) c.self.inside.board (rw (← c.self.view_is) at c.requires.on) in
    let same = ap g.F.Flash.device c.flash.ensures.value in
    elim c.match-active.branch [
      | in-Ok w ↦ rw (w.result-is, ← c.self.view_is) (mine_read c.self.inside.bank (g.F.Flash.device c.self.inside.held.flash) (g.F.Flash.device c.active.new.flash) (g.F.Flash.device (flash_in c.self.inside.other)) (g.F.Flash.device c.self.inside.board.nv) (latches_by c.self.inside.bank false (latch_in c.self.inside.other)) c.self.inside.board on (lent None None (g.F.Flash.device c.flash.result.now) (g.F.Flash.device c.self.inside.held.flash) (g.F.Flash.device c.active.new.flash) refl same w.in-Ok.ensures.ends))
      | in-Err+in-Some w ↦
          rw (w.result-is, w.device_of.ensures, ← c.self.view_is) (mine_unread c.self.inside.bank (g.F.Flash.device c.self.inside.held.flash) (g.F.Flash.device c.active.new.flash) (g.F.Flash.device (flash_in c.self.inside.other)) (g.F.Flash.device c.self.inside.board.nv) (latches_by c.self.inside.bank false (latch_in c.self.inside.other)) c.self.inside.board on w.in-Some.fail
          (lent _ (Some w.in-Some.fail) (g.F.Flash.device c.flash.result.now) (g.F.Flash.device c.self.inside.held.flash) (g.F.Flash.device c.active.new.flash) (sym w.failure.ensures ∙ w.in-Some.is) same w.in-Err.ensures.ends))
      | in-Err+in-None w ↦
          rw (w.result-is, ← c.self.view_is) (mine_read c.self.inside.bank (g.F.Flash.device c.self.inside.held.flash) (g.F.Flash.device c.active.new.flash) (g.F.Flash.device (flash_in c.self.inside.other)) (g.F.Flash.device c.self.inside.board.nv) (latches_by c.self.inside.bank false (latch_in c.self.inside.other)) c.self.inside.board on (lent _ None (g.F.Flash.device c.flash.result.now) (g.F.Flash.device c.self.inside.held.flash) (g.F.Flash.device c.active.new.flash) (sym w.failure.ensures ∙ w.in-None.is) same w.in-Err.ensures.ends))
    ]

pub invariant_of-self : goal.invariant_of-self
invariant_of-self g c =
    desk_worked c.self.inside.bank c.self.inside.held.bank c.self.inside.held.bank (sits_in c.self.inside.other) (g.F.Flash.device c.self.inside.held.flash) (g.F.Flash.device c.active.new.flash) (g.F.Flash.device (flash_in c.self.inside.other)) (g.F.Flash.device c.self.inside.board.nv) (latches_by c.self.inside.bank false (latch_in c.self.inside.other)) c.self.inside.board refl
    (read_size _ (g.F.Flash.device c.flash.result.now) (g.F.Flash.device c.active.new.flash) c.active.ensures.ends ∙ ap (λ flash. size_of (g.F.Flash.device flash)) c.flash.ensures.value) c.self.invariant

pub returns-clause-store : goal.returns-clause-store
returns-clause-store g c =
    rw (← c.self.view_is) (state_store c.self.inside.bank (g.F.Flash.device c.active.new.flash) (g.F.Flash.device (flash_in c.self.inside.other)) (g.F.Flash.device c.self.inside.board.nv) (latches_by c.self.inside.bank false (latch_in c.self.inside.other)) c.self.inside.board
    ∙ sym (state_store c.self.inside.bank (g.F.Flash.device c.self.inside.held.flash) (g.F.Flash.device (flash_in c.self.inside.other)) (g.F.Flash.device c.self.inside.board.nv) (latches_by c.self.inside.bank false (latch_in c.self.inside.other)) c.self.inside.board))

pub returns-clause-image : goal.returns-clause-image
returns-clause-image g c =
    rw (← c.self.view_is) (ap now (state_mine c.self.inside.bank (g.F.Flash.device c.active.new.flash) (g.F.Flash.device (flash_in c.self.inside.other)) (g.F.Flash.device c.self.inside.board.nv) (latches_by c.self.inside.bank false (latch_in c.self.inside.other)) c.self.inside.board)
    ∙ ends_content c.active.ensures.ends
    ∙ ap (λ flash. now (g.F.Flash.device flash)) c.flash.ensures.value
    ∙ ap now (sym (state_mine c.self.inside.bank (g.F.Flash.device c.self.inside.held.flash) (g.F.Flash.device (flash_in c.self.inside.other)) (g.F.Flash.device c.self.inside.board.nv) (latches_by c.self.inside.bank false (latch_in c.self.inside.other)) c.self.inside.board)))
