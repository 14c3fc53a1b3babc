use Rattle.std.proofs.Common.{◌∙◌, ap, false, sym}
use Rattle.pfr_flash.specs.FlashState.{now}
use Rattle.pfr_flash.proofs.EndsLemmas.{ends_content}
use Rattle.pfr_machine.specs.Worlds.{flash_in, latch_in, latches_by}
use Rattle.pfr_machine.proofs.DeskLemmas.{awake_store, state_store, store_read, store_unread}
use Rattle.pfr_machine.proofs.desk.Desk.load_log.Goals.{in-Ok, in-Err}
use Rattle.pfr_machine.proofs.desk.Desk.load_log.Goals as goal

pub returns-clause-goes : goal.returns-clause-goes
returns-clause-goes g c =
    let on = awake_store c.self.inside.bank (g.F.Flash.device c.self.inside.held.flash) (g.F.Flash.device (flash_in c.self.inside.other)) (g.F.Flash.device c.self.inside.board.nv) (latches_by c.self.inside.bank false (latch_in c.self.inside.other)) c.self.inside.board (rw (← c.self.view_is) at c.requires.on) in
    elim c.match-load.branch [
      | in-Ok w ↦ rw (w.result-is, ← c.self.view_is) (store_read c.self.inside.bank (g.F.Flash.device c.self.inside.held.flash) (g.F.Flash.device (flash_in c.self.inside.other)) (g.F.Flash.device c.self.inside.board.nv) (g.F.Flash.device c.load.new.nv) (latches_by c.self.inside.bank false (latch_in c.self.inside.other)) c.self.inside.board c.load.new.nv on w.in-Ok.ensures.ends)
      | in-Err w ↦ rw (w.result-is, w.store_stop.ensures, ← c.self.view_is) (store_unread c.self.inside.bank (g.F.Flash.device c.self.inside.held.flash) (g.F.Flash.device (flash_in c.self.inside.other)) (g.F.Flash.device c.self.inside.board.nv) (g.F.Flash.device c.load.new.nv) (latches_by c.self.inside.bank false (latch_in c.self.inside.other)) c.self.inside.board c.load.new.nv on w.in-Err.fail w.in-Err.ensures.ends)
    ]

pub returns-clause-store : goal.returns-clause-store
returns-clause-store g c =
    rw (← c.self.view_is) (ap now (state_store c.self.inside.bank (g.F.Flash.device c.self.inside.held.flash) (g.F.Flash.device (flash_in c.self.inside.other)) (g.F.Flash.device c.load.new.nv) (latches_by c.self.inside.bank false (latch_in c.self.inside.other)) (record c.self.inside.board { nv = c.load.new.nv }))
    ∙ ends_content c.load.ensures.ends
    ∙ ap now (sym (state_store c.self.inside.bank (g.F.Flash.device c.self.inside.held.flash) (g.F.Flash.device (flash_in c.self.inside.other)) (g.F.Flash.device c.self.inside.board.nv) (latches_by c.self.inside.bank false (latch_in c.self.inside.other)) c.self.inside.board)))
