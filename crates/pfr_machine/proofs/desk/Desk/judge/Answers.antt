use Rattle.std.proofs.Common.{◌≡◌, ◌∙◌, ap, false, refl, sym, subst, Option, Some, None}
use Rattle.pfr_flash.specs.FlashState.{FlashState, now, size_of}
use Rattle.pfr_flash.specs.Reading.{EndsAt}
use Rattle.pfr_flash.specs.declared.flash.FlashFail.{FlashFail}
use Rattle.pfr_flash.proofs.EndsLemmas.{ends_content}
use Rattle.pfr_flash.proofs.HoldingLemmas.{now_bytes}
use Rattle.pfr_fuses.specs.RootSlot.{layout_of}
use Rattle.pfr_fuses.specs.declared.root_slot.RootSlot.{RootSlot}
use Rattle.pfr_machine.specs.Worlds.{flash_in, latch_in, latches_by, sits_in}
use Rattle.pfr_machine.proofs.CapsuleLemmas.{capsule_left, capsule_staged, judged_svn}
use Rattle.pfr_machine.proofs.DeskLemmas.{awake_mine, desk_worked, mine_read, mine_unread, read_size, state_mine, state_store}
use Rattle.pfr_machine.proofs.desk.Desk.judge.Goals as goal
use Rattle.pfr_machine.proofs.desk.Desk.judge.Goals.{in-Ok, in-Err+in-Some, in-Err+in-None}

-- what was read through a loan of the flash, as the flash
lent : (failed told : Option FlashFail) (read mine later : FlashState) → failed ≡ told → read ≡ mine → EndsAt failed read later → EndsAt told mine later
lent failed told read mine later f e h = subst (λ (d : FlashState). EndsAt told d later) e (subst (λ (x : Option FlashFail). EndsAt x read later) f h)

pub returns-clause-goes : goal.returns-clause-goes
returns-clause-goes g c =
    let on = awake_mine c.self.inside.bank (g.F.Flash.device c.self.inside.held.flash) (g.F.Flash.device (flash_in c.self.inside.other)) (g.F.Flash.device c.self.inside.board.nv) (latches_by c.self.inside.bank false (latch_in c.self.inside.other)) c.self.inside.board (rw (← c.self.view_is) at c.requires.on) in
    let same = ap g.F.Flash.device c.flash.ensures.value in
    elim c.match-capsule_at.branch [
      | in-Ok w ↦ rw (w.result-is, ← c.self.view_is) (mine_read c.self.inside.bank (g.F.Flash.device c.self.inside.held.flash) (g.F.Flash.device c.capsule_at.new.flash) (g.F.Flash.device (flash_in c.self.inside.other)) (g.F.Flash.device c.self.inside.board.nv) (latches_by c.self.inside.bank false (latch_in c.self.inside.other)) c.self.inside.board on (lent None None (g.F.Flash.device c.flash.result.now) (g.F.Flash.device c.self.inside.held.flash) (g.F.Flash.device c.capsule_at.new.flash) refl same w.in-Ok.ensures.ends))
      | in-Err+in-Some w ↦
          rw (w.result-is, w.device_of.ensures, ← c.self.view_is) (mine_unread c.self.inside.bank (g.F.Flash.device c.self.inside.held.flash) (g.F.Flash.device c.capsule_at.new.flash) (g.F.Flash.device (flash_in c.self.inside.other)) (g.F.Flash.device c.self.inside.board.nv) (latches_by c.self.inside.bank false (latch_in c.self.inside.other)) c.self.inside.board on w.in-Some.fail
          (lent _ (Some w.in-Some.fail) (g.F.Flash.device c.flash.result.now) (g.F.Flash.device c.self.inside.held.flash) (g.F.Flash.device c.capsule_at.new.flash) (sym w.failure.ensures ∙ w.in-Some.is) same w.in-Err.ensures.ends))
      | in-Err+in-None w ↦
          rw (w.result-is, ← c.self.view_is) (mine_read c.self.inside.bank (g.F.Flash.device c.self.inside.held.flash) (g.F.Flash.device c.capsule_at.new.flash) (g.F.Flash.device (flash_in c.self.inside.other)) (g.F.Flash.device c.self.inside.board.nv) (latches_by c.self.inside.bank false (latch_in c.self.inside.other)) c.self.inside.board on (lent _ None (g.F.Flash.device c.flash.result.now) (g.F.Flash.device c.self.inside.held.flash) (g.F.Flash.device c.capsule_at.new.flash) (sym w.failure.ensures ∙ w.in-None.is) same w.in-Err.ensures.ends))
    ]

pub returns-clause-can : goal.returns-clause-can
returns-clause-can g c =
    let laid = c.layout-layout.ensures ∙ ap (λ (slot : RootSlot). layout_of slot c.self.inside.bank) c.provision.ensures in
    elim c.match-capsule_at.branch [
      | in-Ok w ↦ rw (w.result-is, ← c.self.view_is) (capsule_left c.self.inside.bank c.self.inside.held.bank (sits_in c.self.inside.other) (g.F.Flash.device c.self.inside.held.flash) (g.F.Flash.device c.flash.result.now) (g.F.Flash.device c.capsule_at.new.flash) (g.F.Flash.device (flash_in c.self.inside.other)) (g.F.Flash.device c.self.inside.board.nv) (latches_by c.self.inside.bank false (latch_in c.self.inside.other)) c.self.inside.board c.layout-layout.result.now c.args.fuses.now
          (g.E.Engine.accepts c.args.engine.now) c.args.area w.in-Ok.capsule c.self.invariant (rw (← c.self.view_is) at c.requires.valid) (ap g.F.Flash.device c.flash.ensures.value) laid
          w.in-Ok.ensures.ends w.in-Ok.ensures.exact w.in-Ok.ensures.pages w.in-Ok.ensures.regions w.in-Ok.ensures.lies)
      | in-Err+in-Some w ↦ rw w.result-is tt
      | in-Err+in-None w ↦ rw w.result-is tt
    ]

pub invariant_of-self : goal.invariant_of-self
invariant_of-self g c =
    desk_worked c.self.inside.bank c.self.inside.held.bank c.self.inside.held.bank (sits_in c.self.inside.other) (g.F.Flash.device c.self.inside.held.flash) (g.F.Flash.device c.capsule_at.new.flash) (g.F.Flash.device (flash_in c.self.inside.other)) (g.F.Flash.device c.self.inside.board.nv) (latches_by c.self.inside.bank false (latch_in c.self.inside.other)) c.self.inside.board refl
    (read_size _ (g.F.Flash.device c.flash.result.now) (g.F.Flash.device c.capsule_at.new.flash) c.capsule_at.ensures.ends ∙ ap (λ flash. size_of (g.F.Flash.device flash)) c.flash.ensures.value) c.self.invariant

pub returns-clause-can_copy : goal.returns-clause-can_copy
returns-clause-can_copy g c staged =
    let laid = c.layout-layout.ensures ∙ ap (λ (slot : RootSlot). layout_of slot c.self.inside.bank) c.provision.ensures in
    elim c.match-capsule_at.branch [
      | in-Ok w ↦ rw (w.result-is, ← c.self.view_is) (capsule_staged c.self.inside.bank (g.F.Flash.device c.self.inside.held.flash) (g.F.Flash.device c.flash.result.now) (g.F.Flash.device c.capsule_at.new.flash) (g.F.Flash.device (flash_in c.self.inside.other)) (g.F.Flash.device c.self.inside.board.nv) (latches_by c.self.inside.bank false (latch_in c.self.inside.other)) c.self.inside.board c.layout-layout.result.now c.args.fuses.now
          c.args.area w.in-Ok.capsule (rw (← c.self.view_is) at c.requires.valid) (ap g.F.Flash.device c.flash.ensures.value) laid w.in-Ok.ensures.ends w.in-Ok.ensures.lies staged)
      | in-Err+in-Some w ↦ rw w.result-is tt
      | in-Err+in-None w ↦ rw w.result-is tt
    ]

pub returns-clause-svn : goal.returns-clause-svn
returns-clause-svn g c =
    elim c.match-capsule_at.branch [
      | in-Ok w ↦ rw w.result-is (judged_svn c.args.area c.self.inside.bank (now (g.F.Flash.device c.flash.result.now)) c.args.fuses.now (g.E.Engine.accepts c.args.engine.now) w.in-Ok.capsule
          (now_bytes (g.F.Flash.device c.flash.result.now) (g.met.F.Flash.holds_bytes c.flash.result.now)) w.in-Ok.ensures.exact)
      | in-Err+in-Some w ↦ rw w.result-is tt
      | in-Err+in-None w ↦ rw w.result-is tt
    ]

pub returns-clause-store : goal.returns-clause-store
returns-clause-store g c =
    rw (← c.self.view_is) (state_store c.self.inside.bank (g.F.Flash.device c.capsule_at.new.flash) (g.F.Flash.device (flash_in c.self.inside.other)) (g.F.Flash.device c.self.inside.board.nv) (latches_by c.self.inside.bank false (latch_in c.self.inside.other)) c.self.inside.board
    ∙ sym (state_store c.self.inside.bank (g.F.Flash.device c.self.inside.held.flash) (g.F.Flash.device (flash_in c.self.inside.other)) (g.F.Flash.device c.self.inside.board.nv) (latches_by c.self.inside.bank false (latch_in c.self.inside.other)) c.self.inside.board))

pub returns-clause-image : goal.returns-clause-image
returns-clause-image g c =
    rw (← c.self.view_is) (ap now (state_mine c.self.inside.bank (g.F.Flash.device c.capsule_at.new.flash) (g.F.Flash.device (flash_in c.self.inside.other)) (g.F.Flash.device c.self.inside.board.nv) (latches_by c.self.inside.bank false (latch_in c.self.inside.other)) c.self.inside.board)
    ∙ ends_content c.capsule_at.ensures.ends
    ∙ ap (λ flash. now (g.F.Flash.device flash)) c.flash.ensures.value
    ∙ ap now (sym (state_mine c.self.inside.bank (g.F.Flash.device c.self.inside.held.flash) (g.F.Flash.device (flash_in c.self.inside.other)) (g.F.Flash.device c.self.inside.board.nv) (latches_by c.self.inside.bank false (latch_in c.self.inside.other)) c.self.inside.board)))
