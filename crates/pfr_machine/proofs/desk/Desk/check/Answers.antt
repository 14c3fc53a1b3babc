use Rattle.std.proofs.Common.{◌≡◌, ◌∙◌, ap, false, sym, subst, Option, Some, None, Ok}
use Rattle.pfr_flash.specs.FlashState.{FlashState, now}
use Rattle.pfr_flash.specs.declared.flash.FlashFail.{FlashFail}
use Rattle.pfr_flash.specs.Reading.{EndsAt}
use Rattle.pfr_fuses.specs.FusesOf.{fuses_of}
use Rattle.pfr_fuses.specs.RootSlot.{layout_of}
use Rattle.pfr_fuses.specs.declared.root_slot.RootSlot.{RootSlot}
use Rattle.pfr_machine.specs.Worlds.{flash_in, latch_in, latches_by, sits_in}
use Rattle.pfr_machine.proofs.DeskLemmas.{awake_mine, awake_store, desk_worked, mine_unread, read_on, read_size, state_store, stays_here}
use Rattle.pfr_machine.proofs.CheckLemmas.{distrusts, releases}
use Rattle.pfr_machine.proofs.desk.Desk.check.Goals as goal

pub release-requires-clause-desk : goal.release-requires-clause-desk
release-requires-clause-desk g c =
    desk_worked c.self.inside.bank c.self.inside.held.bank c.in-Ok.checked.bank (sits_in c.self.inside.other) (g.F.Flash.device c.self.inside.held.flash) (g.F.Flash.device c.in-Ok.checked.flash) (g.F.Flash.device (flash_in c.self.inside.other)) (g.F.Flash.device c.self.inside.board.nv) (latches_by c.self.inside.bank false (latch_in c.self.inside.other)) c.self.inside.board c.in-Ok.ensures.bank (read_size None (g.F.Flash.device c.self.inside.held.flash) (g.F.Flash.device c.in-Ok.checked.flash) c.in-Ok.ensures.ends) c.self.invariant

pub returns-in-Ok : goal.returns-in-Ok
returns-in-Ok g c = record {
  checks = rw (← c.self.view_is) (releases g.F.Flash.device (g.E.Engine.accepts c.args.engine.now) c.args.fuses.now c.self.inside.bank c.self.inside.held.bank (sits_in c.self.inside.other) (g.F.Flash.device c.self.inside.held.flash) (g.F.Flash.device c.in-Ok.checked.flash) (g.F.Flash.device (flash_in c.self.inside.other)) (latch_in c.self.inside.other) c.self.inside.board c.self.invariant
      (awake_mine c.self.inside.bank (g.F.Flash.device c.self.inside.held.flash) (g.F.Flash.device (flash_in c.self.inside.other)) (g.F.Flash.device c.self.inside.board.nv) (latches_by c.self.inside.bank false (latch_in c.self.inside.other)) c.self.inside.board (rw (← c.self.view_is) at c.requires.on)) (awake_store c.self.inside.bank (g.F.Flash.device c.self.inside.held.flash) (g.F.Flash.device (flash_in c.self.inside.other)) (g.F.Flash.device c.self.inside.board.nv) (latches_by c.self.inside.bank false (latch_in c.self.inside.other)) c.self.inside.board (rw (← c.self.view_is) at c.requires.on)) (rw (← c.self.view_is) at c.requires.room) c.in-Ok.checked.manifest c.counts-counts.result c.release.result
      c.in-Ok.ensures.ends c.in-Ok.ensures.exact (rw (← c.self.view_is) at c.counts-counts.ensures) c.release.ensures);
}

pub returns-in-Some : goal.returns-in-Some
returns-in-Some g c =
    let told = sym c.failure.ensures ∙ c.in-Some.is in
    let ends = subst (λ (f : Option FlashFail). EndsAt f (g.F.Flash.device c.self.inside.held.flash) (g.F.Flash.device c.in-Err.field-0.held.flash)) told c.in-Err.ensures.ends in
    record {
      checks = rw (c.device_of.ensures, ← c.self.view_is) (record {
        stopped = mine_unread c.self.inside.bank (g.F.Flash.device c.self.inside.held.flash) (g.F.Flash.device c.in-Err.field-0.held.flash) (g.F.Flash.device (flash_in c.self.inside.other)) (g.F.Flash.device c.self.inside.board.nv) (latches_by c.self.inside.bank false (latch_in c.self.inside.other)) c.self.inside.board (awake_mine c.self.inside.bank (g.F.Flash.device c.self.inside.held.flash) (g.F.Flash.device (flash_in c.self.inside.other)) (g.F.Flash.device c.self.inside.board.nv) (latches_by c.self.inside.bank false (latch_in c.self.inside.other)) c.self.inside.board (rw (← c.self.view_is) at c.requires.on)) c.in-Some.fail ends;
        stays = stays_here c.self.inside.bank _ (g.F.Flash.device c.self.inside.held.flash) (g.F.Flash.device c.in-Err.field-0.held.flash) (g.F.Flash.device (flash_in c.self.inside.other)) (g.F.Flash.device c.self.inside.board.nv) (latches_by c.self.inside.bank false (latch_in c.self.inside.other)) c.self.inside.board _ (read_on (Some c.in-Some.fail) (g.F.Flash.device c.self.inside.held.flash) (g.F.Flash.device c.in-Err.field-0.held.flash) ends (awake_mine c.self.inside.bank (g.F.Flash.device c.self.inside.held.flash) (g.F.Flash.device (flash_in c.self.inside.other)) (g.F.Flash.device c.self.inside.board.nv) (latches_by c.self.inside.bank false (latch_in c.self.inside.other)) c.self.inside.board (rw (← c.self.view_is) at c.requires.on))) (awake_store c.self.inside.bank (g.F.Flash.device c.self.inside.held.flash) (g.F.Flash.device (flash_in c.self.inside.other)) (g.F.Flash.device c.self.inside.board.nv) (latches_by c.self.inside.bank false (latch_in c.self.inside.other)) c.self.inside.board (rw (← c.self.view_is) at c.requires.on));
      });
    }

pub returns-in-None : goal.returns-in-None
returns-in-None g c =
    let told = sym c.failure.ensures ∙ c.in-None.is in
    record {
      checks = rw (← c.self.view_is) (distrusts (g.E.Engine.accepts c.args.engine.now) c.args.fuses.now c.self.inside.bank c.self.inside.held.bank (sits_in c.self.inside.other) (g.F.Flash.device c.self.inside.held.flash) (g.F.Flash.device c.in-Err.field-0.held.flash) (g.F.Flash.device (flash_in c.self.inside.other)) (g.F.Flash.device c.self.inside.board.nv) (latches_by c.self.inside.bank false (latch_in c.self.inside.other)) c.self.inside.board c.self.invariant
          (awake_mine c.self.inside.bank (g.F.Flash.device c.self.inside.held.flash) (g.F.Flash.device (flash_in c.self.inside.other)) (g.F.Flash.device c.self.inside.board.nv) (latches_by c.self.inside.bank false (latch_in c.self.inside.other)) c.self.inside.board (rw (← c.self.view_is) at c.requires.on)) (awake_store c.self.inside.bank (g.F.Flash.device c.self.inside.held.flash) (g.F.Flash.device (flash_in c.self.inside.other)) (g.F.Flash.device c.self.inside.board.nv) (latches_by c.self.inside.bank false (latch_in c.self.inside.other)) c.self.inside.board (rw (← c.self.view_is) at c.requires.on)) c.in-Err.field-0.why told c.in-Err.ensures.ends c.in-Err.ensures.exact);
    }

pub invariant_of-desk : goal.invariant_of-desk
invariant_of-desk g c =
    desk_worked c.self.inside.bank c.self.inside.held.bank c.in-Err.field-0.held.bank (sits_in c.self.inside.other) (g.F.Flash.device c.self.inside.held.flash) (g.F.Flash.device c.in-Err.field-0.held.flash) (g.F.Flash.device (flash_in c.self.inside.other)) (g.F.Flash.device c.self.inside.board.nv) (latches_by c.self.inside.bank false (latch_in c.self.inside.other)) c.self.inside.board c.in-Err.ensures.bank (read_size _ (g.F.Flash.device c.self.inside.held.flash) (g.F.Flash.device c.in-Err.field-0.held.flash) c.in-Err.ensures.ends) c.self.invariant

pub invariant_of-desk-in-None : goal.invariant_of-desk-in-None
invariant_of-desk-in-None g c =
    desk_worked c.self.inside.bank c.self.inside.held.bank c.in-Err.field-0.held.bank (sits_in c.self.inside.other) (g.F.Flash.device c.self.inside.held.flash) (g.F.Flash.device c.in-Err.field-0.held.flash) (g.F.Flash.device (flash_in c.self.inside.other)) (g.F.Flash.device c.self.inside.board.nv) (latches_by c.self.inside.bank false (latch_in c.self.inside.other)) c.self.inside.board c.in-Err.ensures.bank (read_size _ (g.F.Flash.device c.self.inside.held.flash) (g.F.Flash.device c.in-Err.field-0.held.flash) c.in-Err.ensures.ends) c.self.invariant

pub release-requires-clause-laid : goal.release-requires-clause-laid
release-requires-clause-laid g c =
    let store = state_store c.self.inside.bank (g.F.Flash.device c.self.inside.held.flash) (g.F.Flash.device (flash_in c.self.inside.other)) (g.F.Flash.device c.self.inside.board.nv) (latches_by c.self.inside.bank false (latch_in c.self.inside.other)) c.self.inside.board in
    record {
      fuses = c.args.fuses.now;
      provisioned = subst (λ (d : FlashState). fuses_of (now d) ≡ Ok c.args.fuses.now) store (rw (← c.self.view_is) at c.requires.found);
      same = sym (c.in-Ok.ensures.layout ∙ (c.layout-layout.ensures ∙ ap (λ (slot : RootSlot). layout_of slot c.self.inside.bank) c.provision.ensures));
    }
