use Rattle.std.proofs.Common.{◌∙◌, ap, false, Ok, Err}
use Rattle.pfr_fuses.specs.RootSlot.{layout_of}
use Rattle.pfr_fuses.specs.declared.root_slot.RootSlot.{RootSlot}
use Rattle.pfr_copy.specs.Marking.{recovery_deeds}
use Rattle.pfr_machine.specs.Worlds.{flash_in, latch_in, latches_by, line_in, sits_in}
use Rattle.pfr_machine.proofs.PassingLemmas.{desk_knows, passed_desk, passed_goes, passed_stays, world_fuses}
use Rattle.pfr_machine.proofs.desk.Desk.copy_with.Goals.{in-Ok, in-Err}
use Rattle.pfr_machine.proofs.desk.Desk.copy_with.Goals as goal

pub copy_recovery-requires-clause-log : goal.copy_recovery-requires-clause-log
copy_recovery-requires-clause-log g c =
    desk_knows c.self.inside.bank (g.F.Flash.device c.self.inside.held.flash) (g.F.Flash.device c.self.inside.held.flash) (g.F.Flash.device (flash_in c.self.inside.other)) (g.F.Flash.device c.self.inside.board.nv) (g.F.Flash.device c.self.inside.board.nv) (latches_by c.self.inside.bank false (latch_in c.self.inside.other)) c.self.inside.board c.self.inside.board.nv c.args.marks c.self.inside.held.bank (sits_in c.self.inside.other) c.args.log.now
    c.self.invariant (rw (← c.self.view_is) at c.requires.log)

pub invariant_of-self : goal.invariant_of-self
invariant_of-self g c =
    passed_desk c.self.inside.bank (g.F.Flash.device c.self.inside.held.flash) (g.F.Flash.device c.copy_recovery.new.held.flash) (g.F.Flash.device (flash_in c.self.inside.other)) (g.F.Flash.device c.self.inside.board.nv) (g.F.Flash.device c.copy_recovery.new.nv) (latches_by c.self.inside.bank false (latch_in c.self.inside.other)) c.self.inside.board c.copy_recovery.new.nv c.self.inside.held.bank c.copy_recovery.new.held.bank c.self.inside.held.bank (sits_in c.self.inside.other) _ c.copy_recovery.result c.copy_recovery.ensures.bank
    c.copy_recovery.ensures.passes c.copy_recovery.ensures.logged c.self.invariant

pub returns-clause-goes : goal.returns-clause-goes
returns-clause-goes g c =
    let awake = rw (← c.self.view_is) at c.requires.on in
    let laid = c.layout-layout.ensures ∙ ap (λ (slot : RootSlot). layout_of slot c.self.inside.bank) c.provision.ensures in
    let goes = passed_goes c.self.inside.bank (g.F.Flash.device c.self.inside.held.flash) (g.F.Flash.device c.copy_recovery.new.held.flash) (g.F.Flash.device (flash_in c.self.inside.other)) (g.F.Flash.device c.self.inside.board.nv) (g.F.Flash.device c.copy_recovery.new.nv) (latches_by c.self.inside.bank false (latch_in c.self.inside.other)) c.self.inside.board c.copy_recovery.new.nv (λ owner layout image nv. recovery_deeds c.args.marks owner image nv c.args.capsule.now layout) c.self.inside.held.bank c.layout-layout.result.now (layout_of c.args.fuses.now.provision c.self.inside.bank) in
    elim c.match-copy_recovery.branch [
      | in-Ok w ↦ rw (w.result-is, ← c.self.view_is) (goes (Ok tt) c.self.invariant.owner laid awake w.in-Ok.ensures.passes)
      | in-Err w ↦ rw (w.result-is, w.pass_stop.ensures, ← c.self.view_is) (goes (Err w.in-Err.fail) c.self.invariant.owner laid awake w.in-Err.ensures.passes)
    ]

pub returns-clause-fuses : goal.returns-clause-fuses
returns-clause-fuses g c =
    rw (← c.self.view_is) (world_fuses c.self.inside.bank (g.F.Flash.device c.self.inside.held.flash) (g.F.Flash.device c.copy_recovery.new.held.flash) (g.F.Flash.device (flash_in c.self.inside.other)) (g.F.Flash.device c.self.inside.board.nv) (g.F.Flash.device c.copy_recovery.new.nv) (latches_by c.self.inside.bank false (latch_in c.self.inside.other)) c.self.inside.board c.copy_recovery.new.nv c.self.inside.held.bank c.self.inside.held.bank (sits_in c.self.inside.other) _ c.copy_recovery.result c.self.invariant
    c.copy_recovery.ensures.passes c.copy_recovery.ensures.logged)

pub returns-clause-stays : goal.returns-clause-stays
returns-clause-stays g c =
    let awake = rw (← c.self.view_is) at c.requires.on in
    elim c.match-copy_recovery.branch [
      | in-Ok w ↦ rw (w.result-is, ← c.self.view_is) (passed_stays c.self.inside.bank (g.F.Flash.device c.self.inside.held.flash) (g.F.Flash.device c.copy_recovery.new.held.flash) (g.F.Flash.device (flash_in c.self.inside.other)) (g.F.Flash.device c.self.inside.board.nv) (g.F.Flash.device c.copy_recovery.new.nv) (latches_by c.self.inside.bank false (latch_in c.self.inside.other)) c.self.inside.board c.copy_recovery.new.nv (line_in c.self.inside.other) awake _ (Ok tt) w.in-Ok.ensures.passes)
      | in-Err w ↦ rw (w.result-is, w.pass_stop.ensures, ← c.self.view_is) (passed_stays c.self.inside.bank (g.F.Flash.device c.self.inside.held.flash) (g.F.Flash.device c.copy_recovery.new.held.flash) (g.F.Flash.device (flash_in c.self.inside.other)) (g.F.Flash.device c.self.inside.board.nv) (g.F.Flash.device c.copy_recovery.new.nv) (latches_by c.self.inside.bank false (latch_in c.self.inside.other)) c.self.inside.board c.copy_recovery.new.nv (line_in c.self.inside.other) awake _ (Err w.in-Err.fail) w.in-Err.ensures.passes)
    ]
