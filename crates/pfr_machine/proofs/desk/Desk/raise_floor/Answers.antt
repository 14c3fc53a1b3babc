use Rattle.std.proofs.Common.{false, refl, List, ℕ, Ok, Err}
use Rattle.pfr_flash.specs.declared.names.Bank.{Bank}
use Rattle.pfr_fuses.specs.Changes.{raise_plan}
use Rattle.pfr_fuses.specs.FusesState.{floor_of}
use Rattle.pfr_machine.specs.Worlds.{flash_in, latch_in, latches_by}
use Rattle.pfr_machine.proofs.DeskLemmas.{awake_store}
use Rattle.pfr_machine.proofs.StoredLemmas.{stored_called}
use Rattle.pfr_machine.proofs.desk.Desk.raise_floor.Goals.{in-Ok, in-Err}
use Rattle.pfr_machine.proofs.desk.Desk.raise_floor.Goals as goal

pub returns-clause-goes : goal.returns-clause-goes
returns-clause-goes g c =
    let on = awake_store c.self.inside.bank (g.F.Flash.device c.self.inside.held.flash) (g.F.Flash.device (flash_in c.self.inside.other)) (g.F.Flash.device c.self.inside.board.nv) (latches_by c.self.inside.bank false (latch_in c.self.inside.other)) c.self.inside.board (rw (← c.self.view_is) at c.requires.on) in
    let goes = stored_called c.self.inside.bank (g.F.Flash.device c.self.inside.held.flash) (g.F.Flash.device (flash_in c.self.inside.other)) (g.F.Flash.device c.self.inside.board.nv) (g.F.Flash.device c.raise.new.nv) (latches_by c.self.inside.bank false (latch_in c.self.inside.other)) c.self.inside.board c.raise.new.nv on (λ (image : List ℕ) (b : Bank). raise_plan (floor_of c.args.fuses.now b) b c.args.svn) c.self.inside.bank in
    elim c.match-raise.branch [
      | in-Ok w ↦ rw (w.result-is, ← c.self.view_is) (goes (Ok tt) refl w.in-Ok.ensures.follows)
      | in-Err w ↦ rw (w.result-is, w.store_stop.ensures, ← c.self.view_is) (goes (Err w.in-Err.fail) refl w.in-Err.ensures.follows)
    ]
