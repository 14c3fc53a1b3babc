use Rattle.std.proofs.Common.{◌∙◌, ap, false, sym, length, List, ℕ, Ok, Err}
use Rattle.pfr_flash.specs.declared.names.Bank.{Bank}
use Rattle.pfr_jobs.specs.LogPlans.{finish_plan}
use Rattle.pfr_jobs.specs.LogState.{LogState}
use Rattle.pfr_machine.specs.Worlds.{DeskState, flash_in, latch_in, latches_by, sits_in}
use Rattle.pfr_machine.proofs.DeskLemmas.{awake_store}
use Rattle.pfr_machine.proofs.LogLemmas.{fuses_keep}
use Rattle.pfr_machine.proofs.StoredLemmas.{stored_called, stored_desk}
use Rattle.pfr_machine.proofs.desk.Desk.finish_job.Goals.{in-Ok, in-Err}
use Rattle.pfr_machine.proofs.desk.Desk.finish_job.Goals as goal

pub invariant_of-self : goal.invariant_of-self
invariant_of-self g c =
    stored_desk c.self.inside.bank c.self.inside.held.bank (sits_in c.self.inside.other) (g.F.Flash.device c.self.inside.held.flash) (g.F.Flash.device (flash_in c.self.inside.other)) (g.F.Flash.device c.self.inside.board.nv) (g.F.Flash.device c.finish.new.nv) (latches_by c.self.inside.bank false (latch_in c.self.inside.other)) c.self.inside.board c.finish.new.nv
    (ap (λ (bytes : List ℕ). length bytes) c.finish.ensures.follows.worked.moved.start) (fuses_keep _ _ c.finish.ensures.fuses) c.self.invariant

pub returns-clause-goes : goal.returns-clause-goes
returns-clause-goes g c =
    let on = awake_store c.self.inside.bank (g.F.Flash.device c.self.inside.held.flash) (g.F.Flash.device (flash_in c.self.inside.other)) (g.F.Flash.device c.self.inside.board.nv) (latches_by c.self.inside.bank false (latch_in c.self.inside.other)) c.self.inside.board (rw (← c.self.view_is) at c.requires.at_job.on) in
    let own = ap (λ (l : LogState). l.bank) c.requires.at_job.stands ∙ sym (ap (λ (d : DeskState). d.bank) c.self.view_is) in
    let goes = stored_called c.self.inside.bank (g.F.Flash.device c.self.inside.held.flash) (g.F.Flash.device (flash_in c.self.inside.other)) (g.F.Flash.device c.self.inside.board.nv) (g.F.Flash.device c.finish.new.nv) (latches_by c.self.inside.bank false (latch_in c.self.inside.other)) c.self.inside.board c.finish.new.nv on (λ (image : List ℕ) (b : Bank). finish_plan image b) c.args.log.now.bank in
    elim c.match-finish.branch [
      | in-Ok w ↦ rw (w.result-is, ← c.self.view_is) (goes (Ok tt) own w.in-Ok.ensures.follows)
      | in-Err w ↦ rw (w.result-is, w.store_stop.ensures, ← c.self.view_is) (goes (Err w.in-Err.fail) own w.in-Err.ensures.follows)
    ]
