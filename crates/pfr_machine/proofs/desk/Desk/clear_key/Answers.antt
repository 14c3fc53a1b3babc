use Rattle.std.proofs.Common.{false, Ok, Err}
use Rattle.pfr_cert.specs.Applying.{judge_apply}
use Rattle.pfr_story.specs.UpdatePlans.{standing_capsule}
use Rattle.pfr_machine.specs.Worlds.{flash_in, latch_in, latches_by}
use Rattle.pfr_machine.proofs.DeskLemmas.{awake_store}
use Rattle.pfr_machine.proofs.ClearLemmas.{cleared_goes}
use Rattle.pfr_machine.proofs.desk.Desk.clear_key.Goals.{in-Ok, in-Err}
use Rattle.pfr_machine.proofs.desk.Desk.clear_key.Goals as goal

pub returns-clause-goes : goal.returns-clause-goes
returns-clause-goes g c =
    let on = awake_store c.self.inside.bank (g.F.Flash.device c.self.inside.held.flash) (g.F.Flash.device (flash_in c.self.inside.other)) (g.F.Flash.device c.self.inside.board.nv) (latches_by c.self.inside.bank false (latch_in c.self.inside.other)) c.self.inside.board (rw (← c.self.view_is) at c.requires.on) in
    let judged = judge_apply c.args.fuses.now c.args.cert.now (standing_capsule c.args.found.now) in
    let goes = cleared_goes c.self.inside.bank (g.F.Flash.device c.self.inside.held.flash) (g.F.Flash.device (flash_in c.self.inside.other)) (g.F.Flash.device c.self.inside.board.nv) (g.F.Flash.device c.clear_key.new.nv) (latches_by c.self.inside.bank false (latch_in c.self.inside.other)) c.self.inside.board c.clear_key.new.nv on c.args.cert.now judged in
    elim c.match-clear_key.branch [
      | in-Ok w ↦ rw (w.result-is, ← c.self.view_is) (goes (Ok w.in-Ok.done) w.in-Ok.ensures.clears)
      | in-Err w ↦ rw (w.result-is, w.store_stop.ensures, ← c.self.view_is) (goes (Err w.in-Err.fail) w.in-Err.ensures.clears)
    ]
