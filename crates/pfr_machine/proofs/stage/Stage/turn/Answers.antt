use Rattle.std.proofs.Common.{◌≤◌, subst, sym}
use Rattle.pfr_story.specs.World.{World}
use Rattle.pfr_machine.specs.Stages.{world_in}
use Rattle.pfr_machine.specs.Turning.{RestsSo, TurnsSo}
use Rattle.pfr_machine.proofs.QuietLemmas.{was_done, was_left}
use Rattle.pfr_machine.proofs.stage.Stage.turn.Goals as goal

pub turn_over-requires-clause-room : goal.turn_over-requires-clause-room
turn_over-requires-clause-room g c = subst (λ (w : World). 64 ≤ w.notes.spare) (sym (was_left c.pass_by.result (g.E.Engine.accepts c.args.engine.now) c.args.event.now _ _ c.if-not-pass_by.true (c.pass_by.ensures.turns _))) c.requires.room

pub turn_over-requires-clause-rests : goal.turn_over-requires-clause-rests
turn_over-requires-clause-rests g c = subst (λ (w : World). RestsSo (g.E.Engine.accepts c.args.engine.now) w) (sym (was_left c.pass_by.result (g.E.Engine.accepts c.args.engine.now) c.args.event.now _ _ c.if-not-pass_by.true (c.pass_by.ensures.turns _))) c.requires.rests

pub returns-then-not-pass_by-clause-turns : goal.returns-then-not-pass_by-clause-turns
returns-then-not-pass_by-clause-turns g c =
    subst (λ (w : World). TurnsSo (g.E.Engine.accepts c.args.engine.now) c.args.event.now w (world_in c.turn_over.new.self)) (was_left c.pass_by.result (g.E.Engine.accepts c.args.engine.now) c.args.event.now _ _ c.if-not-pass_by.true (c.pass_by.ensures.turns _)) c.turn_over.ensures.turns

pub returns-else-not-pass_by-clause-turns : goal.returns-else-not-pass_by-clause-turns
returns-else-not-pass_by-clause-turns g c =
    was_done c.pass_by.result (g.E.Engine.accepts c.args.engine.now) c.args.event.now _ _ c.if-not-pass_by.false (c.pass_by.ensures.turns _)
