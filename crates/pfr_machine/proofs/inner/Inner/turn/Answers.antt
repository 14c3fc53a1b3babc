use Rattle.std.proofs.Common.{◌∙◌, inl, inr, sym}
use Rattle.pfr_machine.proofs.TurnLemmas.{at_idle, at_taken, idle_known, not_both}
use Rattle.pfr_machine.proofs.inner.Inner.turn.Goals as goal

pub returns-then-is_idle-clause-follows : goal.returns-then-is_idle-clause-follows
returns-then-is_idle-clause-follows g c = at_idle (g.E.Engine.accepts c.args.engine.now) c.args.event.now c.is_idle.result _ _ c.is_idle.ensures c.if-is_idle.true c.ignore.ensures.follows

pub returns-then-is_idle-clause-dark : goal.returns-then-is_idle-clause-dark
returns-then-is_idle-clause-dark g c = λ taken. absurd (not_both (sym c.is_idle.ensures ∙ c.if-is_idle.true) taken)

pub returns-then-is_idle-clause-spelled : goal.returns-then-is_idle-clause-spelled
returns-then-is_idle-clause-spelled g c = λ some. idle_known c.args.event.now c.args.self (sym c.is_idle.ensures ∙ c.if-is_idle.true) some

pub returns-else-is_idle-clause-untouched : goal.returns-else-is_idle-clause-untouched
returns-else-is_idle-clause-untouched g c = λ calm. elim calm [
  | inl idle ↦ absurd (not_both idle (sym c.is_idle.ensures ∙ c.if-is_idle.false))
  | inr uneventful ↦ c.take.ensures.untouched uneventful
]

pub returns-else-is_idle-clause-follows : goal.returns-else-is_idle-clause-follows
returns-else-is_idle-clause-follows g c = at_taken (g.E.Engine.accepts c.args.engine.now) c.args.event.now c.is_idle.result _ _ c.is_idle.ensures c.if-is_idle.false c.take.ensures.follows
