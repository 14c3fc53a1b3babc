use Rattle.std.proofs.Common.{subst}
use Rattle.pfr_flash.specs.declared.names.Bank.{Bank}
use Rattle.pfr_story.specs.Spans.{ReleasedSpans}
use Rattle.pfr_story.specs.World.{story_of}
use Rattle.pfr_story.proofs.Bytes.{have_bytes}
use Rattle.pfr_story.proofs.EventLaws.{Turn-dark}
use Rattle.pfr_story.proofs.LossLaws.{Turn-lost}
use Rattle.pfr_story.proofs.PromiseLaws.{Turn-promises}
use Rattle.pfr_story.proofs.Turns.{Turn-calm}
use Rattle.pfr_machine.proofs.TurnLemmas.{by_both, by_turn, sizes_before}
use Rattle.pfr_machine.proofs.platform.Platform.step.Goals as goal

pub returns-clause-calm : goal.returns-clause-calm
returns-clause-calm g c = by_turn c.work-done.result c.work-done.ensures.turn (λ t. λ lost rose. Turn-calm _ c.args.event.now _ _ t lost rose)

pub returns-clause-promises : goal.returns-clause-promises
returns-clause-promises g c = by_both c.work-done.result c.work-done.ensures.turn c.work-done.ensures.spelled (λ t slot. let s = sizes_before _ c.args.event.now _ _ t c.known-2.ensures.sizes in Turn-promises _ c.args.event.now _ _ t (have_bytes _ c.known-2.ensures.bytes) s.bmc s.pch s.nv c.known.ensures.spans slot)

pub returns-clause-spans : goal.returns-clause-spans
returns-clause-spans g c = by_turn c.work-done.result c.work-done.ensures.turn (λ t. subst (λ engine. (which : Bank) → ReleasedSpans (g.E.Engine.accepts engine) which (story_of c.work-done.new.self.world)) c.work-done.ensures.engine (λ which. (c.known-2.ensures.spans which).spans))

pub returns-clause-dark : goal.returns-clause-dark
returns-clause-dark g c = by_both c.work-done.result c.work-done.ensures.turn c.work-done.ensures.dark (λ t dark. Turn-dark _ c.args.event.now _ _ t (Turn-lost _ c.args.event.now _ _ t) dark)
