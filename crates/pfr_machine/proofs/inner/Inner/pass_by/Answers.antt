use Rattle.std.proofs.Common.{◌≡◌, ◌∙◌, false, sym, subst}
use Rattle.pfr_script.specs.declared.event.Event.{Event}
use Rattle.pfr_story.specs.Turn.{is_idle}
use Rattle.pfr_story.specs.World.{story_of}
use Rattle.pfr_machine.proofs.QuietLemmas.{boot_turns, idle_turns, tick_turns}
use Rattle.pfr_machine.proofs.inner.Inner.pass_by.Goals as goal

pub returns-then-is_idle : goal.returns-then-is_idle
returns-then-is_idle g c = λ accepts. idle_turns accepts c.args.event.now c.is_idle.result _ _ c.is_idle.ensures c.if-is_idle.true c.ignore.ensures.follows c.ignore.ensures.leaves c.ignore.ensures.untouched

pub returns-in-Tick : goal.returns-in-Tick
returns-in-Tick g c = λ accepts. rw c.in-Tick.is
    (tick_turns accepts c.in-Tick.n c.tick_by.result _ _ c.tick_by.ensures.bmc c.tick_by.ensures.pch c.tick_by.ensures.clocked c.tick_by.ensures.left c.requires.whole)

pub returns-then-pass : goal.returns-then-pass
returns-then-pass g c = λ accepts.
    let active = subst (λ (e : Event). is_idle e (story_of c.args.self.now) ≡ false) c.in-Boot.is (sym c.is_idle.ensures ∙ c.if-is_idle.false) in
    rw c.in-Boot.is (boot_turns accepts c.in-Boot.bank c.in-Boot.pass _ _ c.if-pass.true active c.pass_stage.ensures.ran c.pass_stage.ensures.leaves c.pass_stage.ensures.some)
