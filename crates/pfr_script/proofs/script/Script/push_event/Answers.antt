use Rattle.std.proofs.Common.{refl}
use Rattle.pfr_script.proofs.GrowLemmas.{event_grown}
use Rattle.pfr_script.proofs.script.Script.push_event.Goals as goal

pub invariant_of-self : goal.invariant_of-self
invariant_of-self c = rw c.in_err-push.ensures.err c.self.invariant

pub invariant_of-self-2 : goal.invariant_of-self-2
invariant_of-self-2 c = event_grown c.self.inside _ c.args.event c.self.invariant c.known.ensures (rw (← c.self.view_is) at c.requires) c.in_ok-push.ensures.ok refl refl
