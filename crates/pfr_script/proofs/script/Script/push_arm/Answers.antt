use Rattle.std.proofs.Common.{◌≡◌, ◌∙◌, length, refl, ap}
use Rattle.pfr_script.specs.Growing.{tear_number, with_tear}
use Rattle.pfr_script.proofs.GrowLemmas.{same_script, arm_grown}
use Rattle.pfr_script.proofs.script.Script.push_arm.Goals as goal

pub invariant_of-self-in_err-push : goal.invariant_of-self-in_err-push
invariant_of-self-in_err-push c = same_script c.self.inside _ c.self.invariant c.in_err-push.ensures.err c.reserve.ensures.same refl

pub invariant_of-self-2 : goal.invariant_of-self-2
invariant_of-self-2 c =
    let number : c.tear_number-number.result ≡ tear_number (length c.self.inside.tears.items) c.args.tear =
    c.tear_number-number.ensures ∙ ap (λ n. tear_number n c.args.tear) (ap length (c.deref.ensures.value ∙ c.reserve.ensures.same)) in
    let tears = c.keep.ensures ∙ ap (λ ts. with_tear ts c.args.tear) c.reserve.ensures.same in
    arm_grown c.self.inside _ c.args.device c.args.what c.args.nth c.args.tear c.self.invariant (rw (← c.self.view_is) at c.requires.few) c.requires.nth (rw (← c.self.view_is) at c.requires.arms) (rw number at c.in_ok-push.ensures.ok) tears c.add.ensures
