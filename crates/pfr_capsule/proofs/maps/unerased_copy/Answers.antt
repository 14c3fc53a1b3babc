use Rattle.std.proofs.Common.{sym, ◌∙◌, arith, refl}
use Rattle.pfr_capsule.specs.Maps.{unerased_copy, least_below}
use Rattle.pfr_capsule.proofs.LeastLaws.{least_more, least_found, one_alone, no_first, has_second}
use Rattle.pfr_capsule.proofs.maps.unerased_copy.Goals as goal
use Rattle.pfr_capsule.proofs.maps.unerased_copy.Goals.{else-has_bit-via-then-has_bit+else-not-has_bit, else-has_bit-via-else-has_bit}

pub loop-n-init : goal.loop-n-init
unfolding unerased_copy least_below
loop-n-init c = refl

pub returns-then-not-has_bit : goal.returns-then-not-has_bit
unfolding unerased_copy
returns-then-not-has_bit c =
    sym (least_found _ c.loop-n.n c.args.bits (omega arith) c.loop-n.invariant
    (one_alone _ _ (sym c.has_bit.ensures ∙ c.if-has_bit.true) (sym c.has_bit-then-has_bit.ensures ∙ c.if-not-has_bit.true)))

pub loop-n-preserved : goal.loop-n-preserved
unfolding unerased_copy
loop-n-preserved c =
    elim c.else-has_bit.branch [
      | else-has_bit-via-then-has_bit+else-not-has_bit w ↦ least_more _ c.loop-n.n c.loop-n.invariant (has_second _ _ (sym w.has_bit-then-has_bit.ensures ∙ w.if-not-has_bit.false))
      | else-has_bit-via-else-has_bit w ↦ least_more _ c.loop-n.n c.loop-n.invariant (no_first _ _ (sym c.has_bit.ensures ∙ w.if-has_bit.false))
    ]
