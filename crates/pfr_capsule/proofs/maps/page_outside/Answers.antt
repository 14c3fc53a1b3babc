use Rattle.std.proofs.Common.{sym, ◌∙◌, arith, refl}
use Rattle.pfr_capsule.specs.Maps.{page_outside, least_below}
use Rattle.pfr_capsule.proofs.LeastLaws.{least_more, least_found, one_alone, no_first, has_second}
use Rattle.pfr_capsule.proofs.maps.page_outside.Goals as goal
use Rattle.pfr_capsule.proofs.maps.page_outside.Goals.{else-has_bit-via-then-has_bit+else-not-in_some_region, else-has_bit-via-else-has_bit}

pub loop-n-init : goal.loop-n-init
unfolding page_outside least_below
loop-n-init c = refl

pub returns-then-not-in_some_region : goal.returns-then-not-in_some_region
unfolding page_outside
returns-then-not-in_some_region c =
    sym (least_found _ c.loop-n.n c.args.bits (omega arith) c.loop-n.invariant
    (one_alone _ _ (sym c.has_bit.ensures ∙ c.if-has_bit.true) (sym c.in_some_region.ensures ∙ c.if-not-in_some_region.true)))

pub loop-n-preserved : goal.loop-n-preserved
unfolding page_outside
loop-n-preserved c =
    elim c.else-has_bit.branch [
      | else-has_bit-via-then-has_bit+else-not-in_some_region w ↦ least_more _ c.loop-n.n c.loop-n.invariant (has_second _ _ (sym w.in_some_region.ensures ∙ w.if-not-in_some_region.false))
      | else-has_bit-via-else-has_bit w ↦ least_more _ c.loop-n.n c.loop-n.invariant (no_first _ _ (sym c.has_bit.ensures ∙ w.if-has_bit.false))
    ]
