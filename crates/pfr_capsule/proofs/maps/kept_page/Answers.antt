use Rattle.std.proofs.Common.{sym, ◌∙◌, arith, refl}
use Rattle.pfr_capsule.specs.Maps.{kept_page, least_below}
use Rattle.pfr_capsule.proofs.LeastLaws.{least_more, least_found, one_alone, no_first, has_second}
use Rattle.pfr_capsule.proofs.maps.kept_page.Goals as goal
use Rattle.pfr_capsule.proofs.maps.kept_page.Goals.{else-has_page-via-then-has_page+else-not-has_bit, else-has_page-via-else-has_page}

pub loop-n-init : goal.loop-n-init
unfolding kept_page least_below
loop-n-init c = refl

pub returns-then-not-has_bit : goal.returns-then-not-has_bit
unfolding kept_page
returns-then-not-has_bit c =
    sym (least_found _ c.loop-n.n c.args.bits (omega arith) c.loop-n.invariant
    (one_alone _ _ (sym c.has_page.ensures ∙ c.if-has_page.true) (sym c.has_bit.ensures ∙ c.if-not-has_bit.true)))

pub loop-n-preserved : goal.loop-n-preserved
unfolding kept_page
loop-n-preserved c =
    elim c.else-has_page.branch [
      | else-has_page-via-then-has_page+else-not-has_bit w ↦ least_more _ c.loop-n.n c.loop-n.invariant (has_second _ _ (sym w.has_bit.ensures ∙ w.if-not-has_bit.false))
      | else-has_page-via-else-has_page w ↦ least_more _ c.loop-n.n c.loop-n.invariant (no_first _ _ (sym c.has_page.ensures ∙ w.if-has_page.false))
    ]
