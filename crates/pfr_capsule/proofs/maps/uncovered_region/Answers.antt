use Rattle.std.proofs.Common.{sym, ◌∙◌, refl, arith}
use Rattle.pfr_capsule.specs.Maps.{uncovered_region}
use Rattle.pfr_capsule.proofs.LeastLaws.{first_found, first_passed, first_done}
use Rattle.pfr_capsule.proofs.maps.uncovered_region.Goals as goal

pub loop-k-init : goal.loop-k-init
unfolding uncovered_region
loop-k-init c = refl

pub returns-then-is_uncovered : goal.returns-then-is_uncovered
returns-then-is_uncovered c = sym (first_found _ c.args.regions.now c.loop-k.k c.get.result.now (omega (arith, c.len-k-end.ensures.value, c.loop-k-test.true)) c.get.ensures (sym c.is_uncovered.ensures ∙ c.if-is_uncovered.true)) ∙ c.loop-k.invariant

pub loop-k-preserved : goal.loop-k-preserved
loop-k-preserved c = sym (first_passed _ c.args.regions.now c.loop-k.k c.get.result.now (omega (arith, c.len-k-end.ensures.value, c.loop-k-test.true)) c.get.ensures (sym c.is_uncovered.ensures ∙ c.if-is_uncovered.false)) ∙ c.loop-k.invariant

pub returns : goal.returns
returns c = sym (first_done _ c.args.regions.now c.loop-k.k (omega (arith, c.len-k-end.ensures.value, c.loop-k-test.false))) ∙ c.loop-k.invariant
