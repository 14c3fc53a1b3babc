use Rattle.std.proofs.Common.{sym, ◌∙◌, refl, arith}
use Rattle.pfr_capsule.proofs.LeastLaws.{any_found, any_passed, any_done}
use Rattle.pfr_capsule.proofs.maps.in_some_region.Goals as goal

pub loop-k-init : goal.loop-k-init
loop-k-init c = refl

pub returns-then-has_page : goal.returns-then-has_page
returns-then-has_page c = sym (any_found _ c.args.regions.now c.loop-k.k c.get.result.now (omega (arith, c.len-k-end.ensures.value, c.loop-k-test.true)) c.get.ensures (sym c.has_page.ensures ∙ c.if-has_page.true)) ∙ c.loop-k.invariant

pub loop-k-preserved : goal.loop-k-preserved
loop-k-preserved c = sym (any_passed _ c.args.regions.now c.loop-k.k c.get.result.now (omega (arith, c.len-k-end.ensures.value, c.loop-k-test.true)) c.get.ensures (sym c.has_page.ensures ∙ c.if-has_page.false)) ∙ c.loop-k.invariant

pub returns : goal.returns
returns c = sym (any_done _ c.args.regions.now c.loop-k.k (omega (arith, c.len-k-end.ensures.value, c.loop-k-test.false))) ∙ c.loop-k.invariant
