use Rattle.std.proofs.Common.{sym, ◌∙◌, refl, arith, ◌&&◌}
use Rattle.pfr_manifest.specs.declared.region.Region.{Region}
use Rattle.pfr_capsule.specs.Maps.{has_page}
use Rattle.pfr_capsule.proofs.LeastLaws.{any_found, any_passed, any_done}
use Rattle.pfr_rebuilt.specs.ActiveCopying.{is_taken}
use Rattle.pfr_copy.proofs.TakingLemmas.{any_of_both}
use Rattle.pfr_copy.proofs.taking.in_taken_region.Goals as goal

pub loop-k-init : goal.loop-k-init
loop-k-init c = refl

pub returns-then-takes_page : goal.returns-then-takes_page
returns-then-takes_page c =
    sym (any_found (λ (region : Region). is_taken c.args.kind region && has_page region c.args.n) c.args.regions.now c.loop-k.k c.get.result.now (omega (arith, c.len-k-end.ensures.value, c.loop-k-test.true)) c.get.ensures (sym c.takes_page.ensures ∙ c.if-takes_page.true))
    ∙ c.loop-k.invariant ∙ any_of_both (λ (region : Region). is_taken c.args.kind region) (λ (region : Region). has_page region c.args.n) c.args.regions.now

pub loop-k-preserved : goal.loop-k-preserved
loop-k-preserved c = sym (any_passed (λ (region : Region). is_taken c.args.kind region && has_page region c.args.n) c.args.regions.now c.loop-k.k c.get.result.now (omega (arith, c.len-k-end.ensures.value, c.loop-k-test.true)) c.get.ensures (sym c.takes_page.ensures ∙ c.if-takes_page.false)) ∙ c.loop-k.invariant

pub returns : goal.returns
returns c = sym (any_done _ c.args.regions.now c.loop-k.k (omega (arith, c.len-k-end.ensures.value, c.loop-k-test.false))) ∙ c.loop-k.invariant ∙ any_of_both (λ (region : Region). is_taken c.args.kind region) (λ (region : Region). has_page region c.args.n) c.args.regions.now
