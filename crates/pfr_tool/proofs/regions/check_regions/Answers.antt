use Rattle.std.proofs.Common.{◌∙◌, sym}
use Rattle.std.proofs.lemmas.Result.{err_from_is_err_and}
use Rattle.pfr_tool.proofs.RegionSteps.{passed_region, failed_region, passed_all}
use Rattle.pfr_tool.proofs.regions.check_regions.Goals as goal

pub returns-in_err-check_region : goal.returns-in_err-check_region
returns-in_err-check_region c =
    let p = err_from_is_err_and c.from_residual.result c.from_residual.ensures.1 in
    rw (p.1, p.2) (sym (failed_region c.loop-k.k c.loop-k.last.0 c.loop-k.last.1 c.args.regions.now c.args.layout.now c.args.size _ _ c.loop-k-test.true
    (sym c.in_err-check_region.ensures)) ∙ c.loop-k.invariant)

pub loop-k-preserved : goal.loop-k-preserved
loop-k-preserved c =
    passed_region c.loop-k.k c.loop-k.last.0 c.loop-k.last.1 c.args.regions.now c.args.layout.now c.args.size _ c.loop-k-test.true
    (sym c.in_ok-check_region.ensures) ∙ c.loop-k.invariant

pub returns : goal.returns
returns c =
    sym (passed_all c.loop-k.k c.loop-k.last.0 c.loop-k.last.1 c.args.regions.now c.args.layout.now c.args.size c.loop-k-test.false) ∙ c.loop-k.invariant
