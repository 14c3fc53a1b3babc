use Rattle.std.proofs.Common.{sym, ◌∙◌}
use Rattle.pfr_tool.proofs.PageSteps.{found_use, next_use, no_use}
use Rattle.pfr_tool.proofs.pages.use_of.Goals as goal

pub returns-then-has_byte : goal.returns-then-has_byte
returns-then-has_byte c =
    sym (found_use c.args.regions.now c.loop-region.region-index c.args.page _ c.loop-region-test.true (sym c.if-has_byte.ensures))
    ∙ c.loop-region.invariant

pub loop-region-preserved : goal.loop-region-preserved
loop-region-preserved c =
    sym (next_use c.args.regions.now c.loop-region.region-index c.args.page _ c.loop-region-test.true (sym c.if-has_byte.ensures))
    ∙ c.loop-region.invariant

pub returns : goal.returns
returns c = sym (no_use c.args.regions.now c.loop-region.region-index c.args.page c.loop-region-test.false) ∙ c.loop-region.invariant
