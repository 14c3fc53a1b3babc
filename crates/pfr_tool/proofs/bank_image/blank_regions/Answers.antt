use Rattle.std.proofs.Common.{◌∙◌, sym}
use Rattle.pfr_tool.proofs.RegionSteps.{blank_first, leave_first, none_left}
use Rattle.pfr_tool.proofs.bank_image.blank_regions.Goals as goal
use Rattle.pfr_tool.proofs.bank_image.blank_regions.Goals.{then-is_blank, else-is_blank}

pub loop-region-preserved : goal.loop-region-preserved
loop-region-preserved c = elim c.if-is_blank.branch [
  | then-is_blank w ↦ rw (w.image-is, w.blank_in.ensures)
      (blank_first c.args.regions.now c.loop-region.region-index c.loop-region.image _ c.loop-region-test.true (sym w.if-is_blank.ensures) ∙ c.loop-region.invariant)
  | else-is_blank w ↦ rw w.image-is
      (leave_first c.args.regions.now c.loop-region.region-index c.loop-region.image _ c.loop-region-test.true (sym w.if-is_blank.ensures) ∙ c.loop-region.invariant)
]

pub returns : goal.returns
returns c = sym (none_left c.args.regions.now c.loop-region.region-index c.loop-region.image c.loop-region-test.false) ∙ c.loop-region.invariant
