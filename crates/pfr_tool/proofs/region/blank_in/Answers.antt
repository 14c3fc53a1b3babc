use Rattle.std.proofs.Common.{rules}
use Rattle.pfr_tool.proofs.RegionSteps.{filled_region}
use Rattle.pfr_tool.proofs.region.blank_in.Goals as goal

pub returns : goal.returns
returns c = filled_region c.args.image.now c.fill.new.self c.args.region.now c.requires (search rules)
