use Rattle.std.proofs.Common.{◌≡◌, drop}
use Rattle.pfr_made.specs.Images.{active_of}
use Rattle.pfr_tool.proofs.bank_image.blank_regions.Given as goal

abbrev pub invariant-loop-region : goal.invariant-loop-region
invariant-loop-region l = active_of (drop l.region-index l.regions) l.image ≡ active_of l.regions l.initial.image
