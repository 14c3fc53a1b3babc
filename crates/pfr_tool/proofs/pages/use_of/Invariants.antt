use Rattle.std.proofs.Common.{◌≡◌, drop}
use Rattle.pfr_made.specs.Pages.{use_of}
use Rattle.pfr_tool.proofs.pages.use_of.Given as goal

abbrev pub invariant-loop-region : goal.invariant-loop-region
invariant-loop-region l = use_of (drop l.region-index l.regions) l.page ≡ use_of l.regions l.page
