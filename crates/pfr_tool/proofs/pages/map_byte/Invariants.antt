use Rattle.std.proofs.Common.{◌≡◌}
use Rattle.pfr_made.specs.Pages.{bits_of}
use Rattle.pfr_tool.proofs.pages.map_byte.Given as goal

abbrev pub invariant-loop-page : goal.invariant-loop-page
invariant-loop-page l = l.bits ≡ bits_of l.part l.map l.first l.page
