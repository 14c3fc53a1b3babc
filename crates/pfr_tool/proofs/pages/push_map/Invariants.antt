use Rattle.std.proofs.Common.{◌≡◌, ◌++◌}
use Rattle.pfr_made.specs.Pages.{map_bytes}
use Rattle.pfr_tool.proofs.pages.push_map.Given as goal

abbrev pub invariant-loop-eight : goal.invariant-loop-eight
invariant-loop-eight l = l.body.items ≡ l.initial.body.items ++ map_bytes l.part l.map l.eight
