use Rattle.std.proofs.Common.{◌-◌}
use Rattle.pfr_manifest.proofs.HalvingLemmas.{IsSearching}
use Rattle.pfr_manifest.proofs.region_table.RegionTable.first_behind.Given as goal

abbrev pub invariant-halves : goal.invariant-halves
invariant-halves g l = IsSearching l.self l.at l.low l.high l.fn.steps l.steps

abbrev pub decreases-halves : goal.decreases-halves
decreases-halves g l = l.high - l.low
