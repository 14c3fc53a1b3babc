use Rattle.std.proofs.Common.{◌≡◌, drop}
use Rattle.pfr_made.specs.Entries.{judge_regions}
use Rattle.pfr_tool.proofs.regions.check_regions.Given as goal

abbrev pub invariant-loop-k : goal.invariant-loop-k
invariant-loop-k l = judge_regions l.k l.last.0 l.last.1 (drop l.k l.regions) l.layout l.size ≡ judge_regions 0 0 0 l.regions l.layout l.size
