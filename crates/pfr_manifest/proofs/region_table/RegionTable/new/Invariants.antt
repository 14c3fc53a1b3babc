use Rattle.std.proofs.Common.{◌≡◌, map, take}
use Rattle.pfr_manifest.specs.Stretches.{stretch_of}
use Rattle.pfr_manifest.proofs.region_table.RegionTable.new.Given as goal

abbrev pub invariant-loop-k : goal.invariant-loop-k
invariant-loop-k l = l.items.items ≡ map stretch_of (take l.k l.manifest.regions)
