use Rattle.std.proofs.Common.{◌≡◌, ◌++◌, take, map}
use Rattle.std.specs.List.{flat_map}
use Rattle.pfr_manifest.specs.Spelling.{region_bytes}
use Rattle.pfr_made.specs.Manifests.{region_of}
use Rattle.pfr_tool.proofs.manifest.push_regions.Given as goal

abbrev pub invariant-loop-region : goal.invariant-loop-region
invariant-loop-region l = l.entries.items ≡ l.initial.entries.items ++ flat_map region_bytes (map (region_of l.image) (take l.region-index l.regions))
