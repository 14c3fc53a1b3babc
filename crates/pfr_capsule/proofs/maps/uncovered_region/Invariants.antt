use Rattle.std.proofs.Common.{◌≡◌, drop}
use Rattle.std.specs.List.{position_from}
use Rattle.pfr_capsule.specs.Maps.{is_uncovered, uncovered_region}
use Rattle.pfr_capsule.proofs.maps.uncovered_region.Given as goal

-- what is left is to be looked at as all of them
abbrev pub invariant-loop-k : goal.invariant-loop-k
invariant-loop-k l = position_from (is_uncovered l.erase l.bits) l.k (drop l.k l.regions) ≡ uncovered_region l.erase l.regions l.bits
