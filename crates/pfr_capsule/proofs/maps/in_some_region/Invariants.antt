use Rattle.std.proofs.Common.{◌≡◌, drop}
use Rattle.pfr_capsule.specs.Maps.{in_some_region}
use Rattle.pfr_capsule.proofs.maps.in_some_region.Given as goal

-- what is left is to be looked at as all of them
abbrev pub invariant-loop-k : goal.invariant-loop-k
invariant-loop-k l = in_some_region (drop l.k l.regions) l.n ≡ in_some_region l.regions l.n
