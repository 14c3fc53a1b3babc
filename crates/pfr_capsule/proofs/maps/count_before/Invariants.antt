use Rattle.std.proofs.Common.{◌≡◌, ◌*◌}
use Rattle.pfr_capsule.specs.Maps.{count_before}
use Rattle.pfr_capsule.proofs.maps.count_before.Given as goal

-- the count of the bytes so far
abbrev pub invariant-loop-byte : goal.invariant-loop-byte
invariant-loop-byte l = l.count ≡ count_before l.map (8 * l.byte-index)
