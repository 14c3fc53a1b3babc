use Rattle.std.proofs.Common.{◌≡◌, None}
use Rattle.pfr_capsule.specs.Maps.{unerased_copy}
use Rattle.pfr_capsule.proofs.maps.unerased_copy.Given as goal

-- there is none so far
abbrev pub invariant-loop-n : goal.invariant-loop-n
invariant-loop-n l = unerased_copy l.erase l.copy l.n ≡ None
