use Rattle.std.proofs.Common.{◌≡◌, None}
use Rattle.pfr_capsule.specs.Maps.{page_outside}
use Rattle.pfr_capsule.proofs.maps.page_outside.Given as goal

-- there is none so far
abbrev pub invariant-loop-n : goal.invariant-loop-n
invariant-loop-n l = page_outside l.erase l.regions l.n ≡ None
