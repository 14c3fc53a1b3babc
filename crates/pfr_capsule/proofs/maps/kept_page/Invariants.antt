use Rattle.std.proofs.Common.{◌≡◌, None}
use Rattle.pfr_capsule.specs.Maps.{kept_page}
use Rattle.pfr_capsule.proofs.maps.kept_page.Given as goal

-- there is none so far
abbrev pub invariant-loop-n : goal.invariant-loop-n
invariant-loop-n l = kept_page l.erase l.n l.region ≡ None
