use Rattle.std.proofs.Common.{◌≡◌, ◌&&◌, drop}
use Rattle.std.specs.List.{list_any}
use Rattle.pfr_manifest.specs.declared.region.Region.{Region}
use Rattle.pfr_capsule.specs.Maps.{has_page}
use Rattle.pfr_rebuilt.specs.ActiveCopying.{is_taken}
use Rattle.pfr_copy.proofs.taking.in_taken_region.Given as goal

-- what is left is to be looked at as all of them
abbrev pub invariant-loop-k : goal.invariant-loop-k
invariant-loop-k l = list_any (λ (region : Region). is_taken l.kind region && has_page region l.n) (drop l.k l.regions) ≡ list_any (λ (region : Region). is_taken l.kind region && has_page region l.n) l.regions
