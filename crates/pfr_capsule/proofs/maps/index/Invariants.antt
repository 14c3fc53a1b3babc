use Rattle.std.proofs.Common.{◌≡◌, ℕ, ◌<◌, length, get_or}
use Rattle.pfr_capsule.specs.Maps.{count_before}
use Rattle.pfr_capsule.specs.Pages.{indexed}
use Rattle.pfr_capsule.proofs.maps.index.Given as goal

-- the index of the pages so far
abbrev pub invariant-loop-n : goal.invariant-loop-n
invariant-loop-n l = record {
  long : length l.before ≡ 256;
  counted : l.count ≡ count_before l.copy l.n;
  index : (i : ℕ) → i < 256 → get_or l.before i 0 ≡ indexed l.copy l.n i;
}
