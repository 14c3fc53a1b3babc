use Rattle.std.proofs.Common.{ℕ, ◌-◌, ◌≤◌, List, ◌++◌, None}
use Rattle.pfr_flash.specs.Bytes.{bytes_at}
use Rattle.pfr_flash.specs.FlashState.{now}
use Rattle.pfr_flash.specs.Reading.{EndsAt}
use Rattle.pfr_chain.proofs.hashing.feed.Given as goal

-- what the hasher held, and the bytes so far
abbrev pub invariant-pieces : goal.invariant-pieces
invariant-pieces g l = record {
  within : l.done ≤ l.len;
  ends : EndsAt None (g.F.Flash.device l.fn.flash) (g.F.Flash.device l.flash);
  fed : (m : List ℕ) → g.H.Digest.holds l.fn.hasher m → g.H.Digest.holds l.hasher (m ++ bytes_at (now (g.F.Flash.device l.fn.flash)) l.at l.done);
}

abbrev pub decreases-pieces : goal.decreases-pieces
decreases-pieces g l = l.len - l.done
