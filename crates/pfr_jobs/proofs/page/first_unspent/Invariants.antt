use Rattle.std.proofs.Common.{◌≢◌, ℕ, ◌<◌, slice_index_or}
use Rattle.pfr_jobs.proofs.page.first_unspent.Given as goal

-- the bytes that were passed aren't 0xFF
abbrev pub invariant-loop-at : goal.invariant-loop-at
invariant-loop-at l = (i : ℕ) → i < l.at → slice_index_or l.selector i 0 ≢ 255
