use Rattle.std.proofs.Common.{◌≡◌, ◌≤◌}
use Rattle.pfr_jobs.specs.Log.{last_gated}
use Rattle.pfr_jobs.proofs.page.last_gated.Given as goal

-- the slots that were passed aren't gated
abbrev pub invariant-loop-k : goal.invariant-loop-k
invariant-loop-k l = record {
  within : l.k ≤ 64;
  rest : last_gated l.page l.k ≡ last_gated l.page 64;
}

abbrev pub decreases-loop-k : goal.decreases-loop-k
decreases-loop-k l = l.k
