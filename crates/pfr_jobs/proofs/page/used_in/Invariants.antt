use Rattle.std.proofs.Common.{◌≡◌, ◌≤◌}
use Rattle.pfr_jobs.specs.Log.{used_in}
use Rattle.pfr_jobs.proofs.page.used_in.Given as goal

-- the slots that were passed are blank
abbrev pub invariant-loop-used : goal.invariant-loop-used
invariant-loop-used l = record {
  within : l.used ≤ 64;
  rest : used_in l.page l.used ≡ used_in l.page 64;
}

abbrev pub decreases-loop-used : goal.decreases-loop-used
decreases-loop-used l = l.used
