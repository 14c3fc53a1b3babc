use Rattle.std.proofs.Common.{◌≡◌, ◌+◌, ◌-◌, ◌≤◌}
use Rattle.pfr_manifest.specs.Stretches.{writable_by}
use Rattle.pfr_filter.specs.Asking.{numbers_from}
use Rattle.pfr_filter.specs.Frames.{first_without}
use Rattle.pfr_filter.specs.Walking.{IsFirstBehind}
use Rattle.pfr_filter.proofs.walking.first_closed.Given as goal

-- the pages so far may be written, and at one stretch was looked for each
abbrev pub invariant-loop-page : goal.invariant-loop-page
invariant-loop-page g l = record {
  behind : IsFirstBehind l.table l.page l.number;
  looks : l.steps + l.first ≤ l.fn.steps + 7 + l.page;
  so_far : first_without (writable_by l.table l.layout) (numbers_from l.first l.count) ≡ first_without (writable_by l.table l.layout) (numbers_from l.page (l.first + l.count - l.page));
}
