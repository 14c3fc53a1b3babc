use Rattle.std.proofs.Common.{None, ℕ, ◌-◌, ◌/◌, ◌≤◌, List, ◌++◌}
use Rattle.pfr_flash.specs.FlashState.{now}
use Rattle.pfr_flash.specs.Reading.{EndsAt}
use Rattle.pfr_capsule.specs.PageBytes.{bytes_of_pages}
use Rattle.pfr_capsule.proofs.page_bytes.feed_region.Given as goal

-- what the hasher held, and what the pages so far give
abbrev pub invariant-loop-n : goal.invariant-loop-n
invariant-loop-n g l = record {
  ends : EndsAt None (g.F.Flash.device l.fn.flash) (g.F.Flash.device l.flash);
  within : l.n - l.region.start / 4096 ≤ l.region.end / 4096 - l.region.start / 4096;
  fed : (m : List ℕ) → g.H.Digest.holds l.fn.hasher m →
      g.H.Digest.holds l.hasher (m ++ bytes_of_pages (now (g.F.Flash.device l.fn.flash)) l.pages (l.region.start / 4096) (l.n - l.region.start / 4096));
}
