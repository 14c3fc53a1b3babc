use Rattle.std.proofs.Common.{◌≡◌, ◌-◌, ◌≤◌, Ok}
use Rattle.pfr_flash.specs.FlashState.{now}
use Rattle.pfr_flash.specs.Plan.{Follows}
use Rattle.pfr_strokes.specs.Replaced.{has_pages, pages_between}
use Rattle.pfr_strokes.specs.Strokes.{strokes_of}
use Rattle.pfr_copy.specs.Working.{is_job_page, job_page}
use Rattle.pfr_copy.proofs.pages.replace_pages.Given as goal

-- the pages so far were done
abbrev pub invariant-loop-n : goal.invariant-loop-n
invariant-loop-n g l = record {
  low : l.from ≤ l.n;
  high : l.n ≤ l.to;
  follows : Follows {A = Unit {0}}
      (strokes_of (job_page l.kind (now (g.F.Flash.device l.fn.flash)) l.capsule l.layout) (pages_between (is_job_page l.kind (now (g.F.Flash.device l.fn.flash)) l.capsule l.layout) l.from (l.n - l.from)))
      (g.F.Flash.device l.fn.flash) (g.F.Flash.device l.flash) (Ok tt);
  some : l.some ≡ has_pages (pages_between (is_job_page l.kind (now (g.F.Flash.device l.fn.flash)) l.capsule l.layout) l.from (l.n - l.from));
}
