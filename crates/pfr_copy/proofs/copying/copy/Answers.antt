use Rattle.std.proofs.Common.{◌/◌, length, refl}
use Rattle.pfr_flash.specs.FlashState.{now}
use Rattle.pfr_rebuilt.specs.Passing.{group_pages}
use Rattle.pfr_copy.specs.Working.{is_job_page, job_page, job_pages}
use Rattle.pfr_copy.proofs.CopyLemmas.{ignored_marks, ignored_none, ignored_passes, ignored_some, ignored_stands}
use Rattle.pfr_copy.proofs.copying.copy.Goals as goal

pub returns-in-Ignore : goal.returns-in-Ignore
returns-in-Ignore g c =
    let image = now (g.F.Flash.device c.args.flash.now) in
    let nv = now (g.F.Flash.device c.args.nv.now) in
    record {
      passes = ignored_passes c.args.marks c.in-Ignore.is c.args.jobs.now.bank nv (job_page c.args.kind image c.args.capsule.now c.args.layout.now) (group_pages (length image)) (job_pages c.args.kind image c.args.capsule.now c.args.layout.now)
          _ _ c.replace_ignoring.result (c.replace_ignoring.ensures (g.F.Flash.device c.args.nv.now));
      stands = ignored_stands c.args.marks c.in-Ignore.is c.args.jobs.now.bank nv c.args.jobs.now c.replace_ignoring.result;
      marked = ignored_marks c.args.marks c.in-Ignore.is c.args.jobs.now.bank (is_job_page c.args.kind image c.args.capsule.now c.args.layout.now) (group_pages (length image)) (length image / 4096) nv c.replace_ignoring.result;
      stopped = ignored_some c.args.marks c.in-Ignore.is c.args.jobs.now.bank (is_job_page c.args.kind image c.args.capsule.now c.args.layout.now) (group_pages (length image)) (length image / 4096) nv c.replace_ignoring.result;
      one = λ heeds. absurd (ignored_none c.args.marks c.in-Ignore.is heeds);
      unused = λ heeds. refl;
    }
