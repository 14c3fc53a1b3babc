use Rattle.std.proofs.Common.{◌∙◌, ℕ, ◌+◌, ◌*◌, ◌%◌, List, ap, refl}
use Rattle.pfr_flash.specs.Bytes.{bytes_at}
use Rattle.pfr_flash.specs.FlashState.{now}
use Rattle.pfr_flash.proofs.EndsLemmas.{ends_content}
use Rattle.pfr_jobs.proofs.CallLaws.{loaded}
use Rattle.pfr_jobs.proofs.log.JobLog.load.Goals as goal

pub returns-clause-found : goal.returns-clause-found
returns-clause-found g c =
    loaded (now (g.F.Flash.device c.args.nv.now)) c.args.bank _ c.in_ok-selector.selector c.in_ok-slots.slots _ _ _ _ _
    (rw (← c.log_at.ensures) c.in_ok-selector.ensures.found)
    (rw (c.log_at-2.ensures, c.spent_in.ensures) refl)
    (c.in_ok-slots.ensures.found ∙ ap (λ (image : List ℕ). bytes_at image (c.log_at-2.result + 4096 * (c.spent_in.result % 2)) 4096) (ends_content c.in_ok-selector.ensures.ends))
    c.last_gated-last.ensures.exact c.used_in.ensures c.first_unspent.ensures c.open_by.ensures c.marks_in.ensures
