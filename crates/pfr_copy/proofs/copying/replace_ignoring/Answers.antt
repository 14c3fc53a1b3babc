use Rattle.std.proofs.Common.{length, refl}
use Rattle.pfr_flash.specs.FlashState.{now}
use Rattle.pfr_rebuilt.specs.Passing.{group_pages}
use Rattle.pfr_strokes.proofs.StretchLaws.{stretch_did, stretch_stopped}
use Rattle.pfr_copy.specs.Working.{job_page, job_pages}
use Rattle.pfr_copy.proofs.copying.replace_ignoring.Goals as goal

pub returns-in-Ok : goal.returns-in-Ok
returns-in-Ok g c store =
    let d = g.F.Flash.device c.args.flash.now in
    stretch_did (job_page c.args.kind (now d) c.args.capsule.now c.args.layout.now) (group_pages (length (now d))) (job_pages c.args.kind (now d) c.args.capsule.now c.args.layout.now)
    (record { bank = d; store = store }) (record { bank = g.F.Flash.device c.replace_all.new.flash; store = store }) refl c.in-Ok.field-0 c.in-Ok.ensures

pub returns-in-Err : goal.returns-in-Err
returns-in-Err g c store =
    let d = g.F.Flash.device c.args.flash.now in
    stretch_stopped (job_page c.args.kind (now d) c.args.capsule.now c.args.layout.now) (group_pages (length (now d))) (job_pages c.args.kind (now d) c.args.capsule.now c.args.layout.now)
    (record { bank = d; store = store }) (record { bank = g.F.Flash.device c.replace_all.new.flash; store = store }) refl c.in-Err.fail c.in-Err.ensures
