use Rattle.std.proofs.Common.{ap}
use Rattle.pfr_flash.specs.FlashState.{FlashState, now}
use Rattle.pfr_machine.proofs.ReadyLemmas.{ready_behind}
use Rattle.pfr_machine.proofs.UpdateLemmas.{image_spelled, manifest_ends, manifest_halted, staged_spelled}
use Rattle.pfr_machine.proofs.desk.Desk.renew.Goals as goal

pub renew_by_manifest-requires-clause-ready : goal.renew_by_manifest-requires-clause-ready
renew_by_manifest-requires-clause-ready g c =
    ready_behind 0 4 c.args.fuses c.args.self c.judge_image.new.self _ c.in-Ok.ensures.goes c.in-Ok.ensures.stays (ap (λ (d : FlashState). now d) c.judge_image.ensures.store) c.requires.ready

pub returns-in-Ok : goal.returns-in-Ok
returns-in-Ok g c =
    let accepts = g.E.Engine.accepts c.args.engine.now in
    let image = image_spelled accepts c.args.fuses c.args.self c.known.ensures.bytes c.in-Ok.image c.in-Ok.ensures.is in
    let staged = staged_spelled accepts c.args.fuses c.args.self c.known.ensures.bytes c.args.capsule.now c.requires.good in
    manifest_ends accepts c.args.fuses c.args.capsule.now c.args.self c.judge_image.new.self _ c.renew_by_manifest.result c.has_manifest-same.result c.in-Ok.image (c.has_manifest-same.ensures _ _ image staged) c.in-Ok.ensures.is
    c.in-Ok.ensures.goes c.in-Ok.ensures.stays c.renew_by_manifest.ensures

pub returns-in-Err : goal.returns-in-Err
returns-in-Err g c =
    manifest_halted (g.E.Engine.accepts c.args.engine.now) c.args.fuses c.args.capsule.now c.args.self c.in-Err.stop c.judge_image.new.self c.in-Err.ensures.goes c.in-Err.ensures.stays
