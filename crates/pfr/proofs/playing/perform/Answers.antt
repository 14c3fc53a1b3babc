use Rattle.pfr.proofs.PlayedLemmas.{played_parts}
use Rattle.std.proofs.Common.{◌∙◌, refl, take}
use Rattle.pfr.proofs.playing.perform.Goals as goal

pub returns-in-Ok : goal.returns-in-Ok
returns-in-Ok c =
    played_parts c.args.platform c.args.script c.args.script.items _ c.play-played.new.platform.world c.in-Ok.ensures.ok
    c.into_parts-bmc.ensures.bmc c.into_parts-bmc.ensures.pch c.into_parts-bmc.ensures.nv c.into_parts-bmc.ensures.notes
    c.play-played.ensures.texts (c.into_parts-bmc.ensures.engine ∙ c.play-played.ensures.engine) refl

pub returns-in-Err : goal.returns-in-Err
returns-in-Err c =
    let e = c.in-Err.ensures.err in (
      e.0,
      played_parts c.args.platform c.args.script (take e.0 c.args.script.items) _ c.play-played.new.platform.world e.1
          c.into_parts-bmc.ensures.bmc c.into_parts-bmc.ensures.pch c.into_parts-bmc.ensures.nv c.into_parts-bmc.ensures.notes
          c.play-played.ensures.texts (c.into_parts-bmc.ensures.engine ∙ c.play-played.ensures.engine) refl,
    )
