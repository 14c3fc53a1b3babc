use Rattle.pfr_machine.proofs.UpdateLemmas.{tested}
use Rattle.pfr_machine.proofs.renewal.has_manifest.Goals as goal

pub returns-in-Ok : goal.returns-in-Ok
returns-in-Ok c = λ layout size image capsule.
    tested c.args.capsule.now c.args.image.now c.in-Ok.manifest c.manifest.result.now layout size c.is_same.result c.in-Ok.is c.manifest.ensures (c.is_same.ensures.texts layout size) image capsule
