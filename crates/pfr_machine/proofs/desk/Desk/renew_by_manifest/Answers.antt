use Rattle.pfr_machine.proofs.desk.Desk.renew_by_manifest.Goals as goal

pub returns-else-same : goal.returns-else-same
returns-else-same g c = rw c.if-same.false c.refuse_so.ensures
