use Rattle.pfr.proofs.making.store_cert.Goals as goal

pub returns-clause-stores : goal.returns-clause-stores
returns-clause-stores g c = rw (← c.request.view_is, ← c.as_slice.ensures, ← c.as_slice-2.ensures) c.store_outputs.ensures.stores
