use Rattle.pfr.proofs.making.store_both.Goals as goal

pub returns-clause-stores : goal.returns-clause-stores
returns-clause-stores g c =
    rw (← c.request.view_is, ← c.as_slice.ensures, ← c.as_slice-2.ensures, ← c.as_slice-3.ensures, ← c.as_slice-4.ensures, ← c.as_slice-5.ensures.value) c.store_outputs.ensures.stores
