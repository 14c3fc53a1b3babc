use Rattle.std.proofs.Common.{refl}
use Rattle.pfr.specs.Making.{make_names, make_rows, make_stores}
use Rattle.pfr.specs.MakesInside.{stored_of_made}
use Rattle.pfr.proofs.MakeLemmas.{makes_stopped}
use Rattle.pfr.proofs.making.make.Goals as goal

pub returns-clause-cause : goal.returns-clause-cause
returns-clause-cause g c =
    let s = g.S.Shelf in
    let request = c.args.request.now in
    makes_stopped s.tells s.files s.faults s.failed c.args.shelf.now c.prepare_both.new.shelf c.store_both.new.shelf (make_rows request) (make_names request) (make_stores request)
    (stored_of_made request c.in-Ok.made) c.in-Ok.made c.in-Err-store_both.status c.in-Ok.ensures.prepared c.in-Ok.ensures.stores refl c.in-Err-store_both.ensures.stores
