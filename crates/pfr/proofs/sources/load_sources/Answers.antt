use Rattle.std.proofs.Common.{[], ◌∷◌, Err}
use Rattle.std.proofs.lemmas.Result.{err_from_is_err_and}
use Rattle.pfr_description.specs.Banks.{bank_of}
use Rattle.pfr.specs.Making.{image_role, plain_row, staged_role, staged_rows}
use Rattle.pfr.proofs.LoadLemmas.{loads_stop, loads_then}
use Rattle.pfr.proofs.SourceLemmas.{staged_alike}
use Rattle.pfr.proofs.sources.load_sources.Goals as goal

pub returns-in_err-image-clause-loads : goal.returns-in_err-image-clause-loads
returns-in_err-image-clause-loads g c =
    let p = err_from_is_err_and c.from_residual.result c.from_residual.ensures.1 in
    let s = g.S.Shelf in
    let part = bank_of c.args.desc.now c.args.bank in
    let image = rw (c.image_role.ensures, c.image.ensures) at c.in_err-image.ensures.loads in
    rw (p.1, p.2) (loads_stop s.tells s.files s.faults s.failed c.args.shelf.now c.load_plain.new.shelf (λ f. plain_row (image_role c.args.bank) part.image f ∷ [])
    (staged_rows (staged_role c.args.bank) part.staged) c.in_err-image.field-0.0 image)

pub returns-in_err-staged-clause-loads : goal.returns-in_err-staged-clause-loads
returns-in_err-staged-clause-loads g c =
    let p = err_from_is_err_and c.from_residual-in_err-staged.result c.from_residual-in_err-staged.ensures.1 in
    let s = g.S.Shelf in
    let part = bank_of c.args.desc.now c.args.bank in
    let file = staged_role c.args.bank in
    let image = rw (c.image_role.ensures, c.image.ensures) at c.in_ok-image.ensures.loads in
    let staged = rw (c.staged_role.ensures, c.staged.ensures) at c.in_err-staged.ensures.loads in
    let both = loads_then s.tells s.files s.faults s.failed c.args.shelf.now c.load_plain.new.shelf c.load_staged.new.shelf (λ f. plain_row (image_role c.args.bank) part.image f ∷ [])
    (staged_rows file part.staged) c.in_ok-image.image (Err c.in_err-staged.field-0.0) (staged_alike file part.staged) image staged in
    rw (p.1, p.2) (record { stays = both.stays; ok = tt; err = both.err; later = both.later })
