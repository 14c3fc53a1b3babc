use Rattle.std.proofs.Common.{subst, [], ◌∷◌, Err}
use Rattle.std.proofs.lemmas.Result.{err_from_is_err_and}
use Rattle.pfr.specs.Judging.{Loads, check_rows, script_row}
use Rattle.pfr.specs.Request.{CheckRequest, images_of}
use Rattle.pfr.specs.declared.load.Images.{Images}
use Rattle.pfr.proofs.LoadLemmas.{loads_stop}
use Rattle.pfr.proofs.load.load_files.Goals as goal

pub returns-in_err-bmc-clause-loads : goal.returns-in_err-bmc-clause-loads
returns-in_err-bmc-clause-loads g c =
    let s = g.S.Shelf in
    let request = c.args.request.now in
    let old = c.args.shelf.now in
    let new = c.load_images.new.shelf in
    let p = err_from_is_err_and c.from_residual.result c.from_residual.ensures.1 in
    rw (p.1, p.2) (loads_stop {T = Images} s.tells s.files s.faults s.failed old new (check_rows (images_of request)) (λ files. script_row request.script files ∷ []) _
    (subst (λ (names : CheckRequest). Loads {T = Images} s.tells s.files s.faults s.failed old new (check_rows names) (Err c.in_err-bmc.field-0.0)) c.images-names.ensures c.in_err-bmc.ensures.loads))
