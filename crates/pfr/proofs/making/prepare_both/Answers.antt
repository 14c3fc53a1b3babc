use Rattle.std.proofs.Common.{◌≡◌, ap, subst, sym, true, Ok, Err}
use Rattle.std.proofs.lemmas.Result.{err_from_is_err_and}
use Rattle.pfr_description.specs.Described.{Description}
use Rattle.pfr_shelf.specs.Files.{Files}
use Rattle.pfr.specs.MakesInside.{AreSources, judged_both, refusal_of}
use Rattle.pfr.specs.Making.{described_in, make_rows, rows_described}
use Rattle.pfr.specs.Request.{MakeRequest}
use Rattle.pfr.specs.declared.making.MadeFiles.{MadeFiles}
use Rattle.pfr.proofs.BothLemmas.{both_alike, both_found, both_refused, both_rows, made_rows, made_says, rows_first, rows_read, stored_both}
use Rattle.pfr.proofs.PrepareLemmas.{described_as, judged_rows, prepares_first, prepares_on, refused_rows}
use Rattle.pfr.proofs.making.prepare_both.Goals as goal

pub returns-in_err-desc-clause-prepared : goal.returns-in_err-desc-clause-prepared
returns-in_err-desc-clause-prepared g c =
    let p = err_from_is_err_and c.from_residual.result c.from_residual.ensures.1 in
    let s = g.S.Shelf in
    let name = c.request.inside.description.now in
    rw (p.1, p.2) (prepares_first {T = Description} {U = MadeFiles} s.tells s.files s.faults s.failed c.args.shelf.now c.load_description.new.shelf name (make_rows c.args.request.now)
    (λ f. rows_described name (described_in (f name)) f) c.in_err-desc.field-0.0 (rows_first c.args.request.now name (ap (λ (r : MakeRequest). r.description) c.request.view_is)) c.in_err-desc.ensures.loads)

pub returns-in_err-sources-clause-prepared : goal.returns-in_err-sources-clause-prepared
returns-in_err-sources-clause-prepared g c =
    let p = err_from_is_err_and c.from_residual-in_err-sources.result c.from_residual-in_err-sources.ensures.1 in
    let s = g.S.Shelf in
    let name = c.request.inside.description.now in
    let desc = c.in_ok-desc.desc in
    rw (p.1, p.2) (prepares_on {U = MadeFiles} s.tells s.files s.faults s.failed c.args.shelf.now c.load_description.new.shelf c.load_both.new.shelf name desc (make_rows c.args.request.now) (both_rows name desc)
    (Err c.in_err-sources.field-0.0) (rows_read c.args.request.now name (ap (λ (r : MakeRequest). r.description) c.request.view_is) desc) (both_alike name desc) c.in_ok-desc.ensures.read c.in_ok-desc.ensures.loads
    (both_refused s.tells s.files s.faults s.failed c.load_description.new.shelf c.load_both.new.shelf name desc c.in_err-sources.field-0.0 c.in_err-sources.ensures.loads))

pub returns-in-Ok-clause-prepared : goal.returns-in-Ok-clause-prepared
returns-in-Ok-clause-prepared g c =
    let s = g.S.Shelf in
    let name = c.request.inside.description.now in
    let desc = c.in_ok-desc.desc in
    let sources = c.in_ok-sources.sources in
    let first = c.load_description.new.shelf in
    let last = c.load_both.new.shelf in
    let found = λ (told : s.tells ≡ true). made_says (s.files last) name desc sources (subst (λ (f : Files). AreSources f desc sources) (sym (c.in_ok-sources.ensures.loads.stays told)) (c.in_ok-sources.ensures.sources told)) in
    prepares_on s.tells s.files s.faults s.failed c.args.shelf.now first last name desc (make_rows c.args.request.now) (both_rows name desc) (Ok c.in-Ok.made)
    (rows_read c.args.request.now name (ap (λ (r : MakeRequest). r.description) c.request.view_is) desc) (both_alike name desc) c.in_ok-desc.ensures.read c.in_ok-desc.ensures.loads
    (both_found s.tells s.files s.faults s.failed first last name desc sources (Ok c.in-Ok.made) c.in_ok-sources.ensures.loads
    (judged_rows s.tells s.files s.faults s.failed last (made_rows name desc) (judged_both desc sources) c.in-Ok.made found c.in-Ok.ensures.judged))

pub returns-in-Ok-clause-stores : goal.returns-in-Ok-clause-stores
returns-in-Ok-clause-stores g c told =
    let s = g.S.Shelf in
    let name = c.request.inside.description.now in
    let desc = c.in_ok-desc.desc in
    let sources = c.in_ok-sources.sources in
    let read = c.in_ok-desc.ensures.read in
    stored_both c.args.request.now (s.files c.args.shelf.now) name desc sources c.in-Ok.made (ap (λ (r : MakeRequest). r.description) c.request.view_is)
    (described_as (s.files c.args.shelf.now name) desc read.text (read.there told) read.judged)
    (subst (λ (f : Files). AreSources f desc sources) (c.in_ok-desc.ensures.loads.stays told) (c.in_ok-sources.ensures.sources told)) c.in-Ok.ensures.made

pub returns-clause-prepared : goal.returns-clause-prepared
returns-clause-prepared g c =
    let s = g.S.Shelf in
    let name = c.request.inside.description.now in
    let desc = c.in_ok-desc.desc in
    let sources = c.in_ok-sources.sources in
    let first = c.load_description.new.shelf in
    let last = c.load_both.new.shelf in
    let found = λ (told : s.tells ≡ true). made_says (s.files last) name desc sources (subst (λ (f : Files). AreSources f desc sources) (sym (c.in_ok-sources.ensures.loads.stays told)) (c.in_ok-sources.ensures.sources told)) in
    rw c.refusal_of.ensures (prepares_on s.tells s.files s.faults s.failed c.args.shelf.now first last name desc (make_rows c.args.request.now) (both_rows name desc) (Err (refusal_of c.in-Err.fail))
    (rows_read c.args.request.now name (ap (λ (r : MakeRequest). r.description) c.request.view_is) desc) (both_alike name desc) c.in_ok-desc.ensures.read c.in_ok-desc.ensures.loads
    (both_found s.tells s.files s.faults s.failed first last name desc sources (Err (refusal_of c.in-Err.fail)) c.in_ok-sources.ensures.loads
    (refused_rows MadeFiles s.tells s.files s.faults s.failed last (made_rows name desc) (judged_both desc sources) c.in-Err.fail found c.in-Err.ensures.judged)))
