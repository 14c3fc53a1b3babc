use Rattle.std.proofs.Common.{ap, Ok, Err}
use Rattle.std.proofs.lemmas.Result.{err_from_is_err_and}
use Rattle.pfr_description.specs.Described.{Description}
use Rattle.pfr_tool.specs.declared.certificate.MadeCert.{MadeCert}
use Rattle.pfr.specs.Making.{cert_rows}
use Rattle.pfr.specs.Request.{CertRequest}
use Rattle.pfr.specs.declared.status.Status.TheVariants.{NoMemory}
use Rattle.pfr.proofs.LoadLemmas.{loads_nothing, no_rows}
use Rattle.pfr.proofs.PrepareLemmas.{described_as, prepares_first, prepares_on}
use Rattle.pfr.proofs.ProvisionLemmas.{cert_first, no_memory_left, no_more_rows, stored_cert}
use Rattle.pfr.proofs.making.prepare_cert.Goals as goal

pub returns-in_err-desc-clause-prepared : goal.returns-in_err-desc-clause-prepared
returns-in_err-desc-clause-prepared g c =
    let p = err_from_is_err_and c.from_residual.result c.from_residual.ensures.1 in
    let s = g.S.Shelf in
    let name = c.request.inside.description.now in
    rw (p.1, p.2) (prepares_first {T = Description} s.tells s.files s.faults s.failed c.args.shelf.now c.load_description.new.shelf name (cert_rows c.args.request.now)
    no_more_rows c.in_err-desc.field-0.0 (cert_first c.args.request.now name (ap (λ (r : CertRequest). r.description) c.request.view_is)) c.in_err-desc.ensures.loads)

pub returns-in-Ok-clause-prepared : goal.returns-in-Ok-clause-prepared
returns-in-Ok-clause-prepared g c =
    let s = g.S.Shelf in
    let name = c.request.inside.description.now in
    let desc = c.in_ok-desc.desc in
    let shelf = c.load_description.new.shelf in
    prepares_on s.tells s.files s.faults s.failed c.args.shelf.now shelf shelf name desc (cert_rows c.args.request.now) no_more_rows (Ok c.in-Ok.made)
    (λ f d. cert_first c.args.request.now name (ap (λ (r : CertRequest). r.description) c.request.view_is) f) (λ f h. no_rows) c.in_ok-desc.ensures.read c.in_ok-desc.ensures.loads
    (loads_nothing s.tells s.files s.faults s.failed shelf c.in-Ok.made)

pub returns-in-Ok-clause-stores : goal.returns-in-Ok-clause-stores
returns-in-Ok-clause-stores g c told =
    let s = g.S.Shelf in
    let name = c.request.inside.description.now in
    let desc = c.in_ok-desc.desc in
    let read = c.in_ok-desc.ensures.read in
    stored_cert c.args.request.now (s.files c.args.shelf.now) name c.request.inside.ty c.request.inside.id desc c.in-Ok.made (ap (λ (r : CertRequest). r.description) c.request.view_is)
    (ap (λ (r : CertRequest). r.type) c.request.view_is) (ap (λ (r : CertRequest). r.id) c.request.view_is)
    (described_as (s.files c.args.shelf.now name) desc read.text (read.there told) read.judged) c.in-Ok.ensures.cert c.in-Ok.ensures.rows

pub returns-clause-prepared : goal.returns-clause-prepared
returns-clause-prepared g c =
    let s = g.S.Shelf in
    let name = c.request.inside.description.now in
    let desc = c.in_ok-desc.desc in
    let shelf = c.load_description.new.shelf in
    prepares_on {U = MadeCert} s.tells s.files s.faults s.failed c.args.shelf.now shelf shelf name desc (cert_rows c.args.request.now) no_more_rows (Err NoMemory)
    (λ f d. cert_first c.args.request.now name (ap (λ (r : CertRequest). r.description) c.request.view_is) f) (λ f h. no_rows) c.in_ok-desc.ensures.read c.in_ok-desc.ensures.loads
    (no_memory_left s.tells s.files s.faults s.failed shelf)
