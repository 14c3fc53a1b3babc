use Rattle.std.proofs.Common.{ap, Ok, Err}
use Rattle.std.proofs.lemmas.Result.{err_from_is_err_and}
use Rattle.pfr_description.specs.Described.{Description}
use Rattle.pfr_flash.specs.declared.bytes.Bytes.{Bytes}
use Rattle.pfr_made.specs.Judge.{judge_places}
use Rattle.pfr.specs.MakesInside.{refusal_of}
use Rattle.pfr.specs.Making.{described_in, places_described, provision_rows}
use Rattle.pfr.specs.Request.{ProvisionRequest}
use Rattle.pfr.proofs.PrepareLemmas.{described_as, judged_rows, one_judged, prepares_first, prepares_on, refused_rows}
use Rattle.pfr.proofs.ProvisionLemmas.{place_alike, place_rows, provision_first, provision_read, stored_store}
use Rattle.pfr.proofs.making.prepare_store.Goals as goal

pub returns-in_err-desc-clause-prepared : goal.returns-in_err-desc-clause-prepared
returns-in_err-desc-clause-prepared g c =
    let p = err_from_is_err_and c.from_residual.result c.from_residual.ensures.1 in
    let s = g.S.Shelf in
    let name = c.request.inside.description.now in
    rw (p.1, p.2) (prepares_first {T = Description} s.tells s.files s.faults s.failed c.args.shelf.now c.load_description.new.shelf name (provision_rows c.args.request.now)
    (λ f. places_described name (described_in (f name))) c.in_err-desc.field-0.0 (provision_first c.args.request.now name (ap (λ (r : ProvisionRequest). r.description) c.request.view_is)) c.in_err-desc.ensures.loads)

pub returns-in-Ok-clause-prepared : goal.returns-in-Ok-clause-prepared
returns-in-Ok-clause-prepared g c =
    let s = g.S.Shelf in
    let name = c.request.inside.description.now in
    let desc = c.in_ok-desc.desc in
    let shelf = c.load_description.new.shelf in
    prepares_on s.tells s.files s.faults s.failed c.args.shelf.now shelf shelf name desc (provision_rows c.args.request.now) (place_rows name desc) (Ok c.in-Ok.store)
    (provision_read c.args.request.now name (ap (λ (r : ProvisionRequest). r.description) c.request.view_is) desc) (place_alike name desc) c.in_ok-desc.ensures.read c.in_ok-desc.ensures.loads
    (judged_rows s.tells s.files s.faults s.failed shelf (place_rows name desc) (judge_places desc) c.in-Ok.store (λ told. one_judged name (judge_places desc)) c.in-Ok.ensures.judged)

pub returns-in-Ok-clause-stores : goal.returns-in-Ok-clause-stores
returns-in-Ok-clause-stores g c told =
    let s = g.S.Shelf in
    let name = c.request.inside.description.now in
    let desc = c.in_ok-desc.desc in
    let read = c.in_ok-desc.ensures.read in
    stored_store c.args.request.now (s.files c.args.shelf.now) name desc c.in-Ok.store (ap (λ (r : ProvisionRequest). r.description) c.request.view_is)
    (described_as (s.files c.args.shelf.now name) desc read.text (read.there told) read.judged) c.in-Ok.ensures.store

pub returns-clause-prepared : goal.returns-clause-prepared
returns-clause-prepared g c =
    let s = g.S.Shelf in
    let name = c.request.inside.description.now in
    let desc = c.in_ok-desc.desc in
    let shelf = c.load_description.new.shelf in
    rw c.refusal_of.ensures (prepares_on s.tells s.files s.faults s.failed c.args.shelf.now shelf shelf name desc (provision_rows c.args.request.now) (place_rows name desc) (Err (refusal_of c.in-Err.fail))
    (provision_read c.args.request.now name (ap (λ (r : ProvisionRequest). r.description) c.request.view_is) desc) (place_alike name desc) c.in_ok-desc.ensures.read c.in_ok-desc.ensures.loads
    (refused_rows Bytes s.tells s.files s.faults s.failed shelf (place_rows name desc) (judge_places desc) c.in-Err.fail (λ told. one_judged name (judge_places desc)) c.in-Err.ensures.judged))
