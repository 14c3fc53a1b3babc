use Rattle.std.proofs.Common.{◌∙◌, ap, inl, inr, refl, subst, arith}
use Rattle.std.proofs.lemmas.Result.{err_from_is_err_and}
use Rattle.pfr_flash.specs.FlashState.{now}
use Rattle.pfr_shelf.specs.Files.{Files, SameBut, put_file}
use Rattle.pfr.specs.declared.status.Role.TheVariants.{Bmc, Pch, Nv}
use Rattle.pfr.proofs.StoringLemmas.{refuses_image}
use Rattle.pfr.proofs.storing.store_images.Goals as goal

pub returns-in_err-store_file-clause-err : goal.returns-in_err-store_file-clause-err
returns-in_err-store_file-clause-err g c =
    let s = g.S.Shelf in
    let names = c.request.inside in
    let old = c.args.shelf.now in
    let new = c.store_file.new.shelf in
    let p = err_from_is_err_and c.from_residual.result c.from_residual.ensures.1 in
    rw (← c.request.view_is, p.1, p.2) (refuses_image Bmc names.bmc.now s.tells (s.files old) (s.files new) (s.faults old) (s.faults old) (s.faults new) (s.failed new) _ c.args.bench.now _
    c.in_err-store_file.ensures.err (omega arith) (λ f. inl (refl, f)) c.store_file.ensures.others)

pub returns-in_err-store_file-2-clause-err : goal.returns-in_err-store_file-2-clause-err
returns-in_err-store_file-2-clause-err g c =
    let s = g.S.Shelf in
    let names = c.request.inside in
    let old = c.args.shelf.now in
    let mid = c.store_file.new.shelf in
    let new = c.store_file-2.new.shelf in
    let p = err_from_is_err_and c.from_residual-in_err-store_file-2.result c.from_residual-in_err-store_file-2.ensures.1 in
    rw (← c.request.view_is, p.1, p.2) (refuses_image Pch names.pch.now s.tells (s.files old) (s.files new) (s.faults old) (s.faults mid) (s.faults new) (s.failed new) _ c.args.bench.now _
    c.in_err-store_file-2.ensures.err c.store_file.ensures.stores.later (λ f. inr (inl (refl, f)))
    (λ told. subst (λ (f : Files). SameBut names.pch.now f (s.files new)) (c.in_ok-store_file.ensures.stores.ok told ∙ ap (put_file (s.files old) names.bmc.now) c.bytes.ensures) (c.store_file-2.ensures.others told)))

pub returns-in_err-store_file-3-clause-err : goal.returns-in_err-store_file-3-clause-err
returns-in_err-store_file-3-clause-err g c =
    let s = g.S.Shelf in
    let names = c.request.inside in
    let old = c.args.shelf.now in
    let mid = c.store_file.new.shelf in
    let next = c.store_file-2.new.shelf in
    let new = c.store_file-3.new.shelf in
    let first = c.store_file.ensures.stores.later in
    let second = c.store_file-2.ensures.stores.later in
    let p = err_from_is_err_and c.from_residual-in_err-store_file-3.result c.from_residual-in_err-store_file-3.ensures.1 in
    rw (← c.request.view_is, p.1, p.2) (refuses_image Nv names.nv.now s.tells (s.files old) (s.files new) (s.faults old) (s.faults next) (s.faults new) (s.failed new) _ c.args.bench.now _
    c.in_err-store_file-3.ensures.err (omega arith) (λ f. inr (inr (inl (refl, f))))
    (λ told. subst (λ (f : Files). SameBut names.nv.now f (s.files new))
    (c.in_ok-store_file-2.ensures.stores.ok told ∙ (ap (put_file (s.files mid) names.pch.now) c.bytes-2.ensures
    ∙ ap (λ (f : Files). put_file f names.pch.now (now c.args.bench.now.pch.device)) (c.in_ok-store_file.ensures.stores.ok told ∙ ap (put_file (s.files old) names.bmc.now) c.bytes.ensures)))
    (c.store_file-3.ensures.others told)))
