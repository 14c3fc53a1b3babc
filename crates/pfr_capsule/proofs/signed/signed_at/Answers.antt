use Rattle.std.proofs.Common.{arith}
use Rattle.std.proofs.lemmas.Result.{err_from_is_err_and}
use Rattle.pfr_capsule.proofs.Parts.{manifest_refused, below_floor, signed_found, signed_is}
use Rattle.pfr_capsule.proofs.signed.signed_at.Goals as goal

pub returns-in_err-manifest-clause-exact : goal.returns-in_err-manifest-clause-exact
returns-in_err-manifest-clause-exact g c =
    let p = err_from_is_err_and c.from_residual-in_err-manifest.result c.from_residual-in_err-manifest.ensures.1 in
    rw (p.1, p.2) (manifest_refused _ _ _ _ _ _ _ _ c.in_ok-capsule.ensures.ends c.in_ok-inner.ensures.ends c.in_ok-capsule.ensures.exact c.in_ok-inner.ensures.exact c.in_err-manifest.field-0.0 c.in_err-manifest.ensures.exact)

pub returns-then-from-floor-clause-exact : goal.returns-then-from-floor-clause-exact
returns-then-from-floor-clause-exact g c =
    below_floor _ _ _ _ _ _ _ _ c.in_ok-capsule.ensures.ends c.in_ok-inner.ensures.ends c.in_ok-capsule.ensures.exact c.in_ok-inner.ensures.exact
    c.in_ok-manifest.manifest c.in_ok-manifest.ensures.exact (omega (arith, c.if-from-floor.true, c.floor.ensures.exact, c.from.ensures))

pub returns-clause-ok : goal.returns-clause-ok
returns-clause-ok g c =
    signed_is _ _ _ _ _ _ _ _ c.in_ok-capsule.ensures.ends c.in_ok-inner.ensures.ends c.in_ok-capsule.ensures.exact c.in_ok-inner.ensures.exact
    c.in_ok-manifest.manifest c.in_ok-capsule.ensures.ok c.in_ok-inner.ensures.ok c.in_ok-manifest.ensures.ok (omega (arith, c.if-from-floor.false, c.floor.ensures.exact, c.from.ensures))

pub returns-clause-exact : goal.returns-clause-exact
returns-clause-exact g c =
    signed_found _ _ _ _ _ _ _ _ c.in_ok-capsule.ensures.ends c.in_ok-inner.ensures.ends c.in_ok-capsule.ensures.exact c.in_ok-inner.ensures.exact
    c.in_ok-manifest.manifest c.in_ok-manifest.ensures.exact (omega (arith, c.if-from-floor.false, c.floor.ensures.exact, c.from.ensures))
