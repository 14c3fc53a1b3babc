use Rattle.std.proofs.Common.{arith}
use Rattle.std.proofs.lemmas.Result.{err_from_is_err_and}
use Rattle.pfr_flash.proofs.EndsLemmas.{ends_content}
use Rattle.pfr_auth.proofs.Parts.{regions_refused}
use Rattle.pfr_auth.proofs.judging.judged.Goals as goal

pub returns-in_err-check_regions-clause-exact : goal.returns-in_err-check_regions-clause-exact
returns-in_err-check_regions-clause-exact g c =
    let p = err_from_is_err_and c.from_residual-in_err-check_regions.result c.from_residual-in_err-check_regions.ensures.1 in
    rw (p.1, p.2) (regions_refused (g.F.Flash.device c.args.flash.now) (g.F.Flash.device c.signed_manifest.new.flash)
    c.args.bank c.args.fuses.now (g.E.Engine.accepts c.args.engine.now) c.in_ok-manifest.manifest c.in_err-check_regions.field-0.0 (ends_content c.in_ok-manifest.ensures.ends) c.in_ok-manifest.ensures.exact
    (omega (arith, c.if-from-floor.false, c.floor.ensures.exact, c.from.ensures)) c.in_err-check_regions.ensures.exact)
