use Rattle.std.proofs.lemmas.Result.{err_from_is_err_and}
use Rattle.pfr_flash.proofs.EndsLemmas.{then_ends}
use Rattle.pfr_fuses.proofs.fuse_rows.CancelRows.read.Goals as goal

pub returns-in_err-pch_capsule-clause-ends : goal.returns-in_err-pch_capsule-clause-ends
returns-in_err-pch_capsule-clause-ends g c =
    let p = err_from_is_err_and c.from_residual-in_err-pch_capsule.result c.from_residual-in_err-pch_capsule.ensures.1 in
    rw (p.1, p.2) (then_ends c.in_ok-pch_manifest.ensures.ends c.in_err-pch_capsule.ensures.ends)

pub returns-in_err-bmc_manifest-clause-ends : goal.returns-in_err-bmc_manifest-clause-ends
returns-in_err-bmc_manifest-clause-ends g c =
    let p = err_from_is_err_and c.from_residual-in_err-bmc_manifest.result c.from_residual-in_err-bmc_manifest.ensures.1 in
    rw (p.1, p.2) (then_ends (then_ends c.in_ok-pch_manifest.ensures.ends c.in_ok-pch_capsule.ensures.ends) c.in_err-bmc_manifest.ensures.ends)

pub returns-in_err-bmc_capsule-clause-ends : goal.returns-in_err-bmc_capsule-clause-ends
returns-in_err-bmc_capsule-clause-ends g c =
    let p = err_from_is_err_and c.from_residual-in_err-bmc_capsule.result c.from_residual-in_err-bmc_capsule.ensures.1 in
    rw (p.1, p.2) (then_ends (then_ends (then_ends c.in_ok-pch_manifest.ensures.ends c.in_ok-pch_capsule.ensures.ends) c.in_ok-bmc_manifest.ensures.ends) c.in_err-bmc_capsule.ensures.ends)

pub returns-clause-ends : goal.returns-clause-ends
returns-clause-ends g c = then_ends (then_ends (then_ends c.in_ok-pch_manifest.ensures.ends c.in_ok-pch_capsule.ensures.ends) c.in_ok-bmc_manifest.ensures.ends) c.in_ok-bmc_capsule.ensures.ends
