use Rattle.std.proofs.lemmas.Result.{err_from_is_err_and}
use Rattle.pfr_flash.proofs.EndsLemmas.{then_ends}
use Rattle.pfr_fuses.proofs.fuse_rows.Floors.read.Goals as goal

pub returns-in_err-pch-clause-ends : goal.returns-in_err-pch-clause-ends
returns-in_err-pch-clause-ends g c =
    let p = err_from_is_err_and c.from_residual-in_err-pch.result c.from_residual-in_err-pch.ensures.1 in
    rw (p.1, p.2) (then_ends c.in_ok-bmc.ensures.ends c.in_err-pch.ensures.ends)

pub returns-clause-ends : goal.returns-clause-ends
returns-clause-ends g c = then_ends c.in_ok-bmc.ensures.ends c.in_ok-pch.ensures.ends
