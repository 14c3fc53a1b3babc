use Rattle.std.proofs.lemmas.Result.{err_from_is_err_and}
use Rattle.pfr_flash.proofs.EndsLemmas.{then_ends}
use Rattle.pfr_fuses.proofs.fuses.loaded.Goals as goal

pub returns-in_err-profile-clause-ends : goal.returns-in_err-profile-clause-ends
returns-in_err-profile-clause-ends g c =
    let p = err_from_is_err_and c.from_residual-in_err-profile.result c.from_residual-in_err-profile.ensures.1 in
    rw (p.1, p.2) (then_ends c.in_ok-slot.ensures.ends c.in_err-profile.ensures.ends)

pub returns-in_err-floors-clause-ends : goal.returns-in_err-floors-clause-ends
returns-in_err-floors-clause-ends g c =
    let p = err_from_is_err_and c.from_residual-in_err-floors.result c.from_residual-in_err-floors.ensures.1 in
    rw (p.1, p.2) (then_ends (then_ends c.in_ok-slot.ensures.ends c.in_ok-profile.ensures.ends) c.in_err-floors.ensures.ends)

pub returns-in_err-rows-clause-ends : goal.returns-in_err-rows-clause-ends
returns-in_err-rows-clause-ends g c =
    let p = err_from_is_err_and c.from_residual-in_err-rows.result c.from_residual-in_err-rows.ensures.1 in
    rw (p.1, p.2) (then_ends (then_ends (then_ends c.in_ok-slot.ensures.ends c.in_ok-profile.ensures.ends) c.in_ok-floors.ensures.ends) c.in_err-rows.ensures.ends)

pub returns-clause-ends : goal.returns-clause-ends
returns-clause-ends g c = then_ends (then_ends (then_ends c.in_ok-slot.ensures.ends c.in_ok-profile.ensures.ends) c.in_ok-floors.ensures.ends) c.in_ok-rows.ensures.ends
