use Rattle.std.proofs.Common.{◌∙◌}
use Rattle.std.proofs.lemmas.Result.{err_from_is_err_and}
use Rattle.pfr_flash.proofs.EndsLemmas.{then_ends, ends_content}
use Rattle.pfr_machine.proofs.VerdictLaw.{told_ready, told_sound}
use Rattle.pfr_machine.proofs.verdicts.judge_images.Goals as goal

pub returns-in_err-recovery-clause-ends : goal.returns-in_err-recovery-clause-ends
returns-in_err-recovery-clause-ends g c =
    let p = err_from_is_err_and c.from_residual-in_err-recovery.result c.from_residual-in_err-recovery.ensures.1 in
    rw (p.1, p.2) (then_ends c.in_ok-image.ensures.ends c.in_err-recovery.ensures.ends)

pub returns-in_err-staging-clause-ends : goal.returns-in_err-staging-clause-ends
returns-in_err-staging-clause-ends g c =
    let p = err_from_is_err_and c.from_residual-in_err-staging.result c.from_residual-in_err-staging.ensures.1 in
    rw (p.1, p.2) (then_ends (then_ends c.in_ok-image.ensures.ends c.in_ok-recovery.ensures.ends) c.in_err-staging.ensures.ends)

pub returns-clause-found : goal.returns-clause-found
returns-clause-found g c =
    let first = ends_content c.in_ok-image.ensures.ends in
    let second = ends_content c.in_ok-recovery.ensures.ends ∙ first in
    λ nv is. told_ready c.args.bank _ nv _ c.args.fuses.now is c.told.result c.floor.result c.in_ok-image.image c.in_ok-recovery.recovery c.in_ok-staging.staging
    c.told.ensures.tells c.told.ensures.same c.in_ok-image.ensures.trusted (rw second at c.in_ok-staging.ensures.good)
    c.floor.ensures.exact c.in_ok-image.ensures.found (rw first at c.in_ok-recovery.ensures.found) (rw second at c.in_ok-staging.ensures.found)

pub returns-clause-sound : goal.returns-clause-sound
returns-clause-sound g c =
    let first = ends_content c.in_ok-image.ensures.ends in
    let second = ends_content c.in_ok-recovery.ensures.ends ∙ first in
    λ nv is. told_sound c.args.bank _ nv _ c.args.fuses.now is c.told.result c.floor.result c.in_ok-image.image c.in_ok-recovery.recovery c.in_ok-staging.staging
    c.told.ensures.tells c.told.ensures.same c.in_ok-image.ensures.trusted (rw first at c.in_ok-recovery.ensures.good) (rw second at c.in_ok-staging.ensures.good)

pub returns-clause-ends : goal.returns-clause-ends
returns-clause-ends g c = then_ends (then_ends c.in_ok-image.ensures.ends c.in_ok-recovery.ensures.ends) c.in_ok-staging.ensures.ends
