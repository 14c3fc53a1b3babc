use Rattle.std.proofs.Common.{◌≡◌, Err, rules}
use Rattle.pfr_flash.proofs.FollowsLemmas.{Follows-does, Follows-step, Follows-stop}
use Rattle.pfr_fuses.proofs.clearing.program_fuses.Goals as goal

pub returns-in_err-program-clause-follows : goal.returns-in_err-program-clause-follows
returns-in_err-program-clause-follows g c =
    let same : c.from_residual-in_err-program.result ≡ Err c.in_err-program.field-0.0 = search rules in
    Follows-step _ _ _ _ _ _ c.in_ok-erase.field-0 _ c.erase.ensures c.in_ok-erase.was (Follows-stop _ _ _ _ _ _ _ c.program.ensures c.in_err-program.was same)

pub returns-clause-follows : goal.returns-clause-follows
returns-clause-follows g c =
    Follows-step _ _ _ _ _ _ c.in_ok-erase.field-0 _ c.erase.ensures c.in_ok-erase.was
    (Follows-step _ _ _ _ _ _ c.in_ok-program.field-0 _ c.program.ensures c.in_ok-program.was (Follows-does _ _ _ _ c.program-2.ensures))

pub returns-clause-bytes : goal.returns-clause-bytes
returns-clause-bytes g c = λ i below. c.fits-fuses i
