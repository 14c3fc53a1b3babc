use Rattle.std.proofs.Common.{◌≡◌, Err, rules}
use Rattle.std.proofs.lemmas.Result.{err_from_is_err_and}
use Rattle.pfr_fuses.specs.declared.fuse_fail.FuseFail.TheVariants.{Flash}
use Rattle.pfr_fuses.proofs.BlankLemmas.{judged-ok}
use Rattle.pfr_fuses.proofs.ProvisionLemmas.{provisions-refused, provisions-done, provisions-failed}
use Rattle.pfr_fuses.proofs.provisioning.provision_slot.Goals as goal

pub program_slot-requires-clause-number : goal.program_slot-requires-clause-number
program_slot-requires-clause-number g c = (judged-ok _ _ _ _ _ c.in_ok-number.ensures.exact).slot.within

pub returns-in_err-number-clause-exact : goal.returns-in_err-number-clause-exact
returns-in_err-number-clause-exact g c =
    let p = err_from_is_err_and c.from_residual.result c.from_residual.ensures.1 in
    rw (p.1, p.2) (provisions-refused c.args.what.now _ _ _ _ c.in_err-number.ensures.exact c.in_err-number.ensures.ends)

pub returns-in_err-program_slot-clause-exact : goal.returns-in_err-program_slot-clause-exact
returns-in_err-program_slot-clause-exact g c =
    let same : c.from_residual-in_err-program_slot.result ≡ Err (Flash c.in_err-program_slot.field-0.0) = search rules in
    rw same (provisions-failed c.args.what.now _ _ _ c.in_ok-number.number _ _ c.in_ok-number.ensures.exact c.in_ok-number.ensures.ends (rw (← c.to_slot-bytes.ensures.bytes) c.in_err-program_slot.ensures))

pub returns-clause-exact : goal.returns-clause-exact
returns-clause-exact g c =
    provisions-done c.args.what.now _ _ _ c.in_ok-number.number _ _ c.in_ok-number.ensures.exact c.in_ok-number.ensures.ends (rw (← c.to_slot-bytes.ensures.bytes) c.in_ok-program_slot.ensures)
