use Rattle.std.proofs.Common.{◌∙◌, sym}
use Rattle.pfr_machine.proofs.ClearLemmas.{clears_failed}
use Rattle.pfr_machine.proofs.cancelling.clear_key.Goals as goal

pub returns-in-Some-clause-clears : goal.returns-in-Some-clause-clears
returns-in-Some-clause-clears g c = clears_failed c.args.cert.now c.args.fuses.now _ c.in-Err.why _ _ c.in-Some.fail (sym c.failure.ensures ∙ c.in-Some.is) c.in-Err.ensures.applies
