use Rattle.std.proofs.Common.{◌∙◌, sym}
use Rattle.pfr_flash.specs.FlashState.{now}
use Rattle.pfr_flash.proofs.RangeLemmas.{length-now}
use Rattle.pfr_fuses.proofs.StandsLemmas.{fuses_of-stands}
use Rattle.pfr_machine.proofs.ClearLemmas.{applies_length}
use Rattle.pfr_machine.proofs.LogLemmas.{cancelled_logs}
use Rattle.pfr_machine.proofs.cancelling.apply_beside.Goals as goal

pub apply_cert-requires-clause-profile : goal.apply_cert-requires-clause-profile
apply_cert-requires-clause-profile g c =
    let stands = fuses_of-stands _ c.args.fuses.now (length-now (g.F.Flash.device c.args.nv.now) ∙ c.requires.size) c.requires.found in
    sym stands.profile ∙ c.requires.two

pub apply_cert-requires-clause-stands : goal.apply_cert-requires-clause-stands
apply_cert-requires-clause-stands g c =
    let stands = fuses_of-stands _ c.args.fuses.now (length-now (g.F.Flash.device c.args.nv.now) ∙ c.requires.size) c.requires.found in
    stands.rows c.args.cert.now.ty

pub apply_cert-requires-in-Err-clause-profile : goal.apply_cert-requires-in-Err-clause-profile
apply_cert-requires-in-Err-clause-profile g c =
    let stands = fuses_of-stands _ c.args.fuses.now (length-now (g.F.Flash.device c.args.nv.now) ∙ c.requires.size) c.requires.found in
    sym stands.profile ∙ c.requires.two

pub apply_cert-requires-in-Err-clause-stands : goal.apply_cert-requires-in-Err-clause-stands
apply_cert-requires-in-Err-clause-stands g c =
    let stands = fuses_of-stands _ c.args.fuses.now (length-now (g.F.Flash.device c.args.nv.now) ∙ c.requires.size) c.requires.found in
    stands.rows c.args.cert.now.ty

pub returns-in-Ok-clause-logs : goal.returns-in-Ok-clause-logs
returns-in-Ok-clause-logs g c = λ which.
    cancelled_logs c.args.cert.now.ty which (now (g.F.Flash.device c.args.nv.now)) (now (g.F.Flash.device c.apply_cert.new.nv)) c.requires.signing (length-now (g.F.Flash.device c.args.nv.now) ∙ c.requires.size)
    (applies_length _ _ (g.F.Flash.device c.args.nv.now) (g.F.Flash.device c.apply_cert.new.nv) _ c.apply_cert.ensures.applies) c.apply_cert.ensures.outside

pub returns-in-Err-clause-logs : goal.returns-in-Err-clause-logs
returns-in-Err-clause-logs g c = λ which.
    cancelled_logs c.args.cert.now.ty which (now (g.F.Flash.device c.args.nv.now)) (now (g.F.Flash.device c.apply_cert-in-Err.new.nv)) c.requires.signing (length-now (g.F.Flash.device c.args.nv.now) ∙ c.requires.size)
    (applies_length _ _ (g.F.Flash.device c.args.nv.now) (g.F.Flash.device c.apply_cert-in-Err.new.nv) _ c.apply_cert-in-Err.ensures.applies) c.apply_cert-in-Err.ensures.outside
