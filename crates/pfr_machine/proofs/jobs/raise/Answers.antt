use Rattle.std.proofs.Common.{◌∙◌, sym}
use Rattle.pfr_flash.specs.FlashState.{now}
use Rattle.pfr_flash.proofs.RangeLemmas.{length-now}
use Rattle.pfr_fuses.proofs.StandsLemmas.{fuses_of-stands}
use Rattle.pfr_machine.proofs.LogLemmas.{length_stays, raised_logs}
use Rattle.pfr_machine.proofs.jobs.raise.Goals as goal

pub raise-requires-clause-profile : goal.raise-requires-clause-profile
raise-requires-clause-profile g c =
    let stands = fuses_of-stands _ c.args.fuses.now (length-now (g.F.Flash.device c.args.nv.now) ∙ c.requires.size) c.requires.found in
    sym stands.profile ∙ c.requires.two

pub raise-requires-clause-stands : goal.raise-requires-clause-stands
raise-requires-clause-stands g c =
    let stands = fuses_of-stands _ c.args.fuses.now (length-now (g.F.Flash.device c.args.nv.now) ∙ c.requires.size) c.requires.found in
    stands.floors c.args.bank

pub returns-clause-logs : goal.returns-clause-logs
returns-clause-logs g c = λ which.
    raised_logs c.args.bank which (now (g.F.Flash.device c.args.nv.now)) (now (g.F.Flash.device c.raise.new.nv)) (length-now (g.F.Flash.device c.args.nv.now) ∙ c.requires.size)
    (length_stays (g.F.Flash.device c.args.nv.now) (g.F.Flash.device c.raise.new.nv) c.raise.ensures.follows.worked.moved.start) c.raise.ensures.outside
