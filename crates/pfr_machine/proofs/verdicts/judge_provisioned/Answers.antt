use Rattle.pfr_flash.proofs.RangeLemmas.{length-now}
use Rattle.pfr_flash.proofs.EndsLemmas.{EndsAt-refl}
use Rattle.pfr_machine.proofs.JudgeLemmas.{judge_as}
use Rattle.pfr_machine.proofs.verdicts.judge_provisioned.Goals as goal

pub returns-in-Err-clause-ends : goal.returns-in-Err-clause-ends
returns-in-Err-clause-ends g c = EndsAt-refl _

pub returns-in-Err-clause-found : goal.returns-in-Err-clause-found
returns-in-Err-clause-found g c =
    let j = judge_as c.args.bank _ _ _ _ _ _ _ c.judge.ensures.exact c.in-Err.is c.layout-layout.ensures c.provision.ensures c.size.ensures in
    λ nv is. rw (length-now (g.F.Flash.device c.args.flash.now), j) c.untold.ensures.found

pub returns-in-Ok-clause-found : goal.returns-in-Ok-clause-found
returns-in-Ok-clause-found g c =
    let j = judge_as c.args.bank _ _ _ _ _ _ _ c.judge.ensures.exact c.in-Ok.is c.layout-layout.ensures c.provision.ensures c.size.ensures in
    rw (length-now (g.F.Flash.device c.args.flash.now), j) c.judge_images.ensures.found
