use Rattle.pfr_flash.proofs.AnswerLemmas.{answered}
use Rattle.pfr_flash.proofs.HoldingLemmas.{bytes_at_now}
use Rattle.pfr_manifest.proofs.ReadingLaw.{judge_holds}
use Rattle.pfr_manifest.proofs.FindingLaw.{judge_ends}
use Rattle.pfr_manifest.proofs.manifest.Manifest.read.Goals as goal

pub returns-clause-ok : goal.returns-clause-ok
returns-clause-ok g c =
    answered _ _ _ _ c.judged.ensures.exact (λ m h. judge_holds _ _ _ m (bytes_at_now _ c.args.place c.args.size (g.met.F.Flash.holds_bytes c.args.flash.now)) h)

pub returns-clause-only : goal.returns-clause-only
returns-clause-only g c = λ m is. rw (judge_ends _ _ _ m is) at c.judged.ensures.exact
