use Rattle.std.proofs.Common.{◌+◌, ◌≤◌}
use Rattle.std.proofs.lemmas.Result.{IfOk-weaker}
use Rattle.pfr_flash.proofs.AnswerLemmas.{answered}
use Rattle.pfr_chain.proofs.ChainLaw.{judge_holds, judge_ends, IsChain-inside}
use Rattle.pfr_chain.proofs.judging.verify.Goals as goal

pub returns-clause-ok : goal.returns-clause-ok
returns-clause-ok g c = answered _ _ _ _ c.judged.ensures.exact (λ chain h. judge_holds _ _ _ _ _ _ _ chain h)

pub returns-clause-only : goal.returns-clause-only
returns-clause-only g c = λ chain h. rw (judge_ends _ _ _ _ _ _ _ _ h) at c.judged.ensures.exact

pub returns-clause-some : goal.returns-clause-some
returns-clause-some g c = IfOk-weaker c.judged.result _ _ (λ chain is. (IsChain-inside _ _ _ _ _ _ _ chain is).1) (returns-clause-ok g c)

pub returns-clause-within : goal.returns-clause-within
returns-clause-within g c = IfOk-weaker c.judged.result _ (λ chain. chain.content_at + chain.length ≤ c.args.place + c.args.len) (λ chain is. (IsChain-inside _ _ _ _ _ _ _ chain is).2) (returns-clause-ok g c)
