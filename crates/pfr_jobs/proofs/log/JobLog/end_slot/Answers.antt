use Rattle.std.proofs.Common.{◌≡◌, ◌∙◌, ℕ, List, Some, None, Err, sym, ap, arith, rules}
use Rattle.pfr_flash.proofs.FollowsLemmas.{Follows-none, Follows-step, Follows-stop, Follows-now}
use Rattle.pfr_flash.proofs.RangeLemmas.{length-now}
use Rattle.pfr_jobs.specs.LogState.{LogState, log_of}
use Rattle.pfr_jobs.specs.declared.job.OpenJob.TheVariants as job
use Rattle.pfr_jobs.proofs.CallLaws.{stands_page, stands_last, stands_inside, finish_plan_is, finish_plan_none, finish_stands}
use Rattle.pfr_jobs.proofs.log.JobLog.end_slot.Goals as goal

pub overflow_mul-k : goal.overflow_mul-k
overflow_mul-k g c = let h = stands_inside _ _ _ c.in-Some.k (c.self.view_is ∙ c.requires.stands) c.in-Some.is in omega (arith, h.0)

pub overflow_add-self-inside : goal.overflow_add-self-inside
overflow_add-self-inside g c = let h = stands_inside _ _ _ c.in-Some.k (c.self.view_is ∙ c.requires.stands) c.in-Some.is in omega (arith, h.0, h.1)

pub overflow_add-self-inside-in-Some : goal.overflow_add-self-inside-in-Some
overflow_add-self-inside-in-Some g c = let h = stands_inside _ _ _ c.in-Some.k (c.self.view_is ∙ c.requires.stands) c.in-Some.is in omega (arith, h.0, h.1)

pub program-requires-clause-within : goal.program-requires-clause-within
program-requires-clause-within g c = let h = stands_inside _ _ _ c.in-Some.k (c.self.view_is ∙ c.requires.stands) c.in-Some.is in omega (arith, h.0, h.1, c.requires.size)

pub returns-in_err-program-clause-follows : goal.returns-in_err-program-clause-follows
returns-in_err-program-clause-follows g c =
    let s = c.self.view_is ∙ c.requires.stands in
    let same : c.from_residual.result ≡ Err c.in_err-program.field-0.0 = search rules in
    rw (finish_plan_is _ _ c.in-Some.k (stands_last _ _ _ c.in-Some.k s (Some c.in-Some.k) c.in-Some.is), ← stands_page _ _ _ c.in-Some.k s)
    (Follows-stop _ _ _ _ _ _ _ c.program.ensures c.in_err-program.was same)

pub returns-in_ok-program-clause-follows : goal.returns-in_ok-program-clause-follows
returns-in_ok-program-clause-follows g c =
    let s = c.self.view_is ∙ c.requires.stands in
    rw (finish_plan_is _ _ c.in-Some.k (stands_last _ _ _ c.in-Some.k s (Some c.in-Some.k) c.in-Some.is), ← stands_page _ _ _ c.in-Some.k s)
    (Follows-step _ _ _ _ _ _ _ _ c.program.ensures c.in_ok-program.was (Follows-none _ _))

pub returns-in_ok-program-clause-stands : goal.returns-in_ok-program-clause-stands
returns-in_ok-program-clause-stands g c =
    let s = c.self.view_is ∙ c.requires.stands in
    let last = stands_last _ _ _ c.in-Some.k s (Some c.in-Some.k) c.in-Some.is in
    ap (λ (l : LogState). record l { job = job.None }) s ∙ sym (finish_stands _ _ c.in-Some.k last (length-now (g.F.Flash.device c.args.nv.now) ∙ c.requires.size) (λ none. c.requires.open (ap (λ (l : LogState). l.job) c.requires.stands ∙ none)))
    ∙ sym (ap (λ (image : List ℕ). log_of image c.args.self.now.bank) (Follows-now _ _ _ _ (returns-in_ok-program-clause-follows g c)))

pub returns-in_default-clause-follows : goal.returns-in_default-clause-follows
returns-in_default-clause-follows g c =
    let s = c.self.view_is ∙ c.requires.stands in
    rw (finish_plan_none _ _ (stands_last _ _ _ 0 s None c.in_default.is)) (Follows-none _ _)
