use Rattle.std.proofs.Common.{◌≡◌, ◌∙◌, ℕ, true, false, List, Some, None, sym, ap, arith, rules}
use Rattle.pfr_flash.specs.FlashState.{now}
use Rattle.pfr_flash.specs.FuseRow.{is_cleared, with_cleared}
use Rattle.pfr_flash.proofs.FollowsLemmas.{Follows-none, Follows-now}
use Rattle.pfr_flash.proofs.RangeLemmas.{length-now}
use Rattle.pfr_jobs.specs.LogState.{LogState, is_marked, log_of}
use Rattle.pfr_jobs.proofs.CallLaws.{stands_page, stands_last, stands_inside, mark_plan_is, mark_plan_set, mark_plan_none, mark_stands}
use Rattle.pfr_jobs.proofs.log.JobLog.mark_group.Goals as goal

pub returns-then-marked-clause-follows : goal.returns-then-marked-clause-follows
returns-then-marked-clause-follows g c =
    let set : is_marked (now (g.F.Flash.device c.args.nv.now)) c.args.self.now.bank c.args.group ≡ true =
    sym (ap (λ (l : LogState). is_cleared l.marks c.args.group) c.requires.stands) ∙ sym c.marked.ensures ∙ c.if-marked.true in
    rw (mark_plan_set _ _ _ set) (Follows-none _ _)

pub overflow_mul-k : goal.overflow_mul-k
overflow_mul-k g c = let h = stands_inside _ _ _ c.in-Some.k (c.self.view_is ∙ c.requires.stands) c.in-Some.is in omega (arith, h.0)

pub overflow_add-self-inside : goal.overflow_add-self-inside
overflow_add-self-inside g c = let h = stands_inside _ _ _ c.in-Some.k (c.self.view_is ∙ c.requires.stands) c.in-Some.is in omega (arith, h.0, h.1)

pub overflow_add-self-inside-in-Some : goal.overflow_add-self-inside-in-Some
overflow_add-self-inside-in-Some g c = let h = stands_inside _ _ _ c.in-Some.k (c.self.view_is ∙ c.requires.stands) c.in-Some.is in omega (arith, h.0, h.1)

pub clear_fuse-requires-clause-within : goal.clear_fuse-requires-clause-within
clear_fuse-requires-clause-within g c = let h = stands_inside _ _ _ c.in-Some.k (c.self.view_is ∙ c.requires.stands) c.in-Some.is in omega (arith, h.0, h.1, c.requires.size, c.requires.group)

pub returns-in_err-clear_fuse-clause-follows : goal.returns-in_err-clear_fuse-clause-follows
returns-in_err-clear_fuse-clause-follows g c =
    let s = c.self.view_is ∙ c.requires.stands in
    let unset : is_marked (now (g.F.Flash.device c.args.nv.now)) c.args.self.now.bank c.args.group ≡ false =
    sym (ap (λ (l : LogState). is_cleared l.marks c.args.group) c.requires.stands) ∙ sym c.marked.ensures ∙ c.if-marked.false in
    let same : c.from_residual.result ≡ c.clear_fuse.result = search rules in
    rw (mark_plan_is _ _ c.in-Some.k (stands_last _ _ _ c.in-Some.k s (Some c.in-Some.k) c.in-Some.is) _ unset, ← stands_page _ _ _ c.in-Some.k s, same) c.clear_fuse.ensures

pub returns-in_ok-clear_fuse-clause-follows : goal.returns-in_ok-clear_fuse-clause-follows
returns-in_ok-clear_fuse-clause-follows g c =
    let s = c.self.view_is ∙ c.requires.stands in
    let unset : is_marked (now (g.F.Flash.device c.args.nv.now)) c.args.self.now.bank c.args.group ≡ false =
    sym (ap (λ (l : LogState). is_cleared l.marks c.args.group) c.requires.stands) ∙ sym c.marked.ensures ∙ c.if-marked.false in
    rw (mark_plan_is _ _ c.in-Some.k (stands_last _ _ _ c.in-Some.k s (Some c.in-Some.k) c.in-Some.is) _ unset, ← stands_page _ _ _ c.in-Some.k s) c.in_ok-clear_fuse.ensures

pub returns-in_ok-clear_fuse-clause-stands : goal.returns-in_ok-clear_fuse-clause-stands
returns-in_ok-clear_fuse-clause-stands g c =
    let s = c.self.view_is ∙ c.requires.stands in
    let unset : is_marked (now (g.F.Flash.device c.args.nv.now)) c.args.self.now.bank c.args.group ≡ false =
    sym (ap (λ (l : LogState). is_cleared l.marks c.args.group) c.requires.stands) ∙ sym c.marked.ensures ∙ c.if-marked.false in
    let last = stands_last _ _ _ c.in-Some.k s (Some c.in-Some.k) c.in-Some.is in
    rw c.cleared-self-inside.ensures.bytes
    (ap (λ (l : LogState). record l { marks = with_cleared l.marks c.args.group }) s
    ∙ sym (mark_stands _ _ c.in-Some.k last c.args.group (length-now (g.F.Flash.device c.args.nv.now) ∙ c.requires.size) c.requires.group unset)
    ∙ sym (ap (λ (image : List ℕ). log_of image c.args.self.now.bank) (Follows-now _ _ _ _ (returns-in_ok-clear_fuse-clause-follows g c))))

pub returns-in_default-clause-follows : goal.returns-in_default-clause-follows
returns-in_default-clause-follows g c =
    let s = c.self.view_is ∙ c.requires.stands in
    let unset : is_marked (now (g.F.Flash.device c.args.nv.now)) c.args.self.now.bank c.args.group ≡ false =
    sym (ap (λ (l : LogState). is_cleared l.marks c.args.group) c.requires.stands) ∙ sym c.marked.ensures ∙ c.if-marked.false in
    rw (mark_plan_none _ _ _ unset (stands_last _ _ _ 0 s None c.in_default.is)) (Follows-none _ _)
