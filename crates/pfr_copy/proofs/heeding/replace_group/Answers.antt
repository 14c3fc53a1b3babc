use Rattle.std.proofs.Common.{◌∙◌, ◌/◌, ℕ, length, ap, sym, refl, inl, inr, arith}
use Rattle.pfr_flash.specs.FlashState.{now}
use Rattle.pfr_flash.proofs.RangeLemmas.{length-now}
use Rattle.pfr_jobs.specs.LogPlans.{mark_plan}
use Rattle.pfr_rebuilt.specs.Passing.{group_pages}
use Rattle.pfr_strokes.specs.Replaced.{has_pages}
use Rattle.pfr_copy.specs.Working.{is_job_page, job_page}
use Rattle.pfr_copy.proofs.GroupSteps.{group_ends, group_halts, group_marks, group_stops, same_group}
use Rattle.pfr_copy.proofs.HeedLemmas.{some_pages}
use Rattle.pfr_copy.proofs.heeding.replace_group.Goals as goal

pub returns-in-Ok-clause-passes : goal.returns-in-Ok-clause-passes
returns-in-Ok-clause-passes g c =
    let d = g.F.Flash.device c.args.flash.now in
    let content = job_page c.args.kind (now d) c.args.capsule.now c.args.layout.now in
    let test = is_job_page c.args.kind (now d) c.args.capsule.now c.args.layout.now in
    let size : ℕ = length (now (g.F.Flash.device c.args.flash.now)) in
    let is = same_group test c.group_pages-count.result (group_pages size) _ (size / 4096) c.args.group c.min-from.result c.min-to.result
    (c.group_pages-count.ensures ∙ ap (λ (n : ℕ). group_pages n) (c.size.ensures ∙ sym (length-now d))) (omega (arith, c.size-all.ensures, length-now d)) c.min-from.ensures c.min-to.ensures in
    group_marks content test (mark_plan (now (g.F.Flash.device c.args.nv.now)) c.args.jobs.now.bank) (group_pages size) (size / 4096) c.args.group (some_pages size) _ is (record { bank = d; store = g.F.Flash.device c.args.nv.now }) (g.F.Flash.device c.replace_pages.new.flash) _ c.in-Ok-true.field-0 c.in-Ok-true.ensures.follows
    (sym c.in-Ok-true.field-0-test ∙ c.in-Ok-true.ensures.some) (g.F.Flash.device c.mark.new.nv) c.in-Ok.field-0 c.in-Ok.ensures.follows

pub returns-in-Err-mark-clause-passes : goal.returns-in-Err-mark-clause-passes
returns-in-Err-mark-clause-passes g c =
    let d = g.F.Flash.device c.args.flash.now in
    let content = job_page c.args.kind (now d) c.args.capsule.now c.args.layout.now in
    let test = is_job_page c.args.kind (now d) c.args.capsule.now c.args.layout.now in
    let size : ℕ = length (now (g.F.Flash.device c.args.flash.now)) in
    let is = same_group test c.group_pages-count.result (group_pages size) _ (size / 4096) c.args.group c.min-from.result c.min-to.result
    (c.group_pages-count.ensures ∙ ap (λ (n : ℕ). group_pages n) (c.size.ensures ∙ sym (length-now d))) (omega (arith, c.size-all.ensures, length-now d)) c.min-from.ensures c.min-to.ensures in
    group_halts content test (mark_plan (now (g.F.Flash.device c.args.nv.now)) c.args.jobs.now.bank) (group_pages size) (size / 4096) c.args.group (some_pages size) _ is (record { bank = d; store = g.F.Flash.device c.args.nv.now }) (g.F.Flash.device c.replace_pages.new.flash) _ c.in-Ok-true.field-0 c.in-Ok-true.ensures.follows
    (sym c.in-Ok-true.field-0-test ∙ c.in-Ok-true.ensures.some) (g.F.Flash.device c.mark.new.nv) c.in-Err-mark.fail c.in-Err-mark.ensures.follows

pub returns-in-Ok-false-clause-passes : goal.returns-in-Ok-false-clause-passes
returns-in-Ok-false-clause-passes g c =
    let d = g.F.Flash.device c.args.flash.now in
    let content = job_page c.args.kind (now d) c.args.capsule.now c.args.layout.now in
    let test = is_job_page c.args.kind (now d) c.args.capsule.now c.args.layout.now in
    let size : ℕ = length (now (g.F.Flash.device c.args.flash.now)) in
    let is = same_group test c.group_pages-count.result (group_pages size) _ (size / 4096) c.args.group c.min-from.result c.min-to.result
    (c.group_pages-count.ensures ∙ ap (λ (n : ℕ). group_pages n) (c.size.ensures ∙ sym (length-now d))) (omega (arith, c.size-all.ensures, length-now d)) c.min-from.ensures c.min-to.ensures in
    group_ends content test (mark_plan (now (g.F.Flash.device c.args.nv.now)) c.args.jobs.now.bank) (group_pages size) (size / 4096) c.args.group (some_pages size) _ is (record { bank = d; store = g.F.Flash.device c.args.nv.now }) (g.F.Flash.device c.replace_pages.new.flash) _ c.in-Ok-false.field-0 c.in-Ok-false.ensures.follows (sym c.in-Ok-false.field-0-test ∙ c.in-Ok-false.ensures.some)

pub returns-in-Err-clause-passes : goal.returns-in-Err-clause-passes
returns-in-Err-clause-passes g c =
    let d = g.F.Flash.device c.args.flash.now in
    let content = job_page c.args.kind (now d) c.args.capsule.now c.args.layout.now in
    let test = is_job_page c.args.kind (now d) c.args.capsule.now c.args.layout.now in
    let size : ℕ = length (now (g.F.Flash.device c.args.flash.now)) in
    let is = same_group test c.group_pages-count.result (group_pages size) _ (size / 4096) c.args.group c.min-from.result c.min-to.result
    (c.group_pages-count.ensures ∙ ap (λ (n : ℕ). group_pages n) (c.size.ensures ∙ sym (length-now d))) (omega (arith, c.size-all.ensures, length-now d)) c.min-from.ensures c.min-to.ensures in
    group_stops content test (mark_plan (now (g.F.Flash.device c.args.nv.now)) c.args.jobs.now.bank) (group_pages size) (size / 4096) c.args.group (some_pages size) _ is (record { bank = d; store = g.F.Flash.device c.args.nv.now }) (g.F.Flash.device c.replace_pages.new.flash) c.in-Err.fail c.in-Err.ensures.follows

pub returns-in-Err-mark-clause-early : goal.returns-in-Err-mark-clause-early
returns-in-Err-mark-clause-early g c =
    let d = g.F.Flash.device c.args.flash.now in
    let test = is_job_page c.args.kind (now d) c.args.capsule.now c.args.layout.now in
    let size : ℕ = length (now (g.F.Flash.device c.args.flash.now)) in
    let is = same_group test c.group_pages-count.result (group_pages size) _ (size / 4096) c.args.group c.min-from.result c.min-to.result
    (c.group_pages-count.ensures ∙ ap (λ (n : ℕ). group_pages n) (c.size.ensures ∙ sym (length-now d))) (omega (arith, c.size-all.ensures, length-now d)) c.min-from.ensures c.min-to.ensures in
    inr (ap has_pages (sym is) ∙ sym (sym c.in-Ok-true.field-0-test ∙ c.in-Ok-true.ensures.some))

pub returns-in-Err-clause-early : goal.returns-in-Err-clause-early
returns-in-Err-clause-early g c = inl refl
