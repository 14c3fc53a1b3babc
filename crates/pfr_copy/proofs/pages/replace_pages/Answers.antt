use Rattle.std.proofs.Common.{◌∙◌, ◌/◌, ◌-◌, ◌<◌, length, ap, refl, arith, Err}
use Rattle.std.proofs.lemmas.Result.{err_from_is_err_and}
use Rattle.pfr_flash.specs.FlashState.{now}
use Rattle.pfr_flash.specs.declared.flash.FlashFail.{FlashFail}
use Rattle.pfr_flash.proofs.RangeLemmas.{length-now}
use Rattle.pfr_copy.specs.Working.{is_job_page, job_page}
use Rattle.pfr_copy.proofs.JobLaw.{between_are, plan_same, same_at}
use Rattle.pfr_copy.proofs.PlanLemmas.{copied_none, copied_more, copied_part, has_none, has_more}
use Rattle.pfr_copy.proofs.pages.replace_pages.Goals as goal

pub loop-n-init : goal.loop-n-init
loop-n-init g c =
    let d = g.F.Flash.device c.args.flash.now in
    record {
      low = omega arith;
      high = c.requires.rising;
      follows = copied_none (job_page c.args.kind (now d) c.args.capsule.now c.args.layout.now) (is_job_page c.args.kind (now d) c.args.capsule.now c.args.layout.now) c.args.from c.args.from d refl;
      some = has_none (job_page c.args.kind (now d) c.args.capsule.now c.args.layout.now) (is_job_page c.args.kind (now d) c.args.capsule.now c.args.layout.now) c.args.from c.args.from refl;
    }

pub replace_page-requires-clause-can : goal.replace_page-requires-clause-can
replace_page-requires-clause-can g c =
    let d = g.F.Flash.device c.args.flash.now in
    let few : c.loop-n.n < length (now (g.F.Flash.device c.args.flash.now)) / 4096 = omega (arith, c.loop-n-test.true, c.requires.inside, length-now (g.F.Flash.device c.args.flash.now)) in
    (same_at c.args.kind c.args.capsule.now c.args.layout.now d c.requires.can (g.met.F.Flash.holds_bytes c.args.flash.now) _ (g.F.Flash.device c.loop-n.flash)
    (between_are c.args.kind (now d) c.args.capsule.now c.args.layout.now c.args.from (c.loop-n.n - c.args.from) (omega (arith, few, c.loop-n.invariant.low))) c.loop-n.invariant.follows).can

pub returns-in_err-some-clause-follows : goal.returns-in_err-some-clause-follows
returns-in_err-some-clause-follows g c =
    let d = g.F.Flash.device c.args.flash.now in
    let p = err_from_is_err_and c.from_residual.result c.from_residual.ensures.1 in
    let few : c.loop-n.n < length (now (g.F.Flash.device c.args.flash.now)) / 4096 = omega (arith, c.loop-n-test.true, c.requires.inside, length-now (g.F.Flash.device c.args.flash.now)) in
    let s = same_at c.args.kind c.args.capsule.now c.args.layout.now d c.requires.can (g.met.F.Flash.holds_bytes c.args.flash.now) _ (g.F.Flash.device c.loop-n.flash)
    (between_are c.args.kind (now d) c.args.capsule.now c.args.layout.now c.args.from (c.loop-n.n - c.args.from) (omega (arith, few, c.loop-n.invariant.low))) c.loop-n.invariant.follows in
    let same = plan_same c.args.kind (now d) (now (g.F.Flash.device c.loop-n.flash)) c.args.capsule.now c.args.layout.now s c.loop-n.n few in
    copied_part (job_page c.args.kind (now d) c.args.capsule.now c.args.layout.now) (is_job_page c.args.kind (now d) c.args.capsule.now c.args.layout.now) c.args.from c.loop-n.n c.args.to d _ _ _ c.replace_page.result c.from_residual.result c.in_err-some.field-0.0
    c.loop-n.invariant.low c.loop-n-test.true same c.loop-n.invariant.follows c.replace_page.ensures.follows c.in_err-some.was (p.1 ∙ ap (λ (e : FlashFail). Err e) p.2)

pub loop-n-preserved : goal.loop-n-preserved
loop-n-preserved g c =
    let d = g.F.Flash.device c.args.flash.now in
    let few : c.loop-n.n < length (now (g.F.Flash.device c.args.flash.now)) / 4096 = omega (arith, c.loop-n-test.true, c.requires.inside, length-now (g.F.Flash.device c.args.flash.now)) in
    let s = same_at c.args.kind c.args.capsule.now c.args.layout.now d c.requires.can (g.met.F.Flash.holds_bytes c.args.flash.now) _ (g.F.Flash.device c.loop-n.flash)
    (between_are c.args.kind (now d) c.args.capsule.now c.args.layout.now c.args.from (c.loop-n.n - c.args.from) (omega (arith, few, c.loop-n.invariant.low))) c.loop-n.invariant.follows in
    let same = plan_same c.args.kind (now d) (now (g.F.Flash.device c.loop-n.flash)) c.args.capsule.now c.args.layout.now s c.loop-n.n few in
    record {
      low = omega (arith, c.loop-n.invariant.low);
      high = omega (arith, c.loop-n-test.true);
      follows = copied_more (job_page c.args.kind (now d) c.args.capsule.now c.args.layout.now) (is_job_page c.args.kind (now d) c.args.capsule.now c.args.layout.now) c.args.from c.loop-n.n _ d _ _ _ c.replace_page.result c.in_ok-some.field-0
          c.loop-n.invariant.low refl same c.loop-n.invariant.follows c.replace_page.ensures.follows c.in_ok-some.was;
      some = has_more (job_page c.args.kind (now d) c.args.capsule.now c.args.layout.now) (is_job_page c.args.kind (now d) c.args.capsule.now c.args.layout.now) c.args.from c.loop-n.n _ c.loop-n.some c.in_ok-some.field-0
          c.loop-n.invariant.low refl c.loop-n.invariant.some (c.in_ok-some.ensures.some ∙ s.test c.loop-n.n);
    }
