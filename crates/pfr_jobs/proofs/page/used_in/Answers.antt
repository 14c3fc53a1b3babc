use Rattle.std.proofs.Common.{ℕ, ◌-◌, ◌∙◌, ap, refl, sym, arith}
use Rattle.pfr_jobs.specs.Log.{used_in}
use Rattle.pfr_jobs.proofs.PageLaws.{used_none, used_here, used_before}
use Rattle.pfr_jobs.proofs.page.used_in.Goals as goal

pub loop-used-init : goal.loop-used-init
loop-used-init c = record { within = omega arith; rest = refl }

pub is_blank-requires : goal.is_blank-requires
is_blank-requires c = omega (arith, c.loop-used.invariant.within, c.loop-used-test.true)

pub returns-then-not-is_blank : goal.returns-then-not-is_blank
returns-then-not-is_blank c =
    sym (used_here c.args.page.now c.loop-used.used (c.loop-used.used - 1) (omega (arith, c.loop-used-test.true)) (sym c.is_blank.ensures ∙ c.if-not-is_blank.true)) ∙ c.loop-used.invariant.rest

pub loop-used-preserved : goal.loop-used-preserved
loop-used-preserved c = record {
  within = omega (arith, c.loop-used.invariant.within);
  rest = sym (used_before c.args.page.now c.loop-used.used (c.loop-used.used - 1) (omega (arith, c.loop-used-test.true)) (sym c.is_blank.ensures ∙ c.if-not-is_blank.false)) ∙ c.loop-used.invariant.rest;
}

pub returns : goal.returns
returns c = sym (used_none c.args.page.now) ∙ ap (λ (k : ℕ). used_in c.args.page.now k) (omega (arith, c.loop-used-test.false)) ∙ c.loop-used.invariant.rest
