use Rattle.std.proofs.Common.{ℕ, ◌-◌, ◌∙◌, ap, refl, sym, arith}
use Rattle.pfr_jobs.specs.Log.{last_gated}
use Rattle.pfr_jobs.proofs.PageLaws.{last_none, last_here, last_before}
use Rattle.pfr_jobs.proofs.page.last_gated.Goals as goal

pub loop-k-init : goal.loop-k-init
loop-k-init c = record { within = omega arith; rest = refl }

pub is_gated-requires : goal.is_gated-requires
is_gated-requires c = omega (arith, c.loop-k.invariant.within, c.loop-k-test.true)

pub returns-then-is_gated-clause-exact : goal.returns-then-is_gated-clause-exact
returns-then-is_gated-clause-exact c =
    sym (last_here c.args.page.now c.loop-k.k (c.loop-k.k - 1) (omega (arith, c.loop-k-test.true)) (sym c.is_gated.ensures ∙ c.if-is_gated.true)) ∙ c.loop-k.invariant.rest

pub returns-then-is_gated-clause-slot : goal.returns-then-is_gated-clause-slot
returns-then-is_gated-clause-slot c = omega (arith, c.loop-k.invariant.within, c.loop-k-test.true)

pub loop-k-preserved : goal.loop-k-preserved
loop-k-preserved c = record {
  within = omega (arith, c.loop-k.invariant.within);
  rest = sym (last_before c.args.page.now c.loop-k.k (c.loop-k.k - 1) (omega (arith, c.loop-k-test.true)) (sym c.is_gated.ensures ∙ c.if-is_gated.false)) ∙ c.loop-k.invariant.rest;
}

pub returns-clause-exact : goal.returns-clause-exact
returns-clause-exact c = sym (last_none c.args.page.now) ∙ ap (λ (k : ℕ). last_gated c.args.page.now k) (omega (arith, c.loop-k-test.false)) ∙ c.loop-k.invariant.rest
