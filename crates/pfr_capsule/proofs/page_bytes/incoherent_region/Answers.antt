use Rattle.std.proofs.Common.{sym, ◌∙◌, refl, arith}
use Rattle.pfr_flash.proofs.EndsLemmas.{EndsAt-refl, then_ends, ends_content}
use Rattle.pfr_capsule.specs.PageBytes.{incoherent_region}
use Rattle.pfr_capsule.proofs.LeastLaws.{first_found, first_passed, first_done}
use Rattle.pfr_capsule.proofs.PageBytesLaws.{incoherent_found}
use Rattle.pfr_capsule.proofs.page_bytes.incoherent_region.Goals as goal

pub loop-k-init : goal.loop-k-init
unfolding incoherent_region
loop-k-init g c = record { ends = EndsAt-refl _; exact = refl }

pub returns-then-not-branch-clause-exact : goal.returns-then-not-branch-clause-exact
returns-then-not-branch-clause-exact g c =
    sym (first_found _ c.args.regions.now c.loop-k.k c.get.result.now (omega (arith, c.len-k-end.ensures.value, c.loop-k-test.true)) c.get.ensures
    (incoherent_found _ _ _ _ _ _ (ends_content c.loop-k.invariant.ends) c.in_ok-is_coherent.ensures.exact c.if-not-branch.true)) ∙ c.loop-k.invariant.exact

pub loop-k-preserved : goal.loop-k-preserved
loop-k-preserved g c = record {
  ends = then_ends c.loop-k.invariant.ends c.in_ok-is_coherent.ensures.ends;
  exact = sym (first_passed _ c.args.regions.now c.loop-k.k c.get.result.now (omega (arith, c.len-k-end.ensures.value, c.loop-k-test.true)) c.get.ensures
      (incoherent_found _ _ _ _ _ _ (ends_content c.loop-k.invariant.ends) c.in_ok-is_coherent.ensures.exact c.if-not-branch.false)) ∙ c.loop-k.invariant.exact;
}

pub returns-clause-exact : goal.returns-clause-exact
returns-clause-exact g c = sym (first_done _ c.args.regions.now c.loop-k.k (omega (arith, c.len-k-end.ensures.value, c.loop-k-test.false))) ∙ c.loop-k.invariant.exact
