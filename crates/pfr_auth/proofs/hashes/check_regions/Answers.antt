use Rattle.std.proofs.Common.{sym, ◌∙◌, refl, arith}
use Rattle.pfr_flash.proofs.EndsLemmas.{EndsAt-refl, then_ends, ends_content}
use Rattle.pfr_auth.proofs.RegionLemmas.{found_of, region_passed, region_refused, regions_done}
use Rattle.pfr_auth.proofs.hashes.check_regions.Goals as goal

pub loop-k-init : goal.loop-k-init
loop-k-init g c = record { ends = EndsAt-refl _; exact = refl }

pub returns-then-not-branch-clause-exact : goal.returns-then-not-branch-clause-exact
returns-then-not-branch-clause-exact g c =
    sym c.loop-k.invariant.exact ∙ region_refused _ c.args.regions.now c.loop-k.k c.get.result.now (omega (arith, c.len-k-end.ensures.value, c.loop-k-test.true)) c.get.ensures
    (found_of _ _ _ _ _ (ends_content c.loop-k.invariant.ends) c.in_ok-is_hashed.ensures.exact c.if-not-branch.true)

pub loop-k-preserved : goal.loop-k-preserved
loop-k-preserved g c = record {
  ends = then_ends c.loop-k.invariant.ends c.in_ok-is_hashed.ensures.ends;
  exact = sym (region_passed _ c.args.regions.now c.loop-k.k c.get.result.now (omega (arith, c.len-k-end.ensures.value, c.loop-k-test.true)) c.get.ensures
      (found_of _ _ _ _ _ (ends_content c.loop-k.invariant.ends) c.in_ok-is_hashed.ensures.exact c.if-not-branch.false)) ∙ c.loop-k.invariant.exact;
}

pub returns-clause-exact : goal.returns-clause-exact
returns-clause-exact g c = sym c.loop-k.invariant.exact ∙ regions_done _ c.args.regions.now c.loop-k.k (omega (arith, c.len-k-end.ensures.value, c.loop-k-test.false))
