use Rattle.std.proofs.Common.{List, ℕ, ◌/◌, subst, arith}
use Rattle.pfr_flash.proofs.EndsLemmas.{EndsAt-refl, then_ends, ends_content}
use Rattle.pfr_capsule.proofs.PageBytesLaws.{no_pages, page_joined, all_pages}
use Rattle.pfr_capsule.proofs.page_bytes.feed_region.Goals as goal

pub loop-n-init : goal.loop-n-init
loop-n-init g c = record {
  ends = EndsAt-refl _;
  within = omega arith;
  fed = λ m h. subst (λ (t : List ℕ). g.H.Digest.holds c.args.hasher.now t) (no_pages _ m _ _) h;
}

pub loop-n-preserved : goal.loop-n-preserved
loop-n-preserved g c = record {
  ends = then_ends (then_ends c.loop-n.invariant.ends c.in_ok-page.ensures.ends) c.in_ok-feed_page.ensures.ends;
  within = omega arith;
  fed = λ m h. subst (λ (t : List ℕ). g.H.Digest.holds c.feed_page.new.hasher t)
      (page_joined _ _ _ m c.args.pages.now (c.args.region.now.start / 4096) c.loop-n.n _ (omega arith) (ends_content c.loop-n.invariant.ends) (ends_content c.in_ok-page.ensures.ends) c.in_ok-page.ensures.found)
      (c.in_ok-feed_page.ensures.fed _ (c.loop-n.invariant.fed m h));
}

pub returns-clause-fed : goal.returns-clause-fed
returns-clause-fed g c = λ m h.
    subst (λ (t : List ℕ). g.H.Digest.holds c.loop-n.hasher t) (all_pages _ m c.args.pages.now _ _ c.loop-n.n c.loop-n.invariant.within c.loop-n-test.false) (c.loop-n.invariant.fed m h)
