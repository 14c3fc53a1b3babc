use Rattle.std.proofs.Common.{◌≡◌, ℕ, List, length, take, arith, length-take, subst, sym, append-nil}
use Rattle.pfr_flash.proofs.EndsLemmas.{EndsAt-refl, then_ends, ends_content}
use Rattle.pfr_flash.proofs.PartsLemmas.{joined}
use Rattle.pfr_chain.proofs.hashing.feed.Goals as goal

pub pieces-init : goal.pieces-init
pieces-init g c = record {
  within = omega arith;
  ends = EndsAt-refl _;
  fed = λ m h. subst (λ (t : List ℕ). g.H.Digest.holds c.args.hasher.now t) (sym (append-nil m)) h;
}

pub pieces-preserved : goal.pieces-preserved
pieces-preserved g c =
    let long : length (take c.min-count.result c.pieces.buffer) ≡ c.min-count.result = omega (arith, length-take {A = ℕ}) in
    record {
      within = omega arith;
      ends = then_ends c.pieces.invariant.ends c.in_ok-read.ensures.reads.ends;
      fed = λ m h. subst (λ (t : List ℕ). g.H.Digest.holds c.update.new.self t) (joined m _ _ _ _ _ _ _ (ends_content c.pieces.invariant.ends) long c.in_ok-read.ensures.bytes) (c.update.ensures _ (c.pieces.invariant.fed m h));
    }
