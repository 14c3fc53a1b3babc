use Rattle.std.proofs.Common.{◌≡◌, ◌∙◌, sym, ap, arith, refl, ℕ, ◌+◌, ◌<◌, ◌/◌, List, length, get_or, length-set}
use Rattle.std.proofs.lemmas.List.{length-replicate}
use Rattle.pfr_capsule.proofs.CountLaws.{count_le, count_more_yes, count_more_no}
use Rattle.pfr_capsule.proofs.IndexLaws.{indexed_begin, index_kept, index_set}
use Rattle.pfr_capsule.specs.Maps.{count_before}
use Rattle.pfr_capsule.specs.Pages.{indexed}
use Rattle.pfr_capsule.proofs.maps.index.Goals as goal
use Rattle.pfr_capsule.proofs.maps.index.Goals.{then-n-eq0, else-n-eq0, then-has_bit, else-has_bit}

pub loop-n-init : goal.loop-n-init
unfolding count_before
loop-n-init c = record { long = length-replicate {A = ℕ} 256 0; counted = refl; index = λ i h. indexed_begin c.args.copy.now i h }

pub overflow_add-count : goal.overflow_add-count
overflow_add-count c = omega (arith, count_le c.args.copy.now c.loop-n.n)

-- the index of one page more, of a list that is the one after it
follows : (copy xs ys : List ℕ) (n : ℕ) → xs ≡ ys → ((i : ℕ) → i < 256 → get_or ys i 0 ≡ indexed copy (n + 1) i) → (i : ℕ) → i < 256 → get_or xs i 0 ≡ indexed copy (n + 1) i
follows copy xs ys n same is i h = ap (λ (zs : List ℕ). get_or zs i 0) same ∙ is i h

pub loop-n-preserved : goal.loop-n-preserved
loop-n-preserved c = record {
  long = elim c.if-n-eq0.branch [
    | then-n-eq0 w ↦ ap length w.before-is ∙ length-set c.loop-n.before (c.loop-n.n / 64) c.loop-n.count ∙ c.loop-n.invariant.long
    | else-n-eq0 w ↦ ap length w.before-is ∙ c.loop-n.invariant.long
  ];
  counted = elim c.if-has_bit.branch [
    | then-has_bit w ↦ omega (arith, w.count-is, c.loop-n.invariant.counted, count_more_yes c.args.copy.now c.loop-n.n (sym c.has_bit.ensures ∙ w.if-has_bit.true))
    | else-has_bit w ↦ omega (arith, w.count-is, c.loop-n.invariant.counted, count_more_no c.args.copy.now c.loop-n.n (sym c.has_bit.ensures ∙ w.if-has_bit.false))
  ];
  index = elim c.if-n-eq0.branch [
    | then-n-eq0 w ↦
        let few : c.loop-n.n / 64 < 256 = omega arith in
        follows c.args.copy.now _ _ c.loop-n.n w.before-is (index_set c.args.copy.now c.loop-n.before c.loop-n.n c.loop-n.count c.loop-n.invariant.long w.if-n-eq0.true few c.loop-n.invariant.counted c.loop-n.invariant.index)
    | else-n-eq0 w ↦ follows c.args.copy.now _ _ c.loop-n.n w.before-is (index_kept c.args.copy.now c.loop-n.before c.loop-n.n w.if-n-eq0.false c.loop-n.invariant.index)
  ];
}
