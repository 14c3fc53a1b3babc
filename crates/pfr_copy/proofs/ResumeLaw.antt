-- Wherever a pass that heeds marks ended, the pages that it touched and whose group isn't marked lie in one group.
use Rattle.std.proofs.Common.{◌≡◌, ◌∙◌, ℕ, ◌+◌, ◌-◌, ◌*◌, ◌/◌, min, ◌<◌, ◌&&◌, ◌||◌, Bool, true, false, not, refl, sym, ap, subst, arith, List, ◌++◌, length, append_assoc, Result, Ok, ◌⊎◌, inl, inr}
use Rattle.std.proofs.lemmas.Bool.{false≢true}
use Rattle.pfr_flash.specs.Bytes.{AreBytes}
use Rattle.pfr_flash.specs.FlashState.{now}
use Rattle.pfr_flash.specs.Operation.{Operation}
use Rattle.pfr_flash.specs.declared.layout.Layout.{Layout}
use Rattle.pfr_flash.specs.declared.names.Bank.{Bank}
use Rattle.pfr_capsule.specs.CapsuleState.{CapsuleState}
use Rattle.pfr_jobs.specs.LogPlans.{mark_plan}
use Rattle.pfr_jobs.specs.LogState.{is_marked}
use Rattle.pfr_jobs.specs.declared.job.JobKind.{JobKind}
use Rattle.pfr_rebuilt.specs.Passing.{group_pages}
use Rattle.pfr_strokes.specs.Deeds.{marked_by, pass}
use Rattle.pfr_strokes.specs.Passes.{Pair, Passes}
use Rattle.pfr_strokes.specs.Replaced.{group_at, group_count, pages_of_group}
use Rattle.pfr_strokes.specs.declared.side.CopyFail.{CopyFail}
use Rattle.pfr_strokes.proofs.GroupLaws.{below_group, between_only, has_own, in_group, of_between, of_one}
use Rattle.pfr_strokes.proofs.PassLaws.{marked_none, pass_strokes}
use Rattle.pfr_strokes.proofs.ReplacedLaws.{IsOneOf, pages_are}
use Rattle.pfr_copy.specs.Copied.{OpensOne, Touches}
use Rattle.pfr_copy.specs.Working.{CanDo, is_job_page, job_page}
use Rattle.pfr_copy.proofs.HeedLemmas.{IsHeeded, heeded, left_are, next_passes, some_pages}
use Rattle.pfr_copy.proofs.JobLaw.{job_fills}
use Rattle.pfr_copy.proofs.TouchLaw.{adds_plan, pass_touches, same_added, touches_two}

or_set : (b t : Bool) → t ≡ true → (b || t) ≡ true
or_set true t e = refl
or_set false t e = e

module _ (kind : JobKind) (capsule : CapsuleState) (layout : Layout) (bank : Bank) (a : Pair) (can : CanDo kind (now a.bank) layout capsule) (bytes : AreBytes (now a.bank)) where
  left_whole : (number n : ℕ) → IsOneOf n (heeded (is_job_page kind (now a.bank) capsule layout) (is_marked (now a.store) bank) (group_pages (length (now a.bank))) (length (now a.bank) / 4096) number) → length ((job_page kind (now a.bank) capsule layout) n) ≡ 4096
  left_whole number n one =
      let is = left_are kind capsule layout bank a number n one in
      (job_fills (now a.bank) capsule layout bytes kind can n is.0 is.1).whole

  own_whole : (number n : ℕ) → IsOneOf n (pages_of_group (is_job_page kind (now a.bank) capsule layout) (group_pages (length (now a.bank))) (length (now a.bank) / 4096) number) → length ((job_page kind (now a.bank) capsule layout) n) ≡ 4096
  own_whole number n one =
      let is = between_only (is_job_page kind (now a.bank) capsule layout) (group_at (group_pages (length (now a.bank))) (length (now a.bank) / 4096) number) (group_count (group_pages (length (now a.bank))) (length (now a.bank) / 4096) number) n one in
      (job_fills (now a.bank) capsule layout bytes kind can n (by_product (number * (group_pages (length (now a.bank)))) n is.0) is.1).whole
    where
      by_product : (m n : ℕ) → n < min m (length (now a.bank) / 4096) + (min (min m (length (now a.bank) / 4096) + (group_pages (length (now a.bank)))) (length (now a.bank) / 4096) - min m (length (now a.bank) / 4096)) → n < (length (now a.bank) / 4096)
      by_product m n h = omega (arith, h)

  -- the groups below a number were done: a page that was touched is of one of them, and marked
  module _ (b : Pair) (number : ℕ) (h : IsHeeded kind capsule layout bank a b number) where
    touched_marked : (ops : List Operation) → b.bank.ops ≡ a.bank.ops ++ ops → (n : ℕ) → Touches ops n → (n / (group_pages (length (now a.bank))) < number) × (is_marked (now b.store) bank (n / (group_pages (length (now a.bank)))) ≡ true)
    touched_marked ops added n touches =
        let one : IsOneOf n (heeded (is_job_page kind (now a.bank) capsule layout) (is_marked (now a.store) bank) (group_pages (length (now a.bank))) (length (now a.bank) / 4096) number) =
        pass_touches {T = Unit {0}} _ (job_page kind (now a.bank) capsule layout) (heeded (is_job_page kind (now a.bank) capsule layout) (is_marked (now a.store) bank) (group_pages (length (now a.bank))) (length (now a.bank) / 4096) number) a b (Ok tt)
        (pass_strokes (job_page kind (now a.bank) capsule layout) (group_pages (length (now a.bank))) (marked_by (mark_plan (now a.store) bank)) (marked_none (mark_plan (now a.store) bank)) (heeded (is_job_page kind (now a.bank) capsule layout) (is_marked (now a.store) bank) (group_pages (length (now a.bank))) (length (now a.bank) / 4096) number))
        (λ page there. left_whole number page there) h.did ops added n touches in
        let is = (pages_are (λ (page : ℕ). is_job_page kind (now a.bank) capsule layout page && not (is_marked (now a.store) bank (page / (group_pages (length (now a.bank)))))) (group_at (group_pages (length (now a.bank))) (length (now a.bank) / 4096) number)).only n one in
        let job = left_are kind capsule layout bank a number n one in
        let below : n / (group_pages (length (now a.bank))) < number = below_group (group_pages (length (now a.bank))) (length (now a.bank) / 4096) number (some_pages (length (now a.bank))) n is.0 in
        (below, h.log.behind (n / (group_pages (length (now a.bank)))) below ∙ or_set (is_marked (now a.store) bank (n / (group_pages (length (now a.bank))))) _ (has_own (is_job_page kind (now a.bank) capsule layout) (group_pages (length (now a.bank))) (length (now a.bank) / 4096) n (some_pages (length (now a.bank))) job.0 job.1))

    -- where all were done
    pub one_done : OpensOne bank (group_pages (length (now a.bank))) a b
    one_done ops added n m touched_n touched_m unmarked_n unmarked_m = absurd (false≢true (sym unmarked_n ∙ (touched_marked ops added n touched_n).1))

    -- where the next one failed
    module _ (few : number < 128) (unset : is_marked (now a.store) bank number ≡ false) (c : Pair) (other : Bank) (same : other ≡ bank)
        (others : (g : ℕ) → g < 128 → ¬ (g ≡ number) → is_marked (now c.store) other g ≡ is_marked (now b.store) other g) where
      of_next : {T : Type 0} (result : Result T CopyFail) → Passes (pass (job_page kind (now b.bank) capsule layout) (group_pages (length (now b.bank))) (marked_by (mark_plan (now b.store) bank))
          (pages_of_group (is_job_page kind (now b.bank) capsule layout) (group_pages (length (now b.bank))) (length (now b.bank) / 4096) number)) b c result
          → (ops : List Operation) → c.bank.ops ≡ a.bank.ops ++ ops → (n : ℕ) → Touches ops n → is_marked (now c.store) bank (n / (group_pages (length (now a.bank)))) ≡ false → n / (group_pages (length (now a.bank))) ≡ number
      of_next {T} result k ops added n touches unmarked = by_side (touches_two first last n (subst (λ (done : List Operation). Touches done n) split touches))
        where
          first : List Operation
          first = (adds_plan {T = Unit {0}} _ a b _ (Ok tt) refl h.did).part.added

          last : List Operation
          last = (adds_plan _ b c _ result refl k).part.added

          split : ops ≡ first ++ last
          split = same_added a.bank.ops ops (first ++ last) (sym added ∙ ((adds_plan _ b c _ result refl k).part.is ∙ ap (λ (done : List Operation). done ++ last) (adds_plan {T = Unit {0}} _ a b _ (Ok tt) refl h.did).part.is ∙ append_assoc a.bank.ops first last))

          by_side : (Touches first n ⊎ Touches last n) → n / (group_pages (length (now a.bank))) ≡ number
          by_side (inl before) =
              let t = touched_marked first (adds_plan {T = Unit {0}} _ a b _ (Ok tt) refl h.did).part.is n before in
              let stays : is_marked (now c.store) bank (n / (group_pages (length (now a.bank)))) ≡ is_marked (now b.store) bank (n / (group_pages (length (now a.bank)))) =
              subst (λ (which : Bank). is_marked (now c.store) which (n / (group_pages (length (now a.bank)))) ≡ is_marked (now b.store) which (n / (group_pages (length (now a.bank))))) same
              (others (n / (group_pages (length (now a.bank)))) (omega (arith, t.0, few)) (λ e. absurd (omega (arith, t.0, e)))) in
              absurd (false≢true (sym unmarked ∙ stays ∙ t.1))
          by_side (inr now_touched) =
              of_one (job_page kind (now a.bank) capsule layout) (group_pages (length (now a.bank))) (marked_by (mark_plan (now a.store) bank)) number (pages_of_group (is_job_page kind (now a.bank) capsule layout) (group_pages (length (now a.bank))) (length (now a.bank) / 4096) number)
              (of_between (job_page kind (now a.bank) capsule layout) (group_pages (length (now a.bank))) (marked_by (mark_plan (now a.store) bank)) (is_job_page kind (now a.bank) capsule layout) number (group_at (group_pages (length (now a.bank))) (length (now a.bank) / 4096) number) (group_count (group_pages (length (now a.bank))) (length (now a.bank) / 4096) number) (λ j below. in_group (group_pages (length (now a.bank))) (length (now a.bank) / 4096) number (some_pages (length (now a.bank))) j below)) n
              (pass_touches _ (job_page kind (now a.bank) capsule layout) (pages_of_group (is_job_page kind (now a.bank) capsule layout) (group_pages (length (now a.bank))) (length (now a.bank) / 4096) number) b c result
              (pass_strokes (job_page kind (now a.bank) capsule layout) (group_pages (length (now a.bank))) (marked_by (mark_plan (now a.store) bank)) (marked_none (mark_plan (now a.store) bank)) (pages_of_group (is_job_page kind (now a.bank) capsule layout) (group_pages (length (now a.bank))) (length (now a.bank) / 4096) number))
              (λ page there. own_whole number page there) (next_passes kind capsule layout bank a b number h can bytes unset c result k) last (adds_plan _ b c _ result refl k).part.is n now_touched)

      pub one_failed : {T : Type 0} (result : Result T CopyFail) → Passes (pass (job_page kind (now b.bank) capsule layout) (group_pages (length (now b.bank))) (marked_by (mark_plan (now b.store) other))
          (pages_of_group (is_job_page kind (now b.bank) capsule layout) (group_pages (length (now b.bank))) (length (now b.bank) / 4096) number)) b c result → OpensOne bank (group_pages (length (now a.bank))) a c
      one_failed {T} result k ops added n m touched_n touched_m unmarked_n unmarked_m =
          let by_bank = subst (λ (which : Bank). Passes (pass (job_page kind (now b.bank) capsule layout) (group_pages (length (now b.bank))) (marked_by (mark_plan (now b.store) which))
          (pages_of_group (is_job_page kind (now b.bank) capsule layout) (group_pages (length (now b.bank))) (length (now b.bank) / 4096) number)) b c result) same k in
          of_next result by_bank ops added n touched_n unmarked_n ∙ sym (of_next result by_bank ops added m touched_m unmarked_m)
