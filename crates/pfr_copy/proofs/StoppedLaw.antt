-- Which groups are marked where a pass was stopped.
use Rattle.std.proofs.Common.{◌≡◌, ◌∙◌, ℕ, suc, ◌+◌, ◌/◌, ◌≤◌, ◌<◌, ◌&&◌, ◌||◌, nat_lt, Bool, true, false, refl, sym, ap, subst, arith, List, length, ◌⊎◌, inl, inr, Result, Ok, Err, OnErr}
use Rattle.std.proofs.lemmas.Bool.{cases_lt, false≢true}
use Rattle.std.proofs.lemmas.Bool.Decides.{nat_tests}
use Rattle.pfr_flash.specs.Bytes.{AreBytes}
use Rattle.pfr_flash.specs.FlashState.{FlashState, now}
use Rattle.pfr_flash.specs.declared.layout.Layout.{Layout}
use Rattle.pfr_flash.specs.declared.names.Bank.{Bank}
use Rattle.pfr_capsule.specs.CapsuleState.{CapsuleState}
use Rattle.pfr_jobs.specs.LogState.{LogState, is_marked}
use Rattle.pfr_jobs.specs.declared.job.JobKind.{JobKind}
use Rattle.pfr_rebuilt.specs.Passing.{group_pages}
use Rattle.pfr_strokes.specs.Passes.{Pair}
use Rattle.pfr_strokes.specs.Replaced.{group_at, group_count, has_pages, pages_of_group}
use Rattle.pfr_strokes.specs.declared.side.CopyFail.{CopyFail}
use Rattle.pfr_strokes.proofs.GroupLaws.{same_between}
use Rattle.pfr_copy.specs.Marking.{HasLog}
use Rattle.pfr_copy.specs.Stopped.{MarksBelow, SetsSomeMarks}
use Rattle.pfr_copy.specs.Working.{CanDo, is_job_page}
use Rattle.pfr_copy.specs.declared.marks.Marks.{Marks}
use Rattle.pfr_copy.specs.declared.marks.Marks.TheVariants.{Heed, Ignore, Without}
use Rattle.pfr_copy.proofs.ClauseLaw.{JobIs}
use Rattle.pfr_copy.proofs.HeedLemmas.{IsHeeded, heeded_same}
use Rattle.pfr_copy.proofs.MarkLaw.{IsLogAt}

or_none : (m : Bool) → m ≡ (m || false)
or_none true = refl
or_none false = refl

-- the groups below a number were looked at, and the next one wasn't finished, or its mark failed
module _ (nv mid later : List ℕ) (b : Bank) (touched : ℕ → Bool) (number : ℕ) (h : IsLogAt nv mid b touched number)
    (others : (g : ℕ) → g < 128 → ¬ (g ≡ number) → is_marked later b g ≡ is_marked mid b g) where
  marked_below : (next g : ℕ) → g < 128 → g < number → number ≤ next → is_marked later b g ≡ (is_marked nv b g || (nat_lt g next && touched g))
  marked_below next g few less room =
      let within : nat_lt g next ≡ true = grind (arith, nat_tests) in
      others g few (λ same. absurd (omega (arith, less, same))) ∙ h.behind g less ∙ sym (ap (λ t. is_marked nv b g || (t && touched g)) within)

  marked_above : (next g : ℕ) → g < 128 → number < g → next ≤ suc number → is_marked later b g ≡ (is_marked nv b g || (nat_lt g next && touched g))
  marked_above next g few more room =
      let beyond : nat_lt g next ≡ false = grind (arith, nat_tests) in
      others g few (λ same. absurd (omega (arith, more, same))) ∙ h.ahead g (omega (arith, more)) ∙ or_none (is_marked nv b g) ∙ sym (ap (λ t. is_marked nv b g || (t && touched g)) beyond)

  marked_each : (next : ℕ) → number ≤ next → next ≤ suc number → is_marked later b number ≡ (is_marked nv b number || (nat_lt number next && touched number))
      → (g : ℕ) → g < 128 → is_marked later b g ≡ (is_marked nv b g || (nat_lt g next && touched g))
  marked_each next from to here g few = by_order (cases_lt g number) (cases_lt number g)
    where
      by_order : (g < number) ⊎ (number ≤ g) → (number < g) ⊎ (g ≤ number) → is_marked later b g ≡ (is_marked nv b g || (nat_lt g next && touched g))
      by_order (inl less) rest = marked_below next g few less from
      by_order (inr more) (inl above) = marked_above next g few above to
      by_order (inr more) (inr least) =
          let same : number ≡ g = omega (arith, more, least) in
          subst (λ n. is_marked later b n ≡ (is_marked nv b n || (nat_lt n next && touched n))) same here

  module _ (unset : is_marked nv b number ≡ false) (early : (later ≡ mid) ⊎ (touched number ≡ true)) where
    newly_touched : is_marked later b number ≡ true → touched number ≡ true
    newly_touched set = by_call early
      where
        by_call : (later ≡ mid) ⊎ (touched number ≡ true) → touched number ≡ true
        by_call (inl same) = absurd (false≢true (sym unset ∙ (sym (h.ahead number (omega arith)) ∙ (ap (λ store. is_marked store b number) (sym same) ∙ set))))
        by_call (inr some) = some

    pub front_marked : (next : ℕ) × ((g : ℕ) → g < 128 → is_marked later b g ≡ (is_marked nv b g || (nat_lt g next && touched g)))
    front_marked = by_mark (is_marked later b number) refl
      where
        by_mark : (m : Bool) → is_marked later b number ≡ m → (next : ℕ) × ((g : ℕ) → g < 128 → is_marked later b g ≡ (is_marked nv b g || (nat_lt g next && touched g)))
        by_mark false e =
            let beyond : nat_lt number number ≡ false = grind (arith, nat_tests) in
            (number, marked_each number (omega arith) (omega arith) (e ∙ sym (ap (λ m. m || (nat_lt number number && touched number)) unset ∙ ap (λ t. t && touched number) beyond)))
        by_mark true e =
            let within : nat_lt number (suc number) ≡ true = grind (arith, nat_tests) in
            (suc number, marked_each (suc number) (omega arith) (omega arith) (e ∙ sym (ap (λ m. m || (nat_lt number (suc number) && touched number)) unset ∙ (ap (λ t. t && touched number) within ∙ newly_touched e))))

-- ---- a pass that heeds marks
module _ (kind : JobKind) (capsule : CapsuleState) (layout : Layout) (bank : Bank) (a b : Pair) (number : ℕ) (h : IsHeeded kind capsule layout bank a b number) (can : CanDo kind (now a.bank) layout capsule) (bytes : AreBytes (now a.bank)) where
  same_pages : has_pages (pages_of_group (is_job_page kind (now b.bank) capsule layout) (group_pages (length (now b.bank))) (length (now b.bank) / 4096) number)
      ≡ has_pages (pages_of_group (is_job_page kind (now a.bank) capsule layout) (group_pages (length (now a.bank))) (length (now a.bank) / 4096) number)
  same_pages =
      let s = heeded_same kind capsule layout bank a b number h can bytes in
      ap (λ (n : ℕ). has_pages (pages_of_group (is_job_page kind (now b.bank) capsule layout) (group_pages n) (n / 4096) number)) s.size
      ∙ ap has_pages (same_between (is_job_page kind (now b.bank) capsule layout) (is_job_page kind (now a.bank) capsule layout) (group_at (group_pages (length (now a.bank))) (length (now a.bank) / 4096) number)
      (group_count (group_pages (length (now a.bank))) (length (now a.bank) / 4096) number) (λ j few. s.test (group_at (group_pages (length (now a.bank))) (length (now a.bank) / 4096) number + j)))

  pub front_stopped : (unset : is_marked (now a.store) bank number ≡ false) (other : Bank) → other ≡ bank → (later : FlashState)
      → ((g : ℕ) → g < 128 → ¬ (g ≡ number) → is_marked (now later) other g ≡ is_marked (now b.store) other g)
      → (later ≡ b.store) ⊎ (has_pages (pages_of_group (is_job_page kind (now b.bank) capsule layout) (group_pages (length (now b.bank))) (length (now b.bank) / 4096) number) ≡ true)
      → MarksBelow bank (is_job_page kind (now a.bank) capsule layout) (group_pages (length (now a.bank))) (length (now a.bank) / 4096) (now a.store) (now later)
  front_stopped unset other same later others early =
      let front = front_marked (now a.store) (now b.store) (now later) bank (λ g. has_pages (pages_of_group (is_job_page kind (now a.bank) capsule layout) (group_pages (length (now a.bank))) (length (now a.bank) / 4096) g)) number h.log
      (subst (λ (which : Bank). (g : ℕ) → g < 128 → ¬ (g ≡ number) → is_marked (now later) which g ≡ is_marked (now b.store) which g) same others) unset (by_call early) in
      record { next = front.0; marks = front.1 }
    where
      by_call : (later ≡ b.store) ⊎ (has_pages (pages_of_group (is_job_page kind (now b.bank) capsule layout) (group_pages (length (now b.bank))) (length (now b.bank) / 4096) number) ≡ true)
          → (now later ≡ now b.store) ⊎ (has_pages (pages_of_group (is_job_page kind (now a.bank) capsule layout) (group_pages (length (now a.bank))) (length (now a.bank) / 4096) number) ≡ true)
      by_call (inl e) = inl (ap now e)
      by_call (inr e) = inr (sym same_pages ∙ e)

-- ---- any pass
on_err : {T E : Type 0} (result : Result T E) (P Q : Type 0) → (P → Q) → OnErr result P → OnErr result Q
on_err (Ok x) P Q f h = tt
on_err (Err e) P Q f h = f h

module _ (kind : JobKind) (capsule : CapsuleState) (layout : Layout) (bank : Bank) (a b : Pair) (content : ℕ → List ℕ) (test : ℕ → Bool) (pages : List ℕ) (is : JobIs kind (now a.bank) capsule layout content test pages)
    (result : Result (Unit {0}) CopyFail) where
  pub some_marks_by : (marks : Marks) (log : LogState) (size all : ℕ) → HasLog marks bank (now a.store) size log → OnErr result (SetsSomeMarks marks log.bank (is_job_page kind (now a.bank) capsule layout) (group_pages (length (now a.bank))) all (now a.store) (now b.store))
      → OnErr result (SetsSomeMarks marks bank test (group_pages (length (now a.bank))) all (now a.store) (now b.store))
  some_marks_by Heed log size all h set =
      on_err result (SetsSomeMarks Heed log.bank (is_job_page kind (now a.bank) capsule layout) (group_pages (length (now a.bank))) all (now a.store) (now b.store)) (SetsSomeMarks Heed bank test (group_pages (length (now a.bank))) all (now a.store) (now b.store))
      (λ each. subst (λ (t : ℕ → Bool). SetsSomeMarks Heed bank t (group_pages (length (now a.bank))) all (now a.store) (now b.store)) is.test_is
      (subst (λ (which : Bank). SetsSomeMarks Heed which (is_job_page kind (now a.bank) capsule layout) (group_pages (length (now a.bank))) all (now a.store) (now b.store)) (ap (λ (l : LogState). l.bank) h.stands) each)) set
  some_marks_by Ignore log size all h set = set
  some_marks_by Without log size all h set = set
