-- What is promised of a pass over a job's pages, by what was done.
use Rattle.std.proofs.Common.{◌≡◌, ◌∙◌, ℕ, ◌/◌, ◌<◌, Bool, true, false, not, if◌then◌else◌, refl, sym, ap, subst, List, [], ◌∷◌, length, filter, ◌⊎◌, inl, inr, Result, Ok, Err, OnOk}
use Rattle.std.proofs.lemmas.Bool.{false≢true}
use Rattle.pfr_flash.specs.Bytes.{AreBytes}
use Rattle.pfr_flash.specs.FlashState.{now}
use Rattle.pfr_flash.specs.Operation.{Operation, play}
use Rattle.pfr_flash.specs.declared.layout.Layout.{Layout}
use Rattle.pfr_flash.specs.declared.names.Bank.{Bank}
use Rattle.pfr_capsule.specs.CapsuleState.{CapsuleState}
use Rattle.pfr_jobs.specs.LogPlans.{mark_plan}
use Rattle.pfr_jobs.specs.LogState.{LogState, is_marked}
use Rattle.pfr_jobs.specs.declared.job.JobKind.{JobKind}
use Rattle.pfr_jobs.specs.declared.job.JobKind.TheVariants.{ActiveFromRecovery, ActiveFromStaging, RecoveryFromStaging}
use Rattle.pfr_rebuilt.specs.ActiveCopying.{active_page, active_pages, is_active_page}
use Rattle.pfr_rebuilt.specs.Copying.{holds_text, recovery_page, recovery_pages}
use Rattle.pfr_rebuilt.specs.Passing.{active_heeding, active_ignoring, group_pages, heeding, ignoring, recovery_heeding, recovery_ignoring}
use Rattle.pfr_strokes.specs.Deeds.{Deed, marked_by, side_ops, unmarked}
use Rattle.pfr_strokes.specs.Passes.{Pair, Passes}
use Rattle.pfr_strokes.specs.Replaced.{replaced}
use Rattle.pfr_strokes.specs.Strokes.{strokes_of}
use Rattle.pfr_strokes.specs.declared.side.CopyFail.{CopyFail}
use Rattle.pfr_strokes.specs.declared.side.Side.TheVariants as side
use Rattle.pfr_strokes.proofs.PassesLemmas.{Did-now}
use Rattle.pfr_strokes.proofs.PassLaws.{marked_none, pass_strokes}
use Rattle.pfr_strokes.proofs.ReplacedLaws.{IsOneOf}
use Rattle.pfr_copy.specs.Applying.{IsActive}
use Rattle.pfr_copy.specs.Copied.{AddsPlan, OpensOne, Resumes, SetsMarks, SparesMarked, written_pages}
use Rattle.pfr_copy.specs.Marking.{HasLog, active_deeds, job_deeds, marks_deeds, recovery_deeds}
use Rattle.pfr_copy.specs.Working.{CanDo, is_job_page, job_page, job_pages}
use Rattle.pfr_copy.specs.declared.marks.Marks.{Marks}
use Rattle.pfr_copy.specs.declared.marks.Marks.TheVariants.{Heed, Ignore, Without}
use Rattle.pfr_copy.proofs.JobLaw.{AreJobPages, job_fills, job_is, job_pages_are, job_stays}
use Rattle.pfr_copy.proofs.TouchLaw.{adds_plan, pass_touches}

-- ---- both kinds of job
-- a job's pages, which they are and what they are to hold
pub record JobIs (kind : JobKind) (image : List ℕ) (capsule : CapsuleState) (layout : Layout) (content : ℕ → List ℕ) (test : ℕ → Bool) (pages : List ℕ) : Type 0 where
  pub content_is : job_page kind image capsule layout ≡ content
  pub test_is : is_job_page kind image capsule layout ≡ test
  pub pages_are : job_pages kind image capsule layout ≡ pages

pub active_is : (kind : JobKind) → IsActive kind → (image : List ℕ) (capsule : CapsuleState) (layout : Layout)
    → JobIs kind image capsule layout (active_page image capsule layout) (is_active_page kind image capsule layout) (active_pages kind image capsule layout)
unfolding is_job_page job_page active_pages
active_is (ActiveFromRecovery level) active image capsule layout = record { content_is = refl; test_is = refl; pages_are = refl }
active_is (ActiveFromStaging dynamic) active image capsule layout = record { content_is = refl; test_is = refl; pages_are = refl }
active_is RecoveryFromStaging active image capsule layout = absurd active

pub recovery_is : (image : List ℕ) (capsule : CapsuleState) (layout : Layout)
    → JobIs RecoveryFromStaging image capsule layout (recovery_page image layout.staging_at capsule.length layout) (holds_text layout.recovery_at capsule.length) (recovery_pages layout capsule.length (length image))
unfolding is_job_page job_page recovery_pages
recovery_is image capsule layout = record { content_is = refl; test_is = refl; pages_are = refl }

pub active_same : (marks : Marks) (kind : JobKind) (bank : Bank) (image nv : List ℕ) (capsule : CapsuleState) (layout : Layout)
    → marks_deeds marks bank nv (active_page image capsule layout) (group_pages (length image)) (active_pages kind image capsule layout) ≡ active_deeds marks kind bank image nv capsule layout
unfolding active_heeding active_ignoring
active_same Heed kind bank image nv capsule layout = refl
active_same Ignore kind bank image nv capsule layout = refl
active_same Without kind bank image nv capsule layout = refl

pub recovery_same : (marks : Marks) (bank : Bank) (image nv : List ℕ) (capsule : CapsuleState) (layout : Layout)
    → marks_deeds marks bank nv (recovery_page image layout.staging_at capsule.length layout) (group_pages (length image)) (recovery_pages layout capsule.length (length image)) ≡ recovery_deeds marks bank image nv capsule layout
unfolding recovery_heeding recovery_ignoring
recovery_same Heed bank image nv capsule layout = refl
recovery_same Ignore bank image nv capsule layout = refl
recovery_same Without bank image nv capsule layout = refl

-- ---- the pages that are written
one_filtered : (q : ℕ → Bool) (xs : List ℕ) (n : ℕ) → IsOneOf n (filter q xs) → IsOneOf n xs × (q n ≡ true)
one_filtered q [] n one = absurd one
one_filtered q (x ∷ xs) n one = by_test (q x) refl one (λ there. one_filtered q xs n there)
  where
    by_place : q x ≡ true → ((n ≡ x) ⊎ IsOneOf n (filter q xs)) → (IsOneOf n (filter q xs) → IsOneOf n xs × (q n ≡ true)) → IsOneOf n (x ∷ xs) × (q n ≡ true)
    by_place e (inl same) later = (inl same, ap q same ∙ e)
    by_place e (inr there) later = (inr (later there).0, (later there).1)

    by_test : (t : Bool) → q x ≡ t → IsOneOf n (if t then x ∷ filter q xs else filter q xs) → (IsOneOf n (filter q xs) → IsOneOf n xs × (q n ≡ true)) → IsOneOf n (x ∷ xs) × (q n ≡ true)
    by_test true e one later = by_place e one later
    by_test false e one later = (inr (later one).0, (later one).1)

pub written_are : (marks : Marks) (bank : Bank) (nv : List ℕ) (group : ℕ) (pages : List ℕ) (n : ℕ) → IsOneOf n (written_pages marks bank nv group pages) → IsOneOf n pages
written_are Heed bank nv group pages n one = (one_filtered (λ (page : ℕ). not (is_marked nv bank (page / group))) pages n one).0
written_are Ignore bank nv group pages n one = one
written_are Without bank nv group pages n one = one

marks_ops : (marks : Marks) (bank : Bank) (nv : List ℕ) (content : ℕ → List ℕ) (group : ℕ) (pages : List ℕ) → side_ops side.Bank (marks_deeds marks bank nv content group pages) ≡ strokes_of content (written_pages marks bank nv group pages)
marks_ops Heed bank nv content group pages = pass_strokes content group (marked_by (mark_plan nv bank)) (marked_none (mark_plan nv bank)) (written_pages Heed bank nv group pages)
marks_ops Ignore bank nv content group pages = pass_strokes content group unmarked (λ number. refl) pages
marks_ops Without bank nv content group pages = pass_strokes content group unmarked (λ number. refl) pages

left_image : {T : Type 0} (deeds : List Deed) (a b : Pair) (plan : List Operation) (image : List ℕ) (result : Result T CopyFail) → side_ops side.Bank deeds ≡ plan → play (now a.bank) plan ≡ image → Passes deeds a b result → OnOk result (now b.bank ≡ image)
left_image deeds a b plan image (Ok x) is e h = Did-now (side_ops side.Bank deeds) a.bank b.bank (h.each side.Bank) ∙ ap (λ (ops : List Operation). play (now a.bank) ops) is ∙ e
left_image deeds a b plan image (Err fail) is e h = tt

on_ok : {T E : Type 0} (result : Result T E) (P Q : Type 0) → (P → Q) → OnOk result P → OnOk result Q
on_ok (Ok x) P Q f h = f h
on_ok (Err e) P Q f h = tt

pub bank_of : (marks : Marks) (bank : Bank) (nv : List ℕ) (size : ℕ) (log : LogState) → HasLog marks bank nv size log → marks ≡ Heed → log.bank ≡ bank
bank_of Heed bank nv size log h e = ap (λ (l : LogState). l.bank) h.stands
bank_of Ignore bank nv size log h e = absurd cc
bank_of Without bank nv size log h e = absurd cc

-- ---- the clauses
module _ (kind : JobKind) (capsule : CapsuleState) (layout : Layout) (bank : Bank) (a b : Pair) (content : ℕ → List ℕ) (test : ℕ → Bool) (pages : List ℕ) (is : JobIs kind (now a.bank) capsule layout content test pages)
    (result : Result (Unit {0}) CopyFail) where
  pub passes_by : (marks : Marks) (log : LogState) (size : ℕ) → HasLog marks bank (now a.store) size log → Passes (job_deeds marks kind log.bank (now a.bank) (now a.store) capsule layout) a b result
      → Passes (marks_deeds marks bank (now a.store) content (group_pages (length (now a.bank))) pages) a b result
  passes_by Heed log size h passes =
      subst (λ (f : ℕ → List ℕ). Passes (heeding bank (now a.store) f (group_pages (length (now a.bank))) pages) a b result) is.content_is
      (subst (λ (list : List ℕ). Passes (heeding bank (now a.store) (job_page kind (now a.bank) capsule layout) (group_pages (length (now a.bank))) list) a b result) is.pages_are
      (subst (λ (which : Bank). Passes (heeding which (now a.store) (job_page kind (now a.bank) capsule layout) (group_pages (length (now a.bank))) (job_pages kind (now a.bank) capsule layout)) a b result) (ap (λ (l : LogState). l.bank) h.stands) passes))
  passes_by Ignore log size h passes =
      subst (λ (f : ℕ → List ℕ). Passes (ignoring f (group_pages (length (now a.bank))) pages) a b result) is.content_is
      (subst (λ (list : List ℕ). Passes (ignoring (job_page kind (now a.bank) capsule layout) (group_pages (length (now a.bank))) list) a b result) is.pages_are passes)
  passes_by Without log size h passes =
      subst (λ (f : ℕ → List ℕ). Passes (ignoring f (group_pages (length (now a.bank))) pages) a b result) is.content_is
      (subst (λ (list : List ℕ). Passes (ignoring (job_page kind (now a.bank) capsule layout) (group_pages (length (now a.bank))) list) a b result) is.pages_are passes)

  pub marks_by : (marks : Marks) (log : LogState) (size all : ℕ) → HasLog marks bank (now a.store) size log → OnOk result (SetsMarks marks log.bank (is_job_page kind (now a.bank) capsule layout) (group_pages (length (now a.bank))) all (now a.store) (now b.store))
      → OnOk result (SetsMarks marks bank test (group_pages (length (now a.bank))) all (now a.store) (now b.store))
  marks_by Heed log size all h set =
      on_ok result (SetsMarks Heed log.bank (is_job_page kind (now a.bank) capsule layout) (group_pages (length (now a.bank))) all (now a.store) (now b.store)) (SetsMarks Heed bank test (group_pages (length (now a.bank))) all (now a.store) (now b.store))
      (λ each. subst (λ (t : ℕ → Bool). SetsMarks Heed bank t (group_pages (length (now a.bank))) all (now a.store) (now b.store)) is.test_is
      (subst (λ (which : Bank). SetsMarks Heed which (is_job_page kind (now a.bank) capsule layout) (group_pages (length (now a.bank))) all (now a.store) (now b.store)) (ap (λ (l : LogState). l.bank) h.stands) each)) set
  marks_by Ignore log size all h set = set
  marks_by Without log size all h set = set

  module _ (can : CanDo kind (now a.bank) layout capsule) (bytes : AreBytes (now a.bank)) where
    among : (n : ℕ) → IsOneOf n pages → (n < length (now a.bank) / 4096) × (is_job_page kind (now a.bank) capsule layout n ≡ true)
    among n one = job_pages_are kind (now a.bank) capsule layout n (subst (λ (list : List ℕ). IsOneOf n list) (sym is.pages_are) one)

    fills_whole : (n : ℕ) → IsOneOf n pages → length (content n) ≡ 4096
    fills_whole n one =
        subst (λ (f : ℕ → List ℕ). length (f n) ≡ 4096) is.content_is (job_fills (now a.bank) capsule layout bytes kind can n (among n one).0 (among n one).1).whole

    module _ (marks : Marks) (passes : Passes (marks_deeds marks bank (now a.store) content (group_pages (length (now a.bank))) pages) a b result) where
      pub strokes_by : AddsPlan (strokes_of content (written_pages marks bank (now a.store) (group_pages (length (now a.bank))) pages)) a.bank b.bank result
      strokes_by =
          adds_plan (marks_deeds marks bank (now a.store) content (group_pages (length (now a.bank))) pages) a b (strokes_of content (written_pages marks bank (now a.store) (group_pages (length (now a.bank))) pages)) result
          (marks_ops marks bank (now a.store) content (group_pages (length (now a.bank))) pages) passes

      pub rebuilt_by : OnOk result (now b.bank ≡ replaced (now a.bank) content (written_pages marks bank (now a.store) (group_pages (length (now a.bank))) pages))
      rebuilt_by =
          left_image (marks_deeds marks bank (now a.store) content (group_pages (length (now a.bank))) pages) a b (strokes_of content (written_pages marks bank (now a.store) (group_pages (length (now a.bank))) pages))
          (replaced (now a.bank) content (written_pages marks bank (now a.store) (group_pages (length (now a.bank))) pages)) result
          (marks_ops marks bank (now a.store) content (group_pages (length (now a.bank))) pages)
          (subst (λ (f : ℕ → List ℕ). play (now a.bank) (strokes_of f (written_pages marks bank (now a.store) (group_pages (length (now a.bank))) pages)) ≡ replaced (now a.bank) f (written_pages marks bank (now a.store) (group_pages (length (now a.bank))) pages)) is.content_is
          (job_is (now a.bank) capsule layout bytes kind can (written_pages marks bank (now a.store) (group_pages (length (now a.bank))) pages)
          (λ n one. among n (written_are marks bank (now a.store) (group_pages (length (now a.bank))) pages n one)))) passes

    -- at Ok the job can be done again
    pub again_by : (marks : Marks) → OnOk result (now b.bank ≡ replaced (now a.bank) content (written_pages marks bank (now a.store) (group_pages (length (now a.bank))) pages)) → OnOk result (CanDo kind (now b.bank) layout capsule)
    again_by marks rebuilt =
        let chosen : List ℕ = written_pages marks bank (now a.store) (group_pages (length (now a.bank))) pages in
        let each : AreJobPages kind (now a.bank) capsule layout chosen = λ n one. among n (written_are marks bank (now a.store) (group_pages (length (now a.bank))) pages n one) in
        on_ok result (now b.bank ≡ replaced (now a.bank) content chosen) (CanDo kind (now b.bank) layout capsule)
        (λ here. subst (λ (image : List ℕ). CanDo kind image layout capsule)
        (job_is (now a.bank) capsule layout bytes kind can chosen each
        ∙ ap (λ (f : ℕ → List ℕ). replaced (now a.bank) f chosen) is.content_is ∙ sym here)
        (job_stays (now a.bank) capsule layout bytes kind can chosen each).can) rebuilt

    pub spares_by : Passes (heeding bank (now a.store) content (group_pages (length (now a.bank))) pages) a b result → SparesMarked bank (group_pages (length (now a.bank))) a b
    spares_by passes ops added n touches =
        let one : IsOneOf n (written_pages Heed bank (now a.store) (group_pages (length (now a.bank))) pages) =
        pass_touches (heeding bank (now a.store) content (group_pages (length (now a.bank))) pages) content (written_pages Heed bank (now a.store) (group_pages (length (now a.bank))) pages) a b result
        (marks_ops Heed bank (now a.store) content (group_pages (length (now a.bank))) pages)
        (λ page there. fills_whole page (written_are Heed bank (now a.store) (group_pages (length (now a.bank))) pages page there)) passes ops added n touches in
        not_true (is_marked (now a.store) bank (n / group_pages (length (now a.bank)))) (one_filtered (λ (page : ℕ). not (is_marked (now a.store) bank (page / group_pages (length (now a.bank))))) pages n one).1
      where
        not_true : (t : Bool) → not t ≡ true → t ≡ false
        not_true true e = absurd (false≢true e)
        not_true false e = refl

    pub resumes_by : (marks : Marks) (log : LogState) (size : ℕ) → HasLog marks bank (now a.store) size log → Passes (marks_deeds marks bank (now a.store) content (group_pages (length (now a.bank))) pages) a b result
        → (marks ≡ Heed → OpensOne log.bank (group_pages (length (now a.bank))) a b) → Resumes marks bank (group_pages (length (now a.bank))) a b
    resumes_by Heed log size h passes one = record {
      spares = spares_by passes;
      one = subst (λ (which : Bank). OpensOne which (group_pages (length (now a.bank))) a b) (ap (λ (l : LogState). l.bank) h.stands) (one refl);
    }
    resumes_by Ignore log size h passes one = tt
    resumes_by Without log size h passes one = tt
