-- What a pass leaves of the store, however it ended, and what is open behind it.
use Rattle.std.proofs.Common.{◌≡◌, ◌≢◌, ◌∙◌, refl, sym, ap, subst, arith, ℕ, List, [], ◌∷◌, length, inl, inr, Result, Ok, Err, OnOk}
use Rattle.pfr_flash.specs.Bytes.{AreBytes}
use Rattle.pfr_flash.specs.FlashState.{FlashState, now, size_of}
use Rattle.pfr_flash.specs.Operation.{Operation, applied, play}
use Rattle.pfr_flash.specs.Range.{AllWithin, IsWithin, SameOutside}
use Rattle.pfr_flash.specs.declared.layout.Layout.{Layout}
use Rattle.pfr_flash.specs.declared.names.Bank.{Bank}
use Rattle.pfr_flash.specs.declared.names.Bank.TheVariants as bank
use Rattle.pfr_flash.proofs.PlayLemmas.{length-applied}
use Rattle.pfr_flash.proofs.RangeLemmas.{SameOutside-play, SameOutside-refl, length-now}
use Rattle.pfr_capsule.specs.CapsuleState.{CapsuleState}
use Rattle.pfr_jobs.specs.Log.{current_at, log_at, open_job, selector, spent_in}
use Rattle.pfr_jobs.specs.LogState.{LogState}
use Rattle.pfr_jobs.specs.declared.job.JobKind.{JobKind}
use Rattle.pfr_jobs.proofs.CutLaws.{mark_current, mark_keeps, outside_keeps}
use Rattle.pfr_jobs.proofs.LogLaws.{page_inside}
use Rattle.pfr_rebuilt.specs.ActiveCopying.{active_page, active_pages}
use Rattle.pfr_rebuilt.specs.Copying.{recovery_page, recovery_pages}
use Rattle.pfr_rebuilt.specs.Passing.{group_pages}
use Rattle.pfr_recoverable.proofs.PassLaw.{AllPassDeeds, IsMarkAt}
use Rattle.pfr_recoverable.proofs.PassedLaw.{Failed-now, cut_deeds}
use Rattle.pfr_strokes.specs.Deeds.{Asks, Deed, Does, IsDeedCut, side_ops}
use Rattle.pfr_strokes.specs.Passes.{Pair, Passes}
use Rattle.pfr_strokes.specs.declared.side.Side.{Side}
use Rattle.pfr_strokes.specs.declared.side.Side.TheVariants as side
use Rattle.pfr_strokes.specs.declared.side.CopyFail.{CopyFail}
use Rattle.pfr_strokes.specs.declared.side.CopyFail.TheVariants as fails
use Rattle.pfr_strokes.proofs.PassesLemmas.{Did-now}
use Rattle.pfr_copy.specs.Applying.{CanApply, CanCopyOver}
use Rattle.pfr_copy.specs.Marking.{HasLog, marks_deeds}
use Rattle.pfr_copy.specs.declared.marks.Marks.{Marks}
use Rattle.pfr_copy.specs.declared.marks.Marks.TheVariants.{Heed, Ignore, Without}
use Rattle.pfr_copy.proofs.AreaLaw.{AllApart, all_apart, cut_apart}
use Rattle.pfr_copy.proofs.RecoverLaw.{all_pass}

-- ---- deeds of which all on the store are marks
abbrev pub IsMarkDeed : ℕ → Deed → Type 0
IsMarkDeed at (Asks which) = Unit {0}
IsMarkDeed at (Does side.Bank op) = Unit {0}
IsMarkDeed at (Does side.Store op) = IsMarkAt at op

abbrev pub AllMarks : ℕ → List Deed → Type 0
AllMarks at [] = Unit {0}
AllMarks at (deed ∷ deeds) = IsMarkDeed at deed × AllMarks at deeds

pub apart_marks : (layout : Layout) (at : ℕ) (deeds : List Deed) → AllApart layout at deeds → AllMarks at deeds
apart_marks layout at [] all = tt
apart_marks layout at (Asks which ∷ deeds) all = (tt, apart_marks layout at deeds all.1)
apart_marks layout at (Does side.Bank op ∷ deeds) all = (tt, apart_marks layout at deeds all.1)
apart_marks layout at (Does side.Store op ∷ deeds) all = (all.0, apart_marks layout at deeds all.1)

pub pass_marks : (layout : Layout) (at : ℕ) (deeds : List Deed) → AllPassDeeds layout at deeds → AllMarks at deeds
pass_marks layout at [] all = tt
pass_marks layout at (Asks which ∷ deeds) all = (tt, pass_marks layout at deeds all.1)
pass_marks layout at (Does side.Bank op ∷ deeds) all = (tt, pass_marks layout at deeds all.1)
pass_marks layout at (Does side.Store op ∷ deeds) all = (all.0, pass_marks layout at deeds all.1)

-- ---- they are done
-- a mark lies in the bank's log
mark_within : (nv : List ℕ) (b : Bank) (op : Operation) → IsMarkAt (current_at nv b) op → IsWithin (log_at b) 0x3000 op
mark_within nv b op m = record {
  low = omega (arith, m.place);
  high = omega (arith, m.place, m.one, m.few, m.small, page_inside b (spent_in (selector nv b)));
}

marks_within : (nv : List ℕ) (b : Bank) (deeds : List Deed) → AllMarks (current_at nv b) deeds → AllWithin (log_at b) 0x3000 (side_ops side.Store deeds)
marks_within nv b [] all = tt
marks_within nv b (Asks which ∷ deeds) all = marks_within nv b deeds all.1
marks_within nv b (Does side.Bank op ∷ deeds) all = marks_within nv b deeds all.1
marks_within nv b (Does side.Store op ∷ deeds) all = (mark_within nv b op all.0, marks_within nv b deeds all.1)

-- a mark leaves open what is open, in both logs
mark_open : (b c : Bank) (nv : List ℕ) (op : Operation) → length nv ≡ 32768 → IsMarkAt (current_at nv b) op → open_job (applied nv op) c ≡ open_job nv c
mark_open bank.Bmc bank.Bmc nv op whole m = mark_keeps nv bank.Bmc whole op m.slot m.group m.few m.small m.place m.one
mark_open bank.Pch bank.Pch nv op whole m = mark_keeps nv bank.Pch whole op m.slot m.group m.few m.small m.place m.one
mark_open bank.Bmc bank.Pch nv op whole m = outside_keeps nv bank.Pch whole op (inl (omega (arith, (mark_within nv bank.Bmc op m).high)))
mark_open bank.Pch bank.Bmc nv op whole m = outside_keeps nv bank.Bmc whole op (inr (omega (arith, (mark_within nv bank.Pch op m).low)))

marks_open : (b c : Bank) (nv : List ℕ) (deeds : List Deed) → length nv ≡ 32768 → AllMarks (current_at nv b) deeds → open_job (play nv (side_ops side.Store deeds)) c ≡ open_job nv c
marks_open b c nv [] whole all = refl
marks_open b c nv (Asks which ∷ deeds) whole all = marks_open b c nv deeds whole all.1
marks_open b c nv (Does side.Bank op ∷ deeds) whole all = marks_open b c nv deeds whole all.1
marks_open b c nv (Does side.Store op ∷ deeds) whole all =
    let m = all.0 in
    marks_open b c (applied nv op) deeds (length-applied nv op ∙ whole)
    (subst (λ (at : ℕ). AllMarks at deeds) (sym (mark_current nv b whole op m.slot m.group m.few m.small m.place m.one)) all.1)
    ∙ mark_open b c nv op whole m

-- ---- a call that is to do them
-- all of them are so, and all of each cut
pub record MarksOnly (at : ℕ) (deeds : List Deed) : Type 0 where
  pub all : AllMarks at deeds
  pub cut : (which : Side) (trace : List Deed) (image : List ℕ) → IsDeedCut which deeds image trace → AllMarks at trace

module _ (bank : Bank) (a b : Pair) where
  by_trace : (trace : List Deed) → AllMarks (current_at (now a.store) bank) trace → now b.store ≡ play (now a.store) (side_ops side.Store trace) → SameOutside (log_at bank) 0x3000 (now a.store) (now b.store)
  by_trace trace all is =
      subst (λ (nv : List ℕ). SameOutside (log_at bank) 0x3000 (now a.store) nv) (sym is)
      (SameOutside-play (log_at bank) 0x3000 (now a.store) (side_ops side.Store trace) (marks_within (now a.store) bank trace all))

  passed_outside : {T : Type 0} (deeds : List Deed) (result : Result T CopyFail) → MarksOnly (current_at (now a.store) bank) deeds → Passes deeds a b result → SameOutside (log_at bank) 0x3000 (now a.store) (now b.store)
  passed_outside deeds (Ok x) only h = by_trace deeds only.all (Did-now (side_ops side.Store deeds) a.store b.store (h.each side.Store))
  passed_outside deeds (Err (fails.Bank fail)) only h = by_trace h.trace (only.cut side.Bank h.trace (now a.bank) h.cut) (Did-now (side_ops side.Store h.trace) a.store b.store h.there)
  passed_outside deeds (Err (fails.Store fail)) only h = by_trace h.trace (only.cut side.Store h.trace (now a.store) h.cut) (Failed-now fail (side_ops side.Store h.trace) a.store b.store h.here)

  passed_open : {T : Type 0} (deeds : List Deed) (result : Result T CopyFail) → size_of a.store ≡ 32768 → AllMarks (current_at (now a.store) bank) deeds → Passes deeds a b result
      → OnOk result ((c : Bank) → open_job (now b.store) c ≡ open_job (now a.store) c)
  passed_open deeds (Err fail) size all h = tt
  passed_open deeds (Ok x) size all h = λ c.
      ap (λ (nv : List ℕ). open_job nv c) (Did-now (side_ops side.Store deeds) a.store b.store (h.each side.Store))
      ∙ marks_open bank c (now a.store) deeds (length-now a.store ∙ size) all

  same_outside : b.store ≡ a.store → SameOutside (log_at bank) 0x3000 (now a.store) (now b.store)
  same_outside e = subst (λ (d : FlashState). SameOutside (log_at bank) 0x3000 (now a.store) (now d)) (sym e) (SameOutside-refl (log_at bank) 0x3000 (now a.store))

  same_open : {T E : Type 0} (result : Result T E) → b.store ≡ a.store → OnOk result ((c : Bank) → open_job (now b.store) c ≡ open_job (now a.store) c)
  same_open (Err fail) e = tt
  same_open (Ok x) e = λ c. ap (λ (d : FlashState). open_job (now d) c) e

  -- by what is done with marks
  module _ {T : Type 0} (marks : Marks) (deeds : List Deed) (only : MarksOnly (current_at (now a.store) bank) deeds) (unused : marks ≢ Heed → b.store ≡ a.store) (result : Result T CopyFail) (passes : Passes deeds a b result) where
    pub logged_by : SameOutside (log_at bank) 0x3000 (now a.store) (now b.store)
    logged_by = passed_outside deeds result only passes

    pub opened_by : (log : LogState) → HasLog marks bank (now a.store) (size_of a.store) log → OnOk result ((c : Bank) → open_job (now b.store) c ≡ open_job (now a.store) c)
    opened_by log h = by_marks marks refl
      where
        by_marks : (m : Marks) → marks ≡ m → OnOk result ((c : Bank) → open_job (now b.store) c ≡ open_job (now a.store) c)
        by_marks Heed e = passed_open deeds result (subst (λ (m : Marks). HasLog m bank (now a.store) (size_of a.store) log) e h).whole only.all passes
        by_marks Ignore e = same_open result (unused (λ heeds. let same : Ignore ≡ Heed = sym e ∙ heeds in absurd cc))
        by_marks Without e = same_open result (unused (λ heeds. let same : Without ≡ Heed = sym e ∙ heeds in absurd cc))

-- ---- the passes
module _ (kind : JobKind) (capsule : CapsuleState) (layout : Layout) (bank : Bank) (a b : Pair) (can : CanApply (now a.bank) layout capsule) (bytes : AreBytes (now a.bank)) where
  pub active_marks : (marks : Marks)
      → MarksOnly (current_at (now a.store) bank) (marks_deeds marks bank (now a.store) (active_page (now a.bank) capsule layout) (group_pages (length (now a.bank))) (active_pages kind (now a.bank) capsule layout))
  active_marks marks =
      let at : ℕ = current_at (now a.store) bank in
      let deeds : List Deed = marks_deeds marks bank (now a.store) (active_page (now a.bank) capsule layout) (group_pages (length (now a.bank))) (active_pages kind (now a.bank) capsule layout) in
      let all : AllApart layout at deeds = all_apart kind capsule layout bank a b can bytes marks in
      record {
        all = apart_marks layout at deeds all;
        cut = λ which trace image cut. apart_marks layout at trace (cut_apart layout at which deeds trace image cut all);
      }

module _ (capsule : CapsuleState) (layout : Layout) (bank : Bank) (a b : Pair) (can : CanCopyOver (now a.bank) layout capsule) (bytes : AreBytes (now a.bank)) where
  pub recovery_marks : (marks : Marks)
      → MarksOnly (current_at (now a.store) bank) (marks_deeds marks bank (now a.store) (recovery_page (now a.bank) layout.staging_at capsule.length layout) (group_pages (length (now a.bank))) (recovery_pages layout capsule.length (length (now a.bank))))
  recovery_marks marks =
      let at : ℕ = current_at (now a.store) bank in
      let deeds : List Deed = marks_deeds marks bank (now a.store) (recovery_page (now a.bank) layout.staging_at capsule.length layout) (group_pages (length (now a.bank))) (recovery_pages layout capsule.length (length (now a.bank))) in
      let all : AllPassDeeds layout at deeds = all_pass capsule layout bank a b can bytes marks in
      record {
        all = pass_marks layout at deeds all;
        cut = λ which trace image cut. pass_marks layout at trace (cut_deeds layout at which deeds trace image cut all);
      }
