-- However a call ends that is to do a pass over the recovery area, the bank can be recovered.
use Rattle.std.proofs.Common.{◌≡◌, ◌∙◌, refl, sym, ap, subst, arith, ℕ, ◌+◌, ◌*◌, ◌/◌, ◌≤◌, ◌<◌, Bool, true, false, if◌then◌else◌, List, [], ◌∷◌, ◌++◌, length, Option, inl, inr, Result, Ok, Err}
use Rattle.pfr_flash.specs.FlashState.{FlashState, now}
use Rattle.pfr_flash.specs.Layout.{IsValidLayout}
use Rattle.pfr_flash.specs.Operation.{Operation, play}
use Rattle.pfr_flash.specs.Range.{AllWithin}
use Rattle.pfr_flash.specs.declared.flash.FlashFail.{FlashFail}
use Rattle.pfr_flash.specs.declared.layout.Layout.{Layout}
use Rattle.pfr_flash.specs.declared.names.Bank.{Bank}
use Rattle.pfr_flash.proofs.PlayLemmas.{play-append}
use Rattle.pfr_flash.proofs.RangeLemmas.{IsTorn-within}
use Rattle.pfr_engine.specs.Acceptance.{Acceptance}
use Rattle.pfr_jobs.specs.Log.{current_at, current_page, last_gated}
use Rattle.pfr_jobs.specs.LogState.{is_marked}
use Rattle.pfr_jobs.specs.LogPlans.{mark_by, mark_plan}
use Rattle.pfr_jobs.proofs.LogLaws.{LastOf, nothing, found, last_of}
use Rattle.pfr_strokes.specs.Strokes.{strokes}
use Rattle.pfr_strokes.specs.Deeds.{Deed, Asks, called, ends_group, page_deeds, marked_by, side_ops, FailedAt, asking, unbegun, torn, IsDeedCut}
use Rattle.pfr_strokes.specs.Passes.{Pair, Failed, Passes}
use Rattle.pfr_strokes.specs.declared.side.Side.{Side}
use Rattle.pfr_strokes.specs.declared.side.Side.TheVariants as side
use Rattle.pfr_strokes.specs.declared.side.CopyFail.{CopyFail}
use Rattle.pfr_strokes.specs.declared.side.CopyFail.TheVariants as fails
use Rattle.pfr_strokes.proofs.StrokesLaws.{strokes_within}
use Rattle.pfr_strokes.proofs.ReplacedLaws.{IsOneOf}
use Rattle.pfr_strokes.proofs.PassesLemmas.{Did-now}
use Rattle.pfr_recoverable.specs.Recoverable.{IsRecoverable}
use Rattle.pfr_recoverable.proofs.CutLaw.{IsAtWork}
use Rattle.pfr_recoverable.proofs.PassLaw.{IsPassDeed, AllPassDeeds, pass_recoverable}

-- ---- deeds of a pass
module _ (layout : Layout) (at : ℕ) where
  both : (deeds more : List Deed) → AllPassDeeds layout at deeds → AllPassDeeds layout at more → AllPassDeeds layout at (deeds ++ more)
  both [] more h k = k
  both (deed ∷ deeds) more h k = (h.0, both deeds more h.1 k)

  front_of : (deeds more : List Deed) → AllPassDeeds layout at (deeds ++ more) → AllPassDeeds layout at deeds
  front_of [] more h = tt
  front_of (deed ∷ deeds) more h = (h.0, front_of deeds more h.1)

  rest_of : (deeds more : List Deed) → AllPassDeeds layout at (deeds ++ more) → AllPassDeeds layout at more
  rest_of [] more h = h
  rest_of (deed ∷ deeds) more h = rest_of deeds more h.1

  -- one that failed
  failed_deed : (which : Side) (next : Deed) (last : List Deed) (image : List ℕ) → FailedAt which image next last → IsPassDeed layout at next → AllPassDeeds layout at last
  failed_deed which _ _ image asking d = tt
  failed_deed which _ _ image (unbegun op) d = tt
  failed_deed side.Bank _ _ image (torn op done t) d =
      let same = IsTorn-within image op done t in
      (record { low = omega (arith, d.low, same.0); high = omega (arith, d.high, same.0, same.1) }, tt)
  failed_deed side.Store _ _ image (torn op done t) m =
      let same = IsTorn-within image op done t in
      (record { slot = m.slot; group = m.group; few = m.few; small = m.small; place = same.0 ∙ m.place; one = same.1 ∙ m.one }, tt)

  -- What a cut of them did are such deeds.
  pub cut_deeds : (which : Side) (deeds trace : List Deed) (image : List ℕ) → IsDeedCut which deeds image trace → AllPassDeeds layout at deeds → AllPassDeeds layout at trace
  cut_deeds which deeds trace image cut all =
      let split : AllPassDeeds layout at (cut.front ++ (cut.next ∷ cut.rest)) = subst (λ (xs : List Deed). AllPassDeeds layout at xs) cut.plan all in
      subst (λ (xs : List Deed). AllPassDeeds layout at xs) (sym cut.is)
      (both cut.front cut.last (front_of cut.front (cut.next ∷ cut.rest) split)
      (failed_deed which cut.next cut.last (play image (side_ops which cut.front)) cut.failed (rest_of cut.front (cut.next ∷ cut.rest) split).0))

  -- ---- the deeds of pages of the recovery area
  page_inside : (page : ℕ) (ops : List Operation) → layout.recovery_at ≤ 4096 * page → 4096 * page + 4096 ≤ layout.recovery_at + layout.area_len → AllWithin (4096 * page) 4096 ops
      → AllPassDeeds layout at (called side.Bank ops)
  page_inside page [] low high within = (tt, tt)
  page_inside page (op ∷ ops) low high within =
      (record { low = omega (arith, low, within.0.low); high = omega (arith, high, within.0.high) }, page_inside page ops low high within.1)

  -- a page of it, with all that it is to hold
  pub record IsAreaPage (content : ℕ → List ℕ) (page : ℕ) : Type 0 where
    pub low : layout.recovery_at ≤ 4096 * page
    pub high : 4096 * page + 4096 ≤ layout.recovery_at + layout.area_len
    pub whole : length (content page) ≡ 4096

  pub pages_pass : (content : ℕ → List ℕ) (group : ℕ) (mark : ℕ → List Deed) (pages : List ℕ) → ((page : ℕ) → IsOneOf page pages → IsAreaPage content page)
      → ((page : ℕ) → IsOneOf page pages → AllPassDeeds layout at (mark (page / group))) → AllPassDeeds layout at (page_deeds content group mark pages)
  unfolding page_deeds
  pages_pass content group mark [] inside marks = tt
  pages_pass content group mark (page ∷ pages) inside marks =
      let h = inside page (inl refl) in
      both (called side.Bank (strokes page (content page))) ((if ends_group group page pages then mark (page / group) else []) ++ page_deeds content group mark pages)
      (page_inside page (strokes page (content page)) h.low h.high (strokes_within page (content page) h.whole))
      (both (if ends_group group page pages then mark (page / group) else []) (page_deeds content group mark pages) (by_end (ends_group group page pages))
      (pages_pass content group mark pages (λ n one. inside n (inr one)) (λ n one. marks n (inr one))))
    where
      by_end : (ends : Bool) → AllPassDeeds layout at (if ends then mark (page / group) else [])
      by_end true = marks page (inl refl)
      by_end false = tt

-- a mark of the open slot is one of its deeds
pub mark_deeds : (layout : Layout) (nv : List ℕ) (b : Bank) (group : ℕ) → group < 128 → AllPassDeeds layout (current_at nv b) (marked_by (mark_plan nv b) group)
unfolding mark_plan
mark_deeds layout nv b group small = by_set (is_marked nv b group)
  where
    by_last : (last : Option ℕ) → LastOf (current_page nv b) 64 last → AllPassDeeds layout (current_at nv b) (called side.Store (mark_by (current_at nv b) last group) ++ Asks side.Bank ∷ [])
    by_last _ (nothing none) = (tt, (tt, tt))
    by_last _ (found k below gated above) = (record { slot = k; group = group; few = below; small = small; place = omega arith; one = refl }, (tt, (tt, tt)))

    by_set : (set : Bool) → AllPassDeeds layout (current_at nv b) (called side.Store (if set then [] else mark_by (current_at nv b) (last_gated (current_page nv b) 64) group) ++ Asks side.Bank ∷ [])
    by_set true = (tt, (tt, tt))
    by_set false = by_last (last_gated (current_page nv b) 64) (last_of (current_page nv b) 64)

-- ---- a call that is to do them
pub Failed-now : (fail : FlashFail) (ops : List Operation) (old new : FlashState) → Failed fail ops old new → now new ≡ play (now old) ops
Failed-now fail ops old new h =
    ap (λ (s : List ℕ). play s new.ops) h.worked.moved.start ∙ ap (λ (o : List Operation). play old.start o) h.done ∙ play-append old.start old.ops ops

module _ (layout : Layout) (b : Bank) (accepts : Acceptance) (deeds : List Deed) (old new : Pair) (valid : IsValidLayout layout (length (now old.bank)))
    (all : AllPassDeeds layout (current_at (now old.store) b) deeds) (w : IsAtWork layout b (now old.bank) (now old.store) accepts) where
  by_images : (trace : List Deed) → AllPassDeeds layout (current_at (now old.store) b) trace → now new.bank ≡ play (now old.bank) (side_ops side.Bank trace) → now new.store ≡ play (now old.store) (side_ops side.Store trace)
      → IsRecoverable b (now new.bank) (now new.store) accepts
  by_images trace each bank_is store_is =
      subst (λ (image : List ℕ). IsRecoverable b image (now new.store) accepts) (sym bank_is)
      (subst (λ (nv : List ℕ). IsRecoverable b (play (now old.bank) (side_ops side.Bank trace)) nv accepts) (sym store_is)
      (pass_recoverable layout b (now old.bank) (now old.store) accepts trace valid each w))

  pub passed_recoverable : {T : Type 0} (result : Result T CopyFail) → Passes deeds old new result → IsRecoverable b (now new.bank) (now new.store) accepts
  passed_recoverable (Ok x) h =
      by_images deeds all (Did-now (side_ops side.Bank deeds) old.bank new.bank (h.each side.Bank)) (Did-now (side_ops side.Store deeds) old.store new.store (h.each side.Store))
  passed_recoverable (Err (fails.Bank fail)) h =
      by_images h.trace (cut_deeds layout (current_at (now old.store) b) side.Bank deeds h.trace (now old.bank) h.cut all)
      (Failed-now fail (side_ops side.Bank h.trace) old.bank new.bank h.here) (Did-now (side_ops side.Store h.trace) old.store new.store h.there)
  passed_recoverable (Err (fails.Store fail)) h =
      by_images h.trace (cut_deeds layout (current_at (now old.store) b) side.Store deeds h.trace (now old.store) h.cut all)
      (Did-now (side_ops side.Bank h.trace) old.bank new.bank h.there) (Failed-now fail (side_ops side.Store h.trace) old.store new.store h.here)
