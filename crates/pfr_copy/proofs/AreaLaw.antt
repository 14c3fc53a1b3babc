-- A capsule that is applied leaves a good recovery area so, however that ended.
use Rattle.std.proofs.Common.{◌≡◌, ◌∙◌, ℕ, ◌+◌, ◌*◌, ◌/◌, ◌≤◌, ◌<◌, ◌%◌, Bool, true, false, if◌then◌else◌, sym, ap, refl, subst, arith, List, [], ◌∷◌, ◌++◌, length, Option, Result, Ok, Err, ◌⊎◌, inl, inr}
use Rattle.pfr_flash.specs.Bytes.{AreBytes}
use Rattle.pfr_flash.specs.FlashState.{now, size_of}
use Rattle.pfr_flash.specs.Layout.{IsBankSize}
use Rattle.pfr_flash.specs.Operation.{Operation, applied, play}
use Rattle.pfr_flash.specs.Range.{AllWithin, IsWithin, Leaves, place_of, len_of}
use Rattle.pfr_flash.specs.declared.layout.Layout.{Layout}
use Rattle.pfr_flash.specs.declared.names.Bank.{Bank}
use Rattle.pfr_flash.proofs.PlayLemmas.{length-applied}
use Rattle.pfr_flash.proofs.RangeLemmas.{IsTorn-within, length-now}
use Rattle.pfr_engine.specs.Acceptance.{Acceptance}
use Rattle.pfr_fuses.specs.FusesState.{FusesState}
use Rattle.pfr_fuses.specs.FusesOf.{fuses_of}
use Rattle.pfr_fuses.specs.RootSlot.{layout_of}
use Rattle.pfr_capsule.specs.CapsuleState.{CapsuleState}
use Rattle.pfr_jobs.specs.Log.{current_at, current_page, last_gated, selector, spent_in}
use Rattle.pfr_jobs.specs.LogPlans.{mark_by, mark_plan}
use Rattle.pfr_jobs.specs.LogState.{is_marked}
use Rattle.pfr_jobs.specs.declared.job.JobKind.{JobKind}
use Rattle.pfr_jobs.proofs.BeginLaw.{log_low, log_high}
use Rattle.pfr_jobs.proofs.LogLaws.{LastOf, nothing, found, last_of, page_inside}
use Rattle.pfr_rebuilt.specs.ActiveCopying.{active_page, active_pages, is_active_page}
use Rattle.pfr_rebuilt.specs.Passing.{group_pages}
use Rattle.pfr_recoverable.specs.Recoverable.{HasGoodRecovery}
use Rattle.pfr_recoverable.proofs.CutLaw.{IsInLogs, logs_same, recovery_logged}
use Rattle.pfr_recoverable.proofs.PassedLaw.{Failed-now}
use Rattle.pfr_recoverable.proofs.PassLaw.{IsMarkAt}
use Rattle.pfr_recoverable.proofs.StaysLaw.{fuses_one, recovery_left}
use Rattle.pfr_strokes.specs.Deeds.{Deed, Asks, Does, FailedAt, IsDeedCut, asking, called, ends_group, marked_by, page_deeds, side_ops, torn, unbegun, unmarked}
use Rattle.pfr_strokes.specs.Passes.{Pair, Passes}
use Rattle.pfr_strokes.specs.Strokes.{strokes}
use Rattle.pfr_strokes.specs.declared.side.Side.{Side}
use Rattle.pfr_strokes.specs.declared.side.Side.TheVariants as side
use Rattle.pfr_strokes.specs.declared.side.CopyFail.{CopyFail}
use Rattle.pfr_strokes.specs.declared.side.CopyFail.TheVariants as fails
use Rattle.pfr_strokes.proofs.PassesLemmas.{Did-now}
use Rattle.pfr_strokes.proofs.ReplacedLaws.{IsOneOf, pages_are}
use Rattle.pfr_strokes.proofs.StrokesLaws.{strokes_within}
use Rattle.pfr_copy.specs.Applying.{CanApply}
use Rattle.pfr_copy.specs.Copied.{written_pages}
use Rattle.pfr_copy.specs.Marking.{marks_deeds}
use Rattle.pfr_copy.specs.Recovering.{HasAreaBy}
use Rattle.pfr_copy.specs.declared.marks.Marks.{Marks}
use Rattle.pfr_copy.specs.declared.marks.Marks.TheVariants.{Heed, Ignore, Without}
use Rattle.pfr_copy.proofs.ClauseLaw.{written_are}
use Rattle.pfr_copy.proofs.RecoverLaw.{small_group}
use Rattle.pfr_copy.proofs.SourcesLaw.{fills, page_apart}

-- ---- deeds that leave the recovery area, and mark groups
abbrev pub IsApartDeed : Layout → ℕ → Deed → Type 0
IsApartDeed layout at (Asks which) = Unit {0}
IsApartDeed layout at (Does side.Bank op) = Leaves layout.recovery_at layout.area_len op
IsApartDeed layout at (Does side.Store op) = IsMarkAt at op

abbrev pub AllApart : Layout → ℕ → List Deed → Type 0
AllApart layout at [] = Unit {0}
AllApart layout at (deed ∷ deeds) = IsApartDeed layout at deed × AllApart layout at deeds

module _ (layout : Layout) (at : ℕ) where
  both : (deeds more : List Deed) → AllApart layout at deeds → AllApart layout at more → AllApart layout at (deeds ++ more)
  both [] more h k = k
  both (deed ∷ deeds) more h k = (h.0, both deeds more h.1 k)

  front_of : (deeds more : List Deed) → AllApart layout at (deeds ++ more) → AllApart layout at deeds
  front_of [] more h = tt
  front_of (deed ∷ deeds) more h = (h.0, front_of deeds more h.1)

  rest_of : (deeds more : List Deed) → AllApart layout at (deeds ++ more) → AllApart layout at more
  rest_of [] more h = h
  rest_of (deed ∷ deeds) more h = rest_of deeds more h.1

  leaves_same : (op done : Operation) → place_of done ≡ place_of op → len_of done ≡ len_of op → Leaves layout.recovery_at layout.area_len op → Leaves layout.recovery_at layout.area_len done
  leaves_same op done place long (inl before) = inl (omega (arith, before, place, long))
  leaves_same op done place long (inr behind) = inr (omega (arith, behind, place))

  failed_deed : (which : Side) (next : Deed) (last : List Deed) (image : List ℕ) → FailedAt which image next last → IsApartDeed layout at next → AllApart layout at last
  failed_deed which _ _ image asking d = tt
  failed_deed which _ _ image (unbegun op) d = tt
  failed_deed side.Bank _ _ image (torn op done t) d = let same = IsTorn-within image op done t in (leaves_same op done same.0 same.1 d, tt)
  failed_deed side.Store _ _ image (torn op done t) m =
      let same = IsTorn-within image op done t in
      (record { slot = m.slot; group = m.group; few = m.few; small = m.small; place = same.0 ∙ m.place; one = same.1 ∙ m.one }, tt)

  pub cut_apart : (which : Side) (deeds trace : List Deed) (image : List ℕ) → IsDeedCut which deeds image trace → AllApart layout at deeds → AllApart layout at trace
  cut_apart which deeds trace image cut all =
      let split : AllApart layout at (cut.front ++ (cut.next ∷ cut.rest)) = subst (λ (xs : List Deed). AllApart layout at xs) cut.plan all in
      subst (λ (xs : List Deed). AllApart layout at xs) (sym cut.is)
      (both cut.front cut.last (front_of cut.front (cut.next ∷ cut.rest) split)
      (failed_deed which cut.next cut.last (play image (side_ops which cut.front)) cut.failed (rest_of cut.front (cut.next ∷ cut.rest) split).0))

  -- ---- the deeds of pages apart from it
  page_leaves : (page : ℕ) (ops : List Operation) → (layout.recovery_at + layout.area_len ≤ 4096 * page) ⊎ (4096 * page + 4096 ≤ layout.recovery_at) → AllWithin (4096 * page) 4096 ops → AllApart layout at (called side.Bank ops)
  page_leaves page [] apart within = (tt, tt)
  page_leaves page (op ∷ ops) apart within = (by_side apart within.0, page_leaves page ops apart within.1)
    where
      by_side : (layout.recovery_at + layout.area_len ≤ 4096 * page) ⊎ (4096 * page + 4096 ≤ layout.recovery_at) → IsWithin (4096 * page) 4096 op → Leaves layout.recovery_at layout.area_len op
      by_side (inl behind) w = inr (omega (arith, behind, w.low))
      by_side (inr before) w = inl (omega (arith, before, w.high))

  pages_leave : (content : ℕ → List ℕ) (group : ℕ) (mark : ℕ → List Deed) (pages : List ℕ)
      → ((page : ℕ) → IsOneOf page pages → ((layout.recovery_at + layout.area_len ≤ 4096 * page) ⊎ (4096 * page + 4096 ≤ layout.recovery_at)) × (length (content page) ≡ 4096))
      → ((page : ℕ) → IsOneOf page pages → AllApart layout at (mark (page / group))) → AllApart layout at (page_deeds content group mark pages)
  unfolding page_deeds
  pages_leave content group mark [] each marks = tt
  pages_leave content group mark (page ∷ pages) each marks =
      let h = each page (inl refl) in
      both (called side.Bank (strokes page (content page))) ((if ends_group group page pages then mark (page / group) else []) ++ page_deeds content group mark pages)
      (page_leaves page (strokes page (content page)) h.0 (strokes_within page (content page) h.1))
      (both (if ends_group group page pages then mark (page / group) else []) (page_deeds content group mark pages) (by_end (ends_group group page pages))
      (pages_leave content group mark pages (λ n one. each n (inr one)) (λ n one. marks n (inr one))))
    where
      by_end : (ends : Bool) → AllApart layout at (if ends then mark (page / group) else [])
      by_end true = marks page (inl refl)
      by_end false = tt

mark_apart : (layout : Layout) (nv : List ℕ) (b : Bank) (group : ℕ) → group < 128 → AllApart layout (current_at nv b) (marked_by (mark_plan nv b) group)
unfolding mark_plan
mark_apart layout nv b group small = by_set (is_marked nv b group)
  where
    by_last : (last : Option ℕ) → LastOf (current_page nv b) 64 last → AllApart layout (current_at nv b) (called side.Store (mark_by (current_at nv b) last group) ++ Asks side.Bank ∷ [])
    by_last _ (nothing none) = (tt, (tt, tt))
    by_last _ (found k below gated above) = (record { slot = k; group = group; few = below; small = small; place = omega arith; one = refl }, (tt, (tt, tt)))

    by_set : (set : Bool) → AllApart layout (current_at nv b) (called side.Store (if set then [] else mark_by (current_at nv b) (last_gated (current_page nv b) 64) group) ++ Asks side.Bank ∷ [])
    by_set true = (tt, (tt, tt))
    by_set false = by_last (last_gated (current_page nv b) 64) (last_of (current_page nv b) 64)

-- ---- what they leave
-- the bank, of this layout, has a good recovery area
record IsSafe (layout : Layout) (bank : Bank) (image nv : List ℕ) (accepts : Acceptance) : Type 0 where
  pub area : HasGoodRecovery bank image nv accepts
  pub by_layout : (fuses : FusesState) → fuses_of nv ≡ Ok fuses → layout_of fuses.provision bank ≡ layout
  pub blocks : length image % 65536 ≡ 0
  pub store : length nv ≡ 32768

module _ (layout : Layout) (at : ℕ) (bank : Bank) (accepts : Acceptance) (low : 0x1000 ≤ at) (high : at + 4096 ≤ 0x7000) where
  in_logs : (op : Operation) → IsMarkAt at op → IsInLogs op
  in_logs op m = record { low = omega (arith, m.place, low); high = omega (arith, m.place, m.one, m.few, m.small, high) }

  stays_safe : (image nv : List ℕ) (deeds : List Deed) → AllApart layout at deeds → IsSafe layout bank image nv accepts → HasGoodRecovery bank (play image (side_ops side.Bank deeds)) (play nv (side_ops side.Store deeds)) accepts
  stays_safe image nv [] all s = s.area
  stays_safe image nv (Asks which ∷ deeds) all s = stays_safe image nv deeds all.1 s
  stays_safe image nv (Does side.Bank op ∷ deeds) all s =
      stays_safe (applied image op) nv deeds all.1 (record {
        area = recovery_left bank image nv accepts s.area op s.blocks
            (subst (λ (l : Layout). Leaves l.recovery_at l.area_len op) (sym (s.by_layout s.area.fuses s.area.provisioned)) all.0);
        by_layout = s.by_layout;
        blocks = subst (λ (n : ℕ). n % 65536 ≡ 0) (sym (length-applied image op)) s.blocks;
        store = s.store;
      })
  stays_safe image nv (Does side.Store op ∷ deeds) all s =
      stays_safe image (applied nv op) deeds all.1 (record {
        area = recovery_logged bank image nv accepts s.area op s.store (in_logs op all.0);
        by_layout = λ fuses is. s.by_layout fuses (sym (logs_same nv op s.store (in_logs op all.0)) ∙ is);
        blocks = s.blocks;
        store = length-applied nv op ∙ s.store;
      })

-- ---- a capsule is applied
module _ (kind : JobKind) (capsule : CapsuleState) (layout : Layout) (bank : Bank) (a b : Pair) (can : CanApply (now a.bank) layout capsule) (bytes : AreBytes (now a.bank)) where
  active_are : (n : ℕ) → IsOneOf n (active_pages kind (now a.bank) capsule layout) → (n < length (now a.bank) / 4096) × (is_active_page kind (now a.bank) capsule layout n ≡ true)
  unfolding active_pages
  active_are n one = (pages_are (is_active_page kind (now a.bank) capsule layout) (length (now a.bank) / 4096)).only n one

  each_apart : (n : ℕ) → IsOneOf n (active_pages kind (now a.bank) capsule layout)
      → ((layout.recovery_at + layout.area_len ≤ 4096 * n) ⊎ (4096 * n + 4096 ≤ layout.recovery_at)) × (length (active_page (now a.bank) capsule layout n) ≡ 4096)
  each_apart n one =
      let is = active_are n one in (
        page_apart kind (now a.bank) capsule layout can bytes layout.recovery_at can.valid.apart.manifest_recovery (λ i d below. let r = can.regions i d below in (r.clear_of_recovery, r.end_aligned)) n is.1,
        (fills kind (now a.bank) capsule layout can bytes n is.0 is.1).whole,
      )

  pub all_apart : (marks : Marks) → AllApart layout (current_at (now a.store) bank)
      (marks_deeds marks bank (now a.store) (active_page (now a.bank) capsule layout) (group_pages (length (now a.bank))) (active_pages kind (now a.bank) capsule layout))
  all_apart Heed = (
    tt,
    pages_leave layout (current_at (now a.store) bank) (active_page (now a.bank) capsule layout) (group_pages (length (now a.bank))) (marked_by (mark_plan (now a.store) bank))
        (written_pages Heed bank (now a.store) (group_pages (length (now a.bank))) (active_pages kind (now a.bank) capsule layout))
        (λ n one. each_apart n (written_are Heed bank (now a.store) (group_pages (length (now a.bank))) (active_pages kind (now a.bank) capsule layout) n one))
        (λ n one. mark_apart layout (now a.store) bank (n / group_pages (length (now a.bank)))
        (small_group (length (now a.bank)) n (active_are n (written_are Heed bank (now a.store) (group_pages (length (now a.bank))) (active_pages kind (now a.bank) capsule layout) n one)).0)),
  )
  all_apart Ignore = (
    tt,
    pages_leave layout (current_at (now a.store) bank) (active_page (now a.bank) capsule layout) (group_pages (length (now a.bank))) unmarked
        (active_pages kind (now a.bank) capsule layout) (λ n one. each_apart n one) (λ n one. tt),
  )
  all_apart Without = (
    tt,
    pages_leave layout (current_at (now a.store) bank) (active_page (now a.bank) capsule layout) (group_pages (length (now a.bank))) unmarked
        (active_pages kind (now a.bank) capsule layout) (λ n one. each_apart n one) (λ n one. tt),
  )

  by_images : (accepts : Acceptance) (trace : List Deed) → AllApart layout (current_at (now a.store) bank) trace → IsSafe layout bank (now a.bank) (now a.store) accepts
      → now b.bank ≡ play (now a.bank) (side_ops side.Bank trace) → now b.store ≡ play (now a.store) (side_ops side.Store trace) → HasGoodRecovery bank (now b.bank) (now b.store) accepts
  by_images accepts trace all s bank_is store_is =
      subst (λ (image : List ℕ). HasGoodRecovery bank image (now b.store) accepts) (sym bank_is)
      (subst (λ (nv : List ℕ). HasGoodRecovery bank (play (now a.bank) (side_ops side.Bank trace)) nv accepts) (sym store_is)
      (stays_safe layout (current_at (now a.store) bank) bank accepts (omega (arith, log_low bank)) (omega (arith, page_inside bank (spent_in (selector (now a.store) bank)), log_high bank)) (now a.bank) (now a.store) trace all s))

  module _ (deeds : List Deed) (all : AllApart layout (current_at (now a.store) bank) deeds) (accepts : Acceptance) (s : IsSafe layout bank (now a.bank) (now a.store) accepts) where
    passed_area : (result : Result (Unit {0}) CopyFail) → Passes deeds a b result → HasGoodRecovery bank (now b.bank) (now b.store) accepts
    passed_area (Ok x) h = by_images accepts deeds all s (Did-now (side_ops side.Bank deeds) a.bank b.bank (h.each side.Bank)) (Did-now (side_ops side.Store deeds) a.store b.store (h.each side.Store))
    passed_area (Err (fails.Bank fail)) h =
        by_images accepts h.trace (cut_apart layout (current_at (now a.store) bank) side.Bank deeds h.trace (now a.bank) h.cut all) s
        (Failed-now fail (side_ops side.Bank h.trace) a.bank b.bank h.here) (Did-now (side_ops side.Store h.trace) a.store b.store h.there)
    passed_area (Err (fails.Store fail)) h =
        by_images accepts h.trace (cut_apart layout (current_at (now a.store) bank) side.Store deeds h.trace (now a.store) h.cut all) s
        (Did-now (side_ops side.Bank h.trace) a.bank b.bank h.there) (Failed-now fail (side_ops side.Store h.trace) a.store b.store h.here)

  pub area_by : IsBankSize (size_of a.bank) → (marks : Marks) (result : Result (Unit {0}) CopyFail)
      → Passes (marks_deeds marks bank (now a.store) (active_page (now a.bank) capsule layout) (group_pages (length (now a.bank))) (active_pages kind (now a.bank) capsule layout)) a b result
      → (accepts : Acceptance) → HasAreaBy layout bank (now a.bank) (now a.store) accepts → size_of a.store ≡ 32768 → HasGoodRecovery bank (now b.bank) (now b.store) accepts
  area_by size marks result passes accepts j store =
      passed_area (marks_deeds marks bank (now a.store) (active_page (now a.bank) capsule layout) (group_pages (length (now a.bank))) (active_pages kind (now a.bank) capsule layout)) (all_apart marks) accepts
      (record {
        area = j.area;
        by_layout = λ fuses is. ap (λ (f : FusesState). layout_of f.provision bank) (fuses_one (now a.store) fuses j.area.fuses is j.area.provisioned) ∙ j.by_layout;
        blocks = subst (λ (n : ℕ). n % 65536 ≡ 0) (sym (length-now a.bank)) size.blocks;
        store = length-now a.store ∙ store;
      }) result passes
