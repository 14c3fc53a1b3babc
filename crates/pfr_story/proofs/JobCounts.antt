-- How many operations the steps of a job's work do.
use Rattle.std.proofs.Common.{◌≡◌, ◌∙◌, ℕ, ◌++◌, suc, ◌/◌, ◌+◌, ◌*◌, ◌≤◌, ◌==◌, refl, ap, arith, Bool, true, false, if◌then◌else◌, List, [], ◌∷◌, length, length-append, ◌⊎◌, inl, inr, Option, Some, None}
use Rattle.std.proofs.lemmas.List.{append-nil}
use Rattle.pfr_flash.specs.Operation.{Operation}
use Rattle.pfr_flash.specs.declared.layout.Layout.{Layout}
use Rattle.pfr_flash.specs.declared.names.Bank.{Bank}
use Rattle.pfr_flash.specs.declared.names.Bank.TheVariants as bank
use Rattle.pfr_flash.specs.declared.names.Counts.{Counts}
use Rattle.pfr_flash.specs.declared.names.Device.TheVariants as device
use Rattle.pfr_fuses.specs.FusesState.{FusesState}
use Rattle.pfr_fuses.specs.RootSlot.{layout_of}
use Rattle.pfr_capsule.specs.CapsuleState.{CapsuleState}
use Rattle.pfr_jobs.specs.Log.{spent_in, selector, current_at, current_page, last_gated, used_in, first_unspent}
use Rattle.pfr_jobs.specs.LogPlans.{slot_plan, switch_plan, begin_by, begin_plan, mark_by, mark_plan, finish_by, finish_plan}
use Rattle.pfr_jobs.specs.LogState.{is_marked}
use Rattle.pfr_jobs.specs.declared.job.JobKind.{JobKind}
use Rattle.pfr_strokes.specs.Deeds.{Deed, Asks as AsksSide, called as called_side, ends_group, page_deeds, marked_by, side_ops}
use Rattle.pfr_strokes.specs.Strokes.{strokes}
use Rattle.pfr_strokes.specs.declared.side.Side.TheVariants as side
use Rattle.pfr_strokes.proofs.DeedsLaws.{side_ops-append, ops_called, none_called}
use Rattle.pfr_strokes.proofs.ReplacedLaws.{strokes_of_few}
use Rattle.pfr_rebuilt.specs.ActiveCopying.{active_page, active_pages}
use Rattle.pfr_rebuilt.specs.Copying.{recovery_page, recovery_pages}
use Rattle.pfr_rebuilt.specs.Passing.{group_pages, left_pages, heeding, active_heeding, active_ignoring, recovery_heeding, recovery_ignoring}
use Rattle.pfr_report.specs.declared.note.What.{What}
use Rattle.pfr_story.specs.Story.{Story, after, noted, operated, counts_of, called}
use Rattle.pfr_story.specs.Deeds.{deed_moves}
use Rattle.pfr_story.specs.Plans.{mine, store}
use Rattle.pfr_story.specs.JobPlans.{worked, written_over, copied_over, copied_again}
use Rattle.pfr_story.specs.Promises.{count_at}
use Rattle.pfr_story.proofs.Lift.{did_both, after_deeds}
use Rattle.pfr_story.proofs.JobEnds.{left_few}
use Rattle.pfr_story.proofs.JobSteps.{active_strokes, active_over, recovery_strokes, recovery_over}

-- how many operations a bank's device has done
abbrev pub done_on : Bank → Story → ℕ
done_on b story = count_at b (counts_of story)

pub noted_count : (b : Bank) (w : Counts → What) (story : Story) → done_on b (noted w story) ≡ done_on b story
noted_count bank.Bmc w story = refl
noted_count bank.Pch w story = refl

operated_count : (b : Bank) (op : Operation) (story : Story) → done_on b (operated device.Nv op story) ≡ done_on b story
operated_count bank.Bmc op story = refl
operated_count bank.Pch op story = refl

pub store_count : (b : Bank) (ops : List Operation) (story : Story) → done_on b (after (called device.Nv ops) story) ≡ done_on b story
store_count b [] story = refl
store_count b (op ∷ ops) story = store_count b ops (operated device.Nv op story) ∙ operated_count b op story

both_count : (b : Bank) (ops more : List Operation) (story : Story) → done_on b (did_both b ops more story) ≡ done_on b story + length ops
both_count bank.Bmc ops more story = length-append story.bmc.ops ops
both_count bank.Pch ops more story = length-append story.pch.ops ops

pub deeds_count : (b : Bank) (deeds : List Deed) (story : Story) → done_on b (after (deed_moves b deeds) story) ≡ done_on b story + length (side_ops side.Bank deeds)
deeds_count b deeds story = ap (λ (s : Story). done_on b s) (after_deeds b deeds story) ∙ both_count b (side_ops side.Bank deeds) (side_ops side.Store deeds) story

-- ---- the passes: at most 17 operations for each page
module _ (b : Bank) (fuses : FusesState) (capsule : CapsuleState) (story : Story) where
  pub worked_few : (kind : JobKind) → done_on b (after (worked b kind fuses capsule story) story) ≤ done_on b story + 17 * length (active_pages kind (mine b story) capsule (layout_of fuses.provision b))
  worked_few kind =
      let image : List ℕ = mine b story in
      let layout : Layout = layout_of fuses.provision b in
      let pages : List ℕ = active_pages kind image capsule layout in
      let left : List ℕ = left_pages (is_marked (store story) b) (group_pages (length image)) pages in
      let count = deeds_count b (active_heeding kind b image (store story) capsule layout) story in
      let same = ap (λ (ops : List Operation). length ops) (active_strokes kind b image (store story) capsule layout) in
      omega (arith, count, same, strokes_of_few (active_page image capsule layout) left, left_few (is_marked (store story) b) (group_pages (length image)) pages)

  pub written_few : (kind : JobKind) → done_on b (after (written_over b kind fuses capsule story) story) ≤ done_on b story + 17 * length (active_pages kind (mine b story) capsule (layout_of fuses.provision b))
  written_few kind =
      let image : List ℕ = mine b story in
      let layout : Layout = layout_of fuses.provision b in
      let pages : List ℕ = active_pages kind image capsule layout in
      let count = deeds_count b (active_ignoring kind image capsule layout) story in
      let same = ap (λ (ops : List Operation). length ops) (active_over kind b image (store story) capsule layout) in
      omega (arith, count, same, strokes_of_few (active_page image capsule layout) pages)

  pub copied_few : done_on b (after (copied_over b fuses capsule story) story) ≤ done_on b story + 17 * length (recovery_pages (layout_of fuses.provision b) capsule.length (length (mine b story)))
  copied_few =
      let image : List ℕ = mine b story in
      let layout : Layout = layout_of fuses.provision b in
      let pages : List ℕ = recovery_pages layout capsule.length (length image) in
      let left : List ℕ = left_pages (is_marked (store story) b) (group_pages (length image)) pages in
      let count = deeds_count b (recovery_heeding b image (store story) capsule.length layout) story in
      let same = ap (λ (ops : List Operation). length ops) (recovery_strokes b image (store story) capsule.length layout) in
      omega (arith, count, same, strokes_of_few (recovery_page image layout.staging_at capsule.length layout) left, left_few (is_marked (store story) b) (group_pages (length image)) pages)

  pub again_few : done_on b (after (copied_again b fuses capsule story) story) ≤ done_on b story + 17 * length (recovery_pages (layout_of fuses.provision b) capsule.length (length (mine b story)))
  again_few =
      let image : List ℕ = mine b story in
      let layout : Layout = layout_of fuses.provision b in
      let pages : List ℕ = recovery_pages layout capsule.length (length image) in
      let count = deeds_count b (recovery_ignoring image capsule.length layout) story in
      let same = ap (λ (ops : List Operation). length ops) (recovery_over b image (store story) capsule.length layout) in
      omega (arith, count, same, strokes_of_few (recovery_page image layout.staging_at capsule.length layout) pages)

-- ---- the store: a begin is two operations, or four where the page is switched
pub begin_count : (nv : List ℕ) (b : Bank) (kind : JobKind) (digest : List ℕ) → (length (begin_plan nv b kind digest) ≡ 2) ⊎ (length (begin_plan nv b kind digest) ≡ 4)
unfolding begin_plan
begin_count nv b kind digest = by_unspent (first_unspent (selector nv b))
  where
    by_unspent : (found : Option ℕ) → (length (begin_by nv b (used_in (current_page nv b) 64) found kind digest) ≡ 2) ⊎ (length (begin_by nv b (used_in (current_page nv b) 64) found kind digest) ≡ 4)
    by_unspent None = inl refl
    by_unspent (Some at) = by_used (used_in (current_page nv b) 64 == 64)
      where
        by_used : (t : Bool) → (length (if t then switch_plan b (spent_in (selector nv b)) at kind digest else slot_plan (current_at nv b) (used_in (current_page nv b) 64) kind digest) ≡ 2)
            ⊎ (length (if t then switch_plan b (spent_in (selector nv b)) at kind digest else slot_plan (current_at nv b) (used_in (current_page nv b) 64) kind digest) ≡ 4)
        by_used true = inr refl
        by_used false = inl refl

-- a mark, and the end, are one at most
pub mark_few : (nv : List ℕ) (b : Bank) (group : ℕ) → length (mark_plan nv b group) ≤ 1
unfolding mark_plan
mark_few nv b group = by_mark (is_marked nv b group)
  where
    by_last : (last : Option ℕ) → length (mark_by (current_at nv b) last group) ≤ 1
    by_last None = omega arith
    by_last (Some k) = omega arith

    by_mark : (t : Bool) → length (if t then [] else mark_by (current_at nv b) (last_gated (current_page nv b) 64) group) ≤ 1
    by_mark true = omega arith
    by_mark false = by_last (last_gated (current_page nv b) 64)

pub finish_few : (nv : List ℕ) (b : Bank) → length (finish_plan nv b) ≤ 1
unfolding finish_plan
finish_few nv b = by_last (last_gated (current_page nv b) 64)
  where
    by_last : (last : Option ℕ) → length (finish_by (current_at nv b) last) ≤ 1
    by_last None = omega arith
    by_last (Some k) = omega arith

-- ---- the marks of a pass: at most one for each page that is left
module _ (content : ℕ → List ℕ) (group : ℕ) (plan : ℕ → List Operation) (one : (number : ℕ) → length (plan number) ≤ 1) where
  mark_ops : (number : ℕ) → length (side_ops side.Store (marked_by plan number)) ≤ 1
  mark_ops number =
      let same = side_ops-append side.Store (called_side side.Store (plan number)) (AsksSide side.Bank ∷ []) ∙ append-nil (side_ops side.Store (called_side side.Store (plan number))) ∙ ops_called side.Store (plan number) in
      omega (arith, ap (λ (ops : List Operation). length ops) same, one number)

  pub marks_few : (pages : List ℕ) → length (side_ops side.Store (page_deeds content group (marked_by plan) pages)) ≤ length pages
  unfolding page_deeds
  marks_few [] = omega arith
  marks_few (page ∷ pages) =
      let rest : List Deed = (if ends_group group page pages then marked_by plan (page / group) else []) ++ page_deeds content group (marked_by plan) pages in
      let none = side_ops-append side.Store (called_side side.Bank (strokes page (content page))) rest
      ∙ ap (λ (ops : List Operation). ops ++ side_ops side.Store rest) (none_called side.Bank (strokes page (content page))) in
      omega (arith, ap (λ (ops : List Operation). length ops) none, by_end (ends_group group page pages) (marks_few pages))
    where
      by_end : (ends : Bool) → length (side_ops side.Store (page_deeds content group (marked_by plan) pages)) ≤ length pages
          → length (side_ops side.Store ((if ends then marked_by plan (page / group) else []) ++ page_deeds content group (marked_by plan) pages)) ≤ suc (length pages)
      by_end true few =
          let same = ap (λ (ops : List Operation). length ops) (side_ops-append side.Store (marked_by plan (page / group)) (page_deeds content group (marked_by plan) pages)) in
          omega (arith, same, few, mark_ops (page / group), length-append (side_ops side.Store (marked_by plan (page / group))) (side_ops side.Store (page_deeds content group (marked_by plan) pages)))
      by_end false few = omega (arith, few)

-- of a pass that heeds marks
pub heeding_few : (b : Bank) (nv : List ℕ) (content : ℕ → List ℕ) (group : ℕ) (pages : List ℕ) → length (side_ops side.Store (heeding b nv content group pages)) ≤ length (left_pages (is_marked nv b) group pages)
heeding_few b nv content group pages = marks_few content group (mark_plan nv b) (λ number. mark_few nv b number) (left_pages (is_marked nv b) group pages)
