-- What a job's passes leave of a bank and of the store.
use Rattle.std.proofs.Common.{◌≡◌, ◌∙◌, ℕ, suc, ◌/◌, ◌≤◌, ◌<◌, refl, sym, ap, subst, arith, Bool, true, false, not, if◌then◌else◌, List, [], ◌∷◌, ◌++◌, length, inl, inr}
use Rattle.std.proofs.Math.Nat.{div-lt_iff_lt-mul}
use Rattle.pfr_flash.specs.Operation.{Operation, play, applied}
use Rattle.pfr_flash.specs.Range.{IsWithin, AllWithin}
use Rattle.pfr_flash.specs.declared.layout.Layout.{Layout}
use Rattle.pfr_flash.specs.declared.names.Bank.{Bank}
use Rattle.pfr_flash.specs.declared.names.Bank.TheVariants as bank
use Rattle.pfr_flash.proofs.PlayLemmas.{length-applied, length-play}
use Rattle.pfr_flash.proofs.RangeLemmas.{SameOutside-play}
use Rattle.pfr_fuses.specs.FusesOf.{fuses_of}
use Rattle.pfr_fuses.proofs.StaysLemmas.{fuses_of-same}
use Rattle.pfr_jobs.specs.Log.{spent_in, selector, current_at, open_job}
use Rattle.pfr_jobs.specs.LogPlans.{mark_plan}
use Rattle.pfr_jobs.specs.LogState.{is_marked}
use Rattle.pfr_jobs.proofs.LogLaws.{page_inside}
use Rattle.pfr_jobs.proofs.BeginLaw.{log_low, log_high}
use Rattle.pfr_jobs.proofs.CutLaws.{mark_keeps, mark_current}
use Rattle.pfr_strokes.specs.Deeds.{Deed, Asks as AsksSide, Does as DoesSide, called as called_side, ends_group, page_deeds, marked_by, unmarked, side_ops}
use Rattle.pfr_strokes.specs.Strokes.{strokes, strokes_of}
use Rattle.pfr_strokes.specs.declared.side.Side.TheVariants as side
use Rattle.pfr_strokes.proofs.DeedsLaws.{side_ops-append, none_called}
use Rattle.pfr_strokes.proofs.PassLaws.{pass_strokes, marked_none}
use Rattle.pfr_strokes.proofs.ReplacedLaws.{IsOneOf}
use Rattle.pfr_rebuilt.specs.Passing.{group_pages, left_pages, heeding, ignoring}
use Rattle.pfr_recoverable.proofs.PassLaw.{IsMarkAt, AllPassDeeds}
use Rattle.pfr_recoverable.proofs.PassedLaw.{mark_deeds}
use Rattle.pfr_story.specs.Story.{Story, after, other_bank}
use Rattle.pfr_story.specs.Deeds.{deed_moves}
use Rattle.pfr_story.specs.Plans.{mine, store}
use Rattle.pfr_story.proofs.Lift.{did_both, after_deeds, image_deeds}

-- ---- what work on a bank leaves
-- the bank and the store hold these bytes then, and the other bank what it held
pub record IsLeft (b : Bank) (image nv : List ℕ) (old new : Story) : Type 0 where
  pub bank : mine b new ≡ image
  pub stored : store new ≡ nv
  pub other : mine (other_bank b) new ≡ mine (other_bank b) old

pub left_then : (b : Bank) (image nv later_image later_nv : List ℕ) (old mid new : Story) → IsLeft b image nv old mid → IsLeft b later_image later_nv mid new → IsLeft b later_image later_nv old new
left_then b image nv later_image later_nv old mid new p q = record { bank = q.bank; stored = q.stored; other = q.other ∙ p.other }

-- nothing is noted
pub record IsQuiet (old new : Story) : Type 0 where
  pub item : new.item ≡ old.item
  pub notes : new.notes ≡ old.notes
  pub guards : new.guards ≡ old.guards

-- ---- deeds
other_both : (b : Bank) (ops more : List Operation) (story : Story) → mine (other_bank b) (did_both b ops more story) ≡ mine (other_bank b) story
other_both bank.Bmc ops more story = refl
other_both bank.Pch ops more story = refl

quiet_both : (b : Bank) (ops more : List Operation) (story : Story) → IsQuiet story (did_both b ops more story)
quiet_both bank.Bmc ops more story = record { item = refl; notes = refl; guards = refl }
quiet_both bank.Pch ops more story = record { item = refl; notes = refl; guards = refl }

module _ (b : Bank) (deeds : List Deed) (story : Story) where
  pub deeds_left : IsLeft b (play (mine b story) (side_ops side.Bank deeds)) (play (store story) (side_ops side.Store deeds)) story (after (deed_moves b deeds) story)
  deeds_left = record {
    bank = image_deeds b side.Bank deeds story;
    stored = image_deeds b side.Store deeds story;
    other = ap (λ (s : Story). mine (other_bank b) s) (after_deeds b deeds story) ∙ other_both b (side_ops side.Bank deeds) (side_ops side.Store deeds) story;
  }

  pub deeds_quiet : IsQuiet story (after (deed_moves b deeds) story)
  deeds_quiet = subst (λ (s : Story). IsQuiet story s) (sym (after_deeds b deeds story)) (quiet_both b (side_ops side.Bank deeds) (side_ops side.Store deeds) story)

-- ---- the operations of a pass
pub heeding_strokes : (b : Bank) (nv : List ℕ) (content : ℕ → List ℕ) (group : ℕ) (pages : List ℕ) → side_ops side.Bank (heeding b nv content group pages) ≡ strokes_of content (left_pages (is_marked nv b) group pages)
heeding_strokes b nv content group pages = pass_strokes content group (marked_by (mark_plan nv b)) (marked_none (mark_plan nv b)) (left_pages (is_marked nv b) group pages)

pub ignoring_strokes : (content : ℕ → List ℕ) (group : ℕ) (pages : List ℕ) → side_ops side.Bank (ignoring content group pages) ≡ strokes_of content pages
ignoring_strokes content group pages = pass_strokes content group unmarked (λ number. refl) pages

unmarked_none : (content : ℕ → List ℕ) (group : ℕ) (pages : List ℕ) → side_ops side.Store (page_deeds content group unmarked pages) ≡ []
unfolding page_deeds
unmarked_none content group [] = refl
unmarked_none content group (page ∷ pages) =
    let rest : List Deed = (if ends_group group page pages then unmarked (page / group) else []) ++ page_deeds content group unmarked pages in
    side_ops-append side.Store (called_side side.Bank (strokes page (content page))) rest
    ∙ ap (λ (ops : List Operation). ops ++ side_ops side.Store rest) (none_called side.Bank (strokes page (content page)))
    ∙ by_end (ends_group group page pages) (unmarked_none content group pages)
  where
    by_end : (ends : Bool) → side_ops side.Store (page_deeds content group unmarked pages) ≡ [] → side_ops side.Store ((if ends then unmarked (page / group) else []) ++ page_deeds content group unmarked pages) ≡ []
    by_end true e = e
    by_end false e = e

-- none of the store
pub ignoring_none : (content : ℕ → List ℕ) (group : ℕ) (pages : List ℕ) → side_ops side.Store (ignoring content group pages) ≡ []
ignoring_none content group pages = unmarked_none content group pages

-- ---- the marks that a pass sets
abbrev pub AllMarks : ℕ → List Operation → Type 0
AllMarks at [] = Unit {0}
AllMarks at (op ∷ ops) = IsMarkAt at op × AllMarks at ops

marks_append : (at : ℕ) (ops more : List Operation) → AllMarks at ops → AllMarks at more → AllMarks at (ops ++ more)
marks_append at [] more p q = q
marks_append at (op ∷ ops) more p q = (p.0, marks_append at ops more p.1 q)

-- of deeds of a pass
deeds_mark : (layout : Layout) (at : ℕ) (deeds : List Deed) → AllPassDeeds layout at deeds → AllMarks at (side_ops side.Store deeds)
deeds_mark layout at [] all = tt
deeds_mark layout at (AsksSide s ∷ deeds) all = deeds_mark layout at deeds all.1
deeds_mark layout at (DoesSide side.Bank op ∷ deeds) all = deeds_mark layout at deeds all.1
deeds_mark layout at (DoesSide side.Store op ∷ deeds) all = (all.0, deeds_mark layout at deeds all.1)

-- the groups of these pages have marks
abbrev pub AllHaveMarks : ℕ → List ℕ → Type 0
AllHaveMarks group [] = Unit {0}
AllHaveMarks group (page ∷ pages) = (page / group < 128) × AllHaveMarks group pages

module _ (layout : Layout) (nv : List ℕ) (b : Bank) (content : ℕ → List ℕ) (group : ℕ) where
  pass_marks : (pages : List ℕ) → AllHaveMarks group pages → AllMarks (current_at nv b) (side_ops side.Store (page_deeds content group (marked_by (mark_plan nv b)) pages))
  unfolding page_deeds
  pass_marks [] all = tt
  pass_marks (page ∷ pages) all =
      let rest : List Deed = (if ends_group group page pages then marked_by (mark_plan nv b) (page / group) else []) ++ page_deeds content group (marked_by (mark_plan nv b)) pages in
      let none = side_ops-append side.Store (called_side side.Bank (strokes page (content page))) rest
      ∙ ap (λ (ops : List Operation). ops ++ side_ops side.Store rest) (none_called side.Bank (strokes page (content page))) in
      subst (λ (ops : List Operation). AllMarks (current_at nv b) ops) (sym none)
      (by_end (ends_group group page pages) (deeds_mark layout (current_at nv b) (marked_by (mark_plan nv b) (page / group)) (mark_deeds layout nv b (page / group) all.0)) (pass_marks pages all.1))
    where
      by_end : (ends : Bool) → AllMarks (current_at nv b) (side_ops side.Store (marked_by (mark_plan nv b) (page / group)))
          → AllMarks (current_at nv b) (side_ops side.Store (page_deeds content group (marked_by (mark_plan nv b)) pages))
          → AllMarks (current_at nv b) (side_ops side.Store ((if ends then marked_by (mark_plan nv b) (page / group) else []) ++ page_deeds content group (marked_by (mark_plan nv b)) pages))
      by_end true p q =
          subst (λ (ops : List Operation). AllMarks (current_at nv b) ops) (sym (side_ops-append side.Store (marked_by (mark_plan nv b) (page / group)) (page_deeds content group (marked_by (mark_plan nv b)) pages)))
          (marks_append (current_at nv b) (side_ops side.Store (marked_by (mark_plan nv b) (page / group))) (side_ops side.Store (page_deeds content group (marked_by (mark_plan nv b)) pages)) p q)
      by_end false p q = q

  -- all that it does to the store are marks
  pub heeding_marks : (pages : List ℕ) → AllHaveMarks group (left_pages (is_marked nv b) group pages) → AllMarks (current_at nv b) (side_ops side.Store (heeding b nv content group pages))
  heeding_marks pages all = pass_marks (left_pages (is_marked nv b) group pages) all

-- ---- operations in the logs leave the fuses
pub fuses_kept : (nv : List ℕ) (ops : List Operation) → length nv ≡ 32768 → AllWithin 0x1000 0x6000 ops → fuses_of (play nv ops) ≡ fuses_of nv
fuses_kept nv ops size within = fuses_of-same nv (play nv ops) (record { outside = SameOutside-play 4096 24576 nv ops within; size = length-play nv ops; whole = size })

mark_within : (nv : List ℕ) (b : Bank) (op : Operation) → IsMarkAt (current_at nv b) op → IsWithin 0x1000 0x6000 op
mark_within nv b op m = record {
  low = omega (arith, m.place, log_low b);
  high = omega (arith, m.place, m.one, m.few, m.small, page_inside b (spent_in (selector nv b)), log_high b);
}

pub marks_within : (nv : List ℕ) (b : Bank) (ops : List Operation) → AllMarks (current_at nv b) ops → AllWithin 0x1000 0x6000 ops
marks_within nv b [] all = tt
marks_within nv b (op ∷ ops) all = (mark_within nv b op all.0, marks_within nv b ops all.1)

-- and marks leave open what is open
pub marks_keep : (b : Bank) (nv : List ℕ) (ops : List Operation) → length nv ≡ 32768 → AllMarks (current_at nv b) ops → open_job (play nv ops) b ≡ open_job nv b
marks_keep b nv [] size all = refl
marks_keep b nv (op ∷ ops) size all =
    let m = all.0 in
    let current : current_at (applied nv op) b ≡ current_at nv b = mark_current nv b size op m.slot m.group m.few m.small m.place m.one in
    marks_keep b (applied nv op) ops (length-applied nv op ∙ size) (subst (λ (at : ℕ). AllMarks at ops) (sym current) all.1)
    ∙ mark_keeps nv b size op m.slot m.group m.few m.small m.place m.one

-- ---- which pages are left
pub left_one : (marked : ℕ → Bool) (group : ℕ) (pages : List ℕ) (page : ℕ) → IsOneOf page (left_pages marked group pages) → IsOneOf page pages
left_one marked group [] page one = one
left_one marked group (first ∷ pages) page one = by_mark (marked (first / group)) one (left_one marked group pages page)
  where
    by_mark : (b : Bool) → IsOneOf page (if not b then first ∷ left_pages marked group pages else left_pages marked group pages)
        → (IsOneOf page (left_pages marked group pages) → IsOneOf page pages) → IsOneOf page (first ∷ pages)
    by_mark true one rest = inr (rest one)
    by_mark false (inl same) rest = inl same
    by_mark false (inr there) rest = inr (rest there)

-- all of them, where no group is marked
pub left_all : (marked : ℕ → Bool) (group : ℕ) (pages : List ℕ) → ((page : ℕ) → IsOneOf page pages → marked (page / group) ≡ false) → left_pages marked group pages ≡ pages
left_all marked group [] none = refl
left_all marked group (page ∷ pages) none =
    ap (λ (b : Bool). if not b then page ∷ left_pages marked group pages else left_pages marked group pages) (none page (inl refl))
    ∙ ap (λ (list : List ℕ). page ∷ list) (left_all marked group pages (λ n one. none n (inr one)))

pub left_few : (marked : ℕ → Bool) (group : ℕ) (pages : List ℕ) → length (left_pages marked group pages) ≤ length pages
left_few marked group [] = omega arith
left_few marked group (page ∷ pages) = by_mark (marked (page / group)) (left_few marked group pages)
  where
    by_mark : (b : Bool) → length (left_pages marked group pages) ≤ length pages → length (if not b then page ∷ left_pages marked group pages else left_pages marked group pages) ≤ suc (length pages)
    by_mark true few = omega (arith, few)
    by_mark false few = omega (arith, few)

-- there are at most 128 groups
pub group_small : (size page : ℕ) → page < size / 4096 → page / group_pages size < 128
group_small size page below =
    let some : 0 < group_pages size = omega arith in
    (div-lt_iff_lt-mul some).1 (omega (arith, below))

-- the groups of pages of a bank have marks
pub have_marks : (size : ℕ) (pages : List ℕ) → ((page : ℕ) → IsOneOf page pages → page < size / 4096) → AllHaveMarks (group_pages size) pages
have_marks size [] below = tt
have_marks size (page ∷ pages) below = (group_small size page (below page (inl refl)), have_marks size pages (λ n one. below n (inr one)))
