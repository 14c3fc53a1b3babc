-- Where each step of a job's work leads.
use Rattle.std.proofs.Common.{◌≡◌, ◌∙◌, ℕ, ◌/◌, ◌<◌, refl, sym, ap, subst, arith, List, [], ◌∷◌, length, Option}
use Rattle.pfr_flash.specs.Operation.{Operation, play}
use Rattle.pfr_flash.specs.Range.{AllWithin}
use Rattle.pfr_flash.specs.declared.layout.Layout.{Layout}
use Rattle.pfr_flash.specs.declared.names.Bank.{Bank}
use Rattle.pfr_flash.specs.declared.names.Counts.{Counts}
use Rattle.pfr_flash.specs.declared.names.Device.TheVariants as device
use Rattle.pfr_flash.proofs.PlayLemmas.{length-play}
use Rattle.pfr_fuses.specs.FusesOf.{fuses_of}
use Rattle.pfr_fuses.specs.FusesState.{FusesState}
use Rattle.pfr_fuses.specs.RootSlot.{layout_of}
use Rattle.pfr_capsule.specs.CapsuleState.{CapsuleState}
use Rattle.pfr_jobs.specs.Log.{spent_in, selector, current_at, current_page, last_gated, open_job}
use Rattle.pfr_jobs.specs.LogPlans.{IsKind, begin_plan, finish_by, finish_plan}
use Rattle.pfr_jobs.specs.LogState.{is_marked}
use Rattle.pfr_jobs.specs.declared.job.JobKind.{JobKind}
use Rattle.pfr_jobs.specs.declared.job.OpenJob.{OpenJob}
use Rattle.pfr_jobs.specs.declared.job.OpenJob.TheVariants as job
use Rattle.pfr_jobs.proofs.LogLaws.{LastOf, nothing, found, last_of, page_inside}
use Rattle.pfr_jobs.proofs.SlotLaw.{IsDigest}
use Rattle.pfr_jobs.proofs.BeginLaw.{TakesJob, log_low, log_high, begin_done, begin_within}
use Rattle.pfr_jobs.proofs.FinishLaw.{finish_done}
use Rattle.pfr_strokes.specs.Deeds.{side_ops}
use Rattle.pfr_strokes.specs.Strokes.{strokes_of}
use Rattle.pfr_strokes.specs.declared.side.Side.TheVariants as side
use Rattle.pfr_strokes.proofs.ReplacedLaws.{IsOneOf, pages_are}
use Rattle.pfr_rebuilt.specs.ActiveCopying.{is_active_page, active_page, active_pages}
use Rattle.pfr_rebuilt.specs.Copying.{holds_text, recovery_page, recovery_pages}
use Rattle.pfr_rebuilt.specs.Passing.{group_pages, left_pages, active_heeding, active_ignoring, recovery_heeding, recovery_ignoring}
use Rattle.pfr_report.specs.declared.note.What.{What}
use Rattle.pfr_story.specs.Story.{Story, after, noted, operated, other_bank, device_of, called}
use Rattle.pfr_story.specs.Plans.{mine, store}
use Rattle.pfr_story.specs.JobPlans.{begun_job, finished_job, worked, written_over, copied_over, copied_again}
use Rattle.pfr_story.proofs.SafetyLaws.{image_noted, image_called, mine_operated}
use Rattle.pfr_story.proofs.JobEnds.{deeds_left, heeding_strokes, ignoring_strokes, ignoring_none, AllMarks, heeding_marks, marks_within, marks_keep, fuses_kept, left_one, have_marks}

-- ---- the store
-- its fuses are as before, and the bank's log has this open
pub record IsLogged (b : Bank) (running : OpenJob) (old new : List ℕ) : Type 0 where
  pub size : length new ≡ 32768
  pub fuses : fuses_of new ≡ fuses_of old
  pub opened : open_job new b ≡ running

pub begin_logged : (nv : List ℕ) (b : Bank) (kind : JobKind) (digest : List ℕ) → length nv ≡ 32768 → open_job nv b ≡ job.None → TakesJob nv b → IsDigest digest → IsKind kind
    → IsLogged b (job.Job kind digest) nv (play nv (begin_plan nv b kind digest))
begin_logged nv b kind digest size none takes d valid = record {
  size = length-play nv (begin_plan nv b kind digest) ∙ size;
  fuses = fuses_kept nv (begin_plan nv b kind digest) size (begin_within nv b kind digest size none takes d valid);
  opened = begin_done nv b kind digest size none takes d valid;
}

pub marks_logged : (nv : List ℕ) (b : Bank) (ops : List Operation) → length nv ≡ 32768 → AllMarks (current_at nv b) ops → IsLogged b (open_job nv b) nv (play nv ops)
marks_logged nv b ops size all = record {
  size = length-play nv ops ∙ size;
  fuses = fuses_kept nv ops size (marks_within nv b ops all);
  opened = marks_keep b nv ops size all;
}

pub finish_within : (nv : List ℕ) (b : Bank) → AllWithin 0x1000 0x6000 (finish_plan nv b)
unfolding finish_plan
finish_within nv b = by_last (last_gated (current_page nv b) 64) (last_of (current_page nv b) 64)
  where
    by_last : (last : Option ℕ) → LastOf (current_page nv b) 64 last → AllWithin 0x1000 0x6000 (finish_by (current_at nv b) last)
    by_last _ (nothing none) = tt
    by_last _ (found k few gated above) = (
      record { low = omega (arith, log_low b); high = omega (arith, few, page_inside b (spent_in (selector nv b)), log_high b) },
      tt,
    )

pub finish_logged : (nv : List ℕ) (b : Bank) → length nv ≡ 32768 → (open_job nv b ≡ job.None → ⊥) → IsLogged b job.None nv (play nv (finish_plan nv b))
finish_logged nv b size is_open = record {
  size = length-play nv (finish_plan nv b) ∙ size;
  fuses = fuses_kept nv (finish_plan nv b) size (finish_within nv b);
  opened = finish_done nv b size is_open;
}

-- ---- the platform
-- the bank holds this, its log has this open, and all else is as before
pub record StandsSo (b : Bank) (running : OpenJob) (image : List ℕ) (old new : Story) : Type 0 where
  pub bank : mine b new ≡ image
  pub logged : IsLogged b running (store old) (store new)
  pub other : mine (other_bank b) new ≡ mine (other_bank b) old

pub stands_then : (b : Bank) (running later : OpenJob) (image then_image : List ℕ) (old mid new : Story) → StandsSo b running image old mid → StandsSo b later then_image mid new → StandsSo b later then_image old new
stands_then b running later image then_image old mid new p q = record {
  bank = q.bank;
  logged = record { size = q.logged.size; fuses = q.logged.fuses ∙ p.logged.fuses; opened = q.logged.opened };
  other = q.other ∙ p.other;
}

pub bank_called : (b : Bank) (ops : List Operation) (story : Story) → mine b (after (called device.Nv ops) story) ≡ mine b story
bank_called b [] story = refl
bank_called b (op ∷ ops) story = bank_called b ops (operated device.Nv op story) ∙ mine_operated b op story

-- by a call of the store
call_stands : (b : Bank) (running : OpenJob) (ops : List Operation) (story : Story) → IsLogged b running (store story) (play (store story) ops) → StandsSo b running (mine b story) story (after (called device.Nv ops) story)
call_stands b running ops story l = record {
  bank = bank_called b ops story;
  logged = subst (λ (nv : List ℕ). IsLogged b running (store story) nv) (sym (image_called device.Nv ops story)) l;
  other = bank_called (other_bank b) ops story;
}

pub says_stands : (b : Bank) (w : Counts → What) (story : Story) → length (store story) ≡ 32768 → StandsSo b (open_job (store story) b) (mine b story) story (noted w story)
says_stands b w story size = record {
  bank = image_noted (device_of b) w story;
  logged = record { size = size; fuses = refl; opened = refl };
  other = image_noted (device_of (other_bank b)) w story;
}

pub begun_stands : (b : Bank) (kind : JobKind) (digest : List ℕ) (story : Story) → length (store story) ≡ 32768 → open_job (store story) b ≡ job.None → TakesJob (store story) b → IsDigest digest → IsKind kind
    → StandsSo b (job.Job kind digest) (mine b story) story (after (begun_job b kind digest story) story)
begun_stands b kind digest story size none takes d valid =
    call_stands b (job.Job kind digest) (begin_plan (store story) b kind digest) story (begin_logged (store story) b kind digest size none takes d valid)

pub finished_stands : (b : Bank) (story : Story) → length (store story) ≡ 32768 → (open_job (store story) b ≡ job.None → ⊥) → StandsSo b job.None (mine b story) story (after (finished_job b story) story)
finished_stands b story size is_open = call_stands b job.None (finish_plan (store story) b) story (finish_logged (store story) b size is_open)

-- ---- the passes of an active job
module _ (kind : JobKind) (b : Bank) (image nv : List ℕ) (capsule : CapsuleState) (layout : Layout) where
  pub active_below : (page : ℕ) → IsOneOf page (active_pages kind image capsule layout) → page < length image / 4096
  unfolding active_pages
  active_below page one = ((pages_are (is_active_page kind image capsule layout) (length image / 4096)).only page one).0

  pub active_strokes : side_ops side.Bank (active_heeding kind b image nv capsule layout) ≡ strokes_of (active_page image capsule layout) (left_pages (is_marked nv b) (group_pages (length image)) (active_pages kind image capsule layout))
  unfolding active_heeding
  active_strokes = heeding_strokes b nv (active_page image capsule layout) (group_pages (length image)) (active_pages kind image capsule layout)

  pub active_marks : AllMarks (current_at nv b) (side_ops side.Store (active_heeding kind b image nv capsule layout))
  unfolding active_heeding
  active_marks =
      let pages : List ℕ = active_pages kind image capsule layout in
      let group : ℕ = group_pages (length image) in
      heeding_marks layout nv b (active_page image capsule layout) group pages
      (have_marks (length image) (left_pages (is_marked nv b) group pages) (λ n one. active_below n (left_one (is_marked nv b) group pages n one)))

  pub active_over : side_ops side.Bank (active_ignoring kind image capsule layout) ≡ strokes_of (active_page image capsule layout) (active_pages kind image capsule layout)
  unfolding active_ignoring
  active_over = ignoring_strokes (active_page image capsule layout) (group_pages (length image)) (active_pages kind image capsule layout)

  pub active_none : side_ops side.Store (active_ignoring kind image capsule layout) ≡ []
  unfolding active_ignoring
  active_none = ignoring_none (active_page image capsule layout) (group_pages (length image)) (active_pages kind image capsule layout)

-- and of a recovery job
module _ (b : Bank) (image nv : List ℕ) (len : ℕ) (layout : Layout) where
  pub recovery_below : (page : ℕ) → IsOneOf page (recovery_pages layout len (length image)) → page < length image / 4096
  unfolding recovery_pages
  recovery_below page one = ((pages_are (holds_text layout.recovery_at len) (length image / 4096)).only page one).0

  pub recovery_strokes : side_ops side.Bank (recovery_heeding b image nv len layout)
      ≡ strokes_of (recovery_page image layout.staging_at len layout) (left_pages (is_marked nv b) (group_pages (length image)) (recovery_pages layout len (length image)))
  unfolding recovery_heeding
  recovery_strokes = heeding_strokes b nv (recovery_page image layout.staging_at len layout) (group_pages (length image)) (recovery_pages layout len (length image))

  pub recovery_marks : AllMarks (current_at nv b) (side_ops side.Store (recovery_heeding b image nv len layout))
  unfolding recovery_heeding
  recovery_marks =
      let pages : List ℕ = recovery_pages layout len (length image) in
      let group : ℕ = group_pages (length image) in
      heeding_marks layout nv b (recovery_page image layout.staging_at len layout) group pages
      (have_marks (length image) (left_pages (is_marked nv b) group pages) (λ n one. recovery_below n (left_one (is_marked nv b) group pages n one)))

  pub recovery_over : side_ops side.Bank (recovery_ignoring image len layout) ≡ strokes_of (recovery_page image layout.staging_at len layout) (recovery_pages layout len (length image))
  unfolding recovery_ignoring
  recovery_over = ignoring_strokes (recovery_page image layout.staging_at len layout) (group_pages (length image)) (recovery_pages layout len (length image))

  pub recovery_none : side_ops side.Store (recovery_ignoring image len layout) ≡ []
  unfolding recovery_ignoring
  recovery_none = ignoring_none (recovery_page image layout.staging_at len layout) (group_pages (length image)) (recovery_pages layout len (length image))

-- ---- the same as steps
module _ (b : Bank) (fuses : FusesState) (capsule : CapsuleState) (story : Story) (size : length (store story) ≡ 32768) where
  pub worked_stands : (kind : JobKind) → StandsSo b (open_job (store story) b)
      (play (mine b story) (strokes_of (active_page (mine b story) capsule (layout_of fuses.provision b)) (left_pages (is_marked (store story) b) (group_pages (length (mine b story))) (active_pages kind (mine b story) capsule (layout_of fuses.provision b)))))
      story (after (worked b kind fuses capsule story) story)
  worked_stands kind =
      let image : List ℕ = mine b story in
      let layout : Layout = layout_of fuses.provision b in
      let left = deeds_left b (active_heeding kind b image (store story) capsule layout) story in
      record {
        bank = left.bank ∙ ap (λ (ops : List Operation). play image ops) (active_strokes kind b image (store story) capsule layout);
        logged = subst (λ (nv : List ℕ). IsLogged b (open_job (store story) b) (store story) nv) (sym left.stored)
            (marks_logged (store story) b (side_ops side.Store (active_heeding kind b image (store story) capsule layout)) size (active_marks kind b image (store story) capsule layout));
        other = left.other;
      }

  pub written_stands : (kind : JobKind) → StandsSo b (open_job (store story) b)
      (play (mine b story) (strokes_of (active_page (mine b story) capsule (layout_of fuses.provision b)) (active_pages kind (mine b story) capsule (layout_of fuses.provision b))))
      story (after (written_over b kind fuses capsule story) story)
  written_stands kind =
      let image : List ℕ = mine b story in
      let layout : Layout = layout_of fuses.provision b in
      let left = deeds_left b (active_ignoring kind image capsule layout) story in
      let same : store (after (written_over b kind fuses capsule story) story) ≡ store story = left.stored ∙ ap (λ (ops : List Operation). play (store story) ops) (active_none kind b image (store story) capsule layout) in
      record {
        bank = left.bank ∙ ap (λ (ops : List Operation). play image ops) (active_over kind b image (store story) capsule layout);
        logged = record { size = ap (λ (nv : List ℕ). length nv) same ∙ size; fuses = ap (λ (nv : List ℕ). fuses_of nv) same; opened = ap (λ (nv : List ℕ). open_job nv b) same };
        other = left.other;
      }

  pub copied_stands : StandsSo b (open_job (store story) b)
      (play (mine b story) (strokes_of (recovery_page (mine b story) (layout_of fuses.provision b).staging_at capsule.length (layout_of fuses.provision b))
      (left_pages (is_marked (store story) b) (group_pages (length (mine b story))) (recovery_pages (layout_of fuses.provision b) capsule.length (length (mine b story))))))
      story (after (copied_over b fuses capsule story) story)
  copied_stands =
      let image : List ℕ = mine b story in
      let layout : Layout = layout_of fuses.provision b in
      let left = deeds_left b (recovery_heeding b image (store story) capsule.length layout) story in
      record {
        bank = left.bank ∙ ap (λ (ops : List Operation). play image ops) (recovery_strokes b image (store story) capsule.length layout);
        logged = subst (λ (nv : List ℕ). IsLogged b (open_job (store story) b) (store story) nv) (sym left.stored)
            (marks_logged (store story) b (side_ops side.Store (recovery_heeding b image (store story) capsule.length layout)) size (recovery_marks b image (store story) capsule.length layout));
        other = left.other;
      }

  pub again_stands : StandsSo b (open_job (store story) b)
      (play (mine b story) (strokes_of (recovery_page (mine b story) (layout_of fuses.provision b).staging_at capsule.length (layout_of fuses.provision b))
      (recovery_pages (layout_of fuses.provision b) capsule.length (length (mine b story)))))
      story (after (copied_again b fuses capsule story) story)
  again_stands =
      let image : List ℕ = mine b story in
      let layout : Layout = layout_of fuses.provision b in
      let left = deeds_left b (recovery_ignoring image capsule.length layout) story in
      let same : store (after (copied_again b fuses capsule story) story) ≡ store story = left.stored ∙ ap (λ (ops : List Operation). play (store story) ops) (recovery_none b image (store story) capsule.length layout) in
      record {
        bank = left.bank ∙ ap (λ (ops : List Operation). play image ops) (recovery_over b image (store story) capsule.length layout);
        logged = record { size = ap (λ (nv : List ℕ). length nv) same ∙ size; fuses = ap (λ (nv : List ℕ). fuses_of nv) same; opened = ap (λ (nv : List ℕ). open_job nv b) same };
        other = left.other;
      }
