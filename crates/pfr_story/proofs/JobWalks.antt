-- Each plan of a job, where the contents don't matter: what its calls touch and what is told of it is allowed.
use Rattle.std.proofs.Common.{◌≡◌, ◌∙◌, refl, sym, ap, ℕ, ◌/◌, Bool, true, false, List, [], ◌∷◌, ◌++◌, length, inr}
use Rattle.pfr_flash.specs.declared.layout.Layout.{Layout}
use Rattle.pfr_flash.specs.declared.names.Bank.{Bank}
use Rattle.pfr_flash.specs.declared.names.Device.TheVariants as device
use Rattle.pfr_flash.proofs.PlayLemmas.{length-play}
use Rattle.pfr_fuses.specs.FusesState.{FusesState}
use Rattle.pfr_fuses.specs.RootSlot.{layout_of}
use Rattle.pfr_capsule.specs.CapsuleState.{CapsuleState}
use Rattle.pfr_jobs.specs.LogPlans.{begin_plan, finish_plan}
use Rattle.pfr_jobs.specs.LogState.{is_spent}
use Rattle.pfr_jobs.specs.declared.job.JobKind.{JobKind}
use Rattle.pfr_rebuilt.specs.ActiveCopying.{active_page, active_pages, is_active_page}
use Rattle.pfr_rebuilt.specs.Copying.{holds_text, recovery_page, recovery_pages}
use Rattle.pfr_rebuilt.specs.Passing.{group_pages, active_heeding, active_ignoring, recovery_heeding, recovery_ignoring}
use Rattle.pfr_strokes.proofs.ReplacedLaws.{pages_are}
use Rattle.pfr_report.specs.declared.note.What.{What}
use Rattle.pfr_report.specs.declared.note.What.TheVariants.{Restored, Updated}
use Rattle.pfr_story.specs.JobPlans.{JobNotes, begun_job, finished_job, worked, written_over, done_with, by_log, with_job, copied_over, copied_again}
use Rattle.pfr_story.specs.Plans.{mine, store}
use Rattle.pfr_story.specs.Safety.{Rule, AllSafe}
use Rattle.pfr_story.specs.Story.{Story, Move, Says, Does, Asks, after, noted, operated, then, says}
use Rattle.pfr_story.proofs.SafetyLaws.{AllSafe-append}
use Rattle.pfr_story.proofs.JobRules.{AllInLog, finish_own, heeding_own, ignoring_own, AllowsJobs, calls_allowed, deeds_allowed}

-- the store keeps its size
start_kept : (moves : List Move) (story : Story) → (after moves story).nv.start ≡ story.nv.start
start_kept [] story = refl
start_kept (Says w ∷ moves) story = start_kept moves (noted w story)
start_kept (Asks which ∷ moves) story = start_kept moves story
start_kept (Does device.Bmc op ∷ moves) story = start_kept moves (operated device.Bmc op story)
start_kept (Does device.Pch op ∷ moves) story = start_kept moves (operated device.Pch op story)
start_kept (Does device.Nv op ∷ moves) story = start_kept moves (operated device.Nv op story)

pub store_sized : (moves : List Move) (story : Story) → length (store (after moves story)) ≡ length (store story)
store_sized moves story =
    let there : Story = after moves story in
    length-play there.nv.start there.nv.ops ∙ ap (λ (bytes : List ℕ). length bytes) (start_kept moves story) ∙ sym (length-play story.nv.start story.nv.ops)

-- and all that is told of one
pub record TellsJobs (G : Rule) (b : Bank) (notes : JobNotes) : Type 0 where
  pub resumed : (kind : JobKind) (story : Story) → G (Says (λ _. notes.resumed kind)) story
  pub given_up : (story : Story) → G (Says (λ _. notes.given_up)) story
  pub restored : (level : ℕ) (story : Story) → G (Says (λ _. Restored b level)) story
  pub updated : (dynamic : Bool) (svn : ℕ) (story : Story) → G (Says (λ _. Updated b dynamic svn)) story
  pub recovery_updated : (svn : ℕ) (story : Story) → G (Says (λ _. notes.recovery_updated svn)) story

module _ (G : Rule) (b : Bank) (h : AllowsJobs G b) where
  -- ---- each plan of a job, whatever it leads to
  pub begin_allowed : (kind : JobKind) (digest : List ℕ) (story : Story) → AllInLog b (begin_plan (store story) b kind digest) → AllSafe G (begun_job b kind digest story) story
  begin_allowed kind digest story own = calls_allowed G b h (begin_plan (store story) b kind digest) story own

  pub finish_allowed : (story : Story) → AllSafe G (finished_job b story) story
  finish_allowed story = calls_allowed G b h (finish_plan (store story) b) story (finish_own (store story) b)

  pub work_allowed : (kind : JobKind) (fuses : FusesState) (capsule : CapsuleState) (story : Story) → AllSafe G (worked b kind fuses capsule story) story
  unfolding active_heeding active_pages
  work_allowed kind fuses capsule story =
      let image : List ℕ = mine b story in
      let layout : Layout = layout_of fuses.provision b in
      deeds_allowed G b h (active_heeding kind b image (store story) capsule layout) story
      (heeding_own b (store story) (active_page image capsule layout) (length image) (active_pages kind image capsule layout)
      (λ page one. ((pages_are (is_active_page kind image capsule layout) (length image / 4096)).only page one).0))

  pub write_allowed : (kind : JobKind) (fuses : FusesState) (capsule : CapsuleState) (story : Story) → AllSafe G (written_over b kind fuses capsule story) story
  unfolding active_ignoring
  write_allowed kind fuses capsule story =
      let image : List ℕ = mine b story in
      let layout : Layout = layout_of fuses.provision b in
      deeds_allowed G b h (active_ignoring kind image capsule layout) story (ignoring_own b (active_page image capsule layout) (group_pages (length image)) (active_pages kind image capsule layout))

  pub copy_allowed : (fuses : FusesState) (capsule : CapsuleState) (story : Story) → AllSafe G (copied_over b fuses capsule story) story
  unfolding recovery_heeding recovery_pages
  copy_allowed fuses capsule story =
      let image : List ℕ = mine b story in
      let layout : Layout = layout_of fuses.provision b in
      deeds_allowed G b h (recovery_heeding b image (store story) capsule.length layout) story
      (heeding_own b (store story) (recovery_page image layout.staging_at capsule.length layout) (length image) (recovery_pages layout capsule.length (length image))
      (λ page one. ((pages_are (holds_text layout.recovery_at capsule.length) (length image / 4096)).only page one).0))

  pub again_allowed : (fuses : FusesState) (capsule : CapsuleState) (story : Story) → AllSafe G (copied_again b fuses capsule story) story
  unfolding recovery_ignoring
  again_allowed fuses capsule story =
      let image : List ℕ = mine b story in
      let layout : Layout = layout_of fuses.provision b in
      deeds_allowed G b h (recovery_ignoring image capsule.length layout) story (ignoring_own b (recovery_page image layout.staging_at capsule.length layout) (group_pages (length image)) (recovery_pages layout capsule.length (length image)))

  -- ---- with its note
  told_safe : (that : What) → ((there : Story) → G (Says (λ _. that)) there) → (moves : List Move) (story : Story) → AllSafe G moves story → AllSafe G (moves ++ Says (λ _. that) ∷ []) story
  told_safe that tell moves story safe = AllSafe-append G moves (Says (λ _. that) ∷ []) story safe (tell (after moves story), tt)

  end_allowed : (that : What) → ((there : Story) → G (Says (λ _. that)) there) → (story : Story) → AllSafe G (then (finished_job b) (says (λ _. that)) story) story
  end_allowed that tell story = told_safe that tell (finished_job b story) story (finish_allowed story)

  pub done_allowed : (kind : JobKind) (fuses : FusesState) (capsule : CapsuleState) (that : What) → ((there : Story) → G (Says (λ _. that)) there) → (story : Story)
      → AllSafe G (done_with b kind fuses capsule that story) story
  done_allowed kind fuses capsule that tell story =
      let moves : List Move = worked b kind fuses capsule story in
      AllSafe-append G moves (then (finished_job b) (says (λ _. that)) (after moves story)) story (work_allowed kind fuses capsule story) (end_allowed that tell (after moves story))

  pub job_allowed : (kind : JobKind) (fuses : FusesState) (capsule : CapsuleState) (that : What) → ((there : Story) → G (Says (λ _. that)) there) → (story : Story)
      → (is_spent (store story) b ≡ false → AllInLog b (begin_plan (store story) b kind capsule.digest)) → AllSafe G (with_job b kind fuses capsule that story) story
  job_allowed kind fuses capsule that tell story own = (h.asks device.Nv story (inr refl), by_spent (is_spent (store story) b) refl)
    where
      by_spent : (t : Bool) → is_spent (store story) b ≡ t → AllSafe G (by_log t b kind fuses capsule that story) story
      by_spent true e = told_safe that tell (written_over b kind fuses capsule story) story (write_allowed kind fuses capsule story)
      by_spent false e =
          let moves : List Move = begun_job b kind capsule.digest story in
          AllSafe-append G moves (done_with b kind fuses capsule that (after moves story)) story (begin_allowed kind capsule.digest story (own e)) (done_allowed kind fuses capsule that tell (after moves story))
