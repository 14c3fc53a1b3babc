-- A job on an active image leaves the fuses by which the bank is checked, whatever the log says.
use Rattle.std.proofs.Common.{◌≡◌, ◌∙◌, refl, sym, ap, subst, ℕ, Bool, true, false, List, [], ◌∷◌, ◌++◌, length}
use Rattle.pfr_flash.specs.Layout.{IsValidLayout}
use Rattle.pfr_flash.specs.declared.names.Bank.{Bank}
use Rattle.pfr_flash.proofs.PlayLemmas.{length-play}
use Rattle.pfr_fuses.specs.FusesOf.{fuses_of}
use Rattle.pfr_fuses.specs.FusesState.{FusesState}
use Rattle.pfr_fuses.specs.RootSlot.{layout_of}
use Rattle.pfr_capsule.specs.CapsuleState.{CapsuleState}
use Rattle.pfr_jobs.specs.LogPlans.{begin_plan, finish_plan}
use Rattle.pfr_jobs.specs.LogState.{is_spent}
use Rattle.pfr_jobs.specs.declared.job.JobKind.{JobKind}
use Rattle.pfr_rebuilt.specs.Passing.{active_heeding, active_ignoring}
use Rattle.pfr_strokes.specs.Deeds.{Deed, side_ops}
use Rattle.pfr_strokes.specs.declared.side.Side.TheVariants as side
use Rattle.pfr_report.specs.declared.note.What.{What}
use Rattle.pfr_story.specs.Deeds.{deed_moves}
use Rattle.pfr_story.specs.JobPlans.{begun_job, finished_job, worked, written_over, done_with, by_log, with_job}
use Rattle.pfr_story.specs.Plans.{mine, store}
use Rattle.pfr_story.specs.Story.{Story, Move, Says, after, noted, then, says, device_of}
use Rattle.pfr_story.proofs.BringRules.{IsReady}
use Rattle.pfr_story.proofs.JobEnds.{deeds_left}
use Rattle.pfr_story.proofs.JobRules.{AllInLog, finish_own}
use Rattle.pfr_story.proofs.JobSafety.{all_own, kept_logged}
use Rattle.pfr_story.proofs.JobSteps.{worked_stands, written_stands}
use Rattle.pfr_story.proofs.SafetyLaws.{image_noted}
use Rattle.pfr_story.proofs.Sequence.{after-append}

-- the store says the same fuses, and the store and the bank keep their sizes
pub record StaysReady (b : Bank) (old new : Story) : Type 0 where
  pub fuses : fuses_of (store new) ≡ fuses_of (store old)
  pub stored : length (store new) ≡ length (store old)
  pub long : length (mine b new) ≡ length (mine b old)

pub ready_stays : (b : Bank) (fuses : FusesState) (old new : Story) → StaysReady b old new → IsReady b fuses old → IsReady b fuses new
ready_stays b fuses old new k r = record {
  provisioned = k.fuses ∙ r.provisioned;
  layout = subst (λ (n : ℕ). IsValidLayout (layout_of fuses.provision b) n) (sym k.long) r.layout;
}

stays_then : (b : Bank) (x y z : Story) → StaysReady b x y → StaysReady b y z → StaysReady b x z
stays_then b x y z p q = record { fuses = q.fuses ∙ p.fuses; stored = q.stored ∙ p.stored; long = q.long ∙ p.long }

stays_noted : (b : Bank) (that : What) (old new : Story) → StaysReady b old new → StaysReady b old (noted (λ _. that) new)
stays_noted b that old new k = record {
  fuses = k.fuses;
  stored = k.stored;
  long = ap (λ (image : List ℕ). length image) (image_noted (device_of b) (λ _. that) new) ∙ k.long;
}

-- moves one behind the other
stays_moves : (b : Bank) (first second : List Move) (story : Story) → StaysReady b story (after first story) → StaysReady b (after first story) (after second (after first story)) → StaysReady b story (after (first ++ second) story)
stays_moves b first second story p q =
    subst (λ (there : Story). StaysReady b story there) (sym (after-append first second story)) (stays_then b story (after first story) (after second (after first story)) p q)

module _ (b : Bank) (kind : JobKind) (fuses : FusesState) (capsule : CapsuleState) (that : What) where
  told_stays : (moves : List Move) (story : Story) → StaysReady b story (after moves story) → StaysReady b story (after (moves ++ Says (λ _. that) ∷ []) story)
  told_stays moves story k =
      subst (λ (there : Story). StaysReady b story there) (sym (after-append moves (Says (λ _. that) ∷ []) story)) (stays_noted b that story (after moves story) k)

  finished_stays : (story : Story) → length (store story) ≡ 32768 → StaysReady b story (after (finished_job b story) story)
  finished_stays story size =
      let k = kept_logged b (finish_plan (store story) b) story size (all_own b (finish_plan (store story) b) (finish_own (store story) b)) in
      record { fuses = k.fuses; stored = k.store_size; long = k.size }

  begun_stays : (story : Story) → length (store story) ≡ 32768 → AllInLog b (begin_plan (store story) b kind capsule.digest) → StaysReady b story (after (begun_job b kind capsule.digest story) story)
  begun_stays story size own =
      let k = kept_logged b (begin_plan (store story) b kind capsule.digest) story size (all_own b (begin_plan (store story) b kind capsule.digest) own) in
      record { fuses = k.fuses; stored = k.store_size; long = k.size }

  deeds_long : (deeds : List Deed) (story : Story) → length (mine b (after (deed_moves b deeds) story)) ≡ length (mine b story)
  deeds_long deeds story = ap (λ (image : List ℕ). length image) (deeds_left b deeds story).bank ∙ length-play (mine b story) (side_ops side.Bank deeds)

  worked_stays : (story : Story) → length (store story) ≡ 32768 → StaysReady b story (after (worked b kind fuses capsule story) story)
  worked_stays story size =
      let s = worked_stands b fuses capsule story size kind in
      record {
        fuses = s.logged.fuses;
        stored = s.logged.size ∙ sym size;
        long = deeds_long (active_heeding kind b (mine b story) (store story) capsule (layout_of fuses.provision b)) story;
      }

  written_stays : (story : Story) → length (store story) ≡ 32768 → StaysReady b story (after (written_over b kind fuses capsule story) story)
  written_stays story size =
      let s = written_stands b fuses capsule story size kind in
      record {
        fuses = s.logged.fuses;
        stored = s.logged.size ∙ sym size;
        long = deeds_long (active_ignoring kind (mine b story) capsule (layout_of fuses.provision b)) story;
      }

  done_stays : (story : Story) → length (store story) ≡ 32768 → StaysReady b story (after (done_with b kind fuses capsule that story) story)
  done_stays story size =
      let work : List Move = worked b kind fuses capsule story in
      let there : Story = after work story in
      let k = worked_stays story size in
      stays_moves b work (then (finished_job b) (says (λ _. that)) there) story k (told_stays (finished_job b there) there (finished_stays there (k.stored ∙ size)))

  -- The whole job, from a log that is spent or takes it.
  pub job_stays : (story : Story) → length (store story) ≡ 32768 → (is_spent (store story) b ≡ false → AllInLog b (begin_plan (store story) b kind capsule.digest))
      → StaysReady b story (after (with_job b kind fuses capsule that story) story)
  job_stays story size own = by_spent (is_spent (store story) b) refl
    where
      by_spent : (t : Bool) → is_spent (store story) b ≡ t → StaysReady b story (after (by_log t b kind fuses capsule that story) story)
      by_spent true e = told_stays (written_over b kind fuses capsule story) story (written_stays story size)
      by_spent false e =
          let begun : List Move = begun_job b kind capsule.digest story in
          let k = begun_stays story size (own e) in
          stays_moves b begun (done_with b kind fuses capsule that (after begun story)) story k (done_stays (after begun story) (k.stored ∙ size))
