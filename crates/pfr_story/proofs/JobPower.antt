-- A bank that can be recovered ends released: the job that is open is resumed, and then the bank is checked and recovered.
use Rattle.std.proofs.Common.{◌≡◌, ◌∙◌, ℕ, ◌+◌, ◌*◌, ◌/◌, ◌≤◌, sym, ap, subst, arith, Bool, true, false, List, [], ◌∷◌, ◌++◌, length, inl, inr, Result, Ok, Err}
use Rattle.pfr_flash.specs.Bytes.{AreBytes}
use Rattle.pfr_flash.specs.Layout.{IsBankSize}
use Rattle.pfr_flash.specs.Operation.{Operation}
use Rattle.pfr_flash.specs.declared.layout.Layout.{Layout}
use Rattle.pfr_flash.specs.declared.names.Bank.{Bank}
use Rattle.pfr_flash.specs.declared.names.Counts.{Counts}
use Rattle.pfr_engine.specs.Acceptance.{Acceptance}
use Rattle.pfr_fuses.specs.FusesState.{FusesState}
use Rattle.pfr_fuses.specs.FusesOf.{fuses_of}
use Rattle.pfr_fuses.specs.RootSlot.{layout_of}
use Rattle.pfr_fuses.specs.declared.fuse_fail.FuseFail.{FuseFail}
use Rattle.pfr_fuses.specs.declared.root_slot.RootSlot.{RootSlot}
use Rattle.pfr_capsule.specs.CapsuleState.{CapsuleState}
use Rattle.pfr_jobs.specs.Log.{open_job}
use Rattle.pfr_jobs.specs.LogPlans.{begin_plan, finish_plan}
use Rattle.pfr_jobs.specs.LogState.{is_spent}
use Rattle.pfr_jobs.specs.declared.job.JobKind.{JobKind}
use Rattle.pfr_jobs.specs.declared.job.JobKind.TheVariants.{ActiveFromRecovery}
use Rattle.pfr_jobs.specs.declared.job.OpenJob.TheVariants as job
use Rattle.pfr_rebuilt.specs.ActiveCopying.{active_pages}
use Rattle.pfr_rebuilt.specs.Copying.{recovery_pages}
use Rattle.pfr_recoverable.specs.Recoverable.{HasGoodRecovery, IsRecoverable}
use Rattle.pfr_report.specs.declared.note.What.{What}
use Rattle.pfr_report.specs.declared.note.What.TheVariants.{Restored}
use Rattle.pfr_story.specs.Story.{Story, Move, Says, Plan, after, then, noted}
use Rattle.pfr_story.specs.Safety.{AllSafe}
use Rattle.pfr_story.specs.Recovery.{KeepsRecoverable}
use Rattle.pfr_story.specs.Plans.{mine, store, restored}
use Rattle.pfr_story.specs.JobPlans.{begun_job, finished_job, worked, written_over, done_with, by_log, with_job, JobNotes, resumed}
use Rattle.pfr_story.specs.JobContents.{CanWork, image_resumed, fuses_resumed}
use Rattle.pfr_story.proofs.Sequence.{after-append}
use Rattle.pfr_story.proofs.SafetyLaws.{safe_whole, kept_by}
use Rattle.pfr_story.proofs.RecoverableLaws.{true_kept}
use Rattle.pfr_story.proofs.RestoreLaws.{RestoresFrom, not_recovery}
use Rattle.pfr_story.proofs.JobRestores.{made_restored, anew_judged}
use Rattle.pfr_story.proofs.JobSteps.{bank_called}
use Rattle.pfr_story.proofs.JobDone.{done_is}
use Rattle.pfr_story.proofs.JobCounts.{done_on, noted_count, store_count, worked_few, written_few}
use Rattle.pfr_story.proofs.JobResumed.{IsFew, IsResumedTo, resumed_ends}
use Rattle.pfr_story.proofs.JobTail.{recovery_few, Restoring, tail_with, EndsReleased, ends_behind, RestoresWell, tail_ends}

-- ---- a restore by a job
module _ (b : Bank) (kind : JobKind) (fuses : FusesState) (capsule : CapsuleState) (that : What) where
  done_few : (story : Story) → done_on b (after (done_with b kind fuses capsule that story) story) ≤ done_on b story + 17 * length (active_pages kind (mine b story) capsule (layout_of fuses.provision b))
  done_few story =
      let there : Story = after (worked b kind fuses capsule story) story in
      let end = ap (λ (s : Story). done_on b s) (done_is b kind fuses capsule that story) in
      omega (arith, end, noted_count b (λ _. that) (after (finished_job b there) there), store_count b (finish_plan (store there) b) there, worked_few b fuses capsule story kind)

  pub with_job_few : (story : Story) → done_on b (after (with_job b kind fuses capsule that story) story) ≤ done_on b story + 17 * length (active_pages kind (mine b story) capsule (layout_of fuses.provision b))
  with_job_few story = by_spent (is_spent (store story) b)
    where
      by_spent : (t : Bool) → done_on b (after (by_log t b kind fuses capsule that story) story) ≤ done_on b story + 17 * length (active_pages kind (mine b story) capsule (layout_of fuses.provision b))
      by_spent true =
          let there : Story = after (written_over b kind fuses capsule story) story in
          let end = ap (λ (s : Story). done_on b s) (after-append (written_over b kind fuses capsule story) (Says (λ _. that) ∷ []) story) in
          omega (arith, end, noted_count b (λ _. that) there, written_few b fuses capsule story kind)
      by_spent false =
          let begun : Story = after (begun_job b kind capsule.digest story) story in
          let plan : List Operation = begin_plan (store story) b kind capsule.digest in
          let end = ap (λ (s : Story). done_on b s) (after-append (begun_job b kind capsule.digest story) (done_with b kind fuses capsule that begun) story) in
          let pages = ap (λ (image : List ℕ). length (active_pages kind image capsule (layout_of fuses.provision b))) (bank_called b plan story) in
          omega (arith, end, pages, done_few begun, store_count b plan story)

pub job_well : (accepts : Acceptance) (b : Bank) (fuses : FusesState) (capsule : CapsuleState) (that : What) (story : Story) → RestoresFrom accepts b fuses capsule story → length (store story) ≡ 32768
    → open_job (store story) b ≡ job.None → RestoresWell accepts b fuses capsule (with_job b (ActiveFromRecovery 1) fuses capsule that) story
job_well accepts b fuses capsule that story from size none = record {
  judged = anew_judged accepts b (ActiveFromRecovery 1) (not_recovery 1) fuses capsule that story (made_restored accepts b fuses capsule story from) size none (omega arith, omega arith);
  few = with_job_few b (ActiveFromRecovery 1) fuses capsule that story;
}

-- ---- the whole plan
-- the tail goes by the fuses as they are then
abbrev pub tail_by : Restoring → Acceptance → Bank → Result FusesState FuseFail → Plan
tail_by restores accepts b (Ok fuses) = tail_with restores accepts b fuses
tail_by restores accepts b (Err cause) = λ story. []

abbrev pub power_with : Restoring → JobNotes → Acceptance → Bank → FusesState → Plan
power_with restores notes accepts b fuses = then (resumed notes accepts b fuses) (λ story. tail_by restores accepts b (fuses_of (store story)) story)

-- it ends released, within 34 operations for each of the bank's pages
pub record PowerEnds (b : Bank) (moves : List Move) (story : Story) : Type 0 where
  pub released : EndsReleased b moves story
  pub few : done_on b (after moves story) ≤ done_on b story + 34 * (length (mine b story) / 4096)

module _ (notes : JobNotes) (accepts : Acceptance) (b : Bank) (fuses : FusesState) (story : Story) (h : CanWork b fuses story)
    (recoverable : IsRecoverable b (mine b story) (store story) accepts) (safe : AllSafe (KeepsRecoverable accepts b) (resumed notes accepts b fuses story) story) where
  abbrev there : Story
  there = after (resumed notes accepts b fuses story) story

  abbrev later : FusesState
  later = fuses_resumed accepts b (mine b story) (store story) fuses

  pub resumed_so : IsResumedTo b fuses (image_resumed accepts b (mine b story) (store story) fuses) (fuses_resumed accepts b (mine b story) (store story) fuses) story (after (resumed notes accepts b fuses story) story)
  resumed_so = resumed_ends notes accepts b fuses story h

  -- nothing is open then, so the recovery area is good
  pub resumed_good : HasGoodRecovery b (mine b there) (store there) accepts
  resumed_good =
      by_either (kept_by (KeepsRecoverable accepts b) (λ (s : Story). IsRecoverable b (mine b s) (store s) accepts) (true_kept (λ image nv. IsRecoverable b image nv accepts) b)
      (resumed notes accepts b fuses story) story (safe_whole (KeepsRecoverable accepts b) (resumed notes accepts b fuses story) story safe) recoverable)
    where
      by_either : IsRecoverable b (mine b there) (store there) accepts → HasGoodRecovery b (mine b there) (store there) accepts
      by_either (inl good) = good
      by_either (inr open_still) = absurd (let e = resumed_so.opened in let f = open_still.opened in cc)

  long : length (mine b there) ≡ length (mine b story)
  long = ap (λ (image : List ℕ). length image) resumed_so.bank ∙ resumed_so.long

  power_few : (end : Story) → IsFew b fuses story there
      → ((len : ℕ) → len ≤ (layout_of later.provision b).area_len → done_on b end + 17 * length (recovery_pages (layout_of later.provision b) len (length (mine b there))) ≤ done_on b there + 17 * (length (mine b there) / 4096))
      → done_on b end ≤ done_on b story + 34 * (length (mine b story) / 4096)
  power_few end (inl few) tail_few = omega (arith, few, tail_few 0 (omega arith), long)
  power_few end (inr (len, fits, few)) tail_few =
      let same : layout_of later.provision b ≡ layout_of fuses.provision b = ap (λ (p : RootSlot). layout_of p b) resumed_so.provision in
      let pages : length (recovery_pages (layout_of later.provision b) len (length (mine b there))) ≡ length (recovery_pages (layout_of fuses.provision b) len (length (mine b story))) =
      ap (λ (l : Layout). length (recovery_pages l len (length (mine b there)))) same ∙ ap (λ (n : ℕ). length (recovery_pages (layout_of fuses.provision b) len n)) long in
      let room : len ≤ (layout_of later.provision b).area_len = subst (λ (l : Layout). len ≤ l.area_len) (sym same) fits in
      omega (arith, few, pages, tail_few len room, recovery_few (layout_of fuses.provision b) len (length (mine b story)), long)

  module _ (restores : Restoring) (well : (capsule : CapsuleState) (w : Counts → What) → capsule ≡ resumed_good.good.capsule → RestoresFrom accepts b later capsule (noted w there) → RestoresWell accepts b later capsule (restores later capsule) (noted w there)) where
    -- Whatever is open, it ends released, if the plan that restores it does well.
    pub power_ends : PowerEnds b (power_with restores notes accepts b fuses story) story
    power_ends =
        let tail_moves : List Move = tail_with restores accepts b later there in
        let t = tail_ends restores accepts b later there resumed_so.says resumed_good (subst AreBytes (sym resumed_so.bank) resumed_so.bytes) (subst (λ (n : ℕ). IsBankSize n) (sym long) h.size) well in
        let end = ap (λ (s : Story). done_on b s) (after-append (resumed notes accepts b fuses story) tail_moves story) in
        subst (λ (r : Result FusesState FuseFail). PowerEnds b (resumed notes accepts b fuses story ++ tail_by restores accepts b r there) story) (sym resumed_so.says) (record {
          released = ends_behind b (resumed notes accepts b fuses story) tail_moves story t.released;
          few = omega (arith, end, power_few (after tail_moves there) resumed_so.few t.few);
        })

-- ---- with the restore as it is
module _ (notes : JobNotes) (accepts : Acceptance) (b : Bank) (fuses : FusesState) (story : Story) (h : CanWork b fuses story)
    (recoverable : IsRecoverable b (mine b story) (store story) accepts) (safe : AllSafe (KeepsRecoverable accepts b) (resumed notes accepts b fuses story) story) where
  -- A bank that can be recovered, whatever job is open, ends released.
  pub power_releases : PowerEnds b (power_with (restored b 1) notes accepts b fuses story) story
  power_releases =
      let there : Story = after (resumed notes accepts b fuses story) story in
      let so = resumed_so notes accepts b fuses story h recoverable safe in
      power_ends notes accepts b fuses story h recoverable safe (restored b 1) (λ capsule w e from.
      job_well accepts b (fuses_resumed accepts b (mine b story) (store story) fuses) capsule (Restored b 1) (noted w there) from so.size so.opened)
