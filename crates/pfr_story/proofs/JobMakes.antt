-- Which devices work on a bank's jobs calls, and which notes it makes.
use Rattle.std.proofs.Common.{ℕ, Bool, true, false, List, [], ◌∷◌, Result, Ok, Err}
use Rattle.pfr_flash.specs.declared.names.Bank.{Bank}
use Rattle.pfr_flash.specs.declared.names.Counts.{Counts}
use Rattle.pfr_flash.specs.declared.names.Device.{Device}
use Rattle.pfr_flash.specs.declared.names.Device.TheVariants as device
use Rattle.pfr_engine.specs.Acceptance.{Acceptance}
use Rattle.pfr_fuses.specs.Changes.{raise_plan}
use Rattle.pfr_fuses.specs.FusesState.{FusesState, floor_of}
use Rattle.pfr_fuses.specs.RootSlot.{layout_of}
use Rattle.pfr_capsule.specs.CapsuleState.{CapsuleState}
use Rattle.pfr_capsule.specs.declared.fail.CapsuleFail.{CapsuleFail}
use Rattle.pfr_jobs.specs.Log.{open_job}
use Rattle.pfr_jobs.specs.LogPlans.{begin_plan, finish_plan}
use Rattle.pfr_jobs.specs.LogState.{is_spent}
use Rattle.pfr_jobs.specs.declared.job.JobKind.{JobKind}
use Rattle.pfr_jobs.specs.declared.job.JobKind.TheVariants.{ActiveFromRecovery, ActiveFromStaging, RecoveryFromStaging}
use Rattle.pfr_jobs.specs.declared.job.OpenJob.{OpenJob}
use Rattle.pfr_jobs.specs.declared.job.OpenJob.TheVariants as job
use Rattle.pfr_rebuilt.specs.Passing.{active_heeding, active_ignoring, recovery_heeding, recovery_ignoring}
use Rattle.pfr_strokes.specs.Deeds.{Deed, Asks as AsksSide, Does as DoesSide}
use Rattle.pfr_strokes.specs.declared.side.Side.TheVariants as side
use Rattle.pfr_report.specs.declared.note.What.{What}
use Rattle.pfr_report.specs.declared.note.What.TheVariants.{Restored, Updated}
use Rattle.pfr_story.specs.Story.{Story, Plan, then, says, after, noted, device_of}
use Rattle.pfr_story.specs.Deeds.{deed_moves}
use Rattle.pfr_story.specs.Safety.{AllMake}
use Rattle.pfr_story.specs.Plans.{mine, store, asks, judged_recovery}
use Rattle.pfr_story.specs.JobPlans.{begun_job, finished_job, abandoned, worked, written_over, done_with, by_log, with_job, copied_over, copied_again, raised_to, concluded, by_second_pass, second_pass, same_digest, by_digest, by_first_pass, recovery_work, recovery_job, judged_source, JobNotes, work_of, resumed_if, by_source, by_open, resumed}
use Rattle.pfr_story.proofs.SafetyLaws.{AllMake-append, AllMake-called}

module _ (D : Device → Type 0) (S : (Counts → What) → Type 0) (b : Bank) (nv : D device.Nv) (own : D (device_of b)) where
  pub deeds_make : (deeds : List Deed) → AllMake D S (deed_moves b deeds)
  deeds_make [] = tt
  deeds_make (AsksSide side.Bank ∷ deeds) = (own, deeds_make deeds)
  deeds_make (AsksSide side.Store ∷ deeds) = (nv, deeds_make deeds)
  deeds_make (DoesSide side.Bank op ∷ deeds) = (own, deeds_make deeds)
  deeds_make (DoesSide side.Store op ∷ deeds) = (nv, deeds_make deeds)

  then_makes : (first second : Plan) (story : Story) → AllMake D S (first story) → AllMake D S (second (after (first story) story)) → AllMake D S ((then) first second story)
  then_makes first second story p q = AllMake-append D S (first story) (second (after (first story) story)) p q

  finished_makes : (story : Story) → AllMake D S (finished_job b story)
  finished_makes story = AllMake-called D S device.Nv (finish_plan (store story) b) nv

  begun_makes : (kind : JobKind) (digest : List ℕ) (story : Story) → AllMake D S (begun_job b kind digest story)
  begun_makes kind digest story = AllMake-called D S device.Nv (begin_plan (store story) b kind digest) nv

  pub abandoned_makes : (that : What) (story : Story) → S (λ _. that) → AllMake D S (abandoned that b story)
  abandoned_makes that story s = then_makes (finished_job b) (says (λ _. that)) story (finished_makes story) (s, tt)

  -- ---- a job on the active image
  module _ (kind : JobKind) (fuses : FusesState) (capsule : CapsuleState) (that : What) (s : S (λ _. that)) where
    pub done_makes : (story : Story) → AllMake D S (done_with b kind fuses capsule that story)
    done_makes story =
        then_makes (worked b kind fuses capsule) ((then) (finished_job b) (says (λ _. that))) story
        (deeds_make (active_heeding kind b (mine b story) (store story) capsule (layout_of fuses.provision b)))
        (abandoned_makes that (after (worked b kind fuses capsule story) story) s)

    log_makes : (spent : Bool) (story : Story) → AllMake D S (by_log spent b kind fuses capsule that story)
    log_makes true story =
        then_makes (written_over b kind fuses capsule) (says (λ _. that)) story (deeds_make (active_ignoring kind (mine b story) capsule (layout_of fuses.provision b))) (s, tt)
    log_makes false story =
        then_makes (begun_job b kind capsule.digest) (done_with b kind fuses capsule that) story (begun_makes kind capsule.digest story) (done_makes (after (begun_job b kind capsule.digest story) story))

    pub with_job_makes : (story : Story) → AllMake D S (with_job b kind fuses capsule that story)
    with_job_makes story = (nv, log_makes (is_spent (store story) b) story)

  -- ---- a job on the recovery area
  module _ (given_up : What) (told : ℕ → What) (gives : S (λ _. given_up)) (tells : (svn : ℕ) → S (λ _. told svn)) (accepts : Acceptance) (fuses : FusesState) where
    pub concluded_makes : (found : CapsuleState) (story : Story) → AllMake D S (concluded told b fuses found story)
    concluded_makes found story =
        then_makes (raised_to found.manifest.svn b fuses) ((then) (finished_job b) (says (λ _. told found.manifest.svn))) story
        (AllMake-called D S device.Nv (raise_plan (floor_of fuses b) b found.manifest.svn) nv)
        (abandoned_makes (told found.manifest.svn) (after (raised_to found.manifest.svn b fuses story) story) (tells found.manifest.svn))

    second_made : (r : Result CapsuleState CapsuleFail) (story : Story) → AllMake D S (by_second_pass given_up told b fuses r story)
    second_made (Ok found) story = concluded_makes found story
    second_made (Err cause) story = abandoned_makes given_up story gives

    module _ (capsule : CapsuleState) where
      second_makes : (story : Story) → AllMake D S (second_pass given_up told accepts b fuses capsule story)
      second_makes story =
          let later : Story = after (copied_again b fuses capsule story) story in
          then_makes (copied_again b fuses capsule) ((then) (asks b) (λ here. by_second_pass given_up told b fuses (judged_recovery accepts b fuses here) here)) story (deeds_make (recovery_ignoring (mine b story) capsule.length (layout_of fuses.provision b)))
          (own, second_made (judged_recovery accepts b fuses later) later)

      digest_makes : (same : Bool) (found : CapsuleState) (story : Story) → AllMake D S (by_digest same given_up told accepts b fuses capsule found story)
      digest_makes true found story = concluded_makes found story
      digest_makes false found story = second_makes story

      first_makes : (r : Result CapsuleState CapsuleFail) (story : Story) → AllMake D S (by_first_pass given_up told accepts b fuses capsule r story)
      first_makes (Ok found) story = digest_makes (same_digest found.digest capsule.digest) found story
      first_makes (Err cause) story = second_makes story

      pub recovery_work_makes : (story : Story) → AllMake D S (recovery_work given_up told accepts b fuses capsule story)
      recovery_work_makes story =
          let later : Story = after (copied_over b fuses capsule story) story in
          then_makes (copied_over b fuses capsule) ((then) (asks b) (λ here. by_first_pass given_up told accepts b fuses capsule (judged_recovery accepts b fuses here) here)) story (deeds_make (recovery_heeding b (mine b story) (store story) capsule.length (layout_of fuses.provision b)))
          (own, first_makes (judged_recovery accepts b fuses later) later)

      pub recovery_job_makes : (story : Story) → AllMake D S (recovery_job given_up told accepts b fuses capsule story)
      recovery_job_makes story =
          then_makes (begun_job b RecoveryFromStaging capsule.digest) (recovery_work given_up told accepts b fuses capsule) story (begun_makes RecoveryFromStaging capsule.digest story)
          (recovery_work_makes (after (begun_job b RecoveryFromStaging capsule.digest story) story))

  -- ---- whatever job is open at a power-on
  -- what may be noted of it
  pub record AreJobNotes (notes : JobNotes) : Type 0 where
    pub resumes : (kind : JobKind) → S (λ _. notes.resumed kind)
    pub gives : S (λ _. notes.given_up)
    pub tells : (svn : ℕ) → S (λ _. notes.recovery_updated svn)
    pub restores : (level : ℕ) → S (λ _. Restored b level)
    pub updates : (dynamic : Bool) (svn : ℕ) → S (λ _. Updated b dynamic svn)

  module _ (notes : JobNotes) (may : AreJobNotes notes) (accepts : Acceptance) (fuses : FusesState) where
    work_makes : (kind : JobKind) (capsule : CapsuleState) (story : Story) → AllMake D S (work_of notes accepts b fuses capsule kind story)
    work_makes (ActiveFromRecovery level) capsule story = done_makes (ActiveFromRecovery level) fuses capsule (Restored b level) (may.restores level) story
    work_makes (ActiveFromStaging dynamic) capsule story = done_makes (ActiveFromStaging dynamic) fuses capsule (Updated b dynamic capsule.manifest.svn) (may.updates dynamic capsule.manifest.svn) story
    work_makes RecoveryFromStaging capsule story = recovery_work_makes notes.given_up notes.recovery_updated may.gives may.tells accepts fuses capsule story

    source_makes : (kind : JobKind) (digest : List ℕ) (r : Result CapsuleState CapsuleFail) (story : Story) → AllMake D S (by_source notes accepts b fuses kind digest r story)
    source_makes kind digest (Err cause) story = abandoned_makes notes.given_up story may.gives
    source_makes kind digest (Ok capsule) story = by_same (same_digest capsule.digest digest)
      where
        by_same : (same : Bool) → AllMake D S (resumed_if same notes accepts b fuses capsule kind story)
        by_same true = (may.resumes kind, work_makes kind capsule (noted (λ _. notes.resumed kind) story))
        by_same false = abandoned_makes notes.given_up story may.gives

    open_makes : (which : OpenJob) (story : Story) → AllMake D S (by_open notes accepts b fuses which story)
    open_makes job.None story = tt
    open_makes job.Bad story = abandoned_makes notes.given_up story may.gives
    open_makes (job.Job kind digest) story = (own, source_makes kind digest (judged_source accepts b fuses kind story) story)

    pub resumed_makes : (story : Story) → AllMake D S (resumed notes accepts b fuses story)
    resumed_makes story = (nv, open_makes (open_job (store story) b) story)
