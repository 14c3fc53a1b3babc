-- Work on a bank's jobs leaves each bank one that can be recovered, at every cut, whatever it tore; and what it leads to.
use Rattle.std.proofs.Common.{◌≡◌, refl, sym, subst, ℕ, false, Ok}
use Rattle.pfr_flash.specs.declared.names.Bank.{Bank}
use Rattle.pfr_flash.specs.declared.names.ContentType.{ContentType}
use Rattle.pfr_engine.specs.Acceptance.{Acceptance}
use Rattle.pfr_fuses.specs.FusesState.{FusesState}
use Rattle.pfr_fuses.specs.RootSlot.{layout_of}
use Rattle.pfr_capsule.specs.CapsuleState.{CapsuleState}
use Rattle.pfr_capsule.specs.Good.{IsGood}
use Rattle.pfr_capsule.proofs.DigestLaw.{good_digest}
use Rattle.pfr_jobs.specs.Log.{open_job}
use Rattle.pfr_jobs.specs.LogPlans.{IsKind}
use Rattle.pfr_jobs.specs.LogState.{is_spent}
use Rattle.pfr_jobs.specs.declared.job.JobKind.{JobKind}
use Rattle.pfr_jobs.specs.declared.job.JobKind.TheVariants.{ActiveFromRecovery, ActiveFromStaging, RecoveryFromStaging}
use Rattle.pfr_jobs.specs.declared.job.OpenJob.TheVariants as job
use Rattle.pfr_jobs.proofs.SlotLaw.{IsDigest}
use Rattle.pfr_report.specs.declared.note.What.{What}
use Rattle.pfr_story.specs.Story.{Story, after}
use Rattle.pfr_story.specs.Safety.{AllSafe}
use Rattle.pfr_story.specs.Plans.{mine, store, judged_staging}
use Rattle.pfr_story.specs.JobPlans.{JobNotes, judged_source, begun_job, with_job, recovery_work, recovery_job, resumed}
use Rattle.pfr_story.specs.Recovery.{KeepsRecoverable}
use Rattle.pfr_story.proofs.Sequence.{after-append}
use Rattle.pfr_story.proofs.RestoreLaws.{found_good, found_staged}
use Rattle.pfr_story.proofs.JobSafety.{HoldsJobs, IsJobless, IsGoodIn}
use Rattle.pfr_story.proofs.JobSafetyActive.{IsActiveNext, regions_good, with_job_leads, leads_at}
use Rattle.pfr_story.proofs.JobSafetyRecovery.{IsStaged, IsStagedNext, IsReplaced, staged_from, staged_can, begun_staged, recovery_work_leads, recovery_job_leads}
use Rattle.pfr_story.proofs.JobSafetyResumed.{safe_for, good_behind, resumed_leads}
use Rattle.pfr_story.proofs.JobSafetyCancelled.{IsCancelling, cancelled, cancelled_leads}

module _ (accepts : Acceptance) (b : Bank) (fuses : FusesState) where
  -- ---- a restore or an update, from a capsule that is judged well in the kind's source area
  -- what a good capsule at a place of the bank gives
  next_from : (kind : JobKind) (active : ¬ (kind ≡ RecoveryFromStaging)) (capsule : CapsuleState) (story : Story) (place : ℕ) → IsJobless b fuses story
      → (g : IsGood (mine b story) place (layout_of fuses.provision b).area_len (store story) b accepts) × (g.capsule ≡ capsule)
      → IsActiveNext accepts b fuses kind active capsule story × IsDigest capsule.digest
  next_from kind active capsule story place p g =
      let len : ℕ = (layout_of fuses.provision b).area_len in
      let digest = good_digest (mine b story) (store story) place len b accepts g.0 in (
        record { jobless = p; regions = regions_good accepts b fuses capsule story place len g p.holds.provisioned },
        subst (λ (c : CapsuleState). IsDigest c.digest) g.1 (record { long = digest.0; bytes = digest.1 }),
      )

  next_of : (kind : JobKind) (active : ¬ (kind ≡ RecoveryFromStaging)) (capsule : CapsuleState) (story : Story) → IsJobless b fuses story → judged_source accepts b fuses kind story ≡ Ok capsule
      → IsActiveNext accepts b fuses kind active capsule story × IsDigest capsule.digest
  next_of (ActiveFromRecovery level) active capsule story p judged =
      next_from (ActiveFromRecovery level) active capsule story (layout_of fuses.provision b).recovery_at p (found_good accepts b fuses capsule story p.holds.provisioned p.holds.layout p.holds.bytes judged)
  next_of (ActiveFromStaging dynamic) active capsule story p judged =
      next_from (ActiveFromStaging dynamic) active capsule story (layout_of fuses.provision b).staging_at p (found_staged accepts b fuses capsule story p.holds.provisioned p.holds.layout p.holds.bytes judged)
  next_of RecoveryFromStaging active capsule story p judged = absurd (active refl)

  module _ (kind : JobKind) (active : ¬ (kind ≡ RecoveryFromStaging)) (valid : IsKind kind) (capsule : CapsuleState) (that : What) (story : Story) (p : IsJobless b fuses story)
      (judged : judged_source accepts b fuses kind story ≡ Ok capsule) where
    pub with_job_safe : (c : Bank) → AllSafe (KeepsRecoverable accepts c) (with_job b kind fuses capsule that story) story
    with_job_safe c =
        let next = next_of kind active capsule story p judged in
        safe_for accepts b c (with_job b kind fuses capsule that story) story ((with_job_leads accepts b fuses kind active capsule valid next.1 that).safe story next.0)

    -- no job is open behind it, and the store says the same fuses
    pub with_job_ends : IsJobless b fuses (after (with_job b kind fuses capsule that story) story)
    with_job_ends =
        let next = next_of kind active capsule story p judged in
        (with_job_leads accepts b fuses kind active capsule valid next.1 that).ends story next.0

  -- ---- the work of an open job that replaces the recovery area, with the job's capsule judged well in the staging area
  module _ (given_up : What) (told : ℕ → What) (capsule : CapsuleState) (story : Story) where
    module _ (h : HoldsJobs b fuses story) (judged : judged_staging accepts b fuses story ≡ Ok capsule) (opened : open_job (store story) b ≡ job.Job RecoveryFromStaging capsule.digest) where
      pub recovery_work_safe : (c : Bank) → AllSafe (KeepsRecoverable accepts c) (recovery_work given_up told accepts b fuses capsule story) story
      recovery_work_safe c =
          safe_for accepts b c (recovery_work given_up told accepts b fuses capsule story) story
          ((recovery_work_leads accepts b fuses given_up told capsule).safe story (staged_from accepts b fuses capsule story h judged opened))

      pub recovery_work_ends : IsReplaced accepts b fuses (after (recovery_work given_up told accepts b fuses capsule story) story)
      recovery_work_ends = (recovery_work_leads accepts b fuses given_up told capsule).ends story (staged_from accepts b fuses capsule story h judged opened)

      pub recovery_work_good : IsGoodIn accepts b (after (recovery_work given_up told accepts b fuses capsule story) story)
      recovery_work_good =
          let staged = staged_from accepts b fuses capsule story h judged opened in
          good_behind accepts b (recovery_work given_up told accepts b fuses capsule story) story ((recovery_work_leads accepts b fuses given_up told capsule).safe story staged)
          (staged_can accepts b fuses capsule.length capsule.digest story staged) recovery_work_ends.jobless.none

    -- begun now, from a log that takes a job
    module _ (p : IsJobless b fuses story) (unspent : is_spent (store story) b ≡ false) (judged : judged_staging accepts b fuses story ≡ Ok capsule) where
      next : IsStagedNext accepts b fuses given_up told capsule story
      next = record { jobless = p; unspent = unspent; judged = judged }

      pub recovery_job_safe : (c : Bank) → AllSafe (KeepsRecoverable accepts c) (recovery_job given_up told accepts b fuses capsule story) story
      recovery_job_safe c = safe_for accepts b c (recovery_job given_up told accepts b fuses capsule story) story ((recovery_job_leads accepts b fuses given_up told capsule).safe story next)

      pub recovery_job_ends : IsReplaced accepts b fuses (after (recovery_job given_up told accepts b fuses capsule story) story)
      recovery_job_ends = (recovery_job_leads accepts b fuses given_up told capsule).ends story next

      -- the recovery area is good then, whether it was or not
      pub recovery_job_good : IsGoodIn accepts b (after (recovery_job given_up told accepts b fuses capsule story) story)
      recovery_job_good =
          let begun = begun_staged accepts b fuses given_up told capsule story next in
          let later : Story = after (begun_job b RecoveryFromStaging capsule.digest story) story in
          let work = leads_at _ (IsStaged accepts b fuses capsule.length capsule.digest) (IsReplaced accepts b fuses) (recovery_work given_up told accepts b fuses capsule)
          (recovery_work_leads accepts b fuses given_up told capsule) later begun.ends in
          subst (λ (s : Story). IsGoodIn accepts b s) (sym (after-append (begun_job b RecoveryFromStaging capsule.digest story) (recovery_work given_up told accepts b fuses capsule later) story))
          (good_behind accepts b (recovery_work given_up told accepts b fuses capsule later) later work.safe (staged_can accepts b fuses capsule.length capsule.digest later begun.ends) work.ends.jobless.none)

  -- ---- whatever job is open at a power-on
  pub resumed_safe : (c : Bank) (notes : JobNotes) (story : Story) → HoldsJobs b fuses story → AllSafe (KeepsRecoverable accepts c) (resumed notes accepts b fuses story) story
  resumed_safe c notes story h = safe_for accepts b c (resumed notes accepts b fuses story) story ((resumed_leads accepts b fuses notes).safe story h)

  -- ---- the cancellation of a key
  pub cancelled_safe : (c : Bank) (type : ContentType) (id : ℕ) (story : Story) → IsCancelling accepts b fuses type id story → AllSafe (KeepsRecoverable accepts c) (cancelled accepts b fuses type id story) story
  cancelled_safe c type id story p = safe_for accepts b c (cancelled accepts b fuses type id story) story ((cancelled_leads accepts b fuses type id).safe story p)
