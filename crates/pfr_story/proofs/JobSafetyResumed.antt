-- At a power-on the open job of a bank is resumed or given up: both banks stay ones that can be recovered, no job is open behind it, and
-- where the bank could be recovered its recovery area is good.
use Rattle.std.proofs.Common.{◌≡◌, ◌∙◌, refl, sym, ap, ℕ, Bool, true, false, List, inl, inr, Result, Ok, Err}
use Rattle.std.specs.Cmp.Lexicographic.{same_text, other_text}
use Rattle.pfr_flash.specs.declared.layout.Layout.{Layout}
use Rattle.pfr_flash.specs.declared.names.Bank.{Bank}
use Rattle.pfr_flash.specs.declared.names.Bank.TheVariants as bank
use Rattle.pfr_engine.specs.Acceptance.{Acceptance}
use Rattle.pfr_fuses.specs.Changes.{raised}
use Rattle.pfr_fuses.specs.FusesState.{FusesState}
use Rattle.pfr_fuses.specs.RootSlot.{layout_of}
use Rattle.pfr_capsule.specs.CapsuleState.{CapsuleState}
use Rattle.pfr_capsule.specs.Judge.{judge_capsule}
use Rattle.pfr_capsule.specs.declared.fail.CapsuleFail.{CapsuleFail}
use Rattle.pfr_auth.specs.Areas.{judge_area}
use Rattle.pfr_jobs.specs.Log.{open_job}
use Rattle.pfr_jobs.specs.declared.job.JobKind.{JobKind}
use Rattle.pfr_jobs.specs.declared.job.JobKind.TheVariants.{ActiveFromRecovery, ActiveFromStaging, RecoveryFromStaging}
use Rattle.pfr_jobs.specs.declared.job.OpenJob.{OpenJob}
use Rattle.pfr_jobs.specs.declared.job.OpenJob.TheVariants as job
use Rattle.pfr_recoverable.specs.Recoverable.{HasRecoveryJob}
use Rattle.pfr_recoverable.proofs.StaysLaw.{fuses_one}
use Rattle.pfr_report.specs.declared.note.What.{What}
use Rattle.pfr_report.specs.declared.note.What.TheVariants.{Restored, Updated}
use Rattle.pfr_story.specs.Story.{Story, Move, after, noted, device_of, other_bank}
use Rattle.pfr_story.specs.Safety.{AllSafe, Leads}
use Rattle.pfr_story.specs.Plans.{mine, store, judged_staging}
use Rattle.pfr_story.specs.JobPlans.{JobNotes, same_digest, source_of, judged_source, abandoned, done_with, recovery_work, work_of, resumed_if, by_source, by_open, resumed}
use Rattle.pfr_story.specs.Recovery.{KeepsRecoverable}
use Rattle.pfr_story.proofs.SafetyLaws.{image_noted}
use Rattle.pfr_story.proofs.RestoreLaws.{not_recovery, not_staging, found_good, found_staged}
use Rattle.pfr_story.proofs.JobSafety.{HoldsJobs, IsJobless, holds_noted, none_replacing, bad_replacing, CanBe, IsGoodIn, calm_good, recoverable_then}
use Rattle.pfr_story.proofs.JobSafetyOther.{KeepsBoth, safe_of}
use Rattle.pfr_story.proofs.JobSafetyActive.{LeadsAt, leads_from, leads_at, regions_good, IsFinishing, closed_leads, IsActiveOpen, done_leads}
use Rattle.pfr_story.proofs.JobSafetyRaise.{raised_provision}
use Rattle.pfr_story.proofs.JobSafetyRecovery.{good_found, found_ok, one_capsule, IsStaged, staged_from, IsReplaced, recovery_work_leads}

-- ---- for each of the banks
pub safe_for : (accepts : Acceptance) (b c : Bank) (moves : List Move) (story : Story) → AllSafe (KeepsBoth accepts b) moves story → AllSafe (KeepsRecoverable accepts c) moves story
safe_for accepts bank.Bmc bank.Bmc moves story p = (safe_of (KeepsRecoverable accepts bank.Bmc) (KeepsRecoverable accepts bank.Pch) moves story p).0
safe_for accepts bank.Bmc bank.Pch moves story p = (safe_of (KeepsRecoverable accepts bank.Bmc) (KeepsRecoverable accepts bank.Pch) moves story p).1
safe_for accepts bank.Pch bank.Bmc moves story p = (safe_of (KeepsRecoverable accepts bank.Pch) (KeepsRecoverable accepts bank.Bmc) moves story p).1
safe_for accepts bank.Pch bank.Pch moves story p = (safe_of (KeepsRecoverable accepts bank.Pch) (KeepsRecoverable accepts bank.Bmc) moves story p).0

-- behind safe moves that leave no job open the recovery area is good, where the bank could be recovered
pub good_behind : (accepts : Acceptance) (b : Bank) (moves : List Move) (story : Story) → AllSafe (KeepsBoth accepts b) moves story → CanBe accepts b story → open_job (store (after moves story)) b ≡ job.None
    → IsGoodIn accepts b (after moves story)
good_behind accepts b moves story safe can none =
    calm_good accepts b (after moves story) (none_replacing b (store (after moves story)) none)
    (recoverable_then accepts b moves story (safe_of (KeepsRecoverable accepts b) (KeepsRecoverable accepts (other_bank b)) moves story safe).0 can)

-- no job is open, and the platform is provisioned as it was
pub record IsResumed (b : Bank) (fuses : FusesState) (story : Story) : Type 0 where
  pub now : FusesState
  pub jobless : IsJobless b now story
  pub provision : now.provision ≡ fuses.provision

module _ (accepts : Acceptance) (b : Bank) (fuses : FusesState) where
  -- the capsule of an open job that replaces the recovery area is judged well
  staged_judged : (story : Story) → HoldsJobs b fuses story → (j : HasRecoveryJob b (mine b story) (store story) accepts) → judged_staging accepts b fuses story ≡ found_ok j.good.capsule
  staged_judged story h j =
      let same : fuses ≡ j.fuses = fuses_one (store story) fuses j.fuses h.provisioned j.provisioned in
      ap (λ (f : FusesState). judge_capsule (mine b story) (layout_of f.provision b).staging_at (layout_of f.provision b).area_len b (layout_of fuses.provision b) fuses accepts) same
      ∙ good_found (mine b story) (store story) (layout_of j.fuses.provision b).staging_at (layout_of j.fuses.provision b).area_len b accepts fuses j.good h.provisioned

  -- ---- a job that is given up
  -- the capsule that an open job works on doesn't stand in its source area
  abbrev IsUnfound : JobKind → List ℕ → Story → Type 0
  IsUnfound kind digest story = (found : CapsuleState) → judged_source accepts b fuses kind story ≡ found_ok found → ¬ (found.digest ≡ digest)

  unfound_good : (kind : JobKind) (digest : List ℕ) (story : Story) → HoldsJobs b fuses story → open_job (store story) b ≡ job.Job kind digest → IsUnfound kind digest story → CanBe accepts b story → IsGoodIn accepts b story
  unfound_good kind digest story h opened none (inl good) = good
  unfound_good kind digest story h opened none (inr j) =
      let replacing = j.opened in
      let is : kind ≡ RecoveryFromStaging = cc in
      let named : j.good.capsule.digest ≡ digest = cc in
      absurd (none j.good.capsule (ap (λ (k : JobKind). judged_source accepts b fuses k story) is ∙ staged_judged story h j) named)

  -- such a job, or a bad one, is finished
  given_up_at : (that : What) (story : Story) → IsFinishing accepts b fuses story → LeadsAt (KeepsBoth accepts b) (abandoned that b story) (IsResumed b fuses) story
  given_up_at that story p =
      let closed = leads_at (KeepsBoth accepts b) (IsFinishing accepts b fuses) (IsJobless b fuses) (abandoned that b) (closed_leads accepts b fuses (λ _. that)) story p in
      record { safe = closed.safe; ends = record { now = fuses; jobless = closed.ends; provision = refl } }

  module _ (notes : JobNotes) where
    -- ---- one that is resumed
    done_at : (kind : JobKind) (active : ¬ (kind ≡ RecoveryFromStaging)) (capsule : CapsuleState) (that : What) (story : Story) → IsActiveOpen accepts b fuses kind active capsule story
        → LeadsAt (KeepsBoth accepts b) (done_with b kind fuses capsule that story) (IsResumed b fuses) story
    done_at kind active capsule that story p =
        let done = leads_at (KeepsBoth accepts b) (IsActiveOpen accepts b fuses kind active capsule) (IsJobless b fuses) (done_with b kind fuses capsule that) (done_leads accepts b fuses kind active capsule that) story p in
        record { safe = done.safe; ends = record { now = fuses; jobless = done.ends; provision = refl } }

    work_at : (kind : JobKind) (capsule : CapsuleState) (story : Story) → HoldsJobs b fuses story → judged_source accepts b fuses kind story ≡ Ok capsule → open_job (store story) b ≡ job.Job kind capsule.digest
        → LeadsAt (KeepsBoth accepts b) (work_of notes accepts b fuses capsule kind story) (IsResumed b fuses) story
    work_at (ActiveFromRecovery level) capsule story h judged opened =
        let lay : Layout = layout_of fuses.provision b in
        done_at (ActiveFromRecovery level) (not_recovery level) capsule (Restored b level) story (record {
          holds = h;
          regions = regions_good accepts b fuses capsule story lay.recovery_at lay.area_len (found_good accepts b fuses capsule story h.provisioned h.layout h.bytes judged) h.provisioned;
          digest = capsule.digest;
          opened = opened;
        })
    work_at (ActiveFromStaging dynamic) capsule story h judged opened =
        let lay : Layout = layout_of fuses.provision b in
        done_at (ActiveFromStaging dynamic) (not_staging dynamic) capsule (Updated b dynamic capsule.manifest.svn) story (record {
          holds = h;
          regions = regions_good accepts b fuses capsule story lay.staging_at lay.area_len (found_staged accepts b fuses capsule story h.provisioned h.layout h.bytes judged) h.provisioned;
          digest = capsule.digest;
          opened = opened;
        })
    work_at RecoveryFromStaging capsule story h judged opened =
        let work = leads_at (KeepsBoth accepts b) (IsStaged accepts b fuses capsule.length capsule.digest) (IsReplaced accepts b fuses) (recovery_work notes.given_up notes.recovery_updated accepts b fuses capsule)
        (recovery_work_leads accepts b fuses notes.given_up notes.recovery_updated capsule) story (staged_from accepts b fuses capsule story h judged opened) in
        record { safe = work.safe; ends = record { now = raised fuses b work.ends.svn; jobless = work.ends.jobless; provision = raised_provision fuses b work.ends.svn } }

    by_source_at : (kind : JobKind) (digest : List ℕ) (r : Result CapsuleState CapsuleFail) (story : Story) → judged_source accepts b fuses kind story ≡ r → HoldsJobs b fuses story
        → open_job (store story) b ≡ job.Job kind digest → LeadsAt (KeepsBoth accepts b) (by_source notes accepts b fuses kind digest r story) (IsResumed b fuses) story
    by_source_at kind digest (Err cause) story judged h opened = given_up_at notes.given_up story (record {
      holds = h;
      good = unfound_good kind digest story h opened (λ found is. absurd cc);
      opened = λ none. absurd cc;
    })
    by_source_at kind digest (Ok capsule) story judged h opened = by_same (same_digest capsule.digest digest) refl
      where
        by_same : (same : Bool) → same_digest capsule.digest digest ≡ same → LeadsAt (KeepsBoth accepts b) (resumed_if same notes accepts b fuses capsule kind story) (IsResumed b fuses) story
        by_same true e =
            let here : Story = noted (λ _. notes.resumed kind) story in
            let named : capsule.digest ≡ digest = same_text capsule.digest digest (sym e) in
            let work = work_at kind capsule here (holds_noted b fuses (λ _. notes.resumed kind) story h)
            (ap (λ (image : List ℕ). judge_area (source_of kind) b image fuses accepts) (image_noted (device_of b) (λ _. notes.resumed kind) story) ∙ judged)
            (opened ∙ ap (λ (d : List ℕ). job.Job kind d) (sym named)) in
            record { safe = ((tt, tt), work.safe); ends = work.ends }
        by_same false e = given_up_at notes.given_up story (record {
          holds = h;
          good = unfound_good kind digest story h opened (λ found is named.
              other_text capsule.digest digest (sym e) (ap (λ (c : CapsuleState). c.digest) (one_capsule capsule found (sym judged ∙ is)) ∙ named));
          opened = λ none. absurd cc;
        })

    by_open_at : (which : OpenJob) (story : Story) → open_job (store story) b ≡ which → HoldsJobs b fuses story → LeadsAt (KeepsBoth accepts b) (by_open notes accepts b fuses which story) (IsResumed b fuses) story
    by_open_at job.None story e h = record { safe = tt; ends = record { now = fuses; jobless = record { holds = h; none = e }; provision = refl } }
    by_open_at job.Bad story e h = given_up_at notes.given_up story (record {
      holds = h;
      good = calm_good accepts b story (bad_replacing b (store story) e);
      opened = λ none. absurd cc;
    })
    by_open_at (job.Job kind digest) story e h =
        let rest = by_source_at kind digest (judged_source accepts b fuses kind story) story refl h e in
        record { safe = ((tt, tt), rest.safe); ends = rest.ends }

    -- Whatever job is open.
    pub resumed_leads : Leads (KeepsBoth accepts b) (HoldsJobs b fuses) (resumed notes accepts b fuses) (IsResumed b fuses)
    resumed_leads = leads_from (KeepsBoth accepts b) (HoldsJobs b fuses) (IsResumed b fuses) (resumed notes accepts b fuses) (λ story h.
        let rest = by_open_at (open_job (store story) b) story refl h in
        record { safe = ((tt, tt), rest.safe); ends = rest.ends })

    -- and behind it the recovery area is good, where the bank could be recovered
    pub resumed_good : (story : Story) → HoldsJobs b fuses story → CanBe accepts b story → IsGoodIn accepts b (after (resumed notes accepts b fuses story) story)
    resumed_good story h can =
        good_behind accepts b (resumed notes accepts b fuses story) story (resumed_leads.safe story h) can (resumed_leads.ends story h).jobless.none
