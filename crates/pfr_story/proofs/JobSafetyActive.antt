-- A job on a bank's active image leaves both banks ones that can be recovered, and no job open.
use Rattle.std.proofs.Common.{◌≡◌, ◌∙◌, refl, sym, ap, subst, arith, ℕ, ◌≤◌, ◌<◌, ◌==◌, ◌&&◌, Bool, true, false, List, length, All, Option, Some, None, Ok}
use Rattle.std.proofs.lemmas.Bool.{eqb-false, false≢true}
use Rattle.pfr_flash.specs.Operation.{Operation}
use Rattle.pfr_flash.specs.declared.layout.Layout.{Layout}
use Rattle.pfr_flash.specs.declared.names.Bank.{Bank}
use Rattle.pfr_flash.specs.declared.names.Counts.{Counts}
use Rattle.pfr_flash.specs.declared.names.Device.TheVariants as device
use Rattle.pfr_engine.specs.Acceptance.{Acceptance}
use Rattle.pfr_fuses.specs.FusesState.{FusesState}
use Rattle.pfr_fuses.specs.FusesOf.{fuses_of}
use Rattle.pfr_fuses.specs.RootSlot.{layout_of}
use Rattle.pfr_manifest.specs.Regions.{IsRegion}
use Rattle.pfr_capsule.specs.CapsuleState.{CapsuleState}
use Rattle.pfr_capsule.specs.Good.{IsGood}
use Rattle.pfr_capsule.proofs.GoodFacts.{good_regions}
use Rattle.pfr_jobs.specs.Log.{current_at, current_page, selector, used_in, first_unspent, open_job}
use Rattle.pfr_jobs.specs.LogPlans.{IsKind, begin_plan, finish_plan}
use Rattle.pfr_jobs.specs.LogState.{is_none, is_spent}
use Rattle.pfr_jobs.specs.declared.job.JobKind.{JobKind}
use Rattle.pfr_jobs.specs.declared.job.JobKind.TheVariants.{RecoveryFromStaging}
use Rattle.pfr_jobs.specs.declared.job.OpenJob.TheVariants as job
use Rattle.pfr_jobs.proofs.SlotLaw.{IsDigest}
use Rattle.pfr_jobs.proofs.BeginLaw.{TakesJob, in_slot, by_switch, used_is, begin_done, begin_within, begin_in_log, begin_before}
use Rattle.pfr_rebuilt.specs.Passing.{active_heeding, active_ignoring}
use Rattle.pfr_strokes.specs.Deeds.{Deed}
use Rattle.pfr_recoverable.proofs.StaysLaw.{fuses_one}
use Rattle.pfr_report.specs.declared.note.What.{What}
use Rattle.pfr_story.specs.Story.{Story, Move, Plan, then, says, after, other_bank, called}
use Rattle.pfr_story.specs.Deeds.{deed_moves}
use Rattle.pfr_story.specs.Safety.{Rule, AllSafe, Leads}
use Rattle.pfr_story.specs.Plans.{mine, store}
use Rattle.pfr_story.specs.JobPlans.{begun_job, finished_job, worked, written_over, done_with, by_log, with_job}
use Rattle.pfr_story.specs.Recovery.{KeepsRecoverable}
use Rattle.pfr_story.proofs.SafetyLaws.{image_called, Leads-then}
use Rattle.pfr_story.proofs.JobSafety.{HoldsJobs, IsJobless, IsKept, holds_kept, holds_noted, mine_called, kept_logged, finish_own, NoReplacing, none_replacing, active_replacing, CanBe, IsGoodIn, calm_good, begun_safe, finish_safe, finish_leaves}
use Rattle.pfr_story.proofs.JobSafetyPasses.{AllWork, active_work, active_over, IsPassed, all_passed, IsCalm, active_safe}
use Rattle.pfr_story.proofs.JobSafetyOther.{KeepsBoth, safe_both, other_logged, other_deeds}

-- ---- from one story
-- these moves are safe there, and lead to where Q holds
pub record LeadsAt (G : Rule) (moves : List Move) (Q : Story → Type 0) (story : Story) : Type 0 where
  pub safe : AllSafe G moves story
  pub ends : Q (after moves story)

pub leads_from : (G : Rule) (P Q : Story → Type 0) (plan : Plan) → ((story : Story) → P story → LeadsAt G (plan story) Q story) → Leads G P plan Q
leads_from G P Q plan at = record { safe = λ story p. (at story p).safe; ends = λ story p. (at story p).ends }

pub leads_at : (G : Rule) (P Q : Story → Type 0) (plan : Plan) → Leads G P plan Q → (story : Story) → P story → LeadsAt G (plan story) Q story
leads_at G P Q plan l story p = record { safe = l.safe story p; ends = l.ends story p }

-- ---- what is needed
-- a bank's regions, by a capsule
abbrev pub HaveRegions : Bank → FusesState → CapsuleState → Story → Type 0
HaveRegions b fuses capsule story = All (IsRegion (layout_of fuses.provision b) (length (mine b story))) capsule.manifest.regions

pub regions_good : (accepts : Acceptance) (b : Bank) (fuses : FusesState) (capsule : CapsuleState) (story : Story) (place len : ℕ)
    → (g : IsGood (mine b story) place len (store story) b accepts) × (g.capsule ≡ capsule) → fuses_of (store story) ≡ Ok fuses → HaveRegions b fuses capsule story
regions_good accepts b fuses capsule story place len good read =
    let same : good.0.fuses ≡ fuses = fuses_one (store story) good.0.fuses fuses good.0.provisioned read in
    let regions : HaveRegions b good.0.fuses good.0.capsule story = good_regions (mine b story) (store story) place len b accepts good.0 in
    subst (λ (c : CapsuleState). HaveRegions b fuses c story) good.1 (subst (λ (f : FusesState). HaveRegions b f good.0.capsule story) same regions)

-- a log that isn't spent takes a job
pub spent_takes : (nv : List ℕ) (b : Bank) → is_spent nv b ≡ false → TakesJob nv b
spent_takes nv b e = by_used (used_in (current_page nv b) 64 == 64) refl (first_unspent (selector nv b)) refl e
  where
    by_used : (t : Bool) → (used_in (current_page nv b) 64 == 64) ≡ t → (f : Option ℕ) → first_unspent (selector nv b) ≡ f → (t && is_none f) ≡ false → TakesJob nv b
    by_used false used f first h =
        let few : used_in (current_page nv b) 64 < 64 = below (used_in (current_page nv b) 64) (used_is (current_page nv b) 64).few (eqb-false (used_in (current_page nv b) 64) 64 used) in
        in_slot few
      where
        below : (n : ℕ) → n ≤ 64 → ¬ (n ≡ 64) → n < 64
        below n most other = omega (arith, most, other)
    by_used true used None first h = absurd (false≢true (sym h))
    by_used true used (Some at) first h = by_switch at first

-- ---- a job is begun
pub record IsBegun (b : Bank) (kind : JobKind) (digest : List ℕ) (old new : Story) : Type 0 where
  pub kept : IsKept b old new
  pub same : mine b new ≡ mine b old
  pub opened : open_job (store new) b ≡ job.Job kind digest

module _ (accepts : Acceptance) (b : Bank) (fuses : FusesState) where
  abbrev G : Rule
  G = KeepsBoth accepts b

  abbrev One : Rule
  One = KeepsRecoverable accepts b

  pub begun_at : (kind : JobKind) (digest : List ℕ) → IsKind kind → IsDigest digest → (story : Story) → IsJobless b fuses story → is_spent (store story) b ≡ false
      → LeadsAt (KeepsBoth accepts b) (begun_job b kind digest story) (IsBegun b kind digest story) story
  begun_at kind digest valid d story p unspent =
      let nv : List ℕ = store story in
      let plan : List Operation = begin_plan (store story) b kind digest in
      let takes : TakesJob (store story) b = spent_takes (store story) b unspent in
      record {
        safe = safe_both (KeepsRecoverable accepts b) (KeepsRecoverable accepts (other_bank b)) (called device.Nv plan) story
            (begun_safe accepts b plan story (begin_before (store story) b kind digest p.holds.store_size p.none takes d valid) (begin_within (store story) b kind digest p.holds.store_size p.none takes d valid) p.holds.store_size)
            (other_logged accepts b plan story p.holds.store_size (begin_in_log (store story) b kind digest p.holds.store_size p.none takes d valid));
        ends = record {
          kept = kept_logged b plan story p.holds.store_size (begin_within (store story) b kind digest p.holds.store_size p.none takes d valid);
          same = mine_called b plan story;
          opened = ap (λ (image : List ℕ). open_job image b) (image_called device.Nv plan story) ∙ begin_done (store story) b kind digest p.holds.store_size p.none takes d valid;
        };
      }

  -- ---- a job is finished
  -- a job is open, and the recovery area is good if the bank can be recovered
  pub record IsFinishing (story : Story) : Type 0 where
    pub holds : HoldsJobs b fuses story
    pub good : CanBe accepts b story → IsGoodIn accepts b story
    pub opened : ¬ (open_job (store story) b ≡ job.None)

  pub finished_leads : Leads (KeepsBoth accepts b) IsFinishing (finished_job b) (IsJobless b fuses)
  finished_leads = record {
    safe = λ story p. safe_both (KeepsRecoverable accepts b) (KeepsRecoverable accepts (other_bank b)) (finished_job b story) story
        (finish_safe accepts b story p.good p.holds.store_size) (other_logged accepts b (finish_plan (store story) b) story p.holds.store_size (finish_own (store story) b));
    ends = λ story p. finish_leaves b fuses story p.holds p.opened;
  }

  pub told_leads : (w : Counts → What) → Leads (KeepsBoth accepts b) (IsJobless b fuses) (says w) (IsJobless b fuses)
  told_leads w = record {
    safe = λ story p. ((tt, tt), tt);
    ends = λ story p. record { holds = holds_noted b fuses w story p.holds; none = p.none };
  }

  -- it is finished, and something is noted
  pub closed_leads : (w : Counts → What) → Leads (KeepsBoth accepts b) IsFinishing (then (finished_job b) (says w)) (IsJobless b fuses)
  closed_leads w = Leads-then (KeepsBoth accepts b) IsFinishing (IsJobless b fuses) (IsJobless b fuses) (finished_job b) (says w) finished_leads (told_leads w)

  -- ---- a job on the active image
  module _ (kind : JobKind) (active : ¬ (kind ≡ RecoveryFromStaging)) (capsule : CapsuleState) where
    abbrev layout : Layout
    layout = layout_of fuses.provision b

    calm_of : (story : Story) → HoldsJobs b fuses story → NoReplacing b (store story) → IsCalm accepts b (layout_of fuses.provision b) story
    calm_of story h calm = record {
      by_layout = λ other is. ap (λ (f : FusesState). layout_of f.provision b) (fuses_one (store story) other fuses is h.provisioned);
      blocks = h.size.blocks;
      size = h.store_size;
      calm = calm;
    }

    -- such a pass leaves both banks so
    pass_safe : (deeds : List Deed) (story : Story) → HoldsJobs b fuses story → NoReplacing b (store story) → AllWork layout.recovery_at layout.area_len (current_at (store story) b) deeds → AllSafe (KeepsBoth accepts b) (deed_moves b deeds) story
    pass_safe deeds story h calm work =
        safe_both (KeepsRecoverable accepts b) (KeepsRecoverable accepts (other_bank b)) (deed_moves b deeds) story
        (active_safe accepts b (layout_of fuses.provision b) deeds story (calm_of story h calm) work)
        (other_deeds accepts b layout.recovery_at layout.area_len deeds story h.store_size work)

    -- the job is open, and the capsule's regions are ones of the bank
    pub record IsActiveOpen (story : Story) : Type 0 where
      pub holds : HoldsJobs b fuses story
      pub regions : HaveRegions b fuses capsule story
      pub digest : List ℕ
      pub opened : open_job (store story) b ≡ job.Job kind digest

    finishing : (digest : List ℕ) (story : Story) → HoldsJobs b fuses story → open_job (store story) b ≡ job.Job kind digest → IsFinishing story
    finishing digest story h opened = record {
      holds = h;
      good = calm_good accepts b story (active_replacing b (store story) kind digest active opened);
      opened = λ none. absurd cc;
    }

    worked_leads : Leads (KeepsBoth accepts b) IsActiveOpen (worked b kind fuses capsule) IsFinishing
    worked_leads = leads_from (KeepsBoth accepts b) IsActiveOpen IsFinishing (worked b kind fuses capsule) (λ story p.
        let deeds : List Deed = active_heeding kind b (mine b story) (store story) capsule (layout_of fuses.provision b) in
        let work = active_work kind b (mine b story) (store story) capsule (layout_of fuses.provision b) p.holds.layout p.regions in
        let passed : IsPassed b layout.recovery_at layout.area_len story (after (deed_moves b deeds) story) = all_passed b layout.recovery_at layout.area_len deeds story p.holds.store_size work in
        record {
          safe = pass_safe deeds story p.holds (active_replacing b (store story) kind p.digest active p.opened) work;
          ends = finishing p.digest (after (deed_moves b deeds) story) (holds_kept b fuses story (after (deed_moves b deeds) story) passed.kept p.holds) (passed.still ∙ p.opened);
        })

    -- The open job is done, finished and told.
    pub done_leads : (that : What) → Leads (KeepsBoth accepts b) IsActiveOpen (done_with b kind fuses capsule that) (IsJobless b fuses)
    done_leads that =
        Leads-then (KeepsBoth accepts b) IsActiveOpen IsFinishing (IsJobless b fuses) (worked b kind fuses capsule) (then (finished_job b) (says (λ _. that))) worked_leads (closed_leads (λ _. that))

    -- no job is open, and the capsule's regions are ones of the bank
    pub record IsActiveNext (story : Story) : Type 0 where
      pub jobless : IsJobless b fuses story
      pub regions : HaveRegions b fuses capsule story

    written_leads : (that : What) → Leads (KeepsBoth accepts b) IsActiveNext (then (written_over b kind fuses capsule) (says (λ _. that))) (IsJobless b fuses)
    written_leads that =
        Leads-then (KeepsBoth accepts b) IsActiveNext (IsJobless b fuses) (IsJobless b fuses) (written_over b kind fuses capsule) (says (λ _. that))
        (leads_from (KeepsBoth accepts b) IsActiveNext (IsJobless b fuses) (written_over b kind fuses capsule) (λ story p.
        let h = p.jobless.holds in
        let deeds : List Deed = active_ignoring kind (mine b story) capsule (layout_of fuses.provision b) in
        let work = active_over kind b (mine b story) (store story) capsule (layout_of fuses.provision b) h.layout p.regions in
        let passed : IsPassed b layout.recovery_at layout.area_len story (after (deed_moves b deeds) story) = all_passed b layout.recovery_at layout.area_len deeds story h.store_size work in
        record {
          safe = pass_safe deeds story h (none_replacing b (store story) p.jobless.none) work;
          ends = record { holds = holds_kept b fuses story (after (deed_moves b deeds) story) passed.kept h; none = passed.still ∙ p.jobless.none };
        }))
        (told_leads (λ _. that))

    module _ (valid : IsKind kind) (d : IsDigest capsule.digest) (that : What) where
      by_log_at : (spent : Bool) (story : Story) → is_spent (store story) b ≡ spent → IsActiveNext story → LeadsAt (KeepsBoth accepts b) (by_log spent b kind fuses capsule that story) (IsJobless b fuses) story
      by_log_at true story e p = leads_at (KeepsBoth accepts b) IsActiveNext (IsJobless b fuses) (by_log true b kind fuses capsule that) (written_leads that) story p
      by_log_at false story e p =
          leads_at (KeepsBoth accepts b) Unspent (IsJobless b fuses) (by_log false b kind fuses capsule that)
          (Leads-then (KeepsBoth accepts b) Unspent IsActiveOpen (IsJobless b fuses) (begun_job b kind capsule.digest) (done_with b kind fuses capsule that) begun_leads (done_leads that)) story (p, e)
        where
          Unspent : Story → Type 0
          Unspent here = IsActiveNext here × (is_spent (store here) b ≡ false)

          begun_leads : Leads (KeepsBoth accepts b) Unspent (begun_job b kind capsule.digest) IsActiveOpen
          begun_leads = leads_from (KeepsBoth accepts b) Unspent IsActiveOpen (begun_job b kind capsule.digest) (λ here q.
              let begun = begun_at kind capsule.digest valid d here q.0.jobless q.1 in
              let later : Story = after (begun_job b kind capsule.digest here) here in
              record {
                safe = begun.safe;
                ends = record {
                  holds = holds_kept b fuses here later begun.ends.kept q.0.jobless.holds;
                  regions = subst (λ (n : ℕ). All (IsRegion (layout_of fuses.provision b) n) capsule.manifest.regions) (sym begun.ends.kept.size) q.0.regions;
                  digest = capsule.digest;
                  opened = begun.ends.opened;
                };
              })

      -- A restore or an update leaves both banks ones that can be recovered, and no job open.
      pub with_job_leads : Leads (KeepsBoth accepts b) IsActiveNext (with_job b kind fuses capsule that) (IsJobless b fuses)
      with_job_leads = leads_from (KeepsBoth accepts b) IsActiveNext (IsJobless b fuses) (with_job b kind fuses capsule that) (λ story p.
          let rest = by_log_at (is_spent (store story) b) story refl p in
          record { safe = ((tt, tt), rest.safe); ends = rest.ends })
