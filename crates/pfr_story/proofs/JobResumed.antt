-- Where a job leads that is open at a power-on: resumed or given up.
use Rattle.std.proofs.Common.{◌≡◌, ◌∙◌, ℕ, ◌+◌, ◌-◌, ◌*◌, ◌/◌, ◌≤◌, refl, sym, ap, subst, arith, Bool, true, false, if◌then◌else◌, List, [], ◌∷◌, length, ◌⊎◌, inl, inr, Result, Ok, Err}
use Rattle.pfr_flash.specs.Bytes.{AreBytes}
use Rattle.pfr_flash.specs.FuseRow.{with_cleared}
use Rattle.pfr_flash.specs.Layout.{IsBankSize, IsValidLayout}
use Rattle.pfr_flash.specs.declared.layout.Layout.{Layout}
use Rattle.pfr_flash.specs.declared.names.Bank.{Bank}
use Rattle.pfr_flash.specs.declared.names.Bank.TheVariants as bank
use Rattle.pfr_flash.specs.declared.names.Counts.{Counts}
use Rattle.pfr_engine.specs.Acceptance.{Acceptance}
use Rattle.pfr_fuses.specs.Changes.{raised, with_floor}
use Rattle.pfr_fuses.specs.FusesState.{FusesState, floor_row}
use Rattle.pfr_fuses.specs.FusesOf.{fuses_of}
use Rattle.pfr_fuses.specs.RootSlot.{layout_of}
use Rattle.pfr_fuses.proofs.ClearingLemmas.{raised_cases}
use Rattle.pfr_capsule.specs.CapsuleState.{CapsuleState}
use Rattle.pfr_capsule.specs.declared.fail.CapsuleFail.{CapsuleFail}
use Rattle.pfr_capsule.proofs.GoodFacts.{good_within}
use Rattle.pfr_auth.specs.Areas.{judge_area}
use Rattle.pfr_auth.specs.declared.areas.Area.TheVariants.{Recovery}
use Rattle.pfr_jobs.specs.Log.{open_job}
use Rattle.pfr_jobs.specs.LogPlans.{finish_plan}
use Rattle.pfr_jobs.specs.declared.job.JobKind.{JobKind}
use Rattle.pfr_jobs.specs.declared.job.JobKind.TheVariants.{ActiveFromRecovery, ActiveFromStaging, RecoveryFromStaging}
use Rattle.pfr_jobs.specs.declared.job.OpenJob.{OpenJob}
use Rattle.pfr_jobs.specs.declared.job.OpenJob.TheVariants as job
use Rattle.pfr_strokes.proofs.ReplacedLaws.{length-replaced}
use Rattle.pfr_rebuilt.specs.ActiveCopying.{active_page}
use Rattle.pfr_rebuilt.specs.Copying.{recovery_pages}
use Rattle.pfr_rebuilt.proofs.ActiveLaw.{active_few}
use Rattle.pfr_report.specs.declared.note.What.{What}
use Rattle.pfr_report.specs.declared.note.What.TheVariants.{Restored, Updated}
use Rattle.pfr_story.specs.Story.{Story, Says, after, noted, other_bank, device_of}
use Rattle.pfr_story.specs.Plans.{mine, store}
use Rattle.pfr_story.specs.JobPlans.{finished_job, abandoned, worked, done_with, same_digest, source_of, judged_source, JobNotes, work_of, resumed_if, by_source, by_open, resumed}
use Rattle.pfr_story.specs.JobContents.{CanWork, active_resumed, recovery_done, image_worked, image_from, image_by, image_resumed, fuses_by, fuses_worked, fuses_from, fuses_at, fuses_resumed}
use Rattle.pfr_story.proofs.Sequence.{after-append}
use Rattle.pfr_story.proofs.SafetyLaws.{image_noted}
use Rattle.pfr_story.proofs.AnewLaws.{MadeFrom}
use Rattle.pfr_story.proofs.RestoreLaws.{found_good, found_staged}
use Rattle.pfr_story.proofs.JobPages.{IsSameCapsule}
use Rattle.pfr_story.proofs.JobSteps.{StandsSo, finished_stands}
use Rattle.pfr_story.proofs.JobDone.{stands_noted, done_is, done_stands, resumed_bytes}
use Rattle.pfr_story.proofs.JobRecovery.{IsStaged}
use Rattle.pfr_story.proofs.JobRecoveryWork.{recovery_work_ends}
use Rattle.pfr_story.proofs.JobCounts.{done_on, noted_count, store_count, worked_few}

-- ---- a bank that is ready for work
pub held_noted : (b : Bank) (fuses : FusesState) (w : Counts → What) (story : Story) → CanWork b fuses story → CanWork b fuses (noted w story)
held_noted b fuses w story h =
    let same : mine b story ≡ mine b (noted w story) = sym (image_noted (device_of b) w story) in
    record {
      provisioned = h.provisioned;
      two = h.two;
      layout = subst (λ (image : List ℕ). IsValidLayout (layout_of fuses.provision b) (length image)) same h.layout;
      size = subst (λ (image : List ℕ). IsBankSize (length image)) same h.size;
      bytes = subst AreBytes same h.bytes;
      store_size = h.store_size;
    }

-- ---- what it leaves
-- the bank did at most 17 operations for each of its pages, or 34 for each page of a text in the recovery area
abbrev pub IsFew : Bank → FusesState → Story → Story → Type 0
IsFew b fuses old new =
    (done_on b new ≤ done_on b old + 17 * (length (mine b old) / 4096))
    ⊎ ((len : ℕ) × (len ≤ (layout_of fuses.provision b).area_len) × (done_on b new ≤ done_on b old + 34 * length (recovery_pages (layout_of fuses.provision b) len (length (mine b old)))))

-- the bank holds this, nothing is open, and the store says these fuses, of the same provision
pub record IsResumedTo (b : Bank) (fuses : FusesState) (image : List ℕ) (later : FusesState) (old new : Story) : Type 0 where
  pub bank : mine b new ≡ image
  pub long : length image ≡ length (mine b old)
  pub bytes : AreBytes image
  pub other : mine (other_bank b) new ≡ mine (other_bank b) old
  pub size : length (store new) ≡ 32768
  pub opened : open_job (store new) b ≡ job.None
  pub says : fuses_of (store new) ≡ Ok later
  pub provision : later.provision ≡ fuses.provision
  pub few : IsFew b fuses old new

few_back : (b : Bank) (fuses : FusesState) (w : Counts → What) (story new : Story) → IsFew b fuses (noted w story) new → IsFew b fuses story new
few_back b fuses w story new (inl few) = inl (omega (arith, few, noted_count b w story, ap (λ (image : List ℕ). length image) (image_noted (device_of b) w story)))
few_back b fuses w story new (inr (len, fits, few)) =
    let same = ap (λ (image : List ℕ). length (recovery_pages (layout_of fuses.provision b) len (length image))) (image_noted (device_of b) w story) in
    inr (len, fits, omega (arith, few, noted_count b w story, same))

resumed_back : (b : Bank) (fuses : FusesState) (w : Counts → What) (image then_image : List ℕ) (later then_later : FusesState) (story new : Story) → image ≡ then_image → later ≡ then_later
    → IsResumedTo b fuses image later (noted w story) new → IsResumedTo b fuses then_image then_later story new
resumed_back b fuses w image then_image later then_later story new same same_later p = record {
  bank = p.bank ∙ same;
  long = ap (λ (bytes : List ℕ). length bytes) (sym same) ∙ p.long ∙ ap (λ (bytes : List ℕ). length bytes) (image_noted (device_of b) w story);
  bytes = subst AreBytes same p.bytes;
  other = p.other ∙ image_noted (device_of (other_bank b)) w story;
  size = p.size;
  opened = p.opened;
  says = p.says ∙ ap (λ (f : FusesState). Ok f) same_later;
  provision = ap (λ (f : FusesState). f.provision) (sym same_later) ∙ p.provision;
  few = few_back b fuses w story new p.few;
}

raised_provision : (fuses : FusesState) (b : Bank) (to : ℕ) → (raised fuses b to).provision ≡ fuses.provision
raised_provision fuses b to = raised_cases (λ (f : FusesState). f.provision ≡ fuses.provision) fuses b to (λ low. refl) (λ high. by_bank b)
  where
    by_bank : (c : Bank) → (with_floor fuses c (with_cleared (floor_row fuses c) (to - 1))).provision ≡ fuses.provision
    by_bank bank.Bmc = refl
    by_bank bank.Pch = refl

module _ (notes : JobNotes) (accepts : Acceptance) (b : Bank) (fuses : FusesState) where
  abbrev layout : Layout
  layout = layout_of fuses.provision b

  -- ---- it is given up
  given_up_ends : (story : Story) → CanWork b fuses story → (open_job (store story) b ≡ job.None → ⊥) → IsResumedTo b fuses (mine b story) fuses story (after (abandoned notes.given_up b story) story)
  given_up_ends story h is_open =
      let ended : Story = after (finished_job b story) story in
      let new : Story = noted (λ _. notes.given_up) ended in
      let s : StandsSo b job.None (mine b story) story new =
      stands_noted b job.None (mine b story) (λ _. notes.given_up) story ended (finished_stands b story h.store_size is_open) in
      let count : done_on b new ≡ done_on b story = noted_count b (λ _. notes.given_up) ended ∙ store_count b (finish_plan (store story) b) story in
      subst (λ (there : Story). IsResumedTo b fuses (mine b story) fuses story there) (sym (after-append (finished_job b story) (Says (λ _. notes.given_up) ∷ []) story)) (record {
        bank = s.bank;
        long = refl;
        bytes = h.bytes;
        other = s.other;
        size = s.logged.size;
        opened = s.logged.opened;
        says = s.logged.fuses ∙ h.provisioned;
        provision = refl;
        few = inl (omega (arith, count));
      })

  -- ---- it is done
  active_ends : (kind : JobKind) (capsule : CapsuleState) (that : What) (story : Story) → CanWork b fuses story → (open_job (store story) b ≡ job.None → ⊥) → MadeFrom accepts b fuses capsule story
      → IsResumedTo b fuses (active_resumed kind b (mine b story) (store story) capsule (layout_of fuses.provision b)) fuses story (after (done_with b kind fuses capsule that story) story)
  active_ends kind capsule that story h is_open from =
      let new : Story = after (done_with b kind fuses capsule that story) story in
      let there : Story = after (worked b kind fuses capsule story) story in
      let s = done_stands accepts b kind fuses capsule that story from h.store_size is_open in
      let count : done_on b new ≡ done_on b there =
      ap (λ (x : Story). done_on b x) (done_is b kind fuses capsule that story) ∙ noted_count b (λ _. that) (after (finished_job b there) there) ∙ store_count b (finish_plan (store there) b) there in
      record {
        bank = s.bank;
        long = length-replaced (mine b story) (active_page (mine b story) capsule layout) _;
        bytes = resumed_bytes accepts b kind fuses capsule story from h.store_size;
        other = s.other;
        size = s.logged.size;
        opened = s.logged.opened;
        says = s.logged.fuses ∙ h.provisioned;
        provision = refl;
        few = inl (omega (arith, count, worked_few b fuses capsule story kind, active_few kind (mine b story) capsule layout));
      }

  recovery_ends : (capsule : CapsuleState) (story : Story) → CanWork b fuses story → (open_job (store story) b ≡ job.None → ⊥) → IsStaged accepts b fuses capsule story
      → IsResumedTo b fuses (recovery_done accepts b (mine b story) (store story) fuses capsule) (fuses_worked accepts b (mine b story) (store story) fuses capsule RecoveryFromStaging) story (after (work_of notes accepts b fuses capsule RecoveryFromStaging story) story)
  recovery_ends capsule story h is_open staged =
      let u = recovery_work_ends notes.given_up notes.recovery_updated accepts b fuses h.two capsule story staged is_open in
      let found : judge_area Recovery b (recovery_done accepts b (mine b story) (store story) fuses capsule) fuses accepts ≡ Ok u.found =
      ap (λ (bytes : List ℕ). judge_area Recovery b bytes fuses accepts) (sym u.image) ∙ u.judged in
      record {
        bank = u.image;
        long = ap (λ (bytes : List ℕ). length bytes) (sym u.image) ∙ u.long;
        bytes = subst AreBytes u.image u.bytes;
        other = u.other;
        size = u.size;
        opened = u.opened;
        says = u.fuses_say ∙ ap (λ (r : Result CapsuleState CapsuleFail). Ok (fuses_by b fuses r)) (sym found);
        provision = ap (λ (r : Result CapsuleState CapsuleFail). (fuses_by b fuses r).provision) found ∙ raised_provision fuses b u.found.manifest.svn;
        few = inr (capsule.length, subst (λ (n : ℕ). n ≤ layout.area_len) staged.same.len (good_within (mine b story) (store story) layout.staging_at layout.area_len b accepts staged.good), u.few);
      }

  -- by its kind, behind what is noted first
  module _ (capsule : CapsuleState) (story : Story) (h : CanWork b fuses story) (is_open : open_job (store story) b ≡ job.None → ⊥) where
    from_recovery : (w : Counts → What) → judge_area (source_of (ActiveFromRecovery 1)) b (mine b story) fuses accepts ≡ Ok capsule → MadeFrom accepts b fuses capsule (noted w story)
    from_recovery w j =
        let there : Story = noted w story in
        let k : CanWork b fuses there = held_noted b fuses w story h in
        let found = found_good accepts b fuses capsule there k.provisioned k.layout k.bytes (ap (λ (image : List ℕ). judge_area (source_of (ActiveFromRecovery 1)) b image fuses accepts) (image_noted (device_of b) w story) ∙ j) in
        record { place = layout.recovery_at; len = layout.area_len; good = found.0; capsule_is = found.1; provisioned = k.provisioned; inside = k.layout.inside.recovery; size = k.size; bytes = k.bytes }

    from_staging : (w : Counts → What) → judge_area (source_of RecoveryFromStaging) b (mine b story) fuses accepts ≡ Ok capsule → MadeFrom accepts b fuses capsule (noted w story)
    from_staging w j =
        let there : Story = noted w story in
        let k : CanWork b fuses there = held_noted b fuses w story h in
        let found = found_staged accepts b fuses capsule there k.provisioned k.layout k.bytes (ap (λ (image : List ℕ). judge_area (source_of RecoveryFromStaging) b image fuses accepts) (image_noted (device_of b) w story) ∙ j) in
        record { place = layout.staging_at; len = layout.area_len; good = found.0; capsule_is = found.1; provisioned = k.provisioned; inside = k.layout.inside.staging; size = k.size; bytes = k.bytes }

    is_staged : (w : Counts → What) → judge_area (source_of RecoveryFromStaging) b (mine b story) fuses accepts ≡ Ok capsule → IsStaged accepts b fuses capsule (noted w story)
    is_staged w j =
        let there : Story = noted w story in
        let k : CanWork b fuses there = held_noted b fuses w story h in
        let found = found_staged accepts b fuses capsule there k.provisioned k.layout k.bytes (ap (λ (image : List ℕ). judge_area (source_of RecoveryFromStaging) b image fuses accepts) (image_noted (device_of b) w story) ∙ j) in
        record {
          good = found.0;
          same = subst (λ (c : CapsuleState). IsSameCapsule found.0.capsule c) found.1 (record { len = refl; digest = refl; manifest = refl });
          provisioned = k.provisioned;
          layout = k.layout;
          size = k.size;
          bytes = k.bytes;
          store_size = k.store_size;
        }

    same_image : (w : Counts → What) (kind : JobKind) → image_worked accepts b (mine b (noted w story)) (store (noted w story)) fuses capsule kind ≡ image_worked accepts b (mine b story) (store story) fuses capsule kind
    same_image w kind = ap (λ (image : List ℕ). image_worked accepts b image (store story) fuses capsule kind) (image_noted (device_of b) w story)

    same_later : (w : Counts → What) (kind : JobKind) → fuses_worked accepts b (mine b (noted w story)) (store (noted w story)) fuses capsule kind ≡ fuses_worked accepts b (mine b story) (store story) fuses capsule kind
    same_later w kind = ap (λ (image : List ℕ). fuses_worked accepts b image (store story) fuses capsule kind) (image_noted (device_of b) w story)

    work_ends : (kind : JobKind) → judged_source accepts b fuses kind story ≡ Ok capsule
        → IsResumedTo b fuses (image_worked accepts b (mine b story) (store story) fuses capsule kind) (fuses_worked accepts b (mine b story) (store story) fuses capsule kind) story (after (resumed_if true notes accepts b fuses capsule kind story) story)
    work_ends (ActiveFromRecovery level) j =
        let w : Counts → What = λ _. notes.resumed (ActiveFromRecovery level) in
        let there : Story = noted w story in
        resumed_back b fuses w (image_worked accepts b (mine b there) (store there) fuses capsule (ActiveFromRecovery level)) (image_worked accepts b (mine b story) (store story) fuses capsule (ActiveFromRecovery level))
        (fuses_worked accepts b (mine b there) (store there) fuses capsule (ActiveFromRecovery level)) (fuses_worked accepts b (mine b story) (store story) fuses capsule (ActiveFromRecovery level)) story
        (after (work_of notes accepts b fuses capsule (ActiveFromRecovery level) there) there) (same_image w (ActiveFromRecovery level)) (same_later w (ActiveFromRecovery level))
        (active_ends (ActiveFromRecovery level) capsule (Restored b level) there (held_noted b fuses w story h) is_open (from_recovery w j))
    work_ends (ActiveFromStaging dynamic) j =
        let w : Counts → What = λ _. notes.resumed (ActiveFromStaging dynamic) in
        let there : Story = noted w story in
        resumed_back b fuses w (image_worked accepts b (mine b there) (store there) fuses capsule (ActiveFromStaging dynamic)) (image_worked accepts b (mine b story) (store story) fuses capsule (ActiveFromStaging dynamic))
        (fuses_worked accepts b (mine b there) (store there) fuses capsule (ActiveFromStaging dynamic)) (fuses_worked accepts b (mine b story) (store story) fuses capsule (ActiveFromStaging dynamic)) story
        (after (work_of notes accepts b fuses capsule (ActiveFromStaging dynamic) there) there) (same_image w (ActiveFromStaging dynamic)) (same_later w (ActiveFromStaging dynamic))
        (active_ends (ActiveFromStaging dynamic) capsule (Updated b dynamic capsule.manifest.svn) there (held_noted b fuses w story h) is_open (from_staging w j))
    work_ends RecoveryFromStaging j =
        let w : Counts → What = λ _. notes.resumed RecoveryFromStaging in
        let there : Story = noted w story in
        resumed_back b fuses w (image_worked accepts b (mine b there) (store there) fuses capsule RecoveryFromStaging) (image_worked accepts b (mine b story) (store story) fuses capsule RecoveryFromStaging)
        (fuses_worked accepts b (mine b there) (store there) fuses capsule RecoveryFromStaging) (fuses_worked accepts b (mine b story) (store story) fuses capsule RecoveryFromStaging) story
        (after (work_of notes accepts b fuses capsule RecoveryFromStaging there) there) (same_image w RecoveryFromStaging) (same_later w RecoveryFromStaging)
        (recovery_ends capsule there (held_noted b fuses w story h) is_open (is_staged w j))

  -- ---- whatever is open
  module _ (story : Story) (h : CanWork b fuses story) where
    source_ends : (kind : JobKind) (digest : List ℕ) → (open_job (store story) b ≡ job.None → ⊥) → (r : Result CapsuleState CapsuleFail) → judged_source accepts b fuses kind story ≡ r
        → IsResumedTo b fuses (image_from accepts b (mine b story) (store story) fuses kind digest r) (fuses_from accepts b (mine b story) (store story) fuses kind digest r) story (after (by_source notes accepts b fuses kind digest r story) story)
    source_ends kind digest is_open (Err cause) j = given_up_ends story h is_open
    source_ends kind digest is_open (Ok capsule) j = by_same (same_digest capsule.digest digest)
      where
        by_same : (t : Bool) → IsResumedTo b fuses (if t then image_worked accepts b (mine b story) (store story) fuses capsule kind else mine b story)
            (if t then fuses_worked accepts b (mine b story) (store story) fuses capsule kind else fuses) story (after (resumed_if t notes accepts b fuses capsule kind story) story)
        by_same true = work_ends capsule story h is_open kind j
        by_same false = given_up_ends story h is_open

    open_ends : (o : OpenJob) → open_job (store story) b ≡ o → IsResumedTo b fuses (image_by accepts b (mine b story) (store story) fuses o) (fuses_at accepts b (mine b story) (store story) fuses o) story (after (by_open notes accepts b fuses o story) story)
    open_ends job.None e = record {
      bank = refl;
      long = refl;
      bytes = h.bytes;
      other = refl;
      size = h.store_size;
      opened = e;
      says = h.provisioned;
      provision = refl;
      few = inl (omega arith);
    }
    open_ends job.Bad e = given_up_ends story h (λ f. absurd (let g = sym e ∙ f in cc))
    open_ends (job.Job kind digest) e = source_ends kind digest (λ f. absurd (let g = sym e ∙ f in cc)) (judged_source accepts b fuses kind story) refl

    -- Nothing is open behind it, and the bank holds what its work leaves.
    pub resumed_ends : IsResumedTo b fuses (image_resumed accepts b (mine b story) (store story) fuses) (fuses_resumed accepts b (mine b story) (store story) fuses) story (after (resumed notes accepts b fuses story) story)
    resumed_ends = open_ends (open_job (store story) b) refl
