-- What is noted of an open job at a power-on, by what the bank and the store hold.
use Rattle.std.proofs.Common.{◌≡◌, ◌≢◌, ◌∙◌, refl, sym, ap, subst, ℕ, Bool, true, false, List, [], ◌∷◌, ◌++◌, inl, inr, Result, Ok, Err}
use Rattle.std.specs.Cmp.Lexicographic.{same_text, other_text}
use Rattle.pfr_flash.specs.declared.layout.Layout.{Layout}
use Rattle.pfr_flash.specs.declared.names.Bank.{Bank}
use Rattle.pfr_flash.specs.declared.names.Counts.{Counts}
use Rattle.pfr_engine.specs.Acceptance.{Acceptance}
use Rattle.pfr_fuses.specs.FusesState.{FusesState}
use Rattle.pfr_fuses.specs.FusesOf.{fuses_of}
use Rattle.pfr_fuses.specs.RootSlot.{layout_of}
use Rattle.pfr_manifest.specs.declared.manifest.Manifest.{Manifest}
use Rattle.pfr_capsule.specs.CapsuleState.{CapsuleState}
use Rattle.pfr_capsule.specs.Good.{IsGood}
use Rattle.pfr_capsule.specs.declared.fail.CapsuleFail.{CapsuleFail}
use Rattle.pfr_capsule.proofs.GoodLaw.{good_found}
use Rattle.pfr_auth.specs.Areas.{judge_area, place_of as area_at}
use Rattle.pfr_auth.specs.declared.fail.ActiveFail.{ActiveFail}
use Rattle.pfr_jobs.specs.Log.{open_job}
use Rattle.pfr_jobs.specs.declared.job.JobKind.{JobKind}
use Rattle.pfr_jobs.specs.declared.job.JobKind.TheVariants.{ActiveFromRecovery, ActiveFromStaging, RecoveryFromStaging}
use Rattle.pfr_jobs.specs.declared.job.OpenJob.{OpenJob}
use Rattle.pfr_jobs.specs.declared.job.OpenJob.TheVariants as job
use Rattle.pfr_recoverable.proofs.StaysLaw.{fuses_one}
use Rattle.pfr_rebuilt.specs.Passing.{recovery_heeding, recovery_ignoring}
use Rattle.pfr_report.specs.Texts.{IsNoted}
use Rattle.pfr_report.specs.declared.note.LockWhy.{LockWhy}
use Rattle.pfr_report.specs.declared.note.Note.{Note}
use Rattle.pfr_report.specs.declared.note.What.{What}
use Rattle.pfr_report.specs.declared.note.What.TheVariants as what
use Rattle.pfr_story.specs.Causes.{IsResumable, HasOpenJob, IsGivenUp}
use Rattle.pfr_story.specs.JobContents.{CanWork}
use Rattle.pfr_story.specs.JobPlans.{job_notes, source_of, judged_source, same_digest, finished_job, abandoned, worked, done_with, copied_over, copied_again, raised_to, concluded, by_second_pass, second_pass, by_digest, by_first_pass, recovery_work, work_of, resumed_if, by_source, by_open}
use Rattle.pfr_story.specs.JobPromises.{done_note}
use Rattle.pfr_story.specs.Plans.{mine, store, asks, ready_of, judged_active, judged_recovery, restored, by_second, checked_again, by_recovery, by_active, by_fuses, checked_then}
use Rattle.pfr_story.specs.Story.{Story, Move, Says, after, noted, device_of}
use Rattle.pfr_story.proofs.BringRules.{ready_found, ready_is}
use Rattle.pfr_story.proofs.JobMakes.{deeds_make, abandoned_makes, concluded_makes, done_makes, with_job_makes}
use Rattle.pfr_story.proofs.JobPages.{IsSameCapsule}
use Rattle.pfr_story.proofs.JobRecovery.{IsStaged, first_staged, second_good}
use Rattle.pfr_story.proofs.JobRecoveryBegun.{same_spelled}
use Rattle.pfr_story.proofs.JobResumed.{held_noted}
use Rattle.pfr_story.proofs.Made.{said, noted_next, Whichever, AllSay, said_all}
use Rattle.pfr_story.proofs.RestoreLaws.{stand_for, found_good, found_staged}
use Rattle.pfr_story.proofs.SafetyLaws.{image_noted, AllMake-append}
use Rattle.pfr_story.proofs.TailLaws.{behind}
use Rattle.pfr_story.proofs.TakenLaws.{CanTake, taken_by, taken, can_work}

-- ---- what is noted where a bank is checked
abbrev pub IsOfCheck : What → Type 0
IsOfCheck (what.Released b svn at) = Unit {0}
IsOfCheck (what.Locked b cause at) = Unit {0}
IsOfCheck (what.Untrusted b cause) = Unit {0}
IsOfCheck (what.Restored b level) = Unit {0}
IsOfCheck that = ⊥

-- and of a job while it is done
abbrev IsOfWork : What → Type 0
IsOfWork (what.Restored b level) = Unit {0}
IsOfWork (what.Updated b dynamic svn) = Unit {0}
IsOfWork (what.RecoveryUpdated b svn) = Unit {0}
IsOfWork that = ⊥

module _ (accepts : Acceptance) (b : Bank) where
  second_of : (r : Result Manifest ActiveFail) (story : Story) → AllSay IsOfCheck (by_second b r story)
  second_of (Ok m) story = ((λ at. tt), tt)
  second_of (Err cause) story = tt

  recovery_of : (fuses : FusesState) (cause : ActiveFail) (r : Result CapsuleState CapsuleFail) (story : Story) → AllSay IsOfCheck (by_recovery accepts b fuses cause r story)
  recovery_of fuses cause (Ok capsule) story =
      let anew : List Move = restored b 1 fuses capsule story in
      let there : Story = after anew story in
      AllMake-append Whichever (λ w. (at : Counts) → IsOfCheck (w at)) anew (checked_again accepts b fuses there)
      (with_job_makes Whichever (λ w. (at : Counts) → IsOfCheck (w at)) b tt tt (ActiveFromRecovery 1) fuses capsule (what.Restored b 1) (λ at. tt) story) (tt, second_of (judged_active accepts b fuses there) there)
  recovery_of fuses cause (Err other) story = ((λ at. tt), tt)

  active_of : (fuses : FusesState) (r : Result Manifest ActiveFail) (story : Story) → AllSay IsOfCheck (by_active accepts b fuses r story)
  active_of fuses (Ok m) story = ((λ at. tt), tt)
  active_of fuses (Err cause) story =
      let told : Story = noted (λ _. what.Untrusted b cause) story in
      ((λ at. tt), (tt, recovery_of fuses cause (judged_recovery accepts b fuses told) told))

  checks_of : (r : Result FusesState LockWhy) (story : Story) → AllSay IsOfCheck (by_fuses accepts b r story)
  checks_of (Ok fuses) story = (tt, active_of fuses (judged_active accepts b fuses story) story)
  checks_of (Err cause) story = ((λ at. tt), tt)

  pub behind_of : (story : Story) (that : What) → IsNoted (behind accepts b story) that → IsOfCheck that
  behind_of story that n = said_all IsOfCheck (checked_then accepts b story) story (checks_of (ready_of b story) story) that n

  -- ---- a job that is done
  -- it is told so at its end, and nothing else is noted
  record Tells (kind : JobKind) (capsule : CapsuleState) (moves : List Move) (story : Story) : Type 0 where
    svn : ℕ
    same : ¬ (kind ≡ RecoveryFromStaging) → svn ≡ capsule.manifest.svn
    noted : IsNoted (said moves story) (done_note b kind svn)
    only : AllSay IsOfWork moves

  tells_behind : (kind : JobKind) (capsule : CapsuleState) (moves more : List Move) (story : Story) → AllSay IsOfWork moves → Tells kind capsule more (after moves story) → Tells kind capsule (moves ++ more) story
  tells_behind kind capsule moves more story only t = record {
    svn = t.svn;
    same = t.same;
    noted = noted_next moves more story (done_note b kind t.svn) t.noted;
    only = AllMake-append Whichever (λ w. (at : Counts) → IsOfWork (w at)) moves more only t.only;
  }

  ends_noted : (moves : List Move) (that : What) (story : Story) → IsNoted (said (moves ++ Says (λ _. that) ∷ []) story) that
  ends_noted moves that story = noted_next moves (Says (λ _. that) ∷ []) story that (inl refl)

  module _ (fuses : FusesState) (capsule : CapsuleState) where
    done_noted : (kind : JobKind) (that : What) (story : Story) → IsNoted (said (done_with b kind fuses capsule that story) story) that
    done_noted kind that story =
        let moves : List Move = worked b kind fuses capsule story in
        let there : Story = after moves story in
        noted_next moves (finished_job b there ++ Says (λ _. that) ∷ []) story that (ends_noted (finished_job b there) that there)

    abbrev told : ℕ → What
    told svn = what.RecoveryUpdated b svn

    concluded_tells : (found : CapsuleState) (story : Story) → Tells RecoveryFromStaging capsule (concluded told b fuses found story) story
    concluded_tells found story =
        let moves : List Move = raised_to found.manifest.svn b fuses story in
        let there : Story = after moves story in
        record {
          svn = found.manifest.svn;
          same = λ never. absurd (never refl);
          noted = noted_next moves (finished_job b there ++ Says (λ _. told found.manifest.svn) ∷ []) story (told found.manifest.svn) (ends_noted (finished_job b there) (told found.manifest.svn) there);
          only = concluded_makes Whichever (λ w. (at : Counts) → IsOfWork (w at)) b tt tt (told 0) told (λ at. tt) (λ svn at. tt) accepts fuses found story;
        }

    -- the second pass always finds the capsule
    second_tells : (story : Story) → IsStaged accepts b fuses capsule story → Tells RecoveryFromStaging capsule (second_pass (what.Abandoned b) told accepts b fuses capsule story) story
    second_tells story staged =
        let moves : List Move = copied_again b fuses capsule story in
        let there : Story = after moves story in
        let copied = second_good accepts b fuses capsule story staged in
        tells_behind RecoveryFromStaging capsule moves (asks b there ++ by_second_pass (what.Abandoned b) told b fuses (judged_recovery accepts b fuses there) there) story
        (deeds_make Whichever (λ w. (at : Counts) → IsOfWork (w at)) b tt tt (recovery_ignoring (mine b story) capsule.length (layout_of fuses.provision b)))
        (subst (λ (r : Result CapsuleState CapsuleFail). Tells RecoveryFromStaging capsule (asks b there ++ by_second_pass (what.Abandoned b) told b fuses r there) there) (sym copied.judged)
        (tells_behind RecoveryFromStaging capsule (asks b there) (concluded told b fuses copied.found there) there (tt, tt) (concluded_tells copied.found there)))

    digest_tells : (t : Bool) (found : CapsuleState) (story : Story) → IsStaged accepts b fuses capsule story → Tells RecoveryFromStaging capsule (by_digest t (what.Abandoned b) told accepts b fuses capsule found story) story
    digest_tells true found story staged = concluded_tells found story
    digest_tells false found story staged = second_tells story staged

    first_tells : (r : Result CapsuleState CapsuleFail) (story : Story) → IsStaged accepts b fuses capsule story → Tells RecoveryFromStaging capsule (by_first_pass (what.Abandoned b) told accepts b fuses capsule r story) story
    first_tells (Ok found) story staged = digest_tells (same_digest found.digest capsule.digest) found story staged
    first_tells (Err cause) story staged = second_tells story staged

    recovery_tells : (story : Story) → IsStaged accepts b fuses capsule story → Tells RecoveryFromStaging capsule (recovery_work (what.Abandoned b) told accepts b fuses capsule story) story
    recovery_tells story staged =
        let moves : List Move = copied_over b fuses capsule story in
        let there : Story = after moves story in
        let r : Result CapsuleState CapsuleFail = judged_recovery accepts b fuses there in
        tells_behind RecoveryFromStaging capsule moves (asks b there ++ by_first_pass (what.Abandoned b) told accepts b fuses capsule r there) story
        (deeds_make Whichever (λ w. (at : Counts) → IsOfWork (w at)) b tt tt (recovery_heeding b (mine b story) (store story) capsule.length (layout_of fuses.provision b)))
        (tells_behind RecoveryFromStaging capsule (asks b there) (by_first_pass (what.Abandoned b) told accepts b fuses capsule r there) there (tt, tt) (first_tells r there (first_staged accepts b fuses capsule story staged)))

    pub staged_of : (story : Story) → CanWork b fuses story → judged_source accepts b fuses RecoveryFromStaging story ≡ Ok capsule → IsStaged accepts b fuses capsule story
    staged_of story h j =
        let found = found_staged accepts b fuses capsule story h.provisioned h.layout h.bytes j in
        record {
          good = found.0;
          same = subst (λ (c : CapsuleState). IsSameCapsule found.0.capsule c) found.1 (record { len = refl; digest = refl; manifest = refl });
          provisioned = h.provisioned;
          layout = h.layout;
          size = h.size;
          bytes = h.bytes;
          store_size = h.store_size;
        }

    work_tells : (kind : JobKind) (story : Story) → CanWork b fuses story → judged_source accepts b fuses kind story ≡ Ok capsule → Tells kind capsule (work_of (job_notes b) accepts b fuses capsule kind story) story
    work_tells (ActiveFromRecovery level) story h j = record {
      svn = capsule.manifest.svn;
      same = λ never. refl;
      noted = done_noted (ActiveFromRecovery level) (what.Restored b level) story;
      only = done_makes Whichever (λ w. (at : Counts) → IsOfWork (w at)) b tt tt (ActiveFromRecovery level) fuses capsule (what.Restored b level) (λ at. tt) story;
    }
    work_tells (ActiveFromStaging dynamic) story h j = record {
      svn = capsule.manifest.svn;
      same = λ never. refl;
      noted = done_noted (ActiveFromStaging dynamic) (what.Updated b dynamic capsule.manifest.svn) story;
      only = done_makes Whichever (λ w. (at : Counts) → IsOfWork (w at)) b tt tt (ActiveFromStaging dynamic) fuses capsule (what.Updated b dynamic capsule.manifest.svn) (λ at. tt) story;
    }
    work_tells RecoveryFromStaging story h j = recovery_tells story (staged_of story h j)

    told_there : (kind : JobKind) (story : Story) → CanWork b fuses story → judged_source accepts b fuses kind story ≡ Ok capsule
        → Tells kind capsule (work_of (job_notes b) accepts b fuses capsule kind (noted (λ _. what.Resumed b kind) story)) (noted (λ _. what.Resumed b kind) story)
    told_there kind story h j =
        let w : Counts → What = λ _. what.Resumed b kind in
        work_tells kind (noted w story) (held_noted b fuses w story h) (ap (λ (image : List ℕ). judge_area (source_of kind) b image fuses accepts) (image_noted (device_of b) w story) ∙ j)

  -- ---- the capsule that a job works on
  source_good : (fuses : FusesState) (kind : JobKind) (capsule : CapsuleState) (story : Story) → CanWork b fuses story → judged_source accepts b fuses kind story ≡ Ok capsule
      → (g : IsGood (mine b story) (area_at (layout_of fuses.provision b) (source_of kind)) (layout_of fuses.provision b).area_len (store story) b accepts) × (g.capsule ≡ capsule)
  source_good fuses (ActiveFromRecovery level) capsule story h j = found_good accepts b fuses capsule story h.provisioned h.layout h.bytes j
  source_good fuses (ActiveFromStaging dynamic) capsule story h j = found_staged accepts b fuses capsule story h.provisioned h.layout h.bytes j
  source_good fuses RecoveryFromStaging capsule story h j = found_staged accepts b fuses capsule story h.provisioned h.layout h.bytes j

  abbrev CanResume : JobKind → Story → Type 0
  CanResume kind story = IsResumable kind b (mine b story) (store story) accepts

  pub resumable : (fuses : FusesState) (kind : JobKind) (capsule : CapsuleState) (digest : List ℕ) (story : Story) → CanWork b fuses story → judged_source accepts b fuses kind story ≡ Ok capsule
      → open_job (store story) b ≡ job.Job kind digest → capsule.digest ≡ digest → IsResumable kind b (mine b story) (store story) accepts
  resumable fuses kind capsule digest story h j opened same =
      let g = source_good fuses kind capsule story h j in
      record {
        fuses = fuses;
        provisioned = h.provisioned;
        layout = h.layout;
        good = g.0;
        opened = opened ∙ ap (λ (d : List ℕ). job.Job kind d) (sym same ∙ sym (ap (λ (c : CapsuleState). c.digest) g.1));
      }

  -- it is judged well where it stands good
  pub judged_good_source : (fuses : FusesState) (kind : JobKind) (story : Story) → fuses_of (store story) ≡ Ok fuses → (r : IsResumable kind b (mine b story) (store story) accepts)
      → judged_source accepts b fuses kind story ≡ Ok r.good.capsule
  judged_good_source fuses kind story f r =
      let l : Layout = layout_of r.fuses.provision b in
      subst (λ (x : FusesState). judged_source accepts b x kind story ≡ Ok r.good.capsule) (fuses_one (store story) r.fuses fuses r.provisioned f)
      (good_found (mine b story) (store story) (area_at l (source_of kind)) l.area_len b accepts r.fuses (stand_for (store story) r.fuses b r.provisioned) r.good)

  -- ---- what is noted of it has its cause
  abbrev Caused : What → Story → Type 0
  Caused (what.Resumed c kind) story = IsResumable kind b (mine b story) (store story) accepts
  Caused (what.Abandoned c) story = (kind : JobKind) → ¬ IsResumable kind b (mine b story) (store story) accepts
  Caused that story = Unit {0}

  work_caused : (that : What) (story : Story) → IsOfWork that → Caused that story
  work_caused (what.Restored c level) story of = tt
  work_caused (what.Updated c dynamic svn) story of = tt
  work_caused (what.RecoveryUpdated c svn) story of = tt
  work_caused that story of = absurd of

  given_caused : (that : What) (story : Story) → ((kind : JobKind) → ¬ IsResumable kind b (mine b story) (store story) accepts) → IsNoted (said (abandoned (what.Abandoned b) b story) story) that → Caused that story
  given_caused that story never n =
      let is : that ≡ what.Abandoned b = said_all (λ w. w ≡ what.Abandoned b) (abandoned (what.Abandoned b) b story) story
      (abandoned_makes Whichever (λ w. (at : Counts) → w at ≡ what.Abandoned b) b tt tt (what.Abandoned b) story (λ at. refl)) that n in
      subst (λ (w : What). Caused w story) (sym is) never

  module _ (fuses : FusesState) (story : Story) (h : CanWork b fuses story) where
    if_caused : (t : Bool) (capsule : CapsuleState) (kind : JobKind) → judged_source accepts b fuses kind story ≡ Ok capsule → (t ≡ true → CanResume kind story) → (t ≡ false → (k : JobKind) → ¬ CanResume k story)
        → (that : What) → IsNoted (said (resumed_if t (job_notes b) accepts b fuses capsule kind story) story) that → Caused that story
    if_caused true capsule kind j can never that (inl e) = subst (λ (w : What). Caused w story) e (can refl)
    if_caused true capsule kind j can never that (inr n) =
        let there : Story = noted (λ _. what.Resumed b kind) story in
        work_caused that story (said_all IsOfWork (work_of (job_notes b) accepts b fuses capsule kind there) there (told_there fuses capsule kind story h j).only that n)
    if_caused false capsule kind j can never that n = given_caused that story (never refl) n

    -- no other capsule than that which was judged well
    other_never : (capsule : CapsuleState) (kind : JobKind) (digest : List ℕ) → judged_source accepts b fuses kind story ≡ Ok capsule → open_job (store story) b ≡ job.Job kind digest
        → ¬ (capsule.digest ≡ digest) → (k : JobKind) → ¬ CanResume k story
    other_never capsule kind digest j opened other k r =
        let is : job.Job kind digest ≡ job.Job k r.good.capsule.digest = sym opened ∙ r.opened in
        let same_kind : kind ≡ k = cc in
        let same_digest_is : digest ≡ r.good.capsule.digest = cc in
        let judged : judged_source accepts b fuses kind story ≡ Ok r.good.capsule =
        subst (λ (x : JobKind). judged_source accepts b fuses x story ≡ Ok r.good.capsule) (sym same_kind) (judged_good_source fuses k story h.provisioned r) in
        let both : Ok capsule ≡ Ok r.good.capsule = sym j ∙ judged in
        let found : capsule ≡ r.good.capsule = cc in
        other (ap (λ (c : CapsuleState). c.digest) found ∙ sym same_digest_is)

    bad_never : (cause : CapsuleFail) (kind : JobKind) (digest : List ℕ) → judged_source accepts b fuses kind story ≡ Err cause → open_job (store story) b ≡ job.Job kind digest → (k : JobKind) → ¬ CanResume k story
    bad_never cause kind digest j opened k r =
        let is : job.Job kind digest ≡ job.Job k r.good.capsule.digest = sym opened ∙ r.opened in
        let same_kind : kind ≡ k = cc in
        let judged : judged_source accepts b fuses kind story ≡ Ok r.good.capsule =
        subst (λ (x : JobKind). judged_source accepts b fuses x story ≡ Ok r.good.capsule) (sym same_kind) (judged_good_source fuses k story h.provisioned r) in
        let both : Err cause ≡ Ok r.good.capsule = sym j ∙ judged in
        absurd cc

    source_caused : (kind : JobKind) (digest : List ℕ) (judged : Result CapsuleState CapsuleFail) → judged_source accepts b fuses kind story ≡ judged → open_job (store story) b ≡ job.Job kind digest
        → (that : What) → IsNoted (said (by_source (job_notes b) accepts b fuses kind digest judged story) story) that → Caused that story
    source_caused kind digest (Ok capsule) j opened that n = by_same (same_digest capsule.digest digest) refl n
      where
        by_same : (t : Bool) → same_digest capsule.digest digest ≡ t → IsNoted (said (resumed_if t (job_notes b) accepts b fuses capsule kind story) story) that → Caused that story
        by_same t e m =
            if_caused t capsule kind j (λ yes. resumable fuses kind capsule digest story h j opened (same_text capsule.digest digest (sym (e ∙ yes))))
            (λ no. other_never capsule kind digest j opened (other_text capsule.digest digest (sym (e ∙ no)))) that m
    source_caused kind digest (Err cause) j opened that n = given_caused that story (bad_never cause kind digest j opened) n

    open_caused : (opened : OpenJob) → open_job (store story) b ≡ opened → (that : What) → IsNoted (said (by_open (job_notes b) accepts b fuses opened story) story) that → Caused that story
    open_caused job.None e that n = absurd n
    open_caused job.Bad e that n = given_caused that story (λ k r. absurd (let both : job.Bad ≡ job.Job k r.good.capsule.digest = sym e ∙ r.opened in cc)) n
    open_caused (job.Job kind digest) e that n = source_caused kind digest (judged_source accepts b fuses kind story) refl e that n

  caused_by : (r : Result FusesState LockWhy) (story : Story) → CanTake b story → ready_of b story ≡ r → (that : What) → IsNoted (said (taken_by accepts b r story) story) that → Caused that story
  caused_by (Ok fuses) story can e that n = open_caused fuses story (can_work accepts b fuses story can e) (open_job (store story) b) refl that n
  caused_by (Err why) story can e that n = absurd n

  -- A job is resumed only where it can be.
  pub resumed_caused : (story : Story) → CanTake b story → (kind : JobKind) → IsNoted (said (taken accepts b story) story) (what.Resumed b kind) → IsResumable kind b (mine b story) (store story) accepts
  resumed_caused story can kind n = caused_by (ready_of b story) story can refl (what.Resumed b kind) n

  -- ---- and given up only where one is open that can't
  opened_by : (r : Result FusesState LockWhy) (story : Story) → ready_of b story ≡ r → IsNoted (said (taken_by accepts b r story) story) (what.Abandoned b) → HasOpenJob b (mine b story) (store story)
  opened_by (Ok fuses) story e n =
      let r = ready_found b fuses story e in
      record { fuses = fuses; provisioned = r.provisioned; layout = r.layout; opened = by_open_job (open_job (store story) b) n }
    where
      by_open_job : (opened : OpenJob) → IsNoted (said (by_open (job_notes b) accepts b fuses opened story) story) (what.Abandoned b) → opened ≢ job.None
      by_open_job job.None m = absurd m
      by_open_job job.Bad m = λ f. absurd cc
      by_open_job (job.Job kind digest) m = λ f. absurd cc
  opened_by (Err why) story e n = absurd n

  pub abandoned_caused : (story : Story) → CanTake b story → IsNoted (said (taken accepts b story) story) (what.Abandoned b) → IsGivenUp b (mine b story) (store story) accepts
  abandoned_caused story can n = record { opened = opened_by (ready_of b story) story refl n; never = caused_by (ready_of b story) story can refl (what.Abandoned b) n }

  -- ---- one that can be resumed is, and done
  pub record IsDoneNext (kind : JobKind) (svn : ℕ) (notes : List Note) : Type 0 where
    pub item : ℕ
    pub rest : List Note
    pub is : notes ≡ record { item = item; what = what.Resumed b kind } ∷ rest
    pub told : ℕ
    pub same : ¬ (kind ≡ RecoveryFromStaging) → told ≡ svn
    pub done : IsNoted rest (done_note b kind told)

  module _ (kind : JobKind) (story : Story) (r : IsResumable kind b (mine b story) (store story) accepts) where
    abbrev Next : List Move → Type 0
    Next moves = IsDoneNext kind r.good.capsule.manifest.svn (said moves story)

    next_if : (t : Bool) → t ≡ true → CanWork b r.fuses story → Next (resumed_if t (job_notes b) accepts b r.fuses r.good.capsule kind story)
    next_if true e h =
        let there : Story = noted (λ _. what.Resumed b kind) story in
        let t = told_there r.fuses r.good.capsule kind story h (judged_good_source r.fuses kind story r.provisioned r) in
        record {
          item = story.item;
          rest = said (work_of (job_notes b) accepts b r.fuses r.good.capsule kind there) there;
          is = refl;
          told = t.svn;
          same = t.same;
          done = t.noted;
        }
    next_if false e h = absurd cc

    next_source : CanWork b r.fuses story → Next (by_source (job_notes b) accepts b r.fuses kind r.good.capsule.digest (judged_source accepts b r.fuses kind story) story)
    next_source h =
        subst (λ (judged : Result CapsuleState CapsuleFail). Next (by_source (job_notes b) accepts b r.fuses kind r.good.capsule.digest judged story)) (sym (judged_good_source r.fuses kind story r.provisioned r))
        (next_if (same_digest r.good.capsule.digest r.good.capsule.digest) (same_spelled r.good.capsule.digest) h)

    next_open : CanWork b r.fuses story → Next (by_open (job_notes b) accepts b r.fuses (open_job (store story) b) story)
    next_open h = subst (λ (opened : OpenJob). Next (by_open (job_notes b) accepts b r.fuses opened story)) (sym r.opened) (next_source h)

    pub resumed_done : CanTake b story → IsDoneNext kind r.good.capsule.manifest.svn (said (taken accepts b story) story)
    resumed_done can =
        let ready : ready_of b story ≡ Ok r.fuses = ready_is b r.fuses story r.provisioned r.layout in
        subst (λ (x : Result FusesState LockWhy). Next (taken_by accepts b x story)) (sym ready) (next_open (can_work accepts b r.fuses story can ready))

  -- ---- and one that can't is given up
  abbrev IsGiven : List Move → Story → Type 0
  IsGiven moves story = IsNoted (said moves story) (what.Abandoned b)

  gives : (story : Story) → IsNoted (said (abandoned (what.Abandoned b) b story) story) (what.Abandoned b)
  gives story = ends_noted (finished_job b story) (what.Abandoned b) story

  module _ (story : Story) (fuses : FusesState) (h : CanWork b fuses story) (never : (kind : JobKind) → ¬ IsResumable kind b (mine b story) (store story) accepts) where
    given_if : (t : Bool) (capsule : CapsuleState) (kind : JobKind) → t ≡ false → IsGiven (resumed_if t (job_notes b) accepts b fuses capsule kind story) story
    given_if true capsule kind e = absurd cc
    given_if false capsule kind e = gives story

    given_source : (kind : JobKind) (digest : List ℕ) (judged : Result CapsuleState CapsuleFail) → judged_source accepts b fuses kind story ≡ judged → open_job (store story) b ≡ job.Job kind digest
        → IsGiven (by_source (job_notes b) accepts b fuses kind digest judged story) story
    given_source kind digest (Ok capsule) j opened = by_same (same_digest capsule.digest digest) refl
      where
        by_same : (t : Bool) → same_digest capsule.digest digest ≡ t → IsGiven (resumed_if t (job_notes b) accepts b fuses capsule kind story) story
        by_same true e = absurd (never kind (resumable fuses kind capsule digest story h j opened (same_text capsule.digest digest (sym e))))
        by_same false e = given_if false capsule kind refl
    given_source kind digest (Err cause) j opened = gives story

    given_open : (opened : OpenJob) → open_job (store story) b ≡ opened → opened ≢ job.None → IsGiven (by_open (job_notes b) accepts b fuses opened story) story
    given_open job.None e is_open = absurd (is_open refl)
    given_open job.Bad e is_open = gives story
    given_open (job.Job kind digest) e is_open = given_source kind digest (judged_source accepts b fuses kind story) refl e

  pub given_up_noted : (story : Story) → CanTake b story → IsGivenUp b (mine b story) (store story) accepts → IsNoted (said (taken accepts b story) story) (what.Abandoned b)
  given_up_noted story can g =
      let o = g.opened in
      let ready : ready_of b story ≡ Ok o.fuses = ready_is b o.fuses story o.provisioned o.layout in
      subst (λ (x : Result FusesState LockWhy). IsGiven (taken_by accepts b x story) story) (sym ready)
      (given_open story o.fuses (can_work accepts b o.fuses story can ready) g.never (open_job (store story) b) refl o.opened)
