-- The one walk: where a bank is brought up, where its watch expires and where it is updated, each move is of a shape, so what a table allows is safe.
use Rattle.std.specs.Prelude.{nat_lt}
use Rattle.std.proofs.Common.{◌≡◌, ◌≢◌, ◌∙◌, refl, ap, arith, ℕ, ◌+◌, ◌/◌, ◌<◌, ◌≤◌, Bool, true, false, List, [], ◌∷◌, ◌++◌, length, inl, inr, Result, Ok, Err}
use Rattle.std.proofs.lemmas.Bool.Decides.{nat_tests}
use Rattle.pfr_flash.specs.FuseRow.{fuse_byte}
use Rattle.pfr_flash.specs.Operation.{Operation, Program}
use Rattle.pfr_flash.specs.Range.{IsWithin}
use Rattle.pfr_flash.specs.declared.names.Bank.{Bank}
use Rattle.pfr_flash.specs.declared.names.ContentType.{ContentType}
use Rattle.pfr_flash.specs.declared.names.Device.TheVariants as device
use Rattle.pfr_flash.proofs.ClearingLemmas.{clearing-within}
use Rattle.pfr_flash.proofs.RangeLemmas.{OnlyClears-program, OnlyClears-torn}
use Rattle.pfr_engine.specs.Acceptance.{Acceptance}
use Rattle.pfr_fuses.specs.Changes.{cancellation, raise_plan, raised}
use Rattle.pfr_fuses.specs.FuseMap.{IsCancelled, IsSigning, row_at}
use Rattle.pfr_fuses.specs.FusesOf.{fuses_of}
use Rattle.pfr_fuses.specs.FusesState.{FusesState, floor_of}
use Rattle.pfr_fuses.specs.RootSlot.{layout_of}
use Rattle.pfr_fuses.specs.declared.profile.Profile.TheVariants.{Two}
use Rattle.pfr_fuses.proofs.StaysLemmas.{row_in_sector}
use Rattle.pfr_capsule.specs.CapsuleState.{CapsuleState}
use Rattle.pfr_capsule.specs.declared.fail.CapsuleFail.{CapsuleFail}
use Rattle.pfr_auth.specs.declared.fail.ActiveFail.{ActiveFail}
use Rattle.pfr_cert.specs.declared.cert.Cert.{Cert}
use Rattle.pfr_cert.specs.declared.fail.CertFail.{CertFail}
use Rattle.pfr_manifest.specs.declared.manifest.Manifest.{Manifest}
use Rattle.pfr_jobs.specs.Log.{open_job}
use Rattle.pfr_jobs.specs.LogPlans.{IsKind, begin_plan, finish_plan}
use Rattle.pfr_jobs.specs.LogState.{is_spent}
use Rattle.pfr_jobs.specs.declared.job.JobKind.{JobKind}
use Rattle.pfr_jobs.specs.declared.job.JobKind.TheVariants.{ActiveFromRecovery, ActiveFromStaging, RecoveryFromStaging}
use Rattle.pfr_jobs.specs.declared.job.OpenJob.{OpenJob}
use Rattle.pfr_jobs.specs.declared.job.OpenJob.TheVariants as job
use Rattle.pfr_script.specs.declared.event.Intent.{Intent}
use Rattle.pfr_script.specs.declared.event.Intent.TheVariants.{Active, Full, Recovery, Cert as CertIntent}
use Rattle.pfr_report.specs.declared.note.LockWhy.{LockWhy}
use Rattle.pfr_report.specs.declared.note.LockWhy.TheVariants as why
use Rattle.pfr_report.specs.declared.note.Refusal.{Refusal}
use Rattle.pfr_report.specs.declared.note.Refusal.TheVariants as refusing
use Rattle.pfr_report.specs.declared.note.What.{What}
use Rattle.pfr_report.specs.declared.note.What.TheVariants as what
use Rattle.pfr_story.specs.JobPlans.{job_notes, begun_job, finished_job, abandoned, with_job, copied_over, copied_again, raised_to, concluded, by_second_pass, second_pass, same_digest, by_digest, by_first_pass, recovery_work, recovery_job, judged_source, resumed_if, by_source, by_open, resumed}
use Rattle.pfr_story.specs.JobPromises.{HasFloor}
use Rattle.pfr_story.specs.Plans.{mine, store, asks, ready_of, judged_active, judged_staging, judged_recovery, brought_up, expired, restored as restored_plan, by_second, checked_again, by_recovery, by_active, tail, by_fuses, checked_then, by_ready, by_capsule, recovered_with, by_level}
use Rattle.pfr_story.specs.Promises.{Replaces}
use Rattle.pfr_story.specs.Recovery.{KeepsRecoverable}
use Rattle.pfr_story.specs.Safety.{Rule, AllSafe}
use Rattle.pfr_story.specs.Story.{Story, Move, Says, Does, Asks, after, noted, operated, called, device_of}
use Rattle.pfr_story.specs.UpdatePlans.{judged_cert, cancelled_key, updating, refused_so, updated as updated_plan, by_staged, active_updated, has_manifest, by_room, by_manifest, by_new_recovery, by_use, by_cert, by_intent, updated_with}
use Rattle.pfr_story.proofs.BringRules.{IsOwn, IsReady, ready_found, ready_noted, use_judged, level_at}
use Rattle.pfr_story.proofs.ChangedFuses.{floor_said, raised_high, cancelled_said}
use Rattle.pfr_story.proofs.FoundLaws.{found_begins, cert_own}
use Rattle.pfr_story.proofs.FoundParts.{judged_small}
use Rattle.pfr_story.proofs.FuseLaws.{profile_kept, rows_kept}
use Rattle.pfr_story.proofs.JobRaise.{raise_says}
use Rattle.pfr_story.proofs.JobReady.{ready_stays, job_stays}
use Rattle.pfr_story.proofs.JobRules.{AllInLog, AllowsJobs, finish_own, raise_allowed, torn_within}
use Rattle.pfr_story.proofs.JobSafety.{HoldsJobs, IsJobless, all_own, kept_logged}
use Rattle.pfr_story.proofs.JobSafetyCancelled.{IsTypeOf, own_signs, cancel_says}
use Rattle.pfr_story.proofs.JobSafetyLaws.{with_job_safe, with_job_ends, resumed_safe, recovery_job_safe, cancelled_safe}
use Rattle.pfr_story.proofs.JobSteps.{copied_stands, again_stands}
use Rattle.pfr_story.proofs.JobWalks.{begin_allowed, finish_allowed, copy_allowed, again_allowed, done_allowed, job_allowed, store_sized}
use Rattle.pfr_story.proofs.WorkKnown.{IsSized, CanBeWorked, IsClosed, jobless_noted, level_some, resumed_closed, copy_closed, cancelling, cancel_closed}
use Rattle.pfr_story.proofs.RestoreLaws.{not_recovery, not_staging}
use Rattle.pfr_story.proofs.SafetyLaws.{AllSafe-append, image_called}
use Rattle.pfr_story.proofs.WorkShapes.{Table, Going, Task, Brings, Expires, Updates, Checks, Resumes, Copies, MayReplace, MayRefuse, Cancels, stroked, logged, raised as raises, cleared, untrusted, refused, resumed as resumes, given_up, restored, updated, recovery_updated, cancelled, released, unready, no_image, no_recovery, spent}

-- the store says these fuses, of profile 2
pub record SaysFuses (fuses : FusesState) (story : Story) : Type 0 where
  pub says : fuses_of (store story) ≡ Ok fuses
  pub two : fuses.profile ≡ Two

held_says : (b : Bank) (fuses : FusesState) (story : Story) → HoldsJobs b fuses story → SaysFuses fuses story
held_says b fuses story h = record { says = h.provisioned; two = profile_kept (store story) fuses h.provisioned ∙ h.two }

still_says : (fuses : FusesState) (old new : Story) → fuses_of (store new) ≡ fuses_of (store old) → SaysFuses fuses old → SaysFuses fuses new
still_says fuses old new same p = record { says = same ∙ p.says; two = p.two }

found_few : (accepts : Acceptance) (b : Bank) (fuses : FusesState) (found : CapsuleState) (story : Story) → judged_recovery accepts b fuses story ≡ Ok found → found.manifest.svn ≤ 127
found_few accepts b fuses found story j =
    let layout = layout_of fuses.provision b in
    (judged_small (mine b story) layout.recovery_at layout.area_len b layout fuses accepts found j).svn

resumes_copies : (task : Task) → Resumes task → Copies task
resumes_copies Brings r = tt
resumes_copies Expires r = absurd r
resumes_copies (Updates intent) r = absurd r

resumes_replaces : (task : Task) (dynamic : Bool) → Resumes task → MayReplace dynamic task
resumes_replaces Brings dynamic r = tt
resumes_replaces Expires dynamic r = absurd r
resumes_replaces (Updates intent) dynamic r = absurd r

-- an intent that replaces the active image, or is for the recovery area, is none for a certificate
replaces_image : (dynamic : Bool) (intent : Intent) → Replaces dynamic intent → intent ≢ CertIntent
replaces_image dynamic Active is = λ e. cc
replaces_image dynamic Full is = λ e. cc
replaces_image dynamic Recovery is = absurd is
replaces_image dynamic CertIntent is = absurd is

replaces_none : (cause : CapsuleFail) → MayRefuse (refusing.Capsule cause) (Updates Recovery)
replaces_none cause = λ e. cc

module _ (G : Rule) (I : Story → Type 0) (accepts : Acceptance) (b : Bank) (task : Task) (H : Type 0) (t : Table G I accepts b task H) where
  abbrev On : Rule
  On (Says w) story = Going b task H story (Says w)
  On (Does which op) story = Going b task H story (Does which op)
  On (Asks which) story = IsOwn b which

  jobs_on : AllowsJobs On b
  jobs_on = record {
    asks = λ which story own. own;
    works = λ op story. stroked op;
    logs = λ op story own. logged op own;
    raises = λ op story raise. raises op raise;
  }

  abandoned_on : Copies task → (story : Story) → AllSafe On (abandoned (job_notes b).given_up b story) story
  abandoned_on copies story =
      AllSafe-append On (finished_job b story) (Says (λ _. what.Abandoned b) ∷ []) story (finish_allowed On b jobs_on story) (given_up copies, tt)

  -- ---- a job on the recovery area
  module _ (fuses : FusesState) where
    concluded_on : Copies task → (found : CapsuleState) (story : Story) → IsSized story → (H → SaysFuses fuses story) → found.manifest.svn ≤ 127 → AllSafe On (concluded (job_notes b).recovery_updated b fuses found story) story
    concluded_on copies found story sized known few =
        let svn : ℕ = found.manifest.svn in
        let plan : List Operation = raise_plan (floor_of fuses b) b svn in
        let raise : List Move = raised_to svn b fuses story in
        let higher : Story = after raise story in
        let end : List Move = finished_job b higher in
        let size : length (store higher) ≡ 32768 = store_sized raise story ∙ sized in
        let kept = kept_logged b (finish_plan (store higher) b) higher size (all_own b (finish_plan (store higher) b) (finish_own (store higher) b)) in
        let says : (p : SaysFuses fuses story) → fuses_of (store (after end higher)) ≡ Ok (raised fuses b svn) = λ p.
        kept.fuses ∙ ap (λ (nv : List ℕ). fuses_of nv) (image_called device.Nv plan story) ∙ raise_says (store story) b fuses svn sized p.says p.two few in
        let floor : H → HasFloor (store (after end higher)) b svn = λ h.
        floor_said (store (after end higher)) (raised fuses b svn) b svn (store_sized end higher ∙ size) (says (known h)) (raised_high fuses b svn (rows_kept (store story) fuses (known h).says) few) in
        AllSafe-append On raise (end ++ Says (λ _. what.RecoveryUpdated b svn) ∷ []) story (raise_allowed On b jobs_on fuses svn story (omega (arith, few)) sized)
        (AllSafe-append On end (Says (λ _. what.RecoveryUpdated b svn) ∷ []) higher (finish_allowed On b jobs_on higher)
        (recovery_updated copies svn floor, tt))

    second_on : Copies task → (capsule : CapsuleState) (story : Story) → IsSized story → (H → SaysFuses fuses story) → AllSafe On (second_pass (job_notes b).given_up (job_notes b).recovery_updated accepts b fuses capsule story) story
    second_on copies capsule story sized known =
        let moves : List Move = copied_again b fuses capsule story in
        let there : Story = after moves story in
        AllSafe-append On moves (asks b there ++ by_second_pass (job_notes b).given_up (job_notes b).recovery_updated b fuses (judged_recovery accepts b fuses there) there) story
        (again_allowed On b jobs_on fuses capsule story) (
          inl refl,
          by_judged there (store_sized moves story ∙ sized) (λ h. still_says fuses story there (again_stands b fuses capsule story sized).logged.fuses (known h)) (judged_recovery accepts b fuses there) refl,
        )
      where
        by_judged : (there : Story) → IsSized there → (H → SaysFuses fuses there) → (judged : Result CapsuleState CapsuleFail) → judged_recovery accepts b fuses there ≡ judged
            → AllSafe On (by_second_pass (job_notes b).given_up (job_notes b).recovery_updated b fuses judged there) there
        by_judged there s k (Ok found) j = concluded_on copies found there s k (found_few accepts b fuses found there j)
        by_judged there s k (Err cause) j = abandoned_on copies there

    work_on : Copies task → (capsule : CapsuleState) (story : Story) → IsSized story → (H → SaysFuses fuses story) → AllSafe On (recovery_work (job_notes b).given_up (job_notes b).recovery_updated accepts b fuses capsule story) story
    work_on copies capsule story sized known =
        let moves : List Move = copied_over b fuses capsule story in
        let there : Story = after moves story in
        AllSafe-append On moves (asks b there ++ by_first_pass (job_notes b).given_up (job_notes b).recovery_updated accepts b fuses capsule (judged_recovery accepts b fuses there) there) story
        (copy_allowed On b jobs_on fuses capsule story) (
          inl refl,
          by_judged there (store_sized moves story ∙ sized) (λ h. still_says fuses story there (copied_stands b fuses capsule story sized).logged.fuses (known h)) (judged_recovery accepts b fuses there) refl,
        )
      where
        by_same : (there : Story) → IsSized there → (H → SaysFuses fuses there) → (found : CapsuleState) → found.manifest.svn ≤ 127 → (same : Bool)
            → AllSafe On (by_digest same (job_notes b).given_up (job_notes b).recovery_updated accepts b fuses capsule found there) there
        by_same there s k found few true = concluded_on copies found there s k few
        by_same there s k found few false = second_on copies capsule there s k

        by_judged : (there : Story) → IsSized there → (H → SaysFuses fuses there) → (judged : Result CapsuleState CapsuleFail) → judged_recovery accepts b fuses there ≡ judged
            → AllSafe On (by_first_pass (job_notes b).given_up (job_notes b).recovery_updated accepts b fuses capsule judged there) there
        by_judged there s k (Ok found) j = by_same there s k found (found_few accepts b fuses found there j) (same_digest found.digest capsule.digest)
        by_judged there s k (Err cause) j = second_on copies capsule there s k

    -- ---- the job that is open at a power-on
    resume_on : Resumes task → (same : Bool) (capsule : CapsuleState) (kind : JobKind) (story : Story) → IsSized story → (H → SaysFuses fuses story) → AllSafe On (resumed_if same (job_notes b) accepts b fuses capsule kind story) story
    resume_on r false capsule kind story sized known = abandoned_on (resumes_copies task r) story
    resume_on r true capsule (ActiveFromRecovery level) story sized known =
        let kind : JobKind = ActiveFromRecovery level in (
          resumes r kind,
          done_allowed On b jobs_on kind fuses capsule (what.Restored b level) (λ there. restored level) (noted (λ _. what.Resumed b kind) story),
        )
    resume_on r true capsule (ActiveFromStaging dynamic) story sized known =
        let kind : JobKind = ActiveFromStaging dynamic in
        let that : What = what.Updated b dynamic capsule.manifest.svn in (
          resumes r kind,
          done_allowed On b jobs_on kind fuses capsule that (λ there. updated dynamic (resumes_replaces task dynamic r) capsule.manifest.svn) (noted (λ _. what.Resumed b kind) story),
        )
    resume_on r true capsule RecoveryFromStaging story sized known =
        let told : Story = noted (λ _. what.Resumed b RecoveryFromStaging) story in
        (resumes r RecoveryFromStaging, work_on (resumes_copies task r) capsule told sized (λ h. still_says fuses story told refl (known h)))

    source_on : Resumes task → (kind : JobKind) (digest : List ℕ) (judged : Result CapsuleState CapsuleFail) (story : Story) → IsSized story → (H → SaysFuses fuses story) → AllSafe On (by_source (job_notes b) accepts b fuses kind digest judged story) story
    source_on r kind digest (Ok capsule) story sized known = resume_on r (same_digest capsule.digest digest) capsule kind story sized known
    source_on r kind digest (Err cause) story sized known = abandoned_on (resumes_copies task r) story

    open_on : Resumes task → (opened : OpenJob) (story : Story) → IsSized story → (H → SaysFuses fuses story) → AllSafe On (by_open (job_notes b) accepts b fuses opened story) story
    open_on r job.None story sized known = tt
    open_on r job.Bad story sized known = abandoned_on (resumes_copies task r) story
    open_on r (job.Job kind digest) story sized known = (inl refl, source_on r kind digest (judged_source accepts b fuses kind story) story sized known)

  -- ---- step by step
  -- the store has its size, this is known of it, and the table stands
  pub record Way (K : Story → Type 0) (story : Story) : Type 0 where
    pub size : IsSized story
    pub known : H → K story
    pub kept : I story

  -- and the bank is checked by these fuses
  pub record Fit (fuses : FusesState) (story : Story) : Type 0 where
    pub size : IsSized story
    pub ready : IsReady b fuses story
    pub known : H → IsJobless b fuses story
    pub kept : I story

  abbrev Closed : Story → Type 0
  Closed story = Way (IsClosed b) story

  ready_fit : (fuses : FusesState) (story : Story) → Closed story → ready_of b story ≡ Ok fuses → Fit fuses story
  ready_fit fuses story s e = record { size = s.size; ready = ready_found b fuses story e; known = λ h. s.known h fuses e; kept = s.kept }

  -- moves of these shapes, which keep each bank one that can be recovered, are let through by the table
  zipped : (moves : List Move) (story : Story) → AllSafe On moves story → (H → (c : Bank) → AllSafe (KeepsRecoverable accepts c) moves story) → I story → AllSafe G moves story × I (after moves story)
  zipped [] story safe keeps i = (tt, i)
  zipped (Says w ∷ moves) story safe keeps i =
      let here = t.goes (Says w) story safe.0 (λ h c. tt) i in
      let rest = zipped moves (noted w story) safe.1 (λ h c. (keeps h c).1) here.1 in
      ((here.0, rest.0), rest.1)
  zipped (Does which op ∷ moves) story safe keeps i =
      let here = t.goes (Does which op) story safe.0.0 (λ h c. (keeps h c).0.0) i in
      let rest = zipped moves (operated which op story) safe.1 (λ h c. (keeps h c).1) here.1 in
      (((here.0, λ done torn. (t.goes (Does which done) story (safe.0.1 done torn) (λ h c. (keeps h c).0.1 done torn) i).0), rest.0), rest.1)
  zipped (Asks which ∷ moves) story safe keeps i = let rest = zipped moves story safe.1 (λ h c. (keeps h c).1) i in ((t.asks which story safe.0, rest.0), rest.1)

  carried : (K : Story → Type 0) (moves : List Move) (story : Story) → AllSafe On moves story → (H → (c : Bank) → AllSafe (KeepsRecoverable accepts c) moves story) → IsSized story → I story → (H → K (after moves story))
      → AllSafe G moves story × Way K (after moves story)
  carried K moves story safe keeps size i known =
      let done = zipped moves story safe keeps i in
      (done.0, record { size = store_sized moves story ∙ size; known = known; kept = done.1 })

  told : (w : What) (fuses : FusesState) (story : Story) → Going b task H story (Says (λ _. w)) → Fit fuses story → G (Says (λ _. w)) story × Fit fuses (noted (λ _. w) story)
  told w fuses story shape p =
      let done = t.goes (Says (λ _. w)) story shape (λ h c. tt) p.kept in
      (done.0, record { size = p.size; ready = ready_noted b fuses (λ _. w) story p.ready; known = λ h. jobless_noted b fuses (λ _. w) story (p.known h); kept = done.1 })

  resumed_on : Resumes task → (fuses : FusesState) (story : Story) → Way (CanBeWorked b) story → ready_of b story ≡ Ok fuses
      → AllSafe G (resumed (job_notes b) accepts b fuses story) story × Way (IsClosed b) (after (resumed (job_notes b) accepts b fuses story) story)
  resumed_on r fuses story q e =
      carried (IsClosed b) (resumed (job_notes b) accepts b fuses story) story
      (inr refl, open_on fuses r (open_job (store story) b) story q.size (λ h. held_says b fuses story (q.known h fuses e)))
      (λ h c. resumed_safe accepts b fuses c (job_notes b) story (q.known h fuses e)) q.size q.kept (λ h. resumed_closed accepts b fuses story (q.known h fuses e))

  job_on : (kind : JobKind) → ¬ (kind ≡ RecoveryFromStaging) → IsKind kind → (fuses : FusesState) (capsule : CapsuleState) (that : What) (story : Story)
      → ((there : Story) → Going b task H there (Says (λ _. that))) → Fit fuses story → judged_source accepts b fuses kind story ≡ Ok capsule
      → AllSafe G (with_job b kind fuses capsule that story) story × Fit fuses (after (with_job b kind fuses capsule that story) story)
  job_on kind active valid fuses capsule that story shape p j =
      let own : is_spent (store story) b ≡ false → AllInLog b (begin_plan (store story) b kind capsule.digest) = λ unspent. found_begins accepts b fuses kind capsule story j p.size unspent in
      let there : Story = after (with_job b kind fuses capsule that story) story in
      let done = carried (IsJobless b fuses) (with_job b kind fuses capsule that story) story
      (job_allowed On b jobs_on kind fuses capsule that shape story own)
      (λ h c. with_job_safe accepts b fuses kind active valid capsule that story (p.known h) j c) p.size p.kept (λ h. with_job_ends accepts b fuses kind active valid capsule that story (p.known h) j) in
      (done.0, record { size = done.1.size; ready = ready_stays b fuses story there (job_stays b kind fuses capsule that story p.size own) p.ready; known = done.1.known; kept = done.1.kept })

  -- ---- the checks
  second_on_check : (fuses : FusesState) (judged : Result Manifest ActiveFail) (story : Story) → Fit fuses story → judged_active accepts b fuses story ≡ judged → AllSafe G (by_second b judged story) story
  second_on_check fuses (Ok m) story p j = (t.ends (Says (what.Released b m.svn)) story (released fuses m p.ready j p.known) p.kept, tt)
  second_on_check fuses (Err cause) story p j = tt

  -- what makes the image anew, and the second check behind it
  anew_on : (fuses : FusesState) (moves : List Move) (story : Story) → AllSafe G moves story × Fit fuses (after moves story) → AllSafe G (moves ++ checked_again accepts b fuses (after moves story)) story
  anew_on fuses moves story made =
      let there : Story = after moves story in
      AllSafe-append G moves (checked_again accepts b fuses there) story made.0 (t.asks (device_of b) there (inl refl), second_on_check fuses (judged_active accepts b fuses there) there made.1 refl)

  restored_on : (level : ℕ) → 1 ≤ level → level ≤ 3 → (fuses : FusesState) (capsule : CapsuleState) (story : Story) → Fit fuses story → judged_recovery accepts b fuses story ≡ Ok capsule
      → AllSafe G (restored_plan b level fuses capsule story ++ checked_again accepts b fuses (after (restored_plan b level fuses capsule story) story)) story
  restored_on level some few fuses capsule story p j =
      anew_on fuses (restored_plan b level fuses capsule story) story
      (job_on (ActiveFromRecovery level) (not_recovery level) (some, few) fuses capsule (what.Restored b level) story (λ there. restored level) p j)

  recovery_on : (fuses : FusesState) (cause : ActiveFail) (judged : Result CapsuleState CapsuleFail) (story : Story) → Fit fuses story → judged_recovery accepts b fuses story ≡ judged
      → AllSafe G (by_recovery accepts b fuses cause judged story) story
  recovery_on fuses cause (Ok capsule) story p j = restored_on 1 (omega arith) (omega arith) fuses capsule story p j
  recovery_on fuses cause (Err other) story p j = (t.ends (Says (what.Locked b (why.NoGoodImage cause other))) story (no_image fuses cause other p.ready j p.known) p.kept, tt)

  module _ (checks : Checks task) where
    active_on : (fuses : FusesState) (judged : Result Manifest ActiveFail) (story : Story) → Fit fuses story → judged_active accepts b fuses story ≡ judged → AllSafe G (by_active accepts b fuses judged story) story
    active_on fuses (Ok m) story p j = (t.ends (Says (what.Released b m.svn)) story (released fuses m p.ready j p.known) p.kept, tt)
    active_on fuses (Err cause) story p j =
        let there : Story = noted (λ _. what.Untrusted b cause) story in
        let u = told (what.Untrusted b cause) fuses story (untrusted checks cause) p in
        (u.0, (t.asks (device_of b) there (inl refl), recovery_on fuses cause (judged_recovery accepts b fuses there) there u.1 refl))

    pub tail_on : (fuses : FusesState) (story : Story) → Fit fuses story → AllSafe G (tail accepts b fuses story) story
    tail_on fuses story p = (t.asks (device_of b) story (inl refl), active_on fuses (judged_active accepts b fuses story) story p refl)

    fuses_on : (ready : Result FusesState LockWhy) (story : Story) → Closed story → ready_of b story ≡ ready → AllSafe G (by_fuses accepts b ready story) story
    fuses_on (Ok fuses) story s e = tail_on fuses story (ready_fit fuses story s e)
    fuses_on (Err cause) story s e = (t.ends (Says (what.Locked b cause)) story (unready cause e) s.kept, tt)

    pub then_on : (story : Story) → Closed story → AllSafe G (checked_then accepts b story) story
    then_on story s = fuses_on (ready_of b story) story s refl

    -- moves behind which no job is open, and the check behind them
    settled_on : (moves : List Move) (story : Story) → AllSafe G moves story × Closed (after moves story) → AllSafe G (moves ++ checked_then accepts b (after moves story)) story
    settled_on moves story done =
        let there : Story = after moves story in
        AllSafe-append G moves (checked_then accepts b there) story done.0 (then_on there done.1)

    ready_on : Resumes task → (ready : Result FusesState LockWhy) (story : Story) → Way (CanBeWorked b) story → ready_of b story ≡ ready → AllSafe G (by_ready accepts b ready story) story
    ready_on r (Ok fuses) story q e = settled_on (resumed (job_notes b) accepts b fuses story) story (resumed_on r fuses story q e)
    ready_on r (Err cause) story q e = (t.ends (Says (what.Locked b cause)) story (unready cause e) q.kept, tt)

    refused_on : (fuses : FusesState) (cause : Refusal) → MayRefuse cause task → (story : Story) → Fit fuses story → AllSafe G (refused_so accepts b fuses cause story) story
    refused_on fuses cause may story p =
        let done = told (what.Refused b cause) fuses story (refused cause may) p in
        (done.0, tail_on fuses (noted (λ _. what.Refused b cause) story) done.1)

  -- ---- the watch over its boot expires
  capsule_on : task ≡ Expires → (level : ℕ) → 1 ≤ level → nat_lt level 4 ≡ true → (fuses : FusesState) (judged : Result CapsuleState CapsuleFail) (story : Story) → Fit fuses story
      → judged_recovery accepts b fuses story ≡ judged → AllSafe G (by_capsule accepts b fuses level judged story) story
  capsule_on is level some few fuses (Ok capsule) story p j = restored_on level some (grind (arith, nat_tests)) fuses capsule story p j
  capsule_on is level some few fuses (Err cause) story p j = (t.ends (Says (what.Locked b (why.NoRecovery cause))) story (no_recovery is fuses cause p.ready j p.known) p.kept, tt)

  with_on : task ≡ Expires → (level : ℕ) → 1 ≤ level → nat_lt level 4 ≡ true → (ready : Result FusesState LockWhy) (story : Story) → Closed story → ready_of b story ≡ ready → AllSafe G (recovered_with accepts b level ready story) story
  with_on is level some few (Ok fuses) story s e =
      (t.asks (device_of b) story (inl refl), capsule_on is level some few fuses (judged_recovery accepts b fuses story) story (ready_fit fuses story s e) refl)
  with_on is level some few (Err cause) story s e = (t.ends (Says (what.Locked b cause)) story (unready cause e) s.kept, tt)

  level_on : task ≡ Expires → (level : ℕ) → 1 ≤ level → (few : Bool) (story : Story) → nat_lt level 4 ≡ few → Closed story → AllSafe G (by_level accepts b level few story) story
  level_on is level some true story few s = (t.asks device.Nv story (inr refl), with_on is level some few (ready_of b story) story s refl)
  level_on is level some false story few s = (t.ends (Says (what.Locked b why.WatchdogSpent)) story (spent is) s.kept, tt)

  -- ---- updates
  copy_on : Copies task → (fuses : FusesState) (capsule : CapsuleState) (story : Story) → Fit fuses story → judged_staging accepts b fuses story ≡ Ok capsule → is_spent (store story) b ≡ false
      → AllSafe G (recovery_job (job_notes b).given_up (job_notes b).recovery_updated accepts b fuses capsule story) story
      × Way (IsClosed b) (after (recovery_job (job_notes b).given_up (job_notes b).recovery_updated accepts b fuses capsule story) story)
  copy_on copies fuses capsule story p j unspent =
      let begun : List Move = begun_job b RecoveryFromStaging capsule.digest story in
      let there : Story = after begun story in
      let own = found_begins accepts b fuses RecoveryFromStaging capsule story j p.size unspent in
      carried (IsClosed b) (recovery_job (job_notes b).given_up (job_notes b).recovery_updated accepts b fuses capsule story) story
      (AllSafe-append On begun (recovery_work (job_notes b).given_up (job_notes b).recovery_updated accepts b fuses capsule there) story
      (begin_allowed On b jobs_on RecoveryFromStaging capsule.digest story own)
      (work_on fuses copies capsule there (store_sized begun story ∙ p.size)
      (λ h. still_says fuses story there (kept_logged b _ story p.size (all_own b _ own)).fuses (held_says b fuses story (p.known h).holds))))
      (λ h c. recovery_job_safe accepts b fuses (job_notes b).given_up (job_notes b).recovery_updated capsule story (p.known h) unspent j c) p.size p.kept (λ h. copy_closed accepts b fuses story capsule (p.known h) j unspent)

  -- the cancellation of a key
  clears_on : Cancels task → (type : ContentType) (id : ℕ) (story : Story) → IsTypeOf b type → id < 256 → IsSized story → AllSafe On (called device.Nv (cancellation type id)) story
  clears_on cancels type id story own few size =
      let at : ℕ = row_at Two type + id / 8 in
      let op : Operation = Program at (fuse_byte id ∷ []) in
      let within : IsWithin (row_at Two type) 32 op = (clearing-within (row_at Two type) 32 id (omega (arith, few))).0 in
      let inside : at + 1 ≤ length (store story) = omega (arith, size, few, (row_in_sector type (own_signs b type own)).1) in (
        (
          cleared cancels type op own (record { within = within; clears = OnlyClears-program (store story) at (fuse_byte id ∷ []) inside }),
          λ done torn. cleared cancels type done own (record {
            within = torn_within (row_at Two type) 32 (store story) op done torn within;
            clears = OnlyClears-torn (store story) at (fuse_byte id ∷ []) done torn;
          }),
        ),
        (inr refl, tt),
      )

  cancel_on : Cancels task → (fuses : FusesState) (cert : Cert) (story : Story) → Fit fuses story → judged_cert accepts b fuses story ≡ Ok cert → use_judged accepts b fuses cert story ≡ Ok tt
      → AllSafe G (cancelled_key cert story) story × Way (IsClosed b) (after (cancelled_key cert story) story)
  cancel_on cancels fuses cert story p j u =
      let own = cert_own accepts b fuses cert story j in
      let signing : IsSigning cert.ty = own_signs b cert.ty own.0 in
      let plan : List Operation = cancellation cert.ty cert.id in
      let call : List Move = called device.Nv plan in
      let there : Story = after call story in
      let clear : H → IsCancelled (store there) cert.ty cert.id = λ h.
      let held = (p.known h).holds in
      cancelled_said (store there) fuses cert.ty cert.id (store_sized call story ∙ p.size) (rows_kept (store story) fuses held.provisioned) signing own.1
      (ap (λ (nv : List ℕ). fuses_of nv) (image_called device.Nv plan story) ∙ cancel_says (store story) cert.ty cert.id p.size held.two own.1 signing fuses held.provisioned) in
      carried (IsClosed b) (cancelled_key cert story) story
      (AllSafe-append On call (Says (λ _. what.Cancelled cert.ty cert.id) ∷ []) story (clears_on cancels cert.ty cert.id story own.0 own.1 p.size)
      (cancelled cancels cert.ty cert.id clear, tt))
      (λ h c. AllSafe-append (KeepsRecoverable accepts c) call (Says (λ _. what.Cancelled cert.ty cert.id) ∷ []) story (cancelled_safe accepts b fuses c cert.ty cert.id story (cancelling accepts b fuses story cert (p.known h) j u)) (tt, tt))
      p.size p.kept (λ h. cancel_closed accepts b fuses story cert (p.known h) j u)

-- ---- it is brought up
pub brought_worked : (G : Rule) (I : Story → Type 0) (accepts : Acceptance) (b : Bank) (H : Type 0) → Table G I accepts b Brings H → (story : Story) → IsSized story → (H → CanBeWorked b (noted (what.Held b) story))
    → G (Says (what.Held b)) story → I (noted (what.Held b) story) → AllSafe G (brought_up accepts b story) story
brought_worked G I accepts b H t story size known held i =
    let there : Story = noted (what.Held b) story in
    (held, (t.asks device.Nv there (inr refl), ready_on G I accepts b Brings H t tt tt (ready_of b there) there (record { size = size; known = known; kept = i }) refl))

-- ---- its watch expires
pub expired_worked : (G : Rule) (I : Story → Type 0) (accepts : Acceptance) (b : Bank) (H : Type 0) → Table G I accepts b Expires H → (story : Story) → IsSized story
    → (H → IsClosed b (noted (what.Held b) (noted (λ _. what.Expired b (level_at b story)) story))) → G (Says (λ _. what.Expired b (level_at b story))) story
    → G (Says (what.Held b)) (noted (λ _. what.Expired b (level_at b story)) story) → I (noted (what.Held b) (noted (λ _. what.Expired b (level_at b story)) story)) → AllSafe G (expired accepts b story) story
expired_worked G I accepts b H t story size known expires held i =
    let level : ℕ = level_at b story in
    (expires, (held, level_on G I accepts b Expires H t refl level (level_some b story) (nat_lt level 4) (noted (what.Held b) (noted (λ _. what.Expired b level) story)) refl (record { size = size; known = known; kept = i })))

-- ---- it is updated
module _ (G : Rule) (I : Story → Type 0) (accepts : Acceptance) (b : Bank) (H : Type 0) (fuses : FusesState) where
  module _ (intent : Intent) (t : Table G I accepts b (Updates intent) H) (dynamic : Bool) (replaces : Replaces dynamic intent) where
    staged_on : (judged : Result CapsuleState CapsuleFail) (story : Story) → Fit G I accepts b (Updates intent) H t fuses story → judged_staging accepts b fuses story ≡ judged
        → AllSafe G (by_staged accepts b dynamic fuses judged story) story
    staged_on (Ok capsule) story p j =
        anew_on G I accepts b (Updates intent) H t fuses (updated_plan b dynamic fuses capsule story) story
        (job_on G I accepts b (Updates intent) H t (ActiveFromStaging dynamic) (not_staging dynamic) tt fuses capsule (what.Updated b dynamic capsule.manifest.svn) story (λ there. updated dynamic replaces capsule.manifest.svn) p j)
    staged_on (Err cause) story p j = refused_on G I accepts b (Updates intent) H t tt fuses (refusing.Capsule cause) (replaces_image dynamic intent replaces) story p

    active_updated_on : (story : Story) → Fit G I accepts b (Updates intent) H t fuses story → AllSafe G (active_updated accepts b dynamic fuses story) story
    active_updated_on story p = (t.asks (device_of b) story (inl refl), staged_on (judged_staging accepts b fuses story) story p refl)

  module _ (t : Table G I accepts b (Updates Recovery) H) where
    abbrev Here : Story → Type 0
    Here story = Fit G I accepts b (Updates Recovery) H t fuses story

    refuses_copy : (cause : Refusal) → MayRefuse cause (Updates Recovery) → (story : Story) → Here story → AllSafe G (refused_so accepts b fuses cause story) story
    refuses_copy = refused_on G I accepts b (Updates Recovery) H t tt fuses

    room_on : (capsule : CapsuleState) (spent : Bool) (story : Story) → Here story → judged_staging accepts b fuses story ≡ Ok capsule → is_spent (store story) b ≡ spent → AllSafe G (by_room spent accepts b fuses capsule story) story
    room_on capsule true story p j e = refuses_copy refusing.JobsSpent refl story p
    room_on capsule false story p j e =
        settled_on G I accepts b (Updates Recovery) H t tt (recovery_job (job_notes b).given_up (job_notes b).recovery_updated accepts b fuses capsule story) story
        (copy_on G I accepts b (Updates Recovery) H t tt fuses capsule story p j e)

    manifest_on : (capsule : CapsuleState) (same : Bool) (story : Story) → Here story → judged_staging accepts b fuses story ≡ Ok capsule → AllSafe G (by_manifest same accepts b fuses capsule story) story
    manifest_on capsule true story p j = (t.asks device.Nv story (inr refl), room_on capsule (is_spent (store story) b) story p j refl)
    manifest_on capsule false story p j = refuses_copy refusing.ManifestDiffers refl story p

    new_on : (judged : Result CapsuleState CapsuleFail) (story : Story) → Here story → judged_staging accepts b fuses story ≡ judged → AllSafe G (by_new_recovery accepts b fuses judged story) story
    new_on (Ok capsule) story p j = (t.asks (device_of b) story (inl refl), manifest_on capsule (has_manifest capsule (judged_active accepts b fuses story)) story p j)
    new_on (Err cause) story p j = refuses_copy (refusing.Capsule cause) (replaces_none cause) story p

  module _ (t : Table G I accepts b (Updates CertIntent) H) where
    abbrev There : Story → Type 0
    There story = Fit G I accepts b (Updates CertIntent) H t fuses story

    refuses_cert : (cause : CertFail) (story : Story) → There story → AllSafe G (refused_so accepts b fuses (refusing.Cert cause) story) story
    refuses_cert cause story p = refused_on G I accepts b (Updates CertIntent) H t tt fuses (refusing.Cert cause) refl story p

    use_on : (cert : Cert) (judged : Result (Unit {0}) CertFail) (story : Story) → There story → judged_cert accepts b fuses story ≡ Ok cert → use_judged accepts b fuses cert story ≡ judged
        → AllSafe G (by_use accepts b fuses cert judged story) story
    use_on cert (Ok free) story p j u = settled_on G I accepts b (Updates CertIntent) H t tt (cancelled_key cert story) story (cancel_on G I accepts b (Updates CertIntent) H t tt fuses cert story p j u)
    use_on cert (Err cause) story p j u = refuses_cert cause story p

    cert_on : (judged : Result Cert CertFail) (story : Story) → There story → judged_cert accepts b fuses story ≡ judged → AllSafe G (by_cert accepts b fuses judged story) story
    cert_on (Ok cert) story p j = (t.asks (device_of b) story (inl refl), use_on cert (use_judged accepts b fuses cert story) story p j refl)
    cert_on (Err cause) story p j = refuses_cert cause story p

  intent_on : (intent : Intent) (t : Table G I accepts b (Updates intent) H) (story : Story) → Fit G I accepts b (Updates intent) H t fuses story → AllSafe G (by_intent accepts b intent fuses story) story
  intent_on Active t story p = active_updated_on Active t false refl story p
  intent_on Full t story p = active_updated_on Full t true refl story p
  intent_on Recovery t story p = (t.asks (device_of b) story (inl refl), new_on t (judged_staging accepts b fuses story) story p refl)
  intent_on CertIntent t story p = (t.asks (device_of b) story (inl refl), cert_on t (judged_cert accepts b fuses story) story p refl)

module _ (G : Rule) (I : Story → Type 0) (accepts : Acceptance) (b : Bank) (H : Type 0) (intent : Intent) (t : Table G I accepts b (Updates intent) H) where
  with_fuses : (ready : Result FusesState LockWhy) (story : Story) → Way G I accepts b (Updates intent) H t (IsClosed b) story → ready_of b story ≡ ready → AllSafe G (updated_with accepts b intent ready story) story
  with_fuses (Ok fuses) story s e = intent_on G I accepts b H fuses intent t story (ready_fit G I accepts b (Updates intent) H t fuses story s e)
  with_fuses (Err cause) story s e = (t.ends (Says (what.Locked b cause)) story (unready cause e) s.kept, tt)

  pub updating_worked : (story : Story) → IsSized story → (H → IsClosed b (noted (what.Held b) story)) → G (Says (what.Held b)) story → I (noted (what.Held b) story) → AllSafe G (updating accepts b intent story) story
  updating_worked story size known held i =
      let there : Story = noted (what.Held b) story in
      (held, (t.asks device.Nv there (inr refl), with_fuses (ready_of b there) there (record { size = size; known = known; kept = i }) refl))
