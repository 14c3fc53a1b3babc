-- What is true of a note where it is made, and that the work on a bank makes only such notes.
use Rattle.std.proofs.Common.{◌≡◌, ◌∙◌, refl, sym, ap, subst, ℕ, ◌<◌, Bool, true, false, List, [], ◌∷◌, ◌++◌, length, ◌⊎◌, inl, inr, Some, None, Result, Ok, Err}
use Rattle.std.specs.Cmp.Lexicographic.{same_text}
use Rattle.pfr_flash.specs.Bytes.{AreBytes}
use Rattle.pfr_flash.specs.FlashState.{Rose, size_of}
use Rattle.pfr_flash.specs.Judging.{◌>>◌, told_as}
use Rattle.pfr_flash.specs.Layout.{judge_layout}
use Rattle.pfr_flash.specs.declared.layout.LayoutRule.{LayoutRule}
use Rattle.pfr_flash.specs.declared.names.Bank.{Bank}
use Rattle.pfr_flash.specs.declared.names.Bank.TheVariants as bank
use Rattle.pfr_flash.specs.declared.names.Counts.{Counts}
use Rattle.pfr_flash.specs.declared.names.Device.{Device}
use Rattle.pfr_flash.specs.declared.names.Device.TheVariants as device
use Rattle.pfr_flash.proofs.PlayLemmas.{length-play}
use Rattle.pfr_engine.specs.Acceptance.{Acceptance}
use Rattle.pfr_fuses.specs.Changes.{cancellation}
use Rattle.pfr_fuses.specs.FusesState.{FusesState}
use Rattle.pfr_fuses.specs.FusesOf.{fuses_of}
use Rattle.pfr_fuses.specs.RootSlot.{layout_of}
use Rattle.pfr_fuses.specs.Slots.{IsUnset, HasBlank}
use Rattle.pfr_fuses.specs.declared.fuse_fail.FuseFail.{FuseFail}
use Rattle.pfr_fuses.specs.declared.fuse_fail.FuseFail.TheVariants as fuse
use Rattle.pfr_fuses.proofs.StandsLemmas.{fuses_of-err}
use Rattle.pfr_manifest.specs.declared.manifest.Manifest.{Manifest}
use Rattle.pfr_capsule.specs.CapsuleState.{CapsuleState}
use Rattle.pfr_capsule.specs.declared.fail.CapsuleFail.{CapsuleFail}
use Rattle.pfr_auth.specs.declared.fail.ActiveFail.{ActiveFail}
use Rattle.pfr_auth.proofs.TrustedLaw.{judged_trusted, stands_whole, trusted_found}
use Rattle.pfr_jobs.specs.Log.{open_job}
use Rattle.pfr_jobs.specs.LogPlans.{begin_plan, finish_plan}
use Rattle.pfr_jobs.specs.LogState.{is_spent}
use Rattle.pfr_jobs.specs.declared.job.JobKind.{JobKind}
use Rattle.pfr_jobs.specs.declared.job.JobKind.TheVariants.{ActiveFromRecovery, ActiveFromStaging, RecoveryFromStaging}
use Rattle.pfr_jobs.specs.declared.job.OpenJob.{OpenJob}
use Rattle.pfr_jobs.specs.declared.job.OpenJob.TheVariants as job
use Rattle.pfr_rebuilt.specs.Passing.{active_heeding}
use Rattle.pfr_recoverable.specs.Recoverable.{HasGoodRecovery}
use Rattle.pfr_script.specs.declared.event.Intent.{Intent}
use Rattle.pfr_script.specs.declared.event.Intent.TheVariants as intents
use Rattle.pfr_report.specs.declared.note.LockWhy.{LockWhy}
use Rattle.pfr_report.specs.declared.note.LockWhy.TheVariants as why
use Rattle.pfr_report.specs.declared.note.Note.{Note}
use Rattle.pfr_report.specs.declared.note.Refusal.{Refusal}
use Rattle.pfr_report.specs.declared.note.Refusal.TheVariants as refusing
use Rattle.pfr_report.specs.declared.note.What.{What}
use Rattle.pfr_report.specs.declared.note.What.TheVariants as what
use Rattle.pfr_story.specs.Story.{Story, Move, Says, Does, Asks, after, moved_by, noted, counts_of, device_of, called}
use Rattle.pfr_story.specs.World.{World, story_of, state_at}
use Rattle.pfr_story.specs.Safety.{Rule, AllSafe, AllMake}
use Rattle.pfr_story.specs.JobPlans.{same_digest, judged_source, job_notes, finished_job, abandoned, worked, done_with, with_job, recovery_work, recovery_job, resumed_if, by_source, by_open, resumed}
use Rattle.pfr_story.specs.Plans.{mine, store, lock_of, ready_in, ready_of, judged_active, judged_recovery, restored, brought_up, filtered, smbus_judged, expired}
use Rattle.pfr_story.specs.UpdatePlans.{cancelled_key, updating}
use Rattle.pfr_story.specs.Causes.{IsTrustedWith, IsNotTrusted, IsAgainst, IsRestorable, IsResumable, IsDue, HasBadRecovery}
use Rattle.pfr_story.specs.Promises.{IsFaultLock}
use Rattle.pfr_story.specs.Turn.{fault_of}
use Rattle.pfr_story.proofs.SafetyLaws.{AllSafe-append, image_noted, notes_called}
use Rattle.pfr_story.proofs.RestoreLaws.{found_good}
use Rattle.pfr_story.proofs.BringRules.{Any, IsReady, ready_noted, ready_found, IsOwn, level_at, Walks, walk_safe, WalksBack, expired_safe, WalksAnew, WalksCopy, WalksCert, WalksUpdate, Refuses, updating_safe, Making, safe_made}
use Rattle.pfr_story.proofs.BringAllowed.{IsSized}
use Rattle.pfr_story.proofs.BringMakes.{MayBringBack, MayCheck, MayUpdate, brought_made, expired_made, updating_made}
use Rattle.pfr_story.proofs.BusRules.{AllowsSpi, spi_safe, AllowsSmbus, smbus_safe}
use Rattle.pfr_story.proofs.FoundLaws.{found_begins}
use Rattle.pfr_story.proofs.JobEnds.{deeds_quiet}
use Rattle.pfr_story.proofs.JobFront.{job_work, job_untold, job_true}
use Rattle.pfr_story.proofs.JobMakes.{AreJobNotes, abandoned_makes, done_makes, recovery_work_makes, recovery_job_makes}
use Rattle.pfr_story.proofs.JobQuiet.{told_jobs}
use Rattle.pfr_story.proofs.JobReady.{ready_stays, job_stays}
use Rattle.pfr_story.proofs.JobRules.{AllInLog}
use Rattle.pfr_story.proofs.JobWalks.{work_allowed, finish_allowed}
use Rattle.pfr_story.proofs.Traces.{Precedes, Precedes-refl, Precedes-move, Precedes-after, Saying, call_says}

-- What is looked at: the worlds at the two ends, the engine, where the power is switched off, and by which notes the watch of a
-- bank expired to a level, or a restore at a level was resumed.
pub record Setting : Type 1 where
  pub accepts : Acceptance
  pub first : World
  pub last : World
  pub IsSwitched : Type 0
  pub HasExpired : Bank → ℕ → List Note → Type 0
  pub HasResumed : Bank → ℕ → List Note → Type 0

abbrev pub LockFact : Setting → LockWhy → Bank → Story → Type 0
LockFact s why.FlashFault b story = Rose (state_at (device_of b) s.first).faults (state_at (device_of b) s.last).faults
LockFact s why.StoreFault b story = Rose s.first.nv.faults s.last.nv.faults
LockFact s why.WatchdogSpent b story = Unit {0}
LockFact s (why.NoRecovery cause) b story = HasBadRecovery cause b (mine b story) (store story) s.accepts
LockFact s cause b story = AreBytes (mine b story) → IsDue cause b (mine b story) (store story) s.accepts

-- the first moment precedes it
abbrev pub IsBehind : Setting → Story → Type 0
IsBehind s story = Precedes (story_of s.first) story

-- what a restore at a level is made for, by the notes so far
abbrev pub IsCalledFor : Setting → Bank → ℕ → List Note → List ℕ → List ℕ → Type 0
IsCalledFor s b level notes image nv =
    ((level ≡ 1) × IsRestorable b image nv s.accepts) ⊎ (s.HasExpired b level notes × HasGoodRecovery b image nv s.accepts)
    ⊎ (s.HasResumed b level notes × IsResumable (ActiveFromRecovery level) b image nv s.accepts)

-- a moment before, behind the first, at which the bank was to be restored
pub record WasRestorable (s : Setting) (b : Bank) (level : ℕ) (story : Story) : Type 0 where
  pub at : Story
  pub since : IsBehind s at
  pub before : Precedes at story
  pub was : AreBytes (mine b at) → IsCalledFor s b level story.notes (mine b at) (store at)

-- that a bank's image is trusted or good is said of devices that hold bytes
abbrev pub Fact : Setting → What → Story → Type 0
Fact s (what.Held b at) story = at ≡ counts_of story
Fact s (what.Released b svn at) story = (at ≡ counts_of story) × (AreBytes (mine b story) → IsTrustedWith svn (mine b story) (store story) b s.accepts)
Fact s (what.Locked b cause at) story = (at ≡ counts_of story) × LockFact s cause b story
Fact s (what.Lost (Some which) at) story = (at ≡ counts_of story) × ((state_at which s.first).losses < (state_at which s.last).losses)
Fact s (what.Lost None at) story = (at ≡ counts_of story) × s.IsSwitched
Fact s (what.Untrusted b cause) story = IsAgainst cause b (mine b story) (store story) s.accepts
Fact s (what.Restored b level) story = WasRestorable s b level story
Fact s _ story = Unit {0}

-- Each note is true.
abbrev pub IsTrue : Setting → Rule
IsTrue s = Saying (Fact s)

-- ---- the work on a bank
pub not_trusted : (cause : ActiveFail) (b : Bank) (image nv : List ℕ) (accepts : Acceptance) → IsAgainst cause b image nv accepts → IsNotTrusted b image nv accepts
not_trusted cause b image nv accepts a = record {
  fuses = a.fuses;
  provisioned = a.provisioned;
  layout = a.layout;
  distrusted = λ t. absurd (let e = trusted_found image nv b accepts a.fuses (stands_whole nv a.fuses b a.provisioned) t in let j = a.judged in cc);
}

-- what is judged well in its recovery area is good
pub good_recovery : (accepts : Acceptance) (b : Bank) (fuses : FusesState) (capsule : CapsuleState) (story : Story) → IsReady b fuses story → AreBytes (mine b story)
    → judged_recovery accepts b fuses story ≡ Ok capsule → HasGoodRecovery b (mine b story) (store story) accepts
good_recovery accepts b fuses capsule story r bytes j =
    record { fuses = fuses; provisioned = r.provisioned; good = (found_good accepts b fuses capsule story r.provisioned r.layout bytes j).0 }

-- what is resumable, by the capsule that was found
pub found_resumable : (accepts : Acceptance) (b : Bank) (fuses : FusesState) (level : ℕ) (capsule : CapsuleState) (digest : List ℕ) (story : Story) → IsReady b fuses story → AreBytes (mine b story)
    → judged_recovery accepts b fuses story ≡ Ok capsule → open_job (store story) b ≡ job.Job (ActiveFromRecovery level) digest → capsule.digest ≡ digest
    → IsResumable (ActiveFromRecovery level) b (mine b story) (store story) accepts
found_resumable accepts b fuses level capsule digest story r bytes j opened same =
    let g = found_good accepts b fuses capsule story r.provisioned r.layout bytes j in
    record {
      fuses = fuses;
      provisioned = r.provisioned;
      layout = r.layout;
      good = g.0;
      opened = opened ∙ ap (λ (d : List ℕ). job.Job (ActiveFromRecovery level) d) (sym same ∙ sym (ap (λ (c : CapsuleState). c.digest) g.1));
    }

-- ---- notes that are true wherever they are made
abbrev pub IsPlain : Setting → (Counts → What) → Type 0
IsPlain s w = (story : Story) → Fact s (w (counts_of story)) story

pub plain_true : (s : Setting) (moves : List Move) (story : Story) → AllMake (λ which. Unit {0}) (IsPlain s) moves → AllSafe (IsTrue s) moves story
plain_true s [] story made = tt
plain_true s (Says w ∷ moves) story made = (made.0 story, plain_true s moves (noted w story) made.1)
plain_true s (Does which op ∷ moves) story made = ((tt, λ done t. tt), plain_true s moves (moved_by (Does which op) story) made.1)
plain_true s (Asks which ∷ moves) story made = (tt, plain_true s moves story made.1)

-- the store keeps its size
pub behind_sized : (s : Setting) → size_of s.first.nv ≡ 32768 → (story : Story) → IsBehind s story → IsSized story
behind_sized s size story p = length-play story.nv.start story.nv.ops ∙ ap (λ (bytes : List ℕ). length bytes) p.nv.start ∙ size

module _ (s : Setting) (size : size_of s.first.nv ≡ 32768) (b : Bank) where
  -- what is released by a check is trusted
  trusted_with : (fuses : FusesState) (m : Manifest) (story : Story) → IsReady b fuses story → judged_active s.accepts b fuses story ≡ Ok m
      → AreBytes (mine b story) → IsTrustedWith m.svn (mine b story) (store story) b s.accepts
  trusted_with fuses m story r j bytes =
      let t = judged_trusted (mine b story) (store story) b s.accepts fuses m (stands_whole (store story) fuses b r.provisioned) r.layout bytes j in
      (t.0, ap (λ (manifest : Manifest). manifest.svn) t.1)

  -- what a restore is made for
  abbrev IsCalled : ℕ → Story → Type 0
  IsCalled level story = AreBytes (mine b story) → IsCalledFor s b level story.notes (mine b story) (store story)

  -- and still is where nothing was noted since
  was_later : (level : ℕ) (story there : Story) → IsBehind s story → IsCalled level story → Precedes story there → there.notes ≡ story.notes → WasRestorable s b level there
  was_later level story there since was before told = record {
    at = story;
    since = since;
    before = before;
    was = λ bytes. subst (λ (notes : List Note). IsCalledFor s b level notes (mine b story) (store story)) (sym told) (was bytes);
  }

  -- a whole job, whose note is true behind its work, leaves the bank's fuses
  whole_true : (kind : JobKind) (that : What) (fuses : FusesState) (capsule : CapsuleState) (story : Story) → IsReady b fuses story → IsBehind s story → judged_source s.accepts b fuses kind story ≡ Ok capsule
      → ((moves : List Move) → (after moves story).notes ≡ story.notes → Fact s that (after moves story))
      → AllSafe (IsTrue s) (with_job b kind fuses capsule that story) story × IsReady b fuses (after (with_job b kind fuses capsule that story) story)
  whole_true kind that fuses capsule story r since j tells =
      let sized : IsSized story = behind_sized s size story since in
      let own : is_spent (store story) b ≡ false → AllInLog b (begin_plan (store story) b kind capsule.digest) = λ unspent. found_begins s.accepts b fuses kind capsule story j sized unspent in (
        job_true b kind fuses capsule story own (Fact s) that (tells (job_work b kind fuses capsule story) (job_untold b kind fuses capsule story own).notes),
        ready_stays b fuses story (after (with_job b kind fuses capsule that story) story) (job_stays b kind fuses capsule that story sized own) r,
      )

  restored_true : (level : ℕ) (fuses : FusesState) (capsule : CapsuleState) (story : Story) → IsReady b fuses story → IsBehind s story → judged_recovery s.accepts b fuses story ≡ Ok capsule → IsCalled level story
      → AllSafe (IsTrue s) (restored b level fuses capsule story) story × IsReady b fuses (after (restored b level fuses capsule story) story)
  restored_true level fuses capsule story r since j was =
      whole_true (ActiveFromRecovery level) (what.Restored b level) fuses capsule story r since j
      (λ moves told. was_later level story (after moves story) since was (Precedes-after story story moves (Precedes-refl story)) told)

  -- it is locked where it can't be checked
  unset_true : (cause : FuseFail) (story : Story) → IsUnset (store story) × (((cause ≡ fuse.NotProvisioned) × HasBlank (store story)) ⊎ ((cause ≡ fuse.SlotsSpent) × ¬ HasBlank (store story))) → LockFact s (lock_of cause) b story
  unset_true cause story (u, inl blank) = subst (λ (c : FuseFail). LockFact s (lock_of c) b story) (sym blank.0) (λ bytes. (u, blank.1))
  unset_true cause story (u, inr full) = subst (λ (c : FuseFail). LockFact s (lock_of c) b story) (sym full.0) (λ bytes. (u, full.1))

  layout_true : (fuses : FusesState) (judged : Result (Unit {0}) LayoutRule) (cause : LockWhy) (story : Story) → fuses_of (store story) ≡ Ok fuses
      → judge_layout (layout_of fuses.provision b) (length (mine b story)) ≡ judged → (told_as (λ rule. why.Layout rule) judged >> Ok fuses) ≡ Err cause → LockFact s cause b story
  layout_true fuses (Ok valid) cause story f l e = absurd cc
  layout_true fuses (Err rule) cause story f l e =
      let same : why.Layout rule ≡ cause = cc in subst (λ (c : LockWhy). LockFact s c b story) same (λ bytes. record { fuses = fuses; provisioned = f; broken = l })

  unready_true : (read : Result FusesState FuseFail) (cause : LockWhy) (story : Story) → fuses_of (store story) ≡ read → ready_in b (length (mine b story)) read ≡ Err cause → LockFact s cause b story
  unready_true (Ok fuses) cause story f e = layout_true fuses (judge_layout (layout_of fuses.provision b) (length (mine b story))) cause story f refl e
  unready_true (Err fail) cause story f e =
      let same : lock_of fail ≡ cause = cc in subst (λ (c : LockWhy). LockFact s c b story) same (unset_true fail story (fuses_of-err (store story) fail f))

  abbrev IsRead : FusesState → Story → Type 0
  IsRead fuses story = IsReady b fuses story × IsBehind s story

  -- its image was called untrusted for this cause
  abbrev IsTold : FusesState → ActiveFail → Story → Type 0
  IsTold fuses cause story = IsRead fuses story × IsAgainst cause b (mine b story) (store story) s.accepts

  told_so : (fuses : FusesState) (cause : ActiveFail) (story : Story) → IsTold fuses cause story → IsTold fuses cause (noted (λ _. what.Untrusted b cause) story)
  told_so fuses cause story p = (
    (ready_noted b fuses (λ _. what.Untrusted b cause) story p.0.0, Precedes-move (story_of s.first) story (Says (λ _. what.Untrusted b cause)) p.0.1),
    subst (λ (image : List ℕ). IsAgainst cause b image (store story) s.accepts) (sym (image_noted (device_of b) (λ _. what.Untrusted b cause) story)) p.1,
  )

  -- ---- the job that is open at a power-on
  -- what is noted of it, but for a restore, is true wherever it is noted
  abandoned_true : (story : Story) → AllSafe (IsTrue s) (abandoned (job_notes b).given_up b story) story
  abandoned_true story = plain_true s (abandoned (job_notes b).given_up b story) story (abandoned_makes (λ which. Unit {0}) (IsPlain s) b tt tt (job_notes b).given_up story (λ there. tt))

  -- a restore that is resumed is finished and told
  done_true : (level : ℕ) (fuses : FusesState) (capsule : CapsuleState) (story : Story) → IsBehind s story → IsCalled level story
      → AllSafe (IsTrue s) (done_with b (ActiveFromRecovery level) fuses capsule (what.Restored b level) story) story
  done_true level fuses capsule story since was =
      let kind : JobKind = ActiveFromRecovery level in
      let allows = told_jobs b (Fact s) in
      let work : List Move = worked b kind fuses capsule story in
      let there : Story = after work story in
      let end : List Move = finished_job b there in
      let quiet = deeds_quiet b (active_heeding kind b (mine b story) (store story) capsule (layout_of fuses.provision b)) story in
      let before : Precedes story (after end there) = Precedes-after story there end (Precedes-after story story work (Precedes-refl story)) in
      AllSafe-append (IsTrue s) work (end ++ Says (λ _. what.Restored b level) ∷ []) story (work_allowed (IsTrue s) b allows kind fuses capsule story)
      (AllSafe-append (IsTrue s) end (Says (λ _. what.Restored b level) ∷ []) there (finish_allowed (IsTrue s) b allows there)
      (was_later level story (after end there) since was before (notes_called device.Nv (finish_plan (store there) b) there ∙ quiet.notes), tt))

  -- where a restore that is resumed is known by its note
  module _ (F : Story → Type 0) (marks : (level : ℕ) (there : Story) → F there → s.HasResumed b level (noted (λ _. what.Resumed b (ActiveFromRecovery level)) there).notes) (fuses : FusesState) where
    resumed_called : (level : ℕ) (capsule : CapsuleState) (digest : List ℕ) (story : Story) → IsReady b fuses story → F story → judged_recovery s.accepts b fuses story ≡ Ok capsule
        → open_job (store story) b ≡ job.Job (ActiveFromRecovery level) digest → capsule.digest ≡ digest → IsCalled level (noted (λ _. what.Resumed b (ActiveFromRecovery level)) story)
    resumed_called level capsule digest story r f j opened same bytes =
        let still : mine b (noted (λ _. what.Resumed b (ActiveFromRecovery level)) story) ≡ mine b story = image_noted (device_of b) (λ _. what.Resumed b (ActiveFromRecovery level)) story in
        inr (inr (
          marks level story f,
          subst (λ (image : List ℕ). IsResumable (ActiveFromRecovery level) b image (store story) s.accepts) (sym still)
              (found_resumable s.accepts b fuses level capsule digest story r (subst AreBytes still bytes) j opened same),
        ))

    resume_true : (kind : JobKind) (capsule : CapsuleState) (digest : List ℕ) (story : Story) → IsReady b fuses story → IsBehind s story → F story → judged_source s.accepts b fuses kind story ≡ Ok capsule
        → open_job (store story) b ≡ job.Job kind digest → capsule.digest ≡ digest → AllSafe (IsTrue s) (resumed_if true (job_notes b) s.accepts b fuses capsule kind story) story
    resume_true (ActiveFromRecovery level) capsule digest story r since f j opened same =
        let w : Counts → What = λ _. what.Resumed b (ActiveFromRecovery level) in
        (tt, done_true level fuses capsule (noted w story) (Precedes-move (story_of s.first) story (Says w) since) (resumed_called level capsule digest story r f j opened same))
    resume_true (ActiveFromStaging dynamic) capsule digest story r since f j opened same =
        let that : What = what.Updated b dynamic capsule.manifest.svn in
        let here : Story = noted (λ _. what.Resumed b (ActiveFromStaging dynamic)) story in
        (tt, plain_true s (done_with b (ActiveFromStaging dynamic) fuses capsule that here) here (done_makes (λ which. Unit {0}) (IsPlain s) b tt tt (ActiveFromStaging dynamic) fuses capsule that (λ there. tt) here))
    resume_true RecoveryFromStaging capsule digest story r since f j opened same =
        let here : Story = noted (λ _. what.Resumed b RecoveryFromStaging) story in
        let given_up : What = (job_notes b).given_up in
        let told : ℕ → What = (job_notes b).recovery_updated in
        (tt, plain_true s (recovery_work given_up told s.accepts b fuses capsule here) here (recovery_work_makes (λ which. Unit {0}) (IsPlain s) b tt tt given_up told (λ there. tt) (λ svn there. tt) s.accepts fuses capsule here))

    source_true : (kind : JobKind) (digest : List ℕ) (judged : Result CapsuleState CapsuleFail) (story : Story) → IsReady b fuses story → IsBehind s story → F story → judged_source s.accepts b fuses kind story ≡ judged
        → open_job (store story) b ≡ job.Job kind digest → AllSafe (IsTrue s) (by_source (job_notes b) s.accepts b fuses kind digest judged story) story
    source_true kind digest (Err cause) story r since f j opened = abandoned_true story
    source_true kind digest (Ok capsule) story r since f j opened = by_same (same_digest capsule.digest digest) refl
      where
        by_same : (t : Bool) → same_digest capsule.digest digest ≡ t → AllSafe (IsTrue s) (resumed_if t (job_notes b) s.accepts b fuses capsule kind story) story
        by_same true e = resume_true kind capsule digest story r since f j opened (same_text capsule.digest digest (sym e))
        by_same false e = abandoned_true story

    open_true : (opened : OpenJob) (story : Story) → IsReady b fuses story → IsBehind s story → F story → open_job (store story) b ≡ opened → AllSafe (IsTrue s) (by_open (job_notes b) s.accepts b fuses opened story) story
    open_true job.None story r since f e = tt
    open_true job.Bad story r since f e = abandoned_true story
    open_true (job.Job kind digest) story r since f e = (tt, source_true kind digest (judged_source s.accepts b fuses kind story) story r since f refl e)

    resumed_true : (story : Story) → IsReady b fuses story → IsBehind s story → F story → AllSafe (IsTrue s) (resumed (job_notes b) s.accepts b fuses story) story
    resumed_true story r since f = (tt, open_true (open_job (store story) b) story r since f refl)

  -- ---- from where this is true besides
  module _ (X : Story → Type 0) where
    abbrev IsFrom : Story → Type 0
    IsFrom story = IsBehind s story × X story

    abbrev IsReadFrom : FusesState → Story → Type 0
    IsReadFrom fuses story = IsRead fuses story × X story

    true_walks : (Q : Story → Type 0) → ((fuses : FusesState) (story : Story) → Q story → ready_of b story ≡ Ok fuses
        → AllSafe (IsTrue s) (resumed (job_notes b) s.accepts b fuses story) story × IsFrom (after (resumed (job_notes b) s.accepts b fuses story) story))
        → Walks (IsTrue s) s.accepts b Q IsFrom IsReadFrom IsTold (λ fuses story. IsReady b fuses story)
    true_walks Q resumes = record {
      asks = λ which story own. tt;
      resumes = resumes;
      unset = λ cause story q e. (refl, unready_true (fuses_of (store story)) cause story refl e);
      ready = λ fuses story q e. ((ready_found b fuses story e, q.0), q.1);
      unready = λ cause story q e. (refl, unready_true (fuses_of (store story)) cause story refl e);
      released = λ fuses m story r j. (refl, trusted_with fuses m story r.0.0 j);
      untrusted = λ fuses cause story r j.
          let against : IsAgainst cause b (mine b story) (store story) s.accepts = record { fuses = fuses; provisioned = r.0.0.provisioned; layout = r.0.0.layout; judged = j } in
          (against, told_so fuses cause story (r.0, against));
      no_image = λ fuses cause other story n j. (refl, λ bytes. (n.1, record { fuses = fuses; provisioned = n.0.0.provisioned; judged = j }));
      restores = λ fuses cause capsule story n j.
          restored_true 1 fuses capsule story n.0.0 n.0.1 j (λ bytes. inl (refl, (not_trusted cause b (mine b story) (store story) s.accepts n.1, good_recovery s.accepts b fuses capsule story n.0.0 bytes j)));
      again = λ fuses m story r j. (refl, trusted_with fuses m story r j);
    }

    -- where no job is resumed
    calm_walks : Walks (IsTrue s) s.accepts b (λ story. ⊥) IsFrom IsReadFrom IsTold (λ fuses story. IsReady b fuses story)
    calm_walks = true_walks (λ story. ⊥) (λ fuses story none e. absurd none)

  true_back : (level : ℕ) → WalksBack (IsTrue s) s.accepts b level (IsFrom (λ story. s.HasExpired b level story.notes)) (IsReadFrom (λ story. s.HasExpired b level story.notes)) (λ fuses story. IsReady b fuses story)
  true_back level = record {
    spent = λ story few q. (refl, tt);
    no_recovery = λ fuses cause story few p j. (refl, record { fuses = fuses; provisioned = p.0.0.provisioned; judged = j });
    restores = λ fuses capsule story few p j. restored_true level fuses capsule story p.0.0 p.0.1 j (λ bytes. inr (inl (p.1, good_recovery s.accepts b fuses capsule story p.0.0 bytes j)));
  }

  -- ---- where it is updated
  refused_true : (fuses : FusesState) (cause : Refusal) (story : Story) → IsReadFrom Any fuses story → Refuses (IsTrue s) b (IsReadFrom Any) fuses cause story
  refused_true fuses cause story p =
      let w : Counts → What = λ _. what.Refused b cause in
      (tt, ((ready_noted b fuses w story p.0.0, Precedes-move (story_of s.first) story (Says w) p.0.1), tt))

  true_anew : (dynamic : Bool) → WalksAnew (IsTrue s) s.accepts b dynamic (IsReadFrom Any) (λ fuses story. IsReady b fuses story)
  true_anew dynamic = record {
    staged = λ fuses capsule story p j. whole_true (ActiveFromStaging dynamic) (what.Updated b dynamic capsule.manifest.svn) fuses capsule story p.0.0 p.0.1 j (λ moves told. tt);
    refused = λ fuses cause story p j. refused_true fuses (refusing.Capsule cause) story p;
  }

  true_copy : WalksCopy (IsTrue s) s.accepts b (IsFrom Any) (IsReadFrom Any)
  true_copy = record {
    copies = λ fuses capsule story p j same unspent.
        let given_up : What = (job_notes b).given_up in
        let told : ℕ → What = (job_notes b).recovery_updated in
        let moves : List Move = recovery_job given_up told s.accepts b fuses capsule story in (
          plain_true s moves story (recovery_job_makes (λ which. Unit {0}) (IsPlain s) b tt tt given_up told (λ there. tt) (λ svn there. tt) s.accepts fuses capsule story),
          (Precedes-after (story_of s.first) story moves p.0.1, tt),
        );
    refused = λ fuses cause story p j. refused_true fuses (refusing.Capsule cause) story p;
    differs = λ fuses capsule story p j other. refused_true fuses refusing.ManifestDiffers story p;
    spent = λ fuses capsule story p j same spent. refused_true fuses refusing.JobsSpent story p;
  }

  true_cert : WalksCert (IsTrue s) s.accepts b (IsFrom Any) (IsReadFrom Any)
  true_cert = record {
    cancels = λ fuses cert story p j free.
        let call : List Move = called device.Nv (cancellation cert.ty cert.id) in (
          AllSafe-append (IsTrue s) call (Says (λ _. what.Cancelled cert.ty cert.id) ∷ []) story (call_says (Fact s) device.Nv (cancellation cert.ty cert.id) story) (tt, tt),
          (Precedes-after (story_of s.first) story (cancelled_key cert story) p.0.1, tt),
        );
    refused = λ fuses cause story p j. refused_true fuses (refusing.Cert cause) story p;
    kept = λ fuses cert cause story p j used. refused_true fuses (refusing.Cert cause) story p;
  }

  true_update : (intent : Intent) → WalksUpdate (IsTrue s) s.accepts b intent (IsFrom Any) (IsReadFrom Any) (λ fuses story. IsReady b fuses story)
  true_update intents.Active = true_anew false
  true_update intents.Full = true_anew true
  true_update intents.Recovery = true_copy
  true_update intents.Cert = true_cert

  -- ---- as a whole
  pub brought_true : (F : Story → Type 0) → ((level : ℕ) (there : Story) → F there → s.HasResumed b level (noted (λ _. what.Resumed b (ActiveFromRecovery level)) there).notes)
      → (story : Story) → IsBehind s story → F (noted (what.Held b) story) → AllSafe (IsTrue s) (brought_up s.accepts b story) story
  brought_true F marks story since f =
      let Q : Story → Type 0 = λ there. IsBehind s there × F there in
      let resumes : (fuses : FusesState) (there : Story) → Q there → ready_of b there ≡ Ok fuses
      → AllSafe (IsTrue s) (resumed (job_notes b) s.accepts b fuses there) there × IsFrom Any (after (resumed (job_notes b) s.accepts b fuses there) there) =
      λ fuses there q e. (
        resumed_true F marks fuses there (ready_found b fuses there e) q.0 q.1,
        (Precedes-after (story_of s.first) there (resumed (job_notes b) s.accepts b fuses there) q.0, tt),
      ) in
      walk_safe (IsTrue s) s.accepts b Q (IsFrom Any) (IsReadFrom Any) IsTold (λ fuses there. IsReady b fuses there) (true_walks Any Q resumes) story refl (Precedes-move (story_of s.first) story (Says (what.Held b)) since, f)

  pub expired_true : (story : Story) → IsBehind s story → s.HasExpired b (level_at b story) (noted (what.Held b) (noted (λ _. what.Expired b (level_at b story)) story)).notes → AllSafe (IsTrue s) (expired s.accepts b story) story
  expired_true story since told =
      let level : ℕ = level_at b story in
      let expires : Counts → What = λ _. what.Expired b level in
      let X : Story → Type 0 = λ there. s.HasExpired b level there.notes in
      expired_safe (IsTrue s) s.accepts b (λ there. ⊥) (IsFrom X) (IsReadFrom X) IsTold (λ fuses there. IsReady b fuses there) (calm_walks X) story (true_back level) tt refl
      (Precedes-move (story_of s.first) (noted expires story) (Says (what.Held b)) (Precedes-move (story_of s.first) story (Says expires) since), told)

  pub updating_true : (intent : Intent) (story : Story) → IsBehind s story → AllSafe (IsTrue s) (updating s.accepts b intent story) story
  updating_true intent story since =
      updating_safe (IsTrue s) s.accepts b (λ there. ⊥) (IsFrom Any) (IsReadFrom Any) IsTold (λ fuses there. IsReady b fuses there) (calm_walks Any) intent story (true_update intent) refl
      (Precedes-move (story_of s.first) story (Says (what.Held b)) since, tt)

-- ---- and calls its device and the store alone, and notes no failed call
-- a loss of power, or a lock for a fault
abbrev pub IsFailure : What → Type 0
IsFailure (what.Lost device at) = Unit {0}
IsFailure (what.Locked b cause at) = IsFaultLock cause
IsFailure that = ⊥

abbrev pub IsNoFailure : (Counts → What) → Type 0
IsNoFailure w = (at : Counts) → ¬ IsFailure (w at)

quiet_check : (b : Bank) → MayCheck IsNoFailure b
quiet_check b = record { held = λ at loss. loss; released = λ svn at loss. loss; locked = λ cause unfailed at. unfailed; untrusted = λ cause at loss. loss; restored = λ level at loss. loss }

quiet_back : (b : Bank) → MayBringBack IsNoFailure b
quiet_back b = record { held = λ at loss. loss; released = λ svn at loss. loss; locked = λ cause unfailed at. unfailed; restored = λ level at loss. loss }

quiet_update : (b : Bank) (intent : Intent) → MayUpdate IsNoFailure b intent
quiet_update b intent = record {
  refused = λ cause is at loss. loss;
  updated = λ dynamic is svn at loss. loss;
  given_up = λ is at loss. loss;
  recovery_updated = λ is svn at loss. loss;
  cancelled = λ is type id at loss. loss;
}

quiet_notes : (b : Bank) → AreJobNotes (IsOwn b) IsNoFailure b (inr refl) (inl refl) (job_notes b)
quiet_notes b = record {
  resumes = λ kind at loss. loss;
  gives = λ at loss. loss;
  tells = λ svn at loss. loss;
  restores = λ level at loss. loss;
  updates = λ dynamic svn at loss. loss;
}

pub brought_makes : (accepts : Acceptance) (b : Bank) (story : Story) → AllMake (IsOwn b) IsNoFailure (brought_up accepts b story)
brought_makes accepts b story = brought_made (IsOwn b) IsNoFailure b (inr refl) (inl refl) (quiet_check b) accepts (quiet_notes b) story

pub expired_makes : (accepts : Acceptance) (b : Bank) (story : Story) → AllMake (IsOwn b) IsNoFailure (expired accepts b story)
expired_makes accepts b story = expired_made (IsOwn b) IsNoFailure b (inr refl) (inl refl) (quiet_back b) accepts story (λ at loss. loss)

pub updating_makes : (accepts : Acceptance) (b : Bank) (intent : Intent) (story : Story) → AllMake (IsOwn b) IsNoFailure (updating accepts b intent story)
updating_makes accepts b intent story = updating_made (IsOwn b) IsNoFailure b (inr refl) (inl refl) (quiet_check b) accepts intent (quiet_update b intent) story

-- a frame on its SPI bus calls its device alone
abbrev pub IsMine : Bank → Device → Type 0
IsMine b which = which ≡ device_of b

quiet_spi : (b : Bank) → AllowsSpi (Making (IsMine b) IsNoFailure) b
quiet_spi b = record { passed = λ op story at loss. loss; blocked = λ cause story at loss. loss; asks = λ story. refl; works = λ op story. refl }

pub filtered_makes : (accepts : Acceptance) (b : Bank) (frame : List ℕ) (story : Story) → AllMake (IsMine b) IsNoFailure (filtered accepts b frame story)
filtered_makes accepts b frame story =
    safe_made (IsMine b) IsNoFailure (filtered accepts b frame story) story (spi_safe (Making (IsMine b) IsNoFailure) accepts b frame (quiet_spi b) story)

-- and one on its SMBus calls none
abbrev pub NoDevice : Device → Type 0
NoDevice which = ⊥

quiet_smbus : (b : Bank) → AllowsSmbus (Making NoDevice IsNoFailure) b
quiet_smbus b = record { passed = λ story at loss. loss; blocked = λ cause story at loss. loss }

pub smbus_makes : (accepts : Acceptance) (b : Bank) (frame : List ℕ) (story : Story) → AllMake NoDevice IsNoFailure (smbus_judged accepts b frame story)
smbus_makes accepts b frame story =
    safe_made NoDevice IsNoFailure (smbus_judged accepts b frame story) story (smbus_safe (Making NoDevice IsNoFailure) accepts b frame (quiet_smbus b) story story)

-- so a lock for a fault of one of them is true
pub lock_true : (s : Setting) (b : Bank) (which : Device) (story : Story) → IsOwn b which → Rose (state_at which s.first).faults (state_at which s.last).faults → LockFact s (fault_of which) b story
lock_true s bank.Bmc device.Bmc story own rose = rose
lock_true s bank.Bmc device.Pch story own rose = absurd (elim own [ inl e ↦ cc | inr e ↦ cc ])
lock_true s bank.Pch device.Bmc story own rose = absurd (elim own [ inl e ↦ cc | inr e ↦ cc ])
lock_true s bank.Pch device.Pch story own rose = rose
lock_true s b device.Nv story own rose = rose
