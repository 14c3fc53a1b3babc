-- Banks are judged anew at a power-on, and where a key may be cancelled: one that runs is trusted, so at no other event it is called
-- untrusted.
use Rattle.std.proofs.Common.{◌≡◌, ◌∙◌, refl, sym, subst, ℕ, Bool, true, false, List, [], ◌∷◌, ◌⊎◌, inl, inr, Result, Ok, Err}
use Rattle.std.specs.Prelude.{◌&&◌}
use Rattle.pfr_flash.specs.FlashState.{now, size_of}
use Rattle.pfr_flash.specs.Layout.{IsBankSize}
use Rattle.pfr_flash.specs.declared.names.Bank.{Bank}
use Rattle.pfr_flash.specs.declared.names.Bank.TheVariants as bank
use Rattle.pfr_flash.specs.declared.names.Counts.{Counts}
use Rattle.pfr_flash.specs.declared.names.Device.{Device}
use Rattle.pfr_flash.specs.declared.names.Device.TheVariants as device
use Rattle.pfr_flash.proofs.PlayLemmas.{length-play}
use Rattle.pfr_engine.specs.Acceptance.{Acceptance}
use Rattle.pfr_fuses.specs.Changes.{raised}
use Rattle.pfr_fuses.specs.FusesState.{FusesState}
use Rattle.pfr_fuses.specs.FusesOf.{fuses_of}
use Rattle.pfr_fuses.specs.Provisioning.{provision_plan}
use Rattle.pfr_fuses.specs.declared.fuse_fail.FuseFail.{FuseFail}
use Rattle.pfr_fuses.specs.declared.root_slot.RootSlot.{RootSlot}
use Rattle.pfr_capsule.specs.CapsuleState.{CapsuleState}
use Rattle.pfr_manifest.specs.declared.manifest.Manifest.{Manifest}
use Rattle.pfr_auth.specs.Trusted.{IsTrusted}
use Rattle.pfr_auth.specs.declared.fail.ActiveFail.{ActiveFail}
use Rattle.pfr_auth.proofs.TrustedLaw.{stands_whole, trusted_found}
use Rattle.pfr_jobs.specs.LogState.{is_spent}
use Rattle.pfr_jobs.specs.declared.job.JobKind.{JobKind}
use Rattle.pfr_jobs.specs.declared.job.JobKind.TheVariants.{ActiveFromRecovery, ActiveFromStaging}
use Rattle.pfr_recoverable.proofs.StaysLaw.{fuses_one}
use Rattle.pfr_script.specs.declared.event.Event.{Event}
use Rattle.pfr_script.specs.declared.event.Event.TheVariants as event
use Rattle.pfr_script.specs.declared.event.Intent.{Intent}
use Rattle.pfr_script.specs.declared.event.Intent.TheVariants.{Active, Full, Recovery, Cert}
use Rattle.pfr_watch.specs.Stages.{next_stage}
use Rattle.pfr_watch.specs.Watching.{expires}
use Rattle.pfr_watch.specs.declared.stage.Stage.{Stage}
use Rattle.pfr_report.specs.declared.note.LockWhy.{LockWhy}
use Rattle.pfr_report.specs.declared.note.Refusal.TheVariants as refusing
use Rattle.pfr_report.specs.declared.note.What.{What}
use Rattle.pfr_report.specs.declared.note.What.TheVariants as what
use Rattle.pfr_story.specs.Guards.{guard_at}
use Rattle.pfr_story.specs.JobContents.{CanWork}
use Rattle.pfr_story.specs.JobPlans.{job_notes, recovery_job, with_job}
use Rattle.pfr_story.specs.Keeping.{IsSettled}
use Rattle.pfr_story.specs.Story.{Story, Move, Says, after, noted, device_of, other_bank, called, IsCut}
use Rattle.pfr_story.specs.World.{World, story_of, AllMoved}
use Rattle.pfr_story.specs.Safety.{Rule, AllGood, AllSafe}
use Rattle.pfr_story.specs.Plans.{mine, store, ready_of, judged_active, judged_staging, provisioned_in, expired}
use Rattle.pfr_story.specs.UpdatePlans.{has_manifest, updating}
use Rattle.pfr_story.specs.Course.{Follows}
use Rattle.pfr_story.specs.Standing.{Standing, Off, Held, Running, Locked, standing_of, is_running}
use Rattle.pfr_story.specs.Turn.{fault_of, expiry_stretch, is_due, stage_at, pass_note, ignored, off_course, tick_course, boot_course, update_course, begun, Turn}
use Rattle.pfr_story.specs.Promises.{IsFaultLock, IsWatchLock, IsPower, IsCertUpdate, JudgesAtPower, Runs, RunningHasNoJob}
use Rattle.pfr_story.proofs.WorldLaws.{AllMoved-refl}
use Rattle.pfr_story.proofs.SafetyLaws.{AllSafe-append, safe_whole, safe_cut, kept_by, image_noted}
use Rattle.pfr_story.proofs.Courses.{IsTakenBy, Turn-cases, taken_runs, taken_boots}
use Rattle.pfr_story.proofs.BringAllowed.{IsSized, AllowsBank, expired_allowed}
use Rattle.pfr_story.proofs.BringMakes.{Whenever, made_told}
use Rattle.pfr_story.proofs.BringRules.{Any, ready_found, ready_is, level_at, Walks, WalksBack, expired_safe, WalksAnew, WalksCopy, WalksUpdate, updating_safe}
use Rattle.pfr_story.proofs.Bytes.{HaveBytes}
use Rattle.pfr_story.proofs.BusRules.{AllowsSpi, spi_safe, smbus_safe}
use Rattle.pfr_story.proofs.Traces.{Saying, call_says, Traced, Traced-known}
use Rattle.pfr_story.proofs.FuseLaws.{profile_kept}
use Rattle.pfr_story.proofs.JobMakes.{with_job_makes, recovery_job_makes}
use Rattle.pfr_story.proofs.JobReleases.{holds_jobs}
use Rattle.pfr_story.proofs.JobSafety.{IsJobless, holds_noted}
use Rattle.pfr_story.proofs.JobSafetyLaws.{recovery_job_ends}
use Rattle.pfr_story.proofs.JobTrust.{IsTrustedNow, KeepsTrust, trust_kept, jobs_trust, noted_trust, jobs_trust_told}
use Rattle.pfr_story.proofs.Made.{Whichever}
use Rattle.pfr_story.proofs.HeldLaws.{can_there}
use Rattle.pfr_story.proofs.RenewedTrust.{trusted_renewed}
use Rattle.pfr_story.proofs.StepTraces.{IsGoodStretch, AllowsFaults, tick_along, pass_noted, noted_by, provision_by, spi_by, smbus_by, failed_by, update_by, sized}
use Rattle.pfr_story.proofs.StoreLaws.{judged_here}
use Rattle.pfr_story.proofs.Entry.{TrustedRunning, trusted_here, sized_here, follows_moved}

-- a note that judges no image
abbrev pub IsUnjudged : What → Type 0
IsUnjudged (what.Locked b cause at) = IsFaultLock cause ⊎ IsWatchLock cause
IsUnjudged (what.Untrusted b cause) = ⊥
IsUnjudged that = Unit {0}

abbrev Unjudged : Rule
Unjudged = Saying (λ that story. IsUnjudged that)

fault_unjudged : (which : Device) → IsFaultLock (fault_of which) ⊎ IsWatchLock (fault_of which)
fault_unjudged device.Bmc = inl tt
fault_unjudged device.Pch = inl tt
fault_unjudged device.Nv = inl tt

-- a bank whose watch expires by ticks runs
pub due_runs : (s : Standing) (expiring : Bool) → (is_running s && expiring) ≡ true → s ≡ Running
due_runs Running expiring e = refl
due_runs Off expiring e = absurd (let never : false ≡ true = e in cc)
due_runs Held expiring e = absurd (let never : false ≡ true = e in cc)
due_runs Locked expiring e = absurd (let never : false ≡ true = e in cc)

-- what is known where no job is open is what work goes by
jobless_can : (b : Bank) (fuses : FusesState) (story : Story) → IsJobless b fuses story → CanWork b fuses story
jobless_can b fuses story p =
    let h = p.holds in
    record { provisioned = h.provisioned; two = profile_kept (store story) fuses h.provisioned ∙ h.two; layout = h.layout; size = h.size; bytes = h.bytes; store_size = h.store_size }

-- ---- the work on a bank that is trusted
module _ (accepts : Acceptance) (b : Bank) where
  abbrev pub IsTrustedIn : Story → Type 0
  IsTrustedIn story = IsTrusted (mine b story) (store story) b accepts

  -- and these are its fuses
  abbrev IsReadIn : FusesState → Story → Type 0
  IsReadIn fuses story = IsTrustedIn story × (fuses_of (store story) ≡ Ok fuses)

  trusted_noted : (w : Counts → What) (story : Story) → IsTrustedIn story → IsTrustedIn (noted w story)
  trusted_noted w story t = subst (λ (image : List ℕ). IsTrusted image (store story) b accepts) (sym (image_noted (device_of b) w story)) t

  -- it can be checked
  not_unready : (cause : LockWhy) (story : Story) → IsTrustedIn story → ¬ (ready_of b story ≡ Err cause)
  not_unready cause story t e = absurd (let ready = ready_is b t.fuses story t.provisioned t.layout in cc)

  -- and its image is judged well
  not_against : (fuses : FusesState) (cause : ActiveFail) (story : Story) → IsReadIn fuses story → ¬ (judged_active accepts b fuses story ≡ Err cause)
  not_against fuses cause story (t, provisioned) e =
      absurd (let found = trusted_found (mine b story) (store story) b accepts fuses (stands_whole (store story) fuses b provisioned) t in cc)

  -- the check of a bank that is trusted, by what is known besides
  module _ (S : Story → Type 0) (P : FusesState → Story → Type 0) (trusted : (story : Story) → S story → IsTrustedIn story) (reads : (fuses : FusesState) (story : Story) → S story → fuses_of (store story) ≡ Ok fuses → P fuses story)
      (read : (fuses : FusesState) (story : Story) → P fuses story → IsReadIn fuses story) where
    judged_walks : Walks Unjudged accepts b (λ story. ⊥) S P (λ fuses cause story. ⊥) (λ fuses story. Unit {0})
    judged_walks = record {
      asks = λ which story own. tt;
      resumes = λ fuses story never e. absurd never;
      unset = λ cause story never e. absurd never;
      ready = λ fuses story q e. reads fuses story q (ready_found b fuses story e).provisioned;
      unready = λ cause story q e. absurd (not_unready cause story (trusted story q) e);
      released = λ fuses m story p j. tt;
      untrusted = λ fuses cause story p j. absurd (not_against fuses cause story (read fuses story p) j);
      no_image = λ fuses cause other story never j. absurd never;
      restores = λ fuses cause capsule story never j. absurd never;
      again = λ fuses m story r j. tt;
    }

  -- where its watch expires
  trusted_walks : Walks Unjudged accepts b (λ story. ⊥) IsTrustedIn IsReadIn (λ fuses cause story. ⊥) (λ fuses story. Unit {0})
  trusted_walks = judged_walks IsTrustedIn IsReadIn (λ story t. t) (λ fuses story t e. (t, e)) (λ fuses story p. p)

  -- where it is updated no job is open
  abbrev IsReadyFor : FusesState → Story → Type 0
  IsReadyFor fuses story = IsTrustedIn story × IsJobless b fuses story

  abbrev pub IsJoblessIn : Story → Type 0
  IsJoblessIn story = IsTrustedIn story × (fuses : FusesState) × IsJobless b fuses story

  jobless_reads : (fuses : FusesState) (story : Story) → IsJoblessIn story → fuses_of (store story) ≡ Ok fuses → IsReadyFor fuses story
  jobless_reads fuses story (t, others, jobless) e = (t, subst (λ (f : FusesState). IsJobless b f story) (fuses_one (store story) others fuses jobless.holds.provisioned e) jobless)

  jobless_walks : Walks Unjudged accepts b (λ story. ⊥) IsJoblessIn IsReadyFor (λ fuses cause story. ⊥) (λ fuses story. Unit {0})
  jobless_walks = judged_walks IsJoblessIn IsReadyFor (λ story s. s.0) jobless_reads (λ fuses story p. (p.0, p.1.holds.provisioned))

  ready_then : (fuses : FusesState) (w : Counts → What) (story : Story) → IsReadyFor fuses story → IsReadyFor fuses (noted w story)
  ready_then fuses w story p = (trusted_noted w story p.0, record { holds = holds_noted b fuses w story p.1.holds; none = p.1.none })

  -- a job, and what is noted behind it
  job_unjudged : (kind : JobKind) (fuses : FusesState) (capsule : CapsuleState) (that : What) (story : Story) → IsUnjudged that → AllSafe Unjudged (with_job b kind fuses capsule that story) story
  job_unjudged kind fuses capsule that story tells =
      made_told Whichever IsUnjudged (with_job b kind fuses capsule that story) story (with_job_makes Whichever (Whenever IsUnjudged) b tt tt kind fuses capsule that (λ at. tells) story)

  trusted_back : (level : ℕ) → WalksBack Unjudged accepts b level IsTrustedIn IsReadIn (λ fuses story. Unit {0})
  trusted_back level = record {
    spent = λ story few q. inr tt;
    no_recovery = λ fuses cause story few p j. inr tt;
    restores = λ fuses capsule story few p j. (job_unjudged (ActiveFromRecovery level) fuses capsule (what.Restored b level) story tt, tt);
  }

  -- an update of the active image
  trusted_anew : (dynamic : Bool) → WalksAnew Unjudged accepts b dynamic IsReadyFor (λ fuses story. Unit {0})
  trusted_anew dynamic = record {
    staged = λ fuses capsule story p j. (job_unjudged (ActiveFromStaging dynamic) fuses capsule (what.Updated b dynamic capsule.manifest.svn) story tt, tt);
    refused = λ fuses cause story p j. (tt, ready_then fuses (λ _. what.Refused b (refusing.Capsule cause)) story p);
  }

  -- one of the recovery area leaves it trusted
  abbrev copy_moves : FusesState → CapsuleState → Story → List Move
  copy_moves fuses capsule story = recovery_job (job_notes b).given_up (job_notes b).recovery_updated accepts b fuses capsule story

  copy_unjudged : (fuses : FusesState) (capsule : CapsuleState) (story : Story) → AllSafe Unjudged (copy_moves fuses capsule story) story
  copy_unjudged fuses capsule story =
      made_told Whichever IsUnjudged (copy_moves fuses capsule story) story
      (recovery_job_makes Whichever (Whenever IsUnjudged) b tt tt (job_notes b).given_up (job_notes b).recovery_updated (λ at. tt) (λ svn at. tt) accepts fuses capsule story)

  copied_jobless : (fuses : FusesState) (capsule : CapsuleState) (story : Story) → IsReadyFor fuses story → judged_staging accepts b fuses story ≡ Ok capsule → has_manifest capsule (judged_active accepts b fuses story) ≡ true
      → is_spent (store story) b ≡ false → IsJoblessIn (after (copy_moves fuses capsule story) story)
  copied_jobless fuses capsule story p j alike free =
      let can : CanWork b fuses story = jobless_can b fuses story p.1 in
      let r = recovery_job_ends accepts b fuses (job_notes b).given_up (job_notes b).recovery_updated capsule story p.1 free j in
      (trusted_renewed (job_notes b).given_up (job_notes b).recovery_updated accepts b fuses capsule story can p.0 j alike p.1.none free, raised fuses b r.svn, r.jobless)

  trusted_copy : WalksCopy Unjudged accepts b IsJoblessIn IsReadyFor
  trusted_copy = record {
    copies = λ fuses capsule story p j alike free. (copy_unjudged fuses capsule story, copied_jobless fuses capsule story p j alike free);
    refused = λ fuses cause story p j. (tt, ready_then fuses (λ _. what.Refused b (refusing.Capsule cause)) story p);
    differs = λ fuses capsule story p j other. (tt, ready_then fuses (λ _. what.Refused b refusing.ManifestDiffers) story p);
    spent = λ fuses capsule story p j alike spent. (tt, ready_then fuses (λ _. what.Refused b refusing.JobsSpent) story p);
  }

  trusted_update : (intent : Intent) → ¬ IsCertUpdate (event.Update b intent) → WalksUpdate Unjudged accepts b intent IsJoblessIn IsReadyFor (λ fuses story. Unit {0})
  trusted_update Active other = trusted_anew false
  trusted_update Full other = trusted_anew true
  trusted_update Recovery other = trusted_copy
  trusted_update Cert other = absurd (other tt)

  updating_unjudged : (intent : Intent) (story : Story) → ¬ IsCertUpdate (event.Update b intent) → IsJoblessIn (noted (what.Held b) story) → AllSafe Unjudged (updating accepts b intent story) story
  updating_unjudged intent story other idle =
      updating_safe Unjudged accepts b (λ there. ⊥) IsJoblessIn IsReadyFor (λ fuses cause there. ⊥) (λ fuses there. Unit {0}) jobless_walks intent story (trusted_update intent other) tt idle

  expired_unjudged : (story : Story) → IsTrustedIn story → AllSafe Unjudged (expired accepts b story) story
  expired_unjudged story t =
      let level : ℕ = level_at b story in
      let told : Story = noted (λ _. what.Expired b level) story in
      expired_safe Unjudged accepts b (λ there. ⊥) IsTrustedIn IsReadIn (λ fuses cause there. ⊥) (λ fuses there. Unit {0}) trusted_walks story (trusted_back level) tt tt
      (trusted_noted (what.Held b) told (trusted_noted (λ _. what.Expired b level) story t))

-- ---- the work on a bank leaves the other one trusted
module _ (accepts : Acceptance) (b : Bank) (m : Manifest) where
  abbrev KeepsOther : Rule
  KeepsOther = KeepsTrust accepts (other_bank b) m

  other_told : (w : Counts → What) (story : Story) → KeepsOther (Says w) story
  other_told w story = noted_trust accepts m (other_bank b) w story

  bank_keeps : AllowsBank KeepsOther b
  bank_keeps = record {
    released = λ svn story. other_told (what.Released b svn) story;
    locked = λ cause story. other_told (what.Locked b cause) story;
    untrusted = λ cause story. other_told (λ _. what.Untrusted b cause) story;
    jobs = jobs_trust accepts m b;
    tells = jobs_trust_told accepts m b (job_notes b);
  }

  expired_keeps : (story : Story) → IsSized story → AllSafe KeepsOther (expired accepts b story) story
  expired_keeps story size =
      expired_allowed KeepsOther accepts b bank_keeps story size (other_told (λ _. what.Expired b (level_at b story)) story) (other_told (what.Held b) (noted (λ _. what.Expired b (level_at b story)) story))

  pub good_keeps : (moves : List Move) (story : Story) → AllGood KeepsOther moves story → IsTrustedNow accepts (other_bank b) m story → IsTrustedNow accepts (other_bank b) m (after moves story)
  good_keeps moves story good t = kept_by KeepsOther (IsTrustedNow accepts (other_bank b) m) (trust_kept accepts (other_bank b) m) moves story good t

-- behind the whole work, and where a call failed on the way
module _ (accepts : Acceptance) (b : Bank) (story : Story) (size : IsSized story) (t : IsTrustedIn accepts (other_bank b) story) where
  other_behind : IsTrustedIn accepts (other_bank b) (after (expired accepts b story) story)
  other_behind =
      let moves : List Move = expired accepts b story in
      (good_keeps accepts b t.manifest moves story (safe_whole (KeepsTrust accepts (other_bank b) t.manifest) moves story (expired_keeps accepts b t.manifest story size)) (t, refl)).0

  other_cut : (which : Device) (trace : List Move) → IsCut which (expired accepts b story) story trace → IsTrustedIn accepts (other_bank b) (noted (what.Locked b (fault_of which)) (after trace story))
  other_cut which trace cut =
      let good = safe_cut (KeepsTrust accepts (other_bank b) t.manifest) which (expired accepts b story) trace story (expired_keeps accepts b t.manifest story size) cut in
      trusted_noted accepts (other_bank b) (what.Locked b (fault_of which)) (after trace story) (good_keeps accepts b t.manifest trace story good (t, refl)).0

-- ---- stretch by stretch
faults_unjudged : AllowsFaults Unjudged
faults_unjudged = record { held = λ b story. tt; locked = λ b which story. fault_unjudged which; lost = λ which story. tt }

provision_unjudged : (root : RootSlot) (judged : Result ℕ FuseFail) (story : Story) → AllSafe Unjudged (provisioned_in root judged story) story
provision_unjudged root (Ok number) story =
    AllSafe-append Unjudged (called device.Nv (provision_plan number root)) (Says (λ _. what.Provisioned) ∷ []) story
    (call_says (λ note here. IsUnjudged note) device.Nv (provision_plan number root) story) (tt, tt)
provision_unjudged root (Err cause) story = (tt, tt)

module _ (begin new : World) where
  noted_unjudged : (moves : List Move) → AllGood Unjudged moves (story_of begin) → Follows (record { first = moves; stretches = [] }) begin new → Traced Unjudged begin new
  noted_unjudged moves good t = noted_by Unjudged faults_unjudged.lost begin new Any (λ w moved. tt) moves t good

  -- a stage that was passed, or a boot that failed
  boot_unjudged : (accepts : Acceptance) (b : Bank) (pass : Bool) (story : Story) → IsTrustedIn accepts b (story_of begin) → Follows (boot_course accepts b pass story) begin new → Traced Unjudged begin new
  boot_unjudged accepts b true story trusted t =
      let at : Stage = stage_at b story in
      noted_unjudged (Says (λ _. pass_note b at (next_stage at)) ∷ []) (pass_noted IsUnjudged b at (next_stage at) (λ e. tt) (λ e. tt), tt) t
  boot_unjudged accepts b false story trusted t = failed_by Unjudged faults_unjudged.lost begin new Any (λ w moved. tt) accepts b (faults_unjudged.locked b) (λ any. expired_unjudged accepts b (story_of begin) trusted) t

  -- an expiry, from where its bank is trusted; what holds behind it is told of both its ends
  expiry_good : (accepts : Acceptance) (b : Bank) (P Q : Story → Type 0) → ((story : Story) → P story → IsTrustedIn accepts b story)
      → ((story : Story) → IsSized story → P story → Q (after (expired accepts b story) story))
      → ((which : Device) (story : Story) (trace : List Move) → IsSized story → P story → IsCut which (expired accepts b story) story trace → Q (noted (what.Locked b (fault_of which)) (after trace story)))
      → IsGoodStretch Unjudged begin new IsSized P (expiry_stretch accepts b) Q
  expiry_good accepts b P Q trusted ends on = record {
    plan = record { safe = λ story p. expired_unjudged accepts b story (trusted story p.1); ends = λ story p. ends story p.0 p.1 };
    noted = λ which story trace p cut rose. (fault_unjudged which, tt);
    on = λ which story trace p cut e. on which story trace p.0 p.1 cut;
  }

  -- ---- ticks, by the story that they are judged by
  module _ (accepts : Acceptance) (n : ℕ) (judged : Story) where
    -- the bank is trusted where its watch expires
    abbrev IsTrustedDue : Bank → Story → Type 0
    IsTrustedDue b story = is_due b n judged ≡ true → IsTrustedIn accepts b story

    abbrev AreTrustedDue : Story → Type 0
    AreTrustedDue story = (b : Bank) → IsTrustedDue b story

    first_expiry : is_due bank.Bmc n judged ≡ true → IsGoodStretch Unjudged begin new IsSized AreTrustedDue (expiry_stretch accepts bank.Bmc) (IsTrustedDue bank.Pch)
    first_expiry due =
        expiry_good accepts bank.Bmc AreTrustedDue (IsTrustedDue bank.Pch) (λ story p. p bank.Bmc due)
        (λ story size p pch. other_behind accepts bank.Bmc story size (p bank.Pch pch))
        (λ which story trace size p cut pch. other_cut accepts bank.Bmc story size (p bank.Pch pch) which trace cut)

    last_expiry : is_due bank.Pch n judged ≡ true → IsGoodStretch Unjudged begin new IsSized (IsTrustedDue bank.Pch) (expiry_stretch accepts bank.Pch) Any
    last_expiry due = expiry_good accepts bank.Pch (IsTrustedDue bank.Pch) Any (λ story p. p due) (λ story size p. tt) (λ which story trace size p cut. tt)

    tick_unjudged : size_of begin.nv ≡ 32768 → AreTrustedDue (story_of begin) → Follows (tick_course accepts n judged) begin new → Traced Unjudged begin new
    tick_unjudged size trusted t =
        tick_along Unjudged begin new IsSized (sized begin new size (tick_course accepts n judged) t) (λ which story fell. (tt, tt)) begin new (record { before = AllMoved-refl begin; behind = AllMoved-refl new })
        accepts n judged AreTrustedDue (IsTrustedDue bank.Pch) Any first_expiry (λ there p. p bank.Pch) last_expiry (λ there p. tt) trusted t

-- ---- a whole step
module _ (accepts : Acceptance) (old new : World) (have : HaveBytes new) (bmc : IsBankSize (size_of old.bmc)) (pch : IsBankSize (size_of old.pch)) (size : size_of old.nv ≡ 32768) (trusted : TrustedRunning accepts old)
    (idle : RunningHasNoJob old) (settled : (which : Bank) → Runs which old → IsSettled (now old.nv)) where
  abbrev here : Event → World
  here e = begun e old

  trusted_at : (e : Event) (b : Bank) → standing_of b old.notes.list ≡ Running → IsTrustedIn accepts b (story_of (here e))
  trusted_at e b runs = trusted_here accepts e old trusted b runs

  -- where it is held for an update
  jobless_at : (intent : Intent) (b : Bank) → Runs b old → AllMoved (here (event.Update b intent)) new → IsJoblessIn accepts b (noted (what.Held b) (story_of (here (event.Update b intent))))
  jobless_at intent b runs moved =
      let e : Event = event.Update b intent in
      let t = trusted_at e b runs in
      let can = can_there accepts b (here e) new t moved have (sized_here e old bmc pch b) (length-play old.nv.start old.nv.ops ∙ size) (settled b runs) in
      let held : Story = noted (what.Held b) (story_of (here e)) in
      (trusted_noted accepts b (what.Held b) (story_of (here e)) t, t.fuses, record { holds = holds_jobs b t.fuses held can; none = idle b runs })

  taken_unjudged : (e : Event) → ¬ IsPower e → ¬ IsCertUpdate e → IsTakenBy accepts e old new → Traced Unjudged (here e) new
  taken_unjudged event.Power other own on = absurd (other tt)
  taken_unjudged event.Off other own on = noted_unjudged (here event.Off) new off_course.first (tt, tt) on.1
  taken_unjudged (event.Provision root) other own on =
      provision_by Unjudged faults_unjudged.lost (here (event.Provision root)) new Any (λ w moved. tt) Any root faults_unjudged.locked (λ story any. (tt, provision_unjudged root (judged_here root story) story)) tt on.1
  taken_unjudged (event.Spi b frame) other own on =
      let frames : AllowsSpi Unjudged b = record { passed = λ op story. tt; blocked = λ cause story. tt; asks = λ story. tt; works = λ op story. tt } in
      spi_by Unjudged faults_unjudged.lost (here (event.Spi b frame)) new Any (λ w moved. tt) Any accepts b frame (faults_unjudged.held b) (faults_unjudged.locked b) (λ story any. spi_safe Unjudged accepts b frame frames story) tt on.1
  taken_unjudged (event.Smbus b frame) other own on =
      let first : World = here (event.Smbus b frame) in
      smbus_by Unjudged faults_unjudged.lost first new Any (λ w moved. tt) accepts b frame (story_of old)
      (smbus_safe Unjudged accepts b frame (record { passed = λ there. tt; blocked = λ cause there. tt }) (story_of old) (story_of first)) on.1
  taken_unjudged (event.Tick n) other own on =
      let e : Event = event.Tick n in
      tick_unjudged (here e) new accepts n (story_of old) size (λ b due. trusted_at e b (due_runs (standing_of b old.notes.list) (expires (guard_at b old.guards).watch n) due)) on.1
  taken_unjudged (event.Boot b pass) other own on =
      let e : Event = event.Boot b pass in
      boot_unjudged (here e) new accepts b pass (story_of old) (trusted_at e b (taken_boots (standing_of b old.notes.list) (stage_at b (story_of old)) on.0).0) on.1
  taken_unjudged (event.Update b intent) other own on =
      let e : Event = event.Update b intent in
      update_by Unjudged faults_unjudged.lost (here e) new Any (λ w moved. tt) accepts b intent (faults_unjudged.locked b)
      (λ any. updating_unjudged accepts b intent (story_of (here e)) own (jobless_at intent b (taken_runs (standing_of b old.notes.list) on.0) (follows_moved (update_course accepts b intent) (here e) new on.1))) on.1

  all_unjudged : (e : Event) → ¬ IsPower e → ¬ IsCertUpdate e → Turn accepts e old new → Traced Unjudged (here e) new
  all_unjudged e other own t = elim (Turn-cases accepts e old new t) [
    | inl idle ↦ noted_unjudged (here e) new ignored.first (tt, tt) idle.1
    | inr on ↦ taken_unjudged e other own on
  ]

-- Banks that run are trusted where a step begins, so none is locked for its contents or called untrusted, but at a power-on, and
-- at an update by a certificate.
pub Turn-judges : (accepts : Acceptance) (e : Event) (old new : World) → Turn accepts e old new → HaveBytes new → IsBankSize (size_of old.bmc) → IsBankSize (size_of old.pch)
    → size_of old.nv ≡ 32768 → TrustedRunning accepts old → RunningHasNoJob old → ((which : Bank) → Runs which old → IsSettled (now old.nv)) → JudgesAtPower e old new
Turn-judges accepts e old new t have bmc pch size trusted idle settled other own =
    let known = Traced-known (λ that story. IsUnjudged that) (begun e old) new (all_unjudged accepts old new have bmc pch size trusted idle settled e other own t) in
    record {
      locked = λ which cause at n. (known (what.Locked which cause at) n).1;
      trusted = λ which cause n. (known (what.Untrusted which cause) n).1;
    }
