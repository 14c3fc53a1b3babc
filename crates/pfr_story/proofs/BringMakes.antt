-- Which devices the work on a bank calls, and which notes it makes.
use Rattle.std.proofs.Common.{◌≡◌, ◌≢◌, refl, sym, subst, ℕ, Bool, false, true, List, [], ◌∷◌, length, inl, inr, Result, Ok, Err}
use Rattle.std.specs.Prelude.{nat_lt}
use Rattle.pfr_flash.specs.Judging.{◌>>◌, told_as}
use Rattle.pfr_flash.specs.Layout.{judge_layout}
use Rattle.pfr_flash.specs.declared.layout.LayoutRule.{LayoutRule}
use Rattle.pfr_flash.specs.declared.names.Bank.{Bank}
use Rattle.pfr_flash.specs.declared.names.ContentType.{ContentType}
use Rattle.pfr_flash.specs.declared.names.Counts.{Counts}
use Rattle.pfr_flash.specs.declared.names.Device.{Device}
use Rattle.pfr_flash.specs.declared.names.Device.TheVariants as device
use Rattle.pfr_engine.specs.Acceptance.{Acceptance}
use Rattle.pfr_fuses.specs.Changes.{cancellation}
use Rattle.pfr_fuses.specs.FusesState.{FusesState}
use Rattle.pfr_fuses.specs.FusesOf.{fuses_of}
use Rattle.pfr_fuses.specs.RootSlot.{layout_of}
use Rattle.pfr_fuses.specs.declared.fuse_fail.FuseFail.{FuseFail}
use Rattle.pfr_fuses.specs.declared.fuse_fail.FuseFail.TheVariants as fuse
use Rattle.pfr_manifest.specs.declared.manifest.Manifest.{Manifest}
use Rattle.pfr_capsule.specs.CapsuleState.{CapsuleState}
use Rattle.pfr_capsule.specs.declared.fail.CapsuleFail.{CapsuleFail}
use Rattle.pfr_cert.specs.declared.cert.Cert.{Cert}
use Rattle.pfr_auth.specs.declared.fail.ActiveFail.{ActiveFail}
use Rattle.pfr_jobs.specs.declared.job.JobKind.{JobKind}
use Rattle.pfr_jobs.specs.declared.job.JobKind.TheVariants.{ActiveFromRecovery, ActiveFromStaging}
use Rattle.pfr_script.specs.declared.event.Intent.{Intent}
use Rattle.pfr_script.specs.declared.event.Intent.TheVariants.{Active, Full, Recovery, Cert as CertIntent}
use Rattle.pfr_report.specs.declared.note.LockWhy.{LockWhy}
use Rattle.pfr_report.specs.declared.note.LockWhy.TheVariants as why
use Rattle.pfr_report.specs.declared.note.Refusal.{Refusal}
use Rattle.pfr_report.specs.declared.note.Refusal.TheVariants as refusing
use Rattle.pfr_report.specs.declared.note.What.{What}
use Rattle.pfr_report.specs.declared.note.What.TheVariants as what
use Rattle.pfr_story.specs.JobPlans.{job_notes, with_job, recovery_job, resumed}
use Rattle.pfr_story.specs.Plans.{mine, store, lock_of, ready_in, ready_of, judged_active, judged_recovery, restored, by_second, checked_again, by_capsule, recovered_with, by_level, brought_up, expired}
use Rattle.pfr_story.specs.Promises.{Replaces, IsRefusedFor, IsFaultLock}
use Rattle.pfr_story.specs.Safety.{AllSafe, AllMake}
use Rattle.pfr_story.specs.Story.{Story, Move, Says, Does, Asks, after, noted, operated, called, device_of}
use Rattle.pfr_story.specs.UpdatePlans.{cancelled_key, updating}
use Rattle.pfr_story.proofs.BringRules.{Any, IsOwn, level_at, Making, safe_made, Walks, WalksAnew, WalksCopy, WalksCert, WalksUpdate, walk_safe, updating_safe}
use Rattle.pfr_story.proofs.JobMakes.{AreJobNotes, with_job_makes, recovery_job_makes, resumed_makes}
use Rattle.pfr_story.proofs.SafetyLaws.{AllMake-append, AllMake-called}
use Rattle.pfr_story.proofs.Traces.{Saying}

-- moves that call such devices and make such notes are safe where that alone matters
pub made_safe : (D : Device → Type 0) (S : (Counts → What) → Type 0) (moves : List Move) (story : Story) → AllMake D S moves → AllSafe (Making D S) moves story
made_safe D S [] story all = tt
made_safe D S (Says w ∷ moves) story all = (all.0, made_safe D S moves (noted w story) all.1)
made_safe D S (Does which op ∷ moves) story all = ((all.0, λ done t. all.0), made_safe D S moves (operated which op story) all.1)
made_safe D S (Asks which ∷ moves) story all = (all.0, made_safe D S moves story all.1)

-- a note of this kind, whatever the counts
abbrev pub Whenever : (What → Type 0) → (Counts → What) → Type 0
Whenever P w = (at : Counts) → P (w at)

-- and so they are where all notes have to be of a kind
pub made_told : (D : Device → Type 0) (P : What → Type 0) (moves : List Move) (story : Story) → AllMake D (Whenever P) moves → AllSafe (Saying (λ that here. P that)) moves story
made_told D P [] story all = tt
made_told D P (Says w ∷ moves) story all = (all.0 _, made_told D P moves (noted w story) all.1)
made_told D P (Does which op ∷ moves) story all = ((tt, λ done t. tt), made_told D P moves (operated which op story) all.1)
made_told D P (Asks which ∷ moves) story all = (tt, made_told D P moves story all.1)

-- ---- a bank that can't be checked isn't locked for a fault
unset_unfailed : (f : FuseFail) → ¬ IsFaultLock (lock_of f)
unset_unfailed fuse.NotProvisioned fault = fault
unset_unfailed fuse.SlotsSpent fault = fault
unset_unfailed fuse.AlreadyProvisioned fault = fault
unset_unfailed (fuse.LayoutBad b rule) fault = fault
unset_unfailed (fuse.Flash fail) fault = fault

layout_unfailed : (judged : Result (Unit {0}) LayoutRule) (fuses : FusesState) (cause : LockWhy) → (told_as (λ (rule : LayoutRule). why.Layout rule) judged >> Ok fuses) ≡ Err cause → ¬ IsFaultLock cause
layout_unfailed (Ok valid) fuses cause e = absurd cc
layout_unfailed (Err rule) fuses cause e = let is : why.Layout rule ≡ cause = cc in subst (λ (c : LockWhy). ¬ IsFaultLock c) is (λ fault. fault)

read_unfailed : (b : Bank) (size : ℕ) (read : Result FusesState FuseFail) (cause : LockWhy) → ready_in b size read ≡ Err cause → ¬ IsFaultLock cause
read_unfailed b size (Ok fuses) cause e = layout_unfailed (judge_layout (layout_of fuses.provision b) size) fuses cause e
read_unfailed b size (Err fail) cause e = let is : lock_of fail ≡ cause = cc in subst (λ (c : LockWhy). ¬ IsFaultLock c) is (unset_unfailed fail)

unready_unfailed : (b : Bank) (cause : LockWhy) (story : Story) → ready_of b story ≡ Err cause → ¬ IsFaultLock cause
unready_unfailed b cause story e = read_unfailed b (length (mine b story)) (fuses_of (store story)) cause e

-- what may be noted of a bank that is brought back
pub record MayBringBack (S : (Counts → What) → Type 0) (b : Bank) : Type 0 where
  pub held : S (what.Held b)
  pub released : (svn : ℕ) → S (what.Released b svn)
  pub locked : (cause : LockWhy) → ¬ IsFaultLock cause → S (what.Locked b cause)
  pub restored : (level : ℕ) → S (λ _. what.Restored b level)

-- what may be noted of one that is checked
pub record MayCheck (S : (Counts → What) → Type 0) (b : Bank) : Type 0 where
  pub held : S (what.Held b)
  pub released : (svn : ℕ) → S (what.Released b svn)
  pub locked : (cause : LockWhy) → ¬ IsFaultLock cause → S (what.Locked b cause)
  pub untrusted : (cause : ActiveFail) → S (λ _. what.Untrusted b cause)
  pub restored : (level : ℕ) → S (λ _. what.Restored b level)

-- and of one that is updated, by what is asked for
pub record MayUpdate (S : (Counts → What) → Type 0) (b : Bank) (intent : Intent) : Type 0 where
  pub refused : (cause : Refusal) → IsRefusedFor cause intent → S (λ _. what.Refused b cause)
  pub updated : (dynamic : Bool) → Replaces dynamic intent → (svn : ℕ) → S (λ _. what.Updated b dynamic svn)
  pub given_up : intent ≡ Recovery → S (λ _. what.Abandoned b)
  pub recovery_updated : intent ≡ Recovery → (svn : ℕ) → S (λ _. what.RecoveryUpdated b svn)
  pub cancelled : intent ≡ CertIntent → (type : ContentType) (id : ℕ) → S (λ _. what.Cancelled type id)

-- an intent that replaces the active image is none for a certificate
replaces_image : (dynamic : Bool) (intent : Intent) → Replaces dynamic intent → intent ≢ CertIntent
replaces_image dynamic Active is = λ e. cc
replaces_image dynamic Full is = λ e. cc
replaces_image dynamic Recovery is = absurd is
replaces_image dynamic CertIntent is = absurd is

-- the watch over a bank's boot expires
module _ (D : Device → Type 0) (S : (Counts → What) → Type 0) (b : Bank) (nv : D device.Nv) (own : D (device_of b)) (may : MayBringBack S b) (accepts : Acceptance) where
  second_made : (judged : Result Manifest ActiveFail) (story : Story) → AllMake D S (by_second b judged story)
  second_made (Ok m) story = (may.released m.svn, tt)
  second_made (Err cause) story = tt

  capsule_made : (fuses : FusesState) (level : ℕ) (judged : Result CapsuleState CapsuleFail) (story : Story) → AllMake D S (by_capsule accepts b fuses level judged story)
  capsule_made fuses level (Ok capsule) story =
      let moves : List Move = restored b level fuses capsule story in
      let there : Story = after moves story in
      AllMake-append D S moves (checked_again accepts b fuses there) (with_job_makes D S b nv own (ActiveFromRecovery level) fuses capsule (what.Restored b level) (may.restored level) story)
      (own, second_made (judged_active accepts b fuses there) there)
  capsule_made fuses level (Err cause) story = (may.locked (why.NoRecovery cause) (λ fault. fault), tt)

  recovered_made : (level : ℕ) (ready : Result FusesState LockWhy) (story : Story) → ready_of b story ≡ ready → AllMake D S (recovered_with accepts b level ready story)
  recovered_made level (Ok fuses) story e = (own, capsule_made fuses level (judged_recovery accepts b fuses story) story)
  recovered_made level (Err cause) story e = (may.locked cause (unready_unfailed b cause story e), tt)

  level_made : (level : ℕ) (few : Bool) (story : Story) → AllMake D S (by_level accepts b level few story)
  level_made level true story = (nv, recovered_made level (ready_of b story) story refl)
  level_made level false story = (may.locked why.WatchdogSpent (λ fault. fault), tt)

  pub expired_made : (story : Story) → S (λ _. what.Expired b (level_at b story)) → AllMake D S (expired accepts b story)
  expired_made story told =
      let level : ℕ = level_at b story in
      (told, (may.held, level_made level (nat_lt level 4) (noted (what.Held b) (noted (λ _. what.Expired b level) story))))

module _ (D : Device → Type 0) (S : (Counts → What) → Type 0) (b : Bank) (nv : D device.Nv) (own : D (device_of b)) (may : MayCheck S b) (accepts : Acceptance) where
  asks_made : (which : Device) → IsOwn b which → D which
  asks_made which (inl e) = subst D (sym e) own
  asks_made which (inr e) = subst D (sym e) nv

  job_safe : (kind : JobKind) (fuses : FusesState) (capsule : CapsuleState) (that : What) (story : Story) → S (λ _. that) → AllSafe (Making D S) (with_job b kind fuses capsule that story) story
  job_safe kind fuses capsule that story told = made_safe D S (with_job b kind fuses capsule that story) story (with_job_makes D S b nv own kind fuses capsule that told story)

  -- from where Q holds, which tells of the jobs that may be open there
  made_walks : (Q : Story → Type 0) → ((fuses : FusesState) (story : Story) → Q story → AllMake D S (resumed (job_notes b) accepts b fuses story))
      → Walks (Making D S) accepts b Q Any (λ fuses story. Unit {0}) (λ fuses cause story. Unit {0}) (λ fuses story. Unit {0})
  made_walks Q resumes = record {
    asks = λ which story is. asks_made which is;
    resumes = λ fuses story q e. (made_safe D S (resumed (job_notes b) accepts b fuses story) story (resumes fuses story q), tt);
    unset = λ cause story q e. may.locked cause (unready_unfailed b cause story e);
    ready = λ fuses story q e. tt;
    unready = λ cause story q e. may.locked cause (unready_unfailed b cause story e);
    released = λ fuses m story p j. may.released m.svn;
    untrusted = λ fuses cause story p j. (may.untrusted cause, tt);
    no_image = λ fuses cause other story n j. may.locked (why.NoGoodImage cause other) (λ fault. fault);
    restores = λ fuses cause capsule story n j. (job_safe (ActiveFromRecovery 1) fuses capsule (what.Restored b 1) story (may.restored 1), tt);
    again = λ fuses m story r j. may.released m.svn;
  }

  -- no job is open where it is updated
  none_resumed : Walks (Making D S) accepts b (λ story. ⊥) Any (λ fuses story. Unit {0}) (λ fuses cause story. Unit {0}) (λ fuses story. Unit {0})
  none_resumed = made_walks (λ story. ⊥) (λ fuses story never. absurd never)

  pub brought_made : AreJobNotes D S b nv own (job_notes b) → (story : Story) → AllMake D S (brought_up accepts b story)
  brought_made notes story =
      safe_made D S (brought_up accepts b story) story
      (walk_safe (Making D S) accepts b Any Any (λ fuses there. Unit {0}) (λ fuses cause there. Unit {0}) (λ fuses there. Unit {0})
      (made_walks Any (λ fuses there any. resumed_makes D S b nv own (job_notes b) notes accepts fuses there)) story may.held tt)

  -- ---- by what is asked for
  made_anew : (intent : Intent) (dynamic : Bool) → Replaces dynamic intent → MayUpdate S b intent → WalksAnew (Making D S) accepts b dynamic (λ fuses story. Unit {0}) (λ fuses story. Unit {0})
  made_anew intent dynamic is u = record {
    staged = λ fuses capsule story p j.
        (job_safe (ActiveFromStaging dynamic) fuses capsule (what.Updated b dynamic capsule.manifest.svn) story (u.updated dynamic is capsule.manifest.svn), tt);
    refused = λ fuses cause story p j. (u.refused (refusing.Capsule cause) (replaces_image dynamic intent is), tt);
  }

  made_copy : MayUpdate S b Recovery → WalksCopy (Making D S) accepts b Any (λ fuses story. Unit {0})
  made_copy u = record {
    copies = λ fuses capsule story p j same unspent.
        (made_safe D S (recovery_job (job_notes b).given_up (job_notes b).recovery_updated accepts b fuses capsule story) story (recovery_job_makes D S b nv own (job_notes b).given_up (job_notes b).recovery_updated (u.given_up refl) (u.recovery_updated refl) accepts fuses capsule story), tt);
    refused = λ fuses cause story p j. (u.refused (refusing.Capsule cause) (λ e. cc), tt);
    differs = λ fuses capsule story p j other. (u.refused refusing.ManifestDiffers refl, tt);
    spent = λ fuses capsule story p j same spent. (u.refused refusing.JobsSpent refl, tt);
  }

  cancel_made : MayUpdate S b CertIntent → (cert : Cert) (story : Story) → AllMake D S (cancelled_key cert story)
  cancel_made u cert story =
      AllMake-append D S (called device.Nv (cancellation cert.ty cert.id)) (Says (λ _. what.Cancelled cert.ty cert.id) ∷ []) (AllMake-called D S device.Nv (cancellation cert.ty cert.id) nv)
      (u.cancelled refl cert.ty cert.id, tt)

  made_cert : MayUpdate S b CertIntent → WalksCert (Making D S) accepts b Any (λ fuses story. Unit {0})
  made_cert u = record {
    cancels = λ fuses cert story p j free. (made_safe D S (cancelled_key cert story) story (cancel_made u cert story), tt);
    refused = λ fuses cause story p j. (u.refused (refusing.Cert cause) refl, tt);
    kept = λ fuses cert cause story p j used. (u.refused (refusing.Cert cause) refl, tt);
  }

  made_update : (intent : Intent) → MayUpdate S b intent → WalksUpdate (Making D S) accepts b intent Any (λ fuses story. Unit {0}) (λ fuses story. Unit {0})
  made_update Active u = made_anew Active false refl u
  made_update Full u = made_anew Full true refl u
  made_update Recovery u = made_copy u
  made_update CertIntent u = made_cert u

  pub updating_made : (intent : Intent) → MayUpdate S b intent → (story : Story) → AllMake D S (updating accepts b intent story)
  updating_made intent u story =
      safe_made D S (updating accepts b intent story) story
      (updating_safe (Making D S) accepts b (λ there. ⊥) Any (λ fuses there. Unit {0}) (λ fuses cause there. Unit {0}) (λ fuses there. Unit {0}) none_resumed intent story (made_update intent u) may.held tt)
