-- What each move of the work on a bank can be, and what is known there: where it is brought up, where its watch expires, and where it is updated.
use Rattle.std.proofs.Common.{◌≡◌, ℕ, Bool, List, Ok, Err}
use Rattle.pfr_flash.specs.Operation.{Operation, applied}
use Rattle.pfr_flash.specs.Range.{IsWithin, OnlyClears}
use Rattle.pfr_flash.specs.declared.names.Bank.{Bank}
use Rattle.pfr_flash.specs.declared.names.ContentType.{ContentType}
use Rattle.pfr_flash.specs.declared.names.Device.{Device}
use Rattle.pfr_flash.specs.declared.names.Device.TheVariants as device
use Rattle.pfr_engine.specs.Acceptance.{Acceptance}
use Rattle.pfr_fuses.specs.FuseMap.{IsCancelled, row_at}
use Rattle.pfr_fuses.specs.FusesState.{FusesState}
use Rattle.pfr_fuses.specs.declared.profile.Profile.TheVariants.{Two}
use Rattle.pfr_manifest.specs.declared.manifest.Manifest.{Manifest}
use Rattle.pfr_capsule.specs.declared.fail.CapsuleFail.{CapsuleFail}
use Rattle.pfr_auth.specs.declared.fail.ActiveFail.{ActiveFail}
use Rattle.pfr_jobs.specs.declared.job.JobKind.{JobKind}
use Rattle.pfr_script.specs.declared.event.Intent.{Intent}
use Rattle.pfr_script.specs.declared.event.Intent.TheVariants.{Recovery, Cert}
use Rattle.pfr_report.specs.declared.note.LockWhy.{LockWhy}
use Rattle.pfr_report.specs.declared.note.LockWhy.TheVariants as why
use Rattle.pfr_report.specs.declared.note.Refusal.{Refusal}
use Rattle.pfr_report.specs.declared.note.What.TheVariants as what
use Rattle.pfr_story.specs.JobPromises.{HasFloor}
use Rattle.pfr_story.specs.Plans.{store, ready_of, judged_active, judged_recovery}
use Rattle.pfr_story.specs.Promises.{Replaces, IsRefusedFor}
use Rattle.pfr_story.specs.Recovery.{KeepsRecoverable}
use Rattle.pfr_story.specs.Safety.{Rule}
use Rattle.pfr_story.specs.Story.{Story, Move, Says, Does, Asks, moved_by, device_of}
use Rattle.pfr_story.proofs.BringRules.{IsReady, IsOwn}
use Rattle.pfr_story.proofs.JobRules.{IsInLog, IsRaise}
use Rattle.pfr_story.proofs.JobSafety.{IsJobless}
use Rattle.pfr_story.proofs.JobSafetyCancelled.{IsTypeOf}

-- what the cancellation of a key of this type does, also a torn one
pub record IsClearing (type : ContentType) (image : List ℕ) (op : Operation) : Type 0 where
  pub within : IsWithin (row_at Two type) 32 op
  pub clears : OnlyClears image (applied image op)

-- what is done on a bank: it is brought up, its watch expires, or it is updated
pub data Task : Type 0 where
  Brings : Task
  Expires : Task
  Updates : (intent : Intent) → Task

-- its image may be called untrusted
abbrev pub Checks : Task → Type 0
Checks Expires = ⊥
Checks task = Unit {0}

pub checks_stays : (task : Task) → Checks task → ¬ (task ≡ Expires)
checks_stays Brings checks e = absurd cc
checks_stays Expires checks e = absurd checks
checks_stays (Updates intent) checks e = absurd cc

-- a job may be resumed
abbrev pub Resumes : Task → Type 0
Resumes Brings = Unit {0}
Resumes task = ⊥

-- its recovery area may be worked on
abbrev pub Copies : Task → Type 0
Copies Brings = Unit {0}
Copies (Updates Recovery) = Unit {0}
Copies task = ⊥

-- its active image may be updated so
abbrev pub MayReplace : Bool → Task → Type 0
MayReplace dynamic Brings = Unit {0}
MayReplace dynamic Expires = ⊥
MayReplace dynamic (Updates intent) = Replaces dynamic intent

-- an update may be refused for this
abbrev pub MayRefuse : Refusal → Task → Type 0
MayRefuse cause (Updates intent) = IsRefusedFor cause intent
MayRefuse cause task = ⊥

-- a key may be cancelled
abbrev pub Cancels : Task → Type 0
Cancels (Updates Cert) = Unit {0}
Cancels task = ⊥

-- A move behind Held, after which the work goes on. What hangs on the contents is known under a premise H.
pub data Going (b : Bank) (task : Task) (H : Type 0) (story : Story) : Move → Type 0 where
  stroked : (op : Operation) → Going b task H story (Does (device_of b) op)
  logged : (op : Operation) → IsInLog b op → Going b task H story (Does device.Nv op)
  raised : (op : Operation) → IsRaise b (store story) op → Going b task H story (Does device.Nv op)
  cleared : Cancels task → (type : ContentType) (op : Operation) → IsTypeOf b type → IsClearing type (store story) op → Going b task H story (Does device.Nv op)
  untrusted : Checks task → (cause : ActiveFail) → Going b task H story (Says (λ _. what.Untrusted b cause))
  refused : (cause : Refusal) → MayRefuse cause task → Going b task H story (Says (λ _. what.Refused b cause))
  resumed : Resumes task → (kind : JobKind) → Going b task H story (Says (λ _. what.Resumed b kind))
  given_up : Copies task → Going b task H story (Says (λ _. what.Abandoned b))
  restored : (level : ℕ) → Going b task H story (Says (λ _. what.Restored b level))
  updated : (dynamic : Bool) → MayReplace dynamic task → (svn : ℕ) → Going b task H story (Says (λ _. what.Updated b dynamic svn))
  recovery_updated : Copies task → (svn : ℕ) → (H → HasFloor (store story) b svn) → Going b task H story (Says (λ _. what.RecoveryUpdated b svn))
  cancelled : Cancels task → (type : ContentType) (id : ℕ) → (H → IsCancelled (store story) type id) → Going b task H story (Says (λ _. what.Cancelled type id))

-- One with which it ends.
pub data Ended (accepts : Acceptance) (b : Bank) (task : Task) (H : Type 0) (story : Story) : Move → Type 0 where
  released : (fuses : FusesState) (m : Manifest) → IsReady b fuses story → judged_active accepts b fuses story ≡ Ok m → (H → IsJobless b fuses story) → Ended accepts b task H story (Says (what.Released b m.svn))
  unready : (cause : LockWhy) → ready_of b story ≡ Err cause → Ended accepts b task H story (Says (what.Locked b cause))
  no_image : (fuses : FusesState) (cause : ActiveFail) (other : CapsuleFail) → IsReady b fuses story → judged_recovery accepts b fuses story ≡ Err other → (H → IsJobless b fuses story)
      → Ended accepts b task H story (Says (what.Locked b (why.NoGoodImage cause other)))
  no_recovery : task ≡ Expires → (fuses : FusesState) (cause : CapsuleFail) → IsReady b fuses story → judged_recovery accepts b fuses story ≡ Err cause → (H → IsJobless b fuses story) → Ended accepts b task H story (Says (what.Locked b (why.NoRecovery cause)))
  spent : task ≡ Expires → Ended accepts b task H story (Says (what.Locked b why.WatchdogSpent))

-- A rule of the work on a bank, shape by shape, with what it stands on from move to move.
pub record Table (G : Rule) (I : Story → Type 0) (accepts : Acceptance) (b : Bank) (task : Task) (H : Type 0) : Type 0 where
  pub asks : (which : Device) (story : Story) → IsOwn b which → G (Asks which) story
  pub goes : (move : Move) (story : Story) → Going b task H story move → (H → (c : Bank) → KeepsRecoverable accepts c move story) → I story → G move story × I (moved_by move story)
  pub ends : (move : Move) (story : Story) → Ended accepts b task H story move → I story → G move story
