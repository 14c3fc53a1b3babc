-- What each step promises of jobs, of updates of the recovery area and of cancelled keys.
use Rattle.std.specs.Prelude.{◌≡◌, ◌⊎◌, ℕ, ◌≤◌, Bool, true, false, List, ◌∷◌, ◌++◌, length, All, Result, Ok, Err}
use Rattle.pfr_flash.specs.FlashState.{now, upto}
use Rattle.pfr_flash.specs.Operation.{Operation}
use Rattle.pfr_flash.specs.Plan.{IsPart}
use Rattle.pfr_flash.specs.declared.names.Bank.{Bank}
use Rattle.pfr_flash.specs.declared.names.ContentType.{ContentType}
use Rattle.pfr_flash.specs.declared.names.Counts.{Counts}
use Rattle.pfr_engine.specs.Acceptance.{Acceptance}
use Rattle.pfr_fuses.specs.FuseMap.{IsFloor, IsCancelled}
use Rattle.pfr_fuses.specs.FusesState.{FusesState}
use Rattle.pfr_fuses.specs.FusesOf.{fuses_of}
use Rattle.pfr_fuses.specs.RootSlot.{layout_of}
use Rattle.pfr_auth.specs.Areas.{judge_area}
use Rattle.pfr_auth.specs.Judge.{judge_active}
use Rattle.pfr_auth.specs.declared.areas.Area.TheVariants as Area
use Rattle.pfr_cert.specs.Applying.{judge_apply}
use Rattle.pfr_cert.specs.Judge.{judge_cert}
use Rattle.pfr_cert.specs.declared.cert.Cert.{Cert}
use Rattle.pfr_cert.specs.declared.fail.CertFail.{CertFail}
use Rattle.pfr_jobs.specs.LogState.{is_marked, is_spent}
use Rattle.pfr_jobs.specs.declared.job.JobKind.{JobKind}
use Rattle.pfr_jobs.specs.declared.job.JobKind.TheVariants.{ActiveFromRecovery, ActiveFromStaging, RecoveryFromStaging}
use Rattle.pfr_rebuilt.specs.ActiveCopying.{active_page, active_pages}
use Rattle.pfr_rebuilt.specs.Copying.{recovery_page, recovery_pages, recovery_rebuilt}
use Rattle.pfr_rebuilt.specs.Passing.{group_pages, left_pages}
use Rattle.pfr_recoverable.specs.Recoverable.{HasGoodRecovery}
use Rattle.pfr_strokes.specs.Strokes.{strokes_of}
use Rattle.pfr_script.specs.declared.event.Event.{Event}
use Rattle.pfr_script.specs.declared.event.Event.TheVariants as event
use Rattle.pfr_script.specs.declared.event.Intent.TheVariants.{Recovery, Cert as CertIntent}
use Rattle.pfr_report.specs.Texts.{IsNoted}
use Rattle.pfr_report.specs.declared.note.LockWhy.TheVariants as why
use Rattle.pfr_report.specs.declared.note.Note.{Note}
use Rattle.pfr_report.specs.declared.note.Refusal.{Refusal}
use Rattle.pfr_report.specs.declared.note.Refusal.TheVariants as refusing
use Rattle.pfr_report.specs.declared.note.What.{What}
use Rattle.pfr_report.specs.declared.note.What.TheVariants.{Held, Locked, Lost, Resumed, Abandoned, Restored, Updated, RecoveryUpdated, Cancelled, Refused}
use Rattle.pfr_story.specs.Story.{device_of}
use Rattle.pfr_story.specs.World.{World, state_at, counts_in, added}
use Rattle.pfr_story.specs.Causes.{HasBadStaging, HasGoodStaging, IsResumable, IsGivenUp}
use Rattle.pfr_story.specs.Bringing.{IsCalm, IsNotedBehind, Checks}
use Rattle.pfr_story.specs.UpdatePlans.{has_manifest, standing_capsule}
use Rattle.pfr_story.specs.Promises.{AtCounts, NotBefore, Runs, count_at}
use Rattle.pfr_story.specs.Recovery.{moments_of}

-- ---- jobs that are open at a power-on

-- what is noted once a job is done
abbrev pub done_note : Bank → JobKind → ℕ → What
done_note which (ActiveFromRecovery level) svn = Restored which level
done_note which (ActiveFromStaging dynamic) svn = Updated which dynamic svn
done_note which RecoveryFromStaging svn = RecoveryUpdated which svn

-- A bank that is held at these counts in a power-on takes its open job up where it can be resumed, and gives it up where it can't.
pub record TakesUp (accepts : Acceptance) (which : Bank) (new : World) (notes : List Note) (at : Counts) : Type 0 where
  pub resumed : (kind : JobKind) → IsNoted notes (Resumed which kind) → AtCounts (λ image nv. IsResumable kind which image nv accepts) which at new
  pub resumes : (kind : JobKind) → IsCalm which notes → AtCounts (λ image nv. IsResumable kind which image nv accepts) which at new → IsNotedBehind (Held which at) (Resumed which kind) notes
  pub abandoned : IsNoted notes (Abandoned which) → AtCounts (λ image nv. IsGivenUp which image nv accepts) which at new
  pub abandons : IsCalm which notes → AtCounts (λ image nv. IsGivenUp which image nv accepts) which at new → IsNotedBehind (Held which at) (Abandoned which) notes
  -- What was taken up is done, and of the active image the capsule's security version number is noted.
  pub done : (kind : JobKind) → IsCalm which notes → (r : AtCounts (λ image nv. IsResumable kind which image nv accepts) which at new)
      → (svn : ℕ) × (¬ (kind ≡ RecoveryFromStaging) → svn ≡ r.good.capsule.manifest.svn) × IsNotedBehind (Resumed which kind) (done_note which kind svn) notes
  -- Where an update of the recovery area is noted, such a job was open, and its capsule stands good there at the end, with the security
  -- version number that was noted.
  pub renewed : (svn : ℕ) → IsNoted notes (RecoveryUpdated which svn) → (r : AtCounts (λ image nv. IsResumable RecoveryFromStaging which image nv accepts) which at new)
      × (g : HasGoodRecovery which (now (state_at (device_of which) new)) (now new.nv) accepts) × (svn ≡ g.good.capsule.manifest.svn) × (g.good.capsule.digest ≡ r.good.capsule.digest)

-- Each bank that is held in a power-on takes its open job up.
abbrev pub TakesJobsUp : Event → Acceptance → World → World → Type 0
TakesJobsUp event.Power accepts old new = (which : Bank) (at : Counts) → IsNoted (added old new) (Held which at) → TakesUp accepts which new (added old new) at
TakesJobsUp e accepts old new = Unit {0}

-- ---- marks are heeded

-- the pages of a job, and what they are to hold, by a capsule that stands good where it is copied from
abbrev pub pages_of : (kind : JobKind) (which : Bank) (image nv : List ℕ) (accepts : Acceptance) → IsResumable kind which image nv accepts → List ℕ
pages_of RecoveryFromStaging which image nv accepts r = recovery_pages (layout_of r.fuses.provision which) r.good.capsule.length (length image)
pages_of kind which image nv accepts r = active_pages kind image r.good.capsule (layout_of r.fuses.provision which)

abbrev pub page_of_job : (kind : JobKind) (which : Bank) (image nv : List ℕ) (accepts : Acceptance) → IsResumable kind which image nv accepts → ℕ → List ℕ
page_of_job RecoveryFromStaging which image nv accepts r page =
    recovery_page image (layout_of r.fuses.provision which).staging_at r.good.capsule.length (layout_of r.fuses.provision which) page
page_of_job kind which image nv accepts r page = active_page image r.good.capsule (layout_of r.fuses.provision which) page

-- the strokes of the pages whose groups weren't marked
abbrev pub left_strokes : (kind : JobKind) (which : Bank) (image nv : List ℕ) (accepts : Acceptance) → IsResumable kind which image nv accepts → List Operation
left_strokes kind which image nv accepts r =
    strokes_of (page_of_job kind which image nv accepts r) (left_pages (is_marked nv which) (group_pages (length image)) (pages_of kind which image nv accepts r))

-- the operations of a bank since these counts
pub record AddsSince (which : Bank) (at : Counts) (ops : List Operation) (w : World) : Type 0 where
  pub before : List Operation
  pub few : length before ≡ count_at which at
  pub is : (state_at (device_of which) w).ops ≡ before ++ ops

-- a note of a call that failed in the work on this bank
abbrev pub IsFailure : Bank → What → Type 0
IsFailure which (Locked b why.FlashFault at) = b ≡ which
IsFailure which (Locked b why.StoreFault at) = b ≡ which
IsFailure which (Lost device at) = Unit {0}
IsFailure which that = ⊥

-- behind this was noted that a call failed in the work on the bank, before anything else was noted
pub record IsCutBehind (which : Bank) (this : What) (notes : List Note) : Type 0 where
  pub before : List Note
  pub item : ℕ
  pub next : Note
  pub behind : List Note
  pub is : notes ≡ before ++ record { item = item; what = this } ∷ next ∷ behind
  pub failed : IsFailure which next.what

-- A job that is resumed begins with the strokes of the pages that were left. Unless all of these are done, no more than a front of them
-- is, the last perhaps torn, and a call failed before anything else was noted.
pub record HeedsMarks (accepts : Acceptance) (which : Bank) (kind : JobKind) (new : World) (notes : List Note) (at : Counts) : Type 0 where
  pub from : AtCounts (λ image nv. IsResumable kind which image nv accepts) which at new
  pub ops : List Operation
  pub since : AddsSince which at ops new
  pub heeds : ((more : List Operation) × (ops ≡ left_strokes kind which _ _ accepts from ++ more))
      ⊎ (IsPart (upto (state_at (device_of which) new) (count_at which at)) (left_strokes kind which _ _ accepts from) ops × IsCutBehind which (Resumed which kind) notes)
  -- Where no call failed while the bank was in work, all of these were done.
  pub whole : IsCalm which notes → (more : List Operation) × (ops ≡ left_strokes kind which _ _ accepts from ++ more)

-- In a power-on each bank's job that is resumed heeds the marks that were set.
abbrev pub MarksAreHeeded : Event → Acceptance → World → World → Type 0
MarksAreHeeded event.Power accepts old new = (which : Bank) (kind : JobKind) (at : Counts) → IsNoted (added old new) (Held which at) → IsNoted (added old new) (Resumed which kind) → HeedsMarks accepts which kind new (added old new) at
MarksAreHeeded e accepts old new = Unit {0}

-- ---- floors and cancellations

-- the floor is at least so high
pub record HasFloor (nv : List ℕ) (which : Bank) (svn : ℕ) : Type 0 where
  pub floor : ℕ
  pub is : IsFloor nv which floor
  pub high : svn ≤ floor

-- something that is true of the store at the counts of each later note, and at the end
pub record HoldsBehind (P : List ℕ → Type 0) (that : What) (new : World) (notes : List Note) : Type 0 where
  pub later : (before : List Note) (item : ℕ) (behind : List Note) → notes ≡ before ++ record { item = item; what = that } ∷ behind
      → All (λ at. P (upto new.nv at.nv)) (moments_of behind)
  pub end : P (now new.nv)

-- Behind an update of the recovery area the floor is that of the capsule at least, and a key that was cancelled stays so.
pub record ChangesFuses (old new : World) : Type 0 where
  pub raised : (which : Bank) (svn : ℕ) → IsNoted (added old new) (RecoveryUpdated which svn) → HoldsBehind (λ nv. HasFloor nv which svn) (RecoveryUpdated which svn) new (added old new)
  pub cancelled : (type : ContentType) (id : ℕ) → IsNoted (added old new) (Cancelled type id) → HoldsBehind (λ nv. IsCancelled nv type id) (Cancelled type id) new (added old new)

-- ---- updates of the recovery area

-- a good capsule is staged, whose manifest the active image has or hasn't
pub record HasStagedFor (same : Bool) (which : Bank) (image nv : List ℕ) (accepts : Acceptance) : Type 0 where
  pub staged : HasGoodStaging which image nv accepts
  pub manifest : has_manifest staged.good.capsule (judge_active image which staged.fuses accepts) ≡ same

-- the bank holds that then: the same but for the recovery area's pages, which hold the staged capsule
pub record IsCopiedFrom (which : Bank) (image nv : List ℕ) (accepts : Acceptance) (then : List ℕ) : Type 0 where
  pub from : HasStagedFor true which image nv accepts
  pub is : then ≡ recovery_rebuilt image (layout_of from.staged.fuses.provision which).staging_at from.staged.good.capsule.length (layout_of from.staged.fuses.provision which)

-- What an update of the recovery area comes to, of a bank that is held at these counts.
pub record UpdatesRecovery (accepts : Acceptance) (which : Bank) (new : World) (notes : List Note) (at : Counts) : Type 0 where
  pub held : IsNoted notes (Held which at)
  -- It is refused exactly for the first of these: what is staged is no good capsule, it has another manifest, the log is spent.
  pub bad : (cause : _) → IsNoted notes (Refused which (refusing.Capsule cause)) → AtCounts (λ image nv. HasBadStaging cause which image nv accepts) which at new
  pub refuses_bad : (cause : _) → IsCalm which notes → AtCounts (λ image nv. HasBadStaging cause which image nv accepts) which at new → IsNoted notes (Refused which (refusing.Capsule cause))
  pub differs : IsNoted notes (Refused which refusing.ManifestDiffers) → AtCounts (λ image nv. HasStagedFor false which image nv accepts) which at new
  pub refuses_other : IsCalm which notes → AtCounts (λ image nv. HasStagedFor false which image nv accepts) which at new → IsNoted notes (Refused which refusing.ManifestDiffers)
  pub spent : IsNoted notes (Refused which refusing.JobsSpent) → AtCounts (λ image nv. HasStagedFor true which image nv accepts × (is_spent nv which ≡ true)) which at new
  pub refuses_spent : IsCalm which notes → AtCounts (λ image nv. HasStagedFor true which image nv accepts × (is_spent nv which ≡ true)) which at new → IsNoted notes (Refused which refusing.JobsSpent)
  -- Else the staged capsule is copied: it stands good in the recovery area then.
  pub updated : (svn : ℕ) → IsNoted notes (RecoveryUpdated which svn) → (s : AtCounts (λ image nv. HasStagedFor true which image nv accepts) which at new)
      × (svn ≡ s.staged.good.capsule.manifest.svn)
      × (r : HasGoodRecovery which (now (state_at (device_of which) new)) (now new.nv) accepts) × (r.good.capsule.digest ≡ s.staged.good.capsule.digest)
  -- The rest of the bank is as before.
  pub replaced : (svn : ℕ) → IsNoted notes (RecoveryUpdated which svn) → AtCounts (λ image nv. IsCopiedFrom which image nv accepts (now (state_at (device_of which) new))) which at new
  pub updates : IsCalm which notes → (s : AtCounts (λ image nv. HasStagedFor true which image nv accepts × (is_spent nv which ≡ false)) which at new)
      → IsNoted notes (RecoveryUpdated which s.0.staged.good.capsule.manifest.svn)
  -- One that is refused writes nothing.
  pub writes_nothing : (why : Refusal) → IsNoted notes (Refused which why) → counts_in new ≡ at

-- An update of the recovery area of a bank that runs comes to that.
abbrev pub RecoveryUpdates : Event → Acceptance → World → World → Type 0
RecoveryUpdates (event.Update which Recovery) accepts old new = Runs which old → UpdatesRecovery accepts which new (added old new) (counts_in old)
RecoveryUpdates e accepts old new = Unit {0}

-- ---- keys are cancelled

-- what becomes of a certificate by the fuses and the recovery area
abbrev pub use_of : Bank → List ℕ → FusesState → Acceptance → Cert → Result (Unit {0}) CertFail
use_of which image fuses accepts cert = judge_apply fuses cert (standing_capsule (judge_area Area.Recovery which image fuses accepts))

-- a certificate stands in the staging area whose key can be cancelled
pub record HasCert (cert : Cert) (which : Bank) (image nv : List ℕ) (accepts : Acceptance) : Type 0 where
  pub fuses : FusesState
  pub provisioned : fuses_of nv ≡ Ok fuses
  pub judged : judge_cert which image fuses accepts ≡ Ok cert
  pub free : use_of which image fuses accepts cert ≡ Ok tt

-- this is the first cause against what stands there as a certificate, or against the cancellation of its key
pub record HasBadCert (cause : CertFail) (which : Bank) (image nv : List ℕ) (accepts : Acceptance) : Type 0 where
  pub fuses : FusesState
  pub provisioned : fuses_of nv ≡ Ok fuses
  pub judged : (judge_cert which image fuses accepts ≡ Err cause) ⊎ ((cert : Cert) × (judge_cert which image fuses accepts ≡ Ok cert) × (use_of which image fuses accepts cert ≡ Err cause))

-- The bank is checked as it stands where it was held at these counts, by the store as it is then.
pub record IsCheckedAnew (accepts : Acceptance) (which : Bank) (new : World) (notes : List Note) (at : Counts) : Type 0 where
  pub from : Counts
  pub forth : NotBefore at from
  pub still : (bank : Bank) → count_at bank from ≡ count_at bank at
  pub checks : Checks accepts which new notes from

-- What an update by a certificate comes to, of a bank that is held at these counts.
pub record CancelsKey (accepts : Acceptance) (which : Bank) (new : World) (notes : List Note) (at : Counts) : Type 0 where
  pub held : IsNoted notes (Held which at)
  -- It is refused exactly with the first cause.
  pub refused : (cause : CertFail) → IsNoted notes (Refused which (refusing.Cert cause)) → AtCounts (λ image nv. HasBadCert cause which image nv accepts) which at new
  pub refuses : (cause : CertFail) → IsCalm which notes → AtCounts (λ image nv. HasBadCert cause which image nv accepts) which at new → IsNoted notes (Refused which (refusing.Cert cause))
  -- Else the key of the certificate is cancelled.
  pub cancelled : (type : ContentType) (id : ℕ) → IsNoted notes (Cancelled type id) → AtCounts (λ image nv. HasCert (record { ty = type; id = id }) which image nv accepts) which at new
  pub cancels : (cert : Cert) → IsCalm which notes → AtCounts (λ image nv. HasCert cert which image nv accepts) which at new → IsNoted notes (Cancelled cert.ty cert.id)
  -- Behind that the bank is checked as at a power-on.
  pub tail : (type : ContentType) (id : ℕ) → IsCalm which notes → IsNoted notes (Cancelled type id) → IsCheckedAnew accepts which new notes at
  -- One that is refused writes nothing.
  pub writes_nothing : (why : Refusal) → IsNoted notes (Refused which why) → counts_in new ≡ at

-- An update of a bank that runs by a certificate comes to that.
abbrev pub Cancels : Event → Acceptance → World → World → Type 0
Cancels (event.Update which CertIntent) accepts old new = Runs which old → CancelsKey accepts which new (added old new) (counts_in old)
Cancels e accepts old new = Unit {0}
