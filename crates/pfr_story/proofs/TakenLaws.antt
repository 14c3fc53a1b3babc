-- At a power-on the open job of a bank is done or given up before the bank is checked: what is noted of that, and what it leads to.
use Rattle.std.proofs.Common.{◌≡◌, ◌≢◌, ◌∙◌, refl, sym, ap, ℕ, Bool, true, false, List, [], ◌++◌, length, inl, inr, Result, Ok, Err}
use Rattle.pfr_flash.specs.Bytes.{AreBytes}
use Rattle.pfr_flash.specs.Layout.{IsBankSize}
use Rattle.pfr_flash.specs.declared.names.Bank.{Bank}
use Rattle.pfr_flash.specs.declared.names.Counts.{Counts}
use Rattle.pfr_engine.specs.Acceptance.{Acceptance}
use Rattle.pfr_fuses.specs.FusesState.{FusesState}
use Rattle.pfr_capsule.specs.CapsuleState.{CapsuleState}
use Rattle.pfr_capsule.specs.declared.fail.CapsuleFail.{CapsuleFail}
use Rattle.pfr_jobs.specs.Log.{open_job}
use Rattle.pfr_jobs.specs.declared.job.JobKind.{JobKind}
use Rattle.pfr_jobs.specs.declared.job.JobKind.TheVariants.{ActiveFromRecovery, ActiveFromStaging, RecoveryFromStaging}
use Rattle.pfr_jobs.specs.declared.job.OpenJob.{OpenJob}
use Rattle.pfr_jobs.specs.declared.job.OpenJob.TheVariants as job
use Rattle.pfr_report.specs.Texts.{IsNoted}
use Rattle.pfr_report.specs.declared.note.LockWhy.{LockWhy}
use Rattle.pfr_report.specs.declared.note.Note.{Note}
use Rattle.pfr_report.specs.declared.note.What.{What}
use Rattle.pfr_report.specs.declared.note.What.TheVariants as what
use Rattle.pfr_story.specs.Bringing.{IsWorkedFrom}
use Rattle.pfr_story.specs.Causes.{HasOpenJob}
use Rattle.pfr_story.specs.JobContents.{CanWork}
use Rattle.pfr_story.specs.JobPlans.{job_notes, same_digest, judged_source, abandoned, work_of, resumed_if, by_source, by_open, resumed}
use Rattle.pfr_story.specs.Plans.{mine, store, ready_of, by_fuses, checked_then, by_ready}
use Rattle.pfr_story.specs.Story.{Story, Move, after, noted}
use Rattle.pfr_story.proofs.BringRules.{ready_found, ready_is}
use Rattle.pfr_story.proofs.JobMakes.{abandoned_makes, done_makes, recovery_work_makes, resumed_makes}
use Rattle.pfr_story.proofs.JobResumed.{resumed_ends}
use Rattle.pfr_story.proofs.Made.{said, said_append, Whichever, AllSay, said_all}
use Rattle.pfr_story.proofs.SpanRules.{NotOne}
use Rattle.pfr_story.proofs.TailLaws.{behind}

-- what is noted of an open job
abbrev pub IsOfJob : What → Type 0
IsOfJob (what.Resumed b kind) = Unit {0}
IsOfJob (what.Abandoned b) = Unit {0}
IsOfJob (what.Restored b level) = Unit {0}
IsOfJob (what.Updated b dynamic svn) = Unit {0}
IsOfJob (what.RecoveryUpdated b svn) = Unit {0}
IsOfJob that = ⊥

abbrev IsNoRestore : What → Type 0
IsNoRestore (what.Restored b level) = ⊥
IsNoRestore that = Unit {0}

-- what a bank is to be for work on its open job
pub record CanTake (b : Bank) (story : Story) : Type 0 where
  pub two : NotOne (store story)
  pub size : IsBankSize (length (mine b story))
  pub bytes : AreBytes (mine b story)
  pub store_size : length (store story) ≡ 32768

module _ (accepts : Acceptance) (b : Bank) where
  -- the work before the check
  abbrev pub taken_by : Result FusesState LockWhy → Story → List Move
  taken_by (Ok fuses) story = resumed (job_notes b) accepts b fuses story
  taken_by (Err why) story = []

  abbrev pub taken : Story → List Move
  taken story = taken_by (ready_of b story) story

  abbrev pub checked_at : Story → Story
  checked_at story = after (taken story) story

  parts_by : (r : Result FusesState LockWhy) (story : Story) → ready_of b story ≡ r → by_ready accepts b r story ≡ taken_by r story ++ checked_then accepts b (after (taken_by r story) story)
  parts_by (Ok fuses) story e = refl
  parts_by (Err why) story e = sym (ap (λ (r : Result FusesState LockWhy). by_fuses accepts b r story) e)

  -- Behind Held that work is done, and then the bank is checked.
  pub ready_parts : (story : Story) → by_ready accepts b (ready_of b story) story ≡ taken story ++ checked_then accepts b (checked_at story)
  ready_parts story = parts_by (ready_of b story) story refl

  pub said_parts : (story : Story) → said (by_ready accepts b (ready_of b story) story) story ≡ said (taken story) story ++ behind accepts b (checked_at story)
  said_parts story =
      ap (λ (moves : List Move). said moves story) (ready_parts story) ∙ said_append (taken story) (checked_then accepts b (checked_at story)) story

  -- ---- no job is open where it is checked
  pub can_work : (fuses : FusesState) (story : Story) → CanTake b story → ready_of b story ≡ Ok fuses → CanWork b fuses story
  can_work fuses story can e =
      let r = ready_found b fuses story e in
      record { provisioned = r.provisioned; two = can.two fuses r.provisioned; layout = r.layout; size = can.size; bytes = can.bytes; store_size = can.store_size }

  closed_by : (r : Result FusesState LockWhy) (story : Story) → CanTake b story → ready_of b story ≡ r → ¬ HasOpenJob b (mine b (after (taken_by r story) story)) (store (after (taken_by r story) story))
  closed_by (Ok fuses) story can e h = h.opened (resumed_ends (job_notes b) accepts b fuses story (can_work fuses story can e)).opened
  closed_by (Err why) story can e h = absurd (let never : Err why ≡ Ok h.fuses = sym e ∙ ready_is b h.fuses story h.provisioned h.layout in cc)

  -- the bank holds what the work on its job makes of it then
  worked_by : (r : Result FusesState LockWhy) (story : Story) → CanTake b story → ready_of b story ≡ r → HasOpenJob b (mine b story) (store story)
      → IsWorkedFrom accepts b (mine b story) (store story) (mine b (after (taken_by r story) story)) (store (after (taken_by r story) story))
  worked_by (Ok fuses) story can e h =
      let k = can_work fuses story can e in
      let d = resumed_ends (job_notes b) accepts b fuses story k in
      record { fuses = fuses; provisioned = k.provisioned; holds = d.bank; says = d.says }
  worked_by (Err why) story can e h = absurd (let never : Err why ≡ Ok h.fuses = sym e ∙ ready_is b h.fuses story h.provisioned h.layout in cc)

  pub checked_worked : (story : Story) → CanTake b story → HasOpenJob b (mine b story) (store story) → IsWorkedFrom accepts b (mine b story) (store story) (mine b (checked_at story)) (store (checked_at story))
  checked_worked story can h = worked_by (ready_of b story) story can refl h

  pub checked_closed : (story : Story) → CanTake b story → ¬ HasOpenJob b (mine b (checked_at story)) (store (checked_at story))
  checked_closed story can = closed_by (ready_of b story) story can refl

  -- ---- where none was open nothing is done before
  same_by_open : (opened : OpenJob) (fuses : FusesState) (story : Story) → ((opened ≢ job.None) → ⊥) → after (by_open (job_notes b) accepts b fuses opened story) story ≡ story
  same_by_open job.None fuses story none = refl
  same_by_open job.Bad fuses story none = absurd (none (λ e. cc))
  same_by_open (job.Job kind digest) fuses story none = absurd (none (λ e. cc))

  same_by : (r : Result FusesState LockWhy) (story : Story) → ready_of b story ≡ r → ¬ HasOpenJob b (mine b story) (store story) → after (taken_by r story) story ≡ story
  same_by (Ok fuses) story e none =
      let r = ready_found b fuses story e in
      same_by_open (open_job (store story) b) fuses story (λ opened. none (record { fuses = fuses; provisioned = r.provisioned; layout = r.layout; opened = opened }))
  same_by (Err why) story e none = refl

  pub checked_same : (story : Story) → ¬ HasOpenJob b (mine b story) (store story) → checked_at story ≡ story
  checked_same story none = same_by (ready_of b story) story refl none

  -- ---- what is noted of the job
  made_by : (r : Result FusesState LockWhy) (story : Story) → AllSay IsOfJob (taken_by r story)
  made_by (Ok fuses) story =
      resumed_makes Whichever (λ w. (at : Counts) → IsOfJob (w at)) b tt tt (job_notes b) (record {
        resumes = λ kind at. tt;
        gives = λ at. tt;
        tells = λ svn at. tt;
        restores = λ level at. tt;
        updates = λ dynamic svn at. tt;
      }) accepts fuses story
  made_by (Err why) story = tt

  pub taken_of : (story : Story) (that : What) → IsNoted (said (taken story) story) that → IsOfJob that
  taken_of story that n = said_all IsOfJob (taken story) story (made_by (ready_of b story) story) that n

  -- a restore is noted only of a job that restores it to that level
  gives_none : (story : Story) → AllSay IsNoRestore (abandoned (what.Abandoned b) b story)
  gives_none story = abandoned_makes Whichever (λ w. (at : Counts) → IsNoRestore (w at)) b tt tt (what.Abandoned b) story (λ at. tt)

  work_restored : (fuses : FusesState) (capsule : CapsuleState) (kind : JobKind) (story : Story) (level : ℕ) → IsNoted (said (work_of (job_notes b) accepts b fuses capsule kind story) story) (what.Restored b level)
      → kind ≡ ActiveFromRecovery level
  work_restored fuses capsule (ActiveFromRecovery own) story level n =
      let is : what.Restored b level ≡ what.Restored b own = said_all (λ that. that ≡ what.Restored b own) (work_of (job_notes b) accepts b fuses capsule (ActiveFromRecovery own) story) story
      (done_makes Whichever (λ w. (at : Counts) → w at ≡ what.Restored b own) b tt tt (ActiveFromRecovery own) fuses capsule (what.Restored b own) (λ at. refl) story) (what.Restored b level) n in
      cc
  work_restored fuses capsule (ActiveFromStaging dynamic) story level n =
      absurd (said_all IsNoRestore (work_of (job_notes b) accepts b fuses capsule (ActiveFromStaging dynamic) story) story
      (done_makes Whichever (λ w. (at : Counts) → IsNoRestore (w at)) b tt tt (ActiveFromStaging dynamic) fuses capsule (what.Updated b dynamic capsule.manifest.svn) (λ at. tt) story) (what.Restored b level) n)
  work_restored fuses capsule RecoveryFromStaging story level n =
      absurd (said_all IsNoRestore (work_of (job_notes b) accepts b fuses capsule RecoveryFromStaging story) story
      (recovery_work_makes Whichever (λ w. (at : Counts) → IsNoRestore (w at)) b tt tt (what.Abandoned b) (λ svn. what.RecoveryUpdated b svn) (λ at. tt) (λ svn at. tt) accepts fuses capsule story) (what.Restored b level) n)

  abbrev IsResumedIn : List Note → ℕ → Type 0
  IsResumedIn notes level = IsNoted notes (what.Resumed b (ActiveFromRecovery level))

  given_up_never : (story : Story) (level : ℕ) → ¬ IsNoted (said (abandoned (what.Abandoned b) b story) story) (what.Restored b level)
  given_up_never story level n = said_all IsNoRestore (abandoned (what.Abandoned b) b story) story (gives_none story) (what.Restored b level) n

  if_restored : (t : Bool) (fuses : FusesState) (capsule : CapsuleState) (kind : JobKind) (story : Story) (level : ℕ) → IsNoted (said (resumed_if t (job_notes b) accepts b fuses capsule kind story) story) (what.Restored b level)
      → IsResumedIn (said (resumed_if t (job_notes b) accepts b fuses capsule kind story) story) level
  if_restored true fuses capsule kind story level (inl e) = absurd cc
  if_restored true fuses capsule kind story level (inr n) =
      inl (ap (λ (k : JobKind). what.Resumed b k) (work_restored fuses capsule kind (noted (λ _. what.Resumed b kind) story) level n))
  if_restored false fuses capsule kind story level n = absurd (given_up_never story level n)

  source_restored : (fuses : FusesState) (kind : JobKind) (digest : List ℕ) (judged : Result CapsuleState CapsuleFail) (story : Story) (level : ℕ)
      → IsNoted (said (by_source (job_notes b) accepts b fuses kind digest judged story) story) (what.Restored b level)
      → IsResumedIn (said (by_source (job_notes b) accepts b fuses kind digest judged story) story) level
  source_restored fuses kind digest (Ok capsule) story level n = if_restored (same_digest capsule.digest digest) fuses capsule kind story level n
  source_restored fuses kind digest (Err cause) story level n = absurd (given_up_never story level n)

  open_restored : (fuses : FusesState) (opened : OpenJob) (story : Story) (level : ℕ) → IsNoted (said (by_open (job_notes b) accepts b fuses opened story) story) (what.Restored b level)
      → IsResumedIn (said (by_open (job_notes b) accepts b fuses opened story) story) level
  open_restored fuses job.None story level n = absurd n
  open_restored fuses job.Bad story level n = absurd (given_up_never story level n)
  open_restored fuses (job.Job kind digest) story level n = source_restored fuses kind digest (judged_source accepts b fuses kind story) story level n

  restored_by : (r : Result FusesState LockWhy) (story : Story) (level : ℕ) → IsNoted (said (taken_by r story) story) (what.Restored b level) → IsResumedIn (said (taken_by r story) story) level
  restored_by (Ok fuses) story level n = open_restored fuses (open_job (store story) b) story level n
  restored_by (Err why) story level n = absurd n

  pub taken_restored : (story : Story) (level : ℕ) → IsNoted (said (taken story) story) (what.Restored b level) → IsNoted (said (taken story) story) (what.Resumed b (ActiveFromRecovery level))
  taken_restored story level n = restored_by (ready_of b story) story level n
