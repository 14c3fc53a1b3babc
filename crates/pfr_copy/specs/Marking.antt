-- What a pass does with the marks of a bank's log.
use Rattle.std.specs.Prelude.{◌≡◌, ◌≢◌, ℕ, List, length}
use Rattle.pfr_flash.specs.declared.layout.Layout.{Layout}
use Rattle.pfr_flash.specs.declared.names.Bank.{Bank}
use Rattle.pfr_capsule.specs.CapsuleState.{CapsuleState}
use Rattle.pfr_jobs.specs.Log.{open_job}
use Rattle.pfr_jobs.specs.LogState.{LogState, log_of}
use Rattle.pfr_jobs.specs.declared.job.JobKind.{JobKind}
use Rattle.pfr_jobs.specs.declared.job.OpenJob.TheVariants as job
use Rattle.pfr_strokes.specs.Deeds.{Deed}
use Rattle.pfr_rebuilt.specs.Passing.{active_heeding, active_ignoring, group_pages, heeding, ignoring, recovery_heeding, recovery_ignoring}
use Rattle.pfr_copy.specs.Working.{job_page, job_pages}
use Rattle.pfr_copy.specs.declared.marks.Marks.{Marks}
use Rattle.pfr_copy.specs.declared.marks.Marks.TheVariants.{Heed, Ignore, Without}

-- a bank's log in a store of so many bytes, as it is kept, has a job open
pub record IsLogOpen (bank : Bank) (nv : List ℕ) (size : ℕ) (log : LogState) : Type 0 where
  pub whole : size ≡ 32768
  pub stands : log ≡ log_of nv bank
  pub opened : open_job nv bank ≢ job.None

-- what must be known of the log
abbrev pub HasLog : Marks → Bank → List ℕ → ℕ → LogState → Type 0
HasLog Heed bank nv size log = IsLogOpen bank nv size log
HasLog Ignore bank nv size log = IsLogOpen bank nv size log
HasLog Without bank nv size log = Unit {0}

-- where marks are set the log is the store's then; else it is as it was
abbrev pub LogStays : Marks → Bank → List ℕ → LogState → LogState → Type 0
LogStays Heed bank nv old new = new ≡ log_of nv bank
LogStays Ignore bank nv old new = new ≡ old
LogStays Without bank nv old new = new ≡ old

-- ---- what is done
abbrev pub active_deeds : Marks → JobKind → Bank → List ℕ → List ℕ → CapsuleState → Layout → List Deed
active_deeds Heed kind bank image nv capsule layout = active_heeding kind bank image nv capsule layout
active_deeds Ignore kind bank image nv capsule layout = active_ignoring kind image capsule layout
active_deeds Without kind bank image nv capsule layout = active_ignoring kind image capsule layout

abbrev pub recovery_deeds : Marks → Bank → List ℕ → List ℕ → CapsuleState → Layout → List Deed
recovery_deeds Heed bank image nv capsule layout = recovery_heeding bank image nv capsule.length layout
recovery_deeds Ignore bank image nv capsule layout = recovery_ignoring image capsule.length layout
recovery_deeds Without bank image nv capsule layout = recovery_ignoring image capsule.length layout

-- of a job of any kind
abbrev pub marks_deeds : Marks → Bank → List ℕ → (ℕ → List ℕ) → ℕ → List ℕ → List Deed
marks_deeds Heed bank nv content group pages = heeding bank nv content group pages
marks_deeds Ignore bank nv content group pages = ignoring content group pages
marks_deeds Without bank nv content group pages = ignoring content group pages

abbrev pub job_deeds : Marks → JobKind → Bank → List ℕ → List ℕ → CapsuleState → Layout → List Deed
job_deeds marks kind bank image nv capsule layout = marks_deeds marks bank nv (job_page kind image capsule layout) (group_pages (length image)) (job_pages kind image capsule layout)
