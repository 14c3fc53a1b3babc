-- The store after a job was begun, groups were marked in it, and it was finished, byte for byte.
use Rattle.std.specs.Prelude.{◌≡◌, ℕ, ◌+◌, ◌*◌, ◌==◌, if◌then◌else◌, List, [], ◌∷◌, ◌++◌, Option, Some, None}
use Rattle.pfr_flash.specs.Bytes.{bytes_at, written, blank}
use Rattle.pfr_flash.specs.FlashState.{FlashState}
use Rattle.pfr_flash.specs.FuseRow.{with_cleared}
use Rattle.pfr_flash.specs.Operation.{Operation}
use Rattle.pfr_flash.specs.Range.{AllWithin}
use Rattle.pfr_flash.specs.declared.names.Bank.{Bank}
use Rattle.pfr_jobs.specs.Log.{log_at, spent_in, selector, page_by, current_at, current_page, used_in, first_unspent, last_gated, open_job}
use Rattle.pfr_jobs.specs.LogPlans.{body_of}
use Rattle.pfr_jobs.specs.LogState.{no_marks, marks_of}
use Rattle.pfr_jobs.specs.declared.job.JobKind.{JobKind}
use Rattle.pfr_jobs.specs.declared.job.OpenJob.{OpenJob}
use Rattle.pfr_jobs.specs.declared.job.OpenJob.TheVariants as job

-- ---- begun
-- the slot at a place has the gate 0x00, and behind it a job
abbrev pub with_job : List ℕ → ℕ → JobKind → List ℕ → List ℕ
with_job nv at kind digest = written nv at (0 ∷ body_of kind digest)

-- the other page is blank, and by this byte of the selector the current one
abbrev pub switched : List ℕ → Bank → ℕ → List ℕ
switched nv bank at = written (written nv (page_by bank (spent_in (selector nv bank) + 1)) blank) (log_at bank + 0x2000 + at) (0 ∷ [])

abbrev pub begun_by : List ℕ → Bank → ℕ → Option ℕ → JobKind → List ℕ → List ℕ
begun_by nv bank used None kind digest = with_job nv (current_at nv bank + 64 * used) kind digest
begun_by nv bank used (Some at) kind digest =
    if used == 64
    then with_job (switched nv bank at) (page_by bank (spent_in (selector nv bank) + 1)) kind digest
    else with_job nv (current_at nv bank + 64 * used) kind digest

-- A job is written to the first slot behind those that were used; where there is none, to the first one of the other page.
unfoldable pub begun : List ℕ → Bank → JobKind → List ℕ → List ℕ
begun nv bank kind digest = begun_by nv bank (used_in (current_page nv bank) 64) (first_unspent (selector nv bank)) kind digest

-- this job is open, and no group is marked in it
pub record IsOpened (nv : List ℕ) (bank : Bank) (kind : JobKind) (digest : List ℕ) : Type 0 where
  pub job : open_job nv bank ≡ job.Job kind digest
  pub unmarked : marks_of nv bank ≡ no_marks

-- ---- marked
-- the row with these fuses cleared
abbrev pub all_cleared : List ℕ → List ℕ → List ℕ
all_cleared row [] = row
all_cleared row (bit ∷ bits) = all_cleared (with_cleared row bit) bits

abbrev pub marked_by : List ℕ → ℕ → Option ℕ → List ℕ → List ℕ
marked_by nv page None groups = nv
marked_by nv page (Some k) groups = written nv (page + 64 * k + 36) (all_cleared (bytes_at nv (page + 64 * k + 36) 16) groups)

-- these groups are marked in the open slot
unfoldable pub marked : List ℕ → Bank → List ℕ → List ℕ
marked nv bank groups = marked_by nv (current_at nv bank) (last_gated (current_page nv bank) 64) groups

-- ---- finished
abbrev pub finished_by : List ℕ → ℕ → Option ℕ → List ℕ
finished_by nv page None = nv
finished_by nv page (Some k) = written nv (page + 64 * k + 63) (0 ∷ [])

-- the end of the open slot is 0x00
unfoldable pub finished : List ℕ → Bank → List ℕ
finished nv bank = finished_by nv (current_at nv bank) (last_gated (current_page nv bank) 64)

-- ---- a whole job
-- Where a job is open already, none is begun.
abbrev pub begun_unless : OpenJob → List ℕ → Bank → JobKind → List ℕ → List ℕ
begun_unless job.None nv bank kind digest = begun nv bank kind digest
begun_unless job.Bad nv bank kind digest = nv
begun_unless (job.Job was old) nv bank kind digest = nv

unfoldable pub logged : List ℕ → Bank → JobKind → List ℕ → List ℕ → List ℕ
logged nv bank kind digest groups = finished (marked (begun_unless (open_job nv bank) nv bank kind digest) bank groups) bank

-- ---- on the device
-- each operation that was added, whole or torn, touches only bytes of the bank's three sectors
pub record StaysInLog (bank : Bank) (old new : FlashState) : Type 0 where
  pub added : List Operation
  pub is : new.ops ≡ old.ops ++ added
  pub within : AllWithin (log_at bank) 0x3000 added
