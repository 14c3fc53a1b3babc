-- What the begin of a job answers.
use Rattle.std.specs.Prelude.{◌≡◌, ℕ, ◌+◌, ◌-◌, ◌*◌, ◌/◌, ◌==◌, true, false, if◌then◌else◌, List, [], ◌∷◌, Option, Some, None, Result, Ok, Err}
use Rattle.pfr_flash.specs.FlashState.{FlashState, now}
use Rattle.pfr_flash.specs.Operation.{Operation, Erase, Program}
use Rattle.pfr_flash.specs.Plan.{Follows}
use Rattle.pfr_flash.specs.declared.names.Bank.{Bank}
use Rattle.pfr_jobs.specs.Log.{log_at}
use Rattle.pfr_jobs.specs.LogPlans.{begin_plan}
use Rattle.pfr_jobs.specs.LogState.{LogState, is_spent}
use Rattle.pfr_jobs.specs.declared.job.JobKind.{JobKind}
use Rattle.pfr_jobs.specs.declared.log.JobFail.{JobFail}
use Rattle.pfr_jobs.specs.declared.log.JobFail.TheVariants.{Spent, Flash}

-- It is refused exactly where the log is spent, and then nothing is done; else its plan is followed.
abbrev pub Begins : Bank → JobKind → List ℕ → FlashState → FlashState → Result (Unit {0}) JobFail → Type 0
Begins bank kind digest old new (Ok x) = (is_spent (now old) bank ≡ false) × Follows {A = Unit {0}} (begin_plan (now old) bank kind digest) old new (Ok x)
Begins bank kind digest old new (Err Spent) = (is_spent (now old) bank ≡ true) × (new ≡ old)
Begins bank kind digest old new (Err (Flash fail)) = (is_spent (now old) bank ≡ false) × Follows {A = Unit {0}} (begin_plan (now old) bank kind digest) old new (Err fail)

-- ---- the slot that the next job takes
-- the page that isn't current
abbrev pub other_page : LogState → ℕ
other_page log = 2 * log_at log.bank + 4096 - log.page

abbrev pub freeing_by : LogState → Option ℕ → List Operation
freeing_by log None = []
freeing_by log (Some at) = if log.used == 64 then Erase (other_page log / 4096) ∷ Program (log_at log.bank + 0x2000 + at) (0 ∷ []) ∷ [] else []

-- what frees it: where no slot is blank, the other page is erased and made the current one
unfoldable pub freeing : LogState → List Operation
freeing log = freeing_by log log.unspent

abbrev pub free_by : LogState → Option ℕ → ℕ
free_by log None = log.page + 64 * log.used
free_by log (Some at) = if log.used == 64 then other_page log else log.page + 64 * log.used

-- and where it is
unfoldable pub free_slot : LogState → ℕ
free_slot log = free_by log log.unspent
