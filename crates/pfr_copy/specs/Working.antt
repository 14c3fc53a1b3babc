-- The pages that a job writes, whatever its kind.
use Rattle.std.specs.Prelude.{ℕ, ◌/◌, Bool, List, length}
use Rattle.pfr_flash.specs.declared.layout.Layout.{Layout}
use Rattle.pfr_capsule.specs.CapsuleState.{CapsuleState}
use Rattle.pfr_jobs.specs.declared.job.JobKind.{JobKind}
use Rattle.pfr_jobs.specs.declared.job.JobKind.TheVariants.{ActiveFromRecovery, ActiveFromStaging, RecoveryFromStaging}
use Rattle.pfr_strokes.specs.Replaced.{pages_below}
use Rattle.pfr_rebuilt.specs.ActiveCopying.{active_page, is_active_page}
use Rattle.pfr_rebuilt.specs.Copying.{holds_text, recovery_page}
use Rattle.pfr_copy.specs.Applying.{CanApply, CanCopyOver}

-- the capsule can be applied, or copied
abbrev pub CanDo : JobKind → List ℕ → Layout → CapsuleState → Type 0
CanDo (ActiveFromRecovery level) image layout capsule = CanApply image layout capsule
CanDo (ActiveFromStaging dynamic) image layout capsule = CanApply image layout capsule
CanDo RecoveryFromStaging image layout capsule = CanCopyOver image layout capsule

-- page n is one of the job's
unfoldable pub is_job_page : JobKind → List ℕ → CapsuleState → Layout → ℕ → Bool
is_job_page (ActiveFromRecovery level) image capsule layout n = is_active_page (ActiveFromRecovery level) image capsule layout n
is_job_page (ActiveFromStaging dynamic) image capsule layout n = is_active_page (ActiveFromStaging dynamic) image capsule layout n
is_job_page RecoveryFromStaging image capsule layout n = holds_text layout.recovery_at capsule.length n

-- what it is to hold
unfoldable pub job_page : JobKind → List ℕ → CapsuleState → Layout → ℕ → List ℕ
job_page (ActiveFromRecovery level) image capsule layout n = active_page image capsule layout n
job_page (ActiveFromStaging dynamic) image capsule layout n = active_page image capsule layout n
job_page RecoveryFromStaging image capsule layout n = recovery_page image layout.staging_at capsule.length layout n

-- the job's pages, in rising order
abbrev pub job_pages : JobKind → List ℕ → CapsuleState → Layout → List ℕ
job_pages kind image capsule layout = pages_below (is_job_page kind image capsule layout) (length image / 4096)
