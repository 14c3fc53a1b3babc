-- What a step leaves of work on a bank that is a job, whatever failed on the way.
use Rattle.std.specs.Prelude.{◌≡◌, ◌⊎◌, ℕ, List}
use Rattle.pfr_flash.specs.FlashState.{now}
use Rattle.pfr_flash.specs.declared.names.Bank.{Bank}
use Rattle.pfr_flash.specs.declared.names.Counts.{Counts}
use Rattle.pfr_jobs.specs.Log.{open_job}
use Rattle.pfr_jobs.specs.declared.job.JobKind.{JobKind}
use Rattle.pfr_jobs.specs.declared.job.OpenJob.TheVariants as job
use Rattle.pfr_story.specs.Story.{device_of}
use Rattle.pfr_story.specs.World.{World, counts_in, state_at}
use Rattle.pfr_story.specs.Promises.{count_at}

-- Of a job of this kind, on the capsule with this digest, which is to make this image of a bank: nothing was done to the bank since these
-- counts, or the job is open, or the image is made.
abbrev pub IsOpenOrMade : Bank → JobKind → List ℕ → List ℕ → World → Counts → Type 0
IsOpenOrMade which kind digest image new at =
    (count_at which (counts_in new) ≡ count_at which at) ⊎ (open_job (now new.nv) which ≡ job.Job kind digest) ⊎ (now (state_at (device_of which) new) ≡ image)
