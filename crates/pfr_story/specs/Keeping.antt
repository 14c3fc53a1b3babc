-- What a platform carries of a bank's whole history.
use Rattle.std.specs.Prelude.{◌≡◌, ℕ, List, Ok}
use Rattle.pfr_flash.specs.declared.names.Bank.{Bank}
use Rattle.pfr_flash.specs.declared.names.Device.TheVariants.{Nv}
use Rattle.pfr_engine.specs.Acceptance.{Acceptance}
use Rattle.pfr_fuses.specs.FusesState.{FusesState}
use Rattle.pfr_fuses.specs.FusesOf.{fuses_of}
use Rattle.pfr_fuses.specs.declared.profile.Profile.TheVariants.{Two}
use Rattle.pfr_jobs.specs.Log.{open_job}
use Rattle.pfr_jobs.specs.declared.job.OpenJob.TheVariants as job
use Rattle.pfr_story.specs.Story.{Story, image_at}
use Rattle.pfr_story.specs.Standing.{standing_of, Running}
use Rattle.pfr_story.specs.Spans.{ReleasedSpans}

-- the store is provisioned, and of profile 2
pub record IsSettled (nv : List ℕ) : Type 0 where
  pub fuses : FusesState
  pub provisioned : fuses_of nv ≡ Ok fuses
  pub two : fuses.profile ≡ Two

-- The bank was trusted throughout each span in which it stood released; and while it stands so, the store needs no migration, and no
-- job of the bank is open.
pub record HasTrustedSpans (accepts : Acceptance) (which : Bank) (story : Story) : Type 0 where
  pub spans : ReleasedSpans accepts which story
  pub settled : standing_of which story.notes ≡ Running → IsSettled (image_at Nv story)
  pub idle : standing_of which story.notes ≡ Running → open_job (image_at Nv story) which ≡ job.None
