-- What is done at an event.
use Rattle.std.specs.Prelude.{◌≡◌, ◌≢◌, ◌⊎◌, Bool, true, false, []}
use Rattle.pfr_engine.specs.Acceptance.{Acceptance}
use Rattle.pfr_auth.specs.Trusted.{IsTrusted}
use Rattle.pfr_flash.specs.FlashState.{now}
use Rattle.pfr_flash.specs.declared.names.Bank.{Bank}
use Rattle.pfr_flash.specs.declared.names.Bank.TheVariants.{Bmc}
use Rattle.pfr_jobs.specs.Log.{open_job}
use Rattle.pfr_jobs.specs.declared.job.OpenJob.TheVariants as job
use Rattle.pfr_story.specs.Keeping.{IsSettled}
use Rattle.pfr_story.specs.Story.{device_of}
use Rattle.pfr_machine.specs.Inside.{IsWhole}
use Rattle.pfr_script.specs.declared.event.Event.{Event}
use Rattle.pfr_script.specs.Slots.{IsKnownSlot}
use Rattle.pfr_story.specs.Course.{Follows}
use Rattle.pfr_story.specs.Promises.{IsIdle, IsUneventful, Runs}
use Rattle.pfr_story.specs.Standing.{standing_of, Off}
use Rattle.pfr_story.specs.Turn.{course, is_idle}
use Rattle.pfr_story.specs.World.{World, IsDark, SameDevices, added, state_at, story_of}
use Rattle.pfr_machine.specs.Ready.{LeavesWhole}
use Rattle.pfr_machine.specs.Watching.{clocked}

-- A whole platform, whose banks are trusted where they run, with the store settled and no job open.
pub record RestsSo (accepts : Acceptance) (w : World) : Type 0 where
  pub whole : IsWhole w
  pub settled : (which : Bank) → Runs which w → IsSettled (now w.nv)
  pub idle : (which : Bank) → Runs which w → open_job (now w.nv) which ≡ job.None
  pub trusted : (which : Bank) → Runs which w → IsTrusted (now (state_at (device_of which) w)) (now w.nv) which accepts

-- An event was done as its course has it, and left a whole platform.
pub record TurnsSo (accepts : Acceptance) (e : Event) (old new : World) : Type 0 where
  pub follows : Follows (course accepts e (story_of old)) (clocked e old) new
  pub leaves : LeavesWhole 64 old new
  pub dark : is_idle e (story_of old) ≡ false → added old new ≢ [] → standing_of Bmc new.notes.list ≡ Off → IsDark new
  pub untouched : IsIdle e old ⊎ IsUneventful e old → SameDevices old new
  pub spelled : standing_of Bmc old.notes.list ≢ Off → IsKnownSlot e

-- it was, or nothing was done
abbrev pub TurnsIf : Bool → Acceptance → Event → World → World → Type 0
TurnsIf true accepts e old new = TurnsSo accepts e old new
TurnsIf false accepts e old new = new ≡ old
