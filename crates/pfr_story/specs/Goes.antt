-- How work that follows a plan ends.
use Rattle.std.specs.Prelude.{◌≡◌, List, Result, Ok, Err}
use Rattle.pfr_flash.specs.declared.flash.FlashFail.{FlashFail}
use Rattle.pfr_flash.specs.declared.names.Device.{Device}
use Rattle.pfr_story.specs.Story.{Move, Plan, after, IsCut}
use Rattle.pfr_story.specs.World.{World, story_of, AllMoved, NoneFailed, NoneLost, Caused}
use Rattle.pfr_story.specs.declared.stop.Stop.{Stop}

-- all of the moves were made
pub record Ran (moves : List Move) (old new : World) : Type 0 where
  pub is : story_of new ≡ after moves (story_of old)
  pub moved : AllMoved old new
  pub none_lost : NoneLost old new
  pub none_failed : NoneFailed old new

-- a call of this device failed on the way
pub record Stopped (moves : List Move) (which : Device) (fail : FlashFail) (old new : World) : Type 0 where
  pub trace : List Move
  pub cut : IsCut which moves (story_of old) trace
  pub is : story_of new ≡ after trace (story_of old)
  pub cause : Caused which fail old new
  pub moved : AllMoved old new

-- At Ok all of the plan was done. At Err a front of it, and the call that failed.
abbrev pub Goes : {T : Type 0} → Plan → World → World → Result T Stop → Type 0
Goes plan old new (Ok x) = Ran (plan (story_of old)) old new
Goes plan old new (Err stop) = Stopped (plan (story_of old)) stop.device stop.fail old new
