-- How a whole step goes: stretch by stretch, each of which a failed device call may cut short.
use Rattle.std.specs.Prelude.{Bool, true, false, List, [], ◌∷◌, ◌⊎◌, Some}
use Rattle.pfr_flash.specs.declared.flash.FlashFail.TheVariants.{Fault, Lost as Loses}
use Rattle.pfr_flash.specs.declared.names.Device.{Device}
use Rattle.pfr_report.specs.declared.note.What.TheVariants.{Lost}
use Rattle.pfr_story.specs.Story.{Move, Says, Plan, then}
use Rattle.pfr_story.specs.World.{World, story_of}
use Rattle.pfr_story.specs.Goes.{Ran, Stopped}

-- One stretch of a step.
pub record Stretch : Type 0 where
  -- what is to be done
  pub plan : Plan
  -- what is noted where a device answers Fault, in place of the rest, and whether the step goes on then
  pub on_fault : Device → List Move
  pub goes_on : Bool

abbrev pub lost : Device → List Move
lost which = Says (Lost (Some which)) ∷ []

-- all of it was done
abbrev pub Crosses : Stretch → World → World → Type 0
Crosses stretch old new = Ran (stretch.plan (story_of old)) old new

-- it was cut short at a fault of this device, and this was noted
pub record Faults (stretch : Stretch) (old new : World) : Type 0 where
  pub which : Device
  pub at : World
  pub stopped : Stopped (stretch.plan (story_of old)) which Fault old at
  pub noted : Ran (stretch.on_fault which) at new

-- this device lost the power on the way, and this was noted
pub record LosesPower (stretch : Stretch) (old new : World) : Type 0 where
  pub which : Device
  pub at : World
  pub stopped : Stopped (stretch.plan (story_of old)) which Loses old at
  pub noted : Ran (lost which) at new

-- nothing more is done
abbrev pub Ends : World → World → Type 0
Ends old new = Ran [] old new

abbrev pub goes_on_if : Bool → (World → World → Type 0) → World → World → Type 0
goes_on_if true steps = steps
goes_on_if false steps = Ends

-- the first of these, and the second from where it leads
abbrev pub After : (World → World → Type 0) → (World → World → Type 0) → World → World → Type 0
After first second old new = (mid : World) × first old mid × second mid new

-- A step along these stretches.
abbrev pub Steps : List Stretch → World → World → Type 0
Steps [] old new = Ends old new
Steps (stretch ∷ stretches) old new =
    After (Crosses stretch) (Steps stretches) old new
    ⊎ After (Faults stretch) (goes_on_if stretch.goes_on (Steps stretches)) old new
    ⊎ LosesPower stretch old new

-- the step goes on after the first stretch
abbrev pub CrossesOrFaults : Stretch → World → World → Type 0
CrossesOrFaults stretch old new = Crosses stretch old new ⊎ Faults stretch old new

-- What the stretches do where no call fails.
abbrev pub calm_of : List Stretch → Plan
calm_of [] story = []
calm_of (stretch ∷ stretches) story = then stretch.plan (calm_of stretches) story

-- What a step notes at first, without a device call, and the stretches that follow.
pub record Course : Type 0 where
  pub first : List Move
  pub stretches : List Stretch

-- a step along a course
abbrev pub Follows : Course → World → World → Type 0
Follows course old new = After (Ran course.first) (Steps course.stretches) old new

-- the same where no call fails: all its moves are made
abbrev pub Calm : Course → World → World → Type 0
Calm course old new = Ran (then (λ story. course.first) (calm_of course.stretches) (story_of old)) old new
