-- What a bench promises of failures: they are those of its script, and no others.
use Rattle.std.specs.Prelude.{◌≡◌, ℕ, ◌+◌, List, take}
use Rattle.pfr_flash.specs.declared.names.Device.{Device}
use Rattle.pfr_engine.specs.Accepting.{acceptance}
use Rattle.pfr_script.specs.Arms.{arms_in}
use Rattle.pfr_script.specs.declared.item.Item.{Item}
use Rattle.pfr_story.specs.CalmRun.{calm_run}
use Rattle.pfr_story.specs.FaultCount.{LocksAreCounted}
use Rattle.pfr_story.specs.Promises.{HasLost, IsUndisturbed}
use Rattle.pfr_story.specs.Run.{Reached}
use Rattle.pfr_story.specs.Scripted.{ByScript, HasRoomLeft, IsUnarmed}
use Rattle.pfr_story.specs.Story.{Story}
use Rattle.pfr_story.specs.World.{World, past_of, state_at, story_of}
use Rattle.pfr.specs.Benches.{IsRun, StandsAs, end_of, fresh_of}
use Rattle.pfr.specs.declared.finished.Bench.{Bench}

-- Each lock for a fault has a fault that was counted, and each fault a lock: no fault of a device was passed over, and none made up.
abbrev pub CountsFaults : Bench → Type 0
CountsFaults bench = LocksAreCounted (end_of bench)

-- Each item goes by the script: an arm arms its device by its line, and each device fails as it is armed to, or for want of room, and
-- no other way. Of a device's 256 arms those are left that no line of the items took.
pub record HasScriptsFaults (bench : Bench) : Type 0 where
  pub count : ℕ
  pub end : World
  pub reached : Reached (ByScript bench.script.tears) (take count bench.script.items) (fresh_of bench) end
  pub left : StandsAs end (end_of bench)
  pub arms : (which : Device) → (state_at which end).arms + arms_in which (take count bench.script.items) ≡ 256

-- Where the script arms nothing and no room is spent, no fault and no loss of a device's power is noted.
abbrev pub StaysUndisturbed : Bench → Type 0
StaysUndisturbed bench = IsUnarmed bench.script.items → HasRoomLeft (end_of bench) → IsUndisturbed bench.notes.list × ((which : Device) → ¬ HasLost which bench.notes.list)

-- the devices and the notes are those of this story
pub record IsToldBy (story : Story) (bench : Bench) : Type 0 where
  pub bmc : past_of bench.bmc.device ≡ story.bmc
  pub pch : past_of bench.pch.device ≡ story.pch
  pub nv : past_of bench.nv.device ≡ story.nv
  pub notes : bench.notes.list ≡ story.notes

-- What a run comes to whose items arm nothing, and whose rooms are not spent, its notes and its images, is a function of the images, of
-- what the engine accepts and of the items.
abbrev pub RunsCalm : Bench → Type 0
RunsCalm bench = (items : List Item) → IsRun items bench → IsUnarmed items → HasRoomLeft (end_of bench)
    → IsToldBy (calm_run (acceptance bench.engine) items (story_of (fresh_of bench))) bench
