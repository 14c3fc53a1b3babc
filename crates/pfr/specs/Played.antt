-- What was done of a script.
use Rattle.std.specs.Prelude.{◌≡◌, ℕ, ◌≤◌, List, [], length, take}
use Rattle.pfr_flash.specs.MemFlash.{new_device}
use Rattle.pfr_engine.specs.Accepting.{acceptance}
use Rattle.pfr_engine.specs.declared.row.Row.{Row}
use Rattle.pfr_script.specs.ScriptState.{ScriptState}
use Rattle.pfr_script.specs.Arms.{IsKnownArm}
use Rattle.pfr_script.specs.declared.item.Item.{Item}
use Rattle.pfr_script.specs.declared.item.Item.TheVariants as item
use Rattle.pfr_report.specs.Texts.{AllText}
use Rattle.pfr_story.specs.Guards.{first_guards}
use Rattle.pfr_story.specs.World.{World, state_at}
use Rattle.pfr_story.specs.Run.{Did, Reached, takes_arm}
use Rattle.pfr_machine.specs.Inside.{HasSizes}
use Rattle.pfr_machine.specs.Worlds.{PlatformState}
use Rattle.pfr.specs.Benches.{fresh_of, end_of, StandsAs, IsRun, HasRooms, KeepsLimits, bank_room}
use Rattle.pfr.specs.declared.finished.Bench.{Bench}
use Rattle.pfr.specs.declared.load.Loaded.{Loaded}
use Rattle.pfr.specs.declared.playing.Played.{Played}
use Rattle.pfr.specs.declared.playing.Played.TheVariants.{Whole, Part}

-- the platform of what was loaded, before its first item
abbrev pub fresh : ℕ → List ℕ → List ℕ → List ℕ → World
fresh wear bmc pch nv = record {
  bmc = new_device bmc (bank_room wear (length bmc));
  pch = new_device pch (bank_room wear (length pch));
  nv = new_device nv 65536;
  item = 0;
  notes = record { list = []; spare = 0 };
  guards = first_guards;
}

-- an item can be done: its tear is there, and its device has an arm for it
abbrev pub CanDo : ℕ → Item → World → Type 0
CanDo tears (item.Event event) w = Unit {0}
CanDo tears (item.Arm arm) w = IsKnownArm tears (item.Arm arm) × (takes_arm arm.what ≤ (state_at arm.device w).arms)

-- the first items of a script were done, or all
pub record Plays (script : ScriptState) (items : List Item) (old : PlatformState (List Row)) (new : World) : Type 0 where
  pub end : World
  pub reached : Reached (Did (acceptance old.engine) script.tears) items old.world end
  pub left : StandsAs end new

pub record IsPlayedFrom (start : PlatformState (List Row)) (script : ScriptState) (items : List Item) (bench : Bench) : Type 0 where
  pub plays : Plays script items start (end_of bench)
  pub texts : AllText bench.notes.list
  pub judged_by : bench.engine ≡ start.engine
  pub scripted : bench.script ≡ script

abbrev pub PlayedFrom : PlatformState (List Row) → ScriptState → Played → Type 0
PlayedFrom start script (Whole bench) = IsPlayedFrom start script script.items bench
PlayedFrom start script (Part bench) = (count : ℕ) × IsPlayedFrom start script (take count script.items) bench

-- these items were done, on a platform of what was loaded
pub record IsRunOf (wear : ℕ) (loaded : Loaded) (bench : Bench) (items : List Item) : Type 0 where
  pub run : IsRun items bench
  pub limits : KeepsLimits bench.script
  pub sizes : HasSizes (fresh_of bench)
  pub texts : AllText bench.notes.list
  pub rooms : HasRooms wear bench
  pub bmc : bench.bmc.device.start ≡ loaded.bmc.items
  pub pch : bench.pch.device.start ≡ loaded.pch.items
  pub nv : bench.nv.device.start ≡ loaded.nv.items
  pub engine : bench.engine ≡ loaded.engine
  pub script : bench.script ≡ loaded.script

-- all items of the script, or the first of them
abbrev pub PlayedOf : ℕ → Loaded → Played → Type 0
PlayedOf wear loaded (Whole bench) = IsRunOf wear loaded bench bench.script.items
PlayedOf wear loaded (Part bench) = (count : ℕ) × IsRunOf wear loaded bench (take count bench.script.items)
