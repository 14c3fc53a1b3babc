-- What a bench is the bench of.
use Rattle.std.specs.Prelude.{◌≡◌, ℕ, ◌*◌, ◌/◌, List, [], Some, length, take}
use Rattle.pfr_flash.specs.FlashState.{FlashState}
use Rattle.pfr_flash.specs.MemFlash.{new_device}
use Rattle.pfr_engine.specs.Accepting.{acceptance}
use Rattle.pfr_script.specs.Arms.{FewArms, FewItems}
use Rattle.pfr_script.specs.ScriptState.{ScriptState}
use Rattle.pfr_script.specs.Slots.{KnownSlots}
use Rattle.pfr_script.specs.declared.item.Item.{Item}
use Rattle.pfr_report.specs.Texts.{AllText}
use Rattle.pfr_story.specs.Guards.{first_guards}
use Rattle.pfr_story.specs.World.{World}
use Rattle.pfr_story.specs.Run.{Did, Reached}
use Rattle.pfr_machine.specs.Inside.{HasSizes}
use Rattle.pfr_shelf.specs.Files.{Files}
use Rattle.pfr.specs.Judging.{HoldsRows, HoldsScript}
use Rattle.pfr.specs.Request.{RunRequest}
use Rattle.pfr.specs.declared.finished.Bench.{Bench}

-- a device as it was made, with no operation done and nothing armed
abbrev pub made_as : FlashState → FlashState
made_as d = new_device d.start d.room

-- the platform before its first item
abbrev pub fresh_of : Bench → World
fresh_of bench = record {
  bmc = made_as bench.bmc.device;
  pch = made_as bench.pch.device;
  nv = made_as bench.nv.device;
  item = 0;
  notes = record { list = []; spare = 0 };
  guards = first_guards;
}

-- the platform as it is left
abbrev pub end_of : Bench → World
end_of bench = record {
  bmc = bench.bmc.device;
  pch = bench.pch.device;
  nv = bench.nv.device;
  item = length bench.script.items;
  notes = bench.notes;
  guards = first_guards;
}

-- the devices and the notes are those of that world
pub record StandsAs (there here : World) : Type 0 where
  pub bmc : here.bmc ≡ there.bmc
  pub pch : here.pch ≡ there.pch
  pub nv : here.nv ≡ there.nv
  pub notes : here.notes.list ≡ there.notes.list

-- These items were done, by the bench's engine and with its script's tears, and nothing else.
pub record IsRun (items : List Item) (bench : Bench) : Type 0 where
  pub end : World
  pub reached : Reached (Did (acceptance bench.engine) bench.script.tears) items (fresh_of bench) end
  pub left : StandsAs end (end_of bench)

-- what every script keeps: it has so few items and arms, and what it provisions are slots
pub record KeepsLimits (script : ScriptState) : Type 0 where
  pub few : FewItems script.items
  pub arms : FewArms script.items
  pub slots : KnownSlots script.items

-- the first of its script's items were done, or all
pub record HasRun (bench : Bench) : Type 0 where
  pub count : ℕ
  pub run : IsRun (take count bench.script.items) bench
  pub limits : KeepsLimits bench.script
  pub sizes : HasSizes (fresh_of bench)
  pub texts : AllText bench.notes.list

-- a page of a bank is rewritten by 17 operations, an erase and 16 programs, and there is room to rewrite each so many times
abbrev pub bank_room : ℕ → ℕ → ℕ
bank_room wear size = wear * 17 * (size / 4096)

pub record HasRooms (wear : ℕ) (bench : Bench) : Type 0 where
  pub bmc : bench.bmc.device.room ≡ bank_room wear (length bench.bmc.device.start)
  pub pch : bench.pch.device.room ≡ bank_room wear (length bench.pch.device.start)
  pub nv : bench.nv.device.room ≡ 65536

-- the devices were made with the files' bytes, and the engine's rows and the script are what their files say
pub record IsMadeOf (files : Files) (request : RunRequest) (bench : Bench) : Type 0 where
  pub bmc : files request.bmc ≡ Some bench.bmc.device.start
  pub pch : files request.pch ≡ Some bench.pch.device.start
  pub nv : files request.nv ≡ Some bench.nv.device.start
  pub engine : HoldsRows files request.engine bench.engine
  pub script : HoldsScript files request.script bench.script
