-- The faults and losses of a run are those of its script, and no others.
use Rattle.std.specs.Prelude.{◌≡◌, ◌⊎◌, ◌↔◌, ℕ, ◌-◌, ◌^◌, ◌<◌, ◌≤◌, true, false, List, [], Some, slice_index_or}
use Rattle.std.specs.List.{All}
use Rattle.pfr_flash.specs.FlashState.{FlashState, Due, op_count_of}
use Rattle.pfr_flash.specs.Moved.{IsTornAt, was_done, meets}
use Rattle.pfr_flash.specs.declared.names.Device.{Device}
use Rattle.pfr_script.specs.declared.item.Item.{Item}
use Rattle.pfr_script.specs.declared.item.Item.TheVariants as item
use Rattle.pfr_report.specs.declared.note.Note.{Note}
use Rattle.pfr_story.specs.World.{World, state_at, AllMoved, added}
use Rattle.pfr_story.specs.Turn.{begun}
use Rattle.pfr_story.specs.Run.{armed}
use Rattle.pfr_story.specs.Promises.{HasLost}
use Rattle.pfr_story.specs.FaultCount.{fault_locks}

-- a bank is locked for a fault of this device
abbrev pub IsLockedFor : Device → List Note → Type 0
IsLockedFor which notes = 1 ≤ fault_locks which notes

-- the operation of its armed fault was done, and no cut tore it
abbrev pub IsBroken : FlashState → FlashState → Type 0
IsBroken old new = (was_done old new old.fault_due ≡ true) × (meets old.cut_due old.fault_due ≡ false)

-- an armed fault of a read came
abbrev pub IsMisread : FlashState → FlashState → Type 0
IsMisread old new = (old.read_due ≡ true) × (new.read_due ≡ false)

-- What an event does to a device, and notes of it, where cuts and faults are armed.
pub record FaultsAreScripts (which : Device) (notes : List Note) (old new : FlashState) : Type 0 where
  -- A loss of its power is noted exactly where the operation of its armed cut was done, which is torn by that line's tear.
  pub lost : HasLost which notes ↔ (was_done old new old.cut_due ≡ true)
  pub cut : (due : Due) → old.cut_due ≡ Some due → was_done old new old.cut_due ≡ true → IsTornAt new due.number due.tear
  -- Where that of its armed fault was done, and no cut tore it, it is torn by that line's tear.
  pub broken : (due : Due) → old.fault_due ≡ Some due → IsBroken old new → IsTornAt new due.number due.tear
  -- A bank is locked for it there, and where an armed fault of a read came; and otherwise only where its room is spent.
  pub locked : IsBroken old new ⊎ IsMisread old new → IsLockedFor which notes
  pub only : IsLockedFor which notes → IsBroken old new ⊎ IsMisread old new ⊎ (op_count_of new ≡ new.room)

-- no count of faults stands at its end
abbrev pub CanCount : World → Type 0
CanCount w = (which : Device) → (state_at which w).faults < 2 ^ 64 - 1

-- each device fails as it is armed to, and no other way
abbrev pub FailsByScript : World → World → Type 0
FailsByScript old new = (which : Device) → FaultsAreScripts which (added old new) (state_at which old) (state_at which new)

-- What an item does to what is armed: an arm sets its device's by its line, and nothing else; in an event each device does what calls
-- do, and fails so.
abbrev pub ByScript : List (List ℕ) → Item → World → World → Type 0
ByScript tears (item.Event e) old new = AllMoved (begun e old) new × FailsByScript old new
ByScript tears (item.Arm arm) old new = new ≡ armed arm (slice_index_or tears arm.tear []) old

-- ---- a script that arms nothing
abbrev pub IsEvent : Item → Type 0
IsEvent (item.Event e) = Unit {0}
IsEvent (item.Arm arm) = ⊥

abbrev pub IsUnarmed : List Item → Type 0
IsUnarmed items = All IsEvent items

-- each device has room for another operation
abbrev pub HasRoomLeft : World → Type 0
HasRoomLeft w = (which : Device) → op_count_of (state_at which w) < (state_at which w).room
