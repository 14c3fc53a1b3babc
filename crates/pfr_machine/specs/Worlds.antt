-- The platform as contracts see it: between two events, and while a bank is in work.
use Rattle.std.specs.Prelude.{◌≡◌, ℕ, ◌+◌, ◌-◌, ◌≤◌, Bool, true, false, [], ◌∷◌, ◌++◌, length, Option, Some, None, Result, Ok, Err}
use Rattle.pfr_flash.specs.FlashState.{FlashState}
use Rattle.pfr_flash.specs.declared.flash.FlashFail.TheVariants.{Fault}
use Rattle.pfr_flash.specs.declared.names.Bank.{Bank}
use Rattle.pfr_flash.specs.declared.names.Bank.TheVariants as bank
use Rattle.pfr_flash.specs.declared.names.Counts.{Counts}
use Rattle.pfr_flash.specs.declared.names.Device.{Device}
use Rattle.pfr_flash.specs.declared.names.Device.TheVariants as device
use Rattle.pfr_report.specs.NotesState.{NotesState}
use Rattle.pfr_report.specs.declared.note.What.{What}
use Rattle.pfr_story.specs.Guards.{Guards, guards_after, latch_after, watches_after}
use Rattle.pfr_story.specs.Plans.{Ruling}
use Rattle.pfr_story.specs.Story.{device_of}
use Rattle.pfr_story.specs.World.{World, state_at}
use Rattle.pfr_story.specs.declared.line.Line.{Line}
use Rattle.pfr_story.specs.declared.line.Line.TheVariants as line
use Rattle.pfr_story.specs.declared.stop.Stop.{Stop}
use Rattle.pfr_story.specs.declared.watches.Watches.{Watches}
use Rattle.pfr_machine.specs.declared.board.Board.{Board}
use Rattle.pfr_machine.specs.declared.sides.Sides.{Sides}
use Rattle.pfr_machine.specs.declared.seat.Seat.{Seat}
use Rattle.pfr_machine.specs.declared.seat.Seat.TheVariants as seat

-- ---- a seat
abbrev pub flash_in : {F : Type 0} → Seat F → F
flash_in (seat.Off off) = off.flash
flash_in (seat.Locked locked) = locked.flash
flash_in (seat.Running running) = running.flash

abbrev pub bank_in : {F : Type 0} → Seat F → Bank
bank_in (seat.Off off) = off.bank
bank_in (seat.Locked locked) = locked.bank
bank_in (seat.Running running) = running.bank

abbrev pub line_in : {F : Type 0} → Seat F → Line
line_in (seat.Off off) = line.Off
line_in (seat.Locked locked) = line.Locked
line_in (seat.Running running) = line.Running

-- whether writes of the bank's bus are enabled
abbrev pub latch_in : {F : Type 0} → Seat F → Bool
latch_in (seat.Off off) = false
latch_in (seat.Locked locked) = false
latch_in (seat.Running running) = running.latch

-- what a bank that runs was judged by
abbrev pub ruling_in : {F : Type 0} → Seat F → Option Ruling
ruling_in (seat.Off off) = None
ruling_in (seat.Locked locked) = None
ruling_in (seat.Running running) = Some (record { manifest = running.manifest; layout = running.layout })

-- what a seat tells besides its flash
pub record Sitting : Type 0 where
  pub whose : Bank
  pub line : Line
  pub latch : Bool
  pub ruling : Option Ruling

abbrev pub sits_in : {F : Type 0} → Seat F → Sitting
sits_in s = record { whose = bank_in s; line = line_in s; latch = latch_in s; ruling = ruling_in s }

-- of a bank that is off
abbrev pub sits_off : Bank → Sitting
sits_off which = record { whose = which; line = line.Off; latch = false; ruling = None }

-- ---- latches
-- whether writes of the banks' buses are enabled
pub record Latches : Type 0 where
  pub bmc : Bool
  pub pch : Bool

-- the same by a bank and the other one
abbrev pub latches_by : Bank → Bool → Bool → Latches
latches_by bank.Bmc mine other = record { bmc = mine; pch = other }
latches_by bank.Pch mine other = record { bmc = other; pch = mine }

-- once this is noted
abbrev pub latches_after : What → Latches → Latches
latches_after what latches = record { bmc = latch_after bank.Bmc what latches.bmc; pch = latch_after bank.Pch what latches.pch }

-- ---- the world
abbrev pub guards_by : Watches → Latches → Guards
guards_by watches latches = record {
  bmc = record { watch = watches.bmc; latch = latches.bmc };
  pch = record { watch = watches.pch; latch = latches.pch };
}

-- of two banks' devices and a board, whose store's device is this
abbrev pub world_with : {F : Type 0} → FlashState → FlashState → FlashState → Latches → Board F → World
world_with bmc pch nv latches board = record { bmc = bmc; pch = pch; nv = nv; item = board.item; notes = board.notes; guards = guards_by board.watches latches }

-- the same by the bank in work and the other one
abbrev pub desk_world : {F : Type 0} → Bank → FlashState → FlashState → FlashState → Latches → Board F → World
desk_world bank.Bmc mine other nv latches board = world_with mine other nv latches board
desk_world bank.Pch mine other nv latches board = world_with other mine nv latches board

-- the same by both banks' seats
abbrev pub sides_world : {F : Type 0} → (F → FlashState) → Sides F → World
sides_world device sides =
    desk_world sides.bank (device (flash_in sides.mine)) (device (flash_in sides.other)) (device sides.board.nv) (latches_by sides.bank (latch_in sides.mine) (latch_in sides.other)) sides.board

-- how many operations a bank's device, the other one's and the store have done
abbrev pub counts_by : Bank → ℕ → ℕ → ℕ → Counts
counts_by bank.Bmc mine other nv = record { bmc = mine; pch = other; nv = nv }
counts_by bank.Pch mine other nv = record { bmc = other; pch = mine; nv = nv }

-- another state of this device
abbrev pub with_state : Device → FlashState → World → World
with_state device.Bmc d w = record w { bmc = d }
with_state device.Pch d w = record w { pch = d }
with_state device.Nv d w = record w { nv = d }

-- a note is appended, and moves the watches
abbrev pub pushed : {F : Type 0} → What → Board F → Board F
pushed what board = record board {
  notes = record { list = board.notes.list ++ record { item = board.item; what = what } ∷ []; spare = board.notes.spare - 1 };
  watches = watches_after what board.watches;
}

-- something was noted, which moves the guards
abbrev pub with_note : What → World → World
with_note what w = record w {
  notes = record { list = w.notes.list ++ record { item = w.item; what = what } ∷ []; spare = w.notes.spare - 1 };
  guards = guards_after what w.guards;
}

-- A bank is in work: the bank, and how the other one stands.
pub record DeskState : Type 0 where
  pub bank : Bank
  pub other : Line
  pub world : World

pub record PlatformState (E : Type 0) : Type 0 where
  pub world : World
  pub engine : E

-- ---- what stays

-- at most so many notes were added, for which there was memory
pub record AddsNotes (most : ℕ) (old new : NotesState) : Type 0 where
  pub spare : old.spare ≤ new.spare + most
  pub few : length new.list ≤ length old.list + most

-- the devices that work on a bank calls have power
pub record IsAwake (which : Bank) (w : World) : Type 0 where
  pub mine : (state_at (device_of which) w).powered ≡ true
  pub nv : w.nv.powered ≡ true

-- they do still, unless one lost it
abbrev pub StaysAwake : {T : Type 0} → Bank → World → Result T Stop → Type 0
StaysAwake which w (Ok x) = IsAwake which w
StaysAwake which w (Err stop) = stop.fail ≡ Fault → IsAwake which w

-- Work on a bank that stays held.
pub record Stays {T : Type 0} (most : ℕ) (old new : DeskState) (answer : Result T Stop) : Type 0 where
  pub bank : new.bank ≡ old.bank
  pub other : new.other ≡ old.other
  pub notes : AddsNotes most old.world.notes new.world.notes
  pub awake : StaysAwake old.bank new.world answer

-- nothing changed but the memory that is reserved for notes
pub record SameButRoom {E : Type 0} (old new : PlatformState E) : Type 0 where
  pub list : new.world.notes.list ≡ old.world.notes.list
  pub rest : new ≡ record old { world = record old.world { notes = new.world.notes } }
