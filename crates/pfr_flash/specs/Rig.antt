-- What is armed in a flash in memory, and how its next erase or program ends.
use Rattle.std.specs.Prelude.{ℕ, ◌+◌, ◌-◌, ◌<◌, false, nat_lt, ◌==◌, if◌then◌else◌, List, [], length, Option, Some, None, slice_index_or}
use Rattle.pfr_flash.specs.Operation.{Operation, torn_by}
use Rattle.pfr_flash.specs.FlashState.{FlashState, Due, Ending, raised_by}
use Rattle.pfr_flash.specs.FlashState as ending
use Rattle.pfr_flash.specs.Cells.{CellsState, tear_at, cells_now, with_cell_op}
use Rattle.pfr_flash.specs.declared.rig.Arm.{Arm}
use Rattle.pfr_flash.specs.declared.rig.Rig.{Rig}
use Rattle.pfr_flash.specs.declared.rig.Outcome.{Outcome}
use Rattle.pfr_flash.specs.declared.rig.Outcome.TheVariants.{Off, Full, Cut, Broken, Done}

-- what an arm is, by the tears that are kept
abbrev pub due_of : List (List ℕ) → Option Arm → Option Due
due_of tears None = None
due_of tears (Some arm) = Some (record { number = arm.number; tear = slice_index_or tears arm.tear [] })

abbrev pub IsKnownArm : ℕ → Option Arm → Type 0
IsKnownArm count None = Unit {0}
IsKnownArm count (Some arm) = arm.tear < count

-- how many losses an arm may bring
abbrev pub losses_to_come : Option Arm → ℕ
losses_to_come None = 0
losses_to_come (Some arm) = 1

-- what stays armed once the operation of this number is done
abbrev pub arm_after : ℕ → Option Arm → Option Arm
arm_after number None = None
arm_after number (Some arm) = if arm.number == number then None else Some arm

-- an outcome as contracts see it
abbrev pub ending_at : List (List ℕ) → Outcome → Ending
ending_at tears Off = ending.Off
ending_at tears Full = ending.Full
ending_at tears (Cut tear) = ending.Cut (slice_index_or tears tear [])
ending_at tears (Broken tear) = ending.Broken (slice_index_or tears tear [])
ending_at tears Done = ending.Done

-- the tear of a torn outcome is kept
abbrev pub IsKnownOutcome : ℕ → Outcome → Type 0
IsKnownOutcome count Off = Unit {0}
IsKnownOutcome count Full = Unit {0}
IsKnownOutcome count (Cut tear) = tear < count
IsKnownOutcome count (Broken tear) = tear < count
IsKnownOutcome count Done = Unit {0}

-- the outcome adds an operation
abbrev pub IsFree : Outcome → Type 0
IsFree Off = ⊥
IsFree Full = ⊥
IsFree (Cut tear) = Unit {0}
IsFree (Broken tear) = Unit {0}
IsFree Done = Unit {0}

abbrev pub cells_after : Operation → CellsState → Outcome → CellsState
cells_after op cells Off = cells
cells_after op cells Full = cells
cells_after op cells (Cut tear) = with_cell_op cells (torn_by (tear_at cells tear) (cells_now cells) op)
cells_after op cells (Broken tear) = with_cell_op cells (torn_by (tear_at cells tear) (cells_now cells) op)
cells_after op cells Done = with_cell_op cells op

abbrev pub rig_after : ℕ → Rig → Outcome → Rig
rig_after number rig Off = rig
rig_after number rig Full = record rig { faults = raised_by rig.faults 1 }
rig_after number rig (Cut tear) = record rig { powered = false; losses = rig.losses + 1; cut = None; fault = arm_after number rig.fault }
rig_after number rig (Broken tear) = record rig { faults = raised_by rig.faults 1; fault = None }
rig_after number rig Done = rig

-- the device that cells and what is armed make
abbrev pub device_of : CellsState → Rig → ℕ → ℕ → FlashState
device_of cells rig taken read_fault = record {
  start = cells.start;
  ops = cells.ops;
  powered = rig.powered;
  faults = rig.faults;
  losses = rig.losses;
  arms = 256 - length cells.tears;
  room = cells.room;
  taken = taken;
  cut_due = due_of cells.tears rig.cut;
  fault_due = due_of cells.tears rig.fault;
  read_due = nat_lt 0 read_fault;
}
