-- The platform's devices as they are, its notes and its guards.
use Rattle.std.specs.Prelude.{◌≡◌, ◌≢◌, ℕ, ◌+◌, true, false, List, length, drop}
use Rattle.pfr_flash.specs.FlashState.{FlashState, raised_by, Rose}
use Rattle.pfr_flash.specs.Holding.{HoldsBytes}
use Rattle.pfr_flash.specs.Moved.{Moved}
use Rattle.pfr_flash.specs.declared.flash.FlashFail.{FlashFail}
use Rattle.pfr_flash.specs.declared.flash.FlashFail.TheVariants.{Fault, Lost}
use Rattle.pfr_flash.specs.declared.names.Counts.{Counts}
use Rattle.pfr_flash.specs.declared.names.Device.{Device}
use Rattle.pfr_flash.specs.declared.names.Device.TheVariants as device
use Rattle.pfr_report.specs.NotesState.{NotesState}
use Rattle.pfr_report.specs.declared.note.Note.{Note}
use Rattle.pfr_story.specs.Guards.{Guards}
use Rattle.pfr_story.specs.Story.{Past, Story, counts_of}

pub record World : Type 0 where
  pub bmc : FlashState
  pub pch : FlashState
  pub nv : FlashState
  -- how many items were begun
  pub item : ℕ
  pub notes : NotesState
  pub guards : Guards

-- the notes that were added
abbrev pub added : World → World → List Note
added old new = drop (length old.notes.list) new.notes.list

abbrev pub past_of : FlashState → Past
past_of d = record { start = d.start; ops = d.ops }

abbrev pub story_of : World → Story
story_of w = record { bmc = past_of w.bmc; pch = past_of w.pch; nv = past_of w.nv; item = w.item; notes = w.notes.list; guards = w.guards }

-- how many operations each device has done
abbrev pub counts_in : World → Counts
counts_in w = counts_of (story_of w)

abbrev pub state_at : Device → World → FlashState
state_at device.Bmc w = w.bmc
state_at device.Pch w = w.pch
state_at device.Nv w = w.nv

-- each device did what calls do
pub record AllMoved (old new : World) : Type 0 where
  pub bmc : Moved old.bmc new.bmc
  pub pch : Moved old.pch new.pch
  pub nv : Moved old.nv new.nv

-- all that the devices hold are bytes
pub record AreDevices (w : World) : Type 0 where
  pub bmc : HoldsBytes w.bmc
  pub pch : HoldsBytes w.pch
  pub nv : HoldsBytes w.nv

-- each device has power
pub record IsOn (w : World) : Type 0 where
  pub bmc : w.bmc.powered ≡ true
  pub pch : w.pch.powered ≡ true
  pub nv : w.nv.powered ≡ true

-- no device has power
pub record IsDark (w : World) : Type 0 where
  pub bmc : w.bmc.powered ≡ false
  pub pch : w.pch.powered ≡ false
  pub nv : w.nv.powered ≡ false

-- no device was called
pub record SameDevices (old new : World) : Type 0 where
  pub bmc : new.bmc ≡ old.bmc
  pub pch : new.pch ≡ old.pch
  pub nv : new.nv ≡ old.nv

-- no device lost its power
pub record NoneLost (old new : World) : Type 0 where
  pub bmc : new.bmc.losses ≡ old.bmc.losses
  pub pch : new.pch.losses ≡ old.pch.losses
  pub nv : new.nv.losses ≡ old.nv.losses

-- no call of a device answered a fault
pub record NoneFailed (old new : World) : Type 0 where
  pub bmc : new.bmc.faults ≡ old.bmc.faults
  pub pch : new.pch.faults ≡ old.pch.faults
  pub nv : new.nv.faults ≡ old.nv.faults

-- no count of faults rose, or stands at its end
abbrev pub NoneRose : World → World → Type 0
NoneRose old new = (which : Device) → ¬ Rose (state_at which old).faults (state_at which new).faults

-- this device lost its power once, and no other did
pub record LostAt (which : Device) (old new : World) : Type 0 where
  pub once : (state_at which new).losses ≡ (state_at which old).losses + 1
  pub others : (other : Device) → other ≢ which → (state_at other new).losses ≡ (state_at other old).losses

-- a call of this device answered a fault once, and no call of another did
pub record FaultedAt (which : Device) (old new : World) : Type 0 where
  pub once : (state_at which new).faults ≡ raised_by (state_at which old).faults 1
  pub others : (other : Device) → other ≢ which → (state_at other new).faults ≡ (state_at other old).faults

-- why a call of this device failed: of faults and losses of power this is the only one
abbrev pub Caused : Device → FlashFail → World → World → Type 0
Caused which Fault old new = FaultedAt which old new × NoneLost old new
Caused which Lost old new = LostAt which old new × NoneFailed old new
