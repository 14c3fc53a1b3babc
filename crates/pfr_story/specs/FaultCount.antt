-- How many faults stand behind the locks that are noted for them.
use Rattle.std.specs.Prelude.{◌≡◌, ◌⊎◌, ℕ, ◌*◌, ◌≤◌, Bool, false, List}
use Rattle.std.specs.List.{count_by}
use Rattle.pfr_flash.specs.FlashState.{raised_by}
use Rattle.pfr_flash.specs.declared.names.Bank.{Bank}
use Rattle.pfr_flash.specs.declared.names.Device.{Device}
use Rattle.pfr_flash.specs.declared.names.Device.TheVariants as device
use Rattle.pfr_script.specs.Arms.{same_device}
use Rattle.pfr_script.specs.declared.event.Event.{Event}
use Rattle.pfr_script.specs.declared.event.Event.TheVariants as event
use Rattle.pfr_report.specs.declared.note.LockWhy.{LockWhy}
use Rattle.pfr_report.specs.declared.note.LockWhy.TheVariants as why
use Rattle.pfr_report.specs.declared.note.Note.{Note}
use Rattle.pfr_report.specs.declared.note.What.{What}
use Rattle.pfr_report.specs.declared.note.What.TheVariants.{Locked}
use Rattle.pfr_story.specs.Story.{device_of}
use Rattle.pfr_story.specs.World.{World, state_at, added}

-- a bank is locked for a fault of this device: its own, or the store
abbrev pub is_lock_for : Device → Bank → LockWhy → Bool
is_lock_for which b why.FlashFault = same_device which (device_of b)
is_lock_for which b why.StoreFault = same_device which device.Nv
is_lock_for which b cause = false

abbrev pub is_fault_of : Device → What → Bool
is_fault_of which (Locked b cause at) = is_lock_for which b cause
is_fault_of which that = false

-- how many locks for faults of this device are noted
abbrev pub fault_locks : Device → List Note → ℕ
fault_locks which notes = count_by (λ note. is_fault_of which note.what) notes

-- events at which one fault of the store may lock both banks
abbrev pub LocksBoth : Event → Type 0
LocksBoth event.Power = Unit {0}
LocksBoth (event.Provision what) = Unit {0}
LocksBoth e = ⊥

-- In an event each lock for a fault of this device has a fault of its own that was counted, and each of its faults a lock; but at a
-- power-on, and at a provision, it may be one fault of the store that locks both banks.
pub record FaultsAreCounted (e : Event) (which : Device) (old new : World) : Type 0 where
  pub faults : ℕ
  pub few : faults ≤ 2
  pub counted : (state_at which new).faults ≡ raised_by (state_at which old).faults faults
  pub locks : (fault_locks which (added old new) ≡ faults) ⊎ (LocksBoth e × (which ≡ device.Nv) × (faults ≡ 1) × (fault_locks which (added old new) ≡ 2))

-- Of a run: the notes lock as often for a fault of a bank's device as it had faults; for those of the store at least so often, and at
-- most twice.
pub record LocksAreCounted (w : World) : Type 0 where
  pub bmc : fault_locks device.Bmc w.notes.list ≡ w.bmc.faults
  pub pch : fault_locks device.Pch w.notes.list ≡ w.pch.faults
  pub nv : w.nv.faults ≤ fault_locks device.Nv w.notes.list
  pub twice : fault_locks device.Nv w.notes.list ≤ 2 * w.nv.faults
