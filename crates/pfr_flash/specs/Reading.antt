-- What calls that only read do to a device, and how they fail.
use Rattle.std.specs.Prelude.{◌≡◌, ℕ, ◌≤◌, true, false, Option, Some, None, Result, Ok, Err}
use Rattle.pfr_flash.specs.FlashState.{FlashState, now, raised_by}
use Rattle.pfr_flash.specs.Moved.{ReadFaulted, Worked}
use Rattle.pfr_flash.specs.declared.flash.FlashFail.{FlashFail}
use Rattle.pfr_flash.specs.declared.flash.FlashFail.TheVariants.{Fault, Lost}

-- Only the bytes asked for are counted, and a fault of a read that was armed comes.
pub record OnlyReads (old new : FlashState) : Type 0 where
  pub content : now new ≡ now old
  pub start : new.start ≡ old.start
  pub ops : new.ops ≡ old.ops
  pub powered : new.powered ≡ old.powered
  pub losses : new.losses ≡ old.losses
  pub arms : new.arms ≡ old.arms
  pub room : new.room ≡ old.room
  pub cut_due : new.cut_due ≡ old.cut_due
  pub fault_due : new.fault_due ≡ old.fault_due
  pub taken : old.taken ≤ new.taken
  pub faults : old.faults ≤ new.faults
  -- Where no fault of a read is due, none comes.
  pub calm : old.read_due ≡ false → (new.read_due ≡ false) × (new.faults ≡ old.faults)
  pub worked : Worked old new

-- why one of several calls that only read failed
abbrev pub FailsReading : FlashFail → FlashState → FlashState → Type 0
FailsReading Fault old new = ReadFaulted old new
FailsReading Lost old new = new.powered ≡ false

-- what calls that only read leave once so many bytes were asked for, by the read that failed, if one did
abbrev pub left_at : Option FlashFail → FlashState → ℕ → FlashState
left_at None d taken = record d { taken = taken }
left_at (Some Fault) d taken = record d { taken = taken; read_due = false; faults = raised_by d.faults 1 }
left_at (Some Lost) d taken = record d { taken = taken }

-- a read can fail so: a fault of a read is armed, or the device is off
abbrev pub CanFail : Option FlashFail → FlashState → Type 0
CanFail None d = Unit {0}
CanFail (Some Fault) d = (d.powered ≡ true) × (d.read_due ≡ true)
CanFail (Some Lost) d = d.powered ≡ false

-- Calls that only read, of which none failed, or one did so. Nothing changes but the count of bytes that were asked for, and no
-- fault comes that isn't told.
pub record EndsAt (failed : Option FlashFail) (old new : FlashState) : Type 0 where
  pub leaves : new ≡ left_at failed old new.taken
  pub can : CanFail failed old
  pub taken : old.taken ≤ new.taken

-- the device's failure that an answer tells, by what its causes tell
abbrev pub failed_by : {A E : Type 0} → (E → Option FlashFail) → Result A E → Option FlashFail
failed_by failure (Ok x) = None
failed_by failure (Err cause) = failure cause
