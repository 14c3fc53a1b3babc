-- At which statuses no call of the shelf failed.
use Rattle.std.specs.Prelude.{◌≡◌, ℕ, Bool, true, false, Result, Ok, Err}
use Rattle.pfr.specs.declared.status.Status.{Status}
use Rattle.pfr.specs.declared.status.Status.TheVariants.{ReadFault, StoreFault}

-- whether the status names a load or a store that failed
abbrev pub is_shelf_fault : Status → Bool
is_shelf_fault (ReadFault file) = true
is_shelf_fault (StoreFault file) = true
is_shelf_fault status = false

-- at a status that names no failed load or store none failed: the count is as it was
abbrev pub IsFaultless : Status → ℕ → ℕ → Type 0
IsFaultless status before after = is_shelf_fault status ≡ false → after ≡ before

-- the same of a part of a command, which goes on or ends with a status
abbrev pub GoesFaultless : {T : Type 0} → Result T Status → ℕ → ℕ → Type 0
GoesFaultless (Ok value) before after = after ≡ before
GoesFaultless (Err status) before after = IsFaultless status before after
