-- What is left of a held bank that was judged, whichever way it went.
use Rattle.std.specs.Prelude.{Result, Ok, Err}
use Rattle.pfr_flash.specs.declared.names.Bank.{Bank}
use Rattle.pfr_manifest.specs.declared.manifest.Manifest.{Manifest}
use Rattle.pfr_auth.specs.declared.fail.ActiveFail.{ActiveFail}
use Rattle.pfr_bank.specs.Seats.{JudgedState}
use Rattle.pfr_bank.specs.declared.checked.Unchecked.{Unchecked}

-- what was answered: the manifest, or the cause
abbrev pub answer_of : {F : Type 0} → Result (JudgedState F) (Unchecked F) → Result Manifest ActiveFail
answer_of (Ok checked) = Ok checked.manifest
answer_of (Err unchecked) = Err unchecked.why

abbrev pub flash_left : {F : Type 0} → Result (JudgedState F) (Unchecked F) → F
flash_left (Ok checked) = checked.flash
flash_left (Err unchecked) = unchecked.held.flash

abbrev pub bank_left : {F : Type 0} → Result (JudgedState F) (Unchecked F) → Bank
bank_left (Ok checked) = checked.bank
bank_left (Err unchecked) = unchecked.held.bank
