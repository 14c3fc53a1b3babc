-- In which order a power-on works on the banks.
use Rattle.std.specs.Prelude.{◌≡◌}
use Rattle.pfr_flash.specs.FlashState.{op_count_of}
use Rattle.pfr_flash.specs.declared.names.Bank.TheVariants as bank
use Rattle.pfr_flash.specs.declared.names.Counts.{Counts}
use Rattle.pfr_script.specs.declared.event.Event.{Event}
use Rattle.pfr_script.specs.declared.event.Event.TheVariants as event
use Rattle.pfr_report.specs.Texts.{IsNoted}
use Rattle.pfr_report.specs.declared.note.What.TheVariants.{Held}
use Rattle.pfr_story.specs.World.{World, added}

-- Neither bank's device did anything where the BMC is held. The PCH's did nothing where the PCH is held, and the BMC's does nothing
-- any more behind that.
pub record WorksInOrder (old new : World) : Type 0 where
  pub bmc : (at : Counts) → IsNoted (added old new) (Held bank.Bmc at) → (at.bmc ≡ op_count_of old.bmc) × (at.pch ≡ op_count_of old.pch)
  pub pch : (at : Counts) → IsNoted (added old new) (Held bank.Pch at) → (at.pch ≡ op_count_of old.pch) × (at.bmc ≡ op_count_of new.bmc)

-- So a power-on works.
abbrev pub PowersInOrder : Event → World → World → Type 0
PowersInOrder event.Power old new = WorksInOrder old new
PowersInOrder e old new = Unit {0}
