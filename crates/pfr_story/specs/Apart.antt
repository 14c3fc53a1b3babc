-- Which devices an event works on.
use Rattle.std.specs.Prelude.{◌≡◌, ◌⊎◌}
use Rattle.pfr_flash.specs.declared.names.Bank.{Bank}
use Rattle.pfr_flash.specs.declared.names.Bank.TheVariants as bank
use Rattle.pfr_flash.specs.declared.names.Device.{Device}
use Rattle.pfr_flash.specs.declared.names.Device.TheVariants as device
use Rattle.pfr_script.specs.declared.event.Event.{Event}
use Rattle.pfr_story.specs.World.{World, state_at}
use Rattle.pfr_story.specs.Promises.{AreOff, IsProvision, IsWork, IsHolding}

-- A bank's device where the bank is in work, or a frame comes on its SPI bus; and the store where a bank is in work, and at a provision
-- of banks that aren't off.
abbrev pub MayWorkOn : Event → World → Device → Type 0
MayWorkOn e old device.Bmc = IsHolding bank.Bmc e old
MayWorkOn e old device.Pch = IsHolding bank.Pch e old
MayWorkOn e old device.Nv = (¬ AreOff old × IsProvision e) ⊎ ((which : Bank) × IsWork which e old)

-- No other device does anything. So switching off does no operation, one bank's update leaves the other bank, and a provision both.
abbrev pub LeavesOthers : Event → World → World → Type 0
LeavesOthers e old new = (which : Device) → ¬ MayWorkOn e old which → (state_at which new).ops ≡ (state_at which old).ops
