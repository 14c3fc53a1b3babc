-- Both banks, judged by devices that are only read.
use Rattle.std.specs.Prelude.{◌≡◌, ℕ, List, length, true, false}
use Rattle.pfr_flash.specs.FlashState.{FlashState, now, size_of}
use Rattle.pfr_flash.specs.declared.names.Bank.TheVariants.{Bmc, Pch}
use Rattle.pfr_engine.specs.Accepting.{acceptance}
use Rattle.pfr_report.specs.Verdicts.{HasCauses}
use Rattle.pfr_machine.specs.Verdicts.{verdict_of}
use Rattle.pfr.specs.declared.check.Verdicts.{Verdicts}
use Rattle.pfr.specs.declared.load.Images.{Images}

-- no read of the device fails
pub record CanBeRead (device : FlashState) : Type 0 where
  pub powered : device.powered ≡ true
  pub calm : device.read_due ≡ false

-- a device with these bytes, of which no read fails
pub record Holds (bytes : List ℕ) (device : FlashState) : Type 0 where
  pub content : now device ≡ bytes
  pub size : size_of device ≡ length bytes
  pub read : CanBeRead device

-- no cause in the verdicts is a failed device
pub record HaveCauses (verdicts : Verdicts) : Type 0 where
  pub bmc : HasCauses verdicts.bmc
  pub pch : HasCauses verdicts.pch

-- they are those of the images
pub record AreVerdictsOf (images : Images) (verdicts : Verdicts) : Type 0 where
  pub bmc : verdicts.bmc ≡ verdict_of Bmc images.bmc.items images.nv.items (acceptance images.engine)
  pub pch : verdicts.pch ≡ verdict_of Pch images.pch.items images.nv.items (acceptance images.engine)
  pub causes : HaveCauses verdicts
