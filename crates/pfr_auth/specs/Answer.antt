-- Which causes of a refusal tell a failure of the device.
use Rattle.std.specs.Prelude.{Option, Some, None}
use Rattle.pfr_flash.specs.declared.flash.FlashFail.{FlashFail}
use Rattle.pfr_chain.specs.Answer.{chain_failure}
use Rattle.pfr_manifest.specs.Answer.{manifest_failure}
use Rattle.pfr_auth.specs.declared.fail.ActiveFail.{ActiveFail}
use Rattle.pfr_auth.specs.declared.fail.ActiveFail.TheVariants.{Chain, Manifest, SvnFloor, RegionHash, Flash}

-- the device's failure, where that is the cause
abbrev pub active_failure : ActiveFail → Option FlashFail
active_failure (Chain cause) = chain_failure cause
active_failure (Manifest cause) = manifest_failure cause
active_failure SvnFloor = None
active_failure (RegionHash k) = None
active_failure (Flash fail) = Some fail
