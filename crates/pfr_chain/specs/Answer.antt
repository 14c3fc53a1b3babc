-- Which causes of a refusal tell a failure of the device.
use Rattle.std.specs.Prelude.{Option, Some, None}
use Rattle.pfr_flash.specs.declared.flash.FlashFail.{FlashFail}
use Rattle.pfr_chain.specs.declared.fail.ChainFail.{ChainFail}
use Rattle.pfr_chain.specs.declared.fail.ChainFail.TheVariants.{Flash}

-- the device's failure, where that is the cause
abbrev pub chain_failure : ChainFail → Option FlashFail
chain_failure (Flash fail) = Some fail
chain_failure cause = None
