-- Which causes of a refusal tell a failure of the device.
use Rattle.std.specs.Prelude.{Option, Some, None}
use Rattle.pfr_flash.specs.declared.flash.FlashFail.{FlashFail}
use Rattle.pfr_fuses.specs.declared.fuse_fail.FuseFail.{FuseFail}
use Rattle.pfr_fuses.specs.declared.fuse_fail.FuseFail.TheVariants.{Flash}

-- the device's failure, where that is the cause
abbrev pub fuse_failure : FuseFail → Option FlashFail
fuse_failure (Flash fail) = Some fail
fuse_failure cause = None
