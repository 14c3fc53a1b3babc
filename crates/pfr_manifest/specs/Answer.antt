-- Which causes of a refusal tell a failure of the device.
use Rattle.std.specs.Prelude.{Option, Some, None}
use Rattle.pfr_flash.specs.declared.flash.FlashFail.{FlashFail}
use Rattle.pfr_manifest.specs.declared.fail.ManifestFail.{ManifestFail}
use Rattle.pfr_manifest.specs.declared.fail.ManifestFail.TheVariants.{Flash}

-- the device's failure, where that is the cause
abbrev pub manifest_failure : ManifestFail → Option FlashFail
manifest_failure (Flash fail) = Some fail
manifest_failure cause = None
