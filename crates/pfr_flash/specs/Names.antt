-- The content types of a bank.
use Rattle.pfr_flash.specs.declared.names.Bank.{Bank}
use Rattle.pfr_flash.specs.declared.names.Bank.TheVariants.{Bmc, Pch}
use Rattle.pfr_flash.specs.declared.names.ContentType.{ContentType}
use Rattle.pfr_flash.specs.declared.names.ContentType.TheVariants.{PchManifest, PchCapsule, BmcManifest, BmcCapsule}

-- the type of a bank's manifest, and of its capsules
abbrev pub manifest_type : Bank → ContentType
manifest_type Bmc = BmcManifest
manifest_type Pch = PchManifest

abbrev pub capsule_type : Bank → ContentType
capsule_type Bmc = BmcCapsule
capsule_type Pch = PchCapsule
