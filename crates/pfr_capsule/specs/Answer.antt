-- Which causes of a refusal tell a failure of the device.
use Rattle.std.specs.Prelude.{Option, Some, None}
use Rattle.pfr_flash.specs.declared.flash.FlashFail.{FlashFail}
use Rattle.pfr_chain.specs.Answer.{chain_failure}
use Rattle.pfr_manifest.specs.Answer.{manifest_failure}
use Rattle.pfr_capsule.specs.declared.fail.CapsuleFail.{CapsuleFail}
use Rattle.pfr_capsule.specs.declared.fail.CapsuleFail.TheVariants.{Chain, ManifestChain, Manifest, SvnFloor, PbcHeader, MapBits, BodyLength, CopyNotErase, PageOutside, PayloadLength, StaticNotCovered, Incoherent, Flash}

-- the device's failure, where that is the cause
abbrev pub capsule_failure : CapsuleFail → Option FlashFail
capsule_failure (Chain cause) = chain_failure cause
capsule_failure (ManifestChain cause) = chain_failure cause
capsule_failure (Manifest cause) = manifest_failure cause
capsule_failure SvnFloor = None
capsule_failure PbcHeader = None
capsule_failure MapBits = None
capsule_failure BodyLength = None
capsule_failure (CopyNotErase page) = None
capsule_failure (PageOutside page) = None
capsule_failure PayloadLength = None
capsule_failure (StaticNotCovered k) = None
capsule_failure (Incoherent k) = None
capsule_failure (Flash fail) = Some fail
