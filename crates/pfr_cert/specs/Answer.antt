-- Which causes of a refusal tell a failure of a device.
use Rattle.std.specs.Prelude.{Option, Some, None}
use Rattle.pfr_flash.specs.declared.flash.FlashFail.{FlashFail}
use Rattle.pfr_chain.specs.Answer.{chain_failure}
use Rattle.pfr_cert.specs.declared.fail.CertFail.{CertFail}
use Rattle.pfr_cert.specs.declared.fail.CertFail.TheVariants.{Chain, Body, KeyId, OtherBank, KeyInUse, AlreadyCancelled, Flash}

-- the device's failure, where that is the cause
abbrev pub cert_failure : CertFail → Option FlashFail
cert_failure (Chain cause) = chain_failure cause
cert_failure Body = None
cert_failure KeyId = None
cert_failure OtherBank = None
cert_failure KeyInUse = None
cert_failure AlreadyCancelled = None
cert_failure (Flash fail) = Some fail

-- the cause is one of a certificate that is read: it speaks of the bank, and never of the store
abbrev pub IsOfBank : CertFail → Type 0
IsOfBank (Chain cause) = Unit {0}
IsOfBank Body = Unit {0}
IsOfBank KeyId = Unit {0}
IsOfBank OtherBank = Unit {0}
IsOfBank KeyInUse = ⊥
IsOfBank AlreadyCancelled = ⊥
IsOfBank (Flash fail) = ⊥
