-- What becomes of a certificate at a bank in work.
use Rattle.std.specs.Prelude.{◌≡◌, [], Result, Ok, Err}
use Rattle.pfr_flash.specs.FlashState.{FlashState}
use Rattle.pfr_flash.specs.Plan.{Follows}
use Rattle.pfr_flash.specs.declared.flash.FlashFail.{FlashFail}
use Rattle.pfr_flash.specs.declared.names.Device.TheVariants.{Nv}
use Rattle.pfr_fuses.specs.Changes.{cancellation}
use Rattle.pfr_cert.specs.declared.cert.Cert.{Cert}
use Rattle.pfr_cert.specs.declared.fail.CertFail.{CertFail}
use Rattle.pfr_story.specs.Story.{Plan, called}

-- its key is cancelled in the store, or it is refused, and the store isn't called
abbrev pub cleared_by : Cert → Result (Unit {0}) CertFail → Plan
cleared_by cert (Ok free) story = called Nv (cancellation cert.ty cert.id)
cleared_by cert (Err cause) story = []

-- the same of the store alone
abbrev pub Clears : Cert → Result (Unit {0}) CertFail → FlashState → FlashState → Result (Result (Unit {0}) CertFail) FlashFail → Type 0
Clears cert (Ok free) old new result = Follows (cancellation cert.ty cert.id) old new result
Clears cert (Err cause) old new result = (result ≡ Ok (Err cause)) × (new ≡ old)
