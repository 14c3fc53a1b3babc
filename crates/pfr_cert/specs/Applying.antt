-- What becomes of a certificate that was read.
use Rattle.std.specs.Prelude.{◌≡◌, ℕ, ◌==◌, Bool, false, not, List, Option, Some, None, Result, Ok, Err}
use Rattle.pfr_flash.specs.FlashState.{FlashState}
use Rattle.pfr_flash.specs.FuseRow.{is_cleared}
use Rattle.pfr_flash.specs.Judging.{◌>>◌, require, told_as}
use Rattle.pfr_flash.specs.Operation.{Operation}
use Rattle.pfr_flash.specs.Plan.{Follows}
use Rattle.pfr_flash.specs.declared.flash.FlashFail.{FlashFail}
use Rattle.pfr_flash.specs.declared.names.ContentType.{ContentType}
use Rattle.pfr_flash.specs.declared.names.ContentType.TheVariants.{PchManifest, PchCapsule, BmcManifest, BmcCapsule}
use Rattle.pfr_fuses.specs.FusesState.{FusesState, row_of}
use Rattle.pfr_capsule.specs.CapsuleState.{CapsuleState}
use Rattle.pfr_cert.specs.declared.cert.Cert.{Cert}
use Rattle.pfr_cert.specs.declared.fail.CertFail.{CertFail}
use Rattle.pfr_cert.specs.declared.fail.CertFail.TheVariants.{KeyInUse, AlreadyCancelled, Flash}

-- whether the key of this id signed the capsule, where the type is a capsule's, or its manifest, where it is a manifest's
abbrev pub has_signed : CapsuleState → ContentType → ℕ → Bool
has_signed capsule PchManifest id = capsule.manifest_key == id
has_signed capsule PchCapsule id = capsule.capsule_key == id
has_signed capsule BmcManifest id = capsule.manifest_key == id
has_signed capsule BmcCapsule id = capsule.capsule_key == id
has_signed capsule type id = false

-- whether the good capsule of the recovery area, where there is one, needs the key
abbrev pub is_in_use : Option CapsuleState → Cert → Bool
is_in_use None cert = false
is_in_use (Some capsule) cert = has_signed capsule cert.ty cert.id

-- whether the key of a certificate can be cancelled
unfoldable pub judge_apply : FusesState → Cert → Option CapsuleState → Result (Unit {0}) CertFail
judge_apply fuses cert recovery = do
  require KeyInUse (not (is_in_use recovery cert))
  require AlreadyCancelled (not (is_cleared (row_of fuses cert.ty) cert.id))

-- What is judged to be refused is, and nothing is done. Else the plan is done, and a failure of the store is the answer.
abbrev pub Applies : List Operation → Result (Unit {0}) CertFail → FlashState → FlashState → Result (Unit {0}) CertFail → Type 0
Applies plan (Err cause) old new result = (result ≡ Err cause) × (new ≡ old)
Applies plan (Ok tt) old new result = (done : Result (Unit {0}) FlashFail) × (result ≡ told_as Flash done) × Follows plan old new done
