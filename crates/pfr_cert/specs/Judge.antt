-- The judgement of a certificate: its parts in the order of the causes, the first that fails is the answer.
use Rattle.std.specs.Prelude.{ℕ, ◌+◌, Bool, true, false, nat_le, List, replicate, Option, Some, Result, Ok}
use Rattle.std.specs.Str.{bytes_eq}
use Rattle.pfr_flash.specs.Bytes.{bytes_at}
use Rattle.pfr_flash.specs.Judging.{◌>>=◌, ◌>>◌, require, told_as}
use Rattle.pfr_flash.specs.Names.{manifest_type}
use Rattle.pfr_flash.specs.Numbers.{number_at}
use Rattle.pfr_flash.specs.declared.layout.Layout.{Layout}
use Rattle.pfr_flash.specs.declared.names.Bank.{Bank}
use Rattle.pfr_flash.specs.declared.names.Bank.TheVariants.{Bmc, Pch}
use Rattle.pfr_flash.specs.declared.names.ContentType.{ContentType}
use Rattle.pfr_flash.specs.declared.names.ContentType.TheVariants.{PchManifest, PchCapsule, BmcManifest, BmcCapsule, PchManifestCancel, PchCapsuleCancel, BmcManifestCancel, BmcCapsuleCancel}
use Rattle.pfr_engine.specs.Acceptance.{Acceptance}
use Rattle.pfr_chain.specs.Judge.{judge}
use Rattle.pfr_chain.specs.Types.{type_of}
use Rattle.pfr_chain.specs.declared.fail.ChainFail.{ChainFail}
use Rattle.pfr_fuses.specs.FusesState.{FusesState}
use Rattle.pfr_fuses.specs.RootSlot.{layout_of}
use Rattle.pfr_cert.specs.Certificate.{cancelling, no_cancellations}
use Rattle.pfr_cert.specs.declared.cert.Cert.{Cert}
use Rattle.pfr_cert.specs.declared.fail.CertFail.{CertFail}
use Rattle.pfr_cert.specs.declared.fail.CertFail.TheVariants.{Chain as OfChain, Body, KeyId, OtherBank}
use Rattle.pfr_cert.specs.declared.reading.Signed.{Signed}

-- The signing type that a certificate is looked for against: that whose certificates Block 0 names, else that of the bank's
-- manifests.
abbrev pub wanted : Bank → Option ContentType → ContentType
wanted bank (Some PchManifestCancel) = PchManifest
wanted bank (Some PchCapsuleCancel) = PchCapsule
wanted bank (Some BmcManifestCancel) = BmcManifest
wanted bank (Some BmcCapsuleCancel) = BmcCapsule
wanted bank named = manifest_type bank

-- what is signed as a certificate at a place within a length
unfoldable pub judge_signed : List ℕ → ℕ → ℕ → Bank → List ℕ → Acceptance → Result Signed ChainFail
judge_signed image place len bank root accepts = do
  let type : ContentType = wanted bank (type_of (number_at image (place + 8)))
  chain ← judge image place len (cancelling type) root no_cancellations accepts
  Ok (record { ty = type; body = bytes_at image chain.content_at 128 })

-- the id of the key that the signed bytes name
unfoldable pub judge_body : List ℕ → Result ℕ CertFail
judge_body body = do
  require Body (bytes_eq (bytes_at body 4 124) (replicate 124 0))
  require KeyId (nat_le (number_at body 0) 255)
  Ok (number_at body 0)

-- whether the bank's manifests or its capsules have this type
abbrev pub is_of : Bank → ContentType → Bool
is_of Bmc BmcManifest = true
is_of Bmc BmcCapsule = true
is_of Pch PchManifest = true
is_of Pch PchCapsule = true
is_of bank type = false

-- The certificate in a bank's staging area, or the first cause against it.
unfoldable pub judge_cert : Bank → List ℕ → FusesState → Acceptance → Result Cert CertFail
judge_cert bank image fuses accepts = do
  let layout : Layout = layout_of fuses.provision bank
  signed ← told_as OfChain (judge_signed image layout.staging_at layout.area_len bank fuses.provision.root accepts)
  id ← judge_body signed.body
  require OtherBank (is_of bank signed.ty)
  Ok (record { ty = signed.ty; id = id })
