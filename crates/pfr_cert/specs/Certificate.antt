-- A certificate, which cancels a key: when one stands at a place of a bank.
use Rattle.std.specs.Prelude.{◌≡◌, ℕ, ◌≤◌, ◌⊎◌, List, replicate}
use Rattle.pfr_flash.specs.Bytes.{bytes_at}
use Rattle.pfr_flash.specs.Names.{capsule_type, manifest_type}
use Rattle.pfr_flash.specs.Numbers.{number_at}
use Rattle.pfr_flash.specs.declared.names.Bank.{Bank}
use Rattle.pfr_flash.specs.declared.names.ContentType.{ContentType}
use Rattle.pfr_flash.specs.declared.names.ContentType.TheVariants.{PchManifest, PchCapsule, BmcManifest, BmcCapsule, PchManifestCancel, PchCapsuleCancel, BmcManifestCancel, BmcCapsuleCancel}
use Rattle.pfr_engine.specs.Acceptance.{Acceptance}
use Rattle.pfr_chain.specs.Chain.{IsChain}
use Rattle.pfr_chain.specs.declared.judging.Chain.{Chain}
use Rattle.pfr_cert.specs.declared.cert.Cert.{Cert}

-- the type of the certificates that cancel a key of a signing type
abbrev pub cancelling : ContentType → ContentType
cancelling PchManifest = PchManifestCancel
cancelling PchCapsule = PchCapsuleCancel
cancelling BmcManifest = BmcManifestCancel
cancelling BmcCapsule = BmcCapsuleCancel
cancelling type = type

-- what a certificate signs: a key's id in 4 of its 128 bytes, and zeros
pub record IsBody (body : List ℕ) (id : ℕ) : Type 0 where
  pub named : number_at body 0 ≡ id
  pub byte : id ≤ 255
  pub zeros : bytes_at body 4 124 ≡ replicate 124 0

-- the bank's manifests or its capsules have this type
abbrev pub IsOf : Bank → ContentType → Type 0
IsOf bank type = (type ≡ manifest_type bank) ⊎ (type ≡ capsule_type bank)

-- a row of fuses in which no key is cancelled
abbrev pub no_cancellations : List ℕ
no_cancellations = replicate 32 255

-- A certificate for the bank stands at a place within a length: signed by the root, whatever is cancelled.
pub record IsCertificate (image : List ℕ) (place len : ℕ) (bank : Bank) (root : List ℕ) (accepts : Acceptance) (cert : Cert) : Type 0 where
  pub chain : Chain
  pub signed : IsChain image place len (cancelling cert.ty) root no_cancellations accepts chain
  pub body : IsBody (bytes_at image chain.content_at 128) cert.id
  pub own : IsOf bank cert.ty
