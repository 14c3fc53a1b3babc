-- Block 1 of form 1: the root entry at place 144 of the block, the key entry at 276, the block-0 entry behind it.
use Rattle.std.specs.Prelude.{◌≡◌, ℕ, ◌+◌, true, false, List, ◌++◌, Option, Some, None}
use Rattle.sha2.specs.Sha256.{sha256}
use Rattle.pfr_flash.specs.Bytes.{bytes_at}
use Rattle.pfr_flash.specs.declared.names.ContentType.{ContentType}
use Rattle.pfr_engine.specs.Acceptance.{Acceptance}
use Rattle.pfr_engine.specs.Curves.{curve_of, signature_magic}
use Rattle.pfr_engine.specs.declared.engine.Curve.{Curve}
use Rattle.pfr_flash.specs.Numbers.{number_at}
use Rattle.pfr_chain.specs.Types.{is_certificate}
use Rattle.pfr_chain.specs.Keys.{public_key_at, signature_at, ask_of, any, MaySign}
use Rattle.pfr_chain.specs.declared.public_key.PublicKey.{PublicKey}
use Rattle.pfr_chain.specs.declared.signature.Signature.{Signature}

-- a root entry on a curve, whose X and Y have this hash
pub record IsRoot (key : PublicKey) (curve : Curve) (root : List ℕ) : Type 0 where
  pub magic : key.magic ≡ 0xA757A046
  pub permissions : key.permissions ≡ any
  pub key_id : key.key_id ≡ any
  pub curve_number : curve_of key.curve ≡ Some curve
  pub hash : sha256 (key.x ++ key.y) ≡ root

-- the engine accepts the signature of a message under a key
pub record IsSigned (accepts : Acceptance) (curve : Curve) (key : PublicKey) (message : List ℕ) (signature : Signature) : Type 0 where
  pub magic : signature.magic ≡ signature_magic curve
  pub accepted : accepts.ask (ask_of curve key message signature) ≡ true

-- a key entry that the root signed, and whose key may sign this type
pub record IsKey (block : List ℕ) (curve : Curve) (type : ContentType) (row : List ℕ) (accepts : Acceptance) (id : ℕ) : Type 0 where
  pub magic : (public_key_at block 276).magic ≡ 0x14711C2F
  pub same_curve : (public_key_at block 276).curve ≡ (public_key_at block 144).curve
  pub named : id ≡ (public_key_at block 276).key_id
  pub may_sign : MaySign (public_key_at block 276).key_id (public_key_at block 276).permissions type row
  pub signed : IsSigned accepts curve (public_key_at block 144) (bytes_at block 280 128) (signature_at block 408)

-- a block-0 entry at a place: Block 0's signature under a key
pub record IsBlock0Entry (block : List ℕ) (at : ℕ) (curve : Curve) (key : PublicKey) (accepts : Acceptance) : Type 0 where
  pub magic : number_at block at ≡ 0x15364367
  pub signed : IsSigned accepts curve key (bytes_at block 0 128) (signature_at block (at + 4))

-- a certificate, which has no key entry and which the root signs
pub record IsRootSigned (block : List ℕ) (curve : Curve) (type : ContentType) (accepts : Acceptance) : Type 0 where
  pub certificate : is_certificate type ≡ true
  pub entry : IsBlock0Entry block 276 curve (public_key_at block 144) accepts

-- any other content, which the key of the key entry signs
pub record IsKeySigned (block : List ℕ) (curve : Curve) (type : ContentType) (row : List ℕ) (accepts : Acceptance) (id : ℕ) : Type 0 where
  pub no_certificate : is_certificate type ≡ false
  pub key : IsKey block curve type row accepts id
  pub entry : IsBlock0Entry block 508 curve (public_key_at block 276) accepts

-- whose signature it is: the key's of this id, or the root's
abbrev pub IsSignedBy : Option ℕ → List ℕ → Curve → ContentType → List ℕ → Acceptance → Type 0
IsSignedBy None block curve type row accepts = IsRootSigned block curve type accepts
IsSignedBy (Some id) block curve type row accepts = IsKeySigned block curve type row accepts id

pub record IsForm1 (block : List ℕ) (type : ContentType) (root row : List ℕ) (accepts : Acceptance) (key : Option ℕ) : Type 0 where
  pub curve : Curve
  pub root_entry : IsRoot (public_key_at block 144) curve root
  pub signer : IsSignedBy key block curve type row accepts
