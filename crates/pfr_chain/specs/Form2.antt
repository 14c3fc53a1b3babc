-- Block 1 of form 2, whose keys and signatures have lengths of their own: the root entry at place 144 of the block, and each further entry where the one before it ends.
use Rattle.std.specs.Prelude.{◌≡◌, ℕ, ◌+◌, ◌%◌, ◌≤◌, true, false, List, ◌∷◌, ◌++◌, length, Option, Some, None}
use Rattle.sha2.specs.Sha256.{sha256}
use Rattle.pfr_flash.specs.Bytes.{bytes_at}
use Rattle.pfr_flash.specs.declared.names.ContentType.{ContentType}
use Rattle.pfr_engine.specs.Acceptance.{Acceptance}
use Rattle.pfr_flash.specs.Numbers.{number_at}
use Rattle.pfr_chain.specs.Types.{is_certificate}
use Rattle.pfr_chain.specs.Keys.{any, MaySign}

-- An entry begins with its magic, and has permissions, key id, scheme and key length of 4 bytes each, then the key.
abbrev pub key_of : List ℕ → ℕ → List ℕ
key_of block at = bytes_at block (at + 20) (number_at block (at + 16))

-- where the key of an entry ends
abbrev pub key_end : List ℕ → ℕ → ℕ
key_end block at = at + 20 + number_at block (at + 16)

-- a signature at a place: its length of 4 bytes, then its bytes
abbrev pub signature_of : List ℕ → ℕ → List ℕ
signature_of block at = bytes_at block (at + 4) (number_at block at)

-- where the signature at a place ends
abbrev pub signature_end : List ℕ → ℕ → ℕ
signature_end block at = at + 4 + number_at block at

-- the scheme of a block's root
abbrev pub scheme_of : List ℕ → ℕ
scheme_of block = number_at block 156

-- the hash of a root: of the byte 2, the scheme's four bytes and the key
unfoldable pub root_hash : List ℕ → List ℕ
root_hash block = sha256 (2 ∷ (bytes_at block 156 4 ++ key_of block 144))

-- a multiple of 4 between two bounds
pub record IsLength (least most count : ℕ) : Type 0 where
  pub not_less : least ≤ count
  pub not_more : count ≤ most
  pub multiple : count % 4 ≡ 0

pub record IsLongRoot (block root : List ℕ) : Type 0 where
  pub magic : number_at block 144 ≡ 0xA757A047
  pub permissions : number_at block 148 ≡ any
  pub key_id : number_at block 152 ≡ any
  pub key_length : IsLength 4 256 (number_at block 160)
  pub within : key_end block 144 ≤ length block
  pub hash : root_hash block ≡ root

-- the length at a place is a signature's, which lies within the block
pub record HasSignature (block : List ℕ) (at : ℕ) : Type 0 where
  pub count : IsLength 4 8000 (number_at block at)
  pub within : signature_end block at ≤ length block

-- a key entry at a place that the root signed, and whose key may sign this type
pub record IsLongKey (block : List ℕ) (at : ℕ) (type : ContentType) (row : List ℕ) (accepts : Acceptance) (id : ℕ) : Type 0 where
  pub magic : number_at block at ≡ 0x14711C30
  pub scheme : number_at block (at + 12) ≡ scheme_of block
  pub key_length : IsLength 4 256 (number_at block (at + 16))
  pub signature : HasSignature block (key_end block at)
  pub named : id ≡ number_at block (at + 8)
  pub may_sign : MaySign (number_at block (at + 8)) (number_at block (at + 4)) type row
  -- from the permissions up to and including the key
  pub accepted : accepts.long (scheme_of block) (key_of block 144) (bytes_at block (at + 4) (16 + number_at block (at + 16))) (signature_of block (key_end block at)) ≡ true

-- a block-0 entry at a place: Block 0's signature under a key
pub record IsLongEntry (block : List ℕ) (at : ℕ) (key : List ℕ) (accepts : Acceptance) : Type 0 where
  pub starts : at + 8 ≤ length block
  pub magic : number_at block at ≡ 0x15364368
  pub signature : HasSignature block (at + 4)
  pub accepted : accepts.long (scheme_of block) key (bytes_at block 0 128) (signature_of block (at + 4)) ≡ true

-- a certificate, which has no key entry and which the root signs
pub record IsLongRootSigned (block : List ℕ) (type : ContentType) (accepts : Acceptance) : Type 0 where
  pub certificate : is_certificate type ≡ true
  pub entry : IsLongEntry block (key_end block 144) (key_of block 144) accepts

-- any other content, which the key of the key entry behind the root entry signs
pub record IsLongKeySigned (block : List ℕ) (type : ContentType) (row : List ℕ) (accepts : Acceptance) (id : ℕ) : Type 0 where
  pub no_certificate : is_certificate type ≡ false
  pub key : IsLongKey block (key_end block 144) type row accepts id
  pub entry : IsLongEntry block (signature_end block (key_end block (key_end block 144))) (key_of block (key_end block 144)) accepts

-- whose signature it is: the key's of this id, or the root's
abbrev pub IsLongSignedBy : Option ℕ → List ℕ → ContentType → List ℕ → Acceptance → Type 0
IsLongSignedBy None block type row accepts = IsLongRootSigned block type accepts
IsLongSignedBy (Some id) block type row accepts = IsLongKeySigned block type row accepts id

pub record IsForm2 (block : List ℕ) (type : ContentType) (root row : List ℕ) (accepts : Acceptance) (key : Option ℕ) : Type 0 where
  pub root_entry : IsLongRoot block root
  pub signer : IsLongSignedBy key block type row accepts
