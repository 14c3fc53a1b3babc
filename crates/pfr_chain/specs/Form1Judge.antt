-- The tests of Block 1 of form 1, in the order of the causes.
use Rattle.std.specs.Prelude.{ℕ, ◌+◌, ◌==◌, ◌&&◌, not, nat_le, List, ◌++◌, Option, Some, None, Result, Ok, if◌then◌else◌}
use Rattle.std.specs.Str.{bytes_eq}
use Rattle.std.specs.Int.{bit_at}
use Rattle.sha2.specs.Sha256.{sha256}
use Rattle.pfr_flash.specs.Bytes.{bytes_at}
use Rattle.pfr_flash.specs.FuseRow.{is_cleared}
use Rattle.pfr_flash.specs.declared.names.ContentType.{ContentType}
use Rattle.pfr_engine.specs.Acceptance.{Acceptance}
use Rattle.pfr_engine.specs.Curves.{curve_of, signature_magic}
use Rattle.pfr_engine.specs.declared.engine.Curve.{Curve}
use Rattle.pfr_flash.specs.Numbers.{number_at}
use Rattle.pfr_chain.specs.Types.{is_certificate, permission_of}
use Rattle.pfr_chain.specs.Keys.{public_key_at, signature_at, ask_of, any}
use Rattle.pfr_flash.specs.Judging.{◌>>=◌, ◌>>◌, require, known}
use Rattle.pfr_chain.specs.declared.public_key.PublicKey.{PublicKey}
use Rattle.pfr_chain.specs.declared.signature.Signature.{Signature}
use Rattle.pfr_chain.specs.declared.fail.ChainFail.{ChainFail}
use Rattle.pfr_chain.specs.declared.fail.ChainFail.TheVariants.{Block1Magic, RootEntry, RootHash, KeyEntry, KeyId, Permission, Cancelled, KeySignature, Block0Entry, Block0Signature}

-- what a key may sign, and that it is not cancelled
unfoldable pub judge_use : ℕ → ℕ → ContentType → List ℕ → Result (Unit {0}) ChainFail
judge_use key_id permissions type row = do
  require KeyId (nat_le key_id 255)
  require Permission (bit_at permissions (permission_of type) == 1)
  require Cancelled (not (is_cleared row key_id))

-- Block 1's magic and the root entry, whose curve it is
unfoldable pub judge_root : List ℕ → List ℕ → Result Curve ChainFail
judge_root block root = do
  let key : PublicKey = public_key_at block 144
  require Block1Magic (number_at block 128 == 0xF27F28D7)
  require RootEntry (key.magic == 0xA757A046 && key.permissions == any && key.key_id == any)
  curve ← known RootEntry (curve_of key.curve)
  require RootHash (bytes_eq (sha256 (key.x ++ key.y)) root)
  Ok curve

-- the key entry, signed by the root: the key's id
unfoldable pub judge_key : List ℕ → ContentType → Curve → List ℕ → Acceptance → Result ℕ ChainFail
judge_key block type curve row accepts = do
  let root : PublicKey = public_key_at block 144
  let key : PublicKey = public_key_at block 276
  let signature : Signature = signature_at block 408
  require KeyEntry (key.magic == 0x14711C2F && key.curve == root.curve && signature.magic == signature_magic curve)
  judge_use key.key_id key.permissions type row
  require KeySignature (accepts.ask (ask_of curve root (bytes_at block 280 128) signature))
  Ok key.key_id

-- the block-0 entry at a place, signed by this key
unfoldable pub judge_block0_entry : List ℕ → ℕ → Curve → PublicKey → Acceptance → Result (Unit {0}) ChainFail
judge_block0_entry block at curve key accepts = do
  let signature : Signature = signature_at block (at + 4)
  require Block0Entry (number_at block at == 0x15364367 && signature.magic == signature_magic curve)
  require Block0Signature (accepts.ask (ask_of curve key (bytes_at block 0 128) signature))

-- The key entry and the block-0 entry behind it. A certificate has no key entry, and the root signs.
unfoldable pub judge_signatures : List ℕ → ContentType → Curve → List ℕ → Acceptance → Result (Option ℕ) ChainFail
judge_signatures block type curve row accepts =
    if is_certificate type then (do
      judge_block0_entry block 276 curve (public_key_at block 144) accepts
      Ok None)
    else (do
      id ← judge_key block type curve row accepts
      judge_block0_entry block 508 curve (public_key_at block 276) accepts
      Ok (Some id))

-- Block 1: whose key signed
unfoldable pub judge_form1 : List ℕ → ContentType → List ℕ → List ℕ → Acceptance → Result (Option ℕ) ChainFail
judge_form1 block type root row accepts = do
  curve ← judge_root block root
  judge_signatures block type curve row accepts
