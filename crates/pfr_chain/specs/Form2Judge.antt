-- The tests of Block 1 of form 2, in the order of the causes.
use Rattle.std.specs.Prelude.{ℕ, ◌+◌, ◌%◌, ◌==◌, ◌&&◌, Bool, nat_le, List, length, Option, Some, None, Result, Ok, if◌then◌else◌}
use Rattle.std.specs.Str.{bytes_eq}
use Rattle.pfr_flash.specs.Bytes.{bytes_at}
use Rattle.pfr_flash.specs.declared.names.ContentType.{ContentType}
use Rattle.pfr_engine.specs.Acceptance.{Acceptance}
use Rattle.pfr_flash.specs.Numbers.{number_at}
use Rattle.pfr_chain.specs.Types.{is_certificate}
use Rattle.pfr_chain.specs.Keys.{any}
use Rattle.pfr_chain.specs.Form2.{key_of, key_end, signature_of, signature_end, scheme_of, root_hash}
use Rattle.pfr_chain.specs.Form1Judge.{judge_use}
use Rattle.pfr_flash.specs.Judging.{◌>>=◌, ◌>>◌, require}
use Rattle.pfr_chain.specs.declared.form2.KeyPlace.{KeyPlace}
use Rattle.pfr_chain.specs.declared.fail.ChainFail.{ChainFail}
use Rattle.pfr_chain.specs.declared.fail.ChainFail.TheVariants.{Block1Magic, RootEntry, RootHash, KeyEntry, KeySignature, Block0Entry, Block0Signature}

abbrev pub is_key_length : ℕ → Bool
is_key_length count = nat_le 4 count && nat_le count 256 && count % 4 == 0

abbrev pub is_signature_length : ℕ → Bool
is_signature_length count = nat_le 4 count && nat_le count 8000 && count % 4 == 0

abbrev pub has_signature : List ℕ → ℕ → Bool
has_signature block at = is_signature_length (number_at block at) && nat_le (signature_end block at) (length block)

-- a root entry at place 144
unfoldable pub is_root_entry : List ℕ → Bool
is_root_entry block = number_at block 144 == 0xA757A047 && number_at block 148 == any && number_at block 152 == any && is_key_length (number_at block 160) && nat_le (key_end block 144) (length block)

-- Block 1's magic and the root entry: where it ends
unfoldable pub judge_long_root : List ℕ → List ℕ → Result ℕ ChainFail
judge_long_root block root = do
  require Block1Magic (number_at block 128 == 0xF27F28D8)
  require RootEntry (is_root_entry block)
  require RootHash (bytes_eq (root_hash block) root)
  Ok (key_end block 144)

-- the key entry at a place, signed by the root: the key's id, and where the entry ends
unfoldable pub judge_long_key : List ℕ → ℕ → ContentType → List ℕ → Acceptance → Result KeyPlace ChainFail
judge_long_key block at type row accepts = do
  let signed : ℕ = key_end block at
  require KeyEntry (number_at block at == 0x14711C30 && number_at block (at + 12) == scheme_of block && is_key_length (number_at block (at + 16)) && has_signature block signed)
  judge_use (number_at block (at + 8)) (number_at block (at + 4)) type row
  require KeySignature (accepts.long (scheme_of block) (key_of block 144) (bytes_at block (at + 4) (16 + number_at block (at + 16))) (signature_of block signed))
  Ok (record { id = number_at block (at + 8); end = signature_end block signed })

-- the block-0 entry at a place, signed by this key
unfoldable pub judge_long_entry : List ℕ → ℕ → List ℕ → Acceptance → Result (Unit {0}) ChainFail
judge_long_entry block at key accepts = do
  require Block0Entry (nat_le (at + 8) (length block) && number_at block at == 0x15364368 && has_signature block (at + 4))
  require Block0Signature (accepts.long (scheme_of block) key (bytes_at block 0 128) (signature_of block (at + 4)))

-- The key entry at a place and the block-0 entry behind it. A certificate has no key entry, and the root signs.
unfoldable pub judge_long_signatures : List ℕ → ℕ → ContentType → List ℕ → Acceptance → Result (Option ℕ) ChainFail
judge_long_signatures block at type row accepts =
    if is_certificate type then (do
      judge_long_entry block at (key_of block 144) accepts
      Ok None)
    else (do
      key ← judge_long_key block at type row accepts
      judge_long_entry block key.end (key_of block at) accepts
      Ok (Some key.id))

-- Block 1: whose key signed
unfoldable pub judge_form2 : List ℕ → ContentType → List ℕ → List ℕ → Acceptance → Result (Option ℕ) ChainFail
judge_form2 block type root row accepts = do
  at ← judge_long_root block root
  judge_long_signatures block at type row accepts
