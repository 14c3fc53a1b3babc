-- Keys and signatures as the entries of form 1 spell them, and what a key may sign in either form.
use Rattle.std.specs.Prelude.{◌≡◌, ℕ, ◌+◌, ◌≤◌, false, List}
use Rattle.std.specs.Int.{bit_at}
use Rattle.sha2.specs.Sha256.{sha256}
use Rattle.sha2.specs.Sha512.{sha384}
use Rattle.pfr_flash.specs.Bytes.{bytes_at}
use Rattle.pfr_flash.specs.FuseRow.{is_cleared}
use Rattle.pfr_flash.specs.declared.names.ContentType.{ContentType}
use Rattle.pfr_engine.specs.declared.engine.Ask.{Ask}
use Rattle.pfr_engine.specs.declared.engine.Curve.{Curve}
use Rattle.pfr_engine.specs.declared.engine.Curve.TheVariants.{C256, C384}
use Rattle.pfr_engine.specs.declared.engine.Digest.{Digest}
use Rattle.pfr_engine.specs.declared.engine.Digest.TheVariants.{D256, D384}
use Rattle.pfr_flash.specs.Numbers.{number_at}
use Rattle.pfr_chain.specs.Types.{permission_of}
use Rattle.pfr_chain.specs.declared.public_key.PublicKey.{PublicKey}
use Rattle.pfr_chain.specs.declared.signature.Signature.{Signature}

-- magic, curve, permissions and key id of 4 bytes each, X and Y of 48 each
unfoldable pub public_key_at : List ℕ → ℕ → PublicKey
public_key_at bytes at = record {
  magic = number_at bytes at;
  curve = number_at bytes (at + 4);
  permissions = number_at bytes (at + 8);
  key_id = number_at bytes (at + 12);
  x = bytes_at bytes (at + 16) 48;
  y = bytes_at bytes (at + 64) 48;
}

-- magic of 4 bytes, R and S of 48 each
unfoldable pub signature_at : List ℕ → ℕ → Signature
signature_at bytes at = record {
  magic = number_at bytes at;
  r = bytes_at bytes (at + 4) 48;
  s = bytes_at bytes (at + 52) 48;
}

-- the digest of the signed bytes on a curve
abbrev pub digest_on : Curve → List ℕ → Digest
digest_on C256 message = D256 (sha256 message)
digest_on C384 message = D384 (sha384 message)

-- what an engine is asked of a message's signature under a key
abbrev pub ask_of : Curve → PublicKey → List ℕ → Signature → Ask
ask_of curve key message signature = record {
  curve = curve;
  x = key.x;
  y = key.y;
  digest = digest_on curve message;
  r = signature.r;
  s = signature.s;
}

-- what a root entry has for permissions and key id
abbrev pub any : ℕ
any = 0xFFFFFFFF

-- a key of this id and these permissions may sign the type, and the row doesn't cancel it
pub record MaySign (key_id permissions : ℕ) (type : ContentType) (row : List ℕ) : Type 0 where
  pub id : key_id ≤ 255
  pub permission : bit_at permissions (permission_of type) ≡ 1
  pub not_cancelled : is_cleared row key_id ≡ false
