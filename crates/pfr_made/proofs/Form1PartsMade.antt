-- What the keys and signatures of form 1 that are made say.
use Rattle.std.proofs.Common.{◌≡◌, ℕ, ◌+◌, ◌^◌, ◌<◌, Some, List, [], ◌∷◌, ◌++◌, length, refl, ◌∙◌, arith, length-append}
use Rattle.pfr_flash.specs.Bytes.{bytes_at}
use Rattle.pfr_engine.specs.Curves.{curve_of, signature_magic}
use Rattle.pfr_engine.specs.declared.engine.Ask.{Ask}
use Rattle.pfr_engine.specs.declared.engine.Curve.{Curve}
use Rattle.pfr_engine.specs.declared.engine.Curve.TheVariants.{C256, C384}
use Rattle.pfr_flash.specs.Numbers.{number_at}
use Rattle.pfr_chain.specs.Keys.{public_key_at, signature_at}
use Rattle.pfr_chain.specs.declared.public_key.PublicKey as chain
use Rattle.pfr_chain.specs.declared.signature.Signature.{Signature}
use Rattle.pfr_made.specs.Fields.{number_bytes, padded}
use Rattle.pfr_made.specs.Form1.{key_bytes, signature_bytes}
use Rattle.pfr_made.specs.Marks.{number_of_curve}
use Rattle.pfr_description.specs.Typed.{IsKeyValue}
use Rattle.pfr_made.proofs.BlockPartsMade.{length-number, in_front, last_part, first_part, number_there, inside_at, number_inside_at}
use Rattle.pfr_made.proofs.PiecesStand.{padded_stands, pieces_stand, read_at, read_number, read_number_at}
use Rattle.pfr_made.proofs.BlockLengthsMade.{IsMark, fits-curve}
use Rattle.pfr_description.specs.declared.keys.PublicKey.{PublicKey}

-- ---- curves
pub fits-signature : (curve : Curve) → signature_magic curve < 2 ^ 32
fits-signature C256 = omega arith
fits-signature C384 = omega arith

pub curve_of-number : (curve : Curve) → curve_of (number_of_curve curve) ≡ Some curve
curve_of-number C256 = refl
curve_of-number C384 = refl

-- ---- keys
-- what the bytes of a key say
record IsSpelled (curve : Curve) (permissions id : ℕ) (key : PublicKey) (bytes : List ℕ) : Type 0 where
  pub curve_number : number_at bytes 0 ≡ number_of_curve curve
  pub permission_bits : number_at bytes 4 ≡ permissions
  pub key_id : number_at bytes 8 ≡ id
  pub x : bytes_at bytes 12 48 ≡ key.x
  pub y : bytes_at bytes 60 48 ≡ key.y

key_spelled : (curve : Curve) (permissions id : ℕ) (key : PublicKey) → permissions < 2 ^ 32 → id < 2 ^ 32 → IsKeyValue key → IsSpelled curve permissions id key (key_bytes curve permissions id key)
unfolding key_bytes
key_spelled curve permissions id key fits_permissions fits_id k =
    let a : List ℕ = number_bytes (number_of_curve curve) in
    let b : List ℕ = number_bytes permissions in
    let c : List ℕ = number_bytes id in
    let all : List ℕ = padded 128 (a ++ b ++ c ++ key.x ++ key.y) in
    let stand = pieces_stand all a (b ∷ c ∷ key.x ∷ key.y ∷ []) (padded_stands 128 (a ++ b ++ c ++ key.x ++ key.y)) in
    let long_a : length a ≡ 4 = length-number (number_of_curve curve) in
    let long_b : length b ≡ 4 = length-number permissions in
    let long_c : length c ≡ 4 = length-number id in
    record {
      curve_number = read_number all 0 (number_of_curve curve) (fits-curve curve) stand.0;
      permission_bits = read_number_at all (length a) 4 permissions stand.1.0 long_a fits_permissions;
      key_id = read_number_at all (length a + length b) 8 id stand.1.1.0 (omega (arith, long_a, long_b)) fits_id;
      x = read_at all (length a + length b + length c) 12 48 key.x stand.1.1.1.0 (omega (arith, long_a, long_b, long_c)) k.x;
      y = read_at all (length a + length b + length c + length key.x) 60 48 key.y stand.1.1.1.1.0 (omega (arith, long_a, long_b, long_c, k.x)) k.y;
    }

-- a key as an entry with a magic has it
abbrev pub entry_of : ℕ → Curve → ℕ → ℕ → PublicKey → chain.PublicKey
entry_of magic curve permissions id key = record { magic = magic; curve = number_of_curve curve; permissions = permissions; key_id = id; x = key.x; y = key.y }

pub key_read : (block : List ℕ) (at magic : ℕ) (curve : Curve) (permissions id : ℕ) (key : PublicKey) → permissions < 2 ^ 32 → id < 2 ^ 32 → IsKeyValue key
    → number_at block at ≡ magic → bytes_at block (at + 4) 128 ≡ key_bytes curve permissions id key → public_key_at block at ≡ entry_of magic curve permissions id key
unfolding public_key_at
key_read block at magic curve permissions id key fits_permissions fits_id k is there =
    let bytes : List ℕ = key_bytes curve permissions id key in
    let said = key_spelled curve permissions id key fits_permissions fits_id k in
    let a : number_at block (at + 4) ≡ number_of_curve curve = number_inside_at block bytes (at + 4) 128 0 (at + 4) there (omega arith) (omega arith) ∙ said.curve_number in
    let b : number_at block (at + 8) ≡ permissions = number_inside_at block bytes (at + 4) 128 4 (at + 8) there (omega arith) (omega arith) ∙ said.permission_bits in
    let c : number_at block (at + 12) ≡ id = number_inside_at block bytes (at + 4) 128 8 (at + 12) there (omega arith) (omega arith) ∙ said.key_id in
    let x : bytes_at block (at + 16) 48 ≡ key.x = inside_at block bytes (at + 4) 128 12 (at + 16) 48 there (omega arith) (omega arith) ∙ said.x in
    let y : bytes_at block (at + 64) 48 ≡ key.y = inside_at block bytes (at + 4) 128 60 (at + 64) 48 there (omega arith) (omega arith) ∙ said.y in
    rw (is, a, b, c, x, y) refl

-- ---- signatures
-- a signature as an entry has it
abbrev pub signature_in : Ask → Signature
signature_in marks = record { magic = signature_magic marks.curve; r = marks.r; s = marks.s }

pub signature_read : (block : List ℕ) (at : ℕ) (marks : Ask) → IsMark marks → bytes_at block at 100 ≡ signature_bytes marks → signature_at block at ≡ signature_in marks
unfolding signature_at signature_bytes
signature_read block at marks m there =
    let a : List ℕ = number_bytes (signature_magic marks.curve) in
    let all : List ℕ = a ++ marks.r ++ marks.s in
    let long_a : length a ≡ 4 = length-number (signature_magic marks.curve) in
    let front : length (a ++ marks.r) ≡ 52 = simp length-append (omega (arith, long_a, m.r)) in
    let magic_bytes : bytes_at all 0 4 ≡ a = in_front (a ++ marks.r) marks.s 0 4 (omega arith) ∙ first_part a marks.r 4 long_a in
    let magic : number_at block at ≡ signature_magic marks.curve = number_inside_at block all at 100 0 at there (omega arith) (omega arith) ∙ number_there all 0 (signature_magic marks.curve) (fits-signature marks.curve) magic_bytes in
    let r : bytes_at block (at + 4) 48 ≡ marks.r = inside_at block all at 100 4 (at + 4) 48 there refl (omega arith) ∙ in_front (a ++ marks.r) marks.s 4 48 (omega arith) ∙ last_part a marks.r 4 48 long_a m.r in
    let s : bytes_at block (at + 52) 48 ≡ marks.s = inside_at block all at 100 52 (at + 52) 48 there refl (omega arith) ∙ last_part (a ++ marks.r) marks.s 52 48 front m.s in
    rw (magic, r, s) refl
