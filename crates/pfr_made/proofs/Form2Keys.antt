-- The keys and the signatures of form 2, read where they stand.
use Rattle.std.proofs.Common.{◌≡◌, ℕ, ◌+◌, ◌<◌, ◌^◌, List, ◌++◌, arith, length-append}
use Rattle.pfr_engine.specs.declared.engine.Ask.{Ask}
use Rattle.pfr_engine.specs.declared.engine.Curve.{Curve}
use Rattle.pfr_flash.specs.Bytes.{bytes_at}
use Rattle.pfr_flash.specs.Numbers.{number_at}
use Rattle.pfr_made.specs.Fields.{number_bytes}
use Rattle.pfr_made.specs.Form2.{key_bytes, signature_bytes}
use Rattle.pfr_made.specs.Marks.{number_of_curve}
use Rattle.pfr_description.specs.Typed.{IsKeyValue}
use Rattle.pfr_made.proofs.BlockPartsMade.{length-number}
use Rattle.pfr_made.proofs.BlockLengthsMade.{IsMark, fits-curve}
use Rattle.pfr_made.proofs.PiecesStand.{Stands, stands_front, stands_behind, read_bytes, read_number}
use Rattle.pfr_description.specs.declared.keys.PublicKey.{PublicKey}

-- what is read of a key at a place, from its permissions on
pub record HasKey (block : List ℕ) (at : ℕ) (curve : Curve) (permissions id : ℕ) (key : PublicKey) : Type 0 where
  pub may : number_at block at ≡ permissions
  pub named : number_at block (at + 4) ≡ id
  pub scheme : number_at block (at + 8) ≡ number_of_curve curve
  pub scheme_bytes : bytes_at block (at + 8) 4 ≡ number_bytes (number_of_curve curve)
  pub count : number_at block (at + 12) ≡ 96
  pub point : bytes_at block (at + 16) 96 ≡ key.x ++ key.y

-- what is read of a signature at a place, from its length on
pub record HasMarks (block : List ℕ) (at : ℕ) (marks : Ask) : Type 0 where
  pub count : number_at block at ≡ 96
  pub numbers : bytes_at block (at + 4) 96 ≡ marks.r ++ marks.s

pub has_key : (block : List ℕ) (at : ℕ) (curve : Curve) (permissions id : ℕ) (key : PublicKey) → permissions < 2 ^ 32 → id < 2 ^ 32 → IsKeyValue key
    → Stands block at (key_bytes curve permissions id key) → HasKey block at curve permissions id key
unfolding key_bytes number_bytes
has_key block at curve permissions id key small small_id value h =
    let four = length-number in
    let a = stands_behind block at (at + 4) (number_bytes permissions) _ (omega (arith, four permissions)) h in
    let b = stands_behind block (at + 4) (at + 8) (number_bytes id) _ (omega (arith, four id)) a in
    let c = stands_behind block (at + 8) (at + 12) (number_bytes (number_of_curve curve)) _ (omega (arith, four (number_of_curve curve))) b in
    let d = stands_behind block (at + 12) (at + 16) (number_bytes 96) _ (omega (arith, four 96)) c in
    let scheme = stands_front block (at + 8) (number_bytes (number_of_curve curve)) _ b in
    record {
      may = read_number block at permissions small (stands_front block at (number_bytes permissions) _ h);
      named = read_number block (at + 4) id small_id (stands_front block (at + 4) (number_bytes id) _ a);
      scheme = read_number block (at + 8) (number_of_curve curve) (fits-curve curve) scheme;
      scheme_bytes = read_bytes block (at + 8) 4 (number_bytes (number_of_curve curve)) (four (number_of_curve curve)) scheme;
      count = read_number block (at + 12) 96 (omega arith) (stands_front block (at + 12) (number_bytes 96) _ c);
      point = read_bytes block (at + 16) 96 (key.x ++ key.y) (omega (arith, length-append key.x key.y, value.x, value.y)) d;
    }

pub has_marks : (block : List ℕ) (at : ℕ) (marks : Ask) → IsMark marks → Stands block at (signature_bytes marks) → HasMarks block at marks
unfolding signature_bytes number_bytes
has_marks block at marks long h =
    let a = stands_behind block at (at + 4) (number_bytes 96) _ (omega (arith, length-number 96)) h in
    record {
      count = read_number block at 96 (omega arith) (stands_front block at (number_bytes 96) _ h);
      numbers = read_bytes block (at + 4) 96 (marks.r ++ marks.s) (omega (arith, length-append marks.r marks.s, long.r, long.s)) a;
    }
