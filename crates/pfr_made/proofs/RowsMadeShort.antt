-- The row of marks of form 1 says just these marks.
use Rattle.std.proofs.Common.{◌≡◌, ◌==◌, ℕ, ◌%◌, true, false, List, [], ◌∷◌, ◌++◌, length, take, All, Some, Ok, codes, refl, arith, append_assoc}
use Rattle.std.specs.Int.{w32, from_be_bytes, to_be_bytes}
use Rattle.std.specs.List.{join_with_byte}
use Rattle.std.specs.Str.{bytes_eq}
use Rattle.std.proofs.lemmas.Bool.Decides.{nat_tests}
use Rattle.std.proofs.lemmas.List.Elements.{All-from_recursion}
use Rattle.sha2.specs.Sha256.{sha256}
use Rattle.sha2.specs.Sha512.{sha384}
use Rattle.sha2.proofs.Facts256.{length-sha256}
use Rattle.sha2.proofs.Facts512.{length-sha384}
use Rattle.hex.specs.Hex.{encode_lower, encode_with, lower_digits}
use Rattle.hex.proofs.HexLemmas.{length-encode_with, decode_sized-encode_lower}
use Rattle.pfr_engine.specs.Curves.{curve_of}
use Rattle.pfr_engine.specs.Rows.{judge_row}
use Rattle.pfr_engine.specs.ShortRow.{digest_of, ask_of, judge_short}
use Rattle.pfr_engine.specs.declared.engine.Curve.{Curve}
use Rattle.pfr_engine.specs.declared.engine.Curve.TheVariants.{C256, C384}
use Rattle.pfr_engine.specs.declared.engine.Digest.{Digest}
use Rattle.pfr_engine.specs.declared.row.Row.TheVariants.{Short}
use Rattle.pfr_chain.specs.Keys.{digest_on}
use Rattle.pfr_description.specs.declared.keys.PublicKey.{PublicKey}
use Rattle.pfr_made.specs.Marks.{number_of_curve, digest_bytes, mark_of, marks_of}
use Rattle.pfr_made.specs.Rows.{word, row_of}
use Rattle.pfr_flash.specs.Bytes.{AreBytes}
use Rattle.pfr_description.specs.Typed.{IsKeyValue}
use Rattle.pfr_made.proofs.BlockLengthsMade.{length-mark}
use Rattle.pfr_made.proofs.ByteLaws.{number_are_bytes, sha256-bytes, sha384-bytes}
use Rattle.pfr_made.proofs.RowsMadeLines.{SpellsRow}
use Rattle.pfr_made.proofs.RowsMadeWords.{IsField, words_of, fields_words, fields_clear, fields_are_words, fields_are_hex, read_word}

pub mark_of-bytes : (letter : ℕ) (key : PublicKey) (digest : Digest) → AreBytes (mark_of letter key digest)
unfolding mark_of
mark_of-bytes letter key digest = sha384-bytes _

-- the curve's word is no `long`, and its number is the curve's
not_long : (curve : Curve) (rest : List ℕ) → bytes_eq (take 5 (encode_lower (to_be_bytes w32 (number_of_curve curve)) ++ 32 ∷ rest)) (codes "long ") ≡ false
unfolding encode_with
not_long C256 rest = refl
not_long C384 rest = refl

curve_said : (curve : Curve) → curve_of (from_be_bytes w32 (to_be_bytes w32 (number_of_curve curve))) ≡ Some curve
curve_said C256 = refl
curve_said C384 = refl

digest_field : (curve : Curve) (message : List ℕ) → IsField (digest_bytes (digest_on curve message))
digest_field C256 message = record { some = omega (arith, length-sha256 message); are = sha256-bytes message }
digest_field C384 message = record { some = omega (arith, length-sha384 message); are = sha384-bytes message }

digest_said : (curve : Curve) (message : List ℕ) → digest_of curve (encode_lower (digest_bytes (digest_on curve message))) ≡ Ok (digest_on curve message)
unfolding digest_of
digest_said C256 message = rw (decode_sized-encode_lower (sha256 message) 32 (length-sha256 message) (sha256-bytes message)) refl
digest_said C384 message = rw (decode_sized-encode_lower (sha384 message) 48 (length-sha384 message) (sha384-bytes message)) refl

-- what the six words say
asked : (curve : Curve) (x y r s message : List ℕ) → length x ≡ 48 → length y ≡ 48 → length r ≡ 48 → length s ≡ 48 →
    AreBytes x → AreBytes y → AreBytes r → AreBytes s →
    ask_of (encode_lower (to_be_bytes w32 (number_of_curve curve))) (encode_lower x) (encode_lower y)
    (encode_lower (digest_bytes (digest_on curve message))) (encode_lower r) (encode_lower s)
    ≡ Ok (record { curve = curve; x = x; y = y; digest = digest_on curve message; r = r; s = s })
unfolding ask_of
asked curve x y r s message lx ly lr ls bx by br bs =
    let number : List ℕ = to_be_bytes w32 (number_of_curve curve) in
    let digest : List ℕ = digest_bytes (digest_on curve message) in
    let twice = length-encode_with lower_digits digest in
    let even : (length (encode_lower digest) % 2 == 0) ≡ true = grind (arith, nat_tests) in
    rw (read_word 4 number refl (number_are_bytes 4 (number_of_curve curve)), read_word 48 x lx bx, read_word 48 y ly by, read_word 48 r lr br, read_word 48 s ls bs, even, curve_said curve, digest_said curve message) refl

-- the fields of a row
abbrev short_fields : Curve → PublicKey → List ℕ → List (List ℕ)
short_fields curve key message =
    to_be_bytes w32 (number_of_curve curve) ∷ key.x ∷ key.y ∷ digest_bytes (digest_on curve message)
    ∷ mark_of 0x52 key (digest_on curve message) ∷ mark_of 0x53 key (digest_on curve message) ∷ []

mark_field : (letter : ℕ) (key : PublicKey) (digest : Digest) → IsField (mark_of letter key digest)
mark_field letter key digest = record { some = omega (arith, length-mark letter key digest); are = mark_of-bytes letter key digest }

are_fields : (curve : Curve) (key : PublicKey) (message : List ℕ) → IsKeyValue key → All IsField (short_fields curve key message)
are_fields curve key message h =
    let number : IsField (to_be_bytes w32 (number_of_curve curve)) = record { some = omega arith; are = number_are_bytes 4 (number_of_curve curve) } in
    let x : IsField key.x = record { some = omega (arith, h.x); are = h.x_bytes } in
    let y : IsField key.y = record { some = omega (arith, h.y); are = h.y_bytes } in
    let r = mark_field 0x52 key (digest_on curve message) in
    let s = mark_field 0x53 key (digest_on curve message) in
    All-from_recursion IsField (short_fields curve key message) (number, (x, (y, (digest_field curve message, (r, (s, tt))))))

short_line : (curve : Curve) (key : PublicKey) (message : List ℕ) →
    row_of (marks_of curve key message) ≡ join_with_byte 32 (words_of (short_fields curve key message)) ++ 10 ∷ []
unfolding word row_of
short_line curve key message = simp append_assoc

short_judged : (curve : Curve) (key : PublicKey) (message : List ℕ) → IsKeyValue key →
    judge_short (words_of (short_fields curve key message)) ≡ Ok (marks_of curve key message)
unfolding judge_short
short_judged curve key message h =
    let fields = short_fields curve key message in
    let are = are_fields curve key message h in
    let digest = digest_on curve message in
    rw (fields_are_words fields are 6 refl, fields_are_hex fields are)
    (asked curve key.x key.y (mark_of 0x52 key digest) (mark_of 0x53 key digest) message h.x h.y (length-mark 0x52 key digest) (length-mark 0x53 key digest)
    h.x_bytes h.y_bytes (mark_of-bytes 0x52 key digest) (mark_of-bytes 0x53 key digest))

short_row : (curve : Curve) (key : PublicKey) (message : List ℕ) → IsKeyValue key →
    judge_row (join_with_byte 32 (words_of (short_fields curve key message))) ≡ Ok (Short (marks_of curve key message))
unfolding judge_row
short_row curve key message h =
    let fields = short_fields curve key message in
    let are = are_fields curve key message h in
    rw (not_long curve _, fields_words fields are (omega arith), short_judged curve key message h) refl

-- the row of these marks
pub short_spells : (curve : Curve) (key : PublicKey) (message : List ℕ) → IsKeyValue key →
    SpellsRow (row_of (marks_of curve key message)) (Short (marks_of curve key message))
short_spells curve key message h = record {
  line = join_with_byte 32 (words_of (short_fields curve key message));
  whole = short_line curve key message;
  clear = fields_clear (short_fields curve key message) (are_fields curve key message h);
  judged = short_row curve key message h;
}
