-- The row of marks of form 2 says the scheme, the key, the digest and the signature.
use Rattle.std.proofs.Common.{◌≡◌, ◌==◌, false, ℕ, List, [], ◌∷◌, ◌++◌, length, All, Ok, codes, refl, arith, append_assoc, length-append}
use Rattle.std.specs.Int.{w32, from_be_bytes, to_be_bytes}
use Rattle.std.specs.List.{join_with_byte}
use Rattle.std.proofs.lemmas.List.Elements.{All-append, All-from_recursion}
use Rattle.sha2.specs.Sha512.{sha384}
use Rattle.sha2.proofs.Facts512.{length-sha384}
use Rattle.hex.specs.Hex.{encode_lower}
use Rattle.pfr_engine.specs.LongAsk.{LongAsk}
use Rattle.pfr_engine.specs.LongRow.{long_ask_of, judge_long}
use Rattle.pfr_engine.specs.Rows.{judge_row}
use Rattle.pfr_engine.specs.declared.engine.Curve.{Curve}
use Rattle.pfr_engine.specs.declared.engine.Curve.TheVariants.{C256, C384}
use Rattle.pfr_engine.specs.declared.engine.Digest.TheVariants.{D384}
use Rattle.pfr_engine.specs.declared.row.Row.TheVariants.{Long}
use Rattle.pfr_description.specs.declared.keys.PublicKey.{PublicKey}
use Rattle.pfr_made.specs.Form2.{long_marks_of}
use Rattle.pfr_made.specs.Marks.{number_of_curve, mark_of}
use Rattle.pfr_made.specs.Rows.{word, long_row_of}
use Rattle.pfr_flash.specs.Bytes.{AreBytes}
use Rattle.pfr_description.specs.Typed.{IsKeyValue}
use Rattle.pfr_flash.proofs.AreBytesLemmas.{AreBytes-append}
use Rattle.pfr_made.proofs.ByteLaws.{number_are_bytes, sha384-bytes}
use Rattle.pfr_made.proofs.RowsMadeLines.{SpellsRow}
use Rattle.pfr_made.proofs.BlockLengthsMade.{length-mark}
use Rattle.pfr_made.proofs.RowsMadeShort.{mark_of-bytes}
use Rattle.pfr_made.proofs.RowsMadeWords.{IsField, words_of, fields_words, fields_clear, fields_are_words, fields_are_hex, read_word, read_long_word}

-- what a key's marks on a message are in a row of form 2
abbrev pub long_said : Curve → PublicKey → List ℕ → LongAsk
long_said curve key message = record {
  scheme = number_of_curve curve;
  key = key.x ++ key.y;
  digest = sha384 message;
  signature = (long_marks_of key message).r ++ (long_marks_of key message).s;
}

scheme_said : (curve : Curve) → from_be_bytes w32 (to_be_bytes w32 (number_of_curve curve)) ≡ number_of_curve curve
scheme_said C256 = refl
scheme_said C384 = refl

-- what the four words say
asked : (curve : Curve) (key digest signature : List ℕ) → length key ≡ 96 → length digest ≡ 48 → length signature ≡ 96 →
    AreBytes key → AreBytes digest → AreBytes signature →
    long_ask_of (encode_lower (to_be_bytes w32 (number_of_curve curve))) (encode_lower key) (encode_lower digest) (encode_lower signature)
    ≡ Ok (record { scheme = number_of_curve curve; key = key; digest = digest; signature = signature })
unfolding long_ask_of
asked curve key digest signature lk ld ls bk bd bs =
    rw (read_word 4 (to_be_bytes w32 (number_of_curve curve)) refl (number_are_bytes 4 (number_of_curve curve)), read_long_word 256 24 key lk (omega arith) (omega arith) bk, read_word 48 digest ld bd, read_long_word 8000 24 signature ls (omega arith) (omega arith) bs, scheme_said curve) refl

-- the fields of a row
abbrev long_fields : Curve → PublicKey → List ℕ → List (List ℕ)
long_fields curve key message =
    to_be_bytes w32 (number_of_curve curve) ∷ (long_said curve key message).key ∷ sha384 message ∷ (long_said curve key message).signature ∷ []

module _ (curve : Curve) (key : PublicKey) (message : List ℕ) (h : IsKeyValue key) where
  length-key : length (long_said curve key message).key ≡ 96
  length-key = omega (arith, length-append key.x key.y, h.x, h.y)

  key_bytes : AreBytes (long_said curve key message).key
  key_bytes = AreBytes-append key.x key.y h.x_bytes h.y_bytes

  length-signature : length (long_said curve key message).signature ≡ 96
  length-signature =
      let digest = D384 (sha384 message) in
      omega (arith, length-append (mark_of 0x52 key digest) (mark_of 0x53 key digest), length-mark 0x52 key digest, length-mark 0x53 key digest)

  signature_bytes : AreBytes (long_said curve key message).signature
  signature_bytes =
      let digest = D384 (sha384 message) in
      AreBytes-append (mark_of 0x52 key digest) (mark_of 0x53 key digest) (mark_of-bytes 0x52 key digest) (mark_of-bytes 0x53 key digest)

  are_fields : All IsField (long_fields curve key message)
  are_fields =
      let number : IsField (to_be_bytes w32 (number_of_curve curve)) = record { some = omega arith; are = number_are_bytes 4 (number_of_curve curve) } in
      let k : IsField (long_said curve key message).key = record { some = omega (arith, length-key); are = key_bytes } in
      let d : IsField (sha384 message) = record { some = omega (arith, length-sha384 message); are = sha384-bytes message } in
      let s : IsField (long_said curve key message).signature = record { some = omega (arith, length-signature); are = signature_bytes } in
      All-from_recursion IsField (long_fields curve key message) (number, (k, (d, (s, tt))))

  long_line : long_row_of (number_of_curve curve) (long_marks_of key message)
      ≡ (codes "long " ++ join_with_byte 32 (words_of (long_fields curve key message))) ++ 10 ∷ []
  unfolding word long_row_of
  long_line = simp append_assoc

  long_judged : judge_long (words_of (long_fields curve key message)) ≡ Ok (long_said curve key message)
  unfolding judge_long
  long_judged =
      let said = long_said curve key message in
      rw (fields_are_words (long_fields curve key message) are_fields 4 refl, fields_are_hex (long_fields curve key message) are_fields)
      (asked curve said.key said.digest said.signature length-key (length-sha384 message) length-signature key_bytes (sha384-bytes message) signature_bytes)

  long_row : judge_row (codes "long " ++ join_with_byte 32 (words_of (long_fields curve key message))) ≡ Ok (Long (long_said curve key message))
  unfolding judge_row
  long_row = rw (fields_words (long_fields curve key message) are_fields (omega arith), long_judged) refl

  long_clear : All (λ byte. (byte == 10) ≡ false) (codes "long " ++ join_with_byte 32 (words_of (long_fields curve key message)))
  long_clear =
      let prefix : All (λ byte. (byte == 10) ≡ false) (codes "long ") = All-from_recursion (λ byte. (byte == 10) ≡ false) (codes "long ") (refl, (refl, (refl, (refl, (refl, tt))))) in
      All-append (λ byte. (byte == 10) ≡ false) (codes "long ") (join_with_byte 32 (words_of (long_fields curve key message)))
      prefix (fields_clear (long_fields curve key message) are_fields)

  -- the row of these marks
  pub long_spells : SpellsRow (long_row_of (number_of_curve curve) (long_marks_of key message)) (Long (long_said curve key message))
  long_spells = record {
    line = codes "long " ++ join_with_byte 32 (words_of (long_fields curve key message));
    whole = long_line;
    clear = long_clear;
    judged = long_row;
  }
