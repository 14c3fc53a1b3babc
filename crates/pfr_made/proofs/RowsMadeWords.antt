-- Fields of bytes as the hex words of a line.
use Rattle.std.proofs.Common.{◌≡◌, ◌==◌, ℕ, ◌*◌, ◌%◌, ◌≤◌, ◌<◌, true, false, nat_le, List, map, length, All, Ok, refl, ap, arith}
use Rattle.std.specs.List.{list_all, join_with_byte}
use Rattle.std.proofs.lemmas.Bool.Decides.{nat_tests}
use Rattle.std.proofs.lemmas.List.{length-map}
use Rattle.std.proofs.lemmas.List.Elements.{All-map, All-weaker}
use Rattle.std.proofs.lemmas.List.Sums.{list_all-from_AllPass}
use Rattle.hex.specs.Hex.{encode_lower, is_hex_digit, lower_digits}
use Rattle.hex.proofs.HexLemmas.{length-encode_with, decode_of-encode_lower, decode_sized-encode_lower}
use Rattle.pfr_engine.specs.declared.engine_why.EngineWhy.TheVariants as causes
use Rattle.pfr_engine.specs.Words.{words_in, is_word, are_words, are_hex, decoded, bytes_of, long_bytes_of}
use Rattle.pfr_flash.specs.Bytes.{AreBytes}
use Rattle.pfr_made.proofs.RowsMadeBytes.{word_is_hex, word_no_space, word_no_newline}
use Rattle.pfr_made.proofs.RowsMadeLines.{words_of_join, join_clear}

-- some bytes, of which a word is made
pub record IsField (bytes : List ℕ) : Type 0 where
  pub some : 0 < length bytes
  pub are : AreBytes bytes

abbrev pub words_of : List (List ℕ) → List (List ℕ)
words_of fields = map encode_lower fields

is_word-field : (bytes : List ℕ) → IsField bytes → is_word (encode_lower bytes) ≡ true
is_word-field bytes h =
    let len = length-encode_with lower_digits bytes in
    let t : (length (encode_lower bytes) == 0) ≡ false = grind (arith, nat_tests) in
    rw t refl

module _ (fields : List (List ℕ)) (h : All IsField fields) where
  pub fields_words : 0 < length fields → words_in (join_with_byte 32 (words_of fields)) ≡ words_of fields
  fields_words some =
      words_of_join (words_of fields) (rw (length-map fields encode_lower) some)
      (All-map (λ word. All (λ byte. (byte == 32) ≡ false) word) encode_lower fields
      (All-weaker IsField (λ bytes. All (λ byte. (byte == 32) ≡ false) (encode_lower bytes)) (λ bytes f. word_no_space bytes f.are) fields h))

  pub fields_clear : All (λ byte. (byte == 10) ≡ false) (join_with_byte 32 (words_of fields))
  fields_clear =
      join_clear (words_of fields)
      (All-map (λ word. All (λ byte. (byte == 10) ≡ false) word) encode_lower fields
      (All-weaker IsField (λ bytes. All (λ byte. (byte == 10) ≡ false) (encode_lower bytes)) (λ bytes f. word_no_newline bytes f.are) fields h))

  pub fields_are_words : (count : ℕ) → length fields ≡ count → are_words count (words_of fields) ≡ true
  fields_are_words count e =
      let len : (length (words_of fields) == count) ≡ true = rw (length-map fields encode_lower) (grind (arith, nat_tests)) in
      let each : list_all is_word (words_of fields) ≡ true =
      list_all-from_AllPass is_word (words_of fields)
      (All-map (λ word. is_word word ≡ true) encode_lower fields
      (All-weaker IsField (λ bytes. is_word (encode_lower bytes) ≡ true) is_word-field fields h)) in
      rw (len, each) refl

  pub fields_are_hex : are_hex (words_of fields) ≡ true
  fields_are_hex =
      list_all-from_AllPass (λ word. list_all is_hex_digit word) (words_of fields)
      (All-map (λ word. list_all is_hex_digit word ≡ true) encode_lower fields
      (All-weaker IsField (λ bytes. list_all is_hex_digit (encode_lower bytes) ≡ true) (λ bytes f. word_is_hex bytes f.are) fields h))

-- a word of just so many bytes
pub read_word : (count : ℕ) (bytes : List ℕ) → length bytes ≡ count → AreBytes bytes → bytes_of count (encode_lower bytes) ≡ Ok bytes
unfolding bytes_of
read_word count bytes len are = ap (decoded causes.Length) (decode_sized-encode_lower bytes count len are)

-- and one of up to so many
pub read_long_word : (most times : ℕ) (bytes : List ℕ) → length bytes ≡ 4 * times → 0 < times → length bytes ≤ most → AreBytes bytes →
    long_bytes_of most (encode_lower bytes) ≡ Ok bytes
unfolding long_bytes_of
read_long_word most times bytes len some fits are =
    let twice = length-encode_with lower_digits bytes in
    let low : nat_le 8 (length (encode_lower bytes)) ≡ true = grind (arith, nat_tests) in
    let high : nat_le (length (encode_lower bytes)) (2 * most) ≡ true = grind (arith, nat_tests) in
    let multiple : (length (encode_lower bytes) % 8 == 0) ≡ true = grind (arith, nat_tests) in
    rw (low, high, multiple) (ap (decoded causes.Length) (decode_of-encode_lower bytes are))
