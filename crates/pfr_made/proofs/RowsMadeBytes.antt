-- Hex words of bytes: they are digits, without space and newline.
use Rattle.std.proofs.Common.{◌≡◌, ◌==◌, ℕ, true, false, List, All, arith}
use Rattle.std.specs.List.{AllPass, list_all}
use Rattle.std.proofs.lemmas.Bool.Decides.{nat_tests}
use Rattle.std.proofs.lemmas.List.Elements.{All-weaker}
use Rattle.std.proofs.lemmas.List.Sums.{list_all-from_AllPass}
use Rattle.hex.specs.Hex.{encode_lower, is_hex_digit}
use Rattle.hex.proofs.HexLemmas.{decode_of-encode_lower, decode_of-ok}
use Rattle.pfr_flash.specs.Bytes.{AreBytes}

word_digits : (bytes : List ℕ) → AreBytes bytes → AllPass is_hex_digit (encode_lower bytes)
word_digits bytes h = (decode_of-ok (encode_lower bytes) bytes (decode_of-encode_lower bytes h)).1

pub word_is_hex : (bytes : List ℕ) → AreBytes bytes → list_all is_hex_digit (encode_lower bytes) ≡ true
word_is_hex bytes h = list_all-from_AllPass is_hex_digit (encode_lower bytes) (word_digits bytes h)

no_space : (c : ℕ) → is_hex_digit c ≡ true → (c == 32) ≡ false
no_space c h = grind (arith, nat_tests)

no_newline : (c : ℕ) → is_hex_digit c ≡ true → (c == 10) ≡ false
no_newline c h = grind (arith, nat_tests)

pub word_no_space : (bytes : List ℕ) → AreBytes bytes → All (λ c. (c == 32) ≡ false) (encode_lower bytes)
word_no_space bytes h = All-weaker (λ c. is_hex_digit c ≡ true) (λ c. (c == 32) ≡ false) no_space (encode_lower bytes) (word_digits bytes h)

pub word_no_newline : (bytes : List ℕ) → AreBytes bytes → All (λ c. (c == 10) ≡ false) (encode_lower bytes)
word_no_newline bytes h = All-weaker (λ c. is_hex_digit c ≡ true) (λ c. (c == 10) ≡ false) no_newline (encode_lower bytes) (word_digits bytes h)
