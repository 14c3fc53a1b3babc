-- The words of a line, and the bytes that hex digits of either case spell.
use Rattle.std.specs.Prelude.{ℕ, ◌*◌, ◌%◌, ◌==◌, ◌&&◌, Bool, nat_le, not, List, length, Result, Ok, Err}
use Rattle.std.specs.List.{slice_split, list_all}
use Rattle.hex.specs.Hex.{decode_of, decode_sized, is_hex_digit}
use Rattle.hex.specs.declared.error.FromHexError.{FromHexError}
use Rattle.pfr_engine.specs.declared.engine_why.EngineWhy.{EngineWhy}
use Rattle.pfr_engine.specs.declared.engine_why.EngineWhy.TheVariants as causes
use Rattle.pfr_engine.specs.Judging.{◌>>◌, require}

-- what stands between the spaces of a line
abbrev pub words_in : List ℕ → List (List ℕ)
words_in text = slice_split (λ byte. byte == 32) text

abbrev pub is_word : List ℕ → Bool
is_word word = not (length word == 0)

-- this many words, with single spaces between them
abbrev pub are_words : ℕ → List (List ℕ) → Bool
are_words count words = length words == count && list_all is_word words

abbrev pub are_hex : List (List ℕ) → Bool
are_hex words = list_all (λ word. list_all is_hex_digit word) words

-- the bytes that digits spell, or the cause where there are too many or too few
abbrev pub decoded : EngineWhy → Result (List ℕ) FromHexError → Result (List ℕ) EngineWhy
decoded cause (Ok bytes) = Ok bytes
decoded cause (Err e) = Err cause

-- a word of just this many bytes
unfoldable pub bytes_of : ℕ → List ℕ → Result (List ℕ) EngineWhy
bytes_of count word = decoded causes.Length (decode_sized word count)

-- a word of 4 bytes to so many, a multiple of 4
unfoldable pub long_bytes_of : ℕ → List ℕ → Result (List ℕ) EngineWhy
long_bytes_of most word = do
  require causes.Length (nat_le 8 (length word) && nat_le (length word) (2 * most) && length word % 8 == 0)
  decoded causes.Length (decode_of word)
