-- Bytes that hex digits of either case spell.
use Rattle.std.specs.Prelude.{ℕ, ◌%◌, ◌==◌, ◌&&◌, Bool, nat_le, codes, if◌then◌else◌, List, length, Option, Some, None, Result, Ok, Err}
use Rattle.std.specs.List.{list_all}
use Rattle.std.specs.Str.{bytes_eq}
use Rattle.hex.specs.Hex.{decode_of, is_hex_digit}
use Rattle.hex.specs.declared.error.FromHexError.{FromHexError}
use Rattle.pfr_flash.specs.Judging.{◌>>=◌, ◌>>◌, require}
use Rattle.pfr_script.specs.declared.script_why.ScriptWhy.{ScriptWhy}
use Rattle.pfr_script.specs.declared.script_why.ScriptWhy.TheVariants as causes

-- hex digits of either case, even in number
abbrev pub is_hex : List ℕ → Bool
is_hex word = length word % 2 == 0 && list_all is_hex_digit word

-- the bytes, or the cause where a character is no digit or the digits are odd in number
abbrev pub decoded : Result (List ℕ) FromHexError → Result (List ℕ) ScriptWhy
decoded (Ok bytes) = Ok bytes
decoded (Err e) = Err causes.Hex

-- the 72 bytes of a slot before its gate
unfoldable pub judge_slot : List ℕ → Result (List ℕ) ScriptWhy
judge_slot word = do
  bytes ← decoded (decode_of word)
  require causes.Length (length bytes == 72)
  Ok bytes

-- the bytes of a frame, 1 at least and so many at most
unfoldable pub judge_frame : ℕ → List ℕ → Result (List ℕ) ScriptWhy
judge_frame most word = do
  bytes ← decoded (decode_of word)
  require causes.Length (nat_le 1 (length bytes))
  require causes.Length (nat_le (length bytes) most)
  Ok bytes

-- a tear of at most 4,096 bytes, or none, where the word is `-`
unfoldable pub judge_tear : List ℕ → Result (Option (List ℕ)) ScriptWhy
judge_tear word =
    if bytes_eq word (codes "-") then Ok None
    else (do
      bytes ← decoded (decode_of word)
      require causes.Length (nat_le (length bytes) 4096)
      Ok (Some bytes))
