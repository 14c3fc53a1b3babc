-- The words of a line, and the lines of a text.
use Rattle.std.specs.Prelude.{ℕ, ◌==◌, codes, if◌then◌else◌, Bool, true, false, List, [], ◌∷◌, Option, Some, None, Result, Ok, Err}
use Rattle.std.specs.List.{slice_split}
use Rattle.std.specs.Str.{bytes_eq}
use Rattle.pfr_flash.specs.Judging.{◌>>=◌, ◌>>◌, require, known}
use Rattle.pfr_engine.specs.Words.{is_word, words_in}
use Rattle.pfr_flash.specs.declared.names.Bank.{Bank}
use Rattle.pfr_flash.specs.declared.names.Bank.TheVariants as banks
use Rattle.pfr_flash.specs.declared.names.Device.{Device}
use Rattle.pfr_flash.specs.declared.names.Device.TheVariants.{Bmc, Pch, Nv}
use Rattle.pfr_script.specs.declared.event.Intent.{Intent}
use Rattle.pfr_script.specs.declared.event.Intent.TheVariants.{Active, Full, Recovery, Cert}
use Rattle.pfr_script.specs.declared.script_why.ScriptWhy.{ScriptWhy}
use Rattle.pfr_script.specs.declared.script_why.ScriptWhy.TheVariants as causes

-- what stands between the separators of a text
abbrev pub pieces : ℕ → List ℕ → List (List ℕ)
pieces separator text = slice_split (λ byte. byte == separator) text

-- the words of a text that stands behind a space, where there is one
abbrev pub words_behind : Option (List ℕ) → List (List ℕ)
words_behind None = []
words_behind (Some text) = words_in text

-- the next word, which isn't empty, and those behind it
abbrev pub next_word : List (List ℕ) → Result (List ℕ × List (List ℕ)) ScriptWhy
next_word [] = Err causes.Word
next_word (word ∷ words) = require causes.Word (is_word word) >> Ok (word, words)

-- no word is left
abbrev pub no_word : List (List ℕ) → Result (Unit {0}) ScriptWhy
no_word [] = Ok tt
no_word (word ∷ words) = Err causes.Word

-- just one word is left, and it isn't empty
unfoldable pub one_word : List (List ℕ) → Result (List ℕ) ScriptWhy
one_word words = do
  first ← next_word words
  no_word first.1
  Ok first.0

-- just two words
unfoldable pub two_words : List (List ℕ) → Result (List ℕ × List ℕ) ScriptWhy
two_words words = do
  first ← next_word words
  second ← one_word first.1
  Ok (first.0, second)

-- just three words
unfoldable pub three_words : List (List ℕ) → Result (List ℕ × List ℕ × List ℕ) ScriptWhy
three_words words = do
  first ← next_word words
  others ← two_words first.1
  Ok (first.0, others.0, others.1)

-- the bank of a name
abbrev pub bank_of : List ℕ → Option Bank
bank_of word =
    if bytes_eq word (codes "bmc") then Some banks.Bmc
    else if bytes_eq word (codes "pch") then Some banks.Pch
    else None

-- just a bank and a word
unfoldable pub bank_and_word : List (List ℕ) → Result (Bank × List ℕ) ScriptWhy
bank_and_word words = do
  parts ← two_words words
  bank ← known causes.Word (bank_of parts.0)
  Ok (bank, parts.1)

-- whether a boot passed, by its word
abbrev pub pass_of : List ℕ → Option Bool
pass_of word =
    if bytes_eq word (codes "pass") then Some true
    else if bytes_eq word (codes "fail") then Some false
    else None

-- the intent of a name
abbrev pub intent_of : List ℕ → Option Intent
intent_of word =
    if bytes_eq word (codes "active") then Some Active
    else if bytes_eq word (codes "full") then Some Full
    else if bytes_eq word (codes "recovery") then Some Recovery
    else if bytes_eq word (codes "cert") then Some Cert
    else None

-- the device of a name
abbrev pub device_of : List ℕ → Option Device
device_of word =
    if bytes_eq word (codes "bmc") then Some Bmc
    else if bytes_eq word (codes "pch") then Some Pch
    else if bytes_eq word (codes "nv") then Some Nv
    else None
