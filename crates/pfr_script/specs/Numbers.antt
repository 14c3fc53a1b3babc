-- Decimal numbers from 1 on.
use Rattle.std.specs.Prelude.{ℕ, ◌&&◌, Bool, false, nat_le, nat_lt, List, [], ◌∷◌, Result, Ok}
use Rattle.std.specs.Char.{is_ascii_digit}
use Rattle.std.specs.List.{list_all}
use Rattle.std.specs.Str.Parse.{digits_value}
use Rattle.pfr_flash.specs.Judging.{◌>>◌, require}
use Rattle.pfr_script.specs.declared.script_why.ScriptWhy.{ScriptWhy}
use Rattle.pfr_script.specs.declared.script_why.ScriptWhy.TheVariants as causes

abbrev pub begins_above_zero : List ℕ → Bool
begins_above_zero [] = false
begins_above_zero (first ∷ others) = nat_lt 48 first

-- decimal digits, the first of which is no zero
abbrev pub is_numeral : List ℕ → Bool
is_numeral word = list_all is_ascii_digit word && begins_above_zero word

-- the number that a word spells, so many at most
unfoldable pub judge_number : ℕ → List ℕ → Result ℕ ScriptWhy
judge_number most word = do
  require causes.Number (is_numeral word)
  require causes.Number (nat_le (digits_value 10 word) most)
  Ok (digits_value 10 word)
