-- The script of a text.
use Rattle.std.specs.Prelude.{◌≡◌, ℕ, ◌+◌, ◌==◌, Bool, true, nat_lt, if◌then◌else◌, List, [], ◌∷◌, length, Option, Some, None, MatchOption, Result, Ok, Err}
use Rattle.pfr_flash.specs.Judging.{◌>>=◌, ◌>>◌, require}
use Rattle.pfr_engine.specs.Words.{words_in}
use Rattle.pfr_engine.specs.Rows.{lines_in}
use Rattle.pfr_script.specs.declared.item.Item.TheVariants.{Event}
use Rattle.pfr_script.specs.declared.script_why.ScriptWhy.{ScriptWhy}
use Rattle.pfr_script.specs.declared.script_why.ScriptWhy.TheVariants as causes
use Rattle.pfr_script.specs.declared.script_fail.ScriptFail.{ScriptFail}
use Rattle.pfr_script.specs.declared.script_fail.ScriptFail.TheVariants as fails
use Rattle.pfr_script.specs.ScriptState.{ScriptState}
use Rattle.pfr_script.specs.Growing.{no_items, with_item, may_arm, with_arm}
use Rattle.pfr_script.specs.declared.line.Line.{Line}
use Rattle.pfr_script.specs.declared.line.Line.TheVariants.{Happens, Arms}
use Rattle.pfr_script.specs.Line.{judge_first}

-- an empty line and one that begins with `#` are no items
abbrev pub is_no_item : List ℕ → Bool
is_no_item [] = true
is_no_item (first ∷ others) = first == 35

-- the script with what a line says at its end
abbrev pub added : ScriptState → Line → Result ScriptState ScriptWhy
added script (Happens event) = Ok (with_item script (Event event))
added script (Arms device what nth tear) = require causes.TooManyArms (may_arm script device what) >> Ok (with_arm script device what nth tear)

-- the script with a line at its end: an item is one of 65,536 at most
unfoldable pub judge_line : ScriptState → List ℕ → Result ScriptState ScriptWhy
judge_line script text =
    if is_no_item text then Ok script
    else (do
      require causes.TooMany (nat_lt (length script.items) 65536)
      line ← judge_first (words_in text)
      added script line)

-- what is wrong, with the line's number
abbrev pub at_line : {A : Type 0} → ℕ → Result A ScriptWhy → Result A ScriptFail
at_line line (Ok x) = Ok x
at_line line (Err why) = Err (fails.Text line why)

-- the script with the lines from this number on at its end
abbrev pub judge_lines : ScriptState → ℕ → List (List ℕ) → Result ScriptState ScriptFail
judge_lines script number [] = Ok script
judge_lines script number (text ∷ others) = do
  next ← at_line number (judge_line script text)
  judge_lines next (number + 1) others

-- the script of a text, or what is wrong with the first bad line
unfoldable pub judge_script : List ℕ → Result ScriptState ScriptFail
judge_script text = judge_lines no_items 1 (lines_in text)

-- want of memory, where that is the cause
abbrev pub memory_failure : ScriptFail → Option (Unit {0})
memory_failure fails.NoMemory = Some tt
memory_failure (fails.Text line why) = None

-- what a call leaves is the judgement, unless memory ran out
abbrev pub Becomes : {Y : Type 0} → Y → Result (Unit {0}) ScriptFail → Result Y ScriptFail → Type 0
Becomes left (Ok x) judged = judged ≡ Ok left
Becomes left (Err cause) judged = MatchOption (memory_failure cause) (judged ≡ Err cause) (λ _. Unit {0})
