-- The rows of a text: one line is one row, and each has a newline at its end.
use Rattle.std.specs.Prelude.{◌≡◌, ℕ, ◌+◌, ◌==◌, nat_le, if◌then◌else◌, codes, List, [], ◌∷◌, length, take, drop, Result, Ok, Err}
use Rattle.std.specs.List.{slice_split}
use Rattle.std.specs.Str.{bytes_eq}
use Rattle.pfr_engine.specs.declared.row.Row.{Row}
use Rattle.pfr_engine.specs.declared.row.Row.TheVariants.{Short, Long}
use Rattle.pfr_engine.specs.declared.engine_why.EngineWhy.{EngineWhy}
use Rattle.pfr_engine.specs.declared.engine_why.EngineWhy.TheVariants as causes
use Rattle.pfr_engine.specs.declared.engine_fail.EngineFail.{EngineFail}
use Rattle.pfr_engine.specs.declared.engine_fail.EngineFail.TheVariants as fails
use Rattle.pfr_engine.specs.Judging.{◌>>=◌, ◌>>◌, require}
use Rattle.pfr_engine.specs.Words.{words_in}
use Rattle.pfr_engine.specs.ShortRow.{judge_short}
use Rattle.pfr_engine.specs.LongRow.{judge_long}

-- the row of a line, which is long where the line begins with the word `long` and a space
unfoldable pub judge_row : List ℕ → Result Row EngineWhy
judge_row text =
    if bytes_eq (take 5 text) (codes "long ") then (do
      row ← judge_long (words_in (drop 5 text))
      Ok (Long row))
    else (do
      row ← judge_short (words_in text)
      Ok (Short row))

-- what is wrong, with the line's number
abbrev pub at_line : {A : Type 0} → ℕ → Result A EngineWhy → Result A EngineFail
at_line line (Ok x) = Ok x
at_line line (Err why) = Err (fails.Text line why)

-- the row of the line of this number, of which there are 4,096 at most
unfoldable pub judge_line : ℕ → List ℕ → Result Row EngineFail
judge_line line text = do
  require (fails.Text line causes.TooMany) (nat_le line 4096)
  at_line line (judge_row text)

-- the rows of the lines from this number on: nothing stands behind the last newline
abbrev pub judge_lines : ℕ → List (List ℕ) → Result (List Row) EngineFail
judge_lines line [] = Ok []
judge_lines line (last ∷ []) = require (fails.Text line causes.Newline) (length last == 0) >> Ok []
judge_lines line (text ∷ next ∷ others) = do
  row ← judge_line line text
  rows ← judge_lines (line + 1) (next ∷ others)
  Ok (row ∷ rows)

-- what stands between the newlines of a text
abbrev pub lines_in : List ℕ → List (List ℕ)
lines_in text = slice_split (λ byte. byte == 10) text

-- the rows of a text
unfoldable pub judge_text : List ℕ → Result (List Row) EngineFail
judge_text text = judge_lines 1 (lines_in text)

-- a refusal is that of the judgement, unless memory ran out
abbrev pub Refuses : {Y : Type 0} → EngineFail → Result Y EngineFail → Type 0
Refuses fails.NoMemory judged = Unit {0}
Refuses (fails.Text line why) judged = judged ≡ Err (fails.Text line why)

-- what was read, as it is seen through a view, is the judgement, unless memory ran out
abbrev pub Gives : {X Y : Type 0} → (X → Y) → Result X EngineFail → Result Y EngineFail → Type 0
Gives view (Ok x) judged = judged ≡ Ok (view x)
Gives view (Err cause) judged = Refuses cause judged

-- what was read is the judgement, unless memory ran out
abbrev pub Answers : {Y : Type 0} → Result Y EngineFail → Result Y EngineFail → Type 0
Answers result judged = Gives (λ x. x) result judged
