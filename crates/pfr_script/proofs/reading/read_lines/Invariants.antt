use Rattle.std.proofs.Common.{◌≡◌, ℕ, List, ◌+◌, ◌≤◌, length}
use Rattle.pfr_engine.specs.Rows.{lines_in}
use Rattle.pfr_script.specs.ScriptState.{ScriptState}
use Rattle.pfr_script.specs.Reading.{judge_lines, judge_script}
use Rattle.pfr_script.proofs.reading.read_lines.Given as goal

-- what was read so far, with what is still to be read, is the whole
pub record Read (script : ScriptState) (line : ℕ) (rest text : List ℕ) : Type 0 where
  pub so_far : judge_lines script line (lines_in rest) ≡ judge_script text
  pub left : line + length rest ≤ length text + 1

abbrev pub invariant-lines : goal.invariant-lines
invariant-lines l = Read l.script l.line l.rest l.fn.text

abbrev pub decreases-lines : goal.decreases-lines
decreases-lines l = length l.rest
