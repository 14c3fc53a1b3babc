use Rattle.std.proofs.Common.{◌≡◌, ℕ, List, ◌+◌, ◌≤◌, length}
use Rattle.pfr_engine.specs.declared.row.Row.{Row}
use Rattle.pfr_engine.specs.Rows.{judge_lines, lines_in, judge_text}
use Rattle.pfr_engine.proofs.LineLemmas.{with_front}
use Rattle.pfr_engine.proofs.reading.read_rows.Given as goal

-- what was read so far, in front of what is still to be read, is the whole
pub record Read (front : List Row) (line : ℕ) (rest text : List ℕ) : Type 0 where
  pub so_far : with_front front (judge_lines line (lines_in rest)) ≡ judge_text text
  pub left : line + length rest ≤ length text + 1
  pub counted : line ≡ length front + 1
  pub few : line ≤ 4097

abbrev pub invariant-lines : goal.invariant-lines
invariant-lines l = Read l.rows.items l.line l.rest l.fn.text

abbrev pub decreases-lines : goal.decreases-lines
decreases-lines l = length l.rest
