use Rattle.std.proofs.Common.{◌∙◌, sym}
use Rattle.pfr_engine.proofs.PieceLemmas.{first_parts, last_piece}
use Rattle.pfr_engine.proofs.reading.split_line.Goals as goal

pub returns-in_err-end-clause-lines : goal.returns-in_err-end-clause-lines
returns-in_err-end-clause-lines c = rw c.from_residual.ensures (last_piece 10 c.args.text.now (sym c.newline_at.ensures ∙ c.in_err-end.was))

pub returns-clause-lines : goal.returns-clause-lines
returns-clause-lines c = first_parts 10 c.args.text.now c.in_ok-end.end (sym c.newline_at.ensures ∙ c.in_ok-end.was)
