use Rattle.std.proofs.Common.{◌∙◌, sym}
use Rattle.pfr_engine.proofs.PieceLemmas.{first_parts, last_piece}
use Rattle.pfr_script.proofs.words.split_first.Goals as goal

pub returns-in_err-end-clause-pieces : goal.returns-in_err-end-clause-pieces
returns-in_err-end-clause-pieces c = rw c.from_residual.ensures (last_piece c.args.separator c.args.text.now (sym c.place_of.ensures ∙ c.in_err-end.was))

pub returns-clause-pieces : goal.returns-clause-pieces
returns-clause-pieces c = first_parts c.args.separator c.args.text.now c.in_ok-end.end (sym c.place_of.ensures ∙ c.in_ok-end.was)
