use Rattle.std.proofs.Common.{◌∙◌}
use Rattle.pfr_engine.proofs.AcceptLemmas.{ask_is}
use Rattle.pfr_engine.proofs.row.Row.is_short_of.Goals as goal

pub returns-in-Short : goal.returns-in-Short
returns-in-Short c = rw c.in-Short.is (c.eq.ensures ∙ ask_is c.in-Short.row c.args.ask.now)
