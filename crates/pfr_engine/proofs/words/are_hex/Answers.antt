use Rattle.std.proofs.Common.{◌∙◌}
use Rattle.pfr_engine.proofs.WordLemmas.{hex_behind}
use Rattle.pfr_engine.proofs.words.are_hex.Goals as goal

pub returns : goal.returns
returns c = c.all_hex.ensures ∙ hex_behind c.args.words.now
