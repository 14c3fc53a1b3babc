use Rattle.std.proofs.Common.{◌∙◌}
use Rattle.pfr_engine.proofs.WordLemmas.{words_behind}
use Rattle.pfr_engine.proofs.words.are_words.Goals as goal

pub returns-then-words-count : goal.returns-then-words-count
returns-then-words-count c = c.all_words.ensures ∙ words_behind c.args.count c.args.words.now c.if-words-count.true
