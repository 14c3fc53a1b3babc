use Rattle.std.proofs.Common.{◌≡◌, ◌∙◌, sym, ap}
use Rattle.pfr_engine.specs.Words.{words_in}
use Rattle.pfr_script.specs.Line.{judge_first}
use Rattle.pfr_script.proofs.GrammarLemmas.{spelled}
use Rattle.pfr_script.proofs.line_word.read_line.Goals as goal

pub returns-clause-spelled : goal.returns-clause-spelled
returns-clause-spelled c = λ line.
    let is : c.read_words.result ≡ judge_first (words_in c.args.text.now) = c.read_words.ensures.exact ∙ ap judge_first (sym c.first_word.ensures) in
    let says = spelled (words_in c.args.text.now) line in
    (λ h. says.0 (sym is ∙ h), λ h. is ∙ says.1 h)
