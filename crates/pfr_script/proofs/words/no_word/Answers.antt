use Rattle.std.proofs.Common.{sym}
use Rattle.pfr_script.proofs.WordLemmas.{some_word}
use Rattle.pfr_script.proofs.words.no_word.Goals as goal

pub returns-in-Some : goal.returns-in-Some
returns-in-Some c = rw c.in-Some.is (sym (some_word c.in-Some.field-0.now))
