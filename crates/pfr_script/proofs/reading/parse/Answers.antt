use Rattle.pfr_script.proofs.GrammarLemmas.{spelled}
use Rattle.pfr_script.proofs.reading.parse.Goals as goal

pub returns-clause-spelled : goal.returns-clause-spelled
returns-clause-spelled c = λ words line. spelled words line
