use Rattle.pfr_report.specs.Verdicts.{verdict_text}
use Rattle.pfr_report.proofs.verdict_lines.write_verdict.Goals as goal

pub returns-in-SlotsSpent : goal.returns-in-SlotsSpent
unfolding verdict_text
returns-in-SlotsSpent g c = rw c.in-SlotsSpent.is c.write_line-in-SlotsSpent.ensures
