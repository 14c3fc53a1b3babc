-- The text of what a line says of a rule.
use Rattle.std.specs.Prelude.{ℕ, List, ◌++◌}
use Rattle.pfr_report.specs.Words.{numbered}
use Rattle.pfr.specs.declared.reason.Reason.{Reason}

abbrev pub reason_text : Reason → List ℕ
reason_text reason = reason.bank.now ++ (reason.cause.kind.now ++ numbered reason.cause.word.now reason.cause.number)
