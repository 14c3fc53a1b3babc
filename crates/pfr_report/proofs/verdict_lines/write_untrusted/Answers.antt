use Rattle.std.proofs.Common.{append_assoc}
use Rattle.pfr_report.proofs.CauseLemmas.{active_pieces}
use Rattle.pfr_report.proofs.verdict_lines.write_untrusted.Goals as goal

pub returns : goal.returns
returns g c =
    let cause = c.active_cause-cause.ensures in
    let h = rw (c.bank_word.ensures, c.colon.ensures, c.digits-digits.ensures, cause.kind, cause.word, cause.number) at c.write_pieces.ensures in
    rw (append_assoc, active_pieces) h
