use Rattle.std.proofs.Common.{append_assoc}
use Rattle.pfr_report.proofs.CauseLemmas.{capsule_pieces}
use Rattle.pfr_report.proofs.lines.write_capsule_cause.Goals as goal

pub returns : goal.returns
returns g c =
    let cause = c.capsule_cause-cause.ensures in
    let h = rw (c.as_bytes-item.ensures.value, c.format.ensures.text, c.bank_word.ensures, c.colon.ensures, c.digits-digits.ensures, cause.kind, cause.word, cause.number) at c.write_pieces.ensures in
    rw (append_assoc, append_assoc, capsule_pieces) h
