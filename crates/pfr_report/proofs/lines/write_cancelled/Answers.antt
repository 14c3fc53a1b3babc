use Rattle.std.proofs.Common.{append_assoc}
use Rattle.pfr_report.proofs.lines.write_cancelled.Goals as goal

pub returns : goal.returns
returns g c =
    let h = rw (c.as_bytes-item.ensures.value, c.format.ensures.text, c.type_word.ensures, c.as_bytes-id.ensures.value, c.format-2.ensures.text) at c.write_pieces.ensures in
    rw (append_assoc, append_assoc) h
