use Rattle.std.proofs.Common.{ℕ, List, ◌++◌, codes, decimal, sym, ap, subst}
use Rattle.pfr_shelf.specs.Pieces.{Writes}
use Rattle.pfr_report.specs.Texts.{bank_word}
use Rattle.pfr_report.proofs.CauseLemmas.{no_good_pieces}
use Rattle.pfr_report.proofs.lines.write_no_good_image.Goals as goal

pub returns : goal.returns
returns g c =
    let one = c.active_cause-active.ensures in
    let two = c.capsule_cause-recovery.ensures in
    let h = rw (c.as_bytes-item.ensures.value, c.format.ensures.text, c.bank_word.ensures, c.colon.ensures, c.digits-active_digits.ensures, c.colon-2.ensures, c.digits-recovery_digits.ensures, one.kind, one.word, one.number, two.kind, two.word, two.number) at c.write_pieces.ensures in
    subst (λ (text : List ℕ). Writes g.K.Sink.tells g.K.Sink.written g.K.Sink.faults c.args.out.now c.write_pieces.new.out text c.write_pieces.result)
    (ap (λ (text : List ℕ). decimal c.args.item ++ (codes " " ++ text)) (sym (no_good_pieces (bank_word c.args.bank) c.args.active c.args.recovery (codes "\n")))) h
