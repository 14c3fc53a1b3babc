use Rattle.std.proofs.Common.{arith}
use Rattle.std.proofs.lemmas.Result.{err_from_is_err_and}
use Rattle.pfr_shelf.proofs.WritesLemmas.{writes_stop}
use Rattle.pfr_report.specs.Texts.{note_text}
use Rattle.pfr_report.specs.declared.note.What.TheVariants.{Power}
use Rattle.pfr_report.proofs.NotedLemmas.{AllText-at}
use Rattle.pfr.proofs.run.write_report.Goals as goal

pub write_note-requires : goal.write_note-requires
write_note-requires g c = AllText-at c.args.notes.now c.loop-note.note-index (record { item = 0; what = Power }) (omega arith) c.requires

pub returns-in_err-write_note : goal.returns-in_err-write_note
returns-in_err-write_note g c =
    let p = err_from_is_err_and c.from_residual.result c.from_residual.ensures.1 in
    let s = g.K.Sink in
    rw p.1 (writes_stop {U = Unit {0}} s.tells s.written s.faults c.args.out.now c.loop-note.out c.write_note.new.out note_text c.args.notes.now c.loop-note.note-index (record { item = 0; what = Power }) tt c.in_err-write_note.field-0.0 p.0 (omega arith) c.loop-note.invariant c.in_err-write_note.ensures)
