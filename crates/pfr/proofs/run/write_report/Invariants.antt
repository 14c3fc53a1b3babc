use Rattle.std.proofs.Common.{take, Ok}
use Rattle.pfr_shelf.specs.Pieces.{Writes}
use Rattle.pfr_shelf.specs.declared.fault.SinkFail.{SinkFail}
use Rattle.pfr_report.specs.Texts.{report}
use Rattle.pfr.proofs.run.write_report.Given as goal

abbrev pub invariant-loop-note : goal.invariant-loop-note
invariant-loop-note g l =
    Writes {T = Unit {0}} {E = SinkFail} g.K.Sink.tells g.K.Sink.written g.K.Sink.faults l.initial.out l.out (report (take l.note-index l.notes)) (Ok tt)
