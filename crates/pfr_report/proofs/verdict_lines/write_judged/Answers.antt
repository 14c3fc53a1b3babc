use Rattle.std.proofs.lemmas.Result.{err_from_is_err_and}
use Rattle.pfr_report.proofs.VerdictLemmas.{all_lines, stopped_at_active, stopped_at_floor, stopped_at_job, stopped_at_recovery, stopped_at_staging}
use Rattle.pfr_report.proofs.verdict_lines.write_judged.Goals as goal

pub returns-in_err-write_floor : goal.returns-in_err-write_floor
returns-in_err-write_floor g c =
    let s = g.K.Sink in
    let p = err_from_is_err_and c.from_residual.result c.from_residual.ensures.1 in
    rw p.1 (stopped_at_floor s.tells s.written s.faults c.args.bank c.args.verdict.now c.args.out.now c.write_floor.new.out c.in_err-write_floor.field-0.0 p.0
    c.in_err-write_floor.ensures)

pub returns-in_err-write_line : goal.returns-in_err-write_line
returns-in_err-write_line g c =
    let s = g.K.Sink in
    let p = err_from_is_err_and c.from_residual-in_err-write_line.result c.from_residual-in_err-write_line.ensures.1 in
    rw p.1 (stopped_at_job s.tells s.written s.faults c.args.bank c.args.verdict.now c.args.out.now c.write_floor.new.out c.write_line.new.out c.in_err-write_line.field-0.0 p.0
    c.in_ok-write_floor.ensures (rw c.job_word.ensures at c.in_err-write_line.ensures))

pub returns-in_err-write_active : goal.returns-in_err-write_active
returns-in_err-write_active g c =
    let s = g.K.Sink in
    let p = err_from_is_err_and c.from_residual-in_err-write_active.result c.from_residual-in_err-write_active.ensures.1 in
    rw p.1 (stopped_at_active s.tells s.written s.faults c.args.bank c.args.verdict.now c.args.out.now c.write_floor.new.out c.write_line.new.out c.write_active.new.out c.in_err-write_active.field-0.0 p.0
    c.in_ok-write_floor.ensures (rw c.job_word.ensures at c.in_ok-write_line.ensures) c.in_err-write_active.ensures)

pub returns-in_err-write_area : goal.returns-in_err-write_area
returns-in_err-write_area g c =
    let s = g.K.Sink in
    let p = err_from_is_err_and c.from_residual-in_err-write_area.result c.from_residual-in_err-write_area.ensures.1 in
    rw p.1 (stopped_at_recovery s.tells s.written s.faults c.args.bank c.args.verdict.now c.args.out.now c.write_floor.new.out c.write_line.new.out c.write_active.new.out c.write_area.new.out c.in_err-write_area.field-0.0 p.0
    c.in_ok-write_floor.ensures (rw c.job_word.ensures at c.in_ok-write_line.ensures) c.in_ok-write_active.ensures c.in_err-write_area.ensures)

pub returns-in_err-write_area-2 : goal.returns-in_err-write_area-2
returns-in_err-write_area-2 g c =
    let s = g.K.Sink in
    let p = err_from_is_err_and c.from_residual-in_err-write_area-2.result c.from_residual-in_err-write_area-2.ensures.1 in
    rw p.1 (stopped_at_staging s.tells s.written s.faults c.args.bank c.args.verdict.now c.args.out.now c.write_floor.new.out c.write_line.new.out c.write_active.new.out c.write_area.new.out c.write_area-2.new.out c.in_err-write_area-2.field-0.0 p.0
    c.in_ok-write_floor.ensures (rw c.job_word.ensures at c.in_ok-write_line.ensures) c.in_ok-write_active.ensures c.in_ok-write_area.ensures c.in_err-write_area-2.ensures)

pub returns : goal.returns
returns g c =
    let s = g.K.Sink in
    all_lines s.tells s.written s.faults c.args.bank c.args.verdict.now c.args.out.now c.write_floor.new.out c.write_line.new.out c.write_active.new.out c.write_area.new.out c.write_area-2.new.out c.write_line-2.new.out c.write_line-2.result
    c.in_ok-write_floor.ensures (rw c.job_word.ensures at c.in_ok-write_line.ensures) c.in_ok-write_active.ensures c.in_ok-write_area.ensures c.in_ok-write_area-2.ensures (rw c.yes_or_no.ensures at c.write_line-2.ensures)
