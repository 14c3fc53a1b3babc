use Rattle.pfr_report.proofs.verdict_lines.write_active.Goals as goal

pub returns-in-Ok : goal.returns-in-Ok
returns-in-Ok g c = rw c.in-Ok.is (rw c.from.ensures at c.write_number.ensures)

pub returns-in-Err : goal.returns-in-Err
returns-in-Err g c = rw c.in-Err.is c.write_untrusted.ensures
