use Rattle.pfr_machine.proofs.bus.judge_counted.Goals as goal

pub returns-clause-safe : goal.returns-clause-safe
returns-clause-safe g c = λ op is. (((c.judge.ensures.passes op).0) is).writable
