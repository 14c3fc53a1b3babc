use Rattle.pfr_flash.proofs.rig.Rig.outcome.Goals as goal

pub returns-in-Some-clause-known : goal.returns-in-Some-clause-known
returns-in-Some-clause-known c n cut fault = c.in-Some.ensures.known n cut

pub returns-in-Some-tear_due-clause-known : goal.returns-in-Some-tear_due-clause-known
returns-in-Some-tear_due-clause-known c n cut fault = c.in-Some-tear_due.ensures.known n fault
