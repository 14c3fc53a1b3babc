use Rattle.std.proofs.Common.{◌≡◌, Ok, rules}
use Rattle.pfr_jobs.proofs.CallLaws.{load_stands}
use Rattle.pfr_jobs.proofs.tests.job_counts.Goals as goal

pub begin-requires-clause-stands : goal.begin-requires-clause-stands
begin-requires-clause-stands g c =
    let is : c.load.result ≡ Ok c.expect-log.result = search rules in
    let found = c.load.ensures.found in
    let ends = c.load.ensures.ends in
    load_stands c.expect-log.result _ _ _ (rw is at found) (rw is at ends)
