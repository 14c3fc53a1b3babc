use Rattle.pfr_flash.proofs.FollowsLemmas.{Follows-does, Follows-step}
use Rattle.pfr_jobs.proofs.log.write_job.Goals as goal

pub returns : goal.returns
returns g c = Follows-step _ _ _ _ _ _ c.in_ok-program.field-0 _ (rw (← c.job_body.ensures) c.program.ensures) c.in_ok-program.was (Follows-does _ _ _ _ c.program-2.ensures)
