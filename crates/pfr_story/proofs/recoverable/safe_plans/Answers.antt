use Rattle.pfr_story.proofs.SafePlanLaws.{cancels_safely, copies_safely, migrates_safely, provisions_safely, rebuilds_safely, resumes_safely}
use Rattle.pfr_story.proofs.recoverable.safe_plans.Goals as goal

pub returns-clause-resumes : goal.returns-clause-resumes
returns-clause-resumes g = resumes_safely

pub returns-clause-rebuilds : goal.returns-clause-rebuilds
returns-clause-rebuilds g = rebuilds_safely

pub returns-clause-copies : goal.returns-clause-copies
returns-clause-copies g = copies_safely

pub returns-clause-cancels : goal.returns-clause-cancels
returns-clause-cancels g = cancels_safely

pub returns-clause-migrates : goal.returns-clause-migrates
returns-clause-migrates g = migrates_safely

pub returns-clause-provisions : goal.returns-clause-provisions
returns-clause-provisions g = provisions_safely
