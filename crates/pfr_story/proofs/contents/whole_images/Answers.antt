use Rattle.pfr_story.proofs.ContentsLaws.{migrates, provisions}
use Rattle.pfr_story.proofs.JobContentsLaws.{resumes, rebuilds, copies}
use Rattle.pfr_story.proofs.contents.whole_images.Goals as goal

pub returns-clause-resumes : goal.returns-clause-resumes
returns-clause-resumes g = resumes

pub returns-clause-rebuilds : goal.returns-clause-rebuilds
returns-clause-rebuilds g = rebuilds

pub returns-clause-copies : goal.returns-clause-copies
returns-clause-copies g = copies

pub returns-clause-migrates : goal.returns-clause-migrates
returns-clause-migrates g = migrates

pub returns-clause-provisions : goal.returns-clause-provisions
returns-clause-provisions g = provisions
