use Rattle.std.proofs.Common.{rules}
use Rattle.pfr_jobs.proofs.PageLaws.{spent_count}
use Rattle.pfr_jobs.proofs.page.spent_in.Goals as goal

pub returns : goal.returns
returns c = search (rules, spent_count)
