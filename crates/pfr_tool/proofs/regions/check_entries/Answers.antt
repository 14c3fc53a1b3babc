use Rattle.std.proofs.Common.{rules}
use Rattle.pfr_made.specs.Entries.{judge_entries}
use Rattle.pfr_made.proofs.PagesUse.{entries_inside}
use Rattle.pfr_tool.proofs.regions.check_entries.Goals as goal

pub returns-clause-inside : goal.returns-clause-inside
unfolding judge_entries
returns-clause-inside c = entries_inside c.args.part.now (search rules)
