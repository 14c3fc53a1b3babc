use Rattle.std.proofs.Common.{rules}
use Rattle.toml.specs.View.{table_view}
use Rattle.pfr_description.specs.Whole.{judge_top}
use Rattle.pfr_description.proofs.SoundDescription.{top_sound}
use Rattle.pfr_description.proofs.read.read_top.Goals as goal

pub new-requires : goal.new-requires
unfolding judge_top
new-requires c = top_sound (table_view c.args.top.now) _ (search rules)
