use Rattle.pfr_manifest.proofs.StretchLemmas.{manifest_table}
use Rattle.pfr_filter.proofs.tests.table_at.Goals as goal

pub new-requires : goal.new-requires
new-requires g c = manifest_table _ c.in-Ok.manifest c.args.layout.now _ c.in-Ok.ensures.ok
