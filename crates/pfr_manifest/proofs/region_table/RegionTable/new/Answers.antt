use Rattle.std.proofs.Common.{◌≡◌, map, arith}
use Rattle.std.proofs.lemmas.Grind.{common_steps}
use Rattle.pfr_manifest.specs.Stretches.{stretch_of}
use Rattle.pfr_manifest.proofs.StretchLemmas.{Decides-writable}
use Rattle.pfr_manifest.proofs.region_table.RegionTable.new.Goals as goal

pub returns-clause-writable : goal.returns-clause-writable
returns-clause-writable c = λ layout page.
    let e : c.loop-k.items.items ≡ map stretch_of c.args.manifest.now.regions = grind (arith, common_steps) in
    rw e (Decides-writable c.args.manifest.now layout page)
