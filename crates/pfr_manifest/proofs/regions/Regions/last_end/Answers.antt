use Rattle.std.proofs.Common.{◌≡◌, ◌∙◌, sym, ap, List}
use Rattle.pfr_manifest.specs.declared.region.Region.{Region}
use Rattle.pfr_manifest.specs.Regions.{last_end}
use Rattle.pfr_manifest.proofs.RegionLemmas.{last_end-get}
use Rattle.pfr_manifest.proofs.regions.Regions.last_end.Goals as goal

pub returns-in-Some : goal.returns-in-Some
returns-in-Some c =
    let item = c.in-Some.ensures.item in
    let items : List Region = c.deref.result.now in
    let same : items ≡ c.args.self.now = cc in
    ap (λ (region : Region). region.end) item.1 ∙ sym (last_end-get items c.in-Some.region.now item.3.0) ∙ ap last_end same
