use Rattle.std.proofs.Common.{◌∙◌, ap, ℕ, ◌/◌, List, length}
use Rattle.pfr_flash.specs.FlashState.{size_of}
use Rattle.pfr_flash.proofs.EndsLemmas.{ends_reads}
use Rattle.pfr_flash.proofs.RangeLemmas.{length-now}
use Rattle.pfr_capsule.proofs.PagesRead.{ends_in_map}
use Rattle.pfr_capsule.proofs.judging.judged.Goals as goal

pub incoherent_region-requires-clause-inside : goal.incoherent_region-requires-clause-inside
incoherent_region-requires-clause-inside g c =
    let regions = rw (length-now (g.F.Flash.device c.args.flash.now)) at c.in_ok-signed.ensures.ok.spelled.each_region in
    ends_in_map (size_of (g.F.Flash.device c.args.flash.now)) c.args.layout.now c.in_ok-pages.pages c.in_ok-signed.signed.manifest.regions c.requires.size.blocks
    (c.in_ok-pages.ensures.bits ∙ c.in_ok-header.ensures.bits ∙ ap (λ (bytes : List ℕ). length bytes / 4096) (ends_reads c.in_ok-signed.ensures.ends).start) regions

pub returns-clause-regions : goal.returns-clause-regions
returns-clause-regions g c = rw (length-now (g.F.Flash.device c.args.flash.now)) at c.in_ok-signed.ensures.ok.spelled.each_region
