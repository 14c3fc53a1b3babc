-- A bank that is restored or updated from a good capsule is trusted.
use Rattle.std.proofs.Common.{◌≡◌, ◌∙◌, ap, sym, subst, arith, ℕ, ◌+◌, ◌/◌, ◌≤◌, ◌%◌, List, length, All}
use Rattle.pfr_flash.specs.Bytes.{AreBytes}
use Rattle.pfr_flash.specs.declared.layout.Layout.{Layout}
use Rattle.pfr_flash.specs.declared.names.Bank.{Bank}
use Rattle.pfr_engine.specs.Acceptance.{Acceptance}
use Rattle.pfr_fuses.specs.RootSlot.{layout_of}
use Rattle.pfr_manifest.specs.declared.manifest.Manifest.{Manifest}
use Rattle.pfr_capsule.specs.CapsuleState.{CapsuleState}
use Rattle.pfr_capsule.specs.Good.{IsGood}
use Rattle.pfr_capsule.specs.Maps.{IsCovered}
use Rattle.pfr_capsule.specs.Pages.{HasIndex, erase_map}
use Rattle.pfr_capsule.proofs.GoodFacts.{good_within, manifest_inside, manifest_fits, good_regions, good_pages}
use Rattle.pfr_auth.specs.Trusted.{IsTrusted}
use Rattle.pfr_auth.proofs.RebuiltLaw.{rebuilt_trusted}
use Rattle.pfr_jobs.specs.declared.job.JobKind.{JobKind}
use Rattle.pfr_jobs.specs.declared.job.JobKind.TheVariants.{RecoveryFromStaging}
use Rattle.pfr_flash.specs.Operation.{play}
use Rattle.pfr_strokes.specs.Strokes.{strokes_of}
use Rattle.pfr_strokes.proofs.ReplacedLaws.{length-replaced}
use Rattle.pfr_rebuilt.specs.ActiveCopying.{active_pages, active_page, active_rebuilt}
use Rattle.pfr_rebuilt.proofs.ActiveLaw.{active_played, manifest_copied, region_restored}

module _ (kind : JobKind) (active : ¬ (kind ≡ RecoveryFromStaging)) (image nv : List ℕ) (place len : ℕ) (bank : Bank) (accepts : Acceptance) (g : IsGood image place len nv bank accepts)
    (blocks : length image % 65536 ≡ 0) (most : length image ≤ 67108864) (inside : place + len ≤ length image) (bytes : AreBytes image) where
  within : place + g.capsule.length ≤ length image
  within = omega (arith, inside, good_within image nv place len bank accepts g)

  index : HasIndex image g.capsule.pages
  index = good_pages image nv place len bank accepts g blocks most within

  bits : g.capsule.pages.bits ≡ length image / 4096
  bits = ap (λ (c : CapsuleState). c.pages.bits) g.found ∙ g.framed.map_bits

  covered : All (IsCovered (erase_map image g.capsule.pages) g.capsule.pages.bits) g.capsule.manifest.regions
  covered =
      let same : g.parts.manifest ≡ g.capsule.manifest = ap (λ (c : CapsuleState). c.manifest) (sym g.found) in
      subst (λ (m : Manifest). All (IsCovered (erase_map image g.capsule.pages) g.capsule.pages.bits) m.regions) same g.paged.covered

  -- The image as any job from this capsule leaves it is trusted, by the capsule's manifest.
  pub restored_trusted : (t : IsTrusted (active_rebuilt kind image g.capsule (layout_of g.fuses.provision bank)) nv bank accepts) × (t.manifest ≡ g.capsule.manifest)
  restored_trusted =
      let layout : Layout = layout_of g.fuses.provision bank in
      let regions = good_regions image nv place len bank accepts g in
      let manifest_in = manifest_inside image nv place len bank accepts g within in
      let fits = manifest_fits image nv place len bank accepts g in
      rebuilt_trusted image (active_rebuilt kind image g.capsule layout) nv place len bank accepts g
      (sym (length-replaced image (active_page image g.capsule layout) (active_pages kind image g.capsule layout)))
      (manifest_copied kind active image g.capsule layout g.layout blocks bytes index bits manifest_in fits regions covered)
      (λ k d h static. region_restored kind active image g.capsule layout g.layout blocks bytes index bits manifest_in fits regions covered k d h static)

  -- the job's strokes leave it so
  pub restored_is : play image (strokes_of (active_page image g.capsule (layout_of g.fuses.provision bank)) (active_pages kind image g.capsule (layout_of g.fuses.provision bank)))
      ≡ active_rebuilt kind image g.capsule (layout_of g.fuses.provision bank)
  restored_is =
      active_played kind active image g.capsule (layout_of g.fuses.provision bank) g.layout blocks bytes index bits (manifest_inside image nv place len bank accepts g within)
      (manifest_fits image nv place len bank accepts g) (good_regions image nv place len bank accepts g) covered

  -- and so it is trusted once they were done
  pub restored_played : (t : IsTrusted (play image (strokes_of (active_page image g.capsule (layout_of g.fuses.provision bank)) (active_pages kind image g.capsule (layout_of g.fuses.provision bank)))) nv bank accepts)
      × (t.manifest ≡ g.capsule.manifest)
  restored_played = subst (λ (new : List ℕ). (t : IsTrusted new nv bank accepts) × (t.manifest ≡ g.capsule.manifest)) (sym restored_is) restored_trusted
