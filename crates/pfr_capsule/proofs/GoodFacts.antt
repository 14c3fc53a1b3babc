-- A capsule that is signed, framed and served lies where it is judged, and so do its parts. What a good one says of places:
-- it lies within the length, its pages can be asked for, its regions lie in the bank.
use Rattle.std.proofs.Common.{◌≡◌, ℕ, ◌+◌, ◌%◌, ◌≤◌, min, List, length, All, arith}
use Rattle.pfr_flash.specs.declared.layout.Layout.{Layout}
use Rattle.pfr_flash.specs.declared.names.Bank.{Bank}
use Rattle.pfr_engine.specs.Acceptance.{Acceptance}
use Rattle.pfr_fuses.specs.FusesState.{FusesState}
use Rattle.pfr_fuses.specs.RootSlot.{layout_of}
use Rattle.pfr_manifest.specs.Regions.{IsRegion}
use Rattle.pfr_capsule.specs.CapsuleState.{CapsuleState, capsule_of}
use Rattle.pfr_capsule.specs.Good.{IsGood, Serves}
use Rattle.pfr_capsule.specs.Lying.{LiesAt}
use Rattle.pfr_capsule.specs.PageHeader.{HasHeader}
use Rattle.pfr_capsule.specs.Pages.{HasIndex, pages_at}
use Rattle.pfr_capsule.specs.Signed.{IsSigned, end_of}
use Rattle.pfr_capsule.specs.declared.page_header.PageHeader.{PageHeader}
use Rattle.pfr_capsule.specs.declared.signed.Signed.{Signed}
use Rattle.pfr_capsule.proofs.PagesRead.{has_pages_at}

-- where the contents of a capsule and of its manifest begin and end
pub record IsLaid (place len manifest_len : ℕ) (signed : Signed) : Type 0 where
  pub capsule_begins : place + 1024 ≤ signed.capsule.content_at
  pub capsule_ends : end_of signed.capsule ≤ place + len
  pub inner_begins : signed.capsule.content_at + 1024 ≤ signed.inner.content_at
  pub inner_ends : end_of signed.inner ≤ signed.capsule.content_at + min signed.capsule.length manifest_len

module _ (image : List ℕ) (place len : ℕ) (bank : Bank) (layout : Layout) (fuses : FusesState) (accepts : Acceptance) (signed : Signed) (s : IsSigned image place len bank layout fuses accepts signed) where
  pub parts_laid : IsLaid place len layout.manifest_len signed
  parts_laid = record {
    capsule_begins = omega (arith, s.capsule.content_at, s.capsule.block.right_length.least);
    capsule_ends = omega (arith, s.capsule.content_at, s.capsule.length, s.capsule.block.within);
    inner_begins = omega (arith, s.inner.content_at, s.inner.block.right_length.least);
    inner_ends = omega (arith, s.inner.content_at, s.inner.length, s.inner.block.within);
  }

  pub parts_lie : (header : PageHeader) → HasHeader image (end_of signed.inner) (end_of signed.capsule) header → (capsule : CapsuleState) → Serves image capsule.pages header.payload_len signed.manifest.regions
      → capsule ≡ capsule_of image place signed (pages_at image (end_of signed.inner + 128) header.map_bits) → LiesAt image place len capsule
  parts_lie header framed capsule serves found =
      let l = parts_laid in
      let fills = framed.fills in
      let payload = rw found at serves.payload in
      rw found (record {
        within = omega arith;
        signed_manifest = record { low = omega arith; high = omega arith };
        erase = record { low = omega arith; high = omega arith };
        copy = record { low = omega arith; high = omega arith };
        payload = record { low = omega arith; high = omega (arith, payload) };
      })

module _ (image nv : List ℕ) (place len : ℕ) (bank : Bank) (accepts : Acceptance) (g : IsGood image place len nv bank accepts) where
  pub good_laid : IsLaid place len (layout_of g.fuses.provision bank).manifest_len g.parts
  good_laid = parts_laid image place len bank (layout_of g.fuses.provision bank) g.fuses accepts g.parts g.signed

  good_lies : LiesAt image place len g.capsule
  good_lies = parts_lie image place len bank (layout_of g.fuses.provision bank) g.fuses accepts g.parts g.signed g.header g.framed g.capsule g.paged g.found

  pub capsule_ends : place + g.capsule.length ≡ end_of g.parts.capsule
  capsule_ends = rw g.found (omega (arith, good_laid.capsule_begins))

  pub good_within : g.capsule.length ≤ len
  good_within = good_lies.within

  -- the signed manifest stands behind the capsule's block, and fits the manifest area
  pub manifest_inside : place + g.capsule.length ≤ length image → g.capsule.signed_manifest.at + g.capsule.signed_manifest.len ≤ length image
  manifest_inside inside = omega (arith, good_lies.signed_manifest.high)

  pub manifest_fits : g.capsule.signed_manifest.len ≤ (layout_of g.fuses.provision bank).manifest_len
  manifest_fits = rw g.found (omega (arith, good_laid.inner_begins, good_laid.inner_ends))

  pub good_regions : All (IsRegion (layout_of g.fuses.provision bank) (length image)) g.capsule.manifest.regions
  good_regions = rw g.found g.signed.spelled.each_region

  pub good_pages : length image % 65536 ≡ 0 → length image ≤ 67108864 → place + g.capsule.length ≤ length image → HasIndex image g.capsule.pages
  good_pages blocks most inside =
      let h = g.framed in
      let payload = rw g.found at g.paged.payload in
      let ends = capsule_ends in
      rw g.found (has_pages_at image (end_of g.parts.inner + 128) g.header (omega (arith, h.map_bits, most)) (omega (arith, h.map_bits, blocks)) (omega (arith, h.fills, inside, ends)) payload)
