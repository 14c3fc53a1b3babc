-- What is rebuilt from a good capsule is trusted.
use Rattle.std.proofs.Common.{◌≡◌, ap, sym, subst, ℕ, ◌+◌, ◌-◌, min, true, List, length, get_or, All, arith}
use Rattle.pfr_flash.specs.Bytes.{bytes_at}
use Rattle.pfr_flash.specs.Layout.{IsValidLayout}
use Rattle.pfr_flash.specs.Names.{manifest_type}
use Rattle.pfr_flash.specs.declared.layout.Layout.{Layout}
use Rattle.pfr_flash.specs.declared.names.Bank.{Bank}
use Rattle.pfr_engine.specs.Acceptance.{Acceptance}
use Rattle.pfr_chain.specs.declared.judging.Chain.{Chain}
use Rattle.pfr_chain.proofs.MovedLaw.{IsChain-moved, moved}
use Rattle.pfr_flash.proofs.PartsLemmas.{same_part}
use Rattle.pfr_fuses.specs.FusesState.{FusesState, row_of}
use Rattle.pfr_fuses.specs.RootSlot.{layout_of}
use Rattle.pfr_manifest.specs.Hashes.{bytes_between}
use Rattle.pfr_manifest.specs.Manifest.{IsManifestOf}
use Rattle.pfr_manifest.specs.Regions.{is_static}
use Rattle.pfr_manifest.specs.declared.manifest.Manifest.{Manifest}
use Rattle.pfr_manifest.specs.declared.region.Region.{Region}
use Rattle.pfr_capsule.specs.CapsuleState.{CapsuleState}
use Rattle.pfr_capsule.specs.Good.{IsGood}
use Rattle.pfr_capsule.specs.PageBytes.{region_bytes}
use Rattle.pfr_capsule.specs.Signed.{end_of}
use Rattle.pfr_auth.specs.Trusted.{IsTrusted}
use Rattle.pfr_capsule.proofs.GoodFacts.{good_laid}
use Rattle.pfr_auth.proofs.RegionLemmas.{same_hash}

-- A bank of the same size, whose manifest area begins with the capsule's signed manifest, and whose static regions
-- hold what the capsule's pages give for them.
module _ (image new nv : List ℕ) (place len : ℕ) (bank : Bank) (accepts : Acceptance) (g : IsGood image place len nv bank accepts) (sized : length image ≡ length new)
    (copied : bytes_at image g.capsule.signed_manifest.at g.capsule.signed_manifest.len ≡ bytes_at new (layout_of g.fuses.provision bank).manifest_at g.capsule.signed_manifest.len)
    (restored : All (λ (region : Region). is_static region ≡ true → bytes_between new region.start region.end ≡ region_bytes image g.capsule.pages region) g.capsule.manifest.regions) where
  pub rebuilt_trusted : (t : IsTrusted new nv bank accepts) × (t.manifest ≡ g.capsule.manifest)
  rebuilt_trusted =
      let layout : Layout = layout_of g.fuses.provision bank in
      let fuses : FusesState = g.fuses in
      let laid = good_laid image nv place len bank accepts g in
      let c : Chain = g.parts.capsule in
      let i : Chain = g.parts.inner in
      let from : g.capsule.signed_manifest.at ≡ c.content_at = ap (λ (s : CapsuleState). s.signed_manifest.at) g.found in
      let long : g.capsule.signed_manifest.len ≡ end_of i - c.content_at = ap (λ (s : CapsuleState). s.signed_manifest.len) g.found in
      let there : bytes_at image c.content_at (end_of i - c.content_at) ≡ bytes_at new layout.manifest_at (end_of i - c.content_at) = rw (from, long) at copied in
      let content : bytes_at image i.content_at i.length ≡ bytes_at new (layout.manifest_at + (i.content_at - c.content_at)) i.length =
      (let e : c.content_at + (i.content_at - c.content_at) ≡ i.content_at = omega arith in
      rw e at (same_part image new c.content_at layout.manifest_at (end_of i - c.content_at) (i.content_at - c.content_at) i.length there (omega arith))) in
      let M : List ℕ → Type 0 = λ bytes. IsManifestOf bytes g.parts.manifest layout (length image) in
      let same : g.capsule.manifest ≡ g.parts.manifest = ap (λ (s : CapsuleState). s.manifest) g.found in
      let R : Manifest → Type 0 = λ m. All (λ (region : Region). is_static region ≡ true → bytes_between new region.start region.end ≡ region_bytes image g.capsule.pages region) m.regions in
      let held : R g.parts.manifest = subst R same restored in
      let t : IsTrusted new nv bank accepts = record {
        fuses = fuses;
        manifest = g.parts.manifest;
        chain = moved c.content_at layout.manifest_at i;
        provisioned = g.provisioned;
        layout = subst (λ (size : ℕ). IsValidLayout layout size) sized g.layout;
        signed = IsChain-moved image new c.content_at layout.manifest_at (min c.length layout.manifest_len) layout.manifest_len (end_of i - c.content_at) (manifest_type bank) fuses.provision.root (row_of fuses (manifest_type bank)) accepts i there
            (omega arith) (omega arith) g.signed.inner;
        spelled = rw sized at (subst M content g.signed.spelled);
        svn = g.signed.svn;
        hashed = λ k d h. same_hash (region_bytes image g.capsule.pages (get_or g.parts.manifest.regions k d)) (bytes_between new (get_or g.parts.manifest.regions k d).start (get_or g.parts.manifest.regions k d).end) (get_or g.parts.manifest.regions k d).hash (held k d h) (g.paged.coherent k d h);
      } in
      (t, sym same)
