-- An update of the recovery area leaves the image trusted: it writes nothing that the trust reads but the floor, and that is raised to the
-- version of the image's own manifest.
use Rattle.std.proofs.Common.{◌≡◌, ◌∙◌, refl, sym, ap, subst, arith, ℕ, ◌+◌, ◌-◌, ◌≤◌, ◌<◌, true, false, List, length, All, ◌⊎◌, inl, inr, Result, Ok}
use Rattle.std.proofs.lemmas.List.Elements.{All-filter, All-weaker}
use Rattle.pfr_flash.specs.Bytes.{bytes_at}
use Rattle.pfr_flash.specs.Layout.{AreApart, IsValidLayout}
use Rattle.pfr_flash.specs.Names.{manifest_type}
use Rattle.pfr_flash.specs.Operation.{Operation, play}
use Rattle.pfr_flash.specs.Range.{SameOutside}
use Rattle.pfr_flash.specs.declared.layout.Layout.{Layout}
use Rattle.pfr_flash.specs.declared.names.Bank.{Bank}
use Rattle.pfr_flash.specs.declared.names.Bank.TheVariants as bank
use Rattle.pfr_flash.proofs.PlayLemmas.{length-play}
use Rattle.pfr_engine.specs.Acceptance.{Acceptance}
use Rattle.pfr_chain.specs.Chain.{IsChain}
use Rattle.pfr_fuses.specs.Changes.{raised, with_floor}
use Rattle.pfr_fuses.specs.FusesState.{FusesState, floor_of, row_of}
use Rattle.pfr_fuses.specs.FusesOf.{fuses_of}
use Rattle.pfr_fuses.specs.RootSlot.{layout_of}
use Rattle.pfr_fuses.specs.declared.root_slot.RootSlot.{RootSlot}
use Rattle.pfr_fuses.proofs.ClearingLemmas.{raised_cases}
use Rattle.pfr_manifest.specs.Manifest.{IsManifestOf}
use Rattle.pfr_manifest.specs.Regions.{IsRegion, is_static}
use Rattle.pfr_manifest.specs.Spelling.{manifest_bytes}
use Rattle.pfr_manifest.specs.declared.manifest.Manifest.{Manifest}
use Rattle.pfr_manifest.specs.declared.region.Region.{Region}
use Rattle.pfr_manifest.proofs.SameLemmas.{same_texts}
use Rattle.pfr_capsule.specs.CapsuleState.{CapsuleState}
use Rattle.pfr_capsule.specs.Good.{IsGood}
use Rattle.pfr_auth.specs.Lasting.{SameAt, KeepsTrustedBytes, KeepsTrustedFuses}
use Rattle.pfr_auth.specs.Trusted.{IsTrusted}
use Rattle.pfr_auth.specs.declared.fail.ActiveFail.{ActiveFail}
use Rattle.pfr_auth.proofs.LastingLaw.{trust_lasts}
use Rattle.pfr_auth.proofs.TrustedLaw.{stands_whole, trusted_found}
use Rattle.pfr_jobs.specs.Log.{open_job}
use Rattle.pfr_jobs.specs.LogState.{is_spent}
use Rattle.pfr_jobs.specs.declared.job.OpenJob.TheVariants as job
use Rattle.pfr_strokes.specs.Strokes.{strokes_of}
use Rattle.pfr_rebuilt.specs.Copying.{recovery_page, recovery_pages, recovery_rebuilt}
use Rattle.pfr_recoverable.proofs.StaysLaw.{fuses_one}
use Rattle.pfr_report.specs.declared.note.What.{What}
use Rattle.pfr_story.specs.JobContents.{CanWork, IsWorked}
use Rattle.pfr_story.specs.JobPlans.{recovery_job}
use Rattle.pfr_story.specs.Plans.{mine, store, judged_active, judged_staging}
use Rattle.pfr_story.specs.Story.{Story, after}
use Rattle.pfr_story.specs.UpdatePlans.{has_manifest}
use Rattle.pfr_story.proofs.ChangedFuses.{raised_low}
use Rattle.pfr_story.proofs.FuseLaws.{rows_kept}
use Rattle.pfr_story.proofs.JobContentsLaws.{copies}
use Rattle.pfr_story.proofs.JobPages.{recovery_outside, recovery_replaced}
use Rattle.pfr_story.proofs.JobRecovery.{digests_same}
use Rattle.pfr_story.proofs.JobSafetyRaise.{raised_provision}
use Rattle.pfr_story.proofs.RestoreLaws.{found_staged}

-- ---- the bank, where only its recovery area is written
module _ (layout : Layout) (image later : List ℕ) (outside : SameOutside layout.recovery_at layout.area_len image later) where
  clear_same : (at len : ℕ) → AreApart at len layout.recovery_at layout.area_len → SameAt at len image later
  clear_same at len apart = record { stays = λ k low high. outside.stays k (by_side k low high apart) }
    where
      by_side : (k : ℕ) → at ≤ k → k < at + len → AreApart at len layout.recovery_at layout.area_len → (k < layout.recovery_at) ⊎ (layout.recovery_at + layout.area_len ≤ k)
      by_side k low high (inl before) = inl (omega (arith, high, before))
      by_side k low high (inr behind) = inr (omega (arith, low, behind))

  region_same : (size : ℕ) (region : Region) → IsRegion layout size region → SameAt region.start (region.end - region.start) image later
  region_same size region is = clear_same region.start (region.end - region.start) (by_side is.clear_of_recovery)
    where
      by_side : ((region.end ≤ layout.recovery_at) ⊎ (layout.recovery_at + layout.area_len ≤ region.start)) → AreApart region.start (region.end - region.start) layout.recovery_at layout.area_len
      by_side (inl before) = inl (omega (arith, before, is.some))
      by_side (inr behind) = inr behind

  -- the manifest area and the static regions stay
  trusted_bytes : (m : Manifest) (size : ℕ) → length later ≡ length image → IsValidLayout layout size → All (IsRegion layout size) m.regions → KeepsTrustedBytes layout m image later
  trusted_bytes m size long valid regions =
      record {
        size = long;
        area = clear_same layout.manifest_at layout.manifest_len valid.apart.manifest_recovery;
        static = All-filter is_static (λ (region : Region). SameAt region.start (region.end - region.start) image later) m.regions
            (All-weaker (IsRegion layout size) (λ (region : Region). SameAt region.start (region.end - region.start) image later) (λ region is. region_same size region is) m.regions regions);
      }

-- ---- the store, where its floor is raised
same_store : (b : Bank) (nv : List ℕ) → KeepsTrustedFuses b nv nv
same_store b nv = record {
  size = refl;
  slots = record { stays = λ k low high. refl };
  gate = refl;
  floor = record { stays = λ k low high. refl };
  row = record { stays = λ k low high. refl };
}

floor_rows : (fuses : FusesState) (b : Bank) (row : List ℕ) → row_of (with_floor fuses b row) (manifest_type b) ≡ row_of fuses (manifest_type b)
floor_rows fuses bank.Bmc row = refl
floor_rows fuses bank.Pch row = refl

raised_rows : (fuses : FusesState) (b : Bank) (svn : ℕ) → row_of (raised fuses b svn) (manifest_type b) ≡ row_of fuses (manifest_type b)
raised_rows fuses b svn = raised_cases (λ kept. row_of kept (manifest_type b) ≡ row_of fuses (manifest_type b)) fuses b svn (λ low. refl) (λ high. floor_rows fuses b _)

-- an image whose manifest isn't below the raise stays trusted
trusted_raised : (image nv later : List ℕ) (b : Bank) (accepts : Acceptance) (fuses : FusesState) (svn : ℕ) (t : IsTrusted image nv b accepts) → fuses_of nv ≡ Ok fuses → fuses_of later ≡ Ok (raised fuses b svn)
    → svn ≤ t.manifest.svn → IsTrusted image later b accepts
trusted_raised image nv later b accepts fuses svn t was says high =
    let same : t.fuses ≡ fuses = fuses_one nv t.fuses fuses t.provisioned was in
    let root : t.fuses.provision ≡ (raised fuses b svn).provision = ap (λ (f : FusesState). f.provision) same ∙ sym (raised_provision fuses b svn) in
    let row : row_of t.fuses (manifest_type b) ≡ row_of (raised fuses b svn) (manifest_type b) = ap (λ (f : FusesState). row_of f (manifest_type b)) same ∙ sym (raised_rows fuses b svn) in
    let floor : floor_of fuses b ≤ t.manifest.svn = subst (λ (f : FusesState). floor_of f b ≤ t.manifest.svn) same t.svn in
    let there = subst (λ (r : RootSlot). IsChain image (layout_of r b).manifest_at (layout_of r b).manifest_len (manifest_type b) r.root (row_of t.fuses (manifest_type b)) accepts t.chain) root t.signed in
    record {
      fuses = raised fuses b svn;
      manifest = t.manifest;
      chain = t.chain;
      provisioned = says;
      layout = subst (λ (r : RootSlot). IsValidLayout (layout_of r b) (length image)) root t.layout;
      signed = subst (λ (keys : List ℕ). IsChain image (layout_of (raised fuses b svn).provision b).manifest_at (layout_of (raised fuses b svn).provision b).manifest_len (manifest_type b) (raised fuses b svn).provision.root keys accepts t.chain) row there;
      spelled = subst (λ (r : RootSlot). IsManifestOf (bytes_at image t.chain.content_at t.chain.length) t.manifest (layout_of r b) (length image)) root t.spelled;
      svn = raised_low fuses b svn t.manifest.svn (rows_kept nv fuses was) (omega (arith, high, t.spelled.svn)) floor high;
      hashed = t.hashed;
    }

-- ---- the whole job, from a capsule with the image's own manifest
module _ (given_up : What) (told : ℕ → What) (accepts : Acceptance) (b : Bank) (fuses : FusesState) (capsule : CapsuleState) (story : Story) (h : CanWork b fuses story) (t : IsTrusted (mine b story) (store story) b accepts)
    (j : judged_staging accepts b fuses story ≡ Ok capsule) where
  abbrev image : List ℕ
  image = mine b story

  abbrev layout : Layout
  layout = layout_of fuses.provision b

  abbrev size : ℕ
  size = length (mine b story)

  one : t.fuses ≡ fuses
  one = fuses_one (store story) t.fuses fuses t.provisioned h.provisioned

  found : (g : IsGood (mine b story) (layout_of fuses.provision b).staging_at (layout_of fuses.provision b).area_len (store story) b accepts) × (g.capsule ≡ capsule)
  found = found_staged accepts b fuses capsule story h.provisioned h.layout h.bytes j

  -- the image's manifest, and the capsule's
  its_manifest : IsManifestOf (manifest_bytes t.manifest) t.manifest (layout_of fuses.provision b) (length (mine b story))
  its_manifest =
      subst (λ (f : FusesState). IsManifestOf (manifest_bytes t.manifest) t.manifest (layout_of f.provision b) (length (mine b story))) one
      (subst (λ (text : List ℕ). IsManifestOf text t.manifest (layout_of t.fuses.provision b) (length (mine b story))) t.spelled.spelled t.spelled)

  staged_manifest : IsManifestOf (manifest_bytes capsule.manifest) capsule.manifest (layout_of fuses.provision b) (length (mine b story))
  staged_manifest =
      let g = found.0 in
      let is : g.parts.manifest ≡ capsule.manifest = sym (ap (λ (c : CapsuleState). c.manifest) g.found) ∙ ap (λ (c : CapsuleState). c.manifest) found.1 in
      let by : g.fuses ≡ fuses = fuses_one (store story) g.fuses fuses g.provisioned h.provisioned in
      let spelled = g.signed.spelled in
      subst (λ (m : Manifest). IsManifestOf (manifest_bytes m) m (layout_of fuses.provision b) (length (mine b story))) is
      (subst (λ (f : FusesState). IsManifestOf (manifest_bytes g.parts.manifest) g.parts.manifest (layout_of f.provision b) (length (mine b story))) by
      (subst (λ (text : List ℕ). IsManifestOf text g.parts.manifest (layout_of g.fuses.provision b) (length (mine b story))) spelled.spelled spelled))

  module _ (alike : has_manifest capsule (judged_active accepts b fuses story) ≡ true) where
    same_manifest : t.manifest ≡ capsule.manifest
    same_manifest =
        let judged = trusted_found (mine b story) (store story) b accepts fuses (stands_whole (store story) fuses b h.provisioned) t in
        let test : has_manifest capsule (Ok t.manifest) ≡ true = sym (ap (λ (r : Result Manifest ActiveFail). has_manifest capsule r) judged) ∙ alike in
        same_texts t.manifest capsule.manifest (layout_of fuses.provision b) (length (mine b story)) its_manifest staged_manifest
        (digests_same (manifest_bytes t.manifest) (manifest_bytes capsule.manifest) test)

    module _ (none : open_job (store story) b ≡ job.None) (free : is_spent (store story) b ≡ false) where
      abbrev new : Story
      new = after (recovery_job given_up told accepts b fuses capsule story) story

      worked : IsWorked b (recovery_rebuilt (mine b story) (layout_of fuses.provision b).staging_at capsule.length (layout_of fuses.provision b)) (raised fuses b capsule.manifest.svn) story new
      worked = copies given_up told accepts b fuses capsule story h none free j

      bytes_stay : KeepsTrustedBytes (layout_of t.fuses.provision b) t.manifest (mine b story) (mine b new)
      bytes_stay =
          let g = found.0 in
          let pages : List ℕ = recovery_pages (layout_of fuses.provision b) g.capsule.length (length (mine b story)) in
          let ops : List Operation = strokes_of (recovery_page (mine b story) (layout_of fuses.provision b).staging_at g.capsule.length (layout_of fuses.provision b)) pages in
          let outside = recovery_outside (mine b story) (store story) b accepts (layout_of fuses.provision b) g h.layout h.size.blocks h.bytes pages (λ n here. here) in
          let replaced = recovery_replaced (mine b story) (store story) b accepts (layout_of fuses.provision b) g h.layout h.size.blocks h.bytes pages (λ n here. here) in
          let is = replaced ∙ ap (λ (c : CapsuleState). recovery_rebuilt (mine b story) (layout_of fuses.provision b).staging_at c.length (layout_of fuses.provision b)) found.1 ∙ sym worked.holds in
          let kept = trusted_bytes (layout_of fuses.provision b) (mine b story) (play (mine b story) ops) outside t.manifest (length (mine b story)) (length-play (mine b story) ops) h.layout its_manifest.each_region in
          subst (λ (f : FusesState). KeepsTrustedBytes (layout_of f.provision b) t.manifest (mine b story) (mine b new)) (sym one)
          (subst (λ (later : List ℕ). KeepsTrustedBytes (layout_of fuses.provision b) t.manifest (mine b story) later) is kept)

      -- The image is trusted then.
      pub trusted_renewed : IsTrusted (mine b (after (recovery_job given_up told accepts b fuses capsule story) story)) (store (after (recovery_job given_up told accepts b fuses capsule story) story)) b accepts
      trusted_renewed =
          let last = trust_lasts (mine b story) (mine b new) (store story) (store story) b accepts t bytes_stay (same_store b (store story)) in
          let svn = ap (λ (m : Manifest). m.svn) (last.1 ∙ same_manifest) in
          trusted_raised (mine b new) (store story) (store new) b accepts fuses capsule.manifest.svn last.0 h.provisioned worked.says (omega (arith, svn))
