-- The image that is made of a bank is trusted, by the store that is made of the same description, for any engine that accepts the rows.
use Rattle.std.proofs.Common.{◌≡◌, ℕ, ◌+◌, ◌-◌, ◌<◌, ◌≤◌, ◌⊎◌, inl, inr, List, length, get_or, All, Ok, refl, sym, ◌∙◌, ap, subst, arith}
use Rattle.pfr_engine.specs.Acceptance.{Acceptance}
use Rattle.pfr_flash.specs.Bytes.{bytes_at}
use Rattle.pfr_flash.specs.Layout.{IsValidLayout}
use Rattle.pfr_flash.specs.Names.{capsule_type, manifest_type}
use Rattle.pfr_flash.specs.declared.layout.Layout.{Layout}
use Rattle.pfr_flash.specs.declared.names.Bank.{Bank}
use Rattle.pfr_chain.specs.Chain.{IsChain}
use Rattle.pfr_fuses.specs.FusesState.{floor_of, row_of}
use Rattle.pfr_fuses.specs.RootSlot.{layout_of}
use Rattle.pfr_manifest.specs.Hashes.{HasHash}
use Rattle.pfr_manifest.specs.Manifest.{IsManifestOf}
use Rattle.pfr_manifest.specs.Regions.{IsRegion}
use Rattle.pfr_manifest.specs.declared.region.Region.{Region}
use Rattle.pfr_auth.specs.Regions.{IsHashed}
use Rattle.pfr_auth.specs.Trusted.{IsTrusted}
use Rattle.pfr_description.specs.Banks.{bank_of}
use Rattle.pfr_description.specs.Sound.{IsSound}
use Rattle.pfr_description.specs.Described.{BankDescription}
use Rattle.pfr_description.specs.Described.{Description}
use Rattle.pfr_made.specs.Accepting.{AcceptsText}
use Rattle.pfr_made.specs.Blocks.{signed_bytes}
use Rattle.pfr_made.specs.Capsules.{capsule_body, signed_capsule}
use Rattle.pfr_made.proofs.Chained.{made_chain}
use Rattle.pfr_made.specs.Images.{signed_manifest}
use Rattle.pfr_made.specs.Made.{active_image, flash_of, judge_bank, rows_of, with_areas}
use Rattle.pfr_made.specs.Manifests.{manifest_of, text_of}
use Rattle.pfr_made.specs.Store.{root_hash}
use Rattle.pfr_description.specs.Typed.{IsBankValue, IsValue}
use Rattle.pfr_made.proofs.AreasMade.{Fits, IsOutside, areas_capsule, areas_manifest, areas_outside, length-with_areas}
use Rattle.pfr_made.proofs.BlankMade.{length-active}
use Rattle.pfr_made.proofs.BlockSignedMade.{signed_len}
use Rattle.pfr_made.specs.Store.{store_for}
use Rattle.pfr_made.proofs.ChainMade.{chain_made, content_stands, floor_there, fuses_for, fuses_there, layout_there, manifest_may, manifest_no_certificate}
use Rattle.pfr_made.proofs.JudgeMade.{IsMakeable, bank_told}
use Rattle.pfr_made.proofs.ManifestMade.{hashes_made, manifest_made, text_small}
use Rattle.pfr_made.proofs.ManifestMadeLengths.{manifest_len_made, text_some}
use Rattle.pfr_made.proofs.RowsMadeAccepted.{accepted_rows, bank_value}

-- a region lies in none of the areas
region_outside : (layout : Layout) (size : ℕ) (region : Region) → IsRegion layout size region → IsOutside layout region.start (region.end - region.start)
region_outside layout size region h =
    let some : region.start < region.end = h.some in
    record {
      of_manifest = apart region.start region.end layout.manifest_at layout.manifest_len some h.clear_of_manifest;
      of_recovery = apart region.start region.end layout.recovery_at layout.area_len some h.clear_of_recovery;
      of_staging = apart region.start region.end layout.staging_at layout.area_len some h.clear_of_staging;
    }
  where
    apart : (start end at len : ℕ) → start < end → (end ≤ at) ⊎ (at + len ≤ start) → (start + (end - start) ≤ at) ⊎ (at + len ≤ start)
    apart start end at len some (inl below) = inl (omega arith)
    apart start end at len some (inr above) = inr above

module _ (desc : Description) (bank : Bank) (image staged : List ℕ) (is : IsValue desc) (judged : judge_bank desc bank image staged ≡ Ok tt) where
  abbrev pub part : BankDescription
  part = bank_of desc bank

  abbrev pub active : List ℕ
  active = active_image desc bank image

  abbrev pub flash : List ℕ
  flash = flash_of desc bank image staged

  pub told : IsMakeable desc bank image staged
  told = bank_told desc bank image staged judged

  pub value : IsBankValue part
  value = bank_value desc bank is

  pub active_size : length active ≡ part.size
  active_size = length-active part.regions image ∙ told.size

  pub text_long : 1024 + length (text_of part active) ≤ part.layout.manifest_len
  text_long = omega (arith, told.manifest, manifest_len_made part active value)

  pub length-manifest : length (signed_manifest desc bank active) ≡ 1024 + length (text_of part active)
  unfolding signed_manifest
  length-manifest = signed_len desc part.manifest_key (manifest_type bank) (text_of part active) is.root value.manifest_key

  length-capsule : length (signed_capsule desc bank active) ≡ 1024 + length (capsule_body desc bank active)
  unfolding signed_capsule
  length-capsule = signed_len desc part.capsule_key (capsule_type bank) (capsule_body desc bank active) is.root value.capsule_key

  fits : Fits part.layout (signed_manifest desc bank active) (signed_capsule desc bank active) staged
  fits = record {
    manifest_fits = omega (arith, length-manifest, text_long);
    capsule_fits = omega (arith, length-capsule, told.capsule);
    staged_fits = told.staged_file;
  }

  valid : IsValidLayout part.layout (length active)
  valid = subst (λ (size : ℕ). IsValidLayout part.layout size) (sym active_size) told.placed.layout

  flash_are : flash ≡ with_areas active part.layout (signed_manifest desc bank active) (signed_capsule desc bank active) staged
  unfolding flash_of
  flash_are = refl

  -- ---- the image
  pub flash_size : length flash ≡ part.size
  flash_size = ap length flash_are ∙ length-with_areas active part.layout (signed_manifest desc bank active) (signed_capsule desc bank active) staged valid fits ∙ active_size

  pub flash_manifest : bytes_at flash part.layout.manifest_at (1024 + length (text_of part active)) ≡ signed_bytes desc part.manifest_key (manifest_type bank) (text_of part active)
  unfolding signed_manifest
  flash_manifest =
      let there = areas_manifest active part.layout (signed_manifest desc bank active) (signed_capsule desc bank active) staged valid fits in
      ap (λ (n : ℕ). bytes_at flash part.layout.manifest_at n) (sym length-manifest) ∙ ap (λ (bytes : List ℕ). bytes_at bytes part.layout.manifest_at (length (signed_manifest desc bank active))) flash_are ∙ there

  pub flash_capsule : bytes_at flash part.layout.recovery_at (1024 + length (capsule_body desc bank active)) ≡ signed_bytes desc part.capsule_key (capsule_type bank) (capsule_body desc bank active)
  unfolding signed_capsule
  flash_capsule =
      let there = areas_capsule active part.layout (signed_manifest desc bank active) (signed_capsule desc bank active) staged valid fits in
      ap (λ (n : ℕ). bytes_at flash part.layout.recovery_at n) (sym length-capsule) ∙ ap (λ (bytes : List ℕ). bytes_at bytes part.layout.recovery_at (length (signed_capsule desc bank active))) flash_are ∙ there

  pub flash_region : (region : Region) → IsRegion part.layout part.size region → bytes_at flash region.start (region.end - region.start) ≡ bytes_at active region.start (region.end - region.start)
  flash_region region h =
      let inside : region.start + (region.end - region.start) ≤ length active = omega (arith, h.some, h.inside, active_size) in
      ap (λ (bytes : List ℕ). bytes_at bytes region.start (region.end - region.start)) flash_are
      ∙ areas_outside active part.layout (signed_manifest desc bank active) (signed_capsule desc bank active) staged valid fits region.start (region.end - region.start) (region_outside part.layout part.size region h) inside

  -- ---- the manifest
  spelled : IsManifestOf (text_of part active) (manifest_of part active) part.layout part.size
  spelled = manifest_made part active value told.entries

  pub hashed : All (IsHashed flash) (manifest_of part active).regions
  hashed = λ k d below.
      let region : Region = get_or (manifest_of part active).regions k d in
      subst (λ (bytes : List ℕ). HasHash bytes region.hash) (sym (flash_region region (spelled.each_region k d below))) (hashes_made part active k d below)

  -- the manifest spells itself where its bytes stand
  pub spelled_in : (bytes : List ℕ) → bytes ≡ text_of part active → IsManifestOf bytes (manifest_of part active) (layout_of (fuses_for desc).provision bank) (length flash)
  spelled_in bytes same = rw (same, layout_there desc bank, flash_size) spelled

  pub layout_valid : IsValidLayout (layout_of (fuses_for desc).provision bank) (length flash)
  layout_valid = rw (layout_there desc bank, flash_size) told.placed.layout

  pub svn_made : floor_of (fuses_for desc) bank ≤ (manifest_of part active).svn
  svn_made = omega (arith, floor_there desc bank)

  module _ (sound : IsSound desc) (accepts : Acceptance) (accepted : AcceptsText accepts (rows_of desc bank active)) where
    signed : IsChain flash part.layout.manifest_at part.layout.manifest_len (manifest_type bank) (root_hash desc.form desc.curve desc.root) (row_of (fuses_for desc) (manifest_type bank)) accepts
        (made_chain part.layout.manifest_at part.manifest_key (text_of part active))
    signed = chain_made desc part.manifest_key (manifest_type bank) (text_of part active) flash part.layout.manifest_at is.root value.manifest_key flash_manifest part.layout.manifest_len
        (row_of (fuses_for desc) (manifest_type bank)) accepts (manifest_no_certificate bank) (text_some part active value) (text_small part active value told.entries)
        (manifest_may desc bank is sound) (accepted_rows accepts desc bank active is accepted).manifest text_long

    -- ---- the law
    pub trusted_made : IsTrusted flash (store_for desc) bank accepts
    trusted_made = record {
      fuses = fuses_for desc;
      manifest = manifest_of part active;
      chain = made_chain part.layout.manifest_at part.manifest_key (text_of part active);
      provisioned = fuses_there desc is;
      layout = layout_valid;
      signed = rw (layout_there desc bank) signed;
      spelled = spelled_in (bytes_at flash (part.layout.manifest_at + 1024) (length (text_of part active)))
          (content_stands desc part.manifest_key (manifest_type bank) (text_of part active) flash part.layout.manifest_at is.root value.manifest_key flash_manifest);
      svn = svn_made;
      hashed = hashed;
    }
