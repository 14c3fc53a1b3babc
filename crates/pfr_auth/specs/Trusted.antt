-- When the active image of a bank is trusted.
use Rattle.std.specs.Prelude.{◌≡◌, ℕ, ◌≤◌, List, length, All, Ok}
use Rattle.pfr_flash.specs.Bytes.{bytes_at}
use Rattle.pfr_flash.specs.Layout.{IsValidLayout}
use Rattle.pfr_flash.specs.Names.{manifest_type}
use Rattle.pfr_flash.specs.declared.layout.Layout.{Layout}
use Rattle.pfr_flash.specs.declared.names.Bank.{Bank}
use Rattle.pfr_engine.specs.Acceptance.{Acceptance}
use Rattle.pfr_chain.specs.Chain.{IsChain}
use Rattle.pfr_chain.specs.declared.judging.Chain.{Chain}
use Rattle.pfr_fuses.specs.FusesState.{FusesState, floor_of, row_of}
use Rattle.pfr_fuses.specs.FusesOf.{fuses_of}
use Rattle.pfr_fuses.specs.RootSlot.{layout_of}
use Rattle.pfr_manifest.specs.Manifest.{IsManifestOf}
use Rattle.pfr_manifest.specs.declared.manifest.Manifest.{Manifest}
use Rattle.pfr_auth.specs.Regions.{IsHashed}

-- A chain for the bank's manifest stands in its manifest area: signed from the provision's root on, over no key that
-- is cancelled for manifests of the bank.
abbrev pub IsSignedBy : List ℕ → Bank → FusesState → Acceptance → Chain → Type 0
IsSignedBy image bank fuses accepts chain =
    let layout : Layout = layout_of fuses.provision bank in
    IsChain image layout.manifest_at layout.manifest_len (manifest_type bank) fuses.provision.root (row_of fuses (manifest_type bank)) accepts chain

-- the manifest is what is signed in the manifest area of a bank with these fuses
pub record IsSigned (image : List ℕ) (bank : Bank) (fuses : FusesState) (accepts : Acceptance) (manifest : Manifest) : Type 0 where
  pub chain : Chain
  pub signed : IsSignedBy image bank fuses accepts chain
  pub spelled : IsManifestOf (bytes_at image chain.content_at chain.length) manifest (layout_of fuses.provision bank) (length image)

-- the kept provision, floor and row of the bank's manifests are those of the store
pub record StandFor (nv : List ℕ) (fuses : FusesState) (bank : Bank) : Type 0 where
  pub all : FusesState
  pub provisioned : fuses_of nv ≡ Ok all
  pub provision : fuses.provision ≡ all.provision
  pub floor : floor_of fuses bank ≡ floor_of all bank
  pub row : row_of fuses (manifest_type bank) ≡ row_of all (manifest_type bank)

-- The active image of a bank is trusted, by what the store holds, for the engine.
pub record IsTrusted (image nv : List ℕ) (bank : Bank) (accepts : Acceptance) : Type 0 where
  pub fuses : FusesState
  pub manifest : Manifest
  pub chain : Chain
  -- the store provisions the platform, and the bank with a valid layout
  pub provisioned : fuses_of nv ≡ Ok fuses
  pub layout : IsValidLayout (layout_of fuses.provision bank) (length image)
  -- the manifest is what is signed in the manifest area
  pub signed : IsSignedBy image bank fuses accepts chain
  pub spelled : IsManifestOf (bytes_at image chain.content_at chain.length) manifest (layout_of fuses.provision bank) (length image)
  -- its security version number is not below the floor
  pub svn : floor_of fuses bank ≤ manifest.svn
  -- each region that is static has its hash
  pub hashed : All (IsHashed image) manifest.regions
