-- What is signed in a capsule: its body, and at the body's head the manifest.
use Rattle.std.specs.Prelude.{ℕ, ◌+◌, ◌≤◌, min, Option, Some, None, List, length}
use Rattle.pfr_flash.specs.Bytes.{bytes_at}
use Rattle.pfr_flash.specs.Names.{capsule_type, manifest_type}
use Rattle.pfr_flash.specs.declared.layout.Layout.{Layout}
use Rattle.pfr_flash.specs.declared.names.Bank.{Bank}
use Rattle.pfr_engine.specs.Acceptance.{Acceptance}
use Rattle.pfr_chain.specs.Chain.{IsChain}
use Rattle.pfr_chain.specs.declared.judging.Chain.{Chain}
use Rattle.pfr_fuses.specs.FusesState.{FusesState, floor_of, row_of}
use Rattle.pfr_manifest.specs.Manifest.{IsManifestOf}
use Rattle.pfr_capsule.specs.declared.signed.Signed.{Signed}

-- where a signed content ends
abbrev pub end_of : Chain → ℕ
end_of chain = chain.content_at + chain.length

-- the id of the key that signed, where it is no certificate
abbrev pub id_or_zero : Option ℕ → ℕ
id_or_zero (Some id) = id
id_or_zero None = 0

abbrev pub key_of : Chain → ℕ
key_of chain = id_or_zero chain.key

-- a chain for a capsule of the bank stands at a place within a length
abbrev pub IsCapsuleChain : List ℕ → ℕ → ℕ → Bank → FusesState → Acceptance → Chain → Type 0
IsCapsuleChain image place len bank fuses accepts capsule =
    IsChain image place len (capsule_type bank) fuses.provision.root (row_of fuses (capsule_type bank)) accepts capsule

-- a chain for a manifest of the bank stands at the head of a capsule's body, within the body and as many bytes as the
-- bank's manifest area has
abbrev pub IsInnerChain : List ℕ → Bank → Layout → FusesState → Acceptance → Chain → Chain → Type 0
IsInnerChain image bank layout fuses accepts capsule inner =
    IsChain image capsule.content_at (min capsule.length layout.manifest_len) (manifest_type bank) fuses.provision.root (row_of fuses (manifest_type bank)) accepts inner

-- The capsule and its manifest are signed for a bank with these fuses, and the manifest is not below the floor.
pub record IsSigned (image : List ℕ) (place len : ℕ) (bank : Bank) (layout : Layout) (fuses : FusesState) (accepts : Acceptance) (signed : Signed) : Type 0 where
  pub capsule : IsCapsuleChain image place len bank fuses accepts signed.capsule
  pub inner : IsInnerChain image bank layout fuses accepts signed.capsule signed.inner
  pub spelled : IsManifestOf (bytes_at image signed.inner.content_at signed.inner.length) signed.manifest layout (length image)
  pub svn : floor_of fuses bank ≤ signed.manifest.svn
