-- A good capsule stays good with another store that still serves it.
use Rattle.std.proofs.Common.{refl, ◌≡◌, sym, subst, ℕ, ◌≤◌, min, false, List, length, Ok}
use Rattle.pfr_flash.specs.Bytes.{bytes_at}
use Rattle.pfr_flash.specs.FuseRow.{is_cleared}
use Rattle.pfr_flash.specs.Layout.{IsValidLayout}
use Rattle.pfr_flash.specs.Names.{capsule_type, manifest_type}
use Rattle.pfr_flash.specs.declared.names.Bank.{Bank}
use Rattle.pfr_engine.specs.Acceptance.{Acceptance}
use Rattle.pfr_chain.specs.Chain.{IsChain}
use Rattle.pfr_chain.proofs.FreeLaw.{IsChain-free}
use Rattle.pfr_fuses.specs.FusesState.{FusesState, floor_of, row_of}
use Rattle.pfr_fuses.specs.FusesOf.{fuses_of}
use Rattle.pfr_fuses.specs.RootSlot.{layout_of}
use Rattle.pfr_fuses.specs.declared.root_slot.RootSlot.{RootSlot}
use Rattle.pfr_manifest.specs.Manifest.{IsManifestOf}
use Rattle.pfr_capsule.specs.Good.{IsGood}
use Rattle.pfr_capsule.specs.Signed.{IsSigned}

-- A store still serves a good capsule of these keys and this version: with the same provision, a floor that isn't above
-- the version, and neither key cancelled.
pub record StillServes (fuses : FusesState) (svn capsule_key manifest_key : ℕ) (bank : Bank) (nv : List ℕ) : Type 0 where
  pub all : FusesState
  pub provisioned : fuses_of nv ≡ Ok all
  pub provision : all.provision ≡ fuses.provision
  pub floor : floor_of all bank ≤ svn
  pub capsule_row : is_cleared (row_of all (capsule_type bank)) capsule_key ≡ false
  pub manifest_row : is_cleared (row_of all (manifest_type bank)) manifest_key ≡ false

module _ (image nv later : List ℕ) (place len : ℕ) (bank : Bank) (accepts : Acceptance) (g : IsGood image place len nv bank accepts)
    (s : StillServes g.fuses g.parts.manifest.svn g.capsule.capsule_key g.capsule.manifest_key bank later) where
  same_provision : g.fuses.provision ≡ s.all.provision
  same_provision = sym s.provision

  signed_still : IsSigned image place len bank (layout_of s.all.provision bank) s.all accepts g.parts
  signed_still =
      let c = g.parts.capsule in
      let i = g.parts.inner in
      let h = g.signed in
      record {
        capsule = subst (λ (p : RootSlot). IsChain image place len (capsule_type bank) p.root (row_of s.all (capsule_type bank)) accepts c) same_provision
            (IsChain-free image place len (capsule_type bank) g.fuses.provision.root (row_of g.fuses (capsule_type bank)) (row_of s.all (capsule_type bank)) accepts c g.capsule.capsule_key g.capsule_key s.capsule_row h.capsule);
        inner = subst (λ (p : RootSlot). IsChain image c.content_at (min c.length (layout_of p bank).manifest_len) (manifest_type bank) p.root (row_of s.all (manifest_type bank)) accepts i) same_provision
            (IsChain-free image c.content_at _ (manifest_type bank) g.fuses.provision.root (row_of g.fuses (manifest_type bank)) (row_of s.all (manifest_type bank)) accepts i g.capsule.manifest_key g.manifest_key s.manifest_row h.inner);
        spelled = subst (λ (p : RootSlot). IsManifestOf (bytes_at image i.content_at i.length) g.parts.manifest (layout_of p bank) (length image)) same_provision h.spelled;
        svn = s.floor;
      }

  -- It is good with the other store too, and is the same capsule.
  pub good_serves : IsGood image place len later bank accepts
  good_serves = record {
    fuses = s.all;
    parts = g.parts;
    header = g.header;
    capsule = g.capsule;
    provisioned = s.provisioned;
    layout = subst (λ (p : RootSlot). IsValidLayout (layout_of p bank) (length image)) same_provision g.layout;
    signed = signed_still;
    framed = g.framed;
    paged = g.paged;
    capsule_key = g.capsule_key;
    manifest_key = g.manifest_key;
    found = g.found;
  }

  -- that is, with the provision that it had
  pub serves_same : (good_serves.capsule ≡ g.capsule) × (good_serves.fuses.provision ≡ g.fuses.provision)
  unfolding good_serves
  serves_same = (refl, s.provision)
