-- The active image is judged well exactly where it is trusted.
use Rattle.std.proofs.Common.{◌≡◌, ◌∙◌, ap, sym, refl, subst, ℕ, ◌≤◌, nat_le, List, length, All, Result, Ok}
use Rattle.std.proofs.lemmas.Bool.{le-leb, leb-true}
use Rattle.pfr_flash.specs.Bytes.{bytes_at}
use Rattle.pfr_flash.specs.Layout.{IsValidLayout}
use Rattle.pfr_flash.specs.Names.{manifest_type}
use Rattle.pfr_flash.specs.declared.layout.Layout.{Layout}
use Rattle.pfr_flash.specs.declared.names.Bank.{Bank}
use Rattle.pfr_engine.specs.Acceptance.{Acceptance}
use Rattle.pfr_chain.specs.Judge.{judge}
use Rattle.pfr_chain.proofs.ChainLaw.{judge_holds as chain_holds, judge_ends as chain_ends}
use Rattle.pfr_fuses.specs.FusesState.{FusesState, floor_of, row_of}
use Rattle.pfr_fuses.specs.FusesOf.{fuses_of}
use Rattle.pfr_fuses.specs.RootSlot.{layout_of}
use Rattle.pfr_flash.specs.Bytes.{AreBytes}
use Rattle.pfr_flash.proofs.AreBytesLemmas.{AreBytes-bytes_at}
use Rattle.pfr_manifest.specs.Judge.{judge_manifest}
use Rattle.pfr_manifest.specs.declared.fail.ManifestFail.{ManifestFail}
use Rattle.pfr_manifest.specs.declared.manifest.Manifest.{Manifest}
use Rattle.pfr_manifest.proofs.ReadingLaw.{judge_holds as manifest_holds}
use Rattle.pfr_manifest.proofs.FindingLaw.{judge_ends as manifest_ends}
use Rattle.pfr_flash.specs.Judging.{told_as}
use Rattle.pfr_auth.specs.Judge.{judge_active, judge_regions, judge_signed}
use Rattle.pfr_auth.specs.Regions.{IsHashed}
use Rattle.pfr_auth.specs.Trusted.{IsSigned, IsTrusted, StandFor}
use Rattle.pfr_auth.specs.declared.fail.ActiveFail.TheVariants as causes
use Rattle.pfr_flash.proofs.JudgingLemmas.{passed_part, passed_unit, passed_test, told_ok}
use Rattle.pfr_auth.proofs.Parts.{signed_content}
use Rattle.pfr_auth.proofs.RegionLemmas.{regions_hold, regions_end}

-- ---- the manifest that is signed
pub signed_holds : (image : List ℕ) (bank : Bank) (fuses : FusesState) (accepts : Acceptance) (m : Manifest) → AreBytes image → judge_signed image bank fuses accepts ≡ Ok m →
    IsSigned image bank fuses accepts m
unfolding judge_signed
signed_holds image bank fuses accepts m bytes h =
    let layout : Layout = layout_of fuses.provision bank in
    let judged = judge image layout.manifest_at layout.manifest_len (manifest_type bank) fuses.provision.root (row_of fuses (manifest_type bank)) accepts in
    let a = passed_part (told_as causes.Chain judged) _ m h in
    let content : List ℕ = bytes_at image a.0.content_at a.0.length in
    let signed = chain_holds image layout.manifest_at layout.manifest_len (manifest_type bank) fuses.provision.root (row_of fuses (manifest_type bank)) accepts a.0 (told_ok causes.Chain judged a.0 a.1) in
    record {
      chain = a.0;
      signed = signed;
      spelled = manifest_holds content layout (length image) m (AreBytes-bytes_at image a.0.content_at a.0.length bytes) (told_ok causes.Manifest (judge_manifest content layout (length image)) m a.2);
    }

-- ---- only the provision, the floor and the row of the bank's manifests are looked at
stands_same : (image nv : List ℕ) (bank : Bank) (accepts : Acceptance) (fuses : FusesState) (p : StandFor nv fuses bank) → judge_active image bank fuses accepts ≡ judge_active image bank p.all accepts
unfolding judge_active judge_signed
stands_same image nv bank accepts fuses p = rw (p.provision, p.floor, p.row) refl

-- the fuses that a store says stand for it
pub stands_whole : (nv : List ℕ) (fuses : FusesState) (bank : Bank) → fuses_of nv ≡ Ok fuses → StandFor nv fuses bank
stands_whole nv fuses bank p = record { all = fuses; provisioned = p; provision = refl; floor = refl; row = refl }

-- ---- What is judged well is trusted, by this manifest, in an image of bytes.
pub judged_parts : (image : List ℕ) (bank : Bank) (accepts : Acceptance) (fuses : FusesState) (m : Manifest) → judge_active image bank fuses accepts ≡ Ok m →
    (judge_signed image bank fuses accepts ≡ Ok m) × (floor_of fuses bank ≤ m.svn) × All (IsHashed image) m.regions
unfolding judge_active
judged_parts image bank accepts fuses m j =
    let a = passed_part (judge_signed image bank fuses accepts) _ m j in
    let b = passed_test causes.SvnFloor (nat_le (floor_of fuses bank) a.0.svn) _ m a.2 in
    let d = passed_unit (judge_regions image 0 a.0.regions) (Ok a.0) m b.1 in
    let e : a.0 ≡ m = cc in (
      a.1 ∙ ap (λ (x : Manifest). Ok x) e,
      subst (λ (x : Manifest). floor_of fuses bank ≤ x.svn) e (leb-true (floor_of fuses bank) a.0.svn b.0),
      subst (λ (x : Manifest). All (IsHashed image) x.regions) e (regions_hold image 0 a.0.regions d.0),
    )

pub judged_trusted : (image nv : List ℕ) (bank : Bank) (accepts : Acceptance) (fuses : FusesState) (m : Manifest) → StandFor nv fuses bank
    → IsValidLayout (layout_of fuses.provision bank) (length image) → AreBytes image → judge_active image bank fuses accepts ≡ Ok m → (t : IsTrusted image nv bank accepts) × (t.manifest ≡ m)
judged_trusted image nv bank accepts fuses m p l bytes j =
    let k = judged_parts image bank accepts p.all m (sym (stands_same image nv bank accepts fuses p) ∙ j) in
    let s = signed_holds image bank p.all accepts m bytes k.0 in
    let t : IsTrusted image nv bank accepts = record {
      fuses = p.all;
      manifest = m;
      chain = s.chain;
      provisioned = p.provisioned;
      layout = rw p.provision at l;
      signed = s.signed;
      spelled = s.spelled;
      svn = k.1;
      hashed = k.2;
    } in
    (t, refl)

-- ---- What is trusted is judged well.
signed_ends : (image nv : List ℕ) (bank : Bank) (accepts : Acceptance) (t : IsTrusted image nv bank accepts) → judge_signed image bank t.fuses accepts ≡ Ok t.manifest
signed_ends image nv bank accepts t =
    let layout : Layout = layout_of t.fuses.provision bank in
    let content : List ℕ = bytes_at image t.chain.content_at t.chain.length in
    signed_content image bank t.fuses accepts layout (manifest_type bank) t.fuses.provision.root (row_of t.fuses (manifest_type bank)) refl refl refl refl t.chain
    (chain_ends image layout.manifest_at layout.manifest_len (manifest_type bank) t.fuses.provision.root (row_of t.fuses (manifest_type bank)) accepts t.chain t.signed)
    ∙ ap (λ (r : Result Manifest ManifestFail). told_as causes.Manifest r) (manifest_ends content layout (length image) t.manifest t.spelled)

pub trusted_judged : (image nv : List ℕ) (bank : Bank) (accepts : Acceptance) (t : IsTrusted image nv bank accepts) → judge_active image bank t.fuses accepts ≡ Ok t.manifest
unfolding judge_active
trusted_judged image nv bank accepts t =
    let above = le-leb (floor_of t.fuses bank) t.manifest.svn t.svn in
    rw (signed_ends image nv bank accepts t, above, regions_end image 0 t.manifest.regions t.hashed) refl

-- the same, for fuses that stand for the store
pub trusted_found : (image nv : List ℕ) (bank : Bank) (accepts : Acceptance) (fuses : FusesState) → StandFor nv fuses bank → (t : IsTrusted image nv bank accepts) → judge_active image bank fuses accepts ≡ Ok t.manifest
trusted_found image nv bank accepts fuses p t =
    let is = p.provisioned in
    let here = t.provisioned in
    let e : t.fuses ≡ p.all = cc in
    stands_same image nv bank accepts fuses p ∙ (rw e at (trusted_judged image nv bank accepts t))
