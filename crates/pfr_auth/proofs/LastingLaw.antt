-- A trusted image stays trusted while the bytes stay that its trust rests on.
use Rattle.std.proofs.Common.{◌≡◌, ℕ, ◌+◌, ◌-◌, ◌*◌, ◌≤◌, ◌<◌, true, List, length, get_or, drop, min, Result, Ok, Err, IfOk, All, refl, sym, ap, ◌∙◌, subst, arith, length-take, length-drop}
use Rattle.std.proofs.lemmas.List.{ext_get_or}
use Rattle.pfr_flash.specs.Bytes.{bytes_at, continued}
use Rattle.pfr_flash.specs.Layout.{IsValidLayout}
use Rattle.pfr_flash.specs.Names.{manifest_type}
use Rattle.pfr_flash.specs.declared.layout.Layout.{Layout}
use Rattle.pfr_flash.specs.declared.names.Bank.{Bank}
use Rattle.pfr_flash.specs.declared.names.Bank.TheVariants.{Bmc, Pch}
use Rattle.pfr_flash.specs.declared.names.ContentType.{ContentType}
use Rattle.pfr_flash.proofs.BytesLemmas.{get_or-bytes_at}
use Rattle.pfr_engine.specs.Acceptance.{Acceptance}
use Rattle.pfr_chain.specs.Chain.{IsChain}
use Rattle.pfr_chain.specs.declared.judging.Chain.{Chain}
use Rattle.pfr_chain.proofs.MovedLaw.{IsChain-moved, moved, span_of}
use Rattle.pfr_fuses.specs.RootSlot.{layout_of, provision_in}
use Rattle.pfr_fuses.specs.Slots.{IsProvisionedBy, slot_at}
use Rattle.pfr_fuses.specs.FuseMap.{profile_of, floor_at, floor_width, row_at, row_width}
use Rattle.pfr_fuses.specs.FusesState.{FusesState, row_of, floor_in, floor_of}
use Rattle.pfr_fuses.specs.FusesOf.{floor_fuses, row_fuses, fuses_with, fuses_of}
use Rattle.pfr_fuses.specs.declared.profile.Profile.{Profile}
use Rattle.pfr_fuses.specs.declared.root_slot.RootSlot.{RootSlot}
use Rattle.pfr_fuses.proofs.GrowthLemmas.{profile_of-gate, IsProvisionedBy-same}
use Rattle.pfr_fuses.proofs.StandsLemmas.{fuses_of-found, fuses_of-ok}
use Rattle.pfr_manifest.specs.Hashes.{bytes_between}
use Rattle.pfr_manifest.specs.Manifest.{IsManifestOf}
use Rattle.pfr_manifest.specs.declared.manifest.Manifest.{Manifest}
use Rattle.pfr_manifest.specs.declared.region.Region.{Region}
use Rattle.pfr_manifest.specs.Regions.{is_static}
use Rattle.pfr_auth.specs.Lasting.{SameAt, KeepsTrustedBytes, KeepsTrustedFuses}
use Rattle.pfr_auth.specs.Regions.{IsHashed}
use Rattle.pfr_auth.specs.Trusted.{IsSignedBy, IsTrusted, StandFor}
use Rattle.pfr_auth.specs.declared.fail.ActiveFail.{ActiveFail}
use Rattle.pfr_auth.proofs.RegionLemmas.{of_filtered, same_hash}

-- ---- bytes that lie in a part that is the same
pub part_same : (from len : ℕ) (old new : List ℕ) (at count : ℕ) → length new ≡ length old → SameAt from len old new → from ≤ at → at + count ≤ from + len → bytes_at new at count ≡ bytes_at old at count
part_same from len old new at count size same low high =
    let lens : length (bytes_at new at count) ≡ length (bytes_at old at count) =
    length-take count (drop at new) ∙ ap (λ (n : ℕ). min count n) (length-drop at new ∙ ap (λ (n : ℕ). n - at) size ∙ sym (length-drop at old)) ∙ sym (length-take count (drop at old)) in
    ext_get_or 0 (bytes_at new at count) (bytes_at old at count) lens (λ i below.
    let inside : i < count = omega (arith, length-take count (drop at new)) in
    get_or-bytes_at new at count i 0 inside ∙ same.stays (at + i) (omega arith) (omega arith) ∙ sym (get_or-bytes_at old at count i 0 inside))

-- ---- the store
floor_same : (bank : Bank) (old new : List ℕ) → KeepsTrustedFuses bank old new → floor_fuses new bank ≡ floor_fuses old bank
unfolding floor_fuses
floor_same bank old new h =
    ap (λ (p : Profile). continued (bytes_at new (floor_at p bank) (floor_width p)) 16) (profile_of-gate old new h.gate)
    ∙ ap (λ (row : List ℕ). continued row 16)
    (part_same (floor_at (profile_of old) bank) (floor_width (profile_of old)) old new (floor_at (profile_of old) bank) (floor_width (profile_of old)) h.size h.floor (omega arith) (omega arith))

row_same : (bank : Bank) (old new : List ℕ) → KeepsTrustedFuses bank old new → row_fuses new (manifest_type bank) ≡ row_fuses old (manifest_type bank)
unfolding row_fuses
row_same bank old new h =
    ap (λ (p : Profile). continued (bytes_at new (row_at p (manifest_type bank)) (row_width p)) 32) (profile_of-gate old new h.gate)
    ∙ ap (λ (row : List ℕ). continued row 32)
    (part_same (row_at (profile_of old) (manifest_type bank)) (row_width (profile_of old)) old new (row_at (profile_of old) (manifest_type bank)) (row_width (profile_of old)) h.size h.row (omega arith) (omega arith))

floor_with : (nv slot : List ℕ) (bank : Bank) → floor_of (fuses_with nv slot) bank ≡ floor_in 128 (floor_fuses nv bank)
floor_with nv slot Bmc = refl
floor_with nv slot Pch = refl

row_with : (nv slot : List ℕ) (bank : Bank) → row_of (fuses_with nv slot) (manifest_type bank) ≡ row_fuses nv (manifest_type bank)
row_with nv slot Bmc = refl
row_with nv slot Pch = refl

-- the store has a provision, a floor and a row as before
pub store_lasts : (bank : Bank) (old new : List ℕ) (fuses : FusesState) → KeepsTrustedFuses bank old new → fuses_of old ≡ Ok fuses → StandFor new fuses bank
store_lasts bank old new fuses h was =
    let found = fuses_of-ok old fuses was in
    let slots : (k : ℕ) → k < 8 → slot_at new k ≡ slot_at old k = λ k below. part_same 0 2048 old new (256 * k) 256 h.size h.slots (omega arith) (omega arith) in
    let by : IsProvisionedBy new found.0 = IsProvisionedBy-same old new found.0 slots found.1 in
    record {
      all = fuses_with new (slot_at new found.0);
      provisioned = fuses_of-found new found.0 by;
      provision = ap (λ (kept : FusesState). kept.provision) found.2 ∙ ap provision_in (sym (slots found.0 found.1.within));
      floor = ap (λ (kept : FusesState). floor_of kept bank) found.2 ∙ floor_with old (slot_at old found.0) bank ∙ ap (floor_in 128) (sym (floor_same bank old new h)) ∙ sym (floor_with new (slot_at new found.0) bank);
      row = ap (λ (kept : FusesState). row_of kept (manifest_type bank)) found.2 ∙ row_with old (slot_at old found.0) bank ∙ sym (row_same bank old new h) ∙ sym (row_with new (slot_at new found.0) bank);
    }

-- ---- the bank
pub region_lasts : (region : Region) (old new : List ℕ) → length new ≡ length old → (is_static region ≡ true → SameAt region.start (region.end - region.start) old new) → IsHashed old region → IsHashed new region
region_lasts region old new size same h =
    same_hash (bytes_between old region.start region.end) (bytes_between new region.start region.end) region.hash
    (λ static. part_same region.start (region.end - region.start) old new region.start (region.end - region.start) size (same static) (omega arith) (omega arith)) h

still_there : (at : ℕ) (chain : Chain) → at ≤ chain.content_at → moved at at chain ≡ chain
still_there at chain low = let e : at + (chain.content_at - at) ≡ chain.content_at = omega arith in ap (λ (place : ℕ). record chain { content_at = place }) e

chain_lasts : (old new : List ℕ) (at len : ℕ) (type : ContentType) (root row : List ℕ) (accepts : Acceptance) (chain : Chain) → length new ≡ length old → SameAt at len old new
    → IsChain old at len type root row accepts chain → IsChain new at len type root row accepts chain
chain_lasts old new at len type root row accepts chain size same h =
    let spans : span_of at chain ≤ len = omega (arith, h.content_at, h.length, h.block.within) in
    subst (λ (c : Chain). IsChain new at len type root row accepts c) (still_there at chain (omega (arith, h.content_at)))
    (IsChain-moved old new at at len len len type root row accepts chain (sym (part_same at len old new at len size same (omega arith) (omega arith))) spans spans h)

content_lasts : (old new : List ℕ) (at len : ℕ) (type : ContentType) (root row : List ℕ) (accepts : Acceptance) (chain : Chain) → length new ≡ length old → SameAt at len old new
    → IsChain old at len type root row accepts chain → bytes_at new chain.content_at chain.length ≡ bytes_at old chain.content_at chain.length
content_lasts old new at len type root row accepts chain size same h =
    part_same at len old new chain.content_at chain.length size same (omega (arith, h.content_at)) (omega (arith, h.content_at, h.length, h.block.within))

-- what is trusted by a store's fuses is trusted by those that stand for another
trusted_by : (image nv : List ℕ) (bank : Bank) (accepts : Acceptance) (fuses : FusesState) (m : Manifest) (chain : Chain) → StandFor nv fuses bank → IsValidLayout (layout_of fuses.provision bank) (length image)
    → IsSignedBy image bank fuses accepts chain → IsManifestOf (bytes_at image chain.content_at chain.length) m (layout_of fuses.provision bank) (length image) → floor_of fuses bank ≤ m.svn → All (IsHashed image) m.regions
    → (t : IsTrusted image nv bank accepts) × (t.manifest ≡ m)
trusted_by image nv bank accepts fuses m chain stand valid signed spelled svn hashed = (
  record {
    fuses = stand.all;
    manifest = m;
    chain = chain;
    provisioned = stand.provisioned;
    layout = rw stand.provision at valid;
    signed = rw (stand.provision, stand.row) at signed;
    spelled = rw stand.provision at spelled;
    svn = rw stand.floor at svn;
    hashed = hashed;
  },
  refl,
)

-- ---- the law
pub trust_lasts : (image later nv after : List ℕ) (bank : Bank) (accepts : Acceptance) (t : IsTrusted image nv bank accepts)
    → KeepsTrustedBytes (layout_of t.fuses.provision bank) t.manifest image later → KeepsTrustedFuses bank nv after
    → (u : IsTrusted later after bank accepts) × (u.manifest ≡ t.manifest)
trust_lasts image later nv after bank accepts t bytes fuses =
    let layout : Layout = layout_of t.fuses.provision bank in
    let content = content_lasts image later layout.manifest_at layout.manifest_len (manifest_type bank) t.fuses.provision.root (row_of t.fuses (manifest_type bank)) accepts t.chain bytes.size bytes.area t.signed in
    let spelled : IsManifestOf (bytes_at later t.chain.content_at t.chain.length) t.manifest layout (length image) = subst (λ (text : List ℕ). IsManifestOf text t.manifest layout (length image)) (sym content) t.spelled in
    trusted_by later after bank accepts t.fuses t.manifest t.chain (store_lasts bank nv after t.fuses fuses t.provisioned)
    (subst (λ (n : ℕ). IsValidLayout layout n) (sym bytes.size) t.layout)
    (chain_lasts image later layout.manifest_at layout.manifest_len (manifest_type bank) t.fuses.provision.root (row_of t.fuses (manifest_type bank)) accepts t.chain bytes.size bytes.area t.signed)
    (subst (λ (n : ℕ). IsManifestOf (bytes_at later t.chain.content_at t.chain.length) t.manifest layout n) (sym bytes.size) spelled)
    t.svn
    (λ k d below. region_lasts (get_or t.manifest.regions k d) image later bytes.size
    (of_filtered is_static (λ (r : Region). SameAt r.start (r.end - r.start) image later) t.manifest.regions bytes.static k d below) (t.hashed k d below))

-- the same for an answer
pub answer_lasts : (image : List ℕ) (bank : Bank) (accepts : Acceptance) (fuses : FusesState) (layout : Layout) (answer : Result Manifest ActiveFail) → layout ≡ layout_of fuses.provision bank
    → IfOk answer (λ m. (nv : List ℕ) → StandFor nv fuses bank → (t : IsTrusted image nv bank accepts) × (t.manifest ≡ m))
    → IfOk answer (λ m. (nv later after : List ℕ) → StandFor nv fuses bank → KeepsTrustedBytes layout m image later → KeepsTrustedFuses bank nv after → (t : IsTrusted later after bank accepts) × (t.manifest ≡ m))
answer_lasts image bank accepts fuses layout (Ok m) is ok = λ nv later after stand bytes kept.
    let found = ok nv stand in
    let t : IsTrusted image nv bank accepts = found.0 in
    let was = t.provisioned in
    let is_now = stand.provisioned in
    let same_all : t.fuses ≡ stand.all = cc in
    let same_layout : layout ≡ layout_of t.fuses.provision bank = is ∙ ap (λ (p : RootSlot). layout_of p bank) (stand.provision ∙ ap (λ (f : FusesState). f.provision) (sym same_all)) in
    let rested : KeepsTrustedBytes (layout_of t.fuses.provision bank) t.manifest image later =
    subst (λ (l : Layout). KeepsTrustedBytes l t.manifest image later) same_layout (subst (λ (n : Manifest). KeepsTrustedBytes layout n image later) (sym found.1) bytes) in
    let last = trust_lasts image later nv after bank accepts t rested kept in
    (last.0, last.1 ∙ found.1)
answer_lasts image bank accepts fuses layout (Err cause) is ok = tt
