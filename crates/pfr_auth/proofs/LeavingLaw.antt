-- A trusted image stays trusted over operations that leave the bytes its trust rests on.
use Rattle.std.proofs.Common.{◌≡◌, ℕ, suc, ◌+◌, ◌-◌, ◌≤◌, ◌<◌, List, [], ◌∷◌, ◌++◌, get_or, take, drop, All, refl, sym, ap, ◌∙◌, subst, arith, ◌⊎◌, inl, inr}
use Rattle.std.proofs.lemmas.List.{drop-take, take-append-drop, take-take}
use Rattle.std.proofs.lemmas.List.Elements.{All-take}
use Rattle.pfr_flash.specs.Operation.{Operation, applied, play, play_first}
use Rattle.pfr_flash.specs.Range.{Leaves, place_of, len_of}
use Rattle.pfr_flash.specs.declared.layout.Layout.{Layout}
use Rattle.pfr_flash.specs.declared.names.Bank.{Bank}
use Rattle.pfr_flash.specs.Names.{manifest_type}
use Rattle.pfr_flash.proofs.PlayLemmas.{length-play, play-append}
use Rattle.pfr_flash.proofs.RangeLemmas.{SameOutside-applied}
use Rattle.pfr_engine.specs.Acceptance.{Acceptance}
use Rattle.pfr_fuses.specs.FuseMap.{profile_of, floor_at, floor_width, row_at, row_width}
use Rattle.pfr_fuses.specs.FusesState.{FusesState}
use Rattle.pfr_fuses.specs.RootSlot.{layout_of}
use Rattle.pfr_fuses.specs.declared.profile.Profile.{Profile}
use Rattle.pfr_fuses.proofs.StandsLemmas.{fuses_of-ok}
use Rattle.pfr_manifest.specs.Access.{static_regions}
use Rattle.pfr_manifest.specs.declared.manifest.Manifest.{Manifest}
use Rattle.pfr_manifest.specs.declared.region.Region.{Region}
use Rattle.pfr_auth.specs.Lasting.{SameAt, KeepsTrustedBytes, KeepsTrustedFuses}
use Rattle.pfr_auth.specs.Leaving.{LeavesImage, LeavesStore}
use Rattle.pfr_auth.specs.Throughout.{IsTrustedBy, StaysTrusted, between}
use Rattle.pfr_auth.specs.Trusted.{IsTrusted}
use Rattle.pfr_auth.proofs.LastingLaw.{trust_lasts}

-- ---- bytes that operations leave
outside : (from len k : ℕ) (op : Operation) → Leaves from len op → from ≤ k → k < from + len → (k < place_of op) ⊎ (place_of op + len_of op ≤ k)
outside from len k op (inl before) low high = inr (omega arith)
outside from len k op (inr behind) low high = inl (omega arith)

left_alone : (from len : ℕ) (image : List ℕ) (ops : List Operation) → All (Leaves from len) ops → SameAt from len image (play image ops)
left_alone from len image [] h = record { stays = λ k low high. refl }
left_alone from len image (op ∷ ops) h = record {
  stays = λ k low high.
      (left_alone from len (applied image op) ops (λ j d below. h (suc j) d (omega arith))).stays k low high
      ∙ (SameOutside-applied image op).stays k (outside from len k op (h 0 op (omega arith)) low high);
}

pub left_image : (layout : Layout) (m : Manifest) (image : List ℕ) (ops : List Operation) → All (LeavesImage layout m) ops → KeepsTrustedBytes layout m image (play image ops)
left_image layout m image ops h = record {
  size = length-play image ops;
  area = left_alone layout.manifest_at layout.manifest_len image ops (λ i e inside. (h i e inside).area);
  static = λ k d below.
      let region : Region = get_or (static_regions m) k d in
      left_alone region.start (region.end - region.start) image ops (λ i e inside. (h i e inside).static k d below);
}

pub left_store : (bank : Bank) (fuses : FusesState) (nv : List ℕ) (ops : List Operation) → fuses.profile ≡ profile_of nv → All (LeavesStore fuses bank) ops → KeepsTrustedFuses bank nv (play nv ops)
left_store bank fuses nv ops same h = record {
  size = length-play nv ops;
  slots = left_alone 0 0x800 nv ops (λ i e inside. (h i e inside).slots);
  gate = (left_alone 0xA00 1 nv ops (λ i e inside. (h i e inside).gate)).stays 0xA00 (omega arith) (omega arith);
  floor = subst (λ (p : Profile). SameAt (floor_at p bank) (floor_width p) nv (play nv ops)) same
      (left_alone (floor_at fuses.profile bank) (floor_width fuses.profile) nv ops (λ i e inside. (h i e inside).floor));
  row = subst (λ (p : Profile). SameAt (row_at p (manifest_type bank)) (row_width p) nv (play nv ops)) same
      (left_alone (row_at fuses.profile (manifest_type bank)) (row_width fuses.profile) nv ops (λ i e inside. (h i e inside).row));
}

-- ---- the law
trusted_after : (image nv : List ℕ) (bank : Bank) (accepts : Acceptance) (t : IsTrusted image nv bank accepts) (ops store : List Operation)
    → All (LeavesImage (layout_of t.fuses.provision bank) t.manifest) ops → All (LeavesStore t.fuses bank) store
    → IsTrustedBy t.manifest (play image ops) (play nv store) bank accepts
trusted_after image nv bank accepts t ops store left left_fuses =
    let found = fuses_of-ok nv t.fuses t.provisioned in
    trust_lasts image (play image ops) nv (play nv store) bank accepts t (left_image (layout_of t.fuses.provision bank) t.manifest image ops left)
    (left_store bank t.fuses nv store (ap (λ (f : FusesState). f.profile) found.2) left_fuses)

-- the operations to a count, by those to an earlier one and those from it on
take_between : (ops : List Operation) (begin n end : ℕ) → begin ≤ n → n ≤ end → take begin ops ++ take (n - begin) (between begin end ops) ≡ take n ops
take_between ops begin n end low high =
    let m : begin + (n - begin) ≡ n = omega arith in
    let first : take begin ops ≡ take begin (take n ops) = sym (take-take begin n ops low) in
    let inner : take (n - begin) (between begin end ops) ≡ drop begin (take (begin + (n - begin)) (take end ops)) = sym (drop-take begin (n - begin) (take end ops)) in
    let then : drop begin (take (begin + (n - begin)) (take end ops)) ≡ drop begin (take n ops) =
    ap (λ (k : ℕ). drop begin (take k (take end ops))) m ∙ ap (λ (xs : List Operation). drop begin xs) (take-take n end ops high) in
    ap (λ (xs : List Operation). xs ++ take (n - begin) (between begin end ops)) first ∙ ap (λ (xs : List Operation). take begin (take n ops) ++ xs) (inner ∙ then)
    ∙ take-append-drop begin (take n ops)

play_between : (image : List ℕ) (ops : List Operation) (begin n end : ℕ) → begin ≤ n → n ≤ end
    → play (play_first begin image ops) (take (n - begin) (between begin end ops)) ≡ play_first n image ops
play_between image ops begin n end low high =
    sym (play-append image (take begin ops) (take (n - begin) (between begin end ops))) ∙ ap (λ (xs : List Operation). play image xs) (take_between ops begin n end low high)

-- The bank is trusted at each count of its operations and of the store's from those where it was, as long as each leaves the bytes.
pub trusted_between : StaysTrusted
trusted_between accepts bank image nv ops store begin end first last t left left_fuses b n low high from upon =
    let after = trusted_after (play_first begin image ops) (play_first first nv store) bank accepts t
    (take (b - begin) (between begin end ops)) (take (n - first) (between first last store))
    (All-take (LeavesImage (layout_of t.fuses.provision bank) t.manifest) (b - begin) (between begin end ops) left)
    (All-take (LeavesStore t.fuses bank) (n - first) (between first last store) left_fuses) in
    subst (λ (later : List ℕ). IsTrustedBy t.manifest (play_first b image ops) later bank accepts) (play_between nv store first n last from upon)
    (subst (λ (later : List ℕ). IsTrustedBy t.manifest later (play (play_first first nv store) (take (n - first) (between first last store))) bank accepts) (play_between image ops begin b end low high) after)
