-- A cancellation of a key that isn't a good capsule's leaves the capsule good, done, torn or not begun.
use Rattle.std.proofs.Common.{◌≡◌, ◌∙◌, ap, sym, subst, refl, arith, ℕ, ◌+◌, ◌≤◌, ◌<◌, ◌==◌, ◌≢◌, Bool, true, false, List, length, Option, Some, Ok, ◌⊎◌, inl, inr}
use Rattle.std.proofs.lemmas.Bool.{eqb-true, false≢true}
use Rattle.pfr_flash.specs.Bytes.{bytes_at, continued}
use Rattle.pfr_flash.specs.FuseRow.{IsCleared, is_cleared, fuse_at}
use Rattle.pfr_flash.specs.Names.{capsule_type, manifest_type}
use Rattle.pfr_flash.specs.Operation.{Operation, play}
use Rattle.pfr_flash.specs.Plan.{IsPart}
use Rattle.pfr_flash.specs.Range.{SameOutside}
use Rattle.pfr_flash.specs.declared.names.Bank.{Bank}
use Rattle.pfr_flash.specs.declared.names.Bank.TheVariants as bank
use Rattle.pfr_flash.specs.declared.names.ContentType.{ContentType}
use Rattle.pfr_flash.specs.declared.names.ContentType.TheVariants.{PchManifest, PchCapsule, BmcManifest, BmcCapsule}
use Rattle.pfr_flash.proofs.BytesLemmas.{length-bytes_at}
use Rattle.pfr_flash.proofs.PlanLemmas.{AllWithin-part}
use Rattle.pfr_flash.proofs.PlayLemmas.{length-play}
use Rattle.pfr_flash.proofs.RangeLemmas.{SameOutside-play}
use Rattle.pfr_engine.specs.Acceptance.{Acceptance}
use Rattle.pfr_chain.specs.Chain.{IsBlock1, IsChain}
use Rattle.pfr_chain.specs.declared.form.Form.{Form}
use Rattle.pfr_chain.specs.declared.form.Form.TheVariants.{One, Two}
use Rattle.pfr_chain.specs.declared.judging.Chain.{Chain}
use Rattle.pfr_fuses.specs.Changes.{cancellation, with_row}
use Rattle.pfr_fuses.specs.FuseMap.{IsSigning, profile_of, row_at, row_width}
use Rattle.pfr_fuses.specs.FusesState.{FusesState, floor_of, row_of}
use Rattle.pfr_fuses.specs.FusesOf.{fuses_of, row_fuses}
use Rattle.pfr_fuses.specs.declared.profile.Profile.{Profile}
use Rattle.pfr_fuses.specs.declared.profile.Profile.TheVariants as profile
use Rattle.pfr_flash.proofs.ClearingLemmas.{clearing-within, clearing-part}
use Rattle.pfr_flash.proofs.FuseLemmas.{MayClear}
use Rattle.pfr_fuses.proofs.ExactLemmas.{ChangedAt, fuses_of-but_row, row_kept}
use Rattle.pfr_fuses.proofs.FloorLemmas.{IsCleared-continued}
use Rattle.pfr_fuses.proofs.GrowthLemmas.{profile-outside, slots-outside}
use Rattle.pfr_fuses.proofs.StaysLemmas.{row_in_sector}
use Rattle.pfr_capsule.specs.Good.{IsGood}
use Rattle.pfr_capsule.proofs.ServesLaw.{StillServes, good_serves, serves_same}
use Rattle.pfr_recoverable.proofs.RaiseLaw.{chain_free}

block1_small : (form : Form) (block : List ℕ) (type : ContentType) (root row : List ℕ) (accepts : Acceptance) (id : ℕ) → IsBlock1 form block type root row accepts (Some id) → id ≤ 255
block1_small One block type root row accepts id h = subst (λ (k : ℕ). k ≤ 255) (sym h.signer.key.named) h.signer.key.may_sign.id
block1_small Two block type root row accepts id h = subst (λ (k : ℕ). k ≤ 255) (sym h.signer.key.named) h.signer.key.may_sign.id

chain_small : (image : List ℕ) (place len : ℕ) (type : ContentType) (root row : List ℕ) (accepts : Acceptance) (chain : Chain) (id : ℕ) → chain.key ≡ Some id
    → IsChain image place len type root row accepts chain → id ≤ 255
chain_small image place len type root row accepts chain id named h =
    block1_small h.block.form (bytes_at image place h.blen) type root row accepts id
    (subst (λ (key : Option ℕ). IsBlock1 h.block.form (bytes_at image place h.blen) type root row accepts key) named h.signed)

not_zero : (n : ℕ) → (n == 0) ≡ false → n ≡ 0 → ⊥
not_zero n h e = false≢true (sym h ∙ ap (λ (m : ℕ). m == 0) e)

is_not_zero : (n : ℕ) → (n ≡ 0 → ⊥) → (n == 0) ≡ false
is_not_zero n h = by_test (n == 0) refl
  where
    by_test : (t : Bool) → (n == 0) ≡ t → (n == 0) ≡ false
    by_test true e = absurd (h (eqb-true n 0 e))
    by_test false e = e

floor_with_row : (fuses : FusesState) (type : ContentType) (b : Bank) (row : List ℕ) → IsSigning type → floor_of (with_row fuses type row) b ≡ floor_of fuses b
floor_with_row fuses PchManifest bank.Bmc row s = refl
floor_with_row fuses PchManifest bank.Pch row s = refl
floor_with_row fuses PchCapsule bank.Bmc row s = refl
floor_with_row fuses PchCapsule bank.Pch row s = refl
floor_with_row fuses BmcManifest bank.Bmc row s = refl
floor_with_row fuses BmcManifest bank.Pch row s = refl
floor_with_row fuses BmcCapsule bank.Bmc row s = refl
floor_with_row fuses BmcCapsule bank.Pch row s = refl
floor_with_row fuses type b row s = absurd s

provision_with_row : (fuses : FusesState) (type : ContentType) (row : List ℕ) → IsSigning type → (with_row fuses type row).provision ≡ fuses.provision
provision_with_row fuses PchManifest row s = refl
provision_with_row fuses PchCapsule row s = refl
provision_with_row fuses BmcManifest row s = refl
provision_with_row fuses BmcCapsule row s = refl
provision_with_row fuses type row s = absurd s

-- a row is the new one, of that type, or as it was
row_either : (fuses : FusesState) (type other : ContentType) (row : List ℕ) → IsSigning type → ((other ≡ type) × (row_of (with_row fuses type row) other ≡ row)) ⊎ (row_of (with_row fuses type row) other ≡ row_of fuses other)
row_either fuses PchManifest PchManifest row s = inl (refl, refl)
row_either fuses PchManifest PchCapsule row s = inr refl
row_either fuses PchManifest BmcManifest row s = inr refl
row_either fuses PchManifest BmcCapsule row s = inr refl
row_either fuses PchManifest other row s = inr refl
row_either fuses PchCapsule PchManifest row s = inr refl
row_either fuses PchCapsule PchCapsule row s = inl (refl, refl)
row_either fuses PchCapsule BmcManifest row s = inr refl
row_either fuses PchCapsule BmcCapsule row s = inr refl
row_either fuses PchCapsule other row s = inr refl
row_either fuses BmcManifest PchManifest row s = inr refl
row_either fuses BmcManifest PchCapsule row s = inr refl
row_either fuses BmcManifest BmcManifest row s = inl (refl, refl)
row_either fuses BmcManifest BmcCapsule row s = inr refl
row_either fuses BmcManifest other row s = inr refl
row_either fuses BmcCapsule PchManifest row s = inr refl
row_either fuses BmcCapsule PchCapsule row s = inr refl
row_either fuses BmcCapsule BmcManifest row s = inr refl
row_either fuses BmcCapsule BmcCapsule row s = inl (refl, refl)
row_either fuses BmcCapsule other row s = inr refl
row_either fuses type other row s = absurd s

module _ (nv : List ℕ) (type : ContentType) (fuses : FusesState) (id : ℕ) (added : List Operation) (size : length nv ≡ 32768) (was : fuses_of nv ≡ Ok fuses) (two : profile_of nv ≡ profile.Two) (few : id < 256) (signing : IsSigning type)
    (part : IsPart nv (cancellation type id) added) where
  same_size : length (play nv added) ≡ length nv
  same_size = length-play nv added

  fits : row_at profile.Two type + 32 ≤ 32768
  fits = omega (arith, (row_in_sector type signing).1)

  outside : SameOutside (row_at profile.Two type) 32 nv (play nv added)
  outside = SameOutside-play (row_at profile.Two type) 32 nv added
      (AllWithin-part (row_at profile.Two type) 32 nv (cancellation type id) added (clearing-within (row_at profile.Two type) 32 id (omega (arith, few))) part)

  two_then : profile_of (play nv added) ≡ profile.Two
  two_then = profile-outside (row_at profile.Two type) 32 nv (play nv added) (inl (omega (arith, (row_in_sector type signing).0))) outside ∙ two

  changed : ChangedAt (row_at profile.Two type) 32 nv (play nv added)
  changed = record {
    size = size;
    same_size = same_size;
    two = two;
    outside = outside;
    store = record {
      slots = λ k below. slots-outside (row_at profile.Two type) 32 nv (play nv added) (omega (arith, (row_in_sector type signing).0)) size same_size outside k below;
      profile = two_then ∙ sym two;
    };
  }

  may : MayClear (row_at profile.Two type) 32 id nv (play nv added)
  may = clearing-part nv (row_at profile.Two type) 32 id added (omega (arith, few)) (omega (arith, fits, size)) part

  kept_is : (image : List ℕ) → profile_of image ≡ profile.Two → row_fuses image type ≡ continued (bytes_at image (row_at profile.Two type) 32) 32
  unfolding row_fuses
  kept_is image e = ap (λ (p : Profile). continued (bytes_at image (row_at p type) (row_width p)) 32) e

  in_row : (image : List ℕ) (k : ℕ) → length image ≡ 32768 → profile_of image ≡ profile.Two → k < 256 → IsCleared (row_fuses image type) k → IsCleared (bytes_at image (row_at profile.Two type) 32) k
  in_row image k whole e below h =
      let long : length (bytes_at image (row_at profile.Two type) 32) ≡ 32 = length-bytes_at image (row_at profile.Two type) 32 (omega (arith, fits, whole)) in
      ((IsCleared-continued (bytes_at image (row_at profile.Two type) 32) 32 k (omega (arith, long)) (omega (arith, below))).0 (subst (λ (row : List ℕ). IsCleared row k) (kept_is image e) h)).1

  back_in : (image : List ℕ) (k : ℕ) → length image ≡ 32768 → profile_of image ≡ profile.Two → k < 256 → IsCleared (bytes_at image (row_at profile.Two type) 32) k → IsCleared (row_fuses image type) k
  back_in image k whole e below h =
      let long : length (bytes_at image (row_at profile.Two type) 32) ≡ 32 = length-bytes_at image (row_at profile.Two type) 32 (omega (arith, fits, whole)) in
      subst (λ (row : List ℕ). IsCleared row k) (sym (kept_is image e))
      ((IsCleared-continued (bytes_at image (row_at profile.Two type) 32) 32 k (omega (arith, long)) (omega (arith, below))).1 (omega (arith, long, below), h))

  -- another key of the type is free as it was
  free_then : (key : ℕ) → key < 256 → key ≢ id → is_cleared (row_of fuses type) key ≡ false → is_cleared (row_fuses (play nv added) type) key ≡ false
  free_then key below apart free = is_not_zero (fuse_at (row_fuses (play nv added) type) key) (λ cleared.
      let old : IsCleared (bytes_at nv (row_at profile.Two type) 32) key =
      (may.stays key (omega (arith, below)) apart).0 (in_row (play nv added) key (same_size ∙ size) two_then below cleared) in
      not_zero (fuse_at (row_of fuses type) key) free
      (subst (λ (row : List ℕ). IsCleared row key) (sym (row_kept nv fuses type signing was)) (back_in nv key size two below old)))

  row_free : (other : ContentType) (key : ℕ) → key < 256 → ((other ≢ type) ⊎ (key ≢ id)) → is_cleared (row_of fuses other) key ≡ false
      → is_cleared (row_of (with_row fuses type (row_fuses (play nv added) type)) other) key ≡ false
  row_free other key below apart free = by_row apart (row_either fuses type other (row_fuses (play nv added) type) signing)
    where
      by_row : ((other ≢ type) ⊎ (key ≢ id)) → ((other ≡ type) × (row_of (with_row fuses type (row_fuses (play nv added) type)) other ≡ row_fuses (play nv added) type)) ⊎ (row_of (with_row fuses type (row_fuses (play nv added) type)) other ≡ row_of fuses other)
          → is_cleared (row_of (with_row fuses type (row_fuses (play nv added) type)) other) key ≡ false
      by_row apart (inr same) = subst (λ (row : List ℕ). is_cleared row key ≡ false) (sym same) free
      by_row (inl ne) (inl here) = absurd (ne here.0)
      by_row (inr ne) (inl here) =
          subst (λ (row : List ℕ). is_cleared row key ≡ false) (sym here.1)
          (free_then key below ne (subst (λ (t : ContentType). is_cleared (row_of fuses t) key ≡ false) here.0 free))

  -- The store still serves a good capsule of other keys.
  pub cancel_serves : (b : Bank) (svn capsule_key manifest_key : ℕ) → floor_of fuses b ≤ svn → capsule_key < 256 → manifest_key < 256
      → ((capsule_type b ≢ type) ⊎ (capsule_key ≢ id)) → ((manifest_type b ≢ type) ⊎ (manifest_key ≢ id))
      → is_cleared (row_of fuses (capsule_type b)) capsule_key ≡ false → is_cleared (row_of fuses (manifest_type b)) manifest_key ≡ false
      → StillServes fuses svn capsule_key manifest_key b (play nv added)
  cancel_serves b svn capsule_key manifest_key low small_c small_m apart_c apart_m free_c free_m = record {
    all = with_row fuses type (row_fuses (play nv added) type);
    provisioned = fuses_of-but_row type nv (play nv added) fuses signing changed was;
    provision = provision_with_row fuses type (row_fuses (play nv added) type) signing;
    floor = omega (arith, floor_with_row fuses type b (row_fuses (play nv added) type) signing, low);
    capsule_row = row_free (capsule_type b) capsule_key small_c apart_c free_c;
    manifest_row = row_free (manifest_type b) manifest_key small_m apart_m free_m;
  }

-- A cancellation of a key that isn't one of a good capsule's two leaves the capsule good, whatever of it was done.
pub cancel_keeps_good : (image nv : List ℕ) (place len : ℕ) (b : Bank) (accepts : Acceptance) (g : IsGood image place len nv b accepts) (type : ContentType) (id : ℕ) (added : List Operation) → length nv ≡ 32768
    → profile_of nv ≡ profile.Two → id < 256 → IsSigning type → ((capsule_type b ≢ type) ⊎ (g.capsule.capsule_key ≢ id)) → ((manifest_type b ≢ type) ⊎ (g.capsule.manifest_key ≢ id))
    → IsPart nv (cancellation type id) added → IsGood image place len (play nv added) b accepts
cancel_keeps_good image nv place len b accepts g type id added size two few signing apart_c apart_m part =
    let root = g.fuses.provision.root in
    let capsule_row = row_of g.fuses (capsule_type b) in
    let manifest_row = row_of g.fuses (manifest_type b) in
    good_serves image nv (play nv added) place len b accepts g
    (cancel_serves nv type g.fuses id added size g.provisioned two few signing part b g.parts.manifest.svn g.capsule.capsule_key g.capsule.manifest_key g.signed.svn
    (let h : g.capsule.capsule_key ≤ 255 = chain_small image place len (capsule_type b) root capsule_row accepts g.parts.capsule g.capsule.capsule_key g.capsule_key g.signed.capsule in omega (arith, h))
    (let h : g.capsule.manifest_key ≤ 255 = chain_small image g.parts.capsule.content_at _ (manifest_type b) root manifest_row accepts g.parts.inner g.capsule.manifest_key g.manifest_key g.signed.inner in omega (arith, h))
    apart_c apart_m
    (chain_free image place len (capsule_type b) root capsule_row accepts g.parts.capsule g.capsule.capsule_key g.capsule_key g.signed.capsule)
    (chain_free image g.parts.capsule.content_at _ (manifest_type b) root manifest_row accepts g.parts.inner g.capsule.manifest_key g.manifest_key g.signed.inner))

-- and the same capsule, with the provision that it had
pub cancel_same : (image nv : List ℕ) (place len : ℕ) (b : Bank) (accepts : Acceptance) (g : IsGood image place len nv b accepts) (type : ContentType) (id : ℕ) (added : List Operation) (size : length nv ≡ 32768)
    (two : profile_of nv ≡ profile.Two) (few : id < 256) (signing : IsSigning type) (apart_c : (capsule_type b ≢ type) ⊎ (g.capsule.capsule_key ≢ id)) (apart_m : (manifest_type b ≢ type) ⊎ (g.capsule.manifest_key ≢ id))
    (part : IsPart nv (cancellation type id) added)
    → ((cancel_keeps_good image nv place len b accepts g type id added size two few signing apart_c apart_m part).capsule ≡ g.capsule)
    × ((cancel_keeps_good image nv place len b accepts g type id added size two few signing apart_c apart_m part).fuses.provision ≡ g.fuses.provision)
unfolding cancel_keeps_good
cancel_same image nv place len b accepts g type id added size two few signing apart_c apart_m part =
    let root = g.fuses.provision.root in
    let capsule_row = row_of g.fuses (capsule_type b) in
    let manifest_row = row_of g.fuses (manifest_type b) in
    serves_same image nv (play nv added) place len b accepts g
    (cancel_serves nv type g.fuses id added size g.provisioned two few signing part b g.parts.manifest.svn g.capsule.capsule_key g.capsule.manifest_key g.signed.svn
    (let h : g.capsule.capsule_key ≤ 255 = chain_small image place len (capsule_type b) root capsule_row accepts g.parts.capsule g.capsule.capsule_key g.capsule_key g.signed.capsule in omega (arith, h))
    (let h : g.capsule.manifest_key ≤ 255 = chain_small image g.parts.capsule.content_at _ (manifest_type b) root manifest_row accepts g.parts.inner g.capsule.manifest_key g.manifest_key g.signed.inner in omega (arith, h))
    apart_c apart_m
    (chain_free image place len (capsule_type b) root capsule_row accepts g.parts.capsule g.capsule.capsule_key g.capsule_key g.signed.capsule)
    (chain_free image g.parts.capsule.content_at _ (manifest_type b) root manifest_row accepts g.parts.inner g.capsule.manifest_key g.manifest_key g.signed.inner))
