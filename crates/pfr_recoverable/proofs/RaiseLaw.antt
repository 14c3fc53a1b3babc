-- A raise of the floor to at most the version of a good capsule leaves it good, done, torn or not begun.
use Rattle.std.proofs.Common.{◌≡◌, ◌∙◌, ap, sym, subst, refl, arith, ℕ, zero, suc, ◌+◌, ◌≤◌, ◌<◌, ◌≢◌, false, List, length, Option, Some, Ok, ◌⊎◌, inl, inr}
use Rattle.std.proofs.lemmas.Bool.{cases_lt}
use Rattle.pfr_flash.specs.Bytes.{bytes_at, continued}
use Rattle.pfr_flash.specs.FuseRow.{IsCleared, is_cleared, clearing}
use Rattle.pfr_flash.specs.Names.{capsule_type, manifest_type}
use Rattle.pfr_flash.specs.Operation.{Operation, play}
use Rattle.pfr_flash.specs.Plan.{IsPart}
use Rattle.pfr_flash.specs.Range.{SameOutside}
use Rattle.pfr_flash.specs.declared.names.Bank.{Bank}
use Rattle.pfr_flash.specs.declared.names.Bank.TheVariants as bank
use Rattle.pfr_flash.specs.declared.names.ContentType.{ContentType}
use Rattle.pfr_flash.proofs.BytesLemmas.{length-bytes_at}
use Rattle.pfr_flash.proofs.PlanLemmas.{AllWithin-part}
use Rattle.pfr_flash.proofs.PlayLemmas.{length-play}
use Rattle.pfr_flash.proofs.RangeLemmas.{SameOutside-play}
use Rattle.pfr_engine.specs.Acceptance.{Acceptance}
use Rattle.pfr_chain.specs.Chain.{IsBlock1, IsChain}
use Rattle.pfr_chain.specs.declared.form.Form.{Form}
use Rattle.pfr_chain.specs.declared.form.Form.TheVariants.{One, Two}
use Rattle.pfr_chain.specs.declared.judging.Chain.{Chain}
use Rattle.pfr_fuses.specs.Changes.{with_floor}
use Rattle.pfr_fuses.specs.FuseMap.{floor_at, floor_width, profile_of}
use Rattle.pfr_fuses.specs.FusesState.{FusesState, floor_in, floor_of, floor_row, row_of}
use Rattle.pfr_fuses.specs.FusesOf.{fuses_of, floor_fuses}
use Rattle.pfr_fuses.specs.declared.profile.Profile.{Profile}
use Rattle.pfr_fuses.specs.declared.profile.Profile.TheVariants as profile
use Rattle.pfr_flash.proofs.ClearingLemmas.{clearing-within, clearing-part}
use Rattle.pfr_flash.proofs.FuseLemmas.{MayClear}
use Rattle.pfr_fuses.proofs.ExactLemmas.{ChangedAt, fuses_of-but_floor, floor_kept}
use Rattle.pfr_fuses.proofs.FloorLemmas.{floor_in-above, floor_in-bit, IsCleared-continued}
use Rattle.pfr_fuses.proofs.GrowthLemmas.{profile-outside, slots-outside}
use Rattle.pfr_fuses.proofs.StaysLemmas.{floor_in_sector}
use Rattle.pfr_capsule.specs.Good.{IsGood}
use Rattle.pfr_fuses.specs.RootSlot.{layout_of}
use Rattle.pfr_fuses.specs.declared.root_slot.RootSlot.{RootSlot}
use Rattle.pfr_recoverable.specs.Recoverable.{HasGoodRecovery}
use Rattle.pfr_recoverable.proofs.StaysLaw.{fuses_one}
use Rattle.pfr_capsule.proofs.ServesLaw.{StillServes, good_serves, serves_same}

-- ---- a chain's key isn't cancelled
pub block1_free : (form : Form) (block : List ℕ) (type : ContentType) (root row : List ℕ) (accepts : Acceptance) (id : ℕ) → IsBlock1 form block type root row accepts (Some id) → is_cleared row id ≡ false
block1_free One block type root row accepts id h = subst (λ (k : ℕ). is_cleared row k ≡ false) (sym h.signer.key.named) h.signer.key.may_sign.not_cancelled
block1_free Two block type root row accepts id h = subst (λ (k : ℕ). is_cleared row k ≡ false) (sym h.signer.key.named) h.signer.key.may_sign.not_cancelled

pub chain_free : (image : List ℕ) (place len : ℕ) (type : ContentType) (root row : List ℕ) (accepts : Acceptance) (chain : Chain) (id : ℕ) → chain.key ≡ Some id
    → IsChain image place len type root row accepts chain → is_cleared row id ≡ false
chain_free image place len type root row accepts chain id named h =
    block1_free h.block.form (bytes_at image place h.blen) type root row accepts id
    (subst (λ (key : Option ℕ). IsBlock1 h.block.form (bytes_at image place h.blen) type root row accepts key) named h.signed)

-- ---- the store
floor_with : (fuses : FusesState) (b : Bank) (row : List ℕ) → floor_of (with_floor fuses b row) b ≡ floor_in 128 row
floor_with fuses bank.Bmc row = refl
floor_with fuses bank.Pch row = refl

rows_with : (fuses : FusesState) (b : Bank) (row : List ℕ) → (row_of (with_floor fuses b row) (capsule_type b) ≡ row_of fuses (capsule_type b)) × (row_of (with_floor fuses b row) (manifest_type b) ≡ row_of fuses (manifest_type b))
rows_with fuses bank.Bmc row = (refl, refl)
rows_with fuses bank.Pch row = (refl, refl)

floor_other : (fuses : FusesState) (b c : Bank) (row : List ℕ) → c ≢ b → floor_of (with_floor fuses b row) c ≡ floor_of fuses c
floor_other fuses bank.Bmc bank.Bmc row other = absurd (other refl)
floor_other fuses bank.Bmc bank.Pch row other = refl
floor_other fuses bank.Pch bank.Bmc row other = refl
floor_other fuses bank.Pch bank.Pch row other = absurd (other refl)

rows_other : (fuses : FusesState) (b c : Bank) (row : List ℕ) → (row_of (with_floor fuses b row) (capsule_type c) ≡ row_of fuses (capsule_type c)) × (row_of (with_floor fuses b row) (manifest_type c) ≡ row_of fuses (manifest_type c))
rows_other fuses bank.Bmc bank.Bmc row = (refl, refl)
rows_other fuses bank.Bmc bank.Pch row = (refl, refl)
rows_other fuses bank.Pch bank.Bmc row = (refl, refl)
rows_other fuses bank.Pch bank.Pch row = (refl, refl)

provision_with : (fuses : FusesState) (b : Bank) (row : List ℕ) → (with_floor fuses b row).provision ≡ fuses.provision
provision_with fuses bank.Bmc row = refl
provision_with fuses bank.Pch row = refl

module _ (nv : List ℕ) (b : Bank) (fuses : FusesState) (bit : ℕ) (added : List Operation) (size : length nv ≡ 32768) (was : fuses_of nv ≡ Ok fuses) (two : profile_of nv ≡ profile.Two) (few : bit < 128)
    (part : IsPart nv (clearing (floor_at profile.Two b) bit) added) where
  at : ℕ
  at = floor_at profile.Two b

  same_size : length (play nv added) ≡ length nv
  same_size = length-play nv added

  fits : floor_at profile.Two b + 16 ≤ 32768
  fits = omega (arith, (floor_in_sector b).1)

  outside : SameOutside (floor_at profile.Two b) 16 nv (play nv added)
  outside = SameOutside-play (floor_at profile.Two b) 16 nv added
      (AllWithin-part (floor_at profile.Two b) 16 nv (clearing (floor_at profile.Two b) bit) added (clearing-within (floor_at profile.Two b) 16 bit (omega (arith, few))) part)

  two_then : profile_of (play nv added) ≡ profile.Two
  two_then = profile-outside (floor_at profile.Two b) 16 nv (play nv added) (inl (omega (arith, (floor_in_sector b).0))) outside ∙ two

  changed : ChangedAt (floor_at profile.Two b) 16 nv (play nv added)
  changed = record {
    size = size;
    same_size = same_size;
    two = two;
    outside = outside;
    store = record {
      slots = λ k below. slots-outside (floor_at profile.Two b) 16 nv (play nv added) (omega (arith, (floor_in_sector b).0)) size same_size outside k below;
      profile = two_then ∙ sym two;
    };
  }

  may : MayClear (floor_at profile.Two b) 16 bit nv (play nv added)
  may = clearing-part nv (floor_at profile.Two b) 16 bit added (omega (arith, few)) (omega (arith, fits, size)) part

  -- the row of the floor as it is kept
  kept_is : (image : List ℕ) → profile_of image ≡ profile.Two → floor_fuses image b ≡ continued (bytes_at image (floor_at profile.Two b) 16) 16
  unfolding floor_fuses
  kept_is image e = ap (λ (p : Profile). continued (bytes_at image (floor_at p b) (floor_width p)) 16) e

  in_row : (image : List ℕ) (k : ℕ) → length image ≡ 32768 → profile_of image ≡ profile.Two → k < 128 → IsCleared (floor_fuses image b) k → IsCleared (bytes_at image (floor_at profile.Two b) 16) k
  in_row image k whole e below h =
      let long : length (bytes_at image (floor_at profile.Two b) 16) ≡ 16 = length-bytes_at image (floor_at profile.Two b) 16 (omega (arith, fits, whole)) in
      ((IsCleared-continued (bytes_at image (floor_at profile.Two b) 16) 16 k (omega (arith, long)) (omega (arith, below))).0 (subst (λ (row : List ℕ). IsCleared row k) (kept_is image e) h)).1

  back_in : (image : List ℕ) (k : ℕ) → length image ≡ 32768 → profile_of image ≡ profile.Two → k < 128 → IsCleared (bytes_at image (floor_at profile.Two b) 16) k → IsCleared (floor_fuses image b) k
  back_in image k whole e below h =
      let long : length (bytes_at image (floor_at profile.Two b) 16) ≡ 16 = length-bytes_at image (floor_at profile.Two b) 16 (omega (arith, fits, whole)) in
      subst (λ (row : List ℕ). IsCleared row k) (sym (kept_is image e))
      ((IsCleared-continued (bytes_at image (floor_at profile.Two b) 16) 16 k (omega (arith, long)) (omega (arith, below))).1 (omega (arith, long, below), h))

  -- a fuse that is cleared then is the raised one, or was below the floor
  below_then : (svn k : ℕ) → floor_of fuses b ≤ svn → bit < svn → k < 128 → IsCleared (floor_fuses (play nv added) b) k → k < svn
  below_then svn k low raised below h = by_number (cases_lt k bit) (cases_lt bit k)
    where
      other : k ≢ bit → k < svn
      other apart =
          let new_row = in_row (play nv added) k (same_size ∙ size) two_then below h in
          let old_row : IsCleared (bytes_at nv (floor_at profile.Two b) 16) k = (may.stays k (omega (arith, below)) apart).0 new_row in
          let kept : IsCleared (floor_row fuses b) k = subst (λ (row : List ℕ). IsCleared row k) (sym (floor_kept nv fuses b was)) (back_in nv k size two below old_row) in
          omega (arith, floor_in-above 128 (floor_row fuses b) k below kept, low)

      by_number : (k < bit) ⊎ (bit ≤ k) → (bit < k) ⊎ (k ≤ bit) → k < svn
      by_number (inl less) q = omega (arith, less, raised)
      by_number (inr from) (inl above) = other (λ e. absurd (omega (arith, e, above)))
      by_number (inr from) (inr to) = omega (arith, from, to, raised)

  floor_then : (svn : ℕ) → floor_of fuses b ≤ svn → bit < svn → floor_in 128 (floor_fuses (play nv added) b) ≤ svn
  floor_then svn low raised = by_floor (floor_in 128 (floor_fuses (play nv added) b)) refl
    where
      by_floor : (n : ℕ) → floor_in 128 (floor_fuses (play nv added) b) ≡ n → n ≤ svn
      by_floor zero e = omega arith
      by_floor (suc k) e =
          let found = floor_in-bit 128 (floor_fuses (play nv added) b) k (e ∙ (let s : suc k ≡ k + 1 = omega arith in s)) in
          omega (arith, below_then svn k low raised found.0 found.1)

  -- The store still serves a good capsule of at least this version.
  pub raise_serves : (svn capsule_key manifest_key : ℕ) → floor_of fuses b ≤ svn → bit < svn → is_cleared (row_of fuses (capsule_type b)) capsule_key ≡ false → is_cleared (row_of fuses (manifest_type b)) manifest_key ≡ false
      → StillServes fuses svn capsule_key manifest_key b (play nv added)
  raise_serves svn capsule_key manifest_key low raised capsule_free manifest_free = record {
    all = with_floor fuses b (floor_fuses (play nv added) b);
    provisioned = fuses_of-but_floor b nv (play nv added) fuses changed was;
    provision = provision_with fuses b (floor_fuses (play nv added) b);
    floor = omega (arith, floor_with fuses b (floor_fuses (play nv added) b), floor_then svn low raised);
    capsule_row = subst (λ (row : List ℕ). is_cleared row capsule_key ≡ false) (sym (rows_with fuses b (floor_fuses (play nv added) b)).0) capsule_free;
    manifest_row = subst (λ (row : List ℕ). is_cleared row manifest_key ≡ false) (sym (rows_with fuses b (floor_fuses (play nv added) b)).1) manifest_free;
  }

  -- It serves a capsule of the other bank as before.
  pub raise_serves_other : (c : Bank) → c ≢ b → (svn capsule_key manifest_key : ℕ) → floor_of fuses c ≤ svn → is_cleared (row_of fuses (capsule_type c)) capsule_key ≡ false → is_cleared (row_of fuses (manifest_type c)) manifest_key ≡ false
      → StillServes fuses svn capsule_key manifest_key c (play nv added)
  raise_serves_other c other svn capsule_key manifest_key low capsule_free manifest_free = record {
    all = with_floor fuses b (floor_fuses (play nv added) b);
    provisioned = fuses_of-but_floor b nv (play nv added) fuses changed was;
    provision = provision_with fuses b (floor_fuses (play nv added) b);
    floor = omega (arith, floor_other fuses b c (floor_fuses (play nv added) b) other, low);
    capsule_row = subst (λ (row : List ℕ). is_cleared row capsule_key ≡ false) (sym (rows_other fuses b c (floor_fuses (play nv added) b)).0) capsule_free;
    manifest_row = subst (λ (row : List ℕ). is_cleared row manifest_key ≡ false) (sym (rows_other fuses b c (floor_fuses (play nv added) b)).1) manifest_free;
  }

-- A raise of a bank's floor leaves a good capsule of the other bank good, whatever of it was done.
pub raise_keeps_other : (image nv : List ℕ) (place len : ℕ) (b c : Bank) (accepts : Acceptance) → c ≢ b → (g : IsGood image place len nv c accepts) (bit : ℕ) (added : List Operation) → length nv ≡ 32768
    → profile_of nv ≡ profile.Two → bit < 128 → IsPart nv (clearing (floor_at profile.Two b) bit) added → IsGood image place len (play nv added) c accepts
raise_keeps_other image nv place len b c accepts other g bit added size two few part =
    good_serves image nv (play nv added) place len c accepts g
    (raise_serves_other nv b g.fuses bit added size g.provisioned two few part c other g.parts.manifest.svn g.capsule.capsule_key g.capsule.manifest_key g.signed.svn
    (chain_free image place len (capsule_type c) g.fuses.provision.root (row_of g.fuses (capsule_type c)) accepts g.parts.capsule g.capsule.capsule_key g.capsule_key g.signed.capsule)
    (chain_free image g.parts.capsule.content_at _ (manifest_type c) g.fuses.provision.root (row_of g.fuses (manifest_type c)) accepts g.parts.inner g.capsule.manifest_key g.manifest_key g.signed.inner))

-- and the same capsule, with the provision that it had
pub raise_other_same : (image nv : List ℕ) (place len : ℕ) (b c : Bank) (accepts : Acceptance) (other : c ≢ b) (g : IsGood image place len nv c accepts) (bit : ℕ) (added : List Operation) (size : length nv ≡ 32768)
    (two : profile_of nv ≡ profile.Two) (few : bit < 128) (part : IsPart nv (clearing (floor_at profile.Two b) bit) added)
    → ((raise_keeps_other image nv place len b c accepts other g bit added size two few part).capsule ≡ g.capsule) × ((raise_keeps_other image nv place len b c accepts other g bit added size two few part).fuses.provision ≡ g.fuses.provision)
unfolding raise_keeps_other
raise_other_same image nv place len b c accepts other g bit added size two few part =
    serves_same image nv (play nv added) place len c accepts g
    (raise_serves_other nv b g.fuses bit added size g.provisioned two few part c other g.parts.manifest.svn g.capsule.capsule_key g.capsule.manifest_key g.signed.svn
    (chain_free image place len (capsule_type c) g.fuses.provision.root (row_of g.fuses (capsule_type c)) accepts g.parts.capsule g.capsule.capsule_key g.capsule_key g.signed.capsule)
    (chain_free image g.parts.capsule.content_at _ (manifest_type c) g.fuses.provision.root (row_of g.fuses (manifest_type c)) accepts g.parts.inner g.capsule.manifest_key g.manifest_key g.signed.inner))

-- A raise to at most a good capsule's version leaves the capsule good, whatever of it was done.
pub raise_keeps_good : (image nv : List ℕ) (place len : ℕ) (b : Bank) (accepts : Acceptance) (g : IsGood image place len nv b accepts) (bit : ℕ) (added : List Operation) → length nv ≡ 32768
    → profile_of nv ≡ profile.Two → bit < 128 → bit < g.parts.manifest.svn → IsPart nv (clearing (floor_at profile.Two b) bit) added → IsGood image place len (play nv added) b accepts
raise_keeps_good image nv place len b accepts g bit added size two few raised part =
    good_serves image nv (play nv added) place len b accepts g
    (raise_serves nv b g.fuses bit added size g.provisioned two few part g.parts.manifest.svn g.capsule.capsule_key g.capsule.manifest_key g.signed.svn raised
    (chain_free image place len (capsule_type b) g.fuses.provision.root (row_of g.fuses (capsule_type b)) accepts g.parts.capsule g.capsule.capsule_key g.capsule_key g.signed.capsule)
    (chain_free image g.parts.capsule.content_at _ (manifest_type b) g.fuses.provision.root (row_of g.fuses (manifest_type b)) accepts g.parts.inner g.capsule.manifest_key g.manifest_key g.signed.inner))

-- A raise to at most the version of the capsule in a good recovery area leaves the area good.
pub recovery_raised : (image nv : List ℕ) (b : Bank) (accepts : Acceptance) (r : HasGoodRecovery b image nv accepts) (bit : ℕ) (added : List Operation) → length nv ≡ 32768
    → profile_of nv ≡ profile.Two → bit < 128 → bit < r.good.parts.manifest.svn → IsPart nv (clearing (floor_at profile.Two b) bit) added → HasGoodRecovery b image (play nv added) accepts
recovery_raised image nv b accepts r bit added size two few raised part =
    let g = r.good in
    let s = raise_serves nv b g.fuses bit added size g.provisioned two few part g.parts.manifest.svn g.capsule.capsule_key g.capsule.manifest_key g.signed.svn raised
    (chain_free image (layout_of r.fuses.provision b).recovery_at (layout_of r.fuses.provision b).area_len (capsule_type b) g.fuses.provision.root (row_of g.fuses (capsule_type b)) accepts g.parts.capsule g.capsule.capsule_key g.capsule_key g.signed.capsule)
    (chain_free image g.parts.capsule.content_at _ (manifest_type b) g.fuses.provision.root (row_of g.fuses (manifest_type b)) accepts g.parts.inner g.capsule.manifest_key g.manifest_key g.signed.inner) in
    let same : r.fuses.provision ≡ s.all.provision = ap (λ (f : FusesState). f.provision) (fuses_one nv r.fuses g.fuses r.provisioned g.provisioned) ∙ sym s.provision in
    record {
      fuses = s.all;
      provisioned = s.provisioned;
      good = subst (λ (p : RootSlot). IsGood image (layout_of p b).recovery_at (layout_of p b).area_len (play nv added) b accepts) same
          (good_serves image nv (play nv added) (layout_of r.fuses.provision b).recovery_at (layout_of r.fuses.provision b).area_len b accepts g s);
    }
