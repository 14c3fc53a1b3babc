-- What is kept of a store stands for it.
use Rattle.std.proofs.Common.{◌≡◌, ℕ, ◌+◌, ◌*◌, ◌≤◌, ◌<◌, List, [], length, get_or, replicate, Result, Ok, Err, IfOk, IfErr, refl, sym, ap, ◌∙◌, subst, arith, ◌⊎◌, inl, inr, eq-eqb}
use Rattle.std.specs.Prelude.{◌↔◌}
use Rattle.std.proofs.lemmas.Bool.{ne_eqb}
use Rattle.pfr_flash.specs.Answer.{Answers}
use Rattle.pfr_flash.specs.Bytes.{bytes_at, continued}
use Rattle.pfr_flash.specs.FuseRow.{IsCleared}
use Rattle.pfr_flash.specs.declared.names.Bank.{Bank}
use Rattle.pfr_flash.specs.declared.names.Bank.TheVariants.{Bmc, Pch}
use Rattle.pfr_flash.specs.declared.names.ContentType.{ContentType}
use Rattle.pfr_flash.specs.declared.names.ContentType.TheVariants.{PchManifest, PchCapsule, BmcManifest, BmcCapsule}
use Rattle.pfr_flash.proofs.BytesLemmas.{length-bytes_at, get_or-bytes_at}
use Rattle.pfr_fuses.specs.Answer.{fuse_failure}
use Rattle.pfr_fuses.specs.Slots.{IsProvisionedBy, IsUnset, HasBlank, slot_at}
use Rattle.pfr_fuses.specs.FuseMap.{IsSigning, IsBit, IsCancelBit, IsFloor, profile_of, floor_at, floor_width, row_at, row_width}
use Rattle.pfr_fuses.specs.FusesState.{FusesState, floor_row, row_of, floor_in, floor_of}
use Rattle.pfr_fuses.specs.FusesOf.{Stands, FloorStands, RowStands, IsRefused, floor_fuses, row_fuses, fuses_with, fuses_of}
use Rattle.pfr_fuses.specs.declared.fuse_fail.FuseFail.{FuseFail}
use Rattle.pfr_fuses.specs.declared.fuse_fail.FuseFail.TheVariants.{NotProvisioned, SlotsSpent, Flash}
use Rattle.pfr_fuses.specs.declared.profile.Profile.{Profile}
use Rattle.pfr_fuses.specs.declared.profile.Profile.TheVariants.{One, Two}
use Rattle.pfr_fuses.proofs.FloorLemmas.{floor_in-above, floor_in-bit, IsCleared-continued, not_cleared}
use Rattle.pfr_fuses.proofs.BlankLemmas.{provisioned_slot-found, provisioned_slot-blank, provisioned_slot-spent, provisioned_or_unset, blank_or_spent}

-- ---- the profile
gate_is : (nv bytes : List ℕ) → bytes ≡ bytes_at nv 0xA00 1 → get_or bytes 0 0 ≡ get_or nv 0xA00 0
gate_is nv bytes h = ap (λ (xs : List ℕ). get_or xs 0 0) h ∙ get_or-bytes_at nv 0xA00 1 0 0 (omega arith)

pub profile_one : (nv bytes : List ℕ) → bytes ≡ bytes_at nv 0xA00 1 → get_or bytes 0 0 ≡ 255 → One ≡ profile_of nv
unfolding profile_of
profile_one nv bytes h gate = rw (eq-eqb (get_or nv 0xA00 0) 255 (sym (gate_is nv bytes h) ∙ gate)) refl

pub profile_two : (nv bytes : List ℕ) → bytes ≡ bytes_at nv 0xA00 1 → (get_or bytes 0 0 ≡ 255 → ⊥) → Two ≡ profile_of nv
unfolding profile_of
profile_two nv bytes h gate = rw (ne_eqb (get_or nv 0xA00 0) 255 (λ e. gate (gate_is nv bytes h ∙ e))) refl

-- ---- the kept rows
pub floor_fits : (profile : Profile) (bank : Bank) → floor_at profile bank + floor_width profile ≤ 32768
floor_fits One Bmc = omega arith
floor_fits One Pch = omega arith
floor_fits Two Bmc = omega arith
floor_fits Two Pch = omega arith

pub floor_narrow : (profile : Profile) → floor_width profile ≤ 16
floor_narrow One = omega arith
floor_narrow Two = omega arith

pub row_fits : (profile : Profile) (type : ContentType) → row_at profile type + row_width profile ≤ 32768
row_fits One PchManifest = omega arith
row_fits One PchCapsule = omega arith
row_fits One BmcManifest = omega arith
row_fits One BmcCapsule = omega arith
row_fits Two PchManifest = omega arith
row_fits Two PchCapsule = omega arith
row_fits Two BmcManifest = omega arith
row_fits Two BmcCapsule = omega arith
row_fits One type = omega arith
row_fits Two type = omega arith

pub row_narrow : (profile : Profile) → row_width profile ≤ 32
row_narrow One = omega arith
row_narrow Two = omega arith

kept_bit : (nv : List ℕ) (at width n k : ℕ) → at + width ≤ length nv → width ≤ n → k < 8 * n → (IsCleared (continued (bytes_at nv at width) n) k ↔ IsBit nv at width k)
kept_bit nv at width n k fits narrow below =
    let long : length (bytes_at nv at width) ≡ width = length-bytes_at nv at width fits in
    let both : (IsCleared (continued (bytes_at nv at width) n) k ↔ ((k < 8 * length (bytes_at nv at width)) × IsCleared (bytes_at nv at width) k)) = IsCleared-continued (bytes_at nv at width) n k (omega arith) below in
    (λ z. let p = both.0 z in record { within = omega (arith, p.0); cleared = p.1 }, λ (b : IsBit nv at width k). both.1 (omega (arith, b.within), b.cleared))

pub floor_stands : (nv : List ℕ) (fuses : FusesState) (bank : Bank) → length nv ≡ 32768 → floor_row fuses bank ≡ floor_fuses nv bank → FloorStands nv fuses bank
unfolding floor_fuses
floor_stands nv fuses bank size h =
    let fits : floor_at (profile_of nv) bank + floor_width (profile_of nv) ≤ length nv = omega (arith, floor_fits (profile_of nv) bank) in
    let narrow : floor_width (profile_of nv) ≤ 16 = floor_narrow (profile_of nv) in
    record { fuses_same = λ k below. rw h (kept_bit nv (floor_at (profile_of nv) bank) (floor_width (profile_of nv)) 16 k fits narrow below) }

-- the floor by the kept fuses is that of the store
pub kept_floor : (nv : List ℕ) (fuses : FusesState) (bank : Bank) → FloorStands nv fuses bank → IsFloor nv bank (floor_of fuses bank)
kept_floor nv fuses bank stands =
    let narrow : floor_width (profile_of nv) ≤ 16 = floor_narrow (profile_of nv) in
    record {
      above = λ k b. let below : k < 128 = omega (arith, b.within) in floor_in-above 128 (floor_row fuses bank) k below ((stands.fuses_same k below).1 b);
      highest = λ k e. let p = floor_in-bit 128 (floor_row fuses bank) k e in (stands.fuses_same k p.0).0 p.1;
    }

pub row_stands : (nv : List ℕ) (fuses : FusesState) (type : ContentType) → length nv ≡ 32768 → IsSigning type → row_of fuses type ≡ row_fuses nv type → RowStands nv fuses type
unfolding row_fuses
row_stands nv fuses type size signing h =
    let fits : row_at (profile_of nv) type + row_width (profile_of nv) ≤ length nv = omega (arith, row_fits (profile_of nv) type) in
    let same : (k : ℕ) → k < 256 → (IsCleared (row_of fuses type) k ↔ IsBit nv (row_at (profile_of nv) type) (row_width (profile_of nv)) k) =
    λ k below. rw h (kept_bit nv (row_at (profile_of nv) type) (row_width (profile_of nv)) 32 k fits (row_narrow (profile_of nv)) below) in
    record { fuses_same = λ k below. (λ z. record { signing = signing; bit = (same k below).0 z }, λ (b : IsCancelBit nv type k). (same k below).1 b.bit) }

-- a row without cancellations
pub no_row_stands : (nv : List ℕ) (fuses : FusesState) (type : ContentType) → ¬ IsSigning type → row_of fuses type ≡ replicate 32 255 → RowStands nv fuses type
no_row_stands nv fuses type other h =
    record { fuses_same = λ k below. (λ z. absurd (not_cleared 32 k below (subst (λ (row : List ℕ). IsCleared row k) h z)), λ (b : IsCancelBit nv type k). absurd (other b.signing)) }

pub same_floor : (nv slot : List ℕ) (bank : Bank) → floor_row (fuses_with nv slot) bank ≡ floor_fuses nv bank
same_floor nv slot Bmc = refl
same_floor nv slot Pch = refl

rows_stand : (nv slot : List ℕ) (type : ContentType) → length nv ≡ 32768 → RowStands nv (fuses_with nv slot) type
rows_stand nv slot PchManifest size = row_stands nv (fuses_with nv slot) PchManifest size tt refl
rows_stand nv slot PchCapsule size = row_stands nv (fuses_with nv slot) PchCapsule size tt refl
rows_stand nv slot BmcManifest size = row_stands nv (fuses_with nv slot) BmcManifest size tt refl
rows_stand nv slot BmcCapsule size = row_stands nv (fuses_with nv slot) BmcCapsule size tt refl
rows_stand nv slot type size = no_row_stands nv (fuses_with nv slot) type (λ h. h) refl

-- what the floor of a store is, provisioned or not
pub store_floor : (nv : List ℕ) (bank : Bank) → length nv ≡ 32768 → IsFloor nv bank (floor_in 128 (floor_fuses nv bank))
store_floor nv bank size =
    let fuses = fuses_with nv [] in
    subst (λ (row : List ℕ). IsFloor nv bank (floor_in 128 row)) (same_floor nv [] bank) (kept_floor nv fuses bank (floor_stands nv fuses bank size (same_floor nv [] bank)))

pub fuses_with-stands : (nv : List ℕ) (number : ℕ) → length nv ≡ 32768 → IsProvisionedBy nv number → Stands nv (fuses_with nv (slot_at nv number))
fuses_with-stands nv number size h = record {
  slot = number;
  provisioned = h;
  provision = refl;
  profile = refl;
  floors = λ bank. floor_stands nv (fuses_with nv (slot_at nv number)) bank size (same_floor nv (slot_at nv number) bank);
  rows = λ type. rows_stand nv (slot_at nv number) type size;
}

-- ---- the law: what is found, and which cause it is
pub fuses_of-found : (nv : List ℕ) (number : ℕ) → IsProvisionedBy nv number → fuses_of nv ≡ Ok (fuses_with nv (slot_at nv number))
unfolding fuses_of
fuses_of-found nv number h = rw (provisioned_slot-found nv number h) refl

pub fuses_of-blank : (nv : List ℕ) → IsUnset nv → HasBlank nv → fuses_of nv ≡ Err NotProvisioned
unfolding fuses_of
fuses_of-blank nv h blank = rw (provisioned_slot-blank nv h blank) refl

pub fuses_of-spent : (nv : List ℕ) → IsUnset nv → ¬ HasBlank nv → fuses_of nv ≡ Err SlotsSpent
unfolding fuses_of
fuses_of-spent nv h spent = rw (provisioned_slot-spent nv h spent) refl

pub fuses_of-ok : (nv : List ℕ) (fuses : FusesState) → fuses_of nv ≡ Ok fuses → (number : ℕ) × IsProvisionedBy nv number × (fuses ≡ fuses_with nv (slot_at nv number))
fuses_of-ok nv fuses h = by_slot (provisioned_or_unset nv) (blank_or_spent nv)
  where
    by_slot : (((number : ℕ) × IsProvisionedBy nv number) ⊎ IsUnset nv) → (HasBlank nv ⊎ (¬ HasBlank nv)) → (number : ℕ) × IsProvisionedBy nv number × (fuses ≡ fuses_with nv (slot_at nv number))
    by_slot (inl found) rest = let e = fuses_of-found nv found.0 found.1 in (found.0, found.1, cc)
    by_slot (inr unset) (inl blank) = let e = fuses_of-blank nv unset blank in cc
    by_slot (inr unset) (inr spent) = let e = fuses_of-spent nv unset spent in cc

pub fuses_of-stands : (nv : List ℕ) (fuses : FusesState) → length nv ≡ 32768 → fuses_of nv ≡ Ok fuses → Stands nv fuses
fuses_of-stands nv fuses size h =
    let found = fuses_of-ok nv fuses h in
    subst (λ (kept : FusesState). Stands nv kept) (sym found.2) (fuses_with-stands nv found.0 size found.1)

pub fuses_of-err : (nv : List ℕ) (cause : FuseFail) → fuses_of nv ≡ Err cause → IsUnset nv × (((cause ≡ NotProvisioned) × HasBlank nv) ⊎ ((cause ≡ SlotsSpent) × ¬ HasBlank nv))
fuses_of-err nv cause h = by_slot (provisioned_or_unset nv) (blank_or_spent nv)
  where
    by_slot : (((number : ℕ) × IsProvisionedBy nv number) ⊎ IsUnset nv) → (HasBlank nv ⊎ (¬ HasBlank nv)) → IsUnset nv × (((cause ≡ NotProvisioned) × HasBlank nv) ⊎ ((cause ≡ SlotsSpent) × ¬ HasBlank nv))
    by_slot (inl found) rest = let e = fuses_of-found nv found.0 found.1 in cc
    by_slot (inr unset) (inl blank) = let e = fuses_of-blank nv unset blank in (unset, inl (cc, blank))
    by_slot (inr unset) (inr spent) = let e = fuses_of-spent nv unset spent in (unset, inr (cc, spent))

-- ---- an answer that is exact
pub answer_ok : (nv : List ℕ) (answer : Result FusesState FuseFail) → length nv ≡ 32768 → Answers fuse_failure answer (fuses_of nv) → IfOk answer (Stands nv)
answer_ok nv (Ok fuses) size h = fuses_of-stands nv fuses size h
answer_ok nv (Err cause) size h = tt

refusal : (nv : List ℕ) (cause : FuseFail) → fuses_of nv ≡ Err cause → IsRefused nv cause
refusal nv cause h = by_kind (fuses_of-err nv cause h)
  where
    by_kind : IsUnset nv × (((cause ≡ NotProvisioned) × HasBlank nv) ⊎ ((cause ≡ SlotsSpent) × ¬ HasBlank nv)) → IsRefused nv cause
    by_kind (unset, inl blank) = subst (IsRefused nv) (sym blank.0) (unset, blank.1)
    by_kind (unset, inr spent) = subst (IsRefused nv) (sym spent.0) (unset, spent.1)

pub answer_err : (nv : List ℕ) (answer : Result FusesState FuseFail) → Answers fuse_failure answer (fuses_of nv) → IfErr answer (IsRefused nv)
answer_err nv (Ok fuses) h = tt
answer_err nv (Err (Flash f)) h = tt
answer_err nv (Err cause) h = refusal nv cause h
