-- What the store says once a floor or a row is changed.
use Rattle.std.proofs.Common.{◌≡◌, ◌≢◌, ℕ, ◌+◌, ◌*◌, ◌/◌, ◌≤◌, ◌<◌, List, [], ◌∷◌, length, length-set, get_or, set, bit_and, Ok, refl, sym, ap, ◌∙◌, subst, arith, ◌⊎◌, inl, inr}
use Rattle.std.proofs.lemmas.Bool.{cases_order}
use Rattle.std.proofs.lemmas.List.{ext_get_or, get_or-set_same, get_or-set_other}
use Rattle.pfr_flash.specs.Bytes.{bytes_at, written, continued}
use Rattle.pfr_flash.specs.FuseRow.{fuse_byte, with_cleared}
use Rattle.pfr_flash.specs.Operation.{Program, applied}
use Rattle.pfr_flash.specs.Range.{SameOutside}
use Rattle.pfr_flash.specs.declared.names.Bank.{Bank}
use Rattle.pfr_flash.specs.declared.names.Bank.TheVariants.{Bmc, Pch}
use Rattle.pfr_flash.specs.declared.names.ContentType.{ContentType}
use Rattle.pfr_flash.specs.declared.names.ContentType.TheVariants.{PchManifest, PchCapsule, BmcManifest, BmcCapsule}
use Rattle.pfr_flash.proofs.BytesLemmas.{length-bytes_at, length-written, get_or-bytes_at, get_or-written_below, get_or-written_inside, get_or-written_above, continued-whole}
use Rattle.pfr_flash.proofs.FuseLemmas.{applied-byte}
use Rattle.pfr_fuses.specs.Slots.{slot_at}
use Rattle.pfr_fuses.specs.FuseMap.{IsSigning, profile_of, floor_at, row_at}
use Rattle.pfr_fuses.specs.FusesState.{FusesState, floor_row, row_of}
use Rattle.pfr_fuses.specs.FusesOf.{floor_fuses, row_fuses, fuses_with, fuses_of}
use Rattle.pfr_fuses.specs.Changes.{SameProvision, with_floor, with_row}
use Rattle.pfr_fuses.specs.declared.profile.Profile.TheVariants.{Two}
use Rattle.pfr_fuses.proofs.GrowthLemmas.{IsProvisionedBy-same}
use Rattle.pfr_fuses.proofs.MigrationLemmas.{floor_fuses-two, row_fuses-two}
use Rattle.pfr_fuses.proofs.StandsLemmas.{same_floor, fuses_of-found, fuses_of-ok}
use Rattle.pfr_fuses.proofs.StaysLemmas.{AreOutside, row_behind_floors, floor_fuses-outside, row_fuses-outside}

-- ---- a fuse that is programmed
-- the row of the bytes at a place is the one with this fuse cleared
pub clearing-row : (image : List ℕ) (at width bit : ℕ) → bit < 8 * width → at + width ≤ length image
    → bytes_at (applied image (Program (at + bit / 8) (fuse_byte bit ∷ []))) at width ≡ with_cleared (bytes_at image at width) bit
unfolding with_cleared
clearing-row image at width bit inside fits =
    ap (λ (new : List ℕ). bytes_at new at width) (applied-byte image (at + bit / 8) (fuse_byte bit) (omega arith)) ∙ ext_get_or 0 (bytes_at new at width) (set row (bit / 8) there) same_length each
  where
    here : ℕ
    here = bit_and (get_or image (at + bit / 8) 0) (fuse_byte bit)

    row : List ℕ
    row = bytes_at image at width

    there : ℕ
    there = bit_and (get_or (bytes_at image at width) (bit / 8) 0) (fuse_byte bit)

    new : List ℕ
    new = written image (at + bit / 8) (here ∷ [])

    row_length : length row ≡ width
    row_length = length-bytes_at image at width fits

    new_length : length (bytes_at new at width) ≡ width
    new_length = length-bytes_at new at width (omega (arith, length-written image (at + bit / 8) (here ∷ [])))

    same_length : length (bytes_at new at width) ≡ length (set row (bit / 8) there)
    same_length = new_length ∙ sym (length-set row (bit / 8) there ∙ row_length)

    same_byte : here ≡ there
    same_byte = ap (λ (x : ℕ). bit_and x (fuse_byte bit)) (sym (get_or-bytes_at image at width (bit / 8) 0 (omega arith)))

    in_row : (i : ℕ) → i < width → i ≢ bit / 8 → get_or image (at + i) 0 ≡ get_or (set row (bit / 8) there) i 0
    in_row i below other = sym (get_or-set_other row (bit / 8) i there 0 other ∙ get_or-bytes_at image at width i 0 below)

    by_place : (i : ℕ) → i < width → ((i ≡ bit / 8) ⊎ (i < bit / 8) ⊎ (bit / 8 < i)) → get_or new (at + i) 0 ≡ get_or (set row (bit / 8) there) i 0
    by_place i below (inl same) =
        let place : at + bit / 8 + 0 ≡ at + i = omega arith in
        subst (λ (p : ℕ). get_or new p 0 ≡ here) place (get_or-written_inside image (at + bit / 8) (here ∷ []) 0 0 (omega arith) (omega arith))
        ∙ same_byte ∙ subst (λ (j : ℕ). there ≡ get_or (set row (bit / 8) there) j 0) (sym same) (sym (get_or-set_same row (bit / 8) there 0 (omega (arith, row_length))))
    by_place i below (inr (inl less)) = get_or-written_below image (at + bit / 8) (here ∷ []) (at + i) 0 (omega arith) ∙ in_row i below (λ (e : i ≡ bit / 8). omega (arith, e, less))
    by_place i below (inr (inr more)) = get_or-written_above image (at + bit / 8) (here ∷ []) (at + i) 0 (omega arith) ∙ in_row i below (λ (e : i ≡ bit / 8). omega (arith, e, more))

    each : (i : ℕ) → i < length (bytes_at new at width) → get_or (bytes_at new at width) i 0 ≡ get_or (set row (bit / 8) there) i 0
    each i below =
        let within : i < width = omega (arith, below, new_length) in
        get_or-bytes_at new at width i 0 within ∙ by_place i within (cases_order i (bit / 8))

-- ---- but for a floor
-- of a store of profile 2 these bytes changed
pub record ChangedAt (from len : ℕ) (old new : List ℕ) : Type 0 where
  pub size : length old ≡ 32768
  pub same_size : length new ≡ length old
  pub two : profile_of old ≡ Two
  pub outside : SameOutside from len old new
  pub store : SameProvision old new

floor_same : {from len : ℕ} {old new : List ℕ} (bank : Bank) → ChangedAt from len old new → AreOutside from len (floor_at Two bank) 16 → floor_fuses new bank ≡ floor_fuses old bank
floor_same {from} {len} {old} {new} bank h apart = floor_fuses-outside from len old new bank h.size h.same_size h.store.profile (rw h.two apart) h.outside

row_same : {from len : ℕ} {old new : List ℕ} (type : ContentType) → ChangedAt from len old new → AreOutside from len (row_at Two type) 32 → row_fuses new type ≡ row_fuses old type
row_same {from} {len} {old} {new} type h apart = row_fuses-outside from len old new type h.size h.same_size h.store.profile (rw h.two apart) h.outside

row_behind : {old new : List ℕ} (bank : Bank) (type : ContentType) → ChangedAt (floor_at Two bank) 16 old new → IsSigning type → row_fuses new type ≡ row_fuses old type
row_behind bank type h signing = row_same type h (inr (row_behind_floors bank type signing))

but_floor : (bank : Bank) (old new : List ℕ) (number : ℕ) → ChangedAt (floor_at Two bank) 16 old new → number < 8
    → fuses_with new (slot_at new number) ≡ with_floor (fuses_with old (slot_at old number)) bank (floor_fuses new bank)
but_floor Bmc old new number h below = rw (h.store.slots number below, h.store.profile, floor_same Pch h (inr (omega arith)), row_behind Bmc PchManifest h tt, row_behind Bmc PchCapsule h tt, row_behind Bmc BmcManifest h tt, row_behind Bmc BmcCapsule h tt) refl
but_floor Pch old new number h below = rw (h.store.slots number below, h.store.profile, floor_same Bmc h (inl (omega arith)), row_behind Pch PchManifest h tt, row_behind Pch PchCapsule h tt, row_behind Pch BmcManifest h tt, row_behind Pch BmcCapsule h tt) refl

-- what the store says, but for a bank's floor
pub fuses_of-but_floor : (bank : Bank) (old new : List ℕ) (fuses : FusesState) → ChangedAt (floor_at Two bank) 16 old new → fuses_of old ≡ Ok fuses
    → fuses_of new ≡ Ok (with_floor fuses bank (floor_fuses new bank))
fuses_of-but_floor bank old new fuses h was =
    let found = fuses_of-ok old fuses was in
    fuses_of-found new found.0 (IsProvisionedBy-same old new found.0 h.store.slots found.1)
    ∙ ap (λ (kept : FusesState). Ok kept) (but_floor bank old new found.0 h found.1.within ∙ ap (λ (kept : FusesState). with_floor kept bank (floor_fuses new bank)) (sym found.2))

-- the kept floor is the store's
pub floor_kept : (nv : List ℕ) (fuses : FusesState) (bank : Bank) → fuses_of nv ≡ Ok fuses → floor_row fuses bank ≡ floor_fuses nv bank
floor_kept nv fuses bank was =
    let found = fuses_of-ok nv fuses was in ap (λ (kept : FusesState). floor_row kept bank) found.2 ∙ same_floor nv (slot_at nv found.0) bank

-- the fuses with one that is programmed
kept-cleared : (at width bit : ℕ) (old new : List ℕ) → ChangedAt at width old new → bit < 8 * width → new ≡ applied old (Program (at + bit / 8) (fuse_byte bit ∷ [])) → at + width ≤ 32768
    → continued (bytes_at new at width) width ≡ with_cleared (continued (bytes_at old at width) width) bit
kept-cleared at width bit old new h below is fits =
    continued-whole (bytes_at new at width) width (length-bytes_at new at width (omega (arith, h.size, h.same_size, fits)))
    ∙ ap (λ (image : List ℕ). bytes_at image at width) is
    ∙ clearing-row old at width bit below (omega (arith, h.size, fits))
    ∙ ap (λ (row : List ℕ). with_cleared row bit) (sym (continued-whole (bytes_at old at width) width (length-bytes_at old at width (omega (arith, h.size, fits)))))

pub floor-cleared : (bank : Bank) (old new : List ℕ) (bit : ℕ) → ChangedAt (floor_at Two bank) 16 old new → bit < 128 → new ≡ applied old (Program (floor_at Two bank + bit / 8) (fuse_byte bit ∷ []))
    → floor_at Two bank + 16 ≤ 32768 → floor_fuses new bank ≡ with_cleared (floor_fuses old bank) bit
floor-cleared bank old new bit h below is fits =
    floor_fuses-two new bank (h.store.profile ∙ h.two) ∙ kept-cleared (floor_at Two bank) 16 bit old new h (omega arith) is fits ∙ ap (λ (row : List ℕ). with_cleared row bit) (sym (floor_fuses-two old bank h.two))

-- ---- but for a row
abbrev IsButRow : ContentType → List ℕ → List ℕ → ℕ → Type 0
IsButRow type old new number = fuses_with new (slot_at new number) ≡ with_row (fuses_with old (slot_at old number)) type (row_fuses new type)

floor_before : {old new : List ℕ} (bank : Bank) (type : ContentType) → ChangedAt (row_at Two type) 32 old new → IsSigning type → floor_fuses new bank ≡ floor_fuses old bank
floor_before bank type h signing = floor_same bank h (inl (row_behind_floors bank type signing))

but_row : (type : ContentType) (old new : List ℕ) (number : ℕ) → IsSigning type → ChangedAt (row_at Two type) 32 old new → number < 8 → IsButRow type old new number
but_row PchManifest old new number s h below =
    rw (h.store.slots number below, h.store.profile, floor_before Bmc PchManifest h s, floor_before Pch PchManifest h s, row_same PchCapsule h (inr (omega arith)), row_same BmcManifest h (inr (omega arith)), row_same BmcCapsule h (inr (omega arith))) refl
but_row PchCapsule old new number s h below =
    rw (h.store.slots number below, h.store.profile, floor_before Bmc PchCapsule h s, floor_before Pch PchCapsule h s, row_same PchManifest h (inl (omega arith)), row_same BmcManifest h (inr (omega arith)), row_same BmcCapsule h (inr (omega arith))) refl
but_row BmcManifest old new number s h below =
    rw (h.store.slots number below, h.store.profile, floor_before Bmc BmcManifest h s, floor_before Pch BmcManifest h s, row_same PchManifest h (inl (omega arith)), row_same PchCapsule h (inl (omega arith)), row_same BmcCapsule h (inr (omega arith))) refl
but_row BmcCapsule old new number s h below =
    rw (h.store.slots number below, h.store.profile, floor_before Bmc BmcCapsule h s, floor_before Pch BmcCapsule h s, row_same PchManifest h (inl (omega arith)), row_same PchCapsule h (inl (omega arith)), row_same BmcManifest h (inl (omega arith))) refl
but_row type old new number s h below = absurd s

-- what the store says, but for the cancelled keys of a type
pub fuses_of-but_row : (type : ContentType) (old new : List ℕ) (fuses : FusesState) → IsSigning type → ChangedAt (row_at Two type) 32 old new → fuses_of old ≡ Ok fuses
    → fuses_of new ≡ Ok (with_row fuses type (row_fuses new type))
fuses_of-but_row type old new fuses signing h was =
    let found = fuses_of-ok old fuses was in
    fuses_of-found new found.0 (IsProvisionedBy-same old new found.0 h.store.slots found.1)
    ∙ ap (λ (kept : FusesState). Ok kept) (but_row type old new found.0 signing h found.1.within ∙ ap (λ (kept : FusesState). with_row kept type (row_fuses new type)) (sym found.2))

same_row : (nv slot : List ℕ) (type : ContentType) → IsSigning type → row_of (fuses_with nv slot) type ≡ row_fuses nv type
same_row nv slot PchManifest s = refl
same_row nv slot PchCapsule s = refl
same_row nv slot BmcManifest s = refl
same_row nv slot BmcCapsule s = refl
same_row nv slot type s = absurd s

pub row_kept : (nv : List ℕ) (fuses : FusesState) (type : ContentType) → IsSigning type → fuses_of nv ≡ Ok fuses → row_of fuses type ≡ row_fuses nv type
row_kept nv fuses type signing was =
    let found = fuses_of-ok nv fuses was in ap (λ (kept : FusesState). row_of kept type) found.2 ∙ same_row nv (slot_at nv found.0) type signing

-- the row with a key that is cancelled
pub row-cleared : (type : ContentType) (old new : List ℕ) (bit : ℕ) → ChangedAt (row_at Two type) 32 old new → bit < 256 → new ≡ applied old (Program (row_at Two type + bit / 8) (fuse_byte bit ∷ []))
    → row_at Two type + 32 ≤ 32768 → row_fuses new type ≡ with_cleared (row_fuses old type) bit
row-cleared type old new bit h below is fits =
    row_fuses-two new type (h.store.profile ∙ h.two) ∙ kept-cleared (row_at Two type) 32 bit old new h (omega arith) is fits ∙ ap (λ (row : List ℕ). with_cleared row bit) (sym (row_fuses-two old type h.two))
