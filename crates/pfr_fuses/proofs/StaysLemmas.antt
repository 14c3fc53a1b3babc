-- What stands for a store stands for one that is changed elsewhere.
use Rattle.std.proofs.Common.{◌≡◌, ℕ, ◌+◌, ◌≤◌, List, length, refl, sym, ap, ◌∙◌, subst, arith, ◌⊎◌, inl, inr, zero, suc, ◌*◌, ◌∷◌}
use Rattle.std.specs.Prelude.{◌↔◌, ◌≢◌}
use Rattle.pfr_flash.specs.Bytes.{bytes_at, continued}
use Rattle.pfr_flash.specs.FuseRow.{IsCleared}
use Rattle.pfr_flash.specs.Range.{SameOutside}
use Rattle.pfr_flash.specs.declared.names.Bank.{Bank}
use Rattle.pfr_flash.specs.declared.names.Bank.TheVariants.{Bmc, Pch}
use Rattle.pfr_flash.specs.declared.names.ContentType.{ContentType}
use Rattle.pfr_flash.specs.declared.names.ContentType.TheVariants.{PchManifest, PchCapsule, BmcManifest, BmcCapsule}
use Rattle.pfr_flash.proofs.RangeLemmas.{bytes_at-outside}
use Rattle.pfr_fuses.specs.FuseMap.{IsSigning, IsBit, IsFloorBit, IsCancelBit, profile_of, floor_at, floor_width, row_at, row_width}
use Rattle.pfr_fuses.specs.FusesState.{FusesState, floor_row, row_of}
use Rattle.pfr_fuses.specs.FusesOf.{FloorStands, RowStands, floor_fuses, row_fuses, fuses_of}
use Rattle.pfr_fuses.specs.declared.profile.Profile.{Profile}
use Rattle.pfr_fuses.specs.declared.profile.Profile.TheVariants.{Two, One}
use Rattle.pfr_fuses.specs.Slots.{slot_at, slots_from, choose_slot, provisioned_slot}
use Rattle.pfr_fuses.proofs.StandsLemmas.{floor_fits, row_fits}
use Rattle.pfr_fuses.proofs.GrowthLemmas.{profile-outside}

-- so many bytes at a place lie outside of others
abbrev pub AreOutside : ℕ → ℕ → ℕ → ℕ → Type 0
AreOutside from len at count = (at + count ≤ from) ⊎ (from + len ≤ at)

-- ---- the kept rows, one by one
pub floors_by : (old new : FusesState) → new.bmc_floor ≡ old.bmc_floor → new.pch_floor ≡ old.pch_floor → (bank : Bank) → floor_row new bank ≡ floor_row old bank
floors_by old new bmc pch Bmc = bmc
floors_by old new bmc pch Pch = pch

pub rows_by : (old new : FusesState) → new.pch_manifest ≡ old.pch_manifest → new.pch_capsule ≡ old.pch_capsule → new.bmc_manifest ≡ old.bmc_manifest → new.bmc_capsule ≡ old.bmc_capsule
    → (type : ContentType) → row_of new type ≡ row_of old type
rows_by old new a b c d PchManifest = a
rows_by old new a b c d PchCapsule = b
rows_by old new a b c d BmcManifest = c
rows_by old new a b c d BmcCapsule = d
rows_by old new a b c d type = refl

-- ---- bits
abbrev SameBit : List ℕ → List ℕ → ℕ → ℕ → ℕ → Type 0
SameBit old new at width k = IsBit new at width k ↔ IsBit old at width k

same_bit : (old new : List ℕ) (at width k : ℕ) → bytes_at new at width ≡ bytes_at old at width → SameBit old new at width k
same_bit old new at width k e = (
  λ (b : IsBit new at width k). record { within = b.within; cleared = subst (λ (row : List ℕ). IsCleared row k) e b.cleared },
  λ (b : IsBit old at width k). record { within = b.within; cleared = subst (λ (row : List ℕ). IsCleared row k) (sym e) b.cleared },
)

-- the bits of a bank's floor are those of the bytes where it lies
pub floor_bits-same : (old new : List ℕ) (bank : Bank) → profile_of new ≡ profile_of old
    → bytes_at new (floor_at (profile_of old) bank) (floor_width (profile_of old)) ≡ bytes_at old (floor_at (profile_of old) bank) (floor_width (profile_of old))
    → (k : ℕ) → (IsFloorBit new bank k ↔ IsFloorBit old bank k)
floor_bits-same old new bank same e k =
    subst (λ (p : Profile). (IsBit new (floor_at p bank) (floor_width p) k ↔ IsFloorBit old bank k)) (sym same)
    (same_bit old new (floor_at (profile_of old) bank) (floor_width (profile_of old)) k e)

pub row_bits-same : (old new : List ℕ) (type : ContentType) → profile_of new ≡ profile_of old
    → (IsSigning type → bytes_at new (row_at (profile_of old) type) (row_width (profile_of old)) ≡ bytes_at old (row_at (profile_of old) type) (row_width (profile_of old)))
    → (k : ℕ) → (IsCancelBit new type k ↔ IsCancelBit old type k)
row_bits-same old new type same e k = (
  λ (c : IsCancelBit new type k). record {
    signing = c.signing;
    bit = (same_bit old new (row_at (profile_of old) type) (row_width (profile_of old)) k (e c.signing)).0 (subst (λ (p : Profile). IsBit new (row_at p type) (row_width p) k) same c.bit);
  },
  λ (c : IsCancelBit old type k). record {
    signing = c.signing;
    bit = subst (λ (p : Profile). IsBit new (row_at p type) (row_width p) k) (sym same) ((same_bit old new (row_at (profile_of old) type) (row_width (profile_of old)) k (e c.signing)).1 c.bit);
  },
)

pub floor_bits-outside : (from len : ℕ) (old new : List ℕ) (bank : Bank) → length old ≡ 32768 → length new ≡ length old → profile_of new ≡ profile_of old
    → AreOutside from len (floor_at (profile_of old) bank) (floor_width (profile_of old)) → SameOutside from len old new
    → (k : ℕ) → (IsFloorBit new bank k ↔ IsFloorBit old bank k)
floor_bits-outside from len old new bank whole size same apart outside =
    floor_bits-same old new bank same (bytes_at-outside from len old new (floor_at (profile_of old) bank) (floor_width (profile_of old)) outside size apart (omega (arith, floor_fits (profile_of old) bank)))

pub row_bits-outside : (from len : ℕ) (old new : List ℕ) (type : ContentType) → length old ≡ 32768 → length new ≡ length old → profile_of new ≡ profile_of old
    → (IsSigning type → AreOutside from len (row_at (profile_of old) type) (row_width (profile_of old))) → SameOutside from len old new
    → (k : ℕ) → (IsCancelBit new type k ↔ IsCancelBit old type k)
row_bits-outside from len old new type whole size same apart outside =
    row_bits-same old new type same (λ signing. bytes_at-outside from len old new (row_at (profile_of old) type) (row_width (profile_of old)) outside size (apart signing) (omega (arith, row_fits (profile_of old) type)))

-- ---- the fuses of a store that changed elsewhere
pub floor_fuses-outside : (from len : ℕ) (old new : List ℕ) (bank : Bank) → length old ≡ 32768 → length new ≡ length old → profile_of new ≡ profile_of old
    → AreOutside from len (floor_at (profile_of old) bank) (floor_width (profile_of old)) → SameOutside from len old new → floor_fuses new bank ≡ floor_fuses old bank
unfolding floor_fuses
floor_fuses-outside from len old new bank whole size same apart outside =
    ap (λ (p : Profile). continued (bytes_at new (floor_at p bank) (floor_width p)) 16) same
    ∙ ap (λ (row : List ℕ). continued row 16) (bytes_at-outside from len old new (floor_at (profile_of old) bank) (floor_width (profile_of old)) outside size apart (omega (arith, whole, floor_fits (profile_of old) bank)))

pub row_fuses-outside : (from len : ℕ) (old new : List ℕ) (type : ContentType) → length old ≡ 32768 → length new ≡ length old → profile_of new ≡ profile_of old
    → AreOutside from len (row_at (profile_of old) type) (row_width (profile_of old)) → SameOutside from len old new → row_fuses new type ≡ row_fuses old type
unfolding row_fuses
row_fuses-outside from len old new type whole size same apart outside =
    ap (λ (p : Profile). continued (bytes_at new (row_at p type) (row_width p)) 32) same
    ∙ ap (λ (row : List ℕ). continued row 32) (bytes_at-outside from len old new (row_at (profile_of old) type) (row_width (profile_of old)) outside size apart (omega (arith, whole, row_fits (profile_of old) type)))

-- ---- what stands
pub FloorStands-same : (old new : List ℕ) (fuses after : FusesState) (bank : Bank) → floor_row after bank ≡ floor_row fuses bank
    → ((k : ℕ) → (IsFloorBit new bank k ↔ IsFloorBit old bank k)) → FloorStands old fuses bank → FloorStands new after bank
FloorStands-same old new fuses after bank row same h = record {
  fuses_same = λ k below. (
    λ z. (same k).1 ((h.fuses_same k below).0 (subst (λ (r : List ℕ). IsCleared r k) row z)),
    λ (b : IsFloorBit new bank k). subst (λ (r : List ℕ). IsCleared r k) (sym row) ((h.fuses_same k below).1 ((same k).0 b)),
  );
}

pub RowStands-same : (old new : List ℕ) (fuses after : FusesState) (type : ContentType) → row_of after type ≡ row_of fuses type
    → ((k : ℕ) → (IsCancelBit new type k ↔ IsCancelBit old type k)) → RowStands old fuses type → RowStands new after type
RowStands-same old new fuses after type row same h = record {
  fuses_same = λ k below. (
    λ z. (same k).1 ((h.fuses_same k below).0 (subst (λ (r : List ℕ). IsCleared r k) row z)),
    λ (b : IsCancelBit new type k). subst (λ (r : List ℕ). IsCleared r k) (sym row) ((h.fuses_same k below).1 ((same k).0 b)),
  );
}

-- ---- where the rows of profile 2 lie
pub floors_apart : (bank other : Bank) → other ≢ bank → AreOutside (floor_at Two bank) 16 (floor_at Two other) 16
floors_apart Bmc Bmc h = absurd (h refl)
floors_apart Bmc Pch h = inr (omega arith)
floors_apart Pch Bmc h = inl (omega arith)
floors_apart Pch Pch h = absurd (h refl)

pub rows_apart : (type other : ContentType) → IsSigning type → IsSigning other → other ≢ type → AreOutside (row_at Two type) 32 (row_at Two other) 32
rows_apart PchManifest PchManifest s t h = absurd (h refl)
rows_apart PchManifest PchCapsule s t h = inr (omega arith)
rows_apart PchManifest BmcManifest s t h = inr (omega arith)
rows_apart PchManifest BmcCapsule s t h = inr (omega arith)
rows_apart PchManifest other s t h = absurd t
rows_apart PchCapsule PchManifest s t h = inl (omega arith)
rows_apart PchCapsule PchCapsule s t h = absurd (h refl)
rows_apart PchCapsule BmcManifest s t h = inr (omega arith)
rows_apart PchCapsule BmcCapsule s t h = inr (omega arith)
rows_apart PchCapsule other s t h = absurd t
rows_apart BmcManifest PchManifest s t h = inl (omega arith)
rows_apart BmcManifest PchCapsule s t h = inl (omega arith)
rows_apart BmcManifest BmcManifest s t h = absurd (h refl)
rows_apart BmcManifest BmcCapsule s t h = inr (omega arith)
rows_apart BmcManifest other s t h = absurd t
rows_apart BmcCapsule PchManifest s t h = inl (omega arith)
rows_apart BmcCapsule PchCapsule s t h = inl (omega arith)
rows_apart BmcCapsule BmcManifest s t h = inl (omega arith)
rows_apart BmcCapsule BmcCapsule s t h = absurd (h refl)
rows_apart BmcCapsule other s t h = absurd t
rows_apart type other s t h = absurd s

pub row_in_sector : (type : ContentType) → IsSigning type → (0x7020 ≤ row_at Two type) × (row_at Two type + 32 ≤ 0x70A0)
row_in_sector PchManifest h = (omega arith, omega arith)
row_in_sector PchCapsule h = (omega arith, omega arith)
row_in_sector BmcManifest h = (omega arith, omega arith)
row_in_sector BmcCapsule h = (omega arith, omega arith)
row_in_sector type h = absurd h

pub floor_in_sector : (bank : Bank) → (0x7000 ≤ floor_at Two bank) × (floor_at Two bank + 16 ≤ 0x7020)
floor_in_sector Bmc = (omega arith, omega arith)
floor_in_sector Pch = (omega arith, omega arith)

pub row_behind_floors : (bank : Bank) (type : ContentType) → IsSigning type → floor_at Two bank + 16 ≤ row_at Two type
row_behind_floors bank type h = omega (arith, (floor_in_sector bank).1, (row_in_sector type h).0)

-- ---- where only bytes between sector 0 and sector 7 change
pub record SameFuses (old new : List ℕ) : Type 0 where
  pub outside : SameOutside 4096 24576 old new
  pub size : length new ≡ length old
  pub whole : length old ≡ 32768

slots_same : (old new : List ℕ) (number count : ℕ) → SameFuses old new → number + count ≤ 8 → slots_from new number count ≡ slots_from old number count
slots_same old new number zero h fits = refl
slots_same old new number (suc count) h fits =
    let head : slot_at new number ≡ slot_at old number = bytes_at-outside 4096 24576 old new (256 * number) 256 h.outside h.size (inl (omega arith)) (omega (arith, h.whole)) in
    let rest : slots_from new (number + 1) count ≡ slots_from old (number + 1) count = slots_same old new (number + 1) count h (omega arith) in
    ap (λ (slot : List ℕ). slot ∷ slots_from new (number + 1) count) head ∙ ap (λ (slots : List (List ℕ)). slot_at old number ∷ slots) rest

provisioned_slot-same : (old new : List ℕ) → SameFuses old new → provisioned_slot new ≡ provisioned_slot old
unfolding provisioned_slot
provisioned_slot-same old new h = ap choose_slot (slots_same old new 0 8 h (omega arith))

profile_of-same : (old new : List ℕ) → SameFuses old new → profile_of new ≡ profile_of old
profile_of-same old new h = profile-outside 4096 24576 old new (inl (omega arith)) h.outside

floor_apart : (profile : Profile) (bank : Bank) → (floor_at profile bank + floor_width profile ≤ 4096) ⊎ (4096 + 24576 ≤ floor_at profile bank)
floor_apart One Bmc = inl (omega arith)
floor_apart One Pch = inl (omega arith)
floor_apart Two Bmc = inr (omega arith)
floor_apart Two Pch = inr (omega arith)

row_apart : (profile : Profile) (type : ContentType) → (row_at profile type + row_width profile ≤ 4096) ⊎ (4096 + 24576 ≤ row_at profile type)
row_apart One PchManifest = inl (omega arith)
row_apart One PchCapsule = inl (omega arith)
row_apart One BmcManifest = inl (omega arith)
row_apart One BmcCapsule = inl (omega arith)
row_apart Two PchManifest = inr (omega arith)
row_apart Two PchCapsule = inr (omega arith)
row_apart Two BmcManifest = inr (omega arith)
row_apart Two BmcCapsule = inr (omega arith)
row_apart One type = inl (omega arith)
row_apart Two type = inl (omega arith)

floor_fuses-same : (old new : List ℕ) (bank : Bank) → SameFuses old new → floor_fuses new bank ≡ floor_fuses old bank
floor_fuses-same old new bank h = floor_fuses-outside 4096 24576 old new bank h.whole h.size (profile_of-same old new h) (floor_apart (profile_of old) bank) h.outside

row_fuses-same : (old new : List ℕ) (type : ContentType) → SameFuses old new → row_fuses new type ≡ row_fuses old type
row_fuses-same old new type h = row_fuses-outside 4096 24576 old new type h.whole h.size (profile_of-same old new h) (row_apart (profile_of old) type) h.outside

-- what the store says stays
pub fuses_of-same : (old new : List ℕ) → SameFuses old new → fuses_of new ≡ fuses_of old
unfolding fuses_of
fuses_of-same old new h =
    rw (
      provisioned_slot-same old new h,
      profile_of-same old new h,
      floor_fuses-same old new Bmc h,
      floor_fuses-same old new Pch h,
      row_fuses-same old new PchManifest h,
      row_fuses-same old new PchCapsule h,
      row_fuses-same old new BmcManifest h,
      row_fuses-same old new BmcCapsule h,
    ) refl
