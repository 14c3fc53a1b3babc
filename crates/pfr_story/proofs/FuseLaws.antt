-- What is used of the fuses' own laws.
use Rattle.std.proofs.Common.{◌≡◌, ◌∙◌, refl, sym, ap, subst, ℕ, ◌<◌, arith, List, [], ◌∷◌, length, get_or, Ok, Err}
use Rattle.std.specs.Prelude.{bit_and}
use Rattle.std.specs.Int.Bits.{and_zero_r}
use Rattle.pfr_flash.specs.Bytes.{AreBytes, bytes_at, continued}
use Rattle.pfr_flash.specs.Operation.{Operation, Erase, Program, applied, play}
use Rattle.pfr_flash.specs.Plan.{IsPart}
use Rattle.pfr_flash.proofs.AreBytesLemmas.{AreBytes-append, AreBytes-bytes_at, AreBytes-continued}
use Rattle.pfr_flash.proofs.BytesLemmas.{get_or-bytes_at, get_or-written_inside, length-continued}
use Rattle.pfr_flash.proofs.PlayLemmas.{length-play}
use Rattle.pfr_flash.proofs.FuseLemmas.{applied-byte}
use Rattle.pfr_fuses.specs.Changes.{migration, migrated, AreRows}
use Rattle.pfr_fuses.specs.FuseMap.{profile_of}
use Rattle.pfr_fuses.specs.FusesState.{FusesState}
use Rattle.pfr_fuses.specs.FusesOf.{fuses_of, floor_fuses, row_fuses, fuses_with}
use Rattle.pfr_fuses.specs.Provisioning.{judge_provision}
use Rattle.pfr_fuses.specs.declared.fuse_fail.FuseFail.TheVariants.{AlreadyProvisioned}
use Rattle.pfr_fuses.specs.declared.profile.Profile.TheVariants.{One, Two}
use Rattle.pfr_fuses.specs.declared.root_slot.RootSlot.{RootSlot}
use Rattle.pfr_fuses.specs.Slots.{slot_at}
use Rattle.pfr_fuses.proofs.MigrationLemmas.{Holds, migration-part, first_holds}
use Rattle.pfr_fuses.proofs.StandsLemmas.{fuses_of-ok, fuses_of-stands, profile_two}
use Rattle.pfr_fuses.proofs.BlankLemmas.{judged-provisioned}

-- ---- the profile
gate_zero : (image : List ℕ) → 0xA00 < length image → get_or (applied image (Program 0xA00 (0 ∷ []))) 0xA00 0 ≡ 0
gate_zero image within =
    ap (λ (after : List ℕ). get_or after 0xA00 0) (applied-byte image 0xA00 0 within)
    ∙ get_or-written_inside image 0xA00 (bit_and (get_or image 0xA00 0) 0 ∷ []) 0 0 (omega arith) (omega arith)
    ∙ and_zero_r (get_or image 0xA00 0)

gate_two : (image : List ℕ) → get_or image 0xA00 0 ≡ 0 → profile_of image ≡ Two
gate_two image e = sym (profile_two image (bytes_at image 0xA00 1) refl (λ blank.
    let same = get_or-bytes_at image 0xA00 1 0 0 (omega arith) in absurd (omega (arith, e, blank, same))))

-- a migration leaves profile 2
pub profile_migrated : (nv : List ℕ) (fuses : FusesState) → length nv ≡ 32768 → profile_of (play nv (migration fuses)) ≡ Two
profile_migrated nv fuses size =
    let image = applied (applied nv (Erase 7)) (Program 0x7000 (migrated fuses)) in
    let same : length image ≡ length nv = length-play nv (Erase 7 ∷ Program 0x7000 (migrated fuses) ∷ []) in
    gate_two (applied image (Program 0xA00 (0 ∷ []))) (gate_zero image (omega (arith, same, size)))

-- the profile of the fuses is the store's
pub profile_kept : (nv : List ℕ) (fuses : FusesState) → fuses_of nv ≡ Ok fuses → fuses.profile ≡ profile_of nv
profile_kept nv fuses f = ap (λ (x : FusesState). x.profile) (fuses_of-ok nv fuses f).2

-- a store that is provisioned is never provisioned again
pub provisioned_refused : (nv : List ℕ) (root : RootSlot) (bmc_size pch_size : ℕ) (fuses : FusesState) → fuses_of nv ≡ Ok fuses
    → judge_provision nv root bmc_size pch_size ≡ Err AlreadyProvisioned
provisioned_refused nv root bmc_size pch_size fuses f =
    let found = fuses_of-ok nv fuses f in judged-provisioned nv root bmc_size pch_size found.0 found.1

-- the fuses of a store are rows
rows_with : (nv slot : List ℕ) → AreRows (fuses_with nv slot)
unfolding floor_fuses row_fuses
rows_with nv slot = record {
  bmc_floor = length-continued _ 16;
  pch_floor = length-continued _ 16;
  pch_manifest = length-continued _ 32;
  pch_capsule = length-continued _ 32;
  bmc_manifest = length-continued _ 32;
  bmc_capsule = length-continued _ 32;
}

pub rows_kept : (nv : List ℕ) (fuses : FusesState) → fuses_of nv ≡ Ok fuses → AreRows fuses
rows_kept nv fuses f = let found = fuses_of-ok nv fuses f in subst AreRows (sym found.2) (rows_with nv _)

-- and bytes, where the store holds bytes
bytes_row : (nv : List ℕ) (at count n : ℕ) → AreBytes nv → AreBytes (continued (bytes_at nv at count) n)
bytes_row nv at count n p = AreBytes-continued (bytes_at nv at count) n (AreBytes-bytes_at nv at count p)

bytes_with : (nv slot : List ℕ) → AreBytes nv → AreBytes (migrated (fuses_with nv slot))
unfolding floor_fuses row_fuses
bytes_with nv slot p =
    AreBytes-append _ _ (bytes_row nv _ _ 16 p) (AreBytes-append _ _ (bytes_row nv _ _ 16 p) (AreBytes-append _ _ (bytes_row nv _ _ 32 p)
    (AreBytes-append _ _ (bytes_row nv _ _ 32 p) (AreBytes-append _ _ (bytes_row nv _ _ 32 p) (bytes_row nv _ _ 32 p)))))

bytes_kept : (nv : List ℕ) (fuses : FusesState) → fuses_of nv ≡ Ok fuses → AreBytes nv → AreBytes (migrated fuses)
bytes_kept nv fuses f p = let found = fuses_of-ok nv fuses f in subst (λ (x : FusesState). AreBytes (migrated x)) (sym found.2) (bytes_with nv (slot_at nv found.0) p)

-- Whatever is done of a migration, the store holds what these fuses say.
pub part_holds : (nv : List ℕ) (fuses : FusesState) (added : List Operation) → length nv ≡ 32768 → AreBytes nv → fuses_of nv ≡ Ok fuses → fuses.profile ≡ One → IsPart nv (migration fuses) added
    → Holds nv fuses (play nv added)
part_holds nv fuses added size bytes f one part =
    let are = bytes_kept nv fuses f bytes in
    migration-part nv fuses size (sym (profile_kept nv fuses f) ∙ one) (rows_kept nv fuses f) (λ i below. are i) (first_holds nv fuses (fuses_of-stands nv fuses size f)) added part
