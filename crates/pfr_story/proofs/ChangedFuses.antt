-- What the store says once a floor was raised or a key cancelled, and that it stays so where no fuse is taken back.
use Rattle.std.proofs.Common.{◌≡◌, ◌∙◌, refl, sym, subst, arith, ℕ, zero, suc, ◌+◌, ◌-◌, ◌≤◌, ◌<◌, List, [], length, ◌⊎◌, inl, inr, Ok}
use Rattle.pfr_flash.specs.FuseRow.{IsCleared, with_cleared}
use Rattle.pfr_flash.specs.declared.names.Bank.{Bank}
use Rattle.pfr_flash.specs.declared.names.Bank.TheVariants as bank
use Rattle.pfr_flash.specs.declared.names.ContentType.{ContentType}
use Rattle.pfr_flash.specs.declared.names.ContentType.TheVariants.{PchManifest, PchCapsule, BmcManifest, BmcCapsule}
use Rattle.pfr_flash.proofs.FuseLemmas.{IsCleared-with_cleared}
use Rattle.pfr_fuses.specs.Changes.{AreRows, raised, with_floor, with_row, with_cancelled}
use Rattle.pfr_fuses.specs.FuseMap.{IsFloor, IsFloorBit, IsSigning, IsCancelled}
use Rattle.pfr_fuses.specs.FusesOf.{fuses_of, fuses_with}
use Rattle.pfr_fuses.specs.FusesState.{FusesState, floor_in, floor_of, floor_row, row_of}
use Rattle.pfr_fuses.specs.Growth.{Grows}
use Rattle.pfr_fuses.proofs.ClearingLemmas.{raised_cases}
use Rattle.pfr_fuses.proofs.FloorLemmas.{floor_in-above, floor_in-bit}
use Rattle.pfr_fuses.proofs.StandsLemmas.{floor_stands, kept_floor, same_floor, fuses_of-stands}
use Rattle.pfr_story.specs.JobPromises.{HasFloor}

-- ---- floors
-- each store has a floor
floor_is : (nv : List ℕ) (b : Bank) → length nv ≡ 32768 → IsFloor nv b (floor_of (fuses_with nv []) b)
floor_is nv b size = kept_floor nv (fuses_with nv []) b (floor_stands nv (fuses_with nv []) b size (same_floor nv [] b))

-- where no floor bit is taken back the floor is as high at least
pub floor_grows : (old new : List ℕ) (b : Bank) (svn : ℕ) → length new ≡ 32768 → Grows old new → HasFloor old b svn → HasFloor new b svn
floor_grows old new b svn size grows was = by_floor was.floor was.is was.high
  where
    now_is : IsFloor new b (floor_of (fuses_with new []) b)
    now_is = floor_is new b size

    by_floor : (floor : ℕ) → IsFloor old b floor → svn ≤ floor → HasFloor new b svn
    by_floor zero is high = record { floor = floor_of (fuses_with new []) b; is = now_is; high = omega (arith, high) }
    by_floor (suc k) is high =
        let bit : IsFloorBit new b k = grows.floors b k (is.highest k (omega arith)) in
        record { floor = floor_of (fuses_with new []) b; is = now_is; high = omega (arith, high, now_is.above k bit) }

-- what the kept fuses say is the store's
pub floor_said : (nv : List ℕ) (fuses : FusesState) (b : Bank) (svn : ℕ) → length nv ≡ 32768 → fuses_of nv ≡ Ok fuses → svn ≤ floor_of fuses b → HasFloor nv b svn
floor_said nv fuses b svn size says high =
    record { floor = floor_of fuses b; is = kept_floor nv fuses b ((fuses_of-stands nv fuses size says).floors b); high = high }

floor_long : (fuses : FusesState) (b : Bank) → AreRows fuses → length (floor_row fuses b) ≡ 16
floor_long fuses bank.Bmc rows = rows.bmc_floor
floor_long fuses bank.Pch rows = rows.pch_floor

floor_set : (fuses : FusesState) (b : Bank) (row : List ℕ) → floor_row (with_floor fuses b row) b ≡ row
floor_set fuses bank.Bmc row = refl
floor_set fuses bank.Pch row = refl

-- a floor that is raised is so high then
pub raised_high : (fuses : FusesState) (b : Bank) (svn : ℕ) → AreRows fuses → svn ≤ 127 → svn ≤ floor_of (raised fuses b svn) b
raised_high fuses b svn rows few = raised_cases (λ after. svn ≤ floor_of after b) fuses b svn (λ low. low) (λ high. by_row high)
  where
    by_row : floor_of fuses b < svn → svn ≤ floor_of (with_floor fuses b (with_cleared (floor_row fuses b) (svn - 1))) b
    by_row high =
        let row : List ℕ = with_cleared (floor_row fuses b) (svn - 1) in
        let cleared : IsCleared row (svn - 1) = (IsCleared-with_cleared (floor_row fuses b) (svn - 1) (svn - 1) (omega (arith, few, floor_long fuses b rows, high))).1 (inr refl) in
        let kept : IsCleared (floor_row (with_floor fuses b row) b) (svn - 1) = subst (λ (bits : List ℕ). IsCleared bits (svn - 1)) (sym (floor_set fuses b row)) cleared in
        omega (arith, high, floor_in-above 128 (floor_row (with_floor fuses b row) b) (svn - 1) (omega (arith, few)) kept)

-- and no higher than what is not below both
pub raised_low : (fuses : FusesState) (b : Bank) (svn most : ℕ) → AreRows fuses → svn ≤ 127 → floor_of fuses b ≤ most → svn ≤ most → floor_of (raised fuses b svn) b ≤ most
raised_low fuses b svn most rows few was is = raised_cases (λ after. floor_of after b ≤ most) fuses b svn (λ low. was) (λ high. by_row high)
  where
    by_row : floor_of fuses b < svn → floor_of (with_floor fuses b (with_cleared (floor_row fuses b) (svn - 1))) b ≤ most
    by_row high =
        let row : List ℕ = with_cleared (floor_row fuses b) (svn - 1) in
        subst (λ (bits : List ℕ). floor_in 128 bits ≤ most) (sym (floor_set fuses b row)) (by_floor (floor_in 128 row) refl)
      where
        below : (k : ℕ) → k < 128 → (IsCleared (floor_row fuses b) k ⊎ (k ≡ svn - 1)) → k < most
        below k small (inl cleared) = omega (arith, floor_in-above 128 (floor_row fuses b) k small cleared, was)
        below k small (inr same) = omega (arith, same, high, is)

        by_floor : (n : ℕ) → floor_in 128 (with_cleared (floor_row fuses b) (svn - 1)) ≡ n → n ≤ most
        by_floor zero e = omega arith
        by_floor (suc k) e =
            let found = floor_in-bit 128 (with_cleared (floor_row fuses b) (svn - 1)) k (e ∙ (let s : suc k ≡ k + 1 = omega arith in s)) in
            let bit = (IsCleared-with_cleared (floor_row fuses b) (svn - 1) k (omega (arith, few, floor_long fuses b rows, high))).0 found.1 in
            omega (arith, below k found.0 bit)

-- ---- cancellations
row_long : (fuses : FusesState) (type : ContentType) → IsSigning type → AreRows fuses → length (row_of fuses type) ≡ 32
row_long fuses PchManifest signing rows = rows.pch_manifest
row_long fuses PchCapsule signing rows = rows.pch_capsule
row_long fuses BmcManifest signing rows = rows.bmc_manifest
row_long fuses BmcCapsule signing rows = rows.bmc_capsule
row_long fuses type signing rows = absurd signing

row_set : (fuses : FusesState) (type : ContentType) (row : List ℕ) → IsSigning type → row_of (with_row fuses type row) type ≡ row
row_set fuses PchManifest row signing = refl
row_set fuses PchCapsule row signing = refl
row_set fuses BmcManifest row signing = refl
row_set fuses BmcCapsule row signing = refl
row_set fuses type row signing = absurd signing

pub row_profile : (fuses : FusesState) (type : ContentType) (row : List ℕ) → IsSigning type → (with_row fuses type row).profile ≡ fuses.profile
row_profile fuses PchManifest row signing = refl
row_profile fuses PchCapsule row signing = refl
row_profile fuses BmcManifest row signing = refl
row_profile fuses BmcCapsule row signing = refl
row_profile fuses type row signing = absurd signing

-- a key that was cancelled is so by the store
pub cancelled_said : (nv : List ℕ) (fuses : FusesState) (type : ContentType) (id : ℕ) → length nv ≡ 32768 → AreRows fuses → IsSigning type → id < 256 → fuses_of nv ≡ Ok (with_cancelled fuses type id)
    → IsCancelled nv type id
cancelled_said nv fuses type id size rows signing few says =
    let row : List ℕ = with_cleared (row_of fuses type) id in
    let cleared : IsCleared row id = (IsCleared-with_cleared (row_of fuses type) id id (omega (arith, few, row_long fuses type signing rows))).1 (inr refl) in
    (((fuses_of-stands nv (with_cancelled fuses type id) size says).rows type).fuses_same id few).0
    (subst (λ (bits : List ℕ). IsCleared bits id) (sym (row_set fuses type row signing)) cleared)
