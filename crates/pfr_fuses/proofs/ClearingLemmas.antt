-- What clearing one fuse of a store of profile 2 leaves: raising a floor, and cancelling a key.
use Rattle.std.proofs.Common.{◌≡◌, ℕ, ◌≤◌, List, length, Result, sym, ap, ◌∙◌, subst, arith, inl, ◌+◌, ◌-◌, ◌<◌, max, true, false, [], Ok, OnOk, OnErr, refl, ◌⊎◌, inr, Bool, if◌then◌else◌}
use Rattle.std.specs.Prelude.{◌↔◌, ◌≢◌, nat_le}
use Rattle.std.proofs.lemmas.Bool.{cases_Bool, cases_eq, cases_lt}
use Rattle.std.proofs.lemmas.Bool.Decides.{nat_tests}
use Rattle.std.proofs.lemmas.Result.{on_ok_weaker}
use Rattle.pfr_flash.specs.FlashState.{FlashState, now, size_of}
use Rattle.pfr_flash.specs.Losing.{OnlyLoses, AddsAtMost}
use Rattle.pfr_flash.specs.Operation.{Operation, play}
use Rattle.pfr_flash.specs.Plan.{Follows, IsPart}
use Rattle.pfr_flash.specs.Range.{AllWithin, IsWithin}
use Rattle.pfr_flash.specs.declared.flash.FlashFail.{FlashFail}
use Rattle.pfr_flash.specs.declared.names.Bank.{Bank}
use Rattle.pfr_flash.specs.declared.names.ContentType.{ContentType}
use Rattle.pfr_flash.specs.Bytes.{bytes_at}
use Rattle.pfr_flash.specs.FuseRow.{IsCleared, IsHighest, clearing, fuse_at, with_cleared}
use Rattle.pfr_flash.specs.declared.names.Bank.TheVariants.{Bmc, Pch}
use Rattle.pfr_flash.specs.declared.names.ContentType.TheVariants.{PchManifest, PchCapsule, BmcManifest, BmcCapsule}
use Rattle.pfr_flash.proofs.CutLemmas.{AllPrograms, part_end, AddsAtMost-plan}
use Rattle.pfr_flash.proofs.FollowsLemmas.{Follows-outside, DoesPart-now}
use Rattle.pfr_flash.proofs.FuseLemmas.{MayClear, IsCleared-program}
use Rattle.pfr_flash.proofs.LosingLemmas.{AllLose-programs, OnlyLoses-plan}
use Rattle.pfr_flash.proofs.RangeLemmas.{length-now}
use Rattle.pfr_flash.proofs.ClearingLemmas.{clearing-within, clearing-programs, clearing-part, MayClear-refl}
use Rattle.pfr_fuses.specs.FuseMap.{IsBit, IsFloorBit, IsCancelBit, profile_of, floor_at, floor_width, row_at, row_width, IsFloor, IsSigning, IsCancelled}
use Rattle.pfr_fuses.specs.Growth.{NeverGoesBack, KeepsProvision, Adds}
use Rattle.pfr_fuses.specs.declared.profile.Profile.{Profile}
use Rattle.pfr_fuses.specs.declared.profile.Profile.TheVariants.{Two}
use Rattle.pfr_fuses.specs.FusesState.{FusesState, floor_row, row_of, floor_of}
use Rattle.pfr_fuses.specs.FusesOf.{FloorStands, floor_fuses, fuses_of, RowStands, row_fuses}
use Rattle.pfr_fuses.specs.Changes.{Raises, StaysButFloor, raise_plan, raised, with_floor, Cancels, CancelsAtMost, StaysButRow, cancellation, with_cancelled, with_row}
use Rattle.pfr_fuses.specs.FuseRows.{keys_of_rows, with_keys}
use Rattle.pfr_fuses.specs.declared.root_slot.RootSlot.{RootSlot}
use Rattle.pfr_fuses.specs.declared.fuse_rows.Floors.{Floors}
use Rattle.pfr_fuses.specs.declared.fuse_rows.CancelRows.{CancelRows}
use Rattle.pfr_fuses.proofs.ExactLemmas.{ChangedAt, fuses_of-but_floor, floor_kept, floor-cleared, fuses_of-but_row, row_kept, row-cleared}
use Rattle.pfr_fuses.proofs.GrowthLemmas.{done_now, on_either, on_err, on_ok_with, profile-outside, NeverGoesBack-programs, KeepsProvision-plan, Adds-within, slots-outside}
use Rattle.pfr_fuses.proofs.FloorLemmas.{floor_in-above, floor_in-highest}
use Rattle.pfr_fuses.proofs.StandsLemmas.{kept_floor}
use Rattle.pfr_fuses.proofs.StaysLemmas.{floors_by, rows_by, floors_apart, row_behind_floors, floor_in_sector, floor_bits-outside, row_bits-outside, FloorStands-same, RowStands-same, rows_apart, row_in_sector}

-- ---- the bits
pub floor_bit-two : (nv : List ℕ) (bank : Bank) (k : ℕ) → profile_of nv ≡ Two → (IsFloorBit nv bank k ↔ IsBit nv (floor_at Two bank) 16 k)
floor_bit-two nv bank k two = subst (λ (p : Profile). (IsBit nv (floor_at p bank) (floor_width p) k ↔ IsBit nv (floor_at Two bank) 16 k)) (sym two) (λ b. b, λ b. b)

pub row_bit-two : (nv : List ℕ) (type : ContentType) (k : ℕ) → profile_of nv ≡ Two → (IsBit nv (row_at (profile_of nv) type) (row_width (profile_of nv)) k ↔ IsBit nv (row_at Two type) 32 k)
row_bit-two nv type k two = subst (λ (p : Profile). (IsBit nv (row_at p type) (row_width p) k ↔ IsBit nv (row_at Two type) 32 k)) (sym two) (λ b. b, λ b. b)

may_bit : (old new : List ℕ) (at width bit k : ℕ) → MayClear at width bit old new → k ≢ bit → (IsBit new at width k ↔ IsBit old at width k)
may_bit old new at width bit k h other = (
  λ (b : IsBit new at width k). record { within = b.within; cleared = (h.stays k b.within other).0 b.cleared },
  λ (b : IsBit old at width k). record { within = b.within; cleared = (h.stays k b.within other).1 b.cleared },
)

pub floor_bit-stays : (old new : List ℕ) (bank : Bank) (bit k : ℕ) → profile_of old ≡ Two → profile_of new ≡ Two → MayClear (floor_at Two bank) 16 bit old new → k ≢ bit
    → (IsFloorBit new bank k ↔ IsFloorBit old bank k)
floor_bit-stays old new bank bit k o n h other =
    let a = floor_bit-two old bank k o in
    let b = floor_bit-two new bank k n in
    let m = may_bit old new (floor_at Two bank) 16 bit k h other in
    (λ (x : IsFloorBit new bank k). a.1 (m.0 (b.0 x)), λ (x : IsFloorBit old bank k). b.1 (m.1 (a.0 x)))

pub row_bit-stays : (old new : List ℕ) (type : ContentType) (bit k : ℕ) → profile_of old ≡ Two → profile_of new ≡ Two → MayClear (row_at Two type) 32 bit old new → k ≢ bit
    → (IsCancelBit new type k ↔ IsCancelBit old type k)
row_bit-stays old new type bit k o n h other =
    let a = row_bit-two old type k o in
    let b = row_bit-two new type k n in
    let m = may_bit old new (row_at Two type) 32 bit k h other in
    (λ (x : IsCancelBit new type k). record { signing = x.signing; bit = a.1 (m.0 (b.0 x.bit)) }, λ (x : IsCancelBit old type k). record { signing = x.signing; bit = b.1 (m.1 (a.0 x.bit)) })

-- ---- a call that programs in the row alone
pub record Leaves (at width : ℕ) (old new : FlashState) : Type 0 where
  pub adds : Adds (λ op. IsWithin at width op) old new
  pub grows : NeverGoesBack old new
  pub provision : KeepsProvision old new
  pub loses : OnlyLoses 0 32768 old new
  pub changed : profile_of (now old) ≡ Two → ChangedAt at width (now old) (now new)

pub leaves : (at width : ℕ) (plan : List Operation) (old new : FlashState) (result : Result (Unit {0}) FlashFail) → size_of old ≡ 32768 → 0x7000 ≤ at → AllWithin at width plan → AllPrograms 32768 plan → Follows plan old new result
    → Leaves at width old new
leaves at width plan old new result size low within programs h =
    let start : new.start ≡ old.start = h.worked.moved.start in
    let old_size : length (now old) ≡ 32768 = length-now old ∙ size in
    let same_size : length (now new) ≡ length (now old) = length-now new ∙ ap length start ∙ sym (length-now old) in
    let outside = Follows-outside at width plan old new result within h in
    record {
      adds = Adds-within at width plan old new within h.part;
      grows = NeverGoesBack-programs at width plan old new size start h.part programs within (inl (omega arith));
      provision = KeepsProvision-plan at width plan old new size start h.part (omega arith) within;
      loses = OnlyLoses-plan 32768 0 32768 (omega arith) plan old new size start h.part (AllLose-programs 32768 0 32768 plan programs);
      changed = λ two. record {
        size = old_size;
        same_size = same_size;
        two = two;
        outside = outside;
        store = record {
          slots = slots-outside at width (now old) (now new) (omega arith) old_size same_size outside;
          profile = profile-outside at width (now old) (now new) (inl (omega arith)) outside;
        };
      };
    }

-- ---- the plan of a floor
at_most_cases : (P : Bool → Type 0) (to floor : ℕ) → (to ≤ floor → P true) → (floor < to → P false) → P (nat_le to floor)
at_most_cases P to floor low high = by_test (cases_Bool (nat_le to floor))
  where
    by_test : ((nat_le to floor ≡ true) ⊎ (nat_le to floor ≡ false)) → P (nat_le to floor)
    by_test (inl test) = let le : to ≤ floor = grind (arith, nat_tests) in rw test (low le)
    by_test (inr test) = let lt : floor < to = grind (arith, nat_tests) in rw test (high lt)

-- a floor is raised or left
raise_cases : (P : List Operation → Type 0) (floor : ℕ) (bank : Bank) (to : ℕ) → (to ≤ floor → P []) → (floor < to → P (clearing (floor_at Two bank) (to - 1))) → P (raise_plan floor bank to)
raise_cases P floor bank to = at_most_cases (λ low. P (if low then [] else clearing (floor_at Two bank) (to - 1))) to floor

pub raise_plan-none : (floor : ℕ) (bank : Bank) (to : ℕ) → to ≤ floor → raise_plan floor bank to ≡ []
raise_plan-none floor bank to h = raise_cases (λ plan. plan ≡ []) floor bank to (λ le. refl) (λ lt. absurd (omega arith))

pub raise-within : (floor : ℕ) (bank : Bank) (to : ℕ) → to ≤ 127 → AllWithin (floor_at Two bank) 16 (raise_plan floor bank to)
raise-within floor bank to most = raise_cases (λ plan. AllWithin (floor_at Two bank) 16 plan) floor bank to (λ le. tt) (λ lt. clearing-within (floor_at Two bank) 16 (to - 1) (omega arith))

pub raise-programs : (floor : ℕ) (bank : Bank) (to : ℕ) → to ≤ 127 → AllPrograms 32768 (raise_plan floor bank to)
raise-programs floor bank to most =
    raise_cases (λ plan. AllPrograms 32768 plan) floor bank to (λ le. tt) (λ lt. clearing-programs 32768 (floor_at Two bank) 16 (to - 1) (omega arith) (omega (arith, (floor_in_sector bank).1)))

raise-part : (image : List ℕ) (floor : ℕ) (bank : Bank) (to : ℕ) (added : List Operation) → length image ≡ 32768 → to ≤ 127 → IsPart image (raise_plan floor bank to) added
    → MayClear (floor_at Two bank) 16 (to - 1) image (play image added)
raise-part image floor bank to added size most =
    raise_cases (λ plan. IsPart image plan added → MayClear (floor_at Two bank) 16 (to - 1) image (play image added)) floor bank to
    (λ le h. part_end (λ (after : List ℕ). MayClear (floor_at Two bank) 16 (to - 1) image after) image added h (MayClear-refl (floor_at Two bank) 16 (to - 1) image))
    (λ lt h. clearing-part image (floor_at Two bank) 16 (to - 1) added (omega arith) (omega (arith, (floor_in_sector bank).1)) h)

raise-whole : (image : List ℕ) (floor : ℕ) (bank : Bank) (to : ℕ) → length image ≡ 32768 → to ≤ 127 → floor < to
    → IsCleared (bytes_at (play image (raise_plan floor bank to)) (floor_at Two bank) 16) (to - 1)
raise-whole image floor bank to size most =
    raise_cases (λ plan. floor < to → IsCleared (bytes_at (play image plan) (floor_at Two bank) 16) (to - 1)) floor bank to
    (λ le lt. absurd (omega arith))
    (λ lt above. IsCleared-program image (floor_at Two bank) 16 (to - 1) (omega arith) (omega (arith, (floor_in_sector bank).1)))

-- ---- what is kept
pub raised_cases : (P : FusesState → Type 0) (fuses : FusesState) (bank : Bank) (to : ℕ) → (to ≤ floor_of fuses bank → P fuses)
    → (floor_of fuses bank < to → P (with_floor fuses bank (with_cleared (floor_row fuses bank) (to - 1)))) → P (raised fuses bank to)
raised_cases P fuses bank to = at_most_cases (λ low. P (if low then fuses else with_floor fuses bank (with_cleared (floor_row fuses bank) (to - 1)))) to (floor_of fuses bank)

record SameElse (fuses : FusesState) (bank : Bank) (after : FusesState) : Type 0 where
  floors : (other : Bank) → other ≢ bank → floor_row after other ≡ floor_row fuses other
  rows : (type : ContentType) → row_of after type ≡ row_of fuses type
  provision : after.provision ≡ fuses.provision
  profile : after.profile ≡ fuses.profile

same_fuses : (fuses : FusesState) (bank : Bank) → SameElse fuses bank fuses
same_fuses fuses bank = record { floors = λ other ne. refl; rows = λ type. refl; provision = refl; profile = refl }

other_floor : (fuses : FusesState) (bank other : Bank) (row : List ℕ) → other ≢ bank → floor_row (with_floor fuses bank row) other ≡ floor_row fuses other
other_floor fuses Bmc Bmc row ne = absurd (ne refl)
other_floor fuses Bmc Pch row ne = refl
other_floor fuses Pch Bmc row ne = refl
other_floor fuses Pch Pch row ne = absurd (ne refl)

same_with_floor : (fuses : FusesState) (bank : Bank) (row : List ℕ) → SameElse fuses bank (with_floor fuses bank row)
same_with_floor fuses Bmc row = record { floors = λ other ne. other_floor fuses Bmc other row ne; rows = rows_by fuses (with_floor fuses Bmc row) refl refl refl refl; provision = refl; profile = refl }
same_with_floor fuses Pch row = record { floors = λ other ne. other_floor fuses Pch other row ne; rows = rows_by fuses (with_floor fuses Pch row) refl refl refl refl; provision = refl; profile = refl }

same_raised : (fuses : FusesState) (bank : Bank) (to : ℕ) → SameElse fuses bank (raised fuses bank to)
same_raised fuses bank to = raised_cases (λ after. SameElse fuses bank after) fuses bank to (λ le. same_fuses fuses bank) (λ lt. same_with_floor fuses bank (with_cleared (floor_row fuses bank) (to - 1)))

-- another row in place of the floor's
floor_again : (fuses : FusesState) (bank : Bank) (row other : List ℕ) → with_floor (with_floor fuses bank row) bank other ≡ with_floor fuses bank other
floor_again fuses Bmc row other = refl
floor_again fuses Pch row other = refl

raised_again : (fuses : FusesState) (bank : Bank) (to : ℕ) (other : List ℕ) → with_floor (raised fuses bank to) bank other ≡ with_floor fuses bank other
raised_again fuses bank to other =
    raised_cases (λ after. with_floor after bank other ≡ with_floor fuses bank other) fuses bank to (λ le. refl) (λ lt. floor_again fuses bank (with_cleared (floor_row fuses bank) (to - 1)) other)

-- ---- one store and the next
stays_but : (bank : Bank) (old new : List ℕ) (fuses after : FusesState) → ChangedAt (floor_at Two bank) 16 old new → SameElse fuses bank after → StaysButFloor bank old fuses new after
stays_but bank old new fuses after h same = record {
  floors = λ other ne stands. FloorStands-same old new fuses after other (same.floors other ne)
      (floor_bits-outside (floor_at Two bank) 16 old new other h.size h.same_size h.store.profile (rw h.two (floors_apart bank other ne)) h.outside) stands;
  rows = λ type stands. RowStands-same old new fuses after type (same.rows type)
      (row_bits-outside (floor_at Two bank) 16 old new type h.size h.same_size h.store.profile (λ signing. rw h.two (inr (row_behind_floors bank type signing))) h.outside) stands;
  store = h.store;
  provision = same.provision;
  profile = same.profile;
}

-- ---- the floor
floor_stands_raised : (bank : Bank) (to : ℕ) (old new : List ℕ) (fuses after : FusesState) → ChangedAt (floor_at Two bank) 16 old new → MayClear (floor_at Two bank) 16 (to - 1) old new
    → IsCleared (bytes_at new (floor_at Two bank) 16) (to - 1) → to ≤ 127 → floor_of fuses bank < to → Raises fuses bank to after → FloorStands old fuses bank → FloorStands new after bank
floor_stands_raised bank to old new fuses after h may cleared most above raises stands = record { fuses_same = λ k below. by_fuse k below (cases_eq k (to - 1)) }
  where
    by_fuse : (k : ℕ) → k < 128 → ((k ≡ to - 1) ⊎ (k ≢ to - 1)) → (IsCleared (floor_row after bank) k ↔ IsFloorBit new bank k)
    by_fuse k below (inl same) =
        let kept : IsCleared (floor_row after bank) k = (raises.fuses above k below).1 (inr (omega arith)) in
        let stored : IsFloorBit new bank k = (floor_bit-two new bank k (h.store.profile ∙ h.two)).1 (record { within = below; cleared = rw same cleared }) in
        (λ z. stored, λ b. kept)
    by_fuse k below (inr other) =
        let bits = floor_bit-stays old new bank (to - 1) k h.two (h.store.profile ∙ h.two) may other in
        let not_it : k + 1 ≢ to = λ (e : k + 1 ≡ to). other (omega arith) in
        (λ z. bits.1 ((stands.fuses_same k below).0 (forget k not_it ((raises.fuses above k below).0 z))), λ b. (raises.fuses above k below).1 (inl ((stands.fuses_same k below).1 (bits.0 b))))
      where
        forget : (k : ℕ) → k + 1 ≢ to → (IsCleared (floor_row fuses bank) k ⊎ (k + 1 ≡ to)) → IsCleared (floor_row fuses bank) k
        forget k ne (inl z) = z
        forget k ne (inr e) = absurd (ne e)

floor_left : (bank : Bank) (to : ℕ) (old new : List ℕ) (floor : ℕ) → ChangedAt (floor_at Two bank) 16 old new → MayClear (floor_at Two bank) 16 (to - 1) old new → to ≤ 127 → floor < to
    → IsFloor old bank floor → IsFloor new bank floor ⊎ IsFloor new bank to
floor_left bank to old new floor h may most above was = by_fuse (cases_eq (fuse_at (bytes_at new (floor_at Two bank) 16) (to - 1)) 0)
  where
    two_old : (k : ℕ) → (IsFloorBit old bank k ↔ IsBit old (floor_at Two bank) 16 k)
    two_old k = floor_bit-two old bank k h.two

    two_new : (k : ℕ) → (IsFloorBit new bank k ↔ IsBit new (floor_at Two bank) 16 k)
    two_new k = floor_bit-two new bank k (h.store.profile ∙ h.two)

    others : (k : ℕ) → k ≢ to - 1 → (IsFloorBit new bank k ↔ IsFloorBit old bank k)
    others k ne = floor_bit-stays old new bank (to - 1) k h.two (h.store.profile ∙ h.two) may ne

    below_to : (k : ℕ) → IsFloorBit new bank k → ((k ≡ to - 1) ⊎ (k ≢ to - 1)) → k < to
    below_to k b (inl same) = omega arith
    below_to k b (inr other) = omega (arith, was.above k ((others k other).0 b))

    not_here : fuse_at (bytes_at new (floor_at Two bank) 16) (to - 1) ≢ 0 → (k : ℕ) → IsFloorBit new bank k → k ≢ to - 1
    not_here set k b same = set (subst (λ (j : ℕ). IsCleared (bytes_at new (floor_at Two bank) 16) j) same ((two_new k).0 b).cleared)

    was_not : fuse_at (bytes_at new (floor_at Two bank) 16) (to - 1) ≢ 0 → (k : ℕ) → IsFloorBit old bank k → k ≢ to - 1
    was_not set k b same = set (may.keeps (subst (λ (j : ℕ). IsCleared (bytes_at old (floor_at Two bank) 16) j) same ((two_old k).0 b).cleared))

    by_fuse : ((fuse_at (bytes_at new (floor_at Two bank) 16) (to - 1) ≡ 0) ⊎ (fuse_at (bytes_at new (floor_at Two bank) 16) (to - 1) ≢ 0)) → IsFloor new bank floor ⊎ IsFloor new bank to
    by_fuse (inl cleared) = inr (record {
      above = λ k b. below_to k b (cases_eq k (to - 1));
      highest = λ k e. let same : to - 1 ≡ k = omega arith in subst (λ (j : ℕ). IsFloorBit new bank j) same ((two_new (to - 1)).1 (record { within = omega arith; cleared = cleared }));
    })
    by_fuse (inr set) = inl (record {
      above = λ k b. was.above k ((others k (not_here set k b)).0 b);
      highest = λ k e. let bit : IsFloorBit old bank k = was.highest k e in (others k (was_not set k bit)).1 bit;
    })

-- the floor is the greater of the two
raised_floor : (fuses after : FusesState) (bank : Bank) (to : ℕ) → to ≤ 127 → floor_of fuses bank < to → Raises fuses bank to after → to ≡ floor_of after bank
raised_floor fuses after bank to most above raises =
    let bit : IsHighest 128 (floor_row after bank) (to - 1) = record {
      within = omega arith;
      cleared = (raises.fuses above (to - 1) (omega arith)).1 (inr (omega arith));
      above = λ j more below z. too_high j more ((raises.fuses above j below).0 z) below;
    } in
    let is : to - 1 + 1 ≡ floor_of after bank = floor_in-highest 128 (floor_row after bank) (to - 1) bit in
    omega (arith, is)
  where
    too_high : (j : ℕ) → to - 1 < j → (IsCleared (floor_row fuses bank) j ⊎ (j + 1 ≡ to)) → j < 128 → ⊥
    too_high j more (inl z) below = let under : j < floor_of fuses bank = floor_in-above 128 (floor_row fuses bank) j below z in omega (arith, under)
    too_high j more (inr e) below = omega arith

-- the store says what is kept, but for the floor
abbrev SaysBut : Bank → List ℕ → FusesState → Type 0
SaysBut bank nv kept = fuses_of nv ≡ Ok (with_floor kept bank (floor_fuses nv bank))

-- ---- the call that raises
module _ (bank : Bank) (to : ℕ) (old new : FlashState) (fuses after : FusesState) (result : Result (Unit {0}) FlashFail) (size : size_of old ≡ 32768) (two : profile_of (now old) ≡ Two) (most : to ≤ 127)
    (follows : Follows (raise_plan (floor_of fuses bank) bank to) old new result) where
  pub raise-leaves : Leaves (floor_at Two bank) 16 old new
  raise-leaves = leaves (floor_at Two bank) 16 (raise_plan (floor_of fuses bank) bank to) old new result size (floor_in_sector bank).0
      (raise-within (floor_of fuses bank) bank to most) (raise-programs (floor_of fuses bank) bank to most) follows

  pub raise-changed : ChangedAt (floor_at Two bank) 16 (now old) (now new)
  raise-changed = raise-leaves.changed two

  may : MayClear (floor_at Two bank) 16 (to - 1) (now old) (now new)
  may = subst (λ (image : List ℕ). MayClear (floor_at Two bank) 16 (to - 1) (now old) image)
      (sym (DoesPart-now (raise_plan (floor_of fuses bank) bank to) old new follows.worked.moved.start follows.part))
      (raise-part (now old) (floor_of fuses bank) bank to follows.part.added (length-now old ∙ size) most follows.part.part)

  pub raise-count : AddsAtMost 1 old new
  raise-count = AddsAtMost-plan 1 (raise_plan (floor_of fuses bank) bank to) old new follows.part
      (raise_cases (λ plan. length plan ≤ 1) (floor_of fuses bank) bank to (λ le. omega arith) (λ lt. omega arith))

  pub raise-stays : OnOk result (after ≡ raised fuses bank to) → OnErr result (after ≡ fuses) → StaysButFloor bank (now old) fuses (now new) after
  raise-stays ok err = on_either result ok err
      (λ e. stays_but bank (now old) (now new) fuses after raise-changed (subst (λ (kept : FusesState). SameElse fuses bank kept) (sym e) (same_raised fuses bank to)))
      (λ e. stays_but bank (now old) (now new) fuses after raise-changed (subst (λ (kept : FusesState). SameElse fuses bank kept) (sym e) (same_fuses fuses bank)))

  done : OnOk result (now new ≡ play (now old) (raise_plan (floor_of fuses bank) bank to))
  done = done_now (raise_plan (floor_of fuses bank) bank to) old new result follows

  kept_same : to ≤ floor_of fuses bank → after ≡ raised fuses bank to → after ≡ fuses
  kept_same le e = e ∙ raised_cases (λ kept. kept ≡ fuses) fuses bank to (λ low. refl) (λ high. absurd (omega (arith, le, high)))

  now_same : to ≤ floor_of fuses bank → now new ≡ play (now old) (raise_plan (floor_of fuses bank) bank to) → now new ≡ now old
  now_same le e = e ∙ ap (λ (plan : List Operation). play (now old) plan) (raise_plan-none (floor_of fuses bank) bank to le)

  stands_done : FloorStands (now old) fuses bank → now new ≡ play (now old) (raise_plan (floor_of fuses bank) bank to) → after ≡ raised fuses bank to → Raises fuses bank to after
      → ((floor_of fuses bank < to) ⊎ (to ≤ floor_of fuses bank)) → FloorStands (now new) after bank
  stands_done stands is kept raises (inl above) =
      floor_stands_raised bank to (now old) (now new) fuses after raise-changed may
      (subst (λ (image : List ℕ). IsCleared (bytes_at image (floor_at Two bank) 16) (to - 1)) (sym is) (raise-whole (now old) (floor_of fuses bank) bank to (length-now old ∙ size) most above))
      most above raises stands
  stands_done stands is kept raises (inr low) =
      subst (λ (image : List ℕ). FloorStands image after bank) (sym (now_same low is)) (subst (λ (k : FusesState). FloorStands (now old) k bank) (sym (kept_same low kept)) stands)

  pub raise-ok : FloorStands (now old) fuses bank → OnOk result (after ≡ raised fuses bank to) → OnOk result (Raises fuses bank to after) → OnOk result (FloorStands (now new) after bank)
  raise-ok stands ok raises = on_ok_with {Q = (after ≡ raised fuses bank to) × Raises fuses bank to after} result done (on_ok_with result ok raises (λ kept h. (kept, h)))
      (λ is h. stands_done stands is h.0 h.1 (cases_lt (floor_of fuses bank) to))

  floor_done : after ≡ raised fuses bank to → Raises fuses bank to after → ((floor_of fuses bank < to) ⊎ (to ≤ floor_of fuses bank)) → floor_of after bank ≡ max (floor_of fuses bank) to
  floor_done kept raises (inl above) = let is : to ≡ floor_of after bank = raised_floor fuses after bank to most above raises in omega (arith, is, above)
  floor_done kept raises (inr low) = let is : floor_of after bank ≡ floor_of fuses bank = ap (λ (k : FusesState). floor_of k bank) (kept_same low kept) in omega (arith, is, low)

  pub raise-floor : OnOk result (after ≡ raised fuses bank to) → OnOk result (Raises fuses bank to after) → OnOk result (floor_of after bank ≡ max (floor_of fuses bank) to)
  raise-floor ok raises = on_ok_with result ok raises (λ kept h. floor_done kept h (cases_lt (floor_of fuses bank) to))

  floor_after : IsFloor (now old) bank (floor_of fuses bank) → ((floor_of fuses bank < to) ⊎ (to ≤ floor_of fuses bank)) → IsFloor (now new) bank (floor_of fuses bank) ⊎ IsFloor (now new) bank to
  floor_after was (inl above) = floor_left bank to (now old) (now new) (floor_of fuses bank) raise-changed may most above was
  floor_after was (inr low) =
      inl (subst (λ (image : List ℕ). IsFloor image bank (floor_of fuses bank)) (sym (DoesPart-now (raise_plan (floor_of fuses bank) bank to) old new follows.worked.moved.start follows.part))
      (part_end (λ (image : List ℕ). IsFloor image bank (floor_of fuses bank)) (now old) follows.part.added
      (subst (λ (plan : List Operation). IsPart (now old) plan follows.part.added) (raise_plan-none (floor_of fuses bank) bank to low) follows.part.part) was))

  pub raise-err : FloorStands (now old) fuses bank → OnErr result (IsFloor (now new) bank (floor_of fuses bank) ⊎ IsFloor (now new) bank to)
  raise-err stands = on_err result (floor_after (kept_floor (now old) fuses bank stands) (cases_lt (floor_of fuses bank) to))

  -- ---- what the store says
  says_kept : fuses_of (now old) ≡ Ok fuses → SaysBut bank (now new) fuses
  says_kept was = fuses_of-but_floor bank (now old) (now new) fuses raise-changed was

  pub raise-rest : OnOk result (after ≡ raised fuses bank to) → OnErr result (after ≡ fuses) → fuses_of (now old) ≡ Ok fuses → fuses_of (now new) ≡ Ok (with_floor after bank (floor_fuses (now new) bank))
  raise-rest ok err was = on_either result ok err
      (λ is. says_kept was
      ∙ ap (λ (kept : FusesState). Ok kept) (sym (ap (λ (kept : FusesState). with_floor kept bank (floor_fuses (now new) bank)) is ∙ raised_again fuses bank to (floor_fuses (now new) bank))))
      (λ is. subst (SaysBut bank (now new)) (sym is) (says_kept was))

  raised_row : floor_of fuses bank < to → now new ≡ play (now old) (raise_plan (floor_of fuses bank) bank to) → fuses_of (now old) ≡ Ok fuses
      → floor_fuses (now new) bank ≡ with_cleared (floor_row fuses bank) (to - 1)
  raised_row above is was =
      let plan : raise_plan (floor_of fuses bank) bank to ≡ clearing (floor_at Two bank) (to - 1) =
      raise_cases (λ plan. plan ≡ clearing (floor_at Two bank) (to - 1)) (floor_of fuses bank) bank to (λ low. absurd (omega (arith, low, above))) (λ high. refl) in
      floor-cleared bank (now old) (now new) (to - 1) raise-changed (omega arith) (is ∙ ap (λ (ops : List Operation). play (now old) ops) plan) (omega (arith, (floor_in_sector bank).1))
      ∙ ap (λ (row : List ℕ). with_cleared row (to - 1)) (sym (floor_kept (now old) fuses bank was))

  says_raised : now new ≡ play (now old) (raise_plan (floor_of fuses bank) bank to) → after ≡ raised fuses bank to → fuses_of (now old) ≡ Ok fuses
      → ((floor_of fuses bank < to) ⊎ (to ≤ floor_of fuses bank)) → fuses_of (now new) ≡ Ok after
  says_raised is kept was (inl above) =
      let all : after ≡ with_floor fuses bank (with_cleared (floor_row fuses bank) (to - 1)) =
      kept ∙ raised_cases (λ a. a ≡ with_floor fuses bank (with_cleared (floor_row fuses bank) (to - 1))) fuses bank to (λ low. absurd (omega (arith, low, above))) (λ high. refl) in
      says_kept was ∙ ap (λ (a : FusesState). Ok a) (ap (λ (row : List ℕ). with_floor fuses bank row) (raised_row above is was) ∙ sym all)
  says_raised is kept was (inr low) = ap fuses_of (now_same low is) ∙ was ∙ ap (λ (a : FusesState). Ok a) (sym (kept_same low kept))

  pub raise-exact : OnOk result (after ≡ raised fuses bank to) → OnOk result (fuses_of (now old) ≡ Ok fuses → fuses_of (now new) ≡ Ok after)
  raise-exact ok = on_ok_with result done ok (λ is kept was. says_raised is kept was (cases_lt (floor_of fuses bank) to))

-- ---- what is kept where a key is cancelled
record SameButRow (fuses : FusesState) (type : ContentType) (after : FusesState) : Type 0 where
  floors : (bank : Bank) → floor_row after bank ≡ floor_row fuses bank
  rows : (other : ContentType) → other ≢ type → row_of after other ≡ row_of fuses other
  provision : after.provision ≡ fuses.provision
  profile : after.profile ≡ fuses.profile

same_but_row : (fuses : FusesState) (type : ContentType) → SameButRow fuses type fuses
same_but_row fuses type = record { floors = λ bank. refl; rows = λ other ne. refl; provision = refl; profile = refl }

other_row : (fuses : FusesState) (type other : ContentType) (row : List ℕ) → IsSigning type → other ≢ type → row_of (with_row fuses type row) other ≡ row_of fuses other
other_row fuses PchManifest PchManifest row s ne = absurd (ne refl)
other_row fuses PchManifest PchCapsule row s ne = refl
other_row fuses PchManifest BmcManifest row s ne = refl
other_row fuses PchManifest BmcCapsule row s ne = refl
other_row fuses PchManifest other row s ne = refl
other_row fuses PchCapsule PchManifest row s ne = refl
other_row fuses PchCapsule PchCapsule row s ne = absurd (ne refl)
other_row fuses PchCapsule BmcManifest row s ne = refl
other_row fuses PchCapsule BmcCapsule row s ne = refl
other_row fuses PchCapsule other row s ne = refl
other_row fuses BmcManifest PchManifest row s ne = refl
other_row fuses BmcManifest PchCapsule row s ne = refl
other_row fuses BmcManifest BmcManifest row s ne = absurd (ne refl)
other_row fuses BmcManifest BmcCapsule row s ne = refl
other_row fuses BmcManifest other row s ne = refl
other_row fuses BmcCapsule PchManifest row s ne = refl
other_row fuses BmcCapsule PchCapsule row s ne = refl
other_row fuses BmcCapsule BmcManifest row s ne = refl
other_row fuses BmcCapsule BmcCapsule row s ne = absurd (ne refl)
other_row fuses BmcCapsule other row s ne = refl
other_row fuses type other row s ne = absurd s

record SameRest (fuses : FusesState) (type : ContentType) (row : List ℕ) : Type 0 where
  floors : (bank : Bank) → floor_row (with_row fuses type row) bank ≡ floor_row fuses bank
  provision : (with_row fuses type row).provision ≡ fuses.provision
  profile : (with_row fuses type row).profile ≡ fuses.profile
  again : (other : List ℕ) → with_row (with_row fuses type row) type other ≡ with_row fuses type other

same_rest : (fuses : FusesState) (type : ContentType) (row : List ℕ) → IsSigning type → SameRest fuses type row
same_rest fuses PchManifest row s = record { floors = floors_by fuses (with_row fuses PchManifest row) refl refl; provision = refl; profile = refl; again = λ other. refl }
same_rest fuses PchCapsule row s = record { floors = floors_by fuses (with_row fuses PchCapsule row) refl refl; provision = refl; profile = refl; again = λ other. refl }
same_rest fuses BmcManifest row s = record { floors = floors_by fuses (with_row fuses BmcManifest row) refl refl; provision = refl; profile = refl; again = λ other. refl }
same_rest fuses BmcCapsule row s = record { floors = floors_by fuses (with_row fuses BmcCapsule row) refl refl; provision = refl; profile = refl; again = λ other. refl }
same_rest fuses type row s = absurd s

same_with_row : (fuses : FusesState) (type : ContentType) (row : List ℕ) → IsSigning type → SameButRow fuses type (with_row fuses type row)
same_with_row fuses type row s = record {
  floors = (same_rest fuses type row s).floors;
  rows = λ other ne. other_row fuses type other row s ne;
  provision = (same_rest fuses type row s).provision;
  profile = (same_rest fuses type row s).profile;
}

-- ---- one store and the next
stays_but_row : (type : ContentType) (old new : List ℕ) (fuses after : FusesState) → IsSigning type → ChangedAt (row_at Two type) 32 old new → SameButRow fuses type after → StaysButRow type old fuses new after
stays_but_row type old new fuses after signed h same = record {
  floors = λ bank stands. FloorStands-same old new fuses after bank (same.floors bank)
      (floor_bits-outside (row_at Two type) 32 old new bank h.size h.same_size h.store.profile (rw h.two (inl (row_behind_floors bank type signed))) h.outside) stands;
  rows = λ other ne stands. RowStands-same old new fuses after other (same.rows other ne)
      (row_bits-outside (row_at Two type) 32 old new other h.size h.same_size h.store.profile (λ signing. rw h.two (rows_apart type other signed signing ne)) h.outside) stands;
  store = h.store;
  provision = same.provision;
  profile = same.profile;
}

-- ---- the row
row_stands_cancelled : (type : ContentType) (id : ℕ) (old new : List ℕ) (fuses after : FusesState) → IsSigning type → ChangedAt (row_at Two type) 32 old new → MayClear (row_at Two type) 32 id old new
    → IsCleared (bytes_at new (row_at Two type) 32) id → Cancels fuses type id after → RowStands old fuses type → RowStands new after type
row_stands_cancelled type id old new fuses after signed h may cleared cancels stands = record { fuses_same = λ k below. by_fuse k below (cases_eq k id) }
  where
    by_fuse : (k : ℕ) → k < 256 → ((k ≡ id) ⊎ (k ≢ id)) → (IsCleared (row_of after type) k ↔ IsCancelBit new type k)
    by_fuse k below (inl same) =
        let kept : IsCleared (row_of after type) k = (cancels.fuses k below).1 (inr same) in
        let bit : IsBit new (row_at Two type) 32 k = record { within = below; cleared = rw same cleared } in
        let stored : IsCancelBit new type k = record { signing = signed; bit = (row_bit-two new type k (h.store.profile ∙ h.two)).1 bit } in
        (λ z. stored, λ b. kept)
    by_fuse k below (inr other) =
        let bits = row_bit-stays old new type id k h.two (h.store.profile ∙ h.two) may other in
        (λ z. bits.1 ((stands.fuses_same k below).0 (forget k other ((cancels.fuses k below).0 z))), λ b. (cancels.fuses k below).1 (inl ((stands.fuses_same k below).1 (bits.0 b))))
      where
        forget : (k : ℕ) → k ≢ id → (IsCleared (row_of fuses type) k ⊎ (k ≡ id)) → IsCleared (row_of fuses type) k
        forget k ne (inl z) = z
        forget k ne (inr e) = absurd (ne e)

-- in the store too no other key is cancelled
cancels_at_most : (type : ContentType) (id : ℕ) (old new : List ℕ) → ChangedAt (row_at Two type) 32 old new → MayClear (row_at Two type) 32 id old new → id < 256 → CancelsAtMost old type id new
cancels_at_most type id old new h may most = record {
  others = λ k other. row_bit-stays old new type id k h.two (h.store.profile ∙ h.two) may other;
  keeps = λ b.
      let was : IsBit old (row_at Two type) 32 id = (row_bit-two old type id h.two).0 b.bit in
      let is : IsBit new (row_at Two type) 32 id = record { within = was.within; cleared = may.keeps was.cleared } in
      record { signing = b.signing; bit = (row_bit-two new type id (h.store.profile ∙ h.two)).1 is };
}

-- the store says what is kept, but for the row
abbrev SaysButRow : ContentType → List ℕ → FusesState → Type 0
SaysButRow type nv kept = fuses_of nv ≡ Ok (with_row kept type (row_fuses nv type))

-- ---- the call that cancels
module _ (type : ContentType) (id : ℕ) (old new : FlashState) (fuses after : FusesState) (result : Result (Unit {0}) FlashFail) (size : size_of old ≡ 32768) (two : profile_of (now old) ≡ Two) (signing : IsSigning type) (most : id < 256)
    (follows : Follows (cancellation type id) old new result) where
  within : AllWithin (row_at Two type) 32 (cancellation type id)
  within = clearing-within (row_at Two type) 32 id (omega arith)

  pub cancel-leaves : Leaves (row_at Two type) 32 old new
  cancel-leaves = leaves (row_at Two type) 32 (cancellation type id) old new result size (omega (arith, (row_in_sector type signing).0)) within
      (clearing-programs 32768 (row_at Two type) 32 id (omega arith) (omega (arith, (row_in_sector type signing).1))) follows

  pub cancel-changed : ChangedAt (row_at Two type) 32 (now old) (now new)
  cancel-changed = cancel-leaves.changed two

  fits : row_at Two type + 32 ≤ length (now old)
  fits = omega (arith, length-now old, (row_in_sector type signing).1)

  row_may : MayClear (row_at Two type) 32 id (now old) (now new)
  row_may = subst (λ (image : List ℕ). MayClear (row_at Two type) 32 id (now old) image)
      (sym (DoesPart-now (cancellation type id) old new follows.worked.moved.start follows.part))
      (clearing-part (now old) (row_at Two type) 32 id follows.part.added (omega arith) fits follows.part.part)

  pub cancel-count : AddsAtMost 1 old new
  cancel-count = AddsAtMost-plan 1 (cancellation type id) old new follows.part (omega arith)

  pub cancel-store : CancelsAtMost (now old) type id (now new)
  cancel-store = cancels_at_most type id (now old) (now new) cancel-changed row_may most

  pub cancel-stays : OnOk result (after ≡ with_cancelled fuses type id) → OnErr result (after ≡ fuses) → StaysButRow type (now old) fuses (now new) after
  cancel-stays ok err = on_either result ok err
      (λ is. stays_but_row type (now old) (now new) fuses after signing cancel-changed (subst (λ (kept : FusesState). SameButRow fuses type kept) (sym is) (same_with_row fuses type (with_cleared (row_of fuses type) id) signing)))
      (λ is. stays_but_row type (now old) (now new) fuses after signing cancel-changed (subst (λ (kept : FusesState). SameButRow fuses type kept) (sym is) (same_but_row fuses type)))

  row_done : OnOk result (now new ≡ play (now old) (cancellation type id))
  row_done = done_now (cancellation type id) old new result follows

  cleared : now new ≡ play (now old) (cancellation type id) → IsCleared (bytes_at (now new) (row_at Two type) 32) id
  cleared is = subst (λ (image : List ℕ). IsCleared (bytes_at image (row_at Two type) 32) id) (sym is) (IsCleared-program (now old) (row_at Two type) 32 id (omega arith) fits)

  pub cancel-ok : RowStands (now old) fuses type → OnOk result (Cancels fuses type id after) → OnOk result (RowStands (now new) after type)
  cancel-ok stands cancels = on_ok_with result row_done cancels (λ is c. row_stands_cancelled type id (now old) (now new) fuses after signing cancel-changed row_may (cleared is) c stands)

  pub cancel-done : OnOk result (IsCancelled (now new) type id)
  cancel-done = on_ok_weaker result (λ is.
      let bit : IsBit (now new) (row_at Two type) 32 id = record { within = omega arith; cleared = cleared is } in
      record { signing = signing; bit = (row_bit-two (now new) type id (cancel-changed.store.profile ∙ two)).1 bit }) row_done

  -- ---- what the store says
  row_says : fuses_of (now old) ≡ Ok fuses → SaysButRow type (now new) fuses
  row_says was = fuses_of-but_row type (now old) (now new) fuses signing cancel-changed was

  pub cancel-rest : OnOk result (after ≡ with_cancelled fuses type id) → OnErr result (after ≡ fuses) → fuses_of (now old) ≡ Ok fuses → fuses_of (now new) ≡ Ok (with_row after type (row_fuses (now new) type))
  cancel-rest ok err was = on_either result ok err
      (λ is. row_says was ∙ ap (λ (kept : FusesState). Ok kept)
      (sym (ap (λ (kept : FusesState). with_row kept type (row_fuses (now new) type)) is ∙ (same_rest fuses type (with_cleared (row_of fuses type) id) signing).again (row_fuses (now new) type))))
      (λ is. subst (SaysButRow type (now new)) (sym is) (row_says was))

  pub cancel-exact : OnOk result (after ≡ with_cancelled fuses type id) → OnOk result (fuses_of (now old) ≡ Ok fuses → fuses_of (now new) ≡ Ok after)
  cancel-exact ok = on_ok_with result row_done ok (λ is kept was.
      let row : row_fuses (now new) type ≡ with_cleared (row_of fuses type) id =
      row-cleared type (now old) (now new) id cancel-changed most is (omega (arith, (row_in_sector type signing).1))
      ∙ ap (λ (r : List ℕ). with_cleared r id) (sym (row_kept (now old) fuses type signing was)) in
      row_says was ∙ ap (λ (a : FusesState). Ok a) (ap (λ (r : List ℕ). with_row fuses type r) row ∙ sym kept))

-- ---- the kept fuses, by the rows that they are of
abbrev pub kept_of : RootSlot → Profile → Floors → CancelRows → FusesState
kept_of provision profile floors rows = record {
  provision = provision;
  profile = profile;
  bmc_floor = floors.bmc;
  pch_floor = floors.pch;
  pch_manifest = rows.pch_manifest;
  pch_capsule = rows.pch_capsule;
  bmc_manifest = rows.bmc_manifest;
  bmc_capsule = rows.bmc_capsule;
}

pub cancelled_view : (provision : RootSlot) (profile : Profile) (floors : Floors) (rows : CancelRows) (type : ContentType) (id : ℕ)
    → kept_of provision profile floors (with_keys rows type (with_cleared (keys_of_rows rows type) id)) ≡ with_cancelled (kept_of provision profile floors rows) type id
cancelled_view provision profile floors rows PchManifest id = refl
cancelled_view provision profile floors rows PchCapsule id = refl
cancelled_view provision profile floors rows BmcManifest id = refl
cancelled_view provision profile floors rows BmcCapsule id = refl
cancelled_view provision profile floors rows type id = refl

abbrev ClearsOne : CancelRows → ContentType → ℕ → CancelRows → Type 0
ClearsOne rows type id new = (k : ℕ) → k < 256 → (IsCleared (keys_of_rows new type) k ↔ (IsCleared (keys_of_rows rows type) k ⊎ (k ≡ id)))

pub cancels_view : (provision : RootSlot) (profile : Profile) (floors : Floors) (rows : CancelRows) (type : ContentType) (id : ℕ) (new : CancelRows)
    → ClearsOne rows type id new → Cancels (kept_of provision profile floors rows) type id (kept_of provision profile floors new)
cancels_view provision profile floors rows PchManifest id new h = record { fuses = h }
cancels_view provision profile floors rows PchCapsule id new h = record { fuses = h }
cancels_view provision profile floors rows BmcManifest id new h = record { fuses = h }
cancels_view provision profile floors rows BmcCapsule id new h = record { fuses = h }
cancels_view provision profile floors rows type id new h = record { fuses = h }
