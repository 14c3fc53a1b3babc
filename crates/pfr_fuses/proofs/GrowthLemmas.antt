-- Fuses at each count of operations, and at a call's answers.
use Rattle.std.proofs.Common.{◌≡◌, ℕ, ◌+◌, ◌-◌, ◌*◌, ◌≤◌, ◌<◌, List, [], ◌∷◌, length, take, get_or, refl, sym, ap, ◌∙◌, subst, arith, ◌⊎◌, inl, inr, Result, Ok, Err, OnOk, OnErr}
use Rattle.std.proofs.lemmas.Bool.{cases_lt}
use Rattle.pfr_flash.specs.Operation.{Operation, play}
use Rattle.pfr_flash.specs.FlashState.{FlashState, now, upto, size_of, op_count_of}
use Rattle.pfr_flash.specs.Moved.{Extends}
use Rattle.pfr_flash.specs.Plan.{DoesPart, Follows}
use Rattle.pfr_flash.specs.Range.{IsWithin, AllWithin, SameOutside, OnlyClears}
use Rattle.pfr_flash.specs.declared.flash.FlashFail.{FlashFail}
use Rattle.pfr_flash.proofs.CutLemmas.{AllPrograms, at_each, clears_between}
use Rattle.pfr_flash.proofs.PlayLemmas.{length-play}
use Rattle.pfr_flash.proofs.PlanLemmas.{AllWithin-part}
use Rattle.pfr_flash.proofs.FuseLemmas.{IsCleared-stays}
use Rattle.pfr_flash.proofs.RangeLemmas.{SameOutside-play, bytes_at-outside, length-now}
use Rattle.pfr_flash.proofs.StateLemmas.{upto-added, upto-Extends}
use Rattle.pfr_flash.proofs.FollowsLemmas.{Follows-now}
use Rattle.pfr_fuses.specs.Slots.{IsSet, IsProvisionedBy, IsUnset, slot_at}
use Rattle.pfr_fuses.specs.FuseMap.{IsBit, profile_of, floor_at, floor_width, row_at, row_width}
use Rattle.pfr_fuses.specs.Growth.{Grows, NeverGoesBack, KeepsProvision, AllAre, Adds}
use Rattle.pfr_fuses.specs.declared.profile.Profile.{Profile}

-- ---- the profile
pub profile_of-gate : (old new : List ℕ) → get_or new 0xA00 0 ≡ get_or old 0xA00 0 → profile_of new ≡ profile_of old
unfolding profile_of
profile_of-gate old new h = rw h refl

pub profile-outside : (from len : ℕ) (old new : List ℕ) → ((0xA00 < from) ⊎ (from + len ≤ 0xA00)) → SameOutside from len old new → profile_of new ≡ profile_of old
profile-outside from len old new apart same = profile_of-gate old new (same.stays 0xA00 apart)

-- ---- fuses that are only cleared
grown_bit : (old new : List ℕ) (at width k : ℕ) → OnlyClears old new → IsBit old at width k → IsBit new at width k
grown_bit old new at width k clears b = record { within = b.within; cleared = IsCleared-stays old new at width k clears b.within b.cleared }

pub Grows-clears : (old new : List ℕ) → profile_of new ≡ profile_of old → OnlyClears old new → Grows old new
Grows-clears old new same clears = record {
  floors = λ bank k b.
      subst (λ (p : Profile). IsBit new (floor_at p bank) (floor_width p) k) (sym same) (grown_bit old new (floor_at (profile_of old) bank) (floor_width (profile_of old)) k clears b);
  cancels = λ type id c. record {
    signing = c.signing;
    bit = subst (λ (p : Profile). IsBit new (row_at p type) (row_width p) id) (sym same) (grown_bit old new (row_at (profile_of old) type) (row_width (profile_of old)) id clears c.bit);
  };
}

pub then_grows : (a b c : List ℕ) → Grows a b → Grows b c → Grows a c
then_grows a b c h k = record { floors = λ bank n x. k.floors bank n (h.floors bank n x); cancels = λ type n x. k.cancels type n (h.cancels type n x) }

-- ---- calls
-- a call that programs outside of the profile gate never goes back
pub NeverGoesBack-programs : (from len : ℕ) (plan : List Operation) (old new : FlashState) → size_of old ≡ 32768 → new.start ≡ old.start → DoesPart plan old new
    → AllPrograms 32768 plan → AllWithin from len plan → ((0xA00 < from) ⊎ (from + len ≤ 0xA00)) → NeverGoesBack old new
NeverGoesBack-programs from len plan old new size start h programs within apart = record { grows = between }
  where
    same_profile : (n : ℕ) → op_count_of old ≤ n → profile_of (upto new n) ≡ profile_of (now old)
    same_profile n le = at_each (λ (image : List ℕ). profile_of image ≡ profile_of (now old)) plan old new start h
        (λ added part. profile-outside from len (now old) (play (now old) added) apart (SameOutside-play from len (now old) added (AllWithin-part from len (now old) plan added within part))) n le

    at_place : (n : ℕ) → op_count_of old ≤ n → upto new n ≡ play (now old) (take (n - op_count_of old) h.added)
    at_place n le =
        let more : op_count_of old + (n - op_count_of old) ≡ n = omega arith in
        subst (λ (k : ℕ). upto new k ≡ play (now old) (take (n - op_count_of old) h.added)) more (upto-added old new h.added (n - op_count_of old) start h.is)

    between : (m n : ℕ) → op_count_of old ≤ m → m ≤ n → n ≤ op_count_of new → Grows (upto new m) (upto new n)
    between m n low order high =
        let above : op_count_of old ≤ n = omega arith in
        let steps : m - op_count_of old ≤ n - op_count_of old = omega arith in
        let clears : OnlyClears (play (now old) (take (m - op_count_of old) h.added)) (play (now old) (take (n - op_count_of old) h.added)) =
        clears_between 32768 (now old) plan h.added (m - op_count_of old) (n - op_count_of old) (length-now old ∙ size) programs h.part steps in
        Grows-clears (upto new m) (upto new n) (same_profile n above ∙ sym (same_profile m low))
        (subst (λ (a : List ℕ). OnlyClears a (upto new n)) (sym (at_place m low))
        (subst (λ (b : List ℕ). OnlyClears (play (now old) (take (m - op_count_of old) h.added)) b) (sym (at_place n above)) clears))

-- two calls, or runs of calls, in a row
pub NeverGoesBack-trans : (a b c : FlashState) → c.start ≡ b.start → Extends b.ops c.ops → NeverGoesBack a b → NeverGoesBack b c → NeverGoesBack a c
NeverGoesBack-trans a b c start more h k = record { grows = λ m n low order high. by_place m n low order high (cases_lt (op_count_of b) m) (cases_lt n (op_count_of b)) }
  where
    in_first : (n : ℕ) → n ≤ op_count_of b → upto c n ≡ upto b n
    in_first n le = upto-Extends b c n start more le

    by_place : (m n : ℕ) → op_count_of a ≤ m → m ≤ n → n ≤ op_count_of c → ((op_count_of b < m) ⊎ (m ≤ op_count_of b)) → ((n < op_count_of b) ⊎ (op_count_of b ≤ n)) → Grows (upto c m) (upto c n)
    by_place m n low order high (inl later) q = k.grows m n (omega arith) order high
    by_place m n low order high (inr first) (inl early) = rw (in_first m first, in_first n (omega arith)) (h.grows m n low order (omega arith))
    by_place m n low order high (inr first) (inr late) =
        then_grows (upto c m) (upto c (op_count_of b)) (upto c n)
        (rw (in_first m first, in_first (op_count_of b) (omega arith)) (h.grows m (op_count_of b) low first (omega arith)))
        (k.grows (op_count_of b) n (omega arith) late high)

-- ---- the provision
pub IsProvisionedBy-same : (old new : List ℕ) (number : ℕ) → ((k : ℕ) → k < 8 → slot_at new k ≡ slot_at old k) → IsProvisionedBy old number → IsProvisionedBy new number
IsProvisionedBy-same old new number same h = record {
  within = h.within;
  gate = subst IsSet (sym (same number h.within)) h.gate;
  first = λ k below. λ (set : IsSet (slot_at new k)). h.first k below (subst IsSet (same k (omega (arith, h.within))) set);
}

-- bytes behind the slots are none of theirs
pub slots-outside : (from len : ℕ) (old new : List ℕ) → 2048 ≤ from → length old ≡ 32768 → length new ≡ length old → SameOutside from len old new → (k : ℕ) → k < 8 → slot_at new k ≡ slot_at old k
slots-outside from len old new low whole size same k below = bytes_at-outside from len old new (256 * k) 256 same size (inl (omega arith)) (omega arith)

-- two moments at which the slots are those of a third
slots_between : (first earlier later : List ℕ) (number : ℕ) → ((k : ℕ) → k < 8 → slot_at earlier k ≡ slot_at first k) → ((k : ℕ) → k < 8 → slot_at later k ≡ slot_at first k) → IsProvisionedBy earlier number
    → IsProvisionedBy later number × (slot_at later number ≡ slot_at earlier number)
slots_between first earlier later number before after by =
    let same : (k : ℕ) → k < 8 → slot_at later k ≡ slot_at earlier k = λ k below. after k below ∙ sym (before k below) in
    (IsProvisionedBy-same earlier later number same by, same number by.within)

pub KeepsProvision-plan : (from len : ℕ) (plan : List Operation) (old new : FlashState) → size_of old ≡ 32768 → new.start ≡ old.start → DoesPart plan old new → 2048 ≤ from
    → AllWithin from len plan → KeepsProvision old new
KeepsProvision-plan from len plan old new size start h low within =
    record { keeps = λ m n number above order high by. slots_between (now old) (upto new m) (upto new n) number (same m above) (same n (omega arith)) by }
  where
    SameSlots : List ℕ → Type 0
    SameSlots image = (k : ℕ) → k < 8 → slot_at image k ≡ slot_at (now old) k

    same : (n : ℕ) → op_count_of old ≤ n → SameSlots (upto new n)
    same n le = at_each SameSlots plan old new start h
        (λ added part. slots-outside from len (now old) (play (now old) added) low (length-now old ∙ size) (length-play (now old) added)
        (SameOutside-play from len (now old) added (AllWithin-part from len (now old) plan added within part))) n le

-- what holds at one moment
one_moment : (d : FlashState) (m n number : ℕ) → m ≡ n → IsProvisionedBy (upto d m) number → IsProvisionedBy (upto d n) number × (slot_at (upto d n) number ≡ slot_at (upto d m) number)
one_moment d m n number e by = subst (λ (k : ℕ). IsProvisionedBy (upto d k) number × (slot_at (upto d k) number ≡ slot_at (upto d m) number)) e (by, refl)

-- where no operation is done
pub KeepsProvision-none : (old new : FlashState) → new.ops ≡ old.ops → KeepsProvision old new
KeepsProvision-none old new same =
    let count : op_count_of new ≡ op_count_of old = ap (λ (ops : List Operation). length ops) same in
    record { keeps = λ m n number low order high by. one_moment new m n number (omega (arith, count)) by }

-- where at each moment but the last no slot is set
pub KeepsProvision-last : (old new : FlashState) → ((n : ℕ) → op_count_of old ≤ n → n < op_count_of new → IsUnset (upto new n)) → KeepsProvision old new
KeepsProvision-last old new unset = record { keeps = λ m n number low order high by. by_order m n number low order high by (cases_lt m n) }
  where
    by_order : (m n number : ℕ) → op_count_of old ≤ m → m ≤ n → n ≤ op_count_of new → IsProvisionedBy (upto new m) number → ((m < n) ⊎ (n ≤ m))
        → IsProvisionedBy (upto new n) number × (slot_at (upto new n) number ≡ slot_at (upto new m) number)
    by_order m n number low order high by (inl earlier) = absurd ((unset m low (omega arith)).gates number by.within by.gate)
    by_order m n number low order high by (inr same) = one_moment new m n number (omega arith) by

-- two calls, or runs of calls, in a row
pub KeepsProvision-trans : (a b c : FlashState) → c.start ≡ b.start → Extends b.ops c.ops → KeepsProvision a b → KeepsProvision b c → KeepsProvision a c
KeepsProvision-trans a b c start more h k =
    record { keeps = λ m n number low order high by. by_place m n number low order high by (cases_lt (op_count_of b) m) (cases_lt n (op_count_of b)) }
  where
    in_first : (n : ℕ) → n ≤ op_count_of b → upto c n ≡ upto b n
    in_first n le = upto-Extends b c n start more le

    first_keeps : (m n number : ℕ) → op_count_of a ≤ m → m ≤ n → n ≤ op_count_of b → IsProvisionedBy (upto c m) number
        → IsProvisionedBy (upto c n) number × (slot_at (upto c n) number ≡ slot_at (upto c m) number)
    first_keeps m n number low order high by =
        rw (in_first m (omega arith), in_first n high) (h.keeps m n number low order high (subst (λ (image : List ℕ). IsProvisionedBy image number) (in_first m (omega arith)) by))

    by_place : (m n number : ℕ) → op_count_of a ≤ m → m ≤ n → n ≤ op_count_of c → IsProvisionedBy (upto c m) number → ((op_count_of b < m) ⊎ (m ≤ op_count_of b))
        → ((n < op_count_of b) ⊎ (op_count_of b ≤ n)) → IsProvisionedBy (upto c n) number × (slot_at (upto c n) number ≡ slot_at (upto c m) number)
    by_place m n number low order high by (inl later) q = k.keeps m n number (omega arith) order high by
    by_place m n number low order high by (inr first) (inl early) = first_keeps m n number low order (omega arith) by
    by_place m n number low order high by (inr first) (inr late) =
        let middle = first_keeps m (op_count_of b) number low first (omega arith) by in
        let end = k.keeps (op_count_of b) n number (omega arith) late high middle.0 in
        (end.0, end.1 ∙ middle.1)

-- ---- the operations that are added
pub AllAre-within : (from len : ℕ) (ops : List Operation) → AllWithin from len ops → AllAre (λ op. IsWithin from len op) ops
AllAre-within from len [] h = tt
AllAre-within from len (op ∷ ops) h = (h.0, AllAre-within from len ops h.1)

pub Adds-within : (from len : ℕ) (plan : List Operation) (old new : FlashState) → AllWithin from len plan → DoesPart plan old new → Adds (λ op. IsWithin from len op) old new
Adds-within from len plan old new within h = record { added = h.added; is = h.is; all = AllAre-within from len h.added (AllWithin-part from len (now old) plan h.added within h.part) }

-- ---- what holds at the one answer of a call, or at both
pub on_either : {T E P Q S : Type 0} (r : Result T E) → OnOk r P → OnErr r Q → (P → S) → (Q → S) → S
on_either (Ok x) p q f g = f p
on_either (Err e) p q f g = g q

pub on_ok_with : {T E P Q S : Type 0} (r : Result T E) → OnOk r P → OnOk r Q → (P → Q → S) → OnOk r S
on_ok_with (Ok x) p q f = f p q
on_ok_with (Err e) p q f = tt

pub on_err : {T E S : Type 0} (r : Result T E) → S → OnErr r S
on_err (Ok x) s = tt
on_err (Err e) s = s

-- at Ok the device has the bytes that the plan leaves
pub done_now : (plan : List Operation) (old new : FlashState) (result : Result (Unit {0}) FlashFail) → Follows plan old new result → OnOk result (now new ≡ play (now old) plan)
done_now plan old new (Ok u) h = Follows-now plan old new u h
done_now plan old new (Err f) h = tt
