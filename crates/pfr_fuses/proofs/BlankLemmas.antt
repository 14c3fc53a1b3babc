-- The searches for the slot that provisions the platform and for the first blank one, and what is judged of a provision.
use Rattle.std.proofs.Common.{◌≡◌, ℕ, zero, suc, ◌+◌, ◌-◌, ◌*◌, ◌≤◌, ◌<◌, Bool, true, false, ◌||◌, if◌then◌else◌, List, ◌∷◌, Option, Some, None, Result, Ok, Err, refl, sym, ap, ◌∙◌, subst, arith, ◌⊎◌, inl, inr, slice_index}
use Rattle.std.specs.Prelude.{◌≢◌, ◌==◌}
use Rattle.std.specs.Bool.{Decides}
use Rattle.std.specs.List.{find, list_any}
use Rattle.std.proofs.lemmas.Bool.{cases_eq, false≢true}
use Rattle.std.proofs.lemmas.Bool.Decides.{Decides-eqb, Decides-not, Decides-by_and, not_from_Decides}
use Rattle.pfr_flash.specs.Bytes.{bytes_at}
use Rattle.pfr_flash.specs.Judging.{known, told_as, ◌>>=◌}
use Rattle.pfr_flash.specs.Layout.{judge_layout}
use Rattle.pfr_flash.specs.declared.layout.LayoutRule.{LayoutRule}
use Rattle.pfr_flash.specs.declared.names.Bank.TheVariants.{Bmc, Pch}
use Rattle.pfr_flash.proofs.LayoutLemmas.{judged_valid, valid_judged}
use Rattle.pfr_fuses.specs.Slots.{IsSet, IsBlank, IsProvisionedBy, IsUnset, HasBlank, slot_at, is_set, is_blank, slots_from, choose_slot, provisioned_slot}
use Rattle.pfr_fuses.specs.Provisioning.{IsFirstBlank, IsProvisionable, IsBarred, blank_from, found_first, judge_slots, judge_places, judge_provision}
use Rattle.pfr_fuses.specs.declared.fuse_fail.FuseFail.{FuseFail}
use Rattle.pfr_fuses.specs.declared.fuse_fail.FuseFail.TheVariants.{NotProvisioned, SlotsSpent, AlreadyProvisioned, LayoutBad, Flash}
use Rattle.pfr_fuses.specs.declared.root_slot.RootSlot.{RootSlot}

-- ---- what the tests decide
pub Decides-is_set : (slot : List ℕ) → Decides (is_set slot) (IsSet slot)
Decides-is_set slot = Decides-not (slice_index slot 255 == 255) (Decides-eqb (slice_index slot 255) 255)

pub Decides-is_blank : (slot : List ℕ) → Decides (is_blank slot) (IsBlank slot)
Decides-is_blank slot = Decides-by_and (λ byte. byte == 255) (λ byte. byte ≡ 255) is_blank (λ byte. Decides-eqb byte 255) refl (λ _ _. refl) slot

-- ---- the search, a slot at a time
-- the choice among the slots that are left, when a blank one was seen or not
abbrev pub choose_after : Bool → List (List ℕ) → Result (List ℕ) FuseFail
choose_after seen slots = known (if seen || list_any is_blank slots then NotProvisioned else SlotsSpent) (find is_set slots)

pub choose_after-set : (seen : Bool) (slot : List ℕ) (slots : List (List ℕ)) → is_set slot ≡ true → choose_after seen (slot ∷ slots) ≡ Ok slot
choose_after-set seen slot slots h = rw h refl

pub choose_after-unset : (seen : Bool) (slot : List ℕ) (slots : List (List ℕ)) → is_set slot ≡ false → choose_after seen (slot ∷ slots) ≡ choose_after (seen || is_blank slot) slots
choose_after-unset true slot slots h = rw h refl
choose_after-unset false slot slots h = rw h refl

-- one is left, and the others
left : (number : ℕ) → number < 8 → 8 - number ≡ suc (8 - (number + 1))
left number h = omega arith

-- a step of the search that finds the slot, and one that goes on
pub search_ends : (store image slot : List ℕ) (number : ℕ) (seen : Bool) → number < 8 → image ≡ store → slot ≡ bytes_at image (256 * number) 256 → true ≡ is_set slot
    → choose_after seen (slots_from store number (8 - number)) ≡ provisioned_slot store → provisioned_slot store ≡ Ok slot
search_ends store image slot number seen below same read set h =
    let e : slot ≡ slot_at store number = read ∙ ap (λ (xs : List ℕ). slot_at xs number) same in
    let gate : is_set (slot_at store number) ≡ true = ap is_set (sym e) ∙ sym set in
    sym h ∙ ap (λ (count : ℕ). choose_after seen (slots_from store number count)) (left number below) ∙ choose_after-set seen (slot_at store number) (slots_from store (number + 1) (8 - (number + 1))) gate ∙ ap (λ (xs : List ℕ). Ok xs) (sym e)

pub search_goes_on : (store image slot : List ℕ) (number : ℕ) (seen blank : Bool) → number < 8 → image ≡ store → slot ≡ bytes_at image (256 * number) 256 → false ≡ is_set slot → blank ≡ is_blank slot
    → choose_after seen (slots_from store number (8 - number)) ≡ provisioned_slot store
    → choose_after (seen || blank) (slots_from store (number + 1) (8 - (number + 1))) ≡ provisioned_slot store
search_goes_on store image slot number seen blank below same read unset test h =
    let e : slot ≡ slot_at store number = read ∙ ap (λ (xs : List ℕ). slot_at xs number) same in
    let gate : is_set (slot_at store number) ≡ false = ap is_set (sym e) ∙ sym unset in
    let same_test : blank ≡ is_blank (slot_at store number) = test ∙ ap is_blank e in
    ap (λ (b : Bool). choose_after (seen || b) (slots_from store (number + 1) (8 - (number + 1)))) same_test
    ∙ sym (choose_after-unset seen (slot_at store number) (slots_from store (number + 1) (8 - (number + 1))) gate)
    ∙ sym (ap (λ (count : ℕ). choose_after seen (slots_from store number count)) (left number below)) ∙ h

-- ---- the law
-- of so many slots from one on, the number of the first that a test finds
abbrev pub number_from : (List ℕ → Bool) → List ℕ → ℕ → ℕ → Option ℕ
number_from test nv from zero = None
number_from test nv from (suc count) = if test (slot_at nv from) then Some from else number_from test nv (from + 1) count

record IsFound (test : List ℕ → Bool) (nv : List ℕ) (from count k : ℕ) : Type 0 where
  low : from ≤ k
  high : k < from + count
  here : test (slot_at nv k) ≡ true
  before : (j : ℕ) → from ≤ j → j < k → test (slot_at nv j) ≡ false

abbrev Finds : (List ℕ → Bool) → List ℕ → ℕ → ℕ → Option ℕ → Type 0
Finds test nv from count (Some k) = IsFound test nv from count k
Finds test nv from count None = (j : ℕ) → from ≤ j → j < from + count → test (slot_at nv j) ≡ false

finds : (test : List ℕ → Bool) (nv : List ℕ) (from count : ℕ) → Finds test nv from count (number_from test nv from count)
finds test nv from zero = λ j low below. absurd (omega arith)
finds test nv from (suc count) = by_test (test (slot_at nv from)) refl (number_from test nv (from + 1) count) (finds test nv (from + 1) count)
  where
    next : (k : ℕ) → test (slot_at nv from) ≡ false → ((j : ℕ) → from + 1 ≤ j → j < k → test (slot_at nv j) ≡ false) → (j : ℕ) → from ≤ j → j < k → test (slot_at nv j) ≡ false
    next k here rest j low below = by_place (cases_eq j from)
      where
        by_place : ((j ≡ from) ⊎ (j ≢ from)) → test (slot_at nv j) ≡ false
        by_place (inl same) = rw same here
        by_place (inr other) = rest j (omega (arith, other)) below

    by_test : (b : Bool) → test (slot_at nv from) ≡ b → (r : Option ℕ) → Finds test nv (from + 1) count r → Finds test nv from (suc count) (if b then Some from else r)
    by_test true here r h = record { low = omega arith; high = omega arith; here = here; before = λ j low below. absurd (omega arith) }
    by_test false here (Some k) h = record { low = omega (arith, h.low); high = omega (arith, h.high); here = h.here; before = next k here h.before }
    by_test false here None h = next (from + suc count) here (λ j low below. h j low (omega arith))

-- which number it is, where one is the first or none is found
number-first : (test : List ℕ → Bool) (nv : List ℕ) (k : ℕ) → k < 8 → test (slot_at nv k) ≡ true → ((j : ℕ) → j < k → test (slot_at nv j) ≡ false) → number_from test nv 0 8 ≡ Some k
number-first test nv k below here before = by_found (number_from test nv 0 8) (finds test nv 0 8)
  where
    by_found : (r : Option ℕ) → Finds test nv 0 8 r → r ≡ Some k
    by_found None h = absurd (false≢true (sym (h k (omega arith) (omega arith)) ∙ here))
    by_found (Some j) h =
        let not_below : ¬ (j < k) = λ (q : j < k). false≢true (sym (before j q) ∙ h.here) in
        let not_above : ¬ (k < j) = λ (q : k < j). false≢true (sym (h.before k (omega arith) q) ∙ here) in
        let same : j ≡ k = omega (arith, not_below, not_above) in
        ap (λ (n : ℕ). Some n) same

number-none : (test : List ℕ → Bool) (nv : List ℕ) → ((j : ℕ) → j < 8 → test (slot_at nv j) ≡ false) → number_from test nv 0 8 ≡ None
number-none test nv none = by_found (number_from test nv 0 8) (finds test nv 0 8)
  where
    by_found : (r : Option ℕ) → Finds test nv 0 8 r → r ≡ None
    by_found None h = refl
    by_found (Some j) h = absurd (false≢true (sym (none j (omega (arith, h.high))) ∙ h.here))

-- what other searches find
abbrev slot_numbered : List ℕ → Option ℕ → Option (List ℕ)
slot_numbered nv (Some k) = Some (slot_at nv k)
slot_numbered nv None = None

find_number : (test : List ℕ → Bool) (nv : List ℕ) (from count : ℕ) → find test (slots_from nv from count) ≡ slot_numbered nv (number_from test nv from count)
find_number test nv from zero = refl
find_number test nv from (suc count) = by_test (test (slot_at nv from)) (find_number test nv (from + 1) count)
  where
    by_test : (b : Bool) → find test (slots_from nv (from + 1) count) ≡ slot_numbered nv (number_from test nv (from + 1) count)
        → (if b then Some (slot_at nv from) else find test (slots_from nv (from + 1) count)) ≡ slot_numbered nv (if b then Some from else number_from test nv (from + 1) count)
    by_test true rest = refl
    by_test false rest = rest

abbrev is_numbered : Option ℕ → Bool
is_numbered (Some k) = true
is_numbered None = false

any_number : (test : List ℕ → Bool) (nv : List ℕ) (from count : ℕ) → list_any test (slots_from nv from count) ≡ is_numbered (number_from test nv from count)
any_number test nv from zero = refl
any_number test nv from (suc count) = by_test (test (slot_at nv from)) (any_number test nv (from + 1) count)
  where
    by_test : (b : Bool) → list_any test (slots_from nv (from + 1) count) ≡ is_numbered (number_from test nv (from + 1) count)
        → (b || list_any test (slots_from nv (from + 1) count)) ≡ is_numbered (if b then Some from else number_from test nv (from + 1) count)
    by_test true rest = refl
    by_test false rest = rest

any_some : (test : List ℕ → Bool) (nv : List ℕ) (k : ℕ) → k < 8 → test (slot_at nv k) ≡ true → list_any test (slots_from nv 0 8) ≡ true
any_some test nv k below here = any_number test nv 0 8 ∙ by_found (number_from test nv 0 8) (finds test nv 0 8)
  where
    by_found : (r : Option ℕ) → Finds test nv 0 8 r → is_numbered r ≡ true
    by_found None h = absurd (false≢true (sym (h k (omega arith) (omega arith)) ∙ here))
    by_found (Some j) h = refl

any_none : (test : List ℕ → Bool) (nv : List ℕ) → ((j : ℕ) → j < 8 → test (slot_at nv j) ≡ false) → list_any test (slots_from nv 0 8) ≡ false
any_none test nv none = any_number test nv 0 8 ∙ ap is_numbered (number-none test nv none)

-- ---- what it says of gates and of blank slots
test_false : (b : Bool) (P : Type 0) → Decides b P → ¬ P → b ≡ false
test_false true P d none = absurd (none (d.0 refl))
test_false false P d none = refl

tests_unset : (nv : List ℕ) → IsUnset nv → (k : ℕ) → k < 8 → is_set (slot_at nv k) ≡ false
tests_unset nv h k below = test_false (is_set (slot_at nv k)) (IsSet (slot_at nv k)) (Decides-is_set (slot_at nv k)) (h.gates k below)

-- a store is provisioned by a slot, or none has its gate set
pub provisioned_or_unset : (nv : List ℕ) → ((k : ℕ) × IsProvisionedBy nv k) ⊎ IsUnset nv
provisioned_or_unset nv = by_found (number_from is_set nv 0 8) (finds is_set nv 0 8)
  where
    not_set : (k : ℕ) → is_set (slot_at nv k) ≡ false → ¬ IsSet (slot_at nv k)
    not_set k h = not_from_Decides (is_set (slot_at nv k)) (Decides-is_set (slot_at nv k)) h

    by_found : (r : Option ℕ) → Finds is_set nv 0 8 r → ((k : ℕ) × IsProvisionedBy nv k) ⊎ IsUnset nv
    by_found (Some k) h = inl (k, record { within = omega (arith, h.high); gate = (Decides-is_set (slot_at nv k)).0 h.here; first = λ j below. not_set j (h.before j (omega arith) below) })
    by_found None h = inr (record { gates = λ k below. not_set k (h k (omega arith) (omega arith)) })

-- the first blank slot, or there is none
abbrev pub FoundBlank : List ℕ → Option ℕ → Type 0
FoundBlank nv (Some number) = IsFirstBlank nv number
FoundBlank nv None = ¬ HasBlank nv

pub found_blank : (nv : List ℕ) → FoundBlank nv (number_from is_blank nv 0 8)
found_blank nv = by_found (number_from is_blank nv 0 8) (finds is_blank nv 0 8)
  where
    not_blank : (k : ℕ) → is_blank (slot_at nv k) ≡ false → ¬ IsBlank (slot_at nv k)
    not_blank k h = not_from_Decides (is_blank (slot_at nv k)) (Decides-is_blank (slot_at nv k)) h

    by_found : (r : Option ℕ) → Finds is_blank nv 0 8 r → FoundBlank nv r
    by_found (Some k) h = record { within = omega (arith, h.high); blank = (Decides-is_blank (slot_at nv k)).0 h.here; first = λ j below. not_blank j (h.before j (omega arith) below) }
    by_found None h = λ (b : HasBlank nv). not_blank b.number (h b.number (omega arith) (omega (arith, b.within))) b.blank

-- some slot is blank, or none
pub blank_or_spent : (nv : List ℕ) → HasBlank nv ⊎ (¬ HasBlank nv)
blank_or_spent nv = by_found (number_from is_blank nv 0 8) (found_blank nv)
  where
    by_found : (r : Option ℕ) → FoundBlank nv r → HasBlank nv ⊎ (¬ HasBlank nv)
    by_found (Some k) h = inl (record { number = k; within = h.within; blank = h.blank })
    by_found None h = inr h

-- ---- what is chosen
choose_none : (slots : List (List ℕ)) (b : Bool) → find is_set slots ≡ None → list_any is_blank slots ≡ b → choose_slot slots ≡ Err (if b then NotProvisioned else SlotsSpent)
choose_none slots b h e = rw (h, e) refl

find_none : (nv : List ℕ) → IsUnset nv → find is_set (slots_from nv 0 8) ≡ None
find_none nv h = find_number is_set nv 0 8 ∙ ap (slot_numbered nv) (number-none is_set nv (tests_unset nv h))

pub provisioned_slot-found : (nv : List ℕ) (k : ℕ) → IsProvisionedBy nv k → provisioned_slot nv ≡ Ok (slot_at nv k)
unfolding provisioned_slot
provisioned_slot-found nv k h =
    let number : number_from is_set nv 0 8 ≡ Some k = number-first is_set nv k h.within ((Decides-is_set (slot_at nv k)).1 h.gate)
    (λ j below. test_false (is_set (slot_at nv j)) (IsSet (slot_at nv j)) (Decides-is_set (slot_at nv j)) (h.first j below)) in
    ap (known (if list_any is_blank (slots_from nv 0 8) then NotProvisioned else SlotsSpent)) (find_number is_set nv 0 8 ∙ ap (slot_numbered nv) number)

pub provisioned_slot-blank : (nv : List ℕ) → IsUnset nv → HasBlank nv → provisioned_slot nv ≡ Err NotProvisioned
unfolding provisioned_slot
provisioned_slot-blank nv h b = choose_none (slots_from nv 0 8) true (find_none nv h) (any_some is_blank nv b.number b.within ((Decides-is_blank (slot_at nv b.number)).1 b.blank))

pub provisioned_slot-spent : (nv : List ℕ) → IsUnset nv → ¬ HasBlank nv → provisioned_slot nv ≡ Err SlotsSpent
unfolding provisioned_slot
provisioned_slot-spent nv h spent = choose_none (slots_from nv 0 8) false (find_none nv h) (any_none is_blank nv (λ k below.
    test_false (is_blank (slot_at nv k)) (IsBlank (slot_at nv k)) (Decides-is_blank (slot_at nv k)) (λ (b : IsBlank (slot_at nv k)). spent (record { number = k; within = below; blank = b }))))

-- ---- the first blank slot, a slot at a time
-- what is judged of the slots that are left, when this slot was found or none
abbrev pub judge_after : Option ℕ → List ℕ → ℕ → ℕ → Result (Option ℕ) FuseFail
judge_after found nv number count = if list_any is_set (slots_from nv number count) then Err AlreadyProvisioned else Ok (found_first found (blank_from nv number count))

found_then : (found : Option ℕ) (b : Bool) (number : ℕ) (rest : Option ℕ) → found_first found (if b then Some number else rest) ≡ found_first (found_first found (if b then Some number else None)) rest
found_then (Some first) b number rest = refl
found_then None true number rest = refl
found_then None false number rest = refl

after_set : (found : Option ℕ) (nv : List ℕ) (number count : ℕ) → is_set (slot_at nv number) ≡ true → judge_after found nv number (suc count) ≡ Err AlreadyProvisioned
after_set found nv number count h = rw h refl

after_unset : (found : Option ℕ) (nv : List ℕ) (number count : ℕ) → is_set (slot_at nv number) ≡ false
    → judge_after found nv number (suc count) ≡ judge_after (found_first found (if is_blank (slot_at nv number) then Some number else None)) nv (number + 1) count
after_unset found nv number count h =
    rw h (ap (λ (blank : Option ℕ). if list_any is_set (slots_from nv (number + 1) count) then Err AlreadyProvisioned else Ok blank)
    (found_then found (is_blank (slot_at nv number)) number (blank_from nv (number + 1) count)))

pub judge_ends : (store image slot : List ℕ) (number : ℕ) (found : Option ℕ) → number < 8 → image ≡ store → slot ≡ bytes_at image (256 * number) 256 → true ≡ is_set slot
    → judge_after found store number (8 - number) ≡ judge_slots store → judge_slots store ≡ Err AlreadyProvisioned
judge_ends store image slot number found below same read set h =
    let e : slot ≡ slot_at store number = read ∙ ap (λ (xs : List ℕ). slot_at xs number) same in
    let gate : is_set (slot_at store number) ≡ true = ap is_set (sym e) ∙ sym set in
    sym h ∙ ap (λ (count : ℕ). judge_after found store number count) (left number below) ∙ after_set found store number (8 - (number + 1)) gate

pub judge_goes_on : (store image slot : List ℕ) (number : ℕ) (found next : Option ℕ) → number < 8 → image ≡ store → slot ≡ bytes_at image (256 * number) 256 → false ≡ is_set slot
    → next ≡ found_first found (if is_blank slot then Some number else None)
    → judge_after found store number (8 - number) ≡ judge_slots store → judge_after next store (number + 1) (8 - (number + 1)) ≡ judge_slots store
judge_goes_on store image slot number found next below same read unset is h =
    let e : slot ≡ slot_at store number = read ∙ ap (λ (xs : List ℕ). slot_at xs number) same in
    let gate : is_set (slot_at store number) ≡ false = ap is_set (sym e) ∙ sym unset in
    let same_next : next ≡ found_first found (if is_blank (slot_at store number) then Some number else None) = is ∙ ap (λ (s : List ℕ). found_first found (if is_blank s then Some number else None)) e in
    ap (λ (f : Option ℕ). judge_after f store (number + 1) (8 - (number + 1))) same_next
    ∙ sym (after_unset found store number (8 - (number + 1)) gate)
    ∙ sym (ap (λ (count : ℕ). judge_after found store number count) (left number below)) ∙ h

-- ---- what is judged
blank_number : (nv : List ℕ) (from count : ℕ) → blank_from nv from count ≡ number_from is_blank nv from count
blank_number nv from zero = refl
blank_number nv from (suc count) = ap (λ (rest : Option ℕ). if is_blank (slot_at nv from) then Some from else rest) (blank_number nv (from + 1) count)

-- where some slot is set, or none is and the first blank one was found
slots_judged : (P : Result (Option ℕ) FuseFail → Type 0) (nv : List ℕ) → ((number : ℕ) → IsProvisionedBy nv number → P (Err AlreadyProvisioned)) → (IsUnset nv → FoundBlank nv (blank_from nv 0 8) → P (Ok (blank_from nv 0 8)))
    → P (judge_slots nv)
unfolding judge_slots
slots_judged P nv some none = by_search (provisioned_or_unset nv)
  where
    by_search : (((k : ℕ) × IsProvisionedBy nv k) ⊎ IsUnset nv) → P (if list_any is_set (slots_from nv 0 8) then Err AlreadyProvisioned else Ok (blank_from nv 0 8))
    by_search (inl found) = rw (any_some is_set nv found.0 found.1.within ((Decides-is_set (slot_at nv found.0)).1 found.1.gate)) (some found.0 found.1)
    by_search (inr unset) = rw (any_none is_set nv (tests_unset nv unset)) (none unset (subst (FoundBlank nv) (sym (blank_number nv 0 8)) (found_blank nv)))

abbrev choose : Result (Unit {0}) LayoutRule → Result (Unit {0}) LayoutRule → Option ℕ → Result ℕ FuseFail
choose bmc pch blank = told_as (LayoutBad Bmc) bmc >>= λ _. (told_as (LayoutBad Pch) pch >>= λ _. known SlotsSpent blank)

-- what a judgement says
abbrev pub JudgedSo : List ℕ → RootSlot → ℕ → ℕ → Result ℕ FuseFail → Type 0
JudgedSo nv what bmc_size pch_size (Ok number) = IsProvisionable nv what bmc_size pch_size number
JudgedSo nv what bmc_size pch_size (Err cause) = IsBarred nv what bmc_size pch_size cause

chosen : (nv : List ℕ) (what : RootSlot) (bmc_size pch_size : ℕ) → IsUnset nv → (bmc pch : Result (Unit {0}) LayoutRule) → judge_layout what.bmc bmc_size ≡ bmc → judge_layout what.pch pch_size ≡ pch
    → (blank : Option ℕ) → FoundBlank nv blank → JudgedSo nv what bmc_size pch_size (choose bmc pch blank)
chosen nv what bmc_size pch_size unset (Err rule) pch b p blank found = (unset, b)
chosen nv what bmc_size pch_size unset (Ok u) (Err rule) b p blank found = (unset, judged_valid what.bmc bmc_size b, p)
chosen nv what bmc_size pch_size unset (Ok u) (Ok v) b p None found =
    (unset, judged_valid what.bmc bmc_size b, judged_valid what.pch pch_size p, found)
chosen nv what bmc_size pch_size unset (Ok u) (Ok v) b p (Some number) found = record {
  unset = unset;
  bmc = judged_valid what.bmc bmc_size b;
  pch = judged_valid what.pch pch_size p;
  slot = found;
}

-- a provision is judged so: it may be done in that slot, or this bars it
pub judged_so : (nv : List ℕ) (what : RootSlot) (bmc_size pch_size : ℕ) → JudgedSo nv what bmc_size pch_size (judge_provision nv what bmc_size pch_size)
unfolding judge_provision judge_places
judged_so nv what bmc_size pch_size =
    slots_judged (λ slots. JudgedSo nv what bmc_size pch_size (slots >>= λ blank. choose (judge_layout what.bmc bmc_size) (judge_layout what.pch pch_size) blank)) nv
    (λ number by. (number, by))
    (λ unset found. chosen nv what bmc_size pch_size unset (judge_layout what.bmc bmc_size) (judge_layout what.pch pch_size) refl refl (blank_from nv 0 8) found)

pub judged-ok : (nv : List ℕ) (what : RootSlot) (bmc_size pch_size number : ℕ) → judge_provision nv what bmc_size pch_size ≡ Ok number → IsProvisionable nv what bmc_size pch_size number
judged-ok nv what bmc_size pch_size number h = subst (JudgedSo nv what bmc_size pch_size) h (judged_so nv what bmc_size pch_size)

pub judged-err : (nv : List ℕ) (what : RootSlot) (bmc_size pch_size : ℕ) (cause : FuseFail) → judge_provision nv what bmc_size pch_size ≡ Err cause → IsBarred nv what bmc_size pch_size cause
judged-err nv what bmc_size pch_size cause h = subst (JudgedSo nv what bmc_size pch_size) h (judged_so nv what bmc_size pch_size)

-- a store that is provisioned is never provisioned again
pub judged-provisioned : (nv : List ℕ) (what : RootSlot) (bmc_size pch_size slot : ℕ) → IsProvisionedBy nv slot → judge_provision nv what bmc_size pch_size ≡ Err AlreadyProvisioned
unfolding judge_provision
judged-provisioned nv what bmc_size pch_size slot by =
    slots_judged (λ slots. (slots >>= judge_places what bmc_size pch_size) ≡ Err AlreadyProvisioned) nv (λ number h. refl) (λ unset found. absurd (unset.gates slot by.within by.gate))

-- ---- and what may be provisioned is judged so
same_first : (nv : List ℕ) (a b : ℕ) → IsFirstBlank nv a → IsFirstBlank nv b → a ≡ b
same_first nv a b h k =
    let not_below : ¬ (a < b) = λ (q : a < b). k.first a q h.blank in
    let not_above : ¬ (b < a) = λ (q : b < a). h.first b q k.blank in
    omega (arith, not_below, not_above)

not_barred : (nv : List ℕ) (what : RootSlot) (bmc_size pch_size number : ℕ) (cause : FuseFail) → IsProvisionable nv what bmc_size pch_size number → IsBarred nv what bmc_size pch_size cause → ⊥
not_barred nv what bmc_size pch_size number AlreadyProvisioned h b = h.unset.gates b.0 b.1.within b.1.gate
not_barred nv what bmc_size pch_size number (LayoutBad Bmc rule) h b = let fine = valid_judged what.bmc bmc_size h.bmc in let bad = b.1 in cc
not_barred nv what bmc_size pch_size number (LayoutBad Pch rule) h b = let fine = valid_judged what.pch pch_size h.pch in let bad = b.2 in cc
not_barred nv what bmc_size pch_size number SlotsSpent h b = b.3 (record { number = number; within = h.slot.within; blank = h.slot.blank })
not_barred nv what bmc_size pch_size number NotProvisioned h b = b
not_barred nv what bmc_size pch_size number (Flash f) h b = b

pub provisionable-judged : (nv : List ℕ) (what : RootSlot) (bmc_size pch_size number : ℕ) → IsProvisionable nv what bmc_size pch_size number → judge_provision nv what bmc_size pch_size ≡ Ok number
provisionable-judged nv what bmc_size pch_size number h = by_judge (judge_provision nv what bmc_size pch_size) (judged_so nv what bmc_size pch_size)
  where
    by_judge : (j : Result ℕ FuseFail) → JudgedSo nv what bmc_size pch_size j → j ≡ Ok number
    by_judge (Ok other) so = ap (λ (n : ℕ). Ok n) (same_first nv other number so.slot h.slot)
    by_judge (Err cause) so = absurd (not_barred nv what bmc_size pch_size number cause h so)
