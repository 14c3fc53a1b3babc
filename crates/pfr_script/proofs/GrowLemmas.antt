-- A script that grows keeps what is true of every script.
use Rattle.std.proofs.Common.{◌≡◌, ℕ, ◌+◌, ◌<◌, ◌≤◌, Bool, true, false, ◌&&◌, ◌||◌, not, nat_lt, cond, List, [], ◌∷◌, ◌++◌, length, Option, Some, None, refl, sym, ◌∙◌, ap, arith, add-zero, zero-add, length-append}
use Rattle.std.proofs.lemmas.Bool.Decides.{Decides-ltb}
use Rattle.std.proofs.lemmas.List.Elements.{All-push, All-weaker}
use Rattle.std.proofs.lemmas.List.Sums.{sum_by-append}
use Rattle.std.proofs.lemmas.Option.{slice_get_within}
use Rattle.pfr_flash.specs.declared.names.Device.{Device}
use Rattle.pfr_flash.specs.declared.names.Device.TheVariants.{Bmc, Pch, Nv}
use Rattle.pfr_script.specs.declared.arm.ArmWhat.{ArmWhat}
use Rattle.pfr_script.specs.declared.arm.ArmWhat.TheVariants.{Cut, Fault, ReadFault}
use Rattle.pfr_script.specs.declared.arm_counts.ArmCounts.{ArmCounts}
use Rattle.pfr_script.specs.declared.item.Item.{Item}
use Rattle.pfr_script.specs.declared.item.Item.TheVariants.{Event, Arm}
use Rattle.pfr_script.specs.declared.event.Event as event
use Rattle.pfr_script.specs.declared.script.Script.TheInside.{Inside}
use Rattle.pfr_script.specs.Arms.{IsKnownArm, KnownArms, FirstEmpty, same_device, is_counted, is_arm_of, arms_in}
use Rattle.pfr_script.specs.Slots.{HasKnownSlot, IsKnownSlot}
use Rattle.pfr_script.specs.Counting.{count_of, raised, counted}
use Rattle.pfr_script.specs.Growing.{tear_number, with_tear}
use Rattle.pfr_script.specs.ScriptInside.{IsScript}

-- 1 where an arm is one more cut or fault of this device
abbrev one_more : Device → Device → ArmWhat → ℕ
one_more d device what = cond (is_counted what && same_device d device) 1 0

same_is : (a b : Device) → same_device a b ≡ true → a ≡ b
same_is Bmc Bmc h = refl
same_is Bmc Pch h = cc
same_is Bmc Nv h = cc
same_is Pch Bmc h = cc
same_is Pch Pch h = refl
same_is Pch Nv h = cc
same_is Nv Bmc h = cc
same_is Nv Pch h = cc
same_is Nv Nv h = refl

count_raised : (c : ArmCounts) (d device : Device) → count_of (raised c device) d ≡ count_of c d + cond (same_device d device) 1 0
count_raised c Bmc Bmc = refl
count_raised c Bmc Pch = sym (add-zero c.bmc)
count_raised c Bmc Nv = sym (add-zero c.bmc)
count_raised c Pch Bmc = sym (add-zero c.pch)
count_raised c Pch Pch = refl
count_raised c Pch Nv = sym (add-zero c.pch)
count_raised c Nv Bmc = sym (add-zero c.nv)
count_raised c Nv Pch = sym (add-zero c.nv)
count_raised c Nv Nv = refl

count_counted : (c : ArmCounts) (d device : Device) (what : ArmWhat) → count_of (counted c device what) d ≡ count_of c d + one_more d device what
count_counted c d device Cut = count_raised c d device
count_counted c d device Fault = count_raised c d device
count_counted c d device ReadFault = sym (add-zero (count_of c d))

-- the cuts and faults once an item more is there
arms_push : (d : Device) (items : List Item) (item : Item) → arms_in d (items ++ item ∷ []) ≡ arms_in d items + cond (is_arm_of d item) 1 0
arms_push d items item = sum_by-append (λ i. cond (is_arm_of d i) 1 0) items (item ∷ []) ∙ ap (λ n. arms_in d items + n) (zero-add (cond (is_arm_of d item) 1 0))

fits : (b : Bool) (n : ℕ) → n ≤ 256 → (b ≡ true → n < 256) → n + cond b 1 0 ≤ 256
fits true n h room = omega (arith, room refl)
fits false n h room = omega arith

room_at : (items : List Item) (d device : Device) → arms_in device items < 256 → same_device d device ≡ true → arms_in d items < 256
room_at items d device h same = rw (same_is d device same) h

pub arm_room : (items : List Item) (device : Device) (what : ArmWhat) → (not (is_counted what) || nat_lt (arms_in device items) 256) ≡ true → is_counted what ≡ true → arms_in device items < 256
arm_room items device Cut h is = (Decides-ltb (arms_in device items) 256).0 h
arm_room items device Fault h is = (Decides-ltb (arms_in device items) 256).0 h
arm_room items device ReadFault h is = cc

arms_fit : (items : List Item) (d device : Device) (what : ArmWhat) → (not (is_counted what) || nat_lt (arms_in device items) 256) ≡ true → arms_in d items ≤ 256 →
    arms_in d items + one_more d device what ≤ 256
arms_fit items d device Cut h few = fits (same_device d device) (arms_in d items) few (room_at items d device (arm_room items device Cut h refl))
arms_fit items d device Fault h few = fits (same_device d device) (arms_in d items) few (room_at items d device (arm_room items device Fault h refl))
arms_fit items d device ReadFault h few = omega arith

known_more : (m n : ℕ) → m ≤ n → (item : Item) → IsKnownArm m item → IsKnownArm n item
known_more m n h (Event event) known = tt
known_more m n h (Arm arm) known = (known.0, omega (arith, known.1))

tears_more : (tears : List (List ℕ)) (tear : Option (List ℕ)) → length tears ≤ length (with_tear tears tear)
tears_more tears None = omega arith
tears_more tears (Some tear) = omega (arith, length-append tears (tear ∷ []))

tears_few : (tears : List (List ℕ)) (tear : Option (List ℕ)) → length (with_tear tears tear) ≤ length tears + 1
tears_few tears None = omega arith
tears_few tears (Some tear) = omega (arith, length-append tears (tear ∷ []))

number_known : (tears : List (List ℕ)) (tear : Option (List ℕ)) → FirstEmpty tears → tear_number (length tears) tear < length (with_tear tears tear)
number_known tears None first = slice_get_within tears 0 [] first
number_known tears (Some tear) first = omega (arith, length-append tears (tear ∷ []))

first_stays : (tears : List (List ℕ)) (tear : Option (List ℕ)) → FirstEmpty tears → FirstEmpty (with_tear tears tear)
first_stays tears None first = first
first_stays [] (Some tear) first = cc
first_stays (x ∷ xs) (Some tear) first = first

-- other memory for the same
pub same_script : (s t : Inside) → IsScript s → t.items ≡ s.items → t.tears.items ≡ s.tears.items → t.arms ≡ s.arms → IsScript t
same_script s t is items tears arms = record {
  few = rw items is.few;
  known = rw (items, tears) is.known;
  slots = rw items is.slots;
  arms = rw items is.arms;
  first = rw tears is.first;
  tears = rw (items, tears) is.tears;
  counts = rw (items, arms) is.counts;
}

pub event_grown : (s t : Inside) (what : event.Event) → IsScript s → IsKnownSlot what → length s.items < 65536 → t.items ≡ s.items ++ Event what ∷ [] → t.tears.items ≡ s.tears.items → t.arms ≡ s.arms → IsScript t
event_grown s t what is slot room items tears arms =
    let more : length t.items ≡ length s.items + 1 = rw items (length-append s.items (Event what ∷ [])) in
    let same : (d : Device) → arms_in d t.items ≡ arms_in d s.items = λ d. rw items (arms_push d s.items (Event what) ∙ add-zero (arms_in d s.items)) in
    record {
      few = omega (arith, more);
      known = rw (items, tears) (All-push (IsKnownArm (length s.tears.items)) s.items (Event what) is.known tt);
      slots = rw items (All-push HasKnownSlot s.items (Event what) is.slots slot);
      arms = λ d. rw (same d) (is.arms d);
      first = rw tears is.first;
      tears = rw (more, tears) (omega (arith, is.tears));
      counts = λ d. rw (same d, arms) (is.counts d);
    }

-- what an arm becomes among the items of a script
abbrev pub arm_item : Inside → Device → ArmWhat → ℕ → Option (List ℕ) → Item
arm_item s device what nth tear = Arm (record { device = device; what = what; nth = nth; tear = tear_number (length s.tears.items) tear })

pub arm_grown : (s t : Inside) (device : Device) (what : ArmWhat) (nth : ℕ) (tear : Option (List ℕ)) → IsScript s → length s.items < 65536 → 1 ≤ nth →
    (not (is_counted what) || nat_lt (arms_in device s.items) 256) ≡ true →
    t.items ≡ s.items ++ arm_item s device what nth tear ∷ [] → t.tears.items ≡ with_tear s.tears.items tear → t.arms ≡ counted s.arms device what → IsScript t
arm_grown s t device what nth tear is room some may items tears arms =
    let item = arm_item s device what nth tear in
    let more : length t.items ≡ length s.items + 1 = rw items (length-append s.items (item ∷ [])) in
    let plus : (d : Device) → arms_in d t.items ≡ arms_in d s.items + one_more d device what = λ d. rw items (arms_push d s.items item) in
    let count = length (with_tear s.tears.items tear) in
    let before : KnownArms count s.items = All-weaker (IsKnownArm (length s.tears.items)) (IsKnownArm count) (known_more (length s.tears.items) count (tears_more s.tears.items tear)) s.items is.known in
    record {
      few = omega (arith, more);
      known = rw (items, tears) (All-push (IsKnownArm count) s.items item before (some, number_known s.tears.items tear is.first));
      slots = rw items (All-push HasKnownSlot s.items item is.slots tt);
      arms = λ d. rw (plus d) (arms_fit s.items d device what may (is.arms d));
      first = rw tears (first_stays s.tears.items tear is.first);
      tears = rw (more, tears) (omega (arith, is.tears, tears_few s.tears.items tear));
      counts = λ d. rw (plus d, arms) (count_counted s.arms d device what ∙ ap (λ n. n + one_more d device what) (is.counts d));
    }
