-- The faults and losses of a run are those of its script.
use Rattle.std.proofs.Common.{◌≡◌, ◌≢◌, ◌∙◌, ◌+◌, ◌-◌, ◌*◌, ◌^◌, ◌<◌, ◌≤◌, refl, sym, ap, subst, arith, ℕ, true, false, cond, List, [], ◌∷◌, ◌++◌, length, length-append, ◌⊎◌, inl, inr, Some, None}
use Rattle.std.proofs.lemmas.List.Sums.{sum_by-cons, sum_by-append}
use Rattle.std.proofs.lemmas.List.Elements.{recursion_from_All}
use Rattle.std.specs.List.{AllByRecursion}
use Rattle.std.specs.Prelude.{slice_index_or}
use Rattle.pfr_flash.specs.FlashState.{FlashState, op_count_of}
use Rattle.pfr_flash.specs.Moved.{Moved, ReadFaulted, FaultCause, none, at_operation, at_read, no_room}
use Rattle.pfr_flash.specs.Operation.{Operation}
use Rattle.pfr_flash.specs.declared.names.Device.{Device}
use Rattle.pfr_flash.specs.declared.names.Device.TheVariants as device
use Rattle.pfr_engine.specs.Acceptance.{Acceptance}
use Rattle.pfr_script.specs.Arms.{arms_in, is_arm_of}
use Rattle.pfr_script.specs.declared.event.Event.{Event}
use Rattle.pfr_script.specs.declared.item.Item.{Item}
use Rattle.pfr_script.specs.declared.item.Item.TheVariants as item
use Rattle.pfr_report.specs.declared.note.LockWhy.TheVariants as why
use Rattle.pfr_report.specs.declared.note.Note.{Note}
use Rattle.pfr_report.specs.declared.note.What.TheVariants as what
use Rattle.pfr_story.specs.Story.{Story, device_of}
use Rattle.pfr_story.specs.World.{World, story_of, state_at, NoneLost, NoneRose, added}
use Rattle.pfr_story.specs.Turn.{course, begun, Turn}
use Rattle.pfr_story.specs.Run.{armed, Did, Reached}
use Rattle.pfr_story.specs.Promises.{HasLost, IsUndisturbed}
use Rattle.pfr_story.specs.FaultCount.{is_fault_of, fault_locks, LocksAreCounted}
use Rattle.pfr_story.specs.Scripted.{CanCount, ByScript, IsEvent, IsUnarmed, HasRoomLeft}
use Rattle.pfr_story.specs.CalmRun.{calm_run}
use Rattle.pfr_story.proofs.WorldLaws.{Moved-at, NoneFailed-at}
use Rattle.pfr_story.proofs.Courses.{Follows-calm}
use Rattle.pfr_story.proofs.Traces.{noted_append}
use Rattle.pfr_story.proofs.Turns.{Turn-moved}
use Rattle.pfr_story.proofs.LossLaws.{Turn-losses}
use Rattle.pfr_story.proofs.FaultLaws.{begun_at, Turn-faults_counted, noted_counts, own_device}
use Rattle.pfr_story.proofs.RunLaws.{failed_armed, turn_adds, adds_added, arm_takes, armed_story}
use Rattle.pfr_story.proofs.ScriptFaultLaws.{Turn-scripted}

-- ---- how many faults there are
did_few : (accepts : Acceptance) (tears : List (List ℕ)) (which : Device) (i : Item) (old new : World) → Did accepts tears i old new → (state_at which new).faults ≤ (state_at which old).faults + 2
did_few accepts tears which (item.Event e) old new t = let c = Turn-faults_counted accepts e old new t which in omega (arith, c.few, c.counted)
did_few accepts tears which (item.Arm arm) old new is =
    let tear = slice_index_or tears arm.tear [] in
    omega (arith, ap (λ (w : World). (state_at which w).faults) is, NoneFailed-at which old (armed arm tear old) (failed_armed arm tear old))

-- At most two faults of a device are counted in each item.
pub Reached-few : (accepts : Acceptance) (tears : List (List ℕ)) (which : Device) (items : List Item) (old new : World) → Reached (Did accepts tears) items old new
    → (state_at which new).faults ≤ (state_at which old).faults + 2 * length items
Reached-few accepts tears which [] old new r = omega (arith, ap (λ (w : World). (state_at which w).faults) r)
Reached-few accepts tears which (i ∷ items) old new (mid, did, r) = omega (arith, did_few accepts tears which i old mid did, Reached-few accepts tears which items mid new r)

-- So no count of them comes to its end.
pub Reached-can_count : (accepts : Acceptance) (tears : List (List ℕ)) (items : List Item) (old new : World) → ((which : Device) → (state_at which old).faults ≡ 0) → length items ≤ 65536 → Reached (Did accepts tears) items old new
    → CanCount new
Reached-can_count accepts tears items old new zero few r which = omega (arith, zero which, few, Reached-few accepts tears which items old new r)

-- ---- how many locks for them
-- as many as its faults; of the store at least so many, and at most twice as many
record Tallied (which : Device) (w : World) : Type 0 where
  own : which ≢ device.Nv → fault_locks which w.notes.list ≡ (state_at which w).faults
  least : (state_at which w).faults ≤ fault_locks which w.notes.list
  most : fault_locks which w.notes.list ≤ 2 * (state_at which w).faults

tallied_turn : (accepts : Acceptance) (which : Device) (e : Event) (old new : World) → (state_at which old).faults + 2 < 2 ^ 64 - 1 → Turn accepts e old new → Tallied which old → Tallied which new
tallied_turn accepts which e old new below t k =
    let c = Turn-faults_counted accepts e old new t which in
    let notes = ap (λ (notes : List Note). fault_locks which notes) (adds_added old new (turn_adds accepts e old new t)) in
    let sum = sum_by-append (λ (note : Note). cond (is_fault_of which note.what) 1 0) old.notes.list (added old new) in
    elim c.locks [
      | inl same ↦ record {
        own = λ apart. omega (arith, k.own apart, notes, sum, same, c.counted, c.few, below);
        least = omega (arith, k.least, notes, sum, same, c.counted, c.few, below);
        most = omega (arith, k.most, notes, sum, same, c.counted, c.few, below);
      }
      | inr (both, is, one, two) ↦ record {
        own = λ apart. absurd (apart is);
        least = omega (arith, k.least, notes, sum, one, two, c.counted, below);
        most = omega (arith, k.most, notes, sum, one, two, c.counted, below);
      }
    ]

tallied_run : (accepts : Acceptance) (tears : List (List ℕ)) (which : Device) (items : List Item) (old new : World) → (state_at which old).faults + 2 * length items < 2 ^ 64 - 1
    → Reached (Did accepts tears) items old new → Tallied which old → Tallied which new
tallied_run accepts tears which [] old new below r k = subst (λ (w : World). Tallied which w) (sym r) k
tallied_run accepts tears which (item.Event e ∷ items) old new below (mid, t, r) k =
    tallied_run accepts tears which items mid new (omega (arith, below, did_few accepts tears which (item.Event e) old mid t)) r (tallied_turn accepts which e old mid (omega (arith, below)) t k)
tallied_run accepts tears which (item.Arm arm ∷ items) old new below (mid, is, r) k =
    let tear : List ℕ = slice_index_or tears arm.tear [] in
    let faults = ap (λ (w : World). (state_at which w).faults) is ∙ NoneFailed-at which old (armed arm tear old) (failed_armed arm tear old) in
    let notes = ap (λ (w : World). fault_locks which w.notes.list) is ∙ ap (λ (s : Story). fault_locks which s.notes) (armed_story arm tear old) in
    tallied_run accepts tears which items mid new (omega (arith, below, faults)) r
    (record { own = λ apart. omega (arith, k.own apart, faults, notes); least = omega (arith, k.least, faults, notes); most = omega (arith, k.most, faults, notes) })

-- In a run from where nothing was noted each lock for a fault has a fault that was counted, and each fault a lock.
pub Reached-locks_counted : (accepts : Acceptance) (tears : List (List ℕ)) (items : List Item) (first new : World) → first.notes.list ≡ [] → ((which : Device) → (state_at which first).faults ≡ 0) → length items ≤ 65536
    → Reached (Did accepts tears) items first new → LocksAreCounted new
Reached-locks_counted accepts tears items first new unnoted zero few r =
    let none = λ (which : Device). ap (λ (notes : List Note). fault_locks which notes) unnoted in
    let all = λ (which : Device). tallied_run accepts tears which items first new (omega (arith, zero which, few)) r
    (record { own = λ apart. omega (arith, none which, zero which); least = omega (arith, none which, zero which); most = omega (arith, none which, zero which) }) in
    record { bmc = (all device.Bmc).own (λ e. cc); pch = (all device.Pch).own (λ e. cc); nv = (all device.Nv).least; twice = (all device.Nv).most }

-- ---- item by item
module _ (accepts : Acceptance) (tears : List (List ℕ)) where
  by_script : (items : List Item) (old new : World) → ((which : Device) → (state_at which old).faults + 2 * length items < 2 ^ 64 - 1)
      → Reached (Did accepts tears) items old new → Reached (ByScript tears) items old new
  by_script [] old new below r = r
  by_script (item.Event e ∷ items) old new below (mid, t, r) = (
    mid,
    (Turn-moved accepts e old mid t, Turn-scripted accepts e old mid t (λ which. omega (arith, below which))),
    by_script items mid new (λ which. omega (arith, below which, did_few accepts tears which (item.Event e) old mid t)) r,
  )
  by_script (item.Arm arm ∷ items) old new below (mid, is, r) =
      (mid, is, by_script items mid new (λ which. omega (arith, below which, did_few accepts tears which (item.Arm arm) old mid is)) r)

  -- Each item goes by the script.
  pub Reached-by_script : (items : List Item) (first new : World) → ((which : Device) → (state_at which first).faults ≡ 0) → length items ≤ 65536
      → Reached (Did accepts tears) items first new → Reached (ByScript tears) items first new
  Reached-by_script items first new zero few r = by_script items first new (λ which. omega (arith, zero which, few)) r

-- ---- what arms take
-- Each cut and fault of a device takes one of its arms, and nothing else does.
pub Reached-arms : (tears : List (List ℕ)) (which : Device) (items : List Item) (old new : World) → arms_in which items ≤ (state_at which old).arms → Reached (ByScript tears) items old new
    → (state_at which new).arms + arms_in which items ≡ (state_at which old).arms
Reached-arms tears which [] old new h r = omega (arith, ap (λ (w : World). (state_at which w).arms) r)
Reached-arms tears which (item.Event e ∷ items) old new h (mid, p, r) =
    let cons = sum_by-cons (λ (x : Item). cond (is_arm_of which x) 1 0) (item.Event e) items in
    let same = (Moved-at which (begun e old) mid p.0).arms ∙ ap (λ (d : FlashState). d.arms) (begun_at which e old) in
    omega (arith, cons, same, Reached-arms tears which items mid new (omega (arith, h, cons, same)) r)
Reached-arms tears which (item.Arm arm ∷ items) old new h (mid, is, r) =
    let cons = sum_by-cons (λ (x : Item). cond (is_arm_of which x) 1 0) (item.Arm arm) items in
    let tear : List ℕ = slice_index_or tears arm.tear [] in
    let takes = arm_takes which arm.device arm.what arm.nth tear old (omega (arith, h, cons)) in
    let here = ap (λ (w : World). (state_at which w).arms) is in
    omega (arith, cons, takes, here, Reached-arms tears which items mid new (omega (arith, h, cons, takes, here)) r)

-- ---- a script that arms nothing
-- nothing is armed of a device, and no call of it failed
pub record IsAtRest (d : FlashState) : Type 0 where
  pub cut : d.cut_due ≡ None
  pub fault : d.fault_due ≡ None
  pub read : d.read_due ≡ false
  pub faults : d.faults ≡ 0

-- so no call fails where there is room
rest_cause : (a b : FlashState) → a.fault_due ≡ None → a.read_due ≡ false → op_count_of b < b.room → FaultCause a b → b.faults ≡ a.faults
rest_cause a b f r room (none same) = same
rest_cause a b f r room (at_operation done apart) = let never : false ≡ true = rw f at done in absurd cc
rest_cause a b f r room (at_read came) = let never : false ≡ true = sym r ∙ came.was in absurd cc
rest_cause a b f r room (no_room spent) = absurd (omega (arith, spent, room))

stays_unread : (a b : FlashState) → a.read_due ≡ false → (b.read_due ≡ a.read_due) ⊎ ReadFaulted a b → b.read_due ≡ false
stays_unread a b r (inl same) = same ∙ r
stays_unread a b r (inr came) = let never : false ≡ true = sym r ∙ came.was in absurd cc

rest_moved : (a b : FlashState) → Moved a b → op_count_of b < b.room → IsAtRest a → IsAtRest b × (b.losses ≡ a.losses)
rest_moved a b m room c =
    let cut : b.cut_due ≡ None = rw c.cut at m.cut_due in
    let fault : b.fault_due ≡ None = rw c.fault at m.fault_due in
    let losses : b.losses ≡ a.losses = rw c.cut at m.losses in
    (record { cut = cut; fault = fault; read = stays_unread a b c.read m.read_due; faults = rest_cause a b c.fault c.read room m.fault_cause ∙ c.faults }, losses)

-- room that is left was left before
room_before : (a b : FlashState) → Moved a b → op_count_of b < b.room → op_count_of a < a.room
room_before a b m room = omega (arith, room, m.room, ap (λ (ops : List Operation). length ops) m.ops.is, length-append a.ops m.ops.more)

undisturbed : (notes : List Note) → ((which : Device) → fault_locks which notes ≡ 0) → IsUndisturbed notes
undisturbed notes no_locks = record {
  flash = λ b at n. omega (arith, no_locks (device_of b), noted_counts (device_of b) (what.Locked b why.FlashFault at) (own_device b) notes n);
  store = λ b at n. omega (arith, no_locks device.Nv, noted_counts device.Nv (what.Locked b why.StoreFault at) refl notes n);
}

-- no lock for a fault of it is noted, and no loss of its power
record IsQuiet (which : Device) (notes : List Note) : Type 0 where
  locks : fault_locks which notes ≡ 0
  losses : ¬ HasLost which notes

quiet_append : (which : Device) (xs ys : List Note) → IsQuiet which xs → IsQuiet which ys → IsQuiet which (xs ++ ys)
quiet_append which xs ys p q = record {
  locks = omega (arith, sum_by-append (λ (note : Note). cond (is_fault_of which note.what) 1 0) xs ys, p.locks, q.locks);
  losses = λ l. elim (noted_append xs ys (what.Lost (Some which) l.at) l.noted) [ inl n ↦ p.losses (record { at = l.at; noted = n }) | inr n ↦ q.losses (record { at = l.at; noted = n }) ];
}

module _ (accepts : Acceptance) (tears : List (List ℕ)) where
  abbrev pub AllAtRest : World → Type 0
  AllAtRest w = (which : Device) → IsAtRest (state_at which w)

  turned : (e : Event) (old new : World) → Turn accepts e old new → (which : Device) → Moved (state_at which old) (state_at which new)
  turned e old new t which = subst (λ (d : FlashState). Moved d (state_at which new)) (begun_at which e old) (Moved-at which (begun e old) new (Turn-moved accepts e old new t))

  -- what is noted of such an event
  added_quiet : (e : Event) (old new : World) → Turn accepts e old new → AllAtRest old → AllAtRest new → (which : Device) → (state_at which new).losses ≡ (state_at which old).losses → IsQuiet which (added old new)
  added_quiet e old new t before behind which same =
      let c = Turn-faults_counted accepts e old new t which in
      let p = (before which).faults in
      let q = (behind which).faults in
      record {
        locks = elim c.locks [ inl k ↦ omega (arith, k, c.counted, c.few, p, q) | inr (both, is, one, two) ↦ absurd (omega (arith, one, c.counted, p, q)) ];
        losses = λ l. let fell = (Turn-losses accepts e old new t which).0 l in omega (arith, fell, same);
      }

  -- what it comes to
  event_calm : (e : Event) (old new : World) → Turn accepts e old new → AllAtRest old → AllAtRest new → ((which : Device) → (state_at which new).losses ≡ (state_at which old).losses)
      → story_of new ≡ calm_run accepts (item.Event e ∷ []) (story_of old)
  event_calm e old new t before behind same =
      let none_lost : NoneLost (begun e old) new = record { bmc = same device.Bmc; pch = same device.Pch; nv = same device.Nv } in
      let none_rose : NoneRose (begun e old) new = λ which rose. omega (arith, rose, ap (λ (d : FlashState). d.faults) (begun_at which e old), (before which).faults, (behind which).faults) in
      (Follows-calm (course accepts e (story_of old)) (begun e old) new t none_lost none_rose).is

  -- the same by cases on the items
  abbrev AreEvents : List Item → Type 0
  AreEvents items = AllByRecursion IsEvent items

  room_left : (items : List Item) (old new : World) → AreEvents items → Reached (Did accepts tears) items old new → HasRoomLeft new → HasRoomLeft old
  room_left [] old new events r room = subst (λ (w : World). HasRoomLeft w) r room
  room_left (item.Event e ∷ items) old new events (mid, t, r) room = λ which. room_before (state_at which old) (state_at which mid) (turned e old mid t which) (room_left items mid new events.1 r room which)
  room_left (item.Arm arm ∷ items) old new events r room = absurd events.0

  -- where nothing is armed, and room is left at the end
  record ComesCalm (items : List Item) (old new : World) : Type 0 where
    notes : (which : Device) → IsQuiet which old.notes.list → IsQuiet which new.notes.list
    story : story_of new ≡ calm_run accepts items (story_of old)

  comes_calm : (items : List Item) (old new : World) → AreEvents items → HasRoomLeft new → AllAtRest old → Reached (Did accepts tears) items old new → ComesCalm items old new
  comes_calm [] old new events room calm r = record { notes = λ which q. subst (λ (w : World). IsQuiet which w.notes.list) (sym r) q; story = ap story_of r }
  comes_calm (item.Arm arm ∷ items) old new events room calm r = absurd events.0
  comes_calm (item.Event e ∷ items) old new events room calm (mid, t, r) =
      let there = room_left items mid new events.1 r room in
      let here = λ (which : Device). rest_moved (state_at which old) (state_at which mid) (turned e old mid t which) (there which) (calm which) in
      let behind : AllAtRest mid = λ which. (here which).0 in
      let rest = comes_calm items mid new events.1 room behind r in
      record {
        notes = λ which q. rest.notes which (subst (λ (notes : List Note). IsQuiet which notes) (sym (adds_added old mid (turn_adds accepts e old mid t)))
            (quiet_append which old.notes.list (added old mid) q (added_quiet e old mid t calm behind which (here which).1)));
        story = rest.story ∙ ap (λ (s : Story). calm_run accepts items s) (event_calm e old mid t calm behind (λ which. (here which).1));
      }

  -- A run whose script arms nothing, and whose rooms aren't spent, notes no fault and no loss of a device.
  pub Reached-undisturbed : (items : List Item) (first new : World) → first.notes.list ≡ [] → AllAtRest first → IsUnarmed items → HasRoomLeft new → Reached (Did accepts tears) items first new
      → IsUndisturbed new.notes.list × ((which : Device) → ¬ HasLost which new.notes.list)
  Reached-undisturbed items first new unnoted calm events room r =
      let none = λ (which : Device). subst (λ (notes : List Note). IsQuiet which notes) (sym unnoted) (record { locks = refl; losses = λ l. l.noted }) in
      let quiet = λ (which : Device). (comes_calm items first new (recursion_from_All IsEvent items events) room calm r).notes which (none which) in
      (undisturbed new.notes.list (λ which. (quiet which).locks), λ which. (quiet which).losses)

  -- What it comes to, its notes and its images, is a function of what it began with and of the script.
  pub Reached-calm : (items : List Item) (first new : World) → AllAtRest first → IsUnarmed items → HasRoomLeft new → Reached (Did accepts tears) items first new → story_of new ≡ calm_run accepts items (story_of first)
  Reached-calm items first new calm events room r = (comes_calm items first new (recursion_from_All IsEvent items events) room calm r).story
