-- A whole step, from what was done at its event.
use Rattle.std.proofs.Common.{◌≡◌, ◌≢◌, ◌∙◌, refl, sym, ap, subst, ℕ, ◌+◌, Bool, true, false, not, List, [], ◌∷◌, length, drop, ◌⊎◌, inl, inr, arith, Option, Some, None, Result, Ok, Err, OnOk}
use Rattle.pfr_flash.specs.FlashState.{FlashState, size_of}
use Rattle.pfr_flash.specs.Layout.{IsBankSize}
use Rattle.pfr_flash.specs.declared.flash.FlashFail.{FlashFail}
use Rattle.pfr_flash.specs.declared.flash.FlashFail.TheVariants as fail
use Rattle.pfr_flash.specs.declared.names.Bank.{Bank}
use Rattle.pfr_flash.specs.declared.names.Bank.TheVariants as bank
use Rattle.pfr_flash.specs.declared.names.Device.{Device}
use Rattle.pfr_flash.specs.declared.names.Device.TheVariants as device
use Rattle.pfr_engine.specs.Acceptance.{Acceptance}
use Rattle.pfr_fuses.specs.FusesState.{FusesState}
use Rattle.pfr_fuses.specs.FusesOf.{fuses_of}
use Rattle.pfr_auth.specs.Judge.{judge_active}
use Rattle.pfr_report.specs.declared.note.LockWhy.{LockWhy}
use Rattle.pfr_report.specs.declared.note.Note.{Note}
use Rattle.pfr_report.specs.declared.note.What.TheVariants.{Power}
use Rattle.pfr_script.specs.declared.event.Event.{Event}
use Rattle.pfr_script.specs.declared.event.Event.TheVariants as event
use Rattle.pfr_script.specs.Slots.{IsKnownSlot}
use Rattle.pfr_story.specs.Course.{Stretch, Course, CrossesOrFaults, LosesPower, Steps, Follows}
use Rattle.pfr_story.specs.Goes.{Ran, Stopped}
use Rattle.pfr_story.specs.Plans.{Ruling, migrated, mine, ready_in, ready_of, ruling, ruling_by, ruling_with, smbus_by, smbus_judged, store}
use Rattle.pfr_story.specs.Promises.{AreOff, CallsNone, IsIdle, IsUneventful}
use Rattle.pfr_story.specs.Standing.{Standing, standing_of, is_off, is_running, Off, Held, Locked, Running}
use Rattle.pfr_story.specs.Story.{Story, Move, Says, after}
use Rattle.pfr_story.specs.Turn.{bank_stretch, fuse_stretch, is_due, unreadable, power_course, course, ignored, ignored_if, is_idle, guards_at, next_item, taken, begun, Turn}
use Rattle.pfr_story.specs.World.{World, IsDark, SameDevices, added, story_of}
use Rattle.pfr_story.proofs.Courses.{Steps-next, Steps-ended}
use Rattle.pfr_story.proofs.RunLaws.{Turn-item}
use Rattle.pfr_story.proofs.Turns.{Turn-moved}
use Rattle.pfr_story.proofs.Lift.{Ran-uncalled}
use Rattle.pfr_story.proofs.Sequence.{Ran-refl}
use Rattle.pfr_machine.specs.Worlds.{with_note, with_state}
use Rattle.pfr_machine.specs.Inside.{HasSizes, IsWhole}
use Rattle.pfr_machine.specs.Ready.{Brings, BringsBoth, BroughtUp, LeavesWhole}
use Rattle.pfr_machine.specs.Watching.{clocked}
use Rattle.pfr_machine.specs.declared.working.Dark.{Dark}
use Rattle.pfr_machine.proofs.WorldLemmas.{AddsNotes-then}

-- a step that only notes something
pub only_noted : (moves : List Move) (old new : World) → Ran moves old new → Follows (record { first = moves; stretches = [] }) old new
only_noted moves old new p = (new, p, Ran-refl new)

-- ---- both banks are brought up
pub both_steps : (first second : Stretch) (old mid new : World) → first.goes_on ≡ true → second.goes_on ≡ true → CrossesOrFaults first old mid → CrossesOrFaults second mid new
    → Steps (first ∷ second ∷ []) old new
both_steps first second old mid new a b p q = Steps-next first (second ∷ []) old mid new a p (Steps-next second [] mid new new b q (Ran-refl new))

pub second_lost : (first second : Stretch) (old mid new : World) → first.goes_on ≡ true → CrossesOrFaults first old mid → LosesPower second mid new → Steps (first ∷ second ∷ []) old new
second_lost first second old mid new a p q = Steps-next first (second ∷ []) old mid new a p (inr (inr q))

-- where the second bank's work leads, once the first one was brought up
pub both_brought : {F : Type 0} (first second : Stretch) (old mid : World) (r : Result World (Dark F)) → first.goes_on ≡ true → second.goes_on ≡ true
    → CrossesOrFaults first old mid × BroughtUp bank.Bmc 7 old mid → Brings second bank.Pch 7 mid r → BringsBoth (first ∷ second ∷ []) 14 old r
both_brought first second old mid (Ok new) a b p q = (
  both_steps first second old mid new a b p.0 q.0,
  record {
    bmc = λ e. p.1.mine (sym q.1.other ∙ e);
    pch = q.1.mine;
    notes = AddsNotes-then 7 7 old.notes mid.notes new.notes p.1.notes q.1.notes;
    nv = q.1.nv;
  },
)
both_brought first second old mid (Err dark) a b p q =
    (second_lost first second old mid dark.inner a p.0 q.0, q.1, AddsNotes-then 7 7 old.notes mid.notes dark.inner.notes p.1.notes q.2)

-- ---- the power comes on
stopped_as : (moves : List Move) (which : Device) (found end : FlashFail) (old new : World) → found ≡ end → Stopped moves which found old new → Stopped moves which end old new
stopped_as moves which found end old new e s = subst (λ (x : FlashFail). Stopped moves which x old new) e s

-- the store gets power, and that is noted
power_noted : (old lit noted : World) → lit ≡ with_state device.Nv (record old.nv { powered = true }) old → noted ≡ with_note Power lit → Ran (Says (λ _. Power) ∷ []) old noted
power_noted old lit noted a b =
    let is : noted ≡ with_note Power (with_state device.Nv (record old.nv { powered = true }) old) = rw b (ap (λ (w : World). with_note Power w) a) in
    subst (λ (w : World). Ran (Says (λ _. Power) ∷ []) old w) (sym is)
    (Ran-uncalled (Says (λ _. Power) ∷ []) old (with_note Power (with_state device.Nv (record old.nv { powered = true }) old)) (record { bmc = refl; pch = refl; nv = refl }) refl)

module _ (accepts : Acceptance) where
  abbrev banks : List Stretch
  banks = bank_stretch accepts bank.Bmc ∷ bank_stretch accepts bank.Pch ∷ []

  pub unread : (which : Device) (found : FlashFail) (old mid new : World) → found ≡ fail.Fault → Stopped (migrated (story_of old)) which found old mid → Ran unreadable mid new
      → Steps (fuse_stretch ∷ banks) old new
  unread which found old mid new e p q =
      Steps-ended fuse_stretch banks old new refl (record { which = which; at = mid; stopped = stopped_as (migrated (story_of old)) which found fail.Fault old mid e p; noted = q })

  pub powered : (old lit noted new : World) → lit ≡ with_state device.Nv (record old.nv { powered = true }) old → noted ≡ with_note Power lit → Steps (fuse_stretch ∷ banks) noted new
      → Follows (power_course accepts) old new
  powered old lit noted new a b p = (noted, power_noted old lit noted a b, p)

-- ---- an event that is ignored, and one that is taken
-- no watch ticks at one that is ignored
idle_still : (e : Event) (w : World) → is_idle e (story_of w) ≡ true → clocked e w ≡ w
idle_still event.Power w idle = refl
idle_still event.Off w idle = refl
idle_still (event.Provision what) w idle = refl
idle_still (event.Spi which frame) w idle = refl
idle_still (event.Smbus which frame) w idle = refl
idle_still (event.Tick n) w idle = absurd (let never : false ≡ true = idle in cc)
idle_still (event.Boot which pass) w idle = refl
idle_still (event.Update which intent) w idle = refl

pub at_idle : (accepts : Acceptance) (e : Event) (idle : Bool) (old new : World) → idle ≡ is_idle e (story_of old) → idle ≡ true → Follows ignored old new → Follows (course accepts e (story_of old)) (clocked e old) new
at_idle accepts e idle old new is on p = rw (← is, on, idle_still e old (sym is ∙ on)) p

pub at_taken : (accepts : Acceptance) (e : Event) (idle : Bool) (old new : World) → idle ≡ is_idle e (story_of old) → idle ≡ false → Follows (taken accepts e (story_of old)) (clocked e old) new
    → Follows (course accepts e (story_of old)) (clocked e old) new
at_taken accepts e idle old new is off p = rw (← is, off) p

pub not_both : {b : Bool} → b ≡ true → b ≡ false → ⊥
not_both holds fails = let never : true ≡ false = sym holds ∙ fails in cc

off_only : (s : Standing) → is_off s ≡ true → s ≡ Off
off_only Off e = refl
off_only Held e = absurd (let never : false ≡ true = e in cc)
off_only Locked e = absurd (let never : false ≡ true = e in cc)
off_only Running e = absurd (let never : false ≡ true = e in cc)

pub not_off : (s : Standing) → is_off s ≡ false → s ≢ Off
not_off s e off = absurd (let never : true ≡ false = ap is_off (sym off) ∙ e in cc)

-- what is provisioned where the banks aren't off is taken
pub idle_known : (e : Event) (old : World) → is_idle e (story_of old) ≡ true → standing_of bank.Bmc old.notes.list ≢ Off → IsKnownSlot e
idle_known event.Power old idle some = tt
idle_known event.Off old idle some = tt
idle_known (event.Provision what) old idle some = absurd (some (off_only (standing_of bank.Bmc old.notes.list) idle))
idle_known (event.Spi which frame) old idle some = tt
idle_known (event.Smbus which frame) old idle some = tt
idle_known (event.Tick n) old idle some = tt
idle_known (event.Boot which pass) old idle some = tt
idle_known (event.Update which intent) old idle some = tt

-- the bank of a frame that is taken runs
pub running_only : (s : Standing) → not (is_running s) ≡ false → s ≡ Running
running_only Off e = absurd (let never : true ≡ false = e in cc)
running_only Held e = absurd (let never : true ≡ false = e in cc)
running_only Locked e = absurd (let never : true ≡ false = e in cc)
running_only Running e = refl

-- ---- what is done doesn't rest on the item's number
ruling_same : (accepts : Acceptance) (b : Bank) (s t : Story) (found : Result FusesState LockWhy) → mine b s ≡ mine b t → ruling_with accepts b s found ≡ ruling_with accepts b t found
ruling_same accepts b s t (Ok fuses) e = ap (λ (image : List ℕ). ruling_by b fuses (judge_active image b fuses accepts)) e
ruling_same accepts b s t (Err cause) e = refl

mine_item : (b : Bank) (story : Story) (item : ℕ) → mine b (record story { item = item }) ≡ mine b story
mine_item bank.Bmc story item = refl
mine_item bank.Pch story item = refl

ruling_item : (accepts : Acceptance) (b : Bank) (story : Story) (item : ℕ) → ruling accepts b (record story { item = item }) ≡ ruling accepts b story
ruling_item accepts b story item =
    ruling_same accepts b (record story { item = item }) story (ready_of b (record story { item = item })) (mine_item b story item)
    ∙ ap (λ (image : List ℕ). ruling_with accepts b story (ready_in b (length image) (fuses_of (store story)))) (mine_item b story item)

smbus_item : (b : Bank) (frame : List ℕ) (found : Option Ruling) (s t : Story) → smbus_by b frame found s ≡ smbus_by b frame found t
smbus_item b frame (Some r) s t = refl
smbus_item b frame None s t = refl

course_item : (accepts : Acceptance) (e : Event) (story : Story) (item : ℕ) → course accepts e (record story { item = item }) ≡ course accepts e story
course_item accepts event.Power story item = refl
course_item accepts event.Off story item = refl
course_item accepts (event.Provision what) story item = refl
course_item accepts (event.Spi which frame) story item = refl
course_item accepts (event.Smbus which frame) story item =
    let same : smbus_judged accepts which frame (record story { item = item }) ≡ smbus_judged accepts which frame story =
    ap (λ (found : Option Ruling). smbus_by which frame found (record story { item = item })) (ruling_item accepts which story item)
    ∙ smbus_item which frame (ruling accepts which story) (record story { item = item }) story in
    ap (λ (moves : List Move). ignored_if (is_idle (event.Smbus which frame) story) (record { first = moves; stretches = [] })) same
course_item accepts (event.Tick n) story item = refl
course_item accepts (event.Boot which true) story item = refl
course_item accepts (event.Boot which false) story item = refl
course_item accepts (event.Update which intent) story item = refl

idle_item : (e : Event) (story : Story) (item : ℕ) → is_idle e (record story { item = item }) ≡ is_idle e story
idle_item event.Power story item = refl
idle_item event.Off story item = refl
idle_item (event.Provision what) story item = refl
idle_item (event.Spi which frame) story item = refl
idle_item (event.Smbus which frame) story item = refl
idle_item (event.Tick n) story item = refl
idle_item (event.Boot which pass) story item = refl
idle_item (event.Update which intent) story item = refl

-- ---- an item was begun
pub record Begun (old next : World) : Type 0 where
  pub is : next ≡ record (next_item old) { notes = next.notes }
  pub list : next.notes.list ≡ old.notes.list

module _ (old next : World) (b : Begun old next) where
  story_next : story_of next ≡ record (story_of old) { item = old.item + 1 }
  story_next = ap story_of b.is ∙ ap (λ (l : List Note). record (story_of (next_item old)) { notes = l }) b.list

  idle_next : (e : Event) → is_idle e (story_of next) ≡ is_idle e (story_of old)
  idle_next e = ap (λ (s : Story). is_idle e s) story_next ∙ idle_item e (story_of old) (old.item + 1)

  quiet_next : (e : Event) → IsUneventful e old → IsUneventful e next
  quiet_next (event.Tick n) u = λ which. ap (λ (s : Story). is_due which n s) story_next ∙ u which
  quiet_next event.Power u = absurd u
  quiet_next event.Off u = absurd u
  quiet_next (event.Provision what) u = absurd u
  quiet_next (event.Spi which frame) u = absurd u
  quiet_next (event.Smbus which frame) u = absurd u
  quiet_next (event.Boot which pass) u = absurd u
  quiet_next (event.Update which intent) u = absurd u

  same_begun : (new : World) → SameDevices next new → SameDevices old new
  same_begun new s = record {
    bmc = s.bmc ∙ ap (λ (w : World). w.bmc) b.is;
    pch = s.pch ∙ ap (λ (w : World). w.pch) b.is;
    nv = s.nv ∙ ap (λ (w : World). w.nv) b.is;
  }

  -- what an event leaves untouched
  pub untouched_begun : (e : Event) (new : World) → (IsIdle e next ⊎ IsUneventful e next → SameDevices next new) → CallsNone e old new
  untouched_begun e new f (inl idle) = same_begun new (f (inl (idle_next e ∙ idle)))
  untouched_begun e new f (inr quiet) = same_begun new (f (inr (quiet_next e quiet)))

  -- what is dark behind it
  pub dark_begun : (e : Event) (new : World) → (is_idle e (story_of next) ≡ false → added next new ≢ [] → standing_of bank.Bmc new.notes.list ≡ Off → IsDark new)
      → is_idle e (story_of old) ≡ false → added old new ≢ [] → AreOff new → IsDark new
  dark_begun e new f active some off =
      f (idle_next e ∙ active) (λ none. some (ap (λ (l : List Note). drop (length l) new.notes.list) (sym b.list) ∙ none)) (off_only _ off)

  story_begun : (e : Event) → story_of (clocked e next) ≡ story_of (begun e old)
  story_begun e =
      ap (λ (w : World). story_of (clocked e w)) b.is
      ∙ ap (λ (l : List Note). record (story_of (next_item old)) { notes = l; guards = guards_at e l old.guards }) b.list

  ran_begun : (e : Event) (moves : List Move) (mid : World) → Ran moves (clocked e next) mid → Ran moves (begun e old) mid
  ran_begun e moves mid p =
      let q = subst (λ (w : World). Ran moves (clocked e w) mid) b.is p in
      record {
        is = p.is ∙ ap (λ (s : Story). after moves s) (story_begun e);
        moved = record { bmc = q.moved.bmc; pch = q.moved.pch; nv = q.moved.nv };
        none_lost = record { bmc = q.none_lost.bmc; pch = q.none_lost.pch; nv = q.none_lost.nv };
        none_failed = record { bmc = q.none_failed.bmc; pch = q.none_failed.pch; nv = q.none_failed.nv };
      }

  pub turned : (accepts : Acceptance) (e : Event) (new : World) → Follows (course accepts e (story_of next)) (clocked e next) new → Turn accepts e old new
  turned accepts e new (mid, p, q) =
      let same : course accepts e (story_of next) ≡ course accepts e (story_of old) = ap (λ (s : Story). course accepts e s) story_next ∙ course_item accepts e (story_of old) (old.item + 1) in
      subst (λ (c : Course). Follows c (begun e old) new) same (mid, ran_begun e _ mid p, q)

  pub still_whole : (accepts : Acceptance) (e : Event) (new : World) → IsWhole old → Follows (course accepts e (story_of next)) (clocked e next) new → LeavesWhole 64 next new → IsWhole new
  still_whole accepts e new h f l = record {
    together = l.together;
    apart = l.apart;
    on = l.on;
    few =
        let item = Turn-item accepts e old new (turned accepts e new f) in
        let list : length next.notes.list ≡ length old.notes.list = ap (λ (l : List Note). length l) b.list in
        omega (arith, h.few, l.notes.few, item, list);
  }

-- ---- what holds of a step where it was done
pub by_turn : {A B : Type 0} {T U : Type 0} (r : Result T U) → OnOk r A → (A → B) → OnOk r B
by_turn (Ok x) a f = f a
by_turn (Err e) a f = tt

pub by_both : {A B C : Type 0} {T U : Type 0} (r : Result T U) → OnOk r A → OnOk r B → (A → B → C) → OnOk r C
by_both (Ok x) a b f = f a b
by_both (Err e) a b f = tt

-- the sizes of devices stay
size_before : (old new : FlashState) → new.start ≡ old.start → size_of new ≡ size_of old
size_before old new e = ap (λ (bytes : List ℕ). length bytes) e

pub sizes_before : (accepts : Acceptance) (e : Event) (old new : World) → Turn accepts e old new → HasSizes new → HasSizes old
sizes_before accepts e old new t h =
    let m = Turn-moved accepts e old new t in
    record {
      bmc = subst (λ (n : ℕ). IsBankSize n) (size_before old.bmc new.bmc m.bmc.start) h.bmc;
      pch = subst (λ (n : ℕ). IsBankSize n) (size_before old.pch new.pch m.pch.start) h.pch;
      nv = sym (size_before old.nv new.nv m.nv.start) ∙ h.nv;
    }
