-- Each fault that a device answered is noted, and each lock for a fault has one of its own that was counted.
use Rattle.std.proofs.Common.{◌≡◌, ◌∙◌, ◌+◌, ◌≤◌, refl, sym, ap, subst, arith, ℕ, Bool, true, false, cond, List, [], ◌∷◌, ◌++◌, length, ◌⊎◌, inl, inr}
use Rattle.std.proofs.lemmas.List.Sums.{sum_by-cons, sum_by-append}
use Rattle.pfr_flash.specs.FlashState.{FlashState, raised_by, Rose}
use Rattle.pfr_flash.specs.declared.names.Bank.{Bank}
use Rattle.pfr_flash.specs.declared.names.Bank.TheVariants as bank
use Rattle.pfr_flash.specs.declared.names.Counts.{Counts}
use Rattle.pfr_flash.specs.declared.names.Device.{Device}
use Rattle.pfr_flash.specs.declared.names.Device.TheVariants as device
use Rattle.pfr_engine.specs.Acceptance.{Acceptance}
use Rattle.pfr_fuses.specs.declared.root_slot.RootSlot.{RootSlot}
use Rattle.pfr_script.specs.Arms.{same_device}
use Rattle.pfr_script.specs.declared.event.Event.{Event}
use Rattle.pfr_script.specs.declared.event.Event.TheVariants as event
use Rattle.pfr_script.specs.declared.event.Intent.{Intent}
use Rattle.pfr_watch.specs.Stages.{next_stage}
use Rattle.pfr_watch.specs.declared.stage.Stage.{Stage}
use Rattle.pfr_report.specs.declared.note.LockWhy.{LockWhy}
use Rattle.pfr_report.specs.declared.note.LockWhy.TheVariants as why
use Rattle.pfr_report.specs.declared.note.Note.{Note}
use Rattle.pfr_report.specs.declared.note.What.{What}
use Rattle.pfr_report.specs.declared.note.What.TheVariants as what
use Rattle.pfr_story.specs.Story.{Story, Move, Says, Does, Asks, after, noted, operated, counts_of, device_of}
use Rattle.pfr_story.specs.World.{World, story_of, state_at, FaultedAt, NoneFailed, added}
use Rattle.pfr_story.specs.Goes.{Ran}
use Rattle.pfr_story.specs.Safety.{AllMake}
use Rattle.pfr_story.specs.Course.{Stretch, Faults, LosesPower, Ends, Steps, lost, Course, Follows}
use Rattle.pfr_story.specs.Plans.{smbus_judged}
use Rattle.pfr_story.specs.Turn.{fault_of, bank_stretch, fuse_stretch, provision_stretch, spi_stretch, expiry_stretch, update_stretch, is_due, stretch_if, stage_at, ignored, off_course, power_course, spi_course, smbus_course, tick_course, boot_course, update_course, taken, begun, Turn}
use Rattle.pfr_report.specs.Texts.{IsNoted}
use Rattle.pfr_story.specs.Promises.{IsFaultLock, IsUndisturbed, FaultsAreNoted, FaultsHaveCauses}
use Rattle.pfr_story.specs.FaultCount.{is_lock_for, is_fault_of, fault_locks, LocksBoth, FaultsAreCounted}
use Rattle.pfr_story.proofs.WorldLaws.{NoneFailed-at}
use Rattle.pfr_story.proofs.SafetyLaws.{cut_makes}
use Rattle.pfr_story.proofs.Courses.{went_on, Turn-cases}
use Rattle.pfr_story.proofs.Made.{said, said_append, Made, made_then, added_said}
use Rattle.pfr_story.proofs.BringRules.{IsOwn}
use Rattle.pfr_story.proofs.StepTraces.{pass_noted}
use Rattle.pfr_story.proofs.Facts.{IsFailure, IsNoFailure, IsMine, NoDevice, brought_makes, expired_makes, updating_makes, filtered_makes, smbus_makes}
use Rattle.pfr_story.proofs.Turns.{IsStore, migrated_makes, provisioned_makes}

-- what guards the banks, and the number of the item, change nothing of the devices
pub begun_at : (which : Device) (e : Event) (w : World) → state_at which (begun e w) ≡ state_at which w
begun_at device.Bmc e w = refl
begun_at device.Pch e w = refl
begun_at device.Nv e w = refl

-- ---- counts
raised_none : (n : ℕ) → raised_by n 0 ≡ n
raised_none n = omega arith

raised_twice : (n a b : ℕ) → raised_by (raised_by n a) b ≡ raised_by n (a + b)
raised_twice n a b = omega arith

-- 1 where it is this device that failed
abbrev hits : Device → Device → ℕ
hits which failed = cond (same_device which failed) 1 0

hit_at : (which failed : Device) (a b : World) → FaultedAt failed a b → (state_at which b).faults ≡ raised_by (state_at which a).faults (hits which failed)
hit_at device.Bmc device.Bmc a b f = f.once
hit_at device.Pch device.Pch a b f = f.once
hit_at device.Nv device.Nv a b f = f.once
hit_at device.Bmc device.Pch a b f = f.others device.Bmc (λ e. cc) ∙ sym (raised_none a.bmc.faults)
hit_at device.Bmc device.Nv a b f = f.others device.Bmc (λ e. cc) ∙ sym (raised_none a.bmc.faults)
hit_at device.Pch device.Bmc a b f = f.others device.Pch (λ e. cc) ∙ sym (raised_none a.pch.faults)
hit_at device.Pch device.Nv a b f = f.others device.Pch (λ e. cc) ∙ sym (raised_none a.pch.faults)
hit_at device.Nv device.Bmc a b f = f.others device.Nv (λ e. cc) ∙ sym (raised_none a.nv.faults)
hit_at device.Nv device.Pch a b f = f.others device.Nv (λ e. cc) ∙ sym (raised_none a.nv.faults)

module _ (which : Device) where
  -- ---- the locks among notes
  abbrev weight : Note → ℕ
  weight note = cond (is_fault_of which note.what) 1 0

  locks_append : (xs ys : List Note) → fault_locks which (xs ++ ys) ≡ fault_locks which xs + fault_locks which ys
  locks_append xs ys = sum_by-append weight xs ys

  other_cause : (b : Bank) (cause : LockWhy) → ¬ IsFaultLock cause → is_lock_for which b cause ≡ false
  other_cause b why.FlashFault n = absurd (n tt)
  other_cause b why.StoreFault n = absurd (n tt)
  other_cause b why.Unprovisioned n = refl
  other_cause b why.SlotsSpent n = refl
  other_cause b (why.Layout rule) n = refl
  other_cause b (why.NoGoodImage active recovery) n = refl
  other_cause b why.WatchdogSpent n = refl
  other_cause b (why.NoRecovery recovery) n = refl

  other_note : (that : What) → ¬ IsFailure that → is_fault_of which that ≡ false
  other_note (what.Locked b cause at) n = other_cause b cause n
  other_note _ n = refl

  -- moves that note no failed call note no lock for one
  none_said : (D : Device → Type 0) (moves : List Move) (story : Story) → AllMake D IsNoFailure moves → fault_locks which (said moves story) ≡ 0
  none_said D [] story m = refl
  none_said D (Says w ∷ moves) story m =
      let note : Note = record { item = story.item; what = w (counts_of story) } in
      let here : weight note ≡ 0 = ap (λ (b : Bool). cond b 1 0) (other_note (w (counts_of story)) (m.0 (counts_of story))) in
      omega (arith, sum_by-cons weight note (said moves (noted w story)), here, none_said D moves (noted w story) m.1)
  none_said D (Does other op ∷ moves) story m = none_said D moves (operated other op story) m.1
  none_said D (Asks other ∷ moves) story m = none_said D moves story m.1

  -- ---- so many faults of it were counted, and so many locks for them noted
  record Counted (faults locks : ℕ) (old new : World) : Type 0 where
    counted : (state_at which new).faults ≡ raised_by (state_at which old).faults faults
    made : Made old new
    noted : fault_locks which (said made.trace (story_of old)) ≡ locks

  counted_then : (f l g m : ℕ) (a b c : World) → Counted f l a b → Counted g m b c → Counted (f + g) (l + m) a c
  counted_then f l g m a b c p q =
      let next = ap (λ (s : Story). fault_locks which (said q.made.trace s)) p.made.is in
      let all = ap (λ (notes : List Note). fault_locks which notes) (said_append p.made.trace q.made.trace (story_of a)) in
      record {
        counted = q.counted ∙ ap (λ (n : ℕ). raised_by n g) p.counted ∙ raised_twice (state_at which a).faults f g;
        made = made_then a b c p.made q.made;
        noted = omega (arith, all, locks_append (said p.made.trace (story_of a)) (said q.made.trace (after p.made.trace (story_of a))), next, p.noted, q.noted);
      }

  counted_as : (f l g m : ℕ) (a b : World) → f ≡ g → l ≡ m → Counted f l a b → Counted g m a b
  counted_as f l g m a b e k c = record { counted = subst (λ (n : ℕ). (state_at which b).faults ≡ raised_by (state_at which a).faults n) e c.counted; made = c.made; noted = c.noted ∙ k }

  -- nothing of both before or behind
  none_before : (g m : ℕ) (a b c : World) → Counted 0 0 a b → Counted g m b c → Counted g m a c
  none_before g m a b c p q = counted_as (0 + g) (0 + m) g m a c (omega arith) (omega arith) (counted_then 0 0 g m a b c p q)

  none_behind : (f l : ℕ) (a b c : World) → Counted f l a b → Counted 0 0 b c → Counted f l a c
  none_behind f l a b c p q = counted_as (f + 0) (l + 0) f l a c (omega arith) (omega arith) (counted_then f l 0 0 a b c p q)

  unfailed : (a b : World) → NoneFailed a b → (state_at which b).faults ≡ raised_by (state_at which a).faults 0
  unfailed a b none = NoneFailed-at which a b none ∙ sym (raised_none (state_at which a).faults)

  counted_ran : (moves : List Move) (locks : ℕ) (a b : World) → Ran moves a b → fault_locks which (said moves (story_of a)) ≡ locks → Counted 0 locks a b
  counted_ran moves locks a b r e = record { counted = unfailed a b r.none_failed; made = record { trace = moves; is = r.is }; noted = e }

  -- ---- stretch by stretch
  -- its plan calls these devices, and notes no failed call
  abbrev IsPlain : (Device → Type 0) → Stretch → Type 0
  IsPlain calls s = (story : Story) → AllMake calls IsNoFailure (s.plan story)

  -- what is noted at a fault is a lock for it, and one
  record IsSingle (s : Stretch) : Type 1 where
    calls : Device → Type 0
    plain : IsPlain calls s
    one : (failed : Device) (story : Story) → calls failed → fault_locks which (said (s.on_fault failed) story) ≡ hits which failed

  abbrev AreSingle : List Stretch → Type 1
  AreSingle [] = Unit {1}
  AreSingle (s ∷ ss) = IsSingle s × AreSingle ss

  -- as many faults as locks, at most so many
  record Paired (most : ℕ) (old new : World) : Type 0 where
    faults : ℕ
    few : faults ≤ most
    pairs : Counted faults faults old new

  -- at a stretch that was crossed, at one that failed, and at one on which the power was lost
  crossed : (calls : Device → Type 0) (s : Stretch) (a b : World) → IsPlain calls s → Ran (s.plan (story_of a)) a b → Counted 0 0 a b
  crossed calls s a b p r = counted_ran (s.plan (story_of a)) 0 a b r (none_said calls (s.plan (story_of a)) (story_of a) (p (story_of a)))

  faulted : (calls : Device → Type 0) (s : Stretch) (locks : ℕ) (a b : World) → IsPlain calls s → (f : Faults s a b) → fault_locks which (said (s.on_fault f.which) (story_of f.at)) ≡ locks
      → Counted (hits which f.which) locks a b
  faulted calls s locks a b p f e =
      let cut = cut_makes calls IsNoFailure f.which (s.plan (story_of a)) f.stopped.trace (story_of a) (p (story_of a)) f.stopped.cut in
      let here : Counted (hits which f.which) 0 a f.at = record {
        counted = hit_at which f.which a f.at f.stopped.cause.0;
        made = record { trace = f.stopped.trace; is = f.stopped.is };
        noted = none_said calls f.stopped.trace (story_of a) cut.1;
      } in
      let both = counted_then (hits which f.which) 0 0 locks a f.at b here (counted_ran (s.on_fault f.which) locks f.at b f.noted e) in
      counted_as (hits which f.which + 0) (0 + locks) (hits which f.which) locks a b (omega arith) (omega arith) both

  lost_power : (calls : Device → Type 0) (s : Stretch) (a b : World) → IsPlain calls s → LosesPower s a b → Counted 0 0 a b
  lost_power calls s a b p l =
      let cut = cut_makes calls IsNoFailure l.which (s.plan (story_of a)) l.stopped.trace (story_of a) (p (story_of a)) l.stopped.cut in
      let here : Counted 0 0 a l.at = record {
        counted = unfailed a l.at l.stopped.cause.1;
        made = record { trace = l.stopped.trace; is = l.stopped.is };
        noted = none_said calls l.stopped.trace (story_of a) cut.1;
      } in
      none_before 0 0 a l.at b here (counted_ran (lost l.which) 0 l.at b l.noted refl)

  ended : (a b : World) → Ends a b → Counted 0 0 a b
  ended a b r = counted_ran [] 0 a b r refl

  paired_more : (n m : ℕ) (a b : World) → n ≤ m → Paired n a b → Paired m a b
  paired_more n m a b h p = record { faults = p.faults; few = omega (arith, h, p.few); pairs = p.pairs }

  paired_behind : (n : ℕ) (a b c : World) → Counted 0 0 a b → Paired n b c → Paired n a c
  paired_behind n a b c p q = record { faults = q.faults; few = q.few; pairs = none_before q.faults q.faults a b c p q.pairs }

  hits_few : (failed : Device) → hits which failed ≤ 1
  hits_few failed = by_case (same_device which failed)
    where
      by_case : (same : Bool) → cond same 1 0 ≤ 1
      by_case true = omega arith
      by_case false = omega arith

  -- As many calls of it answered a fault as locks for one are noted.
  Steps-paired : (ss : List Stretch) (a b : World) → AreSingle ss → Steps ss a b → Paired (length ss) a b
  Steps-paired [] a b q r = record { faults = 0; few = omega arith; pairs = ended a b r }
  Steps-paired (s ∷ ss) a b q (inl (mid, c, rest)) =
      paired_more (length ss) (length (s ∷ ss)) a b (omega arith) (paired_behind (length ss) a mid b (crossed q.0.calls s a mid q.0.plain c) (Steps-paired ss mid b q.1 rest))
  Steps-paired (s ∷ ss) a b q (inr (inl (mid, f, rest))) =
      let cut = cut_makes q.0.calls IsNoFailure f.which (s.plan (story_of a)) f.stopped.trace (story_of a) (q.0.plain (story_of a)) f.stopped.cut in
      let h : ℕ = hits which f.which in
      let here : Counted h h a mid = faulted q.0.calls s h a mid q.0.plain f (q.0.one f.which (story_of f.at) cut.0) in
      let behind : Paired (length ss) mid b = went_on s.goes_on (Steps ss) mid b (Paired (length ss) mid b) (λ e r. Steps-paired ss mid b q.1 r) (λ r. record { faults = 0; few = omega arith; pairs = ended mid b r }) rest in
      record { faults = h + behind.faults; few = omega (arith, hits_few f.which, behind.few); pairs = counted_then h h behind.faults behind.faults a mid b here behind.pairs }
  Steps-paired (s ∷ ss) a b q (inr (inr l)) = record { faults = 0; few = omega arith; pairs = lost_power q.0.calls s a b q.0.plain l }

  -- ---- where one fault of the store locks both banks
  record IsDouble (s : Stretch) : Type 0 where
    plain : IsPlain IsStore s
    both : (story : Story) → fault_locks which (said (s.on_fault device.Nv) story) ≡ hits which device.Nv + hits which device.Nv
    ends : s.goes_on ≡ false

  -- as many faults as locks, or one of the store for both banks, where the event may lock them so
  abbrev Told : Event → World → World → Type 0
  Told e a b = Paired 2 a b ⊎ (LocksBoth e × Counted (hits which device.Nv) (hits which device.Nv + hits which device.Nv) a b)

  Steps-doubled : (e : Event) (s : Stretch) (ss : List Stretch) (a b : World) → LocksBoth e → IsDouble s → AreSingle ss → length ss ≤ 2 → Steps (s ∷ ss) a b → Told e a b
  Steps-doubled e s ss a b shares d q few (inl (mid, c, rest)) =
      inl (paired_more (length ss) 2 a b few (paired_behind (length ss) a mid b (crossed IsStore s a mid d.plain c) (Steps-paired ss mid b q rest)))
  Steps-doubled e s ss a b shares d q few (inr (inl (mid, f, rest))) =
      let cut = cut_makes IsStore IsNoFailure f.which (s.plan (story_of a)) f.stopped.trace (story_of a) (d.plain (story_of a)) f.stopped.cut in
      let h : ℕ = hits which device.Nv in
      let here : Counted (hits which f.which) (h + h) a mid = faulted IsStore s (h + h) a mid d.plain f (subst (λ (failed : Device). fault_locks which (said (s.on_fault failed) (story_of f.at)) ≡ h + h) (sym cut.0) (d.both (story_of f.at))) in
      let none : Counted 0 0 mid b = went_on s.goes_on (Steps ss) mid b (Counted 0 0 mid b) (λ on r. absurd (let never : false ≡ true = sym d.ends ∙ on in cc)) (λ r. ended mid b r) rest in
      inr (shares, counted_as (hits which f.which) (h + h) h (h + h) a b (ap (λ (failed : Device). hits which failed) cut.0) refl (none_behind (hits which f.which) (h + h) a mid b here none))
  Steps-doubled e s ss a b shares d q few (inr (inr l)) = inl (record { faults = 0; few = omega arith; pairs = lost_power IsStore s a b d.plain l })

  -- ---- by event
  own_locks : (b : Bank) (failed : Device) (story : Story) → IsOwn b failed → fault_locks which (said (Says (what.Locked b (fault_of failed)) ∷ []) story) ≡ hits which failed
  own_locks bank.Bmc device.Bmc story own = omega arith
  own_locks bank.Bmc device.Pch story own = absurd (elim own [ inl e ↦ cc | inr e ↦ cc ])
  own_locks bank.Pch device.Bmc story own = absurd (elim own [ inl e ↦ cc | inr e ↦ cc ])
  own_locks bank.Pch device.Pch story own = omega arith
  own_locks b device.Nv story own = omega arith

  mine_locks : (b : Bank) (story : Story) → fault_locks which (said (Says (what.Held b) ∷ Says (what.Locked b why.FlashFault) ∷ []) story) ≡ hits which (device_of b)
  mine_locks b story = omega arith

  bank_single : (accepts : Acceptance) (b : Bank) → IsSingle (bank_stretch accepts b)
  bank_single accepts b = record { calls = IsOwn b; plain = λ story. brought_makes accepts b story; one = λ failed story own. own_locks b failed story own }

  expiry_single : (accepts : Acceptance) (b : Bank) → IsSingle (expiry_stretch accepts b)
  expiry_single accepts b = record { calls = IsOwn b; plain = λ story. expired_makes accepts b story; one = λ failed story own. own_locks b failed story own }

  update_single : (accepts : Acceptance) (b : Bank) (intent : Intent) → IsSingle (update_stretch accepts b intent)
  update_single accepts b intent = record { calls = IsOwn b; plain = λ story. updating_makes accepts b intent story; one = λ failed story own. own_locks b failed story own }

  spi_single : (accepts : Acceptance) (b : Bank) (frame : List ℕ) → IsSingle (spi_stretch accepts b frame)
  spi_single accepts b frame = record {
    calls = IsMine b;
    plain = λ story. filtered_makes accepts b frame story;
    one = λ failed story own. mine_locks b story ∙ ap (λ (d : Device). hits which d) (sym own);
  }

  fuses_double : IsDouble fuse_stretch
  fuses_double = record { plain = λ story. migrated_makes story; both = λ story. omega arith; ends = refl }

  provision_double : (root : RootSlot) → IsDouble (provision_stretch root)
  provision_double root = record { plain = λ story. provisioned_makes root story; both = λ story. omega arith; ends = refl }

  told_behind : (e : Event) (a b c : World) → Counted 0 0 a b → Told e b c → Told e a c
  told_behind e a b c p (inl q) = inl (paired_behind 2 a b c p q)
  told_behind e a b c p (inr q) = inr (q.0, none_before (hits which device.Nv) (hits which device.Nv + hits which device.Nv) a b c p q.1)

  single_if : (due : Bool) (s : Stretch) (ss : List Stretch) → IsSingle s → AreSingle ss → AreSingle (stretch_if due s ss)
  single_if true s ss single rest = (single, rest)
  single_if false s ss single rest = rest

  -- a course whose first notes are no locks for faults, and that has two stretches at most
  along : (c : Course) (old new : World) → fault_locks which (said c.first (story_of old)) ≡ 0 → AreSingle c.stretches → length c.stretches ≤ 2 → Follows c old new → Paired 2 old new
  along c old new first single few (mid, says, rest) =
      paired_behind 2 old mid new (counted_ran c.first 0 old mid says first) (paired_more (length c.stretches) 2 mid new few (Steps-paired c.stretches mid new single rest))

  ticks_few : (bmc pch : Bool) (s t : Stretch) → length (stretch_if bmc s (stretch_if pch t [])) ≤ 2
  ticks_few true true s t = omega arith
  ticks_few true false s t = omega arith
  ticks_few false true s t = omega arith
  ticks_few false false s t = omega arith

  taken_told : (accepts : Acceptance) (e : Event) (story : Story) (old new : World) → Follows (taken accepts e story) old new → Told e old new
  taken_told accepts event.Power story old new (mid, says, rest) =
      let ss : List Stretch = bank_stretch accepts bank.Bmc ∷ bank_stretch accepts bank.Pch ∷ [] in
      told_behind event.Power old mid new (counted_ran (power_course accepts).first 0 old mid says (omega arith)) (Steps-doubled event.Power fuse_stretch ss mid new tt fuses_double (bank_single accepts bank.Bmc, (bank_single accepts bank.Pch, tt)) (omega arith) rest)
  taken_told accepts event.Off story old new t = inl (along off_course old new (omega arith) tt (omega arith) t)
  taken_told accepts (event.Provision root) story old new (mid, says, rest) =
      told_behind (event.Provision root) old mid new (counted_ran [] 0 old mid says (omega arith)) (Steps-doubled (event.Provision root) (provision_stretch root) [] mid new tt (provision_double root) tt (omega arith) rest)
  taken_told accepts (event.Spi b frame) story old new t = inl (along (spi_course accepts b frame) old new (omega arith) (spi_single accepts b frame, tt) (omega arith) t)
  taken_told accepts (event.Smbus b frame) story old new t =
      inl (along (smbus_course accepts b frame story) old new (none_said NoDevice (smbus_judged accepts b frame story) (story_of old) (smbus_makes accepts b frame story)) tt (omega arith) t)
  taken_told accepts (event.Tick n) story old new t =
      let pch : Stretch = expiry_stretch accepts bank.Pch in
      inl (along (tick_course accepts n story) old new (omega arith)
      (single_if (is_due bank.Bmc n story) (expiry_stretch accepts bank.Bmc) (stretch_if (is_due bank.Pch n story) pch []) (expiry_single accepts bank.Bmc) (single_if (is_due bank.Pch n story) pch [] (expiry_single accepts bank.Pch) tt))
      (ticks_few (is_due bank.Bmc n story) (is_due bank.Pch n story) (expiry_stretch accepts bank.Bmc) pch) t)
  taken_told accepts (event.Boot b true) story old new t =
      let at : Stage = stage_at b story in
      let note : AllMake NoDevice IsNoFailure (boot_course accepts b true story).first = (pass_noted (λ (that : What). (counts : Counts) → ¬ IsFailure that) b at (next_stage at) (λ e counts fails. fails) (λ e counts fails. fails), tt) in
      inl (along (boot_course accepts b true story) old new (none_said NoDevice (boot_course accepts b true story).first (story_of old) note) tt (omega arith) t)
  taken_told accepts (event.Boot b false) story old new t = inl (along (boot_course accepts b false story) old new (omega arith) (expiry_single accepts b, tt) (omega arith) t)
  taken_told accepts (event.Update b intent) story old new t = inl (along (update_course accepts b intent) old new (omega arith) (update_single accepts b intent, tt) (omega arith) t)

  turn_told : (accepts : Acceptance) (e : Event) (old new : World) → Turn accepts e old new → Told e (begun e old) new
  turn_told accepts e old new t = elim (Turn-cases accepts e old new t) [
    | inl idle ↦ inl (along ignored (begun e old) new (omega arith) tt (omega arith) idle.1)
    | inr on ↦ taken_told accepts e (story_of old) (begun e old) new on.1
  ]

  from_begun : (e : Event) (old new : World) (n : ℕ) → (state_at which new).faults ≡ raised_by (state_at which (begun e old)).faults n → (state_at which new).faults ≡ raised_by (state_at which old).faults n
  from_begun e old new n c = c ∙ ap (λ (d : FlashState). raised_by d.faults n) (begun_at which e old)

  locks_added : (e : Event) (old new : World) (f l : ℕ) → Counted f l (begun e old) new → fault_locks which (added old new) ≡ l
  locks_added e old new f l c = ap (λ (notes : List Note). fault_locks which notes) (added_said (begun e old) new c.made) ∙ c.noted

-- ---- of a whole step
told_counted : (which : Device) (e : Event) (old new : World) → Told which e (begun e old) new → FaultsAreCounted e which old new
told_counted which e old new (inl p) = record {
  faults = p.faults;
  few = p.few;
  counted = from_begun which e old new p.faults p.pairs.counted;
  locks = inl (locks_added which e old new p.faults p.faults p.pairs);
}
told_counted device.Bmc e old new (inr (both, c)) =
    record { faults = 0; few = omega arith; counted = from_begun device.Bmc e old new 0 c.counted; locks = inl (omega (arith, locks_added device.Bmc e old new 0 (0 + 0) c)) }
told_counted device.Pch e old new (inr (both, c)) =
    record { faults = 0; few = omega arith; counted = from_begun device.Pch e old new 0 c.counted; locks = inl (omega (arith, locks_added device.Pch e old new 0 (0 + 0) c)) }
told_counted device.Nv e old new (inr (both, c)) =
    record { faults = 1; few = omega arith; counted = from_begun device.Nv e old new 1 c.counted; locks = inr (both, refl, refl, omega (arith, locks_added device.Nv e old new 1 (1 + 1) c)) }

-- Each lock for a fault has a fault of its own that was counted.
pub Turn-faults_counted : (accepts : Acceptance) (e : Event) (old new : World) → Turn accepts e old new → (which : Device) → FaultsAreCounted e which old new
Turn-faults_counted accepts e old new t which = told_counted which e old new (turn_told which accepts e old new t)

-- ---- no fault is passed over
module _ (which : Device) where
  unlocked : (b : Bank) (cause : LockWhy) (at : Counts) (notes : List Note) → IsUndisturbed notes → IsNoted notes (what.Locked b cause at) → is_lock_for which b cause ≡ false
  unlocked b why.FlashFault at notes u n = absurd (u.flash b at n)
  unlocked b why.StoreFault at notes u n = absurd (u.store b at n)
  unlocked b _ at notes u n = refl

  unlocked_first : (that : What) (notes : List Note) → IsUndisturbed notes → IsNoted notes that → is_fault_of which that ≡ false
  unlocked_first (what.Locked b cause at) notes u n = unlocked b cause at notes u n
  unlocked_first _ notes u n = refl

  none_locked : (notes : List Note) → IsUndisturbed notes → fault_locks which notes ≡ 0
  none_locked [] u = refl
  none_locked (note ∷ notes) u =
      let here : weight which note ≡ 0 = ap (λ (b : Bool). cond b 1 0) (unlocked_first note.what (note ∷ notes) u (inl refl)) in
      omega (arith, sum_by-cons (weight which) note notes, here, none_locked notes (record { flash = λ b at n. u.flash b at (inr n); store = λ b at n. u.store b at (inr n) }))

  unfailed_undisturbed : (e : Event) (old new : World) → FaultsAreCounted e which old new → IsUndisturbed (added old new) → (state_at which new).faults ≡ (state_at which old).faults
  unfailed_undisturbed e old new c u =
      let zero = none_locked (added old new) u in
      elim c.locks [ inl same ↦ omega (arith, c.counted, same, zero) | inr (both, is, one, two) ↦ absurd (omega (arith, two, zero)) ]

-- In a step no fault of a device is passed over; a loss of power doesn't silence one.
pub Turn-told : (accepts : Acceptance) (e : Event) (old new : World) → Turn accepts e old new → FaultsAreNoted old new
Turn-told accepts e old new t u =
    let same = λ (which : Device). unfailed_undisturbed which e old new (Turn-faults_counted accepts e old new t which) u in
    record { bmc = same device.Bmc; pch = same device.Pch; nv = same device.Nv }

-- ---- and none is told that wasn't counted
-- a lock for a fault is among those that are counted
pub noted_counts : (which : Device) (that : What) → is_fault_of which that ≡ true → (notes : List Note) → IsNoted notes that → 1 ≤ fault_locks which notes
noted_counts which that is [] n = absurd n
noted_counts which that is (note ∷ notes) n =
    let weight : Note → ℕ = λ (m : Note). cond (is_fault_of which m.what) 1 0 in
    let cons = sum_by-cons weight note notes in
    elim n [
      | inl e ↦ let here : weight note ≡ 1 = ap (λ (w : What). cond (is_fault_of which w) 1 0) e ∙ ap (λ (b : Bool). cond b 1 0) is in omega (arith, cons, here)
      | inr m ↦ omega (arith, cons, noted_counts which that is notes m)
    ]

pub own_device : (b : Bank) → same_device (device_of b) (device_of b) ≡ true
own_device bank.Bmc = refl
own_device bank.Pch = refl

locked_rose : (which : Device) (e : Event) (old new : World) → FaultsAreCounted e which old new → 1 ≤ fault_locks which (added old new) → Rose (state_at which old).faults (state_at which new).faults
locked_rose which e old new c some = elim c.locks [ inl same ↦ omega (arith, c.counted, same, some) | inr (both, is, one, two) ↦ omega (arith, c.counted, one) ]

-- A bank is locked for a fault only where a count of faults rose.
pub Turn-caused : (accepts : Acceptance) (e : Event) (old new : World) → Turn accepts e old new → FaultsHaveCauses old new
Turn-caused accepts e old new t = record {
  flash = λ b at n.
      let which : Device = device_of b in
      locked_rose which e old new (Turn-faults_counted accepts e old new t which) (noted_counts which (what.Locked b why.FlashFault at) (own_device b) (added old new) n);
  store = λ b at n. locked_rose device.Nv e old new (Turn-faults_counted accepts e old new t device.Nv) (noted_counts device.Nv (what.Locked b why.StoreFault at) refl (added old new) n);
}
