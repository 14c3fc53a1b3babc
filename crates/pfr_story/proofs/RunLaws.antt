-- Laws of whole runs.
use Rattle.std.proofs.Common.{◌≡◌, ◌∙◌, ℕ, ◌+◌, ◌≤◌, ◌<◌, drop, take, length, refl, sym, ap, subst, arith, ◌&&◌, true, false, cond, List, [], ◌∷◌, ◌++◌, append_assoc, Some, None, inl, inr}
use Rattle.std.specs.Prelude.{slice_index_or}
use Rattle.std.proofs.lemmas.List.{append-nil, take_more, drop_more}
use Rattle.std.proofs.lemmas.List.Elements.{All-drop}
use Rattle.std.proofs.lemmas.List.Sums.{sum_by-cons}
use Rattle.std.proofs.Math.Seq.{drop-append_seam}
use Rattle.pfr_flash.specs.FlashState.{FlashState, Rose}
use Rattle.pfr_flash.specs.declared.names.Bank.{Bank}
use Rattle.pfr_flash.specs.declared.names.Bank.TheVariants as bank
use Rattle.pfr_flash.specs.declared.names.Counts.{Counts}
use Rattle.pfr_flash.specs.declared.names.Device.{Device}
use Rattle.pfr_flash.specs.declared.names.Device.TheVariants as device
use Rattle.pfr_engine.specs.Acceptance.{Acceptance}
use Rattle.pfr_script.specs.Arms.{arms_in, is_arm_of, is_counted, same_device, IsKnownArm}
use Rattle.pfr_script.specs.declared.arm.Arm.{Arm}
use Rattle.pfr_script.specs.declared.arm.ArmWhat.{ArmWhat}
use Rattle.pfr_script.specs.declared.arm.ArmWhat.TheVariants as armed_what
use Rattle.pfr_script.specs.declared.event.Event.{Event}
use Rattle.pfr_script.specs.declared.item.Item.{Item}
use Rattle.pfr_script.specs.declared.item.Item.TheVariants as item
use Rattle.pfr_report.specs.Texts.{IsNoted}
use Rattle.pfr_report.specs.declared.note.LockWhy.{LockWhy}
use Rattle.pfr_report.specs.declared.note.LockWhy.TheVariants as why
use Rattle.pfr_report.specs.declared.note.Note.{Note}
use Rattle.pfr_report.specs.declared.note.What.{What}
use Rattle.pfr_report.specs.declared.note.What.TheVariants as what
use Rattle.pfr_story.specs.Story.{Story, Move, Says, Does, Asks, after, noted, operated, device_of, past_at}
use Rattle.pfr_story.specs.World.{World, NoneFailed, NoneLost, story_of, state_at, AllMoved, added}
use Rattle.pfr_story.specs.Spans.{ReleasedSpans}
use Rattle.pfr_story.specs.Turn.{Turn, course, next_item, begun}
use Rattle.pfr_story.specs.Run.{with_arm, with_arm_at, armed, Did, Reached, CanRun}
use Rattle.pfr_story.specs.Causes.{IsTrustedWith, IsDue}
use Rattle.pfr_story.specs.Promises.{AtCounts, IsFaultLock, IsWatchLock, IsUndisturbed, ReleasesTrusted, LocksHaveCauses, FaultsHaveCauses, FaultsAreNoted}
use Rattle.pfr_story.proofs.WorldLaws.{faults_moved, losses_moved, NoneLost-at, NoneFailed-at, NoneFailed-refl, NoneFailed-trans}
use Rattle.pfr_story.proofs.Courses.{opening}
use Rattle.pfr_story.proofs.Made.{Made, Steps-made, notes_after}
use Rattle.pfr_story.proofs.Traces.{Precedes, Precedes-refl, Precedes-after, Precedes-trans, KnownBefore, noted_append, noted_right}
use Rattle.pfr_story.proofs.Bytes.{HaveBytes, images_then}
use Rattle.pfr_story.proofs.Facts.{Setting, Fact}
use Rattle.pfr_story.proofs.Turns.{Turn-moved, step_of, Turn-known}
use Rattle.pfr_story.proofs.NoteLaws.{at_moment, lock_due}
use Rattle.pfr_story.proofs.FaultLaws.{begun_at, Turn-told}
use Rattle.pfr_story.proofs.SpanLaws.{IsTrustedAt, Kept, ReleasedSpans-kept}
use Rattle.pfr_story.proofs.SpanSteps.{Kept-item, Turn-spans}

-- ---- arms
-- an arm changes nothing of the story but the number of the item
armed_at : (d : Device) (w : ArmWhat) (nth : ℕ) (tear : List ℕ) (old : World) → story_of (next_item (with_arm_at d w nth tear old)) ≡ record (story_of old) { item = old.item + 1 }
armed_at device.Bmc armed_what.Cut nth tear old = refl
armed_at device.Bmc armed_what.Fault nth tear old = refl
armed_at device.Bmc armed_what.ReadFault nth tear old = refl
armed_at device.Pch armed_what.Cut nth tear old = refl
armed_at device.Pch armed_what.Fault nth tear old = refl
armed_at device.Pch armed_what.ReadFault nth tear old = refl
armed_at device.Nv armed_what.Cut nth tear old = refl
armed_at device.Nv armed_what.Fault nth tear old = refl
armed_at device.Nv armed_what.ReadFault nth tear old = refl

pub armed_story : (arm : Arm) (tear : List ℕ) (w : World) → story_of (armed arm tear w) ≡ record (story_of w) { item = w.item + 1 }
armed_story arm tear w = armed_at arm.device arm.what arm.nth tear w

arm_counts : (w : ArmWhat) (nth : ℕ) (tear : List ℕ) (d : FlashState) → ((with_arm w nth tear d).faults ≡ d.faults) × ((with_arm w nth tear d).losses ≡ d.losses)
arm_counts armed_what.Cut nth tear d = (refl, refl)
arm_counts armed_what.Fault nth tear d = (refl, refl)
arm_counts armed_what.ReadFault nth tear d = (refl, refl)

-- nor does one let a call fail, or a device lose its power
counts_armed : (d : Device) (w : ArmWhat) (nth : ℕ) (tear : List ℕ) (old : World) → NoneFailed old (next_item (with_arm_at d w nth tear old)) × NoneLost old (next_item (with_arm_at d w nth tear old))
counts_armed device.Bmc w nth tear old = let e = arm_counts w nth tear old.bmc in (record { bmc = e.0; pch = refl; nv = refl }, record { bmc = e.1; pch = refl; nv = refl })
counts_armed device.Pch w nth tear old = let e = arm_counts w nth tear old.pch in (record { bmc = refl; pch = e.0; nv = refl }, record { bmc = refl; pch = e.1; nv = refl })
counts_armed device.Nv w nth tear old = let e = arm_counts w nth tear old.nv in (record { bmc = refl; pch = refl; nv = e.0 }, record { bmc = refl; pch = refl; nv = e.1 })

pub failed_armed : (arm : Arm) (tear : List ℕ) (w : World) → NoneFailed w (armed arm tear w)
failed_armed arm tear w = (counts_armed arm.device arm.what arm.nth tear w).0

-- ---- a world of a run, and a later one
pub record IsLater (a b : World) : Type 0 where
  pub faults : (which : Device) → (state_at which a).faults ≤ (state_at which b).faults
  pub losses : (which : Device) → (state_at which a).losses ≤ (state_at which b).losses
  pub precedes : Precedes (story_of a) (story_of b)

pub IsLater-refl : (w : World) → IsLater w w
IsLater-refl w = record { faults = λ which. omega arith; losses = λ which. omega arith; precedes = Precedes-refl (story_of w) }

pub IsLater-trans : (a b c : World) → IsLater a b → IsLater b c → IsLater a c
IsLater-trans a b c p q = record {
  faults = λ which. omega (arith, p.faults which, q.faults which);
  losses = λ which. omega (arith, p.losses which, q.losses which);
  precedes = Precedes-trans (story_of a) (story_of b) (story_of c) p.precedes q.precedes;
}

-- neither the number of the item nor what guards the banks changes anything of what was done
precedes_item : (a b : Story) (n : ℕ) → Precedes a b → Precedes a (record b { item = n })
precedes_item a b n p = record { bmc = p.bmc; pch = p.pch; nv = p.nv }

precedes_begun : (e : Event) (w : World) → Precedes (story_of w) (story_of (begun e w))
precedes_begun e w = let p = Precedes-refl (story_of w) in record { bmc = p.bmc; pch = p.pch; nv = p.nv }

IsLater-begun : (e : Event) (w : World) → IsLater w (begun e w)
IsLater-begun e w = record {
  faults = λ which. let same = ap (λ (d : FlashState). d.faults) (begun_at which e w) in omega (arith, same);
  losses = λ which. let same = ap (λ (d : FlashState). d.losses) (begun_at which e w) in omega (arith, same);
  precedes = precedes_begun e w;
}

IsLater-armed : (arm : Arm) (tear : List ℕ) (w : World) → IsLater w (armed arm tear w)
IsLater-armed arm tear w = record {
  faults = λ which. let e = NoneFailed-at which w (armed arm tear w) (counts_armed arm.device arm.what arm.nth tear w).0 in omega (arith, e);
  losses = λ which. let e = NoneLost-at which w (armed arm tear w) (counts_armed arm.device arm.what arm.nth tear w).1 in omega (arith, e);
  precedes = subst (λ (t : Story). Precedes (story_of w) t) (sym (armed_story arm tear w)) (precedes_item (story_of w) (story_of w) (w.item + 1) (Precedes-refl (story_of w)));
}

-- what a step made
pub Turn-made : (accepts : Acceptance) (e : Event) (old new : World) → Turn accepts e old new → Made (begun e old) new
Turn-made accepts e old new (mid, first, rest) =
    Steps-made (opening (course accepts e (story_of old)) ∷ (course accepts e (story_of old)).stretches) (begun e old) new (inl (mid, first, rest))

pub IsLater-turn : (accepts : Acceptance) (e : Event) (old new : World) → Turn accepts e old new → IsLater old new
IsLater-turn accepts e old new t =
    let moved : AllMoved (begun e old) new = Turn-moved accepts e old new t in
    let made = Turn-made accepts e old new t in
    IsLater-trans old (begun e old) new (IsLater-begun e old) (record {
      faults = λ which. faults_moved which (begun e old) new moved;
      losses = λ which. losses_moved which (begun e old) new moved;
      precedes = subst (λ (t : Story). Precedes (story_of (begun e old)) t) (sym made.is) (Precedes-after (story_of (begun e old)) (story_of (begun e old)) made.trace (Precedes-refl (story_of (begun e old))));
    })

pub IsLater-did : (accepts : Acceptance) (tears : List (List ℕ)) (i : Item) (old new : World) → Did accepts tears i old new → IsLater old new
IsLater-did accepts tears (item.Event e) old new t = IsLater-turn accepts e old new t
IsLater-did accepts tears (item.Arm arm) old new e = subst (λ (w : World). IsLater old w) (sym e) (IsLater-armed arm (slice_index_or tears arm.tear []) old)

pub Reached-later : (accepts : Acceptance) (tears : List (List ℕ)) (items : List Item) (old new : World) → Reached (Did accepts tears) items old new → IsLater old new
Reached-later accepts tears [] old new r = subst (λ (w : World). IsLater old w) (sym r) (IsLater-refl old)
Reached-later accepts tears (i ∷ items) old new (mid, d, r) =
    IsLater-trans old mid new (IsLater-did accepts tears i old mid d) (Reached-later accepts tears items mid new r)

-- ---- the notes that are added
abbrev pub Adds : World → World → Type 0
Adds old new = (more : List Note) × (new.notes.list ≡ old.notes.list ++ more)

pub added_is : (old new : World) (adds : Adds old new) → added old new ≡ adds.0
added_is old new adds = ap (λ (notes : List Note). drop (length old.notes.list) notes) adds.1 ∙ drop-append_seam old.notes.list adds.0

pub adds_added : (old new : World) → Adds old new → new.notes.list ≡ old.notes.list ++ added old new
adds_added old new adds = adds.1 ∙ ap (λ (more : List Note). old.notes.list ++ more) (sym (added_is old new adds))

pub turn_adds : (accepts : Acceptance) (e : Event) (old new : World) → Turn accepts e old new → Adds old new
turn_adds accepts e old new t =
    let made = Turn-made accepts e old new t in
    (_, ap (λ (s : Story). s.notes) made.is ∙ notes_after made.trace (story_of (begun e old)))

pub did_adds : (accepts : Acceptance) (tears : List (List ℕ)) (i : Item) (old new : World) → Did accepts tears i old new → Adds old new
did_adds accepts tears (item.Event e) old new t = turn_adds accepts e old new t
did_adds accepts tears (item.Arm arm) old new e =
    let tear = slice_index_or tears arm.tear [] in
    ([], ap (λ (w : World). w.notes.list) e ∙ ap (λ (s : Story). s.notes) (armed_story arm tear old) ∙ sym (append-nil old.notes.list))

abbrev pub adds_then : (a b c : World) → Adds a b → Adds b c → Adds a c
adds_then a b c p q = (p.0 ++ q.0, q.1 ∙ ap (λ (notes : List Note). notes ++ q.0) p.1 ∙ append_assoc a.notes.list p.0 q.0)

pub reached_adds : (accepts : Acceptance) (tears : List (List ℕ)) (items : List Item) (old new : World) → Reached (Did accepts tears) items old new → Adds old new
reached_adds accepts tears [] old new r = ([], ap (λ (w : World). w.notes.list) r ∙ sym (append-nil old.notes.list))
reached_adds accepts tears (i ∷ items) old new (mid, d, r) = adds_then old mid new (did_adds accepts tears i old mid d) (reached_adds accepts tears items mid new r)

noted_left : (xs ys : List Note) (that : What) → IsNoted xs that → IsNoted (xs ++ ys) that
noted_left [] ys that n = absurd n
noted_left (x ∷ xs) ys that (inl e) = inl e
noted_left (x ∷ xs) ys that (inr n) = inr (noted_left xs ys that n)

-- ---- what holds of a run so far
unfoldable pub running : Acceptance → World → World → Setting
running accepts first last = record { accepts = accepts; first = first; last = last; IsSwitched = Unit {0}; HasExpired = λ b level notes. Unit {0}; HasResumed = λ b level notes. Unit {0} }

-- what is known of a note of a step is known of it in the run
fact_later : (accepts : Acceptance) (e : Event) (old new first last : World) → IsLater first old → IsLater new last → (that : What) (at : Story)
    → Fact (step_of accepts e old new) that at → Fact (running accepts first last) that at
unfolding step_of running
fact_later accepts e old new first last before behind (what.Held b counts) at f = f
fact_later accepts e old new first last before behind (what.Released b svn counts) at f = f
fact_later accepts e old new first last before behind (what.Locked b why.FlashFault counts) at f =
    (f.0, omega (arith, before.faults (device_of b), behind.faults (device_of b), f.1))
fact_later accepts e old new first last before behind (what.Locked b why.StoreFault counts) at f =
    (f.0, omega (arith, before.faults device.Nv, behind.faults device.Nv, f.1))
fact_later accepts e old new first last before behind (what.Locked b why.Unprovisioned counts) at f = f
fact_later accepts e old new first last before behind (what.Locked b why.SlotsSpent counts) at f = f
fact_later accepts e old new first last before behind (what.Locked b (why.Layout rule) counts) at f = f
fact_later accepts e old new first last before behind (what.Locked b (why.NoGoodImage active recovery) counts) at f = f
fact_later accepts e old new first last before behind (what.Locked b why.WatchdogSpent counts) at f = f
fact_later accepts e old new first last before behind (what.Locked b (why.NoRecovery recovery) counts) at f = f
fact_later accepts e old new first last before behind (what.Lost (Some which) counts) at f = (f.0, omega (arith, before.losses which, behind.losses which, f.1))
fact_later accepts e old new first last before behind (what.Lost None counts) at f = (f.0, tt)
fact_later accepts e old new first last before behind (what.Untrusted b cause) at f = f
fact_later accepts e old new first last before behind (what.Restored b level) at f = record {
  at = f.at;
  since = Precedes-trans (story_of first) (story_of old) f.at before.precedes f.since;
  before = f.before;
  was = λ bytes. elim (f.was bytes) [ inl here ↦ inl here | inr more ↦ elim more [ inl back ↦ inr (inl (tt, back.1)) | inr again ↦ inr (inr (tt, again.1)) ] ];
}
fact_later accepts e old new first last before behind _ at f = tt

pub record IsSafe (accepts : Acceptance) (first last : World) (story : Story) : Type 0 where
  pub known : (that : What) → IsNoted story.notes that → KnownBefore (Fact (running accepts first last)) that story
  pub kept : (which : Bank) → Kept accepts which story
  pub size : length story.nv.start ≡ 32768

IsSafe-item : (accepts : Acceptance) (first last : World) (n : ℕ) (story : Story) → IsSafe accepts first last story → IsSafe accepts first last (record story { item = n })
IsSafe-item accepts first last n story p = record {
  known = λ that noted. let k = p.known that noted in (k.0, k.1, precedes_item k.0 story n k.2);
  kept = λ which. Kept-item accepts which n story.guards story (p.kept which);
  size = p.size;
}

module _ (accepts : Acceptance) (first last : World) where
  safe_turn : (e : Event) (old new : World) → IsLater first old → IsLater new last → Turn accepts e old new → IsSafe accepts first last (story_of old) → IsSafe accepts first last (story_of new)
  safe_turn e old new before behind t p =
      let later = IsLater-turn accepts e old new t in
      record {
        known = λ that n. elim (noted_append old.notes.list (added old new) that (subst (λ (notes : List Note). IsNoted notes that) (adds_added old new (turn_adds accepts e old new t)) n)) [
          | inl was ↦ (let k = p.known that was in (k.0, k.1, Precedes-trans k.0 (story_of old) (story_of new) k.2 later.precedes))
          | inr now ↦ (let k = Turn-known accepts e old new p.size t that now in (k.0, fact_later accepts e old new first last before behind that k.0 k.1, k.2))
        ];
        kept = λ which. Turn-spans accepts which e old new t p.size (p.kept which);
        size = ap (λ (xs : List ℕ). length xs) later.precedes.nv.start ∙ p.size;
      }

  safe_did : (tears : List (List ℕ)) (i : Item) (old new : World) → IsLater first old → IsLater new last → Did accepts tears i old new
      → IsSafe accepts first last (story_of old) → IsSafe accepts first last (story_of new)
  safe_did tears (item.Event e) old new before behind t p = safe_turn e old new before behind t p
  safe_did tears (item.Arm arm) old new before behind e p =
      let tear = slice_index_or tears arm.tear [] in
      subst (λ (t : Story). IsSafe accepts first last t) (sym (ap story_of e ∙ armed_story arm tear old)) (IsSafe-item accepts first last (old.item + 1) (story_of old) p)

  safe_reached : (tears : List (List ℕ)) (items : List Item) (old new : World) → IsLater first old → IsLater new last → Reached (Did accepts tears) items old new
      → IsSafe accepts first last (story_of old) → IsSafe accepts first last (story_of new)
  safe_reached tears [] old new before behind r p = subst (λ (w : World). IsSafe accepts first last (story_of w)) (sym r) p
  safe_reached tears (i ∷ items) old new before behind (mid, d, r) p =
      safe_reached tears items mid new (IsLater-trans first old mid before (IsLater-did accepts tears i old mid d)) behind r
      (safe_did tears i old mid before (IsLater-trans mid new last (Reached-later accepts tears items mid new r) behind) d p)

-- ---- a run from the first
-- nothing was noted yet, and the store has its size
pub record IsFresh (w : World) : Type 0 where
  pub notes : w.notes.list ≡ []
  pub size : length w.nv.start ≡ 32768

kept_first : (accepts : Acceptance) (which : Bank) (story : Story) → story.notes ≡ [] → Kept accepts which story
kept_first accepts bank.Bmc story e = record { closed = rw e tt; opened = rw e tt }
kept_first accepts bank.Pch story e = record { closed = rw e tt; opened = rw e tt }

first_safe : (accepts : Acceptance) (first last : World) (w : World) → IsFresh w → IsSafe accepts first last (story_of w)
first_safe accepts first last w f = record {
  known = λ that n. absurd (subst (λ (notes : List Note). IsNoted notes that) f.notes n);
  kept = λ which. kept_first accepts which (story_of w) f.notes;
  size = f.size;
}

pub trusted_at : (accepts : Acceptance) (which : Bank) (svn : ℕ) (at : Counts) (w : World) → AtCounts (λ image nv. IsTrustedWith svn image nv which accepts) which at w
    → IsTrustedAt accepts which (past_at (device_of which) (story_of w)) (story_of w).nv at
trusted_at accepts bank.Bmc svn at w t = t.0
trusted_at accepts bank.Pch svn at w t = t.0

module _ (accepts : Acceptance) (tears : List (List ℕ)) (items : List Item) (start end : World) (fresh : IsFresh start) (run : Reached (Did accepts tears) items start end) (held : HaveBytes end) where
  run_safe : IsSafe accepts start end (story_of end)
  run_safe = safe_reached accepts start end tears items start end (IsLater-refl start) (IsLater-refl end) run (first_safe accepts start end start fresh)

  run_known : (that : What) → IsNoted end.notes.list that → KnownBefore (Fact (running accepts start end)) that (story_of end)
  run_known that n = run_safe.known that n

  -- A bank was released only where it was trusted.
  pub Reached-released : (which : Bank) (svn : ℕ) (at : Counts) → IsNoted end.notes.list (what.Released which svn at)
      → AtCounts (λ image nv. IsTrustedWith svn image nv which accepts) which at end
  unfolding running
  Reached-released which svn at n =
      let k = run_known (what.Released which svn at) n in
      at_moment (λ image nv. IsTrustedWith svn image nv which accepts) which k.0 at end k.1.0 k.2 (k.1.1 (images_then k.0 end k.2 held (device_of which)))

  -- Throughout the spans in which a bank stands released it was trusted, and nothing that this reads was touched.
  pub Reached-spans : (which : Bank) → ReleasedSpans accepts which (story_of end)
  Reached-spans which =
      ReleasedSpans-kept accepts which (story_of end) (run_safe.kept which) (λ svn at n. trusted_at accepts which svn at end (Reached-released which svn at n))

  -- A bank was locked, but for a fault or by its watch, only with a cause in its contents.
  pub Reached-locks : (which : Bank) (cause : LockWhy) (at : Counts) → IsNoted end.notes.list (what.Locked which cause at) → ¬ IsFaultLock cause → ¬ IsWatchLock cause
      → AtCounts (λ image nv. IsDue cause which image nv accepts) which at end
  unfolding running
  Reached-locks which cause at n no_fault no_watch =
      let k = run_known (what.Locked which cause at) n in
      at_moment (λ image nv. IsDue cause which image nv accepts) which k.0 at end k.1.0 k.2
      (lock_due (running accepts start end) cause which k.0 no_fault no_watch (images_then k.0 end k.2 held (device_of which)) k.1.1)

  -- A bank was locked for a fault only where a count of faults rose.
  pub Reached-flash_faults : (which : Bank) (at : Counts) → IsNoted end.notes.list (what.Locked which why.FlashFault at)
      → Rose (state_at (device_of which) start).faults (state_at (device_of which) end).faults
  unfolding running
  Reached-flash_faults which at n = let k = run_known (what.Locked which why.FlashFault at) n in k.1.1

  pub Reached-store_faults : (which : Bank) (at : Counts) → IsNoted end.notes.list (what.Locked which why.StoreFault at) → Rose start.nv.faults end.nv.faults
  unfolding running
  Reached-store_faults which at n = let k = run_known (what.Locked which why.StoreFault at) n in k.1.1

  -- the same of the notes that were added, which are all
  all_added : (that : What) → IsNoted (added start end) that → IsNoted end.notes.list that
  all_added that n = subst (λ (notes : List Note). IsNoted (drop (length notes) end.notes.list) that) fresh.notes n

  pub Reached-releases : ReleasesTrusted accepts start end
  Reached-releases which svn at n = Reached-released which svn at (all_added (what.Released which svn at) n)

  pub Reached-causes : LocksHaveCauses accepts start end
  Reached-causes which cause at n no_fault no_watch = Reached-locks which cause at (all_added (what.Locked which cause at) n) no_fault no_watch

  pub Reached-faults : FaultsHaveCauses start end
  Reached-faults = record {
    flash = λ which at n. Reached-flash_faults which at (all_added (what.Locked which why.FlashFault at) n);
    store = λ which at n. Reached-store_faults which at (all_added (what.Locked which why.StoreFault at) n);
  }

-- ---- no fault is passed over
undisturbed_part : (part whole : List Note) → ((that : What) → IsNoted part that → IsNoted whole that) → IsUndisturbed whole → IsUndisturbed part
undisturbed_part part whole f u = record {
  flash = λ which at n. u.flash which at (f (what.Locked which why.FlashFault at) n);
  store = λ which at n. u.store which at (f (what.Locked which why.StoreFault at) n);
}

did_told : (accepts : Acceptance) (tears : List (List ℕ)) (i : Item) (old new : World) → Did accepts tears i old new → FaultsAreNoted old new
did_told accepts tears (item.Event e) old new t = Turn-told accepts e old new t
did_told accepts tears (item.Arm arm) old new e = λ u. subst (λ (w : World). NoneFailed old w) (sym e) (failed_armed arm (slice_index_or tears arm.tear []) old)

-- No fault of a device is passed over in a run.
pub Reached-told : (accepts : Acceptance) (tears : List (List ℕ)) (items : List Item) (old new : World) → Reached (Did accepts tears) items old new → FaultsAreNoted old new
Reached-told accepts tears [] old new r u = subst (λ (w : World). NoneFailed old w) (sym r) (NoneFailed-refl old)
Reached-told accepts tears (i ∷ items) old new (mid, d, r) u =
    let first = did_adds accepts tears i old mid d in
    let rest = reached_adds accepts tears items mid new r in
    let all : added old new ≡ first.0 ++ rest.0 = added_is old new (adds_then old mid new first rest) in
    let early : IsUndisturbed (added old mid) =
    undisturbed_part (added old mid) (added old new)
    (λ that n. subst (λ (notes : List Note). IsNoted notes that) (sym all) (noted_left first.0 rest.0 that (subst (λ (notes : List Note). IsNoted notes that) (added_is old mid first) n))) u in
    let late : IsUndisturbed (added mid new) =
    undisturbed_part (added mid new) (added old new)
    (λ that n. subst (λ (notes : List Note). IsNoted notes that) (sym all) (noted_right first.0 rest.0 that (subst (λ (notes : List Note). IsNoted notes that) (added_is mid new rest) n))) u in
    NoneFailed-trans old mid new (did_told accepts tears i old mid d early) (Reached-told accepts tears items mid new r late)

-- ---- one item more
pub Reached-push : (did : Item → World → World → Type 0) (items : List Item) (i : Item) (old mid new : World) → Reached did items old mid → did i mid new → Reached did (items ++ i ∷ []) old new
Reached-push did [] i old mid new p q = (new, subst (λ (w : World). did i w new) p q, refl)
Reached-push did (j ∷ items) i old mid new (next, d, r) q = (next, d, Reached-push did items i next mid new r q)

pub Reached-more : (did : Item → World → World → Type 0) (items : List Item) (k : ℕ) (d i : Item) (old mid new : World) → k < length items → slice_index_or items k d ≡ i → did i mid new
    → Reached did (take k items) old mid → Reached did (take (k + 1) items) old new
Reached-more did items k d i old mid new h e t r =
    subst (λ (xs : List Item). Reached did xs old new)
    (sym (take_more items k d h ∙ ap (λ (x : Item). take k items ++ x ∷ []) e))
    (Reached-push did (take k items) i old mid new r t)

-- ---- what is left can be done
arms_cons : (which : Device) (i : Item) (items : List Item) (n : ℕ) → arms_in which (i ∷ items) ≤ n → cond (is_arm_of which i) 1 0 + arms_in which items ≤ n
arms_cons which i items n h = subst (λ (m : ℕ). m ≤ n) (sum_by-cons (λ (x : Item). cond (is_arm_of which x) 1 0) i items) h

-- an arm takes one of its device's arms, unless it is that of a read
takes_one : (w : ArmWhat) (nth : ℕ) (tear : List ℕ) (d : FlashState) → cond (is_counted w && true) 1 0 ≤ d.arms → (with_arm w nth tear d).arms + cond (is_counted w && true) 1 0 ≡ d.arms
takes_one armed_what.Cut nth tear d h = omega (arith, h)
takes_one armed_what.Fault nth tear d h = omega (arith, h)
takes_one armed_what.ReadFault nth tear d h = omega (arith, h)

takes_none : (w : ArmWhat) (n : ℕ) → n + cond (is_counted w && false) 1 0 ≡ n
takes_none armed_what.Cut n = omega arith
takes_none armed_what.Fault n = omega arith
takes_none armed_what.ReadFault n = omega arith

pub arm_takes : (which at : Device) (w : ArmWhat) (nth : ℕ) (tear : List ℕ) (old : World) → cond (is_counted w && same_device which at) 1 0 ≤ (state_at which old).arms
    → (state_at which (next_item (with_arm_at at w nth tear old))).arms + cond (is_counted w && same_device which at) 1 0 ≡ (state_at which old).arms
arm_takes device.Bmc device.Bmc w nth tear old h = takes_one w nth tear old.bmc h
arm_takes device.Pch device.Pch w nth tear old h = takes_one w nth tear old.pch h
arm_takes device.Nv device.Nv w nth tear old h = takes_one w nth tear old.nv h
arm_takes device.Bmc device.Pch w nth tear old h = takes_none w old.bmc.arms
arm_takes device.Bmc device.Nv w nth tear old h = takes_none w old.bmc.arms
arm_takes device.Pch device.Bmc w nth tear old h = takes_none w old.pch.arms
arm_takes device.Pch device.Nv w nth tear old h = takes_none w old.pch.arms
arm_takes device.Nv device.Bmc w nth tear old h = takes_none w old.nv.arms
arm_takes device.Nv device.Pch w nth tear old h = takes_none w old.nv.arms

arms_turned : (e : Event) (old new : World) → AllMoved (begun e old) new → (which : Device) → (state_at which new).arms ≡ (state_at which old).arms
arms_turned e old new m device.Bmc = m.bmc.arms
arms_turned e old new m device.Pch = m.pch.arms
arms_turned e old new m device.Nv = m.nv.arms

after_item : (trace : List Move) (story : Story) → (after trace story).item ≡ story.item
after_item [] story = refl
after_item (Says w ∷ trace) story = after_item trace (noted w story)
after_item (Asks which ∷ trace) story = after_item trace story
after_item (Does device.Bmc op ∷ trace) story = after_item trace (operated device.Bmc op story)
after_item (Does device.Pch op ∷ trace) story = after_item trace (operated device.Pch op story)
after_item (Does device.Nv op ∷ trace) story = after_item trace (operated device.Nv op story)

module _ (accepts : Acceptance) where
  pub Turn-item : (e : Event) (old new : World) → Turn accepts e old new → new.item ≡ old.item + 1
  Turn-item e old new t =
      let made = Turn-made accepts e old new t in
      ap (λ (s : Story). s.item) made.is ∙ after_item made.trace (story_of (begun e old))

  pub CanRun-did : (tears : List (List ℕ)) (n : ℕ) (i : Item) (items : List Item) (old new : World) → CanRun n (i ∷ items) old → Did accepts tears i old new → CanRun n items new
  CanRun-did tears n (item.Event e) items old new p t = record {
    arms = λ which. let same = arms_turned e old new (Turn-moved accepts e old new t) which in let h = arms_cons which (item.Event e) items _ (p.arms which) in omega (arith, same, h);
    known = All-drop (IsKnownArm n) 1 (item.Event e ∷ items) p.known;
    few = omega (arith, p.few, Turn-item e old new t);
  }
  CanRun-did tears n (item.Arm arm) items old new p e =
      subst (λ (w : World). CanRun n items w) (sym e) (record {
        arms = λ which.
            let h = arms_cons which (item.Arm arm) items _ (p.arms which) in
            omega (arith, h, arm_takes which arm.device arm.what arm.nth (slice_index_or tears arm.tear []) old (omega (arith, h)));
        known = All-drop (IsKnownArm n) 1 (item.Arm arm ∷ items) p.known;
        few = let h = ap (λ (t : Story). t.item) (armed_story arm (slice_index_or tears arm.tear []) old) in omega (arith, p.few, h);
      })

  pub CanRun-more : (tears : List (List ℕ)) (n : ℕ) (items : List Item) (k : ℕ) (d i : Item) (mid new : World) → k < length items → slice_index_or items k d ≡ i
      → Did accepts tears i mid new → CanRun n (drop k items) mid → CanRun n (drop (k + 1) items) new
  CanRun-more tears n items k d i mid new h e t p =
      CanRun-did tears n i (drop (k + 1) items) mid new
      (subst (λ (xs : List Item). CanRun n xs mid) (drop_more items k d h ∙ ap (λ (x : Item). x ∷ drop (k + 1) items) e) p) t
