-- One stretch after another.
use Rattle.std.proofs.Common.{◌≡◌, ◌≢◌, ◌∙◌, ◌≤◌, refl, sym, subst, arith, ℕ, Bool, true, false, List, [], ◌∷◌, ◌⊎◌, inl, inr}
use Rattle.std.specs.Prelude.{not, ◌||◌}
use Rattle.pfr_flash.specs.FlashState.{Rose}
use Rattle.pfr_story.specs.Story.{Story, after}
use Rattle.pfr_story.specs.World.{World, story_of, state_at, AllMoved, NoneLost, NoneRose}
use Rattle.pfr_story.specs.Goes.{Ran}
use Rattle.pfr_engine.specs.Acceptance.{Acceptance}
use Rattle.pfr_script.specs.declared.event.Event.{Event}
use Rattle.pfr_watch.specs.Watching.{unless_done}
use Rattle.pfr_watch.specs.declared.stage.Stage.{Stage}
use Rattle.pfr_watch.specs.declared.stage.Stage.TheVariants as stage
use Rattle.pfr_story.specs.Standing.{Standing, Off, Held, Running, Locked, is_running}
use Rattle.pfr_story.specs.Turn.{ignored, ignored_if, is_idle, taken, begun, Turn}
use Rattle.pfr_story.specs.Course.{Stretch, Faults, CrossesOrFaults, Ends, goes_on_if, Steps, lost, calm_of, Course, Follows, Calm}
use Rattle.pfr_story.proofs.WorldLaws.{AllMoved-trans, faults_moved, losses_moved, NoneLost-at, NoneFailed-at}
use Rattle.pfr_story.proofs.Sequence.{Ran-refl, Ran-append}

goes_on_true : (on : Bool) (steps : World → World → Type 0) (mid new : World) → on ≡ true → steps mid new → goes_on_if on steps mid new
goes_on_true true steps mid new e p = p
goes_on_true false steps mid new e p = absurd cc

goes_on_false : (on : Bool) (steps : World → World → Type 0) (mid new : World) → on ≡ false → Ends mid new → goes_on_if on steps mid new
goes_on_false true steps mid new e p = absurd cc
goes_on_false false steps mid new e p = p

-- the step went on after the first stretch
pub Steps-next : (s : Stretch) (ss : List Stretch) (old mid new : World) → s.goes_on ≡ true
    → CrossesOrFaults s old mid → Steps ss mid new → Steps (s ∷ ss) old new
Steps-next s ss old mid new g (inl c) q = inl (mid, c, q)
Steps-next s ss old mid new g (inr f) q = inr (inl (mid, f, goes_on_true s.goes_on (Steps ss) mid new g q))

-- the step ended with a fault on the first stretch
pub Steps-ended : (s : Stretch) (ss : List Stretch) (old new : World) → s.goes_on ≡ false → Faults s old new → Steps (s ∷ ss) old new
Steps-ended s ss old new g f = inr (inl (new, f, goes_on_false s.goes_on (Steps ss) new new g (Ran-refl new)))

-- ---- what the devices did
-- it went on, or ended
pub went_on : (on : Bool) (steps : World → World → Type 0) (mid new : World) (R : Type 0) → (on ≡ true → steps mid new → R) → (Ends mid new → R) → goes_on_if on steps mid new → R
went_on true steps mid new R go end p = go refl p
went_on false steps mid new R go end p = end p

pub Steps-moved : (ss : List Stretch) (old new : World) → Steps ss old new → AllMoved old new
Steps-moved [] old new p = p.moved
Steps-moved (s ∷ ss) old new (inl (mid, c, rest)) = AllMoved-trans old mid new c.moved (Steps-moved ss mid new rest)
Steps-moved (s ∷ ss) old new (inr (inl (mid, f, rest))) =
    AllMoved-trans old f.at new f.stopped.moved (AllMoved-trans f.at mid new f.noted.moved (went_on s.goes_on (Steps ss) mid new (AllMoved mid new) (λ e r. Steps-moved ss mid new r) (λ r. r.moved) rest))
Steps-moved (s ∷ ss) old new (inr (inr l)) = AllMoved-trans old l.at new l.stopped.moved l.noted.moved

-- behind a fault
pub moved_behind : (s : Stretch) (ss : List Stretch) (mid new : World) → goes_on_if s.goes_on (Steps ss) mid new → AllMoved mid new
moved_behind s ss mid new rest = went_on s.goes_on (Steps ss) mid new (AllMoved mid new) (λ e r. Steps-moved ss mid new r) (λ r. r.moved) rest

-- a count that rose between is one that rose
pub fault_rose : (s : Stretch) (old mid new : World) (f : Faults s old mid) → AllMoved mid new → Rose (state_at f.which old).faults (state_at f.which new).faults
fault_rose s old mid new f m =
    let le : (state_at f.which f.at).faults ≤ (state_at f.which new).faults = faults_moved f.which f.at new (AllMoved-trans f.at mid new f.noted.moved m) in
    subst (λ (n : ℕ). n ≤ (state_at f.which new).faults) f.stopped.cause.0.once le

-- ---- a step in which no call failed
pub Steps-calm : (ss : List Stretch) (old new : World) → Steps ss old new → NoneLost old new → NoneRose old new → Ran (calm_of ss (story_of old)) old new
Steps-calm [] old new p none_lost none_rose = p
Steps-calm (s ∷ ss) old new (inl (mid, c, rest)) none_lost none_rose =
    let kept : NoneLost mid new = record { bmc = none_lost.bmc ∙ sym c.none_lost.bmc; pch = none_lost.pch ∙ sym c.none_lost.pch; nv = none_lost.nv ∙ sym c.none_lost.nv } in
    let calm = Steps-calm ss mid new rest kept (λ which rose. none_rose which (subst (λ (n : ℕ). Rose n (state_at which new).faults) (NoneFailed-at which old mid c.none_failed) rose)) in
    Ran-append (s.plan (story_of old)) (calm_of ss (after (s.plan (story_of old)) (story_of old))) old mid new c
    (subst (λ (t : Story). Ran (calm_of ss t) mid new) c.is calm)
Steps-calm (s ∷ ss) old new (inr (inl (mid, f, rest))) none_lost none_rose = absurd (none_rose f.which (fault_rose s old mid new f (moved_behind s ss mid new rest)))
Steps-calm (s ∷ ss) old new (inr (inr l)) none_lost none_rose = absurd (omega (arith, l.stopped.cause.0.once, losses_moved l.which l.at new l.noted.moved, NoneLost-at l.which old new none_lost))

-- what a course notes first, as a stretch
abbrev pub opening : Course → Stretch
opening c = record { plan = λ story. c.first; on_fault = lost; goes_on = false }

-- A step in which no count of losses or faults rose is calm.
pub Follows-calm : (c : Course) (old new : World) → Follows c old new → NoneLost old new → NoneRose old new → Calm c old new
Follows-calm c old new (mid, first, rest) none_lost none_rose =
    Steps-calm (opening c ∷ c.stretches) old new (inl (mid, first, rest)) none_lost none_rose

-- ---- an event that is ignored, and one that is taken
abbrev pub IsTakenBy : Acceptance → Event → World → World → Type 0
IsTakenBy accepts e old new = (is_idle e (story_of old) ≡ false) × Follows (taken accepts e (story_of old)) (begun e old) new

by_idle : (accepts : Acceptance) (e : Event) (old new : World) (idle : Bool) → is_idle e (story_of old) ≡ idle → Follows (ignored_if idle (taken accepts e (story_of old))) (begun e old) new
    → ((is_idle e (story_of old) ≡ true) × Follows ignored (begun e old) new) ⊎ IsTakenBy accepts e old new
by_idle accepts e old new true is t = inl (is, t)
by_idle accepts e old new false is t = inr (is, t)

pub Turn-cases : (accepts : Acceptance) (e : Event) (old new : World) → Turn accepts e old new
    → ((is_idle e (story_of old) ≡ true) × Follows ignored (begun e old) new) ⊎ IsTakenBy accepts e old new
Turn-cases accepts e old new t = by_idle accepts e old new (is_idle e (story_of old)) refl t

-- a bank whose frames are taken runs
pub taken_runs : (s : Standing) → not (is_running s) ≡ false → s ≡ Running
taken_runs Running e = refl
taken_runs Off e = absurd (let never : true ≡ false = e in cc)
taken_runs Held e = absurd (let never : true ≡ false = e in cc)
taken_runs Locked e = absurd (let never : true ≡ false = e in cc)

-- and one whose boot is taken has not booted yet
undone_by : (at : Stage) → unless_done at false true ≡ false → at ≢ stage.Done
undone_by stage.Done e same = let never : true ≡ false = e in absurd cc
undone_by stage.Bmc e same = cc
undone_by stage.Me e same = cc
undone_by stage.Acm e same = cc
undone_by stage.Ibb e same = cc
undone_by stage.Obb e same = cc

pub taken_boots : (s : Standing) (at : Stage) → (not (is_running s) || unless_done at false true) ≡ false → (s ≡ Running) × (at ≢ stage.Done)
taken_boots Running at e = (refl, undone_by at e)
taken_boots Off at e = absurd (let never : true ≡ false = e in cc)
taken_boots Held at e = absurd (let never : true ≡ false = e in cc)
taken_boots Locked at e = absurd (let never : true ≡ false = e in cc)
