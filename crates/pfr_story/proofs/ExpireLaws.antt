-- Watches expire exactly where they do, and what comes of it; a stage that is passed is noted.
use Rattle.std.proofs.Common.{◌≡◌, ◌≢◌, ◌∙◌, refl, sym, ap, subst, ℕ, Bool, true, false, List, [], ◌∷◌, length, ◌⊎◌, inl, inr, Option, Some}
use Rattle.std.specs.Prelude.{not, ◌&&◌, ◌||◌}
use Rattle.std.proofs.lemmas.Bool.{false≢true}
use Rattle.pfr_flash.specs.FlashState.{size_of}
use Rattle.pfr_flash.specs.Layout.{IsBankSize}
use Rattle.pfr_flash.specs.declared.names.Bank.{Bank}
use Rattle.pfr_flash.specs.declared.names.Bank.TheVariants as bank
use Rattle.pfr_flash.specs.declared.names.Counts.{Counts}
use Rattle.pfr_flash.specs.declared.names.Device.{Device}
use Rattle.pfr_flash.proofs.PlayLemmas.{length-play}
use Rattle.pfr_engine.specs.Acceptance.{Acceptance}
use Rattle.pfr_script.specs.declared.event.Event.{Event}
use Rattle.pfr_script.specs.declared.event.Event.TheVariants as event
use Rattle.pfr_watch.specs.Watching.{expires, unless_done}
use Rattle.pfr_watch.specs.Stages.{next_stage}
use Rattle.pfr_watch.specs.declared.stage.Stage.{Stage}
use Rattle.pfr_watch.specs.declared.stage.Stage.TheVariants as stage
use Rattle.pfr_watch.specs.declared.watch.Watch.{Watch}
use Rattle.pfr_report.specs.Texts.{IsNoted}
use Rattle.pfr_report.specs.declared.note.Note.{Note}
use Rattle.pfr_report.specs.declared.note.What.{What}
use Rattle.pfr_report.specs.declared.note.What.TheVariants as what
use Rattle.pfr_story.specs.Guards.{guard_at}
use Rattle.pfr_story.specs.Story.{Past, Story, Says, after, counts_of, image_of, other_bank}
use Rattle.pfr_story.specs.World.{World, story_of, AllMoved, added}
use Rattle.pfr_story.specs.Course.{Stretch, Steps, lost, Follows}
use Rattle.pfr_story.specs.Plans.{level_after}
use Rattle.pfr_story.specs.Standing.{Standing, Off, Held, Running, Locked, standing_of, is_running}
use Rattle.pfr_story.specs.Turn.{expiry_stretch, is_due, stretch_if, stage_at, pass_note, is_idle, tick_course, boot_course, taken, begun, Turn}
use Rattle.pfr_story.specs.Promises.{IsExpiring, Runs, RunningHasNoJob}
use Rattle.pfr_story.specs.Guarding.{Expires, Boots}
use Rattle.pfr_story.proofs.WorldLaws.{AllMoved-refl, AllMoved-trans}
use Rattle.pfr_story.proofs.BringAllowed.{IsSized}
use Rattle.pfr_story.proofs.BringRules.{level_at}
use Rattle.pfr_story.proofs.Courses.{Turn-cases, Steps-moved, taken_boots}
use Rattle.pfr_story.proofs.Traces.{Traced}
use Rattle.pfr_story.proofs.Made.{added_said, Wrote, Anything, wrote_then, wrote_by, wrote_moves, in_added}
use Rattle.pfr_story.proofs.Bytes.{HaveBytes}
use Rattle.pfr_story.proofs.Entry.{TrustedRunning, trusted_here, sized_here, follows_moved, begun_level}
use Rattle.pfr_story.proofs.Endings.{faulted_ends, lost_ends, last_ends, single_ends, crossed_traced, faulted_traced, lost_traced, steps_traced, course_traced}
use Rattle.pfr_story.proofs.QuietLaws.{Elsewhere, Unwatched, unwatched_elsewhere, Apart, expiry_apart, lost_apart, apart_wrote, Spared, traced_spares, ignored_quiet, taken_quiet}
use Rattle.pfr_story.proofs.ExpiringLaws.{Early, StandsAt, HoldsSame, holds_refl, Expiring, Outcome, expires_by}

-- ---- a tick
Wrote-more : (P Q : What → Type 0) → ((that : What) → P that → Q that) → (a b : World) → Wrote P a b → Wrote Q a b
Wrote-more P Q more a b w = record { more = w.more; is = w.is; all = λ that n. more that (w.all that n) }

wrote_none : (P : What → Type 0) (a b : World) → story_of b ≡ story_of a → Wrote P a b
wrote_none P a b e = wrote_by P [] a b e tt

-- a loss of power is noted
pub record HasLostPower (notes : List Note) : Type 0 where
  pub device : Option Device
  pub at : Counts
  pub noted : IsNoted notes (what.Lost device at)

-- a loss that a stretch ends with is noted
loss_noted : (first at new : World) (d : Device) → Wrote Anything first at → story_of new ≡ after (lost d) (story_of at) → IsNoted (added first new) (what.Lost (Some d) (counts_of (story_of at)))
loss_noted first at new d front is =
    let note : Note = record { item = (story_of at).item; what = what.Lost (Some d) (counts_of (story_of at)) } in
    in_added Anything Anything first at new new (note ∷ []) front (ap (λ (s : Story). s.notes) is) (wrote_none Anything new new refl) (what.Lost (Some d) (counts_of (story_of at))) (inl refl)

-- the other bank's part leaves it
spared_same : (accepts : Acceptance) (b : Bank) (from to : Story) → Spared accepts (other_bank b) from to → HoldsSame accepts b from to
spared_same accepts bank.Bmc from to p = record { mine = ap (λ (past : Past). image_of past) p.other; count = ap (λ (past : Past). length past.ops) p.other; trusts = p.trusts; size = p.size; opened = p.opened }
spared_same accepts bank.Pch from to p = record { mine = ap (λ (past : Past). image_of past) p.other; count = ap (λ (past : Past). length past.ops) p.other; trusts = p.trusts; size = p.size; opened = p.opened }

same_stands : (accepts : Acceptance) (b : Bank) (level : ℕ) (from to : Story) → HoldsSame accepts b from to → level_at b to ≡ level_at b from → StandsAt accepts b level from → StandsAt accepts b level to
same_stands accepts b level from to same rises p = record {
  rises = rises ∙ p.rises;
  trusted = (same.trusts p.trusted.manifest (p.trusted, refl)).0;
  size = subst (λ (image : List ℕ). IsBankSize (length image)) (sym same.mine) p.size;
  sized = same.size ∙ p.sized;
  idle = same.opened p.sized ∙ p.idle;
}

-- the store keeps its size
sized_later : (a b : World) → AllMoved a b → IsSized (story_of a) → IsSized (story_of b)
sized_later a b m sized = length-play b.nv.start b.nv.ops ∙ ap (λ (bytes : List ℕ). length bytes) m.nv.start ∙ sym (length-play a.nv.start a.nv.ops) ∙ sized

module _ (accepts : Acceptance) (first new : World) where
  abbrev bmc_expiry : Stretch
  bmc_expiry = expiry_stretch accepts bank.Bmc

  abbrev pch_expiry : Stretch
  pch_expiry = expiry_stretch accepts bank.Pch

  -- one bank's part, or none
  part_traced : (b : Bank) (due : Bool) (w : World) → IsSized (story_of w) → Steps (stretch_if due (expiry_stretch accepts b) []) w new → Traced (Apart b) w new
  part_traced b true w sized rest = steps_traced (Apart b) (lost_apart b) (expiry_stretch accepts b ∷ []) (expiry_apart accepts b, tt) w new sized rest
  part_traced b false w sized rest = steps_traced (Apart b) (lost_apart b) [] tt w new sized rest

  -- of the other bank it tells nothing
  part_quiet : (b : Bank) (due : Bool) (w : World) → story_of w ≡ story_of first → IsSized (story_of w) → Steps (stretch_if due (expiry_stretch accepts b) []) w new → Wrote (Unwatched (other_bank b)) first new
  part_quiet b due w e sized rest =
      let which : Bank = other_bank b in
      Wrote-more (Elsewhere which) (Unwatched which) (unwatched_elsewhere which) first new
      (wrote_then (Elsewhere which) first w new (wrote_none (Elsewhere which) first w e) (apart_wrote b w new (part_traced b due w sized rest)))

  bmc_first : (level : ℕ) (due : Bool) (w : World) → story_of w ≡ story_of first → StandsAt accepts bank.Bmc level (story_of w) → Steps (bmc_expiry ∷ stretch_if due pch_expiry []) w new
      → Expiring accepts bank.Bmc level first new
  bmc_first level due w e stands (inl (mid, c, rest)) =
      let traced = part_traced bank.Pch due mid (sized_later w mid c.moved stands.sized) rest in
      record {
        at = w;
        end = mid;
        stands = stands;
        ending = inl c.is;
        before = wrote_none (Early bank.Bmc) first w e;
        behind = apart_wrote bank.Pch mid new traced;
        kept = spared_same accepts bank.Bmc (story_of mid) (story_of new) (traced_spares accepts bank.Pch mid new traced);
        moved = c.moved;
        left = traced.moved;
      }
  bmc_first level due w e stands (inr (inl (mid, f, rest))) =
      let moved = AllMoved-trans w f.at mid f.stopped.moved f.noted.moved in
      let traced = part_traced bank.Pch due mid (sized_later w mid moved stands.sized) rest in
      record {
        at = w;
        end = mid;
        stands = stands;
        ending = faulted_ends bmc_expiry bank.Bmc (Wrote (Elsewhere bank.Pch) mid new) (λ d. refl) w mid f;
        before = wrote_none (Early bank.Bmc) first w e;
        behind = apart_wrote bank.Pch mid new traced;
        kept = spared_same accepts bank.Bmc (story_of mid) (story_of new) (traced_spares accepts bank.Pch mid new traced);
        moved = moved;
        left = traced.moved;
      }
  bmc_first level due w e stands (inr (inr l)) = record {
    at = w;
    end = new;
    stands = stands;
    ending = lost_ends bmc_expiry bank.Bmc (Wrote (Elsewhere bank.Pch) new new) (λ d. refl) w (wrote_none (Elsewhere bank.Pch) new new refl) new l;
    before = wrote_none (Early bank.Bmc) first w e;
    behind = wrote_none (Elsewhere bank.Bmc) new new refl;
    kept = holds_refl accepts bank.Bmc (story_of new);
    moved = AllMoved-trans w l.at new l.stopped.moved l.noted.moved;
    left = AllMoved-refl new;
  }

  pch_last : (level : ℕ) (w : World) → Wrote (Elsewhere bank.Pch) first w → StandsAt accepts bank.Pch level (story_of w) → Steps (pch_expiry ∷ []) w new → Expiring accepts bank.Pch level first new
  pch_last level w before stands rest = record {
    at = w;
    end = new;
    stands = stands;
    ending = last_ends pch_expiry bank.Pch (Wrote (Elsewhere bank.Pch) new new) (λ d. refl) w (wrote_none (Elsewhere bank.Pch) new new refl) new rest;
    before = Wrote-more (Elsewhere bank.Pch) (Early bank.Pch) (λ that elsewhere. (elsewhere, elsewhere)) first w before;
    behind = wrote_none (Elsewhere bank.Pch) new new refl;
    kept = holds_refl accepts bank.Pch (story_of new);
    moved = Steps-moved (pch_expiry ∷ []) w new rest;
    left = AllMoved-refl new;
  }

  -- it is reached behind the BMC's, but for a loss of power
  pch_next : (level : ℕ) (w mid : World) → story_of w ≡ story_of first → StandsAt accepts bank.Pch level (story_of w) → Traced (Apart bank.Bmc) w mid → Steps (pch_expiry ∷ []) mid new
      → Expiring accepts bank.Pch level first new
  pch_next level w mid e stands traced rest =
      let spared = traced_spares accepts bank.Bmc w mid traced in
      pch_last level mid (wrote_then (Elsewhere bank.Pch) first w mid (wrote_none (Elsewhere bank.Pch) first w e) (apart_wrote bank.Bmc w mid traced))
      (same_stands accepts bank.Pch level (story_of w) (story_of mid) (spared_same accepts bank.Pch (story_of w) (story_of mid) spared) (ap (λ (watch : Watch). level_after watch) spared.watch) stands) rest

  pch_behind : (level : ℕ) (w : World) → story_of w ≡ story_of first → StandsAt accepts bank.Pch level (story_of w) → Steps (bmc_expiry ∷ pch_expiry ∷ []) w new
      → Expiring accepts bank.Pch level first new ⊎ (Wrote (Unwatched bank.Pch) first new × HasLostPower (added first new))
  pch_behind level w e stands (inl (mid, c, rest)) = inl (pch_next level w mid e stands (crossed_traced (Apart bank.Bmc) bmc_expiry (expiry_apart accepts bank.Bmc) w mid stands.sized c) rest)
  pch_behind level w e stands (inr (inl (mid, f, rest))) = inl (pch_next level w mid e stands (faulted_traced (Apart bank.Bmc) bmc_expiry (expiry_apart accepts bank.Bmc) w mid stands.sized f) rest)
  pch_behind level w e stands (inr (inr l)) =
      let traced = lost_traced (Apart bank.Bmc) (lost_apart bank.Bmc) bmc_expiry (expiry_apart accepts bank.Bmc) w new stands.sized l in
      let wrote = wrote_then (Elsewhere bank.Pch) first w new (wrote_none (Elsewhere bank.Pch) first w e) (apart_wrote bank.Bmc w new traced) in
      let to = wrote_then Anything first w l.at (wrote_none Anything first w e) (wrote_moves l.stopped.trace w l.at l.stopped.is) in
      inr (
        Wrote-more (Elsewhere bank.Pch) (Unwatched bank.Pch) (unwatched_elsewhere bank.Pch) first new wrote,
        record { device = Some l.which; at = counts_of (story_of l.at); noted = loss_noted first l.at new l.which to l.noted.is },
      )

-- ---- by event
due_runs : (s : Standing) (more : Bool) → (is_running s && more) ≡ true → s ≡ Running
due_runs Running more e = refl
due_runs Off more e = absurd (false≢true e)
due_runs Held more e = absurd (false≢true e)
due_runs Locked more e = absurd (false≢true e)

module _ (accepts : Acceptance) (old new : World) (bmc : IsBankSize (size_of old.bmc)) (pch : IsBankSize (size_of old.pch)) (nv : size_of old.nv ≡ 32768) (trusted : TrustedRunning accepts old) (idle : RunningHasNoJob old) where
  abbrev level_of : Bank → ℕ
  level_of which = level_after (guard_at which old.guards).watch

  sized_begun : (e : Event) → IsSized (story_of (begun e old))
  sized_begun e = length-play old.nv.start old.nv.ops ∙ nv

  stands_here : (e : Event) (which : Bank) → Runs which old → StandsAt accepts which (level_of which) (story_of (begun e old))
  stands_here e which runs = record { rises = begun_level e old which; trusted = trusted_here accepts e old trusted which runs; size = sized_here e old bmc pch which; sized = sized_begun e; idle = idle which runs }

  module _ (n : ℕ) (w : World) (e : story_of w ≡ story_of (begun (event.Tick n) old)) where
    abbrev first_tick : World
    first_tick = begun (event.Tick n) old

    sized_tick : IsSized (story_of w)
    sized_tick = subst IsSized (sym e) (sized_begun (event.Tick n))

    due_stands : (which : Bank) → is_due which n (story_of old) ≡ true → StandsAt accepts which (level_of which) (story_of w)
    due_stands which due =
        let runs : Runs which old = due_runs (standing_of which old.notes.list) (expires (guard_at which old.guards).watch n) due in
        subst (λ (s : Story). StandsAt accepts which (level_of which) s) (sym e) (stands_here (event.Tick n) which runs)

    bmc_tick : (due_bmc due_pch : Bool) → is_due bank.Bmc n (story_of old) ≡ due_bmc → Steps (stretch_if due_bmc (bmc_expiry accepts first_tick new) (stretch_if due_pch (pch_expiry accepts first_tick new) [])) w new
        → Outcome accepts (event.Tick n) bank.Bmc old new
    bmc_tick true due_pch is rest = inl (is, bmc_first accepts first_tick new (level_of bank.Bmc) due_pch w e (due_stands bank.Bmc is) rest)
    bmc_tick false due_pch is rest = inr (part_quiet accepts first_tick new bank.Pch due_pch w e sized_tick rest, λ due. absurd (false≢true (sym is ∙ due)))

    pch_tick : (due_bmc due_pch : Bool) → is_due bank.Bmc n (story_of old) ≡ due_bmc → is_due bank.Pch n (story_of old) ≡ due_pch
        → Steps (stretch_if due_bmc (bmc_expiry accepts first_tick new) (stretch_if due_pch (pch_expiry accepts first_tick new) [])) w new → Outcome accepts (event.Tick n) bank.Pch old new
    pch_tick true false bmc_is is rest = inr (part_quiet accepts first_tick new bank.Bmc true w e sized_tick rest, λ due. absurd (false≢true (sym is ∙ due)))
    pch_tick false false bmc_is is rest = inr (part_quiet accepts first_tick new bank.Bmc false w e sized_tick rest, λ due. absurd (false≢true (sym is ∙ due)))
    pch_tick false true bmc_is is rest = inl (is, pch_last accepts first_tick new (level_of bank.Pch) w (wrote_none (Elsewhere bank.Pch) first_tick w e) (due_stands bank.Pch is) rest)
    pch_tick true true bmc_is is rest = elim (pch_behind accepts first_tick new (level_of bank.Pch) w e (due_stands bank.Pch is) rest) [
      | inl p ↦ inl (is, p)
      | inr p ↦ inr (p.0, λ due reached. reached bmc_is p.1.device p.1.at p.1.noted)
    ]

  tick_outcome : (n : ℕ) (which : Bank) → Follows (tick_course accepts n (story_of old)) (begun (event.Tick n) old) new → Outcome accepts (event.Tick n) which old new
  tick_outcome n bank.Bmc (mid, start, rest) = bmc_tick n mid start.is (is_due bank.Bmc n (story_of old)) (is_due bank.Pch n (story_of old)) refl rest
  tick_outcome n bank.Pch (mid, start, rest) = pch_tick n mid start.is (is_due bank.Bmc n (story_of old)) (is_due bank.Pch n (story_of old)) refl refl rest

  -- ---- a boot that failed
  failed_here : (which : Bank) → is_idle (event.Boot which false) (story_of old) ≡ false → Follows (boot_course accepts which false (story_of old)) (begun (event.Boot which false) old) new
      → Outcome accepts (event.Boot which false) which old new
  failed_here which on f =
      let first : World = begun (event.Boot which false) old in
      let runs : Runs which old = (taken_boots (standing_of which old.notes.list) (stage_at which (story_of old)) on).0 in
      inl (
        (refl, on),
        record {
          at = first;
          end = new;
          stands = stands_here (event.Boot which false) which runs;
          ending = single_ends (expiry_stretch accepts which) which (Wrote (Elsewhere bank.Pch) new new) (λ d. refl) (wrote_none (Elsewhere bank.Pch) new new refl) first new f;
          before = wrote_none (Early which) first first refl;
          behind = wrote_none (Elsewhere which) new new refl;
          kept = holds_refl accepts which (story_of new);
          moved = follows_moved (boot_course accepts which false (story_of old)) first new f;
          left = AllMoved-refl new;
        },
      )

  failed_other : (b : Bank) → ¬ (b ≡ other_bank b) → Follows (boot_course accepts b false (story_of old)) (begun (event.Boot b false) old) new → Outcome accepts (event.Boot b false) (other_bank b) old new
  failed_other b other f =
      let first : World = begun (event.Boot b false) old in
      let which : Bank = other_bank b in
      let traced = course_traced (Apart b) (lost_apart b) (boot_course accepts b false (story_of old)) first new tt (expiry_apart accepts b, tt) (sized_begun (event.Boot b false)) f in
      inr (Wrote-more (Elsewhere which) (Unwatched which) (unwatched_elsewhere which) first new (apart_wrote b first new traced), λ is. absurd (other is.0))

  failed_outcome : (which b : Bank) → is_idle (event.Boot b false) (story_of old) ≡ false → Follows (boot_course accepts b false (story_of old)) (begun (event.Boot b false) old) new
      → Outcome accepts (event.Boot b false) which old new
  failed_outcome bank.Bmc bank.Bmc on f = failed_here bank.Bmc on f
  failed_outcome bank.Pch bank.Pch on f = failed_here bank.Pch on f
  failed_outcome bank.Bmc bank.Pch on f = failed_other bank.Pch (λ e. cc) f
  failed_outcome bank.Pch bank.Bmc on f = failed_other bank.Bmc (λ e. cc) f

  -- ---- whatever comes
  idle_expires : (e : Event) (which : Bank) → is_idle e (story_of old) ≡ true → ¬ IsExpiring e which old
  idle_expires (event.Tick n) which none is = false≢true none
  idle_expires (event.Boot b false) which none is = false≢true (sym is.1 ∙ none)
  idle_expires e which none is = is

  taken_outcome : (e : Event) (which : Bank) → is_idle e (story_of old) ≡ false → Follows (taken accepts e (story_of old)) (begun e old) new → Outcome accepts e which old new
  taken_outcome (event.Tick n) which on f = tick_outcome n which f
  taken_outcome (event.Boot b false) which on f = failed_outcome which b on f
  taken_outcome e which on f = inr (taken_quiet which accepts e (story_of old) (begun e old) new tt (sized_begun e) f, λ is. absurd is)

  outcome : (e : Event) → Turn accepts e old new → (which : Bank) → Outcome accepts e which old new
  outcome e t which = elim (Turn-cases accepts e old new t) [
    | inl none ↦ inr (ignored_quiet which (begun e old) new (sized_begun e) none.1, λ is. absurd (idle_expires e which none.0 is))
    | inr on ↦ taken_outcome e which on.0 on.1
  ]

-- Watches expire exactly where they do, and what comes of it is exactly this.
pub Turn-expires : (accepts : Acceptance) (e : Event) (old new : World) → Turn accepts e old new → HaveBytes new → IsBankSize (size_of old.bmc) → IsBankSize (size_of old.pch)
    → size_of old.nv ≡ 32768 → TrustedRunning accepts old → RunningHasNoJob old → Expires e accepts old new
Turn-expires accepts e old new t have bmc pch nv trusted idle which = expires_by accepts e which old new have (outcome accepts old new bmc pch nv trusted idle e t which)

-- ---- a stage that is passed
going : (at : Stage) → at ≢ stage.Done → unless_done at false true ≡ false
going stage.Bmc undone = refl
going stage.Me undone = refl
going stage.Acm undone = refl
going stage.Ibb undone = refl
going stage.Obb undone = refl
going stage.Done undone = absurd (undone refl)

boots_idle : (s : Standing) (at : Stage) → s ≡ Running → at ≢ stage.Done → ¬ ((not (is_running s) || unless_done at false true) ≡ true)
boots_idle s at runs undone idle =
    false≢true (sym (going at undone) ∙ subst (λ (x : Standing). (not (is_running x) || unless_done at false true) ≡ true) runs idle)

passed_noted : (accepts : Acceptance) (b : Bank) (old new : World) → Follows (boot_course accepts b true (story_of old)) (begun (event.Boot b true) old) new
    → IsNoted (added old new) (pass_note b (stage_at b (story_of old)) (next_stage (stage_at b (story_of old))))
passed_noted accepts b old new (mid, start, rest) =
    let first : World = begun (event.Boot b true) old in
    let note : What = pass_note b (stage_at b (story_of old)) (next_stage (stage_at b (story_of old))) in
    subst (λ (notes : List Note). IsNoted notes note) (sym (added_said first new (record { trace = Says (λ _. note) ∷ []; is = rest.is ∙ start.is }))) (inl refl)

-- A stage that is passed is noted always.
pub Turn-boots : (accepts : Acceptance) (e : Event) (old new : World) → Turn accepts e old new → Boots e old new
Turn-boots accepts (event.Boot b true) old new t = λ at is. elim (Turn-cases accepts (event.Boot b true) old new t) [
  | inl idle ↦ absurd (boots_idle (standing_of b old.notes.list) (stage_at b (story_of old)) is.runs (λ done. is.undone (sym is.at ∙ done)) idle.0)
  | inr on ↦ subst (λ (x : Stage). IsNoted (added old new) (pass_note b x (next_stage x))) is.at (passed_noted accepts b old new on.1)
]
Turn-boots accepts e old new t = tt
