-- Each step keeps its promises about releases, locks, restores and faults.
use Rattle.std.proofs.Common.{◌≡◌, ◌∙◌, refl, sym, ap, subst, ℕ, List, [], ◌∷◌, ◌++◌, length, drop, inl, inr}
use Rattle.pfr_flash.specs.Bytes.{AreBytes}
use Rattle.pfr_flash.specs.FlashState.{upto, size_of}
use Rattle.pfr_flash.specs.declared.names.Bank.{Bank}
use Rattle.pfr_flash.specs.declared.names.Bank.TheVariants as bank
use Rattle.pfr_flash.specs.declared.names.Counts.{Counts}
use Rattle.pfr_engine.specs.Acceptance.{Acceptance}
use Rattle.pfr_jobs.specs.declared.job.JobKind.TheVariants.{ActiveFromRecovery}
use Rattle.pfr_script.specs.declared.event.Event.{Event}
use Rattle.pfr_report.specs.declared.note.LockWhy.{LockWhy}
use Rattle.pfr_report.specs.declared.note.LockWhy.TheVariants as why
use Rattle.pfr_report.specs.Texts.{IsNoted}
use Rattle.pfr_report.specs.declared.note.Note.{Note}
use Rattle.pfr_report.specs.declared.note.What.{What}
use Rattle.pfr_report.specs.declared.note.What.TheVariants as what
use Rattle.pfr_story.specs.Story.{Story, Move, Says, Does, Asks, after, noted, operated, counts_of, device_of}
use Rattle.pfr_story.specs.World.{World, story_of, state_at, added}
use Rattle.pfr_story.specs.Safety.{AllGood}
use Rattle.pfr_story.specs.Plans.{mine, store}
use Rattle.pfr_story.specs.Causes.{IsTrustedWith, IsAgainst, IsDue}
use Rattle.pfr_story.specs.Turn.{begun, Turn}
use Rattle.pfr_story.specs.Promises.{count_at, AtCounts, ReleasesTrusted, IsFaultLock, IsWatchLock, FaultsHaveCauses, LocksHaveCauses, DistrustsWithCause, CallsForRestore, RestoresGood}
use Rattle.pfr_story.proofs.Traces.{Precedes, Precedes-trans, not_before, upto_begins, Saying, Traced-known, KnownBefore}
use Rattle.pfr_story.proofs.Bytes.{HaveBytes, images_then}
use Rattle.pfr_story.proofs.Made.{said, notes_after, noted_dropped}
use Rattle.pfr_story.proofs.Facts.{Setting, Fact, LockFact, IsCalledFor}
use Rattle.pfr_story.proofs.Turns.{step_of, Turn-traced, Turn-known, Turn-since}

-- ---- what was held at a moment, by the counts then
pub bank_then : (which : Bank) (at : Story) (new : World) → Precedes at (story_of new) → upto (state_at (device_of which) new) (count_at which (counts_of at)) ≡ mine which at
bank_then bank.Bmc at new p = upto_begins at.bmc (story_of new).bmc p.bmc
bank_then bank.Pch at new p = upto_begins at.pch (story_of new).pch p.pch

-- what was true at a moment before is true at its counts
pub at_moment : (P : List ℕ → List ℕ → Type 0) (which : Bank) (at : Story) (counts : Counts) (new : World) → counts ≡ counts_of at → Precedes at (story_of new)
    → P (mine which at) (store at) → AtCounts P which counts new
at_moment P which at counts new e p h =
    rw e (subst (λ (image : List ℕ). P image (upto new.nv (counts_of at).nv)) (sym (bank_then which at new p)) (subst (λ (nv : List ℕ). P (mine which at) nv) (sym (upto_begins at.nv (story_of new).nv p.nv)) h))

pub lock_due : (s : Setting) (cause : LockWhy) (which : Bank) (at : Story) → ¬ IsFaultLock cause → ¬ IsWatchLock cause → AreBytes (mine which at) → LockFact s cause which at → IsDue cause which (mine which at) (store at) s.accepts
lock_due s why.FlashFault which at n w bytes p = absurd (n tt)
lock_due s why.StoreFault which at n w bytes p = absurd (n tt)
lock_due s why.WatchdogSpent which at n w bytes p = absurd (w tt)
lock_due s (why.NoRecovery recovery) which at n w bytes p = absurd (w tt)
lock_due s why.Unprovisioned which at n w bytes p = p bytes
lock_due s why.SlotsSpent which at n w bytes p = p bytes
lock_due s (why.Layout rule) which at n w bytes p = p bytes
lock_due s (why.NoGoodImage active recovery) which at n w bytes p = p bytes

-- ---- the notes of a moment are the first ones of the end's
record IsFront (first last : List Note) : Type 0 where
  pub more : List Note
  pub is : last ≡ first ++ more

until_last : (F : What → Story → Type 0) (trace : List Move) (story : Story) (last : List Note) → (after trace story).notes ≡ last → AllGood (Saying F) trace story
    → AllGood (Saying (λ that at. F that at × IsFront at.notes last)) trace story
until_last F [] story last e good = tt
until_last F (Says w ∷ trace) story last e good =
    let front : IsFront story.notes last = record { more = said (Says w ∷ trace) story; is = sym e ∙ notes_after (Says w ∷ trace) story } in
    ((good.0, front), until_last F trace (noted w story) last e good.1)
until_last F (Does which op ∷ trace) story last e good = (tt, until_last F trace (operated which op story) last e good.1)
until_last F (Asks which ∷ trace) story last e good = (tt, until_last F trace story last e good.1)

module _ (accepts : Acceptance) (e : Event) (old new : World) (size : size_of old.nv ≡ 32768) (t : Turn accepts e old new) where
  -- A bank is locked for a fault only where a count of faults rose.
  pub Turn-faults : FaultsHaveCauses old new
  unfolding step_of
  Turn-faults = record {
    flash = λ which at n. (Turn-known accepts e old new size t (what.Locked which why.FlashFault at) n).1.1;
    store = λ which at n. (Turn-known accepts e old new size t (what.Locked which why.StoreFault at) n).1.1;
  }

  -- A bank's image is called untrusted only with the cause against it.
  pub Turn-distrusts : DistrustsWithCause accepts old new
  unfolding step_of
  Turn-distrusts which cause n =
      let k = Turn-since accepts e old new size t (what.Untrusted which cause) n in
      (counts_of k.0, record { behind = not_before (story_of (begun e old)) k.0 k.1.1; before = not_before k.0 (story_of new) k.2 }, at_moment (λ image nv. IsAgainst cause which image nv accepts) which k.0 (counts_of k.0) new refl k.2 k.1.0)

  -- A bank is released only where it was trusted.
  pub Turn-releases : HaveBytes new → ReleasesTrusted accepts old new
  unfolding step_of
  Turn-releases held which svn at n =
      let k = Turn-known accepts e old new size t (what.Released which svn at) n in
      at_moment (λ image nv. IsTrustedWith svn image nv which accepts) which k.0 at new k.1.0 k.2 (k.1.1 (images_then k.0 new k.2 held (device_of which)))

  -- A bank is locked, but for a fault or by an expired watch, only with a cause in its contents.
  pub Turn-locks : HaveBytes new → LocksHaveCauses accepts old new
  unfolding step_of
  Turn-locks held which cause at n no_fault no_watch =
      let k = Turn-known accepts e old new size t (what.Locked which cause at) n in
      at_moment (λ image nv. IsDue cause which image nv accepts) which k.0 at new k.1.0 k.2
      (lock_due (step_of accepts e old new) cause which k.0 no_fault no_watch (images_then k.0 new k.2 held (device_of which)) k.1.1)

  -- what is known of a note where it was made, whose notes are the first ones of the step's end
  known_within : (that : What) → IsNoted (added old new) that → KnownBefore (λ note at. Fact (step_of accepts e old new) note at × IsFront at.notes new.notes.list) that (story_of new)
  known_within that n =
      let s : Setting = step_of accepts e old new in
      let traced = Turn-traced accepts e old new size t in
      let last : (after traced.trace (story_of (begun e old))).notes ≡ new.notes.list = ap (λ (story : Story). story.notes) (sym traced.is) in
      Traced-known (λ note at. Fact s note at × IsFront at.notes new.notes.list) (begun e old) new
      (record { trace = traced.trace; is = traced.is; good = until_last (Fact s) traced.trace (story_of (begun e old)) new.notes.list last traced.good; moved = traced.moved }) that n

  -- what a restore was made for
  called_for : (which : Bank) (level : ℕ) (notes : List Note) (image nv : List ℕ) → IsFront notes new.notes.list → IsCalledFor (step_of accepts e old new) which level notes image nv
      → CallsForRestore accepts which level (added old new) image nv
  unfolding step_of
  called_for which level notes image nv front (inl first) = inl first
  called_for which level notes image nv front (inr (inl (expired, good))) =
      let whole = noted_dropped (length old.notes.list) notes front.more (what.Expired which level) expired in
      inr (inl (subst (λ (all : List Note). IsNoted (drop (length old.notes.list) all) (what.Expired which level)) (sym front.is) whole, good))
  called_for which level notes image nv front (inr (inr (resumed, good))) =
      let that : What = what.Resumed which (ActiveFromRecovery level) in
      let whole = noted_dropped (length old.notes.list) notes front.more that resumed in
      inr (inr (subst (λ (all : List Note). IsNoted (drop (length old.notes.list) all) that) (sym front.is) whole, good))

  -- A bank is restored only where it was to be.
  pub Turn-restores : HaveBytes new → RestoresGood accepts old new
  unfolding step_of
  Turn-restores held which level n =
      let k = known_within (what.Restored which level) n in
      let r = k.1.0 in
      let before : Precedes r.at (story_of new) = Precedes-trans r.at k.0 (story_of new) r.before k.2 in (
        counts_of r.at,
        record { behind = not_before (story_of old) r.at r.since; before = not_before r.at (story_of new) before },
        at_moment (CallsForRestore accepts which level (added old new)) which r.at (counts_of r.at) new refl before
            (called_for which level k.0.notes (mine which r.at) (store r.at) k.1.1 (r.was (images_then r.at new before held (device_of which)))),
      )
