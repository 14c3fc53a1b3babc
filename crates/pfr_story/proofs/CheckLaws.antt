-- What is noted of a bank that is checked, by the contents then, wherever in a step that is.
use Rattle.std.proofs.Common.{◌≡◌, refl, subst, ℕ, List, inl, inr, ◌⊎◌}
use Rattle.pfr_flash.specs.Bytes.{AreBytes}
use Rattle.pfr_flash.specs.declared.names.Bank.{Bank}
use Rattle.pfr_flash.specs.declared.names.Counts.{Counts}
use Rattle.pfr_engine.specs.Acceptance.{Acceptance}
use Rattle.pfr_auth.specs.Trusted.{IsTrusted}
use Rattle.pfr_jobs.specs.declared.job.JobKind.TheVariants.{ActiveFromRecovery}
use Rattle.pfr_report.specs.Texts.{IsNoted}
use Rattle.pfr_report.specs.declared.note.LockWhy.{LockWhy}
use Rattle.pfr_report.specs.declared.note.LockWhy.TheVariants as why
use Rattle.pfr_report.specs.declared.note.Note.{Note}
use Rattle.pfr_report.specs.declared.note.What.{What}
use Rattle.pfr_report.specs.declared.note.What.TheVariants as what
use Rattle.pfr_story.specs.Story.{Story, counts_of}
use Rattle.pfr_story.specs.World.{World, story_of, added}
use Rattle.pfr_story.specs.Plans.{mine, store}
use Rattle.pfr_story.specs.Causes.{IsAgainst, IsDue, IsRestorable}
use Rattle.pfr_story.specs.Promises.{AtCounts, IsFaultLock, ReleasesTrusted, LocksHaveCauses}
use Rattle.pfr_story.specs.Bringing.{IsCalm, IsNotedBehind, Checks}
use Rattle.pfr_story.proofs.NoteLaws.{at_moment}
use Rattle.pfr_story.proofs.OwnLaws.{Cause, tail_caused}
use Rattle.pfr_story.proofs.TailLaws.{IsOf, behind, tail_trusted, tail_due, tail_named, tail_restored}
use Rattle.pfr_story.proofs.TakenLaws.{IsOfJob}
use Rattle.pfr_story.proofs.Traces.{Precedes}

-- what a check notes of this bank, but that it was restored
abbrev pub IsOfCheck : Bank → What → Type 0
IsOfCheck which (what.Released b svn at) = b ≡ which
IsOfCheck which (what.Locked b cause at) = b ≡ which
IsOfCheck which (what.Untrusted b cause) = b ≡ which
IsOfCheck which that = ⊥

pub of_check : (which : Bank) (that : What) → IsOfCheck which that → IsOf which that
of_check which (what.Released b svn at) of = of
of_check which (what.Locked b cause at) of = of
of_check which (what.Untrusted b cause) of = of
of_check which that of = absurd of

pub check_no_job : (which : Bank) (that : What) → IsOfCheck which that → ¬ IsOfJob that
check_no_job which (what.Released b svn at) of job = job
check_no_job which (what.Locked b cause at) of job = job
check_no_job which (what.Untrusted b cause) of job = job
check_no_job which that of job = absurd of

-- the notes of a step have those of a check in this story, and no other of a check
pub record HasCheck (accepts : Acceptance) (which : Bank) (story : Story) (notes : List Note) : Type 0 where
  pub put : (that : What) → IsNoted (behind accepts which story) that → IsNoted notes that
  pub put_behind : (this that : What) → IsNotedBehind this that (behind accepts which story) → IsNotedBehind this that notes
  pub own : (that : What) → IsOfCheck which that → IsNoted notes that → IsNoted (behind accepts which story) that
  pub restored : (level : ℕ) → IsNoted notes (what.Restored which level) → IsNoted notes (what.Resumed which (ActiveFromRecovery level)) ⊎ IsNoted (behind accepts which story) (what.Restored which level)

no_fault : (which : Bank) (notes : List Note) → IsCalm which notes → (cause : LockWhy) (then : Counts) → IsNoted notes (what.Locked which cause then) → ¬ IsFaultLock cause
no_fault which notes calm why.FlashFault then n fault = calm.flash then n
no_fault which notes calm why.StoreFault then n fault = calm.store then n
no_fault which notes calm why.Unprovisioned then n fault = fault
no_fault which notes calm why.SlotsSpent then n fault = fault
no_fault which notes calm (why.Layout rule) then n fault = fault
no_fault which notes calm (why.NoGoodImage active recovery) then n fault = fault
no_fault which notes calm why.WatchdogSpent then n fault = fault
no_fault which notes calm (why.NoRecovery recovery) then n fault = fault

module _ (accepts : Acceptance) (first new : World) (which : Bank) (story : Story) (precedes : Precedes story (story_of new)) (bytes : AreBytes (mine which story)) (h : HasCheck accepts which story (added first new)) where
  abbrev notes : List Note
  notes = added first new

  abbrev from : Counts
  from = counts_of story

  -- what follows from the contents then is so by their counts
  by_counts : (P : List ℕ → List ℕ → Type 0) → P (mine which story) (store story) → AtCounts P which from new
  by_counts P p = at_moment P which story from new refl precedes p

  caused : (that : What) → IsOfCheck which that → IsNoted (added first new) that → Cause accepts which story that
  caused that of n = tail_caused accepts which story bytes that (h.own that of n)

  released_then : (svn : ℕ) (then : Counts) → IsNoted (added first new) (what.Released which svn then)
      → (then ≡ from) ⊎ IsNotedBehind (what.Restored which 1) (what.Released which svn then) (added first new)
  released_then svn then n = elim (caused (what.Released which svn then) refl n) [
    | inl e ↦ inl e
    | inr m ↦ inr (h.put_behind (what.Restored which 1) (what.Released which svn then) m)
  ]

  locked_then : IsCalm which (added first new) → LocksHaveCauses accepts first new → (cause : LockWhy) (then : Counts) → IsNoted (added first new) (what.Locked which cause then)
      → (then ≡ from) × AtCounts (λ image nv. IsDue cause which image nv accepts) which from new
  locked_then calm locks cause then n =
      let due = caused (what.Locked which cause then) refl n in
      (due.0, subst (λ (at : Counts). AtCounts (λ image nv. IsDue cause which image nv accepts) which at new) due.0 (locks which cause then n (no_fault which notes calm cause then n) due.1))

  restored_then : (level : ℕ) → IsNoted (added first new) (what.Restored which level)
      → IsNoted (added first new) (what.Resumed which (ActiveFromRecovery level)) ⊎ ((level ≡ 1) × AtCounts (λ image nv. IsRestorable which image nv accepts) which from new)
  restored_then level n = elim (h.restored level n) [
    | inl m ↦ inl m
    | inr m ↦
        let k = tail_caused accepts which story bytes (what.Restored which level) m in
        inr (k.0, by_counts (λ image nv. IsRestorable which image nv accepts) k.1)
  ]

  -- So it is checked.
  pub checks_so : IsCalm which (added first new) → ReleasesTrusted accepts first new → LocksHaveCauses accepts first new → Checks accepts which new (added first new) (counts_of story)
  checks_so calm releases locks = record {
    released = λ svn then n. (releases which svn then n, released_then svn then n);
    locked = locked_then calm locks;
    distrusted = λ cause n. by_counts (λ image nv. IsAgainst cause which image nv accepts) (caused (what.Untrusted which cause) refl n);
    restored = restored_then;
    trusted = by_counts (λ image nv. (t : IsTrusted image nv which accepts) → IsNoted (added first new) (what.Released which t.manifest.svn from))
        (λ t. h.put (what.Released which t.manifest.svn from) (tail_trusted accepts which story t));
    due = λ cause. by_counts (λ image nv. IsDue cause which image nv accepts → IsNoted (added first new) (what.Locked which cause from))
        (λ d. h.put (what.Locked which cause from) (tail_due accepts which story cause d));
    named = λ cause. by_counts (λ image nv. IsAgainst cause which image nv accepts → IsNoted (added first new) (what.Untrusted which cause))
        (λ a. h.put (what.Untrusted which cause) (tail_named accepts which story cause a));
    restorable = by_counts (λ image nv. IsRestorable which image nv accepts → IsNoted (added first new) (what.Restored which 1))
        (λ r. h.put (what.Restored which 1) (tail_restored accepts which story bytes r));
  }
