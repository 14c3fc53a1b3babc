-- All that is noted of a bank where it is checked, and no call fails, has its cause in the contents then.
use Rattle.std.proofs.Common.{◌≡◌, ◌∙◌, refl, sym, ap, subst, ℕ, List, [], ◌∷◌, ◌++◌, length, ◌⊎◌, inl, inr, Result, Ok, Err}
use Rattle.pfr_flash.specs.Bytes.{AreBytes}
use Rattle.pfr_flash.specs.Judging.{◌>>◌, told_as}
use Rattle.pfr_flash.specs.Layout.{judge_layout}
use Rattle.pfr_flash.specs.declared.layout.LayoutRule.{LayoutRule}
use Rattle.pfr_flash.specs.declared.names.Bank.{Bank}
use Rattle.pfr_flash.specs.declared.names.Counts.{Counts}
use Rattle.pfr_engine.specs.Acceptance.{Acceptance}
use Rattle.pfr_fuses.specs.FusesState.{FusesState}
use Rattle.pfr_fuses.specs.FusesOf.{fuses_of}
use Rattle.pfr_fuses.specs.RootSlot.{layout_of}
use Rattle.pfr_fuses.specs.declared.fuse_fail.FuseFail.{FuseFail}
use Rattle.pfr_fuses.specs.declared.fuse_fail.FuseFail.TheVariants as fuse
use Rattle.pfr_manifest.specs.declared.manifest.Manifest.{Manifest}
use Rattle.pfr_capsule.specs.CapsuleState.{CapsuleState}
use Rattle.pfr_capsule.specs.declared.fail.CapsuleFail.{CapsuleFail}
use Rattle.pfr_auth.specs.declared.fail.ActiveFail.{ActiveFail}
use Rattle.pfr_jobs.specs.declared.job.JobKind.TheVariants.{ActiveFromRecovery}
use Rattle.pfr_report.specs.Texts.{IsNoted}
use Rattle.pfr_report.specs.declared.note.LockWhy.{LockWhy}
use Rattle.pfr_report.specs.declared.note.LockWhy.TheVariants as why
use Rattle.pfr_report.specs.declared.note.Note.{Note}
use Rattle.pfr_report.specs.declared.note.What.{What}
use Rattle.pfr_report.specs.declared.note.What.TheVariants as what
use Rattle.pfr_story.specs.Story.{Story, Move, after, noted, counts_of}
use Rattle.pfr_story.specs.Plans.{mine, store, lock_of, ready_in, ready_of, judged_active, judged_recovery, restored, by_second, checked_again, by_recovery, by_active, by_fuses}
use Rattle.pfr_story.specs.Causes.{IsAgainst, IsRestorable}
use Rattle.pfr_story.specs.Promises.{IsWatchLock}
use Rattle.pfr_story.specs.Bringing.{IsNotedBehind}
use Rattle.pfr_story.proofs.BringRules.{IsReady, ready_found}
use Rattle.pfr_story.proofs.Facts.{not_trusted, good_recovery}
use Rattle.pfr_story.proofs.JobMakes.{with_job_makes}
use Rattle.pfr_story.proofs.Traces.{noted_append, noted_right}
use Rattle.pfr_story.proofs.Made.{said, said_append, behind_next, Whichever, AllSay, said_all}
use Rattle.pfr_story.proofs.TailLaws.{job_noted, behind, distrusted, by_against, judged_told}

-- ---- a bank that can't be checked isn't locked for its watch
lock_unwatched : (cause : FuseFail) → ¬ IsWatchLock (lock_of cause)
lock_unwatched fuse.SlotsSpent watch = watch
lock_unwatched cause watch = watch

layout_unwatched : (fuses : FusesState) (judged : Result (Unit {0}) LayoutRule) (cause : LockWhy) → (told_as (λ rule. why.Layout rule) judged >> Ok fuses) ≡ Err cause → ¬ IsWatchLock cause
layout_unwatched fuses (Ok valid) cause e = absurd cc
layout_unwatched fuses (Err rule) cause e = let same : why.Layout rule ≡ cause = cc in subst (λ (c : LockWhy). ¬ IsWatchLock c) same (λ watch. watch)

read_unwatched : (b : Bank) (size : ℕ) (read : Result FusesState FuseFail) (cause : LockWhy) → ready_in b size read ≡ Err cause → ¬ IsWatchLock cause
read_unwatched b size (Ok fuses) cause e = layout_unwatched fuses (judge_layout (layout_of fuses.provision b) size) cause e
read_unwatched b size (Err fail) cause e = let same : lock_of fail ≡ cause = cc in subst (λ (c : LockWhy). ¬ IsWatchLock c) same (lock_unwatched fail)

pub unready_unwatched : (b : Bank) (cause : LockWhy) (story : Story) → ready_of b story ≡ Err cause → ¬ IsWatchLock cause
unready_unwatched b cause story e = read_unwatched b (length (mine b story)) (fuses_of (store story)) cause e

-- ---- what is noted
-- what is noted behind notes stands behind each of them
pub behind_noted : (this that : What) (notes more : List Note) → IsNoted notes this → IsNoted more that → IsNotedBehind this that (notes ++ more)
behind_noted this that [] more n m = absurd n
behind_noted this that (note ∷ notes) more (inl e) m = record { before = []; item = note.item; behind = notes ++ more; is = ap (λ (w : What). record { item = note.item; what = w } ∷ (notes ++ more)) e; noted = noted_right notes more that m }
behind_noted this that (note ∷ notes) more (inr n) m = behind_next this that note (notes ++ more) (behind_noted this that notes more n m)

module _ (accepts : Acceptance) (b : Bank) (story : Story) where
  -- the cause of a note of a bank that is checked in this story
  abbrev pub Cause : What → Type 0
  Cause (what.Held c at) = ⊥
  Cause (what.Released c svn at) = (at ≡ counts_of story) ⊎ IsNotedBehind (what.Restored b 1) (what.Released c svn at) (behind accepts b story)
  Cause (what.Locked c cause at) = (at ≡ counts_of story) × ¬ IsWatchLock cause
  Cause (what.Untrusted c cause) = IsAgainst cause b (mine b story) (store story) accepts
  Cause (what.Restored c level) = (level ≡ 1) × IsRestorable b (mine b story) (store story) accepts
  Cause that = Unit {0}

  abbrev told : ActiveFail → Story
  told cause = noted (λ _. what.Untrusted b cause) story

  -- what is noted behind a restore
  restored_behind : (fuses : FusesState) (cause : ActiveFail) (capsule : CapsuleState) (more : List Move) (that : What)
      → behind accepts b story ≡ record { item = story.item; what = what.Untrusted b cause } ∷ said (restored b 1 fuses capsule (told cause) ++ more) (told cause)
      → IsNoted (said more (after (restored b 1 fuses capsule (told cause)) (told cause))) that → IsNotedBehind (what.Restored b 1) that (behind accepts b story)
  restored_behind fuses cause capsule more that is n =
      let moves : List Move = restored b 1 fuses capsule (told cause) in
      let first : Note = record { item = story.item; what = what.Untrusted b cause } in
      let rest : List Note = said more (after moves (told cause)) in
      subst (λ (notes : List Note). IsNotedBehind (what.Restored b 1) that notes) (sym (is ∙ ap (λ (notes : List Note). first ∷ notes) (said_append moves more (told cause))))
      (behind_next (what.Restored b 1) that first (said moves (told cause) ++ rest)
      (behind_noted (what.Restored b 1) that (said moves (told cause)) rest (job_noted b (ActiveFromRecovery 1) fuses capsule (what.Restored b 1) (told cause)) n))

  second_caused : (judged : Result Manifest ActiveFail) (there : Story)
      → ((that : What) → IsNoted (said (by_second b judged there) there) that → IsNotedBehind (what.Restored b 1) that (behind accepts b story))
      → (that : What) → IsNoted (said (by_second b judged there) there) that → Cause that
  second_caused (Ok m) there put that (inl e) = subst Cause e (inr (put (what.Released b m.svn (counts_of there)) (inl refl)))
  second_caused (Ok m) there put that (inr none) = absurd none
  second_caused (Err cause) there put that n = absurd n

  restored_caused : (fuses : FusesState) (capsule : CapsuleState) (here : Story) → IsRestorable b (mine b story) (store story) accepts → AllSay Cause (restored b 1 fuses capsule here)
  restored_caused fuses capsule here h =
      with_job_makes Whichever (λ w. (at : Counts) → Cause (w at)) b tt tt (ActiveFromRecovery 1) fuses capsule (what.Restored b 1) (λ at. (refl, h)) here

  module _ (bytes : AreBytes (mine b story)) where
    recovery_caused : (fuses : FusesState) (cause : ActiveFail) (judged : Result CapsuleState CapsuleFail) → IsReady b fuses story → IsAgainst cause b (mine b story) (store story) accepts
        → judged_recovery accepts b fuses story ≡ judged → behind accepts b story ≡ distrusted accepts b fuses cause judged story
        → (that : What) → IsNoted (said (by_recovery accepts b fuses cause judged (told cause)) (told cause)) that → Cause that
    recovery_caused fuses cause (Ok capsule) r a j is that n =
        let h : IsRestorable b (mine b story) (store story) accepts = (not_trusted cause b (mine b story) (store story) accepts a, good_recovery accepts b fuses capsule story r bytes j) in
        let moves : List Move = restored b 1 fuses capsule (told cause) in
        let there : Story = after moves (told cause) in
        let again : List Move = checked_again accepts b fuses there in
        elim (noted_append (said moves (told cause)) (said again there) that (subst (λ (notes : List Note). IsNoted notes that) (said_append moves again (told cause)) n)) [
          | inl m ↦ said_all Cause moves (told cause) (restored_caused fuses capsule (told cause) h) that m
          | inr m ↦ second_caused (judged_active accepts b fuses there) there (λ it k. restored_behind fuses cause capsule again it is k) that m
        ]
    recovery_caused fuses cause (Err other) r a j is that (inl e) = subst Cause e (refl, λ watch. watch)
    recovery_caused fuses cause (Err other) r a j is that (inr none) = absurd none

    active_caused : (fuses : FusesState) (judged : Result Manifest ActiveFail) → IsReady b fuses story → judged_active accepts b fuses story ≡ judged
        → (that : What) → IsNoted (said (by_active accepts b fuses judged story) story) that → Cause that
    active_caused fuses (Ok m) r j that (inl e) = subst Cause e (inl refl)
    active_caused fuses (Ok m) r j that (inr none) = absurd none
    active_caused fuses (Err cause) r j that n =
        let against : IsAgainst cause b (mine b story) (store story) accepts = record { fuses = fuses; provisioned = r.provisioned; layout = r.layout; judged = j } in
        let judged : Result CapsuleState CapsuleFail = judged_recovery accepts b fuses (told cause) in
        elim n [
          | inl e ↦ subst Cause e against
          | inr m ↦ recovery_caused fuses cause judged r against (sym (judged_told accepts b fuses (λ _. what.Untrusted b cause) story)) (by_against accepts b cause story judged against refl) that m
        ]

    ready_caused : (ready : Result FusesState LockWhy) → ready_of b story ≡ ready → (that : What) → IsNoted (said (by_fuses accepts b ready story) story) that → Cause that
    ready_caused (Ok fuses) e that n = active_caused fuses (judged_active accepts b fuses story) (ready_found b fuses story e) refl that n
    ready_caused (Err cause) e that (inl same) = subst Cause same (refl, unready_unwatched b cause story e)
    ready_caused (Err cause) e that (inr none) = absurd none

    -- Each note has its cause.
    pub tail_caused : (that : What) → IsNoted (behind accepts b story) that → Cause that
    tail_caused that n = ready_caused (ready_of b story) refl that n
