-- What leaves a bank one that can be recovered, at every cut, whatever it tore.
use Rattle.std.proofs.Common.{◌≡◌, ◌∙◌, ℕ, sym, subst, arith, List, [], ◌∷◌, inr, Result, Ok, Err}
use Rattle.pfr_flash.specs.Layout.{IsValidLayout}
use Rattle.pfr_flash.specs.declared.layout.Layout.{Layout}
use Rattle.pfr_flash.specs.Operation.{Operation}
use Rattle.pfr_flash.specs.declared.names.Bank.{Bank}
use Rattle.pfr_flash.specs.declared.names.Bank.TheVariants as bank
use Rattle.pfr_flash.proofs.RangeLemmas.{IsTorn-within}
use Rattle.pfr_engine.specs.Acceptance.{Acceptance}
use Rattle.pfr_jobs.specs.Log.{current_at}
use Rattle.pfr_strokes.specs.Deeds.{Deed, Asks as AsksSide, Does as DoesSide}
use Rattle.pfr_strokes.specs.declared.side.Side.TheVariants as side
use Rattle.pfr_recoverable.specs.Recoverable.{IsRecoverable}
use Rattle.pfr_recoverable.proofs.CutLaw.{IsAtWork, work_kept, bank_after, store_after}
use Rattle.pfr_recoverable.proofs.PassLaw.{IsPassDeed, AllPassDeeds, one_deed, same_current}
use Rattle.pfr_story.specs.Story.{Story, Says, Does, Asks, moved_by, operated, device_of, other_bank, called}
use Rattle.pfr_story.specs.Deeds.{deed_move, deed_moves}
use Rattle.pfr_story.specs.World.{World, story_of}
use Rattle.pfr_story.specs.Goes.{Goes}
use Rattle.pfr_story.specs.Safety.{IsSafe, AllSafe, Keeps}
use Rattle.pfr_story.specs.declared.stop.Stop.{Stop}
use Rattle.pfr_story.specs.Plans.{mine, store}
use Rattle.pfr_story.specs.Recovery.{HoldsIn, LeavesTrue, KeepsRecoverable}
use Rattle.pfr_story.proofs.SafetyLaws.{image_noted, called_any}
use Rattle.pfr_story.proofs.Traces.{Traced, Traced-keeps, Traced-whole, Traced-cut}
use Rattle.pfr_story.proofs.Lift.{image_deeds}

-- What is true of a bank's bytes and the store's is left so by a call of the other bank's device.
other_left : (R : List ℕ → List ℕ → Type 0) (b : Bank) (op : Operation) (story : Story) → HoldsIn R b story → HoldsIn R b (operated (device_of (other_bank b)) op story)
other_left R bank.Bmc op story h = h
other_left R bank.Pch op story h = h

pub other_safe : (R : List ℕ → List ℕ → Type 0) (b : Bank) (ops : List Operation) (story : Story) → AllSafe (LeavesTrue R b) (called (device_of (other_bank b)) ops) story
other_safe R b ops story =
    called_any (LeavesTrue R b) (device_of (other_bank b)) (λ op here. other_left R b op here) (λ here. tt) ops story

-- So it is kept by moves that leave it true.
pub true_kept : (R : List ℕ → List ℕ → Type 0) (b : Bank) → Keeps (LeavesTrue R b) (HoldsIn R b)
true_kept R b (Says w) story g h = subst (λ (image : List ℕ). R image (store story)) (sym (image_noted (device_of b) w story)) h
true_kept R b (Does which op) story g h = g h
true_kept R b (Asks which) story g h = h

-- ---- a recovery job
-- what a deed leaves of both devices
mine_after : (b : Bank) (deed : Deed) (story : Story) → mine b (moved_by (deed_move b deed) story) ≡ bank_after deed (mine b story)
mine_after b deed story = image_deeds b side.Bank (deed ∷ []) story

store_then : (b : Bank) (deed : Deed) (story : Story) → store (moved_by (deed_move b deed) story) ≡ store_after deed (store story)
store_then b deed story = image_deeds b side.Store (deed ∷ []) story

module _ (accepts : Acceptance) (b : Bank) (layout : Layout) (size : ℕ) (valid : IsValidLayout layout size) where
  abbrev AtWork : Story → Type 0
  AtWork story = IsAtWork layout b (mine b story) (store story) accepts

  abbrev IsPass : Deed → Story → Type 0
  IsPass deed story = IsPassDeed layout (current_at (store story) b) deed

  -- one deed, done whole
  deed_done : (deed : Deed) (story : Story) → IsPass deed story → AtWork story → AtWork (moved_by (deed_move b deed) story)
  deed_done deed story pass w =
      subst (λ (nv : List ℕ). IsAtWork layout b (mine b (moved_by (deed_move b deed) story)) nv accepts) (sym (store_then b deed story))
      (subst (λ (image : List ℕ). IsAtWork layout b image (store_after deed (store story)) accepts) (sym (mine_after b deed story))
      (work_kept layout b (mine b story) (store story) accepts deed (one_deed layout b size valid (store story) deed w.store pass) w))

  deed_safe : (deed : Deed) (story : Story) → IsPass deed story → AtWork story → IsSafe (KeepsRecoverable accepts b) (deed_move b deed) story
  deed_safe (AsksSide which) story pass w = tt
  deed_safe (DoesSide side.Bank op) story within w = (
    (λ q. inr (deed_done (DoesSide side.Bank op) story within w).job),
    (λ done t q.
        let same = IsTorn-within _ op done t in
        inr (deed_done (DoesSide side.Bank done) story (record { low = omega (arith, within.low, same.0); high = omega (arith, within.high, same.0, same.1) }) w).job),
  )
  deed_safe (DoesSide side.Store op) story mark w = (
    (λ q. inr (deed_done (DoesSide side.Store op) story mark w).job),
    (λ done t q.
        let same = IsTorn-within _ op done t in
        inr (deed_done (DoesSide side.Store done) story (record { slot = mark.slot; group = mark.group; few = mark.few; small = mark.small; place = same.0 ∙ mark.place; one = same.1 ∙ mark.one }) w).job),
  )

  still_current : (deed : Deed) (story : Story) → IsPass deed story → AtWork story → current_at (store (moved_by (deed_move b deed) story)) b ≡ current_at (store story) b
  still_current deed story pass w =
      subst (λ (nv : List ℕ). current_at nv b ≡ current_at (store story) b) (sym (store_then b deed story)) (same_current layout b size valid (store story) deed w.store pass)

  -- At each cut of a pass with marks over the recovery area, whatever it tore, the bank can be recovered.
  pub deeds_safe : (deeds : List Deed) (story : Story) → AllPassDeeds layout (current_at (store story) b) deeds → AtWork story → AllSafe (KeepsRecoverable accepts b) (deed_moves b deeds) story
  deeds_safe [] story all w = tt
  deeds_safe (deed ∷ deeds) story all w = (
    deed_safe deed story all.0 w,
    deeds_safe deeds (moved_by (deed_move b deed) story) (subst (λ (at : ℕ). AllPassDeeds layout at deeds) (sym (still_current deed story all.0 w)) all.1) (deed_done deed story all.0 w),
  )

  abbrev CanBe : Story → Type 0
  CanBe story = IsRecoverable b (mine b story) (store story) accepts

  kept : (old new : World) → Traced (KeepsRecoverable accepts b) old new → CanBe (story_of old) → CanBe (story_of new)
  kept old new traced can =
      Traced-keeps (KeepsRecoverable accepts b) CanBe (true_kept (λ image nv. IsRecoverable b image nv accepts) b) old new traced can

  -- So however a call ends that is to do the pass, the bank can be recovered.
  pub recoverable_after : {T : Type 0} (deeds : List Deed) (old new : World) (r : Result T Stop) → AllPassDeeds layout (current_at (store (story_of old)) b) deeds → AtWork (story_of old)
      → Goes (λ _. deed_moves b deeds) old new r → IsRecoverable b (mine b (story_of new)) (store (story_of new)) accepts
  recoverable_after deeds old new (Ok x) all w ran =
      kept old new (Traced-whole (KeepsRecoverable accepts b) (deed_moves b deeds) old new ran (deeds_safe deeds (story_of old) all w)) (inr w.job)
  recoverable_after deeds old new (Err stop) all w stopped =
      kept old new (Traced-cut (KeepsRecoverable accepts b) (deed_moves b deeds) stop.device stop.fail old new stopped (deeds_safe deeds (story_of old) all w)) (inr w.job)
