-- In an event faults and losses are those that were armed.
use Rattle.std.proofs.Common.{◌≡◌, ◌≢◌, ◌∙◌, sym, ◌↔◌, ◌+◌, ◌-◌, ◌^◌, ◌<◌, ◌≤◌, refl, ap, subst, arith, ℕ, Bool, true, false, cond, List, ◌⊎◌, inl, inr, Option, Some, None}
use Rattle.std.proofs.lemmas.Bool.{cases_Bool}
use Rattle.pfr_flash.specs.FlashState.{FlashState, Due, Rose, op_count_of}
use Rattle.pfr_flash.specs.Moved.{Moved, IsTornAt, was_done, meets, tear_of_fault, ReadFaulted, FaultCause, none, at_operation, at_read, no_room}
use Rattle.pfr_flash.specs.declared.names.Device.{Device}
use Rattle.pfr_engine.specs.Acceptance.{Acceptance}
use Rattle.pfr_script.specs.declared.event.Event.{Event}
use Rattle.pfr_story.specs.World.{World, state_at, added}
use Rattle.pfr_story.specs.Turn.{begun, Turn}
use Rattle.pfr_story.specs.FaultCount.{FaultsAreCounted}
use Rattle.pfr_story.specs.Scripted.{IsLockedFor, IsBroken, IsMisread, FaultsAreScripts, CanCount, FailsByScript}
use Rattle.pfr_story.proofs.WorldLaws.{Moved-at}
use Rattle.pfr_story.proofs.Turns.{Turn-moved}
use Rattle.pfr_story.proofs.LossLaws.{Turn-losses}
use Rattle.pfr_story.proofs.FaultLaws.{begun_at, Turn-faults_counted}

-- the tear of a fault that meets no cut is its own
own_tear : (cut : Option Due) (due : Due) → meets cut (Some due) ≡ false → tear_of_fault cut due ≡ due.tear
own_tear None due apart = refl
own_tear (Some cut) due apart = ap (λ (same : Bool). cond same cut.tear due.tear) apart

-- why faults were counted
why_counted : (old new : FlashState) → FaultCause old new → new.faults ≢ old.faults → IsBroken old new ⊎ IsMisread old new ⊎ (op_count_of new ≡ new.room)
why_counted old new (none same) rose = absurd (rose same)
why_counted old new (at_operation done apart) rose = inl (done, apart)
why_counted old new (at_read came) rose = inr (inl (came.was, came.is))
why_counted old new (no_room spent) rose = inr (inr spent)

-- a fault of a read that came was counted
misread_rose : (old new : FlashState) → IsMisread old new → (new.read_due ≡ old.read_due) ⊎ ReadFaulted old new → Rose old.faults new.faults
misread_rose old new came (inl same) = absurd (let never : false ≡ true = sym came.1 ∙ (same ∙ came.0) in cc)
misread_rose old new came (inr read) = read.counted

-- the losses rose exactly where the cut's operation was done
fell_cut : (old new : FlashState) → Moved old new → (old.losses < new.losses) ↔ (was_done old new old.cut_due ≡ true)
fell_cut old new m = ((λ fell. by_case fell (cases_Bool (was_done old new old.cut_due))), (λ done. let e : new.losses ≡ old.losses + 1 = rw done at m.losses in omega (arith, e)))
  where
    by_case : old.losses < new.losses → (was_done old new old.cut_due ≡ true) ⊎ (was_done old new old.cut_due ≡ false) → was_done old new old.cut_due ≡ true
    by_case fell (inl done) = done
    by_case fell (inr not_done) = let e : new.losses ≡ old.losses = rw not_done at m.losses in absurd (omega (arith, e, fell))

-- as many locks as faults, or two for one: there are some of both or of none
some_locks : (e : Event) (which : Device) (old new : World) (c : FaultsAreCounted e which old new) → (1 ≤ c.faults → IsLockedFor which (added old new)) × (IsLockedFor which (added old new) → 1 ≤ c.faults)
some_locks e which old new c = elim c.locks [
  | inl same ↦ ((λ some. omega (arith, same, some)), (λ some. omega (arith, same, some)))
  | inr (both, is, one, two) ↦ ((λ some. omega (arith, two)), (λ some. omega (arith, one)))
]

device_scripted : (accepts : Acceptance) (e : Event) (old new : World) → Turn accepts e old new → (which : Device) → (state_at which old).faults < 2 ^ 64 - 1
    → FaultsAreScripts which (added old new) (state_at which old) (state_at which new)
device_scripted accepts e old new t which below =
    let a : FlashState = state_at which old in
    let b : FlashState = state_at which new in
    let m : Moved a b = subst (λ (d : FlashState). Moved d b) (begun_at which e old) (Moved-at which (begun e old) new (Turn-moved accepts e old new t)) in
    let c = Turn-faults_counted accepts e old new t which in
    let some = some_locks e which old new c in
    let losses = Turn-losses accepts e old new t which in
    let cut = fell_cut a b m in
    record {
      lost = ((λ has. cut.0 (losses.0 has)), (λ done. losses.1 (cut.1 done)));
      cut = λ due is done. m.cut_torn due is done;
      broken = λ due is done.
          let apart : meets a.cut_due (Some due) ≡ false = subst (λ (armed : Option Due). meets a.cut_due armed ≡ false) is done.1 in
          subst (λ (tear : List ℕ). IsTornAt b due.number tear) (own_tear a.cut_due due apart) (m.fault_torn due is done.0);
      locked = λ failed.
          let rose : Rose a.faults b.faults = elim failed [ inl done ↦ m.fault_counted done.0 done.1 | inr came ↦ misread_rose a b came m.read_due ] in
          some.0 (omega (arith, rose, c.counted, below));
      only = λ is. let n = some.1 is in why_counted a b m.fault_cause (λ same. omega (arith, n, c.counted, same, below));
    }

-- The faults and losses of an event are those that were armed, where no count of faults stands at its end.
pub Turn-scripted : (accepts : Acceptance) (e : Event) (old new : World) → Turn accepts e old new → CanCount old → FailsByScript old new
Turn-scripted accepts e old new t below which = device_scripted accepts e old new t which (below which)
