-- What one call does, from the ending that it takes.
use Rattle.std.proofs.Common.{◌≡◌, ◌≢◌, ℕ, ◌+◌, ◌≤◌, Bool, true, false, cond, eqb, List, [], ◌∷◌, ◌++◌, length, refl, sym, ap, ◌∙◌, subst, arith, Option, Some, None, Result, ◌⊎◌, inl, inr, eq-eqb}
use Rattle.std.proofs.lemmas.Bool.{cond_both, eqb-false}
use Rattle.std.proofs.lemmas.Bool.Decides.{nat_tests}
use Rattle.std.proofs.lemmas.List.{length_push, append-nil}
use Rattle.pfr_flash.specs.Operation.{Operation, play, torn_by}
use Rattle.pfr_flash.specs.FlashState.{FlashState, Due, op_count_of, now, size_of, raised_by, Ending, Off, Full, Cut, Broken, Done, due_at, due_after, ending, with_op, after, after_ending, answer, answer_at}
use Rattle.pfr_flash.specs.Moved.{IsWhole, IsTornAt, passed, was_done, meets, tear_of_fault, ReadFaulted, FaultCause, none, at_operation, no_room, Moved, Worked}
use Rattle.pfr_flash.specs.Flash.{Does}
use Rattle.pfr_flash.specs.declared.flash.FlashFail.{FlashFail}
use Rattle.pfr_flash.specs.Holding.{HoldsBytes}
use Rattle.pfr_flash.proofs.HoldingLemmas.{tear_bytes}
use Rattle.pfr_flash.proofs.EndingLemmas.{EndingOf, is_off, is_full, is_cut, is_broken, is_done, ending_of}
use Rattle.pfr_flash.proofs.TearLemmas.{FitsIn, torn_by-torn}
use Rattle.pfr_flash.proofs.PlayLemmas.{length-play}

-- no operation, no arm done
pub passed_same : (n : ℕ) (due : Option Due) → passed n n due ≡ false
passed_same n None = refl
passed_same n (Some due) = grind (arith, nat_tests)

-- an operation that isn't due has another number
not_due : (number : ℕ) (due : Due) → due_at number (Some due) ≡ None → eqb due.number number ≡ false
not_due number due h = cond_both (eqb due.number number) (Some due.tear) None (λ (o : Option (List ℕ)). o ≡ None → eqb due.number number ≡ false) (λ same e. cc) (λ other e. other) h

pub passed_one_none : (n : ℕ) (due : Option Due) → due_at (n + 1) due ≡ None → passed n (n + 1) due ≡ false
passed_one_none n None h = refl
passed_one_none n (Some due) h = let other = eqb-false due.number (n + 1) (not_due (n + 1) due h) in grind (arith, nat_tests)

pub passed_one_some : (n : ℕ) (tear : List ℕ) → passed n (n + 1) (Some (record { number = n + 1; tear = tear })) ≡ true
passed_one_some n tear = grind (arith, nat_tests)

-- what does no operation changes the power, the faults, what was taken and the fault of a read alone
pub moved_still : (old : FlashState) (on : Bool) (faults taken : ℕ) (read_due : Bool) → old.faults ≤ faults
    → ((read_due ≡ old.read_due) ⊎ ReadFaulted old (record old { powered = on; faults = faults; taken = taken; read_due = read_due }))
    → FaultCause old (record old { powered = on; faults = faults; taken = taken; read_due = read_due })
    → Moved old (record old { powered = on; faults = faults; taken = taken; read_due = read_due })
moved_still old on faults taken read_due rise due cause = record {
  start = refl;
  ops = record { more = []; is = sym (append-nil old.ops) };
  full = λ _. refl;
  arms = refl;
  room = refl;
  cut_due = rw passed_same refl;
  cut_torn = λ cut is done. absurd (let e = passed_same (op_count_of old) old.cut_due in cc);
  fault_due = rw passed_same refl;
  fault_torn = λ fault is done. absurd (let e = passed_same (op_count_of old) old.fault_due in cc);
  read_due = due;
  losses = rw passed_same refl;
  faults = rise;
  fault_counted = λ done. absurd (let e = passed_same (op_count_of old) old.fault_due in cc);
  fault_cause = cause;
}

-- a call that does no operation
pub worked_still : (old : FlashState) (faults taken : ℕ) (read_due : Bool) → Moved old (record old { faults = faults; taken = taken; read_due = read_due }) → old.taken ≤ taken
    → (old.powered ≡ false → (faults ≡ old.faults) × (read_due ≡ old.read_due)) → Worked old (record old { faults = faults; taken = taken; read_due = read_due })
worked_still old faults taken read_due moved more off = record { moved = moved; powered = rw passed_same refl; taken = more; off = λ h. rw ((off h).0, (off h).1) refl }

-- one that has no fault
pub worked_same : (old : FlashState) (taken : ℕ) → old.taken ≤ taken → Worked old (record old { taken = taken })
worked_same old taken more =
    worked_still old old.faults taken old.read_due (moved_still old old.powered old.faults taken old.read_due (omega arith) (inl refl) (none refl)) more (λ _. (refl, refl))

-- a call that does its operation
pub worked_done : (old : FlashState) (op : Operation) → old.powered ≡ true → op_count_of old ≢ old.room
    → due_at (op_count_of old + 1) old.cut_due ≡ None → due_at (op_count_of old + 1) old.fault_due ≡ None → Worked old (with_op old op)
worked_done old op on room c f =
    let n = op_count_of old in
    let cut : was_done old (with_op old op) old.cut_due ≡ false = rw length_push (passed_one_none n old.cut_due c) in
    let fault : was_done old (with_op old op) old.fault_due ≡ false = rw length_push (passed_one_none n old.fault_due f) in
    record {
      moved = record {
        start = refl;
        ops = record { more = op ∷ []; is = refl };
        full = λ e. absurd (room e);
        arms = refl;
        room = refl;
        cut_due = rw cut refl;
        cut_torn = λ d is done. absurd cc;
        fault_due = rw fault refl;
        fault_torn = λ d is done. absurd cc;
        read_due = inl refl;
        losses = rw cut refl;
        faults = omega arith;
        fault_counted = λ done. absurd cc;
        fault_cause = none refl;
      };
      powered = rw cut refl;
      taken = omega arith;
      off = λ h. absurd cc;
    }

-- the last operation was torn by this tear
torn_last : (old new : FlashState) (op : Operation) (tear : List ℕ) → IsWhole op → new.start ≡ old.start
    → new.ops ≡ old.ops ++ torn_by tear (now old) op ∷ [] → IsTornAt new (op_count_of old + 1) tear
torn_last old new op tear whole start is = record {
  before = old.ops;
  asked = op;
  rest = [];
  whole = whole;
  place = refl;
  is = is ∙ ap (λ (first : List ℕ). old.ops ++ torn_by tear (play first old.ops) op ∷ []) (sym start);
}

-- what is left of a fault's arm once an operation is done
passed_left : (n : ℕ) (due : Option Due) → due_after (n + 1) due ≡ cond (passed n (n + 1) due) None due
passed_left n None = refl
passed_left n (Some due) = let same : eqb due.number (n + 1) ≡ passed n (n + 1) (Some due) = grind (arith, nat_tests) in rw same refl

-- a fault whose operation is done next is due at the next number
passed_number : (n : ℕ) (due : Due) → passed n (n + 1) (Some due) ≡ true → due.number ≡ n + 1
passed_number n due h = grind (arith, nat_tests)

-- where the cut's operation is the fault's, the tear is the cut's
tear_meets : (n : ℕ) (tear : List ℕ) (fault : Due) → fault.number ≡ n → tear_of_fault (Some (record { number = n; tear = tear })) fault ≡ tear
tear_meets n tear fault h = let e = eq-eqb n fault.number (sym h) in rw e refl

meets_next : (n : ℕ) (tear : List ℕ) (fault : Option Due) → passed n (n + 1) fault ≡ true → meets (Some (record { number = n + 1; tear = tear })) fault ≡ true
meets_next n tear None h = cc
meets_next n tear (Some fault) h = eq-eqb (n + 1) fault.number (sym (passed_number n fault h))

-- and otherwise the fault's
tear_apart : (cut : Option Due) (fault : Due) → due_at fault.number cut ≡ None → tear_of_fault cut fault ≡ fault.tear
tear_apart None fault h = refl
tear_apart (Some cut) fault h = rw (not_due fault.number cut h) refl

meets_apart : (cut : Option Due) (fault : Due) → due_at fault.number cut ≡ None → meets cut (Some fault) ≡ false
meets_apart None fault h = refl
meets_apart (Some cut) fault h = not_due fault.number cut h

-- a call that a cut tears
pub worked_cut : (old : FlashState) (op : Operation) (tear : List ℕ) → IsWhole op → old.powered ≡ true → op_count_of old ≢ old.room
    → old.cut_due ≡ Some (record { number = op_count_of old + 1; tear = tear }) → Worked old (after_ending op old (Cut tear))
worked_cut old op tear whole on room c =
    let n = op_count_of old in
    let new = after_ending op old (Cut tear) in
    let due : Due = record { number = n + 1; tear = tear } in
    let cut : was_done old new old.cut_due ≡ true = rw (length_push, c) (passed_one_some n tear) in
    let left : new.fault_due ≡ cond (was_done old new old.fault_due) None old.fault_due = rw length_push (passed_left n old.fault_due) in
    let torn = torn_last old new op tear whole refl refl in
    record {
      moved = record {
        start = refl;
        ops = record { more = torn_by tear (now old) op ∷ []; is = refl };
        full = λ e. absurd (room e);
        arms = refl;
        room = refl;
        cut_due = rw cut refl;
        cut_torn = λ d is done.
            let same : due ≡ d = cc in
            subst (λ (x : Due). IsTornAt new x.number x.tear) same torn;
        fault_due = left;
        fault_torn = λ d is done.
            let number : d.number ≡ n + 1 = passed_number n d (rw (length_push, is) at done) in
            let by : tear_of_fault old.cut_due d ≡ tear = rw c (tear_meets (n + 1) tear d number) in
            subst (λ (t : List ℕ). IsTornAt new d.number t) (sym by) (subst (λ (k : ℕ). IsTornAt new k tear) (sym number) torn);
        read_due = inl refl;
        losses = rw cut refl;
        faults = omega arith;
        fault_counted = λ done apart. absurd (
            let together : meets old.cut_due old.fault_due ≡ true = rw c (meets_next n tear old.fault_due (rw length_push at done)) in
            cc);
        fault_cause = none refl;
      };
      powered = rw cut refl;
      taken = omega arith;
      off = λ h. absurd cc;
    }

-- a call that a fault tears
pub worked_broken : (old : FlashState) (op : Operation) (tear : List ℕ) → IsWhole op → old.powered ≡ true → op_count_of old ≢ old.room
    → due_at (op_count_of old + 1) old.cut_due ≡ None
    → old.fault_due ≡ Some (record { number = op_count_of old + 1; tear = tear }) → Worked old (after_ending op old (Broken tear))
worked_broken old op tear whole on room c f =
    let n = op_count_of old in
    let new = after_ending op old (Broken tear) in
    let cut : was_done old new old.cut_due ≡ false = rw length_push (passed_one_none n old.cut_due c) in
    let fault : was_done old new old.fault_due ≡ true = rw (length_push, f) (passed_one_some n tear) in
    let due : Due = record { number = n + 1; tear = tear } in
    let torn = torn_last old new op tear whole refl refl in
    record {
      moved = record {
        start = refl;
        ops = record { more = torn_by tear (now old) op ∷ []; is = refl };
        full = λ e. absurd (room e);
        arms = refl;
        room = refl;
        cut_due = rw cut refl;
        cut_torn = λ d is done. absurd cc;
        fault_due = rw fault refl;
        fault_torn = λ d is done.
            let same : due ≡ d = cc in
            let by : tear_of_fault old.cut_due due ≡ tear = tear_apart old.cut_due due c in
            subst (λ (x : Due). IsTornAt new x.number (tear_of_fault old.cut_due x)) same (rw by torn);
        read_due = inl refl;
        losses = rw cut refl;
        faults = omega arith;
        fault_counted = λ done apart. omega arith;
        fault_cause = at_operation fault (rw f (meets_apart old.cut_due due c));
      };
      powered = rw cut refl;
      taken = omega arith;
      off = λ h. absurd cc;
    }

-- ---- an erase or a program
fits_now : (old : FlashState) (op : Operation) → FitsIn (size_of old) op → FitsIn (length (now old)) op
fits_now old op h = subst (λ (n : ℕ). FitsIn n op) (sym (length-play old.start old.ops)) h

does_at : (op : Operation) (old : FlashState) (t : Ending) → EndingOf old t → IsWhole op → HoldsBytes old → FitsIn (size_of old) op
    → after op old ≡ after_ending op old t → answer old ≡ answer_at t → Does op old (after_ending op old t) (answer_at t)
does_at op old Off (is_off off) whole holds fits a r = record {
  leaves = sym a;
  answers = sym r;
  ok = tt;
  err = inl refl;
  failed = (off, refl);
  lost = (λ _. off, λ _. refl);
  worked = worked_same old old.taken (omega arith);
}
does_at op old Full (is_full on full) whole holds fits a r = record {
  leaves = sym a;
  answers = sym r;
  ok = tt;
  err = inl refl;
  failed = refl;
  lost = (λ h. cc, λ h. cc);
  worked = worked_still old (raised_by old.faults 1) old.taken old.read_due
      (moved_still old old.powered (raised_by old.faults 1) old.taken old.read_due (omega arith) (inl refl) (no_room full)) (omega arith) (λ off. absurd cc);
}
does_at op old (Cut tear) (is_cut on room c) whole holds fits a r = record {
  leaves = sym a;
  answers = sym r;
  ok = tt;
  err = inr (record { done = torn_by tear (now old) op; torn = torn_by-torn (now old) tear op (tear_bytes old.cut_due _ tear c holds.cut) (fits_now old op fits); is = refl });
  failed = (refl, refl);
  lost = (λ _. refl, λ _. refl);
  worked = worked_cut old op tear whole on room c;
}
does_at op old (Broken tear) (is_broken on room c f) whole holds fits a r = record {
  leaves = sym a;
  answers = sym r;
  ok = tt;
  err = inr (record { done = torn_by tear (now old) op; torn = torn_by-torn (now old) tear op (tear_bytes old.fault_due _ tear f holds.fault) (fits_now old op fits); is = refl });
  failed = refl;
  lost = (λ h. cc, λ h. cc);
  worked = worked_broken old op tear whole on room c f;
}
does_at op old Done (is_done on room c f) whole holds fits a r = record {
  leaves = sym a;
  answers = sym r;
  ok = refl;
  err = tt;
  failed = tt;
  lost = (λ h. cc, λ h. cc);
  worked = worked_done old op on room c f;
}

-- what an implementation shows: what it leaves and what it answers
pub does : (op : Operation) (old new : FlashState) (result : Result (Unit {0}) FlashFail) → IsWhole op → HoldsBytes old → FitsIn (size_of old) op
    → new ≡ after_ending op old (ending old) → result ≡ answer_at (ending old) → Does op old new result
unfolding after answer
does op old new result whole holds fits n r =
    rw (n, r) (does_at op old (ending old) (ending_of old) whole holds fits refl refl)
