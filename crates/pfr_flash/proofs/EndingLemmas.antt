-- How an erase or a program ends, case by case.
use Rattle.std.proofs.Common.{◌≡◌, ◌≢◌, ℕ, ◌+◌, true, false, eqb, List, refl, Option, Some, None, eqb-true}
use Rattle.std.proofs.lemmas.Bool.{cond_both, eqb-false}
use Rattle.std.proofs.lemmas.Option.{cond_some}
use Rattle.pfr_flash.specs.FlashState.{FlashState, Due, op_count_of, Ending, Off, Full, Cut, Broken, Done, due_at, torn_ending, ending}

-- an armed cut or fault whose operation is that of this number
pub due_at-some : (number : ℕ) (due : Option Due) (tear : List ℕ) → due_at number due ≡ Some tear → due ≡ Some (record { number = number; tear = tear })
due_at-some number None tear h = cc
due_at-some number (Some due) tear h =
    let is = cond_some (eqb due.number number) due.tear tear h in
    rw (← eqb-true due.number number is.0, ← is.1) refl

-- the ending with what it tells of the state
pub data EndingOf : FlashState → Ending → Type 0 where
  is_off : {d : FlashState} → d.powered ≡ false → EndingOf d Off
  is_full : {d : FlashState} → d.powered ≡ true → op_count_of d ≡ d.room → EndingOf d Full
  is_cut : {d : FlashState} {tear : List ℕ} → d.powered ≡ true → op_count_of d ≢ d.room
      → d.cut_due ≡ Some (record { number = op_count_of d + 1; tear = tear }) → EndingOf d (Cut tear)
  is_broken : {d : FlashState} {tear : List ℕ} → d.powered ≡ true → op_count_of d ≢ d.room
      → due_at (op_count_of d + 1) d.cut_due ≡ None
      → d.fault_due ≡ Some (record { number = op_count_of d + 1; tear = tear }) → EndingOf d (Broken tear)
  is_done : {d : FlashState} → d.powered ≡ true → op_count_of d ≢ d.room
      → due_at (op_count_of d + 1) d.cut_due ≡ None → due_at (op_count_of d + 1) d.fault_due ≡ None → EndingOf d Done

torn_ending_of : (d : FlashState) (cut fault : Option (List ℕ)) → d.powered ≡ true → op_count_of d ≢ d.room
    → due_at (op_count_of d + 1) d.cut_due ≡ cut → due_at (op_count_of d + 1) d.fault_due ≡ fault → EndingOf d (torn_ending cut fault)
torn_ending_of d (Some tear) fault on room c f = is_cut on room (due_at-some (op_count_of d + 1) d.cut_due tear c)
torn_ending_of d None (Some tear) on room c f = is_broken on room c (due_at-some (op_count_of d + 1) d.fault_due tear f)
torn_ending_of d None None on room c f = is_done on room c f

pub ending_of : (d : FlashState) → EndingOf d (ending d)
unfolding ending
ending_of d = cond_both d.powered _ Off (λ (t : Ending). EndingOf d t)
    (λ on. cond_both (eqb (op_count_of d) d.room) Full _ (λ (t : Ending). EndingOf d t)
    (λ full. is_full on (eqb-true (op_count_of d) d.room full))
    (λ some. torn_ending_of d _ _ on (eqb-false (op_count_of d) d.room some) refl refl))
    is_off
