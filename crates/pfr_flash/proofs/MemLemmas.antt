-- A flash in memory does what its trait says.
use Rattle.std.proofs.Common.{◌≡◌, ℕ, ◌+◌, Bool, true, false, cond, eqb, ltb, List, [], ◌∷◌, ◌++◌, length, refl, sym, ap, ◌∙◌, subst, Option, Some, None, Result}
use Rattle.std.proofs.lemmas.List.{get_or_append_left, get_or_push}
use Rattle.pfr_flash.specs.Operation.{Operation}
use Rattle.pfr_flash.specs.FlashState.{FlashState, Due, due_after, ending, ending_with, after_ending, answer_at}
use Rattle.pfr_flash.specs.Moved.{IsWhole}
use Rattle.pfr_flash.specs.Flash.{Does}
use Rattle.pfr_flash.specs.Cells.{CellsState}
use Rattle.pfr_flash.specs.Rig.{IsKnownArm, due_of, arm_after, ending_at, cells_after, rig_after, device_of}
use Rattle.pfr_flash.specs.declared.rig.Arm.{Arm}
use Rattle.pfr_flash.specs.declared.rig.Rig.{Rig}
use Rattle.pfr_flash.specs.declared.rig.Outcome.{Outcome}
use Rattle.pfr_flash.specs.declared.rig.Outcome.TheVariants.{Off, Full, Cut, Broken, Done}
use Rattle.pfr_flash.specs.declared.flash.FlashFail.{FlashFail}
use Rattle.pfr_flash.specs.Bytes.{AreBytes}
use Rattle.pfr_flash.specs.Holding.{HoldsBytes, WritesBytes, tear_of}
use Rattle.pfr_flash.proofs.TearLemmas.{FitsIn}
use Rattle.pfr_flash.proofs.HoldingLemmas.{HoldsBytes-after}
use Rattle.pfr_flash.proofs.DoesLemmas.{does}

due_of-after : (tears : List (List ℕ)) (number : ℕ) (arm : Option Arm) → due_of tears (arm_after number arm) ≡ due_after number (due_of tears arm)
due_of-after tears number None = refl
due_of-after tears number (Some arm) = cases (eqb arm.number number)
  where
    cases : (same : Bool) → due_of tears (cond same None (Some arm)) ≡ cond same None (due_of tears (Some arm))
    cases true = refl
    cases false = refl

device_after : (op : Operation) (cells : CellsState) (rig : Rig) (taken read_fault : ℕ) (outcome : Outcome)
    → device_of (cells_after op cells outcome) (rig_after (length cells.ops + 1) rig outcome) taken read_fault
    ≡ after_ending op (device_of cells rig taken read_fault) (ending_at cells.tears outcome)
device_after op cells rig taken read_fault Off = refl
device_after op cells rig taken read_fault Full = refl
device_after op cells rig taken read_fault (Cut tear) =
    ap (λ (due : Option Due). record (after_ending op (device_of cells rig taken read_fault) (ending_at cells.tears (Cut tear))) { fault_due = due })
    (due_of-after cells.tears (length cells.ops + 1) rig.fault)
device_after op cells rig taken read_fault (Broken tear) = refl
device_after op cells rig taken read_fault Done = refl

answer_any : (tears : List (List ℕ)) (outcome : Outcome) → answer_at (ending_at [] outcome) ≡ answer_at (ending_at tears outcome)
answer_any tears Off = refl
answer_any tears Full = refl
answer_any tears (Cut tear) = refl
answer_any tears (Broken tear) = refl
answer_any tears Done = refl

-- ---- an erase or a program
module _ (op : Operation) (cells cells' : CellsState) (rig rig' : Rig) (taken read_fault count room : ℕ) (outcome : Outcome)
    (seen : ending_at cells.tears outcome ≡ ending_with rig.powered count room (due_of cells.tears rig.cut) (due_of cells.tears rig.fault))
    (counted : count ≡ length cells.ops) (roomy : room ≡ cells.room) (after_cells : cells' ≡ cells_after op cells outcome) (after_rig : rig' ≡ rig_after (count + 1) rig outcome) where
  ends_so : ending_at cells.tears outcome ≡ ending (device_of cells rig taken read_fault)
  unfolding ending
  ends_so = rw (← counted, ← roomy) seen

  -- what it leaves
  mem_leaves : device_of cells' rig' taken read_fault ≡ after_ending op (device_of cells rig taken read_fault) (ending (device_of cells rig taken read_fault))
  mem_leaves = rw (after_cells, after_rig, counted, ← ends_so) (device_after op cells rig taken read_fault outcome)

  pub mem_does : (device : FlashState) (result : Result (Unit {0}) FlashFail) → IsWhole op → HoldsBytes device → FitsIn (length device.start) op
      → device_of cells rig taken read_fault ≡ device → result ≡ answer_at (ending_at [] outcome) → Does op device (device_of cells' rig' taken read_fault) result
  mem_does device result whole holds fits view answered =
      rw (← view) (does op (device_of cells rig taken read_fault) (device_of cells' rig' taken read_fault) result whole (rw view holds) (subst (λ (d : FlashState). FitsIn (length d.start) op) (sym view) fits) mem_leaves
      (answered ∙ answer_any cells.tears outcome ∙ ap answer_at ends_so))

  -- and bytes are left where bytes were given
  pub mem_holds : WritesBytes op → HoldsBytes (device_of cells rig taken read_fault) → HoldsBytes (device_of cells' rig' taken read_fault)
  mem_holds writes holds = subst HoldsBytes (sym mem_leaves) (HoldsBytes-after op (device_of cells rig taken read_fault) writes holds)

-- what a read leaves
pub mem_reads : {device : FlashState} (cells : CellsState) (rig : Rig) {taken taken' faults faults' more : ℕ} {due : Bool} (read_fault read_fault' : ℕ)
    → device_of cells rig taken read_fault ≡ device → taken' ≡ more → faults ≡ faults' → ltb 0 read_fault' ≡ due
    → device_of cells (record rig { faults = faults }) taken' read_fault' ≡ record device { taken = more; faults = faults'; read_due = due }
mem_reads cells rig read_fault read_fault' view t f d = rw (← view, t, f, d) refl

-- ---- arming
-- a further tear changes no other arm
arm_stays : (tears : List (List ℕ)) (tear : List ℕ) (arm : Option Arm) → IsKnownArm (length tears) arm → AreBytes (tear_of (due_of tears arm)) → AreBytes (tear_of (due_of (tears ++ tear ∷ []) arm))
arm_stays tears tear None k h = h
arm_stays tears tear (Some arm) k h = subst AreBytes (sym (get_or_append_left tears (tear ∷ []) [] arm.tear k)) h

-- a device that a cut or a fault is armed in holds bytes, where the tear is of bytes
pub arms_cut : (cells cells' : CellsState) (rig : Rig) (taken read_fault number place : ℕ) (tear : List ℕ) → HoldsBytes (device_of cells rig taken read_fault)
    → IsKnownArm (length cells.tears) rig.fault → AreBytes tear → cells' ≡ record cells { tears = cells.tears ++ tear ∷ [] } → place ≡ length cells.tears
    → HoldsBytes (device_of cells' (record rig { cut = Some (record { number = number; tear = place }) }) taken read_fault)
arms_cut cells cells' rig taken read_fault number place tear h known bytes kept at = rw kept (record {
  start = h.start;
  ops = h.ops;
  cut = subst AreBytes (sym (get_or_push cells.tears tear [] place (sym at))) bytes;
  fault = arm_stays cells.tears tear rig.fault known h.fault;
})

pub arms_fault : (cells cells' : CellsState) (rig : Rig) (taken read_fault number place : ℕ) (tear : List ℕ) → HoldsBytes (device_of cells rig taken read_fault)
    → IsKnownArm (length cells.tears) rig.cut → AreBytes tear → cells' ≡ record cells { tears = cells.tears ++ tear ∷ [] } → place ≡ length cells.tears
    → HoldsBytes (device_of cells' (record rig { fault = Some (record { number = number; tear = place }) }) taken read_fault)
arms_fault cells cells' rig taken read_fault number place tear h known bytes kept at = rw kept (record {
  start = h.start;
  ops = h.ops;
  cut = arm_stays cells.tears tear rig.cut known h.cut;
  fault = subst AreBytes (sym (get_or_push cells.tears tear [] place (sym at))) bytes;
})
