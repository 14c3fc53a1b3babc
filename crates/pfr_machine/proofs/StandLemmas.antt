-- How banks stand once something more is noted.
use Rattle.std.proofs.Common.{◌≡◌, ◌∙◌, sym, ap, subst, ℕ, ◌≤◌, [], ◌∷◌, true, if◌then◌else◌, Option, arith}
use Rattle.std.specs.Prelude.{◌≢◌}
use Rattle.pfr_flash.specs.declared.names.Bank.{Bank}
use Rattle.pfr_flash.specs.declared.names.Bank.TheVariants.{Bmc, Pch}
use Rattle.pfr_flash.specs.declared.names.Counts.{Counts}
use Rattle.pfr_flash.specs.declared.names.Device.{Device}
use Rattle.pfr_report.specs.declared.note.LockWhy.{LockWhy}
use Rattle.pfr_report.specs.declared.note.What.{What}
use Rattle.pfr_report.specs.declared.note.What.TheVariants.{Locked, Lost}
use Rattle.pfr_story.specs.Goes.{Ran}
use Rattle.pfr_story.specs.Guards.{same_bank}
use Rattle.pfr_story.specs.Standing as standing
use Rattle.pfr_story.specs.Standing.{Standing, standing_after, standing_of}
use Rattle.pfr_story.specs.Story.{Story, Says}
use Rattle.pfr_story.specs.World.{World, counts_in}
use Rattle.pfr_machine.specs.Worlds.{AddsNotes, with_note}
use Rattle.pfr_machine.specs.Inside.{IsWhole}
use Rattle.pfr_machine.specs.Ready.{LeavesWhole}
use Rattle.pfr_machine.proofs.WorldLemmas.{AddsNotes-most, AddsNotes-noted, standing_noted}

pub said_stands : (says : Counts → What) (old new : World) → Ran (Says says ∷ []) old new → (which : Bank)
    → standing_of which new.notes.list ≡ standing_after which (says (counts_in old)) (standing_of which old.notes.list)
said_stands says old new r which =
    ap (λ (s : Story). standing_of which s.notes) r.is
    ∙ standing_noted which old.notes.list (record { item = old.item; what = says (counts_in old) })

pub locked_stands : (bank : Bank) (why : LockWhy) (old new : World) → Ran (Says (Locked bank why) ∷ []) old new → (which : Bank)
    → standing_of which new.notes.list ≡ (if same_bank which bank then standing.Locked else standing_of which old.notes.list)
locked_stands bank why old new r which = said_stands (λ at. Locked bank why at) old new r which

-- both banks are locked
locked_at : (bank : Bank) (why : LockWhy) (old new : World) → Ran (Says (Locked bank why) ∷ []) old new → (which : Bank) → standing_of which old.notes.list ≡ standing.Locked
    → standing_of which new.notes.list ≡ standing.Locked
locked_at Bmc why old new r Bmc h = locked_stands Bmc why old new r Bmc
locked_at Bmc why old new r Pch h = locked_stands Bmc why old new r Pch ∙ h
locked_at Pch why old new r Bmc h = locked_stands Pch why old new r Bmc ∙ h
locked_at Pch why old new r Pch h = locked_stands Pch why old new r Pch

not_off : (s : Standing) → s ≡ standing.Locked → s ≢ standing.Off
not_off s e f = absurd (let g : standing.Locked ≡ standing.Off = rw e at f in cc)

pub both_locked : (why : LockWhy) (old mid new : World) → Ran (Says (Locked Bmc why) ∷ []) old mid → Ran (Says (Locked Pch why) ∷ []) mid new
    → (standing_of Bmc new.notes.list ≢ standing.Off) × (standing_of Pch new.notes.list ≢ standing.Off)
both_locked why old mid new p q = (
  not_off _ (locked_at Pch why mid new q Bmc (locked_stands Bmc why old mid p Bmc)),
  not_off _ (locked_stands Pch why mid new q Pch),
)

pub still_stands : (what : What) (old new : World) → ((which : Bank) (s : Standing) → standing_after which what s ≡ s) → new ≡ with_note what old → (which : Bank)
    → standing_of which new.notes.list ≡ standing_of which old.notes.list
still_stands what old new still e which =
    ap (λ (w : World). standing_of which w.notes.list) e ∙ (standing_noted which old.notes.list (record { item = old.item; what = what }) ∙ still which (standing_of which old.notes.list))

pub noted_adds : (what : What) (old new : World) → new ≡ with_note what old → 1 ≤ old.notes.spare → AddsNotes 1 old.notes new.notes
noted_adds what old new e room = subst (λ (w : World). AddsNotes 1 old.notes w.notes) (sym e) (AddsNotes-noted what old room)

-- ---- what work on the whole platform leaves

pub leaves_on : (most : ℕ) (old new : World) → standing_of Bmc new.notes.list ≢ standing.Off → standing_of Pch new.notes.list ≢ standing.Off → new.nv.powered ≡ true
    → AddsNotes most old.notes new.notes → LeavesWhole most old new
leaves_on most old new bmc pch on notes = record {
  together = λ e. absurd (bmc e);
  apart = λ e. absurd (pch e);
  on = λ n. on;
  notes = notes;
}

-- the banks stand as before
pub leaves_standing : (most : ℕ) (old new : World) → ((which : Bank) → standing_of which new.notes.list ≡ standing_of which old.notes.list) → new.nv.powered ≡ old.nv.powered
    → AddsNotes most old.notes new.notes → IsWhole old → LeavesWhole most old new
leaves_standing most old new stands fed notes h = record {
  together = λ off. stands Pch ∙ h.together (sym (stands Bmc) ∙ off);
  apart = λ off. stands Bmc ∙ h.apart (sym (stands Pch) ∙ off);
  on = λ n. fed ∙ h.on (λ off. n (stands Bmc ∙ off));
  notes = notes;
}

-- something was noted by which no bank stands otherwise
pub noted_leaves : (what : What) (old new : World) → ((which : Bank) (s : Standing) → standing_after which what s ≡ s) → new ≡ with_note what old → 1 ≤ old.notes.spare → IsWhole old
    → LeavesWhole 64 old new
noted_leaves what old new still e room h =
    leaves_standing 64 old new (still_stands what old new still e) (ap (λ (w : World). w.nv.powered) e) (AddsNotes-most 1 64 old.notes new.notes (noted_adds what old new e room) (omega arith)) h

-- the power went
pub lost_leaves : (most : ℕ) (device : Option Device) (old mid new : World) → Ran (Says (Lost device) ∷ []) mid new → AddsNotes most old.notes new.notes → LeavesWhole most old new
lost_leaves most device old mid new r notes = record {
  together = λ off. said_stands (λ at. Lost device at) mid new r Pch;
  apart = λ off. said_stands (λ at. Lost device at) mid new r Bmc;
  on = λ n. absurd (n (said_stands (λ at. Lost device at) mid new r Bmc));
  notes = notes;
}

pub leaves_most : (m n : ℕ) (old new : World) → m ≤ n → LeavesWhole m old new → LeavesWhole n old new
leaves_most m n old new le l = record { together = l.together; apart = l.apart; on = l.on; notes = AddsNotes-most m n old.notes new.notes l.notes le }

-- where a bank runs, neither is off
runs_on : (s : Standing) → s ≡ standing.Running → s ≢ standing.Off
runs_on s e f = absurd (let g : standing.Running ≡ standing.Off = rw e at f in cc)

pub neither_off : (b : Bank) (w : World) → IsWhole w → standing_of b w.notes.list ≡ standing.Running → (which : Bank) → standing_of which w.notes.list ≢ standing.Off
neither_off Bmc w h e Bmc = runs_on _ e
neither_off Bmc w h e Pch = λ off. runs_on _ e (h.apart off)
neither_off Pch w h e Bmc = λ off. runs_on _ e (h.together off)
neither_off Pch w h e Pch = runs_on _ e
