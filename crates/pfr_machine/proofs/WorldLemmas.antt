-- What notes and devices do to the platform.
use Rattle.std.proofs.Common.{◌≡◌, ◌≢◌, ◌∙◌, refl, sym, ap, subst, ℕ, ◌≤◌, ◌+◌, Bool, true, false, List, [], ◌∷◌, ◌++◌, Some, None, arith}
use Rattle.std.proofs.lemmas.List.{length-append}
use Rattle.pfr_flash.specs.FlashState.{FlashState, now, op_count_of, size_of}
use Rattle.pfr_flash.specs.Layout.{IsBankSize}
use Rattle.pfr_flash.specs.declared.names.Bank.{Bank}
use Rattle.pfr_flash.specs.declared.names.Bank.TheVariants as bank
use Rattle.pfr_flash.specs.declared.names.Counts.{Counts}
use Rattle.pfr_report.specs.NotesState.{NotesState}
use Rattle.pfr_report.specs.Texts.{AllText, HasText}
use Rattle.pfr_report.specs.declared.note.Note.{Note}
use Rattle.pfr_report.specs.declared.note.What.{What}
use Rattle.pfr_report.specs.declared.note.What.TheVariants.{Held, Released, Locked}
use Rattle.pfr_report.specs.declared.note.LockWhy.{LockWhy}
use Rattle.pfr_report.proofs.NotedLemmas.{AllText-append}
use Rattle.pfr_story.specs.Guards.{latch_after}
use Rattle.pfr_story.specs.Plans.{Ruling}
use Rattle.pfr_story.specs.Standing as standing
use Rattle.pfr_story.specs.Standing.{Standing, standing_from, standing_after, standing_by, standing_of}
use Rattle.pfr_story.specs.Story.{Says, device_of, other_bank}
use Rattle.pfr_story.specs.World.{World, counts_in, state_at}
use Rattle.pfr_story.specs.Goes.{Ran}
use Rattle.pfr_story.specs.declared.line.Line.TheVariants as line
use Rattle.pfr_story.proofs.Lift.{Ran-says}
use Rattle.pfr_machine.specs.Inside.{IsBoard, IsLaid, IsSeat, KeepsLaid}
use Rattle.pfr_machine.specs.Worlds.{AddsNotes, Latches, Sitting, counts_by, desk_world, latches_after, latches_by, with_note}
use Rattle.pfr_machine.specs.declared.board.Board.{Board}

-- ---- how banks stand once something more is noted
standing_from-noted : (which : Bank) (how : Standing) (list : List Note) (note : Note) → standing_from which how (list ++ note ∷ []) ≡ standing_after which note.what (standing_from which how list)
standing_from-noted which how [] note = refl
standing_from-noted which how (first ∷ list) note = standing_from-noted which (standing_after which first.what how) list note

pub standing_noted : (which : Bank) (list : List Note) (note : Note) → standing_of which (list ++ note ∷ []) ≡ standing_after which note.what (standing_of which list)
standing_noted which list note = standing_from-noted which standing.Off list note

-- ---- how many notes there are
pub AddsNotes-none : (n : NotesState) → AddsNotes 0 n n
AddsNotes-none n = record { spare = omega arith; few = omega arith }

pub AddsNotes-same : (old new : NotesState) → new ≡ old → AddsNotes 0 old new
AddsNotes-same old new e = subst (λ (n : NotesState). AddsNotes 0 old n) (sym e) (AddsNotes-none old)

pub AddsNotes-noted : (what : What) (w : World) → 1 ≤ w.notes.spare → AddsNotes 1 w.notes (with_note what w).notes
AddsNotes-noted what w room = record {
  spare = omega (arith, room);
  few = omega (arith, length-append w.notes.list (record { item = w.item; what = what } ∷ []));
}

-- one after the other
pub AddsNotes-then : (m n : ℕ) (a b c : NotesState) → AddsNotes m a b → AddsNotes n b c → AddsNotes (m + n) a c
AddsNotes-then m n a b c h k = record { spare = omega (arith, h.spare, k.spare); few = omega (arith, h.few, k.few) }

pub AddsNotes-most : (m n : ℕ) (a b : NotesState) → AddsNotes m a b → m ≤ n → AddsNotes n a b
AddsNotes-most m n a b h le = record { spare = omega (arith, h.spare); few = omega (arith, h.few) }

-- ---- something is noted, and nothing else changes
pub noted_ran : (says : Counts → What) (what : What) (old new : World) → what ≡ says (counts_in old) → new ≡ with_note what old → Ran (Says says ∷ []) old new
noted_ran says what old new w e =
    let same : new ≡ with_note (says (counts_in old)) old = subst (λ (x : What). new ≡ with_note x old) w e in
    subst (λ (x : World). Ran (Says says ∷ []) old x) (sym same) (Ran-says says old (with_note (says (counts_in old)) old) refl refl refl refl refl refl)

-- ---- counts
pub counts_desk : {F : Type 0} (b : Bank) (mine other nv : FlashState) (latches : Latches) (board : Board F) → counts_by b (op_count_of mine) (op_count_of other) (op_count_of nv) ≡ counts_in (desk_world b mine other nv latches board)
counts_desk bank.Bmc mine other nv latches board = refl
counts_desk bank.Pch mine other nv latches board = refl

-- ---- seats
-- a bank that runs was judged by the layout that the store provisions it with
abbrev pub AreLaid : Bank → Sitting → World → Type 0
AreLaid which seat w = (r : Ruling) → seat.ruling ≡ Some r → IsLaid which r.layout (now w.nv)

-- the seats of banks that don't run
abbrev pub off_seat : Bank → Sitting
off_seat whose = record { whose = whose; line = line.Off; latch = false; ruling = None }

abbrev pub locked_seat : Bank → Sitting
locked_seat whose = record { whose = whose; line = line.Locked; latch = false; ruling = None }

-- the seat of a bank, once something was noted
pub seat_noted : (which : Bank) (later : Sitting) (note : Note) (old new : World)
    → size_of (state_at (device_of which) new) ≡ size_of (state_at (device_of which) old)
    → new.notes.list ≡ old.notes.list ++ note ∷ []
    → standing_after which note.what (standing_of which old.notes.list) ≡ standing_by later.line
    → (later.line ≢ line.Off → (state_at (device_of which) new).powered ≡ true)
    → later.whose ≡ which → IsBankSize (size_of (state_at (device_of which) old)) → AreLaid which later new → IsSeat which later new
seat_noted which later note old new size list after on owned bank_size laid = record {
  owner = owned;
  size = subst (λ (n : ℕ). IsBankSize n) (sym size) bank_size;
  stands = ap (λ (l : List Note). standing_of which l) list ∙ (standing_noted which old.notes.list note ∙ after);
  on = on;
  laid = laid;
}

-- a seat of which nothing was noted
pub seat_stays : (which : Bank) (seat : Sitting) (old new : World)
    → size_of (state_at (device_of which) new) ≡ size_of (state_at (device_of which) old)
    → new.notes.list ≡ old.notes.list
    → (seat.line ≢ line.Off → (state_at (device_of which) new).powered ≡ true)
    → KeepsLaid (now old.nv) (now new.nv)
    → IsSeat which seat old → IsSeat which seat new
seat_stays which seat old new size list on keeps h = record {
  owner = h.owner;
  size = subst (λ (n : ℕ). IsBankSize n) (sym size) h.size;
  stands = ap (λ (l : List Note). standing_of which l) list ∙ h.stands;
  on = on;
  laid = λ r e. keeps which r.layout (h.laid r e);
}

pub board_noted : (note : Note) (old new : World) → size_of new.nv ≡ size_of old.nv → new.notes.list ≡ old.notes.list ++ note ∷ [] → HasText note.what → IsBoard old → IsBoard new
board_noted note old new size list text board = record {
  size = size ∙ board.size;
  texts = subst (λ (l : List Note). AllText l) (sym list) (AllText-append old.notes.list (note ∷ []) board.texts (text, tt));
}

pub board_stays : (old new : World) → size_of new.nv ≡ size_of old.nv → new.notes.list ≡ old.notes.list → IsBoard old → IsBoard new
board_stays old new size list board = record { size = size ∙ board.size; texts = subst (λ (l : List Note). AllText l) (sym list) board.texts }

-- ---- what notes do to the latches
-- a note that moves neither
pub still_latches : (what : What) (latches : Latches) → ((which : Bank) (latch : Bool) → latch_after which what latch ≡ latch) → latches ≡ latches_after what latches
still_latches what latches still =
    ap (λ (l : Bool). latches_by bank.Bmc l latches.pch) (sym (still bank.Bmc latches.bmc))
    ∙ ap (λ (l : Bool). latches_by bank.Bmc (latch_after bank.Bmc what latches.bmc) l) (sym (still bank.Pch latches.pch))

-- a bank that is held, locked or released has its latch off
pub held_latches : (b : Bank) (at : Counts) (mine other : Bool) → latches_by b false other ≡ latches_after (Held b at) (latches_by b mine other)
held_latches bank.Bmc at mine other = refl
held_latches bank.Pch at mine other = refl

pub locked_latches : (b : Bank) (why : LockWhy) (at : Counts) (mine other : Bool) → latches_by b false other ≡ latches_after (Locked b why at) (latches_by b mine other)
locked_latches bank.Bmc why at mine other = refl
locked_latches bank.Pch why at mine other = refl

pub released_latches : (b : Bank) (svn : ℕ) (at : Counts) (mine other : Bool) → latches_by b false other ≡ latches_after (Released b svn at) (latches_by b mine other)
released_latches bank.Bmc svn at mine other = refl
released_latches bank.Pch svn at mine other = refl

-- ---- what notes of this bank say of it, and of the other one
pub after_locked : (b : Bank) (why : LockWhy) (at : Counts) (s : Standing) → standing_after b (Locked b why at) s ≡ standing.Locked
after_locked bank.Bmc why at s = refl
after_locked bank.Pch why at s = refl

pub other_locked : (b : Bank) (why : LockWhy) (at : Counts) (s : Standing) → standing_after (other_bank b) (Locked b why at) s ≡ s
other_locked bank.Bmc why at s = refl
other_locked bank.Pch why at s = refl

pub after_released : (b : Bank) (svn : ℕ) (at : Counts) (s : Standing) → standing_after b (Released b svn at) s ≡ standing.Running
after_released bank.Bmc svn at s = refl
after_released bank.Pch svn at s = refl

pub other_released : (b : Bank) (svn : ℕ) (at : Counts) (s : Standing) → standing_after (other_bank b) (Released b svn at) s ≡ s
other_released bank.Bmc svn at s = refl
other_released bank.Pch svn at s = refl
