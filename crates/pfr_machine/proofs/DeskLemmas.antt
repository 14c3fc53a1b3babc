-- What calls and notes do to a platform, one of whose banks is in work.
use Rattle.std.proofs.Common.{◌≡◌, ◌≢◌, ◌∙◌, refl, sym, ap, subst, ℕ, true, List, [], length, Option, Some, None, Result, Ok, Err}
use Rattle.pfr_flash.specs.FlashState.{FlashState, now, size_of}
use Rattle.pfr_flash.specs.Layout.{IsBankSize}
use Rattle.pfr_flash.specs.Plan.{Follows}
use Rattle.pfr_flash.specs.Operation.{Operation}
use Rattle.pfr_flash.specs.Reading.{EndsAt}
use Rattle.pfr_flash.specs.declared.flash.FlashFail.{FlashFail}
use Rattle.pfr_flash.specs.declared.names.Bank.{Bank}
use Rattle.pfr_flash.specs.declared.names.Bank.TheVariants as bank
use Rattle.pfr_flash.specs.declared.names.Device.{Device}
use Rattle.pfr_flash.specs.declared.names.Device.TheVariants as device
use Rattle.pfr_flash.proofs.EndsLemmas.{ends_reads}
use Rattle.pfr_script.specs.declared.arm.ArmWhat.{ArmWhat}
use Rattle.pfr_script.specs.declared.arm.ArmWhat.TheVariants.{Cut, Fault, ReadFault}
use Rattle.pfr_report.specs.NotesState.{NotesState}
use Rattle.pfr_report.specs.Texts.{HasText}
use Rattle.pfr_report.specs.declared.note.Note.{Note}
use Rattle.pfr_report.specs.declared.note.What.{What}
use Rattle.pfr_story.specs.Run.{with_arm}
use Rattle.pfr_story.specs.Standing as standing
use Rattle.pfr_story.specs.Standing.{Standing, standing_after, standing_by, standing_of}
use Rattle.pfr_story.specs.Story.{Move, Plan, called, device_of, image_at, other_bank}
use Rattle.pfr_story.specs.World.{World, state_at, story_of}
use Rattle.pfr_story.specs.Goes.{Goes, Ran, Stopped}
use Rattle.pfr_story.specs.declared.line.Line.{Line}
use Rattle.pfr_story.specs.declared.line.Line.TheVariants as line
use Rattle.pfr_story.specs.declared.stop.Stop.{Stop}
use Rattle.pfr_story.proofs.Lift.{OnlyAt, Goes-follows, Goes-reads, at_device}
use Rattle.pfr_machine.specs.Inside.{AreBeside, AreSeated, IsDesk, IsSeat, KeepsLaid}
use Rattle.pfr_machine.specs.Worlds.{AddsNotes, IsAwake, Latches, Sitting, Stays, StaysAwake, desk_world, latches_after, pushed, with_note, world_with}
use Rattle.pfr_machine.specs.Ready.{LeavesSeated}
use Rattle.pfr_machine.specs.declared.board.Board.{Board}
use Rattle.pfr_machine.proofs.LaidLemmas.{KeepsLaid-same}
use Rattle.pfr_machine.proofs.WorldLemmas.{AddsNotes-same, standing_noted, seat_noted, seat_stays, board_noted, board_stays}

-- ---- the devices of a desk
module _ {F : Type 0} where
  pub state_mine : (b : Bank) (mine other nv : FlashState) (latches : Latches) (board : Board F) → state_at (device_of b) (desk_world b mine other nv latches board) ≡ mine
  state_mine bank.Bmc mine other nv latches board = refl
  state_mine bank.Pch mine other nv latches board = refl

  pub state_other : (b : Bank) (mine other nv : FlashState) (latches : Latches) (board : Board F) → state_at (device_of (other_bank b)) (desk_world b mine other nv latches board) ≡ other
  state_other bank.Bmc mine other nv latches board = refl
  state_other bank.Pch mine other nv latches board = refl

  pub state_store : (b : Bank) (mine other nv : FlashState) (latches : Latches) (board : Board F) → (desk_world b mine other nv latches board).nv ≡ nv
  state_store bank.Bmc mine other nv latches board = refl
  state_store bank.Pch mine other nv latches board = refl

  pub desk_notes : (b : Bank) (mine other nv : FlashState) (latches : Latches) (board : Board F) → (desk_world b mine other nv latches board).notes ≡ board.notes
  desk_notes bank.Bmc mine other nv latches board = refl
  desk_notes bank.Pch mine other nv latches board = refl

  pub image_mine : (b : Bank) (mine other nv : FlashState) (latches : Latches) (board : Board F) → image_at (device_of b) (story_of (desk_world b mine other nv latches board)) ≡ now mine
  image_mine bank.Bmc mine other nv latches board = refl
  image_mine bank.Pch mine other nv latches board = refl

  only_mine : (b : Bank) (mine later other nv : FlashState) (latches : Latches) (board : Board F) → OnlyAt (device_of b) (desk_world b mine other nv latches board) (desk_world b later other nv latches board)
  only_mine bank.Bmc mine later other nv latches board = record { others = (refl, refl); item = refl; notes = refl; guards = refl }
  only_mine bank.Pch mine later other nv latches board = record { others = (refl, refl); item = refl; notes = refl; guards = refl }

  only_store : (b : Bank) (mine other nv later : FlashState) (latches : Latches) (board : Board F) (store : F) → OnlyAt device.Nv (desk_world b mine other nv latches board) (desk_world b mine other later latches (record board { nv = store }))
  only_store bank.Bmc mine other nv later latches board store = record { others = (refl, refl); item = refl; notes = refl; guards = refl }
  only_store bank.Pch mine other nv later latches board store = record { others = (refl, refl); item = refl; notes = refl; guards = refl }

-- ---- calls of the bank's device
module _ {F : Type 0} (b : Bank) (mine later other nv : FlashState) (latches : Latches) (board : Board F) (on : mine.powered ≡ true) where
  mine_on : (state_at (device_of b) (desk_world b mine other nv latches board)).powered ≡ true
  mine_on = subst (λ (d : FlashState). d.powered ≡ true) (sym (state_mine b mine other nv latches board)) on

  mine_ends : (failed : Option FlashFail) → EndsAt failed mine later → EndsAt failed (state_at (device_of b) (desk_world b mine other nv latches board)) (state_at (device_of b) (desk_world b later other nv latches board))
  mine_ends failed h =
      subst (λ (d : FlashState). EndsAt failed d (state_at (device_of b) (desk_world b later other nv latches board))) (sym (state_mine b mine other nv latches board))
      (subst (λ (d : FlashState). EndsAt failed mine d) (sym (state_mine b later other nv latches board)) h)

  pub mine_read : EndsAt None mine later → Ran (called (device_of b) []) (desk_world b mine other nv latches board) (desk_world b later other nv latches board)
  mine_read h = Goes-reads {A = Unit {0}} (device_of b) (desk_world b mine other nv latches board) (desk_world b later other nv latches board) (Ok tt) (only_mine b mine later other nv latches board) mine_on (mine_ends None h)

  pub mine_unread : (fail : FlashFail) → EndsAt (Some fail) mine later → Stopped (called (device_of b) []) (device_of b) fail (desk_world b mine other nv latches board) (desk_world b later other nv latches board)
  mine_unread fail h = Goes-reads {A = Unit {0}} (device_of b) (desk_world b mine other nv latches board) (desk_world b later other nv latches board) (Err fail) (only_mine b mine later other nv latches board) mine_on (mine_ends (Some fail) h)

  pub mine_follows : (plan : List Operation) (r : Result (Unit {0}) FlashFail) → Follows plan mine later r
      → Goes (λ _. called (device_of b) plan) (desk_world b mine other nv latches board) (desk_world b later other nv latches board) (at_device (device_of b) r)
  mine_follows plan r h =
      Goes-follows (device_of b) plan (desk_world b mine other nv latches board) (desk_world b later other nv latches board) r (only_mine b mine later other nv latches board) mine_on
      (subst (λ (d : FlashState). Follows plan d (state_at (device_of b) (desk_world b later other nv latches board)) r) (sym (state_mine b mine other nv latches board))
      (subst (λ (d : FlashState). Follows plan mine d r) (sym (state_mine b later other nv latches board)) h))

-- ---- calls of the store
module _ {F : Type 0} (b : Bank) (mine other nv later : FlashState) (latches : Latches) (board : Board F) (store : F) (on : nv.powered ≡ true) where
  store_on : (desk_world b mine other nv latches board).nv.powered ≡ true
  store_on = subst (λ (d : FlashState). d.powered ≡ true) (sym (state_store b mine other nv latches board)) on

  store_ends : (failed : Option FlashFail) → EndsAt failed nv later → EndsAt failed (desk_world b mine other nv latches board).nv (desk_world b mine other later latches (record board { nv = store })).nv
  store_ends failed h =
      subst (λ (d : FlashState). EndsAt failed d (desk_world b mine other later latches (record board { nv = store })).nv) (sym (state_store b mine other nv latches board))
      (subst (λ (d : FlashState). EndsAt failed nv d) (sym (state_store b mine other later latches (record board { nv = store }))) h)

  pub store_read : EndsAt None nv later → Ran (called device.Nv []) (desk_world b mine other nv latches board) (desk_world b mine other later latches (record board { nv = store }))
  store_read h = Goes-reads {A = Unit {0}} device.Nv (desk_world b mine other nv latches board) (desk_world b mine other later latches (record board { nv = store })) (Ok tt) (only_store b mine other nv later latches board store) store_on (store_ends None h)

  pub store_unread : (fail : FlashFail) → EndsAt (Some fail) nv later → Stopped (called device.Nv []) device.Nv fail (desk_world b mine other nv latches board) (desk_world b mine other later latches (record board { nv = store }))
  store_unread fail h = Goes-reads {A = Unit {0}} device.Nv (desk_world b mine other nv latches board) (desk_world b mine other later latches (record board { nv = store })) (Err fail) (only_store b mine other nv later latches board store) store_on (store_ends (Some fail) h)

-- ---- the bank's device and the store have power still
pub awake_still : {T : Type 0} (b : Bank) (w : World) (answer : Result T Stop) → IsAwake b w → StaysAwake b w answer
awake_still b w (Ok x) h = h
awake_still b w (Err stop) h = λ e. h

module _ {F : Type 0} (b : Bank) (mine other nv : FlashState) (latches : Latches) (board : Board F) where
  pub awake_at : mine.powered ≡ true → nv.powered ≡ true → IsAwake b (desk_world b mine other nv latches board)
  awake_at on fed = record {
    mine = subst (λ (d : FlashState). d.powered ≡ true) (sym (state_mine b mine other nv latches board)) on;
    nv = subst (λ (d : FlashState). d.powered ≡ true) (sym (state_store b mine other nv latches board)) fed;
  }

  pub awake_mine : IsAwake b (desk_world b mine other nv latches board) → mine.powered ≡ true
  awake_mine h = subst (λ (d : FlashState). d.powered ≡ true) (state_mine b mine other nv latches board) h.mine

  pub awake_store : IsAwake b (desk_world b mine other nv latches board) → nv.powered ≡ true
  awake_store h = subst (λ (d : FlashState). d.powered ≡ true) (state_store b mine other nv latches board) h.nv

-- ---- a bank stays in work
pub desk_stays : (b owner : Bank) (seat : Sitting) (old new : World)
    → size_of (state_at (device_of b) new) ≡ size_of (state_at (device_of b) old) → size_of new.nv ≡ size_of old.nv → now new.nv ≡ now old.nv
    → state_at (device_of (other_bank b)) new ≡ state_at (device_of (other_bank b)) old → new.notes.list ≡ old.notes.list
    → IsDesk b owner seat old → IsDesk b owner seat new
desk_stays b owner seat old new size store bytes other list h = record {
  owner = h.owner;
  size = subst (λ (n : ℕ). IsBankSize n) (sym size) h.size;
  stands = ap (λ (l : List Note). standing_of b l) list ∙ h.stands;
  other = seat_stays (other_bank b) seat old new (ap size_of other) list (λ on. ap (λ (d : FlashState). d.powered) other ∙ h.other.on on) (KeepsLaid-same (now old.nv) (now new.nv) bytes) h.other;
  board = board_stays old new store list h.board;
}

state_noted : (which : Device) (what : What) (w : World) → state_at which (with_note what w) ≡ state_at which w
state_noted device.Bmc what w = refl
state_noted device.Pch what w = refl
state_noted device.Nv what w = refl

-- something was noted by which no bank stands otherwise
pub desk_noted : (b owner : Bank) (seat : Sitting) (what : What) (w : World) → HasText what → ((which : Bank) (s : Standing) → standing_after which what s ≡ s)
    → IsDesk b owner seat w → IsDesk b owner seat (with_note what w)
desk_noted b owner seat what w text still h = record {
  owner = h.owner;
  size = subst (λ (d : FlashState). IsBankSize (size_of d)) (sym (state_noted (device_of b) what w)) h.size;
  stands = standing_noted b w.notes.list (record { item = w.item; what = what }) ∙ (still b (standing_of b w.notes.list) ∙ h.stands);
  other = seat_noted (other_bank b) seat (record { item = w.item; what = what }) w (with_note what w) (ap size_of (state_noted (device_of (other_bank b)) what w)) refl
      (still (other_bank b) (standing_of (other_bank b) w.notes.list) ∙ h.other.stands) (λ on. ap (λ (d : FlashState). d.powered) (state_noted (device_of (other_bank b)) what w) ∙ h.other.on on)
      h.other.owner h.other.size h.other.laid;
  board = board_noted (record { item = w.item; what = what }) w (with_note what w) refl refl text h.board;
}

-- the same where no bank is in work
pub seated_noted : (bmc pch : Sitting) (what : What) (w : World) → HasText what → ((which : Bank) (s : Standing) → standing_after which what s ≡ s)
    → AreSeated bmc pch w → AreSeated bmc pch (with_note what w)
seated_noted bmc pch what w text still h = record {
  bmc = seat_noted bank.Bmc bmc (record { item = w.item; what = what }) w (with_note what w) refl refl (still bank.Bmc (standing_of bank.Bmc w.notes.list) ∙ h.bmc.stands) h.bmc.on h.bmc.owner h.bmc.size h.bmc.laid;
  pch = seat_noted bank.Pch pch (record { item = w.item; what = what }) w (with_note what w) refl refl (still bank.Pch (standing_of bank.Pch w.notes.list) ∙ h.pch.stands) h.pch.on h.pch.owner h.pch.size h.pch.laid;
  board = board_noted (record { item = w.item; what = what }) w (with_note what w) refl refl text h.board;
}

-- ---- devices that are what they were, but for what is armed
pub record IsAlike (old new : FlashState) : Type 0 where
  pub size : size_of new ≡ size_of old
  pub powered : new.powered ≡ old.powered
  pub bytes : now new ≡ now old

pub alike_same : (d : FlashState) → IsAlike d d
alike_same d = record { size = refl; powered = refl; bytes = refl }

pub alike_armed : (what : ArmWhat) (nth : ℕ) (tear : List ℕ) (d new : FlashState) → new ≡ with_arm what nth tear d → IsAlike d new
alike_armed Cut nth tear d new e = subst (λ (x : FlashState). IsAlike d x) (sym e) (record { size = refl; powered = refl; bytes = refl })
alike_armed Fault nth tear d new e = subst (λ (x : FlashState). IsAlike d x) (sym e) (record { size = refl; powered = refl; bytes = refl })
alike_armed ReadFault nth tear d new e = subst (λ (x : FlashState). IsAlike d x) (sym e) (record { size = refl; powered = refl; bytes = refl })

seat_alike : (which : Bank) (seat later : Sitting) (old new : World) → later ≡ seat → IsAlike (state_at (device_of which) old) (state_at (device_of which) new) → now new.nv ≡ now old.nv → new.notes.list ≡ old.notes.list
    → IsSeat which seat old → IsSeat which later new
seat_alike which seat later old new same d store list h =
    subst (λ (s : Sitting). IsSeat which s new) (sym same) (seat_stays which seat old new d.size list (λ on. d.powered ∙ h.on on) (KeepsLaid-same (now old.nv) (now new.nv) store) h)

pub seated_alike : (bmc pch later_bmc later_pch : Sitting) (old new : World) → later_bmc ≡ bmc → later_pch ≡ pch → IsAlike old.bmc new.bmc → IsAlike old.pch new.pch → IsAlike old.nv new.nv → new.notes.list ≡ old.notes.list
    → AreSeated bmc pch old → AreSeated later_bmc later_pch new
seated_alike bmc pch later_bmc later_pch old new same_bmc same_pch b p nv list h = record {
  bmc = seat_alike bank.Bmc bmc later_bmc old new same_bmc b nv.bytes list h.bmc;
  pch = seat_alike bank.Pch pch later_pch old new same_pch p nv.bytes list h.pch;
  board = board_stays old new nv.size list h.board;
}

-- the store worked, and provisions banks as it did
pub seated_store : {F : Type 0} (bmc pch : Sitting) (b p nv later : FlashState) (latches : Latches) (board : Board F) (store : F) → size_of later ≡ size_of nv → KeepsLaid (now nv) (now later)
    → AreSeated bmc pch (world_with b p nv latches board) → AreSeated bmc pch (world_with b p later latches (record board { nv = store }))
seated_store bmc pch b p nv later latches board store size keeps h =
    let old : World = world_with b p nv latches board in
    let new : World = world_with b p later latches (record board { nv = store }) in
    record {
      bmc = seat_stays bank.Bmc bmc old new refl refl h.bmc.on keeps h.bmc;
      pch = seat_stays bank.Pch pch old new refl refl h.pch.on keeps h.pch;
      board = board_stays old new size refl h.board;
    }

-- ---- what a desk is left as
note_by : {F : Type 0} (b : Bank) (what : What) (mine other nv : FlashState) (latches : Latches) (board : Board F)
    → desk_world b mine other nv (latches_after what latches) (pushed what board) ≡ with_note what (desk_world b mine other nv latches board)
note_by bank.Bmc what mine other nv latches board = refl
note_by bank.Pch what mine other nv latches board = refl

module _ {F : Type 0} (dev : F → FlashState) where
  -- a note was appended, and the latches moved as it says
  pub desk_pushed_is : (what : What) (b : Bank) (mine other : FlashState) (latches later : Latches) (board next : Board F) → later ≡ latches_after what latches → next ≡ pushed what board
      → desk_world b mine other (dev next.nv) later next ≡ with_note what (desk_world b mine other (dev board.nv) latches board)
  desk_pushed_is what b mine other latches later board next l e =
      ap (λ (x : Board F). desk_world b mine other (dev x.nv) later x) e
      ∙ (ap (λ (x : Latches). desk_world b mine other (dev board.nv) x (pushed what board)) l ∙ note_by b what mine other (dev board.nv) latches board)

  -- one by which no bank stands otherwise
  pub seated_pushed : (what : What) (bmc_seat pch_seat : Sitting) (bmc pch : FlashState) (latches later : Latches) (board next : Board F) → later ≡ latches_after what latches → next ≡ pushed what board
      → HasText what → ((which : Bank) (s : Standing) → standing_after which what s ≡ s)
      → AreSeated bmc_seat pch_seat (world_with bmc pch (dev board.nv) latches board) → AreSeated bmc_seat pch_seat (world_with bmc pch (dev next.nv) later next)
  seated_pushed what bmc_seat pch_seat bmc pch latches later board next l e text still h =
      subst (λ (w : World). AreSeated bmc_seat pch_seat w) (sym (desk_pushed_is what bank.Bmc bmc pch latches later board next l e))
      (seated_noted bmc_seat pch_seat what (world_with bmc pch (dev board.nv) latches board) text still h)

  pub desk_pushed : (what : What) (b whose : Bank) (seat : Sitting) (mine other : FlashState) (latches later : Latches) (board next : Board F) → later ≡ latches_after what latches → next ≡ pushed what board
      → HasText what → ((which : Bank) (s : Standing) → standing_after which what s ≡ s)
      → IsDesk b whose seat (desk_world b mine other (dev board.nv) latches board) → IsDesk b whose seat (desk_world b mine other (dev next.nv) later next)
  desk_pushed what b whose seat mine other latches later board next l e text still h =
      subst (λ (w : World). IsDesk b whose seat w) (sym (desk_pushed_is what b mine other latches later board next l e))
      (desk_noted b whose seat what (desk_world b mine other (dev board.nv) latches board) text still h)

-- the bank's device worked
pub desk_worked : {F : Type 0} (b whose later_whose : Bank) (seat : Sitting) (mine later other nv : FlashState) (latches : Latches) (board : Board F) → later_whose ≡ whose → size_of later ≡ size_of mine
    → IsDesk b whose seat (desk_world b mine other nv latches board) → IsDesk b later_whose seat (desk_world b later other nv latches board)
desk_worked {F} b whose later_whose seat mine later other nv latches board owned size h =
    let store : (desk_world b later other nv latches board).nv ≡ (desk_world b mine other nv latches board).nv = state_store b later other nv latches board ∙ sym (state_store b mine other nv latches board) in
    subst (λ (x : Bank). IsDesk b x seat (desk_world b later other nv latches board)) (sym owned)
    (desk_stays b whose seat (desk_world b mine other nv latches board) (desk_world b later other nv latches board)
    (ap size_of (state_mine b later other nv latches board) ∙ (size ∙ sym (ap size_of (state_mine b mine other nv latches board))))
    (ap size_of store) (ap now store)
    (state_other b later other nv latches board ∙ sym (state_other b mine other nv latches board))
    (ap (λ (n : NotesState). n.list) (desk_notes b later other nv latches board ∙ sym (desk_notes b mine other nv latches board))) h)

-- it is left so by calls that only read
pub read_size : (failed : Option FlashFail) (old new : FlashState) → EndsAt failed old new → size_of new ≡ size_of old
read_size failed old new h = ap (λ (bytes : List ℕ). length bytes) (ends_reads h).start

pub read_on : (failed : Option FlashFail) (old new : FlashState) → EndsAt failed old new → old.powered ≡ true → new.powered ≡ true
read_on failed old new h on = (ends_reads h).powered ∙ on

-- ---- calls by plans
pub Goes-as : {T : Type 0} (a b : Plan) (old new : World) (r : Result T Stop) → a (story_of old) ≡ b (story_of old) → Goes a old new r → Goes b old new r
Goes-as a b old new (Ok x) e h = subst (λ (moves : List Move). Ran moves old new) e h
Goes-as a b old new (Err stop) e h = subst (λ (moves : List Move). Stopped moves stop.device stop.fail old new) e h

-- ---- who stands how
line_stands : (how : Line) (s : Standing) → how ≢ line.Off → s ≡ standing_by how → s ≢ standing.Off
line_stands line.Off s n k = absurd (n refl)
line_stands line.Locked s n k = λ e. cc
line_stands line.Running s n k = λ e. cc

pub seat_stands : (which : Bank) (seat : Sitting) (w : World) → seat.line ≢ line.Off → IsSeat which seat w → standing_of which w.notes.list ≢ standing.Off
seat_stands which seat w n h = line_stands seat.line (standing_of which w.notes.list) n h.stands

pub leaves_seated : (b : Bank) (mine other : Sitting) (most : ℕ) (old new : World) → mine.line ≢ line.Off → AreBeside b mine other new
    → AddsNotes most old.notes new.notes → new.nv.powered ≡ true → LeavesSeated most (record { bank = b; other = other.line; world = old }) new
leaves_seated b mine other most old new some h notes on = record { mine = seat_stands b mine new some h.mine; other = h.other.stands; notes = notes; nv = on }

pub stays_here : {T F : Type 0} (b : Bank) (how : Line) (mine later other nv : FlashState) (latches : Latches) (board : Board F) (answer : Result T Stop) → later.powered ≡ true → nv.powered ≡ true
    → Stays {T = T} 0 (record { bank = b; other = how; world = desk_world b mine other nv latches board }) (record { bank = b; other = how; world = desk_world b later other nv latches board }) answer
stays_here {T} {F} b how mine later other nv latches board answer on fed = record {
  bank = refl;
  other = refl;
  notes = AddsNotes-same (desk_world b mine other nv latches board).notes (desk_world b later other nv latches board).notes (desk_notes b later other nv latches board ∙ sym (desk_notes b mine other nv latches board));
  awake = awake_still b (desk_world b later other nv latches board) answer (awake_at b later other nv latches board on fed);
}
