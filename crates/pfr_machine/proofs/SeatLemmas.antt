-- A bank is held, released or locked, or the power goes.
use Rattle.std.proofs.Common.{◌≡◌, ◌≢◌, ◌∙◌, refl, sym, ap, subst, ℕ, ◌≤◌, Bool, true, false, [], ◌∷◌, Option, None}
use Rattle.pfr_flash.specs.FlashState.{FlashState, now, size_of}
use Rattle.pfr_flash.specs.Layout.{IsBankSize}
use Rattle.pfr_flash.specs.declared.names.Bank.{Bank}
use Rattle.pfr_flash.specs.declared.names.Bank.TheVariants as bank
use Rattle.pfr_flash.specs.declared.names.Counts.{Counts}
use Rattle.pfr_flash.specs.declared.names.Device.{Device}
use Rattle.pfr_report.specs.Texts.{HasLockText, HasText}
use Rattle.pfr_report.specs.declared.note.LockWhy.{LockWhy}
use Rattle.pfr_report.specs.declared.note.Note.{Note}
use Rattle.pfr_report.specs.declared.note.What.{What}
use Rattle.pfr_report.specs.declared.note.What.TheVariants.{Held, Released, Locked, Lost}
use Rattle.pfr_story.specs.Standing.{Standing, standing_after, standing_by, standing_of}
use Rattle.pfr_story.specs.Story.{Says, device_of, other_bank}
use Rattle.pfr_story.specs.World.{World, IsDark, counts_in, state_at}
use Rattle.pfr_story.specs.Goes.{Ran}
use Rattle.pfr_story.specs.declared.line.Line.{Line}
use Rattle.pfr_story.specs.declared.line.Line.TheVariants as line
use Rattle.pfr_story.proofs.Lift.{Ran-uncalled}
use Rattle.pfr_machine.specs.Inside.{AreBeside, AreOwned, AreSides, IsBoard, IsDesk, IsSeat, darkened}
use Rattle.pfr_machine.specs.Ready.{LeavesSeated}
use Rattle.pfr_machine.specs.Worlds.{AddsNotes, Latches, Sitting, bank_in, desk_world, flash_in, latch_in, latches_after, latches_by, line_in, pushed, sides_world, sits_in, with_note}
use Rattle.pfr_machine.specs.declared.board.Board.{Board}
use Rattle.pfr_machine.specs.declared.sides.Sides.{Sides}
use Rattle.pfr_machine.proofs.DeskLemmas.{leaves_seated, state_mine, state_store}
use Rattle.pfr_machine.proofs.LaidLemmas.{none_laid}
use Rattle.pfr_machine.proofs.WorldLemmas.{AddsNotes-noted, AreLaid, after_locked, after_released, board_noted, held_latches, locked_latches, locked_seat, off_seat, other_locked, other_released, released_latches, seat_noted, standing_noted}

-- a note of this item
abbrev note_in : World → What → Note
note_in w what = record { item = w.item; what = what }

-- ---- power
pub powered_as : (old new : FlashState) → new ≡ old → old.powered ≡ true → new ≡ record old { powered = true }
powered_as old new same on = same ∙ ap (λ on. record old { powered = on }) on

-- what holding a bank does to its device, by how it stood
pub powered_up : (how : Line) (old new : FlashState) → (how ≡ line.Off → new ≡ record old { powered = true }) → (how ≢ line.Off → new ≡ old) → (how ≢ line.Off → old.powered ≡ true)
    → new ≡ record old { powered = true }
powered_up line.Off old new off on was = off refl
powered_up line.Locked old new off on was = powered_as old new (on (λ e. cc)) (was (λ e. cc))
powered_up line.Running old new off on was = powered_as old new (on (λ e. cc)) (was (λ e. cc))

-- the bank's device and the store get power
abbrev pub with_power : Bank → World → World
with_power bank.Bmc w = record w { bmc = record w.bmc { powered = true }; nv = record w.nv { powered = true } }
with_power bank.Pch w = record w { pch = record w.pch { powered = true }; nv = record w.nv { powered = true } }

-- the bank's device does
abbrev pub with_mine : Bank → World → World
with_mine bank.Bmc w = record w { bmc = record w.bmc { powered = true } }
with_mine bank.Pch w = record w { pch = record w.pch { powered = true } }

-- ---- a bank is held
held_at : (b : Bank) (w : World) → Ran (Says (Held b) ∷ []) w (with_note (Held b (counts_in w)) (with_power b w))
held_at bank.Bmc w = Ran-uncalled (Says (Held bank.Bmc) ∷ []) w (with_note (Held bank.Bmc (counts_in w)) (with_power bank.Bmc w)) (record { bmc = refl; pch = refl; nv = refl }) refl
held_at bank.Pch w = Ran-uncalled (Says (Held bank.Pch) ∷ []) w (with_note (Held bank.Pch (counts_in w)) (with_power bank.Pch w)) (record { bmc = refl; pch = refl; nv = refl }) refl

pub held_ran : (b : Bank) (at : Counts) (w new : World) → at ≡ counts_in w → new ≡ with_note (Held b at) (with_power b w) → Ran (Says (Held b) ∷ []) w new
held_ran b at w new counts e =
    subst (λ (x : World). Ran (Says (Held b) ∷ []) w x) (sym (e ∙ ap (λ (c : Counts). with_note (Held b c) (with_power b w)) counts)) (held_at b w)

pub held_desk : (b : Bank) (mine other : Sitting) (at : Counts) (w : World) → AreBeside b mine other w
    → IsDesk b mine.whose other (with_note (Held b at) (with_power b w))
held_desk bank.Bmc mine other at w h =
    let new : World = with_note (Held bank.Bmc at) (with_power bank.Bmc w) in
    record {
      owner = h.mine.owner;
      size = h.mine.size;
      stands = standing_noted bank.Bmc w.notes.list (note_in w (Held bank.Bmc at));
      other = seat_noted bank.Pch other (note_in w (Held bank.Bmc at)) w new refl refl h.other.stands h.other.on h.other.owner h.other.size h.other.laid;
      board = board_noted (note_in w (Held bank.Bmc at)) w new refl refl tt h.board;
    }
held_desk bank.Pch mine other at w h =
    let new : World = with_note (Held bank.Pch at) (with_power bank.Pch w) in
    record {
      owner = h.mine.owner;
      size = h.mine.size;
      stands = standing_noted bank.Pch w.notes.list (note_in w (Held bank.Pch at));
      other = seat_noted bank.Bmc other (note_in w (Held bank.Pch at)) w new refl refl h.other.stands h.other.on h.other.owner h.other.size h.other.laid;
      board = board_noted (note_in w (Held bank.Pch at)) w new refl refl tt h.board;
    }

module _ {F : Type 0} (dev : F → FlashState) where
  held_by : (b : Bank) (what : What) (mine other nv : FlashState) (latches : Latches) (board : Board F) (store : F)
      → desk_world b (record mine { powered = true }) other (record nv { powered = true }) (latches_after what latches) (pushed what (record board { nv = store }))
      ≡ with_note what (with_power b (desk_world b mine other nv latches board))
  held_by bank.Bmc what mine other nv latches board store = refl
  held_by bank.Pch what mine other nv latches board store = refl

  pub held_world : (b : Bank) (what : What) (mine later other nv : FlashState) (latches latches_later : Latches) (board next : Board F) (store : F)
      → later ≡ record mine { powered = true } → dev store ≡ record nv { powered = true } → latches_later ≡ latches_after what latches → next ≡ pushed what (record board { nv = store })
      → desk_world b later other (dev next.nv) latches_later next ≡ with_note what (with_power b (desk_world b mine other nv latches board))
  held_world b what mine later other nv latches latches_later board next store m s l e =
      ap (λ (x : Board F). desk_world b later other (dev x.nv) latches_later x) e
      ∙ (ap (λ (d : FlashState). desk_world b d other (dev store) latches_later (pushed what (record board { nv = store }))) m
      ∙ (ap (λ (d : FlashState). desk_world b (record mine { powered = true }) other d latches_later (pushed what (record board { nv = store }))) s
      ∙ (ap (λ (x : Latches). desk_world b (record mine { powered = true }) other (record nv { powered = true }) x (pushed what (record board { nv = store }))) l
      ∙ held_by b what mine other nv latches board store)))

-- ---- a bank is locked, whose device has power from there on
locked_at : (b : Bank) (why : LockWhy) (w : World) → Ran (Says (Locked b why) ∷ []) w (with_note (Locked b why (counts_in w)) (with_mine b w))
locked_at bank.Bmc why w = Ran-uncalled (Says (Locked bank.Bmc why) ∷ []) w (with_note (Locked bank.Bmc why (counts_in w)) (with_mine bank.Bmc w)) (record { bmc = refl; pch = refl; nv = refl }) refl
locked_at bank.Pch why w = Ran-uncalled (Says (Locked bank.Pch why) ∷ []) w (with_note (Locked bank.Pch why (counts_in w)) (with_mine bank.Pch w)) (record { bmc = refl; pch = refl; nv = refl }) refl

pub locked_ran : (b : Bank) (why : LockWhy) (at : Counts) (w new : World) → at ≡ counts_in w → new ≡ with_note (Locked b why at) (with_mine b w) → Ran (Says (Locked b why) ∷ []) w new
locked_ran b why at w new counts e =
    subst (λ (x : World). Ran (Says (Locked b why) ∷ []) w x) (sym (e ∙ ap (λ (c : Counts). with_note (Locked b why c) (with_mine b w)) counts)) (locked_at b why w)

pub locked_notes : (b : Bank) (what : What) (w : World) → 1 ≤ w.notes.spare → AddsNotes 1 w.notes (with_note what (with_mine b w)).notes
locked_notes bank.Bmc what w room = AddsNotes-noted what (with_mine bank.Bmc w) room
locked_notes bank.Pch what w room = AddsNotes-noted what (with_mine bank.Pch w) room

-- a bank stands otherwise by a note, and its device has power
pub stands_beside : (b : Bank) (later other : Sitting) (what : What) (w : World)
    → standing_after b what (standing_of b w.notes.list) ≡ standing_by later.line → standing_after (other_bank b) what (standing_of (other_bank b) w.notes.list) ≡ standing_by other.line → HasText what
    → later.whose ≡ b → AreLaid b later w → IsBankSize (size_of (state_at (device_of b) w)) → IsSeat (other_bank b) other w → IsBoard w
    → AreBeside b later other (with_note what (with_mine b w))
stands_beside bank.Bmc later other what w after others text owned laid size seat board =
    let new : World = with_note what (with_mine bank.Bmc w) in
    record {
      mine = seat_noted bank.Bmc later (note_in w what) w new refl refl after (λ on. refl) owned size laid;
      other = seat_noted bank.Pch other (note_in w what) w new refl refl others seat.on seat.owner seat.size seat.laid;
      board = board_noted (note_in w what) w new refl refl text board;
    }
stands_beside bank.Pch later other what w after others text owned laid size seat board =
    let new : World = with_note what (with_mine bank.Pch w) in
    record {
      mine = seat_noted bank.Pch later (note_in w what) w new refl refl after (λ on. refl) owned size laid;
      other = seat_noted bank.Bmc other (note_in w what) w new refl refl others seat.on seat.owner seat.size seat.laid;
      board = board_noted (note_in w what) w new refl refl text board;
    }

module _ {F : Type 0} (dev : F → FlashState) where
  noted_by : (b : Bank) (what : What) (mine other nv : FlashState) (latches : Latches) (board : Board F)
      → desk_world b (record mine { powered = true }) other nv (latches_after what latches) (pushed what board) ≡ with_note what (with_mine b (desk_world b mine other nv latches board))
  noted_by bank.Bmc what mine other nv latches board = refl
  noted_by bank.Pch what mine other nv latches board = refl

  -- the board got a note, by which the latches moved, and the bank's device has power
  pub noted_world : (b : Bank) (what : What) (mine later other : FlashState) (latches latches_later : Latches) (board next : Board F)
      → later ≡ record mine { powered = true } → latches_later ≡ latches_after what latches → next ≡ pushed what board
      → desk_world b later other (dev next.nv) latches_later next ≡ with_note what (with_mine b (desk_world b mine other (dev board.nv) latches board))
  noted_world b what mine later other latches latches_later board next m l e =
      ap (λ (x : Board F). desk_world b later other (dev x.nv) latches_later x) e
      ∙ (ap (λ (d : FlashState). desk_world b d other (dev board.nv) latches_later (pushed what board)) m
      ∙ (ap (λ (x : Latches). desk_world b (record mine { powered = true }) other (dev board.nv) x (pushed what board)) l ∙ noted_by b what mine other (dev board.nv) latches board))

-- the same where it had power before
mine_powered : (b : Bank) (w : World) → (state_at (device_of b) w).powered ≡ true → with_mine b w ≡ w
mine_powered bank.Bmc w on = ap (λ on. record w { bmc = record w.bmc { powered = on } }) (sym on)
mine_powered bank.Pch w on = ap (λ on. record w { pch = record w.pch { powered = on } }) (sym on)

pub with_mine_on : (b : Bank) (what : What) (w : World) → (state_at (device_of b) w).powered ≡ true → with_note what (with_mine b w) ≡ with_note what w
with_mine_on b what w on = ap (λ (x : World). with_note what x) (mine_powered b w on)

-- ---- the power goes
abbrev pub IsLost : Option Device → World → World → Type 0
IsLost device old new = new ≡ with_note (Lost device (counts_in old)) (darkened old)

pub lost_from : (device : Option Device) (old self new : World) → old ≡ self → IsLost device old new → IsLost device self new
lost_from device old self new same e = subst (λ (w : World). IsLost device w new) same e

pub lost_ran : (device : Option Device) (w new : World) → IsLost device w new → Ran (Says (Lost device) ∷ []) w new
lost_ran device w new e =
    subst (λ (x : World). Ran (Says (Lost device) ∷ []) w x) (sym e)
    (Ran-uncalled (Says (Lost device) ∷ []) w (with_note (Lost device (counts_in w)) (darkened w)) (record { bmc = refl; pch = refl; nv = refl }) refl)

pub lost_notes : (device : Option Device) (w new : World) → IsLost device w new → 1 ≤ w.notes.spare → AddsNotes 1 w.notes new.notes
lost_notes device w new e room = subst (λ (x : World). AddsNotes 1 w.notes x.notes) (sym e) (AddsNotes-noted (Lost device (counts_in w)) (darkened w) room)

pub lost_dark : (device : Option Device) (w new : World) → IsLost device w new → IsDark new
lost_dark device w new e = subst (λ (x : World). IsDark x) (sym e) (record { bmc = refl; pch = refl; nv = refl })

lost_seat : (which whose : Bank) (device : Option Device) (at : Counts) (w new : World)
    → size_of (state_at (device_of which) new) ≡ size_of (state_at (device_of which) w) → new.notes.list ≡ (with_note (Lost device at) w).notes.list
    → whose ≡ which → IsBankSize (size_of (state_at (device_of which) w)) → IsSeat which (off_seat whose) new
lost_seat which whose device at w new size list owned bank_size =
    seat_noted which (off_seat whose) (note_in w (Lost device at)) w new size list refl (λ on. absurd (on refl)) owned bank_size (λ r e. none_laid which (now new.nv) r e)

lost_beside : (b whose other_whose : Bank) (device : Option Device) (at : Counts) (w : World)
    → whose ≡ b → IsBankSize (size_of (state_at (device_of b) w)) → other_whose ≡ other_bank b → IsBankSize (size_of (state_at (device_of (other_bank b)) w)) → IsBoard w
    → AreBeside b (off_seat whose) (off_seat other_whose) (with_note (Lost device at) (darkened w))
lost_beside bank.Bmc whose other_whose device at w owned size others other_size board =
    let new : World = with_note (Lost device at) (darkened w) in
    record {
      mine = lost_seat bank.Bmc whose device at w new refl refl owned size;
      other = lost_seat bank.Pch other_whose device at w new refl refl others other_size;
      board = board_noted (note_in w (Lost device at)) w new refl refl tt board;
    }
lost_beside bank.Pch whose other_whose device at w owned size others other_size board =
    let new : World = with_note (Lost device at) (darkened w) in
    record {
      mine = lost_seat bank.Pch whose device at w new refl refl owned size;
      other = lost_seat bank.Bmc other_whose device at w new refl refl others other_size;
      board = board_noted (note_in w (Lost device at)) w new refl refl tt board;
    }

-- the latches are off then
dark_latches : (b : Bank) (device : Option Device) (at : Counts) (latches : Latches) → latches_by b false false ≡ latches_after (Lost device at) latches
dark_latches bank.Bmc device at latches = refl
dark_latches bank.Pch device at latches = refl

module _ {F : Type 0} (dev : F → FlashState) where
  dark_by : (b : Bank) (what : What) (mine other nv : FlashState) (latches : Latches) (board : Board F) (store : F)
      → desk_world b (record mine { powered = false }) (record other { powered = false }) (record nv { powered = false }) (latches_after what latches) (record (pushed what board) { nv = store })
      ≡ with_note what (darkened (desk_world b mine other nv latches board))
  dark_by bank.Bmc what mine other nv latches board store = refl
  dark_by bank.Pch what mine other nv latches board store = refl

  dark_world : (b : Bank) (what : What) (mine dark other dark_other nv : FlashState) (latches later : Latches) (board next : Board F) (store : F)
      → dark ≡ record mine { powered = false } → dark_other ≡ record other { powered = false } → dev store ≡ record nv { powered = false } → later ≡ latches_after what latches → next ≡ pushed what board
      → desk_world b dark dark_other (dev store) later (record next { nv = store }) ≡ with_note what (darkened (desk_world b mine other nv latches board))
  dark_world b what mine dark other dark_other nv latches later board next store m o s l e =
      ap (λ (x : Board F). desk_world b dark dark_other (dev store) later (record x { nv = store })) e
      ∙ (ap (λ (d : FlashState). desk_world b d dark_other (dev store) later (record (pushed what board) { nv = store })) m
      ∙ (ap (λ (d : FlashState). desk_world b (record mine { powered = false }) d (dev store) later (record (pushed what board) { nv = store })) o
      ∙ (ap (λ (d : FlashState). desk_world b (record mine { powered = false }) (record other { powered = false }) d later (record (pushed what board) { nv = store })) s
      ∙ (ap (λ (x : Latches). desk_world b (record mine { powered = false }) (record other { powered = false }) (record nv { powered = false }) x (record (pushed what board) { nv = store })) l
      ∙ dark_by b what mine other nv latches board store))))

-- the seats of both banks lose their power
module _ {F : Type 0} (dev : F → FlashState) (s : Sides F) (dark dark_other : FlashState) (next : Board F) (store : F) (device : Option Device) (at : Counts)
    (m : dark ≡ record (dev (flash_in s.mine)) { powered = false }) (o : dark_other ≡ record (dev (flash_in s.other)) { powered = false }) (n : dev store ≡ record (dev next.nv) { powered = false })
    (e : next ≡ pushed (Lost device at) s.board) where
  dark_sides : desk_world s.bank dark dark_other (dev store) (latches_by s.bank false false) (record next { nv = store }) ≡ with_note (Lost device at) (darkened (sides_world dev s))
  dark_sides =
      let latches : Latches = latches_by s.bank (latch_in s.mine) (latch_in s.other) in
      dark_world dev s.bank (Lost device at) (dev (flash_in s.mine)) dark (dev (flash_in s.other)) dark_other (dev s.board.nv) latches (latches_by s.bank false false) s.board next store
      m o (n ∙ ap (λ (x : Board F). record (dev x.nv) { powered = false }) e) (dark_latches s.bank device at latches) e

  pub dark_is : at ≡ counts_in (sides_world dev s) → IsLost device (sides_world dev s) (desk_world s.bank dark dark_other (dev store) (latches_by s.bank false false) (record next { nv = store }))
  dark_is counts = dark_sides ∙ ap (λ (c : Counts). with_note (Lost device c) (darkened (sides_world dev s))) counts

  pub dark_beside : (whose other_whose : Bank) → whose ≡ bank_in s.mine → other_whose ≡ bank_in s.other → AreOwned s.bank (sits_in s.mine) (sits_in s.other) (sides_world dev s)
      → AreBeside s.bank (off_seat whose) (off_seat other_whose) (desk_world s.bank dark dark_other (dev store) (latches_by s.bank false false) (record next { nv = store }))
  dark_beside whose other_whose owned others h =
      subst (λ (w : World). AreBeside s.bank (off_seat whose) (off_seat other_whose) w) (sym dark_sides)
      (lost_beside s.bank whose other_whose device at (sides_world dev s) (owned ∙ h.mine) h.size (others ∙ h.other) h.other_size h.board)

pub beside_owned : (b : Bank) (mine other : Sitting) (w : World) → AreBeside b mine other w → AreOwned b mine other w
beside_owned b mine other w h = record { mine = h.mine.owner; size = h.mine.size; other = h.other.owner; other_size = h.other.size; board = h.board }

-- a desk whose bank's device has lost its power already
module _ {F : Type 0} (b whose : Bank) (seat : Sitting) (mine off other nv : FlashState) (latches : Latches) (board : Board F) (down : off ≡ record mine { powered = false }) where
  abbrev pub desk_off : World
  desk_off = desk_world b off other nv latches board

  pub desk_owned : (later : Bank) → later ≡ whose → IsDesk b whose seat (desk_world b mine other nv latches board) → AreOwned b (off_seat later) seat desk_off
  desk_owned later same h =
      subst (λ (d : FlashState). AreOwned b (off_seat later) seat (desk_world b d other nv latches board)) (sym down)
      (by_bank b (same ∙ h.owner) h.size h.other.owner h.other.size h.board)
    where
      by_bank : (b : Bank) → later ≡ b → IsBankSize (size_of (state_at (device_of b) (desk_world b mine other nv latches board))) → seat.whose ≡ other_bank b
          → IsBankSize (size_of (state_at (device_of (other_bank b)) (desk_world b mine other nv latches board))) → IsBoard (desk_world b mine other nv latches board)
          → AreOwned b (off_seat later) seat (desk_world b (record mine { powered = false }) other nv latches board)
      by_bank bank.Bmc owned size others other_size h = record { mine = owned; size = size; other = others; other_size = other_size; board = record { size = h.size; texts = h.texts } }
      by_bank bank.Pch owned size others other_size h = record { mine = owned; size = size; other = others; other_size = other_size; board = record { size = h.size; texts = h.texts } }

  pub desk_lost : (device : Option Device) (new : World) → IsLost device desk_off new → IsLost device (desk_world b mine other nv latches board) new
  desk_lost device new e = by_bank b (subst (λ (d : FlashState). IsLost device (desk_world b d other nv latches board) new) down e)
    where
      by_bank : (b : Bank) → IsLost device (desk_world b (record mine { powered = false }) other nv latches board) new → IsLost device (desk_world b mine other nv latches board) new
      by_bank bank.Bmc e = e
      by_bank bank.Pch e = e

-- ---- the seats of both banks, of which this one is held or locked
module _ {F : Type 0} (dev : F → FlashState) (s : Sides F) (seated : AreSides dev s) (flash : FlashState)
    (off : line_in s.mine ≡ line.Off → flash ≡ record (dev (flash_in s.mine)) { powered = true }) (on : line_in s.mine ≢ line.Off → flash ≡ dev (flash_in s.mine)) where
  flash_up : flash ≡ record (dev (flash_in s.mine)) { powered = true }
  flash_up =
      powered_up (line_in s.mine) (dev (flash_in s.mine)) flash off on
      (λ some. subst (λ (d : FlashState). d.powered ≡ true) (state_mine s.bank (dev (flash_in s.mine)) (dev (flash_in s.other)) (dev s.board.nv) (latches_by s.bank (latch_in s.mine) (latch_in s.other)) s.board) (seated.mine.on some))

  pub held_sides : (what : What) (store : F) (next : Board F) → dev store ≡ record (dev s.board.nv) { powered = true } → latches_by s.bank false (latch_in s.other) ≡ latches_after what (latches_by s.bank (latch_in s.mine) (latch_in s.other))
      → next ≡ pushed what (record s.board { nv = store })
      → desk_world s.bank flash (dev (flash_in s.other)) (dev next.nv) (latches_by s.bank false (latch_in s.other)) next ≡ with_note what (with_power s.bank (sides_world dev s))
  held_sides what store next up l e =
      held_world dev s.bank what (dev (flash_in s.mine)) flash (dev (flash_in s.other)) (dev s.board.nv) (latches_by s.bank (latch_in s.mine) (latch_in s.other)) (latches_by s.bank false (latch_in s.other)) s.board next store flash_up up l e

  pub held_is_desk : (at : Counts) (whose : Bank) (store : F) (next : Board F) → whose ≡ bank_in s.mine → dev store ≡ record (dev s.board.nv) { powered = true }
      → next ≡ pushed (Held s.bank at) (record s.board { nv = store })
      → IsDesk s.bank whose (sits_in s.other) (desk_world s.bank flash (dev (flash_in s.other)) (dev next.nv) (latches_by s.bank false (latch_in s.other)) next)
  held_is_desk at whose store next owned up e =
      subst (λ (x : Bank). IsDesk s.bank x (sits_in s.other) (desk_world s.bank flash (dev (flash_in s.other)) (dev next.nv) (latches_by s.bank false (latch_in s.other)) next)) (sym owned)
      (subst (λ (w : World). IsDesk s.bank (bank_in s.mine) (sits_in s.other) w) (sym (held_sides (Held s.bank at) store next up (held_latches s.bank at (latch_in s.mine) (latch_in s.other)) e))
      (held_desk s.bank (sits_in s.mine) (sits_in s.other) at (sides_world dev s) seated))

  pub held_says : (b : Bank) (at : Counts) (self : World) (store : F) (next : Board F) → s.bank ≡ b → sides_world dev s ≡ self → at ≡ counts_in self
      → dev store ≡ record (dev s.board.nv) { powered = true } → next ≡ pushed (Held s.bank at) (record s.board { nv = store })
      → Ran (Says (Held b) ∷ []) self (desk_world s.bank flash (dev (flash_in s.other)) (dev next.nv) (latches_by s.bank false (latch_in s.other)) next)
  held_says b at self store next is same counts up e =
      let new : World = desk_world s.bank flash (dev (flash_in s.other)) (dev next.nv) (latches_by s.bank false (latch_in s.other)) next in
      subst (λ (x : Bank). Ran (Says (Held x) ∷ []) self new) is
      (subst (λ (w : World). Ran (Says (Held s.bank) ∷ []) w new) same
      (held_ran s.bank at (sides_world dev s) new (counts ∙ ap counts_in (sym same)) (held_sides (Held s.bank at) store next up (held_latches s.bank at (latch_in s.mine) (latch_in s.other)) e)))

  pub locked_sides : (why : LockWhy) (at : Counts) (next : Board F) → next ≡ pushed (Locked s.bank why at) s.board
      → desk_world s.bank flash (dev (flash_in s.other)) (dev next.nv) (latches_by s.bank false (latch_in s.other)) next ≡ with_note (Locked s.bank why at) (with_mine s.bank (sides_world dev s))
  locked_sides why at next e =
      noted_world dev s.bank (Locked s.bank why at) (dev (flash_in s.mine)) flash (dev (flash_in s.other)) (latches_by s.bank (latch_in s.mine) (latch_in s.other)) (latches_by s.bank false (latch_in s.other)) s.board next flash_up
      (locked_latches s.bank why at (latch_in s.mine) (latch_in s.other)) e

  pub locked_are_beside : (why : LockWhy) (at : Counts) (whose : Bank) (next : Board F) → whose ≡ bank_in s.mine → HasLockText why → next ≡ pushed (Locked s.bank why at) s.board
      → AreBeside s.bank (locked_seat whose) (sits_in s.other) (desk_world s.bank flash (dev (flash_in s.other)) (dev next.nv) (latches_by s.bank false (latch_in s.other)) next)
  locked_are_beside why at whose next owned text e =
      subst (λ (w : World). AreBeside s.bank (locked_seat whose) (sits_in s.other) w) (sym (locked_sides why at next e))
      (stands_beside s.bank (locked_seat whose) (sits_in s.other) (Locked s.bank why at) (sides_world dev s)
      (after_locked s.bank why at (standing_of s.bank (sides_world dev s).notes.list))
      (other_locked s.bank why at (standing_of (other_bank s.bank) (sides_world dev s).notes.list) ∙ seated.other.stands)
      text (owned ∙ seated.mine.owner) (λ r n. none_laid s.bank (now (sides_world dev s).nv) r n) seated.mine.size seated.other seated.board)

  pub locked_says : (b : Bank) (why : LockWhy) (at : Counts) (self : World) (next : Board F) → s.bank ≡ b → sides_world dev s ≡ self → at ≡ counts_in self
      → next ≡ pushed (Locked s.bank why at) s.board → Ran (Says (Locked b why) ∷ []) self (desk_world s.bank flash (dev (flash_in s.other)) (dev next.nv) (latches_by s.bank false (latch_in s.other)) next)
  locked_says b why at self next is same counts e =
      let new : World = desk_world s.bank flash (dev (flash_in s.other)) (dev next.nv) (latches_by s.bank false (latch_in s.other)) next in
      subst (λ (x : Bank). Ran (Says (Locked x why) ∷ []) self new) is
      (subst (λ (w : World). Ran (Says (Locked s.bank why) ∷ []) w new) same
      (locked_ran s.bank why at (sides_world dev s) new (counts ∙ ap counts_in (sym same)) (locked_sides why at next e)))

  pub locked_adds : (why : LockWhy) (at : Counts) (self : World) (next : Board F) → sides_world dev s ≡ self → 1 ≤ self.notes.spare → next ≡ pushed (Locked s.bank why at) s.board
      → AddsNotes 1 self.notes (desk_world s.bank flash (dev (flash_in s.other)) (dev next.nv) (latches_by s.bank false (latch_in s.other)) next).notes
  locked_adds why at self next same room e =
      let before : 1 ≤ (sides_world dev s).notes.spare = subst (λ (w : World). 1 ≤ w.notes.spare) (sym same) room in
      subst (λ (w : World). AddsNotes 1 w.notes (desk_world s.bank flash (dev (flash_in s.other)) (dev next.nv) (latches_by s.bank false (latch_in s.other)) next).notes) same
      (subst (λ (w : World). AddsNotes 1 (sides_world dev s).notes w.notes) (sym (locked_sides why at next e)) (locked_notes s.bank (Locked s.bank why at) (sides_world dev s) before))

-- ---- a desk's bank stands otherwise, whose device has power, and its latch stays off
module _ {F : Type 0} (dev : F → FlashState) (b whose : Bank) (seat : Sitting) (mine later other : FlashState) (latches : Latches) (board : Board F)
    (desk : IsDesk b whose seat (desk_world b mine other (dev board.nv) latches board)) (on : mine.powered ≡ true) (same : later ≡ mine) where
  later_up : later ≡ record mine { powered = true }
  later_up = powered_as mine later same on

  my_power : (state_at (device_of b) (desk_world b mine other (dev board.nv) latches board)).powered ≡ true
  my_power = subst (λ (d : FlashState). d.powered ≡ true) (sym (state_mine b mine other (dev board.nv) latches board)) on

  module _ (what : What) (still : latches ≡ latches_after what latches) (next : Board F) (e : next ≡ pushed what board) where
    noted_is : desk_world b later other (dev next.nv) latches next ≡ with_note what (with_mine b (desk_world b mine other (dev board.nv) latches board))
    noted_is = noted_world dev b what mine later other latches latches board next later_up still e

    pub desk_noted_is : desk_world b later other (dev next.nv) latches next ≡ with_note what (desk_world b mine other (dev board.nv) latches board)
    desk_noted_is = noted_is ∙ with_mine_on b what (desk_world b mine other (dev board.nv) latches board) my_power

    pub desk_beside : (later_seat : Sitting) → later_seat.whose ≡ whose → AreLaid b later_seat (desk_world b mine other (dev board.nv) latches board) → HasText what
        → ((s : Standing) → standing_after b what s ≡ standing_by later_seat.line) → ((s : Standing) → standing_after (other_bank b) what s ≡ s)
        → AreBeside b later_seat seat (desk_world b later other (dev next.nv) latches next)
    desk_beside later_seat owned laid text after others =
        subst (λ (w : World). AreBeside b later_seat seat w) (sym noted_is)
        (stands_beside b later_seat seat what (desk_world b mine other (dev board.nv) latches board) (after (standing_of b (desk_world b mine other (dev board.nv) latches board).notes.list))
        (others (standing_of (other_bank b) (desk_world b mine other (dev board.nv) latches board).notes.list) ∙ desk.other.stands) text (owned ∙ desk.owner) laid desk.size desk.other desk.board)

    pub desk_leaves : (later_seat : Sitting) → later_seat.whose ≡ whose → AreLaid b later_seat (desk_world b mine other (dev board.nv) latches board) → 1 ≤ (desk_world b mine other (dev board.nv) latches board).notes.spare
        → (dev board.nv).powered ≡ true → HasText what → later_seat.line ≢ line.Off
        → ((s : Standing) → standing_after b what s ≡ standing_by later_seat.line) → ((s : Standing) → standing_after (other_bank b) what s ≡ s)
        → LeavesSeated 1 (record { bank = b; other = seat.line; world = desk_world b mine other (dev board.nv) latches board }) (desk_world b later other (dev next.nv) latches next)
    desk_leaves later_seat owned laid room fed text some after others =
        leaves_seated b later_seat seat 1 (desk_world b mine other (dev board.nv) latches board) (desk_world b later other (dev next.nv) latches next) some
        (desk_beside later_seat owned laid text after others)
        (subst (λ (w : World). AddsNotes 1 (desk_world b mine other (dev board.nv) latches board).notes w.notes) (sym desk_noted_is) (AddsNotes-noted what (desk_world b mine other (dev board.nv) latches board) room))
        (ap (λ (w : World). w.nv.powered) desk_noted_is ∙ (ap (λ (d : FlashState). d.powered) (state_store b mine other (dev board.nv) latches board) ∙ fed))

  pub desk_locks : (why : LockWhy) (at : Counts) (next : Board F) → latches ≡ latches_after (Locked b why at) latches → at ≡ counts_in (desk_world b mine other (dev board.nv) latches board) → next ≡ pushed (Locked b why at) board
      → Ran (Says (Locked b why) ∷ []) (desk_world b mine other (dev board.nv) latches board) (desk_world b later other (dev next.nv) latches next)
  desk_locks why at next still counts e =
      locked_ran b why at (desk_world b mine other (dev board.nv) latches board) (desk_world b later other (dev next.nv) latches next) counts (noted_is (Locked b why at) still next e)

-- it was released
pub released_leaves : {F : Type 0} (dev : F → FlashState) (b whose : Bank) (seat : Sitting) (mine other : FlashState) (latch : Bool) (board : Board F)
    → IsDesk b whose seat (desk_world b mine other (dev board.nv) (latches_by b false latch) board) → mine.powered ≡ true → (svn : ℕ) (at : Counts)
    → 1 ≤ (desk_world b mine other (dev board.nv) (latches_by b false latch) board).notes.spare → (dev board.nv).powered ≡ true
    → LeavesSeated 1 (record { bank = b; other = seat.line; world = desk_world b mine other (dev board.nv) (latches_by b false latch) board }) (with_note (Released b svn at) (desk_world b mine other (dev board.nv) (latches_by b false latch) board))
released_leaves dev b whose seat mine other latch board desk on svn at room fed =
    let what : What = Released b svn at in
    let latches : Latches = latches_by b false latch in
    let still : latches ≡ latches_after what latches = released_latches b svn at false latch in
    let unruled : Sitting = record { whose = whose; line = line.Running; latch = false; ruling = None } in
    subst (λ (w : World). LeavesSeated 1 (record { bank = b; other = seat.line; world = desk_world b mine other (dev board.nv) latches board }) w)
    (desk_noted_is dev b whose seat mine mine other latches board desk on refl what still (pushed what board) refl)
    (desk_leaves dev b whose seat mine mine other latches board desk on refl what still (pushed what board) refl unruled refl (λ r n. none_laid b _ r n) room fed tt (λ e. cc) (after_released b svn at) (other_released b svn at))
