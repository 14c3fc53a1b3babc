-- Frames on the buses of a bank that runs.
use Rattle.std.proofs.Common.{◌≡◌, ◌≢◌, ◌∙◌, refl, sym, ap, subst, ℕ, ◌≤◌, Bool, true, List, [], ◌∷◌, length, arith, inl, inr, Option, Some, Result, Ok, Err}
use Rattle.pfr_flash.specs.FlashState.{FlashState, now, size_of}
use Rattle.pfr_flash.specs.Layout.{IsBankSize}
use Rattle.pfr_flash.specs.Plan.{Follows as FollowsPlan}
use Rattle.pfr_flash.specs.declared.flash.FlashFail.{FlashFail}
use Rattle.pfr_flash.specs.declared.flash.FlashFail.TheVariants.{Fault, Lost as Loses}
use Rattle.pfr_flash.specs.declared.layout.Layout.{Layout}
use Rattle.pfr_flash.specs.declared.names.Bank.{Bank}
use Rattle.pfr_flash.specs.declared.names.Bank.TheVariants as bank
use Rattle.pfr_engine.specs.Acceptance.{Acceptance}
use Rattle.pfr_fuses.specs.RootSlot.{layout_of}
use Rattle.pfr_manifest.specs.declared.manifest.Manifest.{Manifest}
use Rattle.pfr_filter.specs.Asking.{bus_ops, latched}
use Rattle.pfr_filter.specs.Frames.{bus_plan, verdict_on}
use Rattle.pfr_filter.specs.declared.verdict.BlockCause.{BlockCause}
use Rattle.pfr_filter.specs.declared.verdict.BusOp.{BusOp}
use Rattle.pfr_filter.specs.declared.verdict.BusOp.TheVariants.{Read, Status, Id, WriteEnable, WriteDisable, Program, Erase}
use Rattle.pfr_filter.specs.declared.verdict.Verdict.{Verdict}
use Rattle.pfr_filter.specs.declared.verdict.Verdict.TheVariants.{Pass, Block}
use Rattle.pfr_auth.specs.Trusted.{IsTrusted}
use Rattle.pfr_bank.specs.Seats.{RunningState, latch_left}
use Rattle.pfr_bank.specs.Spelling.{StillSpells}
use Rattle.pfr_bank.proofs.SpellingLaw.{spells_trusted}
use Rattle.pfr_smbus.specs.declared.cause.SmbusCause.{SmbusCause}
use Rattle.pfr_report.specs.NotesState.{NotesState}
use Rattle.pfr_report.specs.Texts.{HasText}
use Rattle.pfr_report.specs.declared.note.LockWhy.TheVariants.{FlashFault}
use Rattle.pfr_report.specs.declared.note.Note.{Note}
use Rattle.pfr_report.specs.declared.note.What.{What}
use Rattle.pfr_report.specs.declared.note.What.TheVariants.{Held, Locked, BusPassed, BusBlocked}
use Rattle.pfr_story.specs.Course.{Follows, Steps, lost}
use Rattle.pfr_story.specs.Goes.{Goes, Ran, Stopped}
use Rattle.pfr_story.specs.Guards.{guard_at}
use Rattle.pfr_story.specs.Plans.{Ruling, bus_calls, by_ruling, by_verdict, filtered, judge_smbus, mine, ruling, smbus_by, smbus_judged, smbus_note}
use Rattle.pfr_story.specs.Standing as standing
use Rattle.pfr_story.specs.Standing.{Standing, standing_after, standing_by, standing_of}
use Rattle.pfr_story.specs.Story.{Move, Says, device_of, other_bank, says}
use Rattle.pfr_story.specs.Turn.{spi_course, spi_stretch}
use Rattle.pfr_story.specs.World.{World, IsDark, state_at, story_of}
use Rattle.pfr_story.specs.declared.line.Line.{Line}
use Rattle.pfr_story.specs.declared.line.Line.TheVariants as line
use Rattle.pfr_story.proofs.Courses.{Steps-ended}
use Rattle.pfr_story.proofs.Lift.{at_device}
use Rattle.pfr_story.proofs.Rulings.{trusted_ruling}
use Rattle.pfr_story.proofs.Sequence.{Ran-append, Ran-refl, Stopped-first}
use Rattle.pfr_machine.specs.Buses.{IsBus, bus_sides, bus_world, verdict_stretch}
use Rattle.pfr_machine.specs.Inside.{AreBeside, AreOwned, AreSides, IsLaid, IsSeat, IsWhole}
use Rattle.pfr_machine.specs.Ready.{LeavesSeated, LeavesWhole}
use Rattle.pfr_machine.specs.Worlds.{AddsNotes, DeskState, Latches, Sitting, desk_world, flash_in, latch_in, latches_after, latches_by, line_in, pushed, ruling_in, sides_world, sits_in, with_note}
use Rattle.pfr_machine.specs.declared.board.Board.{Board}
use Rattle.pfr_machine.specs.declared.bus.Bus.{Bus}
use Rattle.pfr_machine.specs.declared.seat.Seat.{Seat}
use Rattle.pfr_machine.specs.declared.sides.Sides.{Sides}
use Rattle.pfr_machine.specs.declared.seat.Seat.TheVariants as seat
use Rattle.pfr_machine.proofs.EndsLemmas.{image_now, size_now}
use Rattle.pfr_machine.proofs.DeskLemmas.{desk_notes, desk_pushed_is, mine_follows, state_mine, state_other, state_store}
use Rattle.pfr_machine.proofs.LaidLemmas.{KeepsLaid-same, fuses_laid}
use Rattle.pfr_machine.proofs.SeatLemmas.{IsLost, lost_dark, lost_notes, lost_ran}
use Rattle.pfr_machine.proofs.StandLemmas.{leaves_on, leaves_standing, lost_leaves, neither_off, noted_adds, noted_leaves, still_stands}
use Rattle.pfr_machine.proofs.WorldLemmas.{AddsNotes-most, AddsNotes-then, board_noted, board_stays, noted_ran, seat_noted, seat_stays}

-- ---- what a bank that runs is ruled by
pub trusted_mine : (accepts : Acceptance) (b : Bank) (w : World) → IsTrusted (now (state_at (device_of b) w)) (now w.nv) b accepts → IsTrusted (mine b (story_of w)) (now w.nv) b accepts
trusted_mine accepts bank.Bmc w t = t
trusted_mine accepts bank.Pch w t = t

-- it is what it was judged by
module _ (accepts : Acceptance) (b : Bank) (w : World) (trusted : IsTrusted (now (state_at (device_of b) w)) (now w.nv) b accepts) where
  abbrev here : IsTrusted (mine b (story_of w)) (now w.nv) b accepts
  here = trusted_mine accepts b w trusted

  module _ (m : Manifest) (layout : Layout) (spells : StillSpells (now (state_at (device_of b) w)) m layout) (laid : IsLaid b layout (now w.nv)) where
    same_layout : layout_of here.fuses.provision b ≡ layout
    same_layout = fuses_laid b layout (now w.nv) here.fuses here.provisioned laid

    same_manifest : here.manifest ≡ m
    same_manifest =
        spells_trusted (mine b (story_of w)) (now w.nv) b accepts m layout (subst (λ (image : List ℕ). StillSpells image m layout) (sym (image_now b w)) spells) here same_layout

    ruled : ruling accepts b (story_of w) ≡ Some (record { manifest = m; layout = layout })
    ruled =
        let with_both : Manifest → Layout → Option Ruling = λ manifest at. Some (record { manifest = manifest; layout = at }) in
        trusted_ruling accepts b (story_of w) here ∙ (ap (λ (x : Manifest). with_both x (layout_of here.fuses.provision b)) same_manifest ∙ ap (λ (x : Layout). with_both m x) same_layout)

    filtered_so : (frame : List ℕ) (size : ℕ) (latch : Bool) → size_of (state_at (device_of b) w) ≡ size → (guard_at b w.guards).latch ≡ latch
        → filtered accepts b frame (story_of w) ≡ by_verdict b (verdict_on frame m layout size latch) (story_of w)
    filtered_so frame size latch s l =
        ap (λ (found : Option Ruling). by_ruling b frame (guard_at b w.guards).latch found (story_of w)) ruled
        ∙ (ap (λ (n : ℕ). by_verdict b (verdict_on frame m layout n (guard_at b w.guards).latch) (story_of w)) (size_now b w ∙ s)
        ∙ ap (λ (x : Bool). by_verdict b (verdict_on frame m layout size x) (story_of w)) l)

    smbus_so : (frame : List ℕ) → smbus_judged accepts b frame (story_of w) ≡ Says (λ _. smbus_note b (judge_smbus m.rules frame)) ∷ []
    smbus_so frame = ap (λ (found : Option Ruling). smbus_by b frame found (story_of w)) ruled

-- a seat whose bank runs has a ruling
runs_ruled : {F : Type 0} (s : Seat F) → line_in s ≡ line.Running → (r : Ruling) × (ruling_in s ≡ Some r)
runs_ruled (seat.Off off) e = absurd cc
runs_ruled (seat.Locked locked) e = absurd cc
runs_ruled (seat.Running running) e = (record { manifest = running.manifest; layout = running.layout }, refl)

-- ---- a step along the frame's stretch is one along its verdict's
steps_filtered : (accepts : Acceptance) (b : Bank) (frame : List ℕ) (v : Verdict) (old new : World) → filtered accepts b frame (story_of old) ≡ by_verdict b v (story_of old)
    → Steps (verdict_stretch b v ∷ []) old new → Steps (spi_stretch accepts b frame ∷ []) old new
steps_filtered accepts b frame v old new e (inl (mid, p, q)) = inl (mid, subst (λ (moves : List Move). Ran moves old mid) (sym e) p, q)
steps_filtered accepts b frame v old new e (inr (inl (mid, f, q))) =
    inr (inl (mid, record { which = f.which; at = f.at; stopped = subst (λ (moves : List Move). Stopped moves f.which Fault old f.at) (sym e) f.stopped; noted = f.noted }, q))
steps_filtered accepts b frame v old new e (inr (inr l)) =
    inr (inr (record { which = l.which; at = l.at; stopped = subst (λ (moves : List Move). Stopped moves l.which Loses old l.at) (sym e) l.stopped; noted = l.noted }))

pub spi_follows : (accepts : Acceptance) (b : Bank) (frame : List ℕ) (v : Verdict) (old new : World) → filtered accepts b frame (story_of old) ≡ by_verdict b v (story_of old)
    → Steps (verdict_stretch b v ∷ []) old new → Follows (spi_course accepts b frame) old new
spi_follows accepts b frame v old new e p = (old, Ran-refl old, steps_filtered accepts b frame v old new e p)

-- ---- latches
pub passed_latches : (b : Bank) (op : BusOp) (mine other : Bool) → latches_by b (latched op mine) other ≡ latches_after (BusPassed b op) (latches_by b mine other)
passed_latches bank.Bmc op mine other = refl
passed_latches bank.Pch op mine other = refl

pub blocked_latches : (b : Bank) (why : BlockCause) (mine other : Bool) → latches_by b mine other ≡ latches_after (BusBlocked b why) (latches_by b mine other)
blocked_latches bank.Bmc why mine other = refl
blocked_latches bank.Pch why mine other = refl

pub latch_mine : {F : Type 0} (b : Bank) (mine other nv : FlashState) (latch other_latch : Bool) (board : Board F) → (guard_at b (desk_world b mine other nv (latches_by b latch other_latch) board).guards).latch ≡ latch
latch_mine bank.Bmc mine other nv latch other_latch board = refl
latch_mine bank.Pch mine other nv latch other_latch board = refl

-- ---- seats stay
-- the bank's device worked, and has power
beside_stays : (b : Bank) (mine later other : Sitting) (old new : World) → later.whose ≡ mine.whose → later.line ≡ mine.line → later.ruling ≡ mine.ruling
    → size_of (state_at (device_of b) new) ≡ size_of (state_at (device_of b) old) → (state_at (device_of b) new).powered ≡ true
    → state_at (device_of (other_bank b)) new ≡ state_at (device_of (other_bank b)) old → new.nv ≡ old.nv → new.notes.list ≡ old.notes.list
    → AreBeside b mine other old → AreBeside b later other new
beside_stays b mine later other old new whose how ruled size on beside nv list h = record {
  mine = record {
    owner = whose ∙ h.mine.owner;
    size = subst (λ (n : ℕ). IsBankSize n) (sym size) h.mine.size;
    stands = ap (λ (l : List Note). standing_of b l) list ∙ (h.mine.stands ∙ ap standing_by (sym how));
    on = λ some. on;
    laid = λ r e. subst (λ (d : FlashState). IsLaid b r.layout (now d)) (sym nv) (h.mine.laid r (sym ruled ∙ e));
  };
  other = seat_stays (other_bank b) other old new (ap size_of beside) list (λ some. ap (λ (d : FlashState). d.powered) beside ∙ h.other.on some) (KeepsLaid-same (now old.nv) (now new.nv) (ap now nv)) h.other;
  board = board_stays old new (ap size_of nv) list h.board;
}

-- something was noted by which no bank stands otherwise
beside_noted : {F : Type 0} (b : Bank) (mine other : Sitting) (what : What) (m o nv : FlashState) (latches : Latches) (board : Board F) → HasText what → ((which : Bank) (s : Standing) → standing_after which what s ≡ s)
    → AreBeside b mine other (desk_world b m o nv latches board) → AreBeside b mine other (desk_world b m o nv latches (pushed what board))
beside_noted bank.Bmc mine other what m o nv latches board text still h =
    let old : World = desk_world bank.Bmc m o nv latches board in
    let new : World = desk_world bank.Bmc m o nv latches (pushed what board) in
    let note : Note = record { item = board.item; what = what } in
    record {
      mine = seat_noted bank.Bmc mine note old new refl refl (still bank.Bmc (standing_of bank.Bmc board.notes.list) ∙ h.mine.stands) h.mine.on h.mine.owner h.mine.size h.mine.laid;
      other = seat_noted bank.Pch other note old new refl refl (still bank.Pch (standing_of bank.Pch board.notes.list) ∙ h.other.stands) h.other.on h.other.owner h.other.size h.other.laid;
      board = board_noted note old new refl refl text h.board;
    }
beside_noted bank.Pch mine other what m o nv latches board text still h =
    let old : World = desk_world bank.Pch m o nv latches board in
    let new : World = desk_world bank.Pch m o nv latches (pushed what board) in
    let note : Note = record { item = board.item; what = what } in
    record {
      mine = seat_noted bank.Pch mine note old new refl refl (still bank.Pch (standing_of bank.Pch board.notes.list) ∙ h.mine.stands) h.mine.on h.mine.owner h.mine.size h.mine.laid;
      other = seat_noted bank.Bmc other note old new refl refl (still bank.Bmc (standing_of bank.Bmc board.notes.list) ∙ h.other.stands) h.other.on h.other.owner h.other.size h.other.laid;
      board = board_noted note old new refl refl text h.board;
    }

pub bus_noted : {F : Type 0} (dev : F → FlashState) (bus : Bus F) (what : What) (next : Board F) → next ≡ pushed what bus.board → HasText what → ((which : Bank) (s : Standing) → standing_after which what s ≡ s)
    → IsBus dev bus → IsBus dev (record bus { board = next })
bus_noted {F} dev bus what next e text still h =
    subst (λ (x : Board F). IsBus dev (record bus { board = x })) (sym e)
    (beside_noted bus.bank (sits_in (seat.Running bus.running)) (sits_in bus.other) what (dev bus.running.flash) (dev (flash_in bus.other)) (dev bus.board.nv) (latches_by bus.bank bus.running.latch (latch_in bus.other)) bus.board text still h)

-- ---- what a note behind a frame leaves
module _ (b : Bank) (old mid : World) (whole : IsWhole old) (runs : standing_of b old.notes.list ≡ standing.Running) (notes : mid.notes ≡ old.notes) (nv : mid.nv ≡ old.nv) where
  same_list : (which : Bank) → standing_of which mid.notes.list ≡ standing_of which old.notes.list
  same_list which = ap (λ (n : NotesState). standing_of which n.list) notes

  module _ (what : What) (new : World) (e : new ≡ with_note what mid) (still : (which : Bank) (s : Standing) → standing_after which what s ≡ s) where
    stands_so : (which : Bank) → standing_of which new.notes.list ≡ standing_of which old.notes.list
    stands_so which = still_stands what mid new still e which ∙ same_list which

    pub said_leaves : 1 ≤ old.notes.spare → LeavesWhole 3 old new
    said_leaves room =
        let adds : AddsNotes 1 mid.notes new.notes = noted_adds what mid new e (subst (λ (n : NotesState). 1 ≤ n.spare) (sym notes) room) in
        leaves_standing 3 old new stands_so (ap (λ (w : World). w.nv.powered) e ∙ ap (λ (d : FlashState). d.powered) nv)
        (AddsNotes-most 1 3 old.notes new.notes (subst (λ (n : NotesState). AddsNotes 1 n new.notes) notes adds) (omega arith)) whole

    pub said_dark : standing_of bank.Bmc new.notes.list ≡ standing.Off → IsDark new
    said_dark off = absurd (neither_off b old whole runs bank.Bmc (sym (stands_so bank.Bmc) ∙ off))

  -- the bank was held and locked
  module _ (held : DeskState) (new : World) (own : held.bank ≡ b) (other : standing_by held.other ≡ standing_of (other_bank b) mid.notes.list) (first : AddsNotes 1 mid.notes held.world.notes) (l : LeavesSeated 1 held new) where
    mine_on : standing_of b new.notes.list ≢ standing.Off
    mine_on = subst (λ (x : Bank). standing_of x new.notes.list ≢ standing.Off) own l.mine

    other_on : standing_of (other_bank b) new.notes.list ≢ standing.Off
    other_on = λ off. neither_off b old whole runs (other_bank b)
        (sym (same_list (other_bank b)) ∙ (sym other ∙ (sym l.other ∙ (ap (λ (x : Bank). standing_of (other_bank x) new.notes.list) own ∙ off))))

    both_on : (x : Bank) → standing_of x new.notes.list ≢ standing.Off → standing_of (other_bank x) new.notes.list ≢ standing.Off → (which : Bank) → standing_of which new.notes.list ≢ standing.Off
    both_on bank.Bmc p q bank.Bmc = p
    both_on bank.Bmc p q bank.Pch = q
    both_on bank.Pch p q bank.Bmc = q
    both_on bank.Pch p q bank.Pch = p

    pub locked_leaves : LeavesWhole 3 old new
    locked_leaves =
        let adds : AddsNotes 2 mid.notes new.notes = AddsNotes-then 1 1 mid.notes held.world.notes new.notes first l.notes in
        leaves_on 3 old new (both_on b mine_on other_on bank.Bmc) (both_on b mine_on other_on bank.Pch) l.nv
        (AddsNotes-most 2 3 old.notes new.notes (subst (λ (n : NotesState). AddsNotes 2 n new.notes) notes adds) (omega arith))

    pub locked_dark : standing_of bank.Bmc new.notes.list ≡ standing.Off → IsDark new
    locked_dark off = absurd (both_on b mine_on other_on bank.Bmc off)

-- ---- a frame that passed is handed to the flash
-- what `Running::bus` does
pub record Handed {F : Type 0} (dev : F → FlashState) (verdict : Verdict) (old new : RunningState F) (r : Result (Unit {0}) FlashFail) : Type 0 where
  pub follows : FollowsPlan (bus_plan verdict) (dev old.flash) (dev new.flash) r
  pub idle : bus_plan verdict ≡ [] → (r ≡ Ok tt) × (new.flash ≡ old.flash)
  pub latch : new.latch ≡ latch_left verdict old.latch r
  pub rest : new ≡ record old { flash = new.flash; latch = new.latch }

module _ {F : Type 0} (b : Bank) (mine later other nv : FlashState) (latches : Latches) (board : Board F) (on : mine.powered ≡ true) where
  nothing_done : (r : Result (Unit {0}) FlashFail) → r ≡ Ok tt → later ≡ mine → Goes (λ _. []) (desk_world b mine other nv latches board) (desk_world b later other nv latches board) (at_device (device_of b) r)
  nothing_done (Ok x) e same = subst (λ (d : FlashState). Ran [] (desk_world b mine other nv latches board) (desk_world b d other nv latches board)) (sym same) (Ran-refl (desk_world b mine other nv latches board))
  nothing_done (Err fail) e same = absurd cc

  bus_goes : (op : BusOp) (r : Result (Unit {0}) FlashFail) → FollowsPlan (bus_ops op) mine later r → (bus_ops op ≡ [] → (r ≡ Ok tt) × (later ≡ mine))
      → Goes (λ _. bus_calls b op) (desk_world b mine other nv latches board) (desk_world b later other nv latches board) (at_device (device_of b) r)
  bus_goes (Program at page) r f idle = mine_follows b mine later other nv latches board on (bus_ops (Program at page)) r f
  bus_goes (Erase sector count) r f idle = mine_follows b mine later other nv latches board on (bus_ops (Erase sector count)) r f
  bus_goes Read r f idle = nothing_done r (idle refl).0 (idle refl).1
  bus_goes Status r f idle = nothing_done r (idle refl).0 (idle refl).1
  bus_goes Id r f idle = nothing_done r (idle refl).0 (idle refl).1
  bus_goes WriteEnable r f idle = nothing_done r (idle refl).0 (idle refl).1
  bus_goes WriteDisable r f idle = nothing_done r (idle refl).0 (idle refl).1

module _ {F : Type 0} (dev : F → FlashState) (bus : Bus F) (running : RunningState F) (seated : IsBus dev bus) (op : BusOp) (r : Result (Unit {0}) FlashFail) (h : Handed dev (Pass op) bus.running running r) where
  abbrev latches_then : Latches
  latches_then = latches_by bus.bank bus.running.latch (latch_in bus.other)

  -- the flash did what it asks for, and nothing is noted yet
  abbrev pub handed_world : World
  handed_world = desk_world bus.bank (dev running.flash) (dev (flash_in bus.other)) (dev bus.board.nv) latches_then bus.board

  was_on : (dev bus.running.flash).powered ≡ true
  was_on =
      subst (λ (d : FlashState). d.powered ≡ true) (state_mine bus.bank (dev bus.running.flash) (dev (flash_in bus.other)) (dev bus.board.nv) latches_then bus.board)
      (seated.mine.on (λ e. cc))

  pub handed_goes : Goes (λ _. bus_calls bus.bank op) (bus_world dev bus) handed_world (at_device (device_of bus.bank) r)
  handed_goes =
      bus_goes bus.bank (dev bus.running.flash) (dev running.flash) (dev (flash_in bus.other)) (dev bus.board.nv) latches_then bus.board was_on op r h.follows
      (λ none. ((h.idle none).0, ap dev (h.idle none).1))

  pub handed_notes : handed_world.notes ≡ (bus_world dev bus).notes
  handed_notes =
      desk_notes bus.bank (dev running.flash) (dev (flash_in bus.other)) (dev bus.board.nv) latches_then bus.board
      ∙ sym (desk_notes bus.bank (dev bus.running.flash) (dev (flash_in bus.other)) (dev bus.board.nv) latches_then bus.board)

  pub handed_store : handed_world.nv ≡ (bus_world dev bus).nv
  handed_store =
      state_store bus.bank (dev running.flash) (dev (flash_in bus.other)) (dev bus.board.nv) latches_then bus.board
      ∙ sym (state_store bus.bank (dev bus.running.flash) (dev (flash_in bus.other)) (dev bus.board.nv) latches_then bus.board)

  -- the seats of both banks are as before
  later_size : (latches : Latches) → size_of (state_at (device_of bus.bank) (desk_world bus.bank (dev running.flash) (dev (flash_in bus.other)) (dev bus.board.nv) latches bus.board)) ≡ size_of (state_at (device_of bus.bank) (bus_world dev bus))
  later_size latches =
      ap size_of (state_mine bus.bank (dev running.flash) (dev (flash_in bus.other)) (dev bus.board.nv) latches bus.board)
      ∙ (ap (λ (bytes : List ℕ). length bytes) h.follows.worked.moved.start
      ∙ sym (ap size_of (state_mine bus.bank (dev bus.running.flash) (dev (flash_in bus.other)) (dev bus.board.nv) latches_then bus.board)))

  module _ (on : (dev running.flash).powered ≡ true) where
    pub handed_bus : IsBus dev (record bus { running = running })
    handed_bus =
        let latches : Latches = latches_by bus.bank running.latch (latch_in bus.other) in
        let new : World = bus_world dev (record bus { running = running }) in
        beside_stays bus.bank (sits_in (seat.Running bus.running)) (sits_in (seat.Running running)) (sits_in bus.other) (bus_world dev bus) new
        (ap (λ (x : RunningState F). x.bank) h.rest) refl
        (ap (λ (x : RunningState F). ruling_in (seat.Running x)) h.rest)
        (later_size latches)
        (subst (λ (d : FlashState). d.powered ≡ true) (sym (state_mine bus.bank (dev running.flash) (dev (flash_in bus.other)) (dev bus.board.nv) latches bus.board)) on)
        (state_other bus.bank (dev running.flash) (dev (flash_in bus.other)) (dev bus.board.nv) latches bus.board
        ∙ sym (state_other bus.bank (dev bus.running.flash) (dev (flash_in bus.other)) (dev bus.board.nv) latches_then bus.board))
        (state_store bus.bank (dev running.flash) (dev (flash_in bus.other)) (dev bus.board.nv) latches bus.board
        ∙ sym (state_store bus.bank (dev bus.running.flash) (dev (flash_in bus.other)) (dev bus.board.nv) latches_then bus.board))
        (ap (λ (n : NotesState). n.list) (desk_notes bus.bank (dev running.flash) (dev (flash_in bus.other)) (dev bus.board.nv) latches bus.board
        ∙ sym (desk_notes bus.bank (dev bus.running.flash) (dev (flash_in bus.other)) (dev bus.board.nv) latches_then bus.board)))
        seated

  -- whether its device has power or not
  pub handed_owned : AreOwned bus.bank (sits_in (seat.Running running)) (sits_in bus.other) (bus_world dev (record bus { running = running }))
  handed_owned =
      let latches : Latches = latches_by bus.bank running.latch (latch_in bus.other) in
      record {
        mine = ap (λ (x : RunningState F). x.bank) h.rest ∙ seated.mine.owner;
        size = subst (λ (n : ℕ). IsBankSize n) (sym (later_size latches)) seated.mine.size;
        other = seated.other.owner;
        other_size = subst (λ (d : FlashState). IsBankSize (size_of d))
            (sym (state_other bus.bank (dev running.flash) (dev (flash_in bus.other)) (dev bus.board.nv) latches bus.board
            ∙ sym (state_other bus.bank (dev bus.running.flash) (dev (flash_in bus.other)) (dev bus.board.nv) latches_then bus.board))) seated.other.size;
        board = board_stays (bus_world dev bus) (bus_world dev (record bus { running = running }))
            (ap size_of (state_store bus.bank (dev running.flash) (dev (flash_in bus.other)) (dev bus.board.nv) latches bus.board
            ∙ sym (state_store bus.bank (dev bus.running.flash) (dev (flash_in bus.other)) (dev bus.board.nv) latches_then bus.board)))
            (ap (λ (n : NotesState). n.list) (desk_notes bus.bank (dev running.flash) (dev (flash_in bus.other)) (dev bus.board.nv) latches bus.board
            ∙ sym (desk_notes bus.bank (dev bus.running.flash) (dev (flash_in bus.other)) (dev bus.board.nv) latches_then bus.board)))
            seated.board;
      }

-- at Ok it is noted
module _ {F : Type 0} (dev : F → FlashState) (bus : Bus F) (running : RunningState F) (op : BusOp) where
  pub passed_is : (x : Unit {0}) → Handed dev (Pass op) bus.running running (Ok x)
      → bus_world dev (record bus { running = running; board = pushed (BusPassed bus.bank op) bus.board })
      ≡ with_note (BusPassed bus.bank op) (desk_world bus.bank (dev running.flash) (dev (flash_in bus.other)) (dev bus.board.nv) (latches_by bus.bank bus.running.latch (latch_in bus.other)) bus.board)
  passed_is x h =
      desk_pushed_is dev (BusPassed bus.bank op) bus.bank (dev running.flash) (dev (flash_in bus.other)) (latches_by bus.bank bus.running.latch (latch_in bus.other)) (latches_by bus.bank running.latch (latch_in bus.other)) bus.board (pushed (BusPassed bus.bank op) bus.board)
      (ap (λ (l : Bool). latches_by bus.bank l (latch_in bus.other)) h.latch ∙ passed_latches bus.bank op bus.running.latch (latch_in bus.other)) refl

  -- at Err the latch stays
  pub failed_is : (fail : FlashFail) → Handed dev (Pass op) bus.running running (Err fail)
      → bus_world dev (record bus { running = running })
      ≡ desk_world bus.bank (dev running.flash) (dev (flash_in bus.other)) (dev bus.board.nv) (latches_by bus.bank bus.running.latch (latch_in bus.other)) bus.board
  failed_is fail h = ap (λ (l : Bool). desk_world bus.bank (dev running.flash) (dev (flash_in bus.other)) (dev bus.board.nv) (latches_by bus.bank l (latch_in bus.other)) bus.board) h.latch

pub blocked_is : {F : Type 0} (dev : F → FlashState) (bus : Bus F) (why : BlockCause)
    → bus_world dev (record bus { board = pushed (BusBlocked bus.bank why) bus.board }) ≡ with_note (BusBlocked bus.bank why) (bus_world dev bus)
blocked_is dev bus why =
    desk_pushed_is dev (BusBlocked bus.bank why) bus.bank (dev bus.running.flash) (dev (flash_in bus.other)) (latches_by bus.bank bus.running.latch (latch_in bus.other)) (latches_by bus.bank bus.running.latch (latch_in bus.other)) bus.board (pushed (BusBlocked bus.bank why) bus.board)
    (blocked_latches bus.bank why bus.running.latch (latch_in bus.other)) refl

-- ---- the step
blocked_steps : (b : Bank) (why : BlockCause) (old new : World) → new ≡ with_note (BusBlocked b why) old → Steps (verdict_stretch b (Block why) ∷ []) old new
blocked_steps b why old new e = inl (new, noted_ran (λ _. BusBlocked b why) (BusBlocked b why) old new refl e, Ran-refl new)

module _ (b : Bank) (op : BusOp) (old mid new : World) where
  passed_steps : Ran (bus_calls b op) old mid → new ≡ with_note (BusPassed b op) mid → Steps (verdict_stretch b (Pass op) ∷ []) old new
  passed_steps p e = inl (
    new,
    Ran-append (bus_calls b op) (Says (λ _. BusPassed b op) ∷ []) old mid new p (noted_ran (λ _. BusPassed b op) (BusPassed b op) mid new refl e),
    Ran-refl new,
  )

  locked_steps : (held : World) → Stopped (bus_calls b op) (device_of b) Fault old mid → Ran (Says (Held b) ∷ []) mid held → Ran (Says (Locked b FlashFault) ∷ []) held new
      → Steps (verdict_stretch b (Pass op) ∷ []) old new
  locked_steps held s p q =
      Steps-ended (verdict_stretch b (Pass op)) [] old new refl (record {
        which = device_of b;
        at = mid;
        stopped = Stopped-first (λ story. bus_calls b op) (says (λ _. BusPassed b op)) (device_of b) Fault old mid s;
        noted = Ran-append (Says (Held b) ∷ []) (Says (Locked b FlashFault) ∷ []) mid held new p q;
      })

  dark_steps : Stopped (bus_calls b op) (device_of b) Loses old mid → Ran (lost (device_of b)) mid new → Steps (verdict_stretch b (Pass op) ∷ []) old new
  dark_steps s p = inr (inr (record {
    which = device_of b;
    at = mid;
    stopped = Stopped-first (λ story. bus_calls b op) (says (λ _. BusPassed b op)) (device_of b) Loses old mid s;
    noted = p;
  }))

-- what is done of a frame with this verdict
pub record IsDone (b : Bank) (verdict : Verdict) (old new : World) : Type 0 where
  pub steps : Steps (verdict_stretch b verdict ∷ []) old new
  pub leaves : LeavesWhole 3 old new
  pub dark : standing_of bank.Bmc new.notes.list ≡ standing.Off → IsDark new

pub bus_spare : {F : Type 0} (dev : F → FlashState) (bus : Bus F) → 3 ≤ bus.board.notes.spare → 3 ≤ (bus_world dev bus).notes.spare
bus_spare dev bus room =
    let same = desk_notes bus.bank (dev bus.running.flash) (dev (flash_in bus.other)) (dev bus.board.nv) (latches_by bus.bank bus.running.latch (latch_in bus.other)) bus.board in
    subst (λ (n : NotesState). 3 ≤ n.spare) (sym same) room

module _ {F : Type 0} (dev : F → FlashState) (bus : Bus F) (seated : IsBus dev bus) (whole : IsWhole (bus_world dev bus)) (room : 3 ≤ bus.board.notes.spare) where
  abbrev old : World
  old = bus_world dev bus

  spare : 1 ≤ old.notes.spare
  spare = let three : 3 ≤ old.notes.spare = bus_spare dev bus room in omega arith

  pub is_blocked : (why : BlockCause) (new : World) → new ≡ bus_world dev (record bus { board = pushed (BusBlocked bus.bank why) bus.board }) → IsDone bus.bank (Block why) old new
  is_blocked why new e =
      let is : new ≡ with_note (BusBlocked bus.bank why) old = e ∙ blocked_is dev bus why in
      record {
        steps = blocked_steps bus.bank why old new is;
        leaves = said_leaves bus.bank old old whole seated.mine.stands refl refl (BusBlocked bus.bank why) new is (λ which s. refl) spare;
        dark = said_dark bus.bank old old whole seated.mine.stands refl refl (BusBlocked bus.bank why) new is (λ which s. refl);
      }

  module _ (running : RunningState F) (op : BusOp) where
    pub ok_on : (x : Unit {0}) → Handed dev (Pass op) bus.running running (Ok x) → (dev running.flash).powered ≡ true
    ok_on x h = h.follows.on ∙ was_on dev bus running seated op (Ok x) h

    pub fault_on : (fail : FlashFail) → fail ≡ Fault → Handed dev (Pass op) bus.running running (Err fail) → (dev running.flash).powered ≡ true
    fault_on fail e h = h.follows.still e ∙ was_on dev bus running seated op (Err fail) h

    pub is_passed : (x : Unit {0}) → Handed dev (Pass op) bus.running running (Ok x) → (new : World) → new ≡ bus_world dev (record bus { running = running; board = pushed (BusPassed bus.bank op) bus.board })
        → IsDone bus.bank (Pass op) old new
    is_passed x h new e =
        let mid : World = handed_world dev bus running seated op (Ok x) h in
        let is : new ≡ with_note (BusPassed bus.bank op) mid = e ∙ passed_is dev bus running op x h in
        let notes : mid.notes ≡ old.notes = handed_notes dev bus running seated op (Ok x) h in
        let store : mid.nv ≡ old.nv = handed_store dev bus running seated op (Ok x) h in
        record {
          steps = passed_steps bus.bank op old mid new (handed_goes dev bus running seated op (Ok x) h) is;
          leaves = said_leaves bus.bank old mid whole seated.mine.stands notes store (BusPassed bus.bank op) new is (λ which s. refl) spare;
          dark = said_dark bus.bank old mid whole seated.mine.stands notes store (BusPassed bus.bank op) new is (λ which s. refl);
        }

    -- the world behind a call that failed
    module _ (fail : FlashFail) (h : Handed dev (Pass op) bus.running running (Err fail)) where
      abbrev mid : World
      mid = bus_world dev (record bus { running = running })

      same_mid : mid ≡ handed_world dev bus running seated op (Err fail) h
      same_mid = failed_is dev bus running op fail h

      stopped_so : Stopped (bus_calls bus.bank op) (device_of bus.bank) fail old mid
      stopped_so = subst (λ (w : World). Stopped (bus_calls bus.bank op) (device_of bus.bank) fail old w) (sym same_mid) (handed_goes dev bus running seated op (Err fail) h)

      notes_so : mid.notes ≡ old.notes
      notes_so = ap (λ (w : World). w.notes) same_mid ∙ handed_notes dev bus running seated op (Err fail) h

      store_so : mid.nv ≡ old.nv
      store_so = ap (λ (w : World). w.nv) same_mid ∙ handed_store dev bus running seated op (Err fail) h

      pub is_locked : fail ≡ Fault → (held : DeskState) (new : World) → held.bank ≡ bus.bank → standing_by held.other ≡ standing_of (other_bank bus.bank) mid.notes.list → Ran (Says (Held bus.bank) ∷ []) mid held.world
          → AddsNotes 1 mid.notes held.world.notes → Ran (Says (Locked held.bank FlashFault) ∷ []) held.world new → LeavesSeated 1 held new → IsDone bus.bank (Pass op) old new
      is_locked e held new own other holds adds locks leaves = record {
        steps = locked_steps bus.bank op old mid new held.world (subst (λ (f : FlashFail). Stopped (bus_calls bus.bank op) (device_of bus.bank) f old mid) e stopped_so) holds
            (subst (λ (b : Bank). Ran (Says (Locked b FlashFault) ∷ []) held.world new) own locks);
        leaves = locked_leaves bus.bank old mid whole seated.mine.stands notes_so store_so held new own other adds leaves;
        dark = locked_dark bus.bank old mid whole seated.mine.stands notes_so store_so held new own other adds leaves;
      }

      pub is_dark : fail ≡ Loses → (new : World) → IsLost (Some (device_of bus.bank)) mid new → IsDone bus.bank (Pass op) old new
      is_dark e new l =
          let ran = lost_ran (Some (device_of bus.bank)) mid new l in
          let adds : AddsNotes 1 mid.notes new.notes = lost_notes (Some (device_of bus.bank)) mid new l (subst (λ (n : NotesState). 1 ≤ n.spare) (sym notes_so) spare) in
          record {
            steps = dark_steps bus.bank op old mid new (subst (λ (f : FlashFail). Stopped (bus_calls bus.bank op) (device_of bus.bank) f old mid) e stopped_so) ran;
            leaves = lost_leaves 3 (Some (device_of bus.bank)) old mid new ran (AddsNotes-most 1 3 old.notes new.notes (subst (λ (n : NotesState). AddsNotes 1 n new.notes) notes_so adds) (omega arith));
            dark = λ off. lost_dark (Some (device_of bus.bank)) mid new l;
          }

-- ---- a frame on the SPI bus
module _ {F : Type 0} (dev : F → FlashState) (sides : Sides F) (self : World) (running : RunningState F) (is : sides_world dev sides ≡ self) (seated : AreSides dev sides) (runs : sides.mine ≡ seat.Running running) where
  abbrev pub asked : Bus F
  asked = record { bank = sides.bank; running = running; other = sides.other; board = sides.board }

  same_sides : sides ≡ bus_sides asked
  same_sides = let with_mine : Seat F → Sides F = λ mine. record sides { mine = mine } in ap with_mine runs

  pub asked_bus : IsBus dev asked
  asked_bus = subst (λ (s : Sides F). AreSides dev s) same_sides seated

  pub asked_world : bus_world dev asked ≡ self
  asked_world = ap (λ (s : Sides F). sides_world dev s) (sym same_sides) ∙ is

  abbrev asked_verdict : List ℕ → Verdict
  asked_verdict frame = verdict_on frame running.manifest running.layout (size_of (dev running.flash)) running.latch

  module _ (frame : List ℕ) (new : World) (spells : StillSpells (now (dev running.flash)) running.manifest running.layout) (steps : Steps (verdict_stretch asked.bank (asked_verdict frame) ∷ []) (bus_world dev asked) new) (accepts : Acceptance) where
    asked_follows : IsTrusted (now (state_at (device_of asked.bank) (bus_world dev asked))) (now (bus_world dev asked).nv) asked.bank accepts → Follows (spi_course accepts asked.bank frame) (bus_world dev asked) new
    asked_follows t =
        let latches : Latches = latches_by asked.bank running.latch (latch_in asked.other) in
        let at : state_at (device_of asked.bank) (bus_world dev asked) ≡ dev running.flash = state_mine asked.bank (dev running.flash) (dev (flash_in asked.other)) (dev asked.board.nv) latches asked.board in
        spi_follows accepts asked.bank frame (asked_verdict frame) (bus_world dev asked) new
        (filtered_so accepts asked.bank (bus_world dev asked) t running.manifest running.layout
        (subst (λ (d : FlashState). StillSpells (now d) running.manifest running.layout) (sym at) spells)
        (asked_bus.mine.laid (record { manifest = running.manifest; layout = running.layout }) refl)
        frame (size_of (dev running.flash)) running.latch (ap size_of at)
        (latch_mine asked.bank (dev running.flash) (dev (flash_in asked.other)) (dev asked.board.nv) running.latch (latch_in asked.other) asked.board))
        steps

    pub spi_done : (b : Bank) → sides.bank ≡ b → IsTrusted (now (state_at (device_of b) self)) (now self.nv) b accepts → Follows (spi_course accepts b frame) self new
    spi_done b own t =
        let here = subst (λ (v : World). IsTrusted (now (state_at (device_of b) v)) (now v.nv) b accepts) (sym asked_world) t in
        subst (λ (v : World). Follows (spi_course accepts b frame) v new) asked_world
        (subst (λ (x : Bank). Follows (spi_course accepts x frame) (bus_world dev asked) new) own
        (asked_follows (subst (λ (x : Bank). IsTrusted (now (state_at (device_of x) (bus_world dev asked))) (now (bus_world dev asked).nv) x accepts) (sym own) here)))

-- ---- a frame on the SMBus
line_running : (how : Line) → standing_by how ≡ standing.Running → how ≡ line.Running
line_running line.Off e = absurd cc
line_running line.Locked e = absurd cc
line_running line.Running e = refl

pub smbus_seat : {F : Type 0} (dev : F → FlashState) (b : Bank) (s : Seat F) (w : World) (frame read : List ℕ) (r : Result (Unit {0}) SmbusCause) → state_at (device_of b) w ≡ dev (flash_in s) → standing_of b w.notes.list ≡ standing.Running
    → IsSeat b (sits_in s) w → read ≡ frame → ((x : Ruling) → ruling_in s ≡ Some x → r ≡ judge_smbus x.manifest.rules read) → ((x : Ruling) → ruling_in s ≡ Some x → StillSpells (now (dev (flash_in s))) x.manifest x.layout)
    → (accepts : Acceptance) → IsTrusted (now (state_at (device_of b) w)) (now w.nv) b accepts → smbus_judged accepts b frame (story_of w) ≡ Says (λ _. smbus_note b r) ∷ []
smbus_seat dev b s w frame read r at runs seated same judged spells accepts t =
    let found = runs_ruled s (line_running (line_in s) (sym seated.stands ∙ runs)) in
    let x : Ruling = found.0 in
    let answer : judge_smbus x.manifest.rules frame ≡ r = ap (λ (bytes : List ℕ). judge_smbus x.manifest.rules bytes) (sym same) ∙ sym (judged x found.1) in
    smbus_so accepts b w t x.manifest x.layout (subst (λ (d : FlashState). StillSpells (now d) x.manifest x.layout) (sym at) (spells x found.1)) (seated.laid x found.1) frame
    ∙ ap (λ (j : Result (Unit {0}) SmbusCause). Says (λ _. smbus_note b j) ∷ []) answer

smbus_still : (b : Bank) (r : Result (Unit {0}) SmbusCause) (which : Bank) (s : Standing) → standing_after which (smbus_note b r) s ≡ s
smbus_still b (Ok x) which s = refl
smbus_still b (Err why) which s = refl

pub smbus_done : (b : Bank) (r : Result (Unit {0}) SmbusCause) (what : What) (old new : World) → what ≡ smbus_note b r → new ≡ with_note what old → 64 ≤ old.notes.spare → IsWhole old → standing_of b old.notes.list ≡ standing.Running
    → LeavesWhole 64 old new × (standing_of bank.Bmc new.notes.list ≡ standing.Off → IsDark new)
smbus_done b r what old new is e room whole runs =
    let still : (which : Bank) (s : Standing) → standing_after which what s ≡ s = subst (λ (x : What). (which : Bank) (s : Standing) → standing_after which x s ≡ s) (sym is) (smbus_still b r) in (
      noted_leaves what old new still e (omega arith) whole,
      λ off. absurd (neither_off b old whole runs bank.Bmc (sym (still_stands what old new still e bank.Bmc) ∙ off)),
    )
