-- What a check of a bank's active image comes to.
use Rattle.std.proofs.Common.{◌≡◌, ◌∙◌, ap, refl, sym, subst, ℕ, ◌≤◌, true, Bool, false, List, [], ◌∷◌, Option, None, Result, Ok, Err}
use Rattle.pfr_flash.specs.Answer.{Answers}
use Rattle.pfr_flash.specs.FlashState.{FlashState, now}
use Rattle.pfr_flash.specs.Reading.{EndsAt}
use Rattle.pfr_flash.specs.declared.flash.FlashFail.{FlashFail}
use Rattle.pfr_flash.specs.declared.names.Bank.{Bank}
use Rattle.pfr_flash.specs.declared.names.Counts.{Counts}
use Rattle.pfr_engine.specs.Acceptance.{Acceptance}
use Rattle.pfr_fuses.specs.FusesState.{FusesState}
use Rattle.pfr_manifest.specs.declared.manifest.Manifest.{Manifest}
use Rattle.pfr_auth.specs.Answer.{active_failure}
use Rattle.pfr_auth.specs.Judge.{judge_active}
use Rattle.pfr_auth.specs.declared.fail.ActiveFail.{ActiveFail}
use Rattle.pfr_report.specs.NotesState.{NotesState}
use Rattle.pfr_report.specs.declared.note.What.{What}
use Rattle.pfr_report.specs.declared.note.What.TheVariants.{Released}
use Rattle.pfr_story.specs.Goes.{Ran}
use Rattle.pfr_story.specs.Plans.{judged_active}
use Rattle.pfr_story.specs.Story.{Says, called, counts_of, device_of}
use Rattle.pfr_story.specs.World.{World, counts_in, story_of}
use Rattle.pfr_story.proofs.Sequence.{Ran-append}
use Rattle.pfr_machine.specs.Inside.{IsDesk}
use Rattle.pfr_machine.specs.Ready.{DistrustedBy, LeavesSeated, ReleasedBy}
use Rattle.pfr_machine.specs.Worlds.{AddsNotes, Latches, Sitting, desk_world, latches_by, with_note}
use Rattle.pfr_machine.specs.declared.board.Board.{Board}
use Rattle.pfr_machine.proofs.DeskLemmas.{desk_notes, desk_worked, image_mine, mine_read, read_on, read_size, stays_here}
use Rattle.pfr_machine.proofs.SeatLemmas.{released_leaves}
use Rattle.pfr_machine.proofs.WorldLemmas.{noted_ran}

module _ {F : Type 0} (accepts : Acceptance) (fuses : FusesState) (b whose : Bank) (seat : Sitting) (mine later other nv : FlashState) (latches : Latches) (board : Board F)
    (h : IsDesk b whose seat (desk_world b mine other nv latches board)) where
  same_judged : judged_active accepts b fuses (story_of (desk_world b mine other nv latches board)) ≡ judge_active (now mine) whose fuses accepts
  same_judged =
      ap (λ (image : List ℕ). judge_active image b fuses accepts) (image_mine b mine other nv latches board) ∙ ap (λ (x : Bank). judge_active (now mine) x fuses accepts) (sym h.owner)

  module _ (on : mine.powered ≡ true) (fed : nv.powered ≡ true) where
    pub distrusts : (why : ActiveFail) → active_failure why ≡ None → EndsAt (active_failure why) mine later
        → Answers {A = Manifest} active_failure (Err why) (judge_active (now mine) whose fuses accepts)
        → DistrustedBy accepts fuses why (record { bank = b; other = seat.line; world = desk_world b mine other nv latches board }) (record { bank = b; other = seat.line; world = desk_world b later other nv latches board })
    distrusts why none ends exact =
        let read : EndsAt None mine later = subst (λ (f : Option FlashFail). EndsAt f mine later) none ends in
        record {
          judged = same_judged ∙ answered why none (judge_active (now mine) whose fuses accepts) exact;
          cause = none;
          ran = mine_read b mine later other nv latches board on read;
          stays = stays_here b seat.line mine later other nv latches board (Ok tt) (read_on None mine later read on) fed;
        }
      where
        answered : (why : ActiveFail) → active_failure why ≡ None → (judged : Result Manifest ActiveFail) → Answers active_failure (Err why) judged → judged ≡ Err why
        answered why none judged exact = rw none at exact

module _ {F : Type 0} (dev : F → FlashState) (accepts : Acceptance) (fuses : FusesState) (b whose : Bank) (seat : Sitting) (mine later other : FlashState) (latch : Bool) (board : Board F)
    (h : IsDesk b whose seat (desk_world b mine other (dev board.nv) (latches_by b false latch) board)) where
  pub releases : mine.powered ≡ true → (dev board.nv).powered ≡ true → 1 ≤ (desk_world b mine other (dev board.nv) (latches_by b false latch) board).notes.spare → (manifest : Manifest) (at : Counts) (new : World) → EndsAt None mine later
      → judge_active (now mine) whose fuses accepts ≡ Ok manifest → at ≡ counts_in (desk_world b mine other (dev board.nv) (latches_by b false latch) board)
      → new ≡ with_note (Released b manifest.svn at) (desk_world b later other (dev board.nv) (latches_by b false latch) board)
      → ReleasedBy accepts fuses (record { bank = b; other = seat.line; world = desk_world b mine other (dev board.nv) (latches_by b false latch) board }) new
  releases on fed room manifest at new ends judged counts e =
      let old : World = desk_world b mine other (dev board.nv) (latches_by b false latch) board in
      let mid : World = desk_world b later other (dev board.nv) (latches_by b false latch) board in
      let what : What = Released b manifest.svn at in
      let read : Ran (called (device_of b) []) old mid = mine_read b mine later other (dev board.nv) (latches_by b false latch) board on ends in
      let same : old.notes ≡ mid.notes = desk_notes b mine other (dev board.nv) (latches_by b false latch) board ∙ sym (desk_notes b later other (dev board.nv) (latches_by b false latch) board) in
      let desk : IsDesk b whose seat mid = desk_worked b whose whose seat mine later other (dev board.nv) (latches_by b false latch) board refl (read_size None mine later ends) h in
      let left = released_leaves dev b whose seat later other latch board desk (read_on None mine later ends on) manifest.svn at (subst (λ (n : NotesState). 1 ≤ n.spare) same room) fed in
      let at_mid : what ≡ Released b manifest.svn (counts_in mid) = ap (λ (c : Counts). Released b manifest.svn c) (counts ∙ ap counts_of (sym read.is)) in
      record {
        manifest = manifest;
        judged = same_judged accepts fuses b whose seat mine mine other (dev board.nv) (latches_by b false latch) board h ∙ judged;
        ran = Ran-append (called (device_of b) []) (Says (Released b manifest.svn) ∷ []) old mid new read (noted_ran (Released b manifest.svn) what mid new at_mid e);
        leaves = subst (λ (w : World). LeavesSeated 1 (record { bank = b; other = seat.line; world = old }) w) (sym e)
            (record { mine = left.mine; other = left.other; notes = subst (λ (n : NotesState). AddsNotes 1 n (with_note what mid).notes) (sym same) left.notes; nv = left.nv });
      }
