-- What calls of the store do to a platform, one of whose banks is in work.
use Rattle.std.proofs.Common.{◌≡◌, ◌∙◌, refl, sym, ap, subst, ℕ, true, List, Result}
use Rattle.pfr_flash.specs.FlashState.{FlashState, now, size_of}
use Rattle.pfr_flash.specs.Layout.{IsBankSize}
use Rattle.pfr_flash.specs.Operation.{Operation}
use Rattle.pfr_flash.specs.Plan.{Follows}
use Rattle.pfr_flash.specs.declared.flash.FlashFail.{FlashFail}
use Rattle.pfr_flash.specs.declared.names.Bank.{Bank}
use Rattle.pfr_flash.specs.declared.names.Bank.TheVariants as bank
use Rattle.pfr_flash.specs.declared.names.Device.TheVariants as device
use Rattle.pfr_report.specs.NotesState.{NotesState}
use Rattle.pfr_report.specs.declared.note.Note.{Note}
use Rattle.pfr_story.specs.Goes.{Goes}
use Rattle.pfr_story.specs.Plans.{store}
use Rattle.pfr_story.specs.Standing.{standing_of}
use Rattle.pfr_story.specs.Story.{called, device_of, other_bank}
use Rattle.pfr_story.specs.World.{World, state_at}
use Rattle.pfr_story.proofs.Lift.{OnlyAt, Goes-follows, at_device}
use Rattle.pfr_machine.specs.Inside.{IsDesk, KeepsLaid}
use Rattle.pfr_machine.specs.Worlds.{Latches, Sitting, desk_world}
use Rattle.pfr_machine.specs.declared.board.Board.{Board}
use Rattle.pfr_machine.proofs.DeskLemmas.{Goes-as, desk_notes, state_mine, state_other, state_store}
use Rattle.pfr_machine.proofs.WorldLemmas.{board_stays, seat_stays}

-- ---- a bank stays in work while the store works
fed_stays : (b owner : Bank) (seat : Sitting) (old new : World)
    → state_at (device_of b) new ≡ state_at (device_of b) old → state_at (device_of (other_bank b)) new ≡ state_at (device_of (other_bank b)) old
    → size_of new.nv ≡ size_of old.nv → KeepsLaid (now old.nv) (now new.nv) → new.notes.list ≡ old.notes.list
    → IsDesk b owner seat old → IsDesk b owner seat new
fed_stays b owner seat old new mine other size keeps list h = record {
  owner = h.owner;
  size = subst (λ (d : FlashState). IsBankSize (size_of d)) (sym mine) h.size;
  stands = ap (λ (l : List Note). standing_of b l) list ∙ h.stands;
  other = seat_stays (other_bank b) seat old new (ap size_of other) list (λ on. ap (λ (d : FlashState). d.powered) other ∙ h.other.on on) keeps h.other;
  board = board_stays old new size list h.board;
}

-- ---- a call of the store
pub stored_desk : {F : Type 0} (b owner : Bank) (seat : Sitting) (mine other nv later : FlashState) (latches : Latches) (board : Board F) (held : F) → size_of later ≡ size_of nv → KeepsLaid (now nv) (now later)
    → IsDesk b owner seat (desk_world b mine other nv latches board) → IsDesk b owner seat (desk_world b mine other later latches (record board { nv = held }))
stored_desk {F} b owner seat mine other nv later latches board held size keeps h =
    let old = state_store b mine other nv latches board in
    let new = state_store b mine other later latches (record board { nv = held }) in
    fed_stays b owner seat (desk_world b mine other nv latches board) (desk_world b mine other later latches (record board { nv = held }))
    (state_mine b mine other later latches (record board { nv = held }) ∙ sym (state_mine b mine other nv latches board))
    (state_other b mine other later latches (record board { nv = held }) ∙ sym (state_other b mine other nv latches board))
    (ap size_of new ∙ (size ∙ sym (ap size_of old)))
    (subst (λ (d : FlashState). KeepsLaid (now d) (now (desk_world b mine other later latches (record board { nv = held })).nv)) (sym old)
    (subst (λ (d : FlashState). KeepsLaid (now nv) (now d)) (sym new) keeps))
    (ap (λ (n : NotesState). n.list) (desk_notes b mine other later latches (record board { nv = held }) ∙ sym (desk_notes b mine other nv latches board))) h

pub stored_mine : {F : Type 0} (b : Bank) (mine other nv later : FlashState) (latches : Latches) (board : Board F) (held : F)
    → state_at (device_of b) (desk_world b mine other later latches (record board { nv = held })) ≡ state_at (device_of b) (desk_world b mine other nv latches board)
stored_mine b mine other nv later latches board held =
    state_mine b mine other later latches (record board { nv = held }) ∙ sym (state_mine b mine other nv latches board)

module _ {F : Type 0} (b : Bank) (mine other nv later : FlashState) (latches : Latches) (board : Board F) (held : F) (on : nv.powered ≡ true) where
  only_stored : OnlyAt device.Nv (desk_world b mine other nv latches board) (desk_world b mine other later latches (record board { nv = held }))
  only_stored = by_bank b
    where
      by_bank : (b : Bank) → OnlyAt device.Nv (desk_world b mine other nv latches board) (desk_world b mine other later latches (record board { nv = held }))
      by_bank bank.Bmc = record { others = (refl, refl); item = refl; notes = refl; guards = refl }
      by_bank bank.Pch = record { others = (refl, refl); item = refl; notes = refl; guards = refl }

  -- by what the store's bytes say
  pub stored_goes : {A : Type 0} (ops : List ℕ → List Operation) (r : Result A FlashFail) → Follows (ops (now nv)) nv later r
      → Goes (λ story. called device.Nv (ops (store story))) (desk_world b mine other nv latches board) (desk_world b mine other later latches (record board { nv = held })) (at_device device.Nv r)
  stored_goes ops r h =
      let old = state_store b mine other nv latches board in
      let new = state_store b mine other later latches (record board { nv = held }) in
      Goes-as (λ _. called device.Nv (ops (now nv))) (λ story. called device.Nv (ops (store story))) (desk_world b mine other nv latches board) (desk_world b mine other later latches (record board { nv = held })) (at_device device.Nv r)
      (ap (λ (d : FlashState). called device.Nv (ops (now d))) (sym old))
      (Goes-follows device.Nv (ops (now nv)) (desk_world b mine other nv latches board) (desk_world b mine other later latches (record board { nv = held })) r only_stored
      (subst (λ (d : FlashState). d.powered ≡ true) (sym old) on)
      (subst (λ (d : FlashState). Follows (ops (now nv)) d (desk_world b mine other later latches (record board { nv = held })).nv r) (sym old)
      (subst (λ (d : FlashState). Follows (ops (now nv)) nv d r) (sym new) h)))

  -- the same of a bank that is this one
  pub stored_called : {A : Type 0} (ops : List ℕ → Bank → List Operation) (owner : Bank) (r : Result A FlashFail) → owner ≡ b → Follows (ops (now nv) owner) nv later r
      → Goes (λ story. called device.Nv (ops (store story) b)) (desk_world b mine other nv latches board) (desk_world b mine other later latches (record board { nv = held })) (at_device device.Nv r)
  stored_called ops owner r e h = stored_goes (λ image. ops image b) r (subst (λ (x : Bank). Follows (ops (now nv) x) nv later r) e h)
