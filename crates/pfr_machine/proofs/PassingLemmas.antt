-- A pass over the pages of a bank in work: what it is of the platform, and what stays.
use Rattle.std.proofs.Common.{◌≡◌, ◌∙◌, refl, sym, ap, subst, arith, ℕ, true, List, length, Result, Ok, Err}
use Rattle.pfr_flash.specs.FlashState.{FlashState, now, size_of}
use Rattle.pfr_flash.specs.Range.{SameOutside}
use Rattle.pfr_flash.specs.declared.layout.Layout.{Layout}
use Rattle.pfr_flash.specs.declared.names.Bank.{Bank}
use Rattle.pfr_flash.specs.declared.names.Bank.TheVariants as bank
use Rattle.pfr_flash.proofs.RangeLemmas.{SameOutside-wider, length-now}
use Rattle.pfr_fuses.specs.FusesOf.{fuses_of}
use Rattle.pfr_fuses.proofs.StaysLemmas.{fuses_of-same}
use Rattle.pfr_jobs.specs.Log.{log_at}
use Rattle.pfr_jobs.specs.LogState.{LogState}
use Rattle.pfr_jobs.proofs.BeginLaw.{log_high, log_low}
use Rattle.pfr_strokes.specs.Deeds.{Deed}
use Rattle.pfr_strokes.specs.Passes.{Pair, Passes, at_side}
use Rattle.pfr_strokes.specs.declared.side.Side.{Side}
use Rattle.pfr_strokes.specs.declared.side.Side.TheVariants as side
use Rattle.pfr_strokes.specs.declared.side.CopyFail.{CopyFail}
use Rattle.pfr_strokes.specs.declared.side.CopyFail.TheVariants as fails
use Rattle.pfr_copy.specs.Marking.{HasLog}
use Rattle.pfr_copy.specs.declared.marks.Marks.{Marks}
use Rattle.pfr_copy.specs.declared.marks.Marks.TheVariants.{Heed, Ignore, Without}
use Rattle.pfr_story.specs.Deeds.{deed_moves}
use Rattle.pfr_story.specs.Goes.{Goes}
use Rattle.pfr_story.specs.Plans.{mine, store}
use Rattle.pfr_story.specs.World.{World, story_of}
use Rattle.pfr_story.specs.declared.line.Line.{Line}
use Rattle.pfr_story.specs.declared.stop.Stop.{Stop}
use Rattle.pfr_story.proofs.Lift.{Goes-passes, OnlyBoth, at_pair, pair_of}
use Rattle.pfr_machine.specs.Inside.{IsDesk}
use Rattle.pfr_machine.specs.Passing.{KnowsLog, stop_at}
use Rattle.pfr_machine.specs.Worlds.{IsAwake, Latches, Sitting, Stays, StaysAwake, desk_world}
use Rattle.pfr_machine.specs.declared.board.Board.{Board}
use Rattle.pfr_machine.proofs.DeskLemmas.{Goes-as, awake_at, awake_mine, awake_store, desk_notes, desk_worked, image_mine, state_store}
use Rattle.pfr_machine.proofs.LogLemmas.{fuses_keep, length_stays}
use Rattle.pfr_machine.proofs.StoredLemmas.{stored_desk}
use Rattle.pfr_machine.proofs.WorldLemmas.{AddsNotes-same}

-- ---- what a pass leaves of both devices
pub passed_start : {T : Type 0} (deeds : List Deed) (a b : Pair) (r : Result T CopyFail) → Passes deeds a b r → (s : Side) → (at_side s b).start ≡ (at_side s a).start
passed_start deeds a b (Ok x) h s = (h.each s).worked.moved.start
passed_start deeds a b (Err (fails.Bank fail)) h side.Bank = h.here.worked.moved.start
passed_start deeds a b (Err (fails.Bank fail)) h side.Store = h.there.worked.moved.start
passed_start deeds a b (Err (fails.Store fail)) h side.Bank = h.there.worked.moved.start
passed_start deeds a b (Err (fails.Store fail)) h side.Store = h.here.worked.moved.start

-- a store that is the same outside of a log has the same fuses
pub outside_fuses : (b : Bank) (old new : FlashState) → size_of old ≡ 32768 → new.start ≡ old.start → SameOutside (log_at b) 0x3000 (now old) (now new) → fuses_of (now new) ≡ fuses_of (now old)
outside_fuses b old new size start outside =
    fuses_of-same (now old) (now new) (record {
      outside = SameOutside-wider (log_at b) 0x3000 4096 24576 (now old) (now new) (log_low b) (omega (arith, log_high b)) outside;
      size = length_stays old new start;
      whole = length-now old ∙ size;
    })

-- what is known of a log, of a store of 32,768 bytes
pub knows_log : (marks : Marks) (b owner : Bank) (nv : FlashState) (size : ℕ) (log : LogState) → owner ≡ b → size ≡ 32768 → KnowsLog marks b (now nv) log → HasLog marks owner (now nv) size log
knows_log Heed b owner nv size log own whole h =
    subst (λ (x : Bank). HasLog Heed x (now nv) size log) (sym own) (record { whole = whole; stands = h.stands; opened = λ none. h.opened (ap (λ (l : LogState). l.job) h.stands ∙ none) })
knows_log Ignore b owner nv size log own whole h =
    subst (λ (x : Bank). HasLog Ignore x (now nv) size log) (sym own) (record { whole = whole; stands = h.stands; opened = λ none. h.opened (ap (λ (l : LogState). l.job) h.stands ∙ none) })
knows_log Without b owner nv size log own whole h = tt

-- ---- the answer of a pass, as the platform's
abbrev pub passed_at : {A : Type 0} → Bank → Result A CopyFail → Result A Stop
passed_at b (Ok x) = Ok x
passed_at b (Err fail) = Err (stop_at b fail)

same_answer : {A : Type 0} (b : Bank) (r : Result A CopyFail) → at_pair b r ≡ passed_at b r
same_answer b (Ok x) = refl
same_answer b (Err (fails.Bank fail)) = refl
same_answer b (Err (fails.Store fail)) = refl

-- ---- the platform, of which the bank's device and the store worked
module _ {F : Type 0} (b : Bank) (mine_at later other nv served : FlashState) (latches : Latches) (board : Board F) (held : F) where
  old : World
  old = desk_world b mine_at other nv latches board

  new : World
  new = desk_world b later other served latches (record board { nv = held })

  pub store_whole : (owner : Bank) (seat : Sitting) → IsDesk b owner seat (desk_world b mine_at other nv latches board) → size_of nv ≡ 32768
  store_whole owner seat h = subst (λ (d : FlashState). size_of d ≡ 32768) (state_store b mine_at other nv latches board) h.board.size

  -- what is known of the log
  pub desk_knows : (marks : Marks) (owner : Bank) (seat : Sitting) (log : LogState) → IsDesk b owner seat (desk_world b mine_at other nv latches board) → KnowsLog marks b (now (desk_world b mine_at other nv latches board).nv) log
      → HasLog marks owner (now nv) (size_of nv) log
  desk_knows marks owner seat log h known =
      knows_log marks b owner nv (size_of nv) log h.owner (store_whole owner seat h) (subst (λ (d : FlashState). KnowsLog marks b (now d) log) (state_store b mine_at other nv latches board) known)

  pub passed_fuses : {T : Type 0} (owner which : Bank) (seat : Sitting) (deeds : List Deed) (r : Result T CopyFail) → IsDesk b owner seat (desk_world b mine_at other nv latches board)
      → Passes deeds (record { bank = mine_at; store = nv }) (record { bank = later; store = served }) r → SameOutside (log_at which) 0x3000 (now nv) (now served) → fuses_of (now served) ≡ fuses_of (now nv)
  passed_fuses owner which seat deeds r h passes outside =
      outside_fuses which nv served (store_whole owner seat h) (passed_start deeds (record { bank = mine_at; store = nv }) (record { bank = later; store = served }) r passes side.Store) outside

  pub world_fuses : {T : Type 0} (owner which : Bank) (seat : Sitting) (deeds : List Deed) (r : Result T CopyFail) → IsDesk b owner seat (desk_world b mine_at other nv latches board)
      → Passes deeds (record { bank = mine_at; store = nv }) (record { bank = later; store = served }) r → SameOutside (log_at which) 0x3000 (now nv) (now served)
      → fuses_of (now (desk_world b later other served latches (record board { nv = held })).nv) ≡ fuses_of (now (desk_world b mine_at other nv latches board).nv)
  world_fuses owner which seat deeds r h passes outside =
      ap (λ (d : FlashState). fuses_of (now d)) (state_store b later other served latches (record board { nv = held }))
      ∙ passed_fuses owner which seat deeds r h passes outside
      ∙ ap (λ (d : FlashState). fuses_of (now d)) (sym (state_store b mine_at other nv latches board))

  pub passed_desk : {T : Type 0} (owner later_owner which : Bank) (seat : Sitting) (deeds : List Deed) (r : Result T CopyFail) → later_owner ≡ owner
      → Passes deeds (record { bank = mine_at; store = nv }) (record { bank = later; store = served }) r → SameOutside (log_at which) 0x3000 (now nv) (now served)
      → IsDesk b owner seat (desk_world b mine_at other nv latches board) → IsDesk b later_owner seat (desk_world b later other served latches (record board { nv = held }))
  passed_desk owner later_owner which seat deeds r owned passes outside h =
      let start = passed_start deeds (record { bank = mine_at; store = nv }) (record { bank = later; store = served }) r passes in
      stored_desk b later_owner seat later other nv served latches board held (ap (λ (bytes : List ℕ). length bytes) (start side.Store)) (fuses_keep (now nv) (now served) (passed_fuses owner which seat deeds r h passes outside))
      (desk_worked b owner later_owner seat mine_at later other nv latches board owned (ap (λ (bytes : List ℕ). length bytes) (start side.Bank)) h)

  only_both : OnlyBoth b old new
  unfolding old new
  only_both = by_bank b
    where
      by_bank : (c : Bank) → OnlyBoth c (desk_world c mine_at other nv latches board) (desk_world c later other served latches (record board { nv = held }))
      by_bank bank.Bmc = record { other = refl; item = refl; notes = refl; guards = refl }
      by_bank bank.Pch = record { other = refl; item = refl; notes = refl; guards = refl }

  pair_old : pair_of b old ≡ record { bank = mine_at; store = nv }
  unfolding old
  pair_old = by_bank b
    where
      by_bank : (c : Bank) → pair_of c (desk_world c mine_at other nv latches board) ≡ record { bank = mine_at; store = nv }
      by_bank bank.Bmc = refl
      by_bank bank.Pch = refl

  pair_new : pair_of b new ≡ record { bank = later; store = served }
  unfolding new
  pair_new = by_bank b
    where
      by_bank : (c : Bank) → pair_of c (desk_world c later other served latches (record board { nv = held })) ≡ record { bank = later; store = served }
      by_bank bank.Bmc = refl
      by_bank bank.Pch = refl

  each_on : IsAwake b old → (s : Side) → (at_side s (pair_of b old)).powered ≡ true
  each_on awake side.Bank = awake.mine
  each_on awake side.Store = awake.nv

  -- what is done is by what the bytes say
  pub passed_goes : (deeds : Bank → Layout → List ℕ → List ℕ → List Deed) (owner : Bank) (layout laid : Layout) (r : Result (Unit {0}) CopyFail) → owner ≡ b → layout ≡ laid → IsAwake b (desk_world b mine_at other nv latches board)
      → Passes (deeds owner layout (now mine_at) (now nv)) (record { bank = mine_at; store = nv }) (record { bank = later; store = served }) r
      → Goes (λ story. deed_moves b (deeds b laid (mine b story) (store story))) (desk_world b mine_at other nv latches board) (desk_world b later other served latches (record board { nv = held })) (passed_at b r)
  unfolding old new
  passed_goes deeds owner layout laid r own lies awake h =
      let here : Passes (deeds b laid (now mine_at) (now nv)) (record { bank = mine_at; store = nv }) (record { bank = later; store = served }) r =
      subst (λ (x : Bank). Passes (deeds x laid (now mine_at) (now nv)) (record { bank = mine_at; store = nv }) (record { bank = later; store = served }) r) own
      (subst (λ (l : Layout). Passes (deeds owner l (now mine_at) (now nv)) (record { bank = mine_at; store = nv }) (record { bank = later; store = served }) r) lies h) in
      subst (λ (x : Result (Unit {0}) Stop). Goes (λ story. deed_moves b (deeds b laid (mine b story) (store story))) old new x) (same_answer b r)
      (Goes-as (λ _. deed_moves b (deeds b laid (now mine_at) (now nv))) (λ story. deed_moves b (deeds b laid (mine b story) (store story))) old new (at_pair b r)
      (ap (λ (image : List ℕ). deed_moves b (deeds b laid image (now nv))) (sym (image_mine b mine_at other nv latches board))
      ∙ ap (λ (bytes : List ℕ). deed_moves b (deeds b laid (mine b (story_of old)) bytes)) (sym (ap now (state_store b mine_at other nv latches board))))
      (Goes-passes b (deeds b laid (now mine_at) (now nv)) old new r only_both (each_on awake)
      (subst (λ (p : Pair). Passes (deeds b laid (now mine_at) (now nv)) p (pair_of b new) r) (sym pair_old)
      (subst (λ (p : Pair). Passes (deeds b laid (now mine_at) (now nv)) (record { bank = mine_at; store = nv }) p r) (sym pair_new) here))))

  -- a device that did its own has power still
  module _ (how : Line) (awake : IsAwake b (desk_world b mine_at other nv latches board)) where
    on : mine_at.powered ≡ true
    on = awake_mine b mine_at other nv latches board awake

    fed : nv.powered ≡ true
    fed = awake_store b mine_at other nv latches board awake

    awake_by : {T : Type 0} (deeds : List Deed) (r : Result T CopyFail) → Passes deeds (record { bank = mine_at; store = nv }) (record { bank = later; store = served }) r → StaysAwake b new (passed_at b r)
    unfolding new
    awake_by deeds (Ok x) h =
        awake_at b later other served latches (record board { nv = held }) (ap (λ (d : FlashState). d.powered) (h.each side.Bank).whole ∙ on) (ap (λ (d : FlashState). d.powered) (h.each side.Store).whole ∙ fed)
    awake_by deeds (Err (fails.Bank fail)) h = λ e.
        awake_at b later other served latches (record board { nv = held }) (h.here.still e ∙ on) (ap (λ (d : FlashState). d.powered) h.there.whole ∙ fed)
    awake_by deeds (Err (fails.Store fail)) h = λ e.
        awake_at b later other served latches (record board { nv = held }) (ap (λ (d : FlashState). d.powered) h.there.whole ∙ on) (h.here.still e ∙ fed)

    pub passed_stays : {T : Type 0} (deeds : List Deed) (r : Result T CopyFail) → Passes deeds (record { bank = mine_at; store = nv }) (record { bank = later; store = served }) r
        → Stays {T = T} 0 (record { bank = b; other = how; world = desk_world b mine_at other nv latches board }) (record { bank = b; other = how; world = desk_world b later other served latches (record board { nv = held }) }) (passed_at b r)
    unfolding new
    passed_stays deeds r h = record {
      bank = refl;
      other = refl;
      notes = AddsNotes-same (desk_world b mine_at other nv latches board).notes (desk_world b later other served latches (record board { nv = held })).notes
          (desk_notes b later other served latches (record board { nv = held }) ∙ sym (desk_notes b mine_at other nv latches board));
      awake = awake_by deeds r h;
    }
