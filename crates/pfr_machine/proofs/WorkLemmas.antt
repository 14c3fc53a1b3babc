-- Work on a bank from where it is held for it.
use Rattle.std.proofs.Common.{◌≡◌, ◌≢◌, ◌∙◌, refl, sym, ap, subst, ℕ, ◌+◌, ◌≤◌, [], ◌∷◌, arith, inl, inr, Result, Ok, Err}
use Rattle.pfr_flash.specs.FlashState.{FlashState, now, size_of}
use Rattle.pfr_flash.specs.declared.flash.FlashFail.{FlashFail}
use Rattle.pfr_flash.specs.declared.names.Bank.{Bank}
use Rattle.pfr_engine.specs.Acceptance.{Acceptance}
use Rattle.pfr_fuses.specs.FusesState.{FusesState}
use Rattle.pfr_fuses.specs.FusesOf.{fuses_of}
use Rattle.pfr_fuses.specs.declared.fuse_fail.FuseFail.{FuseFail}
use Rattle.pfr_report.specs.declared.note.LockWhy.{LockWhy}
use Rattle.pfr_report.specs.declared.note.What.TheVariants.{Held, Locked}
use Rattle.pfr_story.specs.Standing.{standing_of, standing_by, Off}
use Rattle.pfr_story.specs.Story.{Story, Says, Plan, after, then, says, device_of, other_bank}
use Rattle.pfr_story.specs.World.{World, story_of, state_at}
use Rattle.pfr_story.specs.Goes.{Ran, Stopped, Goes}
use Rattle.pfr_story.specs.Plans.{asks_store, ready_in, ready_of}
use Rattle.pfr_story.specs.Course.{CrossesOrFaults}
use Rattle.pfr_story.specs.Turn.{fault_of}
use Rattle.pfr_story.specs.declared.line.Line.{Line}
use Rattle.pfr_story.specs.declared.stop.Stop.{Stop}
use Rattle.pfr_story.proofs.Sequence.{Ran-append, Stopped-next}
use Rattle.pfr_machine.specs.Worlds.{AddsNotes, DeskState, Latches, Stays, desk_world}
use Rattle.pfr_machine.specs.Ready.{LeavesSeated, HaltsIn, EndsSeated, BroughtUp, Brings, Ended}
use Rattle.pfr_machine.specs.Working.{by_fuses, by_work, work_stretch}
use Rattle.pfr_machine.specs.declared.board.Board.{Board}
use Rattle.pfr_machine.specs.declared.desk.Halt.{Halt}
use Rattle.pfr_machine.specs.declared.working.Dark.{Dark}
use Rattle.pfr_machine.specs.declared.working.Work.{Work}
use Rattle.pfr_machine.specs.declared.working.Work.TheVariants.{BringUp, Recover, Update}
use Rattle.pfr_machine.proofs.WorldLemmas.{AddsNotes-then, AddsNotes-most}
use Rattle.pfr_machine.proofs.DeskLemmas.{state_mine}
use Rattle.pfr_machine.proofs.EndsLemmas.{DoneSeated, ends_as, ends_then, halts_called, halts_first, leaves_most, size_now}

-- ---- by what the store provisions the platform with
ready_at : (b : Bank) (w : World) (size : ℕ) (found : Result FusesState FuseFail) (r : Result FusesState LockWhy) → size ≡ size_of (state_at (device_of b) w) → found ≡ fuses_of (now w.nv) → r ≡ ready_in b size found
    → ready_of b (story_of w) ≡ r
ready_at b w size found r s f is =
    ap (λ (n : ℕ). ready_in b n (fuses_of (now w.nv))) (size_now b w ∙ sym s) ∙ (ap (λ (x : Result FusesState FuseFail). ready_in b size x) (sym f) ∙ sym is)

-- the same at the desk
pub ready_found : {F : Type 0} (b : Bank) (device other nv : FlashState) (latches : Latches) (board : Board F) (desk : DeskState) (size : ℕ) (found : Result FusesState FuseFail) (r : Result FusesState LockWhy) {how : Line}
    → record { bank = b; other = how; world = desk_world b device other nv latches board } ≡ desk → size ≡ size_of device → found ≡ fuses_of (now desk.world.nv) → r ≡ ready_in b size found → ready_of desk.bank (story_of desk.world) ≡ r
ready_found b device other nv latches board desk size found r {how} view s f is =
    let here : size ≡ size_of (state_at (device_of desk.bank) desk.world) = s ∙ (ap (λ (d : FlashState). size_of d) (sym (state_mine b device other nv latches board)) ∙ ap (λ (d : DeskState). size_of (state_at (device_of d.bank) d.world)) view) in
    ready_at desk.bank desk.world size found r here f (is ∙ ap (λ (x : Bank). ready_in x size found) (ap (λ (d : DeskState). d.bank) view))

-- without fuses to check it by, the bank is locked
work_locked : (accepts : Acceptance) (b : Bank) (work : Work) (why : LockWhy) (story : Story) → by_work accepts b work (Err why) story ≡ Says (Locked b why) ∷ []
work_locked accepts b BringUp why story = refl
work_locked accepts b (Recover level) why story = refl
work_locked accepts b (Update intent) why story = refl

module _ (accepts : Acceptance) (work : Work) (old : DeskState) where
  pub readied : {F : Type 0} (found : Result FusesState LockWhy) (r : Result World (Halt F)) → ready_of old.bank (story_of old.world) ≡ found
      → EndsSeated (by_work accepts old.bank work found) 5 old r → EndsSeated (by_fuses accepts work old.bank) 5 old r
  readied found r is e = ends_as (by_work accepts old.bank work found) (by_fuses accepts work old.bank) 5 old r (ap (λ (x : Result FusesState LockWhy). by_work accepts old.bank work x (story_of old.world)) (sym is)) e

  pub readied_locked : (why : LockWhy) (new : World) → ready_of old.bank (story_of old.world) ≡ Err why → Ran (Says (Locked old.bank why) ∷ []) old.world new → LeavesSeated 1 old new
      → DoneSeated (by_fuses accepts work old.bank) 5 old new
  readied_locked why new is ran leaves =
      ends_as {F = Unit {0}} (says (Locked old.bank why)) (by_fuses accepts work old.bank) 5 old (Ok new)
      (sym (work_locked accepts old.bank work why (story_of old.world)) ∙ ap (λ (x : Result FusesState LockWhy). by_work accepts old.bank work x (story_of old.world)) (sym is))
      (ran, leaves_most 1 5 old new (omega arith) leaves)

  pub loaded_ends : {T F : Type 0} (mid : DeskState) (answer : Result T Stop) (r : Result World (Halt F)) → Ran (asks_store (story_of old.world)) old.world mid.world → Stays 0 old mid answer
      → EndsSeated (by_fuses accepts work mid.bank) 5 mid r → EndsSeated (then asks_store (by_fuses accepts work old.bank)) 5 old r
  loaded_ends mid answer r p s e =
      ends_then asks_store (by_fuses accepts work old.bank) 0 5 old mid answer r p s (subst (λ (b : Bank). EndsSeated (by_fuses accepts work b) 5 mid r) s.bank e)

  pub loaded_halted : {T : Type 0} (stop : Stop) (new : DeskState) → Goes {T = T} asks_store old.world new.world (Err stop) → Stays {T = T} 0 old new (Err stop)
      → HaltsIn (then asks_store (by_fuses accepts work old.bank)) 5 old stop new
  loaded_halted stop new g s = halts_first asks_store (by_fuses accepts work old.bank) 0 5 old stop new (omega arith) (halts_called asks_store 0 old stop new g s)

-- ---- the whole: it is held first
module _ (accepts : Acceptance) (which : Bank) (work : Work) (old : World) (held : DeskState) (b : held.bank ≡ which) (o : standing_by held.other ≡ standing_of (other_bank which) old.notes.list)
    (p : Ran (Says (Held which) ∷ []) old held.world) (n : AddsNotes 1 old.notes held.world.notes) where
  brought_ran : (new : World) → Ran (then asks_store (by_fuses accepts work which) (story_of held.world)) held.world new → Ran ((work_stretch accepts which work).plan (story_of old)) old new
  brought_ran new q =
      let next : Plan = then asks_store (by_fuses accepts work which) in
      Ran-append (Says (Held which) ∷ []) (next (after (Says (Held which) ∷ []) (story_of old))) old held.world new p (subst (λ (s : Story). Ran (next s) held.world new) p.is q)

  leaves_up : (m : ℕ) (desk : DeskState) (new : World) → desk.bank ≡ which → desk.other ≡ held.other → AddsNotes m old.notes desk.world.notes → (k : ℕ) → LeavesSeated k desk new → BroughtUp which (m + k) old new
  leaves_up m desk new db line_same notes k l = record {
    mine = subst (λ (x : Bank). standing_of x new.notes.list ≢ Off) db l.mine;
    other = ap (λ (x : Bank). standing_of (other_bank x) new.notes.list) (sym db) ∙ (l.other ∙ (ap (λ (how : Line). standing_by how) line_same ∙ o));
    notes = AddsNotes-then m k old.notes desk.world.notes new.notes notes l.notes;
    nv = l.nv;
  }

  brought_most : (m : ℕ) (new : World) → m ≤ 7 → BroughtUp which m old new → BroughtUp which 7 old new
  brought_most m new le u = record { mine = u.mine; other = u.other; notes = AddsNotes-most m 7 old.notes new.notes u.notes le; nv = u.nv }

  pub brought_ok : (new : World) → DoneSeated (then asks_store (by_fuses accepts work held.bank)) 5 held new
      → CrossesOrFaults (work_stretch accepts which work) old new × BroughtUp which 7 old new
  brought_ok new e = (
    inl (brought_ran new (subst (λ (x : Bank). Ran (then asks_store (by_fuses accepts work x) (story_of held.world)) held.world new) b e.0)),
    brought_most 6 new (omega arith) (leaves_up 1 held new b refl n 5 e.1),
  )

  brought_stopped : (stop : Stop) (desk : DeskState) → HaltsIn (then asks_store (by_fuses accepts work held.bank)) 5 held stop desk
      → Stopped ((work_stretch accepts which work).plan (story_of old)) stop.device stop.fail old desk.world
  brought_stopped stop desk h =
      let next : Plan = then asks_store (by_fuses accepts work which) in
      Stopped-next (says (Held which)) next stop.device stop.fail old held.world desk.world p
      (subst (λ (x : Bank). Stopped (then asks_store (by_fuses accepts work x) (story_of held.world)) stop.device stop.fail held.world desk.world) b h.stopped)

  -- it ends with a lock, or the power went
  pub brought_halted : {F : Type 0} (halt : Halt F) (r : Result World (Dark F)) → HaltsIn (then asks_store (by_fuses accepts work held.bank)) 5 held halt.stop halt.desk
      → Ended halt r → Brings (work_stretch accepts which work) which 7 old r
  brought_halted halt (Ok new) h e =
      let notes = AddsNotes-then 1 5 old.notes held.world.notes halt.desk.world.notes n h.stays.notes in
      let same : halt.desk.bank ≡ which = h.stays.bank ∙ b in (
        inr (record {
          which = halt.stop.device;
          at = halt.desk.world;
          stopped = subst (λ (fail : FlashFail). Stopped ((work_stretch accepts which work).plan (story_of old)) halt.stop.device fail old halt.desk.world) e.0 (brought_stopped halt.stop halt.desk h);
          noted = subst (λ (x : Bank). Ran (Says (Locked x (fault_of halt.stop.device)) ∷ []) halt.desk.world new) same e.1;
        }),
        brought_most 7 new (omega arith) (leaves_up 6 halt.desk new same h.stays.other notes 1 e.2),
      )
  brought_halted halt (Err dark) h e =
      let notes = AddsNotes-then 1 5 old.notes held.world.notes halt.desk.world.notes n h.stays.notes in (
        record {
          which = halt.stop.device;
          at = halt.desk.world;
          stopped = subst (λ (fail : FlashFail). Stopped ((work_stretch accepts which work).plan (story_of old)) halt.stop.device fail old halt.desk.world) e.0 (brought_stopped halt.stop halt.desk h);
          noted = e.1;
        },
        e.2,
        AddsNotes-most 7 7 old.notes dark.inner.notes (AddsNotes-then 6 1 old.notes halt.desk.world.notes dark.inner.notes notes e.3) (omega arith),
      )
