-- Watches that tick and expire, and stages that are passed.
use Rattle.std.proofs.Common.{◌≡◌, ◌≢◌, ◌∙◌, refl, sym, ap, subst, ℕ, ◌+◌, ◌≤◌, Bool, true, false, List, [], ◌∷◌, arith, inl, inr, Result, Ok, Err}
use Rattle.std.specs.Prelude.{◌&&◌, nat_lt}
use Rattle.pfr_flash.specs.declared.names.Bank.{Bank}
use Rattle.pfr_flash.specs.declared.names.Bank.TheVariants as bank
use Rattle.pfr_engine.specs.Acceptance.{Acceptance}
use Rattle.pfr_watch.specs.Watching.{expires}
use Rattle.pfr_watch.specs.declared.stage.Stage.{Stage}
use Rattle.pfr_watch.specs.declared.stage.Stage.TheVariants as stage
use Rattle.pfr_script.specs.declared.event.Event.TheVariants.{Tick}
use Rattle.pfr_report.specs.declared.note.LockWhy.TheVariants.{WatchdogSpent}
use Rattle.pfr_report.specs.declared.note.What.TheVariants.{Expired, Held, Locked}
use Rattle.pfr_story.specs.Course.{Stretch, CrossesOrFaults, Follows, Steps}
use Rattle.pfr_story.specs.Goes.{Ran}
use Rattle.pfr_story.specs.Guards.{guard_at}
use Rattle.pfr_story.specs.Plans.{by_level, expired, expired_to, level_after}
use Rattle.pfr_story.specs.Standing.{Standing, Off, Held as IsHeld, Locked as IsLocked, Running, is_running, standing_after, standing_by, standing_of}
use Rattle.pfr_story.specs.Story.{Move, Says, other_bank, says, then}
use Rattle.pfr_story.specs.Turn.{expiry_stretch, is_due, pass_note, tick_course}
use Rattle.pfr_story.specs.World.{World, story_of}
use Rattle.pfr_story.proofs.Sequence.{Ran-append, Ran-refl}
use Rattle.pfr_machine.specs.Inside.{IsWhole}
use Rattle.pfr_machine.specs.Ready.{AreBrought, Brings, BroughtUp, LeavesSeated}
use Rattle.pfr_machine.specs.Watching.{AreUp, BringsDue, ExpiresDue, clocked, due_stretches}
use Rattle.pfr_machine.specs.Working.{work_stretch}
use Rattle.pfr_machine.specs.Worlds.{AddsNotes, DeskState, with_note}
use Rattle.pfr_machine.specs.declared.working.Dark.{Dark}
use Rattle.pfr_machine.specs.declared.working.Work.TheVariants.{Recover}
use Rattle.pfr_machine.proofs.StretchLemmas.{both_up, brought_behind, lost_behind, one_brought, one_lost}
use Rattle.pfr_machine.proofs.StandLemmas.{neither_off, still_stands}
use Rattle.pfr_machine.proofs.TurnLemmas.{both_steps, second_lost}
use Rattle.pfr_machine.proofs.WorldLemmas.{AddsNotes-most, AddsNotes-noted, AddsNotes-then, noted_ran}

-- ---- a watch expired
module _ (accepts : Acceptance) (b : Bank) (level : ℕ) (old mid : World) (is : level ≡ level_after (guard_at b old.guards).watch) (e : mid ≡ with_note (Expired b level) old) (room : 1 ≤ old.notes.spare) where
  told : Ran (Says (λ _. Expired b level) ∷ []) old mid
  told = noted_ran (λ _. Expired b level) (Expired b level) old mid refl e

  stands : (which : Bank) → standing_of which mid.notes.list ≡ standing_of which old.notes.list
  stands = still_stands (Expired b level) old mid (λ which s. refl) e

  adds : AddsNotes 1 old.notes mid.notes
  adds = subst (λ (w : World). AddsNotes 1 old.notes w.notes) (sym e) (AddsNotes-noted (Expired b level) old room)

  -- what is done behind the note
  plan_is : (few : Bool) → nat_lt level 4 ≡ few → expired accepts b (story_of old) ≡ then (says (λ _. Expired b level)) (then (says (Held b)) (by_level accepts b level few)) (story_of old)
  plan_is few test =
      ap (λ (l : ℕ). expired_to accepts b l (story_of old)) (sym is)
      ∙ ap (λ (x : Bool). then (says (λ _. Expired b level)) (then (says (Held b)) (by_level accepts b level x)) (story_of old)) test

  up_behind : (most : ℕ) (new : World) → BroughtUp b most mid new → BroughtUp b (1 + most) old new
  up_behind most new u = record { mine = u.mine; other = u.other ∙ stands (other_bank b); notes = AddsNotes-then 1 most old.notes mid.notes new.notes adds u.notes; nv = u.nv }

  pub recovers : {F : Type 0} → nat_lt level 4 ≡ true → (r : Result World (Dark F)) → Brings (work_stretch accepts b (Recover level)) b 7 mid r → Brings (expiry_stretch accepts b) b 8 old r
  recovers few (Ok new) h = (
    brought_behind (work_stretch accepts b (Recover level)) (expiry_stretch accepts b) (Says (λ _. Expired b level) ∷ []) old mid told (plan_is true few) (λ device. refl) new h.0,
    up_behind 7 new h.1,
  )
  recovers few (Err dark) h = (
    lost_behind (work_stretch accepts b (Recover level)) (expiry_stretch accepts b) (Says (λ _. Expired b level) ∷ []) old mid told (plan_is true few) (λ device. refl) dark.inner h.0,
    h.1,
    AddsNotes-then 1 7 old.notes mid.notes dark.inner.notes adds h.2,
  )

  -- the last one
  pub spent : (held : DeskState) (new : World) → nat_lt level 4 ≡ false → held.bank ≡ b → standing_by held.other ≡ standing_of (other_bank b) mid.notes.list → Ran (Says (Held b) ∷ []) mid held.world
      → AddsNotes 1 mid.notes held.world.notes → Ran (Says (Locked held.bank WatchdogSpent) ∷ []) held.world new → LeavesSeated 1 held new → CrossesOrFaults (expiry_stretch accepts b) old new × BroughtUp b 8 old new
  spent held new many own beside p notes q l =
      let locked : Ran (Says (Locked b WatchdogSpent) ∷ []) held.world new = subst (λ (x : Bank). Ran (Says (Locked x WatchdogSpent) ∷ []) held.world new) own q in
      let moves : List Move = Says (Held b) ∷ Says (Locked b WatchdogSpent) ∷ [] in
      let both : Ran moves mid new = Ran-append (Says (Held b) ∷ []) (Says (Locked b WatchdogSpent) ∷ []) mid held.world new p locked in
      let whole : Ran (Says (λ _. Expired b level) ∷ moves) old new = Ran-append (Says (λ _. Expired b level) ∷ []) moves old mid new told both in (
        inl (subst (λ (m : List Move). Ran m old new) (sym (plan_is false many)) whole),
        up_behind 7 new (record {
          mine = subst (λ (x : Bank). standing_of x new.notes.list ≢ Off) own l.mine;
          other = ap (λ (x : Bank). standing_of (other_bank x) new.notes.list) (sym own) ∙ (l.other ∙ beside);
          notes = AddsNotes-most 2 7 mid.notes new.notes (AddsNotes-then 1 1 mid.notes held.world.notes new.notes notes l.notes) (omega arith);
          nv = l.nv;
        }),
      )

-- ---- the banks whose watches expired
brought_both : (old mid new : World) → AreUp old → BroughtUp bank.Bmc 8 old mid → BroughtUp bank.Pch 8 mid new → AreBrought 16 old new
brought_both old mid new up u v =
    let on = both_up bank.Pch 8 mid new (both_up bank.Bmc 8 old mid up u) v in
    record { bmc = on bank.Bmc; pch = on bank.Pch; notes = AddsNotes-then 8 8 old.notes mid.notes new.notes u.notes v.notes; nv = v.nv }

brought_one : (b : Bank) (old new : World) → AreUp old → BroughtUp b 8 old new → AreBrought 16 old new
brought_one b old new up u =
    let on = both_up b 8 old new up u in record { bmc = on bank.Bmc; pch = on bank.Pch; notes = AddsNotes-most 8 16 old.notes new.notes u.notes (omega arith); nv = u.nv }

module _ (F : Type 0) (accepts : Acceptance) where
  abbrev expiry_at : Bank → Stretch
  expiry_at b = expiry_stretch accepts b

  -- where the BMC's didn't
  second_alone : (next : Bool) (old : World) (r : Result World (Dark F)) → (next ≡ true → AreUp old) → BringsDue next (expiry_at bank.Pch) bank.Pch 8 old r → ExpiresDue accepts false next 16 old r
  second_alone true old (Ok new) up h = (one_brought (expiry_at bank.Pch) old new h.0, inr (refl, brought_one bank.Pch old new (up refl) h.1))
  second_alone true old (Err dark) up h = (one_lost (expiry_at bank.Pch) old dark.inner h.0, h.1, AddsNotes-most 8 16 old.notes dark.inner.notes h.2 (omega arith), refl)
  second_alone false old r up h =
      subst (λ (x : Result World (Dark F)). ExpiresDue accepts false false 16 old x) (sym h) (Ran-refl old, inl (refl, refl))

  -- where it did
  second_then : (next : Bool) (old mid : World) (r : Result World (Dark F)) → AreUp old → CrossesOrFaults (expiry_at bank.Bmc) old mid × BroughtUp bank.Bmc 8 old mid → BringsDue next (expiry_at bank.Pch) bank.Pch 8 mid r
      → ExpiresDue accepts true next 16 old r
  second_then true old mid (Ok new) up h k = (both_steps (expiry_at bank.Bmc) (expiry_at bank.Pch) old mid new refl refl h.0 k.0, inr (refl, brought_both old mid new up h.1 k.1))
  second_then true old mid (Err dark) up h k =
      (second_lost (expiry_at bank.Bmc) (expiry_at bank.Pch) old mid dark.inner refl h.0 k.0, k.1, AddsNotes-then 8 8 old.notes mid.notes dark.inner.notes h.1.notes k.2, refl)
  second_then false old mid r up h k =
      subst (λ (x : Result World (Dark F)). ExpiresDue accepts true false 16 old x) (sym k) (one_brought (expiry_at bank.Bmc) old mid h.0, inr (refl, brought_one bank.Bmc old mid up h.1))

  pub due_both : (due next : Bool) (old mid : World) (r : Result World (Dark F)) → (due ≡ true → AreUp old) → (next ≡ true → AreUp old) → BringsDue {F = F} due (expiry_at bank.Bmc) bank.Bmc 8 old (Ok mid)
      → BringsDue next (expiry_at bank.Pch) bank.Pch 8 mid r → ExpiresDue accepts due next 16 old r
  due_both true next old mid r some other h k = second_then next old mid r (some refl) h k
  due_both false next old mid r some other h k =
      let same : mid ≡ old = cc in second_alone next old r other (subst (λ (w : World). BringsDue next (expiry_at bank.Pch) bank.Pch 8 w r) same k)

-- ---- ticks
-- a bank whose watch expires runs
and_first : (x y : Bool) → (x && y) ≡ true → x ≡ true
and_first true y e = refl
and_first false y e = absurd cc

running_so : (s : Standing) → is_running s ≡ true → s ≡ Running
running_so Off e = absurd (let never : false ≡ true = e in cc)
running_so IsHeld e = absurd (let never : false ≡ true = e in cc)
running_so IsLocked e = absurd (let never : false ≡ true = e in cc)
running_so Running e = refl

pub due_runs : (b : Bank) (n : ℕ) (old : World) → is_due b n (story_of old) ≡ true → standing_of b old.notes.list ≡ Running
due_runs b n old e = running_so (standing_of b old.notes.list) (and_first (is_running (standing_of b old.notes.list)) (expires (guard_at b old.guards).watch n) e)

pub due_up : (b : Bank) (n : ℕ) (old : World) → IsWhole old → is_due b n (story_of old) ≡ true → AreUp old
due_up b n old h e = neither_off b old h (running_so (standing_of b old.notes.list) (and_first (is_running (standing_of b old.notes.list)) (expires (guard_at b old.guards).watch n) e))

module _ (n : ℕ) (old mid : World) (e : mid ≡ clocked (Tick n) old) where
  pub up_mid : AreUp old → AreUp mid
  up_mid up which = λ off. up which (ap (λ (w : World). standing_of which w.notes.list) (sym e) ∙ off)

  pub tick_follows : (accepts : Acceptance) (bmc pch : Bool) (new : World) → bmc ≡ is_due bank.Bmc n (story_of old) → pch ≡ is_due bank.Pch n (story_of old)
      → Steps (due_stretches accepts bmc pch) mid new → Follows (tick_course accepts n (story_of old)) (clocked (Tick n) old) new
  tick_follows accepts bmc pch new b p steps =
      let begun : World = clocked (Tick n) old in
      let here : Steps (due_stretches accepts bmc pch) begun new = subst (λ (w : World). Steps (due_stretches accepts bmc pch) w new) e steps in
      let first : Steps (due_stretches accepts (is_due bank.Bmc n (story_of old)) pch) begun new = subst (λ (x : Bool). Steps (due_stretches accepts x pch) begun new) b here in
      (begun, Ran-refl begun, subst (λ (x : Bool). Steps (due_stretches accepts (is_due bank.Bmc n (story_of old)) x) begun new) p first)

-- ---- a stage is passed
pub pass_still : (b : Bank) (s next : Stage) (which : Bank) (how : Standing) → standing_after which (pass_note b s next) how ≡ how
pass_still b s stage.Bmc which how = refl
pass_still b s stage.Me which how = refl
pass_still b s stage.Acm which how = refl
pass_still b s stage.Ibb which how = refl
pass_still b s stage.Obb which how = refl
pass_still b s stage.Done which how = refl
