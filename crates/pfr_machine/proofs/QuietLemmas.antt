-- An event by which no bank comes into work.
use Rattle.std.proofs.Common.{◌≡◌, ◌≢◌, ◌∙◌, refl, sym, subst, ℕ, Bool, true, false, List, [], length, drop, inl, inr, arith, ◌∷◌}
use Rattle.pfr_flash.specs.declared.names.Bank.{Bank}
use Rattle.pfr_flash.specs.declared.names.Bank.TheVariants as bank
use Rattle.pfr_engine.specs.Acceptance.{Acceptance}
use Rattle.pfr_report.specs.declared.note.Note.{Note}
use Rattle.pfr_script.specs.declared.event.Event.{Event}
use Rattle.pfr_script.specs.declared.event.Event.TheVariants as event
use Rattle.pfr_story.specs.Course.{Follows}
use Rattle.pfr_story.specs.Standing.{standing_of, Off}
use Rattle.pfr_story.specs.Goes.{Ran}
use Rattle.pfr_story.specs.Story.{Says}
use Rattle.pfr_story.specs.Turn.{ignored, is_due, is_idle, pass_note, stage_at}
use Rattle.pfr_watch.specs.Stages.{next_stage}
use Rattle.pfr_story.specs.World.{World, SameDevices, story_of}
use Rattle.pfr_story.proofs.Sequence.{Ran-refl}
use Rattle.pfr_machine.specs.Inside.{IsWhole}
use Rattle.pfr_machine.specs.Ready.{LeavesWhole}
use Rattle.pfr_machine.specs.Turning.{TurnsIf, TurnsSo}
use Rattle.pfr_machine.specs.Watching.{clocked}
use Rattle.pfr_machine.proofs.TurnLemmas.{at_idle, at_taken, idle_known, not_both, only_noted}
use Rattle.pfr_machine.proofs.WatchLemmas.{tick_follows}
use Rattle.pfr_machine.proofs.WorldLemmas.{AddsNotes-most, AddsNotes-none}

-- nothing follows a list in itself
none_behind : (l : List Note) → drop (length l) l ≡ []
none_behind [] = refl
none_behind (x ∷ l) = none_behind l

-- an event that is ignored
pub idle_turns : (accepts : Acceptance) (e : Event) (idle : Bool) (old new : World) → idle ≡ is_idle e (story_of old) → idle ≡ true → Follows ignored old new → LeavesWhole 64 old new → SameDevices old new
    → TurnsSo accepts e old new
idle_turns accepts e idle old new is on f l same = record {
  follows = at_idle accepts e idle old new is on f;
  leaves = l;
  dark = λ taken. absurd (not_both (sym is ∙ on) taken);
  untouched = λ _. same;
  spelled = λ some. idle_known e old (sym is ∙ on) some;
}

-- ticks by which no watch expires
pub tick_turns : (accepts : Acceptance) (n : ℕ) (quiet : Bool) (old new : World) → (quiet ≡ true → is_due bank.Bmc n (story_of old) ≡ false) → (quiet ≡ true → is_due bank.Pch n (story_of old) ≡ false)
    → (quiet ≡ true → new ≡ clocked (event.Tick n) old) → (quiet ≡ false → new ≡ old) → IsWhole old → TurnsIf quiet accepts (event.Tick n) old new
tick_turns accepts n false old new bmc pch is left h = left refl
tick_turns accepts n true old new bmc pch is left h =
    subst (λ (w : World). TurnsSo accepts (event.Tick n) old w) (sym (is refl)) (record {
      follows = tick_follows n old (clocked (event.Tick n) old) refl accepts false false (clocked (event.Tick n) old) (sym (bmc refl)) (sym (pch refl)) (Ran-refl (clocked (event.Tick n) old));
      leaves = record { together = h.together; apart = h.apart; on = h.on; notes = AddsNotes-most 0 64 old.notes old.notes (AddsNotes-none old.notes) (omega arith) };
      dark = λ taken some. absurd (some (none_behind old.notes.list));
      untouched = λ _. record { bmc = refl; pch = refl; nv = refl };
      spelled = λ _. tt;
    })

-- a stage that is passed
pub boot_turns : (accepts : Acceptance) (which : Bank) (pass : Bool) (old new : World) → pass ≡ true → is_idle (event.Boot which pass) (story_of old) ≡ false
    → (let stage = stage_at which (story_of old) in Ran (Says (λ _. pass_note which stage (next_stage stage)) ∷ []) old new) → LeavesWhole 64 old new → standing_of bank.Bmc new.notes.list ≢ Off
    → TurnsSo accepts (event.Boot which pass) old new
boot_turns accepts which false old new on active ran l some = absurd (let never : false ≡ true = on in cc)
boot_turns accepts which true old new on active ran l some = record {
  follows = at_taken accepts (event.Boot which true) false old new (sym active) refl (only_noted _ old new ran);
  leaves = l;
  dark = λ _ _ off. absurd (some off);
  untouched = λ calm. elim calm [
    | inl idle ↦ absurd (not_both idle active)
    | inr quiet ↦ absurd quiet
  ];
  spelled = λ _. tt;
}

-- whether the event was done
pub was_left : (done : Bool) (accepts : Acceptance) (e : Event) (old new : World) → done ≡ false → TurnsIf done accepts e old new → new ≡ old
was_left false accepts e old new off h = h
was_left true accepts e old new off h = absurd (let never : true ≡ false = off in cc)

pub was_done : (done : Bool) (accepts : Acceptance) (e : Event) (old new : World) → done ≡ true → TurnsIf done accepts e old new → TurnsSo accepts e old new
was_done true accepts e old new on h = h
was_done false accepts e old new on h = absurd (let never : false ≡ true = on in cc)
