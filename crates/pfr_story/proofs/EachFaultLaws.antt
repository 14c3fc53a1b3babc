-- Each fault of a device is noted, in an event and in a run.
use Rattle.std.proofs.Common.{◌≡◌, ◌≢◌, ◌∙◌, ◌+◌, sym, ap, arith, ℕ, cond, List, [], ◌∷◌, ◌++◌, inl, inr}
use Rattle.std.proofs.lemmas.Bool.{cases_lt}
use Rattle.std.proofs.lemmas.List.Sums.{sum_by-append}
use Rattle.std.specs.Prelude.{slice_index_or}
use Rattle.pfr_flash.specs.declared.names.Device.{Device}
use Rattle.pfr_engine.specs.Acceptance.{Acceptance}
use Rattle.pfr_script.specs.declared.event.Event.{Event}
use Rattle.pfr_script.specs.declared.item.Item.{Item}
use Rattle.pfr_script.specs.declared.item.Item.TheVariants as item
use Rattle.pfr_report.specs.declared.note.Note.{Note}
use Rattle.pfr_story.specs.EachFault.{EachFaultIsNoted}
use Rattle.pfr_story.specs.FaultCount.{is_fault_of, fault_locks, FaultsAreCounted}
use Rattle.pfr_story.specs.Run.{armed, Did, Reached}
use Rattle.pfr_story.specs.Scripted.{IsLockedFor}
use Rattle.pfr_story.specs.Turn.{Turn}
use Rattle.pfr_story.specs.World.{World, state_at, added}
use Rattle.pfr_story.proofs.FaultLaws.{Turn-faults_counted}
use Rattle.pfr_story.proofs.RunLaws.{IsLater-did, added_is, did_adds, reached_adds, adds_then, failed_armed}
use Rattle.pfr_story.proofs.WorldLaws.{NoneFailed-at}

noted_each : (e : Event) (which : Device) (old new : World) → FaultsAreCounted e which old new → (state_at which new).faults ≢ (state_at which old).faults → IsLockedFor which (added old new)
noted_each e which old new c rose = elim (cases_lt 0 (fault_locks which (added old new))) [
  | inl some ↦ omega (arith, some)
  | inr none ↦ elim c.locks [
    | inl same ↦ absurd (rose (omega (arith, c.counted, same, none)))
    | inr (both, is, one, two) ↦ omega (arith, two)
  ]
]

-- Where calls of a device answered faults in an event, a bank is locked for it.
pub Turn-told_each : (accepts : Acceptance) (e : Event) (old new : World) → Turn accepts e old new → EachFaultIsNoted old new
Turn-told_each accepts e old new t which = noted_each e which old new (Turn-faults_counted accepts e old new t which)

-- an arm lets no call fail
did_told : (accepts : Acceptance) (tears : List (List ℕ)) (i : Item) (old new : World) → Did accepts tears i old new → EachFaultIsNoted old new
did_told accepts tears (item.Event e) old new t which rose = Turn-told_each accepts e old new t which rose
did_told accepts tears (item.Arm arm) old new is which rose =
    let tear : List ℕ = slice_index_or tears arm.tear [] in
    absurd (rose (ap (λ (w : World). (state_at which w).faults) is ∙ NoneFailed-at which old (armed arm tear old) (failed_armed arm tear old)))

-- So it is of a run.
pub Reached-told_each : (accepts : Acceptance) (tears : List (List ℕ)) (items : List Item) (old new : World) → Reached (Did accepts tears) items old new → EachFaultIsNoted old new
Reached-told_each accepts tears [] old new r which rose = absurd (rose (ap (λ (w : World). (state_at which w).faults) r))
Reached-told_each accepts tears (i ∷ items) old new (mid, d, r) which rose = elim (cases_lt (state_at which old).faults (state_at which mid).faults) [
  | inl early ↦ omega (arith, sum, did_told accepts tears i old mid d which (λ same. absurd (omega (arith, early, same))))
  | inr late ↦
      let before = (IsLater-did accepts tears i old mid d).faults which in
      omega (arith, sum, Reached-told_each accepts tears items mid new r which (λ same. rose (omega (arith, same, late, before))))
]
  where
    notes : added old new ≡ added old mid ++ added mid new
    notes =
        let first = did_adds accepts tears i old mid d in
        let rest = reached_adds accepts tears items mid new r in
        added_is old new (adds_then old mid new first rest) ∙ ap (λ (xs : List Note). xs ++ rest.0) (sym (added_is old mid first)) ∙ ap (λ (xs : List Note). added old mid ++ xs) (sym (added_is mid new rest))

    sum : fault_locks which (added old new) ≡ fault_locks which (added old mid) + fault_locks which (added mid new)
    sum = ap (λ (xs : List Note). fault_locks which xs) notes ∙ sum_by-append (λ (note : Note). cond (is_fault_of which note.what) 1 0) (added old mid) (added mid new)
