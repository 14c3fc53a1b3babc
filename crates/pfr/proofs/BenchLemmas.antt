-- What a bench promises, by the laws of whole runs.
use Rattle.std.proofs.Common.{◌≡◌, ◌∙◌, ap, sym, refl, subst, ℕ, List, [], length, take, Option, Some, None}
use Rattle.std.specs.Prelude.{IfSome, slice_index_or}
use Rattle.pfr_flash.specs.FlashState.{FlashState}
use Rattle.pfr_flash.specs.Holding.{HoldsBytes}
use Rattle.pfr_flash.specs.Layout.{IsBankSize}
use Rattle.pfr_flash.specs.declared.names.Bank.{Bank}
use Rattle.pfr_flash.specs.declared.names.Bank.TheVariants as bank
use Rattle.pfr_engine.specs.Acceptance.{Acceptance}
use Rattle.pfr_engine.specs.Accepting.{acceptance}
use Rattle.pfr_script.specs.declared.item.Item.{Item}
use Rattle.pfr_script.specs.declared.item.Item.TheVariants as item
use Rattle.pfr_story.specs.Story.{Story}
use Rattle.pfr_story.specs.World.{World, story_of}
use Rattle.pfr_story.specs.Run.{Did}
use Rattle.pfr_story.specs.Keeping.{HasTrustedSpans}
use Rattle.pfr_story.specs.Spans.{ReleasedSpans}
use Rattle.pfr_story.specs.Promises.{ReleasesTrusted, LocksHaveCauses}
use Rattle.pfr_story.specs.Guards.{Guards}
use Rattle.pfr_story.proofs.Bytes.{HaveBytes, have_bytes}
use Rattle.pfr_story.proofs.RunLaws.{IsFresh, IsLater, Reached-spans, Reached-releases, Reached-causes, armed_story, failed_armed}
use Rattle.pfr_story.proofs.TrustedRunLaws.{fresh_underway, Reached-with}
use Rattle.pfr_machine.specs.Inside.{HasSizes}
use Rattle.pfr.specs.Benches.{fresh_of, end_of, StandsAs, HasRun}
use Rattle.pfr.specs.Promises.{IsUnheard, KeepsPromise, KeepsEventPromises, HasReleasedSpans, ReleasesTrustedBanks, LocksWithCause, KeepsChanges, KeepsFuses, StaysProvisioned}
use Rattle.pfr.specs.declared.finished.Bench.{Bench}
use Rattle.std.proofs.lemmas.List.Elements.{All-take, recursion_from_All}
use Rattle.std.specs.List.{AllByRecursion}
use Rattle.pfr_fuses.specs.Growth.{KeepsProvision, NeverGoesBack}
use Rattle.pfr_script.specs.Slots.{HasKnownSlot}
use Rattle.pfr_story.specs.JobPromises.{ChangesFuses}
use Rattle.pfr_story.proofs.ChangeRunLaws.{KeepsStore, Reached-keeps}
use Rattle.pfr_story.proofs.PromiseLaws.{Turn-promises}

-- ---- a world, but for the number of its items, the memory for notes, and the guards
abbrev pub as_if : World → ℕ → ℕ → Guards → World
as_if w item spare guards = record { bmc = w.bmc; pch = w.pch; nv = w.nv; item = item; notes = record { list = w.notes.list; spare = spare }; guards = guards }

looks : (there here : World) → StandsAs there here → here ≡ as_if there here.item here.notes.spare here.guards
looks there here s = rw (← s.bmc, ← s.pch, ← s.nv, ← s.notes) refl

-- what its devices held and were given are bytes
pub held_at : (bench : Bench) (end : World) → StandsAs end (end_of bench) → HaveBytes end
held_at bench end left = have_bytes end (record {
  bmc = subst (λ (d : FlashState). HoldsBytes d) left.bmc bench.bmc.bytes;
  pch = subst (λ (d : FlashState). HoldsBytes d) left.pch bench.pch.bytes;
  nv = subst (λ (d : FlashState). HoldsBytes d) left.nv bench.nv.bytes;
})

spans_as : (accepts : Acceptance) (w : World) (item spare : ℕ) (guards : Guards) (which : Bank) → ReleasedSpans accepts which (story_of w) → ReleasedSpans accepts which (story_of (as_if w item spare guards))
spans_as accepts w item spare guards bank.Bmc p = p
spans_as accepts w item spare guards bank.Pch p = p

releases_as : (accepts : Acceptance) (old w : World) (item spare : ℕ) (guards : Guards) → ReleasesTrusted accepts old w → ReleasesTrusted accepts old (as_if w item spare guards)
releases_as accepts old w item spare guards p bank.Bmc svn at noted = p bank.Bmc svn at noted
releases_as accepts old w item spare guards p bank.Pch svn at noted = p bank.Pch svn at noted

locks_as : (accepts : Acceptance) (old w : World) (item spare : ℕ) (guards : Guards) → LocksHaveCauses accepts old w → LocksHaveCauses accepts old (as_if w item spare guards)
locks_as accepts old w item spare guards p bank.Bmc cause at noted no_fault no_watch = p bank.Bmc cause at noted no_fault no_watch
locks_as accepts old w item spare guards p bank.Pch cause at noted no_fault no_watch = p bank.Pch cause at noted no_fault no_watch

-- ---- the promises of a bench
pub fresh_start : (bench : Bench) → HasRun bench → IsFresh (fresh_of bench)
fresh_start bench has = record { notes = refl; size = has.sizes.nv }

-- what holds of worlds that stand as the end of the run does holds of the bench
pub of_end : (P : World → Type 0) (bench : Bench) (has : HasRun bench) → P (as_if has.run.end (end_of bench).item (end_of bench).notes.spare (end_of bench).guards) → P (end_of bench)
of_end P bench has p = subst P (sym (looks has.run.end (end_of bench) has.run.left)) p

has_spans : (bench : Bench) → HasRun bench → HasReleasedSpans bench
has_spans bench has which =
    let accepts = acceptance bench.engine in
    of_end (λ (w : World). ReleasedSpans (acceptance bench.engine) which (story_of w)) bench has (spans_as accepts has.run.end (end_of bench).item (end_of bench).notes.spare (end_of bench).guards which
    (Reached-spans accepts bench.script.tears (take has.count bench.script.items) (fresh_of bench) has.run.end (fresh_start bench has) has.run.reached (held_at bench has.run.end has.run.left) which))

has_releases : (bench : Bench) → HasRun bench → ReleasesTrustedBanks bench
has_releases bench has =
    let accepts = acceptance bench.engine in
    of_end (λ (w : World). ReleasesTrusted (acceptance bench.engine) (fresh_of bench) w) bench has (releases_as accepts (fresh_of bench) has.run.end (end_of bench).item (end_of bench).notes.spare (end_of bench).guards
    (Reached-releases accepts bench.script.tears (take has.count bench.script.items) (fresh_of bench) has.run.end (fresh_start bench has) has.run.reached (held_at bench has.run.end has.run.left)))

has_locks : (bench : Bench) → HasRun bench → LocksWithCause bench
has_locks bench has =
    let accepts = acceptance bench.engine in
    of_end (λ (w : World). LocksHaveCauses (acceptance bench.engine) (fresh_of bench) w) bench has (locks_as accepts (fresh_of bench) has.run.end (end_of bench).item (end_of bench).notes.spare (end_of bench).guards
    (Reached-causes accepts bench.script.tears (take has.count bench.script.items) (fresh_of bench) has.run.end (fresh_start bench has) has.run.reached (held_at bench has.run.end has.run.left)))

-- ---- each event
-- no size of a device changes in a run
later_sizes : (first w : World) → HasSizes first → IsLater first w → HasSizes w
later_sizes first w sizes later = record {
  bmc = subst (λ (start : List ℕ). IsBankSize (length start)) (sym later.precedes.bmc.start) sizes.bmc;
  pch = subst (λ (start : List ℕ). IsBankSize (length start)) (sym later.precedes.pch.start) sizes.pch;
  nv = ap (λ (start : List ℕ). length start) later.precedes.nv.start ∙ sizes.nv;
}

did_keeps : (accepts : Acceptance) (tears : List (List ℕ)) (i : Item) (old new : World) → HasKnownSlot i → HasSizes old → ((which : Bank) → HasTrustedSpans accepts which (story_of old)) → HaveBytes new → Did accepts tears i old new
    → KeepsPromise accepts i old new
did_keeps accepts tears (item.Event e) old new slot sizes spans held t = Turn-promises accepts e old new t held sizes.bmc sizes.pch sizes.nv spans (λ on. slot)
did_keeps accepts tears (item.Arm arm) old new slot sizes spans held is =
    let tear = slice_index_or tears arm.tear [] in
    subst (λ (w : World). IsUnheard old w) (sym is)
    (record { notes = ap (λ (s : Story). s.notes) (armed_story arm tear old); none_failed = failed_armed arm tear old })

known_taken : (bench : Bench) → HasRun bench → (count : ℕ) → AllByRecursion HasKnownSlot (take count bench.script.items)
known_taken bench has count = recursion_from_All HasKnownSlot (take count bench.script.items) (All-take HasKnownSlot count bench.script.items has.limits.slots)

has_events : (bench : Bench) → HasRun bench → KeepsEventPromises bench
has_events bench has count run =
    let accepts = acceptance bench.engine in
    record {
      end = run.end;
      reached = Reached-with accepts bench.script.tears (fresh_of bench) has.sizes.bmc has.sizes.pch has.sizes.nv HasKnownSlot (KeepsPromise accepts)
          (λ i old new slot underway held did. did_keeps accepts bench.script.tears i old new slot (later_sizes (fresh_of bench) old has.sizes underway.later) underway.trusted held did)
          (take count bench.script.items) (fresh_of bench) run.end (known_taken bench has count) (fresh_underway accepts (fresh_of bench) (fresh_start bench has)) (held_at bench run.end run.left) run.reached;
      left = run.left;
    }

-- ---- the store
store_kept : (bench : Bench) (has : HasRun bench) → KeepsStore (fresh_of bench) has.run.end
store_kept bench has =
    let accepts = acceptance bench.engine in
    Reached-keeps accepts bench.script.tears (fresh_of bench) has.sizes.bmc has.sizes.pch has.sizes.nv (take has.count bench.script.items) has.run.end (known_taken bench has has.count)
    (fresh_underway accepts (fresh_of bench) (fresh_start bench has)) (held_at bench has.run.end has.run.left) has.run.reached

has_grown : (bench : Bench) → HasRun bench → KeepsFuses bench
has_grown bench has = subst (λ (d : FlashState). NeverGoesBack (fresh_of bench).nv d) (sym has.run.left.nv) (store_kept bench has).grows

has_provision : (bench : Bench) → HasRun bench → StaysProvisioned bench
has_provision bench has = subst (λ (d : FlashState). KeepsProvision (fresh_of bench).nv d) (sym has.run.left.nv) (store_kept bench has).keeps

has_changes : (bench : Bench) → HasRun bench → KeepsChanges bench
has_changes bench has =
    of_end (λ (w : World). ChangesFuses (fresh_of bench) w) bench has
    (record {
      raised = λ which svn n. let h = (store_kept bench has).changes.raised which svn n in record { later = h.later; end = h.end };
      cancelled = λ type id n. let h = (store_kept bench has).changes.cancelled type id n in record { later = h.later; end = h.end };
    })

-- ---- of each bench
pub of_each : (P : Bench → Type 0) → ((bench : Bench) → HasRun bench → P bench) → (option : Option Bench) → IfSome option HasRun → IfSome option P
of_each P law None has = tt
of_each P law (Some bench) has = law bench has

pub each_spans : (option : Option Bench) → IfSome option HasRun → IfSome option HasReleasedSpans
each_spans option has = of_each HasReleasedSpans has_spans option has

pub each_releases : (option : Option Bench) → IfSome option HasRun → IfSome option ReleasesTrustedBanks
each_releases option has = of_each ReleasesTrustedBanks has_releases option has

pub each_locks : (option : Option Bench) → IfSome option HasRun → IfSome option LocksWithCause
each_locks option has = of_each LocksWithCause has_locks option has

pub each_grows : (option : Option Bench) → IfSome option HasRun → IfSome option KeepsFuses
each_grows option has = of_each KeepsFuses has_grown option has

pub each_provision : (option : Option Bench) → IfSome option HasRun → IfSome option StaysProvisioned
each_provision option has = of_each StaysProvisioned has_provision option has

pub each_changes : (option : Option Bench) → IfSome option HasRun → IfSome option KeepsChanges
each_changes option has = of_each KeepsChanges has_changes option has

pub each_events : (option : Option Bench) → IfSome option HasRun → IfSome option KeepsEventPromises
each_events option has = of_each KeepsEventPromises has_events option has
