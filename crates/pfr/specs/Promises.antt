-- What a bench promises.
use Rattle.std.specs.Prelude.{◌≡◌, ℕ, List, take}
use Rattle.pfr_flash.specs.declared.names.Bank.{Bank}
use Rattle.pfr_engine.specs.Acceptance.{Acceptance}
use Rattle.pfr_engine.specs.Accepting.{acceptance}
use Rattle.pfr_fuses.specs.Growth.{NeverGoesBack, KeepsProvision}
use Rattle.pfr_script.specs.declared.item.Item.{Item}
use Rattle.pfr_script.specs.declared.item.Item.TheVariants as item
use Rattle.pfr_story.specs.EventPromises.{EventPromises}
use Rattle.pfr_story.specs.JobPromises.{ChangesFuses}
use Rattle.pfr_story.specs.World.{NoneFailed, World, story_of}
use Rattle.pfr_story.specs.Run.{Did, Reached}
use Rattle.pfr_story.specs.Spans.{ReleasedSpans}
use Rattle.pfr_story.specs.Promises.{ReleasesTrusted, LocksHaveCauses}
use Rattle.pfr.specs.Benches.{fresh_of, end_of, StandsAs, IsRun}
use Rattle.pfr.specs.declared.finished.Bench.{Bench}

-- In each span in which a bank stands released it was trusted at every count, and no operation touched what this reads, or the
-- bank's recovery area.
abbrev pub HasReleasedSpans : Bench → Type 0
HasReleasedSpans bench = (which : Bank) → ReleasedSpans (acceptance bench.engine) which (story_of (end_of bench))

-- A bank is noted as released only where it was trusted, with that security version number.
abbrev pub ReleasesTrustedBanks : Bench → Type 0
ReleasesTrustedBanks bench = ReleasesTrusted (acceptance bench.engine) (fresh_of bench) (end_of bench)

-- A bank is locked, but for a fault or by an expired watch, only with a cause in the contents at the counts of the note.
abbrev pub LocksWithCause : Bench → Type 0
LocksWithCause bench = LocksHaveCauses (acceptance bench.engine) (fresh_of bench) (end_of bench)

-- No floor and no cancellation was ever taken back.
abbrev pub KeepsFuses : Bench → Type 0
KeepsFuses bench = NeverGoesBack (fresh_of bench).nv bench.nv.device

-- Once the platform was provisioned it stayed so, by the same slot with the same bytes.
abbrev pub StaysProvisioned : Bench → Type 0
StaysProvisioned bench = KeepsProvision (fresh_of bench).nv bench.nv.device

-- Behind each update of the recovery area the floor was that of its capsule at least, and each key that was cancelled stayed so, at the
-- counts of each later note and at the end.
abbrev pub KeepsChanges : Bench → Type 0
KeepsChanges bench = ChangesFuses (fresh_of bench) (end_of bench)

-- an item that does nothing that is noted: an arm adds no note, and no call of a device answers a fault
pub record IsUnheard (old new : World) : Type 0 where
  pub notes : new.notes.list ≡ old.notes.list
  pub none_failed : NoneFailed old new

abbrev pub KeepsPromise : Acceptance → Item → World → World → Type 0
KeepsPromise accepts (item.Event event) old new = EventPromises accepts event old new
KeepsPromise accepts (item.Arm arm) old new = IsUnheard old new

-- these items were done, each of them so
pub record IsRunWith (Goes : Item → World → World → Type 0) (items : List Item) (bench : Bench) : Type 0 where
  pub end : World
  pub reached : Reached (λ item old new. Did (acceptance bench.engine) bench.script.tears item old new × Goes item old new) items (fresh_of bench) end
  pub left : StandsAs end (end_of bench)

-- Each event of the run kept all that an event promises. What was done are the first items of the script.
abbrev pub KeepsEventPromises : Bench → Type 0
KeepsEventPromises bench = (count : ℕ) → IsRun (take count bench.script.items) bench → IsRunWith (KeepsPromise (acceptance bench.engine)) (take count bench.script.items) bench
