-- What a power-on promises of each bank, where no call fails while the bank is in work.
use Rattle.std.specs.Prelude.{◌≡◌, ◌⊎◌, ℕ, ◌+◌, ◌*◌, ◌/◌, ◌≤◌, List, ◌∷◌, ◌++◌, Option, Ok}
use Rattle.pfr_flash.specs.FlashState.{size_of}
use Rattle.pfr_flash.specs.declared.names.Bank.{Bank}
use Rattle.pfr_flash.specs.declared.names.Bank.TheVariants as bank
use Rattle.pfr_flash.specs.declared.names.Counts.{Counts}
use Rattle.pfr_flash.specs.declared.names.Device.{Device}
use Rattle.pfr_engine.specs.Acceptance.{Acceptance}
use Rattle.pfr_fuses.specs.FusesOf.{fuses_of}
use Rattle.pfr_fuses.specs.FusesState.{FusesState}
use Rattle.pfr_auth.specs.Trusted.{IsTrusted}
use Rattle.pfr_auth.specs.declared.fail.ActiveFail.{ActiveFail}
use Rattle.pfr_jobs.specs.declared.job.JobKind.TheVariants.{ActiveFromRecovery}
use Rattle.pfr_script.specs.declared.event.Event.{Event}
use Rattle.pfr_script.specs.declared.event.Event.TheVariants as event
use Rattle.pfr_report.specs.Texts.{IsNoted}
use Rattle.pfr_report.specs.declared.note.LockWhy.{LockWhy}
use Rattle.pfr_report.specs.declared.note.LockWhy.TheVariants as why
use Rattle.pfr_report.specs.declared.note.Note.{Note}
use Rattle.pfr_report.specs.declared.note.What.{What}
use Rattle.pfr_report.specs.declared.note.What.TheVariants.{Held, Released, Locked, Lost, Untrusted, Restored, Resumed}
use Rattle.pfr_story.specs.Story.{device_of}
use Rattle.pfr_story.specs.World.{World, state_at, added}
use Rattle.pfr_story.specs.Causes.{IsTrustedWith, IsAgainst, IsDue, IsRestorable, HasOpenJob}
use Rattle.pfr_story.specs.JobContents.{image_resumed, fuses_resumed}
use Rattle.pfr_story.specs.Promises.{count_at, AtCounts, NotBefore}

-- The work on the BMC's bank was over where the PCH's is noted to be held. That on the PCH's is over only with the event.
abbrev pub IsOver : Bank → List Note → Type 0
IsOver bank.Bmc notes = (at : Counts) × IsNoted notes (Held bank.Pch at)
IsOver bank.Pch notes = ⊥

-- No call of a device failed while this bank was in work: it isn't locked for a fault, and no power was lost before its work
-- was over.
pub record IsCalm (which : Bank) (notes : List Note) : Type 0 where
  pub flash : (at : Counts) → ¬ IsNoted notes (Locked which why.FlashFault at)
  pub store : (at : Counts) → ¬ IsNoted notes (Locked which why.StoreFault at)
  pub on : (device : Option Device) (at : Counts) → IsNoted notes (Lost device at) → IsOver which notes

-- this was noted, and that behind it
pub record IsNotedBehind (this that : What) (notes : List Note) : Type 0 where
  pub before : List Note
  pub item : ℕ
  pub behind : List Note
  pub is : notes ≡ before ++ record { item = item; what = this } ∷ behind
  pub noted : IsNoted behind that

-- it was released behind the note that it is held at these counts, after at most so many operations of its device
pub record ReleasedSoon (which : Bank) (at : Counts) (most : ℕ) (notes : List Note) : Type 0 where
  pub svn : ℕ
  pub then : Counts
  pub noted : IsNotedBehind (Held which at) (Released which svn then) notes
  pub forth : count_at which at ≤ count_at which then
  pub few : count_at which then ≤ count_at which at + most

-- What is noted of a bank that is checked at these counts, by the contents then.
pub record Checks (accepts : Acceptance) (which : Bank) (w : World) (notes : List Note) (from : Counts) : Type 0 where
  -- It is released where its image is trusted, and else only behind a restore.
  pub trusted : (t : AtCounts (λ image nv. IsTrusted image nv which accepts) which from w) → IsNoted notes (Released which t.manifest.svn from)
  pub released : (svn : ℕ) (then : Counts) → IsNoted notes (Released which svn then)
      → AtCounts (λ image nv. IsTrustedWith svn image nv which accepts) which then w × ((then ≡ from) ⊎ IsNotedBehind (Restored which 1) (Released which svn then) notes)
  -- It is locked only with a cause, and always where there is one.
  pub locked : (cause : LockWhy) (then : Counts) → IsNoted notes (Locked which cause then)
      → (then ≡ from) × AtCounts (λ image nv. IsDue cause which image nv accepts) which from w
  pub due : (cause : LockWhy) → AtCounts (λ image nv. IsDue cause which image nv accepts) which from w → IsNoted notes (Locked which cause from)
  -- Its image is called untrusted exactly with the first cause against it.
  pub distrusted : (cause : ActiveFail) → IsNoted notes (Untrusted which cause) → AtCounts (λ image nv. IsAgainst cause which image nv accepts) which from w
  pub named : (cause : ActiveFail) → AtCounts (λ image nv. IsAgainst cause which image nv accepts) which from w → IsNoted notes (Untrusted which cause)
  -- But by a job that is resumed it is restored, at level 1, exactly where its image isn't trusted and a good capsule stands in its
  -- recovery area.
  pub restored : (level : ℕ) → IsNoted notes (Restored which level)
      → IsNoted notes (Resumed which (ActiveFromRecovery level)) ⊎ ((level ≡ 1) × AtCounts (λ image nv. IsRestorable which image nv accepts) which from w)
  pub restorable : AtCounts (λ image nv. IsRestorable which image nv accepts) which from w → IsNoted notes (Restored which 1)

-- these bytes of a bank and of the store are what the work on its open job, which is done or given up, makes of those before
pub record IsWorkedFrom (accepts : Acceptance) (which : Bank) (image nv then nv_then : List ℕ) : Type 0 where
  pub fuses : FusesState
  pub provisioned : fuses_of nv ≡ Ok fuses
  pub holds : then ≡ image_resumed accepts which image nv fuses
  pub says : fuses_of nv_then ≡ Ok (fuses_resumed accepts which image nv fuses)

-- What comes of a bank that is held at the first of these counts, and checked at the second. Between these an open job is done or given
-- up.
pub record BringsUp (accepts : Acceptance) (which : Bank) (w : World) (notes : List Note) (at from : Counts) : Type 0 where
  -- It is held at these counts alone.
  pub held : IsNoted notes (Held which at)
  pub once : (again : Counts) → IsNoted notes (Held which again) → again ≡ at
  -- Where no job is open it is checked as it is held, and where one is, as the work on that leaves it: then none is open.
  pub forth : NotBefore at from
  pub plain : ¬ AtCounts (λ image nv. HasOpenJob which image nv) which at w → from ≡ at
  pub worked : AtCounts (λ image nv. HasOpenJob which image nv → AtCounts (λ then nv_then. IsWorkedFrom accepts which image nv then nv_then) which from w) which at w
  pub done : ¬ AtCounts (λ image nv. HasOpenJob which image nv) which from w
  pub checks : Checks accepts which w notes from

-- A power-on brings each bank up.
abbrev pub BringsUpCalm : Event → Acceptance → World → World → Type 0
BringsUpCalm event.Power accepts old new = (which : Bank) → IsCalm which (added old new) → (at from : Counts) × BringsUp accepts which new (added old new) at from
BringsUpCalm e accepts old new = Unit {0}

-- In a power-on a bank that can be recovered, by what R says of its bytes and the store's where it is held, is released behind that, after
-- at most 34 operations for each of its pages, unless a call failed while it was in work.
abbrev pub PowerReleases : (Bank → List ℕ → List ℕ → Type 0) → Event → World → World → Type 0
PowerReleases R event.Power old new = (which : Bank) (at : Counts) → IsCalm which (added old new) → IsNoted (added old new) (Held which at)
    → AtCounts (R which) which at new → ReleasedSoon which at (34 * (size_of (state_at (device_of which) new) / 4096)) (added old new)
PowerReleases R e old new = Unit {0}
