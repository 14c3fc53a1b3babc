-- What is done where watches tick and expire.
use Rattle.std.specs.Prelude.{◌≡◌, ◌≢◌, ◌⊎◌, ◌||◌, ℕ, Bool, true, false, List, [], Result, Ok, Err}
use Rattle.pfr_flash.specs.declared.names.Bank.{Bank}
use Rattle.pfr_flash.specs.declared.names.Bank.TheVariants as bank
use Rattle.pfr_engine.specs.Acceptance.{Acceptance}
use Rattle.pfr_script.specs.declared.event.Event.{Event}
use Rattle.pfr_story.specs.Course.{Stretch, Steps}
use Rattle.pfr_story.specs.Standing.{standing_of, Off}
use Rattle.pfr_story.specs.Turn.{expiry_stretch, guards_at, stretch_if}
use Rattle.pfr_story.specs.World.{World, IsDark}
use Rattle.pfr_machine.specs.Ready.{AreBrought, Brings}
use Rattle.pfr_machine.specs.Worlds.{AddsNotes}
use Rattle.pfr_machine.specs.declared.working.Dark.{Dark}

-- an event begins: at a tick the watches count
abbrev pub clocked : Event → World → World
clocked e w = record w { guards = guards_at e w.notes.list w.guards }

-- neither bank is off
abbrev pub AreUp : World → Type 0
AreUp w = (which : Bank) → standing_of which w.notes.list ≢ Off

-- A stretch of work on a bank whose watch expired, and nothing on one whose watch didn't.
abbrev pub BringsDue : {F : Type 0} → Bool → Stretch → Bank → ℕ → World → Result World (Dark F) → Type 0
BringsDue true stretch which most old r = Brings stretch which most old r
BringsDue false stretch which most old r = r ≡ Ok old

-- the banks whose watches expired, the BMC's first
abbrev pub due_stretches : Acceptance → Bool → Bool → List Stretch
due_stretches accepts bmc pch = stretch_if bmc (expiry_stretch accepts bank.Bmc) (stretch_if pch (expiry_stretch accepts bank.Pch) [])

-- where one did, both banks are released or locked, and else nothing was done
abbrev pub LeavesDue : Bool → ℕ → World → World → Type 0
LeavesDue any most old new = ((any ≡ false) × (new ≡ old)) ⊎ ((any ≡ true) × AreBrought most old new)

-- Work on the banks whose watches expired, one after the other.
abbrev pub ExpiresDue : {F : Type 0} → Acceptance → Bool → Bool → ℕ → World → Result World (Dark F) → Type 0
ExpiresDue accepts bmc pch most old (Ok new) = Steps (due_stretches accepts bmc pch) old new × LeavesDue (bmc || pch) most old new
ExpiresDue accepts bmc pch most old (Err dark) = Steps (due_stretches accepts bmc pch) old dark.inner × IsDark dark.inner × AddsNotes most old.notes dark.inner.notes × ((bmc || pch) ≡ true)
