-- What is true of a platform between two events, and while a bank is in work.
use Rattle.std.specs.Prelude.{◌≡◌, ◌≢◌, ℕ, ◌*◌, ◌≤◌, List, [], length, true, false, Some, None, Ok}
use Rattle.pfr_flash.specs.FlashState.{FlashState, now, size_of}
use Rattle.pfr_flash.specs.Layout.{IsBankSize}
use Rattle.pfr_flash.specs.declared.layout.Layout.{Layout}
use Rattle.pfr_flash.specs.declared.names.Bank.{Bank}
use Rattle.pfr_flash.specs.declared.names.Bank.TheVariants.{Bmc, Pch}
use Rattle.pfr_engine.specs.Acceptance.{Acceptance}
use Rattle.pfr_fuses.specs.FusesState.{FusesState}
use Rattle.pfr_fuses.specs.FusesOf.{fuses_of}
use Rattle.pfr_fuses.specs.RootSlot.{layout_of}
use Rattle.pfr_fuses.specs.declared.profile.Profile.TheVariants.{Two}
use Rattle.pfr_jobs.specs.Log.{open_job}
use Rattle.pfr_jobs.specs.declared.job.OpenJob.TheVariants as job
use Rattle.pfr_report.specs.Texts.{AllText}
use Rattle.pfr_story.specs.Guards.{first_guards}
use Rattle.pfr_story.specs.Keeping.{HasTrustedSpans}
use Rattle.pfr_story.specs.Plans.{Ruling}
use Rattle.pfr_story.specs.Standing as standing
use Rattle.pfr_story.specs.Standing.{standing_of, standing_by, Held}
use Rattle.pfr_story.specs.Story.{device_of, other_bank}
use Rattle.pfr_story.specs.World.{World, state_at, story_of}
use Rattle.pfr_story.specs.declared.line.Line.TheVariants.{Off}
use Rattle.pfr_machine.specs.Worlds.{Sitting, sits_in, sides_world}
use Rattle.pfr_machine.specs.declared.sides.Sides.{Sides}

-- a store provisions the platform, and a bank with this layout
pub record IsLaid (which : Bank) (layout : Layout) (nv : List ℕ) : Type 0 where
  pub fuses : FusesState
  pub provisioned : fuses_of nv ≡ Ok fuses
  pub same : layout_of fuses.provision which ≡ layout

-- what a store provisions banks with stays
abbrev pub KeepsLaid : List ℕ → List ℕ → Type 0
KeepsLaid old new = (which : Bank) (layout : Layout) → IsLaid which layout old → IsLaid which layout new

-- The seat of a bank, which tells this: its device has a bank's size, the notes say the same of the bank, its device has power,
-- unless the bank is off, and a bank that runs was judged by the layout that the store provisions it with.
pub record IsSeat (which : Bank) (seat : Sitting) (w : World) : Type 0 where
  pub owner : seat.whose ≡ which
  pub size : IsBankSize (size_of (state_at (device_of which) w))
  pub stands : standing_of which w.notes.list ≡ standing_by seat.line
  pub on : seat.line ≢ Off → (state_at (device_of which) w).powered ≡ true
  pub laid : (r : Ruling) → seat.ruling ≡ Some r → IsLaid which r.layout (now w.nv)

-- what is true of the store and of the notes
pub record IsBoard (w : World) : Type 0 where
  pub size : size_of w.nv ≡ 32768
  pub texts : AllText w.notes.list

-- No bank is in work.
pub record AreSeated (bmc_seat pch_seat : Sitting) (w : World) : Type 0 where
  pub bmc : IsSeat Bmc bmc_seat w
  pub pch : IsSeat Pch pch_seat w
  pub board : IsBoard w

-- the same as one of the banks sees it
pub record AreBeside (which : Bank) (my_seat other_seat : Sitting) (w : World) : Type 0 where
  pub mine : IsSeat which my_seat w
  pub other : IsSeat (other_bank which) other_seat w
  pub board : IsBoard w

abbrev pub AreSides : {F : Type 0} → (F → FlashState) → Sides F → Type 0
AreSides device sides = AreBeside sides.bank (sits_in sides.mine) (sits_in sides.other) (sides_world device sides)

-- the same but for how the banks stand and whether their devices have power
pub record AreOwned (which : Bank) (my_seat other_seat : Sitting) (w : World) : Type 0 where
  pub mine : my_seat.whose ≡ which
  pub size : IsBankSize (size_of (state_at (device_of which) w))
  pub other : other_seat.whose ≡ other_bank which
  pub other_size : IsBankSize (size_of (state_at (device_of (other_bank which)) w))
  pub board : IsBoard w

-- no device has power
abbrev pub darkened : World → World
darkened w = record w { bmc = record w.bmc { powered = false }; pch = record w.pch { powered = false }; nv = record w.nv { powered = false } }

-- This bank is in work, and its device is held for this one.
pub record IsDesk (which whose : Bank) (other_seat : Sitting) (w : World) : Type 0 where
  pub owner : whose ≡ which
  pub size : IsBankSize (size_of (state_at (device_of which) w))
  pub stands : standing_of which w.notes.list ≡ Held
  pub other : IsSeat (other_bank which) other_seat w
  pub board : IsBoard w

-- Between two events both banks are off, or neither is and the store has power; and an item added 64 notes at most.
pub record IsWhole (w : World) : Type 0 where
  pub together : standing_of Bmc w.notes.list ≡ standing.Off → standing_of Pch w.notes.list ≡ standing.Off
  pub apart : standing_of Pch w.notes.list ≡ standing.Off → standing_of Bmc w.notes.list ≡ standing.Off
  pub on : standing_of Bmc w.notes.list ≢ standing.Off → w.nv.powered ≡ true
  pub few : length w.notes.list ≤ 64 * w.item

-- a store that provisions the platform was migrated to profile 2
abbrev pub IsMigrated : List ℕ → Type 0
IsMigrated nv = (fuses : FusesState) → fuses_of nv ≡ Ok fuses → fuses.profile ≡ Two

-- it was, and no job of this bank is open
abbrev pub IsAtRest : Bank → List ℕ → Type 0
IsAtRest which nv = IsMigrated nv × (open_job nv which ≡ job.None)

-- ---- the platform as a whole

-- the devices have the sizes of two banks and of a store
pub record HasSizes (w : World) : Type 0 where
  pub bmc : IsBankSize (size_of w.bmc)
  pub pch : IsBankSize (size_of w.pch)
  pub nv : size_of w.nv ≡ 32768

-- a bank's device has power, unless the bank is off
abbrev pub AreLit : World → Type 0
AreLit w = (which : Bank) → standing_of which w.notes.list ≢ standing.Off → (state_at (device_of which) w).powered ≡ true

-- a device that is no device
abbrev pub no_device : FlashState
no_device = record {
  start = [];
  ops = [];
  powered = false;
  faults = 0;
  losses = 0;
  arms = 0;
  room = 0;
  taken = 0;
  cut_due = None;
  fault_due = None;
  read_due = false;
}

abbrev pub no_world : World
no_world = record { bmc = no_device; pch = no_device; nv = no_device; item = 0; notes = record { list = []; spare = 0 }; guards = first_guards }

-- Between two events; and each bank was trusted throughout the spans in which it stood released.
pub record IsSound (accepts : Acceptance) (w : World) : Type 0 where
  pub whole : IsWhole w
  pub trusted : (which : Bank) → HasTrustedSpans accepts which (story_of w)
