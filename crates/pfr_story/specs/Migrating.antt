-- What a power-on has made of a store of profile 1.
use Rattle.std.specs.Prelude.{◌≡◌, Ok}
use Rattle.pfr_flash.specs.FlashState.{now, upto}
use Rattle.pfr_flash.specs.declared.names.Bank.{Bank}
use Rattle.pfr_flash.specs.declared.names.Counts.{Counts}
use Rattle.pfr_fuses.specs.FuseMap.{profile_of}
use Rattle.pfr_fuses.specs.FusesOf.{fuses_of}
use Rattle.pfr_fuses.specs.FusesState.{FusesState}
use Rattle.pfr_fuses.specs.declared.profile.Profile.TheVariants.{Two}
use Rattle.pfr_script.specs.declared.event.Event.{Event}
use Rattle.pfr_script.specs.declared.event.Event.TheVariants as event
use Rattle.pfr_report.specs.Texts.{IsNoted}
use Rattle.pfr_report.specs.declared.note.LockWhy.TheVariants.{StoreFault}
use Rattle.pfr_report.specs.declared.note.What.TheVariants.{Held, Locked}
use Rattle.pfr_story.specs.World.{World, added}

-- A store that is provisioned is of profile 2 wherever a power-on holds a bank, unless the bank is locked there for a fault of the store.
abbrev pub MigratesAtPower : Event → World → World → Type 0
MigratesAtPower event.Power old new = (which : Bank) (at : Counts) → IsNoted (added old new) (Held which at) → ¬ IsNoted (added old new) (Locked which StoreFault at)
    → (fuses : FusesState) → fuses_of (now old.nv) ≡ Ok fuses → profile_of (upto new.nv at.nv) ≡ Two
MigratesAtPower e old new = Unit {0}
