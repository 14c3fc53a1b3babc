-- A bank that runs, while a frame on its SPI bus is done.
use Rattle.std.specs.Prelude.{[], ◌∷◌, false}
use Rattle.pfr_flash.specs.FlashState.{FlashState}
use Rattle.pfr_flash.specs.declared.names.Bank.{Bank}
use Rattle.pfr_filter.specs.declared.verdict.Verdict.{Verdict}
use Rattle.pfr_report.specs.declared.note.LockWhy.TheVariants.{FlashFault}
use Rattle.pfr_report.specs.declared.note.What.TheVariants.{Held, Locked}
use Rattle.pfr_story.specs.Course.{Stretch}
use Rattle.pfr_story.specs.Plans.{by_verdict}
use Rattle.pfr_story.specs.Story.{Says}
use Rattle.pfr_story.specs.World.{World}
use Rattle.pfr_machine.specs.Inside.{AreSides}
use Rattle.pfr_machine.specs.Worlds.{sides_world}
use Rattle.pfr_machine.specs.declared.bus.Bus.{Bus}
use Rattle.pfr_machine.specs.declared.seat.Seat.TheVariants as seat
use Rattle.pfr_machine.specs.declared.sides.Sides.{Sides}

-- the seats of both banks
abbrev pub bus_sides : {F : Type 0} → Bus F → Sides F
bus_sides bus = record { bank = bus.bank; mine = seat.Running bus.running; other = bus.other; board = bus.board }

abbrev pub bus_world : {F : Type 0} → (F → FlashState) → Bus F → World
bus_world device bus = sides_world device (bus_sides bus)

abbrev pub IsBus : {F : Type 0} → (F → FlashState) → Bus F → Type 0
IsBus device bus = AreSides device (bus_sides bus)

-- what a frame with this verdict calls for
abbrev pub verdict_stretch : Bank → Verdict → Stretch
verdict_stretch which verdict = record {
  plan = by_verdict which verdict;
  on_fault = λ device. Says (Held which) ∷ Says (Locked which FlashFault) ∷ [];
  goes_on = false;
}
