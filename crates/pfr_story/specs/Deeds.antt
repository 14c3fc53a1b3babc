-- Deeds on a bank and on the store, as moves of the platform.
use Rattle.std.specs.Prelude.{List, map}
use Rattle.pfr_flash.specs.declared.names.Bank.{Bank}
use Rattle.pfr_flash.specs.declared.names.Device.{Device}
use Rattle.pfr_flash.specs.declared.names.Device.TheVariants as device
use Rattle.pfr_strokes.specs.Deeds.{Deed, Asks as AsksSide, Does as DoesSide}
use Rattle.pfr_strokes.specs.declared.side.Side.{Side}
use Rattle.pfr_strokes.specs.declared.side.Side.TheVariants as side
use Rattle.pfr_story.specs.Story.{Move, Does, Asks, device_of}

-- the device of a side, where this bank is in work
abbrev pub device_at : Bank → Side → Device
device_at which side.Bank = device_of which
device_at which side.Store = device.Nv

abbrev pub deed_move : Bank → Deed → Move
deed_move which (AsksSide s) = Asks (device_at which s)
deed_move which (DoesSide s op) = Does (device_at which s) op

abbrev pub deed_moves : Bank → List Deed → List Move
deed_moves which deeds = map (λ deed. deed_move which deed) deeds
