-- No fault of a device is passed over, device by device.
use Rattle.std.specs.Prelude.{◌≢◌}
use Rattle.pfr_flash.specs.declared.names.Device.{Device}
use Rattle.pfr_story.specs.World.{World, state_at, added}
use Rattle.pfr_story.specs.Scripted.{IsLockedFor}

-- Where calls of a device answered faults, a bank is locked for it.
abbrev pub EachFaultIsNoted : World → World → Type 0
EachFaultIsNoted old new = (which : Device) → (state_at which new).faults ≢ (state_at which old).faults → IsLockedFor which (added old new)
