-- How the fields of a script stand for it.
use Rattle.std.specs.Prelude.{◌≡◌, ◌+◌, ◌≤◌, length}
use Rattle.pfr_flash.specs.declared.names.Device.{Device}
use Rattle.pfr_script.specs.Arms.{FewItems, KnownArms, FewArms, FirstEmpty, arms_in}
use Rattle.pfr_script.specs.Slots.{KnownSlots}
use Rattle.pfr_script.specs.Counting.{count_of}
use Rattle.pfr_script.specs.declared.script.Script.TheInside.{Inside}

pub record IsScript (s : Inside) : Type 0 where
  pub few : FewItems s.items
  pub known : KnownArms (length s.tears.items) s.items
  pub slots : KnownSlots s.items
  pub arms : FewArms s.items
  pub first : FirstEmpty s.tears.items
  pub tears : length s.tears.items ≤ length s.items + 1
  pub counts : (device : Device) → count_of s.arms device ≡ arms_in device s.items
