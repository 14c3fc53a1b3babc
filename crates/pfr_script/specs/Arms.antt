-- What is true of the items and tears of every script.
use Rattle.std.specs.Prelude.{◌≡◌, ℕ, ◌<◌, ◌≤◌, ◌&&◌, Bool, true, false, List, [], length, Some, slice_get}
use Rattle.std.specs.List.{All, count_by}
use Rattle.pfr_flash.specs.declared.names.Device.{Device}
use Rattle.pfr_flash.specs.declared.names.Device.TheVariants.{Bmc, Pch, Nv}
use Rattle.pfr_script.specs.declared.arm.ArmWhat.{ArmWhat}
use Rattle.pfr_script.specs.declared.arm.ArmWhat.TheVariants.{Cut, Fault, ReadFault}
use Rattle.pfr_script.specs.declared.item.Item.{Item}
use Rattle.pfr_script.specs.declared.item.Item.TheVariants.{Event, Arm}

-- at most 65,536 items
abbrev pub FewItems : List Item → Type 0
FewItems items = length items ≤ 65536

-- an arm's operation is counted from 1, and its tear is one of so many
abbrev pub IsKnownArm : ℕ → Item → Type 0
IsKnownArm tears (Event event) = Unit {0}
IsKnownArm tears (Arm arm) = (1 ≤ arm.nth) × (arm.tear < tears)

abbrev pub KnownArms : ℕ → List Item → Type 0
KnownArms tears items = All (IsKnownArm tears) items

abbrev pub same_device : Device → Device → Bool
same_device Bmc Bmc = true
same_device Pch Pch = true
same_device Nv Nv = true
same_device a b = false

-- a fault of a read is not counted
abbrev pub is_counted : ArmWhat → Bool
is_counted Cut = true
is_counted Fault = true
is_counted ReadFault = false

abbrev pub is_arm_of : Device → Item → Bool
is_arm_of device (Event event) = false
is_arm_of device (Arm arm) = is_counted arm.what && same_device device arm.device

-- the cuts and faults of a device
abbrev pub arms_in : Device → List Item → ℕ
arms_in device items = count_by (is_arm_of device) items

-- at most 256 cuts and faults of each device
abbrev pub FewArms : List Item → Type 0
FewArms items = (device : Device) → arms_in device items ≤ 256

-- the first tear is empty
abbrev pub FirstEmpty : List (List ℕ) → Type 0
FirstEmpty tears = slice_get tears 0 ≡ Some []
