-- A whole run.
use Rattle.std.specs.Prelude.{◌≡◌, ℕ, ◌+◌, ◌≤◌, List, [], ◌∷◌, length, true, slice_index_or}
use Rattle.std.specs.List.{All}
use Rattle.pfr_flash.specs.FlashState.{FlashState}
use Rattle.pfr_flash.specs.Flash.{with_cut, with_fault}
use Rattle.pfr_flash.specs.declared.names.Device.{Device}
use Rattle.pfr_flash.specs.declared.names.Device.TheVariants as device
use Rattle.pfr_engine.specs.Acceptance.{Acceptance}
use Rattle.pfr_script.specs.Arms.{arms_in, IsKnownArm}
use Rattle.pfr_script.specs.declared.arm.Arm.{Arm}
use Rattle.pfr_script.specs.declared.arm.ArmWhat.{ArmWhat}
use Rattle.pfr_script.specs.declared.arm.ArmWhat.TheVariants.{Cut, Fault, ReadFault}
use Rattle.pfr_script.specs.declared.item.Item.{Item}
use Rattle.pfr_script.specs.declared.item.Item.TheVariants as item
use Rattle.pfr_story.specs.World.{World, state_at}
use Rattle.pfr_story.specs.Turn.{Turn, next_item}

-- how many of a device's arms it takes
abbrev pub takes_arm : ArmWhat → ℕ
takes_arm Cut = 1
takes_arm Fault = 1
takes_arm ReadFault = 0

-- what an arm leaves of its device
abbrev pub with_arm : ArmWhat → ℕ → List ℕ → FlashState → FlashState
with_arm Cut nth tear d = with_cut d nth tear
with_arm Fault nth tear d = with_fault d nth tear
with_arm ReadFault nth tear d = record d { read_due = true }

abbrev pub with_arm_at : Device → ArmWhat → ℕ → List ℕ → World → World
with_arm_at device.Bmc what nth tear w = record w { bmc = with_arm what nth tear w.bmc }
with_arm_at device.Pch what nth tear w = record w { pch = with_arm what nth tear w.pch }
with_arm_at device.Nv what nth tear w = record w { nv = with_arm what nth tear w.nv }

-- an arm is an item too
abbrev pub armed : Arm → List ℕ → World → World
armed arm tear w = next_item (with_arm_at arm.device arm.what arm.nth tear w)

-- one item, whose tears are these
abbrev pub Did : Acceptance → List (List ℕ) → Item → World → World → Type 0
Did accepts tears (item.Event event) old new = Turn accepts event old new
Did accepts tears (item.Arm arm) old new = new ≡ armed arm (slice_index_or tears arm.tear []) old

-- The items, one after another, each of which leads from one world to the next by this.
abbrev pub Reached : (Item → World → World → Type 0) → List Item → World → World → Type 0
Reached did [] old new = new ≡ old
Reached did (item ∷ items) old new = (mid : World) × did item old mid × Reached did items mid new

-- The items can all be done: each device has the arms that they need, and their numbers fit.
pub record CanRun (tears : ℕ) (items : List Item) (w : World) : Type 0 where
  pub arms : (which : Device) → arms_in which items ≤ (state_at which w).arms
  pub known : All (IsKnownArm tears) items
  pub few : w.item + length items ≤ 67108863
