-- A script that grows by a line.
use Rattle.std.specs.Prelude.{ℕ, ◌||◌, Bool, not, nat_lt, List, [], ◌∷◌, ◌++◌, length, Option, Some, None}
use Rattle.pfr_flash.specs.declared.names.Device.{Device}
use Rattle.pfr_script.specs.declared.arm.ArmWhat.{ArmWhat}
use Rattle.pfr_script.specs.declared.item.Item.{Item}
use Rattle.pfr_script.specs.declared.item.Item.TheVariants.{Arm}
use Rattle.pfr_script.specs.Arms.{arms_in, is_counted}
use Rattle.pfr_script.specs.ScriptState.{ScriptState}

-- no items, and the empty tear
abbrev pub no_items : ScriptState
no_items = record { items = []; tears = [] ∷ [] }

abbrev pub with_item : ScriptState → Item → ScriptState
with_item script item = record script { items = script.items ++ item ∷ [] }

-- a device has 256 cuts and faults at most
abbrev pub may_arm : ScriptState → Device → ArmWhat → Bool
may_arm script device what = not (is_counted what) || nat_lt (arms_in device script.items) 256

-- the number of a tear that comes behind so many: without one it is that of the empty tear
abbrev pub tear_number : ℕ → Option (List ℕ) → ℕ
tear_number count None = 0
tear_number count (Some tear) = count

abbrev pub with_tear : List (List ℕ) → Option (List ℕ) → List (List ℕ)
with_tear tears None = tears
with_tear tears (Some tear) = tears ++ tear ∷ []

abbrev pub with_arm : ScriptState → Device → ArmWhat → ℕ → Option (List ℕ) → ScriptState
with_arm script device what nth tear = record {
  items = script.items ++ Arm (record { device = device; what = what; nth = nth; tear = tear_number (length script.tears) tear }) ∷ [];
  tears = with_tear script.tears tear;
}
