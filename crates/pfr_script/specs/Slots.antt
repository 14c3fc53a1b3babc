-- What a script provisions.
use Rattle.std.specs.Prelude.{List}
use Rattle.std.specs.List.{All}
use Rattle.pfr_fuses.specs.RootSlot.{IsSlot}
use Rattle.pfr_script.specs.declared.event.Event.{Event}
use Rattle.pfr_script.specs.declared.event.Event.TheVariants as event
use Rattle.pfr_script.specs.declared.item.Item.{Item}
use Rattle.pfr_script.specs.declared.item.Item.TheVariants as item

-- what an event provisions is a slot
abbrev pub IsKnownSlot : Event → Type 0
IsKnownSlot (event.Provision what) = IsSlot what
IsKnownSlot e = Unit {0}

abbrev pub HasKnownSlot : Item → Type 0
HasKnownSlot (item.Event e) = IsKnownSlot e
HasKnownSlot (item.Arm arm) = Unit {0}

-- what is provisioned are slots
abbrev pub KnownSlots : List Item → Type 0
KnownSlots items = All HasKnownSlot items
