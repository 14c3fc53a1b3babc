-- A script as contracts see it.
use Rattle.std.specs.Prelude.{ℕ, List}
use Rattle.pfr_script.specs.declared.item.Item.{Item}

-- the items in order, and the tears that they name by their numbers
pub record ScriptState : Type 0 where
  pub items : List Item
  pub tears : List (List ℕ)
