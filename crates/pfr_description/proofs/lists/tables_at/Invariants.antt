use Rattle.std.proofs.Common.{◌≡◌, ◌++◌, drop, map, option_map}
use Rattle.toml.specs.View.{table_view, items_view}
use Rattle.pfr_description.specs.Lists.{tables_of}
use Rattle.pfr_description.proofs.lists.tables_at.Given as goal

-- the tables so far, and those of the rest, are all
abbrev pub invariant-loop-value : goal.invariant-loop-value
invariant-loop-value l =
    tables_of (items_view l.values)
    ≡ option_map (λ rest. map (λ inner. table_view inner.now) l.tables.items ++ rest) (tables_of (items_view (drop l.value-index l.values)))
