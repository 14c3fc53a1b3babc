use Rattle.std.proofs.Common.{◌≡◌, ◌++◌, drop, map, Ok}
use Rattle.toml.specs.View.{table_view}
use Rattle.pfr_flash.specs.Judging.{◌>>=◌}
use Rattle.pfr_description.specs.Lists.{each}
use Rattle.pfr_description.specs.Tables.{rule_in}
use Rattle.pfr_description.proofs.lists.rules_at.Given as goal

-- what is read so far goes before what the rest is read as
abbrev pub invariant-loop-inner : goal.invariant-loop-inner
invariant-loop-inner l =
    each (rule_in l.bank) (map (λ inner. table_view inner.now) l.inner-items)
    ≡ (each (rule_in l.bank) (map (λ inner. table_view inner.now) (drop l.inner-index l.inner-items)) >>= (λ rest. Ok (l.rules.items ++ rest)))
