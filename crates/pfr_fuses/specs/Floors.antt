-- The floor that a store says.
use Rattle.std.specs.Prelude.{ℕ, List}
use Rattle.pfr_flash.specs.declared.names.Bank.{Bank}
use Rattle.pfr_fuses.specs.FusesOf.{floor_fuses}
use Rattle.pfr_fuses.specs.FusesState.{floor_in}

-- of a bank, whether the store is provisioned or not
abbrev pub floor_in_store : List ℕ → Bank → ℕ
floor_in_store nv bank = floor_in 128 (floor_fuses nv bank)
