-- The last call of a shelf that failed.
use Rattle.std.specs.Prelude.{ℕ, List, take}
use Rattle.pfr_shelf.specs.declared.failure.Access.{Access}

-- what it was to do, and the name that it was given
pub record Failure : Type 0 where
  pub access : Access
  pub name : List ℕ

-- the failure of a call with this name; of a name the first 4,096 bytes are kept, and no host takes a longer one
abbrev pub failing : Access → List ℕ → Failure
failing access name = record { access = access; name = take 4096 name }
