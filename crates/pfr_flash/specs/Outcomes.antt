-- Each outcome that the torn model allows is what some tear leaves.
use Rattle.std.specs.Prelude.{◌≡◌, ℕ, ◌+◌, ◌/◌, ◌≤◌, ◌<◌, List, length}
use Rattle.pfr_flash.specs.Bytes.{AreBytes}
use Rattle.pfr_flash.specs.Flash.{IsInPage}
use Rattle.pfr_flash.specs.Operation.{Operation, Erase, Program, Torn, IsTorn, torn_by}

-- an erase or a program that a device of so many bytes can be asked for
abbrev pub CanBeAsked : ℕ → Operation → Type 0
CanBeAsked size (Erase sector) = sector < size / 4096
CanBeAsked size (Program at bytes) = IsInPage at (length bytes) × (at + length bytes ≤ size)
CanBeAsked size (Torn at after) = ⊥

-- a tear that an arm can have leaves this in place of the operation
pub record IsSomeTears (image : List ℕ) (op done : Operation) : Type 0 where
  pub tear : List ℕ
  pub short : length tear ≤ 4096
  pub bytes : AreBytes tear
  pub is : done ≡ torn_by tear image op

abbrev pub EachOutcomeHasATear : Type 0
EachOutcomeHasATear = (image : List ℕ) (op done : Operation) → AreBytes image → CanBeAsked (length image) op → IsTorn image op done → IsSomeTears image op done
