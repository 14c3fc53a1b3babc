-- That fuses are never taken back, and that a provision never changes.
use Rattle.std.specs.Prelude.{◌≡◌, ℕ, ◌≤◌, List, [], ◌∷◌, ◌++◌}
use Rattle.pfr_flash.specs.FlashState.{FlashState, upto, op_count_of}
use Rattle.pfr_flash.specs.Operation.{Operation}
use Rattle.pfr_flash.specs.declared.names.Bank.{Bank}
use Rattle.pfr_flash.specs.declared.names.ContentType.{ContentType}
use Rattle.pfr_fuses.specs.Slots.{IsProvisionedBy, slot_at}
use Rattle.pfr_fuses.specs.FuseMap.{IsFloorBit, IsCancelBit}

-- each floor bit and each cancelled key of the old store is one of the new store
pub record Grows (old new : List ℕ) : Type 0 where
  pub floors : (bank : Bank) (k : ℕ) → IsFloorBit old bank k → IsFloorBit new bank k
  pub cancels : (type : ContentType) (id : ℕ) → IsCancelBit old type id → IsCancelBit new type id

-- At each count of operations the store has every fuse that it had at an earlier one.
pub record NeverGoesBack (old new : FlashState) : Type 0 where
  pub grows : (m n : ℕ) → op_count_of old ≤ m → m ≤ n → n ≤ op_count_of new → Grows (upto new m) (upto new n)

-- A slot that provisions the platform at a count of operations does so at each later one, with the same bytes.
pub record KeepsProvision (old new : FlashState) : Type 0 where
  pub keeps : (m n number : ℕ) → op_count_of old ≤ m → m ≤ n → n ≤ op_count_of new → IsProvisionedBy (upto new m) number
      → IsProvisionedBy (upto new n) number × (slot_at (upto new n) number ≡ slot_at (upto new m) number)

abbrev pub AllAre : (Operation → Type 0) → List Operation → Type 0
AllAre IsOne [] = Unit {0}
AllAre IsOne (op ∷ ops) = IsOne op × AllAre IsOne ops

-- each operation that was added, whole or torn, is one of these
pub record Adds (IsOne : Operation → Type 0) (old new : FlashState) : Type 0 where
  pub added : List Operation
  pub is : new.ops ≡ old.ops ++ added
  pub all : AllAre IsOne added
