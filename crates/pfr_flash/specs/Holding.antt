-- That a device holds bytes, and nothing else.
use Rattle.std.specs.Prelude.{List, [], ℕ, Option, Some, None, All}
use Rattle.pfr_flash.specs.Bytes.{AreBytes}
use Rattle.pfr_flash.specs.Operation.{Operation, Erase, Program, Torn}
use Rattle.pfr_flash.specs.FlashState.{FlashState, Due}

-- what an operation is given to write: nothing for an erase, which writes 0xFF
abbrev pub data_of : Operation → List ℕ
data_of (Erase sector) = []
data_of (Program at bytes) = bytes
data_of (Torn at after) = after

abbrev pub WritesBytes : Operation → Type 0
WritesBytes op = AreBytes (data_of op)

-- the tear of an armed cut or fault, if there is one
abbrev pub tear_of : Option Due → List ℕ
tear_of None = []
tear_of (Some due) = due.tear

-- All that a device held, was given to write and is armed with are bytes.
pub record HoldsBytes (d : FlashState) : Type 0 where
  pub start : AreBytes d.start
  pub ops : All WritesBytes d.ops
  pub cut : AreBytes (tear_of d.cut_due)
  pub fault : AreBytes (tear_of d.fault_due)
