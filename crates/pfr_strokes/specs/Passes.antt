-- A call that is to do deeds on a bank and on the store: how far it came.
use Rattle.std.specs.Prelude.{◌≡◌, List, ◌++◌, Result, Ok, Err}
use Rattle.pfr_flash.specs.FlashState.{FlashState, now}
use Rattle.pfr_flash.specs.Moved.{Worked}
use Rattle.pfr_flash.specs.Operation.{Operation}
use Rattle.pfr_flash.specs.Plan.{with_ops, FailsWorking}
use Rattle.pfr_flash.specs.declared.flash.FlashFail.{FlashFail}
use Rattle.pfr_flash.specs.declared.flash.FlashFail.TheVariants.{Fault}
use Rattle.pfr_strokes.specs.Deeds.{Deed, side_ops, IsDeedCut}
use Rattle.pfr_strokes.specs.declared.side.Side.{Side}
use Rattle.pfr_strokes.specs.declared.side.Side.TheVariants as side
use Rattle.pfr_strokes.specs.declared.side.CopyFail.{CopyFail}
use Rattle.pfr_strokes.specs.declared.side.CopyFail.TheVariants as fails

pub record Pair : Type 0 where
  pub bank : FlashState
  pub store : FlashState

abbrev pub at_side : Side → Pair → FlashState
at_side side.Bank pair = pair.bank
at_side side.Store pair = pair.store

abbrev pub other_side : Side → Side
other_side side.Bank = side.Store
other_side side.Store = side.Bank

-- a device did these operations, and nothing else changed but the count of bytes that were asked for
pub record Did (ops : List Operation) (old new : FlashState) : Type 0 where
  pub whole : new ≡ record (with_ops old ops) { taken = new.taken }
  pub worked : Worked old new

-- a call of it failed after these
pub record Failed (fail : FlashFail) (ops : List Operation) (old new : FlashState) : Type 0 where
  pub done : new.ops ≡ old.ops ++ ops
  pub failed : FailsWorking fail old new
  -- a fault leaves the power as it was
  pub still : fail ≡ Fault → new.powered ≡ old.powered
  pub worked : Worked old new

-- all deeds were done
pub record DidAll (deeds : List Deed) (old new : Pair) : Type 0 where
  pub each : (which : Side) → Did (side_ops which deeds) (at_side which old) (at_side which new)

-- a call of this side failed on the way, and the other one did its own
pub record StoppedAt (which : Side) (fail : FlashFail) (deeds : List Deed) (old new : Pair) : Type 0 where
  pub trace : List Deed
  pub cut : IsDeedCut which deeds (now (at_side which old)) trace
  pub here : Failed fail (side_ops which trace) (at_side which old) (at_side which new)
  pub there : Did (side_ops (other_side which) trace) (at_side (other_side which) old) (at_side (other_side which) new)

-- At Ok all deeds were done, at Err a front of them, the last operation perhaps torn.
abbrev pub Passes : {T : Type 0} → List Deed → Pair → Pair → Result T CopyFail → Type 0
Passes deeds old new (Ok x) = DidAll deeds old new
Passes deeds old new (Err (fails.Bank fail)) = StoppedAt side.Bank fail deeds old new
Passes deeds old new (Err (fails.Store fail)) = StoppedAt side.Store fail deeds old new
