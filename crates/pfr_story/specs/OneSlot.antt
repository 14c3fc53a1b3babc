-- What a provision writes.
use Rattle.std.specs.Prelude.{◌≡◌, ℕ, ◌*◌, ◌≤◌, List, Ok, Err}
use Rattle.pfr_flash.specs.FlashState.{now, upto, op_count_of}
use Rattle.pfr_flash.specs.Range.{SameOutside}
use Rattle.pfr_fuses.specs.declared.fuse_fail.FuseFail.{FuseFail}
use Rattle.pfr_fuses.specs.declared.root_slot.RootSlot.{RootSlot}
use Rattle.pfr_script.specs.declared.event.Event.{Event}
use Rattle.pfr_script.specs.declared.event.Event.TheVariants as event
use Rattle.pfr_story.specs.World.{World}
use Rattle.pfr_story.specs.Promises.{sizes_judged}

-- something that is true of the store at each count of its operations in the event
abbrev pub AtEachCount : (List ℕ → Type 0) → World → World → Type 0
AtEachCount P old new = (n : ℕ) → op_count_of old.nv ≤ n → n ≤ op_count_of new.nv → P (upto new.nv n)

pub record WritesOneSlot (what : RootSlot) (old new : World) : Type 0 where
  -- Each byte outside of the slot that is to be provisioned stays.
  pub others : (number : ℕ) → sizes_judged what old ≡ Ok number → AtEachCount (SameOutside (256 * number) 256 (now old.nv)) old new
  -- One that is refused writes nothing.
  pub refused : (cause : FuseFail) → sizes_judged what old ≡ Err cause → new.nv.ops ≡ old.nv.ops

-- A provision writes nothing but the slot that it takes.
abbrev pub ProvisionsOneSlot : Event → World → World → Type 0
ProvisionsOneSlot (event.Provision what) old new = WritesOneSlot what old new
ProvisionsOneSlot e old new = Unit {0}
