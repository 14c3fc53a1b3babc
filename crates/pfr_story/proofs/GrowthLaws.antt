-- Fuses are never taken back, and a provision never changes.
use Rattle.std.proofs.Common.{◌≡◌}
use Rattle.pfr_flash.specs.FlashState.{size_of}
use Rattle.pfr_engine.specs.Acceptance.{Acceptance}
use Rattle.pfr_fuses.specs.Growth.{NeverGoesBack, KeepsProvision}
use Rattle.pfr_script.specs.declared.event.Event.{Event}
use Rattle.pfr_script.specs.Slots.{IsKnownSlot}
use Rattle.pfr_story.specs.World.{World}
use Rattle.pfr_story.specs.Promises.{AreOff}
use Rattle.pfr_story.specs.Turn.{Turn}
use Rattle.pfr_story.proofs.Bytes.{HaveBytes}
use Rattle.pfr_story.proofs.GrownSteps.{Turn-grown}

-- A slot that provisions the platform at one moment of a step of devices that hold bytes does so at each later one, with the same bytes.
pub Turn-keeps : (accepts : Acceptance) (e : Event) (old new : World) → size_of old.nv ≡ 32768 → HaveBytes new → (¬ AreOff old → IsKnownSlot e) → Turn accepts e old new → KeepsProvision old.nv new.nv
Turn-keeps accepts e old new size held slot t = (Turn-grown accepts old new e size held slot t).1

-- Nor are fuses ever taken back in it.
pub Turn-grows : (accepts : Acceptance) (e : Event) (old new : World) → size_of old.nv ≡ 32768 → HaveBytes new → (¬ AreOff old → IsKnownSlot e) → Turn accepts e old new → NeverGoesBack old.nv new.nv
Turn-grows accepts e old new size held slot t = (Turn-grown accepts old new e size held slot t).0
