-- What a step promises of an update of a bank's active image.
use Rattle.std.specs.Prelude.{◌≡◌, ◌≢◌, ◌⊎◌, ℕ, Bool, true, false, List}
use Rattle.pfr_flash.specs.declared.names.Bank.{Bank}
use Rattle.pfr_flash.specs.declared.names.Counts.{Counts}
use Rattle.pfr_flash.specs.FlashState.{upto}
use Rattle.pfr_flash.specs.declared.names.Device.{Device}
use Rattle.pfr_flash.specs.declared.names.Device.TheVariants.{Nv}
use Rattle.pfr_engine.specs.Acceptance.{Acceptance}
use Rattle.pfr_fuses.specs.RootSlot.{layout_of}
use Rattle.pfr_jobs.specs.LogState.{is_spent}
use Rattle.pfr_jobs.specs.declared.job.JobKind.TheVariants.{ActiveFromStaging}
use Rattle.pfr_rebuilt.specs.ActiveCopying.{active_rebuilt}
use Rattle.pfr_capsule.specs.declared.fail.CapsuleFail.{CapsuleFail}
use Rattle.pfr_script.specs.declared.event.Intent.TheVariants.{Active, Full}
use Rattle.pfr_script.specs.declared.event.Event.{Event}
use Rattle.pfr_script.specs.declared.event.Event.TheVariants as event
use Rattle.pfr_report.specs.Texts.{IsNoted}
use Rattle.pfr_report.specs.declared.note.Note.{Note}
use Rattle.pfr_report.specs.declared.note.Refusal.TheVariants.{Capsule}
use Rattle.pfr_report.specs.declared.note.What.TheVariants.{Held, Released, Updated, Refused}
use Rattle.pfr_story.specs.Story.{device_of}
use Rattle.pfr_story.specs.World.{World, counts_in, state_at, added}
use Rattle.pfr_story.specs.Causes.{HasBadStaging, HasGoodStaging}
use Rattle.pfr_story.specs.Making.{IsMadeFrom}
use Rattle.pfr_story.specs.Stopping.{IsOpenOrMade}
use Rattle.pfr_story.specs.Promises.{AtCounts, Runs, count_at}
use Rattle.pfr_story.specs.Bringing.{IsCalm, IsNotedBehind}

-- what an update of a bank that is held at these counts comes to
pub record UpdatesAt (accepts : Acceptance) (which : Bank) (dynamic : Bool) (new : World) (notes : List Note) (at : Counts) : Type 0 where
  pub held : IsNoted notes (Held which at)
  -- It is refused only for the first cause against what stands in its staging area, and always for that, unless a call fails: the bank
  -- is released again as it is.
  pub refused : (cause : CapsuleFail) → IsNoted notes (Refused which (Capsule cause)) → AtCounts (λ image nv. HasBadStaging cause which image nv accepts) which at new
  pub refuses : (cause : CapsuleFail) → IsCalm which notes → AtCounts (λ image nv. HasBadStaging cause which image nv accepts) which at new
      → (svn : ℕ) × IsNotedBehind (Refused which (Capsule cause)) (Released which svn at) notes
  -- It is done only where a good capsule stands there, and always then, unless a call fails: the bank is released by the capsule's
  -- manifest.
  pub updated : (svn : ℕ) → IsNoted notes (Updated which dynamic svn)
      → (g : AtCounts (λ image nv. HasGoodStaging which image nv accepts) which at new) × (svn ≡ g.good.capsule.manifest.svn)
      × IsMadeFrom accepts which (ActiveFromStaging dynamic) (upto (state_at (device_of which) new) (count_at which at)) g.good.capsule (layout_of g.fuses.provision which) new
  pub updates : IsCalm which notes → (g : AtCounts (λ image nv. HasGoodStaging which image nv accepts) which at new)
      → (then : Counts) × IsNotedBehind (Updated which dynamic g.good.capsule.manifest.svn) (Released which g.good.capsule.manifest.svn then) notes
  -- Whatever failed, with a good capsule there the bank is left as it was, or its job is open, or the image made, unless the log was spent.
  pub stopped : (g : AtCounts (λ image nv. HasGoodStaging which image nv accepts) which at new) → AtCounts (λ image nv. is_spent nv which ≡ true) which at new
      ⊎ IsOpenOrMade which (ActiveFromStaging dynamic) g.good.capsule.digest
      (active_rebuilt (ActiveFromStaging dynamic) (upto (state_at (device_of which) new) (count_at which at)) g.good.capsule (layout_of g.fuses.provision which)) new at

pub record UpdatesBy (accepts : Acceptance) (which : Bank) (dynamic : Bool) (old new : World) : Type 0 where
  pub updates : UpdatesAt accepts which dynamic new (added old new) (counts_in old)
  -- An update that is refused writes nothing, and none writes the other bank.
  pub writes_nothing : (cause : CapsuleFail) → IsNoted (added old new) (Refused which (Capsule cause)) → counts_in new ≡ counts_in old
  pub others : (other : Device) → other ≢ device_of which → other ≢ Nv → (state_at other new).ops ≡ (state_at other old).ops

-- An update of the active image of a bank that runs is judged before anything is written.
abbrev pub Updates : Event → Acceptance → World → World → Type 0
Updates (event.Update which Active) accepts old new = Runs which old → UpdatesBy accepts which false old new
Updates (event.Update which Full) accepts old new = Runs which old → UpdatesBy accepts which true old new
Updates e accepts old new = Unit {0}
