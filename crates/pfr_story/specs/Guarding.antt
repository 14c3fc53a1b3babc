-- What a step promises of the watches over the banks' boots.
use Rattle.std.specs.Prelude.{◌≡◌, ◌⊎◌, ℕ, ◌<◌, true, List, [], ◌∷◌, Option}
use Rattle.pfr_flash.specs.declared.names.Bank.{Bank}
use Rattle.pfr_flash.specs.declared.names.Bank.TheVariants as bank
use Rattle.pfr_flash.specs.declared.names.Counts.{Counts}
use Rattle.pfr_flash.specs.declared.names.Device.{Device}
use Rattle.pfr_flash.specs.FlashState.{upto}
use Rattle.pfr_engine.specs.Acceptance.{Acceptance}
use Rattle.pfr_fuses.specs.RootSlot.{layout_of}
use Rattle.pfr_jobs.specs.LogState.{is_spent}
use Rattle.pfr_jobs.specs.declared.job.JobKind.TheVariants.{ActiveFromRecovery}
use Rattle.pfr_rebuilt.specs.ActiveCopying.{active_rebuilt}
use Rattle.pfr_capsule.specs.declared.fail.CapsuleFail.{CapsuleFail}
use Rattle.pfr_recoverable.specs.Recoverable.{HasGoodRecovery}
use Rattle.pfr_script.specs.declared.event.Event.{Event}
use Rattle.pfr_script.specs.declared.event.Event.TheVariants as event
use Rattle.pfr_report.specs.Texts.{IsNoted}
use Rattle.pfr_report.specs.declared.note.LockWhy.TheVariants.{WatchdogSpent, NoRecovery}
use Rattle.pfr_report.specs.declared.note.Note.{Note}
use Rattle.pfr_report.specs.declared.note.What.TheVariants.{Held, Released, Locked, Lost, Restored, Expired}
use Rattle.pfr_watch.specs.Stages.{next_stage}
use Rattle.pfr_story.specs.Guards.{Guards, guard_at, guards_after}
use Rattle.pfr_story.specs.Story.{device_of}
use Rattle.pfr_story.specs.World.{World, state_at, added}
use Rattle.pfr_story.specs.Plans.{level_after}
use Rattle.pfr_story.specs.Turn.{guards_at, pass_note}
use Rattle.pfr_story.specs.Causes.{HasBadRecovery}
use Rattle.pfr_story.specs.Stopping.{IsOpenOrMade}
use Rattle.pfr_story.specs.Promises.{AtCounts, IsExpiring, IsAtStage, count_at}
use Rattle.pfr_story.specs.Making.{IsMadeFrom}
use Rattle.pfr_story.specs.Bringing.{IsCalm, IsNotedBehind}

-- what guards the banks once these are noted
abbrev pub guards_by : List Note → Guards → Guards
guards_by [] guards = guards
guards_by (note ∷ notes) guards = guards_by notes (guards_after note.what guards)

-- The banks' guards are moved by the event, which ticks them, and then by the notes alone.
abbrev pub GuardsFollow : Event → World → World → Type 0
GuardsFollow e old new = new.guards ≡ guards_by (added old new) (guards_at e old.notes.list old.guards)

-- no loss of power in the work on the BMC kept that on the PCH from beginning
abbrev pub IsReached : Event → Bank → World → List Note → Type 0
IsReached e bank.Bmc old notes = Unit {0}
IsReached e bank.Pch old notes = IsExpiring e bank.Bmc old → (device : Option Device) (at : Counts) → ¬ IsNoted notes (Lost device at)

-- the bank was restored from a good capsule at this level, and released behind that, by the capsule's manifest
pub record IsReleasedAt (which : Bank) (level svn : ℕ) (notes : List Note) : Type 0 where
  pub then : Counts
  pub noted : IsNotedBehind (Restored which level) (Released which svn then) notes

-- what an expiry of the bank's watch to a level comes to, of a bank that is held at these counts
pub record ExpiresAt (accepts : Acceptance) (which : Bank) (level : ℕ) (new : World) (notes : List Note) (at : Counts) : Type 0 where
  pub held : IsNotedBehind (Expired which level) (Held which at) notes
  -- The fourth locks it, whatever fails.
  pub spent : level ≡ 4 → IsNoted notes (Locked which WatchdogSpent at)
  -- Before it, it is restored where a good capsule stands in its recovery area, and else locked, unless a call fails.
  pub restored : level < 4 → IsCalm which notes → (r : AtCounts (λ image nv. HasGoodRecovery which image nv accepts) which at new)
      → IsReleasedAt which level r.good.capsule.manifest.svn notes
  pub locked : level < 4 → IsCalm which notes → (cause : CapsuleFail) → AtCounts (λ image nv. HasBadRecovery cause which image nv accepts) which at new
      → IsNoted notes (Locked which (NoRecovery cause) at)
  -- What a restore leaves is the image rebuilt at this level from that capsule.
  pub made : IsNoted notes (Restored which level) → (r : AtCounts (λ image nv. HasGoodRecovery which image nv accepts) which at new)
      × IsMadeFrom accepts which (ActiveFromRecovery level) (upto (state_at (device_of which) new) (count_at which at)) r.good.capsule (layout_of r.fuses.provision which) new
  -- Whatever failed, with a good capsule there the bank is left as it was, or its job is open, or the image made, unless the log was spent.
  pub stopped : level < 4 → (r : AtCounts (λ image nv. HasGoodRecovery which image nv accepts) which at new) → AtCounts (λ image nv. is_spent nv which ≡ true) which at new
      ⊎ IsOpenOrMade which (ActiveFromRecovery level) r.good.capsule.digest
      (active_rebuilt (ActiveFromRecovery level) (upto (state_at (device_of which) new) (count_at which at)) r.good.capsule (layout_of r.fuses.provision which)) new at

pub record ExpiresBy (e : Event) (accepts : Acceptance) (which : Bank) (old new : World) : Type 0 where
  -- Its watch is noted to expire always where it does.
  pub all : IsExpiring e which old → IsReached e which old (added old new) → IsNoted (added old new) (Expired which (level_after (guard_at which old.guards).watch))
  pub to : (level : ℕ) → IsNoted (added old new) (Expired which level) → (at : Counts) × ExpiresAt accepts which level new (added old new) at
  -- It is locked for it only behind such a note, and for the want of a good capsule only with the first cause against its recovery area.
  pub spent : (at : Counts) → IsNoted (added old new) (Locked which WatchdogSpent at) → IsNoted (added old new) (Expired which 4)
  pub no_recovery : (cause : CapsuleFail) (at : Counts) → IsNoted (added old new) (Locked which (NoRecovery cause) at)
      → (level : ℕ) × (level < 4) × IsNoted (added old new) (Expired which level) × AtCounts (λ image nv. HasBadRecovery cause which image nv accepts) which at new

-- Of each bank's watch, where it expires and what comes of it. That it is noted only where it expires is said with the other notes.
abbrev pub Expires : Event → Acceptance → World → World → Type 0
Expires e accepts old new = (which : Bank) → ExpiresBy e accepts which old new

-- A stage that is passed is noted always. That it is noted only then is said with the other notes.
abbrev pub Boots : Event → World → World → Type 0
Boots (event.Boot which true) old new = (stage : _) → IsAtStage which stage old → IsNoted (added old new) (pass_note which stage (next_stage stage))
Boots e old new = Unit {0}
