-- No job of a bank that runs is open: a step keeps that.
use Rattle.std.proofs.Common.{◌≡◌, ◌∙◌, refl, sym, ℕ, [], ◌∷◌, length, Result, Ok, Err}
use Rattle.pfr_flash.specs.FlashState.{size_of}
use Rattle.pfr_flash.specs.Layout.{IsBankSize}
use Rattle.pfr_flash.specs.declared.names.Bank.{Bank}
use Rattle.pfr_flash.specs.declared.names.Device.TheVariants as device
use Rattle.pfr_flash.proofs.PlayLemmas.{length-play}
use Rattle.pfr_engine.specs.Acceptance.{Acceptance}
use Rattle.pfr_fuses.specs.Provisioning.{judge_provision, provision_plan}
use Rattle.pfr_fuses.specs.declared.fuse_fail.FuseFail.{FuseFail}
use Rattle.pfr_fuses.specs.declared.fuse_fail.FuseFail.TheVariants.{AlreadyProvisioned}
use Rattle.pfr_fuses.specs.declared.root_slot.RootSlot.{RootSlot}
use Rattle.pfr_jobs.specs.Log.{open_job}
use Rattle.pfr_jobs.specs.declared.job.OpenJob.TheVariants as job
use Rattle.pfr_script.specs.declared.event.Event.{Event}
use Rattle.pfr_report.specs.declared.note.What.TheVariants as what
use Rattle.pfr_story.specs.Keeping.{IsSettled, HasTrustedSpans}
use Rattle.pfr_story.specs.Plans.{store, provisioned, provisioned_in}
use Rattle.pfr_story.specs.Safety.{AllSafe}
use Rattle.pfr_story.specs.Standing.{Standing, Off, Held, Running, Locked, standing_of}
use Rattle.pfr_story.specs.Story.{Story, Says, called}
use Rattle.pfr_story.specs.Turn.{begun, Turn}
use Rattle.pfr_story.specs.World.{World, story_of}
use Rattle.pfr_story.proofs.Bytes.{HaveBytes}
use Rattle.pfr_story.proofs.Carried.{Carrying, carried_safe}
use Rattle.pfr_story.proofs.FuseLaws.{provisioned_refused}
use Rattle.pfr_story.proofs.IdleRules.{KeepsIdle, IsIdle, idle_moves, own_idle, migrated_idle, IsStopped, nv_stopped}
use Rattle.pfr_story.proofs.IdleWalks.{brought_idle, expired_idle, updating_idle}
use Rattle.pfr_story.proofs.SafetyLaws.{AllSafe-append, called_any}
use Rattle.pfr_story.proofs.BusRules.{spi_safe}
use Rattle.pfr_story.proofs.StepWalks.{StepTable, provided_any, Turn-goes}
use Rattle.pfr_story.proofs.Traces.{Traced, Traced-keeps}

-- ---- a provision, which is refused where the bank runs
module _ (b : Bank) where
  abbrev IsSet : Story → Type 0
  IsSet story = standing_of b story.notes ≡ Running → IsSettled (store story)

  tried_stopped : (root : RootSlot) (judged : Result ℕ FuseFail) (story : Story) → IsStopped b story → AllSafe (KeepsIdle b) (provisioned_in root judged story) story
  tried_stopped root (Ok number) story p =
      AllSafe-append (KeepsIdle b) (called device.Nv (provision_plan number root)) (Says (λ _. what.Provisioned) ∷ []) story
      (carried_safe (IsStopped b) (KeepsIdle b) (called device.Nv (provision_plan number root)) story
      (called_any (Carrying (IsStopped b) (KeepsIdle b)) device.Nv (nv_stopped b) (λ there stopped. (tt, stopped)) (provision_plan number root) story) p) ((tt, tt), tt)
  tried_stopped root (Err cause) story p = ((tt, tt), tt)

  tried_running : (root : RootSlot) (judged : Result ℕ FuseFail) (story : Story) → judged ≡ Err AlreadyProvisioned → AllSafe (KeepsIdle b) (provisioned_in root judged story) story
  tried_running root (Ok number) story e = absurd cc
  tried_running root (Err cause) story e = ((tt, tt), tt)

  provisioned_idle : (root : RootSlot) (story : Story) → IsSet story → AllSafe (KeepsIdle b) (provisioned root story) story
  provisioned_idle root story settled = (tt, by_standing (standing_of b story.notes) refl)
    where
      judged : Result ℕ FuseFail
      judged = judge_provision (store story) root (length story.bmc.start) (length story.pch.start)

      by_standing : (s : Standing) → standing_of b story.notes ≡ s → AllSafe (KeepsIdle b) (provisioned_in root judged story) story
      by_standing Running e = let q = settled e in tried_running root judged story (provisioned_refused (store story) root (length story.bmc.start) (length story.pch.start) q.fuses q.provisioned)
      by_standing Off e = tried_stopped root judged story (λ runs. absurd (let never : Off ≡ Running = sym e ∙ runs in cc))
      by_standing Held e = tried_stopped root judged story (λ runs. absurd (let never : Held ≡ Running = sym e ∙ runs in cc))
      by_standing Locked e = tried_stopped root judged story (λ runs. absurd (let never : Locked ≡ Running = sym e ∙ runs in cc))

-- ---- a step
idle_steps : (accepts : Acceptance) (b : Bank) → StepTable (KeepsIdle b) accepts (λ root story. Unit {0})
idle_steps accepts b = record {
  faults = record { held = λ c story. (refl, tt); locked = λ c which story. (refl, tt); lost = λ which story. (refl, tt) };
  ignored = λ story. (tt, tt);
  off = λ story. (refl, tt);
  power = λ story. (tt, tt);
  booted = λ c story. (tt, tt);
  passed = λ c at story. (tt, tt);
  spi = λ c frame story sized quiet. spi_safe (KeepsIdle b) accepts c frame (record { passed = λ op here. (tt, tt); blocked = λ why here. (tt, tt); asks = λ here. tt; works = λ op here. own_idle b c op here }) story;
  smbus = λ c. record { passed = λ here. (tt, tt); blocked = λ cause here. (tt, tt) };
  migrates = λ story sized. migrated_idle b story;
  provisions = λ root story settled any. provisioned_idle b root story (settled b);
  brings = λ c story size q. brought_idle accepts b c story size (λ same. q);
  expires = λ c story size s. expired_idle accepts b c story size (λ same. s);
  updates = λ c intent story size s. updating_idle accepts b c story size intent (λ same. s);
}

-- Where no job of a bank that runs is open, none is opened.
pub Turn-idling : (accepts : Acceptance) (which : Bank) (e : Event) (old new : World) → Turn accepts e old new → HaveBytes new → IsBankSize (size_of old.bmc) → IsBankSize (size_of old.pch) → size_of old.nv ≡ 32768
    → ((c : Bank) → HasTrustedSpans accepts c (story_of old)) → Traced (KeepsIdle which) (begun e old) new
Turn-idling accepts which e old new t held bmc pch nv spans =
    Turn-goes (KeepsIdle which) accepts (λ root story. Unit {0}) (idle_steps accepts which) e old new t held bmc pch nv spans (provided_any e (story_of (begun e old)))

-- So none is behind a step either.
pub Turn-idle : (accepts : Acceptance) (which : Bank) (e : Event) (old new : World) → Turn accepts e old new → HaveBytes new → IsBankSize (size_of old.bmc) → IsBankSize (size_of old.pch) → size_of old.nv ≡ 32768
    → ((c : Bank) → HasTrustedSpans accepts c (story_of old)) → standing_of which (story_of new).notes ≡ Running → open_job (store (story_of new)) which ≡ job.None
Turn-idle accepts which e old new t held bmc pch nv spans =
    (Traced-keeps (KeepsIdle which) (IsIdle which) (idle_moves which) (begun e old) new (Turn-idling accepts which e old new t held bmc pch nv spans) idle_first).none
  where
    idle_first : IsIdle which (story_of (begun e old))
    idle_first = record { size = length-play old.nv.start old.nv.ops ∙ nv; none = λ runs. (spans which).idle runs }
