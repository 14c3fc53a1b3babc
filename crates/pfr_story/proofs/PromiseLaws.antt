-- An event keeps all that it promises.
use Rattle.std.proofs.Common.{◌≡◌}
use Rattle.pfr_flash.specs.FlashState.{size_of}
use Rattle.pfr_flash.specs.Layout.{IsBankSize}
use Rattle.pfr_flash.specs.declared.names.Bank.{Bank}
use Rattle.pfr_engine.specs.Acceptance.{Acceptance}
use Rattle.pfr_script.specs.Slots.{IsKnownSlot}
use Rattle.pfr_script.specs.declared.event.Event.{Event}
use Rattle.pfr_story.specs.EventPromises.{EventPromises}
use Rattle.pfr_story.specs.Keeping.{HasTrustedSpans}
use Rattle.pfr_story.specs.Promises.{AreOff}
use Rattle.pfr_story.specs.Turn.{Turn}
use Rattle.pfr_story.specs.World.{World, story_of}
use Rattle.pfr_story.proofs.ApartLaws.{Turn-apart}
use Rattle.pfr_story.proofs.BringLaws.{Turn-brings, Turn-powers}
use Rattle.pfr_story.proofs.Bytes.{HaveBytes}
use Rattle.pfr_story.proofs.CancelLaws.{Turn-cancels}
use Rattle.pfr_story.proofs.ChangeLaws.{Turn-changes}
use Rattle.pfr_story.proofs.Entry.{TrustedRunning}
use Rattle.pfr_story.proofs.EventLaws.{Turn-belongs, Turn-quiet}
use Rattle.pfr_story.proofs.ExpireLaws.{Turn-boots, Turn-expires}
use Rattle.pfr_story.proofs.FaultLaws.{Turn-faults_counted}
use Rattle.pfr_story.proofs.FilterLaws.{Turn-filters}
use Rattle.pfr_story.proofs.GrowthLaws.{Turn-grows, Turn-keeps}
use Rattle.pfr_story.proofs.GuardLaws.{Turn-guards}
use Rattle.pfr_story.proofs.HeedLaws.{Turn-heeds}
use Rattle.pfr_story.proofs.IdleLaws.{Turn-idle}
use Rattle.pfr_story.proofs.InWorkLaws.{Turn-in_work}
use Rattle.pfr_story.proofs.JudgedLaws.{Turn-judges}
use Rattle.pfr_story.proofs.KeepingLaws.{trusted_now}
use Rattle.pfr_story.proofs.LossLaws.{Turn-losses, Turn-lost, Turn-off}
use Rattle.pfr_story.proofs.MigratingLaws.{Turn-migrates}
use Rattle.pfr_story.proofs.NoteLaws.{Turn-distrusts, Turn-locks, Turn-releases, Turn-restores}
use Rattle.pfr_story.proofs.OneSlotLaws.{Turn-one_slot}
use Rattle.pfr_story.proofs.PowerOrderLaws.{Turn-in_order}
use Rattle.pfr_story.proofs.ProvisionLaws.{Turn-provisions}
use Rattle.pfr_story.proofs.RecoveryLaws.{Turn-recoverable}
use Rattle.pfr_story.proofs.RecoveryUpdateLaws.{Turn-updates_recovery}
use Rattle.pfr_story.proofs.RiseLaws.{Turn-counted}
use Rattle.pfr_story.proofs.ScriptFaultLaws.{Turn-scripted}
use Rattle.pfr_story.proofs.TakenUp.{Turn-takes_up}
use Rattle.pfr_story.proofs.Turns.{Turn-moved}
use Rattle.pfr_story.proofs.UpdateLaws.{Turn-updates}

pub Turn-promises : (accepts : Acceptance) (e : Event) (old new : World) → Turn accepts e old new → HaveBytes new → IsBankSize (size_of old.bmc) → IsBankSize (size_of old.pch) → size_of old.nv ≡ 32768
    → ((which : Bank) → HasTrustedSpans accepts which (story_of old)) → (¬ AreOff old → IsKnownSlot e) → EventPromises accepts e old new
Turn-promises accepts e old new t held bmc pch nv spans slot =
    let trusted : TrustedRunning accepts old = λ which runs. trusted_now accepts which old (spans which) runs in
    let idle = λ (which : Bank). (spans which).idle in
    let settled = λ (which : Bank). (spans which).settled in
    record {
      released = Turn-releases accepts e old new nv t held;
      locks = Turn-locks accepts e old new nv t held;
      distrusts = Turn-distrusts accepts e old new nv t;
      restores = Turn-restores accepts e old new nv t held;
      judges = Turn-judges accepts e old new t held bmc pch nv trusted idle settled;
      takes_up = Turn-takes_up accepts e old new nv t held bmc pch;
      heeds = Turn-heeds accepts e old new nv t held bmc pch;
      brings_up = Turn-brings accepts e old new nv t held bmc pch;
      migrates = Turn-migrates accepts e old new nv held t;
      in_order = Turn-in_order accepts e old new nv t;
      powers = Turn-powers accepts e old new nv t held bmc pch;
      recoverable = Turn-recoverable accepts e old new t held bmc pch nv spans;
      no_job = λ which. Turn-idle accepts which e old new t held bmc pch nv spans;
      updates = Turn-updates accepts e old new t held bmc pch nv trusted idle;
      updates_recovery = Turn-updates_recovery accepts e old new t held bmc pch nv trusted idle settled;
      cancels = Turn-cancels accepts e old new t held nv trusted;
      changes = Turn-changes accepts e old new t held bmc pch nv slot spans;
      provisions = Turn-provisions accepts e old new nv slot t;
      one_slot = Turn-one_slot accepts e old new nv slot t;
      grows = Turn-grows accepts e old new nv held slot t;
      keeps = Turn-keeps accepts e old new nv held slot t;
      filters = Turn-filters accepts e old new t trusted;
      expires = Turn-expires accepts e old new t held bmc pch nv trusted idle;
      boots = Turn-boots accepts e old new t;
      guards = Turn-guards accepts e old new t;
      belongs = Turn-belongs accepts e old new t held bmc pch nv trusted idle settled;
      apart = Turn-apart accepts e old new nv t;
      in_work = Turn-in_work accepts e old new t held bmc pch nv slot;
      quiet = Turn-quiet accepts e old new t;
      losses = Turn-losses accepts e old new t;
      lost = Turn-lost accepts e old new t;
      off = Turn-off accepts e old new nv t;
      faults = Turn-faults_counted accepts e old new t;
      scripted = Turn-scripted accepts e old new t;
      moved = Turn-moved accepts e old new t;
      counted = Turn-counted accepts e old new nv t;
    }
