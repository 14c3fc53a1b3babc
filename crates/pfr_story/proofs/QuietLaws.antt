-- What work tells of no expired watch of a bank: all of another bank, and all events by which none expires.
use Rattle.std.proofs.Common.{◌≡◌, ◌∙◌, refl, sym, ap, subst, arith, ℕ, ◌+◌, ◌≤◌, true, false, List, [], ◌∷◌, length, ◌⊎◌, inl, inr, Some, Result, Ok, Err}
use Rattle.pfr_flash.specs.Operation.{Operation, applied}
use Rattle.pfr_flash.specs.Range.{place_of, len_of}
use Rattle.pfr_flash.specs.declared.names.Bank.{Bank}
use Rattle.pfr_flash.specs.declared.names.Bank.TheVariants as bank
use Rattle.pfr_flash.specs.declared.names.Counts.{Counts}
use Rattle.pfr_flash.specs.declared.names.Device.{Device}
use Rattle.pfr_flash.specs.declared.names.Device.TheVariants as device
use Rattle.pfr_flash.proofs.PlayLemmas.{length-applied}
use Rattle.pfr_engine.specs.Acceptance.{Acceptance}
use Rattle.pfr_fuses.specs.FusesOf.{fuses_of}
use Rattle.pfr_fuses.specs.Provisioning.{judge_provision, provision_plan}
use Rattle.pfr_fuses.specs.declared.fuse_fail.FuseFail.{FuseFail}
use Rattle.pfr_fuses.specs.declared.root_slot.RootSlot.{RootSlot}
use Rattle.pfr_manifest.specs.declared.manifest.Manifest.{Manifest}
use Rattle.pfr_jobs.specs.Log.{log_at, open_job}
use Rattle.pfr_jobs.proofs.BeginLaw.{log_high}
use Rattle.pfr_jobs.proofs.CutLaws.{outside_keeps}
use Rattle.pfr_script.specs.declared.event.Event.{Event}
use Rattle.pfr_script.specs.declared.event.Event.TheVariants as event
use Rattle.pfr_script.specs.declared.event.Intent.{Intent}
use Rattle.pfr_watch.specs.Stages.{next_stage}
use Rattle.pfr_watch.specs.declared.watch.Watch.{Watch}
use Rattle.pfr_report.specs.declared.note.LockWhy.{LockWhy}
use Rattle.pfr_report.specs.declared.note.What.{What}
use Rattle.pfr_report.specs.declared.note.What.TheVariants as what
use Rattle.pfr_story.specs.Guards.{guard_at, watch_after}
use Rattle.pfr_story.specs.Story.{Story, Move, moved_by, Says, Does, Asks, noted, operated, counts_of, past_at, called, device_of, other_bank}
use Rattle.pfr_story.specs.World.{World, story_of}
use Rattle.pfr_story.specs.Course.{Course, Follows}
use Rattle.pfr_story.specs.Recovery.{KeepsRecoverable}
use Rattle.pfr_story.specs.Safety.{Rule, AllGood, AllSafe, Keeps}
use Rattle.pfr_story.specs.JobPlans.{job_notes}
use Rattle.pfr_story.specs.Plans.{store, migration_in, provisioned_in, smbus_judged}
use Rattle.pfr_story.specs.Turn.{fault_of, bank_stretch, fuse_stretch, provision_stretch, spi_stretch, expiry_stretch, update_stretch, stage_at, ignored, taken, power_course, off_course, provision_course, spi_course, smbus_course, update_course, boot_course}
use Rattle.pfr_story.specs.Promises.{IsWatchLock}
use Rattle.pfr_story.proofs.SafetyLaws.{AllSafe-append, image_operated, safe_whole}
use Rattle.pfr_story.proofs.BringAllowed.{IsSized, AllowsBank, expired_allowed}
use Rattle.pfr_story.proofs.BringRules.{Any, level_at}
use Rattle.pfr_story.proofs.WorkShapes.{Table, Going, Ended, Task, Brings, Updates, Checks, checks_stays, stroked, logged, raised, cleared, untrusted, refused, resumed, given_up, restored, updated, recovery_updated, cancelled, released, unready, no_image, no_recovery, spent}
use Rattle.pfr_story.proofs.WorkWalks.{brought_worked, updating_worked}
use Rattle.pfr_story.proofs.BusRules.{spi_safe, smbus_safe}
use Rattle.pfr_story.proofs.JobGrowth.{floor_in_sector}
use Rattle.pfr_story.proofs.JobRules.{IsInLog, IsRaise}
use Rattle.pfr_story.proofs.JobTrust.{IsTrustedNow, KeepsTrust, jobs_trust}
use Rattle.pfr_story.proofs.JobWalks.{TellsJobs}
use Rattle.pfr_story.proofs.StepTraces.{pass_noted}
use Rattle.pfr_story.proofs.Traces.{Saying, call_says, Traced, Traced-keeps}
use Rattle.pfr_story.proofs.Made.{Wrote}
use Rattle.pfr_story.proofs.OwnLaws.{unready_unwatched}
use Rattle.pfr_story.proofs.Endings.{IsKept, AllKept, course_traced, traced_wrote}

-- ---- notes of other banks
-- it tells that this bank is held, locked or restored, or that its watch expired
abbrev pub IsOf : Bank → What → Type 0
IsOf which (what.Held b at) = b ≡ which
IsOf which (what.Locked b cause at) = b ≡ which
IsOf which (what.Expired b level) = b ≡ which
IsOf which (what.Restored b level) = b ≡ which
IsOf which that = ⊥

abbrev pub Elsewhere : Bank → What → Type 0
Elsewhere which that = ¬ IsOf which that

-- it doesn't tell of an expired watch of this bank
abbrev pub Unwatched : Bank → What → Type 0
Unwatched which (what.Locked b cause at) = b ≡ which → ¬ IsWatchLock cause
Unwatched which (what.Expired b level) = ¬ (b ≡ which)
Unwatched which that = Unit {0}

pub unwatched_elsewhere : (which : Bank) (that : What) → Elsewhere which that → Unwatched which that
unwatched_elsewhere which (what.Locked b cause at) elsewhere = λ e. absurd (elsewhere e)
unwatched_elsewhere which (what.Expired b level) elsewhere = elsewhere
unwatched_elsewhere which _ elsewhere = tt

-- ---- the work on a bank whose watch expires leaves the other one
-- what a job on a bank does to the store
abbrev pub IsOfJob : Bank → Operation → Story → Type 0
IsOfJob b op story = IsInLog b op ⊎ IsRaise b (store story) op

-- nothing is told of the other bank, its watch stays, and what is done is the bank's, or is of a job on it
abbrev pub Apart : Bank → Rule
Apart b (Says w) story = ((at : Counts) → Elsewhere (other_bank b) (w at)) × ((at : Counts) (watch : Watch) → watch_after (other_bank b) (w at) watch ≡ watch)
Apart b (Does which op) story = (which ≡ device_of b) ⊎ ((which ≡ device.Nv) × IsOfJob b op story)
Apart b (Asks which) story = Unit {0}

locked_apart : (b : Bank) (cause : LockWhy) (story : Story) → Apart b (Says (what.Locked b cause)) story
locked_apart bank.Bmc cause story = ((λ at e. cc), λ at watch. refl)
locked_apart bank.Pch cause story = ((λ at e. cc), λ at watch. refl)

held_apart : (b : Bank) (story : Story) → Apart b (Says (what.Held b)) story
held_apart bank.Bmc story = ((λ at e. cc), λ at watch. refl)
held_apart bank.Pch story = ((λ at e. cc), λ at watch. refl)

expired_apart : (b : Bank) (level : ℕ) (story : Story) → Apart b (Says (λ _. what.Expired b level)) story
expired_apart bank.Bmc level story = ((λ at e. cc), λ at watch. refl)
expired_apart bank.Pch level story = ((λ at e. cc), λ at watch. refl)

restored_apart : (b : Bank) (level : ℕ) (story : Story) → Apart b (Says (λ _. what.Restored b level)) story
restored_apart bank.Bmc level story = ((λ at e. cc), λ at watch. refl)
restored_apart bank.Pch level story = ((λ at e. cc), λ at watch. refl)

released_apart : (b : Bank) (svn : ℕ) (story : Story) → Apart b (Says (what.Released b svn)) story
released_apart bank.Bmc svn story = ((λ at e. e), λ at watch. refl)
released_apart bank.Pch svn story = ((λ at e. e), λ at watch. refl)

-- nothing of it is told of a bank, nor moves a watch
untold_apart : (b : Bank) → TellsJobs (Apart b) b (job_notes b)
untold_apart bank.Bmc = record {
  resumed = λ kind story. ((λ at e. e), λ at watch. refl);
  given_up = λ story. ((λ at e. e), λ at watch. refl);
  restored = restored_apart bank.Bmc;
  updated = λ dynamic svn story. ((λ at e. e), λ at watch. refl);
  recovery_updated = λ svn story. ((λ at e. e), λ at watch. refl);
}
untold_apart bank.Pch = record {
  resumed = λ kind story. ((λ at e. e), λ at watch. refl);
  given_up = λ story. ((λ at e. e), λ at watch. refl);
  restored = restored_apart bank.Pch;
  updated = λ dynamic svn story. ((λ at e. e), λ at watch. refl);
  recovery_updated = λ svn story. ((λ at e. e), λ at watch. refl);
}

alone : (b : Bank) → AllowsBank (Apart b) b
alone b = record {
  released = released_apart b;
  locked = locked_apart b;
  untrusted = λ cause story. ((λ at e. e), λ at watch. refl);
  jobs = record { asks = λ which story own. tt; works = λ op story. inl refl; logs = λ op story own. inr (refl, inl own); raises = λ op story raise. inr (refl, inr raise) };
  tells = untold_apart b;
}

pub expiry_apart : (accepts : Acceptance) (b : Bank) → IsKept (Apart b) (expiry_stretch accepts b)
expiry_apart accepts b = record {
  plan = λ story sized. expired_allowed (Apart b) accepts b (alone b) story sized (expired_apart b (level_at b story) story) (held_apart b (noted (λ _. what.Expired b (level_at b story)) story));
  fault = λ which story. (locked_apart b (fault_of which) story, tt);
}

pub lost_apart : (b : Bank) (which : Device) (story : Story) → Apart b (Says (what.Lost (Some which))) story
lost_apart b which story = ((λ at e. e), λ at watch. refl)

pub apart_wrote : (b : Bank) (a c : World) → Traced (Apart b) a c → Wrote (Elsewhere (other_bank b)) a c
apart_wrote b = traced_wrote (Apart b) (Elsewhere (other_bank b)) (λ w story good. good.0 (counts_of story))

-- what it leaves
pub record Spared (accepts : Acceptance) (b : Bank) (from to : Story) : Type 0 where
  pub other : past_at (device_of (other_bank b)) to ≡ past_at (device_of (other_bank b)) from
  pub watch : (guard_at (other_bank b) to.guards).watch ≡ (guard_at (other_bank b) from.guards).watch
  pub size : length (store to) ≡ length (store from)
  pub opened : IsSized from → open_job (store to) (other_bank b) ≡ open_job (store from) (other_bank b)
  pub trusts : (m : Manifest) → IsTrustedNow accepts (other_bank b) m from → IsTrustedNow accepts (other_bank b) m to

-- what a job does to the store lies outside of the other bank's log
job_apart : (b : Bank) (op : Operation) (story : Story) → IsOfJob b op story → (place_of op + len_of op ≤ log_at (other_bank b)) ⊎ (log_at (other_bank b) + 0x3000 ≤ place_of op)
job_apart bank.Bmc op story (inl w) = inl (omega (arith, w.high))
job_apart bank.Pch op story (inl w) = inr (omega (arith, w.low))
job_apart b op story (inr r) = inr (omega (arith, r.within.low, log_high (other_bank b), (floor_in_sector b).0))

module _ (accepts : Acceptance) where
  job_trusts : (b : Bank) (op : Operation) (story : Story) → IsOfJob b op story → (m : Manifest) → KeepsTrust accepts (other_bank b) m (Does device.Nv op) story
  job_trusts b op story (inl own) m = (jobs_trust accepts m b).logs op story own
  job_trusts b op story (inr raise) m = (jobs_trust accepts m b).raises op story raise

  spared_own : (b : Bank) (op : Operation) (from story : Story) → Spared accepts b from story → Spared accepts b from (operated (device_of b) op story)
  spared_own bank.Bmc op from story p = record { other = p.other; watch = p.watch; size = p.size; opened = p.opened; trusts = p.trusts }
  spared_own bank.Pch op from story p = record { other = p.other; watch = p.watch; size = p.size; opened = p.opened; trusts = p.trusts }

  kept_past : (b : Bank) (op : Operation) (story : Story) → past_at (device_of b) (operated device.Nv op story) ≡ past_at (device_of b) story
  kept_past bank.Bmc op story = refl
  kept_past bank.Pch op story = refl

  spared_store : (b : Bank) (op : Operation) (from story : Story) → IsOfJob b op story → Spared accepts b from story → Spared accepts b from (operated device.Nv op story)
  spared_store b op from story of p =
      let is : store (operated device.Nv op story) ≡ applied (store story) op = image_operated device.Nv op story in
      record {
        other = kept_past (other_bank b) op story ∙ p.other;
        watch = p.watch;
        size = ap (λ (nv : List ℕ). length nv) is ∙ length-applied (store story) op ∙ p.size;
        opened = λ sized. ap (λ (nv : List ℕ). open_job nv (other_bank b)) is ∙ outside_keeps (store story) (other_bank b) (p.size ∙ sized) op (job_apart b op story of) ∙ p.opened sized;
        trusts = λ m t. job_trusts b op story of m (p.trusts m t);
      }

  spared_does : (b : Bank) (which : Device) (op : Operation) (from story : Story) → Apart b (Does which op) story → Spared accepts b from story → Spared accepts b from (operated which op story)
  spared_does b which op from story (inl e) p = subst (λ (d : Device). Spared accepts b from (operated d op story)) (sym e) (spared_own b op from story p)
  spared_does b which op from story (inr k) p = subst (λ (d : Device). Spared accepts b from (operated d op story)) (sym k.0) (spared_store b op from story k.1 p)

  spared_says : (b : Bank) (w : Counts → What) (from story : Story) → Apart b (Says w) story → Spared accepts b from story → Spared accepts b from (noted w story)
  spared_says bank.Bmc w from story good p =
      record { other = p.other; watch = good.1 (counts_of story) story.guards.pch.watch ∙ p.watch; size = p.size; opened = p.opened; trusts = p.trusts }
  spared_says bank.Pch w from story good p =
      record { other = p.other; watch = good.1 (counts_of story) story.guards.bmc.watch ∙ p.watch; size = p.size; opened = p.opened; trusts = p.trusts }

  spares : (b : Bank) (from : Story) → Keeps (Apart b) (Spared accepts b from)
  spares b from (Says w) story g p = spared_says b w from story g p
  spares b from (Does which op) story g p = spared_does b which op from story g p
  spares b from (Asks which) story g p = p

  pub traced_spares : (b : Bank) (a c : World) → Traced (Apart b) a c → Spared accepts b (story_of a) (story_of c)
  traced_spares b a c t =
      Traced-keeps (Apart b) (Spared accepts b (story_of a)) (spares b (story_of a)) a c t (record { other = refl; watch = refl; size = refl; opened = λ sized. refl; trusts = λ m trust. trust })

-- an event by which no watch expires, however the banks stand
abbrev pub IsQuiet : Event → Type 0
IsQuiet (event.Tick n) = ⊥
IsQuiet (event.Boot b false) = ⊥
IsQuiet e = Unit {0}

-- ---- each stretch but an expiry
module _ (which : Bank) where
  abbrev Quiet : Rule
  Quiet = Saying (λ that story. Unwatched which that)

  fault_quiet : (b : Bank) (d : Device) (story : Story) → Quiet (Says (what.Locked b (fault_of d))) story
  fault_quiet b device.Bmc story e watch = watch
  fault_quiet b device.Pch story e watch = watch
  fault_quiet b device.Nv story e watch = watch

  module _ (accepts : Acceptance) (b : Bank) where
    goes : (task : Task) (move : Move) (story : Story) → Going b task ⊥ story move → (⊥ → (c : Bank) → KeepsRecoverable accepts c move story) → Any story → Quiet move story × Any (moved_by move story)
    goes task _ story (stroked op) keeps any = (tt, tt)
    goes task _ story (logged op own) keeps any = (tt, tt)
    goes task _ story (raised op raise) keeps any = (tt, tt)
    goes task _ story (cleared cancels type op own clear) keeps any = (tt, tt)
    goes task _ story (untrusted checks cause) keeps any = (tt, tt)
    goes task _ story (refused cause may) keeps any = (tt, tt)
    goes task _ story (resumed resumes kind) keeps any = (tt, tt)
    goes task _ story (given_up copies) keeps any = (tt, tt)
    goes task _ story (restored level) keeps any = (tt, tt)
    goes task _ story (updated dynamic replaces svn) keeps any = (tt, tt)
    goes task _ story (recovery_updated copies svn floor) keeps any = (tt, tt)
    goes task _ story (cancelled cancels type id clear) keeps any = (tt, tt)

    -- by no expiry
    ends : (task : Task) → Checks task → (move : Move) (story : Story) → Ended accepts b task ⊥ story move → Any story → Quiet move story
    ends task checks _ story (released fuses m ready j known) any = tt
    ends task checks _ story (unready cause e) any = λ same. unready_unwatched b cause story e
    ends task checks _ story (no_image fuses cause other ready j known) any = λ same watch. watch
    ends task checks _ story (no_recovery expires fuses cause ready j known) any = absurd (checks_stays task checks expires)
    ends task checks _ story (spent expires) any = absurd (checks_stays task checks expires)

    quiet_table : (task : Task) → Checks task → Table Quiet Any accepts b task ⊥
    quiet_table task checks = record { asks = λ d story own. tt; goes = goes task; ends = ends task checks }

    bank_quiet : IsKept Quiet (bank_stretch accepts b)
    bank_quiet = record {
      plan = λ story sized. brought_worked Quiet Any accepts b ⊥ (quiet_table Brings tt) story sized (λ none. absurd none) tt tt;
      fault = λ d story. (fault_quiet b d story, tt);
    }

    update_quiet : (intent : Intent) → IsKept Quiet (update_stretch accepts b intent)
    update_quiet intent = record {
      plan = λ story sized. updating_worked Quiet Any accepts b ⊥ intent (quiet_table (Updates intent) tt) story sized (λ none. absurd none) tt tt;
      fault = λ d story. (fault_quiet b d story, tt);
    }

    spi_quiet : (frame : List ℕ) → IsKept Quiet (spi_stretch accepts b frame)
    spi_quiet frame = record {
      plan = λ story sized. spi_safe Quiet accepts b frame (record { passed = λ op there. tt; blocked = λ why there. tt; asks = λ there. tt; works = λ op there. tt }) story;
      fault = λ d story. (tt, ((λ e watch. watch), tt));
    }

    smbus_quiet : (frame : List ℕ) (story there : Story) → AllGood Quiet (smbus_judged accepts b frame story) there
    smbus_quiet frame story there =
        safe_whole Quiet (smbus_judged accepts b frame story) there (smbus_safe Quiet accepts b frame (record { passed = λ here. tt; blocked = λ why here. tt }) story there)

  fuse_quiet : IsKept Quiet fuse_stretch
  fuse_quiet = record {
    plan = λ story sized. (tt, call_says (λ note here. Unwatched which note) device.Nv (migration_in (fuses_of (store story))) story);
    fault = λ d story. (tt, ((λ e watch. watch), (tt, ((λ e watch. watch), tt))));
  }

  tried_quiet : (root : RootSlot) (judged : Result ℕ FuseFail) (story : Story) → AllSafe Quiet (provisioned_in root judged story) story
  tried_quiet root (Ok number) story =
      AllSafe-append Quiet (called device.Nv (provision_plan number root)) (Says (λ _. what.Provisioned) ∷ []) story (call_says (λ note here. Unwatched which note) device.Nv (provision_plan number root) story) (tt, tt)
  tried_quiet root (Err cause) story = (tt, tt)

  provision_quiet : (root : RootSlot) → IsKept Quiet (provision_stretch root)
  provision_quiet root = record {
    plan = λ story sized. (tt, tried_quiet root (judge_provision (store story) root (length story.bmc.start) (length story.pch.start)) story);
    fault = λ d story. ((λ e watch. watch), ((λ e watch. watch), tt));
  }

  -- ---- by event
  lost_quiet : (d : Device) (story : Story) → Quiet (Says (what.Lost (Some d))) story
  lost_quiet d story = tt

  course_quiet : (c : Course) (first new : World) → AllGood Quiet c.first (story_of first) → AllKept Quiet c.stretches → IsSized (story_of first) → Follows c first new → Wrote (Unwatched which) first new
  course_quiet c first new good kept sized f = traced_wrote Quiet (Unwatched which) (λ w story quiet. quiet) first new (course_traced Quiet lost_quiet c first new good kept sized f)

  pub ignored_quiet : (first new : World) → IsSized (story_of first) → Follows ignored first new → Wrote (Unwatched which) first new
  ignored_quiet first new sized f = course_quiet ignored first new (tt, tt) tt sized f

  -- whatever is taken but a tick and a boot that failed
  pub taken_quiet : (accepts : Acceptance) (e : Event) (story : Story) (first new : World) → IsQuiet e → IsSized (story_of first) → Follows (taken accepts e story) first new → Wrote (Unwatched which) first new
  taken_quiet accepts event.Power story first new q sized f =
      course_quiet (power_course accepts) first new (tt, tt) (fuse_quiet, (bank_quiet accepts bank.Bmc, (bank_quiet accepts bank.Pch, tt))) sized f
  taken_quiet accepts event.Off story first new q sized f = course_quiet off_course first new (tt, tt) tt sized f
  taken_quiet accepts (event.Provision root) story first new q sized f = course_quiet (provision_course root) first new tt (provision_quiet root, tt) sized f
  taken_quiet accepts (event.Spi b frame) story first new q sized f = course_quiet (spi_course accepts b frame) first new tt (spi_quiet accepts b frame, tt) sized f
  taken_quiet accepts (event.Smbus b frame) story first new q sized f = course_quiet (smbus_course accepts b frame story) first new (smbus_quiet accepts b frame story (story_of first)) tt sized f
  taken_quiet accepts (event.Boot b true) story first new q sized f =
      course_quiet (boot_course accepts b true story) first new (pass_noted (Unwatched which) b (stage_at b story) (next_stage (stage_at b story)) (λ e. tt) (λ e. tt), tt) tt sized f
  taken_quiet accepts (event.Update b intent) story first new q sized f = course_quiet (update_course accepts b intent) first new tt (update_quiet accepts b intent, tt) sized f
  taken_quiet accepts (event.Tick n) story first new q sized f = absurd q
  taken_quiet accepts (event.Boot b false) story first new q sized f = absurd q
