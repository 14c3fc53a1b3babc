-- Each note of a step is true where it is made, by event.
use Rattle.std.proofs.Common.{◌≡◌, ◌∙◌, ◌≤◌, refl, sym, ap, subst, arith, ℕ, length, length-append, drop, Bool, true, false, List, [], ◌∷◌, Result, Ok, Err, inl, inr}
use Rattle.std.proofs.lemmas.Bool.{false≢true}
use Rattle.std.proofs.lemmas.List.{drop-append-le}
use Rattle.pfr_flash.specs.FlashState.{Rose, size_of}
use Rattle.pfr_flash.specs.declared.names.Bank.{Bank}
use Rattle.pfr_flash.specs.declared.names.Bank.TheVariants as bank
use Rattle.pfr_flash.specs.declared.names.Device.{Device}
use Rattle.pfr_flash.specs.declared.names.Device.TheVariants as device
use Rattle.pfr_engine.specs.Acceptance.{Acceptance}
use Rattle.pfr_fuses.specs.FusesOf.{fuses_of}
use Rattle.pfr_fuses.specs.Provisioning.{judge_provision, provision_plan}
use Rattle.pfr_fuses.specs.declared.fuse_fail.FuseFail.{FuseFail}
use Rattle.pfr_fuses.specs.declared.root_slot.RootSlot.{RootSlot}
use Rattle.pfr_jobs.specs.declared.job.JobKind.TheVariants.{ActiveFromRecovery}
use Rattle.pfr_script.specs.declared.event.Event.{Event}
use Rattle.pfr_script.specs.declared.event.Event.TheVariants as event
use Rattle.pfr_script.specs.declared.event.Intent.{Intent}
use Rattle.pfr_watch.specs.Stages.{next_stage}
use Rattle.pfr_watch.specs.declared.stage.Stage.{Stage}
use Rattle.pfr_report.specs.Texts.{IsNoted}
use Rattle.pfr_report.specs.declared.note.Note.{Note}
use Rattle.pfr_report.specs.declared.note.What.{What}
use Rattle.pfr_report.specs.declared.note.What.TheVariants as what
use Rattle.pfr_story.specs.Story.{Story, Move, Says, called, after, noted, counts_of, device_of}
use Rattle.pfr_story.specs.World.{World, story_of, state_at, AllMoved, NoneLost, NoneRose, added}
use Rattle.pfr_story.specs.Safety.{AllGood, AllSafe, AllMake}
use Rattle.pfr_story.specs.Course.{Stretch, Follows, Calm}
use Rattle.pfr_story.specs.Plans.{store, brought_up, migrated, provisioned, provisioned_in, migration_in, filtered, smbus_judged, expired}
use Rattle.pfr_story.specs.UpdatePlans.{updating}
use Rattle.pfr_story.specs.Turn.{fault_of, unreadable, bank_stretch, fuse_stretch, provision_stretch, spi_stretch, expiry_stretch, update_stretch, stage_at, pass_note, ignored, power_course, off_course, tick_course, boot_course, is_idle, taken, course, begun, Turn}
use Rattle.pfr_story.specs.Promises.{IsSwitchedOff}
use Rattle.pfr_story.proofs.WorldLaws.{AllMoved-refl, AllMoved-trans}
use Rattle.pfr_story.proofs.SafetyLaws.{AllSafe-append, AllMake-append, AllMake-called, safe_whole, cut_makes}
use Rattle.pfr_story.proofs.Made.{said, notes_after, noted_dropped}
use Rattle.pfr_story.proofs.Courses.{Steps-moved, Follows-calm, Turn-cases}
use Rattle.pfr_story.proofs.BusRules.{AllowsSpi, spi_safe, AllowsSmbus, smbus_safe}
use Rattle.pfr_story.proofs.Traces.{Traced, Traced-known, Traced-since, KnownBefore, Precedes, Precedes-after, precedes_moved, call_says, noted_right}
use Rattle.pfr_story.proofs.StepTraces.{Between, AllowsLosses, IsGoodStretch, noted_along, power_along, single_along, tick_along, pass_noted}
use Rattle.pfr_story.proofs.BringRules.{Any, IsOwn, level_at}
use Rattle.pfr_story.proofs.Facts.{Setting, IsBehind, Fact, IsTrue, brought_true, expired_true, updating_true, IsNoFailure, IsMine, brought_makes, expired_makes, updating_makes, filtered_makes, lock_true}

-- A step in which no count of losses or faults rose is calm.
pub Turn-calm : (accepts : Acceptance) (e : Event) (old new : World) → Turn accepts e old new → NoneLost old new → NoneRose old new → Calm (course accepts e (story_of old)) (begun e old) new
Turn-calm accepts e old new t lost rose = Follows-calm (course accepts e (story_of old)) (begun e old) new t (record { bmc = lost.bmc; pch = lost.pch; nv = lost.nv }) by_device
  where
    by_device : NoneRose (begun e old) new
    by_device device.Bmc = rose device.Bmc
    by_device device.Pch = rose device.Pch
    by_device device.Nv = rose device.Nv

-- Of each device the work of a step is what its calls do.
pub Turn-moved : (accepts : Acceptance) (e : Event) (old new : World) → Turn accepts e old new → AllMoved (begun e old) new
Turn-moved accepts e old new (mid, first, rest) = AllMoved-trans (begun e old) mid new first.moved (Steps-moved (course accepts e (story_of old)).stretches mid new rest)

-- ---- the stretches
abbrev pub IsStore : Device → Type 0
IsStore which = which ≡ device.Nv

pub migrated_makes : (story : Story) → AllMake IsStore IsNoFailure (migrated story)
migrated_makes story = (refl, AllMake-called IsStore IsNoFailure device.Nv (migration_in (fuses_of (store story))) refl)

tried_makes : (root : RootSlot) (judged : Result ℕ FuseFail) (story : Story) → AllMake IsStore IsNoFailure (provisioned_in root judged story)
tried_makes root (Ok number) story =
    AllMake-append IsStore IsNoFailure (called device.Nv (provision_plan number root)) (Says (λ _. what.Provisioned) ∷ []) (AllMake-called IsStore IsNoFailure device.Nv (provision_plan number root) refl) ((λ at loss. loss), tt)
tried_makes root (Err cause) story = ((λ at loss. loss), tt)

pub provisioned_makes : (root : RootSlot) (story : Story) → AllMake IsStore IsNoFailure (provisioned root story)
provisioned_makes root story = (refl, tried_makes root (judge_provision (store story) root (length story.bmc.start) (length story.pch.start)) story)

module _ (s : Setting) (size : size_of s.first.nv ≡ 32768) where
  abbrev pub IsTrueStretch : Stretch → Type 0
  IsTrueStretch stretch = IsGoodStretch (IsTrue s) s.first s.last Any (IsBehind s) stretch (IsBehind s)

  behind_moves : (moves more : List Move) (story : Story) → IsBehind s story → IsBehind s (after more (after moves story))
  behind_moves moves more story p = Precedes-after (story_of s.first) (after moves story) more (Precedes-after (story_of s.first) story moves p)

  rose_at : (other which : Device) → which ≡ other → Rose (state_at which s.first).faults (state_at which s.last).faults → Rose (state_at other s.first).faults (state_at other s.last).faults
  rose_at other which e rose = subst (λ (d : Device). Rose (state_at d s.first).faults (state_at d s.last).faults) e rose

  provisioned_true : (root : RootSlot) (judged : Result ℕ FuseFail) (story : Story) → AllSafe (IsTrue s) (provisioned_in root judged story) story
  provisioned_true root (Ok number) story =
      AllSafe-append (IsTrue s) (called device.Nv (provision_plan number root)) (Says (λ _. what.Provisioned) ∷ []) story (call_says (Fact s) device.Nv (provision_plan number root) story) (tt, tt)
  provisioned_true root (Err cause) story = (tt, tt)

  provision_true : (root : RootSlot) → IsTrueStretch (provision_stretch root)
  provision_true root = record {
    plan = record {
      safe = λ story p. (tt, provisioned_true root _ story);
      ends = λ story p. Precedes-after (story_of s.first) story (provisioned root story) p.1;
    };
    noted = λ which story trace p cut rose.
        let nv = rose_at device.Nv which (cut_makes IsStore IsNoFailure which _ trace story (provisioned_makes root story) cut).0 rose in
        ((refl, nv), ((refl, nv), tt));
    on = λ which story trace p cut e. behind_moves trace ((provision_stretch root).on_fault which) story p.1;
  }

  bus_true : (b : Bank) → AllowsSpi (IsTrue s) b
  bus_true b = record { passed = λ op story. tt; blocked = λ cause story. tt; asks = λ story. tt; works = λ op story. tt }

  spi_true : (b : Bank) (frame : List ℕ) → IsTrueStretch (spi_stretch s.accepts b frame)
  spi_true b frame = record {
    plan = record {
      safe = λ story p. spi_safe (IsTrue s) s.accepts b frame (bus_true b) story;
      ends = λ story p. Precedes-after (story_of s.first) story (filtered s.accepts b frame story) p.1;
    };
    noted = λ which story trace p cut rose.
        let own = (cut_makes (IsMine b) IsNoFailure which _ trace story (filtered_makes s.accepts b frame story) cut).0 in
        (refl, ((refl, rose_at (device_of b) which own rose), tt));
    on = λ which story trace p cut e. behind_moves trace ((spi_stretch s.accepts b frame).on_fault which) story p.1;
  }

  smbus_true : (b : Bank) → AllowsSmbus (IsTrue s) b
  smbus_true b = record { passed = λ story. tt; blocked = λ cause story. tt }

  -- ---- the watches
  -- these notes stand at the front
  abbrev pub HasFront : List Note → Story → Type 0
  HasFront base story = length base ≤ length story.notes

  front_after : (base : List Note) (moves : List Move) (story : Story) → HasFront base story → HasFront base (after moves story)
  front_after base moves story front =
      omega (arith, front, ap (λ (notes : List Note). length notes) (notes_after moves story), length-append story.notes (said moves story))

  expiry_noted : (base : List Note) (b : Bank) (level : ℕ) (story : Story) → HasFront base story
      → IsNoted (drop (length base) (noted (what.Held b) (noted (λ _. what.Expired b level) story)).notes) (what.Expired b level)
  expiry_noted base b level story front =
      let told : Story = noted (λ _. what.Expired b level) story in
      let note : Note = record { item = story.item; what = what.Expired b level } in
      noted_dropped (length base) told.notes (record { item = story.item; what = what.Held b (counts_of told) } ∷ []) (what.Expired b level)
      (subst (λ (notes : List Note). IsNoted notes (what.Expired b level)) (sym (drop-append-le (length base) story.notes (note ∷ []) front))
      (noted_right (drop (length base) story.notes) (note ∷ []) (what.Expired b level) (inl refl)))

  resume_noted : (base : List Note) (b : Bank) (level : ℕ) (story : Story) → HasFront base story
      → IsNoted (drop (length base) (noted (λ _. what.Resumed b (ActiveFromRecovery level)) story).notes) (what.Resumed b (ActiveFromRecovery level))
  resume_noted base b level story front =
      let that : What = what.Resumed b (ActiveFromRecovery level) in
      let note : Note = record { item = story.item; what = that } in
      subst (λ (notes : List Note). IsNoted notes that) (sym (drop-append-le (length base) story.notes (note ∷ []) front))
      (noted_right (drop (length base) story.notes) (note ∷ []) that (inl refl))

  -- an expiry, or a restore that is resumed, that was noted behind these is one that counts
  pub record MayExpire (base : List Note) : Type 0 where
    pub expires : (b : Bank) (level : ℕ) (notes : List Note) → IsNoted (drop (length base) notes) (what.Expired b level) → s.HasExpired b level notes
    pub resumes : (b : Bank) (level : ℕ) (notes : List Note) → IsNoted (drop (length base) notes) (what.Resumed b (ActiveFromRecovery level)) → s.HasResumed b level notes

  module _ (base : List Note) (may : MayExpire base) where
    abbrev IsSince : Story → Type 0
    IsSince story = IsBehind s story × HasFront base story

    since_moves : (moves more : List Move) (story : Story) → IsSince story → IsSince (after more (after moves story))
    since_moves moves more story p = (behind_moves moves more story p.0, front_after base more (after moves story) (front_after base moves story p.1))

    bank_true : (b : Bank) → IsGoodStretch (IsTrue s) s.first s.last Any IsSince (bank_stretch s.accepts b) IsSince
    bank_true b = record {
      plan = record {
        safe = λ story p. brought_true s size b (HasFront base) (λ level there front. may.resumes b level _ (resume_noted base b level there front)) story p.1.0
            (front_after base (Says (what.Held b) ∷ []) story p.1.1);
        ends = λ story p. since_moves (brought_up s.accepts b story) [] story p.1;
      };
      noted = λ which story trace p cut rose.
          ((refl, lock_true s b which (after trace story) (cut_makes (IsOwn b) IsNoFailure which _ trace story (brought_makes s.accepts b story) cut).0 rose), tt);
      on = λ which story trace p cut e. since_moves trace (Says (what.Locked b (fault_of which)) ∷ []) story p.1;
    }

    fuse_true : IsGoodStretch (IsTrue s) s.first s.last Any IsSince fuse_stretch IsSince
    fuse_true = record {
      plan = record {
        safe = λ story p. (tt, call_says (Fact s) device.Nv (migration_in (fuses_of (store story))) story);
        ends = λ story p. since_moves (migrated story) [] story p.1;
      };
      noted = λ which story trace p cut rose.
          let nv = rose_at device.Nv which (cut_makes IsStore IsNoFailure which _ trace story (migrated_makes story) cut).0 rose in
          (refl, ((refl, nv), (refl, ((refl, nv), tt))));
      on = λ which story trace p cut e. since_moves trace unreadable story p.1;
    }

    expiry_true : (b : Bank) → IsGoodStretch (IsTrue s) s.first s.last Any IsSince (expiry_stretch s.accepts b) IsSince
    expiry_true b = record {
      plan = record {
        safe = λ story p. expired_true s size b story p.1.0 (may.expires b (level_at b story) _ (expiry_noted base b (level_at b story) story p.1.1));
        ends = λ story p. since_moves (expired s.accepts b story) [] story p.1;
      };
      noted = λ which story trace p cut rose. ((refl, lock_true s b which (after trace story) (cut_makes (IsOwn b) IsNoFailure which _ trace story (expired_makes s.accepts b story) cut).0 rose), tt);
      on = λ which story trace p cut e. since_moves trace (Says (what.Locked b (fault_of which)) ∷ []) story p.1;
    }

  update_true : (b : Bank) (intent : Intent) → IsTrueStretch (update_stretch s.accepts b intent)
  update_true b intent = record {
    plan = record {
      safe = λ story p. updating_true s size b intent story p.1;
      ends = λ story p. behind_moves (updating s.accepts b intent story) [] story p.1;
    };
    noted = λ which story trace p cut rose. ((refl, lock_true s b which (after trace story) (cut_makes (IsOwn b) IsNoFailure which _ trace story (updating_makes s.accepts b intent story) cut).0 rose), tt);
    on = λ which story trace p cut e. behind_moves trace (Says (what.Locked b (fault_of which)) ∷ []) story p.1;
  }

  -- ---- a whole step
  -- the power is switched off at `off` alone, where the banks aren't off
  abbrev pub MaySwitch : Event → World → Type 0
  MaySwitch e old = IsSwitchedOff e old → s.IsSwitched

  -- from where its event has begun
  module _ (begin new : World) (within : Between s.first s.last begin new) where
    allows : AllowsLosses (IsTrue s) s.first s.last
    allows which story fell = ((refl, fell), tt)

    behind : IsBehind s (story_of begin)
    behind = precedes_moved s.first begin within.before

    noted_true : (moves : List Move) → Follows (record { first = moves; stretches = [] }) begin new → AllGood (IsTrue s) moves (story_of begin) → Traced (IsTrue s) begin new
    noted_true moves t good = noted_along (IsTrue s) s.first s.last Any (λ w moved. tt) allows begin new within moves t good

    single_true : (P : Story → Type 0) (stretch : Stretch) → IsGoodStretch (IsTrue s) s.first s.last Any P stretch P → P (story_of begin) → Follows (record { first = []; stretches = stretch ∷ [] }) begin new → Traced (IsTrue s) begin new
    single_true P stretch good p t = single_along (IsTrue s) s.first s.last Any (λ w moved. tt) allows begin new within stretch P P good p t

    -- a stage that was passed, by the story that it is noted by
    passed_true : (b : Bank) (at next : Stage) → Follows (record { first = Says (λ _. pass_note b at next) ∷ []; stretches = [] }) begin new → Traced (IsTrue s) begin new
    passed_true b at next t = noted_true (Says (λ _. pass_note b at next) ∷ []) t (pass_noted (λ (that : What). Fact s that (story_of begin)) b at next (λ e. tt) (λ e. tt), tt)

    module _ (base : List Note) (may : MayExpire base) (front : HasFront base (story_of begin)) where
      power_true : Follows (power_course s.accepts) begin new → Traced (IsTrue s) begin new
      power_true t =
          let since : Story → Type 0 = IsSince base may in
          power_along (IsTrue s) s.first s.last Any (λ w moved. tt) allows begin new within s.accepts since since since since (fuse_true base may) (bank_true base may bank.Bmc) (bank_true base may bank.Pch) tt
          (since_moves base may (power_course s.accepts).first [] (story_of begin) (behind, front)) t

      tick_true : (n : ℕ) (story : Story) → Follows (tick_course s.accepts n story) begin new → Traced (IsTrue s) begin new
      tick_true n story t =
          let since : Story → Type 0 = IsSince base may in
          tick_along (IsTrue s) s.first s.last Any (λ w moved. tt) allows begin new within s.accepts n story since since since
          (λ due. expiry_true base may bank.Bmc) (λ there p. p) (λ due. expiry_true base may bank.Pch) (λ there p. p) (behind, front) t

      boot_true : (b : Bank) (pass : Bool) (story : Story) → Follows (boot_course s.accepts b pass story) begin new → Traced (IsTrue s) begin new
      boot_true b true story t = passed_true b (stage_at b story) (next_stage (stage_at b story)) t
      boot_true b false story t = single_true (IsSince base may) (expiry_stretch s.accepts b) (expiry_true base may b) (behind, front) t

  taken_true : (e : Event) (old new : World) → Between s.first s.last (begun e old) new → MaySwitch e old → MayExpire old.notes.list → is_idle e (story_of old) ≡ false → Follows (taken s.accepts e (story_of old)) (begun e old) new
      → Traced (IsTrue s) (begun e old) new
  taken_true event.Power old new within may expires on t = power_true (begun event.Power old) new within old.notes.list expires (omega arith) t
  taken_true event.Off old new within may expires on t = noted_true (begun event.Off old) new within off_course.first t ((refl, may (λ off. false≢true (sym on ∙ off))), tt)
  taken_true (event.Provision root) old new within may expires on t =
      let begin : World = begun (event.Provision root) old in
      single_true begin new within (IsBehind s) (provision_stretch root) (provision_true root) (behind begin new within) t
  taken_true (event.Spi b frame) old new within may expires on t =
      let begin : World = begun (event.Spi b frame) old in
      single_true begin new within (IsBehind s) (spi_stretch s.accepts b frame) (spi_true b frame) (behind begin new within) t
  taken_true (event.Smbus b frame) old new within may expires on t =
      let begin : World = begun (event.Smbus b frame) old in
      let moves : List Move = smbus_judged s.accepts b frame (story_of old) in
      noted_true begin new within moves t (safe_whole (IsTrue s) moves (story_of begin) (smbus_safe (IsTrue s) s.accepts b frame (smbus_true b) (story_of old) (story_of begin)))
  taken_true (event.Tick n) old new within may expires on t = tick_true (begun (event.Tick n) old) new within old.notes.list expires (omega arith) n (story_of old) t
  taken_true (event.Boot b pass) old new within may expires on t = boot_true (begun (event.Boot b pass) old) new within old.notes.list expires (omega arith) b pass (story_of old) t
  taken_true (event.Update b intent) old new within may expires on t =
      let begin : World = begun (event.Update b intent) old in
      single_true begin new within (IsBehind s) (update_stretch s.accepts b intent) (update_true b intent) (behind begin new within) t

  pub Turn-true : (e : Event) (old new : World) → Between s.first s.last (begun e old) new → MaySwitch e old → MayExpire old.notes.list → Turn s.accepts e old new → Traced (IsTrue s) (begun e old) new
  Turn-true e old new within may expires t = elim (Turn-cases s.accepts e old new t) [
    | inl idle ↦ noted_true (begun e old) new within ignored.first idle.1 (tt, tt)
    | inr on ↦ taken_true e old new within may expires on.0 on.1
  ]

-- a step between its own two ends
unfoldable pub step_of : Acceptance → Event → World → World → Setting
step_of accepts e old new = record {
  accepts = accepts;
  first = old;
  last = new;
  IsSwitched = IsSwitchedOff e old;
  HasExpired = λ b level notes. IsNoted (drop (length old.notes.list) notes) (what.Expired b level);
  HasResumed = λ b level notes. IsNoted (drop (length old.notes.list) notes) (what.Resumed b (ActiveFromRecovery level));
}

-- Each note of a step is true where it is made.
pub Turn-traced : (accepts : Acceptance) (e : Event) (old new : World) → size_of old.nv ≡ 32768 → Turn accepts e old new → Traced (IsTrue (step_of accepts e old new)) (begun e old) new
unfolding step_of
Turn-traced accepts e old new size t =
    let same = AllMoved-refl old in
    let within : Between old new (begun e old) new = record { before = record { bmc = same.bmc; pch = same.pch; nv = same.nv }; behind = AllMoved-refl new } in
    Turn-true (step_of accepts e old new) size e old new within (λ off. off) (record { expires = λ b level notes n. n; resumes = λ b level notes n. n }) t

-- what is known of each note that a step added
pub Turn-known : (accepts : Acceptance) (e : Event) (old new : World) → size_of old.nv ≡ 32768 → Turn accepts e old new → (that : What) → IsNoted (added old new) that
    → KnownBefore (Fact (step_of accepts e old new)) that (story_of new)
Turn-known accepts e old new size t that n =
    let s : Setting = step_of accepts e old new in
    Traced-known (Fact s) (begun e old) new (Turn-traced accepts e old new size t) that n

-- and at a moment of the step
pub Turn-since : (accepts : Acceptance) (e : Event) (old new : World) → size_of old.nv ≡ 32768 → Turn accepts e old new → (that : What) → IsNoted (added old new) that
    → KnownBefore (λ note at. Fact (step_of accepts e old new) note at × Precedes (story_of (begun e old)) at) that (story_of new)
Turn-since accepts e old new size t that n =
    let s : Setting = step_of accepts e old new in
    Traced-since (Fact s) (begun e old) new (Turn-traced accepts e old new size t) that n
