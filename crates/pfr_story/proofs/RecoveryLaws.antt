-- A step leaves a bank one that can be recovered, from each of its moments to the next.
use Rattle.std.proofs.Common.{◌≡◌, refl, sym, ap, subst, ℕ, List, [], ◌∷◌, length, inl, inr, Some, Result, Ok, Err}
use Rattle.pfr_jobs.specs.Log.{open_job}
use Rattle.pfr_jobs.specs.declared.job.OpenJob.TheVariants as job
use Rattle.pfr_recoverable.specs.Recoverable.{IsRecoverable}
use Rattle.pfr_story.specs.Keeping.{HasTrustedSpans}
use Rattle.pfr_story.specs.Safety.{AllSafe}
use Rattle.pfr_story.specs.Story.{Story, Says, device_of, called}
use Rattle.pfr_story.specs.Turn.{provision_stretch, ignored, provision_course, begun, Turn}
use Rattle.pfr_story.specs.Plans.{mine, store, provisioned, provisioned_in, Ruling, ruling, filtered}
use Rattle.pfr_story.proofs.Courses.{Turn-cases}
use Rattle.pfr_story.proofs.JobSafety.{none_replacing}
use Rattle.pfr_story.proofs.JobSafetyFuses.{calm_safe, migration_recoverable}
use Rattle.pfr_story.proofs.RecoveryWalks.{Recoverable, Keeping, HasSizes, brought_keeps, expired_keeps, updating_keeps}
use Rattle.pfr_story.proofs.SafetyLaws.{AllSafe-append}
pub use Rattle.pfr_story.proofs.StepWalks.{migrated_two}
use Rattle.pfr_story.proofs.StepWalks.{StepTable, Provided, Turn-goes, ignored_goes}
use Rattle.pfr_flash.specs.FlashState.{size_of}
use Rattle.pfr_flash.specs.Layout.{IsBankSize}
use Rattle.pfr_flash.specs.declared.layout.Layout.{Layout}
use Rattle.pfr_flash.specs.declared.names.Bank.{Bank}
use Rattle.pfr_flash.specs.declared.names.Bank.TheVariants as bank
use Rattle.pfr_flash.specs.declared.names.Device.TheVariants as device
use Rattle.pfr_flash.specs.declared.flash.FlashFail.TheVariants.{Fault, Lost as Loses}
use Rattle.pfr_engine.specs.Acceptance.{Acceptance}
use Rattle.pfr_fuses.specs.FusesState.{FusesState}
use Rattle.pfr_fuses.specs.FusesOf.{fuses_of}
use Rattle.pfr_fuses.specs.Provisioning.{judge_provision, provision_plan}
use Rattle.pfr_fuses.specs.RootSlot.{layout_of}
use Rattle.pfr_fuses.specs.declared.fuse_fail.FuseFail.{FuseFail}
use Rattle.pfr_fuses.specs.declared.root_slot.RootSlot.{RootSlot}
use Rattle.pfr_fuses.proofs.BlankLemmas.{judged-ok}
use Rattle.pfr_fuses.proofs.StandsLemmas.{fuses_of-ok}
use Rattle.pfr_filter.specs.Asking.{bus_ops}
use Rattle.pfr_filter.specs.declared.verdict.BusOp.{BusOp}
use Rattle.pfr_filter.specs.declared.verdict.Verdict.TheVariants.{Pass}
use Rattle.pfr_recoverable.proofs.StaysLaw.{fuses_one}
use Rattle.pfr_script.specs.declared.event.Event.{Event}
use Rattle.pfr_script.specs.declared.event.Event.TheVariants as event
use Rattle.pfr_report.specs.declared.note.What.TheVariants as what
use Rattle.pfr_story.specs.World.{World, story_of}
use Rattle.pfr_story.specs.Course.{Steps, Follows}
use Rattle.pfr_story.specs.Recovery.{HoldsIn, LeavesTrue, StaysRecoverable}
use Rattle.pfr_story.proofs.BusRules.{ruled, filtered_safe, calls_safe}
use Rattle.pfr_story.proofs.Rulings.{ruling_trusted, ruled_leaves}
use Rattle.pfr_story.proofs.Traces.{call_says, Traced, Traced-then, Traced-ran, Traced-whole, Traced-cut}
use Rattle.pfr_story.proofs.Bytes.{HaveBytes}
use Rattle.pfr_story.proofs.RecoverableLaws.{other_safe}
use Rattle.pfr_story.proofs.MomentLaws.{IsUnstamped, NoMoments, Stays, call_stays, stays_along, stays_behind}
use Rattle.pfr_story.proofs.KeepLaws.{ops_safe, trusted_leave}

-- ---- a frame on the SPI bus of a bank
module _ (accepts : Acceptance) where
  -- what a frame does that passes on the bank's own bus
  own_frame : (b : Bank) (frame : List ℕ) (r : Ruling) (op : BusOp) (story : Story) → HasSizes story → open_job (store story) b ≡ job.None → ruling accepts b story ≡ Some r → ruled b frame r story ≡ Pass op
      → AllSafe (LeavesTrue (Recoverable accepts b) b) (called (device_of b) (bus_ops op)) story
  own_frame b frame r op story sized none found passed =
      let t = (ruling_trusted accepts b story r (sized.images (device_of b)) found).trusted in
      let layout : Layout = layout_of t.fuses.provision b in
      calm_safe accepts b (bus_ops op) story (none_replacing b (store story) none)
      (ops_safe accepts b layout (bus_ops op) story
      (record { by_layout = λ f is. ap (λ (g : FusesState). layout_of g.provision b) (fuses_one (store story) f t.fuses is t.provisioned); blocks = (sized.banks b).blocks })
      (trusted_leave t.manifest layout (bus_ops op) (ruled_leaves accepts b story frame r op found passed t)))

  -- whichever bank's bus it is
  frame_safe : (b c : Bank) (frame : List ℕ) (r : Ruling) (op : BusOp) (story : Story) → HasSizes story → open_job (store story) c ≡ job.None → ruling accepts c story ≡ Some r → ruled c frame r story ≡ Pass op
      → AllSafe (LeavesTrue (Recoverable accepts b) b) (called (device_of c) (bus_ops op)) story
  frame_safe bank.Bmc bank.Bmc frame r op story sized none found passed = own_frame bank.Bmc frame r op story sized none found passed
  frame_safe bank.Bmc bank.Pch frame r op story sized none found passed = other_safe (Recoverable accepts bank.Bmc) bank.Bmc (bus_ops op) story
  frame_safe bank.Pch bank.Bmc frame r op story sized none found passed = other_safe (Recoverable accepts bank.Pch) bank.Pch (bus_ops op) story
  frame_safe bank.Pch bank.Pch frame r op story sized none found passed = own_frame bank.Pch frame r op story sized none found passed

  passing_safe : (b c : Bank) (frame : List ℕ) (story : Story) → HasSizes story → open_job (store story) c ≡ job.None → AllSafe (Keeping accepts b) (filtered accepts c frame story) story
  passing_safe b c frame story sized none = filtered_safe (Keeping accepts b) accepts c frame story (record {
    blocked = λ cause. tt;
    calls = λ r op found passed. calls_safe (Keeping accepts b) c op story
        (call_stays (Recoverable accepts b) b (device_of c) (bus_ops op) story (frame_safe b c frame r op story sized none found passed));
    passed = λ r op found passed. tt;
  })

-- ---- a step
-- the platform can't be provisioned
abbrev IsRefused : RootSlot → Story → Type 0
IsRefused root story = (cause : FuseFail) × (judge_provision (store story) root (length story.bmc.start) (length story.pch.start) ≡ Err cause)

keeping_steps : (accepts : Acceptance) (b : Bank) → StepTable (Keeping accepts b) accepts IsRefused
keeping_steps accepts b = record {
  faults = record { held = λ c story. refl; locked = λ c which story. refl; lost = λ which story. refl };
  ignored = λ story. tt;
  off = λ story. refl;
  power = λ story. tt;
  booted = λ c story. tt;
  passed = λ c at story. tt;
  spi = λ c frame story sized quiet. passing_safe accepts b c frame story sized quiet.1;
  smbus = λ c. record { passed = λ here. tt; blocked = λ cause here. tt };
  migrates = λ story sized. (tt, call_stays (Recoverable accepts b) b device.Nv _ story (migration_recoverable accepts b story sized.store_size (sized.images device.Nv) (fuses_of (store story)) refl));
  provisions = λ root story settled r. (tt, subst (λ (judged : Result ℕ FuseFail). AllSafe (Keeping accepts b) (provisioned_in root judged story) story) (sym r.1) (tt, tt));
  brings = brought_keeps accepts b;
  expires = expired_keeps accepts b;
  updates = λ c intent. updating_keeps accepts b c intent;
}

-- ---- a provision makes no moment before it ends
tried_quiet : (root : RootSlot) (judged : Result ℕ FuseFail) (story : Story) → AllSafe NoMoments (provisioned_in root judged story) story
tried_quiet root (Ok number) story =
    AllSafe-append NoMoments (called device.Nv (provision_plan number root)) (Says (λ _. what.Provisioned) ∷ []) story (call_says (λ that here. IsUnstamped that) device.Nv (provision_plan number root) story) (tt, tt)
tried_quiet root (Err cause) story = (tt, tt)

provisioned_quiet : (root : RootSlot) (story : Story) → AllSafe NoMoments (provisioned root story) story
provisioned_quiet root story = (tt, tried_quiet root (judge_provision (store story) root (length story.bmc.start) (length story.pch.start)) story)

-- ---- a whole step
module _ (accepts : Acceptance) (b : Bank) (old new : World) where
  -- what is to be shown of a step
  abbrev Kept : Type 0
  Kept = Stays (Recoverable accepts b) b old new

  -- nothing is provisioned where the platform is
  unset : (root : RootSlot) (number : ℕ) → judge_provision (store (story_of old)) root (size_of old.bmc) (size_of old.pch) ≡ Ok number → ¬ HoldsIn (Recoverable accepts b) b (story_of old)
  unset root number judged r = by_kind r
    where
      none : (fuses : FusesState) → fuses_of (store (story_of old)) ≡ Ok fuses → ⊥
      none fuses read =
          let by = fuses_of-ok (store (story_of old)) fuses read in
          (judged-ok (store (story_of old)) root (size_of old.bmc) (size_of old.pch) number judged).unset.gates by.0 by.1.within by.1.gate

      by_kind : IsRecoverable b (mine b (story_of old)) (store (story_of old)) accepts → ⊥
      by_kind (inl good) = none good.fuses good.provisioned
      by_kind (inr opened) = none opened.fuses opened.provisioned

  slot_kept : (root : RootSlot) (mid : World) → ¬ HoldsIn (Recoverable accepts b) b (story_of old) → Traced NoMoments old mid → Steps (provision_stretch root ∷ []) mid new → Kept
  slot_kept root mid untrue before (inl (at, c, rest)) =
      stays_behind (Recoverable accepts b) b old at new untrue
      (Traced-then NoMoments old mid at before (Traced-whole NoMoments (provisioned root (story_of mid)) mid at c (provisioned_quiet root (story_of mid))))
      (Traced-ran (Keeping accepts b) [] at new rest tt)
  slot_kept root mid untrue before (inr (inl (at, f, rest))) =
      stays_behind (Recoverable accepts b) b old f.at new untrue
      (Traced-then NoMoments old mid f.at before (Traced-cut NoMoments (provisioned root (story_of mid)) f.which Fault mid f.at f.stopped (provisioned_quiet root (story_of mid))))
      (Traced-then (Keeping accepts b) f.at at new (Traced-ran (Keeping accepts b) ((provision_stretch root).on_fault f.which) f.at at f.noted (refl, (refl, tt))) (Traced-ran (Keeping accepts b) [] at new rest tt))
  slot_kept root mid untrue before (inr (inr l)) =
      stays_behind (Recoverable accepts b) b old l.at new untrue
      (Traced-then NoMoments old mid l.at before (Traced-cut NoMoments (provisioned root (story_of mid)) l.which Loses mid l.at l.stopped (provisioned_quiet root (story_of mid))))
      (Traced-ran (Keeping accepts b) _ l.at new l.noted (refl, tt))

  -- a provision that isn't refused
  set_kept : (root : RootSlot) (number : ℕ) → judge_provision (store (story_of old)) root (size_of old.bmc) (size_of old.pch) ≡ Ok number → Follows (provision_course root) old new → Kept
  set_kept root number e (mid, first, steps) = slot_kept root mid (unset root number e) (Traced-ran NoMoments [] old mid first tt) steps

-- A bank that can be recovered can be, from each moment of a step to the next.
pub Turn-recoverable : (accepts : Acceptance) (e : Event) (old new : World) → Turn accepts e old new → HaveBytes new → IsBankSize (size_of old.bmc) → IsBankSize (size_of old.pch) → size_of old.nv ≡ 32768
    → ((which : Bank) → HasTrustedSpans accepts which (story_of old)) → StaysRecoverable (λ b image nv. IsRecoverable b image nv accepts) old new
Turn-recoverable accepts e old new t held bmc pch nv spans b = by_event e t
  where
    known : (e : Event) → Turn accepts e old new → Provided IsRefused e (story_of (begun e old)) → Stays (Recoverable accepts b) b (begun e old) new
    known e t provided = stays_along (Recoverable accepts b) b (begun e old) new (Turn-goes (Keeping accepts b) accepts IsRefused (keeping_steps accepts b) e old new t held bmc pch nv spans provided)

    by_judged : (root : RootSlot) → Turn accepts (event.Provision root) old new → (judged : Result ℕ FuseFail) → judge_provision (store (story_of old)) root (size_of old.bmc) (size_of old.pch) ≡ judged
        → Stays (Recoverable accepts b) b (begun (event.Provision root) old) new
    by_judged root t (Err cause) e = known (event.Provision root) t (cause, e)
    by_judged root t (Ok number) e = elim (Turn-cases accepts (event.Provision root) old new t) [
      | inl idle ↦ idle_kept idle.1
      | inr on ↦ set_kept accepts b (begun (event.Provision root) old) new root number e on.1
    ]
      where
        idle_kept : Follows ignored (begun (event.Provision root) old) new → Stays (Recoverable accepts b) b (begun (event.Provision root) old) new
        idle_kept f = stays_along (Recoverable accepts b) b (begun (event.Provision root) old) new (ignored_goes (Keeping accepts b) accepts IsRefused (keeping_steps accepts b) (event.Provision root) old new f)

    by_event : (e : Event) → Turn accepts e old new → Stays (Recoverable accepts b) b (begun e old) new
    by_event event.Power t = known event.Power t tt
    by_event event.Off t = known event.Off t tt
    by_event (event.Provision root) t = by_judged root t (judge_provision (store (story_of old)) root (size_of old.bmc) (size_of old.pch)) refl
    by_event (event.Spi c frame) t = known (event.Spi c frame) t tt
    by_event (event.Smbus c frame) t = known (event.Smbus c frame) t tt
    by_event (event.Tick n) t = known (event.Tick n) t tt
    by_event (event.Boot c pass) t = known (event.Boot c pass) t tt
    by_event (event.Update c intent) t = known (event.Update c intent) t tt
