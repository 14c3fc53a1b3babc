-- A step whose moves are good wherever something stands that good moves keep.
use Rattle.std.proofs.Common.{◌≡◌, ◌∙◌, refl, ap, ℕ, true, false, List, [], ◌∷◌, length, ◌⊎◌, inl, inr, None}
use Rattle.pfr_flash.specs.FlashState.{size_of}
use Rattle.pfr_flash.specs.Layout.{IsBankSize}
use Rattle.pfr_flash.specs.declared.names.Bank.{Bank}
use Rattle.pfr_flash.specs.declared.names.Bank.TheVariants as bank
use Rattle.pfr_flash.specs.declared.names.Device.{Device}
use Rattle.pfr_flash.specs.declared.names.Device.TheVariants as device
use Rattle.pfr_engine.specs.Acceptance.{Acceptance}
use Rattle.pfr_fuses.specs.declared.root_slot.RootSlot.{RootSlot}
use Rattle.pfr_script.specs.declared.event.Event.{Event}
use Rattle.pfr_script.specs.declared.event.Event.TheVariants as event
use Rattle.pfr_script.specs.declared.event.Intent.{Intent}
use Rattle.pfr_watch.specs.Stages.{next_stage}
use Rattle.pfr_watch.specs.declared.stage.Stage.{Stage}
use Rattle.pfr_report.specs.declared.note.What.TheVariants as what
use Rattle.pfr_story.specs.Course.{Stretch, Follows}
use Rattle.pfr_story.specs.Plans.{brought_up, expired, migrated, provisioned, filtered, smbus_judged}
use Rattle.pfr_story.specs.Safety.{Rule, AllGood, AllSafe, Keeps}
use Rattle.pfr_story.specs.Story.{Story, Move, Says, after, noted}
use Rattle.pfr_story.specs.Turn.{fault_of, bank_stretch, fuse_stretch, provision_stretch, spi_stretch, expiry_stretch, update_stretch, ignored, off_course, pass_note, stage_at, is_idle, taken, begun, Turn}
use Rattle.pfr_story.specs.UpdatePlans.{updating}
use Rattle.pfr_story.specs.World.{World, story_of, AllMoved}
use Rattle.pfr_story.proofs.BusRules.{AllowsSmbus, smbus_safe}
use Rattle.pfr_story.proofs.Bytes.{HaveBytes, bank_sized}
use Rattle.pfr_story.proofs.Courses.{IsTakenBy, Turn-cases}
use Rattle.pfr_story.proofs.RecoveryWalks.{HasSizes}
use Rattle.pfr_story.proofs.SafetyLaws.{safe_whole, safe_cut, kept_by}
use Rattle.pfr_story.proofs.StepTraces.{AllowsFaults, AllowsLost, AllowsLosses, Between, IsGoodStretch, noted_along, power_along, single_along, tick_along, pass_noted}
use Rattle.pfr_story.proofs.StepWalks.{sized_world}
use Rattle.pfr_story.proofs.Traces.{Traced}
use Rattle.pfr_story.proofs.Turns.{Turn-moved}
use Rattle.pfr_story.proofs.WorldLaws.{AllMoved-refl}

-- What has to be shown of each part of a step at this event, from where J stands.
pub record KeptTable (G : Rule) (J : Story → Type 0) (accepts : Acceptance) (e : Event) : Type 0 where
  pub keeps : Keeps G J
  pub faults : AllowsFaults G
  pub off : (story : Story) → G (Says (what.Lost None)) story
  pub power : (story : Story) → G (Says (λ _. what.Power)) story
  pub booted : (b : Bank) (story : Story) → G (Says (λ _. what.Booted b)) story
  pub passed : (b : Bank) (at : Stage) (story : Story) → G (Says (λ _. what.Passed b at)) story
  pub spi : (b : Bank) (frame : List ℕ) (story : Story) → AllSafe G (filtered accepts b frame story) story
  pub smbus : (b : Bank) → AllowsSmbus G b
  pub migrates : (story : Story) → HasSizes story → J story → AllSafe G (migrated story) story
  pub provisions : (root : RootSlot) → e ≡ event.Provision root → (story : Story) → HasSizes story → AllSafe G (provisioned root story) story
  pub brings : (b : Bank) (story : Story) → HasSizes story → J story → AllSafe G (brought_up accepts b story) story
  pub expires : (b : Bank) (story : Story) → HasSizes story → J story → AllSafe G (expired accepts b story) story
  pub updates : (b : Bank) (intent : Intent) → e ≡ event.Update b intent → (story : Story) → HasSizes story → J story → AllSafe G (updating accepts b intent story) story

module _ (G : Rule) (J : Story → Type 0) (accepts : Acceptance) (e : Event) (table : KeptTable G J accepts e) (old new : World) (held : HaveBytes new) (bmc : IsBankSize (size_of new.bmc)) (pch : IsBankSize (size_of new.pch)) (nv : size_of new.nv ≡ 32768) where
  abbrev Good : Stretch → Type 0
  Good stretch = IsGoodStretch G old new HasSizes J stretch J

  good : (s : Stretch) → ((story : Story) → HasSizes story → J story → AllSafe G (s.plan story) story) → ((which : Device) (story : Story) → AllGood G (s.on_fault which) story) → Good s
  good s safe noted = record {
    plan = record { safe = λ story p. safe story p.0 p.1; ends = λ story p. kept_by G J table.keeps (s.plan story) story (safe_whole G (s.plan story) story (safe story p.0 p.1)) p.1 };
    noted = λ which story trace p cut rose. noted which (after trace story);
    on = λ which story trace p cut is.
        kept_by G J table.keeps (s.on_fault which) (after trace story) (noted which (after trace story)) (kept_by G J table.keeps trace story (safe_cut G which (s.plan story) trace story (safe story p.0 p.1) cut) p.1);
  }

  locked_at : (b : Bank) (which : Device) (story : Story) → AllGood G (Says (what.Locked b (fault_of which)) ∷ []) story
  locked_at b which story = (table.faults.locked b which story, tt)

  within : Between old new old new
  within = record { before = AllMoved-refl old; behind = AllMoved-refl new }

  allows : AllowsLosses G old new
  allows which story fell = (table.faults.lost which story, tt)

  known : (w : World) → AllMoved w new → HasSizes (story_of w)
  known w m = sized_world w new held bmc pch nv m

  notes_go : (moves : List Move) → Follows (record { first = moves; stretches = [] }) old new → AllGood G moves (story_of old) → Traced G old new
  notes_go moves t all = noted_along G old new HasSizes known allows old new within moves t all

  single_goes : (s : Stretch) → Good s → J (story_of old) → Follows (record { first = []; stretches = s ∷ [] }) old new → Traced G old new
  single_goes s g j t = single_along G old new HasSizes known allows old new within s J J g j t

  fuses_good : Good fuse_stretch
  fuses_good = good fuse_stretch table.migrates
      (λ which story. (table.faults.held bank.Bmc _, (table.faults.locked bank.Bmc device.Nv _, (table.faults.held bank.Pch _, (table.faults.locked bank.Pch device.Nv _, tt)))))

  bank_good : (b : Bank) → Good (bank_stretch accepts b)
  bank_good b = good (bank_stretch accepts b) (table.brings b) (locked_at b)

  expiry_good : (b : Bank) → Good (expiry_stretch accepts b)
  expiry_good b = good (expiry_stretch accepts b) (table.expires b) (locked_at b)

  -- judged by the contents of this story
  pub kept_goes : (there : Event) (story : Story) → e ≡ there → J (story_of old) → Follows (taken accepts there story) old new → Traced G old new
  kept_goes event.Power story is j t =
      power_along G old new HasSizes known allows old new within accepts J J J J fuses_good (bank_good bank.Bmc) (bank_good bank.Pch) (table.power (story_of old)) (table.keeps (Says (λ _. what.Power)) (story_of old) (table.power (story_of old)) j) t
  kept_goes event.Off story is j t = notes_go off_course.first t (table.off (story_of old), tt)
  kept_goes (event.Provision root) story is j t =
      single_goes (provision_stretch root) (good (provision_stretch root) (λ s sizes k. table.provisions root is s sizes) (λ which s. (table.faults.locked bank.Bmc device.Nv _, (table.faults.locked bank.Pch device.Nv _, tt)))) j t
  kept_goes (event.Spi b frame) story is j t =
      single_goes (spi_stretch accepts b frame) (good (spi_stretch accepts b frame) (λ s sizes k. table.spi b frame s) (λ which s. (table.faults.held b _, (table.faults.locked b device.Bmc _, tt)))) j t
  kept_goes (event.Smbus b frame) story is j t =
      let moves : List Move = smbus_judged accepts b frame story in
      notes_go moves t (safe_whole G moves (story_of old) (smbus_safe G accepts b frame (table.smbus b) story (story_of old)))
  kept_goes (event.Tick n) story is j t =
      tick_along G old new HasSizes known allows old new within accepts n story J J J (λ due. expiry_good bank.Bmc) (λ there p. p) (λ due. expiry_good bank.Pch) (λ there p. p) j t
  kept_goes (event.Boot b true) story is j t =
      let at : Stage = stage_at b story in
      notes_go (Says (λ _. pass_note b at (next_stage at)) ∷ []) t
      (pass_noted (λ that. G (Says (λ _. that)) (story_of old)) b at (next_stage at) (λ done. table.booted b (story_of old)) (λ on. table.passed b at (story_of old)), tt)
  kept_goes (event.Boot b false) story is j t = single_goes (expiry_stretch accepts b) (expiry_good b) j t
  kept_goes (event.Update b intent) story is j t = single_goes (update_stretch accepts b intent) (good (update_stretch accepts b intent) (table.updates b intent is) (locked_at b)) j t

-- So is each move of a whole step.
pub Turn-kept : (G : Rule) (J : Story → Type 0) (accepts : Acceptance) (e : Event) (old new : World) → (is_idle e (story_of old) ≡ false → KeptTable G J accepts e) → G (Says (λ _. what.Ignored)) (story_of (begun e old))
    → AllowsLost G → J (story_of (begun e old)) → Turn accepts e old new → HaveBytes new → IsBankSize (size_of old.bmc) → IsBankSize (size_of old.pch) → size_of old.nv ≡ 32768 → Traced G (begun e old) new
Turn-kept G J accepts e old new table ignores lost j t held bmc pch nv = by_case (Turn-cases accepts e old new t)
  where
    m : AllMoved (begun e old) new
    m = Turn-moved accepts e old new t

    by_case : ((is_idle e (story_of old) ≡ true) × Follows ignored (begun e old) new) ⊎ IsTakenBy accepts e old new → Traced G (begun e old) new
    by_case (inl idle) =
        noted_along G (begun e old) new (λ story. Unit {0}) (λ w moved. tt) (λ which story fell. (lost which story, tt)) (begun e old) new (record { before = AllMoved-refl (begun e old); behind = AllMoved-refl new }) ignored.first idle.1 (ignores, tt)
    by_case (inr on) =
        kept_goes G J accepts e (table on.0) (begun e old) new held (bank_sized bank.Bmc (begun e old) new m bmc) (bank_sized bank.Pch (begun e old) new m pch) (ap (λ (start : List ℕ). length start) m.nv.start ∙ nv)
        e (story_of old) refl j on.1
