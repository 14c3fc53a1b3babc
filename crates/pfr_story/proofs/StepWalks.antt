-- The one walk of a step that begins where each bank that runs is settled with no job open: each move is good where each part of a step is.
use Rattle.std.proofs.Common.{◌≡◌, ◌∙◌, refl, sym, ap, subst, ℕ, Bool, true, false, List, [], ◌∷◌, length, ◌⊎◌, inl, inr, None, Result, Ok, Err}
use Rattle.pfr_flash.specs.FlashState.{size_of}
use Rattle.pfr_flash.specs.Layout.{IsBankSize}
use Rattle.pfr_flash.specs.declared.names.Bank.{Bank}
use Rattle.pfr_flash.specs.declared.names.Bank.TheVariants as bank
use Rattle.pfr_flash.specs.declared.names.Counts.{Counts}
use Rattle.pfr_flash.specs.declared.names.Device.{Device}
use Rattle.pfr_flash.specs.declared.names.Device.TheVariants as device
use Rattle.pfr_engine.specs.Acceptance.{Acceptance}
use Rattle.pfr_fuses.specs.declared.root_slot.RootSlot.{RootSlot}
use Rattle.pfr_jobs.specs.Log.{open_job}
use Rattle.pfr_jobs.specs.declared.job.OpenJob.TheVariants as job
use Rattle.pfr_script.specs.declared.event.Event.{Event}
use Rattle.pfr_script.specs.declared.event.Event.TheVariants as event
use Rattle.pfr_script.specs.declared.event.Intent.{Intent}
use Rattle.pfr_watch.specs.Stages.{next_stage}
use Rattle.pfr_watch.specs.Watching.{expires}
use Rattle.pfr_watch.specs.declared.stage.Stage.{Stage}
use Rattle.pfr_report.specs.declared.note.Note.{Note}
use Rattle.pfr_report.specs.declared.note.What.{What}
use Rattle.pfr_report.specs.declared.note.What.TheVariants as what
use Rattle.pfr_story.specs.Course.{Stretch, Follows}
use Rattle.pfr_story.specs.Guards.{guard_at}
use Rattle.pfr_story.specs.Keeping.{IsSettled, HasTrustedSpans}
use Rattle.pfr_story.specs.Plans.{store, brought_up, expired, migrated, provisioned, smbus_judged}
use Rattle.pfr_story.specs.UpdatePlans.{updating}
use Rattle.pfr_story.specs.Safety.{Rule, AllGood, AllSafe}
use Rattle.pfr_story.specs.Standing.{Standing, Off, Held, Running, Locked, standing_of, is_running}
use Rattle.pfr_story.specs.Story.{Story, Move, Says, after, noted}
use Rattle.pfr_story.specs.Turn.{fault_of, is_due, tick_course, bank_stretch, fuse_stretch, provision_stretch, spi_stretch, expiry_stretch, update_stretch, ignored, power_course, off_course, pass_note, stage_at, is_idle, taken, begun, Turn}
use Rattle.pfr_story.specs.World.{World, story_of, AllMoved}
use Rattle.pfr_story.proofs.BringRules.{Any, level_at}
use Rattle.pfr_story.proofs.BusRules.{AllowsSmbus, smbus_safe}
use Rattle.pfr_story.proofs.Bytes.{HaveBytes, images_then, mine_sized, bank_sized}
use Rattle.pfr_story.proofs.Courses.{taken_runs, taken_boots, IsTakenBy, Turn-cases}
use Rattle.pfr_story.proofs.WorkKnown.{IsSized, CanBeWorked, IsClosed}
pub use Rattle.pfr_story.proofs.StoreLeft.{IsQuiet, quiet_settled, two_left, quiet_left, left_whole, left_cut, brought_leaves, expired_leaves}
use Rattle.pfr_story.proofs.RecoveryWalks.{HasSizes, worked_from, closed_from}
use Rattle.pfr_story.proofs.ContentsLaws.{migrates}
use Rattle.pfr_story.proofs.SpanRules.{NotOne}
use Rattle.pfr_story.specs.Plans.{mine, migration_in, filtered}
use Rattle.pfr_story.specs.Story.{device_of}
use Rattle.std.specs.Prelude.{◌&&◌}
use Rattle.std.proofs.lemmas.Bool.{false≢true}
use Rattle.pfr_flash.specs.Operation.{play}
use Rattle.pfr_flash.specs.Bytes.{AreBytes}
use Rattle.pfr_flash.proofs.PlayLemmas.{length-play}
use Rattle.pfr_fuses.specs.FusesState.{FusesState}
use Rattle.pfr_fuses.specs.FusesOf.{fuses_of}
use Rattle.pfr_fuses.specs.declared.fuse_fail.FuseFail.{FuseFail}
use Rattle.pfr_fuses.specs.declared.profile.Profile.TheVariants.{Two}
use Rattle.pfr_recoverable.proofs.StaysLaw.{fuses_one}
use Rattle.pfr_story.proofs.Traces.{precedes_moved}
use Rattle.pfr_story.proofs.SafetyLaws.{image_called, safe_whole, image_noted}
use Rattle.pfr_story.proofs.StepTraces.{AllowsFaults, Between, AllowsLosses, IsGoodStretch, noted_along, power_along, single_along, tick_along, pass_noted}
use Rattle.pfr_story.proofs.Traces.{Traced}
use Rattle.pfr_story.proofs.Turns.{Turn-moved}
use Rattle.pfr_story.proofs.WorldLaws.{AllMoved-refl}

pub sized_noted : (w : Counts → What) (story : Story) → HasSizes story → HasSizes (noted w story)
sized_noted w story h = record {
  images = λ which. subst AreBytes (sym (image_noted which w story)) (h.images which);
  banks = λ b. subst (λ (image : List ℕ). IsBankSize (length image)) (sym (image_noted (device_of b) w story)) (h.banks b);
  store_size = h.store_size;
}

-- ---- a migration
pub migrated_two : (story : Story) (read : Result FusesState FuseFail) → fuses_of (store story) ≡ read → length (store story) ≡ 32768 → AreBytes (store story) → NotOne (store (after (migrated story) story))
migrated_two story (Ok fuses) f size bytes = λ other g.
    let says = (migrates fuses story f size bytes).says in
    subst (λ (x : FusesState). x.profile ≡ Two) (fuses_one (store (after (migrated story) story)) (record fuses { profile = Two }) other says g) refl
migrated_two story (Err cause) f size bytes = λ other g.
    let none : store (after (migrated story) story) ≡ store story =
    image_called device.Nv (migration_in (fuses_of (store story))) story ∙ ap (λ (read : Result FusesState FuseFail). play (store story) (migration_in read)) f in
    absurd (let never : Err cause ≡ Ok other = sym f ∙ sym (ap (λ (nv : List ℕ). fuses_of nv) none) ∙ g in cc)

-- ---- the devices' sizes
pub sized_world : (w last : World) → HaveBytes last → IsBankSize (size_of last.bmc) → IsBankSize (size_of last.pch) → size_of last.nv ≡ 32768 → AllMoved w last → HasSizes (story_of w)
sized_world w last held bmc pch nv m = record {
  images = images_then (story_of w) last (precedes_moved w last m) held;
  banks = by_bank;
  store_size = length-play w.nv.start w.nv.ops ∙ ap (λ (start : List ℕ). length start) (sym m.nv.start) ∙ nv;
}
  where
    by_bank : (b : Bank) → IsBankSize (length (mine b (story_of w)))
    by_bank bank.Bmc = subst IsBankSize (sym (mine_sized bank.Bmc w last m)) bmc
    by_bank bank.Pch = subst IsBankSize (sym (mine_sized bank.Pch w last m)) pch

-- a bank whose watch expires by ticks runs
pub due_runs : (s : Standing) (more : Bool) → (is_running s && more) ≡ true → s ≡ Running
due_runs Running more e = refl
due_runs Off more e = absurd (false≢true e)
due_runs Held more e = absurd (false≢true e)
due_runs Locked more e = absurd (false≢true e)

-- a bank that is closed is restored or updated
pub closed_there : (c : Bank) (w : Counts → What) (story : Story) → HasSizes story → IsQuiet c (store story) → IsClosed c (noted w story)
closed_there c w story sized q = closed_from c (noted w story) (sized_noted w story sized) q.0 q.1

-- behind an expiry of this bank the store may be left ready for the other
abbrev AreDue : Bool → Bool → Story → Type 0
AreDue bmc pch story = (bmc ≡ true → IsQuiet bank.Bmc (store story)) × (pch ≡ true → IsQuiet bank.Pch (store story))

abbrev IsDueThen : Bool → Story → Type 0
IsDueThen pch story = pch ≡ true → IsQuiet bank.Pch (store story)

abbrev IsTwo : Story → Type 0
IsTwo story = NotOne (store story)

abbrev AreSet : Story → Type 0
AreSet story = (b : Bank) → standing_of b story.notes ≡ Running → IsSettled (store story)

-- what is known besides of a provision
abbrev pub Provided : (RootSlot → Story → Type 0) → Event → Story → Type 0
Provided P (event.Provision root) story = P root story
Provided P e story = Unit {0}

pub provided_any : (e : Event) (story : Story) → Provided (λ root here. Unit {0}) e story
provided_any event.Power story = tt
provided_any event.Off story = tt
provided_any (event.Provision root) story = tt
provided_any (event.Spi b frame) story = tt
provided_any (event.Smbus b frame) story = tt
provided_any (event.Tick n) story = tt
provided_any (event.Boot b pass) story = tt
provided_any (event.Update b intent) story = tt

-- What has to be shown of each part of a step; what is known where a bank is worked on is said.
pub record StepTable (G : Rule) (accepts : Acceptance) (P : RootSlot → Story → Type 0) : Type 0 where
  pub faults : AllowsFaults G
  pub ignored : (story : Story) → G (Says (λ _. what.Ignored)) story
  pub off : (story : Story) → G (Says (what.Lost None)) story
  pub power : (story : Story) → G (Says (λ _. what.Power)) story
  pub booted : (b : Bank) (story : Story) → G (Says (λ _. what.Booted b)) story
  pub passed : (b : Bank) (at : Stage) (story : Story) → G (Says (λ _. what.Passed b at)) story
  pub spi : (b : Bank) (frame : List ℕ) (story : Story) → HasSizes story → IsQuiet b (store story) → AllSafe G (filtered accepts b frame story) story
  pub smbus : (b : Bank) → AllowsSmbus G b
  pub migrates : (story : Story) → HasSizes story → AllSafe G (migrated story) story
  pub provisions : (root : RootSlot) (story : Story) → ((b : Bank) → standing_of b story.notes ≡ Running → IsSettled (store story)) → P root story → AllSafe G (provisioned root story) story
  pub brings : (b : Bank) (story : Story) → IsSized story → CanBeWorked b (noted (what.Held b) story) → AllSafe G (brought_up accepts b story) story
  pub expires : (b : Bank) (story : Story) → IsSized story → IsClosed b (noted (what.Held b) (noted (λ _. what.Expired b (level_at b story)) story)) → AllSafe G (expired accepts b story) story
  pub updates : (b : Bank) (intent : Intent) (story : Story) → IsSized story → IsClosed b (noted (what.Held b) story) → AllSafe G (updating accepts b intent story) story

module _ (G : Rule) (accepts : Acceptance) (P : RootSlot → Story → Type 0) (table : StepTable G accepts P) (old new : World) (held : HaveBytes new) (bmc : IsBankSize (size_of new.bmc)) (pch : IsBankSize (size_of new.pch)) (nv : size_of new.nv ≡ 32768) where
  abbrev IsGoodAs : (Story → Type 0) → Stretch → (Story → Type 0) → Type 0
  IsGoodAs P stretch Q = IsGoodStretch G old new HasSizes P stretch Q

  -- where nothing is asked of what follows
  ending : (P : Story → Type 0) (stretch : Stretch) → ((story : Story) → HasSizes story × P story → AllSafe G (stretch.plan story) story) → ((which : Device) (story : Story) → AllGood G (stretch.on_fault which) story) → IsGoodAs P stretch Any
  ending P stretch safe noted = record {
    plan = record { safe = safe; ends = λ story p. tt };
    noted = λ which story trace p cut rose. noted which (after trace story);
    on = λ which story trace p cut e. tt;
  }

  locked_at : (b : Bank) (which : Device) (story : Story) → AllGood G (Says (what.Locked b (fault_of which)) ∷ []) story
  locked_at b which story = (table.faults.locked b which story, tt)

  fuses_go : IsGoodAs Any fuse_stretch IsTwo
  fuses_go = record {
    plan = record { safe = λ story p. table.migrates story p.0; ends = λ story p. migrated_two story (fuses_of (store story)) refl p.0.store_size (p.0.images device.Nv) };
    noted = λ which story trace p cut rose. (table.faults.held bank.Bmc _, (table.faults.locked bank.Bmc device.Nv _, (table.faults.held bank.Pch _, (table.faults.locked bank.Pch device.Nv _, tt))));
    on = λ which story trace p cut e. absurd (false≢true e);
  }

  bank_goes : (c : Bank) → IsGoodAs IsTwo (bank_stretch accepts c) IsTwo
  bank_goes c = record {
    plan = record {
      safe = λ story p. table.brings c story p.0.store_size (worked_from c (noted (what.Held c) story) (sized_noted (what.Held c) story p.0) p.1);
      ends = λ story p. left_whole accepts NotOne c (two_left c) (brought_up accepts c story) story (brought_leaves accepts NotOne c (two_left c) story p.0.store_size) (p.0.store_size, p.1);
    };
    noted = λ which story trace p cut rose. locked_at c which (after trace story);
    on = λ which story trace p cut e. left_cut accepts NotOne c (two_left c) which (brought_up accepts c story) trace story (brought_leaves accepts NotOne c (two_left c) story p.0.store_size) cut (p.0.store_size, p.1);
  }

  expires_so : (c : Bank) (story : Story) → HasSizes story → IsQuiet c (store story) → AllSafe G (expired accepts c story) story
  expires_so c story sized q =
      let told : Counts → What = λ _. what.Expired c (level_at c story) in
      table.expires c story sized.store_size (closed_there c (what.Held c) (noted told story) (sized_noted told story sized) q)

  first_goes : (due later : Bool) → due ≡ true → IsGoodAs (AreDue due later) (expiry_stretch accepts bank.Bmc) (IsDueThen later)
  first_goes due later is = record {
    plan = record {
      safe = λ story p. expires_so bank.Bmc story p.0 (p.1.0 is);
      ends = λ story p other. left_whole accepts (IsQuiet bank.Pch) bank.Bmc quiet_left (expired accepts bank.Bmc story) story (expired_leaves accepts (IsQuiet bank.Pch) bank.Bmc quiet_left story p.0.store_size) (p.0.store_size, p.1.1 other);
    };
    noted = λ which story trace p cut rose. locked_at bank.Bmc which (after trace story);
    on = λ which story trace p cut e other.
        left_cut accepts (IsQuiet bank.Pch) bank.Bmc quiet_left which (expired accepts bank.Bmc story) trace story (expired_leaves accepts (IsQuiet bank.Pch) bank.Bmc quiet_left story p.0.store_size) cut (p.0.store_size, p.1.1 other);
  }

  expiry_goes : (c : Bank) (P : Story → Type 0) → ((story : Story) → P story → IsQuiet c (store story)) → IsGoodAs P (expiry_stretch accepts c) Any
  expiry_goes c P quiet = ending P (expiry_stretch accepts c) (λ story p. expires_so c story p.0 (quiet story p.1)) (locked_at c)

  update_goes : (c : Bank) (intent : Intent) → IsGoodAs (λ story. IsQuiet c (store story)) (update_stretch accepts c intent) Any
  update_goes c intent =
      ending (λ story. IsQuiet c (store story)) (update_stretch accepts c intent)
      (λ story p. table.updates c intent story p.0.store_size (closed_there c (what.Held c) story p.0 p.1)) (locked_at c)

  spi_goes : (c : Bank) (frame : List ℕ) → IsGoodAs (λ story. IsQuiet c (store story)) (spi_stretch accepts c frame) Any
  spi_goes c frame =
      ending (λ story. IsQuiet c (store story)) (spi_stretch accepts c frame) (λ story p. table.spi c frame story p.0 p.1) (λ which story. (table.faults.held c _, (table.faults.locked c device.Bmc _, tt)))

  provision_goes : (root : RootSlot) → IsGoodAs (λ story. AreSet story × P root story) (provision_stretch root) Any
  provision_goes root =
      ending (λ story. AreSet story × P root story) (provision_stretch root) (λ story p. table.provisions root story p.1.0 p.1.1) (λ which story. (table.faults.locked bank.Bmc device.Nv _, (table.faults.locked bank.Pch device.Nv _, tt)))

  -- ---- a whole step
  abbrev Goes : Type 0
  Goes = Traced G old new

  within : Between old new old new
  within = record { before = AllMoved-refl old; behind = AllMoved-refl new }

  allows : AllowsLosses G old new
  allows which story fell = (table.faults.lost which story, tt)

  known : (w : World) → AllMoved w new → HasSizes (story_of w)
  known w m = sized_world w new held bmc pch nv m

  pub noted_goes : (moves : List Move) → Follows (record { first = moves; stretches = [] }) old new → AllGood G moves (story_of old) → Goes
  noted_goes moves t good = noted_along G old new HasSizes known allows old new within moves t good

  single_goes : (stretch : Stretch) (P : Story → Type 0) → IsGoodAs P stretch Any → P (story_of old) → Follows (record { first = []; stretches = stretch ∷ [] }) old new → Goes
  single_goes stretch P good p t = single_along G old new HasSizes known allows old new within stretch P Any good p t

  power_goes : Follows (power_course accepts) old new → Goes
  power_goes t =
      power_along G old new HasSizes known allows old new within accepts Any IsTwo IsTwo IsTwo fuses_go (bank_goes bank.Bmc) (bank_goes bank.Pch) (table.power (story_of old)) tt t

  -- a bank that runs is settled, and none of its jobs is open
  module _ (settled : AreSet (story_of old)) (none : (c : Bank) → standing_of c (story_of old).notes ≡ Running → open_job (store (story_of old)) c ≡ job.None) where
    quiet : (c : Bank) → standing_of c (story_of old).notes ≡ Running → IsQuiet c (store (story_of old))
    quiet c runs = quiet_settled c (store (story_of old)) (settled c runs) (none c runs)

    tick_goes : (n : ℕ) (story : Story) → story.notes ≡ (story_of old).notes → Follows (tick_course accepts n story) old new → Goes
    tick_goes n story same t =
        let first : Bool = is_due bank.Bmc n story in
        let later : Bool = is_due bank.Pch n story in
        let due : (c : Bank) → is_due c n story ≡ true → IsQuiet c (store (story_of old)) =
        λ c e. quiet c (ap (λ (notes : List Note). standing_of c notes) (sym same) ∙ due_runs (standing_of c story.notes) (expires (guard_at c story.guards).watch n) e) in
        tick_along G old new HasSizes known allows old new within accepts n story (AreDue first later) (IsDueThen later) Any
        (λ e. first_goes first later e) (λ there p. p.1) (λ e. expiry_goes bank.Pch (IsDueThen later) (λ there p. p e)) (λ there p. tt) (due bank.Bmc, due bank.Pch) t

    -- judged by the contents of the story at which the step began
    pub taken_goes : (e : Event) (story : Story) → story.notes ≡ (story_of old).notes → is_idle e story ≡ false → Provided P e (story_of old) → Follows (taken accepts e story) old new → Goes
    taken_goes event.Power story same on p t = power_goes t
    taken_goes event.Off story same on p t = noted_goes off_course.first t (table.off (story_of old), tt)
    taken_goes (event.Provision root) story same on p t = single_goes (provision_stretch root) (λ there. AreSet there × P root there) (provision_goes root) (settled, p) t
    taken_goes (event.Spi c frame) story same on p t =
        let runs = ap (λ (notes : List Note). standing_of c notes) (sym same) ∙ taken_runs (standing_of c story.notes) on in
        single_goes (spi_stretch accepts c frame) (λ there. IsQuiet c (store there)) (spi_goes c frame) (quiet c runs) t
    taken_goes (event.Smbus c frame) story same on p t =
        let moves : List Move = smbus_judged accepts c frame story in
        noted_goes moves t (safe_whole G moves (story_of old) (smbus_safe G accepts c frame (table.smbus c) story (story_of old)))
    taken_goes (event.Tick n) story same on p t = tick_goes n story same t
    taken_goes (event.Boot c true) story same on p t =
        let stage : Stage = stage_at c story in
        noted_goes (Says (λ _. pass_note c stage (next_stage stage)) ∷ []) t
        (pass_noted (λ that. G (Says (λ _. that)) (story_of old)) c stage (next_stage stage) (λ done. table.booted c (story_of old)) (λ on. table.passed c stage (story_of old)), tt)
    taken_goes (event.Boot c false) story same on p t =
        let runs = ap (λ (notes : List Note). standing_of c notes) (sym same) ∙ (taken_boots (standing_of c story.notes) (stage_at c story) on).0 in
        single_goes (expiry_stretch accepts c) (λ there. IsQuiet c (store there)) (expiry_goes c (λ there. IsQuiet c (store there)) (λ there p. p)) (quiet c runs) t
    taken_goes (event.Update c intent) story same on p t =
        let runs = ap (λ (notes : List Note). standing_of c notes) (sym same) ∙ taken_runs (standing_of c story.notes) on in
        single_goes (update_stretch accepts c intent) (λ there. IsQuiet c (store there)) (update_goes c intent) (quiet c runs) t

-- an event that is ignored
pub ignored_goes : (G : Rule) (accepts : Acceptance) (P : RootSlot → Story → Type 0) → StepTable G accepts P → (e : Event) (old new : World) → Follows ignored (begun e old) new → Traced G (begun e old) new
ignored_goes G accepts P table e old new t =
    noted_along G (begun e old) new Any (λ w moved. tt) (λ which story fell. (table.faults.lost which story, tt)) (begun e old) new (record { before = AllMoved-refl (begun e old); behind = AllMoved-refl new })
    ignored.first t (table.ignored (story_of (begun e old)), tt)

-- So is each move of the step.
pub Turn-goes : (G : Rule) (accepts : Acceptance) (P : RootSlot → Story → Type 0) → StepTable G accepts P → (e : Event) (old new : World) → Turn accepts e old new → HaveBytes new → IsBankSize (size_of old.bmc)
    → IsBankSize (size_of old.pch) → size_of old.nv ≡ 32768 → ((c : Bank) → HasTrustedSpans accepts c (story_of old)) → Provided P e (story_of (begun e old)) → Traced G (begun e old) new
Turn-goes G accepts P table e old new t held bmc pch nv spans provided = by_case (Turn-cases accepts e old new t)
  where
    m : AllMoved (begun e old) new
    m = Turn-moved accepts e old new t

    bmc_then : IsBankSize (size_of new.bmc)
    bmc_then = bank_sized bank.Bmc (begun e old) new m bmc

    pch_then : IsBankSize (size_of new.pch)
    pch_then = bank_sized bank.Pch (begun e old) new m pch

    nv_then : size_of new.nv ≡ 32768
    nv_then = ap (λ (start : List ℕ). length start) m.nv.start ∙ nv

    by_case : ((is_idle e (story_of old) ≡ true) × Follows ignored (begun e old) new) ⊎ IsTakenBy accepts e old new → Traced G (begun e old) new
    by_case (inl idle) = ignored_goes G accepts P table e old new idle.1
    by_case (inr on) =
        taken_goes G accepts P table (begun e old) new held bmc_then pch_then nv_then (λ c runs. (spans c).settled runs) (λ c runs. (spans c).idle runs) e (story_of old) refl on.0 provided on.1
