-- Of a step along stretches each move is good.
use Rattle.std.proofs.Common.{◌≡◌, ◌≢◌, ◌∙◌, ◌<◌, refl, sym, ap, subst, arith, ℕ, Bool, true, false, List, [], ◌∷◌, ◌++◌, length, inl, inr, Some}
use Rattle.pfr_flash.specs.FlashState.{size_of, Rose}
use Rattle.pfr_flash.specs.declared.flash.FlashFail.TheVariants.{Fault, Lost as Loses}
use Rattle.pfr_flash.specs.Operation.{Operation}
use Rattle.pfr_flash.specs.declared.names.Counts.{Counts}
use Rattle.pfr_flash.specs.declared.names.Device.{Device}
use Rattle.pfr_flash.specs.declared.names.Device.TheVariants as device
use Rattle.pfr_flash.specs.declared.names.Bank.{Bank}
use Rattle.pfr_flash.specs.declared.names.Bank.TheVariants as bank
use Rattle.pfr_flash.proofs.PlayLemmas.{length-play}
use Rattle.pfr_engine.specs.Acceptance.{Acceptance}
use Rattle.pfr_fuses.specs.declared.root_slot.RootSlot.{RootSlot}
use Rattle.pfr_script.specs.declared.event.Intent.{Intent}
use Rattle.pfr_watch.specs.declared.stage.Stage.{Stage}
use Rattle.pfr_watch.specs.declared.stage.Stage.TheVariants as stage
use Rattle.pfr_report.specs.declared.note.LockWhy.{LockWhy}
use Rattle.pfr_report.specs.declared.note.What.{What}
use Rattle.pfr_report.specs.declared.note.What.TheVariants as what
use Rattle.pfr_story.specs.Guards.{Guard, Guards, guard_at, guard_after}
use Rattle.pfr_story.specs.Story.{Story, Move, Says, Does, Asks, after, noted, operated, counts_of, other_bank, IsCut}
use Rattle.pfr_story.specs.Turn.{fault_of, fuse_stretch, bank_stretch, provision_stretch, spi_stretch, expiry_stretch, update_stretch, is_due, stretch_if, pass_note, power_course, provision_course, spi_course, smbus_course, tick_course, update_course}
use Rattle.pfr_story.specs.World.{World, story_of, state_at, AllMoved}
use Rattle.pfr_story.specs.Safety.{Rule, AllGood, AllSafe, AllMake, Leads}
use Rattle.pfr_story.specs.Plans.{brought_up, migrated, provisioned, filtered, smbus_judged, level_after, expired}
use Rattle.pfr_story.specs.UpdatePlans.{updating}
use Rattle.pfr_story.specs.Course.{Stretch, Steps, lost, Course, Follows}
use Rattle.pfr_story.proofs.WorldLaws.{AllMoved-refl, AllMoved-trans, faults_moved, losses_moved}
use Rattle.pfr_story.proofs.Courses.{went_on, Steps-moved, moved_behind, fault_rose}
use Rattle.pfr_story.proofs.Sequence.{after-append}
use Rattle.pfr_story.proofs.BringAllowed.{IsSized, AllowsBank, allowed_safe, expired_allowed, AllowsUpdate, updating_allowed}
use Rattle.pfr_story.proofs.BringMakes.{MayBringBack, expired_made}
use Rattle.pfr_story.proofs.BringRules.{Any, IsOwn, level_at}
use Rattle.pfr_story.proofs.SafetyLaws.{AllMake-append, cut_makes, safe_whole}
use Rattle.pfr_story.proofs.Traces.{Traced, Traced-then, Traced-ran, Traced-whole, Traced-cut}

-- The worlds of a part of a step lie between the two ends that are looked at.
pub record Between (first last old new : World) : Type 0 where
  pub before : AllMoved first old
  pub behind : AllMoved new last

-- What has to be shown of a stretch that begins where P holds, and where K does, which is true of each story between the two
-- worlds: Q holds where the step goes on.
pub record IsGoodStretch (G : Rule) (first last : World) (K P : Story → Type 0) (stretch : Stretch) (Q : Story → Type 0) : Type 0 where
  pub plan : Leads G (λ story. K story × P story) stretch.plan Q
  -- what is noted at a fault
  pub noted : (which : Device) (story : Story) (trace : List Move) → K story × P story → IsCut which (stretch.plan story) story trace
      → Rose (state_at which first).faults (state_at which last).faults → AllGood G (stretch.on_fault which) (after trace story)
  pub on : (which : Device) (story : Story) (trace : List Move) → K story × P story → IsCut which (stretch.plan story) story trace
      → stretch.goes_on ≡ true → Q (after (stretch.on_fault which) (after trace story))

-- a loss of power is noted only where it was counted
abbrev pub AllowsLosses : Rule → World → World → Type 0
AllowsLosses G first last = (which : Device) (story : Story) → (state_at which first).losses < (state_at which last).losses → AllGood G (lost which) story

-- Each move of a step along these stretches is good, from where P holds.
abbrev pub AreGood : Rule → World → World → (Story → Type 0) → List Stretch → Type 0
AreGood G first last P stretches = (old new : World) → Between first last old new → P (story_of old) → Steps stretches old new → Traced G old new

module _ (G : Rule) (first last : World) (K : Story → Type 0) (known : (w : World) → AllMoved w last → K (story_of w)) (allows : AllowsLosses G first last) where
  AreGood-none : (P : Story → Type 0) → AreGood G first last P []
  AreGood-none P old new within p r = Traced-ran G [] old new r tt

  AreGood-next : (P Q : Story → Type 0) (s : Stretch) (ss : List Stretch) → IsGoodStretch G first last K P s Q → AreGood G first last Q ss → AreGood G first last P (s ∷ ss)
  AreGood-next P Q s ss good next old new within p (inl (mid, c, rest)) =
      let here : K (story_of old) × P (story_of old) = (known old (AllMoved-trans old mid last c.moved (AllMoved-trans mid new last (Steps-moved ss mid new rest) within.behind)), p) in
      Traced-then G old mid new (Traced-whole G (s.plan (story_of old)) old mid c (good.plan.safe (story_of old) here))
      (next mid new (record { before = AllMoved-trans first old mid within.before c.moved; behind = within.behind }) (subst Q (sym c.is) (good.plan.ends (story_of old) here)) rest)
  AreGood-next P Q s ss good next old new within p (inr (inl (mid, f, rest))) =
      let behind : AllMoved mid last = AllMoved-trans mid new last (moved_behind s ss mid new rest) within.behind in
      let whole : AllMoved old mid = AllMoved-trans old f.at mid f.stopped.moved f.noted.moved in
      let here : K (story_of old) × P (story_of old) = (known old (AllMoved-trans old mid last whole behind), p) in
      let rose : Rose (state_at f.which first).faults (state_at f.which last).faults = omega (arith, faults_moved f.which first old within.before, fault_rose s old mid last f behind) in
      let notes = subst (λ (t : Story). AllGood G (s.on_fault f.which) t) (sym f.stopped.is) (good.noted f.which (story_of old) f.stopped.trace here f.stopped.cut rose) in
      Traced-then G old f.at new (Traced-cut G (s.plan (story_of old)) f.which Fault old f.at f.stopped (good.plan.safe (story_of old) here))
      (Traced-then G f.at mid new (Traced-ran G (s.on_fault f.which) f.at mid f.noted notes)
      (went_on s.goes_on (Steps ss) mid new (Traced G mid new) (λ e r. next mid new (record { before = AllMoved-trans first old mid within.before whole; behind = within.behind })
      (subst Q (sym f.noted.is) (subst (λ (t : Story). Q (after (s.on_fault f.which) t)) (sym f.stopped.is) (good.on f.which (story_of old) f.stopped.trace here f.stopped.cut e))) r) (λ r. Traced-ran G [] mid new r tt) rest))
  AreGood-next P Q s ss good next old new within p (inr (inr l)) =
      let moved : AllMoved old new = AllMoved-trans old l.at new l.stopped.moved l.noted.moved in
      let here : K (story_of old) × P (story_of old) = (known old (AllMoved-trans old new last moved within.behind), p) in
      let fell : (state_at l.which first).losses < (state_at l.which last).losses =
      omega (arith, losses_moved l.which first old within.before, l.stopped.cause.0.once, losses_moved l.which l.at last (AllMoved-trans l.at new last l.noted.moved within.behind)) in
      Traced-then G old l.at new (Traced-cut G (s.plan (story_of old)) l.which Loses old l.at l.stopped (good.plan.safe (story_of old) here))
      (Traced-ran G (lost l.which) l.at new l.noted (allows l.which (story_of l.at) fell))

  -- the first stretch is there only where it is called for
  AreGood-if : (due : Bool) (P Q : Story → Type 0) (s : Stretch) (ss : List Stretch) → (due ≡ true → IsGoodStretch G first last K P s Q) → ((story : Story) → P story → Q story)
      → AreGood G first last Q ss → AreGood G first last P (stretch_if due s ss)
  AreGood-if true P Q s ss good more next = AreGood-next P Q s ss (good refl) next
  AreGood-if false P Q s ss good more next = λ old new within p t. next old new within (more (story_of old) p) t

  -- ---- Each move of a step is good, from where what it notes first is, and its stretches from there.
  module _ (old new : World) (within : Between first last old new) where
    along : (P : Story → Type 0) (c : Course) → Follows c old new → AllGood G c.first (story_of old) → P (after c.first (story_of old)) → AreGood G first last P c.stretches → Traced G old new
    along P c (mid, says, rest) good p stretches =
        Traced-then G old mid new (Traced-ran G c.first old mid says good)
        (stretches mid new (record { before = AllMoved-trans first old mid within.before says.moved; behind = within.behind }) (subst P (sym says.is) p) rest)

    -- of one that only notes something
    pub noted_along : (moves : List Move) → Follows (record { first = moves; stretches = [] }) old new → AllGood G moves (story_of old) → Traced G old new
    noted_along moves t good = along (λ story. Unit {0}) (record { first = moves; stretches = [] }) t good tt (AreGood-none (λ story. Unit {0}))

    pub power_along : (accepts : Acceptance) (P Q R S : Story → Type 0) → IsGoodStretch G first last K P fuse_stretch Q → IsGoodStretch G first last K Q (bank_stretch accepts bank.Bmc) R
        → IsGoodStretch G first last K R (bank_stretch accepts bank.Pch) S → G (Says (λ _. what.Power)) (story_of old) → P (noted (λ _. what.Power) (story_of old)) → Follows (power_course accepts) old new → Traced G old new
    power_along accepts P Q R S fuses bmc pch good p t =
        let last_one = AreGood-next R S (bank_stretch accepts bank.Pch) [] pch (AreGood-none S) in
        let banks = AreGood-next Q R (bank_stretch accepts bank.Bmc) (bank_stretch accepts bank.Pch ∷ []) bmc last_one in
        along P (power_course accepts) t (good, tt) p (AreGood-next P Q fuse_stretch (bank_stretch accepts bank.Bmc ∷ bank_stretch accepts bank.Pch ∷ []) fuses banks)

    -- of one of a single stretch
    pub single_along : (s : Stretch) (P Q : Story → Type 0) → IsGoodStretch G first last K P s Q → P (story_of old) → Follows (record { first = []; stretches = s ∷ [] }) old new → Traced G old new
    single_along s P Q good p t = along P (record { first = []; stretches = s ∷ [] }) t tt p (AreGood-next P Q s [] good (AreGood-none Q))

    -- of a tick: of each bank whose watch expires by it
    pub tick_along : (accepts : Acceptance) (n : ℕ) (story : Story) (P Q R : Story → Type 0)
        → (is_due bank.Bmc n story ≡ true → IsGoodStretch G first last K P (expiry_stretch accepts bank.Bmc) Q) → ((there : Story) → P there → Q there)
        → (is_due bank.Pch n story ≡ true → IsGoodStretch G first last K Q (expiry_stretch accepts bank.Pch) R) → ((there : Story) → Q there → R there)
        → P (story_of old) → Follows (tick_course accepts n story) old new → Traced G old new
    tick_along accepts n story P Q R bmc past_bmc pch past_pch p t =
        let last_one = AreGood-if (is_due bank.Pch n story) Q R (expiry_stretch accepts bank.Pch) [] pch past_pch (AreGood-none R) in
        along P (tick_course accepts n story) t tt p
        (AreGood-if (is_due bank.Bmc n story) P Q (expiry_stretch accepts bank.Bmc) (stretch_if (is_due bank.Pch n story) (expiry_stretch accepts bank.Pch) []) bmc past_bmc last_one)

-- what is true of both notes of a stage that was passed is true of the one that is made
pub pass_noted : (P : What → Type 0) (b : Bank) (at next : Stage) → (next ≡ stage.Done → P (what.Booted b)) → (next ≢ stage.Done → P (what.Passed b at)) → P (pass_note b at next)
pass_noted P b at stage.Done booted passed = booted refl
pass_noted P b at stage.Bmc booted passed = passed (λ e. cc)
pass_noted P b at stage.Me booted passed = passed (λ e. cc)
pass_noted P b at stage.Acm booted passed = passed (λ e. cc)
pass_noted P b at stage.Ibb booted passed = passed (λ e. cc)
pass_noted P b at stage.Obb booted passed = passed (λ e. cc)

-- ---- the work on a bank leaves what guards the other one
abbrev pub LeavesOther : Bank → (Counts → What) → Type 0
LeavesOther b w = (at : Counts) (guard : Guard) → guard_after (other_bank b) (w at) guard ≡ guard

lock_apart : (b : Bank) (cause : LockWhy) → LeavesOther b (what.Locked b cause)
lock_apart bank.Bmc cause at guard = refl
lock_apart bank.Pch cause at guard = refl

may_bring : (b : Bank) → MayBringBack (LeavesOther b) b
may_bring bank.Bmc = record { held = λ at guard. refl; released = λ svn at guard. refl; locked = λ cause unfailed. lock_apart bank.Bmc cause; restored = λ level at guard. refl }
may_bring bank.Pch = record { held = λ at guard. refl; released = λ svn at guard. refl; locked = λ cause unfailed. lock_apart bank.Pch cause; restored = λ level at guard. refl }

expired_apart : (b : Bank) (level : ℕ) → LeavesOther b (λ _. what.Expired b level)
expired_apart bank.Bmc level at guard = refl
expired_apart bank.Pch level at guard = refl

pub expired_leaves : (accepts : Acceptance) (b : Bank) (story : Story) → AllMake (IsOwn b) (LeavesOther b) (expired accepts b story)
expired_leaves accepts b story = expired_made (IsOwn b) (LeavesOther b) b (inr refl) (inl refl) (may_bring b) accepts story (expired_apart b (level_at b story))

guard_noted : (c : Bank) (w : Counts → What) (story : Story) → guard_at c (noted w story).guards ≡ guard_after c (w (counts_of story)) (guard_at c story.guards)
guard_noted bank.Bmc w story = refl
guard_noted bank.Pch w story = refl

guards_operated : (which : Device) (op : Operation) (story : Story) → (operated which op story).guards ≡ story.guards
guards_operated device.Bmc op story = refl
guards_operated device.Pch op story = refl
guards_operated device.Nv op story = refl

pub other_guard : (b : Bank) (moves : List Move) (story : Story) → AllMake (IsOwn b) (LeavesOther b) moves → guard_at (other_bank b) (after moves story).guards ≡ guard_at (other_bank b) story.guards
other_guard b [] story all = refl
other_guard b (Says w ∷ moves) story all = other_guard b moves (noted w story) all.1 ∙ guard_noted (other_bank b) w story ∙ all.0 (counts_of story) (guard_at (other_bank b) story.guards)
other_guard b (Does which op ∷ moves) story all = other_guard b moves (operated which op story) all.1 ∙ ap (λ (guards : Guards). guard_at (other_bank b) guards) (guards_operated which op story)
other_guard b (Asks which ∷ moves) story all = other_guard b moves story all.1

-- ---- a rule that allows what is noted at faults
-- a bank is held
abbrev pub AllowsHold : Rule → Bank → Type 0
AllowsHold G b = (story : Story) → G (Says (what.Held b)) story

-- it is locked
abbrev pub AllowsLock : Rule → Bank → Type 0
AllowsLock G b = (which : Device) (story : Story) → G (Says (what.Locked b (fault_of which))) story

-- devices lose their power
abbrev pub AllowsLost : Rule → Type 0
AllowsLost G = (which : Device) (story : Story) → G (Says (what.Lost (Some which))) story

-- all of this, of both banks
pub record AllowsFaults (G : Rule) : Type 0 where
  pub held : (b : Bank) → AllowsHold G b
  pub locked : (b : Bank) → AllowsLock G b
  pub lost : AllowsLost G

-- Each move of a step between two worlds is good where each of its plans is safe; K is true of each story between them.
module _ (G : Rule) (loses : AllowsLost G) (old new : World) (K : Story → Type 0) (known : (w : World) → AllMoved w new → K (story_of w)) where
  within : Between old new old new
  within = record { before = AllMoved-refl old; behind = AllMoved-refl new }

  allows : AllowsLosses G old new
  allows which story fell = (loses which story, tt)

  bank_good : (accepts : Acceptance) (b : Bank) → AllowsLock G b → ((story : Story) → K story → AllSafe G (brought_up accepts b story) story) → IsGoodStretch G old new K Any (bank_stretch accepts b) Any
  bank_good accepts b locks safe = record {
    plan = record { safe = λ story p. safe story p.0; ends = λ story p. tt };
    noted = λ which story trace p cut rose. (locks which (after trace story), tt);
    on = λ which story trace p cut e. tt;
  }

  fuse_good : (P : Story → Type 0) → AllowsFaults G → ((story : Story) → P story → AllSafe G (migrated story) story) → IsGoodStretch G old new K P fuse_stretch Any
  fuse_good P h safe = record {
    plan = record { safe = λ story p. safe story p.1; ends = λ story p. tt };
    noted = λ which story trace p cut rose. (h.held bank.Bmc _, (h.locked bank.Bmc device.Nv _, (h.held bank.Pch _, (h.locked bank.Pch device.Nv _, tt))));
    on = λ which story trace p cut e. tt;
  }

  provision_good : (P : Story → Type 0) (root : RootSlot) → ((b : Bank) → AllowsLock G b) → ((story : Story) → P story → AllSafe G (provisioned root story) story) → IsGoodStretch G old new K P (provision_stretch root) Any
  provision_good P root locks safe = record {
    plan = record { safe = λ story p. safe story p.1; ends = λ story p. tt };
    noted = λ which story trace p cut rose. (locks bank.Bmc device.Nv _, (locks bank.Pch device.Nv _, tt));
    on = λ which story trace p cut e. tt;
  }

  spi_good : (P : Story → Type 0) (accepts : Acceptance) (b : Bank) (frame : List ℕ) → AllowsHold G b → AllowsLock G b → ((story : Story) → P story → AllSafe G (filtered accepts b frame story) story)
      → IsGoodStretch G old new K P (spi_stretch accepts b frame) Any
  spi_good P accepts b frame holds locks safe = record {
    plan = record { safe = λ story p. safe story p.1; ends = λ story p. tt };
    noted = λ which story trace p cut rose. (holds _, (locks device.Bmc _, tt));
    on = λ which story trace p cut e. tt;
  }

  -- an expiry: what holds behind it is what the work on the bank leaves true
  expiry_good : (P Q : Story → Type 0) (accepts : Acceptance) (b : Bank) → AllowsLock G b → ((story : Story) → K story → P story → AllSafe G (expired accepts b story) story)
      → ((moves : List Move) (story : Story) → AllMake (IsOwn b) (LeavesOther b) moves → P story → Q (after moves story)) → IsGoodStretch G old new K P (expiry_stretch accepts b) Q
  expiry_good P Q accepts b locks safe keeps = record {
    plan = record { safe = λ story p. safe story p.0 p.1; ends = λ story p. keeps (expired accepts b story) story (expired_leaves accepts b story) p.1 };
    noted = λ which story trace p cut rose. (locks which (after trace story), tt);
    on = λ which story trace p cut e.
        let lock : List Move = Says (what.Locked b (fault_of which)) ∷ [] in
        let made = (cut_makes (IsOwn b) (LeavesOther b) which (expired accepts b story) trace story (expired_leaves accepts b story) cut).1 in
        subst Q (after-append trace lock story) (keeps (trace ++ lock) story (AllMake-append (IsOwn b) (LeavesOther b) trace lock made (lock_apart b (fault_of which), tt)) p.1);
  }

  update_good : (P : Story → Type 0) (accepts : Acceptance) (b : Bank) (intent : Intent) → AllowsLock G b → ((story : Story) → K story → P story → AllSafe G (updating accepts b intent story) story)
      → IsGoodStretch G old new K P (update_stretch accepts b intent) Any
  update_good P accepts b intent locks safe = record {
    plan = record { safe = λ story p. safe story p.0 p.1; ends = λ story p. tt };
    noted = λ which story trace p cut rose. (locks which (after trace story), tt);
    on = λ which story trace p cut e. tt;
  }

  -- ---- of a step that only notes something
  pub noted_by : (moves : List Move) → Follows (record { first = moves; stretches = [] }) old new → AllGood G moves (story_of old) → Traced G old new
  noted_by moves t good = noted_along G old new K known allows old new within moves t good

  -- of a power-on, from a story where P holds
  pub power_by : (P : Story → Type 0) (accepts : Acceptance) → AllowsFaults G → ((story : Story) → P story → AllSafe G (migrated story) story)
      → ((b : Bank) (story : Story) → K story → AllSafe G (brought_up accepts b story) story) → G (Says (λ _. what.Power)) (story_of old)
      → P (noted (λ _. what.Power) (story_of old)) → Follows (power_course accepts) old new → Traced G old new
  power_by P accepts h safe brought says p t =
      power_along G old new K known allows old new within accepts P Any Any Any (fuse_good P h safe) (bank_good accepts bank.Bmc (h.locked bank.Bmc) (brought bank.Bmc)) (bank_good accepts bank.Pch (h.locked bank.Pch) (brought bank.Pch)) says p t

  -- of a provision
  pub provision_by : (P : Story → Type 0) (root : RootSlot) → ((b : Bank) → AllowsLock G b) → ((story : Story) → P story → AllSafe G (provisioned root story) story) → P (story_of old) → Follows (provision_course root) old new → Traced G old new
  provision_by P root locks safe p t = single_along G old new K known allows old new within (provision_stretch root) P Any (provision_good P root locks safe) p t

  -- of a frame on the SPI bus of a bank
  pub spi_by : (P : Story → Type 0) (accepts : Acceptance) (b : Bank) (frame : List ℕ) → AllowsHold G b → AllowsLock G b → ((story : Story) → P story → AllSafe G (filtered accepts b frame story) story)
      → P (story_of old) → Follows (spi_course accepts b frame) old new → Traced G old new
  spi_by P accepts b frame holds locks safe p t = single_along G old new K known allows old new within (spi_stretch accepts b frame) P Any (spi_good P accepts b frame holds locks safe) p t

  -- of one on its SMBus, judged by the contents of this story
  pub smbus_by : (accepts : Acceptance) (b : Bank) (frame : List ℕ) (story : Story) → AllSafe G (smbus_judged accepts b frame story) (story_of old) → Follows (smbus_course accepts b frame story) old new → Traced G old new
  smbus_by accepts b frame story safe t = noted_by (smbus_judged accepts b frame story) t (safe_whole G (smbus_judged accepts b frame story) (story_of old) safe)

  -- of a tick, by the story that it is judged by: an expiry is noted at the level that its bank has where the step begins
  pub tick_by : (accepts : Acceptance) (n : ℕ) (story : Story) → ((b : Bank) → is_due b n story ≡ true → AllowsLock G b)
      → ((b : Bank) (there : Story) → K there → is_due b n story ≡ true → level_at b there ≡ level_at b (story_of old) → AllSafe G (expired accepts b there) there)
      → Follows (tick_course accepts n story) old new → Traced G old new
  tick_by accepts n story locks safe t =
      let P : Story → Type 0 = λ there. (b : Bank) → level_at b there ≡ level_at b (story_of old) in
      let Q : Story → Type 0 = λ there. level_at bank.Pch there ≡ level_at bank.Pch (story_of old) in
      tick_along G old new K known allows old new within accepts n story P Q Any
      (λ due. expiry_good P Q accepts bank.Bmc (locks bank.Bmc due) (λ there k p. safe bank.Bmc there k due (p bank.Bmc))
      (λ moves there all p. ap (λ (guard : Guard). level_after guard.watch) (other_guard bank.Bmc moves there all) ∙ p bank.Pch))
      (λ there p. p bank.Pch)
      (λ due. expiry_good Q Any accepts bank.Pch (locks bank.Pch due) (λ there k q. safe bank.Pch there k due q) (λ moves there all q. tt))
      (λ there q. tt) (λ b. refl) t

  -- of a boot that failed
  pub failed_by : (accepts : Acceptance) (b : Bank) → AllowsLock G b → (K (story_of old) → AllSafe G (expired accepts b (story_of old)) (story_of old))
      → Follows (record { first = []; stretches = expiry_stretch accepts b ∷ [] }) old new → Traced G old new
  failed_by accepts b locks safe t =
      let P : Story → Type 0 = λ there. story_of old ≡ there in
      single_along G old new K known allows old new within (expiry_stretch accepts b) P Any
      (expiry_good P Any accepts b locks
      (λ there k e. subst (λ (s : Story). AllSafe G (expired accepts b s) s) e (safe (subst K (sym e) k))) (λ moves there all e. tt)) refl t

  -- of an update
  pub update_by : (accepts : Acceptance) (b : Bank) (intent : Intent) → AllowsLock G b → (K (story_of old) → AllSafe G (updating accepts b intent (story_of old)) (story_of old)) → Follows (update_course accepts b intent) old new → Traced G old new
  update_by accepts b intent locks safe t =
      let P : Story → Type 0 = λ there. story_of old ≡ there in
      single_along G old new K known allows old new within (update_stretch accepts b intent) P Any
      (update_good P accepts b intent locks (λ there k e. subst (λ (s : Story). AllSafe G (updating accepts b intent s) s) e (safe (subst K (sym e) k)))) refl t

-- the store has its size in each world of a step
follows_moved : (c : Course) (old new : World) → Follows c old new → AllMoved old new
follows_moved c old new (mid, first, rest) = AllMoved-trans old mid new first.moved (Steps-moved c.stretches mid new rest)

pub sized : (old new : World) → size_of old.nv ≡ 32768 → (c : Course) → Follows c old new → (w : World) → AllMoved w new → IsSized (story_of w)
sized old new size c t w moved =
    length-play w.nv.start w.nv.ops ∙ ap (λ (bytes : List ℕ). length bytes) (sym moved.nv.start ∙ (follows_moved c old new t).nv.start) ∙ size

-- ---- a rule that allows what is noted of banks, and calls of their devices
-- all that is noted of banks and of losses of power, and all that banks' devices do, is good
pub record AllowsBanks (G : Rule) : Type 0 where
  pub held : (b : Bank) (story : Story) → G (Says (what.Held b)) story
  pub bank : (b : Bank) → AllowsBank G b
  pub lost : (which : Device) (story : Story) → G (Says (what.Lost (Some which))) story

module _ (G : Rule) (h : AllowsBanks G) where
  faults : AllowsFaults G
  faults = record { held = h.held; locked = λ b which story. (h.bank b).locked (fault_of which) story; lost = h.lost }

  -- each move is good of a step that only notes something
  pub noted_good : (old new : World) (moves : List Move) → Follows (record { first = moves; stretches = [] }) old new → AllGood G moves (story_of old) → Traced G old new
  noted_good old new moves t good = noted_by G faults.lost old new Any (λ w moved. tt) moves t good

  -- of a power-on, from a story where P holds
  pub power_good : (P : Story → Type 0) (accepts : Acceptance) (old new : World) → ((story : Story) → P story → AllSafe G (migrated story) story) → G (Says (λ _. what.Power)) (story_of old)
      → P (noted (λ _. what.Power) (story_of old)) → (size : size_of old.nv ≡ 32768) → Follows (power_course accepts) old new → Traced G old new
  power_good P accepts old new safe says p size t =
      power_by G faults.lost old new IsSized (sized old new size (power_course accepts) t) P accepts faults safe (λ b story s. allowed_safe G accepts b (h.bank b) story s (h.held b story)) says p t

  -- of a provision
  pub provision_traced : (P : Story → Type 0) (root : RootSlot) (old new : World) → ((story : Story) → P story → AllSafe G (provisioned root story) story)
      → P (story_of old) → Follows (provision_course root) old new → Traced G old new
  provision_traced P root old new safe p t = provision_by G faults.lost old new Any (λ w moved. tt) P root faults.locked safe p t

  -- of a frame on the SPI bus of a bank
  pub spi_traced : (P : Story → Type 0) (accepts : Acceptance) (b : Bank) (frame : List ℕ) (old new : World) → ((story : Story) → P story → AllSafe G (filtered accepts b frame story) story)
      → P (story_of old) → Follows (spi_course accepts b frame) old new → Traced G old new
  spi_traced P accepts b frame old new safe p t = spi_by G faults.lost old new Any (λ w moved. tt) P accepts b frame (faults.held b) (faults.locked b) safe p t

  -- of one on its SMBus, judged by the contents of this story
  pub smbus_traced : (accepts : Acceptance) (b : Bank) (frame : List ℕ) (story : Story) (old new : World) → AllSafe G (smbus_judged accepts b frame story) (story_of old)
      → Follows (smbus_course accepts b frame story) old new → Traced G old new
  smbus_traced accepts b frame story old new safe t = smbus_by G faults.lost old new Any (λ w moved. tt) accepts b frame story safe t

  -- the watch over a boot expires, where that may be noted
  expiry_safe : (accepts : Acceptance) (b : Bank) (story : Story) → IsSized story → G (Says (λ _. what.Expired b (level_at b story))) story → AllSafe G (expired accepts b story) story
  expiry_safe accepts b story s expires = expired_allowed G accepts b (h.bank b) story s expires (h.held b (noted (λ _. what.Expired b (level_at b story)) story))

  -- of a tick, by the story that it is judged by: an expiry is noted at the level that its bank has where the step begins
  pub tick_traced : (accepts : Acceptance) (n : ℕ) (story : Story) (old new : World)
      → ((b : Bank) (there : Story) → is_due b n story ≡ true → level_at b there ≡ level_at b (story_of old) → G (Says (λ _. what.Expired b (level_at b there))) there)
      → (size : size_of old.nv ≡ 32768) → Follows (tick_course accepts n story) old new → Traced G old new
  tick_traced accepts n story old new expires size t =
      tick_by G faults.lost old new IsSized (sized old new size (tick_course accepts n story) t) accepts n story (λ b due. faults.locked b) (λ b there s due same. expiry_safe accepts b there s (expires b there due same)) t

  -- of a boot that failed
  pub failed_traced : (accepts : Acceptance) (b : Bank) (old new : World) → G (Says (λ _. what.Expired b (level_at b (story_of old)))) (story_of old)
      → (size : size_of old.nv ≡ 32768) → Follows (record { first = []; stretches = expiry_stretch accepts b ∷ [] }) old new → Traced G old new
  failed_traced accepts b old new expires size t =
      failed_by G faults.lost old new IsSized (sized old new size (record { first = []; stretches = expiry_stretch accepts b ∷ [] }) t) accepts b (faults.locked b) (λ s. expiry_safe accepts b (story_of old) s expires) t

  -- of an update
  pub update_traced : (accepts : Acceptance) (b : Bank) (intent : Intent) (old new : World) → AllowsUpdate G b → (size : size_of old.nv ≡ 32768) → Follows (update_course accepts b intent) old new → Traced G old new
  update_traced accepts b intent old new u size t =
      update_by G faults.lost old new IsSized (sized old new size (update_course accepts b intent) t) accepts b intent (faults.locked b) (λ s. updating_allowed G accepts b (h.bank b) intent (story_of old) s u (h.held b (story_of old))) t
