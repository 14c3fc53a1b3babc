-- Behind a note of a raised floor or of a cancelled key the store says so to the end of the step.
use Rattle.std.proofs.Common.{◌≡◌, ◌∙◌, refl, sym, ap, subst, arith, ℕ, ◌≤◌, List, [], ◌∷◌, ◌++◌, length, take, Result, Ok, Err}
use Rattle.std.proofs.lemmas.List.{take_all}
use Rattle.std.proofs.lemmas.List.Elements.{All-from_recursion}
use Rattle.std.specs.List.{AllByRecursion}
use Rattle.pfr_flash.specs.FlashState.{upto, size_of}
use Rattle.pfr_flash.specs.Layout.{IsBankSize}
use Rattle.pfr_flash.specs.Operation.{Operation, play}
use Rattle.pfr_flash.specs.declared.names.Bank.{Bank}
use Rattle.pfr_flash.specs.declared.names.Counts.{Counts}
use Rattle.pfr_flash.specs.declared.names.Device.TheVariants as device
use Rattle.pfr_flash.proofs.PlayLemmas.{length-play}
use Rattle.pfr_engine.specs.Acceptance.{Acceptance}
use Rattle.pfr_fuses.specs.FuseMap.{IsCancelled}
use Rattle.pfr_fuses.specs.FusesOf.{fuses_of}
use Rattle.pfr_fuses.specs.Growth.{NeverGoesBack}
use Rattle.pfr_fuses.specs.Provisioning.{judge_provision, provision_plan}
use Rattle.pfr_fuses.specs.declared.fuse_fail.FuseFail.{FuseFail}
use Rattle.pfr_fuses.specs.declared.root_slot.RootSlot.{RootSlot}
use Rattle.pfr_script.specs.declared.event.Event.{Event}
use Rattle.pfr_script.specs.Slots.{IsKnownSlot}
use Rattle.pfr_report.specs.Texts.{IsNoted}
use Rattle.pfr_report.specs.declared.note.Note.{Note}
use Rattle.pfr_report.specs.declared.note.What.{What}
use Rattle.pfr_report.specs.declared.note.What.TheVariants as what
use Rattle.pfr_story.specs.JobPromises.{HasFloor, HoldsBehind, ChangesFuses}
use Rattle.pfr_story.specs.Keeping.{HasTrustedSpans}
use Rattle.pfr_story.specs.Plans.{store, migration_in, provisioned_in}
use Rattle.pfr_story.specs.Promises.{AreOff}
use Rattle.pfr_story.specs.Recovery.{moments_with, moments_of}
use Rattle.pfr_story.specs.Safety.{AllGood, AllSafe}
use Rattle.pfr_story.specs.Story.{Story, Move, Says, Does, Asks, after, noted, operated, counts_of, called}
use Rattle.pfr_story.specs.Turn.{begun, Turn}
use Rattle.pfr_story.specs.World.{World, story_of, added}
use Rattle.pfr_story.proofs.Bytes.{HaveBytes}
use Rattle.pfr_story.proofs.ChangedFuses.{floor_grows}
use Rattle.pfr_story.proofs.ChangeWalks.{Changed, Changing, brought_changes, expired_changes, updating_changes}
use Rattle.pfr_story.proofs.GrownSteps.{Turn-grown}
use Rattle.pfr_story.proofs.Made.{Made, said, added_said}
use Rattle.pfr_story.proofs.SafetyLaws.{AllSafe-append}
use Rattle.pfr_story.proofs.BusRules.{spi_safe}
use Rattle.pfr_story.proofs.StepWalks.{StepTable, provided_any, Turn-goes}
use Rattle.pfr_story.proofs.Traces.{IsStamped, call_says, Traced, Traced-since, Precedes, Precedes-refl, Precedes-move, Precedes-after, not_before, upto_begins}
use Rattle.pfr_story.proofs.Turns.{Turn-moved}

-- ---- along a trace
abbrev first_what : What → List Note → What
first_what other [] = other
first_what other (note ∷ notes) = note.what

abbrev pub rest_of : List Note → List Note
rest_of [] = []
rest_of (note ∷ notes) = notes

ended_by : (trace : List Move) (story last : Story) → last ≡ after trace story → Precedes story last
ended_by trace story last is = subst (λ (s : Story). Precedes story s) (sym is) (Precedes-after story story trace (Precedes-refl story))

-- what is true of the store at a count of its operations is so at each later one, from this count on
abbrev pub StaysFrom : (List ℕ → Type 0) → ℕ → World → Type 0
StaysFrom P from new = (m n : ℕ) → from ≤ m → m ≤ n → n ≤ length new.nv.ops → P (upto new.nv m) → P (upto new.nv n)

module _ (P : List ℕ → Type 0) (that : What) (tells : (story : Story) → Changed that story → P (store story)) (new : World) (from : ℕ) (stays : StaysFrom P from new) where
  abbrev TrueAt : Counts → Type 0
  TrueAt at = P (upto new.nv at.nv)

  with_note : (note : What) (others : List Counts) (here : Counts) → IsStamped note here → TrueAt here → AllByRecursion TrueAt others → AllByRecursion TrueAt (moments_with note others)
  with_note (what.Held c at) others here e p rest = (subst TrueAt (sym e) p, rest)
  with_note (what.Released c svn at) others here e p rest = (subst TrueAt (sym e) p, rest)
  with_note (what.Locked c why at) others here e p rest = (subst TrueAt (sym e) p, rest)
  with_note (what.Lost which at) others here e p rest = (subst TrueAt (sym e) p, rest)
  with_note note others here e p rest = rest

  later_moments : (count : ℕ) → from ≤ count → P (upto new.nv count) → (trace : List Move) (story : Story) → count ≤ length story.nv.ops → AllGood Changing trace story → story_of new ≡ after trace story
      → AllByRecursion TrueAt (moments_of (said trace story))
  later_moments count low p [] story high good is = tt
  later_moments count low p (Says w ∷ trace) story high good is =
      let end = not_before story (story_of new) (ended_by (Says w ∷ trace) story (story_of new) is) in
      with_note (w (counts_of story)) (moments_of (said trace (noted w story))) (counts_of story) good.0.0 (stays count (length story.nv.ops) low high end.nv p)
      (later_moments count low p trace (noted w story) high good.1 is)
  later_moments count low p (Does which op ∷ trace) story high good is =
      let more = not_before story (operated which op story) (Precedes-move story story (Does which op) (Precedes-refl story)) in
      later_moments count low p trace (operated which op story) (omega (arith, high, more.nv)) good.1 is
  later_moments count low p (Asks which ∷ trace) story high good is = later_moments count low p trace story high good.1 is

  -- where it was noted it is true of the store
  told_there : (story : Story) → Precedes story (story_of new) → Changed that story → P (upto new.nv (length story.nv.ops))
  told_there story before c = subst P (sym (upto_begins story.nv (story_of new).nv before.nv)) (tells story c)

  behind_note : (trace : List Move) (story : Story) → from ≤ length story.nv.ops → AllGood Changing trace story → story_of new ≡ after trace story
      → (before : List Note) (item : ℕ) (behind : List Note) → said trace story ≡ before ++ record { item = item; what = that } ∷ behind → AllByRecursion TrueAt (moments_of behind)
  behind_note [] story low good is [] item behind e = absurd cc
  behind_note [] story low good is (note ∷ before) item behind e = absurd cc
  behind_note (Says w ∷ trace) story low good is [] item behind e =
      let same : w (counts_of story) ≡ that = ap (first_what that) e in
      let rest : said trace (noted w story) ≡ behind = ap rest_of e in
      let p = told_there story (ended_by (Says w ∷ trace) story (story_of new) is) (subst (λ (x : What). Changed x story) same good.0) in
      subst (λ (notes : List Note). AllByRecursion TrueAt (moments_of notes)) rest (later_moments (length story.nv.ops) low p trace (noted w story) (omega arith) good.1 is)
  behind_note (Says w ∷ trace) story low good is (note ∷ before) item behind e = behind_note trace (noted w story) low good.1 is before item behind (ap rest_of e)
  behind_note (Does which op ∷ trace) story low good is before item behind e =
      let more = not_before story (operated which op story) (Precedes-move story story (Does which op) (Precedes-refl story)) in
      behind_note trace (operated which op story) (omega (arith, low, more.nv)) good.1 is before item behind e
  behind_note (Asks which ∷ trace) story low good is before item behind e = behind_note trace story low good.1 is before item behind e

-- So what a note tells of the store is true at the counts of each later note, and at the end.
holds_behind : (P : List ℕ → Type 0) (that : What) → ((story : Story) → Changed that story → P (store story)) → (old new : World) → StaysFrom P (length old.nv.ops) new → Traced Changing old new
    → IsNoted (added old new) that → HoldsBehind P that new (added old new)
holds_behind P that tells old new stays t n =
    let made : Made old new = record { trace = t.trace; is = t.is } in
    let k = Traced-since Changed old new t that n in
    let at : Story = k.0 in
    let behind = not_before (story_of old) at k.1.1 in
    let before = not_before at (story_of new) k.2 in
    let p : P (upto new.nv (length at.nv.ops)) = told_there P that tells new (length old.nv.ops) stays at k.2 k.1.0 in
    record {
      later = λ front item rest e. All-from_recursion (λ (counts : Counts). P (upto new.nv counts.nv)) (moments_of rest)
          (behind_note P that tells new (length old.nv.ops) stays t.trace (story_of old) (omega arith) t.good t.is front item rest (sym (added_said old new made) ∙ e));
      end = subst P (ap (λ (ops : List Operation). play new.nv.start ops) (take_all (length new.nv.ops) new.nv.ops (omega arith))) (stays (length at.nv.ops) (length new.nv.ops) behind.nv before.nv (omega arith) p);
    }

-- ---- a step
tried_tells : (root : RootSlot) (judged : Result ℕ FuseFail) (story : Story) → AllSafe Changing (provisioned_in root judged story) story
tried_tells root (Ok number) story =
    AllSafe-append Changing (called device.Nv (provision_plan number root)) (Says (λ _. what.Provisioned) ∷ []) story (call_says Changed device.Nv (provision_plan number root) story) ((tt, tt), tt)
tried_tells root (Err cause) story = ((tt, tt), tt)

change_steps : (accepts : Acceptance) → StepTable Changing accepts (λ root story. Unit {0})
change_steps accepts = record {
  faults = record { held = λ c story. (refl, tt); locked = λ c which story. (refl, tt); lost = λ which story. (refl, tt) };
  ignored = λ story. (tt, tt);
  off = λ story. (refl, tt);
  power = λ story. (tt, tt);
  booted = λ c story. (tt, tt);
  passed = λ c at story. (tt, tt);
  spi = λ c frame story sized quiet. spi_safe Changing accepts c frame (record { passed = λ op here. (tt, tt); blocked = λ why here. (tt, tt); asks = λ here. tt; works = λ op here. tt }) story;
  smbus = λ c. record { passed = λ here. (tt, tt); blocked = λ cause here. (tt, tt) };
  migrates = λ story sized. (tt, call_says Changed device.Nv (migration_in (fuses_of (store story))) story);
  provisions = λ root story settled any. (tt, tried_tells root (judge_provision (store story) root (length story.bmc.start) (length story.pch.start)) story);
  brings = brought_changes accepts;
  expires = expired_changes accepts;
  updates = updating_changes accepts;
}

-- Each note of a raised floor or of a cancelled key is true of the store where it is made.
pub Turn-changed : (accepts : Acceptance) (e : Event) (old new : World) → Turn accepts e old new → HaveBytes new → IsBankSize (size_of old.bmc) → IsBankSize (size_of old.pch) → size_of old.nv ≡ 32768
    → ((which : Bank) → HasTrustedSpans accepts which (story_of old)) → Traced Changing (begun e old) new
Turn-changed accepts e old new t held bmc pch nv spans = Turn-goes Changing accepts (λ root story. Unit {0}) (change_steps accepts) e old new t held bmc pch nv spans (provided_any e (story_of (begun e old)))

-- Behind an update of the recovery area the floor stays as high, and a key that was cancelled stays so.
pub Turn-changes : (accepts : Acceptance) (e : Event) (old new : World) → Turn accepts e old new → HaveBytes new → IsBankSize (size_of old.bmc) → IsBankSize (size_of old.pch) → size_of old.nv ≡ 32768
    → (¬ AreOff old → IsKnownSlot e) → ((which : Bank) → HasTrustedSpans accepts which (story_of old)) → ChangesFuses old new
Turn-changes accepts e old new t held bmc pch nv slot spans = record {
  raised = λ which svn n.
      holds_behind (λ bytes. HasFloor bytes which svn) (what.RecoveryUpdated which svn) (λ story c. c.1) (begun e old) new (λ m n low order high. floor_grows (upto new.nv m) (upto new.nv n) which svn (sized n) (grows.grows m n low order high)) traced n;
  cancelled = λ type id n.
      holds_behind (λ bytes. IsCancelled bytes type id) (what.Cancelled type id) (λ story c. c.1) (begun e old) new (λ m n low order high. (grows.grows m n low order high).cancels type id) traced n;
}
  where
    traced : Traced Changing (begun e old) new
    traced = Turn-changed accepts e old new t held bmc pch nv spans

    grows : NeverGoesBack old.nv new.nv
    grows = (Turn-grown accepts old new e nv held slot t).0

    sized : (n : ℕ) → length (upto new.nv n) ≡ 32768
    sized n = length-play new.nv.start (take n new.nv.ops) ∙ ap (λ (start : List ℕ). length start) (Turn-moved accepts e old new t).nv.start ∙ nv
