-- Frames on the buses of a bank that runs are judged by what it is trusted by.
use Rattle.std.proofs.Common.{◌≡◌, ◌≢◌, ◌∙◌, refl, sym, ap, subst, ℕ, List, [], ◌∷◌, ◌++◌, ◌⊎◌, inl, inr, Option, Some, Result, Ok, Err}
use Rattle.std.specs.Prelude.{◌↔◌, ◌+◌}
use Rattle.std.proofs.lemmas.List.{append-nil}
use Rattle.pfr_flash.specs.FlashState.{now}
use Rattle.pfr_flash.specs.Operation.{Operation, play}
use Rattle.pfr_flash.specs.Plan.{IsPart, DoesPart}
use Rattle.pfr_flash.specs.declared.names.Bank.{Bank}
use Rattle.pfr_flash.specs.declared.names.Bank.TheVariants as bank
use Rattle.pfr_flash.specs.declared.names.Counts.{Counts}
use Rattle.pfr_flash.specs.declared.names.Device.{Device}
use Rattle.pfr_flash.specs.declared.names.Device.TheVariants as device
use Rattle.pfr_flash.proofs.PlayLemmas.{length-play, play-append}
use Rattle.pfr_engine.specs.Acceptance.{Acceptance}
use Rattle.pfr_fuses.specs.RootSlot.{layout_of}
use Rattle.pfr_auth.specs.Trusted.{IsTrusted}
use Rattle.pfr_filter.specs.Asking.{bus_ops}
use Rattle.pfr_filter.specs.Frames.{verdict_on, bus_plan}
use Rattle.pfr_filter.specs.declared.verdict.BlockCause.{BlockCause}
use Rattle.pfr_filter.specs.declared.verdict.BusOp.{BusOp}
use Rattle.pfr_filter.specs.declared.verdict.BusOp.TheVariants as busop
use Rattle.pfr_filter.specs.declared.verdict.Verdict.{Verdict}
use Rattle.pfr_filter.specs.declared.verdict.Verdict.TheVariants.{Pass, Block}
use Rattle.pfr_smbus.specs.declared.cause.SmbusCause.{SmbusCause}
use Rattle.pfr_script.specs.declared.event.Event.{Event}
use Rattle.pfr_script.specs.declared.event.Event.TheVariants as event
use Rattle.pfr_report.specs.Texts.{IsNoted}
use Rattle.pfr_report.specs.declared.note.LockWhy.TheVariants as why
use Rattle.pfr_report.specs.declared.note.Note.{Note}
use Rattle.pfr_report.specs.declared.note.What.{What}
use Rattle.pfr_report.specs.declared.note.What.TheVariants as what
use Rattle.pfr_story.specs.Guards.{guard_at}
use Rattle.pfr_story.specs.Story.{Past, Story, Move, Says, Does, Asks, after, noted, operated, counts_of, image_at, past_at, device_of, all_do, IsCut}
use Rattle.pfr_story.specs.World.{World, story_of, state_at, added}
use Rattle.pfr_story.specs.Safety.{Rule, AllGood, AllSafe, Keeps}
use Rattle.pfr_story.specs.Plans.{mine, store, Ruling, by_verdict, by_ruling, filtered, bus_calls, judge_smbus, smbus_note, smbus_by}
use Rattle.pfr_story.specs.Course.{Steps, lost, Follows}
use Rattle.pfr_story.specs.Standing.{standing_of}
use Rattle.pfr_story.specs.Turn.{spi_stretch, spi_course, smbus_course, begun, Turn}
use Rattle.pfr_story.specs.Promises.{IsUntroubled, Runs}
use Rattle.pfr_story.specs.Filtering.{FiltersBy, FiltersSpi, FiltersSmbus, FiltersSo}
use Rattle.pfr_story.proofs.WorldLaws.{AllMoved-refl}
use Rattle.pfr_story.proofs.Sequence.{after-append}
use Rattle.pfr_story.proofs.SafetyLaws.{AllSafe-append, with_all, past_did, past_called, called_safe, cut_makes}
use Rattle.pfr_story.proofs.Courses.{Turn-cases}
use Rattle.pfr_story.proofs.BringRules.{Any}
use Rattle.pfr_story.proofs.BusRules.{ruled, calls_safe}
use Rattle.pfr_story.proofs.Rulings.{trusted_ruling}
use Rattle.pfr_story.proofs.Traces.{Traced, Traced-keeps, Traced-known, KnownBefore, Saying, begins_at}
use Rattle.pfr_story.proofs.Made.{said, noted_next, added_said}
use Rattle.pfr_story.proofs.StepTraces.{IsGoodStretch, single_along}
use Rattle.pfr_story.proofs.Facts.{NoDevice}
use Rattle.pfr_story.proofs.Entry.{takes}
use Rattle.pfr_story.proofs.StoreLaws.{Stored, Stored-none}
use Rattle.pfr_story.proofs.ProvisionLaws.{whole_part}

-- ---- the devices, one by one
pub past_noted : (d : Device) (w : Counts → What) (story : Story) → past_at d (noted w story) ≡ past_at d story
past_noted device.Bmc w story = refl
past_noted device.Pch w story = refl
past_noted device.Nv w story = refl

-- an operation of one device leaves the others
pub past_other : (which d : Device) (op : Operation) (story : Story) → d ≢ which → past_at d (operated which op story) ≡ past_at d story
past_other device.Bmc device.Bmc op story apart = absurd (apart refl)
past_other device.Pch device.Pch op story apart = absurd (apart refl)
past_other device.Nv device.Nv op story apart = absurd (apart refl)
past_other device.Bmc device.Pch op story apart = refl
past_other device.Bmc device.Nv op story apart = refl
past_other device.Pch device.Bmc op story apart = refl
past_other device.Pch device.Nv op story apart = refl
past_other device.Nv device.Bmc op story apart = refl
past_other device.Nv device.Pch op story apart = refl

-- by device, of a step
pub same_ops : (e : Event) (d : Device) (old new : World) → past_at d (story_of new) ≡ past_at d (story_of (begun e old)) → (state_at d new).ops ≡ (state_at d old).ops
same_ops e device.Bmc old new same = ap (λ (p : Past). p.ops) same
same_ops e device.Pch old new same = ap (λ (p : Past). p.ops) same
same_ops e device.Nv old new same = ap (λ (p : Past). p.ops) same

does_part : (e : Event) (d : Device) (plan : List Operation) (old new : World) → Stored plan (past_at d (story_of (begun e old))) (past_at d (story_of new)) → DoesPart plan (state_at d old) (state_at d new)
does_part e device.Bmc plan old new s = record { added = s.added; is = s.is; part = s.part }
does_part e device.Pch plan old new s = record { added = s.added; is = s.is; part = s.part }
does_part e device.Nv plan old new s = record { added = s.added; is = s.is; part = s.part }

now_played : (e : Event) (d : Device) (plan : List Operation) (old new : World) → image_at d (story_of new) ≡ play (image_at d (story_of (begun e old))) plan → now (state_at d new) ≡ play (now (state_at d old)) plan
now_played e device.Bmc plan old new same = same
now_played e device.Pch plan old new same = same
now_played e device.Nv plan old new same = same

-- ---- what a frame that passes does
did_nothing : (past : Past) → past ≡ with_all past []
did_nothing past = ap (λ (ops : List Operation). record { start = past.start; ops = ops }) (sym (append-nil past.ops))

bus_did : (b : Bank) (op : BusOp) (story : Story) → past_at (device_of b) (after (bus_calls b op) story) ≡ with_all (past_at (device_of b) story) (bus_ops op)
bus_did b (busop.Program at page) story = past_called (device_of b) (bus_ops (busop.Program at page)) story
bus_did b (busop.Erase sector count) story = past_called (device_of b) (bus_ops (busop.Erase sector count)) story
bus_did b busop.Read story = did_nothing (past_at (device_of b) story)
bus_did b busop.Status story = did_nothing (past_at (device_of b) story)
bus_did b busop.Id story = did_nothing (past_at (device_of b) story)
bus_did b busop.WriteEnable story = did_nothing (past_at (device_of b) story)
bus_did b busop.WriteDisable story = did_nothing (past_at (device_of b) story)

-- ---- what is noted and done by a verdict, from this story on
module _ (b : Bank) (v : Verdict) (from : Story) where
  abbrev own : Device
  own = device_of b

  -- what passed was done, all of it
  abbrev IsBacked : What → Story → Type 0
  IsBacked (what.BusPassed c op) story = (v ≡ Pass op) × (past_at own story ≡ with_all (past_at own from) (bus_ops op))
  IsBacked (what.BusBlocked c cause) story = v ≡ Block cause
  IsBacked that story = Unit {0}

  -- each operation is one of the bank's device, which has then done a part of the verdict's plan
  abbrev HasDone : Story → Type 0
  HasDone story = Stored (bus_plan v) (past_at own from) (past_at own story)

  abbrev Filtering : Rule
  Filtering (Says w) story = IsBacked (w (counts_of story)) story
  Filtering (Does which op) story = (which ≡ own) × HasDone (operated which op story)
  Filtering (Asks which) story = Unit {0}

  calls_done : (op : BusOp) → v ≡ Pass op → AllSafe Filtering (bus_calls b op) from
  calls_done op e = calls_safe Filtering b op from (called_safe Filtering own HasDone (λ next story p q. (refl, q)) (λ story. tt) (bus_ops op) from done)
    where
      done : (added : List Operation) → IsPart (image_at own from) (bus_ops op) added → HasDone (after (all_do own added) from)
      done added part =
          subst (λ (p : Past). Stored (bus_plan v) (past_at own from) p) (sym (past_did own added from))
          (record { start = refl; added = added; is = refl; part = subst (λ (w : Verdict). IsPart (image_at own from) (bus_plan w) added) (sym e) part })

  verdict_done : (w : Verdict) → v ≡ w → AllSafe Filtering (by_verdict b w from) from
  verdict_done (Pass op) e = AllSafe-append Filtering (bus_calls b op) (Says (λ _. what.BusPassed b op) ∷ []) from (calls_done op e) ((e, bus_did b op from), tt)
  verdict_done (Block cause) e = (e, tt)

  -- and the other devices stay
  abbrev StoodBy : Story → Type 0
  StoodBy story = HasDone story × ((other : Device) → other ≢ own → past_at other story ≡ past_at other from)

  filtering_keeps : Keeps Filtering StoodBy
  filtering_keeps (Says w) story g p = (
    subst (λ (past : Past). Stored (bus_plan v) (past_at own from) past) (sym (past_noted own w story)) p.0,
    λ other apart. past_noted other w story ∙ p.1 other apart,
  )
  filtering_keeps (Does which op) story g p = (g.1, λ other apart. past_other which other op story (λ e. apart (e ∙ g.0)) ∙ p.1 other apart)
  filtering_keeps (Asks which) story g p = p

  says_backed : (trace : List Move) (story : Story) → AllGood Filtering trace story → AllGood (Saying IsBacked) trace story
  says_backed [] story good = tt
  says_backed (Says w ∷ trace) story good = (good.0, says_backed trace (noted w story) good.1)
  says_backed (Does which op ∷ trace) story good = (tt, says_backed trace (operated which op story) good.1)
  says_backed (Asks which ∷ trace) story good = (tt, says_backed trace story good.1)

-- ---- a frame on the SPI bus
module _ (accepts : Acceptance) (b : Bank) (frame : List ℕ) (old new : World) (t : IsTrusted (mine b (story_of (begun (event.Spi b frame) old))) (store (story_of (begun (event.Spi b frame) old))) b accepts) where
  abbrev from_here : Story
  from_here = story_of (begun (event.Spi b frame) old)

  abbrev rules : Ruling
  rules = record { manifest = t.manifest; layout = layout_of t.fuses.provision b }

  abbrev verdict : Verdict
  verdict = ruled b frame rules from_here

  plan_is : filtered accepts b frame from_here ≡ by_verdict b verdict from_here
  plan_is = ap (λ (found : Option Ruling). by_ruling b frame (guard_at b from_here.guards).latch found from_here) (trusted_ruling accepts b from_here t)

  -- ---- each of its moves is good
  abbrev Filters : Rule
  Filters = Filtering b verdict from_here

  filtered_good : IsGoodStretch Filters (begun (event.Spi b frame) old) new Any (λ story. story ≡ from_here) (spi_stretch accepts b frame) Any
  filtered_good = record {
    plan = record { safe = λ story p. subst (λ (s : Story). AllSafe Filters (filtered accepts b frame s) s) (sym p.1) safe; ends = λ story p. tt };
    noted = λ which story trace p cut rose. (tt, (tt, tt));
    on = λ which story trace p cut e. tt;
  }
    where
      safe : AllSafe Filters (filtered accepts b frame from_here) from_here
      safe = subst (λ (moves : List Move). AllSafe Filters moves from_here) (sym plan_is) (verdict_done b verdict from_here verdict refl)

  filtered_traced : Follows (spi_course accepts b frame) (begun (event.Spi b frame) old) new → Traced Filters (begun (event.Spi b frame) old) new
  filtered_traced f =
      single_along Filters (begun (event.Spi b frame) old) new Any (λ w moved. tt) (λ which story fell. (tt, tt)) (begun (event.Spi b frame) old) new (record { before = AllMoved-refl (begun (event.Spi b frame) old); behind = AllMoved-refl new })
      (spi_stretch accepts b frame) (λ story. story ≡ from_here) Any filtered_good refl f

  -- ---- all of them were made, or a call failed
  pub record IsBroken : Type 0 where
    pub which : Device
    pub trace : List Move
    pub cut : IsCut which (by_verdict b verdict from_here) from_here trace
    pub troubled : ¬ IsUntroubled b (added old new)

  note_made : (moves : List Move) (that : What) → story_of new ≡ after moves from_here → IsNoted (said moves from_here) that → IsNoted (added old new) that
  note_made moves that e n = subst (λ (notes : List Note). IsNoted notes that) (sym (added_said (begun (event.Spi b frame) old) new (record { trace = moves; is = e }))) n

  module _ (mid : World) (e : story_of mid ≡ from_here) where
    cut_here : (which : Device) (trace : List Move) → IsCut which (filtered accepts b frame (story_of mid)) (story_of mid) trace → IsCut which (by_verdict b verdict from_here) from_here trace
    cut_here which trace cut =
        subst (λ (moves : List Move). IsCut which moves from_here trace) plan_is (subst (λ (s : Story). IsCut which (filtered accepts b frame s) s trace) e cut)

    -- what is noted behind a call that failed
    noted_behind : (at : World) (trace more : List Move) (that : What) → story_of at ≡ after trace (story_of mid) → story_of new ≡ after more (story_of at)
        → IsNoted (said more (after trace from_here)) that → IsNoted (added old new) that
    noted_behind at trace more that there behind n =
        let is : story_of new ≡ after (trace ++ more) from_here =
        behind ∙ ap (λ (s : Story). after more s) (there ∙ ap (λ (s : Story). after trace s) e) ∙ sym (after-append trace more from_here) in
        note_made (trace ++ more) that is (noted_next trace more from_here that n)

    ended : Steps (spi_stretch accepts b frame ∷ []) mid new → (story_of new ≡ after (by_verdict b verdict from_here) from_here) ⊎ IsBroken
    ended (inl (end, crossed, rest)) =
        inl (rest.is ∙ crossed.is ∙ ap (λ (s : Story). after (filtered accepts b frame s) s) e ∙ ap (λ (moves : List Move). after moves from_here) plan_is)
    ended (inr (inl (end, f, rest))) =
        let trace : List Move = f.stopped.trace in
        let at : Counts = counts_of (after trace from_here) in
        inr (record {
          which = f.which;
          trace = trace;
          cut = cut_here f.which trace f.stopped.cut;
          troubled = λ calm. calm.flash at
              (noted_behind f.at trace (Says (what.Held b) ∷ Says (what.Locked b why.FlashFault) ∷ []) (what.Locked b why.FlashFault at) f.stopped.is (rest.is ∙ f.noted.is) (inr (inl refl)));
        })
    ended (inr (inr l)) =
        let trace : List Move = l.stopped.trace in
        let at : Counts = counts_of (after trace from_here) in
        inr (record {
          which = l.which;
          trace = trace;
          cut = cut_here l.which trace l.stopped.cut;
          troubled = λ calm. calm.on (Some l.which) at (noted_behind l.at trace (lost l.which) (what.Lost (Some l.which) at) l.stopped.is l.noted.is (inl refl));
        })

  passed_noted : (op : BusOp) → verdict ≡ Pass op → story_of new ≡ after (by_verdict b verdict from_here) from_here → IsNoted (added old new) (what.BusPassed b op)
  passed_noted op is e =
      note_made (by_verdict b (Pass op) from_here) (what.BusPassed b op) (e ∙ ap (λ (w : Verdict). after (by_verdict b w from_here) from_here) is)
      (noted_next (bus_calls b op) (Says (λ _. what.BusPassed b op) ∷ []) from_here (what.BusPassed b op) (inl refl))

  -- a frame that is blocked calls no device
  blocked_noted : (cause : BlockCause) → verdict ≡ Block cause → (story_of new ≡ after (by_verdict b verdict from_here) from_here) ⊎ IsBroken → IsNoted (added old new) (what.BusBlocked b cause)
  blocked_noted cause is (inl e) =
      note_made (by_verdict b (Block cause) from_here) (what.BusBlocked b cause) (e ∙ ap (λ (w : Verdict). after (by_verdict b w from_here) from_here) is) (inl refl)
  blocked_noted cause is (inr broken) =
      let cut = subst (λ (w : Verdict). IsCut broken.which (by_verdict b w from_here) from_here broken.trace) is broken.cut in
      absurd (cut_makes NoDevice (λ w. Unit {0}) broken.which (Says (λ _. what.BusBlocked b cause) ∷ []) broken.trace from_here (tt, tt) cut).0

  -- what passed was done, all of it
  passed_whole : (op : BusOp) → Stored (bus_plan verdict) (past_at (device_of b) from_here) (past_at (device_of b) (story_of new)) → KnownBefore (IsBacked b verdict from_here) (what.BusPassed b op) (story_of new)
      → now (state_at (device_of b) new) ≡ play (now (state_at (device_of b) old)) (bus_ops op)
  passed_whole op stored k =
      let d : Device = device_of b in
      let base : Past = past_at d from_here in
      let here : Stored (bus_ops op) base (past_at d (story_of new)) = subst (λ (w : Verdict). Stored (bus_plan w) base (past_at d (story_of new))) k.1.0 stored in
      let ops = whole_part base (past_at d k.0) (bus_ops op) (past_at d (story_of new)) here k.1.1 (begins_at d k.0 (story_of new) k.2) in
      now_played (event.Spi b frame) d (bus_ops op) old new
      (ap (λ (start : List ℕ). play start (past_at d (story_of new)).ops) here.start ∙ ap (λ (all : List Operation). play base.start all) ops ∙ play-append base.start base.ops (bus_ops op))

  filters_by : Follows (spi_course accepts b frame) (begun (event.Spi b frame) old) new → FiltersBy verdict b old new
  filters_by f =
      let traced = filtered_traced f in
      let stood : StoodBy b verdict from_here (story_of new) =
      Traced-keeps Filters (StoodBy b verdict from_here) (filtering_keeps b verdict from_here) (begun (event.Spi b frame) old) new traced (Stored-none (bus_plan verdict) (past_at (device_of b) from_here), λ other apart. refl) in
      let known = Traced-known (IsBacked b verdict from_here) (begun (event.Spi b frame) old) new
      (record { trace = traced.trace; is = traced.is; good = says_backed b verdict from_here traced.trace from_here traced.good; moved = traced.moved }) in
      let end = ended f.0 f.1.is f.2 in
      record {
        passed = λ op n. (known (what.BusPassed b op) n).1.0;
        passes = λ op is calm. elim end [ inl e ↦ passed_noted op is e | inr broken ↦ absurd (broken.troubled calm) ];
        blocked = λ cause. (λ n. (known (what.BusBlocked b cause) n).1, λ is. blocked_noted cause is end);
        part = does_part (event.Spi b frame) (device_of b) (bus_plan verdict) old new stood.0;
        whole = λ op n. passed_whole op stood.0 (known (what.BusPassed b op) n);
        others = λ other apart. same_ops (event.Spi b frame) other old new (stood.1 other apart);
      }

spi_filters : (accepts : Acceptance) (b : Bank) (frame : List ℕ) (old new : World) → IsTrusted (now (state_at (device_of b) old)) (now old.nv) b accepts
    → Follows (spi_course accepts b frame) (begun (event.Spi b frame) old) new → FiltersSpi accepts b frame old new
spi_filters accepts bank.Bmc frame old new t f = record {
  trusted = t;
  by = subst (λ (n : ℕ). FiltersBy (verdict_on frame t.manifest (layout_of t.fuses.provision bank.Bmc) n old.guards.bmc.latch) bank.Bmc old new) (length-play old.bmc.start old.bmc.ops)
      (filters_by accepts bank.Bmc frame old new t f);
}
spi_filters accepts bank.Pch frame old new t f = record {
  trusted = t;
  by = subst (λ (n : ℕ). FiltersBy (verdict_on frame t.manifest (layout_of t.fuses.provision bank.Pch) n old.guards.pch.latch) bank.Pch old new) (length-play old.pch.start old.pch.ops)
      (filters_by accepts bank.Pch frame old new t f);
}

-- ---- a frame on the SMBus
abbrev Judged : Type 0
Judged = Result (Unit {0}) SmbusCause

judged_passed : (b : Bank) (judged : Judged) → smbus_note b judged ≡ what.SmbusPassed b → judged ≡ Ok tt
judged_passed b (Ok passed) e = refl
judged_passed b (Err cause) e = absurd cc

judged_blocked : (b : Bank) (judged : Judged) (cause : SmbusCause) → smbus_note b judged ≡ what.SmbusBlocked b cause → judged ≡ Err cause
judged_blocked b (Ok passed) cause e = absurd cc
judged_blocked b (Err other) cause e = let same : other ≡ cause = cc in ap (λ (c : SmbusCause). Err c) same

-- one note is made, of what was judged
module _ (accepts : Acceptance) (b : Bank) (frame : List ℕ) (old new : World) (t : IsTrusted (mine b (story_of old)) (store (story_of old)) b accepts) (f : Follows (smbus_course accepts b frame (story_of old)) (begun (event.Smbus b frame) old) new) where
  abbrev judged_so : Judged
  judged_so = judge_smbus t.manifest.rules frame

  tells_is : story_of new ≡ noted (λ _. smbus_note b judged_so) (story_of (begun (event.Smbus b frame) old))
  tells_is =
      f.2.is ∙ f.1.is
      ∙ ap (λ (found : Option Ruling). after (smbus_by b frame found (story_of old)) (story_of (begun (event.Smbus b frame) old))) (trusted_ruling accepts b (story_of old) t)

  tells_one : added old new ≡ record { item = old.item + 1; what = smbus_note b judged_so } ∷ []
  tells_one = added_said (begun (event.Smbus b frame) old) new (record { trace = Says (λ _. smbus_note b judged_so) ∷ []; is = tells_is })

  tells : (that : What) → IsNoted (added old new) that ↔ (smbus_note b judged_so ≡ that)
  tells that = (
    λ n. elim (subst (λ (notes : List Note). IsNoted notes that) tells_one n) [ inl e ↦ e | inr none ↦ absurd none ],
    λ e. subst (λ (notes : List Note). IsNoted notes that) (sym tells_one) (inl e),
  )

  tells_passed : IsNoted (added old new) (what.SmbusPassed b) ↔ (judged_so ≡ Ok tt)
  tells_passed = (λ n. judged_passed b judged_so ((tells (what.SmbusPassed b)).0 n), λ e. (tells (what.SmbusPassed b)).1 (ap (λ (j : Judged). smbus_note b j) e))

  tells_blocked : (cause : SmbusCause) → IsNoted (added old new) (what.SmbusBlocked b cause) ↔ (judged_so ≡ Err cause)
  tells_blocked cause = (
    λ n. judged_blocked b judged_so cause ((tells (what.SmbusBlocked b cause)).0 n),
    λ e. (tells (what.SmbusBlocked b cause)).1 (ap (λ (j : Judged). smbus_note b j) e),
  )

  stays_still : (d : Device) → (state_at d new).ops ≡ (state_at d old).ops
  stays_still d =
      same_ops (event.Smbus b frame) d old new (ap (λ (s : Story). past_at d s) tells_is ∙ past_noted d (λ _. smbus_note b judged_so) (story_of (begun (event.Smbus b frame) old)))

smbus_filters : (accepts : Acceptance) (b : Bank) (frame : List ℕ) (old new : World) → IsTrusted (now (state_at (device_of b) old)) (now old.nv) b accepts
    → Follows (smbus_course accepts b frame (story_of old)) (begun (event.Smbus b frame) old) new → FiltersSmbus accepts b frame old new
smbus_filters accepts bank.Bmc frame old new t f = record {
  trusted = t;
  passed = tells_passed accepts bank.Bmc frame old new t f;
  blocked = tells_blocked accepts bank.Bmc frame old new t f;
  still = stays_still accepts bank.Bmc frame old new t f;
}
smbus_filters accepts bank.Pch frame old new t f = record {
  trusted = t;
  passed = tells_passed accepts bank.Pch frame old new t f;
  blocked = tells_blocked accepts bank.Pch frame old new t f;
  still = stays_still accepts bank.Pch frame old new t f;
}

-- ---- a whole step
-- Frames on the buses of a bank that runs are judged by what it is trusted by.
pub Turn-filters : (accepts : Acceptance) (e : Event) (old new : World) → Turn accepts e old new
    → ((which : Bank) → Runs which old → IsTrusted (now (state_at (device_of which) old)) (now old.nv) which accepts) → FiltersSo e accepts old new
Turn-filters accepts event.Power old new t trusted = tt
Turn-filters accepts event.Off old new t trusted = tt
Turn-filters accepts (event.Provision root) old new t trusted = tt
Turn-filters accepts (event.Tick n) old new t trusted = tt
Turn-filters accepts (event.Boot b pass) old new t trusted = tt
Turn-filters accepts (event.Update b intent) old new t trusted = tt
Turn-filters accepts (event.Spi b frame) old new t trusted = λ runs. elim (Turn-cases accepts (event.Spi b frame) old new t) [
  | inl idle ↦ absurd (takes (standing_of b old.notes.list) runs idle.0)
  | inr on ↦ spi_filters accepts b frame old new (trusted b runs) on.1
]
Turn-filters accepts (event.Smbus b frame) old new t trusted = λ runs. elim (Turn-cases accepts (event.Smbus b frame) old new t) [
  | inl idle ↦ absurd (takes (standing_of b old.notes.list) runs idle.0)
  | inr on ↦ smbus_filters accepts b frame old new (trusted b runs) on.1
]
