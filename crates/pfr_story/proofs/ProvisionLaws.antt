-- Each step keeps its promises about provisions.
use Rattle.std.proofs.Common.{◌≡◌, ◌∙◌, refl, sym, ap, subst, ℕ, ◌+◌, ◌*◌, ◌≤◌, arith, true, false, List, [], ◌∷◌, ◌++◌, length, drop, length-append, Some, None, Result, Ok, Err, inl, inr}
use Rattle.std.proofs.lemmas.Bool.{cases_lt}
use Rattle.std.proofs.lemmas.List.{append-nil}
use Rattle.pfr_flash.specs.Operation.{Operation, Program, applied, play}
use Rattle.pfr_flash.specs.FlashState.{FlashState, now, size_of, with_op}
use Rattle.pfr_flash.specs.Moved.{Worked}
use Rattle.pfr_flash.specs.Plan.{IsPart, Follows}
use Rattle.pfr_flash.specs.declared.names.Bank.TheVariants as bank
use Rattle.pfr_flash.specs.declared.names.Counts.{Counts}
use Rattle.pfr_flash.specs.declared.names.Device.TheVariants as device
use Rattle.pfr_flash.proofs.DoesLemmas.{worked_done}
use Rattle.pfr_flash.proofs.MovedLemmas.{Worked-trans}
use Rattle.pfr_flash.proofs.PlanLemmas.{IsPart-whole}
use Rattle.pfr_flash.proofs.PlayLemmas.{length-play, play-append}
use Rattle.pfr_engine.specs.Acceptance.{Acceptance}
use Rattle.pfr_fuses.specs.Provisioning.{judge_provision, provision_plan, IsProvisionedWith, Provisions}
use Rattle.pfr_fuses.specs.RootSlot.{IsSlot, provision_in, slot_bytes}
use Rattle.pfr_fuses.specs.Slots.{IsProvisionedBy, slot_at}
use Rattle.pfr_fuses.specs.declared.fuse_fail.FuseFail.{FuseFail}
use Rattle.pfr_fuses.specs.declared.root_slot.RootSlot.{RootSlot}
use Rattle.pfr_fuses.proofs.BlankLemmas.{judged-ok}
use Rattle.pfr_fuses.proofs.ProvisionLemmas.{provision-ok, provision-slot}
use Rattle.pfr_script.specs.declared.event.Event.{Event}
use Rattle.pfr_script.specs.declared.event.Event.TheVariants as event
use Rattle.pfr_script.specs.Slots.{IsKnownSlot}
use Rattle.pfr_report.specs.Texts.{IsNoted}
use Rattle.pfr_report.specs.declared.note.LockWhy.TheVariants as why
use Rattle.pfr_report.specs.declared.note.Note.{Note}
use Rattle.pfr_report.specs.declared.note.What.{What}
use Rattle.pfr_report.specs.declared.note.What.TheVariants as what
use Rattle.pfr_story.specs.Story.{Past, Story, Move, Says, Asks, after, counts_of, called}
use Rattle.pfr_story.specs.World.{World, past_of, story_of, added}
use Rattle.pfr_story.specs.Safety.{Rule, AllSafe}
use Rattle.pfr_story.specs.Plans.{provisioned_in, refusal_of}
use Rattle.pfr_story.specs.Course.{Steps, Follows as FollowsCourse}
use Rattle.pfr_story.specs.Turn.{provision_stretch, provision_course, begun, Turn}
use Rattle.pfr_story.specs.Promises.{AreOff, IsUntroubled, sizes_judged, TriesProvision, ProvisionsSo}
use Rattle.pfr_story.proofs.Sequence.{after-append}
use Rattle.pfr_story.proofs.SafetyLaws.{AllSafe-append, with_all, past_called}
use Rattle.pfr_story.proofs.Courses.{Turn-cases}
use Rattle.pfr_story.proofs.Traces.{Saying, call_says, Begins, Traced-known, noted_right}
use Rattle.pfr_story.proofs.Made.{Made, said, said_append, added_said}
use Rattle.pfr_story.proofs.BringRules.{Any}
use Rattle.pfr_story.proofs.StepTraces.{provision_by}
use Rattle.pfr_story.proofs.StoreLaws.{Stored, judged_here, operations_in, provision_stored}
use Rattle.pfr_story.proofs.EventLaws.{outcome_of}

-- ---- a store where the plan was done is provisioned so
-- a device that nothing hinders
ready : List ℕ → FlashState
ready nv = record { start = nv; ops = []; powered = true; faults = 0; losses = 0; arms = 0; room = 65536; taken = 0; cut_due = None; fault_due = None; read_due = false }

abbrev half : List ℕ → ℕ → RootSlot → FlashState
half nv number root = with_op (ready nv) (Program (256 * number) (slot_bytes root))

one_slot : (nv : List ℕ) (a b : ℕ) → IsProvisionedBy nv a → IsProvisionedBy nv b → a ≡ b
one_slot nv a b p q = elim (cases_lt a b) [
  | inl less ↦ absurd (q.first a less p.gate)
  | inr more ↦ elim (cases_lt b a) [ inl less ↦ absurd (p.first b less q.gate) | inr same ↦ omega (arith, more, same) ]
]

pub provisioned_so : (nv : List ℕ) (root : RootSlot) (m n number : ℕ) → length nv ≡ 32768 → IsSlot root → judge_provision nv root m n ≡ Ok number
    → IsProvisionedBy (play nv (provision_plan number root)) number × (provision_in (slot_at (play nv (provision_plan number root)) number) ≡ root)
unfolding ready
provisioned_so nv root m n number size slot j =
    let old = ready nv in
    let mid = half nv number root in
    let new = with_op mid (Program (256 * number + 255) (0 ∷ [])) in
    let worked : Worked old new = Worked-trans old mid new
    (worked_done old (Program (256 * number) (slot_bytes root)) refl (λ e. absurd (omega (arith, e))) refl refl)
    (worked_done mid (Program (256 * number + 255) (0 ∷ [])) refl (λ e. absurd (omega (arith, e))) refl refl) in
    let follows : Follows (provision_plan number root) old new (Ok tt) = record {
      ok = refl;
      on = refl;
      whole = refl;
      part = record { added = provision_plan number root; is = refl; part = IsPart-whole nv (provision_plan number root) };
      failed = tt;
      still = tt;
      worked = worked;
    } in
    let exact : Provisions root old new (Ok tt) (judge_provision (now old) root m n) = rw j follows in
    let with : IsProvisionedWith (now new) root = provision-ok old new root m n (Ok tt) size slot exact in
    let by : IsProvisionedBy (now new) number = (provision-slot old new root m n (Ok tt) size slot exact number (judged-ok nv root m n number j)).1 in
    let same : with.number ≡ number = one_slot (now new) with.number number with.by by in
    (by, ap (λ (k : ℕ). provision_in (slot_at (now new) k)) (sym same) ∙ with.provision)

-- ---- what is known of a note of a provision where it is made
-- all of the plan was done, by the slot that was judged
record WentThrough (root : RootSlot) (judged : Result ℕ FuseFail) (base nv : Past) : Type 0 where
  number : ℕ
  judged_so : judged ≡ Ok number
  store : nv ≡ with_all base (provision_plan number root)

-- or it is refused by the cause that was judged
abbrev IsBacked : RootSlot → Result ℕ FuseFail → Past → What → Story → Type 0
IsBacked root judged base what.Provisioned story = WentThrough root judged base story.nv
IsBacked root judged base (what.ProvisionRefused w) story = (cause : FuseFail) × (judged ≡ Err cause) × (w ≡ refusal_of cause)
IsBacked root judged base that story = Unit {0}

abbrev Backing : RootSlot → Result ℕ FuseFail → Past → Rule
Backing root judged base = Saying (IsBacked root judged base)

module _ (root : RootSlot) (judged : Result ℕ FuseFail) (base : Past) where
  provision_backed : (r : Result ℕ FuseFail) (story : Story) → judged ≡ r → story.nv ≡ base → AllSafe (Backing root judged base) (provisioned_in root r story) story
  provision_backed (Ok number) story j e =
      let plan : List Operation = provision_plan number root in
      let call : AllSafe (Backing root judged base) (called device.Nv plan) story =
      call_says (IsBacked root judged base) device.Nv plan story in
      let went : WentThrough root judged base (after (called device.Nv plan) story).nv =
      record { number = number; judged_so = j; store = past_called device.Nv plan story ∙ ap (λ (p : Past). with_all p plan) e } in
      AllSafe-append (Backing root judged base) (called device.Nv plan) (Says (λ _. what.Provisioned) ∷ []) story call (went, tt)
  provision_backed (Err cause) story j e = ((cause, j, refl), tt)

-- ---- no more is done than the plan
part_short : (image : List ℕ) (plan added : List Operation) → IsPart image plan added → length added ≤ length plan
part_short image plan [] p = omega arith
part_short image [] (op ∷ added) p = absurd p
part_short image (next ∷ plan) (op ∷ added) (inl p) = let less = part_short (applied image next) plan added p.1 in omega (arith, less)
part_short image (next ∷ plan) (op ∷ added) (inr p) = let none : length added ≡ 0 = ap (λ (ops : List Operation). length ops) p.1 in omega (arith, none)

no_length : (ops : List Operation) → length ops ≡ 0 → ops ≡ []
no_length [] e = refl
no_length (op ∷ ops) e = absurd (omega (arith, e))

-- a part of a plan that begins with all of it is the plan
pub whole_part : (base at : Past) (plan : List Operation) (new : Past) → Stored plan base new → at ≡ with_all base plan → Begins at new → new.ops ≡ base.ops ++ plan
whole_part base at plan new stored e begins =
    let ops : new.ops ≡ (base.ops ++ plan) ++ begins.more = begins.ops ∙ ap (λ (p : Past). p.ops ++ begins.more) e in
    let long : length new.ops ≡ (length base.ops + length plan) + length begins.more =
    ap (λ (os : List Operation). length os) ops ∙ length-append (base.ops ++ plan) begins.more ∙ ap (λ (n : ℕ). n + length begins.more) (length-append base.ops plan) in
    let added : length new.ops ≡ length base.ops + length stored.added = ap (λ (os : List Operation). length os) stored.is ∙ length-append base.ops stored.added in
    let short = part_short _ plan stored.added stored.part in
    let none : begins.more ≡ [] = no_length begins.more (omega (arith, long, added, short)) in
    ops ∙ ap (λ (more : List Operation). (base.ops ++ plan) ++ more) none ∙ append-nil (base.ops ++ plan)

-- ---- what is noted of it
-- a note that a step made after these moves
made_note : (old new : World) (trace : List Move) (w : Counts → What) (more : List Move) → story_of new ≡ after (trace ++ Says w ∷ more) (story_of old)
    → IsNoted (added old new) (w (counts_of (after trace (story_of old))))
made_note old new trace w more e =
    let there : Story = after trace (story_of old) in
    let made : Made old new = record { trace = trace ++ Says w ∷ more; is = e } in
    let notes : added old new ≡ said trace (story_of old) ++ said (Says w ∷ more) there = added_said old new made ∙ said_append trace (Says w ∷ more) (story_of old) in
    subst (λ (ns : List Note). IsNoted ns (w (counts_of there))) (sym notes) (noted_right (said trace (story_of old)) (said (Says w ∷ more) there) (w (counts_of there)) (inl refl))

-- all of the plan notes what was judged
outcome_noted : (root : RootSlot) (old new : World) (r : Result ℕ FuseFail) → story_of new ≡ after (Asks device.Nv ∷ provisioned_in root r (story_of old)) (story_of old)
    → IsNoted (added old new) (outcome_of r)
outcome_noted root old new (Ok number) e = made_note old new (Asks device.Nv ∷ called device.Nv (provision_plan number root)) (λ _. what.Provisioned) [] e
outcome_noted root old new (Err cause) e = made_note old new (Asks device.Nv ∷ []) (λ _. what.ProvisionRefused (refusal_of cause)) [] e

-- a step that notes no trouble notes what was judged
judged_noted : (root : RootSlot) (old new : World) → Steps (provision_stretch root ∷ []) old new → IsUntroubled bank.Bmc (added old new) → IsNoted (added old new) (outcome_of (judged_here root (story_of old)))
judged_noted root old new (inl (mid, crossed, end)) calm = outcome_noted root old new (judged_here root (story_of old)) (end.is ∙ crossed.is)
judged_noted root old new (inr (inl (mid, f, end))) calm =
    let locks : List Move = Says (what.Locked bank.Bmc why.StoreFault) ∷ Says (what.Locked bank.Pch why.StoreFault) ∷ [] in
    let is : story_of new ≡ after (f.stopped.trace ++ locks) (story_of old) =
    end.is ∙ f.noted.is ∙ ap (λ (s : Story). after locks s) f.stopped.is ∙ sym (after-append f.stopped.trace locks (story_of old)) in
    absurd (calm.store (counts_of (after f.stopped.trace (story_of old)))
    (made_note old new f.stopped.trace (what.Locked bank.Bmc why.StoreFault) (Says (what.Locked bank.Pch why.StoreFault) ∷ []) is))
judged_noted root old new (inr (inr l)) calm =
    let is : story_of new ≡ after (l.stopped.trace ++ Says (what.Lost (Some l.which)) ∷ []) (story_of old) =
    l.noted.is ∙ ap (λ (s : Story). after (Says (what.Lost (Some l.which)) ∷ []) s) l.stopped.is ∙ sym (after-append l.stopped.trace (Says (what.Lost (Some l.which)) ∷ []) (story_of old)) in
    absurd (calm.on (Some l.which) (counts_of (after l.stopped.trace (story_of old))) (made_note old new l.stopped.trace (what.Lost (Some l.which)) [] is))

-- ---- a provision of banks that aren't off
module _ (root : RootSlot) (old new : World) where
  abbrev judged : Result ℕ FuseFail
  judged = judged_here root (story_of old)

  was_done : size_of old.nv ≡ 32768 → IsSlot root → (number : ℕ) → judged ≡ Ok number → new.nv.start ≡ old.nv.start → new.nv.ops ≡ old.nv.ops ++ provision_plan number root
      → IsProvisionedBy (now new.nv) number × (provision_in (slot_at (now new.nv) number) ≡ root)
  was_done size slot number j start ops =
      let plan : List Operation = provision_plan number root in
      let image : now new.nv ≡ play (now old.nv) plan =
      ap (λ (s : List ℕ). play s new.nv.ops) start ∙ ap (λ (os : List Operation). play old.nv.start os) ops ∙ play-append old.nv.start old.nv.ops plan in
      let so = provisioned_so (now old.nv) root (size_of old.bmc) (size_of old.pch) number (length-play old.nv.start old.nv.ops ∙ size) slot j in
      rw image so

  tries : size_of old.nv ≡ 32768 → IsSlot root → FollowsCourse (provision_course root) (begun (event.Provision root) old) new → TriesProvision root old new
  tries size slot (mid, first, rest) =
      let base : Past = past_of old.nv in
      let stored : Stored (operations_in root judged) base (past_of new.nv) = provision_stored root old new (mid, first, rest) in
      let traced = provision_by (Backing root judged base) (λ which story. tt) (begun (event.Provision root) old) new Any (λ w moved. tt) (λ story. story ≡ story_of (begun (event.Provision root) old)) root (λ b which story. tt)
      (λ story e. (tt, provision_backed root judged base (judged_here root story) story (sym (ap (λ (s : Story). judged_here root s) e)) (ap (λ (s : Story). s.nv) e))) refl (mid, first, rest) in
      let known = Traced-known (IsBacked root judged base) (begun (event.Provision root) old) new traced in
      let made : IsUntroubled bank.Bmc (added old new) → IsNoted (added old new) (outcome_of judged) = outcome mid first.is rest in
      record {
        done = λ n. let k = known what.Provisioned n in done_by stored k.0.nv k.1 k.2.nv;
        all = λ number j calm. subst (λ (r : Result ℕ FuseFail). IsNoted (added old new) (outcome_of r)) j (made calm);
        only = λ w n. (known (what.ProvisionRefused w) n).1;
        refused = λ cause j calm. subst (λ (r : Result ℕ FuseFail). IsNoted (added old new) (outcome_of r)) j (made calm);
      }
    where
      outcome : (mid : World) → story_of mid ≡ story_of (begun (event.Provision root) old) → Steps (provision_stretch root ∷ []) mid new → IsUntroubled bank.Bmc (added old new) → IsNoted (added old new) (outcome_of judged)
      outcome mid e rest calm =
          let notes : added mid new ≡ added old new = ap (λ (s : Story). drop (length s.notes) new.notes.list) e in
          subst (λ (ns : List Note). IsNoted ns (outcome_of judged)) notes
          (subst (λ (s : Story). IsNoted (added mid new) (outcome_of (judged_here root s))) e
          (judged_noted root mid new rest (subst (λ (ns : List Note). IsUntroubled bank.Bmc ns) (sym notes) calm)))

      done_by : Stored (operations_in root judged) (past_of old.nv) (past_of new.nv) → (at : Past) → WentThrough root judged (past_of old.nv) at → Begins at (past_of new.nv)
          → (number : ℕ) × (sizes_judged root old ≡ Ok number) × IsProvisionedBy (now new.nv) number × (provision_in (slot_at (now new.nv) number) ≡ root)
      done_by stored at went begins =
          let here : Stored (provision_plan went.number root) (past_of old.nv) (past_of new.nv) =
          subst (λ (r : Result ℕ FuseFail). Stored (operations_in root r) (past_of old.nv) (past_of new.nv)) went.judged_so stored in
          let ops = whole_part (past_of old.nv) at (provision_plan went.number root) (past_of new.nv) here went.store begins in
          let so = was_done size slot went.number went.judged_so here.start ops in
          (went.number, went.judged_so, so.0, so.1)

-- A provision is noted as done exactly where a slot was found for it, and is refused by the first cause.
pub Turn-provisions : (accepts : Acceptance) (e : Event) (old new : World) → size_of old.nv ≡ 32768 → (¬ AreOff old → IsKnownSlot e) → Turn accepts e old new → ProvisionsSo e old new
Turn-provisions accepts event.Power old new size slot t = tt
Turn-provisions accepts event.Off old new size slot t = tt
Turn-provisions accepts (event.Provision root) old new size slot t = λ on. elim (Turn-cases accepts (event.Provision root) old new t) [
  | inl idle ↦ absurd (on idle.0)
  | inr taken ↦ tries root old new size (slot on) taken.1
]
Turn-provisions accepts (event.Spi b frame) old new size slot t = tt
Turn-provisions accepts (event.Smbus b frame) old new size slot t = tt
Turn-provisions accepts (event.Tick n) old new size slot t = tt
Turn-provisions accepts (event.Boot b pass) old new size slot t = tt
Turn-provisions accepts (event.Update b intent) old new size slot t = tt
