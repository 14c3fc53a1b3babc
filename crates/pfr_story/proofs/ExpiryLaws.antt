-- What comes of an expired watch of one bank, whose fuses can be read.
use Rattle.std.proofs.Common.{◌⊎◌, ◌≡◌, ◌∙◌, refl, sym, ap, subst, arith, ℕ, ◌≤◌, Bool, true, false, List, [], ◌∷◌, length, inl, inr, Result, Ok, Err}
use Rattle.std.specs.Prelude.{nat_lt}
use Rattle.pfr_flash.specs.Bytes.{AreBytes}
use Rattle.pfr_flash.specs.Layout.{IsBankSize}
use Rattle.pfr_flash.specs.declared.layout.Layout.{Layout}
use Rattle.pfr_flash.specs.declared.names.Bank.{Bank}
use Rattle.pfr_flash.specs.declared.names.Counts.{Counts}
use Rattle.pfr_flash.specs.declared.names.Device.{Device}
use Rattle.pfr_flash.specs.declared.names.Device.TheVariants as device
use Rattle.pfr_engine.specs.Acceptance.{Acceptance}
use Rattle.pfr_fuses.specs.FusesState.{FusesState}
use Rattle.pfr_fuses.specs.RootSlot.{layout_of}
use Rattle.pfr_manifest.specs.declared.manifest.Manifest.{Manifest}
use Rattle.pfr_capsule.specs.CapsuleState.{CapsuleState}
use Rattle.pfr_capsule.specs.declared.fail.CapsuleFail.{CapsuleFail}
use Rattle.pfr_auth.specs.declared.fail.ActiveFail.{ActiveFail}
use Rattle.pfr_jobs.specs.LogState.{is_spent}
use Rattle.pfr_jobs.specs.declared.job.JobKind.{JobKind}
use Rattle.pfr_rebuilt.specs.ActiveCopying.{active_rebuilt}
use Rattle.pfr_story.proofs.JobCounts.{done_on}
use Rattle.pfr_story.proofs.StoppedLaws.{stopped_so}
use Rattle.pfr_jobs.specs.Log.{open_job}
use Rattle.pfr_jobs.specs.LogPlans.{IsKind}
use Rattle.pfr_jobs.specs.declared.job.JobKind.TheVariants.{ActiveFromRecovery}
use Rattle.pfr_jobs.specs.declared.job.OpenJob.TheVariants as job
use Rattle.pfr_report.specs.Texts.{IsNoted}
use Rattle.pfr_report.specs.declared.note.LockWhy.{LockWhy}
use Rattle.pfr_report.specs.declared.note.LockWhy.TheVariants as why
use Rattle.pfr_report.specs.declared.note.Note.{Note}
use Rattle.pfr_report.specs.declared.note.What.{What}
use Rattle.pfr_report.specs.declared.note.What.TheVariants as what
use Rattle.pfr_story.specs.Story.{Story, Move, Says, Asks, after, noted, counts_of, device_of}
use Rattle.pfr_story.specs.World.{World, story_of, AllMoved, added}
use Rattle.pfr_story.specs.Safety.{AllSafe}
use Rattle.pfr_story.specs.Plans.{mine, store, judged_active, judged_recovery, restored, by_second, checked_again, by_capsule, recovered_with, by_level, expired_to}
use Rattle.pfr_story.specs.Bringing.{IsOver, IsCalm, IsNotedBehind}
use Rattle.pfr_story.specs.Turn.{fault_of}
use Rattle.pfr_story.proofs.SafetyLaws.{AllSafe-append, image_noted}
use Rattle.pfr_story.proofs.RestoreLaws.{not_recovery, found_good}
use Rattle.pfr_story.proofs.BringRules.{IsReady, ready_noted, ready_is}
use Rattle.pfr_story.proofs.Traces.{Saying, Traced-known, KnownBefore}
use Rattle.pfr_story.proofs.Made.{said, added_said, behind_next}
use Rattle.pfr_story.proofs.Endings.{IsTrouble, IsBroken, Ending, ends_behind, ends_done, ended_trace, ended_is, ended_good, ends_whole}
use Rattle.pfr_story.proofs.AnewLaws.{MadeFrom, IsAnew}
use Rattle.pfr_story.proofs.FoundLaws.{found_begins}
use Rattle.pfr_story.proofs.JobFront.{job_true}
use Rattle.pfr_story.proofs.JobRestores.{anew_releases}
use Rattle.pfr_story.proofs.JobLaws.{working, whole_job, job_ends, IsOther, cut_untold}

-- a restore at such a level is a job that there may be
valid_level : (level : ℕ) → 1 ≤ level → nat_lt level 4 ≡ true → IsKind (ActiveFromRecovery level)
valid_level level low e = (low, grind (arith, e))

-- where a bank is held behind its expiry
abbrev pub held_from : Bank → ℕ → Story → Story
held_from b level from = noted (what.Held b) (noted (λ _. what.Expired b level) from)

module _ (accepts : Acceptance) (b : Bank) (level : ℕ) (fuses : FusesState) (from : Story) where
  abbrev there : Story
  there = held_from b level from

  abbrev judged_there : Result CapsuleState CapsuleFail
  judged_there = judged_recovery accepts b fuses there

  -- what is known of each note, by what stands in the recovery area then
  abbrev pub Expiry : What → Story → Type 0
  Expiry (what.Expired c l) story = (c ≡ b) × (l ≡ level)
  Expiry (what.Held c at) story = c ≡ b
  Expiry (what.Restored c l) story = (nat_lt level 4 ≡ true) × (capsule : CapsuleState) × (judged_there ≡ Ok capsule)
  Expiry (what.Locked c why.WatchdogSpent at) story = nat_lt level 4 ≡ false
  Expiry (what.Locked c (why.NoRecovery cause) at) story = (nat_lt level 4 ≡ true) × (at ≡ counts_of there) × (judged_there ≡ Err cause)
  Expiry that story = Unit {0}

  fault_known : (which : Device) (at : Counts) (story : Story) → Expiry (what.Locked b (fault_of which) at) story
  fault_known device.Bmc at story = tt
  fault_known device.Pch at story = tt
  fault_known device.Nv at story = tt

  trouble_known : (L : Type 0) (which : Device) (w : Counts → What) (story : Story) → IsTrouble b L which w → Saying Expiry (Says w) story
  trouble_known L which w story (inl e) = subst (λ (v : Counts → What). Saying Expiry (Says v) story) (sym e) (fault_known which (counts_of story) story)
  trouble_known L which w story (inr (e, known)) = subst (λ (v : Counts → What). Saying Expiry (Says v) story) (sym e) tt

  second_known : (judged : Result Manifest ActiveFail) (story : Story) → AllSafe (Saying Expiry) (by_second b judged story) story
  second_known (Ok m) story = (tt, tt)
  second_known (Err cause) story = tt

  module _ (ready : IsReady b fuses from) (sized : length (store from) ≡ 32768) where
    pub ready_there : IsReady b fuses there
    ready_there = ready_noted b fuses (what.Held b) (noted (λ _. what.Expired b level) from) (ready_noted b fuses (λ _. what.Expired b level) from ready)

    pub mine_there : mine b there ≡ mine b from
    mine_there = image_noted (device_of b) (what.Held b) (noted (λ _. what.Expired b level) from) ∙ image_noted (device_of b) (λ _. what.Expired b level) from

    -- it is restored, or locked for the want of a capsule
    level_is : by_level accepts b level true there ≡ Asks device.Nv ∷ Asks (device_of b) ∷ by_capsule accepts b fuses level judged_there there
    level_is = ap (λ (r : Result FusesState LockWhy). Asks device.Nv ∷ recovered_with accepts b level r there) (ready_is b fuses there ready_there.provisioned ready_there.layout)

    -- ---- each of its notes is known
    capsule_known : (judged : Result CapsuleState CapsuleFail) → nat_lt level 4 ≡ true → judged_there ≡ judged → AllSafe (Saying Expiry) (by_capsule accepts b fuses level judged there) there
    capsule_known (Ok capsule) e j =
        let made : List Move = restored b level fuses capsule there in
        let left : Story = after made there in
        AllSafe-append (Saying Expiry) made (checked_again accepts b fuses left) there
        (job_true b (ActiveFromRecovery level) fuses capsule there (λ unspent. found_begins accepts b fuses (ActiveFromRecovery level) capsule there j sized unspent) Expiry (what.Restored b level) (e, capsule, j))
        (tt, second_known (judged_active accepts b fuses left) left)
    capsule_known (Err cause) e j = ((e, refl, j), tt)

    level_known : (below : Bool) → nat_lt level 4 ≡ below → AllSafe (Saying Expiry) (by_level accepts b level below there) there
    level_known true e = subst (λ (moves : List Move). AllSafe (Saying Expiry) moves there) (sym level_is) (tt, (tt, capsule_known judged_there e refl))
    level_known false e = (e, tt)

-- ---- from one world to another
module _ (accepts : Acceptance) (b : Bank) (level : ℕ) (L : Type 0) (fuses : FusesState) (at end : World) (ready : IsReady b fuses (story_of at)) (sized : length (store (story_of at)) ≡ 32768)
    (ending : Ending b L (expired_to accepts b level (story_of at)) (story_of at) (story_of end)) where
  abbrev start : Story
  start = story_of at

  abbrev held : Story
  held = held_from b level start

  abbrev found : Result CapsuleState CapsuleFail
  found = judged_recovery accepts b fuses held

  abbrev work : List Move
  work = by_level accepts b level (nat_lt level 4) held

  abbrev by_found : Result CapsuleState CapsuleFail → List Move
  by_found answer = Asks device.Nv ∷ Asks (device_of b) ∷ by_capsule accepts b fuses level answer held

  -- what comes behind that it is held
  behind : Ending b L work held (story_of end)
  behind =
      let expiry : Story = noted (λ _. what.Expired b level) start in
      ends_behind b L (what.Held b) work expiry (story_of end) (ends_behind b L (λ _. what.Expired b level) (Says (what.Held b) ∷ work) start (story_of end) ending)

  work_is : (answer : Result CapsuleState CapsuleFail) → nat_lt level 4 ≡ true → found ≡ answer → work ≡ by_found answer
  work_is answer e j =
      ap (λ (below : Bool). by_level accepts b level below held) e ∙ level_is accepts b level fuses start ready sized
      ∙ ap (λ (r : Result CapsuleState CapsuleFail). by_found r) j

  abbrev with_expiry : List Move → List Move
  with_expiry moves = Says (λ _. what.Expired b level) ∷ Says (what.Held b) ∷ moves

  added_with : (moves : List Move) → story_of end ≡ after moves held → added at end ≡ said (with_expiry moves) start
  added_with moves is = added_said at end (record { trace = with_expiry moves; is = is })

  made_noted : (moves : List Move) → story_of end ≡ after moves held → (that : What) → IsNoted (said (with_expiry moves) start) that → IsNoted (added at end) that
  made_noted moves is that n = subst (λ (notes : List Note). IsNoted notes that) (sym (added_with moves is)) n

  pub expiry_noted : IsNotedBehind (what.Expired b level) (what.Held b (counts_of held)) (added at end)
  expiry_noted =
      let trace : List Move = ended_trace b L work held (story_of end) behind in
      subst (λ (notes : List Note). IsNotedBehind (what.Expired b level) (what.Held b (counts_of held)) notes) (sym (added_with trace (ended_is b L work held (story_of end) behind)))
      (record { before = []; item = start.item; behind = record { item = start.item; what = what.Held b (counts_of start) } ∷ said trace held; is = refl; noted = inl refl })

  -- What is known of its notes.
  pub expiry_known : AllMoved at end → (that : What) → IsNoted (added at end) that → KnownBefore (Expiry accepts b level fuses start) that (story_of end)
  expiry_known moved =
      let Known : What → Story → Type 0 = Expiry accepts b level fuses start in
      Traced-known Known at end (record {
        trace = with_expiry (ended_trace b L work held (story_of end) behind);
        is = ended_is b L work held (story_of end) behind;
        good = ((refl, refl), (refl, ended_good b L work held (story_of end) (Saying Known) (level_known accepts b level fuses start ready sized (nat_lt level 4) refl) (trouble_known accepts b level fuses start L) behind));
        moved = moved;
      })

  -- The fourth expiry locks it, whatever fails.
  pub spent_noted : nat_lt level 4 ≡ false → IsNoted (added at end) (what.Locked b why.WatchdogSpent (counts_of held))
  spent_noted e =
      let lock : List Move = Says (what.Locked b why.WatchdogSpent) ∷ [] in
      let locked : Ending b L lock held (story_of end) = subst (λ (below : Bool). Ending b L (by_level accepts b level below held) held (story_of end)) e behind in
      let is = ends_done b L (noted (what.Locked b why.WatchdogSpent) held) (story_of end) (ends_behind b L (what.Locked b why.WatchdogSpent) [] held (story_of end) locked) in
      made_noted lock is (what.Locked b why.WatchdogSpent (counts_of held)) (inr (inr (inl refl)))

  -- ---- where it is calm it is restored and released, or locked for the want of a capsule
  module _ (notes : List Note) (put : (that : What) → IsNoted (added at end) that → IsNoted notes that) (e : nat_lt level 4 ≡ true) (calm : IsCalm b notes) (over : L → ¬ IsOver b notes) where
    whole_by : (answer : Result CapsuleState CapsuleFail) → found ≡ answer → story_of end ≡ after (by_found answer) held
    whole_by answer j =
        let trace : List Move = ended_trace b L work held (story_of end) behind in
        let here : (that : What) → IsNoted (said trace held) that → IsNoted notes that = λ that n. put that (made_noted trace (ended_is b L work held (story_of end) behind) that (inr (inr n))) in
        ends_whole b L work held (story_of end) notes behind here calm over ∙ ap (λ (moves : List Move). after moves held) (work_is answer e j)

    pub locked_noted : (cause : CapsuleFail) → found ≡ Err cause → IsNoted (added at end) (what.Locked b (why.NoRecovery cause) (counts_of held))
    locked_noted cause j = made_noted (by_found (Err cause)) (whole_by (Err cause) j) (what.Locked b (why.NoRecovery cause) (counts_of held)) (inr (inr (inl refl)))

    pub restored_noted : open_job (store start) b ≡ job.None → 1 ≤ level → (capsule : CapsuleState) → MadeFrom accepts b fuses capsule held → found ≡ Ok capsule
        → IsNotedBehind (what.Restored b level) (what.Released b capsule.manifest.svn (counts_of (after (restored b level fuses capsule held) held))) (added at end)
    restored_noted none low capsule from j =
        let this : What = what.Restored b level in
        let that : What = what.Released b capsule.manifest.svn (counts_of (after (restored b level fuses capsule held) held)) in
        let expiry : Note = record { item = start.item; what = what.Expired b level } in
        let hold : Note = record { item = start.item; what = what.Held b (counts_of start) } in
        let anew = anew_releases accepts b (ActiveFromRecovery level) (not_recovery level) fuses capsule this held from sized none (valid_level level low e) in
        subst (λ (all : List Note). IsNotedBehind this that all) (sym (added_with (by_found (Ok capsule)) (whole_by (Ok capsule) j))) (behind_next this that expiry _ (behind_next this that hold _ anew))

  -- ---- what it is made from, and what is made where a restore is told
  module _ (size : IsBankSize (length (mine b start))) (bytes : AreBytes (mine b start)) where
    pub made_from : (capsule : CapsuleState) → found ≡ Ok capsule → MadeFrom accepts b fuses capsule held
    made_from capsule j =
        let layout : Layout = layout_of fuses.provision b in
        let r = ready_there accepts b level fuses start ready sized in
        let same : mine b start ≡ mine b held = sym (mine_there accepts b level fuses start ready sized) in
        let held_bytes : AreBytes (mine b held) = subst AreBytes same bytes in
        let good = found_good accepts b fuses capsule held r.provisioned r.layout held_bytes j in
        record {
          place = layout.recovery_at;
          len = layout.area_len;
          good = good.0;
          capsule_is = good.1;
          provisioned = r.provisioned;
          inside = r.layout.inside.recovery;
          size = subst (λ (image : List ℕ). IsBankSize (length image)) same size;
          bytes = held_bytes;
        }

    restored_untold : (capsule : CapsuleState) → found ≡ Ok capsule → AllMoved at end → IsBroken b L (working accepts b (ActiveFromRecovery level) (not_recovery level) (what.Restored b level) held fuses capsule) held (story_of end)
        → ¬ IsNoted (added at end) (what.Restored b level)
    restored_untold capsule j moved p n =
        let told : What = what.Restored b level in
        let moves : List Move = working accepts b (ActiveFromRecovery level) (not_recovery level) told held fuses capsule in
        let cut = cut_untold accepts b (ActiveFromRecovery level) (not_recovery level) told held fuses capsule L (λ cause then e. cc) (λ d then e. cc)
        (λ unspent. found_begins accepts b fuses (ActiveFromRecovery level) capsule held j sized unspent) (story_of end) p in
        (Traced-known (IsOther told) at end (record {
          trace = with_expiry (ended_trace b L moves held (story_of end) (inr p));
          is = ended_is b L moves held (story_of end) (inr p);
          good = ((λ e. cc), ((λ e. cc), cut));
          moved = moved;
        }) told n).1 refl

    -- wherever it was stopped
    pub restored_stopped : open_job (store start) b ≡ job.None → 1 ≤ level → nat_lt level 4 ≡ true → (capsule : CapsuleState) → found ≡ Ok capsule → (is_spent (store held) b ≡ true)
        ⊎ (done_on b (story_of end) ≡ done_on b held) ⊎ (open_job (store (story_of end)) b ≡ job.Job (ActiveFromRecovery level) capsule.digest)
        ⊎ (mine b (story_of end) ≡ active_rebuilt (ActiveFromRecovery level) (mine b held) capsule (layout_of fuses.provision b))
    restored_stopped none low e capsule j =
        let told : What = what.Restored b level in
        let kind : JobKind = ActiveFromRecovery level in
        let work_here : Ending b L (whole_job accepts b kind (not_recovery level) told held fuses capsule) held (story_of end) =
        subst (λ (moves : List Move). Ending b L moves held (story_of end)) (work_is (Ok capsule) e j) behind in
        elim (job_ends accepts b kind (not_recovery level) told held fuses capsule (made_from capsule j) sized none (valid_level level low e) L (story_of end) work_here) [
          | inl p ↦ stopped_so accepts b kind (not_recovery level) told held fuses capsule (made_from capsule j) sized none (valid_level level low e) L (story_of end) p
          | inr anew ↦ inr (inr (inr anew.image))
        ]

    pub restored_anew : open_job (store start) b ≡ job.None → 1 ≤ level → AllMoved at end → nat_lt level 4 ≡ true → (capsule : CapsuleState) → found ≡ Ok capsule → IsNoted (added at end) (what.Restored b level)
        → IsAnew accepts b (ActiveFromRecovery level) fuses capsule (mine b held) (story_of end)
    restored_anew none low moved e capsule j n =
        let told : What = what.Restored b level in
        let work_here : Ending b L (whole_job accepts b (ActiveFromRecovery level) (not_recovery level) told held fuses capsule) held (story_of end) =
        subst (λ (moves : List Move). Ending b L moves held (story_of end)) (work_is (Ok capsule) e j) behind in
        elim (job_ends accepts b (ActiveFromRecovery level) (not_recovery level) told held fuses capsule (made_from capsule j) sized none (valid_level level low e) L (story_of end) work_here) [
          | inl p ↦ absurd (restored_untold capsule j moved p n)
          | inr anew ↦ anew
        ]
