-- A job that is resumed begins with the strokes of the pages whose groups weren't marked.
use Rattle.std.proofs.Common.{◌≡◌, ◌∙◌, refl, sym, ap, subst, ℕ, Bool, true, false, List, [], ◌∷◌, ◌++◌, length, append_assoc, ◌⊎◌, inl, inr, Result}
use Rattle.pfr_flash.specs.FlashState.{size_of}
use Rattle.pfr_flash.specs.Layout.{IsBankSize}
use Rattle.pfr_flash.specs.Operation.{Operation}
use Rattle.pfr_flash.specs.Plan.{IsPart}
use Rattle.pfr_flash.specs.declared.layout.Layout.{Layout}
use Rattle.pfr_flash.specs.declared.names.Bank.{Bank}
use Rattle.pfr_flash.specs.declared.names.Bank.TheVariants as bank
use Rattle.pfr_flash.specs.declared.names.Counts.{Counts}
use Rattle.pfr_flash.specs.declared.names.Device.TheVariants as device
use Rattle.pfr_engine.specs.Acceptance.{Acceptance}
use Rattle.pfr_fuses.specs.FusesState.{FusesState}
use Rattle.pfr_fuses.specs.RootSlot.{layout_of}
use Rattle.pfr_capsule.specs.CapsuleState.{CapsuleState}
use Rattle.pfr_capsule.specs.declared.fail.CapsuleFail.{CapsuleFail}
use Rattle.pfr_jobs.specs.Log.{open_job}
use Rattle.pfr_jobs.specs.declared.job.JobKind.{JobKind}
use Rattle.pfr_jobs.specs.declared.job.JobKind.TheVariants.{ActiveFromRecovery, ActiveFromStaging, RecoveryFromStaging}
use Rattle.pfr_jobs.specs.declared.job.OpenJob.{OpenJob}
use Rattle.pfr_rebuilt.specs.Passing.{active_heeding, recovery_heeding}
use Rattle.pfr_strokes.specs.Deeds.{side_ops}
use Rattle.pfr_strokes.specs.declared.side.Side.TheVariants as side
use Rattle.pfr_script.specs.declared.event.Event.{Event}
use Rattle.pfr_script.specs.declared.event.Event.TheVariants as event
use Rattle.pfr_report.specs.Texts.{IsNoted}
use Rattle.pfr_report.specs.declared.note.LockWhy.{LockWhy}
use Rattle.pfr_report.specs.declared.note.Note.{Note}
use Rattle.pfr_report.specs.declared.note.What.TheVariants as what
use Rattle.pfr_story.specs.Bringing.{IsCalm}
use Rattle.pfr_story.specs.Causes.{IsResumable}
use Rattle.pfr_story.specs.JobPlans.{job_notes, same_digest, judged_source, finished_job, worked, copied_over, by_first_pass, work_of, resumed_if, by_source, by_open}
use Rattle.pfr_story.specs.JobPromises.{left_strokes, AddsSince, IsCutBehind, HeedsMarks, MarksAreHeeded}
use Rattle.pfr_story.specs.Plans.{mine, store, asks, ready_of, judged_recovery, by_ready, brought_up, checked_then}
use Rattle.pfr_story.specs.Promises.{AtCounts, count_at}
use Rattle.pfr_story.specs.Story.{Past, Story, Move, Says, Asks, after, noted, past_at, device_of}
use Rattle.pfr_story.specs.Turn.{begun, Turn}
use Rattle.pfr_story.specs.World.{World, story_of, counts_in, state_at, added}
use Rattle.pfr_story.proofs.BringRules.{ready_is}
use Rattle.pfr_story.proofs.Bytes.{HaveBytes}
use Rattle.pfr_story.proofs.Fronts.{Starts, Starting, says_first, asks_first, deeds_first}
use Rattle.pfr_story.proofs.HeedCuts.{IsWhole, done_or_cut}
use Rattle.pfr_story.proofs.JobRecoveryBegun.{same_spelled}
use Rattle.pfr_story.proofs.JobSteps.{active_strokes, recovery_strokes}
use Rattle.pfr_story.proofs.Made.{never_noted}
use Rattle.pfr_story.proofs.SafetyLaws.{image_noted}
use Rattle.pfr_story.proofs.TakenLaws.{taken_by, taken, checked_at, ready_parts}
use Rattle.pfr_story.proofs.TakenNotes.{judged_good_source}
use Rattle.pfr_story.proofs.TakesUpLaws.{Begun, IsReached, IsUnjobbed, held_at, by_held, resumed_at, reached, new_size}

module _ (accepts : Acceptance) (b : Bank) (IsShort : Type 0) where
  -- ---- the work of a job that is resumed
  abbrev CanResume : JobKind → Story → Type 0
  CanResume kind story = IsResumable kind b (mine b story) (store story) accepts

  abbrev left : (kind : JobKind) (story : Story) → CanResume kind story → List Operation
  left kind story r = left_strokes kind b (mine b story) (store story) accepts r

  abbrev told : JobKind → Story → Story
  told kind story = noted (λ _. what.Resumed b kind) story

  same_bank : (kind : JobKind) (story : Story) → mine b (told kind story) ≡ mine b story
  same_bank kind story = image_noted (device_of b) (λ _. what.Resumed b kind) story

  -- whatever is behind a pass
  active_starts : (kind : JobKind) (fuses : FusesState) (capsule : CapsuleState) (rest more : List Move) (story : Story) → Starting IsShort b (side_ops side.Bank (active_heeding kind b (mine b story) (store story) capsule (layout_of fuses.provision b)))
      ((worked b kind fuses capsule (told kind story) ++ rest) ++ more) (told kind story)
  active_starts kind fuses capsule rest more story =
      let layout : Layout = layout_of fuses.provision b in
      subst (λ (moves : List Move). Starting IsShort b (side_ops side.Bank (active_heeding kind b (mine b story) (store story) capsule layout)) moves (told kind story)) (sym (append_assoc (worked b kind fuses capsule (told kind story)) rest more))
      (subst (λ (image : List ℕ). Starting IsShort b (side_ops side.Bank (active_heeding kind b image (store story) capsule layout)) (worked b kind fuses capsule (told kind story) ++ (rest ++ more)) (told kind story)) (same_bank kind story)
      (deeds_first IsShort b (active_heeding kind b (mine b (told kind story)) (store story) capsule layout) (rest ++ more) (told kind story)))

  recovery_starts : (fuses : FusesState) (capsule : CapsuleState) (rest more : List Move) (story : Story) → Starting IsShort b (side_ops side.Bank (recovery_heeding b (mine b story) (store story) capsule.length (layout_of fuses.provision b)))
      ((copied_over b fuses capsule (told RecoveryFromStaging story) ++ rest) ++ more) (told RecoveryFromStaging story)
  recovery_starts fuses capsule rest more story =
      let layout : Layout = layout_of fuses.provision b in
      let there : Story = told RecoveryFromStaging story in
      subst (λ (moves : List Move). Starting IsShort b (side_ops side.Bank (recovery_heeding b (mine b story) (store story) capsule.length layout)) moves there) (sym (append_assoc (copied_over b fuses capsule there) rest more))
      (subst (λ (image : List ℕ). Starting IsShort b (side_ops side.Bank (recovery_heeding b image (store story) capsule.length layout)) (copied_over b fuses capsule there ++ (rest ++ more)) there) (same_bank RecoveryFromStaging story)
      (deeds_first IsShort b (recovery_heeding b (mine b there) (store story) capsule.length layout) (rest ++ more) there))

  -- it begins with what was left
  abbrev IsLeft : (kind : JobKind) (story : Story) → CanResume kind story → List Move → Story → Type 0
  IsLeft kind story r moves there = Starting IsShort b (left kind story r) moves there

  work_left : (kind : JobKind) (more : List Move) (story : Story) (r : CanResume kind story) → IsLeft kind story r (work_of (job_notes b) accepts b r.fuses r.good.capsule kind (told kind story) ++ more) (told kind story)
  work_left (ActiveFromRecovery level) more story r =
      let kind : JobKind = ActiveFromRecovery level in
      let there : Story = told kind story in
      let end : Story = after (worked b kind r.fuses r.good.capsule there) there in
      let rest : List Move = finished_job b end ++ Says (λ _. what.Restored b level) ∷ [] in
      subst (λ (strokes : List Operation). Starting IsShort b strokes ((worked b kind r.fuses r.good.capsule there ++ rest) ++ more) there)
      (active_strokes kind b (mine b story) (store story) r.good.capsule (layout_of r.fuses.provision b)) (active_starts kind r.fuses r.good.capsule rest more story)
  work_left (ActiveFromStaging dynamic) more story r =
      let kind : JobKind = ActiveFromStaging dynamic in
      let there : Story = told kind story in
      let end : Story = after (worked b kind r.fuses r.good.capsule there) there in
      let rest : List Move = finished_job b end ++ Says (λ _. what.Updated b dynamic r.good.capsule.manifest.svn) ∷ [] in
      subst (λ (strokes : List Operation). Starting IsShort b strokes ((worked b kind r.fuses r.good.capsule there ++ rest) ++ more) there)
      (active_strokes kind b (mine b story) (store story) r.good.capsule (layout_of r.fuses.provision b)) (active_starts kind r.fuses r.good.capsule rest more story)
  work_left RecoveryFromStaging more story r =
      let there : Story = told RecoveryFromStaging story in
      let end : Story = after (copied_over b r.fuses r.good.capsule there) there in
      let rest : List Move = asks b end ++ by_first_pass (job_notes b).given_up (job_notes b).recovery_updated accepts b r.fuses r.good.capsule (judged_recovery accepts b r.fuses end) end in
      subst (λ (strokes : List Operation). Starting IsShort b strokes ((copied_over b r.fuses r.good.capsule there ++ rest) ++ more) there)
      (recovery_strokes b (mine b story) (store story) r.good.capsule.length (layout_of r.fuses.provision b)) (recovery_starts r.fuses r.good.capsule rest more story)

  module _ (kind : JobKind) (more : List Move) (story : Story) (r : IsResumable kind b (mine b story) (store story) accepts) where
    abbrev Left : List Move → Type 0
    Left moves = Starting IsShort b (left kind story r) (moves ++ more) story

    left_if : (t : Bool) → t ≡ true → Left (resumed_if t (job_notes b) accepts b r.fuses r.good.capsule kind story)
    left_if true e =
        says_first IsShort b (left kind story r) (λ _. what.Resumed b kind) (work_of (job_notes b) accepts b r.fuses r.good.capsule kind (told kind story) ++ more) story (work_left kind more story r)
    left_if false e = absurd cc

    left_source : Left (by_source (job_notes b) accepts b r.fuses kind r.good.capsule.digest (judged_source accepts b r.fuses kind story) story)
    left_source =
        subst (λ (judged : Result CapsuleState CapsuleFail). Left (by_source (job_notes b) accepts b r.fuses kind r.good.capsule.digest judged story))
        (sym (judged_good_source accepts b r.fuses kind story r.provisioned r)) (left_if (same_digest r.good.capsule.digest r.good.capsule.digest) (same_spelled r.good.capsule.digest))

    left_open : Left (by_open (job_notes b) accepts b r.fuses (open_job (store story) b) story)
    left_open =
        subst (λ (opened : OpenJob). Left (by_open (job_notes b) accepts b r.fuses opened story)) (sym r.opened)
        (asks_first IsShort b (left kind story r) (device_of b) (by_source (job_notes b) accepts b r.fuses kind r.good.capsule.digest (judged_source accepts b r.fuses kind story) story ++ more) story left_source)

    taken_left : Left (taken accepts b story)
    taken_left =
        subst (λ (x : Result FusesState LockWhy). Left (taken_by accepts b x story)) (sym (ready_is b r.fuses story r.provisioned r.layout))
        (asks_first IsShort b (left kind story r) device.Nv (by_open (job_notes b) accepts b r.fuses (open_job (store story) b) story ++ more) story left_open)

  -- of a bank that is brought up
  brought_left : (kind : JobKind) (story : Story) (r : CanResume kind (noted (what.Held b) story)) → Starting IsShort b (left kind (noted (what.Held b) story) r) (brought_up accepts b story) story
  brought_left kind story r =
      let there : Story = noted (what.Held b) story in
      let strokes : List Operation = left kind there r in
      let rest : List Move = by_ready accepts b (ready_of b there) there in
      says_first IsShort b strokes (what.Held b) (Asks device.Nv ∷ rest) story (asks_first IsShort b strokes device.Nv rest there
      (subst (λ (moves : List Move). Starting IsShort b strokes moves there) (sym (ready_parts accepts b there)) (taken_left kind (checked_then accepts b (checked_at accepts b there)) there r)))

-- ---- by counts
ops_in : (b : Bank) (w : World) → (past_at (device_of b) (story_of w)).ops ≡ (state_at (device_of b) w).ops
ops_in bank.Bmc w = refl
ops_in bank.Pch w = refl

count_in : (b : Bank) (w : World) → length (past_at (device_of b) (story_of w)).ops ≡ count_at b (counts_in w)
count_in bank.Bmc w = refl
count_in bank.Pch w = refl

-- the operations since these counts begin with what was left of a job that is resumable
record Heeded (accepts : Acceptance) (which : Bank) (kind : JobKind) (new : World) (notes : List Note) (at : Counts) (image nv : List ℕ) : Type 0 where
  from : IsResumable kind which image nv accepts
  ops : List Operation
  since : AddsSince which at ops new
  heeds : ((more : List Operation) × (ops ≡ left_strokes kind which image nv accepts from ++ more)) ⊎ (IsPart image (left_strokes kind which image nv accepts from) ops × IsCutBehind which (what.Resumed which kind) notes)
  whole : IsCalm which notes → (more : List Operation) × (ops ≡ left_strokes kind which image nv accepts from ++ more)

-- what was done whole, or in part where it isn't calm
module _ (Whole Part Cut IsSo : Type 0) where
  in_part : Cut → Whole ⊎ ((¬ IsSo) × Part) → Whole ⊎ (Part × Cut)
  in_part cut (inl whole) = inl whole
  in_part cut (inr (short, part)) = inr (part, cut)

  in_whole : Whole ⊎ ((¬ IsSo) × Part) → IsSo → Whole
  in_whole (inl whole) so = whole
  in_whole (inr (short, part)) so = absurd (short so)

module _ (accepts : Acceptance) (first new : World) (have : HaveBytes new) (which : Bank) (bank_size : IsBankSize (size_of (state_at (device_of which) new))) (c : Begun accepts first new which) where
  abbrev there : Story
  there = noted (what.Held which) (story_of c.at)

  abbrev Calm : Type 0
  Calm = IsCalm which (added first new)

  module _ (at : Counts) (e : at ≡ counts_in c.at) (kind : JobKind) (r : IsResumable kind which (mine which (noted (what.Held which) (story_of c.at))) (store (noted (what.Held which) (story_of c.at))) accepts) where
    abbrev strokes : List Operation
    strokes = left_strokes kind which (mine which (noted (what.Held which) (story_of c.at))) (store (noted (what.Held which) (story_of c.at))) accepts r

    abbrev past : Past
    past = past_at (device_of which) (story_of c.at)

    abbrev IsHeeded : Type 0
    IsHeeded = Heeded accepts which kind new (added first new) at (mine which (noted (what.Held which) (story_of c.at))) (store (noted (what.Held which) (story_of c.at)))

    adds : (ops : List Operation) → (past_at (device_of which) (story_of new)).ops ≡ (past_at (device_of which) (story_of c.at)).ops ++ ops → AddsSince which at ops new
    adds ops is = record {
      before = past.ops;
      few = count_in which c.at ∙ ap (λ (counts : Counts). count_at which counts) (sym e);
      is = sym (ops_in which new) ∙ is;
    }

    all_done : IsWhole accepts first new which c kind r → IsHeeded
    all_done (more, is) = record { from = r; ops = strokes ++ more; since = adds (strokes ++ more) is; heeds = inl (more, refl); whole = λ calm. (more, refl) }

    some_done : IsCutBehind which (what.Resumed which kind) (added first new) → IsHeeded
    some_done cut =
        let s : Starts (¬ Calm) strokes past (past_at (device_of which) (after c.went.trace (story_of c.at))) = brought_left accepts which (¬ Calm) kind (story_of c.at) r c.went.trace c.went.front in
        let same : mine which (story_of c.at) ≡ mine which there = sym (image_noted (device_of which) (what.Held which) (story_of c.at)) in
        let Whole : Type 0 = (more : List Operation) × (s.ops ≡ strokes ++ more) in
        let Cut : Type 0 = IsCutBehind which (what.Resumed which kind) (added first new) in
        record {
          from = r;
          ops = s.ops;
          since = adds s.ops (ap (λ (p : Past). p.ops) c.went.past ∙ s.is);
          heeds = subst (λ (image : List ℕ). Whole ⊎ (IsPart image strokes s.ops × Cut)) same (in_part Whole (IsPart (mine which (story_of c.at)) strokes s.ops) Cut Calm cut s.first);
          whole = in_whole Whole (IsPart (mine which (story_of c.at)) strokes s.ops) Cut Calm s.first;
        }

    heeded : IsNoted (added first new) (what.Resumed which kind) → IsHeeded
    heeded n = elim (done_or_cut accepts first new which c kind r n) [ inl whole ↦ all_done whole | inr cut ↦ some_done cut ]

  heeds_at : (at : Counts) → IsNoted (added first new) (what.Held which at) → (kind : JobKind) → IsNoted (added first new) (what.Resumed which kind) → HeedsMarks accepts which kind new (added first new) at
  heeds_at at h kind n =
      let r : AtCounts (λ image nv. IsResumable kind which image nv accepts) which at new = resumed_at accepts first new have which bank_size c at h kind n in
      let k : AtCounts (λ image nv. IsResumable kind which image nv accepts → Heeded accepts which kind new (added first new) at image nv) which at new =
      by_held accepts first new have which bank_size c (λ image nv. IsResumable kind which image nv accepts → Heeded accepts which kind new (added first new) at image nv) at h
      (λ there_r. heeded at (held_at accepts first new have which bank_size c at h) kind there_r n) in
      let d = k r in
      record { from = d.from; ops = d.ops; since = d.since; heeds = d.heeds; whole = d.whole }

module _ (accepts : Acceptance) (old new : World) (size : size_of old.nv ≡ 32768) (t : Turn accepts event.Power old new) (have : HaveBytes new) (bmc : IsBankSize (size_of old.bmc)) (pch : IsBankSize (size_of old.pch)) where
  by_reached : (which : Bank) (kind : JobKind) (at : Counts) → IsNoted (added old new) (what.Held which at) → IsNoted (added old new) (what.Resumed which kind)
      → IsReached accepts (begun event.Power old) new which → HeedsMarks accepts which kind new (added old new) at
  by_reached which kind at h n (inl c) = heeds_at accepts (begun event.Power old) new have which (new_size accepts old new size t have bmc pch which) c at h kind n
  by_reached which kind at h n (inr w) = absurd (never_noted (IsUnjobbed which) (begun event.Power old) new w (what.Resumed which kind) n refl tt)

-- Of each bank the job that is resumed in a power-on heeds the marks that were set.
pub Turn-heeds : (accepts : Acceptance) (e : Event) (old new : World) → size_of old.nv ≡ 32768 → Turn accepts e old new → HaveBytes new → IsBankSize (size_of old.bmc) → IsBankSize (size_of old.pch)
    → MarksAreHeeded e accepts old new
Turn-heeds accepts event.Power old new size t have bmc pch = λ which kind at h n. by_reached accepts old new size t have bmc pch which kind at h n (reached accepts old new size t have bmc pch which)
Turn-heeds accepts event.Off old new size t have bmc pch = tt
Turn-heeds accepts (event.Provision root) old new size t have bmc pch = tt
Turn-heeds accepts (event.Spi b frame) old new size t have bmc pch = tt
Turn-heeds accepts (event.Smbus b frame) old new size t have bmc pch = tt
Turn-heeds accepts (event.Tick n) old new size t have bmc pch = tt
Turn-heeds accepts (event.Boot b pass) old new size t have bmc pch = tt
Turn-heeds accepts (event.Update b intent) old new size t have bmc pch = tt
