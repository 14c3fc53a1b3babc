-- Work on a bank that is a job leaves the bank as it was, or the job open, or the image made, wherever it was stopped.
use Rattle.std.proofs.Common.{◌≡◌, ◌∙◌, refl, sym, ap, subst, ℕ, ◌<◌, Bool, true, false, List, [], ◌∷◌, ◌++◌, length, ◌⊎◌, inl, inr}
use Rattle.pfr_flash.specs.Operation.{Operation}
use Rattle.pfr_flash.specs.declared.names.Bank.{Bank}
use Rattle.pfr_flash.specs.declared.names.Bank.TheVariants as bank
use Rattle.pfr_flash.specs.declared.names.Device.TheVariants as device
use Rattle.pfr_flash.proofs.RangeLemmas.{IsTorn-within}
use Rattle.pfr_engine.specs.Acceptance.{Acceptance}
use Rattle.pfr_fuses.specs.FusesState.{FusesState}
use Rattle.pfr_fuses.specs.RootSlot.{layout_of}
use Rattle.pfr_capsule.specs.CapsuleState.{CapsuleState}
use Rattle.pfr_jobs.specs.Log.{open_job, current_at}
use Rattle.pfr_jobs.specs.LogPlans.{IsKind, begin_plan, finish_plan}
use Rattle.pfr_jobs.specs.LogState.{is_marked, is_spent}
use Rattle.pfr_jobs.specs.declared.job.JobKind.{JobKind}
use Rattle.pfr_jobs.specs.declared.job.JobKind.TheVariants.{RecoveryFromStaging}
use Rattle.pfr_jobs.specs.declared.job.OpenJob.{OpenJob}
use Rattle.pfr_jobs.specs.declared.job.OpenJob.TheVariants as job
use Rattle.pfr_jobs.proofs.CutLaws.{mark_keeps, mark_current}
use Rattle.pfr_recoverable.proofs.PassLaw.{IsMarkAt}
use Rattle.pfr_rebuilt.specs.ActiveCopying.{active_rebuilt}
use Rattle.pfr_rebuilt.specs.Passing.{active_heeding}
use Rattle.pfr_strokes.specs.Deeds.{Deed, Asks as AsksSide, Does as DoesSide, side_ops}
use Rattle.pfr_strokes.specs.declared.side.Side.TheVariants as side
use Rattle.pfr_report.specs.declared.note.What.{What}
use Rattle.pfr_story.specs.Deeds.{deed_moves}
use Rattle.pfr_story.specs.JobPlans.{begun_job, finished_job, worked}
use Rattle.pfr_story.specs.Plans.{mine, store}
use Rattle.pfr_story.specs.Safety.{Rule, AllSafe, Keeps}
use Rattle.pfr_story.specs.Stopping.{IsOpenOrMade}
use Rattle.pfr_story.specs.World.{World, story_of}
use Rattle.pfr_story.specs.Story.{Story, Move, Does, Asks, after, moved_by, counts_of, operated, called, past_at, image_of, device_of}
use Rattle.pfr_story.proofs.AnewLaws.{MadeFrom}
use Rattle.pfr_story.proofs.Endings.{IsBroken, Ending, ended_trace, ended_is, ended_good, ends_parts}
use Rattle.pfr_story.proofs.Fronts.{told_past}
use Rattle.pfr_story.proofs.JobCounts.{done_on}
use Rattle.pfr_story.proofs.JobDone.{from_later, worked_replaced, unmarked_whole}
use Rattle.pfr_story.proofs.JobEnds.{AllMarks}
use Rattle.pfr_story.proofs.JobFresh.{takes_job, begin_fresh}
use Rattle.pfr_story.proofs.JobFront.{work_by_log}
use Rattle.pfr_story.proofs.JobLaws.{working}
use Rattle.pfr_story.proofs.JobRestores.{made_digest}
use Rattle.pfr_story.proofs.JobSafetyPasses.{mark_torn}
use Rattle.pfr_story.proofs.JobSteps.{StandsSo, begun_stands, active_marks}
use Rattle.pfr_story.proofs.JobWalks.{store_sized}
use Rattle.pfr_story.proofs.SafetyLaws.{kept_by, image_called, image_operated, store_operated}

module _ (b : Bank) where
  -- ---- moves that leave the device of the bank
  abbrev pub LeavesBank : Rule
  LeavesBank move story = past_at (device_of b) (moved_by move story) ≡ past_at (device_of b) story

  stored_past : (op : Operation) (story : Story) → past_at (device_of b) (operated device.Nv op story) ≡ past_at (device_of b) story
  stored_past op story = by_bank b
    where
      by_bank : (c : Bank) → past_at (device_of c) (operated device.Nv op story) ≡ past_at (device_of c) story
      by_bank bank.Bmc = refl
      by_bank bank.Pch = refl

  pub called_leaves : (ops : List Operation) (story : Story) → AllSafe LeavesBank (called device.Nv ops) story
  called_leaves [] story = (refl, tt)
  called_leaves (op ∷ ops) story = ((stored_past op story, λ done t. stored_past done story), called_leaves ops (operated device.Nv op story))

  module _ (L : Type 0) (moves : List Move) (from to : Story) where
    pub bank_left : AllSafe LeavesBank moves from → Ending b L moves from to → past_at (device_of b) to ≡ past_at (device_of b) from
    bank_left safe e =
        let I : Story → Type 0 = λ story. past_at (device_of b) story ≡ past_at (device_of b) from in
        let good = ended_good b L moves from to LeavesBank safe (λ which w story trouble. told_past b w story) e in
        subst I (sym (ended_is b L moves from to e)) (kept_by LeavesBank I (λ move story g p. g ∙ p) (ended_trace b L moves from to e) from good refl)

  pub count_same : (from to : Story) → past_at (device_of b) to ≡ past_at (device_of b) from → done_on b to ≡ done_on b from
  count_same from to same = by_bank b same
    where
      by_bank : (c : Bank) → past_at (device_of c) to ≡ past_at (device_of c) from → done_on c to ≡ done_on c from
      by_bank bank.Bmc e = ap (λ (past : _). length past.ops) e
      by_bank bank.Pch e = ap (λ (past : _). length past.ops) e

  pub mine_same : (from to : Story) → past_at (device_of b) to ≡ past_at (device_of b) from → mine b to ≡ mine b from
  mine_same from to same = ap image_of same

  -- ---- moves that leave open what is open
  abbrev pub LeavesOpen : Rule
  LeavesOpen move story = length (store story) ≡ 32768 → open_job (store (moved_by move story)) b ≡ open_job (store story) b

  abbrev IsOpenAs : OpenJob → Story → Type 0
  IsOpenAs running story = (length (store story) ≡ 32768) × (open_job (store story) b ≡ running)

  open_keeps : (running : OpenJob) → Keeps LeavesOpen (IsOpenAs running)
  open_keeps running move story g p = (store_sized (move ∷ []) story ∙ p.0, g p.0 ∙ p.1)

  module _ (L : Type 0) (moves : List Move) (from to : Story) where
    pub open_left : AllSafe LeavesOpen moves from → length (store from) ≡ 32768 → Ending b L moves from to → open_job (store to) b ≡ open_job (store from) b
    open_left safe size e =
        let running : OpenJob = open_job (store from) b in
        let good = ended_good b L moves from to LeavesOpen safe (λ which w story trouble long. refl) e in
        (subst (IsOpenAs running) (sym (ended_is b L moves from to e)) (kept_by LeavesOpen (IsOpenAs running) (open_keeps running) (ended_trace b L moves from to e) from good (size, refl))).1

  -- the deeds of a pass, which marks groups
  bank_opens : (op : Operation) (story : Story) → LeavesOpen (Does (device_of b) op) story
  bank_opens op story size = ap (λ (nv : List ℕ). open_job nv b) (store_operated b op story)

  mark_opens : (op : Operation) (story : Story) → IsMarkAt (current_at (store story) b) op → LeavesOpen (Does device.Nv op) story
  mark_opens op story m size = ap (λ (nv : List ℕ). open_job nv b) (image_operated device.Nv op story) ∙ mark_keeps (store story) b size op m.slot m.group m.few m.small m.place m.one

  pub deeds_open : (deeds : List Deed) (story : Story) → length (store story) ≡ 32768 → AllMarks (current_at (store story) b) (side_ops side.Store deeds) → AllSafe LeavesOpen (deed_moves b deeds) story
  deeds_open [] story size all = tt
  deeds_open (AsksSide s ∷ deeds) story size all = ((λ long. refl), deeds_open deeds story size all)
  deeds_open (DoesSide side.Bank op ∷ deeds) story size all =
      let same : store (operated (device_of b) op story) ≡ store story = store_operated b op story in (
        (bank_opens op story, λ done t. bank_opens done story),
        deeds_open deeds (operated (device_of b) op story) (ap (λ (nv : List ℕ). length nv) same ∙ size) (subst (λ (nv : List ℕ). AllMarks (current_at nv b) (side_ops side.Store deeds)) (sym same) all),
      )
  deeds_open (DoesSide side.Store op ∷ deeds) story size all =
      let m = all.0 in
      let at : ℕ = current_at (store story) b in
      let next : Story = operated device.Nv op story in
      let same : current_at (store next) b ≡ at =
      ap (λ (nv : List ℕ). current_at nv b) (image_operated device.Nv op story) ∙ mark_current (store story) b size op m.slot m.group m.few m.small m.place m.one in (
        (mark_opens op story m, λ done t. mark_opens done story (mark_torn (store story) at op done m (IsTorn-within (store story) op done t))),
        deeds_open deeds next (store_sized (Does device.Nv op ∷ []) story ∙ size) (subst (λ (n : ℕ). AllMarks n (side_ops side.Store deeds)) (sym same) all.1),
      )

-- ---- a job on the active image that is begun
module _ (accepts : Acceptance) (b : Bank) (kind : JobKind) (active : ¬ (kind ≡ RecoveryFromStaging)) (that : What) (held : Story) (fuses : FusesState) (capsule : CapsuleState)
    (from : MadeFrom accepts b fuses capsule held) (size : length (store held) ≡ 32768) (none : open_job (store held) b ≡ job.None) (valid : IsKind kind) (L : Type 0) (to : Story) where
  abbrev whole : List ℕ
  whole = active_rebuilt kind (mine b held) capsule (layout_of fuses.provision b)

  -- what is left of it
  abbrev pub IsLeftSo : Type 0
  IsLeftSo = (done_on b to ≡ done_on b held) ⊎ (open_job (store to) b ≡ job.Job kind capsule.digest) ⊎ (mine b to ≡ active_rebuilt kind (mine b held) capsule (layout_of fuses.provision b))

  abbrev begins : List Move
  begins = begun_job b kind capsule.digest held

  abbrev begun : Story
  begun = after begins held

  abbrev works : List Move
  works = worked b kind fuses capsule begun

  abbrev there : Story
  there = after works begun

  abbrev ends : List Move
  ends = finished_job b there

  untouched : (moves : List Move) (here : Story) → past_at (device_of b) here ≡ past_at (device_of b) held → AllSafe (LeavesBank b) moves here → Ending b L moves here to → IsLeftSo
  untouched moves here same safe e = inl (count_same b held to (bank_left b L moves here to safe e ∙ same))

  module _ (free : is_spent (store held) b ≡ false) where
    first : StandsSo b (job.Job kind capsule.digest) (mine b held) held begun
    first = begun_stands b kind capsule.digest held size none (takes_job (store held) b free) (made_digest accepts b fuses capsule held from) valid

    later : MadeFrom accepts b fuses capsule begun
    later = from_later accepts b fuses capsule held begun first.bank first.logged.fuses from

    unmarked : (group : ℕ) → group < 128 → is_marked (store begun) b group ≡ false
    unmarked group small =
        ap (λ (nv : List ℕ). is_marked nv b group) (image_called device.Nv (begin_plan (store held) b kind capsule.digest) held)
        ∙ begin_fresh (store held) b kind capsule.digest size none (takes_job (store held) b free) (made_digest accepts b fuses capsule held from) group small

    -- all of its pages are written
    made : mine b there ≡ whole
    made =
        (worked_replaced accepts b kind fuses capsule begun later first.logged.size).bank
        ∙ unmarked_whole accepts b kind fuses capsule begun later first.logged.size unmarked
        ∙ ap (λ (bytes : List ℕ). active_rebuilt kind bytes capsule (layout_of fuses.provision b)) first.bank

    end_left : Ending b L ends there to → IsLeftSo
    end_left e = inr (inr (mine_same b there to (bank_left b L ends there to (called_leaves b (finish_plan (store there) b) there) e) ∙ made))

    work_left : Ending b L (works ++ ends) begun to → IsLeftSo
    work_left e = elim (ends_parts b L works ends begun to e) [
      | inl broken ↦ inr (inl (open_left b L works begun to
          (deeds_open b (active_heeding kind b (mine b begun) (store begun) capsule (layout_of fuses.provision b)) begun first.logged.size (active_marks kind b (mine b begun) (store begun) capsule (layout_of fuses.provision b)))
          first.logged.size (inr broken) ∙ first.logged.opened))
      | inr done ↦ end_left done
    ]

    begin_left : Ending b L (begins ++ (works ++ ends)) held to → IsLeftSo
    begin_left e = elim (ends_parts b L begins (works ++ ends) held to e) [
      | inl broken ↦ untouched begins held refl (called_leaves b (begin_plan (store held) b kind capsule.digest) held) (inr broken)
      | inr done ↦ work_left done
    ]

  by_spent : (spent : Bool) → is_spent (store held) b ≡ spent → Ending b L (work_by_log spent b kind fuses capsule held) held to → (is_spent (store held) b ≡ true) ⊎ IsLeftSo
  by_spent true e ending = inl e
  by_spent false e ending = inr (begin_left e ending)

  -- So it is left where the work was stopped, unless the log is spent.
  pub stopped_so : IsBroken b L (working accepts b kind active that held fuses capsule) held to
      → (is_spent (store held) b ≡ true) ⊎ (done_on b to ≡ done_on b held) ⊎ (open_job (store to) b ≡ job.Job kind capsule.digest) ⊎ (mine b to ≡ active_rebuilt kind (mine b held) capsule (layout_of fuses.provision b))
  stopped_so p =
      let asks : List Move = Asks device.Nv ∷ Asks (device_of b) ∷ Asks device.Nv ∷ [] in
      elim (ends_parts b L asks (work_by_log (is_spent (store held) b) b kind fuses capsule held) held to (inr p)) [
        | inl broken ↦ inr (untouched asks held refl (refl, (refl, (refl, tt))) (inr broken))
        | inr done ↦ by_spent (is_spent (store held) b) refl done
      ]

-- of the world in which it was stopped
pub open_or_made : (b : Bank) (kind : JobKind) (digest image : List ℕ) (held : Story) (w : World)
    → (done_on b (story_of w) ≡ done_on b held) ⊎ (open_job (store (story_of w)) b ≡ job.Job kind digest) ⊎ (mine b (story_of w) ≡ image) → IsOpenOrMade b kind digest image w (counts_of held)
open_or_made bank.Bmc kind digest image held w left = left
open_or_made bank.Pch kind digest image held w left = left
