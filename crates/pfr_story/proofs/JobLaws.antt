-- How a job on a bank's active image ends: where it is told to be done, the image is made anew, whatever failed behind that.
use Rattle.std.proofs.Common.{◌≡◌, ◌∙◌, refl, sym, ap, subst, false, List, [], ◌∷◌, ◌++◌, length, append_assoc, ◌⊎◌, inl, inr, Some, Option, Result, Ok, Err}
use Rattle.pfr_flash.specs.declared.names.Bank.{Bank}
use Rattle.pfr_flash.specs.declared.names.Bank.TheVariants as bank
use Rattle.pfr_flash.specs.declared.names.Counts.{Counts}
use Rattle.pfr_flash.specs.declared.names.Device.{Device}
use Rattle.pfr_flash.specs.declared.names.Device.TheVariants as device
use Rattle.pfr_engine.specs.Acceptance.{Acceptance}
use Rattle.pfr_fuses.specs.FusesState.{FusesState}
use Rattle.pfr_manifest.specs.declared.manifest.Manifest.{Manifest}
use Rattle.pfr_capsule.specs.CapsuleState.{CapsuleState}
use Rattle.pfr_auth.specs.declared.fail.ActiveFail.{ActiveFail}
use Rattle.pfr_jobs.specs.Log.{open_job}
use Rattle.pfr_jobs.specs.LogPlans.{IsKind, begin_plan}
use Rattle.pfr_jobs.specs.LogState.{is_spent}
use Rattle.pfr_jobs.specs.declared.job.JobKind.{JobKind}
use Rattle.pfr_jobs.specs.declared.job.JobKind.TheVariants.{RecoveryFromStaging}
use Rattle.pfr_jobs.specs.declared.job.OpenJob.TheVariants as job
use Rattle.pfr_report.specs.declared.note.LockWhy.{LockWhy}
use Rattle.pfr_report.specs.declared.note.What.{What}
use Rattle.pfr_report.specs.declared.note.What.TheVariants as what
use Rattle.pfr_story.specs.Story.{Story, Move, Says, Does, Asks, after, noted, counts_of, device_of}
use Rattle.pfr_story.specs.Safety.{Rule, AllGood, AllSafe, Keeps}
use Rattle.pfr_story.specs.JobPlans.{with_job}
use Rattle.pfr_story.specs.Plans.{mine, store, judged_active, by_second, checked_again}
use Rattle.pfr_story.specs.Turn.{fault_of}
use Rattle.pfr_story.proofs.Sequence.{after-append}
use Rattle.pfr_story.proofs.SafetyLaws.{kept_by}
use Rattle.pfr_story.proofs.Traces.{Saying}
use Rattle.pfr_story.proofs.Endings.{IsTrouble, IsBroken, Ending, ends_behind, ends_parts, ended_trace, ended_is, ended_good}
use Rattle.pfr_story.proofs.AnewLaws.{MadeFrom, IsAnew, anew_later}
use Rattle.pfr_story.proofs.JobFront.{job_work, job_told, job_work_allowed}
use Rattle.pfr_story.proofs.JobQuiet.{told_jobs}
use Rattle.pfr_story.proofs.JobRestores.{anew}
use Rattle.pfr_story.proofs.JobRules.{AllInLog}

-- ---- moves that do no operation
abbrev pub Still : Rule
Still (Says w) story = Unit {0}
Still (Does which op) story = ⊥
Still (Asks which) story = Unit {0}

-- the devices have done the same
pub record SamePasts (from to : Story) : Type 0 where
  pub bmc : to.bmc ≡ from.bmc
  pub pch : to.pch ≡ from.pch
  pub nv : to.nv ≡ from.nv

still_keeps : (from : Story) → Keeps Still (SamePasts from)
still_keeps from (Says w) story g p = record { bmc = p.bmc; pch = p.pch; nv = p.nv }
still_keeps from (Does which op) story g p = absurd g
still_keeps from (Asks which) story g p = p

pub same_pasts : (b : Bank) (L : Type 0) (moves : List Move) (from to : Story) → AllSafe Still moves from → Ending b L moves from to → SamePasts from to
same_pasts b L moves from to safe e =
    let good = ended_good b L moves from to Still safe (λ which w story trouble. tt) e in
    subst (λ (s : Story). SamePasts from s) (sym (ended_is b L moves from to e))
    (kept_by Still (SamePasts from) (still_keeps from) (ended_trace b L moves from to e) from good (record { bmc = refl; pch = refl; nv = refl }))

pub same_counts : (from to : Story) → SamePasts from to → counts_of to ≡ counts_of from
same_counts from to p = let bmc = p.bmc in let pch = p.pch in let nv = p.nv in cc

pub same_mine : (b : Bank) (from to : Story) → SamePasts from to → mine b to ≡ mine b from
same_mine bank.Bmc from to p = let same = p.bmc in cc
same_mine bank.Pch from to p = let same = p.pch in cc

same_store : (from to : Story) → SamePasts from to → store to ≡ store from
same_store from to p = let same = p.nv in cc

-- it is another note
abbrev pub IsOther : What → What → Story → Type 0
IsOther that note story = ¬ (note ≡ that)

-- ---- the job, of a bank that is held
module _ (accepts : Acceptance) (b : Bank) (kind : JobKind) (active : ¬ (kind ≡ RecoveryFromStaging)) (that : What) (held : Story) (fuses : FusesState) (capsule : CapsuleState) where
  abbrev work : List Move
  work = job_work b kind fuses capsule held

  abbrev left : Story
  left = after (with_job b kind fuses capsule that held) held

  -- the store and the bank are asked, and the job is done
  abbrev pub working : List Move
  working = Asks device.Nv ∷ Asks (device_of b) ∷ job_work b kind fuses capsule held

  -- then it is told, and the bank is checked again
  abbrev pub whole_job : List Move
  whole_job = Asks device.Nv ∷ Asks (device_of b) ∷ with_job b kind fuses capsule that held ++ checked_again accepts b fuses left

  job_parts : whole_job ≡ working ++ (Says (λ _. that) ∷ checked_again accepts b fuses left)
  job_parts =
      ap (λ (moves : List Move). Asks device.Nv ∷ Asks (device_of b) ∷ moves)
      (ap (λ (moves : List Move). moves ++ checked_again accepts b fuses left) (job_told b kind fuses capsule held that) ∙ append_assoc work (Says (λ _. that) ∷ []) (checked_again accepts b fuses left))

  by_second_still : (judged : Result Manifest ActiveFail) (there story : Story) → AllSafe Still (by_second b judged there) story
  by_second_still (Ok m) there story = (tt, tt)
  by_second_still (Err cause) there story = tt

  module _ (from : MadeFrom accepts b fuses capsule held) (size : length (store held) ≡ 32768) (none : open_job (store held) b ≡ job.None) (valid : IsKind kind) (L : Type 0) (to : Story) where
    behind_told : Ending b L (Says (λ _. that) ∷ checked_again accepts b fuses left) (after working held) to → IsAnew accepts b kind fuses capsule (mine b held) to
    behind_told e =
        let told : Story = noted (λ _. that) (after work held) in
        let again : List Move = checked_again accepts b fuses left in
        let last : Ending b L again told to = ends_behind b L (λ _. that) again (after work held) to e in
        let same : SamePasts told to = same_pasts b L again told to (tt, by_second_still (judged_active accepts b fuses left) left told) last in
        let is : left ≡ told = ap (λ (moves : List Move). after moves held) (job_told b kind fuses capsule held that) ∙ after-append work (Says (λ _. that) ∷ []) held in
        anew_later accepts b kind fuses capsule (mine b held) told to (same_mine b told to same) (same_store told to same)
        (subst (λ (s : Story). IsAnew accepts b kind fuses capsule (mine b held) s) is (anew accepts b kind active fuses capsule that held from size none valid))

    -- Either the work was cut short, or the image is made anew.
    pub job_ends : Ending b L whole_job held to → IsBroken b L working held to ⊎ IsAnew accepts b kind fuses capsule (mine b held) to
    job_ends e =
        let parts : Ending b L (working ++ (Says (λ _. that) ∷ checked_again accepts b fuses left)) held to = subst (λ (moves : List Move). Ending b L moves held to) job_parts e in
        elim (ends_parts b L working (Says (λ _. that) ∷ checked_again accepts b fuses left) held to parts) [ inl broken ↦ inl broken | inr told ↦ inr (behind_told told) ]

  -- ---- and where the work was cut short it isn't told
  module _ (L : Type 0) (lock : (cause : LockWhy) (at : Counts) → ¬ (what.Locked b cause at ≡ that)) (loss : (d : Option Device) (at : Counts) → ¬ (what.Lost d at ≡ that)) where
    trouble_other : (which : Device) (w : Counts → What) (story : Story) → IsTrouble b L which w → Saying (IsOther that) (Says w) story
    trouble_other which w story (inl e) = subst (λ (v : Counts → What). Saying (IsOther that) (Says v) story) (sym e) (lock (fault_of which) (counts_of story))
    trouble_other which w story (inr (e, known)) = subst (λ (v : Counts → What). Saying (IsOther that) (Says v) story) (sym e) (loss (Some which) (counts_of story))

    pub cut_untold : (is_spent (store held) b ≡ false → AllInLog b (begin_plan (store held) b kind capsule.digest)) → (to : Story) (p : IsBroken b L working held to)
        → AllGood (Saying (IsOther that)) (ended_trace b L working held to (inr p)) held
    cut_untold own to p =
        ended_good b L working held to (Saying (IsOther that)) (tt, (tt, job_work_allowed b kind fuses capsule held own (Saying (IsOther that)) (told_jobs b (IsOther that)))) trouble_other (inr p)
