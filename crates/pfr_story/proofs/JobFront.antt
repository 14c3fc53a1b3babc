-- A job on an active image, and then its note: what is done before it tells nothing.
use Rattle.std.proofs.Common.{◌≡◌, ◌∙◌, refl, sym, ap, subst, Bool, true, false, List, [], ◌∷◌, ◌++◌, append_assoc, inr}
use Rattle.pfr_flash.specs.declared.names.Bank.{Bank}
use Rattle.pfr_flash.specs.declared.names.Counts.{Counts}
use Rattle.pfr_flash.specs.declared.names.Device.{Device}
use Rattle.pfr_flash.specs.declared.names.Device.TheVariants as device
use Rattle.pfr_fuses.specs.FusesState.{FusesState}
use Rattle.pfr_capsule.specs.CapsuleState.{CapsuleState}
use Rattle.pfr_jobs.specs.LogPlans.{begin_plan}
use Rattle.pfr_jobs.specs.LogState.{is_spent}
use Rattle.pfr_jobs.specs.declared.job.JobKind.{JobKind}
use Rattle.pfr_report.specs.declared.note.What.{What}
use Rattle.pfr_story.specs.JobPlans.{begun_job, finished_job, worked, written_over, by_log, with_job}
use Rattle.pfr_story.specs.Plans.{store, asks_store}
use Rattle.pfr_story.specs.Safety.{Rule, AllSafe, AllMake}
use Rattle.pfr_story.specs.Story.{Story, Move, Says, Does, Asks, Plan, after, then, operated}
use Rattle.pfr_story.proofs.BringRules.{IsOwn, Making, safe_made}
use Rattle.pfr_story.proofs.JobQuiet.{own_jobs, told_jobs}
use Rattle.pfr_story.proofs.JobRules.{AllInLog, AllowsJobs}
use Rattle.pfr_story.proofs.JobWalks.{begin_allowed, finish_allowed, work_allowed, write_allowed}
use Rattle.pfr_story.proofs.SafetyLaws.{AllSafe-append}
use Rattle.pfr_story.proofs.Traces.{Saying}

-- ---- what is done before the note
abbrev pub work_by_log : Bool → Bank → JobKind → FusesState → CapsuleState → Plan
work_by_log true b kind fuses capsule = written_over b kind fuses capsule
work_by_log false b kind fuses capsule = then (begun_job b kind capsule.digest) (then (worked b kind fuses capsule) (finished_job b))

abbrev pub job_work : Bank → JobKind → FusesState → CapsuleState → Plan
job_work b kind fuses capsule = then asks_store (λ story. work_by_log (is_spent (store story) b) b kind fuses capsule story)

-- nothing was told
pub record SameTold (from to : Story) : Type 0 where
  pub item : to.item ≡ from.item
  pub notes : to.notes ≡ from.notes
  pub guards : to.guards ≡ from.guards

told_then : (a b c : Story) → SameTold a b → SameTold b c → SameTold a c
told_then a b c p q = record { item = q.item ∙ p.item; notes = q.notes ∙ p.notes; guards = q.guards ∙ p.guards }

abbrev pub NoNote : (Counts → What) → Type 0
NoNote w = ⊥

pub untold_same : (D : Device → Type 0) (moves : List Move) (story : Story) → AllMake D NoNote moves → SameTold story (after moves story)
untold_same D [] story all = record { item = refl; notes = refl; guards = refl }
untold_same D (Says w ∷ moves) story all = absurd all.0
untold_same D (Asks which ∷ moves) story all = untold_same D moves story all.1
untold_same D (Does device.Bmc op ∷ moves) story all =
    told_then story (operated device.Bmc op story) (after moves (operated device.Bmc op story)) (record { item = refl; notes = refl; guards = refl }) (untold_same D moves (operated device.Bmc op story) all.1)
untold_same D (Does device.Pch op ∷ moves) story all =
    told_then story (operated device.Pch op story) (after moves (operated device.Pch op story)) (record { item = refl; notes = refl; guards = refl }) (untold_same D moves (operated device.Pch op story) all.1)
untold_same D (Does device.Nv op ∷ moves) story all =
    told_then story (operated device.Nv op story) (after moves (operated device.Nv op story)) (record { item = refl; notes = refl; guards = refl }) (untold_same D moves (operated device.Nv op story) all.1)

module _ (b : Bank) (kind : JobKind) (fuses : FusesState) (capsule : CapsuleState) (story : Story) where
  -- the whole job is this, and then its note
  pub job_told : (that : What) → with_job b kind fuses capsule that story ≡ job_work b kind fuses capsule story ++ Says (λ _. that) ∷ []
  job_told that = ap (λ (moves : List Move). Asks device.Nv ∷ moves) (by_test (is_spent (store story) b))
    where
      by_test : (t : Bool) → by_log t b kind fuses capsule that story ≡ work_by_log t b kind fuses capsule story ++ Says (λ _. that) ∷ []
      by_test true = refl
      by_test false =
          let begun : List Move = begun_job b kind capsule.digest story in
          let work : List Move = worked b kind fuses capsule (after begun story) in
          let end : List Move = finished_job b (after work (after begun story)) in
          sym (append_assoc begun (work ++ end) (Says (λ _. that) ∷ []) ∙ ap (λ (moves : List Move). begun ++ moves) (append_assoc work end (Says (λ _. that) ∷ [])))

  module _ (own : is_spent (store story) b ≡ false → AllInLog b (begin_plan (store story) b kind capsule.digest)) where
    -- it is safe for each rule that allows jobs
    pub job_work_allowed : (G : Rule) → AllowsJobs G b → AllSafe G (job_work b kind fuses capsule story) story
    job_work_allowed G h = (h.asks device.Nv story (inr refl), by_test (is_spent (store story) b) refl)
      where
        by_test : (t : Bool) → is_spent (store story) b ≡ t → AllSafe G (work_by_log t b kind fuses capsule story) story
        by_test true e = write_allowed G b h kind fuses capsule story
        by_test false e =
            let begun : List Move = begun_job b kind capsule.digest story in
            let there : Story = after begun story in
            let work : List Move = worked b kind fuses capsule there in
            AllSafe-append G begun (work ++ finished_job b (after work there)) story (begin_allowed G b h kind capsule.digest story (own e))
            (AllSafe-append G work (finished_job b (after work there)) there (work_allowed G b h kind fuses capsule there) (finish_allowed G b h (after work there)))

    -- it calls the bank's device and the store alone, and tells nothing
    pub job_work_makes : AllMake (IsOwn b) NoNote (job_work b kind fuses capsule story)
    job_work_makes = safe_made (IsOwn b) NoNote (job_work b kind fuses capsule story) story (job_work_allowed (Making (IsOwn b) NoNote) (own_jobs b NoNote))

    pub job_untold : SameTold story (after (job_work b kind fuses capsule story) story)
    job_untold = untold_same (IsOwn b) (job_work b kind fuses capsule story) story job_work_makes

    -- So its note is true where it is true behind this work.
    pub job_true : (F : What → Story → Type 0) (that : What) → F that (after (job_work b kind fuses capsule story) story) → AllSafe (Saying F) (with_job b kind fuses capsule that story) story
    job_true F that true_there =
        subst (λ (moves : List Move). AllSafe (Saying F) moves story) (sym (job_told that))
        (AllSafe-append (Saying F) (job_work b kind fuses capsule story) (Says (λ _. that) ∷ []) story (job_work_allowed (Saying F) (told_jobs b F)) (true_there, tt))
