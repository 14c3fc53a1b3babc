-- What a job on the active image leaves that is begun and done at once: the image is made anew, and the bank is released by it.
use Rattle.std.proofs.Common.{◌≡◌, ◌∙◌, refl, ap, subst, sym, ℕ, Bool, true, false, List, [], ◌∷◌, ◌++◌, length, append_assoc, inl, Result, Ok}
use Rattle.pfr_flash.specs.declared.layout.Layout.{Layout}
use Rattle.pfr_flash.specs.declared.names.Bank.{Bank}
use Rattle.pfr_flash.specs.declared.names.Device.TheVariants as device
use Rattle.pfr_engine.specs.Acceptance.{Acceptance}
use Rattle.pfr_fuses.specs.FusesState.{FusesState}
use Rattle.pfr_fuses.specs.RootSlot.{layout_of}
use Rattle.pfr_manifest.specs.declared.manifest.Manifest.{Manifest}
use Rattle.pfr_capsule.specs.CapsuleState.{CapsuleState}
use Rattle.pfr_capsule.proofs.DigestLaw.{good_digest}
use Rattle.pfr_auth.specs.declared.fail.ActiveFail.{ActiveFail}
use Rattle.pfr_jobs.specs.Log.{open_job}
use Rattle.pfr_jobs.specs.LogPlans.{IsKind}
use Rattle.pfr_jobs.specs.LogState.{is_spent}
use Rattle.pfr_jobs.specs.declared.job.JobKind.{JobKind}
use Rattle.pfr_jobs.specs.declared.job.JobKind.TheVariants.{ActiveFromRecovery, RecoveryFromStaging}
use Rattle.pfr_jobs.specs.declared.job.OpenJob.TheVariants as job
use Rattle.pfr_jobs.proofs.SlotLaw.{IsDigest}
use Rattle.pfr_report.specs.Texts.{IsNoted}
use Rattle.pfr_report.specs.declared.note.Note.{Note}
use Rattle.pfr_report.specs.declared.note.What.{What}
use Rattle.pfr_report.specs.declared.note.What.TheVariants as what
use Rattle.pfr_story.specs.Story.{Story, Move, Says, Asks, after, counts_of}
use Rattle.pfr_story.specs.Bringing.{IsNotedBehind}
use Rattle.pfr_story.specs.JobPlans.{begun_job, finished_job, worked, written_over, by_log, with_job}
use Rattle.pfr_story.specs.Plans.{mine, store, judged_active, restored, by_second, checked_again}
use Rattle.pfr_story.proofs.Made.{said, said_append}
use Rattle.pfr_story.proofs.AnewLaws.{MadeFrom, IsAnew}
use Rattle.pfr_story.proofs.RestoreLaws.{RestoresFrom, found_good, not_recovery}
use Rattle.pfr_story.proofs.JobDone.{IsDone, with_job_done}

-- ---- what it is made from
pub made_digest : (accepts : Acceptance) (b : Bank) (fuses : FusesState) (capsule : CapsuleState) (story : Story) → MadeFrom accepts b fuses capsule story → IsDigest capsule.digest
made_digest accepts b fuses capsule story from =
    let d = good_digest (mine b story) (store story) from.place from.len b accepts from.good in
    subst (λ (c : CapsuleState). IsDigest c.digest) from.capsule_is (record { long = d.0; bytes = d.1 })

pub made_restored : (accepts : Acceptance) (b : Bank) (fuses : FusesState) (capsule : CapsuleState) (story : Story) → RestoresFrom accepts b fuses capsule story → MadeFrom accepts b fuses capsule story
made_restored accepts b fuses capsule story r =
    let layout : Layout = layout_of fuses.provision b in
    let found = found_good accepts b fuses capsule story r.provisioned r.layout r.bytes r.judged in
    record {
      place = layout.recovery_at;
      len = layout.area_len;
      good = found.0;
      capsule_is = found.1;
      provisioned = r.provisioned;
      inside = r.layout.inside.recovery;
      size = r.size;
      bytes = r.bytes;
    }

-- ---- its note comes last
pub record EndsTold (that : What) (moves : List Move) : Type 0 where
  pub front : List Move
  pub is : moves ≡ front ++ Says (λ _. that) ∷ []

pub told_last : (b : Bank) (kind : JobKind) (fuses : FusesState) (capsule : CapsuleState) (that : What) (story : Story) → EndsTold that (with_job b kind fuses capsule that story)
told_last b kind fuses capsule that story =
    let e = by_test (is_spent (store story) b) in
    record { front = Asks device.Nv ∷ e.front; is = ap (λ (moves : List Move). Asks device.Nv ∷ moves) e.is }
  where
    by_test : (t : Bool) → EndsTold that (by_log t b kind fuses capsule that story)
    by_test true = record { front = written_over b kind fuses capsule story; is = refl }
    by_test false =
        let begun : List Move = begun_job b kind capsule.digest story in
        let work : List Move = worked b kind fuses capsule (after begun story) in
        let end : List Move = finished_job b (after work (after begun story)) in
        record {
          front = begun ++ (work ++ end);
          is = sym (append_assoc begun (work ++ end) (Says (λ _. that) ∷ []) ∙ ap (λ (moves : List Move). begun ++ moves) (append_assoc work end (Says (λ _. that) ∷ [])));
        }

-- ---- what it leaves, and what is noted behind it
module _ (accepts : Acceptance) (b : Bank) (kind : JobKind) (active : ¬ (kind ≡ RecoveryFromStaging)) (fuses : FusesState) (capsule : CapsuleState) (that : What) (story : Story)
    (from : MadeFrom accepts b fuses capsule story) (size : length (store story) ≡ 32768) (none : open_job (store story) b ≡ job.None) (valid : IsKind kind) where
  abbrev moves : List Move
  moves = with_job b kind fuses capsule that story

  abbrev left : Story
  left = after moves story

  pub job_done : IsDone accepts b kind fuses capsule story (after (with_job b kind fuses capsule that story) story)
  job_done = with_job_done accepts b kind active fuses capsule that story from size none (made_digest accepts b fuses capsule story from) valid

  -- The image is rebuilt then, and trusted.
  pub anew : IsAnew accepts b kind fuses capsule (mine b story) (after (with_job b kind fuses capsule that story) story)
  anew = record { image = job_done.stands.bank; trusted = job_done.trusted }

  pub anew_judged : judged_active accepts b fuses (after (with_job b kind fuses capsule that story) story) ≡ Ok capsule.manifest
  anew_judged = job_done.judged

  -- so the bank is released, behind what is noted of the job
  pub anew_releases : IsNotedBehind that (what.Released b capsule.manifest.svn (counts_of (after (with_job b kind fuses capsule that story) story)))
      (said (with_job b kind fuses capsule that story ++ checked_again accepts b fuses (after (with_job b kind fuses capsule that story) story)) story)
  anew_releases =
      let e = told_last b kind fuses capsule that story in
      let tells : List Move = Says (λ _. that) ∷ [] in
      let there : Story = after e.front story in
      let released : What = what.Released b capsule.manifest.svn (counts_of left) in
      let again : List Note = said (checked_again accepts b fuses left) left in
      record {
        before = said e.front story;
        item = there.item;
        behind = again;
        is = said_append moves (checked_again accepts b fuses left) story
            ∙ ap (λ (notes : List Note). notes ++ again) (ap (λ (all : List Move). said all story) e.is ∙ said_append e.front tells story)
            ∙ append_assoc (said e.front story) (said tells there) again;
        noted = subst (λ (r : Result Manifest ActiveFail). IsNoted (said (by_second b r left) left) released) (sym anew_judged) (inl refl);
      }

-- Behind a restore from a good capsule the active image is judged well, by the capsule's manifest.
pub restored_judged : (accepts : Acceptance) (b : Bank) (level : ℕ) (fuses : FusesState) (capsule : CapsuleState) (story : Story) → RestoresFrom accepts b fuses capsule story
    → length (store story) ≡ 32768 → open_job (store story) b ≡ job.None → IsKind (ActiveFromRecovery level) → judged_active accepts b fuses (after (restored b level fuses capsule story) story) ≡ Ok capsule.manifest
restored_judged accepts b level fuses capsule story r size none valid =
    anew_judged accepts b (ActiveFromRecovery level) (not_recovery level) fuses capsule (what.Restored b level) story (made_restored accepts b fuses capsule story r) size none valid
