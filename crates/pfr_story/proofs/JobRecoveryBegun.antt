-- Where a recovery job leads that is begun and done at once.
use Rattle.std.proofs.Common.{◌≡◌, ◌∙◌, ℕ, ◌+◌, ◌*◌, ◌/◌, ◌≤◌, ◌<◌, ◌&&◌, refl, sym, ap, subst, arith, Bool, true, false, if◌then◌else◌, List, [], ◌∷◌, length, Result, Ok}
use Rattle.std.proofs.lemmas.Bool.{eq-eqb}
use Rattle.pfr_flash.specs.Bytes.{AreBytes, bytes_at}
use Rattle.pfr_flash.specs.Layout.{IsBankSize, IsValidLayout}
use Rattle.pfr_flash.specs.declared.layout.Layout.{Layout}
use Rattle.pfr_flash.specs.declared.names.Bank.{Bank}
use Rattle.pfr_flash.specs.declared.names.Device.TheVariants as device
use Rattle.pfr_engine.specs.Acceptance.{Acceptance}
use Rattle.pfr_fuses.specs.Changes.{raised}
use Rattle.pfr_fuses.specs.FusesState.{FusesState}
use Rattle.pfr_fuses.specs.FusesOf.{fuses_of}
use Rattle.pfr_fuses.specs.RootSlot.{layout_of}
use Rattle.pfr_fuses.specs.declared.profile.Profile.TheVariants as profile
use Rattle.pfr_capsule.specs.CapsuleState.{CapsuleState}
use Rattle.pfr_capsule.specs.declared.fail.CapsuleFail.{CapsuleFail}
use Rattle.pfr_auth.specs.Areas.{judge_area}
use Rattle.pfr_auth.specs.declared.areas.Area.TheVariants.{Recovery}
use Rattle.pfr_jobs.specs.Log.{open_job}
use Rattle.pfr_jobs.specs.LogPlans.{begin_plan}
use Rattle.pfr_jobs.specs.LogState.{is_marked, is_spent}
use Rattle.pfr_jobs.specs.declared.job.JobKind.TheVariants.{RecoveryFromStaging}
use Rattle.pfr_jobs.specs.declared.job.OpenJob.{OpenJob}
use Rattle.pfr_jobs.specs.declared.job.OpenJob.TheVariants as job
use Rattle.pfr_jobs.proofs.SlotLaw.{IsDigest}
use Rattle.pfr_strokes.specs.Replaced.{replaced}
use Rattle.pfr_rebuilt.specs.Copying.{recovery_page, recovery_pages, recovery_rebuilt}
use Rattle.pfr_rebuilt.specs.Passing.{group_pages}
use Rattle.pfr_recoverable.specs.Recoverable.{HasGoodRecovery}
use Rattle.pfr_report.specs.declared.note.What.{What}
use Rattle.pfr_story.specs.Story.{Story, after, other_bank}
use Rattle.pfr_story.specs.Plans.{mine, store, judged_recovery}
use Rattle.pfr_story.specs.JobPlans.{begun_job, copied_again, same_digest, recovery_work, recovery_job}
use Rattle.pfr_story.specs.JobContents.{is_found, recovery_resumed, recovery_redone, recovery_done}
use Rattle.pfr_story.proofs.Sequence.{after-append}
use Rattle.pfr_story.proofs.SafetyLaws.{image_called}
use Rattle.pfr_story.proofs.JobEnds.{left_all, group_small}
use Rattle.pfr_story.proofs.JobFresh.{takes_job, begin_fresh}
use Rattle.pfr_story.proofs.JobPages.{same_again, good_again}
use Rattle.pfr_story.proofs.JobSteps.{StandsSo, begun_stands, recovery_below}
use Rattle.pfr_story.proofs.JobRecovery.{IsStaged, second_stands, IsCopied, second_good}
use Rattle.pfr_story.proofs.JobRecoveryWork.{IsUpdated, recovery_work_ends}
use Rattle.pfr_story.proofs.JobCounts.{done_on, store_count}

pub same_spelled : (xs : List ℕ) → same_digest xs xs ≡ true
same_spelled [] = refl
same_spelled (x ∷ xs) = ap (λ (t : Bool). t && same_digest xs xs) (eq-eqb x x refl) ∙ same_spelled xs

-- what is staged stays while the bank does
pub staged_still : (accepts : Acceptance) (b : Bank) (fuses : FusesState) (capsule : CapsuleState) (running : OpenJob) (story new : Story) → StandsSo b running (mine b story) story new
    → IsStaged accepts b fuses capsule story → IsStaged accepts b fuses capsule new
staged_still accepts b fuses capsule running story new p staged =
    let layout : Layout = layout_of fuses.provision b in
    let long : length (mine b new) ≡ length (mine b story) = ap (λ (bytes : List ℕ). length bytes) p.bank in
    let still = ap (λ (bytes : List ℕ). bytes_at bytes layout.staging_at layout.area_len) p.bank in
    let again = good_again (mine b story) (mine b new) (store story) (store new) layout.staging_at layout.area_len b accepts staged.good long staged.size.blocks still p.logged.fuses in
    record {
      good = again.0;
      same = same_again again.0.capsule staged.good.capsule capsule again.1 staged.same;
      provisioned = p.logged.fuses ∙ staged.provisioned;
      layout = subst (λ (n : ℕ). IsValidLayout layout n) (sym long) staged.layout;
      size = subst (λ (n : ℕ). IsBankSize n) (sym long) staged.size;
      bytes = subst AreBytes (sym p.bank) staged.bytes;
      store_size = p.logged.size;
    }

-- where no group is marked, one pass copies the whole capsule
pub unmarked_copied : (accepts : Acceptance) (b : Bank) (fuses : FusesState) (capsule : CapsuleState) (story : Story) → IsStaged accepts b fuses capsule story → ((group : ℕ) → group < 128 → is_marked (store story) b group ≡ false)
    → recovery_done accepts b (mine b story) (store story) fuses capsule ≡ recovery_rebuilt (mine b story) (layout_of fuses.provision b).staging_at capsule.length (layout_of fuses.provision b)
unmarked_copied accepts b fuses capsule story staged none =
    let image : List ℕ = mine b story in
    let layout : Layout = layout_of fuses.provision b in
    let whole : List ℕ = recovery_rebuilt image layout.staging_at capsule.length layout in
    let once : recovery_resumed b image (store story) capsule.length layout ≡ whole =
    ap (λ (list : List ℕ). replaced image (recovery_page image layout.staging_at capsule.length layout) list)
    (left_all (is_marked (store story) b) (group_pages (length image)) (recovery_pages layout capsule.length (length image))
    (λ n one. none (n / group_pages (length image)) (group_small (length image) n (recovery_below b image (store story) capsule.length layout n one)))) in
    let copied : IsCopied accepts b fuses capsule.digest capsule.manifest (after (copied_again b fuses capsule story) story) = second_good accepts b fuses capsule story staged in
    let judged : judge_area Recovery b whole fuses accepts ≡ Ok copied.found =
    ap (λ (bytes : List ℕ). judge_area Recovery b bytes fuses accepts) (sym (second_stands accepts b fuses capsule story staged).bank) ∙ copied.judged in
    let spelled : same_digest copied.found.digest capsule.digest ≡ true = ap (λ (digest : List ℕ). same_digest digest capsule.digest) copied.same ∙ same_spelled capsule.digest in
    let found : is_found (judge_area Recovery b whole fuses accepts) capsule.digest ≡ true = ap (λ (r : Result CapsuleState CapsuleFail). is_found r capsule.digest) judged ∙ spelled in
    ap (λ (bytes : List ℕ). recovery_redone accepts b bytes fuses capsule) once
    ∙ ap (λ (t : Bool). if t then whole else recovery_rebuilt whole layout.staging_at capsule.length layout) found

-- The recovery area holds the staged capsule, the floor is raised to its version, and nothing is open.
pub record IsRecoveryDone (accepts : Acceptance) (b : Bank) (fuses : FusesState) (capsule : CapsuleState) (old new : Story) : Type 0 where
  pub found : CapsuleState
  pub digest : found.digest ≡ capsule.digest
  pub judged : judged_recovery accepts b fuses new ≡ Ok found
  pub image : mine b new ≡ recovery_rebuilt (mine b old) (layout_of fuses.provision b).staging_at capsule.length (layout_of fuses.provision b)
  pub other : mine (other_bank b) new ≡ mine (other_bank b) old
  pub size : length (store new) ≡ 32768
  pub fuses_say : fuses_of (store new) ≡ Ok (raised fuses b found.manifest.svn)
  pub opened : open_job (store new) b ≡ job.None
  pub good : HasGoodRecovery b (mine b new) (store new) accepts
  pub few : done_on b new ≤ done_on b old + 34 * length (recovery_pages (layout_of fuses.provision b) capsule.length (length (mine b old)))

module _ (given_up : What) (told : ℕ → What) (accepts : Acceptance) (b : Bank) (fuses : FusesState) (two : fuses.profile ≡ profile.Two) (capsule : CapsuleState) (story : Story)
    (staged : IsStaged accepts b fuses capsule story) (none : open_job (store story) b ≡ job.None) (free : is_spent (store story) b ≡ false) (d : IsDigest capsule.digest) where
  abbrev begun : Story
  begun = after (begun_job b RecoveryFromStaging capsule.digest story) story

  first : StandsSo b (job.Job RecoveryFromStaging capsule.digest) (mine b story) story (after (begun_job b RecoveryFromStaging capsule.digest story) story)
  first = begun_stands b RecoveryFromStaging capsule.digest story staged.store_size none (takes_job (store story) b free) d tt

  staged_then : IsStaged accepts b fuses capsule begun
  staged_then = staged_still accepts b fuses capsule (job.Job RecoveryFromStaging capsule.digest) story begun first staged

  unmarked : (group : ℕ) → group < 128 → is_marked (store begun) b group ≡ false
  unmarked group small =
      ap (λ (nv : List ℕ). is_marked nv b group) (image_called device.Nv (begin_plan (store story) b RecoveryFromStaging capsule.digest) story)
      ∙ begin_fresh (store story) b RecoveryFromStaging capsule.digest staged.store_size none (takes_job (store story) b free) d group small

  -- A recovery job that is begun and done at once leads there.
  pub recovery_job_ends : IsRecoveryDone accepts b fuses capsule story (after (recovery_job given_up told accepts b fuses capsule story) story)
  recovery_job_ends =
      let layout : Layout = layout_of fuses.provision b in
      let end : Story = after (recovery_work given_up told accepts b fuses capsule begun) begun in
      let u : IsUpdated accepts b fuses capsule begun end = recovery_work_ends given_up told accepts b fuses two capsule begun staged_then (λ e. absurd (let o = first.logged.opened in cc)) in
      let pages = ap (λ (bytes : List ℕ). length (recovery_pages layout capsule.length (length bytes))) first.bank in
      subst (λ (s : Story). IsRecoveryDone accepts b fuses capsule story s) (sym (after-append (begun_job b RecoveryFromStaging capsule.digest story) (recovery_work given_up told accepts b fuses capsule begun) story)) (record {
        found = u.found;
        digest = u.digest;
        judged = u.judged;
        image = u.image ∙ unmarked_copied accepts b fuses capsule begun staged_then unmarked ∙ ap (λ (bytes : List ℕ). recovery_rebuilt bytes layout.staging_at capsule.length layout) first.bank;
        other = u.other ∙ first.other;
        size = u.size;
        fuses_say = u.fuses_say;
        opened = u.opened;
        good = u.good;
        few = omega (arith, u.few, pages, store_count b (begin_plan (store story) b RecoveryFromStaging capsule.digest) story);
      })
