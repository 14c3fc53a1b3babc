-- What work on a job leaves, by whole images.
use Rattle.std.proofs.Common.{◌≡◌, ◌∙◌, refl, sym, ap, subst, ℕ, List, [], ◌∷◌, Result, Ok}
use Rattle.pfr_flash.specs.declared.layout.Layout.{Layout}
use Rattle.pfr_flash.specs.Operation.{play}
use Rattle.pfr_flash.specs.declared.names.Bank.{Bank}
use Rattle.pfr_flash.specs.declared.names.Device.TheVariants as device
use Rattle.pfr_engine.specs.Acceptance.{Acceptance}
use Rattle.pfr_fuses.specs.Changes.{raised}
use Rattle.pfr_fuses.specs.FusesState.{FusesState}
use Rattle.pfr_fuses.specs.RootSlot.{layout_of}
use Rattle.pfr_manifest.specs.declared.manifest.Manifest.{Manifest}
use Rattle.pfr_capsule.specs.CapsuleState.{CapsuleState}
use Rattle.pfr_capsule.specs.declared.fail.CapsuleFail.{CapsuleFail}
use Rattle.pfr_auth.specs.Areas.{judge_area}
use Rattle.pfr_auth.specs.declared.areas.Area.TheVariants.{Recovery}
use Rattle.pfr_jobs.specs.declared.job.JobKind.{JobKind}
use Rattle.pfr_jobs.specs.declared.job.JobKind.TheVariants.{ActiveFromRecovery, ActiveFromStaging, RecoveryFromStaging}
use Rattle.pfr_jobs.specs.LogPlans.{finish_plan}
use Rattle.pfr_report.specs.declared.note.What.{What}
use Rattle.pfr_story.specs.Story.{Story, Says, after, device_of}
use Rattle.pfr_story.specs.Plans.{mine, store}
use Rattle.pfr_story.specs.JobPlans.{finished_job, abandoned, judged_source, recovery_job}
use Rattle.pfr_story.specs.JobContents.{CanWork, ResumesWhole, RebuildsWhole, CopiesWhole}
use Rattle.pfr_story.proofs.Sequence.{after-append}
use Rattle.pfr_story.proofs.SafetyLaws.{image_noted, image_called}
use Rattle.pfr_story.proofs.AnewLaws.{MadeFrom}
use Rattle.pfr_story.proofs.RestoreLaws.{found_good, found_staged}
use Rattle.pfr_story.proofs.JobPages.{IsSameCapsule}
use Rattle.pfr_story.proofs.JobSteps.{bank_called}
use Rattle.pfr_story.proofs.JobDone.{with_job_done}
use Rattle.pfr_story.proofs.JobRestores.{made_digest}
use Rattle.pfr_story.proofs.JobRecovery.{IsStaged, second_good, second_stands}
use Rattle.pfr_story.proofs.JobRecoveryBegun.{IsRecoveryDone, recovery_job_ends}
use Rattle.pfr_story.proofs.JobResumed.{resumed_ends}

-- what is made of a capsule in its source area
pub source_made : (accepts : Acceptance) (b : Bank) (kind : JobKind) (fuses : FusesState) (capsule : CapsuleState) (story : Story) → CanWork b fuses story → judged_source accepts b fuses kind story ≡ Ok capsule → MadeFrom accepts b fuses capsule story
source_made accepts b (ActiveFromRecovery level) fuses capsule story h j =
    let layout : Layout = layout_of fuses.provision b in
    let found = found_good accepts b fuses capsule story h.provisioned h.layout h.bytes j in
    record { place = layout.recovery_at; len = layout.area_len; good = found.0; capsule_is = found.1; provisioned = h.provisioned; inside = h.layout.inside.recovery; size = h.size; bytes = h.bytes }
source_made accepts b (ActiveFromStaging dynamic) fuses capsule story h j =
    let layout : Layout = layout_of fuses.provision b in
    let found = found_staged accepts b fuses capsule story h.provisioned h.layout h.bytes j in
    record { place = layout.staging_at; len = layout.area_len; good = found.0; capsule_is = found.1; provisioned = h.provisioned; inside = h.layout.inside.staging; size = h.size; bytes = h.bytes }
source_made accepts b RecoveryFromStaging fuses capsule story h j =
    let layout : Layout = layout_of fuses.provision b in
    let found = found_staged accepts b fuses capsule story h.provisioned h.layout h.bytes j in
    record { place = layout.staging_at; len = layout.area_len; good = found.0; capsule_is = found.1; provisioned = h.provisioned; inside = h.layout.inside.staging; size = h.size; bytes = h.bytes }

pub resumes : ResumesWhole
resumes notes accepts which fuses story h =
    let e = resumed_ends notes accepts which fuses story h in
    record { holds = e.bank; opened = e.opened; says = e.says; other = e.other }

pub rebuilds : RebuildsWhole
rebuilds accepts which kind fuses capsule that story h none valid active j =
    let from = source_made accepts which kind fuses capsule story h j in
    let e = with_job_done accepts which kind active fuses capsule that story from h.store_size none (made_digest accepts which fuses capsule story from) valid in
    (record { holds = e.stands.bank; opened = e.stands.logged.opened; says = e.stands.logged.fuses ∙ h.provisioned; other = e.stands.other }, e.trusted)

pub copies : CopiesWhole
copies given_up told accepts which fuses capsule story h none free j =
    let layout : Layout = layout_of fuses.provision which in
    let from = source_made accepts which RecoveryFromStaging fuses capsule story h j in
    let found = found_staged accepts which fuses capsule story h.provisioned h.layout h.bytes j in
    let staged : IsStaged accepts which fuses capsule story = record {
      good = found.0;
      same = subst (λ (c : CapsuleState). IsSameCapsule found.0.capsule c) found.1 (record { len = refl; digest = refl; manifest = refl });
      provisioned = h.provisioned;
      layout = h.layout;
      size = h.size;
      bytes = h.bytes;
      store_size = h.store_size;
    } in
    let new : Story = after (recovery_job given_up told accepts which fuses capsule story) story in
    let e : IsRecoveryDone accepts which fuses capsule story new = recovery_job_ends given_up told accepts which fuses h.two capsule story staged none free (made_digest accepts which fuses capsule story from) in
    let copied = second_good accepts which fuses capsule story staged in
    let there : judge_area Recovery which (mine which new) fuses accepts ≡ Ok copied.found =
    ap (λ (bytes : List ℕ). judge_area Recovery which bytes fuses accepts) (e.image ∙ sym (second_stands accepts which fuses capsule story staged).bank) ∙ copied.judged in
    let same : e.found ≡ copied.found = same_found e.found copied.found (sym e.judged ∙ there) in
    let svn : e.found.manifest.svn ≡ capsule.manifest.svn = ap (λ (c : CapsuleState). c.manifest.svn) same ∙ ap (λ (m : Manifest). m.svn) copied.manifest in
    record { holds = e.image; opened = e.opened; says = e.fuses_say ∙ ap (λ (n : ℕ). Ok (raised fuses which n)) svn; other = e.other }
  where
    found_is : CapsuleState → Result CapsuleState CapsuleFail
    found_is c = Ok c

    same_found : (c d : CapsuleState) → found_is c ≡ found_is d → c ≡ d
    same_found c d e = cc

-- ---- a job that is given up: its end is written, and nothing else
pub given_up_store : (that : What) (b : Bank) (story : Story) → store (after (abandoned that b story) story) ≡ play (store story) (finish_plan (store story) b)
given_up_store that b story =
    ap (λ (s : Story). store s) (after-append (finished_job b story) (Says (λ _. that) ∷ []) story) ∙ image_called device.Nv (finish_plan (store story) b) story

pub given_up_bank : (that : What) (b c : Bank) (story : Story) → mine c (after (abandoned that b story) story) ≡ mine c story
given_up_bank that b c story =
    ap (λ (s : Story). mine c s) (after-append (finished_job b story) (Says (λ _. that) ∷ []) story)
    ∙ image_noted (device_of c) (λ _. that) (after (finished_job b story) story) ∙ bank_called c (finish_plan (store story) b) story
