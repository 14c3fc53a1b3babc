-- Where the whole work on a recovery job leads, and in how many operations.
use Rattle.std.proofs.Common.{◌≡◌, ◌∙◌, ℕ, ◌+◌, ◌*◌, ◌≤◌, refl, sym, ap, subst, arith, Bool, true, false, if◌then◌else◌, List, [], ◌∷◌, ◌++◌, length, Result, Ok, Err}
use Rattle.pfr_flash.specs.Bytes.{AreBytes}
use Rattle.pfr_flash.specs.declared.layout.Layout.{Layout}
use Rattle.pfr_flash.specs.declared.names.Bank.{Bank}
use Rattle.pfr_engine.specs.Acceptance.{Acceptance}
use Rattle.pfr_fuses.specs.Changes.{raise_plan, raised}
use Rattle.pfr_fuses.specs.FusesState.{FusesState, floor_of}
use Rattle.pfr_fuses.specs.FusesOf.{fuses_of}
use Rattle.pfr_fuses.specs.RootSlot.{layout_of}
use Rattle.pfr_fuses.specs.declared.profile.Profile.TheVariants as profile
use Rattle.pfr_capsule.specs.CapsuleState.{CapsuleState}
use Rattle.pfr_capsule.specs.declared.fail.CapsuleFail.{CapsuleFail}
use Rattle.pfr_auth.specs.Areas.{judge_area}
use Rattle.pfr_auth.specs.declared.areas.Area.TheVariants.{Recovery}
use Rattle.pfr_jobs.specs.Log.{open_job}
use Rattle.pfr_jobs.specs.LogPlans.{finish_plan}
use Rattle.pfr_jobs.specs.declared.job.OpenJob.TheVariants as job
use Rattle.pfr_strokes.proofs.ReplacedLaws.{length-replaced}
use Rattle.pfr_rebuilt.specs.Copying.{recovery_page, recovery_pages, recovery_rebuilt}
use Rattle.pfr_recoverable.specs.Recoverable.{HasGoodRecovery}
use Rattle.pfr_report.specs.declared.note.What.{What}
use Rattle.pfr_story.specs.Story.{Story, Says, after, other_bank}
use Rattle.pfr_story.specs.Plans.{mine, store, asks, judged_recovery}
use Rattle.pfr_story.specs.JobPlans.{finished_job, raised_to, copied_over, copied_again, concluded, by_second_pass, second_pass, same_digest, by_digest, by_first_pass, recovery_work}
use Rattle.pfr_story.specs.JobContents.{is_found, recovery_resumed, recovery_done}
use Rattle.pfr_story.proofs.Sequence.{after-append}
use Rattle.pfr_story.proofs.JobSteps.{StandsSo}
use Rattle.pfr_story.proofs.JobRaise.{IsConcluded, concluded_ends}
use Rattle.pfr_story.proofs.JobRecovery.{digests_same, IsStaged, first_stands, first_staged, second_stands, second_staged, judged_found, IsCopied, second_good}
use Rattle.pfr_story.proofs.JobCounts.{done_on, noted_count, store_count, copied_few, again_few}

-- ---- the end does nothing to the bank
pub concluded_count : (told : ℕ → What) (b : Bank) (fuses : FusesState) (found : CapsuleState) (story : Story) → done_on b (after (concluded told b fuses found story) story) ≡ done_on b story
concluded_count told b fuses found story =
    let higher : Story = after (raised_to found.manifest.svn b fuses story) story in
    let ended : Story = after (finished_job b higher) higher in
    ap (λ (s : Story). done_on b s) (after-append (raised_to found.manifest.svn b fuses story) (finished_job b higher ++ Says (λ _. told found.manifest.svn) ∷ []) story
    ∙ after-append (finished_job b higher) (Says (λ _. told found.manifest.svn) ∷ []) higher)
    ∙ noted_count b (λ _. told found.manifest.svn) ended ∙ store_count b (finish_plan (store higher) b) higher ∙ store_count b (raise_plan (floor_of fuses b) b found.manifest.svn) story

-- The recovery area has the capsule of the job, the floor is raised to its version, and nothing is open.
pub record IsUpdated (accepts : Acceptance) (b : Bank) (fuses : FusesState) (capsule : CapsuleState) (old new : Story) : Type 0 where
  pub found : CapsuleState
  pub digest : found.digest ≡ capsule.digest
  pub judged : judged_recovery accepts b fuses new ≡ Ok found
  pub image : mine b new ≡ recovery_done accepts b (mine b old) (store old) fuses capsule
  pub long : length (mine b new) ≡ length (mine b old)
  pub bytes : AreBytes (mine b new)
  pub other : mine (other_bank b) new ≡ mine (other_bank b) old
  pub size : length (store new) ≡ 32768
  pub fuses_say : fuses_of (store new) ≡ Ok (raised fuses b found.manifest.svn)
  pub opened : open_job (store new) b ≡ job.None
  pub good : HasGoodRecovery b (mine b new) (store new) accepts
  -- in at most 34 operations for each page of the recovery area that holds a byte of it
  pub few : done_on b new ≤ done_on b old + 34 * length (recovery_pages (layout_of fuses.provision b) capsule.length (length (mine b old)))

module _ (given_up : What) (told : ℕ → What) (accepts : Acceptance) (b : Bank) (fuses : FusesState) (two : fuses.profile ≡ profile.Two) (capsule : CapsuleState) (story : Story)
    (staged : IsStaged accepts b fuses capsule story) (is_open : open_job (store story) b ≡ job.None → ⊥) where
  abbrev layout : Layout
  layout = layout_of fuses.provision b

  abbrev once : Story
  once = after (copied_over b fuses capsule story) story

  abbrev once_image : List ℕ
  once_image = recovery_resumed b (mine b story) (store story) capsule.length layout

  abbrev twice : Story
  twice = after (copied_again b fuses capsule once) once

  abbrev pages : ℕ
  pages = length (recovery_pages layout capsule.length (length (mine b story)))

  one : StandsSo b (open_job (store story) b) (recovery_resumed b (mine b story) (store story) capsule.length (layout_of fuses.provision b)) story (after (copied_over b fuses capsule story) story)
  one = first_stands accepts b fuses capsule story staged

  one_staged : IsStaged accepts b fuses capsule (after (copied_over b fuses capsule story) story)
  one_staged = first_staged accepts b fuses capsule story staged

  one_open : open_job (store once) b ≡ job.None → ⊥
  one_open e = is_open (sym one.logged.opened ∙ e)

  one_long : length (mine b once) ≡ length (mine b story)
  one_long =
      ap (λ (bytes : List ℕ). length bytes) one.bank
      ∙ length-replaced (mine b story) (recovery_page (mine b story) layout.staging_at capsule.length layout) _

  one_few : done_on b once ≤ done_on b story + 17 * pages
  one_few = copied_few b fuses capsule story

  two_stands : StandsSo b (open_job (store once) b) (recovery_rebuilt (mine b once) layout.staging_at capsule.length layout) once twice
  two_stands = second_stands accepts b fuses capsule once one_staged

  two_long : length (mine b twice) ≡ length (mine b once)
  two_long =
      ap (λ (bytes : List ℕ). length bytes) two_stands.bank
      ∙ length-replaced (mine b once) (recovery_page (mine b once) layout.staging_at capsule.length layout) _

  two_staged : IsStaged accepts b fuses capsule twice
  two_staged = second_staged accepts b fuses capsule once one_staged

  two_few : done_on b twice ≤ done_on b story + 34 * pages
  two_few =
      let more = again_few b fuses capsule once in
      let same : length (recovery_pages layout capsule.length (length (mine b once))) ≡ pages = ap (λ (n : ℕ). length (recovery_pages layout capsule.length n)) one_long in
      omega (arith, one_few, more, same)

  abbrev Ends : Story → Type 0
  Ends new = IsUpdated accepts b fuses capsule story new

  -- from where the capsule of the job was found
  concluded_from : (found : CapsuleState) (there : Story) → IsStaged accepts b fuses capsule there → (open_job (store there) b ≡ job.None → ⊥) → judged_recovery accepts b fuses there ≡ Ok found → found.digest ≡ capsule.digest
      → mine b there ≡ recovery_done accepts b (mine b story) (store story) fuses capsule → mine (other_bank b) there ≡ mine (other_bank b) story → length (mine b there) ≡ length (mine b story) → done_on b there ≤ done_on b story + 34 * pages
      → Ends (after (concluded told b fuses found there) there)
  concluded_from found there at_work still_open j same image other long few =
      let f = judged_found accepts b fuses capsule found there at_work j in
      let c : IsConcluded accepts b fuses found.manifest.svn there (after (concluded told b fuses found there) there) =
      concluded_ends accepts told b fuses found there at_work.store_size at_work.provisioned two still_open f.area f.capsule_is in
      let count = concluded_count told b fuses found there in
      record {
        found = found;
        digest = same;
        judged = ap (λ (bytes : List ℕ). judge_area Recovery b bytes fuses accepts) c.bank ∙ j;
        image = c.bank ∙ image;
        long = ap (λ (bytes : List ℕ). length bytes) c.bank ∙ long;
        bytes = subst AreBytes (sym c.bank) at_work.bytes;
        other = c.other ∙ other;
        size = c.size;
        fuses_say = c.fuses_say;
        opened = c.opened;
        good = c.good;
        few = omega (arith, count, few);
      }

  -- behind both passes
  second_ends : is_found (judge_area Recovery b once_image fuses accepts) capsule.digest ≡ false → Ends (after (second_pass given_up told accepts b fuses capsule once) once)
  second_ends missing =
      let copied : IsCopied accepts b fuses capsule.digest capsule.manifest twice = second_good accepts b fuses capsule once one_staged in
      let image : mine b twice ≡ recovery_done accepts b (mine b story) (store story) fuses capsule =
      two_stands.bank ∙ ap (λ (bytes : List ℕ). recovery_rebuilt bytes layout.staging_at capsule.length layout) one.bank
      ∙ sym (ap (λ (t : Bool). if t then once_image else recovery_rebuilt once_image layout.staging_at capsule.length layout) missing) in
      let ends : Ends (after (concluded told b fuses copied.found twice) twice) =
      concluded_from copied.found twice two_staged (λ e. one_open (sym two_stands.logged.opened ∙ e)) copied.judged copied.same image (two_stands.other ∙ one.other) (two_long ∙ one_long) two_few in
      subst (λ (s : Story). Ends s) (sym (after-append (copied_again b fuses capsule once) (asks b twice ++ by_second_pass given_up told b fuses (judged_recovery accepts b fuses twice) twice) once))
      (subst (λ (r : Result CapsuleState CapsuleFail). Ends (after (by_second_pass given_up told b fuses r twice) twice)) (sym copied.judged) ends)

  -- what was found behind the first one
  found_once : (r : Result CapsuleState CapsuleFail) → judged_recovery accepts b fuses once ≡ r → is_found (judge_area Recovery b once_image fuses accepts) capsule.digest ≡ is_found r capsule.digest
  found_once r e = ap (λ (x : Result CapsuleState CapsuleFail). is_found x capsule.digest) (sym (ap (λ (bytes : List ℕ). judge_area Recovery b bytes fuses accepts) one.bank) ∙ e)

  by_judged : (r : Result CapsuleState CapsuleFail) → judged_recovery accepts b fuses once ≡ r → Ends (after (by_first_pass given_up told accepts b fuses capsule r once) once)
  by_judged (Err cause) e = second_ends (found_once (Err cause) e)
  by_judged (Ok found) e = by_same (same_digest found.digest capsule.digest) refl
    where
      by_same : (t : Bool) → same_digest found.digest capsule.digest ≡ t → Ends (after (by_digest t given_up told accepts b fuses capsule found once) once)
      by_same false f = second_ends (found_once (Ok found) e ∙ f)
      by_same true f =
          let image : mine b once ≡ recovery_done accepts b (mine b story) (store story) fuses capsule =
          one.bank ∙ sym (ap (λ (t : Bool). if t then once_image else recovery_rebuilt once_image layout.staging_at capsule.length layout) (found_once (Ok found) e ∙ f)) in
          concluded_from found once one_staged one_open e (digests_same found.digest capsule.digest f) image one.other one_long (omega (arith, one_few))

  -- Work on a recovery job always ends so: it is never given up.
  pub recovery_work_ends : IsUpdated accepts b fuses capsule story (after (recovery_work given_up told accepts b fuses capsule story) story)
  recovery_work_ends =
      subst (λ (s : Story). Ends s) (sym (after-append (copied_over b fuses capsule story) (asks b once ++ by_first_pass given_up told accepts b fuses capsule (judged_recovery accepts b fuses once) once) story))
      (by_judged (judged_recovery accepts b fuses once) refl)
