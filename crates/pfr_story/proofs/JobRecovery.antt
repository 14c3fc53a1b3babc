-- Where work on a recovery job leads.
use Rattle.std.proofs.Common.{◌≡◌, ◌∙◌, ℕ, ◌==◌, ◌&&◌, refl, sym, ap, subst, Bool, true, false, List, [], ◌∷◌, length, Ok}
use Rattle.std.proofs.lemmas.Bool.{eqb-true, false≢true}
use Rattle.pfr_flash.specs.Bytes.{AreBytes, bytes_at}
use Rattle.pfr_flash.specs.Layout.{IsBankSize, IsValidLayout}
use Rattle.pfr_flash.specs.Operation.{play}
use Rattle.pfr_flash.specs.declared.layout.Layout.{Layout}
use Rattle.pfr_flash.specs.declared.names.Bank.{Bank}
use Rattle.pfr_flash.proofs.PlayLemmas.{length-play}
use Rattle.pfr_engine.specs.Acceptance.{Acceptance}
use Rattle.pfr_fuses.specs.FusesState.{FusesState}
use Rattle.pfr_fuses.specs.FusesOf.{fuses_of}
use Rattle.pfr_fuses.specs.RootSlot.{layout_of}
use Rattle.pfr_manifest.specs.declared.manifest.Manifest.{Manifest}
use Rattle.pfr_capsule.specs.CapsuleState.{CapsuleState}
use Rattle.pfr_capsule.specs.Good.{IsGood}
use Rattle.pfr_capsule.proofs.GoodLaw.{good_found}
use Rattle.pfr_auth.specs.Areas.{judge_area}
use Rattle.pfr_auth.specs.declared.areas.Area.TheVariants.{Recovery}
use Rattle.pfr_jobs.specs.Log.{open_job}
use Rattle.pfr_jobs.specs.LogState.{is_marked}
use Rattle.pfr_jobs.specs.declared.job.OpenJob.{OpenJob}
use Rattle.pfr_strokes.specs.Replaced.{replaced}
use Rattle.pfr_strokes.specs.Strokes.{strokes_of}
use Rattle.pfr_strokes.proofs.ReplacedLaws.{IsOneOf}
use Rattle.pfr_rebuilt.specs.Copying.{recovery_page, recovery_pages, recovery_rebuilt}
use Rattle.pfr_rebuilt.specs.Passing.{group_pages, left_pages}
use Rattle.pfr_rebuilt.proofs.CopiedLaw.{copied_good, copied_digest, copied_manifest}
use Rattle.pfr_recoverable.specs.Recoverable.{HasGoodRecovery}
use Rattle.pfr_story.specs.Story.{Story, after}
use Rattle.pfr_story.specs.Plans.{mine, store, judged_recovery}
use Rattle.pfr_story.specs.JobPlans.{copied_over, copied_again, same_digest}
use Rattle.pfr_story.specs.JobContents.{recovery_resumed}
use Rattle.pfr_story.proofs.RestoreLaws.{stand_for, found_good}
use Rattle.pfr_story.proofs.JobEnds.{left_one}
use Rattle.pfr_story.proofs.JobPages.{IsSameCapsule, same_again, recovery_replaced, recovery_bytes, staging_stays, good_again}
use Rattle.pfr_story.proofs.JobSteps.{StandsSo, copied_stands, again_stands}
use Rattle.pfr_story.proofs.JobDone.{stands_as}

-- digests that are spelled alike are the same
pub digests_same : (xs ys : List ℕ) → same_digest xs ys ≡ true → xs ≡ ys
digests_same [] [] e = refl
digests_same [] (y ∷ ys) e = absurd (false≢true e)
digests_same (x ∷ xs) [] e = absurd (false≢true e)
digests_same (x ∷ xs) (y ∷ ys) e = by_first (x == y) refl e (λ f. digests_same xs ys f)
  where
    by_first : (t : Bool) → (x == y) ≡ t → (t && same_digest xs ys) ≡ true → (same_digest xs ys ≡ true → xs ≡ ys) → x ∷ xs ≡ y ∷ ys
    by_first true f h rest = let first : x ≡ y = eqb-true x y f in let others : xs ≡ ys = rest h in cc
    by_first false f h rest = absurd (false≢true h)

-- the staged capsule, and what else work on a recovery job goes by
pub record IsStaged (accepts : Acceptance) (b : Bank) (fuses : FusesState) (capsule : CapsuleState) (story : Story) : Type 0 where
  pub good : IsGood (mine b story) (layout_of fuses.provision b).staging_at (layout_of fuses.provision b).area_len (store story) b accepts
  pub same : IsSameCapsule good.capsule capsule
  pub provisioned : fuses_of (store story) ≡ Ok fuses
  pub layout : IsValidLayout (layout_of fuses.provision b) (length (mine b story))
  pub size : IsBankSize (length (mine b story))
  pub bytes : AreBytes (mine b story)
  pub store_size : length (store story) ≡ 32768

module _ (accepts : Acceptance) (b : Bank) (fuses : FusesState) (capsule : CapsuleState) (story : Story) (staged : IsStaged accepts b fuses capsule story) where
  abbrev image : List ℕ
  image = mine b story

  abbrev layout : Layout
  layout = layout_of fuses.provision b

  -- a pass over some of the pages
  module _ (list : List ℕ) (each : (n : ℕ) → IsOneOf n list → IsOneOf n (recovery_pages layout capsule.length (length image))) where
    abbrev copied_so : List ℕ
    copied_so = play image (strokes_of (recovery_page image layout.staging_at capsule.length layout) list)

    each_good : (n : ℕ) → IsOneOf n list → IsOneOf n (recovery_pages layout staged.good.capsule.length (length image))
    each_good = subst (λ (len : ℕ). (n : ℕ) → IsOneOf n list → IsOneOf n (recovery_pages layout len (length image))) (sym staged.same.len) each

    so_replaced : copied_so ≡ replaced image (recovery_page image layout.staging_at capsule.length layout) list
    so_replaced =
        subst (λ (len : ℕ). play image (strokes_of (recovery_page image layout.staging_at len layout) list) ≡ replaced image (recovery_page image layout.staging_at len layout) list) staged.same.len
        (recovery_replaced image (store story) b accepts layout staged.good staged.layout staged.size.blocks staged.bytes list each_good)

    so_bytes : AreBytes copied_so
    so_bytes =
        subst (λ (len : ℕ). AreBytes (play image (strokes_of (recovery_page image layout.staging_at len layout) list))) staged.same.len
        (recovery_bytes image (store story) b accepts layout staged.good staged.layout staged.size.blocks staged.bytes list each_good)

    so_stays : bytes_at copied_so layout.staging_at layout.area_len ≡ bytes_at image layout.staging_at layout.area_len
    so_stays =
        subst (λ (len : ℕ). bytes_at (play image (strokes_of (recovery_page image layout.staging_at len layout) list)) layout.staging_at layout.area_len ≡ bytes_at image layout.staging_at layout.area_len) staged.same.len
        (staging_stays image (store story) b accepts layout staged.good staged.layout staged.size.blocks staged.bytes list each_good)

    -- It leaves the staging area as it was.
    staged_later : (running : OpenJob) (new : Story) → StandsSo b running copied_so story new → IsStaged accepts b fuses capsule new
    staged_later running new p =
        let long : length (mine b new) ≡ length image = ap (λ (bytes : List ℕ). length bytes) p.bank ∙ length-play image (strokes_of (recovery_page image layout.staging_at capsule.length layout) list) in
        let still : bytes_at (mine b new) layout.staging_at layout.area_len ≡ bytes_at image layout.staging_at layout.area_len = ap (λ (bytes : List ℕ). bytes_at bytes layout.staging_at layout.area_len) p.bank ∙ so_stays in
        let again = good_again image (mine b new) (store story) (store new) layout.staging_at layout.area_len b accepts staged.good long staged.size.blocks still p.logged.fuses in
        record {
          good = again.0;
          same = same_again again.0.capsule staged.good.capsule capsule again.1 staged.same;
          provisioned = p.logged.fuses ∙ staged.provisioned;
          layout = subst (λ (n : ℕ). IsValidLayout layout n) (sym long) staged.layout;
          size = subst (λ (n : ℕ). IsBankSize n) (sym long) staged.size;
          bytes = subst AreBytes (sym p.bank) so_bytes;
          store_size = p.logged.size;
        }

  -- ---- the first pass
  abbrev once : Story
  once = after (copied_over b fuses capsule story) story

  abbrev left : List ℕ
  left = left_pages (is_marked (store story) b) (group_pages (length image)) (recovery_pages layout capsule.length (length image))

  in_pages : (n : ℕ) → IsOneOf n left → IsOneOf n (recovery_pages layout capsule.length (length image))
  in_pages n one = left_one (is_marked (store story) b) (group_pages (length image)) (recovery_pages layout capsule.length (length image)) n one

  pub first_stands : StandsSo b (open_job (store story) b) (recovery_resumed b image (store story) capsule.length layout) story once
  first_stands =
      stands_as b (open_job (store story) b) (open_job (store story) b) (copied_so left in_pages) (recovery_resumed b image (store story) capsule.length layout) story once refl (so_replaced left in_pages)
      (copied_stands b fuses capsule story staged.store_size)

  pub first_staged : IsStaged accepts b fuses capsule once
  first_staged = staged_later left in_pages (open_job (store story) b) once (copied_stands b fuses capsule story staged.store_size)

  -- ---- the second pass
  abbrev twice : Story
  twice = after (copied_again b fuses capsule story) story

  pub second_stands : StandsSo b (open_job (store story) b) (recovery_rebuilt image layout.staging_at capsule.length layout) story twice
  second_stands =
      let pages : List ℕ = recovery_pages layout capsule.length (length image) in
      stands_as b (open_job (store story) b) (open_job (store story) b) (copied_so pages (λ n one. one)) (recovery_rebuilt image layout.staging_at capsule.length layout) story twice refl (so_replaced pages (λ n one. one))
      (again_stands b fuses capsule story staged.store_size)

  pub second_staged : IsStaged accepts b fuses capsule twice
  second_staged = staged_later (recovery_pages layout capsule.length (length image)) (λ n one. one) (open_job (store story) b) twice (again_stands b fuses capsule story staged.store_size)

-- a good capsule is judged well in the recovery area
pub record IsFound (accepts : Acceptance) (b : Bank) (fuses : FusesState) (found : CapsuleState) (story : Story) : Type 0 where
  pub area : HasGoodRecovery b (mine b story) (store story) accepts
  pub capsule_is : area.good.capsule ≡ found

-- where it is judged well, it is good
pub judged_found : (accepts : Acceptance) (b : Bank) (fuses : FusesState) (capsule found : CapsuleState) (story : Story) → IsStaged accepts b fuses capsule story → judged_recovery accepts b fuses story ≡ Ok found → IsFound accepts b fuses found story
judged_found accepts b fuses capsule found story staged j =
    let good = found_good accepts b fuses found story staged.provisioned staged.layout staged.bytes j in
    record { area = record { fuses = fuses; provisioned = staged.provisioned; good = good.0 }; capsule_is = good.1 }

-- Behind the second pass the recovery area is good, with the digest and the manifest of the staged capsule.
pub record IsCopied (accepts : Acceptance) (b : Bank) (fuses : FusesState) (digest : List ℕ) (signed : Manifest) (story : Story) : Type 0 where
  pub found : CapsuleState
  pub judged : judged_recovery accepts b fuses story ≡ Ok found
  pub same : found.digest ≡ digest
  pub manifest : found.manifest ≡ signed

module _ (accepts : Acceptance) (b : Bank) (fuses : FusesState) (capsule : CapsuleState) (story : Story) (staged : IsStaged accepts b fuses capsule story) where
  pub second_good : IsCopied accepts b fuses capsule.digest capsule.manifest (after (copied_again b fuses capsule story) story)
  second_good =
      let image : List ℕ = mine b story in
      let layout : Layout = layout_of fuses.provision b in
      let new : Story = after (copied_again b fuses capsule story) story in
      let stands = second_stands accepts b fuses capsule story staged in
      let good = copied_good image (store story) b accepts layout staged.good staged.layout staged.size.blocks staged.bytes in
      let digest = copied_digest image (store story) b accepts layout staged.good staged.layout staged.size.blocks staged.bytes in
      let manifest = copied_manifest image (store story) b accepts layout staged.good staged.layout staged.size.blocks staged.bytes in
      let same_image : recovery_rebuilt image layout.staging_at staged.good.capsule.length layout ≡ mine b new = ap (λ (len : ℕ). recovery_rebuilt image layout.staging_at len layout) staged.same.len ∙ sym stands.bank in
      let judged : judge_area Recovery b (recovery_rebuilt image layout.staging_at staged.good.capsule.length layout) fuses accepts ≡ Ok good.capsule =
      good_found (recovery_rebuilt image layout.staging_at staged.good.capsule.length layout) (store story) layout.recovery_at layout.area_len b accepts fuses (stand_for (store story) fuses b staged.provisioned) good in
      record {
        found = good.capsule;
        judged = subst (λ (bytes : List ℕ). judge_area Recovery b bytes fuses accepts ≡ Ok good.capsule) same_image judged;
        same = digest ∙ staged.same.digest;
        manifest = manifest ∙ staged.same.manifest;
      }
