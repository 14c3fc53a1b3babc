-- Where the raise of a floor leads, and the end of a recovery job.
use Rattle.std.proofs.Common.{◌≡◌, ◌∙◌, ℕ, ◌+◌, ◌-◌, ◌/◌, ◌≤◌, ◌<◌, refl, sym, ap, subst, arith, Bool, true, false, nat_le, if◌then◌else◌, List, [], ◌∷◌, ◌++◌, length, inl, inr, Ok}
use Rattle.std.proofs.lemmas.Bool.Decides.{nat_tests}
use Rattle.pfr_flash.specs.FuseRow.{clearing, fuse_byte, with_cleared}
use Rattle.pfr_flash.specs.Operation.{Operation, Program, play}
use Rattle.pfr_flash.specs.Range.{AllWithin}
use Rattle.pfr_flash.specs.declared.names.Bank.{Bank}
use Rattle.pfr_flash.specs.declared.names.Device.TheVariants as device
use Rattle.pfr_flash.proofs.ClearingLemmas.{clearing-within}
use Rattle.pfr_flash.proofs.PlanLemmas.{IsPart-whole}
use Rattle.pfr_flash.proofs.PlayLemmas.{length-play}
use Rattle.pfr_flash.proofs.RangeLemmas.{SameOutside-play}
use Rattle.pfr_engine.specs.Acceptance.{Acceptance}
use Rattle.pfr_fuses.specs.Changes.{raise_plan, raised, with_floor}
use Rattle.pfr_fuses.specs.FuseMap.{profile_of, floor_at}
use Rattle.pfr_fuses.specs.FusesState.{FusesState, floor_of, floor_row}
use Rattle.pfr_fuses.specs.FusesOf.{fuses_of}
use Rattle.pfr_fuses.specs.declared.profile.Profile.TheVariants as profile
use Rattle.pfr_fuses.proofs.ExactLemmas.{ChangedAt, fuses_of-but_floor, floor-cleared, floor_kept}
use Rattle.pfr_fuses.proofs.GrowthLemmas.{profile-outside, slots-outside}
use Rattle.pfr_fuses.proofs.StaysLemmas.{floor_in_sector}
use Rattle.pfr_capsule.specs.CapsuleState.{CapsuleState}
use Rattle.pfr_jobs.specs.Log.{open_job}
use Rattle.pfr_jobs.specs.declared.job.OpenJob.TheVariants as job
use Rattle.pfr_jobs.proofs.BeginLaw.{log_high}
use Rattle.pfr_jobs.proofs.CutLaws.{outside_keeps}
use Rattle.pfr_recoverable.specs.Recoverable.{HasGoodRecovery}
use Rattle.pfr_recoverable.proofs.CutLaw.{good_with}
use Rattle.pfr_recoverable.proofs.RaiseLaw.{recovery_raised}
use Rattle.pfr_report.specs.declared.note.What.{What}
use Rattle.pfr_story.specs.Story.{Story, Says, after, noted, other_bank, device_of}
use Rattle.pfr_story.specs.Plans.{mine, store}
use Rattle.pfr_story.specs.JobPlans.{finished_job, raised_to, concluded}
use Rattle.pfr_story.proofs.Sequence.{after-append}
use Rattle.pfr_story.proofs.SafetyLaws.{image_noted, image_called}
use Rattle.pfr_story.proofs.FuseLaws.{profile_kept}
use Rattle.pfr_story.proofs.JobSteps.{StandsSo, bank_called, finished_stands}

-- ---- the store
module _ (nv : List ℕ) (b : Bank) (fuses : FusesState) (to : ℕ) (size : length nv ≡ 32768) (was : fuses_of nv ≡ Ok fuses) (two : fuses.profile ≡ profile.Two) (most : to ≤ 127) where
  is_two : profile_of nv ≡ profile.Two
  is_two = sym (profile_kept nv fuses was) ∙ two

  changed : (ops : List Operation) → AllWithin (floor_at profile.Two b) 16 ops → ChangedAt (floor_at profile.Two b) 16 nv (play nv ops)
  changed ops within =
      let outside = SameOutside-play (floor_at profile.Two b) 16 nv ops within in
      record {
        size = size;
        same_size = length-play nv ops;
        two = is_two;
        outside = outside;
        store = record {
          slots = λ k below. slots-outside (floor_at profile.Two b) 16 nv (play nv ops) (omega (arith, (floor_in_sector b).0)) size (length-play nv ops) outside k below;
          profile = profile-outside (floor_at profile.Two b) 16 nv (play nv ops) (inl (omega (arith, (floor_in_sector b).0))) outside;
        };
      }

  -- It says the raised fuses then.
  pub raise_says : fuses_of (play nv (raise_plan (floor_of fuses b) b to)) ≡ Ok (raised fuses b to)
  raise_says = by_test (nat_le to (floor_of fuses b)) refl
    where
      by_test : (t : Bool) → nat_le to (floor_of fuses b) ≡ t → fuses_of (play nv (if t then [] else clearing (floor_at profile.Two b) (to - 1))) ≡ Ok (if t then fuses else with_floor fuses b (with_cleared (floor_row fuses b) (to - 1)))
      by_test true e = was
      by_test false e =
          let above : floor_of fuses b < to = grind (arith, nat_tests) in
          let ops : List Operation = clearing (floor_at profile.Two b) (to - 1) in
          let c = changed ops (clearing-within (floor_at profile.Two b) 16 (to - 1) (omega (arith, most, above))) in
          fuses_of-but_floor b nv (play nv ops) fuses c was
          ∙ ap (λ (row : List ℕ). Ok (with_floor fuses b row))
          (floor-cleared b nv (play nv ops) (to - 1) c (omega (arith, most, above)) refl (omega (arith, (floor_in_sector b).1)) ∙ ap (λ (row : List ℕ). with_cleared row (to - 1)) (sym (floor_kept nv fuses b was)))

  -- what is open stays so
  pub raise_open : open_job (play nv (raise_plan (floor_of fuses b) b to)) b ≡ open_job nv b
  raise_open = by_test (nat_le to (floor_of fuses b))
    where
      by_test : (t : Bool) → open_job (play nv (if t then [] else clearing (floor_at profile.Two b) (to - 1))) b ≡ open_job nv b
      by_test true = refl
      by_test false = outside_keeps nv b size (Program (floor_at profile.Two b + (to - 1) / 8) (fuse_byte (to - 1) ∷ [])) (inr (omega (arith, log_high b, (floor_in_sector b).0)))

  -- and a recovery area with a capsule of this version stays good
  pub raise_good : (image : List ℕ) (accepts : Acceptance) (r : HasGoodRecovery b image nv accepts) → to ≡ r.good.capsule.manifest.svn → HasGoodRecovery b image (play nv (raise_plan (floor_of fuses b) b to)) accepts
  raise_good image accepts r is = by_test (nat_le to (floor_of fuses b)) refl
    where
      same : to ≡ r.good.parts.manifest.svn
      same = is ∙ ap (λ (c : CapsuleState). c.manifest.svn) r.good.found

      by_test : (t : Bool) → nat_le to (floor_of fuses b) ≡ t → HasGoodRecovery b image (play nv (if t then [] else clearing (floor_at profile.Two b) (to - 1))) accepts
      by_test true e = r
      by_test false e =
          let above : floor_of fuses b < to = grind (arith, nat_tests) in
          let ops : List Operation = clearing (floor_at profile.Two b) (to - 1) in
          recovery_raised image nv b accepts r (to - 1) ops size is_two (omega (arith, most)) (omega (arith, same, above)) (IsPart-whole nv ops)

  -- its plan is one operation at most
  pub raise_few : length (raise_plan (floor_of fuses b) b to) ≤ 1
  raise_few = by_test (nat_le to (floor_of fuses b))
    where
      by_test : (t : Bool) → length (if t then [] else clearing (floor_at profile.Two b) (to - 1)) ≤ 1
      by_test true = omega arith
      by_test false = omega arith

-- a good recovery area stays so where the store says the same fuses
pub good_still : (b : Bank) (image nv later : List ℕ) (accepts : Acceptance) → fuses_of later ≡ fuses_of nv → HasGoodRecovery b image nv accepts → HasGoodRecovery b image later accepts
good_still b image nv later accepts same r = record { fuses = r.fuses; provisioned = same ∙ r.provisioned; good = (good_with image nv later _ _ b accepts r.good same).0 }

-- ---- the end of a recovery job
-- the recovery area is good, the floor is raised to this version, and nothing is open
pub record IsConcluded (accepts : Acceptance) (b : Bank) (fuses : FusesState) (svn : ℕ) (old new : Story) : Type 0 where
  pub bank : mine b new ≡ mine b old
  pub other : mine (other_bank b) new ≡ mine (other_bank b) old
  pub size : length (store new) ≡ 32768
  pub fuses_say : fuses_of (store new) ≡ Ok (raised fuses b svn)
  pub opened : open_job (store new) b ≡ job.None
  pub good : HasGoodRecovery b (mine b new) (store new) accepts

module _ (accepts : Acceptance) (told : ℕ → What) (b : Bank) (fuses : FusesState) (found : CapsuleState) (story : Story) (size : length (store story) ≡ 32768) (was : fuses_of (store story) ≡ Ok fuses)
    (two : fuses.profile ≡ profile.Two) (is_open : open_job (store story) b ≡ job.None → ⊥) (r : HasGoodRecovery b (mine b story) (store story) accepts) (capsule_is : r.good.capsule ≡ found) where
  abbrev plan : List Operation
  plan = raise_plan (floor_of fuses b) b found.manifest.svn

  abbrev higher : Story
  higher = after (raised_to found.manifest.svn b fuses story) story

  abbrev ended : Story
  ended = after (finished_job b higher) higher

  end_is : after (concluded told b fuses found story) story ≡ noted (λ _. told found.manifest.svn) ended
  end_is =
      after-append (raised_to found.manifest.svn b fuses story) (finished_job b higher ++ Says (λ _. told found.manifest.svn) ∷ []) story
      ∙ after-append (finished_job b higher) (Says (λ _. told found.manifest.svn) ∷ []) higher

  is_svn : found.manifest.svn ≡ r.good.capsule.manifest.svn
  is_svn = ap (λ (c : CapsuleState). c.manifest.svn) (sym capsule_is)

  few : found.manifest.svn ≤ 127
  few =
      let s : r.good.capsule.manifest.svn ≡ r.good.parts.manifest.svn = ap (λ (c : CapsuleState). c.manifest.svn) r.good.found in
      omega (arith, is_svn, s, r.good.signed.spelled.svn)

  higher_store : store higher ≡ play (store story) plan
  higher_store = image_called device.Nv plan story

  higher_size : length (store higher) ≡ 32768
  higher_size = ap (λ (nv : List ℕ). length nv) higher_store ∙ length-play (store story) plan ∙ size

  higher_open : open_job (store higher) b ≡ open_job (store story) b
  higher_open = ap (λ (nv : List ℕ). open_job nv b) higher_store ∙ raise_open (store story) b fuses found.manifest.svn size was two few

  higher_good : HasGoodRecovery b (mine b story) (store higher) accepts
  higher_good =
      subst (λ (nv : List ℕ). HasGoodRecovery b (mine b story) nv accepts) (sym higher_store)
      (raise_good (store story) b fuses found.manifest.svn size was two few (mine b story) accepts r is_svn)

  last : StandsSo b job.None (mine b higher) higher ended
  last = finished_stands b higher higher_size (λ e. is_open (sym higher_open ∙ e))

  pub concluded_ends : IsConcluded accepts b fuses found.manifest.svn story (after (concluded told b fuses found story) story)
  concluded_ends = subst (λ (s : Story). IsConcluded accepts b fuses found.manifest.svn story s) (sym end_is) (
      let bank : mine b (noted (λ _. told found.manifest.svn) ended) ≡ mine b story = image_noted (device_of b) (λ _. told found.manifest.svn) ended ∙ last.bank ∙ bank_called b plan story in
      record {
        bank = bank;
        other = image_noted (device_of (other_bank b)) (λ _. told found.manifest.svn) ended ∙ last.other ∙ bank_called (other_bank b) plan story;
        size = last.logged.size;
        fuses_say = last.logged.fuses ∙ ap (λ (nv : List ℕ). fuses_of nv) higher_store ∙ raise_says (store story) b fuses found.manifest.svn size was two few;
        opened = last.logged.opened;
        good = subst (λ (image : List ℕ). HasGoodRecovery b image (store ended) accepts) (sym bank) (good_still b (mine b story) (store higher) (store ended) accepts last.logged.fuses higher_good);
      })
