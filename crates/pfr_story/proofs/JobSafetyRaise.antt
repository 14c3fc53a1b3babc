-- The end of a recovery job, from a good recovery area on: the floor is raised and the job finished, and both banks stay ones that can
-- be recovered.
use Rattle.std.proofs.Common.{◌≡◌, ◌∙◌, refl, sym, ap, subst, arith, ℕ, ◌+◌, ◌-◌, ◌/◌, ◌≤◌, ◌<◌, nat_le, Bool, true, false, if◌then◌else◌, List, [], ◌∷◌, length, inl, inr, Ok}
use Rattle.pfr_flash.specs.Bytes.{AreBytes}
use Rattle.pfr_flash.specs.FuseRow.{clearing, fuse_byte, with_cleared}
use Rattle.pfr_flash.specs.Layout.{IsBankSize, IsValidLayout}
use Rattle.pfr_flash.specs.Operation.{Operation, Program, applied, play}
use Rattle.pfr_flash.specs.Plan.{IsPart}
use Rattle.pfr_flash.specs.Range.{AllWithin, SameOutside}
use Rattle.pfr_flash.specs.declared.names.Bank.{Bank}
use Rattle.pfr_flash.specs.declared.names.Bank.TheVariants as bank
use Rattle.pfr_flash.specs.declared.names.Device.TheVariants as device
use Rattle.pfr_flash.proofs.ClearingLemmas.{clearing-within}
use Rattle.pfr_flash.proofs.PlayLemmas.{length-play}
use Rattle.pfr_flash.proofs.RangeLemmas.{SameOutside-play}
use Rattle.pfr_engine.specs.Acceptance.{Acceptance}
use Rattle.pfr_fuses.specs.Changes.{raise_plan, raised, with_floor}
use Rattle.pfr_fuses.specs.FuseMap.{floor_at, profile_of}
use Rattle.pfr_fuses.specs.FusesState.{FusesState, floor_of, floor_row}
use Rattle.pfr_fuses.specs.FusesOf.{fuses_of}
use Rattle.pfr_fuses.specs.RootSlot.{layout_of}
use Rattle.pfr_fuses.specs.declared.profile.Profile.TheVariants as profile
use Rattle.pfr_fuses.specs.declared.root_slot.RootSlot.{RootSlot}
use Rattle.pfr_fuses.proofs.ClearingLemmas.{raised_cases}
use Rattle.pfr_fuses.proofs.ExactLemmas.{ChangedAt, fuses_of-but_floor, floor-cleared, floor_kept}
use Rattle.pfr_fuses.proofs.GrowthLemmas.{profile-outside, slots-outside}
use Rattle.pfr_fuses.proofs.StaysLemmas.{floor_in_sector}
use Rattle.pfr_capsule.specs.CapsuleState.{CapsuleState}
use Rattle.pfr_capsule.specs.Good.{IsGood}
use Rattle.pfr_jobs.specs.Log.{open_job}
use Rattle.pfr_jobs.specs.declared.job.OpenJob.TheVariants as job
use Rattle.pfr_recoverable.specs.Recoverable.{HasGoodRecovery}
use Rattle.pfr_recoverable.proofs.OtherLaw.{fuse_keeps}
use Rattle.pfr_recoverable.proofs.RaiseLaw.{recovery_raised}
use Rattle.pfr_report.specs.declared.note.What.{What}
use Rattle.pfr_story.specs.Story.{Story, then, says, after, operated, called, other_bank}
use Rattle.pfr_story.specs.Safety.{AllSafe, Leads}
use Rattle.pfr_story.specs.Plans.{mine, store}
use Rattle.pfr_story.specs.JobPlans.{finished_job, raised_to, concluded}
use Rattle.pfr_story.specs.Recovery.{HoldsIn, KeepsRecoverable}
use Rattle.pfr_story.proofs.SafetyLaws.{image_called, Leads-then}
use Rattle.pfr_story.proofs.JobSafety.{HoldsJobs, IsJobless, mine_called, nv_there, nv_called}
use Rattle.pfr_story.proofs.JobSafetyOther.{KeepsBoth, safe_both, other_raised, raise_plan_cases}
use Rattle.pfr_story.proofs.JobSafetyActive.{LeadsAt, leads_from, IsFinishing, closed_leads}

-- ---- the store, once a floor is raised
floor_provision : (fuses : FusesState) (b : Bank) (row : List ℕ) → (with_floor fuses b row).provision ≡ fuses.provision
floor_provision fuses bank.Bmc row = refl
floor_provision fuses bank.Pch row = refl

pub raised_provision : (fuses : FusesState) (b : Bank) (svn : ℕ) → (raised fuses b svn).provision ≡ fuses.provision
raised_provision fuses b svn = raised_cases (λ kept. kept.provision ≡ fuses.provision) fuses b svn (λ low. refl) (λ high. floor_provision fuses b (with_cleared (floor_row fuses b) (svn - 1)))

module _ (nv : List ℕ) (b : Bank) (size : length nv ≡ 32768) (two : profile_of nv ≡ profile.Two) where
  changed_by : (ops : List Operation) → AllWithin (floor_at profile.Two b) 16 ops → ChangedAt (floor_at profile.Two b) 16 nv (play nv ops)
  changed_by ops within =
      let outside : SameOutside (floor_at profile.Two b) 16 nv (play nv ops) = SameOutside-play (floor_at profile.Two b) 16 nv ops within in
      record {
        size = size;
        same_size = length-play nv ops;
        two = two;
        outside = outside;
        store = record {
          slots = λ k below. slots-outside (floor_at profile.Two b) 16 nv (play nv ops) (omega (arith, (floor_in_sector b).0)) size (length-play nv ops) outside k below;
          profile = profile-outside (floor_at profile.Two b) 16 nv (play nv ops) (inl (omega (arith, (floor_in_sector b).0))) outside;
        };
      }

  module _ (fuses : FusesState) (svn : ℕ) (few : svn ≤ 127) where
    raise_within : AllWithin (floor_at profile.Two b) 16 (raise_plan (floor_of fuses b) b svn)
    raise_within = raise_plan_cases (λ ops. AllWithin (floor_at profile.Two b) 16 ops) (floor_of fuses b) b svn (λ low. tt) (λ high. clearing-within (floor_at profile.Two b) 16 (svn - 1) (omega (arith, few)))

    pub raise_profile : profile_of (play nv (raise_plan (floor_of fuses b) b svn)) ≡ profile.Two
    raise_profile = (changed_by (raise_plan (floor_of fuses b) b svn) raise_within).store.profile ∙ two

    -- what is open in a log stays open
    pub raise_open : (c : Bank) → open_job (play nv (raise_plan (floor_of fuses b) b svn)) c ≡ open_job nv c
    raise_open c =
        raise_plan_cases (λ ops. open_job (play nv ops) c ≡ open_job nv c) (floor_of fuses b) b svn
        (λ low. refl)
        (λ high. fuse_keeps nv c (floor_at profile.Two b) (svn - 1) (clearing (floor_at profile.Two b) (svn - 1)) size (floor_in_sector b).0 (inl (refl, tt)))

    -- The store says the raised fuses.
    pub raise_says : fuses_of nv ≡ Ok fuses → fuses_of (play nv (raise_plan (floor_of fuses b) b svn)) ≡ Ok (raised fuses b svn)
    raise_says was = by_test (nat_le svn (floor_of fuses b)) refl
      where
        cleared : fuses_of (play nv (clearing (floor_at profile.Two b) (svn - 1))) ≡ Ok (with_floor fuses b (with_cleared (floor_row fuses b) (svn - 1)))
        cleared =
            let ops : List Operation = clearing (floor_at profile.Two b) (svn - 1) in
            let changed = changed_by (clearing (floor_at profile.Two b) (svn - 1)) (clearing-within (floor_at profile.Two b) 16 (svn - 1) (omega (arith, few))) in
            fuses_of-but_floor b nv (play nv ops) fuses changed was
            ∙ ap (λ (row : List ℕ). Ok (with_floor fuses b row))
            (floor-cleared b nv (play nv ops) (svn - 1) changed (omega (arith, few)) refl (omega (arith, (floor_in_sector b).1))
            ∙ ap (λ (row : List ℕ). with_cleared row (svn - 1)) (sym (floor_kept nv fuses b was)))

        by_test : (low : Bool) → nat_le svn (floor_of fuses b) ≡ low
            → fuses_of (play nv (if low then [] else clearing (floor_at profile.Two b) (svn - 1))) ≡ Ok (if low then fuses else with_floor fuses b (with_cleared (floor_row fuses b) (svn - 1)))
        by_test true e = was
        by_test false e = cleared

-- ---- as moves
module _ (accepts : Acceptance) (b : Bank) (fuses : FusesState) (found : CapsuleState) where
  -- a job is open, and this capsule stands good in the recovery area
  pub record IsRecovered (story : Story) : Type 0 where
    pub holds : HoldsJobs b fuses story
    pub good : IsGood (mine b story) (layout_of fuses.provision b).recovery_at (layout_of fuses.provision b).area_len (store story) b accepts
    pub is : good.capsule ≡ found
    pub opened : ¬ (open_job (store story) b ≡ job.None)

  module _ (story : Story) (p : IsRecovered story) where
    abbrev svn : ℕ
    svn = found.manifest.svn

    area : HasGoodRecovery b (mine b story) (store story) accepts
    area = record { fuses = fuses; provisioned = p.holds.provisioned; good = p.good }

    same_svn : found.manifest.svn ≡ p.good.parts.manifest.svn
    same_svn = ap (λ (c : CapsuleState). c.manifest.svn) (sym p.is) ∙ ap (λ (c : CapsuleState). c.manifest.svn) p.good.found

    few : found.manifest.svn ≤ 127
    few = omega (arith, same_svn, p.good.signed.spelled.svn)

    part : (added : List Operation) → floor_of fuses b < found.manifest.svn → IsPart (store story) (clearing (floor_at profile.Two b) (found.manifest.svn - 1)) added → HasGoodRecovery b (mine b story) (play (store story) added) accepts
    unfolding area
    part added high is =
        recovery_raised (mine b story) (store story) b accepts area (found.manifest.svn - 1) added p.holds.store_size p.holds.two (omega (arith, few)) (omega (arith, same_svn, high)) is

    own_raised : AllSafe (KeepsRecoverable accepts b) (raised_to found.manifest.svn b fuses story) story
    own_raised =
        raise_plan_cases (λ ops. AllSafe (KeepsRecoverable accepts b) (called device.Nv ops) story) (floor_of fuses b) b found.manifest.svn
        (λ low. (tt, tt))
        (λ high. (
          (
            λ can. inl (there (Program (floor_at profile.Two b + (found.manifest.svn - 1) / 8) (fuse_byte (found.manifest.svn - 1) ∷ [])) (part (Program (floor_at profile.Two b + (found.manifest.svn - 1) / 8) (fuse_byte (found.manifest.svn - 1) ∷ []) ∷ []) high (inl (refl, tt)))),
            λ done t can. inl (there done (part (done ∷ []) high (inr (t, refl)))),
          ),
          (tt, tt),
        ))
      where
        there : (op : Operation) → HasGoodRecovery b (mine b story) (applied (store story) op) accepts → HoldsIn (λ image nv. HasGoodRecovery b image nv accepts) b (operated device.Nv op story)
        there op h = nv_there (λ image nv. HasGoodRecovery b image nv accepts) b op story h

    good_raised : HasGoodRecovery b (mine b story) (play (store story) (raise_plan (floor_of fuses b) b found.manifest.svn)) accepts
    good_raised =
        raise_plan_cases (λ ops. HasGoodRecovery b (mine b story) (play (store story) ops) accepts) (floor_of fuses b) b found.manifest.svn
        (λ low. record { fuses = fuses; provisioned = p.holds.provisioned; good = p.good })
        (λ high. part (clearing (floor_at profile.Two b) (found.manifest.svn - 1)) high (inl (refl, tt)))

    holds_raised : HoldsJobs b (raised fuses b found.manifest.svn) (after (raised_to found.manifest.svn b fuses story) story)
    holds_raised =
        let ops : List Operation = raise_plan (floor_of fuses b) b found.manifest.svn in
        let later : Story = after (called device.Nv ops) story in
        let is : store later ≡ play (store story) ops = image_called device.Nv ops story in
        let same : mine b later ≡ mine b story = mine_called b ops story in
        record {
          provisioned = ap fuses_of is ∙ raise_says (store story) b p.holds.store_size p.holds.two fuses found.manifest.svn few p.holds.provisioned;
          layout = subst (λ (root : RootSlot). IsValidLayout (layout_of root b) (length (mine b later))) (sym (raised_provision fuses b found.manifest.svn))
              (subst (λ (image : List ℕ). IsValidLayout (layout_of fuses.provision b) (length image)) (sym same) p.holds.layout);
          size = subst (λ (image : List ℕ). IsBankSize (length image)) (sym same) p.holds.size;
          bytes = subst AreBytes (sym same) p.holds.bytes;
          store_size = ap (λ (nv : List ℕ). length nv) is ∙ length-play (store story) ops ∙ p.holds.store_size;
          two = ap profile_of is ∙ raise_profile (store story) b p.holds.store_size p.holds.two fuses found.manifest.svn few;
        }

    -- The raise is safe, and behind it the job can be finished.
    pub raised_at : LeadsAt (KeepsBoth accepts b) (raised_to found.manifest.svn b fuses story) (IsFinishing accepts b (raised fuses b found.manifest.svn)) story
    raised_at =
        let ops : List Operation = raise_plan (floor_of fuses b) b found.manifest.svn in
        record {
          safe = safe_both (KeepsRecoverable accepts b) (KeepsRecoverable accepts (other_bank b)) (called device.Nv ops) story own_raised
              (other_raised accepts b (floor_of fuses b) found.manifest.svn story p.holds.store_size p.holds.two few);
          ends = record {
            holds = holds_raised;
            good = λ can. nv_called (λ image nv. HasGoodRecovery b image nv accepts) b ops story good_raised;
            opened = λ none. p.opened (sym (raise_open (store story) b p.holds.store_size p.holds.two fuses found.manifest.svn few b) ∙ sym (ap (λ (nv : List ℕ). open_job nv b) (image_called device.Nv ops story)) ∙ none);
          };
        }

  -- From a good recovery area on, the end of the job leaves both banks so, no job open, and the store says the raised fuses.
  pub concluded_leads : (told : ℕ → What) → Leads (KeepsBoth accepts b) IsRecovered (concluded told b fuses found) (IsJobless b (raised fuses b found.manifest.svn))
  concluded_leads told =
      Leads-then (KeepsBoth accepts b) IsRecovered (IsFinishing accepts b (raised fuses b found.manifest.svn)) (IsJobless b (raised fuses b found.manifest.svn))
      (raised_to found.manifest.svn b fuses) ((then) (finished_job b) (says (λ _. told found.manifest.svn)))
      (leads_from (KeepsBoth accepts b) IsRecovered (IsFinishing accepts b (raised fuses b found.manifest.svn)) (raised_to found.manifest.svn b fuses) (λ story p. raised_at story p))
      (closed_leads accepts b (raised fuses b found.manifest.svn) (λ _. told found.manifest.svn))
