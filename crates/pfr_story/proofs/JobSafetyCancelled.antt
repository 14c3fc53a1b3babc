-- The cancellation of a key of a bank that isn't one of its recovery area leaves both banks ones that can be recovered.
use Rattle.std.proofs.Common.{◌≡◌, ◌∙◌, refl, sym, ap, subst, arith, ℕ, ◌+◌, ◌/◌, ◌<◌, ◌≢◌, List, [], ◌∷◌, length, ◌⊎◌, inl, inr, Result, Ok, Err}
use Rattle.pfr_flash.specs.Bytes.{AreBytes}
use Rattle.pfr_flash.specs.FuseRow.{fuse_byte, with_cleared}
use Rattle.pfr_flash.specs.Layout.{IsBankSize, IsValidLayout}
use Rattle.pfr_flash.specs.Names.{capsule_type, manifest_type}
use Rattle.pfr_flash.specs.Operation.{Operation, Program, applied, play}
use Rattle.pfr_flash.specs.Plan.{IsPart}
use Rattle.pfr_flash.specs.Range.{SameOutside}
use Rattle.pfr_flash.specs.declared.names.Bank.{Bank}
use Rattle.pfr_flash.specs.declared.names.Bank.TheVariants as bank
use Rattle.pfr_flash.specs.declared.names.ContentType.{ContentType}
use Rattle.pfr_flash.specs.declared.names.ContentType.TheVariants.{PchManifest, PchCapsule, BmcManifest, BmcCapsule}
use Rattle.pfr_flash.specs.declared.names.Device.TheVariants as device
use Rattle.pfr_flash.proofs.ClearingLemmas.{clearing-within}
use Rattle.pfr_flash.proofs.PlayLemmas.{length-play}
use Rattle.pfr_flash.proofs.RangeLemmas.{SameOutside-play}
use Rattle.pfr_engine.specs.Acceptance.{Acceptance}
use Rattle.pfr_fuses.specs.Changes.{cancellation, with_row, with_cancelled}
use Rattle.pfr_fuses.specs.FuseMap.{IsSigning, row_at, profile_of}
use Rattle.pfr_fuses.specs.FusesState.{FusesState, row_of}
use Rattle.pfr_fuses.specs.FusesOf.{fuses_of}
use Rattle.pfr_fuses.specs.RootSlot.{layout_of}
use Rattle.pfr_fuses.specs.declared.profile.Profile.TheVariants as profile
use Rattle.pfr_fuses.specs.declared.root_slot.RootSlot.{RootSlot}
use Rattle.pfr_fuses.proofs.ExactLemmas.{ChangedAt, fuses_of-but_row, row-cleared, row_kept}
use Rattle.pfr_fuses.proofs.GrowthLemmas.{profile-outside, slots-outside}
use Rattle.pfr_fuses.proofs.StaysLemmas.{row_in_sector}
use Rattle.pfr_capsule.specs.CapsuleState.{CapsuleState}
use Rattle.pfr_capsule.specs.declared.fail.CapsuleFail.{CapsuleFail}
use Rattle.pfr_capsule.specs.Judge.{judge_capsule}
use Rattle.pfr_jobs.specs.Log.{open_job}
use Rattle.pfr_recoverable.specs.Recoverable.{HasGoodRecovery, IsRecoverable}
use Rattle.pfr_recoverable.proofs.OtherLaw.{fuse_keeps, cancel_other, recovery_cancelled}
use Rattle.pfr_recoverable.proofs.StaysLaw.{fuses_one}
use Rattle.pfr_story.specs.Story.{Story, Plan, after, called, other_bank}
use Rattle.pfr_story.specs.Safety.{AllSafe, Leads}
use Rattle.pfr_story.specs.Plans.{mine, store, judged_recovery}
use Rattle.pfr_story.specs.Recovery.{KeepsRecoverable}
use Rattle.pfr_story.proofs.SafetyLaws.{image_called}
use Rattle.pfr_story.proofs.JobSafety.{HoldsJobs, IsJobless, mine_called, nv_there, none_replacing, CanBe, calm_good}
use Rattle.pfr_story.proofs.JobSafetyOther.{KeepsBoth, safe_both}
use Rattle.pfr_story.proofs.JobSafetyActive.{LeadsAt, leads_from}
use Rattle.pfr_story.proofs.JobSafetyRecovery.{good_found, found_ok}

-- ---- the types of a bank
-- it is one of the bank's own
abbrev pub IsTypeOf : Bank → ContentType → Type 0
IsTypeOf b type = (type ≡ capsule_type b) ⊎ (type ≡ manifest_type b)

pub own_signs : (b : Bank) (type : ContentType) → IsTypeOf b type → IsSigning type
own_signs bank.Bmc type (inl e) = subst IsSigning (sym e) tt
own_signs bank.Bmc type (inr e) = subst IsSigning (sym e) tt
own_signs bank.Pch type (inl e) = subst IsSigning (sym e) tt
own_signs bank.Pch type (inr e) = subst IsSigning (sym e) tt

-- and so not one of the other bank's
others_apart : (b : Bank) (type : ContentType) → IsTypeOf b type → (capsule_type (other_bank b) ≢ type) × (manifest_type (other_bank b) ≢ type)
others_apart bank.Bmc type (inl e) = (λ h. absurd cc, λ h. absurd cc)
others_apart bank.Bmc type (inr e) = (λ h. absurd cc, λ h. absurd cc)
others_apart bank.Pch type (inl e) = (λ h. absurd cc, λ h. absurd cc)
others_apart bank.Pch type (inr e) = (λ h. absurd cc, λ h. absurd cc)

-- no good capsule was found, or the key of this type and id isn't one of its two
abbrev pub AreKeysApart : Bank → ContentType → ℕ → Result CapsuleState CapsuleFail → Type 0
AreKeysApart b type id (Ok found) = ((capsule_type b ≢ type) ⊎ (found.capsule_key ≢ id)) × ((manifest_type b ≢ type) ⊎ (found.manifest_key ≢ id))
AreKeysApart b type id (Err cause) = Unit {0}

-- ---- the store
row_provision : (fuses : FusesState) (type : ContentType) (row : List ℕ) → IsSigning type → (with_row fuses type row).provision ≡ fuses.provision
row_provision fuses PchManifest row s = refl
row_provision fuses PchCapsule row s = refl
row_provision fuses BmcManifest row s = refl
row_provision fuses BmcCapsule row s = refl
row_provision fuses type row s = absurd s

module _ (nv : List ℕ) (type : ContentType) (id : ℕ) (size : length nv ≡ 32768) (two : profile_of nv ≡ profile.Two) (few : id < 256) (signing : IsSigning type) where
  outside : SameOutside (row_at profile.Two type) 32 nv (play nv (cancellation type id))
  outside = SameOutside-play (row_at profile.Two type) 32 nv (cancellation type id) (clearing-within (row_at profile.Two type) 32 id (omega (arith, few)))

  changed : ChangedAt (row_at profile.Two type) 32 nv (play nv (cancellation type id))
  changed = record {
    size = size;
    same_size = length-play nv (cancellation type id);
    two = two;
    outside = outside;
    store = record {
      slots = λ k below. slots-outside (row_at profile.Two type) 32 nv (play nv (cancellation type id)) (omega (arith, (row_in_sector type signing).0)) size (length-play nv (cancellation type id)) outside k below;
      profile = profile-outside (row_at profile.Two type) 32 nv (play nv (cancellation type id)) (inl (omega (arith, (row_in_sector type signing).0))) outside;
    };
  }

  cancel_profile : profile_of (play nv (cancellation type id)) ≡ profile.Two
  cancel_profile = changed.store.profile ∙ two

  -- The store says the fuses with this key cancelled.
  pub cancel_says : (fuses : FusesState) → fuses_of nv ≡ Ok fuses → fuses_of (play nv (cancellation type id)) ≡ Ok (with_cancelled fuses type id)
  cancel_says fuses was =
      fuses_of-but_row type nv (play nv (cancellation type id)) fuses signing changed was
      ∙ ap (λ (row : List ℕ). Ok (with_row fuses type row))
      (row-cleared type nv (play nv (cancellation type id)) id changed few refl (omega (arith, (row_in_sector type signing).1))
      ∙ ap (λ (row : List ℕ). with_cleared row id) (sym (row_kept nv fuses type signing was)))

-- ---- as moves
module _ (accepts : Acceptance) (b : Bank) (fuses : FusesState) (type : ContentType) (id : ℕ) where
  -- no job is open, and the key is one of the bank's, but not one of the good capsule in its recovery area
  pub record IsCancelling (story : Story) : Type 0 where
    pub jobless : IsJobless b fuses story
    pub few : id < 256
    pub own : IsTypeOf b type
    pub apart : AreKeysApart b type id (judged_recovery accepts b fuses story)

  abbrev pub cancelled : Plan
  cancelled story = called device.Nv (cancellation type id)

  module _ (story : Story) (p : IsCancelling story) where
    signing : IsSigning type
    signing = own_signs b type p.own

    abbrev nv : List ℕ
    nv = store story

    -- the keys of a good recovery area are others
    apart_of : (r : HasGoodRecovery b (mine b story) (store story) accepts) → ((capsule_type b ≢ type) ⊎ (r.good.capsule.capsule_key ≢ id)) × ((manifest_type b ≢ type) ⊎ (r.good.capsule.manifest_key ≢ id))
    apart_of r =
        let h = p.jobless.holds in
        let same : fuses ≡ r.fuses = fuses_one (store story) fuses r.fuses h.provisioned r.provisioned in
        let judged : judged_recovery accepts b fuses story ≡ found_ok r.good.capsule =
        ap (λ (f : FusesState). judge_capsule (mine b story) (layout_of f.provision b).recovery_at (layout_of f.provision b).area_len b (layout_of fuses.provision b) fuses accepts) same
        ∙ good_found (mine b story) (store story) (layout_of r.fuses.provision b).recovery_at (layout_of r.fuses.provision b).area_len b accepts fuses r.good h.provisioned in
        subst (AreKeysApart b type id) judged p.apart

    part : (done : Operation) → IsPart (store story) (cancellation type id) (done ∷ []) → CanBe accepts b story → IsRecoverable b (mine b story) (applied (store story) done) accepts
    part done is can =
        let h = p.jobless.holds in
        let r = calm_good accepts b story (none_replacing b (store story) p.jobless.none) can in
        let apart = apart_of r in
        inl (recovery_cancelled (mine b story) (store story) b accepts r type id (done ∷ []) h.store_size h.two p.few signing apart.0 apart.1 is)

    other_part : (done : Operation) → IsPart (store story) (cancellation type id) (done ∷ []) → CanBe accepts (other_bank b) story → IsRecoverable (other_bank b) (mine (other_bank b) story) (applied (store story) done) accepts
    other_part done is can =
        let h = p.jobless.holds in
        let apart = others_apart b type p.own in
        cancel_other (mine (other_bank b) story) (store story) (other_bank b) accepts type id (done ∷ []) h.store_size h.two p.few signing apart.0 apart.1 is can

    one_safe : (c : Bank) → ((done : Operation) → IsPart (store story) (cancellation type id) (done ∷ []) → CanBe accepts c story → IsRecoverable c (mine c story) (applied (store story) done) accepts)
        → AllSafe (KeepsRecoverable accepts c) (called device.Nv (cancellation type id)) story
    one_safe c parts = (
      (
        λ can. nv_there (λ image bytes. IsRecoverable c image bytes accepts) c (Program (row_at profile.Two type + id / 8) (fuse_byte id ∷ [])) story (parts (Program (row_at profile.Two type + id / 8) (fuse_byte id ∷ [])) (inl (refl, tt)) can),
        λ done t can. nv_there (λ image bytes. IsRecoverable c image bytes accepts) c done story (parts done (inr (t, refl)) can),
      ),
      (tt, tt),
    )

    holds_then : HoldsJobs b (with_cancelled fuses type id) (after (called device.Nv (cancellation type id)) story)
    holds_then =
        let h = p.jobless.holds in
        let ops : List Operation = cancellation type id in
        let later : Story = after (called device.Nv ops) story in
        let is : store later ≡ play (store story) ops = image_called device.Nv ops story in
        let same : mine b later ≡ mine b story = mine_called b ops story in
        record {
          provisioned = ap fuses_of is ∙ cancel_says (store story) type id h.store_size h.two p.few signing fuses h.provisioned;
          layout = subst (λ (root : RootSlot). IsValidLayout (layout_of root b) (length (mine b later))) (sym (row_provision fuses type (with_cleared (row_of fuses type) id) signing))
              (subst (λ (image : List ℕ). IsValidLayout (layout_of fuses.provision b) (length image)) (sym same) h.layout);
          size = subst (λ (image : List ℕ). IsBankSize (length image)) (sym same) h.size;
          bytes = subst AreBytes (sym same) h.bytes;
          store_size = ap (λ (bytes : List ℕ). length bytes) is ∙ length-play (store story) ops ∙ h.store_size;
          two = ap profile_of is ∙ cancel_profile (store story) type id h.store_size h.two p.few signing;
        }

    cancelled_at : LeadsAt (KeepsBoth accepts b) (called device.Nv (cancellation type id)) (IsJobless b (with_cancelled fuses type id)) story
    cancelled_at =
        let h = p.jobless.holds in
        let ops : List Operation = cancellation type id in
        record {
          safe = safe_both (KeepsRecoverable accepts b) (KeepsRecoverable accepts (other_bank b)) (called device.Nv ops) story (one_safe b part) (one_safe (other_bank b) other_part);
          ends = record {
            holds = holds_then;
            none = ap (λ (bytes : List ℕ). open_job bytes b) (image_called device.Nv ops story)
                ∙ fuse_keeps (store story) b (row_at profile.Two type) id ops h.store_size (omega (arith, (row_in_sector type signing).0)) (inl (refl, tt)) ∙ p.jobless.none;
          };
        }

  -- Such a cancellation leaves both banks so, and the store says the fuses with this key cancelled.
  pub cancelled_leads : Leads (KeepsBoth accepts b) IsCancelling cancelled (IsJobless b (with_cancelled fuses type id))
  cancelled_leads = leads_from (KeepsBoth accepts b) IsCancelling (IsJobless b (with_cancelled fuses type id)) cancelled (λ story p. cancelled_at story p)
