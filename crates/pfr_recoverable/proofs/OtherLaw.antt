-- What is done to the fuses for one bank leaves the other one that can be recovered, and a cancellation leaves a bank so whose capsule
-- is of other keys.
use Rattle.std.proofs.Common.{◌≡◌, ◌∙◌, refl, sym, ap, subst, arith, ℕ, ◌+◌, ◌/◌, ◌≤◌, ◌<◌, ◌≢◌, List, [], ◌∷◌, length, ◌⊎◌, inl, inr}
use Rattle.pfr_flash.specs.FuseRow.{clearing, fuse_byte}
use Rattle.pfr_flash.specs.Names.{capsule_type, manifest_type}
use Rattle.pfr_flash.specs.Operation.{Operation, Program, play}
use Rattle.pfr_flash.specs.Plan.{IsPart}
use Rattle.pfr_flash.specs.declared.names.Bank.{Bank}
use Rattle.pfr_flash.specs.declared.names.ContentType.{ContentType}
use Rattle.pfr_flash.proofs.RangeLemmas.{IsTorn-within}
use Rattle.pfr_engine.specs.Acceptance.{Acceptance}
use Rattle.pfr_fuses.specs.Changes.{cancellation}
use Rattle.pfr_fuses.specs.FuseMap.{IsSigning, profile_of, floor_at, row_at}
use Rattle.pfr_fuses.specs.FusesState.{FusesState}
use Rattle.pfr_fuses.specs.RootSlot.{layout_of}
use Rattle.pfr_fuses.specs.declared.profile.Profile.TheVariants as profile
use Rattle.pfr_fuses.specs.declared.root_slot.RootSlot.{RootSlot}
use Rattle.pfr_fuses.proofs.StaysLemmas.{floor_in_sector, row_in_sector}
use Rattle.pfr_capsule.specs.CapsuleState.{CapsuleState}
use Rattle.pfr_capsule.specs.Good.{IsGood}
use Rattle.pfr_jobs.specs.Log.{open_job}
use Rattle.pfr_jobs.specs.declared.job.JobKind.TheVariants.{RecoveryFromStaging}
use Rattle.pfr_jobs.specs.declared.job.OpenJob.TheVariants.{Job}
use Rattle.pfr_jobs.proofs.BeginLaw.{log_high}
use Rattle.pfr_jobs.proofs.CutLaws.{outside_keeps}
use Rattle.pfr_jobs.proofs.EndLaw.{one_part}
use Rattle.pfr_recoverable.specs.Recoverable.{HasGoodRecovery, HasRecoveryJob, IsRecoverable}
use Rattle.pfr_recoverable.proofs.StaysLaw.{fuses_one}
use Rattle.pfr_recoverable.proofs.RaiseLaw.{raise_keeps_other, raise_other_same}
use Rattle.pfr_recoverable.proofs.CancelLaw.{cancel_keeps_good, cancel_same}

-- a fuse that is cleared, or torn, in the fuses' sector leaves open what is open
pub fuse_keeps : (nv : List ℕ) (c : Bank) (at bit : ℕ) (added : List Operation) → length nv ≡ 32768 → 0x7000 ≤ at → IsPart nv (clearing at bit) added → open_job (play nv added) c ≡ open_job nv c
fuse_keeps nv c at bit added size high part =
    one_part (λ (later : List ℕ). open_job later c ≡ open_job nv c) nv op added refl
    (outside_keeps nv c size op (inr (omega (arith, high, log_high c))))
    (λ done torn. let same = IsTorn-within nv op done torn in outside_keeps nv c size done (inr (omega (arith, high, log_high c, same.0))))
    part
  where
    op : Operation
    op = Program (at + bit / 8) (fuse_byte bit ∷ [])

-- ---- the same capsule, by another store of the same provision
module _ (image nv later : List ℕ) (c : Bank) (accepts : Acceptance) where
  pub recovery_served : (r : HasGoodRecovery c image nv accepts)
      → (g : IsGood image (layout_of r.fuses.provision c).recovery_at (layout_of r.fuses.provision c).area_len later c accepts) → g.fuses.provision ≡ r.good.fuses.provision → HasGoodRecovery c image later accepts
  recovery_served r g same =
      let is : r.fuses.provision ≡ g.fuses.provision = ap (λ (f : FusesState). f.provision) (fuses_one nv r.fuses r.good.fuses r.provisioned r.good.provisioned) ∙ sym same in
      record {
        fuses = g.fuses;
        provisioned = g.provisioned;
        good = subst (λ (p : RootSlot). IsGood image (layout_of p c).recovery_at (layout_of p c).area_len later c accepts) is g;
      }

  pub job_served : (r : HasRecoveryJob c image nv accepts)
      → (g : IsGood image (layout_of r.fuses.provision c).staging_at (layout_of r.fuses.provision c).area_len later c accepts) → (g.capsule ≡ r.good.capsule) × (g.fuses.provision ≡ r.good.fuses.provision)
      → open_job later c ≡ open_job nv c → HasRecoveryJob c image later accepts
  job_served r g same stays =
      let is : r.fuses.provision ≡ g.fuses.provision = ap (λ (f : FusesState). f.provision) (fuses_one nv r.fuses r.good.fuses r.provisioned r.good.provisioned) ∙ sym same.1 in
      let there : (h : IsGood image (layout_of g.fuses.provision c).staging_at (layout_of g.fuses.provision c).area_len later c accepts) × (h.capsule ≡ r.good.capsule) =
      subst (λ (p : RootSlot). (h : IsGood image (layout_of p c).staging_at (layout_of p c).area_len later c accepts) × (h.capsule ≡ r.good.capsule)) is (g, same.0) in
      record {
        fuses = g.fuses;
        provisioned = g.provisioned;
        good = there.0;
        opened = stays ∙ r.opened ∙ ap (λ (x : CapsuleState). Job RecoveryFromStaging x.digest) (sym there.1);
      }

-- A raise of the floor of the other bank leaves a bank one that can be recovered, whatever of it was done.
pub raise_other : (image nv : List ℕ) (b c : Bank) (accepts : Acceptance) → c ≢ b → (bit : ℕ) (added : List Operation) → length nv ≡ 32768 → profile_of nv ≡ profile.Two → bit < 128
    → IsPart nv (clearing (floor_at profile.Two b) bit) added → IsRecoverable c image nv accepts → IsRecoverable c image (play nv added) accepts
raise_other image nv b c accepts other bit added size two few part (inl r) =
    let place : ℕ = (layout_of r.fuses.provision c).recovery_at in
    let len : ℕ = (layout_of r.fuses.provision c).area_len in
    inl (recovery_served image nv (play nv added) c accepts r (raise_keeps_other image nv place len b c accepts other r.good bit added size two few part)
    (raise_other_same image nv place len b c accepts other r.good bit added size two few part).1)
raise_other image nv b c accepts other bit added size two few part (inr r) =
    let place : ℕ = (layout_of r.fuses.provision c).staging_at in
    let len : ℕ = (layout_of r.fuses.provision c).area_len in
    inr (job_served image nv (play nv added) c accepts r (raise_keeps_other image nv place len b c accepts other r.good bit added size two few part)
    (raise_other_same image nv place len b c accepts other r.good bit added size two few part)
    (fuse_keeps nv c (floor_at profile.Two b) bit added size (floor_in_sector b).0 part))

-- So does a cancellation for it.
pub cancel_other : (image nv : List ℕ) (c : Bank) (accepts : Acceptance) (type : ContentType) (id : ℕ) (added : List Operation) → length nv ≡ 32768 → profile_of nv ≡ profile.Two → id < 256 → IsSigning type
    → capsule_type c ≢ type → manifest_type c ≢ type → IsPart nv (cancellation type id) added → IsRecoverable c image nv accepts → IsRecoverable c image (play nv added) accepts
cancel_other image nv c accepts type id added size two few signing apart_c apart_m part (inl r) =
    let place : ℕ = (layout_of r.fuses.provision c).recovery_at in
    let len : ℕ = (layout_of r.fuses.provision c).area_len in
    inl (recovery_served image nv (play nv added) c accepts r (cancel_keeps_good image nv place len c accepts r.good type id added size two few signing (inl apart_c) (inl apart_m) part)
    (cancel_same image nv place len c accepts r.good type id added size two few signing (inl apart_c) (inl apart_m) part).1)
cancel_other image nv c accepts type id added size two few signing apart_c apart_m part (inr r) =
    let place : ℕ = (layout_of r.fuses.provision c).staging_at in
    let len : ℕ = (layout_of r.fuses.provision c).area_len in
    inr (job_served image nv (play nv added) c accepts r (cancel_keeps_good image nv place len c accepts r.good type id added size two few signing (inl apart_c) (inl apart_m) part)
    (cancel_same image nv place len c accepts r.good type id added size two few signing (inl apart_c) (inl apart_m) part)
    (fuse_keeps nv c (row_at profile.Two type) id added size (omega (arith, (row_in_sector type signing).0)) part))

-- A cancellation of a key that isn't one of the two of a bank's good recovery area leaves the area good.
pub recovery_cancelled : (image nv : List ℕ) (b : Bank) (accepts : Acceptance) (r : HasGoodRecovery b image nv accepts) (type : ContentType) (id : ℕ) (added : List Operation) → length nv ≡ 32768 → profile_of nv ≡ profile.Two
    → id < 256 → IsSigning type → ((capsule_type b ≢ type) ⊎ (r.good.capsule.capsule_key ≢ id)) → ((manifest_type b ≢ type) ⊎ (r.good.capsule.manifest_key ≢ id)) → IsPart nv (cancellation type id) added
    → HasGoodRecovery b image (play nv added) accepts
recovery_cancelled image nv b accepts r type id added size two few signing apart_c apart_m part =
    let place : ℕ = (layout_of r.fuses.provision b).recovery_at in
    let len : ℕ = (layout_of r.fuses.provision b).area_len in
    recovery_served image nv (play nv added) b accepts r (cancel_keeps_good image nv place len b accepts r.good type id added size two few signing apart_c apart_m part)
    (cancel_same image nv place len b accepts r.good type id added size two few signing apart_c apart_m part).1
