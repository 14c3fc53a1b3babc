-- Which operations leave a good capsule, and a bank that can be recovered.
use Rattle.std.proofs.Common.{◌≡◌, ◌∙◌, ap, sym, subst, ℕ, ◌+◌, ◌≤◌, ◌%◌, List, length, Ok}
use Rattle.pfr_flash.specs.Bytes.{bytes_at}
use Rattle.pfr_flash.specs.Layout.{IsValidLayout}
use Rattle.pfr_flash.specs.Operation.{Operation, applied}
use Rattle.pfr_flash.specs.Range.{Leaves}
use Rattle.pfr_flash.specs.declared.names.Bank.{Bank}
use Rattle.pfr_flash.proofs.PlayLemmas.{length-applied}
use Rattle.pfr_flash.proofs.LeavingLemmas.{left_bytes}
use Rattle.pfr_flash.proofs.PartsLemmas.{same_front}
use Rattle.pfr_engine.specs.Acceptance.{Acceptance}
use Rattle.pfr_fuses.specs.FusesState.{FusesState}
use Rattle.pfr_fuses.specs.FusesOf.{fuses_of}
use Rattle.pfr_fuses.specs.RootSlot.{layout_of}
use Rattle.pfr_capsule.specs.CapsuleState.{CapsuleState}
use Rattle.pfr_capsule.specs.Good.{IsGood}
use Rattle.pfr_capsule.proofs.GoodFacts.{good_within}
use Rattle.pfr_capsule.proofs.MovedLaw.{good_moved, capsule_moved, digest_moved}
use Rattle.pfr_jobs.specs.declared.job.JobKind.TheVariants.{RecoveryFromStaging}
use Rattle.pfr_jobs.specs.declared.job.OpenJob.TheVariants.{Job}
use Rattle.pfr_recoverable.specs.Recoverable.{HasGoodRecovery, HasRecoveryJob}

module _ (image nv : List ℕ) (place len : ℕ) (bank : Bank) (accepts : Acceptance) (g : IsGood image place len nv bank accepts) (blocks : length image % 65536 ≡ 0)
    (inside : place + len ≤ length image) (op : Operation) (leaves : Leaves place len op) where
  here : bytes_at image place g.capsule.length ≡ bytes_at (applied image op) place g.capsule.length
  here = same_front image (applied image op) place place len g.capsule.length (sym (left_bytes image op place len leaves inside)) (good_within image nv place len bank accepts g)

  pub good_left : IsGood (applied image op) place len nv bank accepts
  good_left = good_moved image (applied image op) nv place place len len bank accepts g (sym (length-applied image op)) blocks here (good_within image nv place len bank accepts g)

  pub digest_left : good_left.capsule.digest ≡ g.capsule.digest
  unfolding good_left
  digest_left = ap (λ (c : CapsuleState). c.digest) (capsule_moved image (applied image op) nv place place len len bank accepts g (sym (length-applied image op)) blocks here (good_within image nv place len bank accepts g))
      ∙ digest_moved image (applied image op) nv place place len len bank accepts g (sym (length-applied image op)) blocks here (good_within image nv place len bank accepts g)

pub fuses_one : (nv : List ℕ) (a b : FusesState) → fuses_of nv ≡ Ok a → fuses_of nv ≡ Ok b → a ≡ b
fuses_one nv a b p q = cc

-- An operation of the bank that leaves its recovery area leaves it good.
pub recovery_left : (bank : Bank) (image nv : List ℕ) (accepts : Acceptance) (r : HasGoodRecovery bank image nv accepts) (op : Operation) → length image % 65536 ≡ 0
    → Leaves (layout_of r.fuses.provision bank).recovery_at (layout_of r.fuses.provision bank).area_len op → HasGoodRecovery bank (applied image op) nv accepts
recovery_left bank image nv accepts r op blocks leaves =
    let same : r.good.fuses ≡ r.fuses = fuses_one nv r.good.fuses r.fuses r.good.provisioned r.provisioned in
    let valid : IsValidLayout (layout_of r.fuses.provision bank) (length image) = subst (λ (f : FusesState). IsValidLayout (layout_of f.provision bank) (length image)) same r.good.layout in
    record {
      fuses = r.fuses;
      provisioned = r.provisioned;
      good = good_left image nv (layout_of r.fuses.provision bank).recovery_at (layout_of r.fuses.provision bank).area_len bank accepts r.good blocks valid.inside.recovery op leaves;
    }

-- One that leaves its staging area leaves the job that replaces the recovery area.
pub job_left : (bank : Bank) (image nv : List ℕ) (accepts : Acceptance) (r : HasRecoveryJob bank image nv accepts) (op : Operation) → length image % 65536 ≡ 0
    → Leaves (layout_of r.fuses.provision bank).staging_at (layout_of r.fuses.provision bank).area_len op → HasRecoveryJob bank (applied image op) nv accepts
job_left bank image nv accepts r op blocks leaves =
    let same : r.good.fuses ≡ r.fuses = fuses_one nv r.good.fuses r.fuses r.good.provisioned r.provisioned in
    let valid : IsValidLayout (layout_of r.fuses.provision bank) (length image) = subst (λ (f : FusesState). IsValidLayout (layout_of f.provision bank) (length image)) same r.good.layout in
    let place : ℕ = (layout_of r.fuses.provision bank).staging_at in
    let len : ℕ = (layout_of r.fuses.provision bank).area_len in
    record {
      fuses = r.fuses;
      provisioned = r.provisioned;
      good = good_left image nv place len bank accepts r.good blocks valid.inside.staging op leaves;
      opened = r.opened ∙ ap (λ (digest : List ℕ). Job RecoveryFromStaging digest) (sym (digest_left image nv place len bank accepts r.good blocks valid.inside.staging op leaves));
    }
