-- What is known where the work on a bank begins, and where a job, a copy of the recovery area or a cancellation leaves it: no job is open.
use Rattle.std.proofs.Common.{◌≡◌, ◌≢◌, ◌∙◌, sym, subst, arith, ℕ, ◌≤◌, List, [], ◌∷◌, false, inl, inr, length, Result, Ok, Err}
use Rattle.std.proofs.Math.Nat.{le-min}
use Rattle.pfr_flash.specs.Names.{capsule_type, manifest_type}
use Rattle.pfr_flash.specs.declared.names.Bank.{Bank}
use Rattle.pfr_flash.specs.declared.names.Bank.TheVariants as bank
use Rattle.pfr_flash.specs.declared.names.Counts.{Counts}
use Rattle.pfr_flash.specs.declared.names.Device.TheVariants as device
use Rattle.pfr_engine.specs.Acceptance.{Acceptance}
use Rattle.pfr_fuses.specs.Changes.{cancellation, with_cancelled, raised}
use Rattle.pfr_fuses.specs.FusesState.{FusesState}
use Rattle.pfr_capsule.specs.CapsuleState.{CapsuleState}
use Rattle.pfr_capsule.specs.declared.fail.CapsuleFail.{CapsuleFail}
use Rattle.pfr_cert.specs.Applying.{judge_apply}
use Rattle.pfr_cert.specs.declared.cert.Cert.{Cert}
use Rattle.pfr_cert.proofs.SparingLaw.{spares_capsule_key, spares_manifest_key}
use Rattle.pfr_jobs.specs.LogState.{is_spent}
use Rattle.pfr_recoverable.proofs.StaysLaw.{fuses_one}
use Rattle.pfr_report.specs.declared.note.What.{What}
use Rattle.pfr_report.specs.declared.note.What.TheVariants as what
use Rattle.pfr_story.specs.JobPlans.{job_notes, recovery_job, resumed}
use Rattle.pfr_story.specs.Plans.{store, ready_of, judged_staging}
use Rattle.pfr_story.specs.Story.{Story, Move, Says, after, noted, called}
use Rattle.pfr_story.specs.UpdatePlans.{judged_cert, standing_capsule, cancelled_key}
use Rattle.pfr_story.proofs.Sequence.{after-append}
use Rattle.pfr_story.proofs.FoundLaws.{cert_own}
use Rattle.pfr_story.proofs.BringRules.{ready_found, use_judged, level_at}
use Rattle.pfr_story.proofs.JobSafety.{HoldsJobs, IsJobless, holds_noted}
use Rattle.pfr_story.proofs.JobSafetyResumed.{IsResumed, resumed_leads}
use Rattle.pfr_story.proofs.JobSafetyCancelled.{IsTypeOf, AreKeysApart, IsCancelling, cancelled_leads}
use Rattle.pfr_story.proofs.JobSafetyLaws.{recovery_job_ends}

-- the store has its size
abbrev pub IsSized : Story → Type 0
IsSized story = length (store story) ≡ 32768

-- where its fuses can be read they are in profile 2
abbrev pub CanBeWorked : Bank → Story → Type 0
CanBeWorked c story = (fuses : FusesState) → ready_of c story ≡ Ok fuses → HoldsJobs c fuses story

-- and no job is open
abbrev pub IsClosed : Bank → Story → Type 0
IsClosed c story = (fuses : FusesState) → ready_of c story ≡ Ok fuses → IsJobless c fuses story

pub closed_by : (c : Bank) (now : FusesState) (story : Story) → IsJobless c now story → IsClosed c story
closed_by c now story p fuses e =
    subst (λ (f : FusesState). IsJobless c f story) (fuses_one (store story) now fuses p.holds.provisioned (ready_found c fuses story e).provisioned) p

pub jobless_noted : (c : Bank) (fuses : FusesState) (w : Counts → What) (story : Story) → IsJobless c fuses story → IsJobless c fuses (noted w story)
jobless_noted c fuses w story p = record { holds = holds_noted c fuses w story p.holds; none = p.none }

-- ---- the keys of a certificate that may be applied
types_apart : (c : Bank) → capsule_type c ≢ manifest_type c
types_apart bank.Bmc e = absurd cc
types_apart bank.Pch e = absurd cc

pub keys_apart : (c : Bank) (fuses : FusesState) (cert : Cert) (judged : Result CapsuleState CapsuleFail) → IsTypeOf c cert.ty → judge_apply fuses cert (standing_capsule judged) ≡ Ok tt → AreKeysApart c cert.ty cert.id judged
keys_apart c fuses cert (Err cause) own e = tt
keys_apart c fuses cert (Ok found) (inl is) e = (inr (spares_capsule_key fuses cert found c e is), inl (λ same. types_apart c (sym is ∙ sym same)))
keys_apart c fuses cert (Ok found) (inr is) e = (inl (λ same. types_apart c (same ∙ is)), inr (spares_manifest_key fuses cert found c e is))

-- an expiry makes one recovery at least
pub level_some : (c : Bank) (story : Story) → 1 ≤ level_at c story
level_some c story = le-min (omega arith) (omega arith)

-- ---- what the parts of the work leave
module _ (accepts : Acceptance) (c : Bank) (fuses : FusesState) (story : Story) where
  pub resumed_closed : HoldsJobs c fuses story → IsClosed c (after (resumed (job_notes c) accepts c fuses story) story)
  resumed_closed h =
      let end : IsResumed c fuses (after (resumed (job_notes c) accepts c fuses story) story) = (resumed_leads accepts c fuses (job_notes c)).ends story h in
      closed_by c end.now (after (resumed (job_notes c) accepts c fuses story) story) end.jobless

  pub copy_closed : (capsule : CapsuleState) → IsJobless c fuses story → judged_staging accepts c fuses story ≡ Ok capsule → is_spent (store story) c ≡ false
      → IsClosed c (after (recovery_job (job_notes c).given_up (job_notes c).recovery_updated accepts c fuses capsule story) story)
  copy_closed capsule p j unspent =
      let given_up : What = (job_notes c).given_up in
      let told : ℕ → What = (job_notes c).recovery_updated in
      let end = recovery_job_ends accepts c fuses given_up told capsule story p unspent j in
      closed_by c (raised fuses c end.svn) (after (recovery_job given_up told accepts c fuses capsule story) story) end.jobless

  pub cancelling : (cert : Cert) → IsJobless c fuses story → judged_cert accepts c fuses story ≡ Ok cert → use_judged accepts c fuses cert story ≡ Ok tt → IsCancelling accepts c fuses cert.ty cert.id story
  cancelling cert p j u = let own = cert_own accepts c fuses cert story j in record { jobless = p; few = own.1; own = own.0; apart = keys_apart c fuses cert _ own.0 u }

  pub cancel_closed : (cert : Cert) → IsJobless c fuses story → judged_cert accepts c fuses story ≡ Ok cert → use_judged accepts c fuses cert story ≡ Ok tt → IsClosed c (after (cancelled_key cert story) story)
  cancel_closed cert p j u =
      let call : List Move = called device.Nv (cancellation cert.ty cert.id) in
      let told : List Move = Says (λ _. what.Cancelled cert.ty cert.id) ∷ [] in
      let there : Story = after call story in
      let later : FusesState = with_cancelled fuses cert.ty cert.id in
      let end : IsJobless c later there = (cancelled_leads accepts c fuses cert.ty cert.id).ends story (cancelling cert p j u) in
      subst (λ (s : Story). IsClosed c s) (sym (after-append call told story)) (closed_by c later (noted (λ _. what.Cancelled cert.ty cert.id) there) (jobless_noted c later (λ _. what.Cancelled cert.ty cert.id) there end))
