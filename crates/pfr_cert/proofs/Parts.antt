-- The parts of a reading, and what a refusal leaves.
use Rattle.std.proofs.Common.{◌≡◌, ◌∙◌, ap, sym, refl, subst, ℕ, ◌+◌, List, Option, Ok, Err}
use Rattle.pfr_flash.specs.Answer.{Answers}
use Rattle.pfr_flash.specs.FlashState.{FlashState, now}
use Rattle.pfr_flash.specs.Numbers.{number_at}
use Rattle.pfr_flash.specs.declared.names.Bank.{Bank}
use Rattle.pfr_flash.specs.declared.names.ContentType.{ContentType}
use Rattle.pfr_flash.specs.declared.names.ContentType.TheVariants.{PchManifest, PchCapsule, BmcManifest, BmcCapsule, Controller, PchManifestCancel, PchCapsuleCancel, BmcManifestCancel, BmcCapsuleCancel}
use Rattle.pfr_flash.proofs.AnswerLemmas.{refused}
use Rattle.pfr_flash.proofs.JudgingLemmas.{passed_part}
use Rattle.pfr_engine.specs.Acceptance.{Acceptance}
use Rattle.pfr_chain.specs.Answer.{chain_failure}
use Rattle.pfr_chain.specs.Judge.{judge}
use Rattle.pfr_chain.specs.Types.{type_of}
use Rattle.pfr_chain.specs.declared.fail.ChainFail.{ChainFail}
use Rattle.pfr_fuses.specs.Changes.{with_row}
use Rattle.pfr_fuses.specs.FusesOf.{fuses_of, fuses_with, row_fuses}
use Rattle.pfr_fuses.specs.FusesState.{FusesState}
use Rattle.pfr_fuses.specs.Slots.{provisioned_slot}
use Rattle.pfr_cert.specs.Certificate.{cancelling, no_cancellations}
use Rattle.pfr_cert.specs.Judge.{judge_signed, wanted}

-- a refusal of the chain, after a call that only reads, is one of what is signed
pub chain_refused : (old mid : FlashState) (place len : ℕ) (bank : Bank) (root : List ℕ) (accepts : Acceptance) (named : Option ContentType) (ty type : ContentType) (row : List ℕ) (cause : ChainFail)
    → now mid ≡ now old → named ≡ type_of (number_at (now old) (place + 8)) → ty ≡ wanted bank named → type ≡ cancelling ty → row ≡ no_cancellations
    → Answers chain_failure (Err cause) (judge (now mid) place len type root row accepts)
    → Answers chain_failure (Err cause) (judge_signed (now old) place len bank root accepts)
unfolding judge_signed
chain_refused old mid place len bank root accepts named ty type row cause reads is_named is_ty is_type is_row h =
    refused chain_failure cause (judge (now mid) place len type root row accepts) _
    (λ e. let k = rw (reads, is_row, is_type, is_ty, is_named) at e in rw k refl) h

-- a row that is taken from the store again stays
row_again : (nv slot : List ℕ) (type : ContentType) → with_row (fuses_with nv slot) type (row_fuses nv type) ≡ fuses_with nv slot
row_again nv slot PchManifest = refl
row_again nv slot PchCapsule = refl
row_again nv slot BmcManifest = refl
row_again nv slot BmcCapsule = refl
row_again nv slot Controller = refl
row_again nv slot PchManifestCancel = refl
row_again nv slot PchCapsuleCancel = refl
row_again nv slot BmcManifestCancel = refl
row_again nv slot BmcCapsuleCancel = refl

pub same_rest : (nv : List ℕ) (fuses : FusesState) (type : ContentType) → fuses_of nv ≡ Ok fuses → fuses_of nv ≡ Ok (with_row fuses type (row_fuses nv type))
unfolding fuses_of
same_rest nv fuses type h =
    let a = passed_part (provisioned_slot nv) _ fuses h in
    let is : fuses_with nv a.0 ≡ fuses = cc in
    let again : with_row fuses type (row_fuses nv type) ≡ fuses = subst (λ (f : FusesState). with_row f type (row_fuses nv type) ≡ f) is (row_again nv a.0 type) in
    h ∙ ap (λ (f : FusesState). Ok f) (sym again)
