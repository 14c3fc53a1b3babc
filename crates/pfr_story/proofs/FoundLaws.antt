-- What a capsule or a certificate that was found says, whatever else the bytes are.
use Rattle.std.proofs.Common.{◌≡◌, arith, ◌<◌, false, length, inl, inr, Ok}
use Rattle.pfr_flash.specs.declared.names.Bank.{Bank}
use Rattle.pfr_flash.specs.declared.names.ContentType.{ContentType}
use Rattle.pfr_engine.specs.Acceptance.{Acceptance}
use Rattle.pfr_fuses.specs.FusesState.{FusesState}
use Rattle.pfr_fuses.specs.RootSlot.{layout_of}
use Rattle.pfr_capsule.specs.CapsuleState.{CapsuleState}
use Rattle.pfr_auth.specs.Areas.{place_of}
use Rattle.pfr_cert.specs.Certificate.{IsOf}
use Rattle.pfr_cert.specs.declared.cert.Cert.{Cert}
use Rattle.pfr_cert.proofs.CertLaw.{cert_holds}
use Rattle.pfr_jobs.specs.LogPlans.{begin_plan}
use Rattle.pfr_jobs.specs.LogState.{is_spent}
use Rattle.pfr_jobs.specs.declared.job.JobKind.{JobKind}
use Rattle.pfr_story.specs.JobPlans.{judged_source, source_of}
use Rattle.pfr_story.specs.Plans.{mine, store}
use Rattle.pfr_story.specs.Story.{Story}
use Rattle.pfr_story.specs.UpdatePlans.{judged_cert}
use Rattle.pfr_story.proofs.JobRules.{AllInLog}
use Rattle.pfr_story.proofs.JobSafetyCancelled.{IsTypeOf}
use Rattle.pfr_story.proofs.FoundParts.{judged_small}
use Rattle.pfr_story.proofs.FoundLog.{begins_own}

-- a job that works on it is begun in the bank's log, where that isn't spent
pub found_begins : (accepts : Acceptance) (b : Bank) (fuses : FusesState) (kind : JobKind) (capsule : CapsuleState) (story : Story) → judged_source accepts b fuses kind story ≡ Ok capsule
    → length (store story) ≡ 32768 → is_spent (store story) b ≡ false → AllInLog b (begin_plan (store story) b kind capsule.digest)
found_begins accepts b fuses kind capsule story j size unspent =
    let layout = layout_of fuses.provision b in
    let small = judged_small (mine b story) (place_of layout (source_of kind)) layout.area_len b layout fuses accepts capsule j in
    begins_own (store story) b kind capsule.digest size small.digest unspent

own_type : (b : Bank) (type : ContentType) → IsOf b type → IsTypeOf b type
own_type b type (inl manifest) = inr manifest
own_type b type (inr capsule) = inl capsule

-- a certificate that was found is for one of the bank's types, and for a key that there may be
pub cert_own : (accepts : Acceptance) (b : Bank) (fuses : FusesState) (cert : Cert) (story : Story) → judged_cert accepts b fuses story ≡ Ok cert → IsTypeOf b cert.ty × (cert.id < 256)
cert_own accepts b fuses cert story j =
    let holds = cert_holds b (mine b story) fuses accepts cert j in
    (own_type b cert.ty holds.own, omega (arith, holds.body.byte))
