-- What is done where a bank is updated: its active image, its recovery area, or a key is cancelled.
use Rattle.std.specs.Prelude.{Bool, true, false, Option, Some, None, Result, Ok, Err, nat_eq}
use Rattle.std.specs.Cmp.Lexicographic.{pointwise}
use Rattle.pfr_flash.specs.declared.names.Bank.{Bank}
use Rattle.pfr_flash.specs.declared.names.Device.TheVariants as device
use Rattle.pfr_engine.specs.Acceptance.{Acceptance}
use Rattle.pfr_fuses.specs.Changes.{cancellation}
use Rattle.pfr_fuses.specs.FusesState.{FusesState}
use Rattle.pfr_manifest.specs.Spelling.{manifest_bytes}
use Rattle.pfr_manifest.specs.declared.manifest.Manifest.{Manifest}
use Rattle.pfr_capsule.specs.CapsuleState.{CapsuleState}
use Rattle.pfr_capsule.specs.declared.fail.CapsuleFail.{CapsuleFail}
use Rattle.pfr_auth.specs.declared.fail.ActiveFail.{ActiveFail}
use Rattle.pfr_cert.specs.Applying.{judge_apply}
use Rattle.pfr_cert.specs.Judge.{judge_cert}
use Rattle.pfr_cert.specs.declared.cert.Cert.{Cert}
use Rattle.pfr_cert.specs.declared.fail.CertFail.{CertFail}
use Rattle.pfr_jobs.specs.LogState.{is_spent}
use Rattle.pfr_jobs.specs.declared.job.JobKind.TheVariants.{ActiveFromStaging}
use Rattle.pfr_script.specs.declared.event.Intent.{Intent}
use Rattle.pfr_script.specs.declared.event.Intent.TheVariants as intent
use Rattle.pfr_report.specs.declared.note.LockWhy.{LockWhy}
use Rattle.pfr_report.specs.declared.note.Refusal.{Refusal}
use Rattle.pfr_report.specs.declared.note.Refusal.TheVariants as refusing
use Rattle.pfr_report.specs.declared.note.What.TheVariants.{Held, Locked, Updated, Refused, Cancelled}
use Rattle.pfr_story.specs.JobPlans.{job_notes, recovery_job, with_job}
use Rattle.pfr_story.specs.Plans.{checked_again, checked_then, tail}
use Rattle.pfr_story.specs.Views.{mine, store, asks, asks_store, ready_of, judged_active, judged_staging, judged_recovery}
use Rattle.pfr_story.specs.Story.{Story, Plan, then, says, called}

-- an update is refused, and the bank checked as it is
abbrev pub refused_so : Acceptance → Bank → FusesState → Refusal → Plan
refused_so accepts bank fuses why = then (says (λ _. Refused bank why)) (tail accepts bank fuses)

-- ---- the active image is updated from the staging area
-- with all of its regions where `dynamic`, else with the static ones
abbrev pub updated : Bank → Bool → FusesState → CapsuleState → Plan
updated bank dynamic fuses capsule = with_job bank (ActiveFromStaging dynamic) fuses capsule (Updated bank dynamic capsule.manifest.svn)

-- from a good capsule; one that isn't is refused
abbrev pub by_staged : Acceptance → Bank → Bool → FusesState → Result CapsuleState CapsuleFail → Plan
by_staged accepts bank dynamic fuses (Ok capsule) = then (updated bank dynamic fuses capsule) (checked_again accepts bank fuses)
by_staged accepts bank dynamic fuses (Err cause) = refused_so accepts bank fuses (refusing.Capsule cause)

abbrev pub active_updated : Acceptance → Bank → Bool → FusesState → Plan
active_updated accepts bank dynamic fuses = then (asks bank) (λ story. by_staged accepts bank dynamic fuses (judged_staging accepts bank fuses story) story)

-- ---- the recovery area is updated from the staging area
-- the same bytes spell both manifests
abbrev pub spell_same : Manifest → Manifest → Bool
spell_same manifest other = pointwise nat_eq (manifest_bytes manifest) (manifest_bytes other)

-- the active image is trusted by the manifest of the staged capsule
abbrev pub has_manifest : CapsuleState → Result Manifest ActiveFail → Bool
has_manifest capsule (Ok m) = spell_same m capsule.manifest
has_manifest capsule (Err cause) = false

-- unless the log is spent, by a job
abbrev pub by_room : Bool → Acceptance → Bank → FusesState → CapsuleState → Plan
by_room true accepts bank fuses capsule = refused_so accepts bank fuses refusing.JobsSpent
by_room false accepts bank fuses capsule = then (recovery_job (job_notes bank).given_up (job_notes bank).recovery_updated accepts bank fuses capsule) (checked_then accepts bank)

-- only the capsule of the image that runs is taken
abbrev pub by_manifest : Bool → Acceptance → Bank → FusesState → CapsuleState → Plan
by_manifest true accepts bank fuses capsule = then asks_store (λ story. by_room (is_spent (store story) bank) accepts bank fuses capsule story)
by_manifest false accepts bank fuses capsule = refused_so accepts bank fuses refusing.ManifestDiffers

abbrev pub by_new_recovery : Acceptance → Bank → FusesState → Result CapsuleState CapsuleFail → Plan
by_new_recovery accepts bank fuses (Ok capsule) = then (asks bank) (λ story. by_manifest (has_manifest capsule (judged_active accepts bank fuses story)) accepts bank fuses capsule story)
by_new_recovery accepts bank fuses (Err cause) = refused_so accepts bank fuses (refusing.Capsule cause)

abbrev pub recovery_updated : Acceptance → Bank → FusesState → Plan
recovery_updated accepts bank fuses = then (asks bank) (λ story. by_new_recovery accepts bank fuses (judged_staging accepts bank fuses story) story)

-- ---- a key is cancelled by a certificate in the staging area
abbrev pub judged_cert : Acceptance → Bank → FusesState → Story → Result Cert CertFail
judged_cert accepts bank fuses story = judge_cert bank (mine bank story) fuses accepts

-- the good capsule of the recovery area, if there is one
abbrev pub standing_capsule : Result CapsuleState CapsuleFail → Option CapsuleState
standing_capsule (Ok capsule) = Some capsule
standing_capsule (Err cause) = None

-- its fuse is cleared, and this is noted
abbrev pub cancelled_key : Cert → Plan
cancelled_key cert = then (λ story. called device.Nv (cancellation cert.ty cert.id)) (says (λ _. Cancelled cert.ty cert.id))

-- unless the recovery area needs the key, or it is cancelled already
abbrev pub by_use : Acceptance → Bank → FusesState → Cert → Result (Unit {0}) CertFail → Plan
by_use accepts bank fuses cert (Ok free) = then (cancelled_key cert) (checked_then accepts bank)
by_use accepts bank fuses cert (Err cause) = refused_so accepts bank fuses (refusing.Cert cause)

abbrev pub by_cert : Acceptance → Bank → FusesState → Result Cert CertFail → Plan
by_cert accepts bank fuses (Ok cert) = then (asks bank) (λ story. by_use accepts bank fuses cert (judge_apply fuses cert (standing_capsule (judged_recovery accepts bank fuses story))) story)
by_cert accepts bank fuses (Err cause) = refused_so accepts bank fuses (refusing.Cert cause)

abbrev pub key_cancelled : Acceptance → Bank → FusesState → Plan
key_cancelled accepts bank fuses = then (asks bank) (λ story. by_cert accepts bank fuses (judged_cert accepts bank fuses story) story)

-- ---- whatever is updated
abbrev pub by_intent : Acceptance → Bank → Intent → FusesState → Plan
by_intent accepts bank intent.Active fuses = active_updated accepts bank false fuses
by_intent accepts bank intent.Full fuses = active_updated accepts bank true fuses
by_intent accepts bank intent.Recovery fuses = recovery_updated accepts bank fuses
by_intent accepts bank intent.Cert fuses = key_cancelled accepts bank fuses

abbrev pub updated_with : Acceptance → Bank → Intent → Result FusesState LockWhy → Plan
updated_with accepts bank how (Ok fuses) = by_intent accepts bank how fuses
updated_with accepts bank how (Err why) = says (Locked bank why)

-- The bank is held, its fuses are read off the store, and it is updated.
abbrev pub updating : Acceptance → Bank → Intent → Plan
updating accepts bank how = then (says (Held bank)) (then asks_store (λ story. updated_with accepts bank how (ready_of bank story) story))
