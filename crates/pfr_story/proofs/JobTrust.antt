-- While a job on a bank is done the other bank stays trusted, by the same manifest.
use Rattle.std.proofs.Common.{◌∙◌, refl, sym, ap, subst, arith, ℕ, List, [], ◌∷◌, All}
use Rattle.std.proofs.lemmas.List.Elements.{All-push}
use Rattle.pfr_flash.specs.Operation.{Operation, applied}
use Rattle.pfr_flash.specs.declared.layout.Layout.{Layout}
use Rattle.pfr_flash.specs.declared.names.Bank.{Bank}
use Rattle.pfr_flash.specs.declared.names.Bank.TheVariants as bank
use Rattle.pfr_flash.specs.declared.names.Counts.{Counts}
use Rattle.pfr_flash.specs.declared.names.Device.TheVariants as device
use Rattle.pfr_engine.specs.Acceptance.{Acceptance}
use Rattle.pfr_fuses.specs.FusesState.{FusesState}
use Rattle.pfr_fuses.specs.RootSlot.{layout_of}
use Rattle.pfr_fuses.proofs.StandsLemmas.{fuses_of-ok}
use Rattle.pfr_manifest.specs.declared.manifest.Manifest.{Manifest}
use Rattle.pfr_auth.specs.Lasting.{KeepsTrustedBytes}
use Rattle.pfr_auth.specs.Leaving.{LeavesStore}
use Rattle.pfr_auth.specs.Throughout.{IsTrustedBy}
use Rattle.pfr_auth.proofs.LastingLaw.{trust_lasts}
use Rattle.pfr_auth.proofs.LeavingLaw.{left_store}
use Rattle.pfr_report.specs.declared.note.What.{What}
use Rattle.pfr_report.specs.declared.note.What.TheVariants as what
use Rattle.pfr_story.specs.JobPlans.{JobNotes}
use Rattle.pfr_story.specs.Plans.{mine, store}
use Rattle.pfr_story.specs.Safety.{Rule, Keeps}
use Rattle.pfr_story.specs.Story.{Story, Says, Does, moved_by, operated, device_of, other_bank}
use Rattle.pfr_story.proofs.JobLeaves.{log_leaves, raise_leaves}
use Rattle.pfr_story.proofs.JobRules.{AllowsJobs}
use Rattle.pfr_story.proofs.JobWalks.{TellsJobs}
use Rattle.pfr_story.proofs.SafetyLaws.{image_noted, image_operated, mine_operated}

abbrev pub IsTrustedNow : Acceptance → Bank → Manifest → Story → Type 0
IsTrustedNow accepts which m story = IsTrustedBy m (mine which story) (store story) which accepts

-- a move leaves the bank trusted by this manifest, where it was
abbrev pub KeepsTrust : Acceptance → Bank → Manifest → Rule
KeepsTrust accepts which m move story = IsTrustedNow accepts which m story → IsTrustedNow accepts which m (moved_by move story)

pub trust_kept : (accepts : Acceptance) (which : Bank) (m : Manifest) → Keeps (KeepsTrust accepts which m) (IsTrustedNow accepts which m)
trust_kept accepts which m move story g t = g t

same_bytes : (layout : Layout) (m : Manifest) (image : List ℕ) → KeepsTrustedBytes layout m image image
same_bytes layout m image = record { size = refl; area = record { stays = λ k low high. refl }; static = λ i d below. record { stays = λ k low high. refl } }

-- an operation that leaves what the trust reads of the store leaves the trust
pub store_left : (accepts : Acceptance) (which : Bank) (m : Manifest) (image nv : List ℕ) (op : Operation) → ((fuses : FusesState) → LeavesStore fuses which op)
    → IsTrustedBy m image nv which accepts → IsTrustedBy m image (applied nv op) which accepts
store_left accepts which m image nv op leaves t =
    let found = fuses_of-ok nv t.0.fuses t.0.provisioned in
    let each : All (LeavesStore t.0.fuses which) (op ∷ []) = All-push (LeavesStore t.0.fuses which) [] op (λ i d below. absurd (omega (arith, below))) (leaves t.0.fuses) in
    let kept = left_store which t.0.fuses nv (op ∷ []) (ap (λ (f : FusesState). f.profile) found.2) each in
    let last = trust_lasts image image nv (applied nv op) which accepts t.0 (same_bytes (layout_of t.0.fuses.provision which) t.0.manifest image) kept in
    (last.0, last.1 ∙ t.1)

module _ (accepts : Acceptance) (m : Manifest) where
  store_trust : (which : Bank) (op : Operation) (story : Story) → ((fuses : FusesState) → LeavesStore fuses which op) → KeepsTrust accepts which m (Does device.Nv op) story
  store_trust which op story leaves t =
      subst (λ (image : List ℕ). IsTrustedBy m image (store (operated device.Nv op story)) which accepts) (sym (mine_operated which op story))
      (subst (λ (nv : List ℕ). IsTrustedBy m (mine which story) nv which accepts) (sym (image_operated device.Nv op story)) (store_left accepts which m (mine which story) (store story) op leaves t))

  own_trust : (b : Bank) (op : Operation) (story : Story) → KeepsTrust accepts (other_bank b) m (Does (device_of b) op) story
  own_trust bank.Bmc op story t = t
  own_trust bank.Pch op story t = t

  pub jobs_trust : (b : Bank) → AllowsJobs (KeepsTrust accepts (other_bank b) m) b
  jobs_trust b = record {
    asks = λ which story own t. t;
    works = λ op story. own_trust b op story;
    logs = λ op story own. store_trust (other_bank b) op story (λ fuses. log_leaves b (other_bank b) fuses op own);
    raises = λ op story raise. store_trust (other_bank b) op story (λ fuses. raise_leaves b fuses (store story) op raise);
  }

  -- nor does a note
  pub noted_trust : (which : Bank) (w : Counts → What) (story : Story) → KeepsTrust accepts which m (Says w) story
  noted_trust which w story t = subst (λ (image : List ℕ). IsTrustedBy m image (store story) which accepts) (sym (image_noted (device_of which) w story)) t

  pub jobs_trust_told : (b : Bank) (notes : JobNotes) → TellsJobs (KeepsTrust accepts (other_bank b) m) b notes
  jobs_trust_told b notes = record {
    resumed = λ kind story. noted_trust (other_bank b) (λ _. notes.resumed kind) story;
    given_up = λ story. noted_trust (other_bank b) (λ _. notes.given_up) story;
    restored = λ level story. noted_trust (other_bank b) (λ _. what.Restored b level) story;
    updated = λ dynamic svn story. noted_trust (other_bank b) (λ _. what.Updated b dynamic svn) story;
    recovery_updated = λ svn story. noted_trust (other_bank b) (λ _. notes.recovery_updated svn) story;
  }
