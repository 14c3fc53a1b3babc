-- An update that is refused does no operation: the bank is trusted, and is released again as it is.
use Rattle.std.proofs.Common.{◌≡◌, ◌∙◌, sym, ap, subst, ℕ, List, [], ◌∷◌, Result, Ok}
use Rattle.pfr_flash.specs.declared.names.Bank.{Bank}
use Rattle.pfr_engine.specs.Acceptance.{Acceptance}
use Rattle.pfr_fuses.specs.FusesOf.{fuses_of}
use Rattle.pfr_fuses.specs.FusesState.{FusesState}
use Rattle.pfr_manifest.specs.declared.manifest.Manifest.{Manifest}
use Rattle.pfr_auth.specs.Judge.{judge_active}
use Rattle.pfr_auth.specs.Trusted.{IsTrusted}
use Rattle.pfr_auth.specs.declared.fail.ActiveFail.{ActiveFail}
use Rattle.pfr_auth.proofs.TrustedLaw.{trusted_judged}
use Rattle.pfr_recoverable.proofs.StaysLaw.{fuses_one}
use Rattle.pfr_report.specs.declared.note.Refusal.{Refusal}
use Rattle.pfr_report.specs.declared.note.What.TheVariants as what
use Rattle.pfr_story.specs.Plans.{mine, store, judged_active, by_active}
use Rattle.pfr_story.specs.Safety.{AllSafe}
use Rattle.pfr_story.specs.Story.{Story, Move, Says, Asks, noted, device_of}
use Rattle.pfr_story.specs.UpdatePlans.{refused_so}
use Rattle.pfr_story.proofs.JobLaws.{Still}
use Rattle.pfr_story.proofs.SafetyLaws.{image_noted}

module _ (accepts : Acceptance) (b : Bank) (fuses : FusesState) (story : Story) (provisioned : fuses_of (store story) ≡ Ok fuses) (t : IsTrusted (mine b story) (store story) b accepts) (why : Refusal) where
  abbrev told : Story
  told = noted (λ _. what.Refused b why) story

  refused_is : refused_so accepts b fuses why story ≡ Says (λ _. what.Refused b why) ∷ Asks (device_of b) ∷ Says (what.Released b t.manifest.svn) ∷ []
  refused_is =
      let same : mine b told ≡ mine b story = image_noted (device_of b) (λ _. what.Refused b why) story in
      let one : t.fuses ≡ fuses = fuses_one (store story) t.fuses fuses t.provisioned provisioned in
      let again : judged_active accepts b fuses told ≡ Ok t.manifest =
      ap (λ (image : List ℕ). judge_active image b fuses accepts) same
      ∙ subst (λ (f : FusesState). judge_active (mine b story) b f accepts ≡ Ok t.manifest) one (trusted_judged (mine b story) (store story) b accepts t) in
      ap (λ (r : Result Manifest ActiveFail). Says (λ _. what.Refused b why) ∷ Asks (device_of b) ∷ by_active accepts b fuses r told) again

  pub refused_still : AllSafe Still (refused_so accepts b fuses why story) story
  refused_still = subst (λ (moves : List Move). AllSafe Still moves story) (sym refused_is) (tt, (tt, (tt, tt)))

-- so where it was held as it is
pub trusted_held : (accepts : Acceptance) (b : Bank) (story : Story) → IsTrusted (mine b story) (store story) b accepts
    → IsTrusted (mine b (noted (what.Held b) story)) (store (noted (what.Held b) story)) b accepts
trusted_held accepts b story t = subst (λ (image : List ℕ). IsTrusted image (store story) b accepts) (sym (image_noted (device_of b) (what.Held b) story)) t
