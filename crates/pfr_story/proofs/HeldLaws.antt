-- Where a bank that runs is held behind the begin of a step, work on it can be done.
use Rattle.std.proofs.Common.{◌≡◌, sym, subst, ℕ, List, length}
use Rattle.pfr_flash.specs.Layout.{IsBankSize}
use Rattle.pfr_flash.specs.declared.names.Bank.{Bank}
use Rattle.pfr_engine.specs.Acceptance.{Acceptance}
use Rattle.pfr_fuses.specs.FusesState.{FusesState}
use Rattle.pfr_fuses.specs.declared.profile.Profile.TheVariants.{Two}
use Rattle.pfr_auth.specs.Trusted.{IsTrusted}
use Rattle.pfr_recoverable.proofs.StaysLaw.{fuses_one}
use Rattle.pfr_report.specs.declared.note.What.TheVariants as what
use Rattle.pfr_story.specs.Story.{Story, noted, device_of}
use Rattle.pfr_story.specs.World.{World, story_of, AllMoved}
use Rattle.pfr_story.specs.Keeping.{IsSettled}
use Rattle.pfr_story.specs.JobContents.{CanWork}
use Rattle.pfr_story.specs.Plans.{mine, store}
use Rattle.pfr_story.proofs.SafetyLaws.{image_noted}
use Rattle.pfr_story.proofs.BringAllowed.{IsSized}
use Rattle.pfr_story.proofs.BringRules.{IsReady, ready_noted}
use Rattle.pfr_story.proofs.Traces.{Precedes, precedes_moved}
use Rattle.pfr_story.proofs.Bytes.{HaveBytes, images_then}
use Rattle.pfr_story.proofs.Entry.{trusted_ready}

module _ (accepts : Acceptance) (b : Bank) (first new : World) where
  abbrev pub there_held : Story
  there_held = noted (what.Held b) (story_of first)

  pub can_there : (t : IsTrusted (mine b (story_of first)) (store (story_of first)) b accepts) → AllMoved first new → HaveBytes new → IsBankSize (length (mine b (story_of first))) → IsSized (story_of first)
      → IsSettled (store (story_of first)) → CanWork b t.fuses there_held
  can_there t moved have size sized settled =
      let p = precedes_moved first new moved in
      let precedes : Precedes there_held (story_of new) = record { bmc = p.bmc; pch = p.pch; nv = p.nv } in
      let ready : IsReady b t.fuses there_held = ready_noted b t.fuses (what.Held b) (story_of first) (trusted_ready accepts b (story_of first) t) in
      record {
        provisioned = ready.provisioned;
        two = subst (λ (f : FusesState). f.profile ≡ Two) (fuses_one (store (story_of first)) settled.fuses t.fuses settled.provisioned t.provisioned) settled.two;
        layout = ready.layout;
        size = subst (λ (image : List ℕ). IsBankSize (length image)) (sym (image_noted (device_of b) (what.Held b) (story_of first))) size;
        bytes = images_then there_held new precedes have (device_of b);
        store_size = sized;
      }
