-- A bank that can be recovered, whatever job is open in its log, ends released.
use Rattle.std.proofs.Common.{◌≡◌, ◌∙◌, ℕ, sym, ap, subst, List, ◌++◌, length, Result, Ok}
use Rattle.pfr_flash.specs.Layout.{IsValidLayout}
use Rattle.pfr_flash.specs.declared.names.Bank.{Bank}
use Rattle.pfr_engine.specs.Acceptance.{Acceptance}
use Rattle.pfr_fuses.specs.FusesState.{FusesState}
use Rattle.pfr_fuses.specs.FusesOf.{fuses_of}
use Rattle.pfr_fuses.specs.RootSlot.{layout_of}
use Rattle.pfr_fuses.specs.declared.fuse_fail.FuseFail.{FuseFail}
use Rattle.pfr_fuses.specs.declared.root_slot.RootSlot.{RootSlot}
use Rattle.pfr_recoverable.specs.Recoverable.{IsRecoverable}
use Rattle.pfr_report.specs.declared.note.LockWhy.{LockWhy}
use Rattle.pfr_story.specs.Story.{Story, Move, after}
use Rattle.pfr_story.specs.Safety.{AllSafe}
use Rattle.pfr_story.specs.Recovery.{KeepsRecoverable}
use Rattle.pfr_story.specs.Plans.{mine, store, restored, by_fuses, by_ready, checked_then}
use Rattle.pfr_story.specs.JobPlans.{JobNotes, job_notes, resumed}
use Rattle.pfr_story.specs.JobContents.{CanWork, fuses_resumed}
use Rattle.pfr_story.proofs.FuseLaws.{profile_kept}
use Rattle.pfr_story.proofs.BringRules.{ready_is}
use Rattle.pfr_story.proofs.JobTail.{tail_is}
use Rattle.pfr_story.proofs.JobPower.{tail_by, power_with, PowerEnds, resumed_so, power_releases}
use Rattle.pfr_story.proofs.JobSafety.{HoldsJobs}
use Rattle.pfr_story.proofs.JobSafetyLaws.{resumed_safe}

pub holds_jobs : (b : Bank) (fuses : FusesState) (story : Story) → CanWork b fuses story → HoldsJobs b fuses story
holds_jobs b fuses story h = record {
  provisioned = h.provisioned;
  layout = h.layout;
  size = h.size;
  bytes = h.bytes;
  store_size = h.store_size;
  two = sym (profile_kept (store story) fuses h.provisioned) ∙ h.two;
}

module _ (notes : JobNotes) (accepts : Acceptance) (b : Bank) (fuses : FusesState) (story : Story) (h : CanWork b fuses story) (recoverable : IsRecoverable b (mine b story) (store story) accepts) where
  safe : AllSafe (KeepsRecoverable accepts b) (resumed notes accepts b fuses story) story
  safe = resumed_safe accepts b fuses b notes story (holds_jobs b fuses story h)

  pub released_by_job : PowerEnds b (power_with (restored b 1) notes accepts b fuses story) story
  released_by_job = power_releases notes accepts b fuses story h recoverable safe

module _ (accepts : Acceptance) (b : Bank) (fuses : FusesState) (story : Story) (h : CanWork b fuses story) (recoverable : IsRecoverable b (mine b story) (store story) accepts) where
  abbrev there : Story
  there = after (resumed (job_notes b) accepts b fuses story) story

  abbrev later : FusesState
  later = fuses_resumed accepts b (mine b story) (store story) fuses

  -- that is the plan by which a bank is brought up
  checked_is : fuses_of (store there) ≡ Ok later → IsValidLayout (layout_of later.provision b) (length (mine b there)) → tail_by (restored b 1) accepts b (fuses_of (store there)) there ≡ checked_then accepts b there
  checked_is says layout =
      ap (λ (r : Result FusesState FuseFail). tail_by (restored b 1) accepts b r there) says ∙ tail_is accepts b later there
      ∙ sym (ap (λ (r : Result FusesState LockWhy). by_fuses accepts b r there) (ready_is b later there says layout))

  -- So a bank that is brought up ends released.
  pub bring_releases : PowerEnds b (by_ready accepts b (Ok fuses) story) story
  bring_releases =
      let so = resumed_so (job_notes b) accepts b fuses story h recoverable (safe (job_notes b) accepts b fuses story h recoverable) in
      let length_is = ap (λ (image : List ℕ). length image) so.bank ∙ so.long in
      let layout : IsValidLayout (layout_of later.provision b) (length (mine b there)) =
      subst (λ (n : ℕ). IsValidLayout (layout_of later.provision b) n) (sym length_is) (subst (λ (p : RootSlot). IsValidLayout (layout_of p b) (length (mine b story))) (sym so.provision) h.layout) in
      subst (λ (moves : List Move). PowerEnds b (resumed (job_notes b) accepts b fuses story ++ moves) story) (checked_is so.says layout)
      (released_by_job (job_notes b) accepts b fuses story h recoverable)
