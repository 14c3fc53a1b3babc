-- What is noted of a bank where it is checked, and no call fails.
use Rattle.std.proofs.Common.{◌≡◌, ◌∙◌, ℕ, refl, sym, ap, subst, List, [], ◌∷◌, length, inl, inr, Result, Ok, Err}
use Rattle.pfr_flash.specs.Bytes.{AreBytes}
use Rattle.pfr_flash.specs.Layout.{IsValidLayout}
use Rattle.pfr_flash.specs.declared.layout.Layout.{Layout}
use Rattle.pfr_flash.specs.declared.names.Bank.{Bank}
use Rattle.pfr_flash.specs.declared.names.Counts.{Counts}
use Rattle.pfr_engine.specs.Acceptance.{Acceptance}
use Rattle.pfr_fuses.specs.FusesState.{FusesState}
use Rattle.pfr_fuses.specs.FusesOf.{fuses_of}
use Rattle.pfr_fuses.specs.RootSlot.{layout_of}
use Rattle.pfr_fuses.proofs.StandsLemmas.{fuses_of-blank, fuses_of-spent}
use Rattle.pfr_manifest.specs.declared.manifest.Manifest.{Manifest}
use Rattle.pfr_capsule.specs.CapsuleState.{CapsuleState}
use Rattle.pfr_capsule.specs.declared.fail.CapsuleFail.{CapsuleFail}
use Rattle.pfr_capsule.proofs.GoodLaw.{good_found}
use Rattle.pfr_auth.specs.Areas.{judge_area}
use Rattle.pfr_auth.specs.Trusted.{IsTrusted}
use Rattle.pfr_auth.specs.declared.areas.Area.TheVariants.{Recovery}
use Rattle.pfr_auth.specs.declared.fail.ActiveFail.{ActiveFail}
use Rattle.pfr_auth.proofs.TrustedLaw.{judged_trusted, stands_whole, trusted_judged}
use Rattle.pfr_jobs.specs.declared.job.JobKind.{JobKind}
use Rattle.pfr_jobs.specs.declared.job.JobKind.TheVariants.{ActiveFromRecovery}
use Rattle.pfr_recoverable.specs.Recoverable.{HasGoodRecovery}
use Rattle.pfr_recoverable.proofs.StaysLaw.{fuses_one}
use Rattle.pfr_report.specs.Texts.{IsNoted}
use Rattle.pfr_report.specs.declared.note.LockWhy.{LockWhy}
use Rattle.pfr_report.specs.declared.note.LockWhy.TheVariants as why
use Rattle.pfr_report.specs.declared.note.Note.{Note}
use Rattle.pfr_report.specs.declared.note.What.{What}
use Rattle.pfr_report.specs.declared.note.What.TheVariants as what
use Rattle.pfr_story.specs.Story.{Story, Move, Says, after, then, noted, counts_of, device_of}
use Rattle.pfr_story.specs.JobPlans.{with_job}
use Rattle.pfr_story.specs.Plans.{mine, store, ready_of, judged_active, judged_recovery, restored, checked_again, by_recovery, by_active, by_fuses, checked_then, brought_up}
use Rattle.pfr_story.specs.Causes.{IsNotTrusted, IsAgainst, IsDue, IsRestorable}
use Rattle.pfr_story.proofs.SafetyLaws.{image_noted}
use Rattle.pfr_story.proofs.Made.{said, noted_first, noted_next, Whichever, AllSay}
use Rattle.pfr_story.specs.Safety.{Rule}
use Rattle.pfr_story.proofs.BringRules.{ready_is, Making, safe_made}
use Rattle.pfr_story.proofs.BringAllowed.{IsSized, AllowsBank, allowed_safe}
use Rattle.pfr_story.proofs.RestoreLaws.{stand_for}
use Rattle.pfr_story.proofs.JobRestores.{told_last}

-- ---- what is noted where it is checked
-- a job's own note is made
pub job_noted : (b : Bank) (kind : JobKind) (fuses : FusesState) (capsule : CapsuleState) (that : What) (story : Story) → IsNoted (said (with_job b kind fuses capsule that story) story) that
job_noted b kind fuses capsule that story =
    let e = told_last b kind fuses capsule that story in
    subst (λ (moves : List Move). IsNoted (said moves story) that) (sym e.is) (noted_next e.front (Says (λ _. that) ∷ []) story that (inl refl))

module _ (accepts : Acceptance) (b : Bank) where
  -- what is noted where it is checked
  abbrev pub behind : Story → List Note
  behind story = said (checked_then accepts b story) story

  -- ---- the bank's fuses
  by_check : (fuses : FusesState) (story : Story) (checked : Result Manifest ActiveFail) → fuses_of (store story) ≡ Ok fuses → IsValidLayout (layout_of fuses.provision b) (length (mine b story))
      → judged_active accepts b fuses story ≡ checked → behind story ≡ said (by_active accepts b fuses checked story) story
  by_check fuses story checked f l j =
      ap (λ (r : Result FusesState LockWhy). said (by_fuses accepts b r story) story) (ready_is b fuses story f l)
      ∙ ap (λ (r : Result Manifest ActiveFail). said (by_active accepts b fuses r story) story) j

  unready : (cause : LockWhy) (story : Story) → ready_of b story ≡ Err cause → IsNoted (behind story) (what.Locked b cause (counts_of story))
  unready cause story e = subst (λ (r : Result FusesState LockWhy). IsNoted (said (by_fuses accepts b r story) story) (what.Locked b cause (counts_of story))) (sym e) (inl refl)

  -- ---- a trusted image
  pub tail_trusted : (story : Story) (t : IsTrusted (mine b story) (store story) b accepts) → IsNoted (behind story) (what.Released b t.manifest.svn (counts_of story))
  tail_trusted story t =
      subst (λ (notes : List Note). IsNoted notes (what.Released b t.manifest.svn (counts_of story)))
      (sym (by_check t.fuses story (Ok t.manifest) t.provisioned t.layout (trusted_judged (mine b story) (store story) b accepts t))) (inl refl)

  -- ---- one that isn't
  abbrev pub untrusted : ActiveFail → Story → Story
  untrusted cause story = noted (λ _. what.Untrusted b cause) story

  abbrev pub distrusted : FusesState → ActiveFail → Result CapsuleState CapsuleFail → Story → List Note
  distrusted fuses cause judged story =
      record { item = story.item; what = what.Untrusted b cause } ∷ said (by_recovery accepts b fuses cause judged (untrusted cause story)) (untrusted cause story)

  pub by_against : (cause : ActiveFail) (story : Story) (judged : Result CapsuleState CapsuleFail) (a : IsAgainst cause b (mine b story) (store story) accepts)
      → judged_recovery accepts b a.fuses (untrusted cause story) ≡ judged → behind story ≡ distrusted a.fuses cause judged story
  by_against cause story judged a j =
      by_check a.fuses story (Err cause) a.provisioned a.layout a.judged
      ∙ ap (λ (r : Result CapsuleState CapsuleFail). distrusted a.fuses cause r story) j

  pub judged_told : (fuses : FusesState) (w : Counts → What) (story : Story) → judged_recovery accepts b fuses (noted w story) ≡ judged_recovery accepts b fuses story
  judged_told fuses w story = ap (λ (image : List ℕ). judge_area Recovery b image fuses accepts) (image_noted (device_of b) w story)

  -- its cause is named
  pub tail_named : (story : Story) (cause : ActiveFail) → IsAgainst cause b (mine b story) (store story) accepts → IsNoted (behind story) (what.Untrusted b cause)
  tail_named story cause a =
      subst (λ (notes : List Note). IsNoted notes (what.Untrusted b cause)) (sym (by_against cause story (judged_recovery accepts b a.fuses (untrusted cause story)) a refl)) (inl refl)

  no_image_locked : (story : Story) (active : ActiveFail) (cause : CapsuleFail) (a : IsAgainst active b (mine b story) (store story) accepts)
      → judged_recovery accepts b a.fuses story ≡ Err cause → IsNoted (behind story) (what.Locked b (why.NoGoodImage active cause) (counts_of story))
  no_image_locked story active cause a j =
      subst (λ (notes : List Note). IsNoted notes (what.Locked b (why.NoGoodImage active cause) (counts_of story)))
      (sym (by_against active story (Err cause) a (judged_told a.fuses (λ _. what.Untrusted b active) story ∙ j))) (inr (inl refl))

  -- a lock that is due is noted
  pub tail_due : (story : Story) (cause : LockWhy) → IsDue cause b (mine b story) (store story) accepts → IsNoted (behind story) (what.Locked b cause (counts_of story))
  tail_due story why.Unprovisioned h = unready why.Unprovisioned story (rw (fuses_of-blank (store story) h.0 h.1) refl)
  tail_due story why.SlotsSpent h = unready why.SlotsSpent story (rw (fuses_of-spent (store story) h.0 h.1) refl)
  tail_due story (why.Layout rule) h = unready (why.Layout rule) story (rw (h.provisioned, h.broken) refl)
  tail_due story (why.NoGoodImage active cause) h =
      let one : h.1.fuses ≡ h.0.fuses = fuses_one (store story) h.1.fuses h.0.fuses h.1.provisioned h.0.provisioned in
      no_image_locked story active cause h.0 (subst (λ (f : FusesState). judged_recovery accepts b f story ≡ Err cause) one h.1.judged)
  tail_due story why.WatchdogSpent h = absurd h
  tail_due story (why.NoRecovery recovery) h = absurd h
  tail_due story why.FlashFault h = absurd h
  tail_due story why.StoreFault h = absurd h

  -- ---- a good recovery area
  good_is : (story : Story) (g : HasGoodRecovery b (mine b story) (store story) accepts) (fuses : FusesState) → fuses_of (store story) ≡ Ok fuses → judged_recovery accepts b fuses story ≡ Ok g.good.capsule
  good_is story g fuses f =
      let layout : Layout = layout_of g.fuses.provision b in
      subst (λ (x : FusesState). judged_recovery accepts b x story ≡ Ok g.good.capsule) (fuses_one (store story) g.fuses fuses g.provisioned f)
      (good_found (mine b story) (store story) layout.recovery_at layout.area_len b accepts g.fuses (stand_for (store story) g.fuses b g.provisioned) g.good)

  good_layout : (story : Story) (g : HasGoodRecovery b (mine b story) (store story) accepts) → IsValidLayout (layout_of g.fuses.provision b) (length (mine b story))
  good_layout story g =
      subst (λ (x : FusesState). IsValidLayout (layout_of x.provision b) (length (mine b story))) (fuses_one (store story) g.good.fuses g.fuses g.good.provisioned g.provisioned) g.good.layout

  -- what is noted of a bank that is restored
  restored_noted : (level : ℕ) (fuses : FusesState) (capsule : CapsuleState) (story : Story)
      → IsNoted (said (then (restored b level fuses capsule) (checked_again accepts b fuses) story) story) (what.Restored b level)
  restored_noted level fuses capsule story =
      noted_first (restored b level fuses capsule story) (checked_again accepts b fuses (after (restored b level fuses capsule story) story)) story (what.Restored b level)
      (job_noted b (ActiveFromRecovery level) fuses capsule (what.Restored b level) story)

  against_by : (story : Story) (n : IsNotTrusted b (mine b story) (store story) accepts) (checked : Result Manifest ActiveFail) → AreBytes (mine b story) → judged_active accepts b n.fuses story ≡ checked
      → (cause : ActiveFail) × IsAgainst cause b (mine b story) (store story) accepts
  against_by story n (Ok m) bytes j =
      absurd (n.distrusted (judged_trusted (mine b story) (store story) b accepts n.fuses m (stands_whole (store story) n.fuses b n.provisioned) n.layout bytes j).0)
  against_by story n (Err cause) bytes j = (cause, record { fuses = n.fuses; provisioned = n.provisioned; layout = n.layout; judged = j })

  -- a bank that can be restored is
  pub tail_restored : (story : Story) → AreBytes (mine b story) → IsRestorable b (mine b story) (store story) accepts → IsNoted (behind story) (what.Restored b 1)
  tail_restored story bytes h =
      let k = against_by story h.0 (judged_active accepts b h.0.fuses story) bytes refl in
      let judged = judged_told k.1.fuses (λ _. what.Untrusted b k.0) story ∙ good_is story h.1 k.1.fuses k.1.provisioned in
      subst (λ (notes : List Note). IsNoted notes (what.Restored b 1)) (sym (by_against k.0 story (Ok h.1.good.capsule) k.1 judged))
      (inr (restored_noted 1 k.1.fuses h.1.good.capsule (untrusted k.0 story)))

-- ---- what is noted of the other bank
-- it is noted of this bank
abbrev pub IsOf : Bank → What → Type 0
IsOf which (what.Held b at) = b ≡ which
IsOf which (what.Released b svn at) = b ≡ which
IsOf which (what.Locked b cause at) = b ≡ which
IsOf which (what.Untrusted b cause) = b ≡ which
IsOf which (what.Restored b level) = b ≡ which
IsOf which (what.Expired b level) = b ≡ which
IsOf which (what.Passed b stage) = b ≡ which
IsOf which (what.Booted b) = b ≡ which
IsOf which (what.Updated b dynamic svn) = b ≡ which
IsOf which (what.Refused b cause) = b ≡ which
IsOf which (what.Resumed b kind) = b ≡ which
IsOf which (what.Abandoned b) = b ≡ which
IsOf which (what.RecoveryUpdated b svn) = b ≡ which
IsOf which that = ⊥

abbrev pub Apart : Bank → What → Type 0
Apart which that = ¬ IsOf which that

-- none of these moves notes anything of this bank
abbrev pub NoneOf : Bank → List Move → Type 0
NoneOf which moves = AllSay (Apart which) moves

-- the other bank's part
module _ (accepts : Acceptance) (which b : Bank) (other : ¬ (b ≡ which)) where
  abbrev Others : Rule
  Others = Making Whichever (λ w. (at : Counts) → Apart which (w at))

  others_alone : AllowsBank Others b
  others_alone = record {
    released = λ svn story at e. other e;
    locked = λ cause story at e. other e;
    untrusted = λ cause story at e. other e;
    jobs = record { asks = λ d story own. tt; works = λ op story. tt; logs = λ op story own. tt; raises = λ op story raise. tt };
    tells = record {
      resumed = λ kind story at e. other e;
      given_up = λ story at e. other e;
      restored = λ level story at e. other e;
      updated = λ dynamic svn story at e. other e;
      recovery_updated = λ svn story at e. other e;
    };
  }

  pub brought_apart : (story : Story) → IsSized story → NoneOf which (brought_up accepts b story)
  brought_apart story size = safe_made Whichever _ (brought_up accepts b story) story (allowed_safe Others accepts b others_alone story size (λ at e. other e))
