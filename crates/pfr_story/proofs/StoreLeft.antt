-- The store is left ready for the work on a bank.
use Rattle.std.proofs.Common.{◌≡◌, arith, ◌∙◌, refl, sym, subst, ℕ, List, [], ◌∷◌, length, inl, inr}
use Rattle.pfr_flash.specs.FlashState.{size_of}
use Rattle.pfr_flash.specs.Operation.{Operation, applied}
use Rattle.pfr_flash.specs.declared.names.Bank.{Bank}
use Rattle.pfr_flash.specs.declared.names.Bank.TheVariants as bank
use Rattle.pfr_flash.specs.declared.names.Device.{Device}
use Rattle.pfr_flash.specs.declared.names.Device.TheVariants as device
use Rattle.pfr_flash.proofs.PlayLemmas.{length-play}
use Rattle.pfr_engine.specs.Acceptance.{Acceptance}
use Rattle.pfr_fuses.specs.FusesState.{FusesState}
use Rattle.pfr_fuses.specs.declared.profile.Profile.TheVariants.{Two}
use Rattle.pfr_jobs.specs.Log.{open_job}
use Rattle.pfr_jobs.specs.declared.job.OpenJob.TheVariants as job
use Rattle.pfr_jobs.proofs.CutLaws.{outside_keeps}
use Rattle.pfr_recoverable.proofs.StaysLaw.{fuses_one}
use Rattle.pfr_story.specs.Course.{Stretch, CrossesOrFaults}
use Rattle.pfr_story.specs.Keeping.{IsSettled}
use Rattle.pfr_story.specs.Plans.{store, brought_up, expired}
use Rattle.pfr_story.specs.Safety.{Keeps, Rule, AllSafe}
use Rattle.pfr_story.specs.Story.{IsCut, moved_by, Story, Move, Plan, after}
use Rattle.pfr_story.specs.Turn.{bank_stretch, expiry_stretch}
use Rattle.pfr_story.specs.World.{World, story_of}
use Rattle.pfr_story.proofs.BringAllowed.{AllowsBank, allowed_safe, expired_allowed}
use Rattle.pfr_story.proofs.JobLeaves.{two_same, log_same, raise_same}
use Rattle.pfr_story.proofs.JobRules.{IsInLog, IsRaise}
use Rattle.pfr_story.proofs.JobWalks.{store_sized}
use Rattle.pfr_story.proofs.SafetyLaws.{safe_cut, kept_by, image_operated, store_operated, safe_whole}
use Rattle.pfr_story.proofs.SpanRules.{NotOne}

-- its fuses are in profile 2, where they can be read, and no job of the bank is open
abbrev pub IsQuiet : Bank → List ℕ → Type 0
IsQuiet c nv = NotOne nv × (open_job nv c ≡ job.None)

pub quiet_settled : (c : Bank) (nv : List ℕ) → IsSettled nv → open_job nv c ≡ job.None → IsQuiet c nv
quiet_settled c nv q none = (λ fuses f. subst (λ (x : FusesState). x.profile ≡ Two) (fuses_one nv q.fuses fuses q.provisioned f) q.two, none)

-- what a job does to the store keeps this of it
pub record IsLeft (I : List ℕ → Type 0) (c : Bank) : Type 0 where
  pub logs : (nv : List ℕ) (op : Operation) → length nv ≡ 32768 → IsInLog c op → I nv → I (applied nv op)
  pub raises : (nv : List ℕ) (op : Operation) → length nv ≡ 32768 → IsRaise c nv op → I nv → I (applied nv op)

pub two_left : (c : Bank) → IsLeft NotOne c
two_left c = record {
  logs = λ nv op size own two. two_same nv (applied nv op) (log_same c nv op own size) two;
  raises = λ nv op size raise two. two_same nv (applied nv op) (raise_same c nv op raise size) two;
}

-- the other bank's job
pub quiet_left : IsLeft (IsQuiet bank.Pch) bank.Bmc
quiet_left = record {
  logs = λ nv op size own q. ((two_left bank.Bmc).logs nv op size own q.0, outside_keeps nv bank.Pch size op (inl (omega (arith, own.high))) ∙ q.1);
  raises = λ nv op size raise q. ((two_left bank.Bmc).raises nv op size raise q.0, outside_keeps nv bank.Pch size op (inr (omega (arith, raise.within.low))) ∙ q.1);
}

module _ (accepts : Acceptance) (I : List ℕ → Type 0) (c : Bank) (left : IsLeft I c) where
  abbrev pub Leaving : Rule
  Leaving move story = length (store story) ≡ 32768 → I (store story) → I (store (moved_by move story))

  leaving_bank : AllowsBank Leaving c
  leaving_bank = record {
    released = λ svn story size i. i;
    locked = λ cause story size i. i;
    untrusted = λ cause story size i. i;
    jobs = record {
      asks = λ which story own size i. i;
      works = λ op story size i. subst I (sym (store_operated c op story)) i;
      logs = λ op story own size i. subst I (sym (image_operated device.Nv op story)) (left.logs (store story) op size own i);
      raises = λ op story raise size i. subst I (sym (image_operated device.Nv op story)) (left.raises (store story) op size raise i);
    };
    tells = record {
      resumed = λ kind story size i. i;
      given_up = λ story size i. i;
      restored = λ level story size i. i;
      updated = λ dynamic svn story size i. i;
      recovery_updated = λ svn story size i. i;
    };
  }

  abbrev pub Stays_so : Story → Type 0
  Stays_so story = (length (store story) ≡ 32768) × I (store story)

  leaving_kept : Keeps Leaving Stays_so
  leaving_kept move story g p = (store_sized (move ∷ []) story ∙ p.0, g p.0 p.1)

  pub left_whole : (moves : List Move) (story : Story) → AllSafe Leaving moves story → Stays_so story → I (store (after moves story))
  left_whole moves story safe p = (kept_by Leaving Stays_so leaving_kept moves story (safe_whole Leaving moves story safe) p).1

  pub left_cut : (which : Device) (moves trace : List Move) (story : Story) → AllSafe Leaving moves story → IsCut which moves story trace → Stays_so story → I (store (after trace story))
  left_cut which moves trace story safe cut p = (kept_by Leaving Stays_so leaving_kept trace story (safe_cut Leaving which moves trace story safe cut) p).1

  pub brought_leaves : (story : Story) → length (store story) ≡ 32768 → AllSafe Leaving (brought_up accepts c story) story
  brought_leaves story size = allowed_safe Leaving accepts c leaving_bank story size (λ long i. i)

  pub expired_leaves : (story : Story) → length (store story) ≡ 32768 → AllSafe Leaving (expired accepts c story) story
  expired_leaves story size = expired_allowed Leaving accepts c leaving_bank story size (λ long i. i) (λ long i. i)

  -- whether the stretch was crossed, or a device failed in it and its bank was locked
  stretch_left : (plan : Plan) (s : Stretch) (old new : World) → s.plan ≡ plan → ((which : Device) (story : Story) → store (after (s.on_fault which) story) ≡ store story) → Stays_so (story_of old)
      → AllSafe Leaving (plan (story_of old)) (story_of old) → CrossesOrFaults s old new → I (store (story_of new))
  stretch_left plan s old new same lock p safe (inl c) =
      subst (λ (there : Story). I (store there)) (sym c.is) (left_whole (s.plan (story_of old)) (story_of old) (subst (λ (q : Plan). AllSafe Leaving (q (story_of old)) (story_of old)) (sym same) safe) p)
  stretch_left plan s old new same lock p safe (inr f) =
      let made = left_cut f.which (s.plan (story_of old)) f.stopped.trace (story_of old) (subst (λ (q : Plan). AllSafe Leaving (q (story_of old)) (story_of old)) (sym same) safe) f.stopped.cut p in
      subst (λ (there : Story). I (store there)) (sym f.noted.is) (subst I (sym (lock f.which (story_of f.at))) (subst (λ (there : Story). I (store there)) (sym f.stopped.is) made))

  pub brought_left : (old new : World) → size_of old.nv ≡ 32768 → I (store (story_of old)) → CrossesOrFaults (bank_stretch accepts c) old new → I (store (story_of new))
  brought_left old new size i came =
      let sized = length-play old.nv.start old.nv.ops ∙ size in
      stretch_left (brought_up accepts c) (bank_stretch accepts c) old new refl (λ which story. refl) (sized, i) (brought_leaves (story_of old) sized) came

  pub expired_left : (old new : World) → size_of old.nv ≡ 32768 → I (store (story_of old)) → CrossesOrFaults (expiry_stretch accepts c) old new → I (store (story_of new))
  expired_left old new size i came =
      let sized = length-play old.nv.start old.nv.ops ∙ size in
      stretch_left (expired accepts c) (expiry_stretch accepts c) old new refl (λ which story. refl) (sized, i) (expired_leaves (story_of old) sized) came
