-- What work on a bank's jobs goes by, and calls of the store in a bank's log: what they keep of it, and that they leave it one that
-- can be recovered.
use Rattle.std.proofs.Common.{◌≡◌, ◌∙◌, refl, sym, ap, subst, arith, ℕ, ◌+◌, ◌*◌, List, [], ◌∷◌, length, inl, inr, Option, Ok}
use Rattle.pfr_flash.specs.Bytes.{AreBytes}
use Rattle.pfr_flash.specs.Layout.{IsBankSize, IsValidLayout}
use Rattle.pfr_flash.specs.Operation.{Operation, Program, IsTorn, applied, play}
use Rattle.pfr_flash.specs.Range.{IsWithin, AllWithin, SameOutside}
use Rattle.pfr_flash.specs.declared.names.Bank.{Bank}
use Rattle.pfr_flash.specs.declared.names.Counts.{Counts}
use Rattle.pfr_flash.specs.declared.names.Device.TheVariants as device
use Rattle.pfr_flash.proofs.PlayLemmas.{length-applied, length-play}
use Rattle.pfr_flash.proofs.RangeLemmas.{IsTorn-within, SameOutside-play}
use Rattle.pfr_engine.specs.Acceptance.{Acceptance}
use Rattle.pfr_fuses.specs.FuseMap.{profile_of}
use Rattle.pfr_fuses.specs.FusesState.{FusesState}
use Rattle.pfr_fuses.specs.FusesOf.{fuses_of}
use Rattle.pfr_fuses.specs.RootSlot.{layout_of}
use Rattle.pfr_fuses.specs.declared.profile.Profile.TheVariants as profile
use Rattle.pfr_fuses.proofs.GrowthLemmas.{profile-outside}
use Rattle.pfr_fuses.proofs.StaysLemmas.{fuses_of-same}
use Rattle.pfr_jobs.specs.Log.{log_at, spent_in, selector, current_at, current_page, last_gated, open_job}
use Rattle.pfr_jobs.specs.LogPlans.{finish_by, finish_plan}
use Rattle.pfr_jobs.specs.declared.job.JobKind.{JobKind}
use Rattle.pfr_jobs.specs.declared.job.JobKind.TheVariants.{RecoveryFromStaging}
use Rattle.pfr_jobs.specs.declared.job.OpenJob.TheVariants as job
use Rattle.pfr_jobs.proofs.LogLaws.{LastOf, nothing, found, last_of, page_inside}
use Rattle.pfr_jobs.proofs.BeginLaw.{log_low, log_high}
use Rattle.pfr_jobs.proofs.CutLaws.{NoneBefore}
use Rattle.pfr_jobs.proofs.FinishLaw.{finish_done}
use Rattle.pfr_recoverable.specs.Recoverable.{HasGoodRecovery, IsRecoverable}
use Rattle.pfr_recoverable.proofs.CutLaw.{IsInLogs, recovery_logged, good_with}
use Rattle.pfr_report.specs.declared.note.What.{What}
use Rattle.pfr_story.specs.Story.{Story, Move, Does, after, noted, operated, called, device_of}
use Rattle.pfr_story.specs.Safety.{IsSafe, AllSafe}
use Rattle.pfr_story.specs.Plans.{mine, store}
use Rattle.pfr_story.specs.JobPlans.{finished_job}
use Rattle.pfr_story.specs.Recovery.{HoldsIn, KeepsRecoverable}
use Rattle.pfr_story.proofs.SafetyLaws.{image_operated, image_called, image_noted, mine_operated, store_operated, safe_whole, kept_by}
use Rattle.pfr_story.proofs.RecoverableLaws.{true_kept}

-- ---- what is known
-- the store says these fuses, in profile 2, with a valid layout of the bank, and both devices have their sizes
pub record HoldsJobs (b : Bank) (fuses : FusesState) (story : Story) : Type 0 where
  pub provisioned : fuses_of (store story) ≡ Ok fuses
  pub layout : IsValidLayout (layout_of fuses.provision b) (length (mine b story))
  pub size : IsBankSize (length (mine b story))
  pub bytes : AreBytes (mine b story)
  pub store_size : length (store story) ≡ 32768
  pub two : profile_of (store story) ≡ profile.Two

-- and no job is open
pub record IsJobless (b : Bank) (fuses : FusesState) (story : Story) : Type 0 where
  pub holds : HoldsJobs b fuses story
  pub none : open_job (store story) b ≡ job.None

-- all of that is kept
pub record IsKept (b : Bank) (old new : Story) : Type 0 where
  pub fuses : fuses_of (store new) ≡ fuses_of (store old)
  pub profile : profile_of (store new) ≡ profile_of (store old)
  pub store_size : length (store new) ≡ length (store old)
  pub size : length (mine b new) ≡ length (mine b old)
  pub bytes : AreBytes (mine b old) → AreBytes (mine b new)

pub kept_refl : (b : Bank) (story : Story) → IsKept b story story
kept_refl b story = record { fuses = refl; profile = refl; store_size = refl; size = refl; bytes = λ h. h }

pub kept_trans : (b : Bank) (x y z : Story) → IsKept b x y → IsKept b y z → IsKept b x z
kept_trans b x y z p q = record {
  fuses = q.fuses ∙ p.fuses;
  profile = q.profile ∙ p.profile;
  store_size = q.store_size ∙ p.store_size;
  size = q.size ∙ p.size;
  bytes = λ h. q.bytes (p.bytes h);
}

pub holds_kept : (b : Bank) (fuses : FusesState) (old new : Story) → IsKept b old new → HoldsJobs b fuses old → HoldsJobs b fuses new
holds_kept b fuses old new k h = record {
  provisioned = k.fuses ∙ h.provisioned;
  layout = subst (λ (n : ℕ). IsValidLayout (layout_of fuses.provision b) n) (sym k.size) h.layout;
  size = subst IsBankSize (sym k.size) h.size;
  bytes = k.bytes h.bytes;
  store_size = k.store_size ∙ h.store_size;
  two = k.profile ∙ h.two;
}

-- a note keeps all
pub holds_noted : (b : Bank) (fuses : FusesState) (w : Counts → What) (story : Story) → HoldsJobs b fuses story → HoldsJobs b fuses (noted w story)
holds_noted b fuses w story h =
    let same : mine b (noted w story) ≡ mine b story = image_noted (device_of b) w story in
    record {
      provisioned = h.provisioned;
      layout = subst (λ (image : List ℕ). IsValidLayout (layout_of fuses.provision b) (length image)) (sym same) h.layout;
      size = subst (λ (image : List ℕ). IsBankSize (length image)) (sym same) h.size;
      bytes = subst AreBytes (sym same) h.bytes;
      store_size = h.store_size;
      two = h.two;
    }

-- ---- one operation
pub nv_there : (R : List ℕ → List ℕ → Type 0) (b : Bank) (op : Operation) (story : Story) → R (mine b story) (applied (store story) op) → HoldsIn R b (operated device.Nv op story)
nv_there R b op story h =
    subst (λ (nv : List ℕ). R (mine b (operated device.Nv op story)) nv) (sym (image_operated device.Nv op story))
    (subst (λ (image : List ℕ). R image (applied (store story) op)) (sym (mine_operated b op story)) h)

pub bank_there : (R : List ℕ → List ℕ → Type 0) (b : Bank) (op : Operation) (story : Story) → R (applied (mine b story) op) (store story) → HoldsIn R b (operated (device_of b) op story)
bank_there R b op story h =
    subst (λ (nv : List ℕ). R (mine b (operated (device_of b) op story)) nv) (sym (store_operated b op story))
    (subst (λ (image : List ℕ). R image (store story)) (sym (image_operated (device_of b) op story)) h)

-- calls of the store leave the bank
pub mine_called : (b : Bank) (ops : List Operation) (story : Story) → mine b (after (called device.Nv ops) story) ≡ mine b story
mine_called b [] story = refl
mine_called b (op ∷ ops) story = mine_called b ops (operated device.Nv op story) ∙ mine_operated b op story

pub nv_called : (R : List ℕ → List ℕ → Type 0) (b : Bank) (ops : List Operation) (story : Story) → R (mine b story) (play (store story) ops) → HoldsIn R b (after (called device.Nv ops) story)
nv_called R b ops story h =
    subst (λ (nv : List ℕ). R (mine b (after (called device.Nv ops) story)) nv) (sym (image_called device.Nv ops story))
    (subst (λ (image : List ℕ). R image (play (store story) ops)) (sym (mine_called b ops story)) h)

-- ---- the logs
pub in_logs : (image : List ℕ) (op done : Operation) → IsTorn image op done → IsInLogs op → IsInLogs done
in_logs image op done t w = let same = IsTorn-within image op done t in record { low = omega (arith, w.low, same.0); high = omega (arith, w.high, same.0, same.1) }

pub own_logs : (b : Bank) (op : Operation) → IsWithin (log_at b) 0x3000 op → IsInLogs op
own_logs b op w = record { low = omega (arith, w.low, log_low b); high = omega (arith, w.high, log_high b) }

pub all_own : (b : Bank) (ops : List Operation) → AllWithin (log_at b) 0x3000 ops → AllWithin 0x1000 0x6000 ops
all_own b [] all = tt
all_own b (op ∷ ops) all = (own_logs b op all.0, all_own b ops all.1)

-- the end of a job lies in the bank's log
pub finish_own : (nv : List ℕ) (b : Bank) → AllWithin (log_at b) 0x3000 (finish_plan nv b)
unfolding finish_plan
finish_own nv b = by_last (last_gated (current_page nv b) 64) (last_of (current_page nv b) 64)
  where
    by_last : (last : Option ℕ) → LastOf (current_page nv b) 64 last → AllWithin (log_at b) 0x3000 (finish_by (current_at nv b) last)
    by_last _ (nothing none) = tt
    by_last _ (found k few gated above) = (record { low = omega arith; high = omega (arith, few, page_inside b (spent_in (selector nv b))) }, tt)

-- What is done in the logs keeps what is known.
pub kept_logged : (b : Bank) (ops : List Operation) (story : Story) → length (store story) ≡ 32768 → AllWithin 0x1000 0x6000 ops → IsKept b story (after (called device.Nv ops) story)
kept_logged b ops story size within =
    let later : List ℕ = play (store story) ops in
    let outside : SameOutside 0x1000 0x6000 (store story) later = SameOutside-play 0x1000 0x6000 (store story) ops within in
    let is : store (after (called device.Nv ops) story) ≡ later = image_called device.Nv ops story in
    record {
      fuses = ap fuses_of is ∙ fuses_of-same (store story) later (record { outside = outside; size = length-play (store story) ops; whole = size });
      profile = ap profile_of is ∙ profile-outside 0x1000 0x6000 (store story) later (inl (omega arith)) outside;
      store_size = ap (λ (nv : List ℕ). length nv) is ∙ length-play (store story) ops;
      size = ap (λ (image : List ℕ). length image) (mine_called b ops story);
      bytes = λ h. subst AreBytes (sym (mine_called b ops story)) h;
    }

-- where the store says the same fuses, a good recovery area is one
pub good_still : (accepts : Acceptance) (b : Bank) (image nv later : List ℕ) → fuses_of later ≡ fuses_of nv → HasGoodRecovery b image nv accepts → HasGoodRecovery b image later accepts
good_still accepts b image nv later same r = record {
  fuses = r.fuses;
  provisioned = same ∙ r.provisioned;
  good = (good_with image nv later (layout_of r.fuses.provision b).recovery_at (layout_of r.fuses.provision b).area_len b accepts r.good same).0;
}

-- ---- no job that replaces the recovery area is open
abbrev pub NoReplacing : Bank → List ℕ → Type 0
NoReplacing b nv = (digest : List ℕ) → ¬ (open_job nv b ≡ job.Job RecoveryFromStaging digest)

pub none_replacing : (b : Bank) (nv : List ℕ) → open_job nv b ≡ job.None → NoReplacing b nv
none_replacing b nv none digest e = absurd cc

pub bad_replacing : (b : Bank) (nv : List ℕ) → open_job nv b ≡ job.Bad → NoReplacing b nv
bad_replacing b nv bad digest e = absurd cc

pub active_replacing : (b : Bank) (nv : List ℕ) (kind : JobKind) (digest : List ℕ) → ¬ (kind ≡ RecoveryFromStaging) → open_job nv b ≡ job.Job kind digest → NoReplacing b nv
active_replacing b nv kind digest active opened other e = active cc

module _ (accepts : Acceptance) (b : Bank) where
  abbrev pub CanBe : Story → Type 0
  CanBe story = IsRecoverable b (mine b story) (store story) accepts

  abbrev pub IsGoodIn : Story → Type 0
  IsGoodIn story = HasGoodRecovery b (mine b story) (store story) accepts

  pub calm_good : (story : Story) → NoReplacing b (store story) → CanBe story → IsGoodIn story
  calm_good story calm (inl good) = good
  calm_good story calm (inr replacing) = absurd (calm replacing.good.capsule.digest replacing.opened)

  -- what safe moves keep
  pub recoverable_then : (moves : List Move) (story : Story) → AllSafe (KeepsRecoverable accepts b) moves story → CanBe story → CanBe (after moves story)
  recoverable_then moves story safe can =
      kept_by (KeepsRecoverable accepts b) CanBe (true_kept (λ image nv. IsRecoverable b image nv accepts) b) moves story (safe_whole (KeepsRecoverable accepts b) moves story safe) can

  -- An operation in the logs, whole or torn, where the recovery area is good if the bank can be recovered.
  one_logged : (op : Operation) (story : Story) → (CanBe story → IsGoodIn story) → length (store story) ≡ 32768 → IsInLogs op → KeepsRecoverable accepts b (Does device.Nv op) story
  one_logged op story good size within can =
      inl (nv_there (λ image nv. HasGoodRecovery b image nv accepts) b op story (recovery_logged b (mine b story) (store story) accepts (good can) op size within))

  pub logged_safe : (op : Operation) (story : Story) → (CanBe story → IsGoodIn story) → length (store story) ≡ 32768 → IsInLogs op → IsSafe (KeepsRecoverable accepts b) (Does device.Nv op) story
  logged_safe op story good size within = (one_logged op story good size within, λ done t. one_logged done story good size (in_logs (store story) op done t within))

  -- A begin: before each of its operations nothing is open.
  pub begun_safe : (ops : List Operation) (story : Story) → NoneBefore (store story) b ops → AllWithin 0x1000 0x6000 ops → length (store story) ≡ 32768 → AllSafe (KeepsRecoverable accepts b) (called device.Nv ops) story
  begun_safe [] story before within size = (tt, tt)
  begun_safe (op ∷ ops) story before within size =
      let is : store (operated device.Nv op story) ≡ applied (store story) op = image_operated device.Nv op story in (
        logged_safe op story (calm_good story (none_replacing b (store story) before.0)) size within.0,
        begun_safe ops (operated device.Nv op story) (subst (λ (nv : List ℕ). NoneBefore nv b ops) (sym is) before.1) within.1
            (ap (λ (nv : List ℕ). length nv) is ∙ length-applied (store story) op ∙ size),
      )

  -- An end of a job, where the recovery area is good if the bank can be recovered.
  pub finish_safe : (story : Story) → (CanBe story → IsGoodIn story) → length (store story) ≡ 32768 → AllSafe (KeepsRecoverable accepts b) (finished_job b story) story
  unfolding finish_plan
  finish_safe story good size = by_last (last_gated (current_page (store story) b) 64) (last_of (current_page (store story) b) 64)
    where
      by_last : (last : Option ℕ) → LastOf (current_page (store story) b) 64 last → AllSafe (KeepsRecoverable accepts b) (called device.Nv (finish_by (current_at (store story) b) last)) story
      by_last _ (nothing none) = (tt, tt)
      by_last _ (found k few gated above) = (
        logged_safe (Program (current_at (store story) b + 64 * k + 63) (0 ∷ [])) story good size
            (own_logs b (Program (current_at (store story) b + 64 * k + 63) (0 ∷ [])) (record { low = omega arith; high = omega (arith, few, page_inside b (spent_in (selector (store story) b))) })),
        (tt, tt),
      )

-- and then no job is open
pub finish_leaves : (b : Bank) (fuses : FusesState) (story : Story) → HoldsJobs b fuses story → ¬ (open_job (store story) b ≡ job.None) → IsJobless b fuses (after (finished_job b story) story)
finish_leaves b fuses story h opened =
    let plan : List Operation = finish_plan (store story) b in
    record {
      holds = holds_kept b fuses story (after (finished_job b story) story) (kept_logged b plan story h.store_size (all_own b plan (finish_own (store story) b))) h;
      none = ap (λ (nv : List ℕ). open_job nv b) (image_called device.Nv plan story) ∙ finish_done (store story) b h.store_size opened;
    }
