-- What is done in a bank's log, and a raise of its floor, leave of the store.
use Rattle.std.proofs.Common.{◌≡◌, ◌∙◌, refl, sym, ap, ℕ, ◌+◌, ◌<◌, ◌≤◌, ◌==◌, ◌&&◌, false, List, length, Option, Some, None, Result, Ok, Err, OnOk, arith, ◌⊎◌, inl, inr}
use Rattle.std.proofs.lemmas.Bool.{cases_lt}
use Rattle.pfr_flash.specs.Bytes.{AreBytes, bytes_at}
use Rattle.pfr_flash.specs.FlashState.{FlashState, now, size_of}
use Rattle.pfr_flash.specs.Operation.{Operation}
use Rattle.pfr_flash.specs.Plan.{Follows}
use Rattle.pfr_flash.specs.Range.{SameOutside}
use Rattle.pfr_flash.specs.declared.flash.FlashFail.{FlashFail}
use Rattle.pfr_flash.specs.declared.names.Bank.{Bank}
use Rattle.pfr_flash.specs.declared.names.Bank.TheVariants as bank
use Rattle.pfr_flash.specs.declared.names.ContentType.{ContentType}
use Rattle.pfr_flash.specs.declared.names.ContentType.TheVariants.{Controller, PchManifest, PchCapsule, BmcManifest, BmcCapsule, PchManifestCancel, PchCapsuleCancel, BmcManifestCancel, BmcCapsuleCancel}
use Rattle.pfr_flash.proofs.FollowsLemmas.{Follows-now, Follows-outside}
use Rattle.pfr_flash.proofs.RangeLemmas.{SameOutside-wider, bytes_at-outside, length-now}
use Rattle.pfr_fuses.specs.FuseMap.{IsSigning, floor_at, row_at}
use Rattle.pfr_fuses.specs.FusesOf.{fuses_of}
use Rattle.pfr_fuses.specs.declared.profile.Profile.TheVariants.{Two}
use Rattle.pfr_fuses.proofs.StaysLemmas.{fuses_of-same}
use Rattle.pfr_jobs.specs.Beginning.{Begins}
use Rattle.pfr_jobs.specs.Log.{current_at, current_page, first_unspent, last_gated, log_at, open_in, open_job, page_by, selector, spent_in, used_in}
use Rattle.pfr_jobs.specs.LogPlans.{IsKind, begin_plan, finish_plan}
use Rattle.pfr_jobs.specs.LogState.{LogState, is_none, is_spent_in, log_of, marks_in, marks_of}
use Rattle.pfr_jobs.specs.declared.job.JobKind.{JobKind}
use Rattle.pfr_jobs.specs.declared.job.OpenJob.TheVariants as job
use Rattle.pfr_jobs.specs.declared.log.JobFail.{JobFail}
use Rattle.pfr_jobs.specs.declared.log.JobFail.TheVariants.{Flash, Spent}
use Rattle.pfr_jobs.proofs.BeginLaw.{TakesJob, begin_done, begin_within, by_switch, in_slot, log_high, log_low, used_is}
use Rattle.pfr_jobs.proofs.FinishLaw.{finish_done}
use Rattle.pfr_jobs.proofs.LogLaws.{log_inside, page_inside}
use Rattle.pfr_jobs.proofs.SlotLaw.{IsDigest}
use Rattle.pfr_story.proofs.JobRules.{finish_own}
use Rattle.pfr_machine.specs.Inside.{KeepsLaid}

-- ---- what is provisioned stays where the fuses do
pub fuses_keep : (old new : List ℕ) → fuses_of new ≡ fuses_of old → KeepsLaid old new
fuses_keep old new e which layout h = record { fuses = h.fuses; provisioned = e ∙ h.provisioned; same = h.same }

pub digest_is : (digest : List ℕ) → length digest ≡ 32 → AreBytes digest → IsDigest digest
digest_is digest long bytes = record { long = long; bytes = bytes }

-- a log that isn't spent takes a job
takes_job : (nv : List ℕ) (b : Bank) → is_spent_in (log_of nv b) ≡ false → TakesJob nv b
takes_job nv b room = by_used (cases_lt (used_in (current_page nv b) 64) 64)
  where
    full : (found : Option ℕ) → first_unspent (selector nv b) ≡ found → is_none found ≡ false → TakesJob nv b
    full None e some = absurd cc
    full (Some at) e some = by_switch at e

    by_used : (used_in (current_page nv b) 64 < 64) ⊎ (64 ≤ used_in (current_page nv b) 64) → TakesJob nv b
    by_used (inl few) = in_slot few
    by_used (inr all) =
        let same : used_in (current_page nv b) 64 ≡ 64 = omega (arith, all, (used_is (current_page nv b) 64).few) in
        full (first_unspent (selector nv b)) refl (sym (ap (λ (n : ℕ). n == 64 && is_none (first_unspent (selector nv b))) same) ∙ room)

-- ---- what is done in the logs leaves the fuses
pub length_stays : (old new : FlashState) → new.start ≡ old.start → length (now new) ≡ length (now old)
length_stays old new start = length-now new ∙ (ap (λ (bytes : List ℕ). length bytes) start ∙ sym (length-now old))

module _ {A : Type 0} (plan : List Operation) (old new : FlashState) (r : Result A FlashFail) (size : size_of old ≡ 32768) (f : Follows plan old new r) where
  logged_fuses : SameOutside 4096 24576 (now old) (now new) → fuses_of (now new) ≡ fuses_of (now old)
  logged_fuses outside = fuses_of-same (now old) (now new) (record { outside = outside; size = length_stays old new f.worked.moved.start; whole = length-now old ∙ size })

-- a job is begun
module _ (log : LogState) (old new : FlashState) (b : Bank) (kind : JobKind) (digest : List ℕ) (size : size_of old ≡ 32768) (stands : log ≡ log_of (now old) b) (none : log.job ≡ job.None) (room : is_spent_in log ≡ false)
    (d : IsDigest digest) (valid : IsKind kind) where
  none_open : open_job (now old) b ≡ job.None
  none_open = sym (ap (λ (l : LogState). l.job) stands) ∙ none

  takes : TakesJob (now old) b
  takes = takes_job (now old) b (sym (ap (λ (l : LogState). is_spent_in l) stands) ∙ room)

  pub begun_fuses : {A : Type 0} (r : Result A FlashFail) → Follows (begin_plan (now old) b kind digest) old new r → fuses_of (now new) ≡ fuses_of (now old)
  begun_fuses r f =
      logged_fuses (begin_plan (now old) b kind digest) old new r size f
      (Follows-outside 4096 24576 (begin_plan (now old) b kind digest) old new r (begin_within (now old) b kind digest (length-now old ∙ size) none_open takes d valid) f)

  -- also where the log was spent, by what a begin answers
  pub begins_fuses : (r : Result (Unit {0}) JobFail) → Begins b kind digest old new r → fuses_of (now new) ≡ fuses_of (now old)
  begins_fuses (Ok x) h = begun_fuses {A = Unit {0}} (Ok x) h.1
  begins_fuses (Err Spent) h = ap (λ (d : FlashState). fuses_of (now d)) h.1
  begins_fuses (Err (Flash fail)) h = begun_fuses {A = Unit {0}} (Err fail) h.1

  pub begun_open : {A : Type 0} (x : A) (later : LogState) → Follows (begin_plan (now old) b kind digest) old new (Ok x) → later ≡ log_of (now new) b → later.job ≡ job.Job kind digest
  begun_open x later f e =
      ap (λ (l : LogState). l.job) e
      ∙ (ap (λ (nv : List ℕ). open_job nv b) (Follows-now (begin_plan (now old) b kind digest) old new x f) ∙ begin_done (now old) b kind digest (length-now old ∙ size) none_open takes d valid)

-- and finished
module _ (log : LogState) (old new : FlashState) (b : Bank) (size : size_of old ≡ 32768) (stands : log ≡ log_of (now old) b) (is_open : log.job ≡ job.None → ⊥) where
  pub finished_fuses : {A : Type 0} (r : Result A FlashFail) → Follows (finish_plan (now old) b) old new r → fuses_of (now new) ≡ fuses_of (now old)
  finished_fuses r f =
      logged_fuses (finish_plan (now old) b) old new r size f
      (SameOutside-wider (log_at b) 0x3000 4096 24576 (now old) (now new) (log_low b) (omega (arith, log_high b))
      (Follows-outside (log_at b) 0x3000 (finish_plan (now old) b) old new r (finish_own (now old) b) f))

  pub finished_none : {A : Type 0} (r : Result A FlashFail) (later : LogState) → Follows (finish_plan (now old) b) old new r → OnOk r (later ≡ log_of (now new) b) → OnOk r (later.job ≡ job.None)
  finished_none (Err fail) later f e = tt
  finished_none (Ok x) later f e =
      ap (λ (l : LogState). l.job) e
      ∙ (ap (λ (nv : List ℕ). open_job nv b) (Follows-now (finish_plan (now old) b) old new x f)
      ∙ finish_done (now old) b (length-now old ∙ size) (λ none. is_open (ap (λ (l : LogState). l.job) stands ∙ none)))

-- ---- a raise leaves the logs
-- the log by where its page is, its selector and its page
log_by : Bank → ℕ → List ℕ → List ℕ → LogState
log_by b at sel page = record {
  bank = b;
  page = at;
  last = last_gated page 64;
  used = used_in page 64;
  unspent = first_unspent sel;
  job = open_in page;
  marks = marks_in page (last_gated page 64);
}

floor_low : (c : Bank) → 0x7000 ≤ floor_at Two c
floor_low bank.Bmc = omega arith
floor_low bank.Pch = omega arith

row_low : (type : ContentType) → IsSigning type → 0x7000 ≤ row_at Two type
row_low PchManifest signing = omega arith
row_low PchCapsule signing = omega arith
row_low BmcManifest signing = omega arith
row_low BmcCapsule signing = omega arith
row_low Controller signing = absurd signing
row_low PchManifestCancel signing = absurd signing
row_low PchCapsuleCancel signing = absurd signing
row_low BmcManifestCancel signing = absurd signing
row_low BmcCapsuleCancel signing = absurd signing

-- nothing below sector 7 is touched
module _ (place long : ℕ) (above : 0x7000 ≤ place) (b : Bank) (old new : List ℕ) (size : length old ≡ 32768) (same : length new ≡ length old) (outside : SameOutside place long old new) where
  part_same : (at : ℕ) → at + 4096 ≤ log_at b + 0x3000 → bytes_at new at 4096 ≡ bytes_at old at 4096
  part_same at low = bytes_at-outside place long old new at 4096 outside same (inl (omega (arith, low, log_high b, above))) (omega (arith, low, log_inside b, size))

  selector_stays : selector new b ≡ selector old b
  selector_stays = part_same (log_at b + 0x2000) (omega arith)

  page_stays : current_page new b ≡ current_page old b
  page_stays = ap (λ (s : List ℕ). bytes_at new (page_by b (spent_in s)) 4096) selector_stays ∙ part_same (current_at old b) (omega (arith, page_inside b (spent_in (selector old b))))

  log_stays : log_of new b ≡ log_of old b
  unfolding open_job marks_of log_by
  log_stays =
      ap (λ (s : List ℕ). log_by b (page_by b (spent_in s)) s (current_page new b)) selector_stays
      ∙ ap (λ (p : List ℕ). log_by b (current_at old b) (selector old b) p) page_stays

pub raised_logs : (c b : Bank) (old new : List ℕ) → length old ≡ 32768 → length new ≡ length old → SameOutside (floor_at Two c) 16 old new → log_of new b ≡ log_of old b
raised_logs c b old new size same outside = log_stays (floor_at Two c) 16 (floor_low c) b old new size same outside

-- and so does a key that is cancelled
pub cancelled_logs : (type : ContentType) (b : Bank) (old new : List ℕ) → IsSigning type → length old ≡ 32768 → length new ≡ length old → SameOutside (row_at Two type) 32 old new → log_of new b ≡ log_of old b
cancelled_logs type b old new signing size same outside = log_stays (row_at Two type) 32 (row_low type signing) b old new size same outside
