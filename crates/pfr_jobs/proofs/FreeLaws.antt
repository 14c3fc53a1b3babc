-- The slot that the next job takes, and how a job is begun in it.
use Rattle.std.proofs.Common.{◌≡◌, ◌≢◌, ◌∙◌, ℕ, ◌+◌, ◌-◌, ◌*◌, ◌/◌, ◌%◌, ◌≤◌, ◌<◌, ◌==◌, ◌&&◌, Bool, true, false, if◌then◌else◌, List, [], ◌∷◌, ◌++◌, length, Option, Some, None, Result, Ok, Err, refl, sym, ap, subst, arith, ◌⊎◌, inl, inr}
use Rattle.std.proofs.lemmas.Bool.{cases_lt, eqb-true, false≢true}
use Rattle.std.proofs.lemmas.List.{append-nil}
use Rattle.pfr_flash.specs.FlashState.{FlashState, now}
use Rattle.pfr_flash.specs.Operation.{Operation, Erase, Program}
use Rattle.pfr_flash.specs.Plan.{Follows}
use Rattle.pfr_flash.specs.Reading.{EndsAt}
use Rattle.pfr_flash.specs.declared.flash.FlashFail.{FlashFail}
use Rattle.pfr_flash.specs.declared.names.Bank.{Bank}
use Rattle.pfr_flash.specs.declared.names.Bank.TheVariants as bank
use Rattle.pfr_flash.proofs.BytesLemmas.{length-bytes_at}
use Rattle.pfr_flash.proofs.FollowsLemmas.{Follows-reads, Follows-then, Follows-first}
use Rattle.pfr_jobs.specs.declared.job.JobKind.{JobKind}
use Rattle.pfr_jobs.specs.declared.log.JobFail.TheVariants.{Flash}
use Rattle.pfr_jobs.specs.Beginning.{Begins, other_page, freeing_by, freeing, free_by, free_slot}
use Rattle.pfr_jobs.specs.Log.{log_at, spent_in, selector, page_by, current_at, current_page, used_in, first_unspent}
use Rattle.pfr_jobs.specs.LogPlans.{body_of, slot_plan, switch_plan, begin_by, begin_plan}
use Rattle.pfr_jobs.specs.LogState.{LogState, is_none, log_of, is_spent_in, is_spent}
use Rattle.pfr_jobs.proofs.LogLaws.{page_inside, log_inside, current_inside}
use Rattle.pfr_jobs.proofs.SwitchLaw.{IsFirst, first_is, first_at}
use Rattle.pfr_jobs.proofs.BeginLaw.{used_is}

-- ---- what frees it
pub freeing_switch : (log : LogState) (at : ℕ) → log.unspent ≡ Some at → log.used ≡ 64
    → (freeing log ≡ Erase (other_page log / 4096) ∷ Program (log_at log.bank + 0x2000 + at) (0 ∷ []) ∷ []) × (free_slot log ≡ other_page log)
unfolding freeing free_slot
freeing_switch log at found full = (
  ap (λ (f : Option ℕ). freeing_by log f) found ∙ ap (λ (t : Bool). if t then Erase (other_page log / 4096) ∷ Program (log_at log.bank + 0x2000 + at) (0 ∷ []) ∷ [] else []) (ap (λ (n : ℕ). n == 64) full),
  ap (λ (f : Option ℕ). free_by log f) found ∙ ap (λ (t : Bool). if t then other_page log else log.page + 64 * log.used) (ap (λ (n : ℕ). n == 64) full),
)

-- nothing, where a slot is blank
pub freeing_none : (log : LogState) → (log.unspent ≡ None) ⊎ (log.used ≢ 64) → (freeing log ≡ []) × (free_slot log ≡ log.page + 64 * log.used)
unfolding freeing free_slot
freeing_none log (inl none) = (ap (λ (f : Option ℕ). freeing_by log f) none, ap (λ (f : Option ℕ). free_by log f) none)
freeing_none log (inr few) = (by_found log.unspent, by_place log.unspent)
  where
    unequal : (t : Bool) → (log.used == 64) ≡ t → (log.used == 64) ≡ false
    unequal true e = absurd (few (eqb-true log.used 64 e))
    unequal false e = e

    by_found : (f : Option ℕ) → freeing_by log f ≡ []
    by_found None = refl
    by_found (Some at) = ap (λ (t : Bool). if t then Erase (other_page log / 4096) ∷ Program (log_at log.bank + 0x2000 + at) (0 ∷ []) ∷ [] else []) (unequal (log.used == 64) refl)

    by_place : (f : Option ℕ) → free_by log f ≡ log.page + 64 * log.used
    by_place None = refl
    by_place (Some at) = ap (λ (t : Bool). if t then other_page log else log.page + 64 * log.used) (unequal (log.used == 64) refl)

-- ---- where the log stands
-- the page that isn't current
other_is : (b : Bank) (spent : ℕ) → 2 * log_at b + 4096 - page_by b spent ≡ page_by b (spent + 1)
other_is b spent = by_parity (cases_lt (spent % 2) 1)
  where
    by_parity : (spent % 2 < 1) ⊎ (1 ≤ spent % 2) → 2 * log_at b + 4096 - page_by b spent ≡ page_by b (spent + 1)
    by_parity (inl even) = let odd : (spent + 1) % 2 ≡ 1 = omega arith in let none : spent % 2 ≡ 0 = omega arith in omega (arith, odd, none)
    by_parity (inr odd) = let even : (spent + 1) % 2 ≡ 0 = omega arith in let one : spent % 2 ≡ 1 = omega arith in omega (arith, even, one)

pub whole_slots : (b : Bank) (spent : ℕ) → page_by b spent % 64 ≡ 0
whole_slots bank.Bmc spent = omega arith
whole_slots bank.Pch spent = omega arith

pub record IsPlaced (log : LogState) : Type 0 where
  pub page : log.page + 4096 ≤ log_at log.bank + 0x2000
  pub low : log_at log.bank ≤ log.page
  pub inside : log_at log.bank + 0x3000 ≤ 32768
  pub used : log.used ≤ 64
  pub unspent : (at : ℕ) → log.unspent ≡ Some at → at < 4096

module _ (nv : List ℕ) (b : Bank) (size : length nv ≡ 32768) where
  spent : ℕ
  spent = spent_in (selector nv b)

  used : ℕ
  used = used_in (current_page nv b) 64

  placed_of : IsPlaced (log_of nv b)
  placed_of = record {
    page = page_inside b (spent_in (selector nv b));
    low = omega arith;
    inside = log_inside b;
    used = (used_is (current_page nv b) 64).few;
    unspent = λ at found. let h = first_at (selector nv b) at (subst (λ (f : Option ℕ). IsFirst (selector nv b) f) found (first_is (selector nv b))) in
        omega (arith, h.0, length-bytes_at nv (log_at b + 0x2000) 4096 (omega (arith, size, log_inside b)));
  }

  abbrev IsFree : ℕ → Type 0
  IsFree at = (at + 64 ≤ 32768) × (at % 64 ≡ 0)

  free_of : is_spent_in (log_of nv b) ≡ false → IsFree (free_slot (log_of nv b))
  unfolding free_slot
  free_of room = by_unspent (first_unspent (selector nv b)) room
    where
      in_page : (used_in (current_page nv b) 64 == 64) ≡ false → IsFree (current_at nv b + 64 * used_in (current_page nv b) 64)
      in_page few =
          let at_most : used_in (current_page nv b) 64 ≤ 64 = (used_is (current_page nv b) 64).few in
          by_number (cases_lt (used_in (current_page nv b) 64) 64) at_most few
        where
          by_number : (used_in (current_page nv b) 64 < 64) ⊎ (64 ≤ used_in (current_page nv b) 64) → used_in (current_page nv b) 64 ≤ 64 → (used_in (current_page nv b) 64 == 64) ≡ false → IsFree (current_at nv b + 64 * used_in (current_page nv b) 64)
          by_number (inl less) at_most few =
              (omega (arith, less, current_inside nv b), (let whole : current_at nv b % 64 ≡ 0 = whole_slots b (spent_in (selector nv b)) in omega (arith, whole)))
          by_number (inr all) at_most few = let same : used_in (current_page nv b) 64 ≡ 64 = omega (arith, all, at_most) in absurd (false≢true (sym few ∙ ap (λ (n : ℕ). n == 64) same))

      by_test : (t : Bool) → (used_in (current_page nv b) 64 == 64) ≡ t → IsFree (if t then other_page (log_of nv b) else current_at nv b + 64 * used_in (current_page nv b) 64)
      by_test true e = subst IsFree (sym (other_is b (spent_in (selector nv b)))) (omega (arith, page_inside b (spent_in (selector nv b) + 1), log_inside b), whole_slots b (spent_in (selector nv b) + 1))
      by_test false e = in_page e

      full_none : (t : Bool) → t && true ≡ false → t ≡ false
      full_none true h = h
      full_none false h = refl

      by_unspent : (f : Option ℕ) → (used_in (current_page nv b) 64 == 64) && is_none f ≡ false → IsFree (free_by (log_of nv b) f)
      by_unspent None h = in_page (full_none (used_in (current_page nv b) 64 == 64) h)
      by_unspent (Some at) h = by_test (used_in (current_page nv b) 64 == 64) refl

-- a job is written to the slot at a place, and its gate last
abbrev pub job_plan : ℕ → JobKind → List ℕ → List Operation
job_plan at kind digest = Program (at + 1) (body_of kind digest) ∷ Program at (0 ∷ []) ∷ []

plan_of : (nv : List ℕ) (b : Bank) (kind : JobKind) (digest : List ℕ) → begin_plan nv b kind digest ≡ freeing (log_of nv b) ++ job_plan (free_slot (log_of nv b)) kind digest
unfolding begin_plan freeing free_slot
plan_of nv b kind digest = by_unspent (first_unspent (selector nv b))
  where
    first : page_by b (spent_in (selector nv b) + 1) + 64 * 0 ≡ other_page (log_of nv b)
    first = (let e : page_by b (spent_in (selector nv b) + 1) + 64 * 0 ≡ page_by b (spent_in (selector nv b) + 1) = omega arith in e) ∙ sym (other_is b (spent_in (selector nv b)))

    by_test : (at : ℕ) (t : Bool) → (if t then switch_plan b (spent_in (selector nv b)) at kind digest else slot_plan (current_at nv b) (used_in (current_page nv b) 64) kind digest)
        ≡ (if t then Erase (other_page (log_of nv b) / 4096) ∷ Program (log_at b + 0x2000 + at) (0 ∷ []) ∷ [] else []) ++ job_plan (if t then other_page (log_of nv b) else current_at nv b + 64 * used_in (current_page nv b) 64) kind digest
    by_test at true =
        ap (λ (p : ℕ). Erase (p / 4096) ∷ Program (log_at b + 0x2000 + at) (0 ∷ []) ∷ slot_plan (page_by b (spent_in (selector nv b) + 1)) 0 kind digest) (sym (other_is b (spent_in (selector nv b))))
        ∙ ap (λ (p : ℕ). Erase (other_page (log_of nv b) / 4096) ∷ Program (log_at b + 0x2000 + at) (0 ∷ []) ∷ job_plan p kind digest) first
    by_test at false = refl

    by_unspent : (f : Option ℕ) → begin_by nv b (used_in (current_page nv b) 64) f kind digest ≡ freeing_by (log_of nv b) f ++ job_plan (free_by (log_of nv b) f) kind digest
    by_unspent None = refl
    by_unspent (Some at) = by_test at (used_in (current_page nv b) 64 == 64)

module _ (log : LogState) (nv : List ℕ) (b : Bank) (stands : log ≡ log_of nv b) where
  pub is_placed : length nv ≡ 32768 → IsPlaced log
  is_placed size = subst IsPlaced (sym stands) (placed_of nv b size)

  pub is_free : length nv ≡ 32768 → is_spent_in log ≡ false → (free_slot log + 64 ≤ 32768) × (free_slot log % 64 ≡ 0)
  is_free size room = subst (λ (l : LogState). (free_slot l + 64 ≤ 32768) × (free_slot l % 64 ≡ 0)) (sym stands) (free_of nv b size (sym (ap (λ (l : LogState). is_spent_in l) stands) ∙ room))

  pub begin_plan_is : (kind : JobKind) (digest : List ℕ) → begin_plan nv b kind digest ≡ freeing log ++ job_plan (free_slot log) kind digest
  begin_plan_is kind digest = plan_of nv b kind digest ∙ ap (λ (l : LogState). freeing l ++ job_plan (free_slot l) kind digest) (sym stands)

-- ---- a job is begun
module _ (log : LogState) (b : Bank) (kind : JobKind) (digest : List ℕ) (a m : FlashState) (stands : log ≡ log_of (now a) b) (room : is_spent_in log ≡ false) where
  unspent : is_spent (now a) b ≡ false
  unspent = sym (ap (λ (l : LogState). is_spent_in l) stands) ∙ room

  pub begins_unfreed : (fail : FlashFail) → Follows {A = ℕ} (freeing log) a m (Err fail) → Begins b kind digest a m (Err (Flash fail))
  begins_unfreed fail h = (unspent, rw (begin_plan_is log (now a) b stands kind digest) (Follows-first (freeing log) (job_plan (free_slot log) kind digest) a m fail h))

  module _ (at : ℕ) (freed : Follows {A = ℕ} (freeing log) a m (Ok at)) (n : FlashState) (place : at ≡ free_slot log) where
    whole : {A : Type 0} (result : Result A FlashFail) → Follows (job_plan at kind digest) m n result → Follows (begin_plan (now a) b kind digest) a n result
    whole result h = rw (begin_plan_is log (now a) b stands kind digest, ← place) (Follows-then (freeing log) (job_plan at kind digest) a m n at result freed h)

    pub begins_unwritten : (fail : FlashFail) → Follows {A = Unit {0}} (job_plan at kind digest) m n (Err fail) → Begins b kind digest a n (Err (Flash fail))
    begins_unwritten fail h = (unspent, whole (Err fail) h)

    module _ (u : Unit {0}) (written : Follows {A = Unit {0}} (job_plan at kind digest) m n (Ok u)) (z : FlashState) where
      after : {A : Type 0} (result : Result A FlashFail) → Follows [] n z result → Follows (begin_plan (now a) b kind digest) a z result
      after result h = subst (λ (plan : List Operation). Follows plan a z result) (append-nil (begin_plan (now a) b kind digest)) (Follows-then (begin_plan (now a) b kind digest) [] a n z u result (whole (Ok u) written) h)

      pub begins_unread : (fail : FlashFail) → EndsAt (Some fail) n z → Begins b kind digest a z (Err (Flash fail))
      begins_unread fail h = (unspent, after (Err fail) (Follows-reads n z (Err fail) h))

      pub begins_done : EndsAt None n z → Begins b kind digest a z (Ok tt)
      begins_done h = (unspent, after (Ok tt) (Follows-reads n z (Ok tt) h))
