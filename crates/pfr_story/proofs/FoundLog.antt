-- A job is begun within the bank's log, where that isn't spent.
use Rattle.std.proofs.Common.{◌≡◌, ◌∙◌, refl, sym, ap, arith, ℕ, ◌+◌, ◌≤◌, ◌<◌, ◌==◌, ◌&&◌, Bool, true, false, if◌then◌else◌, List, length, Option, ◌⊎◌, inl, inr}
use Rattle.std.proofs.lemmas.Bool.{cases_lt, false≢true}
use Rattle.pfr_flash.specs.declared.names.Bank.{Bank}
use Rattle.pfr_flash.proofs.BytesLemmas.{length-bytes_at}
use Rattle.pfr_jobs.specs.Log.{log_at, spent_in, selector, page_by, current_at, current_page, first_unspent, used_in}
use Rattle.pfr_jobs.specs.LogPlans.{begin_by, begin_plan, slot_plan, switch_plan}
use Rattle.pfr_jobs.specs.LogState.{is_none, is_spent}
use Rattle.pfr_jobs.specs.declared.job.JobKind.{JobKind}
use Rattle.pfr_jobs.proofs.BeginLaw.{log_high, used_is}
use Rattle.pfr_jobs.proofs.LogLaws.{page_inside}
use Rattle.pfr_jobs.proofs.SwitchLaw.{IsFirst, nowhere, there, first_is, page_sector}
use Rattle.pfr_story.proofs.JobRules.{AllInLog}

module _ (nv : List ℕ) (b : Bank) (kind : JobKind) (digest : List ℕ) (size : length nv ≡ 32768) (long : length digest ≡ 32) where
  slot_own : (spent n : ℕ) → n < 64 → AllInLog b (slot_plan (page_by b spent) n kind digest)
  slot_own spent n few = (
    record { low = omega arith; high = omega (arith, few, long, page_inside b spent) },
    (record { low = omega arith; high = omega (arith, few, page_inside b spent) }, tt),
  )

  switch_own : (spent at : ℕ) → at < 4096 → AllInLog b (switch_plan b spent at kind digest)
  switch_own spent at few = (
    record { low = omega (arith, page_sector b (spent + 1)); high = omega (arith, page_sector b (spent + 1), page_inside b (spent + 1)) },
    (record { low = omega arith; high = omega (arith, few) }, slot_own (spent + 1) 0 (omega arith)),
  )

  left_few : (used : ℕ) → used ≤ 64 → (used == 64) ≡ false → used < 64
  left_few used few not_all = by_place (cases_lt used 64)
    where
      by_place : (used < 64) ⊎ (64 ≤ used) → used < 64
      by_place (inl below) = below
      by_place (inr from) =
          let same : used ≡ 64 = omega (arith, few, from) in
          absurd (false≢true (sym not_all ∙ ap (λ (n : ℕ). n == 64) same))

  begins_by : (used : ℕ) → used ≤ 64 → (found : Option ℕ) → IsFirst (selector nv b) found → (used == 64 && is_none found) ≡ false → AllInLog b (begin_by nv b used found kind digest)
  begins_by used few _ nowhere unspent = slot_own (spent_in (selector nv b)) used (left_few used few (by_full (used == 64) unspent))
    where
      by_full : (t : Bool) → (t && true) ≡ false → t ≡ false
      by_full true e = absurd (false≢true (sym e))
      by_full false e = refl
  begins_by used few _ (there at below blank) unspent = by_full (used == 64) refl
    where
      short : length (selector nv b) ≡ 4096
      short = length-bytes_at nv (log_at b + 0x2000) 4096 (omega (arith, size, log_high b))

      by_full : (t : Bool) → (used == 64) ≡ t
          → AllInLog b (if t then switch_plan b (spent_in (selector nv b)) at kind digest else slot_plan (current_at nv b) used kind digest)
      by_full true e = switch_own (spent_in (selector nv b)) at (omega (arith, below, short))
      by_full false e = slot_own (spent_in (selector nv b)) used (left_few used few e)

  pub begins_own : is_spent nv b ≡ false → AllInLog b (begin_plan nv b kind digest)
  unfolding begin_plan
  begins_own unspent = begins_by (used_in (current_page nv b) 64) (used_is (current_page nv b) 64).few (first_unspent (selector nv b)) (first_is (selector nv b)) unspent
