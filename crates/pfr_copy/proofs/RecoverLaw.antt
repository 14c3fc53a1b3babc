-- However a copy to the recovery area ended, the bank can be recovered.
use Rattle.std.proofs.Common.{◌≡◌, ◌∙◌, ℕ, ◌/◌, ◌<◌, ◌%◌, true, sym, ap, subst, arith, length, Result}
use Rattle.std.proofs.Math.Nat.{div-lt_iff_lt-mul}
use Rattle.pfr_flash.specs.Bytes.{AreBytes}
use Rattle.pfr_flash.specs.FlashState.{now, size_of}
use Rattle.pfr_flash.specs.Layout.{IsBankSize}
use Rattle.pfr_flash.specs.declared.layout.Layout.{Layout}
use Rattle.pfr_flash.specs.declared.names.Bank.{Bank}
use Rattle.pfr_flash.proofs.RangeLemmas.{length-now}
use Rattle.pfr_engine.specs.Acceptance.{Acceptance}
use Rattle.pfr_fuses.specs.FusesState.{FusesState}
use Rattle.pfr_fuses.specs.RootSlot.{layout_of}
use Rattle.pfr_capsule.specs.CapsuleState.{CapsuleState}
use Rattle.pfr_jobs.specs.Log.{current_at}
use Rattle.pfr_jobs.specs.LogPlans.{mark_plan}
use Rattle.pfr_rebuilt.specs.Copying.{holds_text, recovery_page, recovery_pages}
use Rattle.pfr_rebuilt.specs.Passing.{group_pages}
use Rattle.pfr_recoverable.specs.Recoverable.{IsRecoverable}
use Rattle.pfr_recoverable.proofs.PassedLaw.{IsAreaPage, mark_deeds, pages_pass, passed_recoverable}
use Rattle.pfr_recoverable.proofs.PassLaw.{AllPassDeeds}
use Rattle.pfr_recoverable.proofs.StaysLaw.{fuses_one}
use Rattle.pfr_strokes.specs.Deeds.{marked_by, unmarked}
use Rattle.pfr_strokes.specs.Passes.{Pair, Passes}
use Rattle.pfr_strokes.specs.declared.side.CopyFail.{CopyFail}
use Rattle.pfr_strokes.proofs.ReplacedLaws.{IsOneOf, pages_are}
use Rattle.pfr_copy.specs.Applying.{CanCopyOver}
use Rattle.pfr_copy.specs.Copied.{written_pages}
use Rattle.pfr_copy.specs.Marking.{marks_deeds}
use Rattle.pfr_copy.specs.Recovering.{HasJobBy}
use Rattle.pfr_copy.specs.declared.marks.Marks.{Marks}
use Rattle.pfr_copy.specs.declared.marks.Marks.TheVariants.{Heed, Ignore, Without}
use Rattle.pfr_copy.proofs.ClauseLaw.{written_are}
use Rattle.pfr_copy.proofs.HeedLemmas.{enough_groups, some_pages}
use Rattle.pfr_copy.proofs.JobLaw.{recovery_fills, recovery_inside}

-- a page's group is one of 128
pub small_group : (size n : ℕ) → n < size / 4096 → n / group_pages size < 128
small_group size n below = (div-lt_iff_lt-mul (some_pages size)).1 (omega (arith, below, enough_groups size))

module _ (capsule : CapsuleState) (layout : Layout) (bank : Bank) (a b : Pair) (can : CanCopyOver (now a.bank) layout capsule) (bytes : AreBytes (now a.bank)) where
  area_are : (n : ℕ) → IsOneOf n (recovery_pages layout capsule.length (length (now a.bank))) → (n < length (now a.bank) / 4096) × (holds_text layout.recovery_at capsule.length n ≡ true)
  unfolding recovery_pages
  area_are n one = (pages_are (holds_text layout.recovery_at capsule.length) (length (now a.bank) / 4096)).only n one

  area_page : (n : ℕ) → IsOneOf n (recovery_pages layout capsule.length (length (now a.bank))) → IsAreaPage layout (current_at (now a.store) bank) (recovery_page (now a.bank) layout.staging_at capsule.length layout) n
  area_page n one =
      let inside = recovery_inside (now a.bank) capsule layout can bytes n (area_are n one).1 in
      record { low = inside.0; high = inside.1; whole = (recovery_fills (now a.bank) capsule layout can bytes n).whole }

  pub all_pass : (marks : Marks) → AllPassDeeds layout (current_at (now a.store) bank)
      (marks_deeds marks bank (now a.store) (recovery_page (now a.bank) layout.staging_at capsule.length layout) (group_pages (length (now a.bank))) (recovery_pages layout capsule.length (length (now a.bank))))
  all_pass Heed = (
    tt,
    pages_pass layout (current_at (now a.store) bank) (recovery_page (now a.bank) layout.staging_at capsule.length layout) (group_pages (length (now a.bank))) (marked_by (mark_plan (now a.store) bank))
        (written_pages Heed bank (now a.store) (group_pages (length (now a.bank))) (recovery_pages layout capsule.length (length (now a.bank))))
        (λ n one. area_page n (written_are Heed bank (now a.store) (group_pages (length (now a.bank))) (recovery_pages layout capsule.length (length (now a.bank))) n one))
        (λ n one. mark_deeds layout (now a.store) bank (n / group_pages (length (now a.bank)))
        (small_group (length (now a.bank)) n (area_are n (written_are Heed bank (now a.store) (group_pages (length (now a.bank))) (recovery_pages layout capsule.length (length (now a.bank))) n one)).0)),
  )
  all_pass Ignore = (
    tt,
    pages_pass layout (current_at (now a.store) bank) (recovery_page (now a.bank) layout.staging_at capsule.length layout) (group_pages (length (now a.bank))) unmarked
        (recovery_pages layout capsule.length (length (now a.bank))) (λ n one. area_page n one) (λ n one. tt),
  )
  all_pass Without = (
    tt,
    pages_pass layout (current_at (now a.store) bank) (recovery_page (now a.bank) layout.staging_at capsule.length layout) (group_pages (length (now a.bank))) unmarked
        (recovery_pages layout capsule.length (length (now a.bank))) (λ n one. area_page n one) (λ n one. tt),
  )

  pub recoverable_by : IsBankSize (size_of a.bank) → (marks : Marks) (result : Result (Unit {0}) CopyFail)
      → Passes (marks_deeds marks bank (now a.store) (recovery_page (now a.bank) layout.staging_at capsule.length layout) (group_pages (length (now a.bank))) (recovery_pages layout capsule.length (length (now a.bank)))) a b result
      → (accepts : Acceptance) → HasJobBy layout bank (now a.bank) (now a.store) accepts → size_of a.store ≡ 32768 → IsRecoverable bank (now b.bank) (now b.store) accepts
  recoverable_by size marks result passes accepts j store =
      passed_recoverable layout bank accepts (marks_deeds marks bank (now a.store) (recovery_page (now a.bank) layout.staging_at capsule.length layout) (group_pages (length (now a.bank))) (recovery_pages layout capsule.length (length (now a.bank)))) a b
      can.valid (all_pass marks)
      (record {
        job = j.job;
        by_layout = λ fuses is. ap (λ (f : FusesState). layout_of f.provision bank) (fuses_one (now a.store) fuses j.job.fuses is j.job.provisioned) ∙ j.by_layout;
        blocks = subst (λ (n : ℕ). n % 65536 ≡ 0) (sym (length-now a.bank)) size.blocks;
        store = length-now a.store ∙ store;
      }) result passes
