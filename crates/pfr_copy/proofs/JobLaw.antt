-- The pages of a job lie apart from what is read of its capsule, so what they are to hold is the same however many of them were written.
use Rattle.std.proofs.Common.{◌≡◌, ◌∙◌, ℕ, ◌+◌, ◌-◌, ◌*◌, ◌/◌, ◌≤◌, ◌<◌, Bool, true, if◌then◌else◌, refl, sym, ap, subst, arith, List, [], ◌∷◌, length, Ok, ◌⊎◌, inl, inr}
use Rattle.std.proofs.lemmas.Bool.Decides.{nat_tests}
use Rattle.pfr_flash.specs.Bytes.{AreBytes, bytes_at}
use Rattle.pfr_flash.specs.FlashState.{FlashState, now}
use Rattle.pfr_flash.specs.Holding.{HoldsBytes}
use Rattle.pfr_flash.specs.Layout.{IsValidLayout}
use Rattle.pfr_flash.specs.Operation.{play}
use Rattle.pfr_flash.specs.Plan.{Follows}
use Rattle.pfr_flash.specs.declared.layout.Layout.{Layout}
use Rattle.pfr_flash.proofs.AreBytesLemmas.{AreBytes-bytes_at}
use Rattle.pfr_flash.proofs.FollowsLemmas.{Follows-now}
use Rattle.pfr_flash.proofs.HoldingLemmas.{now_bytes}
use Rattle.pfr_flash.proofs.PartsLemmas.{same_part}
use Rattle.pfr_flash.proofs.PlayLemmas.{length-play}
use Rattle.pfr_capsule.specs.CapsuleState.{CapsuleState}
use Rattle.pfr_jobs.specs.declared.job.JobKind.{JobKind}
use Rattle.pfr_jobs.specs.declared.job.JobKind.TheVariants.{ActiveFromRecovery, ActiveFromStaging, RecoveryFromStaging}
use Rattle.pfr_strokes.specs.Strokes.{strokes, strokes_of}
use Rattle.pfr_strokes.specs.Replaced.{IsPage, pages_between, replaced}
use Rattle.pfr_strokes.proofs.ReplacedLaws.{AllCan, IsOneOf, pages_are, strokes_replace}
use Rattle.pfr_strokes.proofs.GroupLaws.{between_only}
use Rattle.pfr_rebuilt.specs.ActiveCopying.{active_page, active_pages, is_active_page}
use Rattle.pfr_rebuilt.specs.Copying.{holds_text, recovery_page, text_page}
use Rattle.pfr_rebuilt.proofs.CopiedLaw.{text_fills}
use Rattle.pfr_copy.specs.Applying.{CanApply, CanCopyOver, IsActive, page_plan}
use Rattle.pfr_copy.specs.Working.{CanDo, is_job_page, job_page, job_pages}
use Rattle.pfr_copy.proofs.SourcesLaw.{IsPageApart, SameSources, sources_same, sources_stay, same_test, same_content, can_later, lies_later, strokes_leave, fills}

-- ---- the recovery area
module _ (image : List ℕ) (capsule : CapsuleState) (layout : Layout) (can : CanCopyOver image layout capsule) (bytes : AreBytes image) where
  pub recovery_fills : (n : ℕ) → IsPage (recovery_page image layout.staging_at capsule.length layout n)
  unfolding recovery_page
  recovery_fills n = text_fills (bytes_at image layout.staging_at capsule.length) (AreBytes-bytes_at image layout.staging_at capsule.length bytes) (4096 * n - layout.recovery_at)

  -- its pages lie in it
  pub recovery_inside : (n : ℕ) → holds_text layout.recovery_at capsule.length n ≡ true → (layout.recovery_at ≤ 4096 * n) × (4096 * n + 4096 ≤ layout.recovery_at + layout.area_len)
  recovery_inside n holds =
      let low : layout.recovery_at ≤ 4096 * n = grind (arith, nat_tests) in
      let high : 4096 * n < layout.recovery_at + capsule.length = grind (arith, nat_tests) in
      let fits : capsule.length ≤ layout.area_len = can.lies.within in
      (low, omega (arith, high, fits, can.valid.aligned.recovery_at, can.valid.aligned.area_len))

  -- and apart from the staging area
  recovery_apart : (n : ℕ) → holds_text layout.recovery_at capsule.length n ≡ true → IsPageApart layout.staging_at layout.area_len (recovery_page image layout.staging_at capsule.length layout) n
  recovery_apart n holds =
      let h = recovery_inside n holds in
      record { apart = by_side h.0 h.1 can.valid.apart.recovery_staging; whole = (recovery_fills n).whole }
    where
      by_side : layout.recovery_at ≤ 4096 * n → 4096 * n + 4096 ≤ layout.recovery_at + layout.area_len → ((layout.recovery_at + layout.area_len ≤ layout.staging_at) ⊎ (layout.staging_at + layout.area_len ≤ layout.recovery_at))
          → (layout.staging_at + layout.area_len ≤ 4096 * n) ⊎ (4096 * n + 4096 ≤ layout.staging_at)
      by_side low end (inl before) = inr (omega (arith, end, before))
      by_side low end (inr behind) = inl (omega (arith, low, behind))

  module _ (pages : List ℕ) (each : (n : ℕ) → IsOneOf n pages → holds_text layout.recovery_at capsule.length n ≡ true) where
    staging_stays : bytes_at (play image (strokes_of (recovery_page image layout.staging_at capsule.length layout) pages)) layout.staging_at layout.area_len ≡ bytes_at image layout.staging_at layout.area_len
    staging_stays = strokes_leave image (recovery_page image layout.staging_at capsule.length layout) pages layout.staging_at layout.area_len (λ n one. recovery_apart n (each n one)) can.valid.inside.staging

    staged_sources : SameSources image (play image (strokes_of (recovery_page image layout.staging_at capsule.length layout) pages)) capsule
    staged_sources = sources_same image _ capsule layout.staging_at layout.area_len can.lies (length-play image (strokes_of (recovery_page image layout.staging_at capsule.length layout) pages)) staging_stays

    staged_text : bytes_at (play image (strokes_of (recovery_page image layout.staging_at capsule.length layout) pages)) layout.staging_at capsule.length ≡ bytes_at image layout.staging_at capsule.length
    staged_text =
        let zero_on : layout.staging_at + 0 ≡ layout.staging_at = omega arith in
        subst (λ (n : ℕ). bytes_at (play image (strokes_of (recovery_page image layout.staging_at capsule.length layout) pages)) n capsule.length ≡ bytes_at image n capsule.length) zero_on
        (same_part (play image (strokes_of (recovery_page image layout.staging_at capsule.length layout) pages)) image layout.staging_at layout.staging_at layout.area_len 0 capsule.length staging_stays (omega (arith, can.lies.within)))

-- ---- any job
-- the pages are to hold the same in both images, and the job can be done in the later one still
pub record SameJob (kind : JobKind) (image later : List ℕ) (capsule : CapsuleState) (layout : Layout) : Type 0 where
  pub size : length later ≡ length image
  pub test : (n : ℕ) → is_job_page kind later capsule layout n ≡ is_job_page kind image capsule layout n
  pub content : (n : ℕ) → n < length image / 4096 → job_page kind later capsule layout n ≡ job_page kind image capsule layout n
  pub can : CanDo kind later layout capsule

-- these are pages of the job
abbrev pub AreJobPages : JobKind → List ℕ → CapsuleState → Layout → List ℕ → Type 0
AreJobPages kind image capsule layout pages = (n : ℕ) → IsOneOf n pages → (n < length image / 4096) × (is_job_page kind image capsule layout n ≡ true)

module _ (image : List ℕ) (capsule : CapsuleState) (layout : Layout) (bytes : AreBytes image) where
  active_stays : (kind : JobKind) (can : CanApply image layout capsule) (pages : List ℕ) → ((n : ℕ) → IsOneOf n pages → (n < length image / 4096) × (is_active_page kind image capsule layout n ≡ true))
      → SameSources image (play image (strokes_of (active_page image capsule layout) pages)) capsule
  active_stays kind can pages each = sources_stay kind image capsule layout can bytes pages each

  -- Once the strokes of some of the pages are done, the job is the same.
  pub job_stays : (kind : JobKind) → CanDo kind image layout capsule → (pages : List ℕ) → AreJobPages kind image capsule layout pages
      → SameJob kind image (play image (strokes_of (job_page kind image capsule layout) pages)) capsule layout
  unfolding is_job_page job_page recovery_page
  job_stays (ActiveFromRecovery level) can pages each =
      let s = active_stays (ActiveFromRecovery level) can pages each in
      record {
        size = s.size;
        test = λ n. same_test image _ capsule layout s (ActiveFromRecovery level) n;
        content = λ n below. same_content image _ capsule layout s n (omega (arith, below, can.bits));
        can = can_later image _ capsule layout s can;
      }
  job_stays (ActiveFromStaging dynamic) can pages each =
      let s = active_stays (ActiveFromStaging dynamic) can pages each in
      record {
        size = s.size;
        test = λ n. same_test image _ capsule layout s (ActiveFromStaging dynamic) n;
        content = λ n below. same_content image _ capsule layout s n (omega (arith, below, can.bits));
        can = can_later image _ capsule layout s can;
      }
  job_stays RecoveryFromStaging can pages each =
      let s = staged_sources image capsule layout can bytes pages (λ n one. (each n one).1) in
      record {
        size = s.size;
        test = λ n. refl;
        content = λ n below. ap (λ (text : List ℕ). text_page text (4096 * n - layout.recovery_at)) (staged_text image capsule layout can bytes pages (λ n one. (each n one).1));
        can = record {
          valid = subst (λ (size : ℕ). IsValidLayout layout size) (sym s.size) can.valid;
          lies = lies_later image _ capsule layout s layout.staging_at can.lies;
        };
      }

  -- each is to hold a page's bytes
  pub job_fills : (kind : JobKind) → CanDo kind image layout capsule → (n : ℕ) → n < length image / 4096 → is_job_page kind image capsule layout n ≡ true → IsPage (job_page kind image capsule layout n)
  unfolding is_job_page job_page
  job_fills (ActiveFromRecovery level) can n below h = fills (ActiveFromRecovery level) image capsule layout can bytes n below h
  job_fills (ActiveFromStaging dynamic) can n below h = fills (ActiveFromStaging dynamic) image capsule layout can bytes n below h
  job_fills RecoveryFromStaging can n below h = recovery_fills image capsule layout can bytes n

  pub all_can : (kind : JobKind) → CanDo kind image layout capsule → (pages : List ℕ) → AreJobPages kind image capsule layout pages → AllCan (length image) (job_page kind image capsule layout) pages
  all_can kind can [] each = tt
  all_can kind can (n ∷ pages) each =
      let e = each n (inl refl) in
      (record { inside = omega (arith, e.0); fills = job_fills kind can n e.0 e.1 }, all_can kind can pages (λ m one. each m (inr one)))

  -- Their strokes leave the image with each of them replaced.
  pub job_is : (kind : JobKind) → CanDo kind image layout capsule → (pages : List ℕ) → AreJobPages kind image capsule layout pages
      → play image (strokes_of (job_page kind image capsule layout) pages) ≡ replaced image (job_page kind image capsule layout) pages
  job_is kind can pages each = strokes_replace image (job_page kind image capsule layout) pages (all_can kind can pages each)

-- ---- the same of a device
-- those among so many pages of the bank
pub between_are : (kind : JobKind) (image : List ℕ) (capsule : CapsuleState) (layout : Layout) (from k : ℕ) → from + k ≤ length image / 4096
    → AreJobPages kind image capsule layout (pages_between (is_job_page kind image capsule layout) from k)
between_are kind image capsule layout from k inside n one =
    let is = between_only (is_job_page kind image capsule layout) from k n one in
    (omega (arith, is.0, inside), is.1)

module _ (kind : JobKind) (capsule : CapsuleState) (layout : Layout) (a : FlashState) (can : CanDo kind (now a) layout capsule) (holds : HoldsBytes a) where
  pub same_at : (pages : List ℕ) (b : FlashState) → AreJobPages kind (now a) capsule layout pages → Follows {A = Unit {0}} (strokes_of (job_page kind (now a) capsule layout) pages) a b (Ok tt)
      → SameJob kind (now a) (now b) capsule layout
  same_at pages b each h =
      subst (λ (image : List ℕ). SameJob kind (now a) image capsule layout) (sym (Follows-now (strokes_of (job_page kind (now a) capsule layout) pages) a b tt h))
      (job_stays (now a) capsule layout (now_bytes a holds) kind can pages each)

pub plan_same : (kind : JobKind) (image later : List ℕ) (capsule : CapsuleState) (layout : Layout) → SameJob kind image later capsule layout → (n : ℕ) → n < length image / 4096
    → page_plan (job_page kind later capsule layout) (is_job_page kind later capsule layout) n ≡ page_plan (job_page kind image capsule layout) (is_job_page kind image capsule layout) n
plan_same kind image later capsule layout s n below =
    ap (λ (b : Bool). if b then strokes n (job_page kind later capsule layout n) else []) (s.test n)
    ∙ ap (λ (xs : List ℕ). if is_job_page kind image capsule layout n then strokes n xs else []) (s.content n below)

-- ---- jobs on the active image
pub active_job : (kind : JobKind) → IsActive kind → (image : List ℕ) (capsule : CapsuleState) (layout : Layout) → (CanApply image layout capsule → CanDo kind image layout capsule) × (job_page kind image capsule layout ≡ active_page image capsule layout)
    × (job_pages kind image capsule layout ≡ active_pages kind image capsule layout)
unfolding is_job_page job_page active_pages
active_job (ActiveFromRecovery level) active image capsule layout = (λ can. can, refl, refl)
active_job (ActiveFromStaging dynamic) active image capsule layout = (λ can. can, refl, refl)
active_job RecoveryFromStaging active image capsule layout = absurd active

pub active_can : (kind : JobKind) → IsActive kind → (image : List ℕ) (capsule : CapsuleState) (layout : Layout) → CanApply image layout capsule → CanDo kind image layout capsule
active_can kind active image capsule layout can = (active_job kind active image capsule layout).0 can

pub job_pages_are : (kind : JobKind) (image : List ℕ) (capsule : CapsuleState) (layout : Layout) → AreJobPages kind image capsule layout (job_pages kind image capsule layout)
job_pages_are kind image capsule layout n one = (pages_are (is_job_page kind image capsule layout) (length image / 4096)).only n one
