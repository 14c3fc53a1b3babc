-- How many operations a power-on that recovers a bank does on it.
use Rattle.std.proofs.Common.{◌≡◌, refl, arith, ℕ, suc, ◌+◌, ◌*◌, ◌/◌, ◌≤◌, ◌<◌, ◌&&◌, ◌||◌, not, nat_le, nat_lt, Bool, true, false, if◌then◌else◌, List, [], ◌∷◌, length, get_or, All, filter, ◌⊎◌, inl, inr}
use Rattle.std.specs.List.{list_any}
use Rattle.std.proofs.lemmas.Bool.{false≢true}
use Rattle.std.proofs.lemmas.Bool.Decides.{nat_tests}
use Rattle.pfr_flash.specs.Layout.{IsValidLayout}
use Rattle.pfr_flash.specs.declared.layout.Layout.{Layout}
use Rattle.pfr_manifest.specs.Regions.{IsRegion}
use Rattle.pfr_manifest.specs.declared.region.Region.{Region}
use Rattle.pfr_capsule.specs.CapsuleState.{CapsuleState}
use Rattle.pfr_capsule.specs.Maps.{has_page, in_some_region}
use Rattle.pfr_capsule.specs.Pages.{page_of}
use Rattle.pfr_jobs.specs.declared.job.JobKind.{JobKind}
use Rattle.pfr_strokes.specs.Strokes.{strokes_of}
use Rattle.pfr_strokes.proofs.ReplacedLaws.{strokes_of_few, few_together}
use Rattle.pfr_rebuilt.specs.Copying.{holds_text, recovery_pages, recovery_page}
use Rattle.pfr_rebuilt.specs.ActiveCopying.{is_taken, is_kept, is_active_page, active_pages, active_page}

-- a page of a taken region lies outside of the recovery area
region_outside : (layout : Layout) (size n : ℕ) (p : Region → Bool) (regions : List Region) → ((k : ℕ) (d : Region) → k < length regions → IsRegion layout size (get_or regions k d))
    → list_any (λ (region : Region). has_page region n) (filter p regions) ≡ true → nat_le layout.recovery_at (4096 * n) ≡ true → nat_lt (4096 * n) (layout.recovery_at + layout.area_len) ≡ true → ⊥
region_outside layout size n p [] each some low high = absurd (false≢true some)
region_outside layout size n p (r ∷ others) each some low high =
    by_taken (p r) some (each 0 r (omega arith)) (λ rest. region_outside layout size n p others (λ k d h. each (suc k) d (omega (arith, h))) rest low high)
  where
    in_one : has_page r n ≡ true → IsRegion layout size r → ((r.end ≤ layout.recovery_at) ⊎ (layout.recovery_at + layout.area_len ≤ r.start)) → ⊥
    in_one has region (inl before) = grind (arith, nat_tests)
    in_one has region (inr behind) = grind (arith, nat_tests)

    by_has : (b : Bool) → has_page r n ≡ b → (b || list_any (λ (region : Region). has_page region n) (filter p others)) ≡ true → IsRegion layout size r
        → (list_any (λ (region : Region). has_page region n) (filter p others) ≡ true → ⊥) → ⊥
    by_has true e some region later = in_one e region region.clear_of_recovery
    by_has false e some region later = later some

    by_taken : (b : Bool) → list_any (λ (region : Region). has_page region n) (if b then r ∷ filter p others else filter p others) ≡ true → IsRegion layout size r
        → (list_any (λ (region : Region). has_page region n) (filter p others) ≡ true → ⊥) → ⊥
    by_taken true some region later = by_has (has_page r n) refl some region later
    by_taken false some region later = later some

module _ (kind : JobKind) (image : List ℕ) (capsule : CapsuleState) (layout : Layout) (valid : IsValidLayout layout (length image)) (len : ℕ) (fits : len ≤ layout.area_len)
    (regions : All (IsRegion layout (length image)) capsule.manifest.regions) where
  -- no page is one of the recovery area and of a job on the active image
  pub apart : (n : ℕ) → holds_text layout.recovery_at len n ≡ true → is_active_page kind image capsule layout n ≡ true → ⊥
  unfolding is_active_page
  apart n r a = by_area (holds_text layout.manifest_at layout.manifest_len n) refl a
    where
      low : nat_le layout.recovery_at (4096 * n) ≡ true
      low = grind (arith, nat_tests)

      high : nat_lt (4096 * n) (layout.recovery_at + layout.area_len) ≡ true
      high = grind (arith, nat_tests)

      in_both : holds_text layout.manifest_at layout.manifest_len n ≡ true
          → ((layout.manifest_at + layout.manifest_len ≤ layout.recovery_at) ⊎ (layout.recovery_at + layout.area_len ≤ layout.manifest_at)) → ⊥
      in_both m (inl before) = grind (arith, nat_tests)
      in_both m (inr behind) = grind (arith, nat_tests)

      first : (x y : Bool) → (x && y) ≡ true → x ≡ true
      first true y h = refl
      first false y h = absurd (false≢true h)

      by_area : (b : Bool) → holds_text layout.manifest_at layout.manifest_len n ≡ b
          → (b || (in_some_region (filter (λ (region : Region). is_taken kind region) capsule.manifest.regions) n && not (is_kept (page_of image capsule.pages n)))) ≡ true → ⊥
      by_area true m a = in_both m valid.apart.manifest_recovery
      by_area false m a =
          region_outside layout (length image) n (λ (region : Region). is_taken kind region) capsule.manifest.regions (λ k d h. regions k d h) (first _ (not (is_kept (page_of image capsule.pages n))) a) low high

  -- Two passes over the recovery area and one over the active image are at most 34 operations for each of the bank's pages.
  pub recovering_few : (source later : List ℕ) (place : ℕ)
      → 2 * length (strokes_of (recovery_page source place len layout) (recovery_pages layout len (length image))) + length (strokes_of (active_page image capsule layout) (active_pages kind image capsule layout)) ≤ 34 * (length image / 4096)
  unfolding recovery_pages active_pages
  recovering_few source later place =
      let r = strokes_of_few (recovery_page source place len layout) (recovery_pages layout len (length image)) in
      let a = strokes_of_few (active_page image capsule layout) (active_pages kind image capsule layout) in
      let together = few_together (holds_text layout.recovery_at len) (is_active_page kind image capsule layout) apart (length image / 4096) in
      omega (arith, r, a, together)
