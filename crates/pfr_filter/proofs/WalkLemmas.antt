-- The walk over pages, from one to the next, and over the stretches that let the bus write them.
use Rattle.std.proofs.Common.{◌≡◌, ℕ, zero, suc, ◌+◌, ◌*◌, ◌<◌, ◌≤◌, Bool, true, false, ◌||◌, List, [], ◌∷◌, length, get_or, Option, Some, None, ⊎_elim, refl, sym, ap, ◌∙◌, arith}
use Rattle.std.proofs.lemmas.Bool.{cases_lt, lt-ltb, le-ltb}
use Rattle.std.proofs.lemmas.List.{get_or_default}
use Rattle.pfr_flash.specs.declared.layout.Layout.{Layout}
use Rattle.pfr_manifest.specs.declared.stretch.Stretch.{Stretch}
use Rattle.pfr_manifest.specs.Stretches.{IsTable, is_page_within, lets_write, writable_by}
use Rattle.pfr_manifest.proofs.HalvingLemmas.{first_tells}
use Rattle.pfr_filter.specs.Asking.{numbers_from}
use Rattle.pfr_filter.specs.Frames.{first_without}
use Rattle.pfr_filter.specs.Walking.{IsFirstBehind}

-- a stretch that stands for none
abbrev blank : Stretch
blank = record { start = 0; end = 0; writable = false }

-- ---- from a page to the next
module _ {stretches : List Stretch} {page number : ℕ} (is : IsTable stretches) (first : IsFirstBehind stretches page number) where
  -- where none is left
  pub go_past : length stretches ≤ number → IsFirstBehind stretches (page + 1) number
  go_past none = record {
    within = first.within;
    below = λ k d less. omega (arith, first.below k d less);
    behind = λ k d more less. absurd (omega arith);
  }

  module _ (found : Stretch) (some : number < length stretches) (here : found ≡ get_or stretches number found) where
    at_number : (d : Stretch) → get_or stretches number d ≡ found
    at_number d = get_or_default stretches number d found some ∙ sym here

    later_start : (k : ℕ) (d : Stretch) → number < k → k < length stretches → found.end ≤ (get_or stretches k d).start
    later_start k d more less = omega (arith, ap (λ (s : Stretch). s.end) (at_number d), is.in_order number k d more less)

    pub go_next : found.end ≤ 4096 * (page + 1) → IsFirstBehind stretches (page + 1) (number + 1)
    go_next ends = record {
      within = omega arith;
      below = λ k d less. ⊎_elim (λ earlier. omega (arith, first.below k d earlier))
          (λ same. let e : k ≡ number = omega arith in omega (arith, ends, ap (λ (s : Stretch). s.end) (ap (λ (n : ℕ). get_or stretches n d) e ∙ at_number d))) (cases_lt k number);
      behind = λ k d more less.
          let pages = is.each k d less in
          omega (arith, later_start k d (omega arith) less, ap (λ (s : Stretch). s.end) (at_number d), first.behind number d (omega arith) some, pages.start_aligned, pages.some);
    }

    pub go_same : 4096 * (page + 1) < found.end → IsFirstBehind stretches (page + 1) number
    go_same goes_on = record {
      within = first.within;
      below = λ k d less. omega (arith, first.below k d less);
      behind = λ k d more less. ⊎_elim (λ later. omega (arith, goes_on, later_start k d later less, (is.each k d less).some))
          (λ same. let e : k ≡ number = omega arith in omega (arith, goes_on, ap (λ (s : Stretch). s.end) (ap (λ (n : ℕ). get_or stretches n d) e ∙ at_number d))) (cases_lt number k);
    }

    -- that stretch and the staging area tell whether the bus may write the page
    pub tells : (layout : Layout) (may : Bool) → may ≡ (lets_write page found || is_page_within page layout.staging_at (layout.staging_at + layout.area_len)) → may ≡ writable_by stretches layout page
    tells layout may e =
        let t = first_tells stretches page number found is first.below first.behind in
        rw (t, lt-ltb number (length stretches) some, at_number found) e

  -- where none is left, the staging area alone does
  pub tells_past : length stretches ≤ number → (layout : Layout) (may : Bool) → may ≡ is_page_within page layout.staging_at (layout.staging_at + layout.area_len) → may ≡ writable_by stretches layout page
  tells_past none layout may e =
      let t = first_tells stretches page number blank is first.below first.behind in
      rw (t, le-ltb number (length stretches) none) e

-- ---- the first page that a test doesn't hold of
module _ (test : ℕ → Bool) (whole : Option ℕ) (page left rest : ℕ) (so_far : whole ≡ first_without test (numbers_from page left)) where
  pub goes_on : left ≡ suc rest → test page ≡ true → whole ≡ first_without test (numbers_from (page + 1) rest)
  unfolding first_without numbers_from
  goes_on e holds = so_far ∙ rw (e, holds) refl

  pub stops : left ≡ suc rest → test page ≡ false → Some page ≡ whole
  unfolding first_without numbers_from
  stops e fails = sym (so_far ∙ rw (e, fails) refl)

  pub none_left : left ≡ 0 → None ≡ whole
  unfolding first_without numbers_from
  none_left e = sym (so_far ∙ rw e refl)

-- ---- the pages that a frame would write
pub length-numbers_from : (first count : ℕ) → length (numbers_from first count) ≡ count
unfolding numbers_from
length-numbers_from first zero = refl
length-numbers_from first (suc count) = ap suc (length-numbers_from (first + 1) count)

pub one_number : (first : ℕ) → numbers_from first 1 ≡ first ∷ []
unfolding numbers_from
one_number first = refl
