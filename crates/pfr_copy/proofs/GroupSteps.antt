-- How the pages of one group are written, and its mark is set.
use Rattle.std.proofs.Common.{◌≡◌, ◌∙◌, ℕ, ◌+◌, ◌-◌, ◌*◌, ◌<◌, Bool, true, false, min, refl, sym, ap, subst, List, [], ◌∷◌, Result, Ok, Err}
use Rattle.pfr_flash.specs.FlashState.{FlashState}
use Rattle.pfr_flash.specs.Operation.{Operation}
use Rattle.pfr_flash.specs.Plan.{Follows}
use Rattle.pfr_flash.specs.declared.flash.FlashFail.{FlashFail}
use Rattle.pfr_strokes.specs.Deeds.{Deed, marked_by, pass}
use Rattle.pfr_strokes.specs.Passes.{Pair, DidAll, Passes}
use Rattle.pfr_strokes.specs.Replaced.{group_at, group_count, has_pages, pages_between, pages_of_group}
use Rattle.pfr_strokes.specs.Strokes.{strokes_of}
use Rattle.pfr_strokes.specs.declared.side.CopyFail.TheVariants as fails
use Rattle.pfr_strokes.proofs.GroupLaws.{in_group, of_between}
use Rattle.pfr_strokes.proofs.PassLaws.{AllOf}
use Rattle.pfr_strokes.proofs.StretchLaws.{group_failed, group_marked, group_passed, group_unmarked, stretch_did, stretch_stopped}

-- the pages between these are those of the group
pub same_group : (test : ℕ → Bool) (count group pages all number from to : ℕ) → count ≡ group → pages ≡ all → from ≡ min (number * count) pages → to ≡ min (from + count) pages
    → pages_between test from (to - from) ≡ pages_of_group test group all number
same_group test count group pages all number from to same_count same_all begins ends =
    let first : from ≡ group_at group all number = begins ∙ ap (λ (n : ℕ). min (number * n) pages) same_count ∙ ap (λ (n : ℕ). min (number * group) n) same_all in
    let many : to - from ≡ group_count group all number =
    ap (λ (n : ℕ). n - from) ends ∙ ap (λ (n : ℕ). min (from + n) pages - from) same_count ∙ ap (λ (n : ℕ). min (from + group) n - from) same_all
    ∙ ap (λ (n : ℕ). min (n + group) all - n) first in
    ap (λ (n : ℕ). pages_between test n (to - from)) first ∙ ap (λ (n : ℕ). pages_between test (group_at group all number) n) many

some_page : (pages : List ℕ) → has_pages pages ≡ true → (page : ℕ) × (others : List ℕ) × (pages ≡ page ∷ others)
some_page [] e = absurd cc
some_page (page ∷ others) e = (page, others, refl)

no_page : (pages : List ℕ) → has_pages pages ≡ false → pages ≡ []
no_page [] e = refl
no_page (page ∷ others) e = absurd cc

module _ (content : ℕ → List ℕ) (test : ℕ → Bool) (plan : ℕ → List Operation) (group all number : ℕ) (some : 0 < group) (found : List ℕ) (is : found ≡ pages_of_group test group all number) (a : Pair) (later : FlashState) where
  all_of : (mark : ℕ → List Deed) → AllOf content group mark number (pages_of_group test group all number)
  all_of mark = of_between content group mark test number (group_at group all number) (group_count group all number) (λ j h. in_group group all number some j h)

  there : {A : Type 0} (result : Result A FlashFail) → Follows (strokes_of content found) a.bank later result → Follows (strokes_of content (pages_of_group test group all number)) a.bank later result
  there result h = subst (λ (pages : List ℕ). Follows (strokes_of content pages) a.bank later result) is h

  -- a page failed
  pub group_stops : {A : Type 0} (fail : FlashFail) → Follows {A = A} (strokes_of content found) a.bank later (Err fail)
      → Passes {T = Unit {0}} (pass content group (marked_by plan) (pages_of_group test group all number)) a (record { bank = later; store = a.store }) (Err (fails.Bank fail))
  group_stops {A} fail h =
      group_failed content group number (pages_of_group test group all number) all_of plan (Unit {0}) a (record { bank = later; store = a.store }) fail
      (stretch_stopped content group (pages_of_group test group all number) a (record { bank = later; store = a.store }) refl fail (there {A = A} (Err fail) h))

  module _ (A : Type 0) (x : A) (follows : Follows {A = A} (strokes_of content found) a.bank later (Ok x)) where
    did : DidAll (pass content group (λ (n : ℕ). []) (pages_of_group test group all number)) a (record { bank = later; store = a.store })
    did = stretch_did content group (pages_of_group test group all number) a (record { bank = later; store = a.store }) refl x (there {A = A} (Ok x) follows)

    -- there was none
    pub group_ends : false ≡ has_pages found → DidAll (pass content group (marked_by plan) (pages_of_group test group all number)) a (record { bank = later; store = a.store })
    group_ends none =
        group_passed content group number (pages_of_group test group all number) all_of plan a (record { bank = later; store = a.store })
        (sym is ∙ no_page found (sym none)) did

    -- the group was marked, or that failed
    module _ (has : true ≡ has_pages found) (store : FlashState) where
      first : (page : ℕ) × (others : List ℕ) × (pages_of_group test group all number ≡ page ∷ others)
      first = some_page (pages_of_group test group all number) (ap (λ (pages : List ℕ). has_pages pages) (sym is) ∙ sym has)

      pub group_marks : {B : Type 0} (y : B) → Follows {A = B} (plan number) a.store store (Ok y) → DidAll (pass content group (marked_by plan) (pages_of_group test group all number)) a (record { bank = later; store = store })
      group_marks y h =
          group_marked content group number (pages_of_group test group all number) all_of plan first.0 first.1 first.2 a (record { bank = later; store = a.store }) (record { bank = later; store = store }) did refl y h

      pub group_halts : {B : Type 0} (fail : FlashFail) → Follows {A = B} (plan number) a.store store (Err fail)
          → Passes {T = Unit {0}} (pass content group (marked_by plan) (pages_of_group test group all number)) a (record { bank = later; store = store }) (Err (fails.Store fail))
      group_halts fail h =
          group_unmarked content group number (pages_of_group test group all number) all_of plan first.0 first.1 first.2 a (record { bank = later; store = a.store }) (record { bank = later; store = store }) did refl (Unit {0}) fail h
