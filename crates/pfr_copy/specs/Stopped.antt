-- Which groups are marked where a pass was stopped.
use Rattle.std.specs.Prelude.{◌≡◌, ℕ, ◌<◌, ◌&&◌, ◌||◌, nat_lt, Bool, List}
use Rattle.pfr_flash.specs.declared.names.Bank.{Bank}
use Rattle.pfr_jobs.specs.LogState.{is_marked}
use Rattle.pfr_strokes.specs.Replaced.{has_pages, pages_of_group}
use Rattle.pfr_copy.specs.declared.marks.Marks.{Marks}
use Rattle.pfr_copy.specs.declared.marks.Marks.TheVariants.{Heed, Ignore, Without}

-- Exactly the groups are marked that were, or that come before the next and have a page which passes the test: groups are finished in
-- rising order.
pub record MarksBelow (bank : Bank) (test : ℕ → Bool) (group all : ℕ) (nv later : List ℕ) : Type 0 where
  pub next : ℕ
  pub marks : (g : ℕ) → g < 128 → is_marked later bank g ≡ (is_marked nv bank g || (nat_lt g next && has_pages (pages_of_group test group all g)))

-- where marks aren't heeded the store is as it was
abbrev pub SetsSomeMarks : Marks → Bank → (ℕ → Bool) → ℕ → ℕ → List ℕ → List ℕ → Type 0
SetsSomeMarks Heed bank test group all nv later = MarksBelow bank test group all nv later
SetsSomeMarks Ignore bank test group all nv later = later ≡ nv
SetsSomeMarks Without bank test group all nv later = later ≡ nv
