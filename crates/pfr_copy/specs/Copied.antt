-- What a pass leaves of the bank, and of the marks.
use Rattle.std.specs.Prelude.{◌≡◌, ℕ, ◌+◌, ◌*◌, ◌/◌, ◌<◌, ◌||◌, ◌⊎◌, Bool, false, List, [], ◌∷◌, ◌++◌, Result, OnOk}
use Rattle.pfr_flash.specs.FlashState.{FlashState, now}
use Rattle.pfr_flash.specs.Operation.{Operation}
use Rattle.pfr_flash.specs.Plan.{DoesPart}
use Rattle.pfr_flash.specs.Range.{place_of, len_of}
use Rattle.pfr_flash.specs.declared.names.Bank.{Bank}
use Rattle.pfr_jobs.specs.LogState.{is_marked}
use Rattle.pfr_strokes.specs.Passes.{Pair}
use Rattle.pfr_strokes.specs.Replaced.{has_pages, pages_of_group}
use Rattle.pfr_strokes.specs.declared.side.CopyFail.{CopyFail}
use Rattle.pfr_rebuilt.specs.Passing.{left_pages}
use Rattle.pfr_copy.specs.declared.marks.Marks.{Marks}
use Rattle.pfr_copy.specs.declared.marks.Marks.TheVariants.{Heed, Ignore, Without}

-- those of a job's pages that a pass writes
abbrev pub written_pages : Marks → Bank → List ℕ → ℕ → List ℕ → List ℕ
written_pages Heed bank nv group pages = left_pages (is_marked nv bank) group pages
written_pages Ignore bank nv group pages = pages
written_pages Without bank nv group pages = pages

-- a plan's operations were added: all at Ok, and at Err a front of them, the last perhaps torn
pub record AddsPlan {T : Type 0} (plan : List Operation) (old new : FlashState) (result : Result T CopyFail) : Type 0 where
  pub all : OnOk result (new.ops ≡ old.ops ++ plan)
  pub part : DoesPart plan old new

-- exactly the groups are marked that were, or that have a page which passes the test
abbrev pub MarksGroups : Bank → (ℕ → Bool) → ℕ → ℕ → List ℕ → List ℕ → Type 0
MarksGroups bank test group all nv later = (g : ℕ) → g < 128 → is_marked later bank g ≡ (is_marked nv bank g || has_pages (pages_of_group test group all g))

-- where marks aren't heeded the store is as it was
abbrev pub SetsMarks : Marks → Bank → (ℕ → Bool) → ℕ → ℕ → List ℕ → List ℕ → Type 0
SetsMarks Heed bank test group all nv later = MarksGroups bank test group all nv later
SetsMarks Ignore bank test group all nv later = later ≡ nv
SetsMarks Without bank test group all nv later = later ≡ nv

-- ---- a pass can be resumed
-- one of the operations touches a byte of the page
abbrev pub Touches : List Operation → ℕ → Type 0
Touches [] page = ⊥
Touches (op ∷ ops) page = ((place_of op < 4096 * page + 4096) × (4096 * page < place_of op + len_of op)) ⊎ Touches ops page

-- no page is touched whose group was marked at first
abbrev pub SparesMarked : Bank → ℕ → Pair → Pair → Type 0
SparesMarked bank group old new = (ops : List Operation) → new.bank.ops ≡ old.bank.ops ++ ops → (page : ℕ) → Touches ops page → is_marked (now old.store) bank (page / group) ≡ false

-- the pages that were touched and whose group isn't marked now lie in one group
abbrev pub OpensOne : Bank → ℕ → Pair → Pair → Type 0
OpensOne bank group old new = (ops : List Operation) → new.bank.ops ≡ old.bank.ops ++ ops → (page other : ℕ) → Touches ops page → Touches ops other
    → is_marked (now new.store) bank (page / group) ≡ false → is_marked (now new.store) bank (other / group) ≡ false → page / group ≡ other / group

pub record CanResume (bank : Bank) (group : ℕ) (old new : Pair) : Type 0 where
  pub spares : SparesMarked bank group old new
  pub one : OpensOne bank group old new

-- a pass that heeds marks can be resumed wherever it ended
abbrev pub Resumes : Marks → Bank → ℕ → Pair → Pair → Type 0
Resumes Heed bank group old new = CanResume bank group old new
Resumes Ignore bank group old new = Unit {0}
Resumes Without bank group old new = Unit {0}
