-- The notes so far as contracts see them.
use Rattle.std.specs.Prelude.{ℕ, List}
use Rattle.pfr_report.specs.declared.note.Note.{Note}

-- the list, and for how many more memory is reserved
pub record NotesState : Type 0 where
  pub list : List Note
  pub spare : ℕ
