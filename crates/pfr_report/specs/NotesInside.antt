-- How the fields of the notes stand for them.
use Rattle.std.specs.Prelude.{◌+◌, ◌≤◌, vec_len, vec_capacity}
use Rattle.pfr_report.specs.declared.notes.Notes.TheInside.{Inside}

pub record IsNotes (n : Inside) : Type 0 where
  pub room : vec_len n.items + n.spare ≤ vec_capacity n.items
  pub numbers : vec_len n.items + n.spare ≤ 4294967295
