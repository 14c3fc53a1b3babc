pub mod NotesState
pub mod NotesInside
pub mod Words
pub mod Texts
pub mod Verdicts
