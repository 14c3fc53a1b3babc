-- Where marks are ignored, or no job is used.
use Rattle.std.proofs.Common.{◌≡◌, ℕ, Bool, List, refl, ◌⊎◌, inl, inr, Result, Ok, Err, OnErr, OnOk}
use Rattle.pfr_flash.specs.declared.names.Bank.{Bank}
use Rattle.pfr_jobs.specs.LogState.{LogState}
use Rattle.pfr_rebuilt.specs.Passing.{ignoring}
use Rattle.pfr_strokes.specs.Passes.{Pair, Passes}
use Rattle.pfr_strokes.specs.declared.side.CopyFail.{CopyFail}
use Rattle.pfr_copy.specs.Copied.{SetsMarks}
use Rattle.pfr_copy.specs.Stopped.{SetsSomeMarks}
use Rattle.pfr_copy.specs.Marking.{LogStays, marks_deeds}
use Rattle.pfr_copy.specs.declared.marks.Marks.{Marks}
use Rattle.pfr_copy.specs.declared.marks.Marks.TheVariants.{Heed, Ignore, Without}

abbrev pub IsUnheeded : Marks → Type 0
IsUnheeded marks = (marks ≡ Ignore) ⊎ (marks ≡ Without)

pub not_heeded : IsUnheeded Heed → ⊥
not_heeded (inl e) = absurd cc
not_heeded (inr e) = absurd cc

pub ignored_passes : (marks : Marks) → IsUnheeded marks → (bank : Bank) (nv : List ℕ) (content : ℕ → List ℕ) (group : ℕ) (pages : List ℕ) (a b : Pair) (result : Result (Unit {0}) CopyFail)
    → Passes (ignoring content group pages) a b result → Passes (marks_deeds marks bank nv content group pages) a b result
ignored_passes Heed is bank nv content group pages a b result h = absurd (not_heeded is)
ignored_passes Ignore is bank nv content group pages a b result h = h
ignored_passes Without is bank nv content group pages a b result h = h

pub ignored_stands : (marks : Marks) → IsUnheeded marks → (bank : Bank) (nv : List ℕ) (log : LogState) (result : Result (Unit {0}) CopyFail) → OnOk result (LogStays marks bank nv log log)
ignored_stands Heed is bank nv log result = absurd (not_heeded is)
ignored_stands Ignore is bank nv log (Ok x) = refl
ignored_stands Ignore is bank nv log (Err e) = tt
ignored_stands Without is bank nv log (Ok x) = refl
ignored_stands Without is bank nv log (Err e) = tt

pub ignored_marks : (marks : Marks) → IsUnheeded marks → (bank : Bank) (test : ℕ → Bool) (group all : ℕ) (nv : List ℕ) (result : Result (Unit {0}) CopyFail) → OnOk result (SetsMarks marks bank test group all nv nv)
ignored_marks Heed is bank test group all nv result = absurd (not_heeded is)
ignored_marks Ignore is bank test group all nv (Ok x) = refl
ignored_marks Ignore is bank test group all nv (Err e) = tt
ignored_marks Without is bank test group all nv (Ok x) = refl
ignored_marks Without is bank test group all nv (Err e) = tt

pub ignored_some : (marks : Marks) → IsUnheeded marks → (bank : Bank) (test : ℕ → Bool) (group all : ℕ) (nv : List ℕ) (result : Result (Unit {0}) CopyFail) → OnErr result (SetsSomeMarks marks bank test group all nv nv)
ignored_some Heed is bank test group all nv result = absurd (not_heeded is)
ignored_some Ignore is bank test group all nv (Ok x) = tt
ignored_some Ignore is bank test group all nv (Err e) = refl
ignored_some Without is bank test group all nv (Ok x) = tt
ignored_some Without is bank test group all nv (Err e) = refl

pub ignored_none : (marks : Marks) → IsUnheeded marks → marks ≡ Heed → ⊥
ignored_none Heed is e = not_heeded is
ignored_none Ignore is e = absurd cc
ignored_none Without is e = absurd cc
