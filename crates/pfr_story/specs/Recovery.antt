-- Moves and steps that leave a bank one that can be recovered.
use Rattle.std.specs.Prelude.{ℕ, List, [], ◌∷◌, ◌++◌}
use Rattle.pfr_flash.specs.declared.names.Bank.{Bank}
use Rattle.pfr_flash.specs.declared.names.Counts.{Counts}
use Rattle.pfr_engine.specs.Acceptance.{Acceptance}
use Rattle.pfr_recoverable.specs.Recoverable.{IsRecoverable}
use Rattle.pfr_report.specs.declared.note.Note.{Note}
use Rattle.pfr_report.specs.declared.note.What.{What}
use Rattle.pfr_report.specs.declared.note.What.TheVariants.{Held, Released, Locked, Lost}
use Rattle.pfr_story.specs.Story.{Story, Says, Does, Asks, operated}
use Rattle.pfr_story.specs.World.{World, counts_in, added}
use Rattle.pfr_story.specs.Safety.{Rule}
use Rattle.pfr_story.specs.Plans.{mine, store}
use Rattle.pfr_story.specs.Promises.{AtCounts, NotBefore}

-- what is true of the bytes of a bank and of the store is true of a story
abbrev pub HoldsIn : (List ℕ → List ℕ → Type 0) → Bank → Story → Type 0
HoldsIn R bank story = R (mine bank story) (store story)

-- an operation leaves it true, where it was
abbrev pub LeavesTrue : (List ℕ → List ℕ → Type 0) → Bank → Rule
LeavesTrue R bank (Says what) story = Unit {0}
LeavesTrue R bank (Does which op) story = HoldsIn R bank story → HoldsIn R bank (operated which op story)
LeavesTrue R bank (Asks which) story = Unit {0}

abbrev pub KeepsRecoverable : Acceptance → Bank → Rule
KeepsRecoverable accepts bank = LeavesTrue (λ image nv. IsRecoverable bank image nv accepts) bank

-- the counts of a note that carries them, before those of others
abbrev pub moments_with : What → List Counts → List Counts
moments_with (Held b counts) others = counts ∷ others
moments_with (Released b svn counts) others = counts ∷ others
moments_with (Locked b why counts) others = counts ∷ others
moments_with (Lost device counts) others = counts ∷ others
moments_with what others = others

abbrev pub moments_of : List Note → List Counts
moments_of [] = []
moments_of (note ∷ notes) = moments_with note.what (moments_of notes)

-- the counts rise from each moment to the next
abbrev pub Rise : Counts → List Counts → Type 0
Rise from [] = Unit {0}
Rise from (to ∷ others) = NotBefore from to × Rise to others

-- The counts of a step's notes are those of its moments.
abbrev pub CountsRise : World → World → Type 0
CountsRise old new = Rise (counts_in old) (moments_of (added old new) ++ counts_in new ∷ [])

-- from each moment to the next, what is true stays true
abbrev pub StaysAlong : (Counts → Type 0) → Counts → List Counts → Type 0
StaysAlong P from [] = Unit {0}
StaysAlong P from (to ∷ others) = (P from → P to) × StaysAlong P to others

-- What R says of a bank's bytes and the store's stays true from the step's begin to each of its notes with counts, and to its end.
abbrev pub StaysRecoverable : (Bank → List ℕ → List ℕ → Type 0) → World → World → Type 0
StaysRecoverable R old new = (which : Bank) → StaysAlong (λ at. AtCounts (R which) which at new) (counts_in old) (moments_of (added old new) ++ counts_in new ∷ [])
