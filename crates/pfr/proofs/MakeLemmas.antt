-- What a command that makes files answers where a store stopped.
use Rattle.std.proofs.Common.{◌≡◌, subst, inr, ℕ, List, Bool, true, Option, Ok, Err, arith}
use Rattle.pfr_shelf.specs.Failures.{Failure}
use Rattle.pfr_shelf.specs.Files.{Files}
use Rattle.pfr.specs.Judging.{FileRow}
use Rattle.pfr.specs.Makes.{MakesFor, StopsAt, shelf_alone}
use Rattle.pfr.specs.Storing.{IsBlamedStore}
use Rattle.pfr.specs.MakesInside.{Prepares, Stores, names_of}
use Rattle.pfr.specs.Making.{StoredFile}
use Rattle.pfr.specs.declared.status.Role.{Role}
use Rattle.pfr.specs.declared.status.Status.{Status}
use Rattle.pfr.specs.declared.status.Status.TheVariants.{Done, Usage, BadInput, TooLong, ReadFault, WriteFault, StoreFault, NoMemory}

-- a store stopped
stopped : (file : Role) (made stores : List StoredFile) (mid old new : Files) → made ≡ stores → mid ≡ old → StopsAt file made mid new → StopsAt file stores old new
stopped file made stores mid old new a b s = subst (λ (all : List StoredFile). StopsAt file all old new) a (subst (λ (f : Files). StopsAt file made f new) b s)

pub makes_stopped : {S T U : Type 0} (tells : Bool) (files : S → Files) (faults : S → ℕ) (failed : S → Option Failure) (old mid new : S) (rows : Files → List FileRow) (names : List (Role × List ℕ)) (stores : Files → List StoredFile) (made : List StoredFile) (x : T) (status : Status)
    → Prepares tells files faults failed old mid rows (Ok x) → (tells ≡ true → made ≡ stores (files old)) → names_of made ≡ names → Stores {T = U} tells files faults failed mid new made (Err status)
    → MakesFor tells (shelf_alone files faults failed old) (shelf_alone files faults failed new) rows names stores status
makes_stopped tells files faults failed old mid new rows names stores made x (StoreFault file) p is named s = (
  let rose = s.err.0 in let later = p.later in omega arith,
  subst (λ (all : List (Role × List ℕ)). IsBlamedStore file all (failed new)) named s.err.1,
  λ told. (p.ok told, stopped file made (stores (files old)) (files mid) (files old) (files new) (is told) (p.stays told) (s.err.2 told)),
)
makes_stopped tells files faults failed old mid new rows names stores made x NoMemory p is named s =
    λ told. inr (p.ok told, ((s.err told).0, stopped (s.err told).0 made (stores (files old)) (files mid) (files old) (files new) (is told) (p.stays told) (s.err told).1))
makes_stopped tells files faults failed old mid new rows names stores made x Done p is named s = absurd s.err
makes_stopped tells files faults failed old mid new rows names stores made x Usage p is named s = absurd s.err
makes_stopped tells files faults failed old mid new rows names stores made x (BadInput file place why) p is named s = absurd s.err
makes_stopped tells files faults failed old mid new rows names stores made x (TooLong file) p is named s = absurd s.err
makes_stopped tells files faults failed old mid new rows names stores made x (ReadFault file) p is named s = absurd s.err
makes_stopped tells files faults failed old mid new rows names stores made x WriteFault p is named s = absurd s.err
