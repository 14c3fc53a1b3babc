-- What a call answers that judges what a device holds.
use Rattle.std.specs.Prelude.{◌≡◌, Option, None, Result, Ok, Err, MatchOption}

-- The answer is the judgement's, unless it tells a failure of another kind, such as one of the device: then that is told by
-- another clause. `failure` says which of the causes are such failures.
abbrev pub Answers : {A E F : Type 0} → (E → Option F) → Result A E → Result A E → Type 0
Answers failure (Ok x) judged = judged ≡ Ok x
Answers failure (Err cause) judged = MatchOption (failure cause) (judged ≡ Err cause) (λ fail. Unit {0})

-- a cause that is found in the bytes, and is no such failure
abbrev pub IsFound : {E F : Type 0} → (E → Option F) → E → Type 0
IsFound failure cause = failure cause ≡ None
