-- Judgements in order: the first cause is the answer.
use Rattle.std.specs.Prelude.{Bool, true, false, Option, Some, None, Result, Ok, Err}

infixl 10 ◌>>=◌
abbrev pub ◌>>=◌ : {A B E : Type 0} → Result A E → (A → Result B E) → Result B E
(Ok x) >>= f = f x
(Err cause) >>= f = Err cause

infixl 10 ◌>>◌
abbrev pub ◌>>◌ : {B E : Type 0} → Result (Unit {0}) E → Result B E → Result B E
(Ok x) >> rest = rest
(Err cause) >> rest = Err cause

-- the cause, unless the test is true
abbrev pub require : {E : Type 0} → E → Bool → Result (Unit {0}) E
require cause true = Ok tt
require cause false = Err cause

-- the value, or the cause where there is none
abbrev pub known : {A E : Type 0} → E → Option A → Result A E
known cause (Some x) = Ok x
known cause None = Err cause
