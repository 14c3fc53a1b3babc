-- Judgements go through their tests in order, and the first cause is the answer.
use Rattle.std.specs.Prelude.{ℕ, Bool, true, false, Option, Some, None, Result, Ok, Err}

infixl 10 ◌>>=◌
abbrev pub ◌>>=◌ : {A B E : Type 0} → Result A E → (A → Result B E) → Result B E
(Ok x) >>= f = f x
(Err cause) >>= f = Err cause

infixl 10 ◌>>◌
abbrev pub ◌>>◌ : {B E : Type 0} → Result (Unit {0}) E → Result B E → Result B E
(Ok x) >> rest = rest
(Err cause) >> rest = Err cause

-- go on where the test holds
abbrev pub require : {E : Type 0} → E → Bool → Result (Unit {0}) E
require cause true = Ok tt
require cause false = Err cause

-- go on with the value that is there
abbrev pub known : {A E : Type 0} → E → Option A → Result A E
known cause (Some x) = Ok x
known cause None = Err cause

-- go on where no number, such as a page's, is found to be wrong
abbrev pub require_none : {E : Type 0} → (ℕ → E) → Option ℕ → Result (Unit {0}) E
require_none cause None = Ok tt
require_none cause (Some number) = Err (cause number)

-- what another judgement found, whose causes are told as causes of this one
abbrev pub told_as : {A E F : Type 0} → (E → F) → Result A E → Result A F
told_as cause (Ok x) = Ok x
told_as cause (Err other) = Err (cause other)
