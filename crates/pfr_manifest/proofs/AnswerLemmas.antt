-- Answers of calls over a flash, and what they read of it.
use Rattle.std.proofs.Common.{◌≡◌, ℕ, min, List, take, drop, length-take, arith, inl, inr, Option, Some, None, Result, Ok, Err, MatchOption, sym}
use Rattle.std.proofs.lemmas.List.{take-take, take_all}
use Rattle.std.proofs.lemmas.Bool.{cases_lt}
use Rattle.pfr_flash.specs.Answer.{Answers}
use Rattle.pfr_flash.specs.Bytes.{bytes_at}

told_of : {F P : Type 0} (failed : Option F) → P → MatchOption failed P (λ fail. Unit {0})
told_of None p = p
told_of (Some fail) p = tt

-- an answer that is the judgement itself
pub answers_found : {Y E F : Type 0} (failure : E → Option F) (r judged : Result Y E) → r ≡ judged → Answers failure r judged
answers_found failure (Ok x) judged e = sym e
answers_found failure (Err cause) judged e = told_of (failure cause) (sym e)

-- the first n bytes of so many
pub take-bytes_at : (image : List ℕ) (place left n : ℕ) → take n (bytes_at image place left) ≡ bytes_at image place (min left n)
take-bytes_at image place left n = elim (cases_lt left n) [
  | inl h ↦ let e : min left n ≡ left = omega arith in rw e (take_all n (bytes_at image place left) (omega (arith, length-take left (drop place image))))
  | inr h ↦ let e : min left n ≡ n = omega arith in rw e (take-take n left (drop place image) h)
]
