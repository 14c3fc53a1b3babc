-- Answers of calls, and of the parts that they are made of.
use Rattle.std.proofs.Common.{◌≡◌, ap, Option, Some, None, Result, Ok, Err, IfOk, MatchOption}
use Rattle.pfr_flash.specs.Answer.{Answers}
use Rattle.pfr_flash.specs.Judging.{told_as}

by_failure : {P Q F : Type 0} (failure : Option F) → (P → Q) → MatchOption failure P (λ _. Unit {0}) → MatchOption failure Q (λ _. Unit {0})
by_failure (Some fail) goes h = tt
by_failure None goes h = goes h

-- a refusal of a part is one of the whole
pub refused : {X Y E F : Type 0} (failure : E → Option F) (cause : E) (part : Result X E) (whole : Result Y E) → (part ≡ Err cause → whole ≡ Err cause)
    → Answers failure (Err cause) part → Answers failure (Err cause) whole
refused failure cause part whole goes h = by_failure (failure cause) goes h

same_failure : {P Q F : Type 0} (there here : Option F) → here ≡ there → (P → Q) → MatchOption there P (λ _. Unit {0}) → MatchOption here Q (λ _. Unit {0})
same_failure there here same goes h = rw same (by_failure there goes h)

-- so is a refusal by another judgement whose causes are told as causes of this one
pub told_refused : {X E G F : Type 0} (there : E → Option F) (here : G → Option F) (tell : E → G) (cause : E) (judged : Result X E) → here (tell cause) ≡ there cause
    → Answers there (Err cause) judged → Answers here (Err (tell cause)) (told_as tell judged)
told_refused {X} {E} {G} there here tell cause judged same h =
    same_failure (there cause) (here (tell cause)) same (λ (e : judged ≡ Err cause). ap (λ (r : Result X E). told_as tell r) e) h

-- what holds of all that the judgement finds holds of what is answered
pub answered : {X E F : Type 0} (failure : E → Option F) (result judged : Result X E) (P : X → Type 0) → Answers failure result judged → ((x : X) → judged ≡ Ok x → P x) → IfOk result P
answered failure (Ok x) judged P h holds = holds x h
answered failure (Err cause) judged P h holds = tt
