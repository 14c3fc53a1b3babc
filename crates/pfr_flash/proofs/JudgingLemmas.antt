-- What it tells that a judgement went on past a test, and when it goes on.
use Rattle.std.proofs.Common.{◌≡◌, ℕ, ◌≤◌, Bool, true, false, not, ◌||◌, ◌==◌, nat_le, Option, Some, None, Result, Ok, Err, refl}
use Rattle.std.specs.Bool.{Decides}
use Rattle.std.proofs.lemmas.Bool.{le-leb, leb-true}
use Rattle.std.proofs.lemmas.Bool.Decides.{Decides-eqb}
use Rattle.pfr_flash.specs.Judging.{◌>>=◌, ◌>>◌, require, require_none, known, told_as}

-- a judgement that ends well went on past its first test, and the rest ended well
pub passed : {P Y E : Type 0} (cause : E) (test : Bool) (rest : Result Y E) (y : Y) → Decides test P → (require cause test >> rest) ≡ Ok y → P × (rest ≡ Ok y)
passed cause true rest y decides h = (decides.0 refl, h)
passed cause false rest y decides h = cc

pub passed_known : {X Y E : Type 0} (cause : E) (o : Option X) (rest : X → Result Y E) (y : Y) → (known cause o >>= rest) ≡ Ok y → (x : X) × (o ≡ Some x) × (rest x ≡ Ok y)
passed_known cause (Some x) rest y h = (x, refl, h)
passed_known cause None rest y h = cc

pub passed_part : {X Y E : Type 0} (r : Result X E) (rest : X → Result Y E) (y : Y) → (r >>= rest) ≡ Ok y → (x : X) × (r ≡ Ok x) × (rest x ≡ Ok y)
passed_part (Ok x) rest y h = (x, refl, h)
passed_part (Err e) rest y h = cc

pub passed_unit : {Y E : Type 0} (r : Result (Unit {0}) E) (rest : Result Y E) (y : Y) → (r >> rest) ≡ Ok y → (r ≡ Ok tt) × (rest ≡ Ok y)
passed_unit (Ok tt) rest y h = (refl, h)
passed_unit (Err e) rest y h = cc

pub passed_test : {Y E : Type 0} (cause : E) (test : Bool) (rest : Result Y E) (y : Y) → (require cause test >> rest) ≡ Ok y → (test ≡ true) × (rest ≡ Ok y)
passed_test cause true rest y h = (refl, h)
passed_test cause false rest y h = cc

pub passed_none : {Y E : Type 0} (cause : ℕ → E) (found : Option ℕ) (rest : Result Y E) (y : Y) → (require_none cause found >> rest) ≡ Ok y → (found ≡ None) × (rest ≡ Ok y)
passed_none cause None rest y h = (refl, h)
passed_none cause (Some n) rest y h = cc

-- the last test of a part
pub passed_last : {E : Type 0} (cause : E) (test : Bool) → require cause test ≡ Ok tt → test ≡ true
passed_last cause true h = refl
passed_last cause false h = cc

pub passed_last_none : {E : Type 0} (cause : ℕ → E) (found : Option ℕ) → require_none cause found ≡ Ok tt → found ≡ None
passed_last_none cause None h = refl
passed_last_none cause (Some n) h = cc

-- a judgement that is told as another's ends well where it does itself
pub told_ok : {A E F : Type 0} (tell : E → F) (r : Result A E) (x : A) → told_as tell r ≡ Ok x → r ≡ Ok x
told_ok tell (Ok y) x h = let e : y ≡ x = cc in rw e refl
told_ok tell (Err e) x h = cc

-- a test whose fact holds is passed
pub goes_on : {P Y E : Type 0} (cause : E) (test : Bool) (rest : Result Y E) → Decides test P → P → (require cause test >> rest) ≡ rest
goes_on cause true rest decides p = refl
goes_on cause false rest decides p = let e : false ≡ true = decides.1 p in cc

-- what the tests decide
pub Decides-le : (a b : ℕ) → Decides (nat_le a b) (a ≤ b)
Decides-le a b = (leb-true a b, le-leb a b)

pub Decides-true : (b : Bool) → Decides b (b ≡ true)
Decides-true b = (λ h. h, λ h. h)

-- a number is this one where a test says so
pub Decides-only : (b : Bool) (n m : ℕ) → Decides (not b || n == m) (b ≡ true → n ≡ m)
Decides-only true n m = (λ h _. (Decides-eqb n m).0 h, λ h. (Decides-eqb n m).1 (h refl))
Decides-only false n m = (λ _ h. cc, λ _. refl)
