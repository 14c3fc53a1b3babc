-- Tests of what passes another test.
use Rattle.std.proofs.Common.{◌≡◌, refl, ap, Bool, true, false, ◌&&◌, ◌||◌, if◌then◌else◌, List, [], ◌∷◌, filter}
use Rattle.std.specs.List.{list_any}

pub any_of_both : {X : Type 0} (p test : X → Bool) (xs : List X) → list_any (λ (x : X). p x && test x) xs ≡ list_any test (filter p xs)
any_of_both {X} p test [] = refl
any_of_both {X} p test (x ∷ xs) = by_test (p x) (any_of_both p test xs)
  where
    by_test : (b : Bool) → list_any (λ (y : X). p y && test y) xs ≡ list_any test (filter p xs)
        → ((b && test x) || list_any (λ (y : X). p y && test y) xs) ≡ list_any test (if b then x ∷ filter p xs else filter p xs)
    by_test true rest = ap (λ (b : Bool). test x || b) rest
    by_test false rest = rest
