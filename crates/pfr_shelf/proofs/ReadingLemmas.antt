-- What was read of a file, up to a limit.
use Rattle.std.proofs.Common.{◌≡◌, ◌∙◌, ◌<◌, ◌≤◌, ℕ, List, [], ◌++◌, Option, Some, None, ap, subst, arith, min, take, length}
use Rattle.std.specs.Option.{option_map}
use Rattle.std.specs.Prelude.{IfSome}
use Rattle.std.proofs.lemmas.List.{length-take, take_all}

-- where less was read than was asked for, all was read
whole_known : (left : Option (List ℕ)) (asked : ℕ) (new : List ℕ) → IfSome (option_map (take asked) left) (λ xs. new ≡ [] ++ xs) → length new < asked → IfSome left (λ xs. new ≡ xs)
whole_known None asked new read short = tt
whole_known (Some xs) asked new read short =
    let size : length new ≡ min asked (length xs) = ap length read ∙ length-take asked xs in
    let all : length xs ≤ asked = omega (arith, size, short) in
    read ∙ take_all asked xs all

pub whole_read : (left seen : Option (List ℕ)) (asked told : ℕ) (old new : List ℕ) → seen ≡ left → told ≡ asked → old ≡ [] → IfSome (option_map (take told) seen) (λ xs. new ≡ old ++ xs) → length new < asked → IfSome left (λ xs. new ≡ xs)
whole_read left seen asked told old new same_left same_asked empty read short =
    let Told : ℕ → Type 0 = λ n. IfSome (option_map (take n) seen) (λ xs. new ≡ old ++ xs) in
    let Seen : Option (List ℕ) → Type 0 = λ s. IfSome (option_map (take asked) s) (λ xs. new ≡ old ++ xs) in
    let Old : List ℕ → Type 0 = λ o. IfSome (option_map (take asked) left) (λ xs. new ≡ o ++ xs) in
    whole_known left asked new (subst Old empty (subst Seen same_left (subst Told same_asked read))) short
