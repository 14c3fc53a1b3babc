-- The least number that passes a test, and the first element of a list that does.
use Rattle.std.proofs.Common.{◌≡◌, ◌↔◌, ◌∙◌, ap, sym, refl, ℕ, zero, suc, ◌+◌, ◌-◌, ◌<◌, ◌≤◌, Bool, true, false, not, ◌&&◌, ◌||◌, cond, List, [], ◌∷◌, length, drop, get_or, All, ◌⊎◌, inl, inr, Option, Some, None, arith, add-one}
use Rattle.std.specs.List.{list_any, position_from}
use Rattle.std.proofs.lemmas.List.{drop_more, drop_all}
use Rattle.std.proofs.lemmas.List.Elements.{All-nil, All-cons, All-head, All-tail}
use Rattle.std.proofs.lemmas.List.Quantifiers.{position-Some}
use Rattle.std.proofs.lemmas.Iterator.Adapters.{position_from-zero}
use Rattle.std.proofs.lemmas.Bool.{cases_lt}
use Rattle.pfr_capsule.specs.Maps.{least_below, or_this}

-- ---- the least number
pub least_more : (test : ℕ → Bool) (n : ℕ) → least_below test n ≡ None → test n ≡ false → least_below test (n + 1) ≡ None
unfolding least_below
least_more test n none fails = rw (add-one, none, fails) refl

here_first : (test : ℕ → Bool) (n : ℕ) → least_below test n ≡ None → test n ≡ true → least_below test (n + 1) ≡ Some n
unfolding least_below
here_first test n none passes = rw (add-one, none, passes) refl

stays_first : (test : ℕ → Bool) (n more k : ℕ) → least_below test n ≡ Some k → least_below test (n + more) ≡ Some k
unfolding least_below
stays_first test n zero k h = let e : n + zero ≡ n = omega arith in rw e h
stays_first test n (suc more) k h =
    let e : n + suc more ≡ suc (n + more) = omega arith in
    rw (e, stays_first test n more k h) refl

pub least_found : (test : ℕ → Bool) (n m : ℕ) → n < m → least_below test n ≡ None → test n ≡ true → least_below test m ≡ Some n
least_found test n m h none passes =
    let e : (n + 1) + (m - (n + 1)) ≡ m = omega arith in
    let is : least_below test ((n + 1) + (m - (n + 1))) ≡ Some n = stays_first test (n + 1) (m - (n + 1)) n (here_first test n none passes) in
    rw e at is

-- ---- what it tells: there is none, or which it is
this_tells : (b : Bool) (n k : ℕ) → cond b (Some n) None ≡ Some k → (b ≡ true) × (n ≡ k)
this_tells true n k h = (refl, cc)
this_tells false n k h = absurd cc

this_none : (b : Bool) (k : ℕ) (rest : Option ℕ) → cond b (Some k) rest ≡ None → (b ≡ false) × (rest ≡ None)
this_none true k rest h = absurd cc
this_none false k rest h = (refl, h)

or_tells : (test : ℕ → Bool) (n k : ℕ) (o : Option ℕ) → or_this test n o ≡ Some k → (o ≡ Some k) ⊎ ((o ≡ None) × (test n ≡ true) × (n ≡ k))
or_tells test n k (Some j) h = inl h
or_tells test n k None h = let p = this_tells (test n) n k h in inr (refl, p.0, p.1)

or_none : (test : ℕ → Bool) (n : ℕ) (o : Option ℕ) → or_this test n o ≡ None → (o ≡ None) × (test n ≡ false)
or_none test n (Some j) h = absurd cc
or_none test n None h = (refl, (this_none (test n) n None h).0)

at_end : (test : ℕ → Bool) (n k : ℕ) → test n ≡ false → (k < n → test k ≡ false) → k < suc n → test k ≡ false
at_end test n k here before inside = elim (cases_lt k n) [
  | inl below ↦ before below
  | inr above ↦ let e : n ≡ k = omega arith in rw e at here
]

pub none_below : (test : ℕ → Bool) (n : ℕ) → least_below test n ≡ None → (k : ℕ) → k < n → test k ≡ false
unfolding least_below
none_below test zero h k inside = absurd (omega arith)
none_below test (suc n) h k inside =
    let p : (least_below test n ≡ None) × (test n ≡ false) = or_none test n (least_below test n) h in
    at_end test n k p.1 (λ below. none_below test n p.0 k below) inside

pub below_none : (test : ℕ → Bool) (n : ℕ) → ((k : ℕ) → k < n → test k ≡ false) → least_below test n ≡ None
unfolding least_below
below_none test zero h = refl
below_none test (suc n) h =
    let rest : least_below test n ≡ None = below_none test n (λ k inside. h k (omega arith)) in
    rw (rest, h n (omega arith)) refl

-- it passes, and none before it does
pub least_passes : (test : ℕ → Bool) (n k : ℕ) → least_below test n ≡ Some k → (k < n) × (test k ≡ true) × ((j : ℕ) → j < k → test j ≡ false)
unfolding least_below
least_passes test zero k h = absurd cc
least_passes test (suc n) k h = elim (or_tells test n k (least_below test n) h) [
  | inl before ↦ let p : (k < n) × (test k ≡ true) × ((j : ℕ) → j < k → test j ≡ false) = least_passes test n k before in (omega (arith, p.0), p.1, p.2)
  | inr here ↦ (omega (arith, here.2), ap test (sym here.2) ∙ here.1, λ j below. none_below test n here.0 j (omega (arith, here.2)))
]

-- a test of two bits, the second of which is to be missing
pub one_alone : (a b : Bool) → a ≡ true → b ≡ false → (a && not b) ≡ true
one_alone a b h k = rw (h, k) refl

pub no_first : (a b : Bool) → a ≡ false → (a && not b) ≡ false
no_first a b h = rw h refl

pub has_second : (a b : Bool) → b ≡ true → (a && not b) ≡ false
has_second true b k = rw k refl
has_second false b k = refl

-- ---- the loop over a list: whether an element passes
any_rest : {X : Type 0} (test : X → Bool) (xs : List X) (k : ℕ) (x : X) → k < length xs → x ≡ get_or xs k x →
    list_any test (drop k xs) ≡ (test x || list_any test (drop (k + 1) xs))
any_rest test xs k x within is =
    let e : drop k xs ≡ get_or xs k x ∷ drop (k + 1) xs = drop_more xs k x within in
    rw (e, ← is) refl

pub any_found : {X : Type 0} (test : X → Bool) (xs : List X) (k : ℕ) (x : X) → k < length xs → x ≡ get_or xs k x → test x ≡ true → list_any test (drop k xs) ≡ true
any_found test xs k x within is passes = any_rest test xs k x within is ∙ ap (λ (b : Bool). b || list_any test (drop (k + 1) xs)) passes

pub any_passed : {X : Type 0} (test : X → Bool) (xs : List X) (k : ℕ) (x : X) → k < length xs → x ≡ get_or xs k x → test x ≡ false → list_any test (drop k xs) ≡ list_any test (drop (k + 1) xs)
any_passed test xs k x within is fails = any_rest test xs k x within is ∙ ap (λ (b : Bool). b || list_any test (drop (k + 1) xs)) fails

pub any_done : {X : Type 0} (test : X → Bool) (xs : List X) (k : ℕ) → length xs ≤ k → list_any test (drop k xs) ≡ false
any_done test xs k h = rw (drop_all k xs h) refl

-- ---- the loop over a list: the first element that passes
first_rest : {X : Type 0} (test : X → Bool) (xs : List X) (k : ℕ) (x : X) → k < length xs → x ≡ get_or xs k x →
    position_from test k (drop k xs) ≡ cond (test x) (Some k) (position_from test (k + 1) (drop (k + 1) xs))
first_rest test xs k x within is =
    let e : drop k xs ≡ get_or xs k x ∷ drop (k + 1) xs = drop_more xs k x within in
    rw (e, ← is) refl

pub first_found : {X : Type 0} (test : X → Bool) (xs : List X) (k : ℕ) (x : X) → k < length xs → x ≡ get_or xs k x → test x ≡ true → position_from test k (drop k xs) ≡ Some k
first_found test xs k x within is passes = first_rest test xs k x within is ∙ ap (λ (b : Bool). cond b (Some k) (position_from test (k + 1) (drop (k + 1) xs))) passes

pub first_passed : {X : Type 0} (test : X → Bool) (xs : List X) (k : ℕ) (x : X) → k < length xs → x ≡ get_or xs k x → test x ≡ false →
    position_from test k (drop k xs) ≡ position_from test (k + 1) (drop (k + 1) xs)
first_passed test xs k x within is fails = first_rest test xs k x within is ∙ ap (λ (b : Bool). cond b (Some k) (position_from test (k + 1) (drop (k + 1) xs))) fails

pub first_done : {X : Type 0} (test : X → Bool) (xs : List X) (k : ℕ) → length xs ≤ k → position_from test k (drop k xs) ≡ None
first_done test xs k h = rw (drop_all k xs h) refl

-- ---- what the first element tells: there is none, or which it is
pub none_first : {X : Type 0} (test : X → Bool) (P : X → Type 0) → ((x : X) → test x ≡ false ↔ P x) → (xs : List X) → position_from test 0 xs ≡ None ↔ All P xs
none_first {X} test P each xs = (λ h. left 0 xs h, λ h. none 0 xs h)
  where
    left : (k : ℕ) (ys : List X) → position_from test k ys ≡ None → All P ys
    left k [] h = All-nil P
    left k (y ∷ ys) h =
        let p = this_none (test y) k (position_from test (k + 1) ys) h in
        All-cons P y ys ((each y).0 p.0) (left (k + 1) ys p.1)

    none : (k : ℕ) (ys : List X) → All P ys → position_from test k ys ≡ None
    none k [] h = refl
    none k (y ∷ ys) h = rw ((each y).1 (All-head P y ys h), none (k + 1) ys (All-tail P y ys h)) refl

-- it passes, and none before it does
pub first_passes : {X : Type 0} (test : X → Bool) (xs : List X) (k : ℕ) (d : X) → position_from test 0 xs ≡ Some k → (k < length xs) × (test (get_or xs k d) ≡ true) × ((j : ℕ) → j < k → test (get_or xs j d) ≡ false)
first_passes test xs k d h = position-Some test xs k d (position_from-zero test xs ∙ h)
