-- The pages of groups: lists of pages that pass tests.
use Rattle.std.proofs.Common.{◌≡◌, ◌∙◌, ℕ, zero, suc, ◌+◌, ◌-◌, ◌*◌, ◌/◌, ◌≤◌, ◌<◌, ◌&&◌, Bool, true, false, min, if◌then◌else◌, refl, sym, ap, subst, arith, List, [], ◌∷◌, ◌++◌, append_assoc, filter, ◌⊎◌, inl, inr}
use Rattle.std.proofs.lemmas.List.{append-nil}
use Rattle.std.proofs.lemmas.Bool.{cases_lt, false≢true}
use Rattle.std.proofs.Math.Nat.{div-lt_iff_lt-mul, div-mul-le_self}
use Rattle.pfr_strokes.specs.Replaced.{has_pages, pages_below, pages_between, group_at, group_count, pages_of_group}
use Rattle.pfr_strokes.specs.Deeds.{Deed}
use Rattle.pfr_strokes.proofs.ReplacedLaws.{IsOneOf, pages_are}
use Rattle.pfr_strokes.proofs.PassLaws.{AllOf, AllBefore, AllFrom}

-- ---- pages below a number, and behind it
pub below_between : (test : ℕ → Bool) (from k : ℕ) → pages_below test (from + k) ≡ pages_below test from ++ pages_between test from k
unfolding pages_below pages_between
below_between test from zero = let e : from + zero ≡ from = omega arith in ap (λ (n : ℕ). pages_below test n) e ∙ sym (append-nil (pages_below test from))
below_between test from (suc k) =
    let e : from + suc k ≡ suc (from + k) = omega arith in
    ap (λ (n : ℕ). pages_below test n) e
    ∙ ap (λ (pages : List ℕ). pages ++ (if test (from + k) then (from + k) ∷ [] else [])) (below_between test from k)
    ∙ append_assoc (pages_below test from) (pages_between test from k) (if test (from + k) then (from + k) ∷ [] else [])

pub none_below : (test : ℕ → Bool) → pages_below test 0 ≡ []
unfolding pages_below
none_below test = refl

-- all pages are those from 0 on
pub between_all : (test : ℕ → Bool) (n : ℕ) → pages_between test 0 n ≡ pages_below test n
between_all test n = ap (λ (pages : List ℕ). pages ++ pages_between test 0 n) (sym (none_below test)) ∙ sym (below_between test 0 n) ∙ (let e : 0 + n ≡ n = omega arith in ap (λ (k : ℕ). pages_below test k) e)

pub same_between : (p q : ℕ → Bool) (from k : ℕ) → ((j : ℕ) → j < k → p (from + j) ≡ q (from + j)) → pages_between p from k ≡ pages_between q from k
unfolding pages_between
same_between p q from zero same = refl
same_between p q from (suc k) same =
    ap (λ (pages : List ℕ). pages ++ (if p (from + k) then (from + k) ∷ [] else [])) (same_between p q from k (λ j h. same j (omega (arith, h))))
    ∙ ap (λ (b : Bool). pages_between q from k ++ (if b then (from + k) ∷ [] else [])) (same k (omega arith))

pub none_between : (p : ℕ → Bool) (from k : ℕ) → ((j : ℕ) → j < k → p (from + j) ≡ false) → pages_between p from k ≡ []
unfolding pages_between
none_between p from zero none = refl
none_between p from (suc k) none =
    ap (λ (pages : List ℕ). pages ++ (if p (from + k) then (from + k) ∷ [] else [])) (none_between p from k (λ j h. none j (omega (arith, h))))
    ∙ ap (λ (b : Bool). if b then (from + k) ∷ [] else []) (none k (omega arith))

one_behind : (n : ℕ) (xs ys : List ℕ) → IsOneOf n ys → IsOneOf n (xs ++ ys)
one_behind n [] ys one = one
one_behind n (x ∷ xs) ys one = inr (one_behind n xs ys one)

pub between_only : (test : ℕ → Bool) (from k n : ℕ) → IsOneOf n (pages_between test from k) → (n < from + k) × (test n ≡ true)
between_only test from k n one =
    (pages_are test (from + k)).only n (subst (λ (pages : List ℕ). IsOneOf n pages) (sym (below_between test from k)) (one_behind n (pages_below test from) (pages_between test from k) one))

-- ---- those that pass another test too
filter_two : (q : ℕ → Bool) (xs ys : List ℕ) → filter q (xs ++ ys) ≡ filter q xs ++ filter q ys
filter_two q [] ys = refl
filter_two q (x ∷ xs) ys = by_test (q x) (filter_two q xs ys)
  where
    by_test : (b : Bool) → filter q (xs ++ ys) ≡ filter q xs ++ filter q ys → (if b then x ∷ filter q (xs ++ ys) else filter q (xs ++ ys)) ≡ (if b then x ∷ filter q xs else filter q xs) ++ filter q ys
    by_test true rest = ap (λ (zs : List ℕ). x ∷ zs) rest
    by_test false rest = rest

pub filter_below : (test q : ℕ → Bool) (n : ℕ) → filter q (pages_below test n) ≡ pages_below (λ (page : ℕ). test page && q page) n
unfolding pages_below
filter_below test q zero = refl
filter_below test q (suc n) =
    filter_two q (pages_below test n) (if test n then n ∷ [] else [])
    ∙ ap (λ (pages : List ℕ). pages ++ filter q (if test n then n ∷ [] else [])) (filter_below test q n)
    ∙ ap (λ (pages : List ℕ). pages_below (λ (page : ℕ). test page && q page) n ++ pages) (by_test (test n) (q n))
  where
    one : (c : Bool) → q n ≡ c → filter q (n ∷ []) ≡ (if c then n ∷ [] else [])
    one c e = ap (λ (b : Bool). if b then n ∷ [] else []) e

    by_test : (b c : Bool) → filter q (if b then n ∷ [] else []) ≡ (if b && q n then n ∷ [] else [])
    by_test true c = one (q n) refl
    by_test false c = refl

-- ---- pages of groups
module _ (content : ℕ → List ℕ) (group : ℕ) (mark : ℕ → List Deed) where
  before_two : (number : ℕ) (xs ys : List ℕ) → AllBefore group number xs → AllBefore group number ys → AllBefore group number (xs ++ ys)
  before_two number [] ys h k = k
  before_two number (x ∷ xs) ys h k = (h.0, before_two number xs ys h.1 k)

  from_two : (number : ℕ) (xs ys : List ℕ) → AllFrom group number xs → AllFrom group number ys → AllFrom group number (xs ++ ys)
  from_two number [] ys h k = k
  from_two number (x ∷ xs) ys h k = (h.0, from_two number xs ys h.1 k)

  of_two : (number : ℕ) (xs ys : List ℕ) → AllOf content group mark number xs → AllOf content group mark number ys → AllOf content group mark number (xs ++ ys)
  of_two number [] ys h k = k
  of_two number (x ∷ xs) ys h k = (h.0, of_two number xs ys h.1 k)

  pub before_below : (test : ℕ → Bool) (number n : ℕ) → ((j : ℕ) → j < n → j / group < number) → AllBefore group number (pages_below test n)
  unfolding pages_below
  before_below test number zero each = tt
  before_below test number (suc n) each =
      before_two number (pages_below test n) (if test n then n ∷ [] else []) (before_below test number n (λ j h. each j (omega (arith, h)))) (by_test (test n))
    where
      by_test : (b : Bool) → AllBefore group number (if b then n ∷ [] else [])
      by_test true = (each n (omega arith), tt)
      by_test false = tt

  pub from_between : (test : ℕ → Bool) (number from k : ℕ) → ((j : ℕ) → j < k → number ≤ (from + j) / group) → AllFrom group number (pages_between test from k)
  unfolding pages_between
  from_between test number from zero each = tt
  from_between test number from (suc k) each =
      from_two number (pages_between test from k) (if test (from + k) then (from + k) ∷ [] else []) (from_between test number from k (λ j h. each j (omega (arith, h)))) (by_test (test (from + k)))
    where
      by_test : (b : Bool) → AllFrom group number (if b then (from + k) ∷ [] else [])
      by_test true = (each k (omega arith), tt)
      by_test false = tt

  pub of_between : (test : ℕ → Bool) (number from k : ℕ) → ((j : ℕ) → j < k → (from + j) / group ≡ number) → AllOf content group mark number (pages_between test from k)
  unfolding pages_between
  of_between test number from zero each = tt
  of_between test number from (suc k) each =
      of_two number (pages_between test from k) (if test (from + k) then (from + k) ∷ [] else []) (of_between test number from k (λ j h. each j (omega (arith, h)))) (by_test (test (from + k)))
    where
      by_test : (b : Bool) → AllOf content group mark number (if b then (from + k) ∷ [] else [])
      by_test true = (each k (omega arith), tt)
      by_test false = tt

  pub from_of : (number : ℕ) (pages : List ℕ) → AllOf content group mark number pages → AllFrom group number pages
  from_of number [] all = tt
  from_of number (page ∷ pages) all = (omega (arith, all.0), from_of number pages all.1)

-- ---- where the groups of so many pages begin
module _ (group all number : ℕ) (some : 0 < group) where
  times_more : suc number * group ≡ number * group + group
  times_more = omega arith

  pub group_next : group_at group all (suc number) ≡ group_at group all number + (min (group_at group all number + group) all - group_at group all number)
  group_next = by_product (number * group) (suc number * group) times_more
    where
      by_product : (m n : ℕ) → n ≡ m + group → min n all ≡ min m all + (min (min m all + group) all - min m all)
      by_product m n e = omega (arith, e)

  -- the pages before it are of groups below
  pub below_group : (j : ℕ) → j < group_at group all number → j / group < number
  below_group j h = (div-lt_iff_lt-mul some).1 (by_product (number * group) h)
    where
      by_product : (m : ℕ) → j < min m all → j < m
      by_product m h = omega (arith, h)

  -- those behind are of this one
  pub in_group : (j : ℕ) → j < min (group_at group all number + group) all - group_at group all number → (group_at group all number + j) / group ≡ number
  in_group j h = by_product (number * group) refl (cases_lt ((group_at group all number + j) / group) number)
    where
      by_product : (m : ℕ) → m ≡ number * group → (((group_at group all number + j) / group < number) ⊎ (number ≤ (group_at group all number + j) / group)) → (group_at group all number + j) / group ≡ number
      by_product m is (inl less) =
          let low : group_at group all number + j < number * group = (div-lt_iff_lt-mul some).0 less in
          absurd (omega (arith, low, h))
      by_product m is (inr more) =
          let high : (group_at group all number + j) / group < suc number = (div-lt_iff_lt-mul some).1 (omega (arith, h, times_more)) in
          omega (arith, high, more)

  -- and those behind the group are of groups from the next one on
  pub behind_group : (j : ℕ) → group_at group all number ≤ j → j < all → number ≤ j / group
  behind_group j low high = by_product (number * group) refl (cases_lt (j / group) number)
    where
      by_product : (m : ℕ) → m ≡ number * group → ((j / group < number) ⊎ (number ≤ j / group)) → number ≤ j / group
      by_product m is (inl less) =
          let under : j < number * group = (div-lt_iff_lt-mul some).0 less in
          absurd (omega (arith, under, low, high))
      by_product m is (inr from) = from

-- ---- what a group has
has_two : (pages : List ℕ) (n : ℕ) (t : Bool) → t ≡ true → has_pages (pages ++ (if t then n ∷ [] else [])) ≡ true
has_two [] n true e = refl
has_two [] n false e = absurd (false≢true e)
has_two (page ∷ pages) n t e = refl

has_before : (pages more : List ℕ) → has_pages pages ≡ true → has_pages (pages ++ more) ≡ true
has_before [] more e = absurd (false≢true e)
has_before (page ∷ pages) more e = refl

has_between : (test : ℕ → Bool) (from k n : ℕ) → from ≤ n → n < from + k → test n ≡ true → has_pages (pages_between test from k) ≡ true
unfolding pages_between
has_between test from zero n low high e = absurd (omega (arith, low, high))
has_between test from (suc k) n low high e = by_place (cases_lt n (from + k)) (λ below. has_between test from k n low below e)
  where
    by_place : (n < from + k) ⊎ (from + k ≤ n) → (n < from + k → has_pages (pages_between test from k) ≡ true) → has_pages (pages_between test from k ++ (if test (from + k) then (from + k) ∷ [] else [])) ≡ true
    by_place (inl below) rest = has_before (pages_between test from k) (if test (from + k) then (from + k) ∷ [] else []) (rest below)
    by_place (inr last) rest =
        let same : n ≡ from + k = omega arith in
        has_two (pages_between test from k) (from + k) (test (from + k)) (ap test (sym same) ∙ e)

-- a page that passes the test is one of its group's
pub has_own : (test : ℕ → Bool) (group all n : ℕ) → 0 < group → n < all → test n ≡ true → has_pages (pages_of_group test group all (n / group)) ≡ true
has_own test group all n some below e =
    has_between test (group_at group all (n / group)) (group_count group all (n / group)) n
    (low (n / group * group) (div-mul-le_self n group))
    (subst (λ (m : ℕ). n < m) (group_next group all (n / group) some) (high (suc (n / group) * group) ((div-lt_iff_lt-mul some).0 next))) e
  where
    low : (m : ℕ) → m ≤ n → min m all ≤ n
    low m h = omega (arith, h)

    high : (m : ℕ) → n < m → n < min m all
    high m h = omega (arith, h, below)

    next : n / group < suc (n / group)
    next = omega arith

pub of_one : (content : ℕ → List ℕ) (group : ℕ) (mark : ℕ → List Deed) (number : ℕ) (pages : List ℕ) → AllOf content group mark number pages → (n : ℕ) → IsOneOf n pages → n / group ≡ number
of_one content group mark number [] all n one = absurd one
of_one content group mark number (page ∷ pages) all n (inl same) = ap (λ (m : ℕ). m / group) same ∙ all.0
of_one content group mark number (page ∷ pages) all n (inr one) = of_one content group mark number pages all.1 n one
