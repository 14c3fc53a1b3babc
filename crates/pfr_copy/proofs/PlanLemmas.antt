-- How the strokes of the pages that pass a test are followed, page by page.
use Rattle.std.proofs.Common.{◌≡◌, ◌∙◌, ℕ, zero, suc, ◌+◌, ◌-◌, ◌<◌, ◌≤◌, ◌||◌, Bool, true, false, if◌then◌else◌, refl, sym, ap, subst, arith, List, [], ◌∷◌, ◌++◌, append_assoc, Option, Some, None, Result, Ok, Err, OnOk}
use Rattle.std.proofs.lemmas.List.{append-nil}
use Rattle.pfr_flash.specs.FlashState.{FlashState, now}
use Rattle.pfr_flash.specs.Operation.{Operation, play}
use Rattle.pfr_flash.specs.Plan.{Follows}
use Rattle.pfr_flash.specs.Reading.{EndsAt}
use Rattle.pfr_flash.specs.declared.flash.FlashFail.{FlashFail}
use Rattle.pfr_flash.proofs.FollowsLemmas.{Follows-none, Follows-reads, Follows-then, Follows-first, Follows-gives, Follows-now}
use Rattle.pfr_strokes.specs.Strokes.{strokes, strokes_of}
use Rattle.pfr_strokes.specs.Replaced.{has_pages, pages_below, pages_between}
use Rattle.pfr_strokes.proofs.GroupLaws.{between_all}
use Rattle.pfr_copy.specs.Applying.{page_plan}

-- ---- the plan of one page
-- what a page is to hold was read, or that it isn't written
module _ (content : ℕ → List ℕ) (test : ℕ → Bool) (n : ℕ) where
  pub page_stops : {B : Type 0} (a b : FlashState) (result : Result B FlashFail) (fail : FlashFail) → EndsAt (Some fail) a b → result ≡ Err fail → Follows (page_plan content test n) a b result
  page_stops {B} a b result fail ends is =
      subst (λ (r : Result B FlashFail). Follows (page_plan content test n) a b r) (sym is) (Follows-first [] (page_plan content test n) a b fail (Follows-reads {A = B} a b (Err fail) ends))

  pub is_written : (bytes : List ℕ) (found : Option (List ℕ)) → found ≡ (if test n then Some (content n) else None) → found ≡ Some bytes → (test n ≡ true) × (bytes ≡ content n)
  is_written bytes found is some = by_test (test n) refl (content n) (sym some ∙ is)
    where
      by_test : (t : Bool) → test n ≡ t → (xs : List ℕ) → Some bytes ≡ (if t then Some xs else None) → (test n ≡ true) × (bytes ≡ xs)
      by_test true e xs k = (e, cc)
      by_test false e xs k = absurd cc

  pub isnt_written : (found : Option (List ℕ)) → found ≡ (if test n then Some (content n) else None) → found ≡ None → test n ≡ false
  isnt_written found is none = by_test (test n) refl (content n) (sym none ∙ is)
    where
      by_test : (t : Bool) → test n ≡ t → (xs : List ℕ) → None ≡ (if t then Some xs else None) → test n ≡ false
      by_test true e xs k = absurd cc
      by_test false e xs k = e

  pub page_written : {A B : Type 0} (bytes : List ℕ) (a b c : FlashState) (x : A) (y : B) (done : Result A FlashFail) → test n ≡ true → bytes ≡ content n
      → EndsAt None a b → Follows (strokes n bytes) b c done → done ≡ Ok x → Follows {A = B} (page_plan content test n) a c (Ok y)
  page_written {A} {B} bytes a b c x y done e same ends follows is =
      let whole : Follows {A = A} (strokes n bytes) a c (Ok x) =
      Follows-then [] (strokes n bytes) a b c tt (Ok x) (Follows-reads {A = Unit {0}} a b (Ok tt) ends) (subst (λ (r : Result A FlashFail). Follows (strokes n bytes) b c r) is follows) in
      subst (λ (t : Bool). Follows {A = B} (if t then strokes n (content n) else []) a c (Ok y)) (sym e)
      (subst (λ (xs : List ℕ). Follows {A = B} (strokes n xs) a c (Ok y)) same (Follows-gives (strokes n bytes) a c x y whole))

  pub page_unwritten : {A B : Type 0} (bytes : List ℕ) (a b c : FlashState) (done : Result A FlashFail) (result : Result B FlashFail) (fail : FlashFail) → test n ≡ true → bytes ≡ content n
      → EndsAt None a b → Follows (strokes n bytes) b c done → done ≡ Err fail → result ≡ Err fail → Follows {A = B} (page_plan content test n) a c result
  page_unwritten {A} {B} bytes a b c done result fail e same ends follows is r =
      let whole : Follows {A = A} (strokes n bytes) a c (Err fail) =
      Follows-then [] (strokes n bytes) a b c tt (Err fail) (Follows-reads {A = Unit {0}} a b (Ok tt) ends) (subst (λ (r : Result A FlashFail). Follows (strokes n bytes) b c r) is follows) in
      subst (λ (x : Result B FlashFail). Follows {A = B} (page_plan content test n) a c x) (sym r)
      (subst (λ (t : Bool). Follows {A = B} (if t then strokes n (content n) else []) a c (Err fail)) (sym e)
      (subst (λ (xs : List ℕ). Follows {A = B} (strokes n xs) a c (Err fail)) same
      (subst (λ (ops : List Operation). Follows {A = B} ops a c (Err fail)) (append-nil (strokes n bytes)) (Follows-first (strokes n bytes) [] a c fail whole))))

  pub page_passed : {B : Type 0} (a b : FlashState) (y : B) → test n ≡ false → EndsAt None a b → Follows {A = B} (page_plan content test n) a b (Ok y)
  page_passed {B} a b y e ends = subst (λ (t : Bool). Follows {A = B} (if t then strokes n (content n) else []) a b (Ok y)) (sym e) (Follows-reads a b (Ok y) ends)

-- ---- the strokes of pages in a row
strokes_of-append : (content : ℕ → List ℕ) (pages more : List ℕ) → strokes_of content (pages ++ more) ≡ strokes_of content pages ++ strokes_of content more
unfolding strokes_of
strokes_of-append content [] more = refl
strokes_of-append content (page ∷ pages) more =
    ap (λ (ops : List Operation). strokes page (content page) ++ ops) (strokes_of-append content pages more) ∙ sym (append_assoc (strokes page (content page)) (strokes_of content pages) (strokes_of content more))

one_page : (content : ℕ → List ℕ) (n : ℕ) (t : Bool) → strokes_of content (if t then n ∷ [] else []) ≡ (if t then strokes n (content n) else [])
unfolding strokes_of
one_page content n true = append-nil (strokes n (content n))
one_page content n false = refl

has_two : (pages : List ℕ) (n : ℕ) (t : Bool) → has_pages (pages ++ (if t then n ∷ [] else [])) ≡ (has_pages pages || t)
has_two [] n true = refl
has_two [] n false = refl
has_two (page ∷ pages) n t = refl

module _ (content : ℕ → List ℕ) (test : ℕ → Bool) (from : ℕ) where
  -- the strokes of the pages from a number on, with those of the next one
  between_more : (k : ℕ) → strokes_of content (pages_between test from (suc k)) ≡ strokes_of content (pages_between test from k) ++ page_plan content test (from + k)
  unfolding pages_between
  between_more k =
      strokes_of-append content (pages_between test from k) (if test (from + k) then (from + k) ∷ [] else [])
      ∙ ap (λ (ops : List Operation). strokes_of content (pages_between test from k) ++ ops) (one_page content (from + k) (test (from + k)))

  next_more : (n m : ℕ) → from ≤ n → m ≡ n + 1 → strokes_of content (pages_between test from (m - from)) ≡ strokes_of content (pages_between test from (n - from)) ++ page_plan content test n
  next_more n m low next =
      let e : m - from ≡ suc (n - from) = omega arith in
      let is : from + (n - from) ≡ n = omega arith in
      ap (λ (k : ℕ). strokes_of content (pages_between test from k)) e ∙ between_more (n - from)
      ∙ ap (λ (k : ℕ). strokes_of content (pages_between test from (n - from)) ++ page_plan content test k) is

  rest_behind : (k more : ℕ) → (rest : List Operation) × (strokes_of content (pages_between test from (k + more)) ≡ strokes_of content (pages_between test from k) ++ rest)
  rest_behind k zero = ([], (let e : k + zero ≡ k = omega arith in ap (λ (n : ℕ). strokes_of content (pages_between test from n)) e ∙ sym (append-nil (strokes_of content (pages_between test from k)))))
  rest_behind k (suc more) =
      let before = rest_behind k more in
      let e : k + suc more ≡ suc (k + more) = omega arith in (
        before.0 ++ page_plan content test (from + (k + more)),
        ap (λ (n : ℕ). strokes_of content (pages_between test from n)) e ∙ between_more (k + more) ∙ ap (λ (ops : List Operation). ops ++ page_plan content test (from + (k + more))) before.1
            ∙ append_assoc (strokes_of content (pages_between test from k)) before.0 (page_plan content test (from + (k + more))),
      )

  -- no page was looked at
  pub copied_none : (n : ℕ) (d : FlashState) → n ≡ from → Follows {A = Unit {0}} (strokes_of content (pages_between test from (n - from))) d d (Ok tt)
  unfolding pages_between strokes_of
  copied_none n d is =
      let e : 0 ≡ n - from = omega (arith, is) in
      subst (λ (k : ℕ). Follows {A = Unit {0}} (strokes_of content (pages_between test from k)) d d (Ok tt)) e (Follows-none d tt)

  pub has_none : (n : ℕ) → n ≡ from → false ≡ has_pages (pages_between test from (n - from))
  unfolding pages_between
  has_none n is = let e : 0 ≡ n - from = omega (arith, is) in subst (λ (k : ℕ). false ≡ has_pages (pages_between test from k)) e refl

  pub has_more : (n m : ℕ) (some is : Bool) → from ≤ n → m ≡ n + 1 → some ≡ has_pages (pages_between test from (n - from)) → is ≡ test n → (some || is) ≡ has_pages (pages_between test from (m - from))
  unfolding pages_between
  has_more n m some is low next h k =
      let e : m - from ≡ suc (n - from) = omega arith in
      let same : from + (n - from) ≡ n = omega arith in
      ap (λ (b : Bool). b || is) h ∙ ap (λ (b : Bool). has_pages (pages_between test from (n - from)) || b) (k ∙ ap test (sym same))
      ∙ sym (ap (λ (k : ℕ). has_pages (pages_between test from k)) e ∙ has_two (pages_between test from (n - from)) (from + (n - from)) (test (from + (n - from))))

  -- one page more was done
  pub copied_more : {A : Type 0} (n m : ℕ) (a b c : FlashState) (plan : List Operation) (done : Result A FlashFail) (x : A) → from ≤ n → m ≡ n + 1 → plan ≡ page_plan content test n
      → Follows {A = Unit {0}} (strokes_of content (pages_between test from (n - from))) a b (Ok tt) → Follows plan b c done → done ≡ Ok x → Follows {A = Unit {0}} (strokes_of content (pages_between test from (m - from))) a c (Ok tt)
  copied_more {A} n m a b c plan done x low next same h one e =
      let last : Follows {A = A} (page_plan content test n) b c (Ok x) =
      subst (λ (ops : List Operation). Follows {A = A} ops b c (Ok x)) same (subst (λ (r : Result A FlashFail). Follows plan b c r) e one) in
      subst (λ (ops : List Operation). Follows {A = Unit {0}} ops a c (Ok tt)) (sym (next_more n m low next))
      (Follows-then (strokes_of content (pages_between test from (n - from))) (page_plan content test n) a b c tt (Ok tt) h (Follows-gives (page_plan content test n) b c x tt last))

  -- the next page failed
  pub copied_part : {A : Type 0} (n to : ℕ) (a b c : FlashState) (plan : List Operation) (done result : Result A FlashFail) (f : FlashFail) → from ≤ n → n < to → plan ≡ page_plan content test n
      → Follows {A = Unit {0}} (strokes_of content (pages_between test from (n - from))) a b (Ok tt) → Follows plan b c done → done ≡ Err f → result ≡ Err f → Follows (strokes_of content (pages_between test from (to - from))) a c result
  copied_part {A} n to a b c plan done result f low few same h one e r =
      let last : Follows {A = A} (page_plan content test n) b c (Err f) =
      subst (λ (ops : List Operation). Follows {A = A} ops b c (Err f)) same (subst (λ (r : Result A FlashFail). Follows plan b c r) e one) in
      let count : suc n - from + (to - suc n) ≡ to - from = omega arith in
      let rest = rest_behind (suc n - from) (to - suc n) in
      let next : suc n ≡ n + 1 = omega arith in
      let front : Follows {A = A} (strokes_of content (pages_between test from (suc n - from))) a c (Err f) =
      subst (λ (ops : List Operation). Follows {A = A} ops a c (Err f)) (sym (next_more n (suc n) low next))
      (Follows-then (strokes_of content (pages_between test from (n - from))) (page_plan content test n) a b c tt (Err f) h last) in
      subst (λ (x : Result A FlashFail). Follows (strokes_of content (pages_between test from (to - from))) a c x) (sym r)
      (subst (λ (k : ℕ). Follows {A = A} (strokes_of content (pages_between test from k)) a c (Err f)) count
      (subst (λ (ops : List Operation). Follows {A = A} ops a c (Err f)) (sym rest.1) (Follows-first (strokes_of content (pages_between test from (suc n - from))) rest.0 a c f front)))

  -- all were done
  pub copied_all : {A : Type 0} (n to : ℕ) (a b : FlashState) (x : A) → from ≤ to → n ≡ to → Follows {A = Unit {0}} (strokes_of content (pages_between test from (n - from))) a b (Ok tt)
      → Follows {A = A} (strokes_of content (pages_between test from (to - from))) a b (Ok x)
  copied_all {A} n to a b x low is h =
      subst (λ (k : ℕ). Follows {A = A} (strokes_of content (pages_between test from (k - from))) a b (Ok x)) is (Follows-gives (strokes_of content (pages_between test from (n - from))) a b tt x h)

-- all pages from the first on were written, or one failed
module _ (content : ℕ → List ℕ) (test : ℕ → Bool) (to all : ℕ) (is : to ≡ all) (a b : FlashState) where
  same_strokes : strokes_of content (pages_between test 0 (to - 0)) ≡ strokes_of content (pages_below test all)
  same_strokes = let e : to - 0 ≡ all = omega (arith, is) in ap (λ (k : ℕ). strokes_of content (pages_between test 0 k)) e ∙ ap (λ (pages : List ℕ). strokes_of content pages) (between_all test all)

  pub all_done : {A B : Type 0} (done : Result A FlashFail) (x : A) (y : B) → Follows (strokes_of content (pages_between test 0 (to - 0))) a b done → done ≡ Ok x → Follows {A = B} (strokes_of content (pages_below test all)) a b (Ok y)
  all_done {A} {B} done x y h e =
      subst (λ (ops : List Operation). Follows {A = B} ops a b (Ok y)) same_strokes
      (Follows-gives (strokes_of content (pages_between test 0 (to - 0))) a b x y (subst (λ (r : Result A FlashFail). Follows (strokes_of content (pages_between test 0 (to - 0))) a b r) e h))

  pub all_failed : {A B : Type 0} (done : Result A FlashFail) (result : Result B FlashFail) (f : FlashFail) → Follows (strokes_of content (pages_between test 0 (to - 0))) a b done → done ≡ Err f → result ≡ Err f
      → Follows (strokes_of content (pages_below test all)) a b result
  all_failed {A} {B} done result f h e r =
      subst (λ (x : Result B FlashFail). Follows (strokes_of content (pages_below test all)) a b x) (sym r)
      (subst (λ (ops : List Operation). Follows {A = B} ops a b (Err f)) (append-nil (strokes_of content (pages_between test 0 (to - 0))) ∙ same_strokes)
      (Follows-first (strokes_of content (pages_between test 0 (to - 0))) [] a b f (subst (λ (r : Result A FlashFail). Follows (strokes_of content (pages_between test 0 (to - 0))) a b r) e h)))

-- ---- the bytes at Ok
pub follows_now : {A : Type 0} (plan : List Operation) (a b : FlashState) (image : List ℕ) (result : Result A FlashFail) → Follows plan a b result → play (now a) plan ≡ image → OnOk result (now b ≡ image)
follows_now plan a b image (Ok x) h is = Follows-now plan a b x h ∙ is
follows_now plan a b image (Err f) h is = tt
