-- A pass over pages: its operations, how it is put together, and how a loop over pages does it.
use Rattle.std.proofs.Common.{◌≡◌, ◌∙◌, ℕ, zero, suc, ◌+◌, ◌-◌, ◌/◌, ◌≤◌, ◌<◌, ◌==◌, Bool, true, false, not, if◌then◌else◌, refl, sym, ap, subst, arith, List, [], ◌∷◌, ◌++◌, append_assoc, ◌⊎◌, inl, inr, Ok, Err}
use Rattle.std.proofs.lemmas.List.{append-nil}
use Rattle.std.proofs.lemmas.Bool.Decides.{nat_tests}
use Rattle.pfr_flash.specs.Operation.{Operation}
use Rattle.pfr_flash.specs.Plan.{Follows}
use Rattle.pfr_flash.specs.declared.flash.FlashFail.{FlashFail}
use Rattle.pfr_strokes.specs.Strokes.{strokes, strokes_of}
use Rattle.pfr_strokes.specs.Replaced.{pages_below}
use Rattle.pfr_strokes.specs.Deeds.{Deed, Asks, called, ends_group, page_deeds, pass, marked_by, unmarked, side_ops}
use Rattle.pfr_strokes.specs.Passes.{Pair, at_side, DidAll, StoppedAt}
use Rattle.pfr_strokes.specs.declared.side.Side.TheVariants.{Bank, Store}
use Rattle.pfr_strokes.proofs.DeedsLaws.{side_ops-append, ops_called, none_called}
use Rattle.pfr_strokes.proofs.PassesLemmas.{Did-none, DidAll-then, Stopped-then, Stopped-first, OnlyAt, called_did, called_stopped, asked_did, AsksLast, asked_stopped}

-- ---- the operations of the bank are the strokes of the pages
module _ (content : ℕ → List ℕ) (group : ℕ) (mark : ℕ → List Deed) (only : (number : ℕ) → side_ops Bank (mark number) ≡ []) where
  pub pass_strokes : (pages : List ℕ) → side_ops Bank (page_deeds content group mark pages) ≡ strokes_of content pages
  unfolding page_deeds strokes_of
  pass_strokes [] = refl
  pass_strokes (page ∷ pages) =
      side_ops-append Bank (called Bank (strokes page (content page))) (by_end (ends_group group page pages) ++ page_deeds content group mark pages)
      ∙ ap (λ (ops : List Operation). ops ++ side_ops Bank (by_end (ends_group group page pages) ++ page_deeds content group mark pages)) (ops_called Bank (strokes page (content page)))
      ∙ ap (λ (ops : List Operation). strokes page (content page) ++ ops)
      (side_ops-append Bank (by_end (ends_group group page pages)) (page_deeds content group mark pages)
      ∙ ap (λ (ops : List Operation). ops ++ side_ops Bank (page_deeds content group mark pages)) (none (ends_group group page pages)) ∙ pass_strokes pages)
    where
      by_end : Bool → List Deed
      by_end ends = if ends then mark (page / group) else []

      none : (ends : Bool) → side_ops Bank (by_end ends) ≡ []
      none true = only (page / group)
      none false = refl

-- ---- passes behind each other
-- the pages are of groups below this one, or of this one on
abbrev pub AllBefore : ℕ → ℕ → List ℕ → Type 0
AllBefore group number [] = Unit {0}
AllBefore group number (page ∷ pages) = (page / group < number) × AllBefore group number pages

abbrev pub AllFrom : ℕ → ℕ → List ℕ → Type 0
AllFrom group number [] = Unit {0}
AllFrom group number (page ∷ pages) = (number ≤ page / group) × AllFrom group number pages

module _ (content : ℕ → List ℕ) (group : ℕ) (mark : ℕ → List Deed) where
  ends_before : (page number : ℕ) (pages more : List ℕ) → page / group < number → AllFrom group number more → ends_group group page (pages ++ more) ≡ ends_group group page pages
  ends_before page number (next ∷ others) more before from = refl
  ends_before page number [] [] before from = refl
  ends_before page number [] (next ∷ others) before from =
      let apart : (next / group == page / group) ≡ false = grind (arith, nat_tests, before, from.0) in
      ap (λ (b : Bool). not b) apart

  -- where a group ends between them
  pub pass_apart : (number : ℕ) (pages more : List ℕ) → AllBefore group number pages → AllFrom group number more
      → page_deeds content group mark (pages ++ more) ≡ page_deeds content group mark pages ++ page_deeds content group mark more
  unfolding page_deeds
  pass_apart number [] more before from = refl
  pass_apart number (page ∷ pages) more before from =
      let first : List Deed = called Bank (strokes page (content page)) in
      let second : List Deed = if ends_group group page pages then mark (page / group) else [] in
      ap (λ (ends : Bool). called Bank (strokes page (content page)) ++ ((if ends then mark (page / group) else []) ++ page_deeds content group mark (pages ++ more))) (ends_before page number pages more before.0 from)
      ∙ ap (λ (rest : List Deed). first ++ (second ++ rest)) (pass_apart number pages more before.1 from)
      ∙ ap (λ (rest : List Deed). first ++ rest) (sym (append_assoc second (page_deeds content group mark pages) (page_deeds content group mark more)))
      ∙ sym (append_assoc first (second ++ page_deeds content group mark pages) (page_deeds content group mark more))

  -- all pages of one group: its mark is the last
  abbrev pub mark_behind : ℕ → List ℕ → List Deed
  mark_behind number [] = []
  mark_behind number (page ∷ pages) = mark number

  abbrev pub AllOf : ℕ → List ℕ → Type 0
  AllOf number [] = Unit {0}
  AllOf number (page ∷ pages) = (page / group ≡ number) × AllOf number pages

  pub without : (page : ℕ) (ends : Bool) (rest : List Deed) → called Bank (strokes page (content page)) ++ ((if ends then unmarked (page / group) else []) ++ rest) ≡ called Bank (strokes page (content page)) ++ rest
  without page true rest = refl
  without page false rest = refl

  pub pass_group : (number : ℕ) (pages : List ℕ) → AllOf number pages → page_deeds content group mark pages ≡ page_deeds content group unmarked pages ++ mark_behind number pages
  unfolding page_deeds
  pass_group number [] all = refl
  pass_group number (page ∷ []) all =
      let first : List Deed = called Bank (strokes page (content page)) in
      ap (λ (deeds : List Deed). first ++ deeds) (append-nil (mark (page / group)) ∙ ap mark all.0)
      ∙ ap (λ (deeds : List Deed). deeds ++ mark number) (sym (append-nil first))
  pass_group number (page ∷ (next ∷ others)) all =
      let first : List Deed = called Bank (strokes page (content page)) in
      let same : (next / group == page / group) ≡ true = grind (arith, nat_tests, all.0, all.1.0) in
      ap (λ (b : Bool). first ++ ((if not b then mark (page / group) else []) ++ page_deeds content group mark (next ∷ others))) same
      ∙ ap (λ (deeds : List Deed). first ++ deeds) (pass_group number (next ∷ others) all.1)
      ∙ sym (append_assoc first (page_deeds content group unmarked (next ∷ others)) (mark number))
      ∙ ap (λ (deeds : List Deed). deeds ++ mark number) (sym (without page (ends_group group page (next ∷ others)) (page_deeds content group unmarked (next ∷ others))))

  -- without marks
  pub pass_append : (pages more : List ℕ) → page_deeds content group unmarked (pages ++ more) ≡ page_deeds content group unmarked pages ++ page_deeds content group unmarked more
  unfolding page_deeds
  pass_append [] more = refl
  pass_append (page ∷ pages) more =
      let first : List Deed = called Bank (strokes page (content page)) in
      without page (ends_group group page (pages ++ more)) (page_deeds content group unmarked (pages ++ more))
      ∙ ap (λ (deeds : List Deed). first ++ deeds) (pass_append pages more)
      ∙ sym (append_assoc first (page_deeds content group unmarked pages) (page_deeds content group unmarked more))
      ∙ ap (λ (deeds : List Deed). deeds ++ page_deeds content group unmarked more) (sym (without page (ends_group group page pages) (page_deeds content group unmarked pages)))

  -- ---- the last of them asks the bank
  pub asks_behind : (deeds more : List Deed) → AsksLast Bank more → AsksLast Bank (deeds ++ more)
  asks_behind deeds more h = record { before = deeds ++ h.before; is = ap (λ (xs : List Deed). deeds ++ xs) h.is ∙ sym (append_assoc deeds h.before (Asks Bank ∷ [])) }

  -- a mark is nothing, or asks the bank last
  abbrev pub MarksAsk : Type 0
  MarksAsk = (number : ℕ) → (mark number ≡ []) ⊎ AsksLast Bank (mark number)

  pub pass_asks : MarksAsk → (before : List Deed) → AsksLast Bank before → (pages : List ℕ) → AsksLast Bank (before ++ page_deeds content group mark pages)
  unfolding page_deeds
  pass_asks marks before asks [] = subst (λ (deeds : List Deed). AsksLast Bank deeds) (sym (append-nil before)) asks
  pass_asks marks before asks (page ∷ pages) =
      let first : List Deed = called Bank (strokes page (content page)) in
      let behind : AsksLast Bank (before ++ first) = asks_behind before first (record { before = _; is = refl }) in
      subst (λ (deeds : List Deed). AsksLast Bank deeds) (shape (if ends_group group page pages then mark (page / group) else []))
      (pass_asks marks ((before ++ first) ++ (if ends_group group page pages then mark (page / group) else [])) (by_end (ends_group group page pages) behind) pages)
    where
      shape : (second : List Deed) → ((before ++ called Bank (strokes page (content page))) ++ second) ++ page_deeds content group mark pages ≡ before ++ (called Bank (strokes page (content page)) ++ (second ++ page_deeds content group mark pages))
      shape second =
          append_assoc (before ++ called Bank (strokes page (content page))) second (page_deeds content group mark pages)
          ∙ append_assoc before (called Bank (strokes page (content page))) (second ++ page_deeds content group mark pages)

      by_mark : (deeds second : List Deed) → AsksLast Bank deeds → ((second ≡ []) ⊎ AsksLast Bank second) → AsksLast Bank (deeds ++ second)
      by_mark deeds second h (inl none) = subst (λ (xs : List Deed). AsksLast Bank xs) (sym (ap (λ (xs : List Deed). deeds ++ xs) none ∙ append-nil deeds)) h
      by_mark deeds second h (inr last) = asks_behind deeds second last

      by_end : (ends : Bool) → AsksLast Bank (before ++ called Bank (strokes page (content page))) → AsksLast Bank ((before ++ called Bank (strokes page (content page))) ++ (if ends then mark (page / group) else []))
      by_end true h = by_mark (before ++ called Bank (strokes page (content page))) (mark (page / group)) h (marks (page / group))
      by_end false h = by_mark (before ++ called Bank (strokes page (content page))) [] h (inl refl)

-- ---- marks of the store
module _ (plan : ℕ → List Operation) where
  pub marked_asks : (number : ℕ) → (marked_by plan number ≡ []) ⊎ AsksLast Bank (marked_by plan number)
  marked_asks number = inr (record { before = called Store (plan number); is = refl })

  pub marked_none : (number : ℕ) → side_ops Bank (marked_by plan number) ≡ []
  marked_none number = side_ops-append Bank (called Store (plan number)) (Asks Bank ∷ []) ∙ append-nil (side_ops Bank (called Store (plan number))) ∙ none_called Store (plan number)

-- ---- a loop over pages, without marks
-- what a call for a page follows: its strokes where it is to be replaced, else nothing
abbrev pub page_plan : (ℕ → List ℕ) → (ℕ → Bool) → ℕ → List Operation
page_plan content test page = if test page then strokes page (content page) else []

-- the pass over the pages below a number
abbrev pub pass_below : (ℕ → List ℕ) → ℕ → (ℕ → Bool) → ℕ → List Deed
pass_below content group test n = pass content group unmarked (pages_below test n)

module _ (content : ℕ → List ℕ) (group : ℕ) (test : ℕ → Bool) where
  one_page : (page : ℕ) → page_deeds content group unmarked (page ∷ []) ≡ called Bank (strokes page (content page))
  unfolding page_deeds
  one_page page = append-nil (called Bank (strokes page (content page)))

  pub below_asks : (n : ℕ) → AsksLast Bank (pass_below content group test n)
  below_asks n = pass_asks content group unmarked (λ number. inl refl) (Asks Bank ∷ []) (record { before = []; is = refl }) (pages_below test n)

  -- one page more
  next_page : (n : ℕ) → test n ≡ true → pass_below content group test (suc n) ≡ pass_below content group test n ++ called Bank (strokes n (content n))
  unfolding pages_below
  next_page n e =
      ap (λ (b : Bool). pass content group unmarked (pages_below test n ++ (if b then n ∷ [] else []))) e
      ∙ ap (λ (deeds : List Deed). Asks Bank ∷ deeds) (pass_append content group unmarked (pages_below test n) (n ∷ []) ∙ ap (λ (deeds : List Deed). page_deeds content group unmarked (pages_below test n) ++ deeds) (one_page n))

  same_pages : (n : ℕ) → test n ≡ false → pass_below content group test (suc n) ≡ pass_below content group test n
  unfolding pages_below
  same_pages n e = ap (λ (b : Bool). pass content group unmarked (pages_below test n ++ (if b then n ∷ [] else []))) e ∙ ap (λ (pages : List ℕ). pass content group unmarked pages) (append-nil (pages_below test n))

  -- the deeds behind the pages below a number
  pub below_rest : (n more : ℕ) → (rest : List Deed) × (pass_below content group test (n + more) ≡ pass_below content group test n ++ rest)
  below_rest n zero = ([], (let e : n + zero ≡ n = omega arith in ap (λ (k : ℕ). pass_below content group test k) e ∙ sym (append-nil (pass_below content group test n))))
  below_rest n (suc more) = by_test (test (n + more)) refl (below_rest n more)
    where
      number : n + suc more ≡ suc (n + more)
      number = omega arith

      by_test : (b : Bool) → test (n + more) ≡ b → ((rest : List Deed) × (pass_below content group test (n + more) ≡ pass_below content group test n ++ rest))
          → (rest : List Deed) × (pass_below content group test (n + suc more) ≡ pass_below content group test n ++ rest)
      by_test true e found = (
        found.0 ++ called Bank (strokes (n + more) (content (n + more))),
        ap (λ (k : ℕ). pass_below content group test k) number ∙ next_page (n + more) e
            ∙ ap (λ (deeds : List Deed). deeds ++ called Bank (strokes (n + more) (content (n + more)))) found.1
            ∙ append_assoc (pass_below content group test n) found.0 (called Bank (strokes (n + more) (content (n + more)))),
      )
      by_test false e found = (found.0, ap (λ (k : ℕ). pass_below content group test k) number ∙ same_pages (n + more) e ∙ found.1)

  -- No page was looked at.
  pub pass_begins : (pair : Pair) → DidAll (pass_below content group test 0) pair pair
  unfolding pages_below page_deeds
  pass_begins pair = record { each = λ which. Did-none (at_side which pair) }

  -- The call for the next page did all, and nothing failed.
  pub pass_goes_on : {A : Type 0} (n : ℕ) (a b c : Pair) (x : A) → DidAll (pass_below content group test n) a b → OnlyAt Bank b c
      → Follows {A = A} (page_plan content test n) b.bank c.bank (Ok x) → DidAll (pass_below content group test (suc n)) a c
  pass_goes_on {A} n a b c x h only k = by_test (test n) refl k
    where
      by_test : (t : Bool) → test n ≡ t → Follows {A = A} (if t then strokes n (content n) else []) b.bank c.bank (Ok x) → DidAll (pass_below content group test (suc n)) a c
      by_test true e k = subst (λ (deeds : List Deed). DidAll deeds a c) (sym (next_page n e))
          (DidAll-then (pass_below content group test n) (called Bank (strokes n (content n))) a b c h (called_did Bank (strokes n (content n)) b c x only k))
      by_test false e k = subst (λ (deeds : List Deed). DidAll deeds a c) (sym (same_pages n e)) (asked_did Bank (pass_below content group test n) a b c x h only k)

  -- It failed: that is a cut of the whole pass.
  pub pass_stops : {A : Type 0} (n all : ℕ) (a b c : Pair) (fail : FlashFail) → n < all → DidAll (pass_below content group test n) a b → OnlyAt Bank b c
      → Follows {A = A} (page_plan content test n) b.bank c.bank (Err fail) → StoppedAt Bank fail (pass_below content group test all) a c
  pass_stops {A} n all a b c fail few h only k =
      let more : suc n + (all - suc n) ≡ all = omega arith in
      let rest = below_rest (suc n) (all - suc n) in
      subst (λ (m : ℕ). StoppedAt Bank fail (pass_below content group test m) a c) more
      (subst (λ (deeds : List Deed). StoppedAt Bank fail deeds a c) (sym rest.1) (Stopped-first Bank fail (pass_below content group test (suc n)) rest.0 a c (by_test (test n) refl k)))
    where
      by_test : (t : Bool) → test n ≡ t → Follows {A = A} (if t then strokes n (content n) else []) b.bank c.bank (Err fail) → StoppedAt Bank fail (pass_below content group test (suc n)) a c
      by_test true e k = subst (λ (deeds : List Deed). StoppedAt Bank fail deeds a c) (sym (next_page n e))
          (Stopped-then Bank fail (pass_below content group test n) (called Bank (strokes n (content n))) a b c h (called_stopped Bank (strokes n (content n)) b c fail only k))
      by_test false e k = subst (λ (deeds : List Deed). StoppedAt Bank fail deeds a c) (sym (same_pages n e)) (asked_stopped Bank (pass_below content group test n) a b c fail (below_asks n) h only k)
