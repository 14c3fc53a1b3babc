-- A pass over the pages of one group, and passes over groups in a row.
use Rattle.std.proofs.Common.{◌≡◌, ◌∙◌, ℕ, ◌/◌, Bool, true, false, if◌then◌else◌, refl, sym, ap, subst, List, [], ◌∷◌, ◌++◌, append_assoc, Result, Ok, Err, inl, inr}
use Rattle.std.proofs.lemmas.List.{append-nil}
use Rattle.pfr_flash.specs.FlashState.{now}
use Rattle.pfr_flash.specs.Operation.{Operation, play, applied}
use Rattle.pfr_flash.specs.Plan.{Follows, IsPart}
use Rattle.pfr_flash.specs.declared.flash.FlashFail.{FlashFail}
use Rattle.pfr_strokes.specs.Strokes.{strokes, strokes_of}
use Rattle.pfr_strokes.specs.Replaced.{has_pages}
use Rattle.pfr_strokes.specs.Deeds.{Deed, Asks, Does, called, ends_group, page_deeds, pass, marked_by, unmarked, side_ops, asking, unbegun, torn, IsDeedCut}
use Rattle.pfr_strokes.specs.Passes.{Pair, at_side, Did, Failed, DidAll, StoppedAt, Passes}
use Rattle.pfr_strokes.specs.declared.side.Side.{Side}
use Rattle.pfr_strokes.specs.declared.side.Side.TheVariants.{Bank, Store}
use Rattle.pfr_strokes.specs.declared.side.CopyFail.{CopyFail}
use Rattle.pfr_strokes.specs.declared.side.CopyFail.TheVariants as fails
use Rattle.pfr_strokes.proofs.DeedsLaws.{side_ops-append, ops_called, none_called, cut_later, cut_front}
use Rattle.pfr_strokes.proofs.PassesLemmas.{Did-none, Did-of, Failed-of, DidAll-then, Stopped-then, Stopped-first, Passes-then, Passes-first, OnlyAt, by_side, there_none, called_did, called_stopped, AsksLast}
use Rattle.pfr_strokes.proofs.ReplacedLaws.{IsOneOf}
use Rattle.pfr_strokes.proofs.PassLaws.{pass_strokes, pass_asks, pass_group, pass_apart, mark_behind, marked_asks, AllOf, AllBefore, AllFrom}

-- ---- a part of the bank's operations is a cut of deeds that ask the bank last
cut_behind : (deed : Deed) (deeds : List Deed) (added : List Operation) (image : List ℕ) → (trace : List Deed) × IsDeedCut Bank deeds (play image (side_ops Bank (deed ∷ []))) trace × (side_ops Bank trace ≡ added)
    → (trace : List Deed) × IsDeedCut Bank (deed ∷ deeds) image trace × (side_ops Bank trace ≡ side_ops Bank (deed ∷ []) ++ added)
cut_behind deed deeds added image (trace, cut, is) = (
  deed ∷ trace,
  cut_later Bank (deed ∷ []) deeds trace image cut,
  side_ops-append Bank (deed ∷ []) trace ∙ ap (λ (ops : List Operation). side_ops Bank (deed ∷ []) ++ ops) is,
)

pub bank_cut : (before : List Deed) (added : List Operation) (image : List ℕ) → IsPart image (side_ops Bank (before ++ Asks Bank ∷ [])) added
    → (trace : List Deed) × IsDeedCut Bank (before ++ Asks Bank ∷ []) image trace × (side_ops Bank trace ≡ added)
bank_cut [] [] image p = ([], record { front = []; next = Asks Bank; rest = []; last = []; plan = refl; is = refl; failed = asking }, refl)
bank_cut [] (op ∷ ops) image p = absurd p
bank_cut (Asks which ∷ before) added image p = cut_behind (Asks which) (before ++ Asks Bank ∷ []) added image (bank_cut before added image p)
bank_cut (Does Store op ∷ before) added image p = cut_behind (Does Store op) (before ++ Asks Bank ∷ []) added image (bank_cut before added image p)
bank_cut (Does Bank op ∷ before) [] image p = ([], record { front = []; next = Does Bank op; rest = before ++ Asks Bank ∷ []; last = []; plan = refl; is = refl; failed = unbegun op }, refl)
bank_cut (Does Bank op ∷ before) (done ∷ ops) image (inl whole) =
    let found = cut_behind (Does Bank op) (before ++ Asks Bank ∷ []) ops image (bank_cut before ops (applied image op) whole.1) in
    (found.0, found.1, found.2 ∙ ap (λ (o : Operation). o ∷ ops) (sym whole.0))
bank_cut (Does Bank op ∷ before) (done ∷ ops) image (inr t) = (
  Does Bank done ∷ [],
  record { front = []; next = Does Bank op; rest = before ++ Asks Bank ∷ []; last = Does Bank done ∷ []; plan = refl; is = refl; failed = torn op done t.0 },
  ap (λ (xs : List Operation). done ∷ xs) (sym t.1),
)

-- ---- a call that writes pages, and no mark
none_left : (xs ys : List Operation) → xs ++ ys ≡ [] → xs ≡ []
none_left [] ys e = refl
none_left (x ∷ xs) ys e = absurd cc

module _ (content : ℕ → List ℕ) (group : ℕ) where
  pub unmarked_none : (pages : List ℕ) → side_ops Store (page_deeds content group unmarked pages) ≡ []
  unfolding page_deeds
  unmarked_none [] = refl
  unmarked_none (page ∷ pages) =
      side_ops-append Store (called Bank (strokes page (content page))) (by_end (ends_group group page pages) ++ page_deeds content group unmarked pages)
      ∙ ap (λ (ops : List Operation). ops ++ side_ops Store (by_end (ends_group group page pages) ++ page_deeds content group unmarked pages)) (none_called Bank (strokes page (content page)))
      ∙ none (ends_group group page pages) (unmarked_none pages)
    where
      by_end : Bool → List Deed
      by_end ends = if ends then unmarked (page / group) else []

      none : (ends : Bool) → side_ops Store (page_deeds content group unmarked pages) ≡ [] → side_ops Store (by_end ends ++ page_deeds content group unmarked pages) ≡ []
      none true rest = rest
      none false rest = rest

  module _ (pages : List ℕ) (a b : Pair) (only : OnlyAt Bank a b) where
    ops_of : side_ops Bank (pass content group unmarked pages) ≡ strokes_of content pages
    ops_of = pass_strokes content group unmarked (λ number. refl) pages

    -- it did all
    pub stretch_did : {A : Type 0} (x : A) → Follows {A = A} (strokes_of content pages) a.bank b.bank (Ok x) → DidAll (pass content group unmarked pages) a b
    stretch_did x h = record {
      each = λ other. by_side (λ (s : Side). Did (side_ops s (pass content group unmarked pages)) (at_side s a) (at_side s b)) Bank other
          (subst (λ (ops : List Operation). Did ops a.bank b.bank) (sym ops_of) (Did-of (strokes_of content pages) a.bank b.bank x h))
          (there_none Bank (pass content group unmarked pages) a b only (unmarked_none pages));
    }

    -- or it failed
    pub stretch_stopped : {A : Type 0} (fail : FlashFail) → Follows {A = A} (strokes_of content pages) a.bank b.bank (Err fail) → StoppedAt Bank fail (pass content group unmarked pages) a b
    stretch_stopped fail h = by_asks (pass_asks content group unmarked (λ number. inl refl) (Asks Bank ∷ []) (record { before = []; is = refl }) pages)
      where
        by_cut : (trace : List Deed) → IsDeedCut Bank (pass content group unmarked pages) (now a.bank) trace → side_ops Bank trace ≡ h.part.added → StoppedAt Bank fail (pass content group unmarked pages) a b
        by_cut trace cut is =
            let front = cut_front Bank (pass content group unmarked pages) trace (now a.bank) cut in
            record {
              trace = trace;
              cut = cut;
              here = subst (λ (ops : List Operation). Failed fail ops a.bank b.bank) (sym is) (Failed-of (strokes_of content pages) a.bank b.bank fail h);
              there = there_none Bank trace a b only (none_left (side_ops Store trace) front.0 (sym front.1 ∙ unmarked_none pages));
            }

        by_asks : AsksLast Bank (pass content group unmarked pages) → StoppedAt Bank fail (pass content group unmarked pages) a b
        by_asks asks =
            let part : IsPart (now a.bank) (side_ops Bank (asks.before ++ Asks Bank ∷ [])) h.part.added =
            subst (λ (xs : List Deed). IsPart (now a.bank) (side_ops Bank xs) h.part.added) asks.is (subst (λ (ops : List Operation). IsPart (now a.bank) ops h.part.added) (sym ops_of) h.part.part) in
            let found = bank_cut asks.before h.part.added (now a.bank) part in
            by_cut found.0 (subst (λ (xs : List Deed). IsDeedCut Bank xs (now a.bank) found.0) (sym asks.is) found.1) found.2

-- ---- the pages of one group
module _ (content : ℕ → List ℕ) (group : ℕ) (number : ℕ) (pages : List ℕ) (all : (mark : ℕ → List Deed) → AllOf content group mark number pages) where
  module _ (plan : ℕ → List Operation) where
    whole : pass content group (marked_by plan) pages ≡ pass content group unmarked pages ++ mark_behind content group (marked_by plan) number pages
    whole = ap (λ (deeds : List Deed). Asks Bank ∷ deeds) (pass_group content group (marked_by plan) number pages (all (marked_by plan)))

    -- a page failed
    pub group_failed : (B : Type 0) (a b : Pair) (fail : FlashFail) → StoppedAt Bank fail (pass content group unmarked pages) a b → Passes {T = B} (pass content group (marked_by plan) pages) a b (Err (fails.Bank fail))
    group_failed B a b fail h =
        subst (λ (deeds : List Deed). StoppedAt Bank fail deeds a b) (sym whole)
        (Stopped-first Bank fail (pass content group unmarked pages) (mark_behind content group (marked_by plan) number pages) a b h)

    -- it has none
    pub group_passed : (a b : Pair) → pages ≡ [] → DidAll (pass content group unmarked pages) a b → DidAll (pass content group (marked_by plan) pages) a b
    unfolding page_deeds
    group_passed a b none h =
        subst (λ (xs : List ℕ). DidAll (pass content group (marked_by plan) xs) a b) (sym none) (bare (subst (λ (xs : List ℕ). DidAll (pass content group unmarked xs) a b) none h))
      where
        bare : DidAll (pass content group unmarked []) a b → DidAll (pass content group (marked_by plan) []) a b
        bare k = k

    -- its mark was set, or not
    module _ (page : ℕ) (others : List ℕ) (some : pages ≡ page ∷ others) (a b c : Pair) (did : DidAll (pass content group unmarked pages) a b) (only : OnlyAt Store b c) where
      marked : pass content group (marked_by plan) pages ≡ pass content group unmarked pages ++ (called Store (plan number) ++ Asks Bank ∷ [])
      marked = whole ∙ ap (λ (xs : List ℕ). pass content group unmarked pages ++ mark_behind content group (marked_by plan) number xs) some

      pub group_marked : {A : Type 0} (x : A) → Follows {A = A} (plan number) b.store c.store (Ok x) → DidAll (pass content group (marked_by plan) pages) a c
      group_marked x h =
          subst (λ (deeds : List Deed). DidAll deeds a c) (sym marked)
          (DidAll-then (pass content group unmarked pages) (called Store (plan number) ++ Asks Bank ∷ []) a b c did
          (DidAll-then (called Store (plan number)) (Asks Bank ∷ []) b c c (called_did Store (plan number) b c x only h) (record { each = λ which. Did-none (at_side which c) })))

      pub group_unmarked : {A : Type 0} (B : Type 0) (fail : FlashFail) → Follows {A = A} (plan number) b.store c.store (Err fail) → Passes {T = B} (pass content group (marked_by plan) pages) a c (Err (fails.Store fail))
      group_unmarked B fail h =
          subst (λ (deeds : List Deed). StoppedAt Store fail deeds a c) (sym marked)
          (Stopped-then Store fail (pass content group unmarked pages) (called Store (plan number) ++ Asks Bank ∷ []) a b c did
          (Stopped-first Store fail (called Store (plan number)) (Asks Bank ∷ []) b c (called_stopped Store (plan number) b c fail only h)))

    -- what is done to the store: the mark, where it has a page
    pub group_store : side_ops Store (pass content group (marked_by plan) pages) ≡ (if has_pages pages then plan number else [])
    group_store =
        ap (λ (deeds : List Deed). side_ops Store deeds) whole
        ∙ side_ops-append Store (pass content group unmarked pages) (mark_behind content group (marked_by plan) number pages)
        ∙ ap (λ (ops : List Operation). ops ++ side_ops Store (mark_behind content group (marked_by plan) number pages)) (unmarked_none content group pages)
        ∙ by_pages pages
      where
        by_pages : (pages : List ℕ) → side_ops Store (mark_behind content group (marked_by plan) number pages) ≡ (if has_pages pages then plan number else [])
        by_pages [] = refl
        by_pages (page ∷ others) = side_ops-append Store (called Store (plan number)) (Asks Bank ∷ []) ∙ append-nil (side_ops Store (called Store (plan number))) ∙ ops_called Store (plan number)

  -- with another plan that does the same for this group
  pub pass_remarked : (plan other : ℕ → List Operation) → other number ≡ plan number → pass content group (marked_by other) pages ≡ pass content group (marked_by plan) pages
  pass_remarked plan other same = whole other ∙ ap (λ (deeds : List Deed). pass content group unmarked pages ++ deeds) (by_pages pages) ∙ sym (whole plan)
    where
      by_pages : (pages : List ℕ) → mark_behind content group (marked_by other) number pages ≡ mark_behind content group (marked_by plan) number pages
      by_pages [] = refl
      by_pages (page ∷ others) = ap (λ (ops : List Operation). called Store ops ++ Asks Bank ∷ []) same

-- where the pages are to hold the same
pub pass_same : (content other : ℕ → List ℕ) (group : ℕ) (mark : ℕ → List Deed) (pages : List ℕ) → ((n : ℕ) → IsOneOf n pages → other n ≡ content n) → page_deeds other group mark pages ≡ page_deeds content group mark pages
unfolding page_deeds
pass_same content other group mark [] same = refl
pass_same content other group mark (page ∷ pages) same =
    ap (λ (bytes : List ℕ). called Bank (strokes page bytes) ++ ((if ends_group group page pages then mark (page / group) else []) ++ page_deeds other group mark pages)) (same page (inl refl))
    ∙ ap (λ (rest : List Deed). called Bank (strokes page (content page)) ++ ((if ends_group group page pages then mark (page / group) else []) ++ rest)) (pass_same content other group mark pages (λ n one. same n (inr one)))

-- ---- passes in a row
module _ (content : ℕ → List ℕ) (group : ℕ) (plan : ℕ → List Operation) (number : ℕ) (first more : List ℕ) (before : AllBefore group number first) (behind : AllFrom group number more) where
  joined : pass content group (marked_by plan) (first ++ more) ≡ pass content group (marked_by plan) first ++ page_deeds content group (marked_by plan) more
  joined = ap (λ (deeds : List Deed). Asks Bank ∷ deeds) (pass_apart content group (marked_by plan) number first more before behind)

  -- The first was done, and then the other one.
  pub pass_then : {B : Type 0} (a b c : Pair) (result : Result B CopyFail) → DidAll (pass content group (marked_by plan) first) a b → Passes (pass content group (marked_by plan) more) b c result
      → Passes (pass content group (marked_by plan) (first ++ more)) a c result
  pass_then {B} a b c result did next = by_asks (pass_asks content group (marked_by plan) (marked_asks plan) (Asks Bank ∷ []) (record { before = []; is = refl }) first)
    where
      same : (s : Side) (asks : AsksLast Bank (pass content group (marked_by plan) first)) → side_ops s (pass content group (marked_by plan) first) ≡ side_ops s asks.before
      same s asks = ap (λ (xs : List Deed). side_ops s xs) asks.is ∙ side_ops-append s asks.before (Asks Bank ∷ []) ∙ append-nil (side_ops s asks.before)

      is : (asks : AsksLast Bank (pass content group (marked_by plan) first)) → asks.before ++ pass content group (marked_by plan) more ≡ pass content group (marked_by plan) (first ++ more)
      is asks =
          sym (append_assoc asks.before (Asks Bank ∷ []) (page_deeds content group (marked_by plan) more))
          ∙ ap (λ (xs : List Deed). xs ++ page_deeds content group (marked_by plan) more) (sym asks.is) ∙ sym joined

      by_asks : AsksLast Bank (pass content group (marked_by plan) first) → Passes (pass content group (marked_by plan) (first ++ more)) a c result
      by_asks asks =
          subst (λ (deeds : List Deed). Passes deeds a c result) (is asks)
          (Passes-then {A = Unit {0}} asks.before (pass content group (marked_by plan) more) a b c tt result (record { each = λ which. subst (λ (ops : List Operation). Did ops (at_side which a) (at_side which b)) (same which asks) (did.each which) }) next)

  -- It stopped there, and so did the pass over both.
  pub pass_stopped : (B C : Type 0) (a b : Pair) (fail : CopyFail) → Passes {T = B} (pass content group (marked_by plan) first) a b (Err fail) → Passes {T = C} (pass content group (marked_by plan) (first ++ more)) a b (Err fail)
  pass_stopped B C a b fail h =
      subst (λ (deeds : List Deed). Passes {T = C} deeds a b (Err fail)) (sym joined)
      (Passes-first B C (pass content group (marked_by plan) first) (page_deeds content group (marked_by plan) more) a b fail h)
