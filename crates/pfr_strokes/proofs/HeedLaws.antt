-- A pass that heeds marks, group by group.
use Rattle.std.proofs.Common.{◌≡◌, ◌∙◌, ℕ, suc, ◌+◌, ◌-◌, ◌*◌, ◌/◌, ◌≤◌, ◌<◌, ◌&&◌, Bool, true, false, not, min, refl, sym, ap, subst, arith, List, ◌∷◌, ◌++◌, filter, Result, Err}
use Rattle.std.proofs.lemmas.List.{append-nil}
use Rattle.pfr_flash.specs.Operation.{Operation}
use Rattle.pfr_strokes.specs.Replaced.{pages_below, pages_between, group_at, group_count}
use Rattle.pfr_strokes.specs.Deeds.{Deed, Asks, page_deeds, pass, marked_by}
use Rattle.pfr_strokes.specs.Passes.{Pair, at_side, DidAll, Passes}
use Rattle.pfr_strokes.specs.declared.side.Side.TheVariants.{Bank}
use Rattle.pfr_strokes.specs.declared.side.CopyFail.{CopyFail}
use Rattle.pfr_strokes.proofs.PassesLemmas.{Did-none}
use Rattle.pfr_strokes.proofs.GroupLaws.{below_between, between_only, same_between, none_between, filter_below, before_below, of_between, from_of, from_between, group_next, below_group, in_group, behind_group}
use Rattle.pfr_strokes.proofs.StretchLaws.{pass_remarked, pass_same, pass_then, pass_stopped}

-- ---- the pass over one group, where it is the same
module _ (content other : ℕ → List ℕ) (test later : ℕ → Bool) (plan next : ℕ → List Operation) (group all number : ℕ) (some : 0 < group) where
  pub group_same : ((n : ℕ) → n < all → other n ≡ content n) → ((n : ℕ) → later n ≡ test n) → next number ≡ plan number
      → pass other group (marked_by next) (pages_between later (group_at group all number) (group_count group all number)) ≡ pass content group (marked_by plan) (pages_between test (group_at group all number) (group_count group all number))
  group_same same_content same_test same_plan =
      ap (λ (pages : List ℕ). pass other group (marked_by next) pages) (same_between later test (group_at group all number) (group_count group all number) (λ j h. same_test (group_at group all number + j)))
      ∙ ap (λ (deeds : List Deed). Asks Bank ∷ deeds) (pass_same content other group (marked_by next) (pages_between test (group_at group all number) (group_count group all number))
      (λ n one. same_content n (below n (between_only test (group_at group all number) (group_count group all number) n one).0)))
      ∙ pass_remarked content group number (pages_between test (group_at group all number) (group_count group all number))
      (λ mark. of_between content group mark test number (group_at group all number) (group_count group all number) (λ j h. in_group group all number some j h)) plan next same_plan
    where
      below : (n : ℕ) → n < group_at group all number + group_count group all number → n < all
      below n h = by_product (number * group) h
        where
          by_product : (m : ℕ) → n < min m all + (min (min m all + group) all - min m all) → n < all
          by_product m h = omega (arith, h)

module _ (content : ℕ → List ℕ) (group all : ℕ) (some : 0 < group) (test marked : ℕ → Bool) (plan : ℕ → List Operation) where
  -- the pages of the groups below a number that aren't marked
  abbrev pub heeded : ℕ → List ℕ
  heeded number = pages_below (λ (page : ℕ). test page && not (marked (page / group))) (group_at group all number)

  abbrev left_in : ℕ → List ℕ
  left_in number = pages_between (λ (page : ℕ). test page && not (marked (page / group))) (group_at group all number) (group_count group all number)

  heeded_next : (number : ℕ) → heeded (suc number) ≡ heeded number ++ left_in number
  heeded_next number =
      ap (λ (n : ℕ). pages_below (λ (page : ℕ). test page && not (marked (page / group))) n) (group_next group all number some)
      ∙ below_between (λ (page : ℕ). test page && not (marked (page / group))) (group_at group all number) (group_count group all number)

  -- a group that is marked has no page left
  pub heeds_past : (number : ℕ) → marked number ≡ true → heeded (suc number) ≡ heeded number
  heeds_past number e =
      heeded_next number
      ∙ ap (λ (pages : List ℕ). heeded number ++ pages) (none_between (λ (page : ℕ). test page && not (marked (page / group))) (group_at group all number) (group_count group all number)
      (λ j h. ap (λ (g : ℕ). test (group_at group all number + j) && not (marked g)) (in_group group all number some j h) ∙ ap (λ (b : Bool). test (group_at group all number + j) && not b) e
      ∙ and_false (test (group_at group all number + j))))
      ∙ append-nil (heeded number)
    where
      and_false : (b : Bool) → (b && false) ≡ false
      and_false true = refl
      and_false false = refl

  -- of one that isn't all are left
  all_left : (number : ℕ) → marked number ≡ false → left_in number ≡ pages_between test (group_at group all number) (group_count group all number)
  all_left number e =
      same_between (λ (page : ℕ). test page && not (marked (page / group))) test (group_at group all number) (group_count group all number)
      (λ j h. ap (λ (g : ℕ). test (group_at group all number + j) && not (marked g)) (in_group group all number some j h) ∙ ap (λ (b : Bool). test (group_at group all number + j) && not b) e
      ∙ and_true (test (group_at group all number + j)))
    where
      and_true : (b : Bool) → (b && true) ≡ b
      and_true true = refl
      and_true false = refl

  -- no group was looked at
  pub heeds_none : (a : Pair) → DidAll (pass content group (marked_by plan) (heeded 0)) a a
  unfolding pages_below page_deeds
  heeds_none a =
      let e : 0 ≡ group_at group all 0 = omega arith in
      subst (λ (n : ℕ). DidAll (pass content group (marked_by plan) (pages_below (λ (page : ℕ). test page && not (marked (page / group))) n)) a a) e (record { each = λ which. Did-none (at_side which a) })

  -- the next group was done, or failed
  pub heeds_on : {B : Type 0} (number : ℕ) (a b c : Pair) (result : Result B CopyFail) → marked number ≡ false → DidAll (pass content group (marked_by plan) (heeded number)) a b
      → Passes (pass content group (marked_by plan) (pages_between test (group_at group all number) (group_count group all number))) b c result
      → Passes (pass content group (marked_by plan) (heeded (suc number))) a c result
  heeds_on number a b c result e did next =
      subst (λ (pages : List ℕ). Passes (pass content group (marked_by plan) pages) a c result) (sym (heeded_next number))
      (pass_then content group plan number (heeded number) (left_in number)
      (before_below content group (marked_by plan) (λ (page : ℕ). test page && not (marked (page / group))) number (group_at group all number) (λ j h. below_group group all number some j h))
      (from_of content group (marked_by plan) number (left_in number) (of_between content group (marked_by plan) (λ (page : ℕ). test page && not (marked (page / group))) number (group_at group all number) (group_count group all number) (λ j h. in_group group all number some j h)))
      a b c result did
      (subst (λ (pages : List ℕ). Passes (pass content group (marked_by plan) pages) b c result) (sym (all_left number e)) next))

  -- all groups
  module _ (enough : all ≤ 128 * group) where
    pub heeds_all : heeded 128 ≡ filter (λ (page : ℕ). not (marked (page / group))) (pages_below test all)
    heeds_all =
        let e : group_at group all 128 ≡ all = omega (arith, enough) in
        ap (λ (n : ℕ). pages_below (λ (page : ℕ). test page && not (marked (page / group))) n) e ∙ sym (filter_below test (λ (page : ℕ). not (marked (page / group))) all)

    -- where one failed, the whole pass did
    pub heeds_stop : (B C : Type 0) (number : ℕ) (a c : Pair) (fail : CopyFail) → Passes {T = B} (pass content group (marked_by plan) (heeded number)) a c (Err fail)
        → Passes {T = C} (pass content group (marked_by plan) (filter (λ (page : ℕ). not (marked (page / group))) (pages_below test all))) a c (Err fail)
    heeds_stop B C number a c fail h =
        subst (λ (pages : List ℕ). Passes {T = C} (pass content group (marked_by plan) pages) a c (Err fail)) (sym whole)
        (pass_stopped content group plan number (heeded number) (pages_between (λ (page : ℕ). test page && not (marked (page / group))) (group_at group all number) (all - group_at group all number))
        (before_below content group (marked_by plan) (λ (page : ℕ). test page && not (marked (page / group))) number (group_at group all number) (λ j h. below_group group all number some j h))
        (from_between content group (marked_by plan) (λ (page : ℕ). test page && not (marked (page / group))) number (group_at group all number) (all - group_at group all number)
        (λ j h. behind_group group all number some (group_at group all number + j) (omega arith) (omega (arith, h)))) B C a c fail h)
      where
        inside : group_at group all number + (all - group_at group all number) ≡ all
        inside = by_product (number * group)
          where
            by_product : (m : ℕ) → min m all + (all - min m all) ≡ all
            by_product m = omega arith

        whole : filter (λ (page : ℕ). not (marked (page / group))) (pages_below test all)
            ≡ heeded number ++ pages_between (λ (page : ℕ). test page && not (marked (page / group))) (group_at group all number) (all - group_at group all number)
        whole =
            filter_below test (λ (page : ℕ). not (marked (page / group))) all
            ∙ ap (λ (n : ℕ). pages_below (λ (page : ℕ). test page && not (marked (page / group))) n) (sym inside)
            ∙ below_between (λ (page : ℕ). test page && not (marked (page / group))) (group_at group all number) (all - group_at group all number)
