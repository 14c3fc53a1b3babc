-- The operations of deeds, and of a cut of them.
use Rattle.std.proofs.Common.{◌≡◌, ◌∙◌, ℕ, refl, sym, ap, subst, List, [], ◌∷◌, ◌++◌, map, append_assoc, inl, inr}
use Rattle.std.proofs.lemmas.List.{append-nil}
use Rattle.pfr_flash.specs.Operation.{Operation, play, applied}
use Rattle.pfr_flash.specs.Plan.{IsPart}
use Rattle.pfr_flash.proofs.PlanLemmas.{IsPart-none, IsPart-after}
use Rattle.pfr_flash.proofs.PlayLemmas.{play-append}
use Rattle.pfr_strokes.specs.Deeds.{Deed, Asks, Does, called, side_ops, FailedAt, asking, unbegun, torn, IsDeedCut}
use Rattle.pfr_strokes.specs.Passes.{other_side}
use Rattle.pfr_strokes.specs.declared.side.Side.{Side}
use Rattle.pfr_strokes.specs.declared.side.Side.TheVariants.{Bank, Store}

pub side_ops-append : (which : Side) (deeds more : List Deed) → side_ops which (deeds ++ more) ≡ side_ops which deeds ++ side_ops which more
side_ops-append which [] more = refl
side_ops-append which (Asks side ∷ deeds) more = side_ops-append which deeds more
side_ops-append Bank (Does Bank op ∷ deeds) more = ap (λ (ops : List Operation). op ∷ ops) (side_ops-append Bank deeds more)
side_ops-append Bank (Does Store op ∷ deeds) more = side_ops-append Bank deeds more
side_ops-append Store (Does Bank op ∷ deeds) more = side_ops-append Store deeds more
side_ops-append Store (Does Store op ∷ deeds) more = ap (λ (ops : List Operation). op ∷ ops) (side_ops-append Store deeds more)

-- ---- a call
pub ops_all : (which : Side) (ops : List Operation) → side_ops which (map (λ (op : Operation). Does which op) ops) ≡ ops
ops_all which [] = refl
ops_all Bank (op ∷ ops) = ap (λ (rest : List Operation). op ∷ rest) (ops_all Bank ops)
ops_all Store (op ∷ ops) = ap (λ (rest : List Operation). op ∷ rest) (ops_all Store ops)

pub none_all : (which : Side) (ops : List Operation) → side_ops (other_side which) (map (λ (op : Operation). Does which op) ops) ≡ []
none_all which [] = refl
none_all Bank (op ∷ ops) = none_all Bank ops
none_all Store (op ∷ ops) = none_all Store ops

-- the operations of a call are these
pub ops_called : (which : Side) (ops : List Operation) → side_ops which (called which ops) ≡ ops
ops_called which ops = side_ops-append which (map (λ (op : Operation). Does which op) ops) (Asks which ∷ []) ∙ append-nil (side_ops which (map (λ (op : Operation). Does which op) ops)) ∙ ops_all which ops

pub none_called : (which : Side) (ops : List Operation) → side_ops (other_side which) (called which ops) ≡ []
none_called which ops =
    side_ops-append (other_side which) (map (λ (op : Operation). Does which op) ops) (Asks which ∷ []) ∙ append-nil (side_ops (other_side which) (map (λ (op : Operation). Does which op) ops)) ∙ none_all which ops

-- ---- cuts
-- with deeds before that were done
pub cut_later : (which : Side) (first deeds trace : List Deed) (image : List ℕ) → IsDeedCut which deeds (play image (side_ops which first)) trace → IsDeedCut which (first ++ deeds) image (first ++ trace)
cut_later which first deeds trace image cut = record {
  front = first ++ cut.front;
  next = cut.next;
  rest = cut.rest;
  last = cut.last;
  plan = ap (λ (xs : List Deed). first ++ xs) cut.plan ∙ sym (append_assoc first cut.front (cut.next ∷ cut.rest));
  is = ap (λ (xs : List Deed). first ++ xs) cut.is ∙ sym (append_assoc first cut.front cut.last);
  failed = subst (λ (now : List ℕ). FailedAt which now cut.next cut.last)
      (sym (ap (λ (ops : List Operation). play image ops) (side_ops-append which first cut.front) ∙ play-append image (side_ops which first) (side_ops which cut.front)))
      cut.failed;
}

-- with deeds behind that weren't
pub cut_sooner : (which : Side) (deeds more trace : List Deed) (image : List ℕ) → IsDeedCut which deeds image trace → IsDeedCut which (deeds ++ more) image trace
cut_sooner which deeds more trace image cut = record {
  front = cut.front;
  next = cut.next;
  rest = cut.rest ++ more;
  last = cut.last;
  plan = ap (λ (xs : List Deed). xs ++ more) cut.plan ∙ append_assoc cut.front (cut.next ∷ cut.rest) more;
  is = cut.is;
  failed = cut.failed;
}

-- A part of a call's operations is a cut of the call.
pub called_cut : (which : Side) (plan added : List Operation) (image : List ℕ) → IsPart image plan added → IsDeedCut which (called which plan) image (map (λ (op : Operation). Does which op) added)
called_cut which [] [] image p = record { front = []; next = Asks which; rest = []; last = []; plan = refl; is = refl; failed = asking }
called_cut which (next ∷ plan) [] image p = record { front = []; next = Does which next; rest = called which plan; last = []; plan = refl; is = refl; failed = unbegun next }
called_cut which [] (op ∷ ops) image p = absurd p
called_cut which (next ∷ plan) (op ∷ ops) image (inl whole) =
    let one : side_ops which (Does which next ∷ []) ≡ next ∷ [] = ops_all which (next ∷ []) in
    let rest = called_cut which plan ops (applied image next) whole.1 in
    subst (λ (o : Operation). IsDeedCut which (called which (next ∷ plan)) image (Does which o ∷ map (λ (o : Operation). Does which o) ops)) (sym whole.0)
    (cut_later which (Does which next ∷ []) (called which plan) (map (λ (o : Operation). Does which o) ops) image
    (subst (λ (done : List Operation). IsDeedCut which (called which plan) (play image done) (map (λ (o : Operation). Does which o) ops)) (sym one) rest))
called_cut which (next ∷ plan) (op ∷ ops) image (inr t) = record {
  front = [];
  next = Does which next;
  rest = called which plan;
  last = Does which op ∷ [];
  plan = refl;
  is = ap (λ (xs : List Operation). Does which op ∷ map (λ (o : Operation). Does which o) xs) t.1;
  failed = torn next op t.0;
}

-- ---- what a cut leaves
last_part : (which : Side) (next : Deed) (rest last : List Deed) (image : List ℕ) → FailedAt which image next last → IsPart image (side_ops which (next ∷ rest)) (side_ops which last)
last_part which _ rest _ image asking = IsPart-none image (side_ops which (Asks which ∷ rest))
last_part which _ rest _ image (unbegun op) = IsPart-none image (side_ops which (Does which op ∷ rest))
last_part Bank _ rest _ image (torn op done t) = inr (t, refl)
last_part Store _ rest _ image (torn op done t) = inr (t, refl)

last_none : (which : Side) (next : Deed) (last : List Deed) (image : List ℕ) → FailedAt which image next last → side_ops (other_side which) last ≡ []
last_none which _ _ image asking = refl
last_none which _ _ image (unbegun op) = refl
last_none Bank _ _ image (torn op done t) = refl
last_none Store _ _ image (torn op done t) = refl

-- The side that failed did a part of its operations.
pub cut_part : (which : Side) (deeds trace : List Deed) (image : List ℕ) → IsDeedCut which deeds image trace → IsPart image (side_ops which deeds) (side_ops which trace)
cut_part which deeds trace image cut =
    let all : side_ops which deeds ≡ side_ops which cut.front ++ side_ops which (cut.next ∷ cut.rest) = ap (λ (xs : List Deed). side_ops which xs) cut.plan ∙ side_ops-append which cut.front (cut.next ∷ cut.rest) in
    let done : side_ops which trace ≡ side_ops which cut.front ++ side_ops which cut.last = ap (λ (xs : List Deed). side_ops which xs) cut.is ∙ side_ops-append which cut.front cut.last in
    let part = last_part which cut.next cut.rest cut.last (play image (side_ops which cut.front)) cut.failed in
    subst (λ (plan : List Operation). IsPart image plan (side_ops which trace)) (sym all)
    (subst (λ (added : List Operation). IsPart image (side_ops which cut.front ++ side_ops which (cut.next ∷ cut.rest)) added) (sym done)
    (IsPart-after image (side_ops which cut.front) (side_ops which (cut.next ∷ cut.rest)) (side_ops which cut.last) part))

-- The other one did the first of its own.
pub cut_front : (which : Side) (deeds trace : List Deed) (image : List ℕ) → IsDeedCut which deeds image trace
    → (left : List Operation) × (side_ops (other_side which) deeds ≡ side_ops (other_side which) trace ++ left)
cut_front which deeds trace image cut =
    let all : side_ops (other_side which) deeds ≡ side_ops (other_side which) cut.front ++ side_ops (other_side which) (cut.next ∷ cut.rest) =
    ap (λ (xs : List Deed). side_ops (other_side which) xs) cut.plan ∙ side_ops-append (other_side which) cut.front (cut.next ∷ cut.rest) in
    let done : side_ops (other_side which) trace ≡ side_ops (other_side which) cut.front =
    ap (λ (xs : List Deed). side_ops (other_side which) xs) cut.is ∙ side_ops-append (other_side which) cut.front cut.last
    ∙ ap (λ (ops : List Operation). side_ops (other_side which) cut.front ++ ops) (last_none which cut.next cut.last (play image (side_ops which cut.front)) cut.failed)
    ∙ append-nil (side_ops (other_side which) cut.front) in
    (side_ops (other_side which) (cut.next ∷ cut.rest), all ∙ ap (λ (ops : List Operation). ops ++ side_ops (other_side which) (cut.next ∷ cut.rest)) (sym done))
