-- What a part of the strokes of pages touches are these pages.
use Rattle.std.proofs.Common.{◌≡◌, ◌∙◌, ℕ, ◌*◌, refl, sym, ap, subst, arith, List, [], ◌∷◌, ◌++◌, length, ◌⊎◌, inl, inr, Result, Ok, Err}
use Rattle.pfr_flash.specs.FlashState.{now}
use Rattle.pfr_flash.specs.Operation.{Operation, applied}
use Rattle.pfr_flash.specs.Plan.{IsPart}
use Rattle.pfr_flash.specs.Range.{AllWithin, IsWithin}
use Rattle.pfr_flash.proofs.FollowsLemmas.{IsPart-more}
use Rattle.pfr_flash.proofs.RangeLemmas.{IsTorn-within}
use Rattle.pfr_strokes.specs.Deeds.{Deed, side_ops}
use Rattle.pfr_strokes.specs.Passes.{Pair, Passes}
use Rattle.pfr_strokes.specs.Strokes.{strokes, strokes_of}
use Rattle.pfr_strokes.specs.declared.side.Side.TheVariants as side
use Rattle.pfr_strokes.specs.declared.side.CopyFail.{CopyFail}
use Rattle.pfr_strokes.specs.declared.side.CopyFail.TheVariants as fails
use Rattle.pfr_strokes.proofs.DeedsLaws.{cut_front, cut_part}
use Rattle.pfr_strokes.proofs.PassesLemmas.{Did-ops}
use Rattle.pfr_strokes.proofs.ReplacedLaws.{IsOneOf}
use Rattle.pfr_strokes.proofs.StrokesLaws.{strokes_within}
use Rattle.pfr_copy.specs.Copied.{AddsPlan, Touches}

-- ---- a whole plan is a part of itself
whole_part : (image : List ℕ) (plan : List Operation) → IsPart image plan plan
whole_part image [] = tt
whole_part image (op ∷ ops) = inl (refl, whole_part (applied image op) ops)

-- What was done of deeds is a plan of the bank, or a part of it.
pub adds_plan : {T : Type 0} (deeds : List Deed) (a b : Pair) (plan : List Operation) (result : Result T CopyFail) → side_ops side.Bank deeds ≡ plan → Passes deeds a b result → AddsPlan plan a.bank b.bank result
adds_plan deeds a b plan (Ok x) is h = record {
  all = Did-ops (side_ops side.Bank deeds) a.bank b.bank (h.each side.Bank) ∙ ap (λ (ops : List Operation). a.bank.ops ++ ops) is;
  part = record {
    added = plan;
    is = Did-ops (side_ops side.Bank deeds) a.bank b.bank (h.each side.Bank) ∙ ap (λ (ops : List Operation). a.bank.ops ++ ops) is;
    part = whole_part (now a.bank) plan;
  };
}
adds_plan deeds a b plan (Err (fails.Bank fail)) is h = record {
  all = tt;
  part = record {
    added = side_ops side.Bank h.trace;
    is = h.here.done;
    part = subst (λ (ops : List Operation). IsPart (now a.bank) ops (side_ops side.Bank h.trace)) is (cut_part side.Bank deeds h.trace (now a.bank) h.cut);
  };
}
adds_plan deeds a b plan (Err (fails.Store fail)) is h =
    let front = cut_front side.Store deeds h.trace (now a.store) h.cut in
    record {
      all = tt;
      part = record {
        added = side_ops side.Bank h.trace;
        is = Did-ops (side_ops side.Bank h.trace) a.bank b.bank h.there;
        part = subst (λ (ops : List Operation). IsPart (now a.bank) ops (side_ops side.Bank h.trace)) (sym front.1 ∙ is)
            (IsPart-more (now a.bank) (side_ops side.Bank h.trace) front.0 (side_ops side.Bank h.trace) (whole_part (now a.bank) (side_ops side.Bank h.trace)));
      };
    }

-- ---- each operation lies on one of the pages
pub record IsOnOne (pages : List ℕ) (op : Operation) : Type 0 where
  pub page : ℕ
  pub one : IsOneOf page pages
  pub within : IsWithin (4096 * page) 4096 op

abbrev pub AllOnOne : List ℕ → List Operation → Type 0
AllOnOne pages [] = Unit {0}
AllOnOne pages (op ∷ ops) = IsOnOne pages op × AllOnOne pages ops

on_two : (pages : List ℕ) (xs ys : List Operation) → AllOnOne pages xs → AllOnOne pages ys → AllOnOne pages (xs ++ ys)
on_two pages [] ys h k = k
on_two pages (op ∷ xs) ys h k = (h.0, on_two pages xs ys h.1 k)

on_page : (pages : List ℕ) (page : ℕ) (ops : List Operation) → IsOneOf page pages → AllWithin (4096 * page) 4096 ops → AllOnOne pages ops
on_page pages page [] one h = tt
on_page pages page (op ∷ ops) one h = (record { page = page; one = one; within = h.0 }, on_page pages page ops one h.1)

on_more : (pages : List ℕ) (first : ℕ) (ops : List Operation) → AllOnOne pages ops → AllOnOne (first ∷ pages) ops
on_more pages first [] h = tt
on_more pages first (op ∷ ops) h = (record { page = h.0.page; one = inr h.0.one; within = h.0.within }, on_more pages first ops h.1)

pub strokes_on : (content : ℕ → List ℕ) (pages : List ℕ) → ((page : ℕ) → IsOneOf page pages → length (content page) ≡ 4096) → AllOnOne pages (strokes_of content pages)
unfolding strokes_of
strokes_on content [] whole = tt
strokes_on content (page ∷ pages) whole =
    on_two (page ∷ pages) (strokes page (content page)) (strokes_of content pages)
    (on_page (page ∷ pages) page (strokes page (content page)) (inl refl) (strokes_within page (content page) (whole page (inl refl))))
    (on_more pages page (strokes_of content pages) (strokes_on content pages (λ n one. whole n (inr one))))

-- so does each of a part
pub part_on : (image : List ℕ) (pages : List ℕ) (plan added : List Operation) → AllOnOne pages plan → IsPart image plan added → AllOnOne pages added
part_on image pages plan [] all p = tt
part_on image pages [] (op ∷ ops) all p = absurd p
part_on image pages (next ∷ plan) (op ∷ ops) all (inl whole) =
    (subst (λ (o : Operation). IsOnOne pages o) (sym whole.0) all.0, part_on (applied image next) pages plan ops all.1 whole.1)
part_on image pages (next ∷ plan) (op ∷ ops) all (inr t) =
    let same = IsTorn-within image next op t.0 in (
      record { page = all.0.page; one = all.0.one; within = record { low = omega (arith, all.0.within.low, same.0); high = omega (arith, all.0.within.high, same.0, same.1) } },
      subst (λ (rest : List Operation). AllOnOne pages rest) (sym t.1) tt,
    )

pub touched_one : (pages : List ℕ) (ops : List Operation) (n : ℕ) → AllOnOne pages ops → Touches ops n → IsOneOf n pages
touched_one pages [] n all touches = absurd touches
touched_one pages (op ∷ ops) n all (inr later) = touched_one pages ops n all.1 later
touched_one pages (op ∷ ops) n all (inl here) =
    let same : all.0.page ≡ n = omega (arith, all.0.within.low, all.0.within.high, here.0, here.1) in
    subst (λ (m : ℕ). IsOneOf m pages) same all.0.one

-- ---- operations behind each other
pub same_added : (first xs ys : List Operation) → first ++ xs ≡ first ++ ys → xs ≡ ys
same_added [] xs ys e = e
same_added (op ∷ first) xs ys e = same_added first xs ys (rest e)
  where
    rest : (op ∷ (first ++ xs)) ≡ (op ∷ (first ++ ys)) → first ++ xs ≡ first ++ ys
    rest e = cc

pub touches_two : (xs ys : List Operation) (n : ℕ) → Touches (xs ++ ys) n → Touches xs n ⊎ Touches ys n
touches_two [] ys n t = inr t
touches_two (op ∷ xs) ys n (inl here) = inl (inl here)
touches_two (op ∷ xs) ys n (inr later) = by_rest (touches_two xs ys n later)
  where
    by_rest : (Touches xs n ⊎ Touches ys n) → Touches (op ∷ xs) n ⊎ Touches ys n
    by_rest (inl t) = inl (inr t)
    by_rest (inr t) = inr t

-- What a pass touches are its pages.
pub pass_touches : {T : Type 0} (deeds : List Deed) (content : ℕ → List ℕ) (pages : List ℕ) (a b : Pair) (result : Result T CopyFail) → side_ops side.Bank deeds ≡ strokes_of content pages
    → ((page : ℕ) → IsOneOf page pages → length (content page) ≡ 4096) → Passes deeds a b result → (ops : List Operation) → b.bank.ops ≡ a.bank.ops ++ ops → (n : ℕ) → Touches ops n → IsOneOf n pages
pass_touches deeds content pages a b result is whole h ops added n touches =
    let part = (adds_plan deeds a b (strokes_of content pages) result is h).part in
    let same : ops ≡ part.added = same_added a.bank.ops ops part.added (sym added ∙ part.is) in
    touched_one pages ops n
    (subst (λ (done : List Operation). AllOnOne pages done) (sym same) (part_on (now a.bank) pages (strokes_of content pages) part.added (strokes_on content pages whole) part.part)) touches
