-- Calls that do deeds, in a row.
use Rattle.std.proofs.Common.{◌≡◌, ◌∙◌, ℕ, refl, sym, ap, subst, List, [], ◌∷◌, ◌++◌, map, append_assoc, Result, Ok, Err}
use Rattle.std.proofs.lemmas.List.{append-nil}
use Rattle.pfr_flash.specs.FlashState.{FlashState, now}
use Rattle.pfr_flash.specs.Operation.{Operation, play}
use Rattle.pfr_flash.specs.Plan.{IsPart, Follows}
use Rattle.pfr_flash.specs.declared.flash.FlashFail.{FlashFail}
use Rattle.pfr_flash.proofs.FollowsLemmas.{FailsWorking-later}
use Rattle.pfr_flash.proofs.MovedLemmas.{Worked-refl, Worked-trans}
use Rattle.pfr_flash.proofs.PlayLemmas.{play-append}
use Rattle.pfr_strokes.specs.Deeds.{Deed, Asks, Does, called, side_ops, asking, IsDeedCut}
use Rattle.pfr_strokes.specs.Passes.{Pair, at_side, other_side, Did, Failed, DidAll, StoppedAt, Passes}
use Rattle.pfr_strokes.specs.declared.side.Side.{Side}
use Rattle.pfr_strokes.specs.declared.side.Side.TheVariants as side
use Rattle.pfr_strokes.specs.declared.side.CopyFail.{CopyFail}
use Rattle.pfr_strokes.specs.declared.side.CopyFail.TheVariants as fails
use Rattle.pfr_strokes.proofs.DeedsLaws.{side_ops-append, ops_all, none_all, ops_called, none_called, cut_later, cut_sooner, called_cut}

-- ---- one device
pub Did-none : (d : FlashState) → Did [] d d
Did-none d = record { whole = ap (λ (ops : List Operation). record d { ops = ops }) (sym (append-nil d.ops)); worked = Worked-refl d }

pub Did-ops : (ops : List Operation) (old new : FlashState) → Did ops old new → new.ops ≡ old.ops ++ ops
Did-ops ops old new h = ap (λ (d : FlashState). d.ops) h.whole

pub Did-now : (ops : List Operation) (old new : FlashState) → Did ops old new → now new ≡ play (now old) ops
Did-now ops old new h =
    ap (λ (s : List ℕ). play s new.ops) h.worked.moved.start ∙ ap (λ (o : List Operation). play old.start o) (Did-ops ops old new h) ∙ play-append old.start old.ops ops

pub Did-then : (ops more : List Operation) (a b c : FlashState) → Did ops a b → Did more b c → Did (ops ++ more) a c
Did-then ops more a b c h k = record {
  whole = k.whole ∙ ap (λ (d : FlashState). record d { ops = d.ops ++ more; taken = c.taken }) h.whole ∙ ap (λ (all : List Operation). record a { ops = all; taken = c.taken }) (append_assoc a.ops ops more);
  worked = Worked-trans a b c h.worked k.worked;
}

pub Failed-then : (fail : FlashFail) (ops more : List Operation) (a b c : FlashState) → Did ops a b → Failed fail more b c → Failed fail (ops ++ more) a c
Failed-then fail ops more a b c h k = record {
  done = k.done ∙ ap (λ (o : List Operation). o ++ more) (Did-ops ops a b h) ∙ append_assoc a.ops ops more;
  failed = FailsWorking-later fail a b c (ap (λ (d : FlashState). d.faults) h.whole) k.failed;
  still = λ e. k.still e ∙ ap (λ (d : FlashState). d.powered) h.whole;
  worked = Worked-trans a b c h.worked k.worked;
}

-- what followed a plan
pub Did-of : {A : Type 0} (plan : List Operation) (old new : FlashState) (x : A) → Follows {A = A} plan old new (Ok x) → Did plan old new
Did-of plan old new x h = record { whole = h.whole; worked = h.worked }

pub Failed-of : {A : Type 0} (plan : List Operation) (old new : FlashState) (fail : FlashFail) → (h : Follows {A = A} plan old new (Err fail)) → Failed fail h.part.added old new
Failed-of plan old new fail h = record { done = h.part.is; failed = h.failed; still = h.still; worked = h.worked }

none_added : (image : List ℕ) (added : List Operation) → IsPart image [] added → added ≡ []
none_added image [] p = refl
none_added image (op ∷ ops) p = absurd p

-- ---- deeds in a row
pub DidAll-then : (first next : List Deed) (a b c : Pair) → DidAll first a b → DidAll next b c → DidAll (first ++ next) a c
DidAll-then first next a b c h k = record {
  each = λ which. subst (λ (ops : List Operation). Did ops (at_side which a) (at_side which c)) (sym (side_ops-append which first next))
      (Did-then (side_ops which first) (side_ops which next) (at_side which a) (at_side which b) (at_side which c) (h.each which) (k.each which));
}

pub Stopped-then : (which : Side) (fail : FlashFail) (first next : List Deed) (a b c : Pair) → DidAll first a b → StoppedAt which fail next b c → StoppedAt which fail (first ++ next) a c
Stopped-then which fail first next a b c h k = record {
  trace = first ++ k.trace;
  cut = cut_later which first next k.trace (now (at_side which a))
      (subst (λ (image : List ℕ). IsDeedCut which next image k.trace) (Did-now (side_ops which first) (at_side which a) (at_side which b) (h.each which)) k.cut);
  here = subst (λ (ops : List Operation). Failed fail ops (at_side which a) (at_side which c)) (sym (side_ops-append which first k.trace))
      (Failed-then fail (side_ops which first) (side_ops which k.trace) (at_side which a) (at_side which b) (at_side which c) (h.each which) k.here);
  there = subst (λ (ops : List Operation). Did ops (at_side (other_side which) a) (at_side (other_side which) c)) (sym (side_ops-append (other_side which) first k.trace))
      (Did-then (side_ops (other_side which) first) (side_ops (other_side which) k.trace) (at_side (other_side which) a) (at_side (other_side which) b) (at_side (other_side which) c) (h.each (other_side which)) k.there);
}

pub Stopped-first : (which : Side) (fail : FlashFail) (first next : List Deed) (a b : Pair) → StoppedAt which fail first a b → StoppedAt which fail (first ++ next) a b
Stopped-first which fail first next a b h = record { trace = h.trace; cut = cut_sooner which first next h.trace (now (at_side which a)) h.cut; here = h.here; there = h.there }

-- the first deeds were done, and then the next
pub Passes-then : {A B : Type 0} (first next : List Deed) (a b c : Pair) (x : A) (result : Result B CopyFail) → Passes {T = A} first a b (Ok x) → Passes next b c result → Passes (first ++ next) a c result
Passes-then first next a b c x (Ok y) h k = DidAll-then first next a b c h k
Passes-then first next a b c x (Err (fails.Bank fail)) h k = Stopped-then side.Bank fail first next a b c h k
Passes-then first next a b c x (Err (fails.Store fail)) h k = Stopped-then side.Store fail first next a b c h k

-- they stopped, and no more was done
pub Passes-first : (A B : Type 0) (first next : List Deed) (a b : Pair) (fail : CopyFail) → Passes {T = A} first a b (Err fail) → Passes {T = B} (first ++ next) a b (Err fail)
Passes-first A B first next a b (fails.Bank fail) h = Stopped-first side.Bank fail first next a b h
Passes-first A B first next a b (fails.Store fail) h = Stopped-first side.Store fail first next a b h

-- ---- one call of a side
-- only this side was called
abbrev pub OnlyAt : Side → Pair → Pair → Type 0
OnlyAt which old new = at_side (other_side which) new ≡ at_side (other_side which) old

pub by_side : (P : Side → Type 0) (which other : Side) → P which → P (other_side which) → P other
by_side P side.Bank side.Bank here there = here
by_side P side.Bank side.Store here there = there
by_side P side.Store side.Bank here there = there
by_side P side.Store side.Store here there = here

pub there_none : (which : Side) (deeds : List Deed) (old new : Pair) → OnlyAt which old new → side_ops (other_side which) deeds ≡ [] → Did (side_ops (other_side which) deeds) (at_side (other_side which) old) (at_side (other_side which) new)
there_none which deeds old new only none =
    subst (λ (ops : List Operation). Did ops (at_side (other_side which) old) (at_side (other_side which) new)) (sym none)
    (subst (λ (d : FlashState). Did [] (at_side (other_side which) old) d) (sym only) (Did-none (at_side (other_side which) old)))

pub called_did : {A : Type 0} (which : Side) (plan : List Operation) (old new : Pair) (x : A) → OnlyAt which old new → Follows {A = A} plan (at_side which old) (at_side which new) (Ok x) → DidAll (called which plan) old new
called_did which plan old new x only h = record {
  each = λ other. by_side (λ (s : Side). Did (side_ops s (called which plan)) (at_side s old) (at_side s new)) which other
      (subst (λ (ops : List Operation). Did ops (at_side which old) (at_side which new)) (sym (ops_called which plan)) (Did-of plan (at_side which old) (at_side which new) x h))
      (there_none which (called which plan) old new only (none_called which plan));
}

pub called_stopped : {A : Type 0} (which : Side) (plan : List Operation) (old new : Pair) (fail : FlashFail) → OnlyAt which old new → Follows {A = A} plan (at_side which old) (at_side which new) (Err fail)
    → StoppedAt which fail (called which plan) old new
called_stopped which plan old new fail only h =
    let trace : List Deed = map (λ (op : Operation). Does which op) h.part.added in
    record {
      trace = map (λ (op : Operation). Does which op) h.part.added;
      cut = called_cut which plan h.part.added (now (at_side which old)) h.part.part;
      here = subst (λ (ops : List Operation). Failed fail ops (at_side which old) (at_side which new)) (sym (ops_all which h.part.added)) (Failed-of plan (at_side which old) (at_side which new) fail h);
      there = there_none which trace old new only (none_all which h.part.added);
    }

-- ---- a call that asks, behind deeds
-- what it asks changes nothing that was said of the deeds
pub asked_did : {A : Type 0} (which : Side) (deeds : List Deed) (a b c : Pair) (x : A) → DidAll deeds a b → OnlyAt which b c → Follows {A = A} [] (at_side which b) (at_side which c) (Ok x) → DidAll deeds a c
asked_did which deeds a b c x h only k = record {
  each = λ other. by_side (λ (s : Side). Did (side_ops s deeds) (at_side s a) (at_side s c)) which other
      (subst (λ (ops : List Operation). Did ops (at_side which a) (at_side which c)) (append-nil (side_ops which deeds))
      (Did-then (side_ops which deeds) [] (at_side which a) (at_side which b) (at_side which c) (h.each which) (Did-of [] (at_side which b) (at_side which c) x k)))
      (subst (λ (d : FlashState). Did (side_ops (other_side which) deeds) (at_side (other_side which) a) d) (sym only) (h.each (other_side which)));
}

-- the last of the deeds asks this side
pub record AsksLast (which : Side) (deeds : List Deed) : Type 0 where
  pub before : List Deed
  pub is : deeds ≡ before ++ Asks which ∷ []

-- Where it fails, that was the one which failed.
pub asked_stopped : {A : Type 0} (which : Side) (deeds : List Deed) (a b c : Pair) (fail : FlashFail) → AsksLast which deeds → DidAll deeds a b → OnlyAt which b c
    → Follows {A = A} [] (at_side which b) (at_side which c) (Err fail) → StoppedAt which fail deeds a c
asked_stopped which deeds a b c fail asks h only k = record {
  trace = asks.before;
  cut = record { front = asks.before; next = Asks which; rest = []; last = []; plan = asks.is; is = sym (append-nil asks.before); failed = asking };
  here = subst (λ (ops : List Operation). Failed fail ops (at_side which a) (at_side which c)) (append-nil (side_ops which deeds) ∙ same which)
      (Failed-then fail (side_ops which deeds) [] (at_side which a) (at_side which b) (at_side which c) (h.each which)
      (subst (λ (ops : List Operation). Failed fail ops (at_side which b) (at_side which c)) (none_added (now (at_side which b)) k.part.added k.part.part) (Failed-of [] (at_side which b) (at_side which c) fail k)));
  there = subst (λ (ops : List Operation). Did ops (at_side (other_side which) a) (at_side (other_side which) c)) (same (other_side which))
      (subst (λ (d : FlashState). Did (side_ops (other_side which) deeds) (at_side (other_side which) a) d) (sym only) (h.each (other_side which)));
}
  where
    same : (s : Side) → side_ops s deeds ≡ side_ops s asks.before
    same s = ap (λ (xs : List Deed). side_ops s xs) asks.is ∙ side_ops-append s asks.before (Asks which ∷ []) ∙ append-nil (side_ops s asks.before)
