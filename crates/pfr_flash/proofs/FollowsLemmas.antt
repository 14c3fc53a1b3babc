-- Calls that follow a plan, and such calls in a row.
use Rattle.std.proofs.Common.{◌≡◌, ℕ, List, [], ◌∷◌, ◌++◌, refl, sym, ap, ◌∙◌, subst, Some, Result, Ok, Err, append_assoc, inl, inr, Bool, false}
use Rattle.std.proofs.lemmas.Bool.{cond_both}
use Rattle.std.proofs.lemmas.List.{append-nil}
use Rattle.pfr_flash.specs.Operation.{Operation, applied, play}
use Rattle.pfr_flash.specs.FlashState.{FlashState, now}
use Rattle.pfr_flash.specs.Flash.{Does}
use Rattle.pfr_flash.specs.Moved.{was_done}
use Rattle.pfr_flash.specs.Reading.{OnlyReads, EndsAt, failed_by}
use Rattle.pfr_flash.specs.Plan.{IsPart, DoesPart, with_ops, FailsWorking, Follows}
use Rattle.pfr_flash.specs.Range.{AllWithin, SameOutside}
use Rattle.pfr_flash.specs.declared.flash.FlashFail.{FlashFail}
use Rattle.pfr_flash.specs.declared.flash.FlashFail.TheVariants.{Fault, Lost}
use Rattle.pfr_flash.proofs.MovedLemmas.{Worked-refl, Worked-trans}
use Rattle.pfr_flash.proofs.EndsLemmas.{ends_reads}
use Rattle.pfr_flash.proofs.PlanLemmas.{IsPart-none, IsPart-after, now-added, DoesPart-none, DoesPart-whole, DoesPart-err, DoesPart-outside}

-- ---- a plan with more behind it
pub IsPart-more : (image : List ℕ) (plan more added : List Operation) → IsPart image plan added → IsPart image (plan ++ more) added
IsPart-more image plan more [] h = IsPart-none image (plan ++ more)
IsPart-more image [] more (op ∷ ops) h = absurd h
IsPart-more image (next ∷ plan) more (op ∷ ops) (inl whole) = inl (whole.0, IsPart-more (applied image next) plan more ops whole.1)
IsPart-more image (next ∷ plan) more (op ∷ ops) (inr torn) = inr torn

-- what was done goes before what is done later
pub DoesPart-then : (first plan : List Operation) (old middle new : FlashState) → middle.start ≡ old.start → middle.ops ≡ old.ops ++ first
    → DoesPart plan middle new → DoesPart (first ++ plan) old new
DoesPart-then first plan old middle new start ops h = record {
  added = first ++ h.added;
  is = h.is ∙ ap (λ (o : List Operation). o ++ h.added) ops ∙ append_assoc old.ops first h.added;
  part = IsPart-after (now old) first plan h.added (subst (λ (image : List ℕ). IsPart image plan h.added) (now-added old middle first start ops) h.part);
}

-- ---- how a call failed
-- what was done before without a fault changes nothing of it
pub FailsWorking-later : (f : FlashFail) (a b c : FlashState) → b.faults ≡ a.faults → FailsWorking f b c → FailsWorking f a c
FailsWorking-later Fault a b c e h = rw e at h
FailsWorking-later Lost a b c e h = (h.0, h.1 ∙ e)

-- ---- one call
-- nothing to do
pub Follows-none : {A : Type 0} (d : FlashState) (x : A) → Follows {A = A} [] d d (Ok x)
Follows-none d x = record { ok = sym (append-nil d.ops); on = refl; whole = ap (λ (ops : List Operation). record d { ops = ops }) (sym (append-nil d.ops)); part = DoesPart-none [] d; failed = tt; still = tt; worked = Worked-refl d }

none_added : (old new : FlashState) → OnlyReads old new → DoesPart [] old new
none_added old new h = record { added = []; is = h.ops ∙ sym (append-nil old.ops); part = tt }

pub FailsWorking-reading : (f : FlashFail) (old new : FlashState) → EndsAt (Some f) old new → FailsWorking f old new
FailsWorking-reading Fault old new h = ap (λ (d : FlashState). d.faults) h.leaves
FailsWorking-reading Lost old new h = (ap (λ (d : FlashState). d.powered) h.leaves ∙ h.can, ap (λ (d : FlashState). d.faults) h.leaves)

-- a call that only reads
pub Follows-reads : {A : Type 0} (old new : FlashState) (result : Result A FlashFail) → EndsAt (failed_by (λ fail. Some fail) result) old new → Follows [] old new result
Follows-reads old new (Ok x) h =
    let reads : OnlyReads old new = ends_reads h in
    record {
      ok = reads.ops ∙ sym (append-nil old.ops);
      on = reads.powered;
      whole = h.leaves ∙ ap (λ (ops : List Operation). record old { ops = ops; taken = new.taken }) (sym (append-nil old.ops));
      part = none_added old new reads;
      failed = tt;
      still = tt;
      worked = reads.worked;
    }
Follows-reads old new (Err f) h =
    let reads : OnlyReads old new = ends_reads h in
    record { ok = tt; on = tt; whole = tt; part = none_added old new reads; failed = FailsWorking-reading f old new h; still = λ e. reads.powered; worked = reads.worked }

-- an erase or a program
fault_is_no_loss : (r : Result (Unit {0}) FlashFail) → r ≡ Err Fault → r ≡ Err Lost → ⊥
fault_is_no_loss r e f = cc

still_on : (op : Operation) (old new : FlashState) (f : FlashFail) → Does op old new (Err f) → f ≡ Fault → new.powered ≡ old.powered
still_on op old new Fault h e = cond_both (was_done old new old.cut_due) false old.powered (λ (on : Bool). new.powered ≡ on → new.powered ≡ old.powered)
    (λ lost off. absurd (fault_is_no_loss (Err Fault) refl (h.lost.1 off))) (λ kept same. same) h.worked.powered
still_on op old new Lost h e = absurd (fault_is_no_loss (Err Lost) (ap (λ (g : FlashFail). Err g) e) refl)

pub Follows-does : (op : Operation) (old new : FlashState) (result : Result (Unit {0}) FlashFail) → Does op old new result → Follows (op ∷ []) old new result
Follows-does op old new (Ok u) h = record {
  ok = ap (λ (d : FlashState). d.ops) h.ok;
  on = ap (λ (d : FlashState). d.powered) h.ok;
  whole = h.ok ∙ ap (λ (n : ℕ). record (with_ops old (op ∷ [])) { taken = n }) (sym (ap (λ (d : FlashState). d.taken) h.ok));
  part = DoesPart-whole (op ∷ []) old new h.ok;
  failed = tt;
  still = tt;
  worked = h.worked;
}
Follows-does op old new (Err f) h = record { ok = tt; on = tt; whole = tt; part = DoesPart-err op [] old new f h; failed = h.failed; still = still_on op old new f h; worked = h.worked }

-- ---- calls in a row
-- the first was done, and then the next
pub Follows-then : {A B : Type 0} (plan next : List Operation) (a b c : FlashState) (x : A) (result : Result B FlashFail)
    → Follows {A = A} plan a b (Ok x) → Follows next b c result → Follows (plan ++ next) a c result
Follows-then plan next a b c x (Ok y) h k = record {
  ok = k.ok ∙ ap (λ (o : List Operation). o ++ next) h.ok ∙ append_assoc a.ops plan next;
  on = k.on ∙ h.on;
  whole = k.whole ∙ ap (λ (d : FlashState). record d { ops = d.ops ++ next; taken = c.taken }) h.whole ∙ ap (λ (ops : List Operation). record a { ops = ops; taken = c.taken }) (append_assoc a.ops plan next);
  part = DoesPart-then plan next a b c h.worked.moved.start h.ok k.part;
  failed = tt;
  still = tt;
  worked = Worked-trans a b c h.worked k.worked;
}
Follows-then plan next a b c x (Err f) h k = record {
  ok = tt;
  on = tt;
  whole = tt;
  part = DoesPart-then plan next a b c h.worked.moved.start h.ok k.part;
  failed = FailsWorking-later f a b c (ap (λ (d : FlashState). d.faults) h.whole) k.failed;
  still = λ e. k.still e ∙ h.on;
  worked = Worked-trans a b c h.worked k.worked;
}

-- the first failed, and no more was done
pub Follows-first : {A B : Type 0} (plan next : List Operation) (a b : FlashState) (f : FlashFail)
    → Follows {A = A} plan a b (Err f) → Follows {A = B} (plan ++ next) a b (Err f)
Follows-first plan next a b f h = record {
  ok = tt;
  on = tt;
  whole = tt;
  part = record { added = h.part.added; is = h.part.is; part = IsPart-more (now a) plan next h.part.added h.part.part };
  failed = h.failed;
  still = h.still;
  worked = h.worked;
}

-- the operation was done, and then the rest
pub Follows-step : {B : Type 0} (op : Operation) (plan : List Operation) (a b c : FlashState) (done : Result (Unit {0}) FlashFail) (u : Unit {0}) (result : Result B FlashFail)
    → Does op a b done → done ≡ Ok u → Follows plan b c result → Follows (op ∷ plan) a c result
Follows-step op plan a b c done u result h e k =
    let first : Follows (op ∷ []) a b (Ok u) = subst (λ (r : Result (Unit {0}) FlashFail). Follows (op ∷ []) a b r) e (Follows-does op a b done h) in
    Follows-then (op ∷ []) plan a b c u result first k

-- the operation failed, and no more was done
pub Follows-stop : {B : Type 0} (op : Operation) (plan : List Operation) (a b : FlashState) (done : Result (Unit {0}) FlashFail) (f : FlashFail) (result : Result B FlashFail)
    → Does op a b done → done ≡ Err f → result ≡ Err f → Follows (op ∷ plan) a b result
Follows-stop op plan a b done f result h e is =
    let first : Follows {A = Unit {0}} (op ∷ []) a b (Err f) = subst (λ (r : Result (Unit {0}) FlashFail). Follows (op ∷ []) a b r) e (Follows-does op a b done h) in
    rw is (Follows-first (op ∷ []) plan a b f first)

-- what is answered besides does not matter
pub Follows-gives : {A B : Type 0} (plan : List Operation) (a b : FlashState) (x : A) (y : B) → Follows {A = A} plan a b (Ok x) → Follows {A = B} plan a b (Ok y)
Follows-gives plan a b x y h = record { ok = h.ok; on = h.on; whole = h.whole; part = h.part; failed = tt; still = tt; worked = h.worked }

-- ---- the bytes
-- at Ok they are those that the plan leaves
pub Follows-now : {A : Type 0} (plan : List Operation) (old new : FlashState) (x : A) → Follows {A = A} plan old new (Ok x) → now new ≡ play (now old) plan
Follows-now plan old new x h = now-added old new plan h.worked.moved.start h.ok

-- and always those that a part of it leaves
pub DoesPart-now : (plan : List Operation) (old new : FlashState) → new.start ≡ old.start → (h : DoesPart plan old new) → now new ≡ play (now old) h.added
DoesPart-now plan old new start h = now-added old new h.added start h.is

-- the bytes outside of the plan's range stay
pub Follows-outside : {A : Type 0} (from len : ℕ) (plan : List Operation) (old new : FlashState) (result : Result A FlashFail) → AllWithin from len plan → Follows plan old new result
    → SameOutside from len (now old) (now new)
Follows-outside from len plan old new result within h = DoesPart-outside from len plan old new within h.worked.moved.start h.part
