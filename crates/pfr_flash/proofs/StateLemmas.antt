-- What follows for a device from what its calls do.
use Rattle.std.proofs.Common.{◌≡◌, ℕ, zero, suc, ◌+◌, ◌-◌, ◌≤◌, Bool, true, false, List, [], ◌∷◌, ◌++◌, take, refl, sym, ap, ◌∙◌, arith, inl, inr}
use Rattle.std.proofs.lemmas.Bool.{cond_both}
use Rattle.std.proofs.Math.Seq.{take-nil, take-append-add}
use Rattle.std.proofs.lemmas.List.{take-append-le}
use Rattle.pfr_flash.specs.Operation.{Operation, applied, play}
use Rattle.pfr_flash.specs.FlashState.{FlashState, now, upto, op_count_of}
use Rattle.pfr_flash.specs.Moved.{Extends, was_done, Moved, Worked, none}
use Rattle.pfr_flash.specs.Plan.{IsPart}
use Rattle.pfr_flash.proofs.PlayLemmas.{play-append}
use Rattle.pfr_flash.proofs.DoesLemmas.{moved_still}
use Rattle.pfr_flash.proofs.PlanLemmas.{IsPart-none}

-- ---- power
pub Moved-power : (d : FlashState) (on : Bool) → Moved d (record d { powered = on })
Moved-power d on = moved_still d on d.faults d.taken d.read_due (omega arith) (inl refl) (none refl)

-- a device that was on and is off now lost its power once
pub Worked-lost : (old new : FlashState) → Worked old new → old.powered ≡ true → new.powered ≡ false → new.losses ≡ old.losses + 1
Worked-lost old new h on off = cond_both (was_done old new old.cut_due) (old.losses + 1) old.losses (λ (n : ℕ). new.losses ≡ n → new.losses ≡ old.losses + 1)
    (λ done is. is) (λ not_done is. let still : new.powered ≡ old.powered = rw not_done at h.powered in cc) h.moved.losses

-- ---- the bytes at each moment
-- operations that are added leave what was before
pub upto-Extends : (old new : FlashState) (k : ℕ) → new.start ≡ old.start → Extends old.ops new.ops → k ≤ op_count_of old → upto new k ≡ upto old k
upto-Extends old new k start more le =
    let front : take k new.ops ≡ take k old.ops = ap (λ (ops : List Operation). take k ops) more.is ∙ take-append-le k old.ops more.more le in
    ap (λ (s : List ℕ). play s (take k new.ops)) start ∙ ap (λ (ops : List Operation). play old.start ops) front

-- in between, it is what the first ones of those that are added leave
pub upto-added : (old new : FlashState) (added : List Operation) (j : ℕ) → new.start ≡ old.start → new.ops ≡ old.ops ++ added
    → upto new (op_count_of old + j) ≡ play (now old) (take j added)
upto-added old new added j start ops =
    ap (λ (s : List ℕ). play s (take (op_count_of old + j) new.ops)) start
    ∙ ap (λ (all : List Operation). play old.start (take (op_count_of old + j) all)) ops
    ∙ ap (λ (all : List Operation). play old.start all) (take-append-add old.ops added j)
    ∙ play-append old.start old.ops (take j added)

-- the same at a count
pub upto_from : (old new : FlashState) (added : List Operation) (n : ℕ) → new.start ≡ old.start → new.ops ≡ old.ops ++ added → op_count_of old ≤ n
    → upto new n ≡ play (now old) (take (n - op_count_of old) added)
upto_from old new added n start ops le =
    let more : op_count_of old + (n - op_count_of old) ≡ n = omega arith in
    ap (λ (k : ℕ). upto new k) (sym more) ∙ upto-added old new added (n - op_count_of old) start ops

-- the first ones of a part are a part
pub IsPart-take : (image : List ℕ) (plan added : List Operation) (j : ℕ) → IsPart image plan added → IsPart image plan (take j added)
IsPart-take image plan added zero h = IsPart-none image plan
IsPart-take image plan [] (suc j) h = IsPart-none image plan
IsPart-take image [] (op ∷ ops) (suc j) h = absurd h
IsPart-take image (next ∷ plan) (op ∷ ops) (suc j) (inl whole) = inl (whole.0, IsPart-take (applied image next) plan ops j whole.1)
IsPart-take image (next ∷ plan) (op ∷ ops) (suc j) (inr torn) = inr (torn.0, rw torn.1 (take-nil j))
