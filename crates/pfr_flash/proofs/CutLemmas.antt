-- What holds of a plan that is cut, the last operation perhaps torn.
use Rattle.std.proofs.Common.{◌≡◌, ℕ, zero, suc, ◌+◌, ◌-◌, ◌≤◌, List, [], ◌∷◌, length, take, sym, ap, ◌∙◌, subst, arith, length-append, inl, inr}
use Rattle.std.specs.List.{AllByRecursion}
use Rattle.std.proofs.Math.Seq.{take-nil}
use Rattle.pfr_flash.specs.Operation.{Operation, Erase, Program, Torn, applied, play, IsTorn}
use Rattle.pfr_flash.specs.FlashState.{FlashState, now, upto, op_count_of}
use Rattle.pfr_flash.specs.Losing.{AddsAtMost}
use Rattle.pfr_flash.specs.Plan.{IsPart, DoesPart}
use Rattle.pfr_flash.specs.Range.{OnlyClears}
use Rattle.pfr_flash.proofs.PlayLemmas.{length-applied}
use Rattle.pfr_flash.proofs.RangeLemmas.{OnlyClears-refl, OnlyClears-program, OnlyClears-torn, then_clears}
use Rattle.pfr_flash.proofs.StateLemmas.{upto_from, IsPart-take}

-- ---- a part of a plan, an operation at a time
pub part_step : (P : List ℕ → Type 0) (image : List ℕ) (op : Operation) (plan added : List Operation) → IsPart image (op ∷ plan) added → P image
    → ((done : Operation) → IsTorn image op done → P (applied image done)) → ((ops : List Operation) → IsPart (applied image op) plan ops → P (play (applied image op) ops))
    → P (play image added)
part_step P image op plan [] h none torn rest = none
part_step P image op plan (done ∷ ops) (inl whole) none torn rest = subst (λ (o : Operation). P (play (applied image o) ops)) (sym whole.0) (rest ops whole.1)
part_step P image op plan (done ∷ ops) (inr t) none torn rest = subst (λ (o : List Operation). P (play (applied image done) o)) (sym t.1) (torn done t.0)

-- nothing is part of an empty plan but nothing
pub part_end : (P : List ℕ → Type 0) (image : List ℕ) (added : List Operation) → IsPart image [] added → P image → P (play image added)
part_end P image [] h p = p
part_end P image (op ∷ ops) h p = absurd h

-- what holds after each part of a plan holds at each count
pub at_each : (P : List ℕ → Type 0) (plan : List Operation) (old new : FlashState) → new.start ≡ old.start → DoesPart plan old new
    → ((added : List Operation) → IsPart (now old) plan added → P (play (now old) added)) → (n : ℕ) → op_count_of old ≤ n → P (upto new n)
at_each P plan old new start h each n le =
    subst P (sym (upto_from old new h.added n start h.is le)) (each (take (n - op_count_of old) h.added) (IsPart-take (now old) plan h.added (n - op_count_of old) h.part))

-- what holds from each image to the one that an operation leaves, whole or torn, holds between any two moments of a plan
module _ (R : List ℕ → List ℕ → Type 0) (total : ℕ) (Q : Operation → Type 0) (same : (image : List ℕ) → R image image) (then : (x y z : List ℕ) → R x y → R y z → R x z)
    (whole : (image : List ℕ) (op : Operation) → length image ≡ total → Q op → R image (applied image op))
    (torn : (image : List ℕ) (op done : Operation) → length image ≡ total → Q op → IsTorn image op done → R image (applied image done)) where
  from_first : (image : List ℕ) (plan added : List Operation) → length image ≡ total → AllByRecursion Q plan → IsPart image plan added → R image (play image added)
  from_first image [] added size h p = part_end (λ (after : List ℕ). R image after) image added p (same image)
  from_first image (op ∷ plan) added size h p =
      part_step (λ (after : List ℕ). R image after) image op plan added p (same image) (λ done t. torn image op done size h.0 t)
      (λ ops q. then _ _ _ (whole image op size h.0) (from_first (applied image op) plan ops (length-applied image op ∙ size) h.1 q))

  pub between : (image : List ℕ) (plan added : List Operation) (i j : ℕ) → length image ≡ total → AllByRecursion Q plan → IsPart image plan added → i ≤ j
      → R (play image (take i added)) (play image (take j added))
  between image plan added zero j size h p le = from_first image plan (take j added) size h (IsPart-take image plan added j p)
  between image plan added (suc i) zero size h p le = absurd (omega arith)
  between image plan [] (suc i) (suc j) size h p le = same image
  between image [] (op ∷ ops) (suc i) (suc j) size h p le = absurd p
  between image (next ∷ plan) (op ∷ ops) (suc i) (suc j) size h (inl done) le =
      subst (λ (o : Operation). R (play (applied image o) (take i ops)) (play (applied image o) (take j ops))) (sym done.0)
      (between (applied image next) plan ops i j (length-applied image next ∙ size) h.1 done.1 (omega arith))
  between image (next ∷ plan) (op ∷ ops) (suc i) (suc j) size h (inr cut) le = rw (cut.1, take-nil {A = Operation} i, take-nil {A = Operation} j) (same (applied image op))

-- ---- plans that only program
abbrev pub IsProgram : ℕ → Operation → Type 0
IsProgram size (Erase sector) = ⊥
IsProgram size (Program at bytes) = at + length bytes ≤ size
IsProgram size (Torn at after) = ⊥

abbrev pub AllPrograms : ℕ → List Operation → Type 0
AllPrograms size plan = AllByRecursion (IsProgram size) plan

pub program_clears : (size : ℕ) (image : List ℕ) (op : Operation) → length image ≡ size → IsProgram size op → OnlyClears image (applied image op)
program_clears size image (Erase sector) e h = absurd h
program_clears size image (Program at bytes) e h = OnlyClears-program image at bytes (omega (arith, e, h))
program_clears size image (Torn at after) e h = absurd h

pub torn_clears : (size : ℕ) (image : List ℕ) (op done : Operation) → IsProgram size op → IsTorn image op done → OnlyClears image (applied image done)
torn_clears size image (Erase sector) done h t = absurd h
torn_clears size image (Program at bytes) done h t = OnlyClears-torn image at bytes done t
torn_clears size image (Torn at after) done h t = absurd h

-- between any two moments of such a plan bits are only cleared
pub clears_between : (size : ℕ) (image : List ℕ) (plan added : List Operation) (i j : ℕ) → length image ≡ size → AllPrograms size plan → IsPart image plan added → i ≤ j
    → OnlyClears (play image (take i added)) (play image (take j added))
clears_between size = between OnlyClears size (IsProgram size) OnlyClears-refl (λ x y z h k. then_clears h k)
    (program_clears size) (λ image op done e h t. torn_clears size image op done h t)

-- ---- how many operations there are
-- no more than the plan has
pub part_length : (image : List ℕ) (plan added : List Operation) → IsPart image plan added → length added ≤ length plan
part_length image plan [] h = omega arith
part_length image [] (op ∷ ops) h = absurd h
part_length image (next ∷ plan) (op ∷ ops) (inl whole) = omega (arith, part_length (applied image next) plan ops whole.1)
part_length image (next ∷ plan) (op ∷ ops) (inr torn) = omega (arith, ap length torn.1)

pub AddsAtMost-plan : (count : ℕ) (plan : List Operation) (old new : FlashState) → DoesPart plan old new → length plan ≤ count → AddsAtMost count old new
AddsAtMost-plan count plan old new h few =
    let all : op_count_of new ≡ op_count_of old + length h.added = ap (λ (ops : List Operation). length ops) h.is ∙ length-append old.ops h.added in
    omega (arith, all, part_length (now old) plan h.added h.part, few)
