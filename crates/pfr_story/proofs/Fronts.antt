-- The moves that were made of a plan which was done whole or cut short, and the operations of a bank by which they begin.
use Rattle.std.proofs.Common.{◌≡◌, ◌∙◌, refl, sym, ap, subst, List, [], ◌∷◌, ◌++◌, ◌⊎◌, inl, inr, Some, append_assoc}
use Rattle.std.proofs.lemmas.List.{append-nil}
use Rattle.pfr_flash.specs.Operation.{Operation, IsTorn}
use Rattle.pfr_flash.specs.Plan.{IsPart}
use Rattle.pfr_flash.specs.declared.names.Bank.{Bank}
use Rattle.pfr_flash.specs.declared.names.Bank.TheVariants as bank
use Rattle.pfr_flash.specs.declared.names.Counts.{Counts}
use Rattle.pfr_flash.specs.declared.names.Device.{Device}
use Rattle.pfr_flash.specs.declared.names.Device.TheVariants as device
use Rattle.pfr_flash.specs.declared.flash.FlashFail.{FlashFail}
use Rattle.pfr_flash.specs.declared.flash.FlashFail.TheVariants.{Fault, Lost as Loses}
use Rattle.pfr_flash.proofs.PlayLemmas.{play_push}
use Rattle.pfr_engine.specs.Acceptance.{Acceptance}
use Rattle.pfr_strokes.specs.Deeds.{Deed, Asks as AsksSide, Does as DoesSide, side_ops}
use Rattle.pfr_strokes.specs.declared.side.Side.TheVariants as side
use Rattle.pfr_report.specs.declared.note.What.{What}
use Rattle.pfr_report.specs.declared.note.What.TheVariants as what
use Rattle.pfr_story.specs.Course.{Crosses, Faults, LosesPower, Steps, lost}
use Rattle.pfr_story.specs.Deeds.{deed_moves, device_at}
use Rattle.pfr_story.specs.Goes.{Stopped}
use Rattle.pfr_story.specs.Plans.{brought_up}
use Rattle.pfr_story.specs.Safety.{AllMake}
use Rattle.pfr_story.specs.Story.{Past, Story, Move, Says, Does, Asks, after, moved_by, noted, operated, with_op, past_at, image_at, image_of, device_of, FailedAt, asking, unbegun, torn, IsCut}
use Rattle.pfr_story.specs.Turn.{fault_of, bank_stretch}
use Rattle.pfr_story.specs.World.{World, story_of}
use Rattle.pfr_story.proofs.BringRules.{IsOwn}
use Rattle.pfr_story.proofs.Facts.{IsNoFailure, brought_makes}
use Rattle.pfr_story.proofs.SafetyLaws.{cut_makes}
use Rattle.pfr_story.proofs.Traces.{Begins, Precedes-refl, Precedes-after, begins_at}

-- a torn operation in place of a move
abbrev pub IsTornMove : Story → Move → Move → Type 0
IsTornMove story (Does which op) (Does at done) = (at ≡ which) × IsTorn (image_at which story) op done
IsTornMove story next done = ⊥

-- ---- the device of a bank
module _ (b : Bank) where
  pub told_past : (w : Counts → What) (story : Story) → past_at (device_of b) (noted w story) ≡ past_at (device_of b) story
  told_past w story = by_bank b
    where
      by_bank : (c : Bank) → past_at (device_of c) (noted w story) ≡ past_at (device_of c) story
      by_bank bank.Bmc = refl
      by_bank bank.Pch = refl

  stored_past : (op : Operation) (story : Story) → past_at (device_of b) (operated device.Nv op story) ≡ past_at (device_of b) story
  stored_past op story = by_bank b
    where
      by_bank : (c : Bank) → past_at (device_of c) (operated device.Nv op story) ≡ past_at (device_of c) story
      by_bank bank.Bmc = refl
      by_bank bank.Pch = refl

  did_past : (op : Operation) (story : Story) → past_at (device_of b) (operated (device_of b) op story) ≡ with_op (past_at (device_of b) story) op
  did_past op story = by_bank b
    where
      by_bank : (c : Bank) → past_at (device_of c) (operated (device_of c) op story) ≡ with_op (past_at (device_of c) story) op
      by_bank bank.Bmc = refl
      by_bank bank.Pch = refl

  -- ---- moves of the other bank leave it
  pub others_past : (S : (Counts → What) → Type 0) (c : Bank) → ¬ (c ≡ b) → (moves : List Move) (story : Story) → AllMake (IsOwn c) S moves → past_at (device_of b) (after moves story) ≡ past_at (device_of b) story
  others_past S c apart [] story all = refl
  others_past S c apart (Says w ∷ moves) story all = others_past S c apart moves (noted w story) all.1 ∙ told_past w story
  others_past S c apart (Does which op ∷ moves) story all = others_past S c apart moves (operated which op story) all.1 ∙ by_device which all.0
    where
      by_bank : (c own : Bank) → ¬ (c ≡ own) → past_at (device_of own) (operated (device_of c) op story) ≡ past_at (device_of own) story
      by_bank bank.Bmc bank.Bmc other = absurd (other refl)
      by_bank bank.Bmc bank.Pch other = refl
      by_bank bank.Pch bank.Bmc other = refl
      by_bank bank.Pch bank.Pch other = absurd (other refl)

      by_device : (d : Device) → IsOwn c d → past_at (device_of b) (operated d op story) ≡ past_at (device_of b) story
      by_device d (inl e) = subst (λ (x : Device). past_at (device_of b) (operated x op story) ≡ past_at (device_of b) story) (sym e) (by_bank c b apart)
      by_device d (inr e) = subst (λ (x : Device). past_at (device_of b) (operated x op story) ≡ past_at (device_of b) story) (sym e) (stored_past op story)
  others_past S c apart (Asks which ∷ moves) story all = others_past S c apart moves story all.1

-- ---- fronts of a plan
-- IsShort: what is so wherever not all of the plan was done
module _ (IsShort : Type 0) where
  -- these moves are the first of the plan, and the last of them may be torn
  abbrev pub IsFront : List Move → Story → List Move → Type 0
  IsFront [] story [] = Unit {0}
  IsFront (next ∷ moves) story [] = IsShort
  IsFront [] story (made ∷ trace) = ⊥
  IsFront (next ∷ moves) story (made ∷ trace) = ((made ≡ next) × IsFront moves (moved_by next story) trace) ⊎ (IsShort × IsTornMove story next made × (trace ≡ []))

  pub whole_front : (moves : List Move) (story : Story) → IsFront moves story moves
  whole_front [] story = tt
  whole_front (next ∷ moves) story = inl (refl, whole_front moves (moved_by next story))

  module _ (short : IsShort) where
    failed_front : (which : Device) (next : Move) (rest last : List Move) (story : Story) → FailedAt which story next last → IsFront (next ∷ rest) story last
    failed_front which _ rest _ story asking = short
    failed_front which _ rest _ story (unbegun op) = short
    failed_front which _ rest _ story (torn op done t) = inr (short, (refl, t), refl)

    front_then : (which : Device) (front : List Move) (next : Move) (rest last : List Move) (story : Story) → FailedAt which (after front story) next last → IsFront (front ++ (next ∷ rest)) story (front ++ last)
    front_then which [] next rest last story f = failed_front which next rest last story f
    front_then which (move ∷ front) next rest last story f = inl (refl, front_then which front next rest last (moved_by move story) f)

    pub cut_front : (which : Device) (moves trace : List Move) (story : Story) → IsCut which moves story trace → IsFront moves story trace
    cut_front which moves trace story c =
        subst (λ (made : List Move). IsFront moves story made) (sym c.is)
        (subst (λ (plan : List Move). IsFront plan story (c.front ++ c.last)) (sym c.plan) (front_then which c.front c.next c.rest c.last story c.failed))

  -- ---- the operations of a device
  -- it did these, or a front of them, the last perhaps torn, before anything else
  pub record Starts (strokes : List Operation) (old new : Past) : Type 0 where
    pub ops : List Operation
    pub is : new.ops ≡ old.ops ++ ops
    pub first : ((more : List Operation) × (ops ≡ strokes ++ more)) ⊎ (IsShort × IsPart (image_of old) strokes ops)

  starts_nothing : (strokes : List Operation) (past : Past) → IsShort → Starts strokes past past
  starts_nothing strokes past short = record { ops = []; is = sym (append-nil past.ops); first = inr (short, tt) }

  starts_next : (op : Operation) (strokes : List Operation) (old new : Past) → Starts strokes (with_op old op) new → Starts (op ∷ strokes) old new
  starts_next op strokes old new s =
      record { ops = op ∷ s.ops; is = s.is ∙ append_assoc old.ops (op ∷ []) s.ops; first = by_kind s.first }
    where
      by_kind : ((more : List Operation) × (s.ops ≡ strokes ++ more)) ⊎ (IsShort × IsPart (image_of (with_op old op)) strokes s.ops)
          → ((more : List Operation) × (op ∷ s.ops ≡ op ∷ (strokes ++ more))) ⊎ (IsShort × IsPart (image_of old) (op ∷ strokes) (op ∷ s.ops))
      by_kind (inl whole) = inl (whole.0, ap (λ (ops : List Operation). op ∷ ops) whole.1)
      by_kind (inr (short, part)) = inr (short, inl (refl, subst (λ (image : _). IsPart image strokes s.ops) (play_push old.start old.ops op) part))

  starts_torn : (op done : Operation) (strokes : List Operation) (old : Past) → IsShort → IsTorn (image_of old) op done → Starts (op ∷ strokes) old (with_op old done)
  starts_torn op done strokes old short t = record { ops = done ∷ []; is = refl; first = inr (short, inr (t, refl)) }

  module _ (b : Bank) where
    abbrev pub past_of_bank : Story → Past
    past_of_bank story = past_at (device_of b) story

    -- whatever front of these moves is made
    abbrev pub Starting : List Operation → List Move → Story → Type 0
    Starting strokes moves story = (trace : List Move) → IsFront moves story trace → Starts strokes (past_of_bank story) (past_of_bank (after trace story))

    starts_from : (strokes : List Operation) (old same new : Past) → same ≡ old → Starts strokes same new → Starts strokes old new
    starts_from strokes old same new e s = subst (λ (past : Past). Starts strokes past new) e s

    pub says_first : (strokes : List Operation) (w : Counts → What) (moves : List Move) (story : Story) → Starting strokes moves (noted w story) → Starting strokes (Says w ∷ moves) story
    says_first strokes w moves story next [] short = starts_nothing strokes (past_of_bank story) short
    says_first strokes w moves story next (made ∷ trace) (inl (e, f)) =
        subst (λ (move : Move). Starts strokes (past_of_bank story) (past_of_bank (after trace (moved_by move story)))) (sym e)
        (starts_from strokes (past_of_bank story) (past_of_bank (noted w story)) (past_of_bank (after trace (noted w story))) (told_past b w story) (next trace f))
    says_first strokes w moves story next (made ∷ trace) (inr (short, t, none)) = absurd t

    pub asks_first : (strokes : List Operation) (which : Device) (moves : List Move) (story : Story) → Starting strokes moves story → Starting strokes (Asks which ∷ moves) story
    asks_first strokes which moves story next [] short = starts_nothing strokes (past_of_bank story) short
    asks_first strokes which moves story next (made ∷ trace) (inl (e, f)) =
        subst (λ (move : Move). Starts strokes (past_of_bank story) (past_of_bank (after trace (moved_by move story)))) (sym e) (next trace f)
    asks_first strokes which moves story next (made ∷ trace) (inr (short, t, none)) = absurd t

    stores_first : (strokes : List Operation) (op : Operation) (moves : List Move) (story : Story) → Starting strokes moves (operated device.Nv op story) → Starting strokes (Does device.Nv op ∷ moves) story
    stores_first strokes op moves story next [] short = starts_nothing strokes (past_of_bank story) short
    stores_first strokes op moves story next (made ∷ trace) (inl (e, f)) =
        subst (λ (move : Move). Starts strokes (past_of_bank story) (past_of_bank (after trace (moved_by move story)))) (sym e)
        (starts_from strokes (past_of_bank story) (past_of_bank (operated device.Nv op story)) (past_of_bank (after trace (operated device.Nv op story))) (stored_past b op story) (next trace f))
    stores_first strokes op moves story next (Does at done ∷ trace) (inr (short, (e, t), none)) =
        subst (λ (rest : List Move). Starts strokes (past_of_bank story) (past_of_bank (after rest (operated at done story)))) (sym none)
        (subst (λ (d : Device). Starts strokes (past_of_bank story) (past_of_bank (operated d done story))) (sym e)
        (subst (λ (past : Past). Starts strokes (past_of_bank story) past) (sym (stored_past b done story)) (starts_nothing strokes (past_of_bank story) short)))
    stores_first strokes op moves story next (Says w ∷ trace) (inr (short, t, none)) = absurd t
    stores_first strokes op moves story next (Asks at ∷ trace) (inr (short, t, none)) = absurd t

    does_first : (op : Operation) (strokes : List Operation) (moves : List Move) (story : Story) → Starting strokes moves (operated (device_of b) op story) → Starting (op ∷ strokes) (Does (device_of b) op ∷ moves) story
    does_first op strokes moves story next [] short = starts_nothing (op ∷ strokes) (past_of_bank story) short
    does_first op strokes moves story next (made ∷ trace) (inl (e, f)) =
        subst (λ (move : Move). Starts (op ∷ strokes) (past_of_bank story) (past_of_bank (after trace (moved_by move story)))) (sym e)
        (starts_next op strokes (past_of_bank story) (past_of_bank (after trace (operated (device_of b) op story)))
        (subst (λ (past : Past). Starts strokes past (past_of_bank (after trace (operated (device_of b) op story)))) (did_past b op story) (next trace f)))
    does_first op strokes moves story next (Does at done ∷ trace) (inr (short, (e, t), none)) =
        subst (λ (rest : List Move). Starts (op ∷ strokes) (past_of_bank story) (past_of_bank (after rest (operated at done story)))) (sym none)
        (subst (λ (d : Device). Starts (op ∷ strokes) (past_of_bank story) (past_of_bank (operated d done story))) (sym e)
        (subst (λ (past : Past). Starts (op ∷ strokes) (past_of_bank story) past) (sym (did_past b done story)) (starts_torn op done strokes (past_of_bank story) short t)))
    does_first op strokes moves story next (Says w ∷ trace) (inr (short, t, none)) = absurd t
    does_first op strokes moves story next (Asks at ∷ trace) (inr (short, t, none)) = absurd t

    any_front : (moves : List Move) (story : Story) → Starting [] moves story
    any_front moves story trace f =
        let begins : Begins (past_of_bank story) (past_of_bank (after trace story)) = begins_at (device_of b) story (after trace story) (Precedes-after story story trace (Precedes-refl story)) in
        record { ops = begins.more; is = begins.ops; first = inl (begins.more, refl) }

    -- deeds, whatever is behind them
    pub deeds_first : (deeds : List Deed) (more : List Move) (story : Story) → Starting (side_ops side.Bank deeds) (deed_moves b deeds ++ more) story
    deeds_first [] more story = any_front more story
    deeds_first (AsksSide s ∷ deeds) more story = asks_first (side_ops side.Bank deeds) (device_at b s) (deed_moves b deeds ++ more) story (deeds_first deeds more story)
    deeds_first (DoesSide side.Bank op ∷ deeds) more story = does_first op (side_ops side.Bank deeds) (deed_moves b deeds ++ more) story (deeds_first deeds more (operated (device_of b) op story))
    deeds_first (DoesSide side.Store op ∷ deeds) more story = stores_first (side_ops side.Bank deeds) op (deed_moves b deeds ++ more) story (deeds_first deeds more (operated device.Nv op story))

-- ---- a bank's part of a power-on
-- what was made of it, behind which the bank's device did nothing more
pub record WentOn (accepts : Acceptance) (b : Bank) (IsShort : Type 0) (at new : World) : Type 0 where
  pub trace : List Move
  pub front : IsFront IsShort (brought_up accepts b (story_of at)) (story_of at) trace
  pub past : past_at (device_of b) (story_of new) ≡ past_at (device_of b) (after trace (story_of at))

module _ (accepts : Acceptance) (b : Bank) (new : World) where
  abbrev Same : World → World → Type 0
  Same first last = past_at (device_of b) (story_of last) ≡ past_at (device_of b) (story_of first)

  by_story : (last : World) (story : Story) → story_of last ≡ story → past_at (device_of b) (story_of last) ≡ past_at (device_of b) story
  by_story last story e = ap (λ (s : Story). past_at (device_of b) s) e

  module _ (IsShort : Type 0) where
    pub crossed_on : (at mid : World) → Same mid new → Crosses (bank_stretch accepts b) at mid → WentOn accepts b IsShort at new
    crossed_on at mid same c = record {
      trace = brought_up accepts b (story_of at);
      front = whole_front IsShort (brought_up accepts b (story_of at)) (story_of at);
      past = same ∙ by_story mid (after (brought_up accepts b (story_of at)) (story_of at)) c.is;
    }

    module _ (short : IsShort) where
      pub faulted_on : (at mid : World) → Same mid new → Faults (bank_stretch accepts b) at mid → WentOn accepts b IsShort at new
      faulted_on at mid same f = record {
        trace = f.stopped.trace;
        front = cut_front IsShort short f.which (brought_up accepts b (story_of at)) f.stopped.trace (story_of at) f.stopped.cut;
        past = same ∙ by_story mid (after ((bank_stretch accepts b).on_fault f.which) (story_of f.at)) f.noted.is ∙ told_past b (what.Locked b (fault_of f.which)) (story_of f.at) ∙ by_story f.at (after f.stopped.trace (story_of at)) f.stopped.is;
      }

      pub lost_on : (at : World) → LosesPower (bank_stretch accepts b) at new → WentOn accepts b IsShort at new
      lost_on at l = record {
        trace = l.stopped.trace;
        front = cut_front IsShort short l.which (brought_up accepts b (story_of at)) l.stopped.trace (story_of at) l.stopped.cut;
        past = by_story new (after (lost l.which) (story_of l.at)) l.noted.is ∙ told_past b (what.Lost (Some l.which)) (story_of l.at) ∙ by_story l.at (after l.stopped.trace (story_of at)) l.stopped.is;
      }

  -- the other bank's part leaves it
  module _ (c : Bank) (apart : ¬ (c ≡ b)) where
    stopped_same : (which : Device) (fail : FlashFail) (mid at : World) → Stopped (brought_up accepts c (story_of mid)) which fail mid at → Same mid at
    stopped_same which fail mid at s =
        by_story at (after s.trace (story_of mid)) s.is
        ∙ others_past b IsNoFailure c apart s.trace (story_of mid) (cut_makes (IsOwn c) IsNoFailure which (brought_up accepts c (story_of mid)) s.trace (story_of mid) (brought_makes accepts c (story_of mid)) s.cut).1

    pub others_same : (mid : World) → Steps (bank_stretch accepts c ∷ []) mid new → Same mid new
    others_same mid (inl (end, crossed, ends)) =
        by_story new (story_of end) ends.is ∙ by_story end (after (brought_up accepts c (story_of mid)) (story_of mid)) crossed.is
        ∙ others_past b IsNoFailure c apart (brought_up accepts c (story_of mid)) (story_of mid) (brought_makes accepts c (story_of mid))
    others_same mid (inr (inl (end, f, ends))) =
        by_story new (story_of end) ends.is ∙ by_story end (after ((bank_stretch accepts c).on_fault f.which) (story_of f.at)) f.noted.is ∙ told_past b (what.Locked c (fault_of f.which)) (story_of f.at) ∙ stopped_same f.which Fault mid f.at f.stopped
    others_same mid (inr (inr l)) = by_story new (after (lost l.which) (story_of l.at)) l.noted.is ∙ told_past b (what.Lost (Some l.which)) (story_of l.at) ∙ stopped_same l.which Loses mid l.at l.stopped
