-- The world moved by good moves.
use Rattle.std.proofs.Common.{◌≡◌, ◌∙◌, refl, sym, ap, subst, arith, ℕ, ◌≤◌, List, [], ◌∷◌, ◌++◌, length, length-append, take, drop, append_assoc, ◌⊎◌, inl, inr}
use Rattle.std.proofs.lemmas.List.{append-nil, take_all, take-append-le}
use Rattle.std.proofs.Math.Seq.{drop-append_seam}
use Rattle.pfr_flash.specs.Bytes.{AreBytes}
use Rattle.pfr_flash.specs.FlashState.{FlashState}
use Rattle.pfr_flash.specs.Moved.{Moved}
use Rattle.pfr_flash.specs.Operation.{Operation, play, play_first}
use Rattle.pfr_flash.specs.declared.flash.FlashFail.{FlashFail}
use Rattle.pfr_flash.specs.declared.names.Counts.{Counts}
use Rattle.pfr_flash.specs.declared.names.Device.{Device}
use Rattle.pfr_flash.specs.declared.names.Device.TheVariants as device
use Rattle.pfr_report.specs.Texts.{IsNoted}
use Rattle.pfr_report.specs.declared.note.Note.{Note}
use Rattle.pfr_report.specs.declared.note.What.{What}
use Rattle.pfr_report.specs.declared.note.What.TheVariants as what
use Rattle.pfr_story.specs.Story.{Past, Story, Move, Says, Does, Asks, after, moved_by, noted, with_op, operated, counts_of, past_at, image_at, image_of, called}
use Rattle.pfr_story.specs.World.{World, past_of, story_of, AllMoved, added}
use Rattle.pfr_story.specs.Goes.{Ran, Stopped}
use Rattle.pfr_story.specs.Safety.{Rule, AllGood, AllSafe, Keeps}
use Rattle.pfr_story.specs.Promises.{NotBefore}
use Rattle.pfr_story.proofs.WorldLaws.{AllMoved-trans}
use Rattle.pfr_story.proofs.Sequence.{after-append}
use Rattle.pfr_story.proofs.SafetyLaws.{AllGood-append, safe_whole, safe_cut, kept_by, notes_operated, called_any}

pub record Traced (G : Rule) (old new : World) : Type 0 where
  pub trace : List Move
  pub is : story_of new ≡ after trace (story_of old)
  pub good : AllGood G trace (story_of old)
  pub moved : AllMoved old new

module _ (G : Rule) where
  pub Traced-then : (a b c : World) → Traced G a b → Traced G b c → Traced G a c
  Traced-then a b c p q = record {
    trace = p.trace ++ q.trace;
    is = q.is ∙ ap (λ (s : Story). after q.trace s) p.is ∙ sym (after-append p.trace q.trace (story_of a));
    good = AllGood-append G p.trace q.trace (story_of a) p.good (subst (λ (s : Story). AllGood G q.trace s) p.is q.good);
    moved = AllMoved-trans a b c p.moved q.moved;
  }

  pub Traced-ran : (moves : List Move) (a b : World) → Ran moves a b → AllGood G moves (story_of a) → Traced G a b
  Traced-ran moves a b p good = record { trace = moves; is = p.is; good = good; moved = p.moved }

  -- a safe plan, done whole or cut short
  pub Traced-whole : (moves : List Move) (a b : World) → Ran moves a b → AllSafe G moves (story_of a) → Traced G a b
  Traced-whole moves a b p safe = Traced-ran moves a b p (safe_whole G moves (story_of a) safe)

  pub Traced-cut : (moves : List Move) (which : Device) (fail : FlashFail) (a b : World) → Stopped moves which fail a b → AllSafe G moves (story_of a) → Traced G a b
  Traced-cut moves which fail a b p safe = record { trace = p.trace; is = p.is; good = safe_cut G which moves p.trace (story_of a) safe p.cut; moved = p.moved }

  pub Traced-keeps : (I : Story → Type 0) → Keeps G I → (a b : World) → Traced G a b → I (story_of a) → I (story_of b)
  Traced-keeps I k a b p i = subst I (sym p.is) (kept_by G I k p.trace (story_of a) p.good i)

-- ---- what was before stays
-- the operations of a device so far are the first ones of it later
pub record Begins (a b : Past) : Type 0 where
  pub start : b.start ≡ a.start
  pub more : List Operation
  pub ops : b.ops ≡ a.ops ++ more

pub record Precedes (a b : Story) : Type 0 where
  pub bmc : Begins a.bmc b.bmc
  pub pch : Begins a.pch b.pch
  pub nv : Begins a.nv b.nv

Begins-refl : (a : Past) → Begins a a
Begins-refl a = record { start = refl; more = []; ops = sym (append-nil a.ops) }

Begins-op : (a b : Past) (op : Operation) → Begins a b → Begins a (with_op b op)
Begins-op a b op p = record {
  start = p.start;
  more = p.more ++ op ∷ [];
  ops = ap (λ (ops : List Operation). ops ++ op ∷ []) p.ops ∙ append_assoc a.ops p.more (op ∷ []);
}

pub begins_at : (d : Device) (a b : Story) → Precedes a b → Begins (past_at d a) (past_at d b)
begins_at device.Bmc a b p = p.bmc
begins_at device.Pch a b p = p.pch
begins_at device.Nv a b p = p.nv

pub Precedes-refl : (a : Story) → Precedes a a
Precedes-refl a = record { bmc = Begins-refl a.bmc; pch = Begins-refl a.pch; nv = Begins-refl a.nv }

pub Precedes-move : (a b : Story) (move : Move) → Precedes a b → Precedes a (moved_by move b)
Precedes-move a b (Says what) p = record { bmc = p.bmc; pch = p.pch; nv = p.nv }
Precedes-move a b (Does device.Bmc op) p = record { bmc = Begins-op a.bmc b.bmc op p.bmc; pch = p.pch; nv = p.nv }
Precedes-move a b (Does device.Pch op) p = record { bmc = p.bmc; pch = Begins-op a.pch b.pch op p.pch; nv = p.nv }
Precedes-move a b (Does device.Nv op) p = record { bmc = p.bmc; pch = p.pch; nv = Begins-op a.nv b.nv op p.nv }
Precedes-move a b (Asks which) p = p

pub Precedes-after : (a b : Story) (moves : List Move) → Precedes a b → Precedes a (after moves b)
Precedes-after a b [] p = p
Precedes-after a b (move ∷ moves) p = Precedes-after a (moved_by move b) moves (Precedes-move a b move p)

begins_trans : (a b c : Past) → Begins a b → Begins b c → Begins a c
begins_trans a b c p q = record {
  start = q.start ∙ p.start;
  more = p.more ++ q.more;
  ops = q.ops ∙ ap (λ (ops : List Operation). ops ++ q.more) p.ops ∙ append_assoc a.ops p.more q.more;
}

pub Precedes-trans : (a b c : Story) → Precedes a b → Precedes b c → Precedes a c
Precedes-trans a b c p q = record { bmc = begins_trans a.bmc b.bmc c.bmc p.bmc q.bmc; pch = begins_trans a.pch b.pch c.pch p.pch q.pch; nv = begins_trans a.nv b.nv c.nv p.nv q.nv }

-- so no device had done fewer operations then
begins_fewer : (a b : Past) → Begins a b → length a.ops ≤ length b.ops
begins_fewer a b p = omega (arith, ap (λ (ops : List Operation). length ops) p.ops, length-append a.ops p.more)

pub not_before : (a b : Story) → Precedes a b → NotBefore (counts_of a) (counts_of b)
not_before a b p = record { bmc = begins_fewer a.bmc b.bmc p.bmc; pch = begins_fewer a.pch b.pch p.pch; nv = begins_fewer a.nv b.nv p.nv }

-- what a device held at a moment, by its count then
pub upto_begins : (a b : Past) → Begins a b → play_first (length a.ops) b.start b.ops ≡ image_of a
upto_begins a b p =
    let front : take (length a.ops) b.ops ≡ a.ops =
    ap (λ (ops : List Operation). take (length a.ops) ops) p.ops
    ∙ take-append-le (length a.ops) a.ops p.more (omega arith) ∙ take_all (length a.ops) a.ops (omega arith) in
    ap (λ (start : List ℕ). play start (take (length a.ops) b.ops)) p.start ∙ ap (λ (ops : List Operation). play a.start ops) front

begins_moved : (old new : FlashState) → Moved old new → Begins (past_of old) (past_of new)
begins_moved old new m = record { start = m.start; more = m.ops.more; ops = m.ops.is }

pub precedes_moved : (old new : World) → AllMoved old new → Precedes (story_of old) (story_of new)
precedes_moved old new m = record { bmc = begins_moved old.bmc new.bmc m.bmc; pch = begins_moved old.pch new.pch m.pch; nv = begins_moved old.nv new.nv m.nv }

-- all devices hold bytes
abbrev pub AreImages : Story → Type 0
AreImages story = (which : Device) → AreBytes (image_at which story)

-- ---- what is known of each note
pub noted_append : (xs ys : List Note) (that : What) → IsNoted (xs ++ ys) that → IsNoted xs that ⊎ IsNoted ys that
noted_append [] ys that n = inr n
noted_append (x ∷ xs) ys that (inl e) = inl (inl e)
noted_append (x ∷ xs) ys that (inr n) = elim (noted_append xs ys that n) [ inl m ↦ inl (inr m) | inr m ↦ inr m ]

pub noted_right : (xs ys : List Note) (that : What) → IsNoted ys that → IsNoted (xs ++ ys) that
noted_right [] ys that n = n
noted_right (x ∷ xs) ys that n = inr (noted_right xs ys that n)

-- a note that carries counts carries these
abbrev pub IsStamped : What → Counts → Type 0
IsStamped (what.Held b at) now = at ≡ now
IsStamped (what.Released b svn at) now = at ≡ now
IsStamped (what.Locked b why at) now = at ≡ now
IsStamped (what.Lost device at) now = at ≡ now
IsStamped that now = Unit {0}

-- a fact is true of each note where it is made
abbrev pub Saying : (What → Story → Type 0) → Rule
Saying F (Says w) story = F (w (counts_of story)) story
Saying F (Does which op) story = Unit {0}
Saying F (Asks which) story = Unit {0}

-- calls note nothing
pub call_says : (F : What → Story → Type 0) (which : Device) (ops : List Operation) (story : Story) → AllSafe (Saying F) (called which ops) story
call_says F which ops story = called_any (Saying F) which (λ op here. tt) (λ here. tt) ops story

-- the fact was true of a note at an earlier moment of this story
abbrev pub KnownBefore : (What → Story → Type 0) → What → Story → Type 0
KnownBefore F that story = (at : Story) × F that at × Precedes at story

-- it is known of each note that was added to these
pub record Known (F : What → Story → Type 0) (base : List Note) (story : Story) : Type 0 where
  pub more : List Note
  pub is : story.notes ≡ base ++ more
  pub all : (that : What) → IsNoted more that → KnownBefore F that story

module _ (F : What → Story → Type 0) (base : List Note) where
  known_later : (move : Move) (story : Story) (more : List Note) → ((that : What) → IsNoted more that → KnownBefore F that story) → (that : What) → IsNoted more that → KnownBefore F that (moved_by move story)
  known_later move story more all that n = let k = all that n in (k.0, k.1, Precedes-move k.0 story move k.2)

  known_says : (w : Counts → What) (story : Story) → F (w (counts_of story)) story → Known F base story → Known F base (noted w story)
  known_says w story g k =
      let note : Note = record { item = story.item; what = w (counts_of story) } in
      record {
        more = k.more ++ note ∷ [];
        is = ap (λ (notes : List Note). notes ++ note ∷ []) k.is ∙ append_assoc base k.more (note ∷ []);
        all = λ that n. elim (noted_append k.more (note ∷ []) that n) [
          | inl m ↦ known_later (Says w) story k.more k.all that m
          | inr m ↦ elim m [
            | inl e ↦ (story, subst (λ (x : What). F x story) e g, Precedes-move story story (Says w) (Precedes-refl story))
            | inr none ↦ absurd none
          ]
        ];
      }

  known_moves : Keeps (Saying F) (Known F base)
  known_moves (Says w) story g k = known_says w story g k
  known_moves (Does which op) story g k = record { more = k.more; is = notes_operated which op story ∙ k.is; all = known_later (Does which op) story k.more k.all }
  known_moves (Asks which) story g k = k

-- Of each note that was added the fact was true where it was made.
pub Traced-known : (F : What → Story → Type 0) (old new : World) → Traced (Saying F) old new → (that : What) → IsNoted (added old new) that → KnownBefore F that (story_of new)
Traced-known F old new traced that n =
    let none : Known F old.notes.list (story_of old) = record { more = []; is = sym (append-nil old.notes.list); all = λ that n. absurd n } in
    let k = Traced-keeps (Saying F) (Known F old.notes.list) (known_moves F old.notes.list) old new traced none in
    let e : added old new ≡ k.more = ap (λ (notes : List Note). drop (length old.notes.list) notes) k.is ∙ drop-append_seam old.notes.list k.more in
    k.all that (subst (λ (notes : List Note). IsNoted notes that) e n)

-- ---- behind the first moment
since : (F : What → Story → Type 0) (first : Story) (trace : List Move) (story : Story) → Precedes first story → AllGood (Saying F) trace story
    → AllGood (Saying (λ note at. F note at × Precedes first at)) trace story
since F first [] story p good = tt
since F first (Says w ∷ trace) story p good = ((good.0, p), since F first trace (noted w story) (Precedes-move first story (Says w) p) good.1)
since F first (Does which op ∷ trace) story p good = (tt, since F first trace (operated which op story) (Precedes-move first story (Does which op) p) good.1)
since F first (Asks which ∷ trace) story p good = (tt, since F first trace story p good.1)

-- And it was true at a moment behind the first.
pub Traced-since : (F : What → Story → Type 0) (old new : World) → Traced (Saying F) old new → (that : What) → IsNoted (added old new) that
    → KnownBefore (λ note at. F note at × Precedes (story_of old) at) that (story_of new)
Traced-since F old new traced =
    Traced-known (λ note at. F note at × Precedes (story_of old) at) old new
    (record { trace = traced.trace; is = traced.is; good = since F (story_of old) traced.trace (story_of old) (Precedes-refl (story_of old)) traced.good; moved = traced.moved })
