-- Safe plans: one after another, cut short, and of calls.
use Rattle.std.proofs.Common.{sym, subst, List, [], ◌∷◌, ◌++◌, ◌≡◌, ◌∙◌, ℕ, refl, ap, append_assoc, inl, inr}
use Rattle.std.proofs.lemmas.List.{append-nil}
use Rattle.pfr_flash.specs.declared.names.Device.{Device}
use Rattle.pfr_flash.specs.Operation.{Operation, applied, play}
use Rattle.pfr_flash.specs.Plan.{IsPart}
use Rattle.pfr_flash.specs.declared.names.Bank.{Bank}
use Rattle.pfr_flash.specs.declared.names.Bank.TheVariants as bank
use Rattle.pfr_flash.specs.declared.names.Counts.{Counts}
use Rattle.pfr_flash.specs.declared.names.Device.TheVariants as device
use Rattle.pfr_flash.proofs.PlayLemmas.{play_push, play-append}
use Rattle.pfr_report.specs.declared.note.What.{What}
use Rattle.pfr_story.specs.Story.{Story, Move, Says, Does, Asks, Plan, after, moved_by, then, FailedAt, asking, unbegun, torn, IsCut, Past, noted, operated, with_op, past_at, image_of, image_at, device_of, all_do, called}
use Rattle.pfr_story.specs.Safety.{Rule, AllGood, IsSafe, AllSafe, Keeps, Leads, AllMake}
use Rattle.pfr_story.specs.Plans.{mine, store}
use Rattle.pfr_story.proofs.Sequence.{after-append}

module _ (G : Rule) where
  pub AllSafe-append : (a b : List Move) (story : Story) → AllSafe G a story → AllSafe G b (after a story) → AllSafe G (a ++ b) story
  AllSafe-append [] b story p q = q
  AllSafe-append (move ∷ a) b story p q = (p.0, AllSafe-append a b (moved_by move story) p.1 q)

  AllSafe-left : (a b : List Move) (story : Story) → AllSafe G (a ++ b) story → AllSafe G b (after a story)
  AllSafe-left [] b story p = p
  AllSafe-left (move ∷ a) b story p = AllSafe-left a b (moved_by move story) p.1

  pub AllGood-append : (a b : List Move) (story : Story) → AllGood G a story → AllGood G b (after a story) → AllGood G (a ++ b) story
  AllGood-append [] b story p q = q
  AllGood-append (move ∷ a) b story p q = (p.0, AllGood-append a b (moved_by move story) p.1 q)

  good : (move : Move) (story : Story) → IsSafe G move story → G move story
  good (Says what) story p = p
  good (Does which op) story p = p.0
  good (Asks which) story p = p

  safe_front : (a b : List Move) (story : Story) → AllSafe G (a ++ b) story → AllGood G a story
  safe_front [] b story p = tt
  safe_front (move ∷ a) b story p = (good move story p.0, safe_front a b (moved_by move story) p.1)

  pub safe_whole : (moves : List Move) (story : Story) → AllSafe G moves story → AllGood G moves story
  safe_whole [] story p = tt
  safe_whole (move ∷ moves) story p = (good move story p.0, safe_whole moves (moved_by move story) p.1)

  -- what was made of a safe plan that was cut short is good
  pub safe_cut : (which : Device) (moves trace : List Move) (story : Story) → AllSafe G moves story → IsCut which moves story trace → AllGood G trace story
  safe_cut which moves trace story p cut =
      let q : AllSafe G (cut.front ++ (cut.next ∷ cut.rest)) story = subst (λ (ms : List Move). AllSafe G ms story) cut.plan p in
      let left = AllSafe-left cut.front (cut.next ∷ cut.rest) story q in
      subst (λ (ms : List Move). AllGood G ms story) (sym cut.is)
      (AllGood-append cut.front cut.last story (safe_front cut.front (cut.next ∷ cut.rest) story q) (by_failure cut.next cut.last (after cut.front story) left.0 cut.failed))
    where
      by_failure : (next : Move) (last : List Move) (here : Story) → IsSafe G next here → FailedAt which here next last → AllGood G last here
      by_failure _ _ here s asking = tt
      by_failure _ _ here s (unbegun op) = tt
      by_failure _ _ here s (torn op done t) = (s.1 done t, tt)

  pub kept_by : (I : Story → Type 0) → Keeps G I → (trace : List Move) (story : Story) → AllGood G trace story → I story → I (after trace story)
  kept_by I k [] story p i = i
  kept_by I k (move ∷ trace) story p i = kept_by I k trace (moved_by move story) p.1 (k move story p.0 i)

  pub Leads-then : (P Q R : Story → Type 0) (first second : Plan) → Leads G P first Q → Leads G Q second R → Leads G P (then first second) R
  Leads-then P Q R first second a b = record {
    safe = λ story p. AllSafe-append (first story) (second (after (first story) story)) story (a.safe story p) (b.safe (after (first story) story) (a.ends story p));
    ends = λ story p. subst R (sym (after-append (first story) (second (after (first story) story)) story)) (b.ends (after (first story) story) (a.ends story p));
  }

pub image_noted : (which : Device) (what : Counts → What) (story : Story) → image_at which (noted what story) ≡ image_at which story
image_noted device.Bmc what story = refl
image_noted device.Pch what story = refl
image_noted device.Nv what story = refl

past_operated : (which : Device) (op : Operation) (story : Story) → past_at which (operated which op story) ≡ with_op (past_at which story) op
past_operated device.Bmc op story = refl
past_operated device.Pch op story = refl
past_operated device.Nv op story = refl

pub image_operated : (which : Device) (op : Operation) (story : Story) → image_at which (operated which op story) ≡ applied (image_at which story) op
image_operated which op story = ap (λ (p : Past). image_of p) (past_operated which op story) ∙ play_push (past_at which story).start (past_at which story).ops op

pub notes_operated : (which : Device) (op : Operation) (story : Story) → (operated which op story).notes ≡ story.notes
notes_operated device.Bmc op story = refl
notes_operated device.Pch op story = refl
notes_operated device.Nv op story = refl

pub notes_called : (which : Device) (ops : List Operation) (story : Story) → (after (called which ops) story).notes ≡ story.notes
notes_called which [] story = refl
notes_called which (op ∷ ops) story = notes_called which ops (operated which op story) ∙ notes_operated which op story

-- ---- what a call does
abbrev pub with_all : Past → List Operation → Past
with_all past ops = record { start = past.start; ops = past.ops ++ ops }

pub past_did : (which : Device) (ops : List Operation) (story : Story) → past_at which (after (all_do which ops) story) ≡ with_all (past_at which story) ops
past_did which [] story = ap (λ (all : List Operation). record { start = (past_at which story).start; ops = all }) (sym (append-nil (past_at which story).ops))
past_did which (op ∷ ops) story =
    past_did which ops (operated which op story) ∙ ap (λ (p : Past). with_all p ops) (past_operated which op story)
    ∙ ap (λ (all : List Operation). record { start = (past_at which story).start; ops = all }) (append_assoc (past_at which story).ops (op ∷ []) ops)

pub past_called : (which : Device) (ops : List Operation) (story : Story) → past_at which (after (called which ops) story) ≡ with_all (past_at which story) ops
past_called which ops story = ap (λ (s : Story). past_at which s) (after-append (all_do which ops) (Asks which ∷ []) story) ∙ past_did which ops story

image_all : (past : Past) (ops : List Operation) → image_of (with_all past ops) ≡ play (image_of past) ops
image_all past ops = play-append past.start past.ops ops

pub image_did : (which : Device) (ops : List Operation) (story : Story) → image_at which (after (all_do which ops) story) ≡ play (image_at which story) ops
image_did which ops story = ap (λ (p : Past). image_of p) (past_did which ops story) ∙ image_all (past_at which story) ops

pub image_called : (which : Device) (ops : List Operation) (story : Story) → image_at which (after (called which ops) story) ≡ play (image_at which story) ops
image_called which ops story = ap (λ (p : Past). image_of p) (past_called which ops story) ∙ image_all (past_at which story) ops

-- a bank's device leaves the store
pub store_operated : (b : Bank) (op : Operation) (story : Story) → store (operated (device_of b) op story) ≡ store story
store_operated bank.Bmc op story = refl
store_operated bank.Pch op story = refl

-- and the store leaves the banks
pub mine_operated : (b : Bank) (op : Operation) (story : Story) → mine b (operated device.Nv op story) ≡ mine b story
mine_operated bank.Bmc op story = refl
mine_operated bank.Pch op story = refl

pub store_called : (b : Bank) (ops : List Operation) (story : Story) → store (after (called (device_of b) ops) story) ≡ store story
store_called b [] story = refl
store_called b (op ∷ ops) story = store_called b ops (operated (device_of b) op story) ∙ store_operated b op story

-- ---- safe calls
-- A call is safe where the rule lets each operation through that leads from where Q holds to where it does: Q holds after each part
-- of its operations, the last perhaps torn.
pub called_safe : (G : Rule) (which : Device) (Q : Story → Type 0) → ((op : Operation) (story : Story) → Q story → Q (operated which op story) → G (Does which op) story)
    → ((story : Story) → G (Asks which) story) → (plan : List Operation) (story : Story)
    → ((added : List Operation) → IsPart (image_at which story) plan added → Q (after (all_do which added) story)) → AllSafe G (called which plan) story
called_safe G which Q does asks [] story parts = (asks story, tt)
called_safe G which Q does asks (next ∷ plan) story parts =
    let here : Q story = parts [] tt in (
      (does next story here (parts (next ∷ []) (inl (refl, tt))), λ done t. does done story here (parts (done ∷ []) (inr (t, refl)))),
      called_safe G which Q does asks plan (operated which next story)
          (λ added part. parts (next ∷ added) (inl (refl, subst (λ (image : List ℕ). IsPart image plan added) (image_operated which next story) part))),
    )

-- and where the rule lets each operation through
pub called_any : (G : Rule) (which : Device) → ((op : Operation) (story : Story) → G (Does which op) story) → ((story : Story) → G (Asks which) story) → (ops : List Operation) (story : Story)
    → AllSafe G (called which ops) story
called_any G which does asks ops story = called_safe G which (λ later. Unit {0}) (λ op here p q. does op here) asks ops story (λ added part. tt)

-- ---- which devices a plan calls, and which notes it makes
module _ (D : Device → Type 0) (S : (Counts → What) → Type 0) where
  pub AllMake-append : (moves more : List Move) → AllMake D S moves → AllMake D S more → AllMake D S (moves ++ more)
  AllMake-append [] more p q = q
  AllMake-append (Says what ∷ moves) more p q = (p.0, AllMake-append moves more p.1 q)
  AllMake-append (Does which op ∷ moves) more p q = (p.0, AllMake-append moves more p.1 q)
  AllMake-append (Asks which ∷ moves) more p q = (p.0, AllMake-append moves more p.1 q)

  pub AllMake-called : (which : Device) (plan : List Operation) → D which → AllMake D S (called which plan)
  AllMake-called which [] p = (p, tt)
  AllMake-called which (op ∷ plan) p = (p, AllMake-called which plan p)

  front_makes : (which : Device) (story : Story) (front : List Move) (next : Move) (rest last : List Move) → FailedAt which story next last
      → AllMake D S (front ++ (next ∷ rest)) → D which × AllMake D S (front ++ last)
  front_makes which story [] _ rest _ asking p = (p.0, tt)
  front_makes which story [] _ rest _ (unbegun op) p = (p.0, tt)
  front_makes which story [] _ rest _ (torn op done t) p = (p.0, (p.0, tt))
  front_makes which story (Says what ∷ front) next rest last f p = let k = front_makes which story front next rest last f p.1 in (k.0, (p.0, k.1))
  front_makes which story (Does other op ∷ front) next rest last f p = let k = front_makes which story front next rest last f p.1 in (k.0, (p.0, k.1))
  front_makes which story (Asks other ∷ front) next rest last f p = let k = front_makes which story front next rest last f p.1 in (k.0, (p.0, k.1))

  -- the call that failed is one of them, and so is what was made
  pub cut_makes : (which : Device) (moves trace : List Move) (story : Story) → AllMake D S moves → IsCut which moves story trace → D which × AllMake D S trace
  cut_makes which moves trace story p cut =
      let k = front_makes which (after cut.front story) cut.front cut.next cut.rest cut.last cut.failed (subst (λ (ms : List Move). AllMake D S ms) cut.plan p) in
      (k.0, subst (λ (ms : List Move). AllMake D S ms) (sym cut.is) k.1)

-- what is true of devices and notes of a kind is true of more
pub AllMake-as : (D E : Device → Type 0) (S T : (Counts → What) → Type 0) → ((which : Device) → D which → E which) → ((w : Counts → What) → S w → T w) → (moves : List Move) → AllMake D S moves → AllMake E T moves
AllMake-as D E S T f g [] p = tt
AllMake-as D E S T f g (Says w ∷ moves) p = (g w p.0, AllMake-as D E S T f g moves p.1)
AllMake-as D E S T f g (Does which op ∷ moves) p = (f which p.0, AllMake-as D E S T f g moves p.1)
AllMake-as D E S T f g (Asks which ∷ moves) p = (f which p.0, AllMake-as D E S T f g moves p.1)
