-- What a step made, and the notes that are made from one world to another.
use Rattle.std.proofs.Common.{◌≡◌, ◌∙◌, refl, sym, ap, arith, ℕ, List, [], ◌∷◌, ◌++◌, length, drop, append_assoc, inl, inr, subst}
use Rattle.std.proofs.lemmas.Bool.{cases_lt}
use Rattle.std.proofs.lemmas.List.{append-nil, drop-append-le, drop_all}
use Rattle.std.proofs.Math.Seq.{drop-append_seam}
use Rattle.pfr_flash.specs.declared.flash.FlashFail.{FlashFail}
use Rattle.pfr_flash.specs.declared.names.Counts.{Counts}
use Rattle.pfr_flash.specs.declared.names.Device.{Device}
use Rattle.pfr_report.specs.declared.note.Note.{Note}
use Rattle.pfr_report.specs.Texts.{IsNoted}
use Rattle.pfr_report.specs.declared.note.What.{What}
use Rattle.pfr_story.specs.Story.{Story, Move, Says, Does, Asks, after, noted, operated, counts_of}
use Rattle.pfr_story.specs.World.{World, story_of, added}
use Rattle.pfr_story.specs.Course.{Stretch, Steps, lost}
use Rattle.pfr_story.specs.Goes.{Stopped}
use Rattle.pfr_story.specs.Safety.{AllMake}
use Rattle.pfr_story.specs.Bringing.{IsNotedBehind}
use Rattle.pfr_story.proofs.Sequence.{after-append}
use Rattle.pfr_story.proofs.SafetyLaws.{notes_operated, cut_makes}
use Rattle.pfr_story.proofs.Courses.{went_on}
use Rattle.pfr_story.proofs.Traces.{noted_append, noted_right}

-- ---- the notes that moves make
abbrev pub said : List Move → Story → List Note
said [] story = []
said (Says w ∷ moves) story = record { item = story.item; what = w (counts_of story) } ∷ said moves (noted w story)
said (Does which op ∷ moves) story = said moves (operated which op story)
said (Asks which ∷ moves) story = said moves story

pub notes_after : (moves : List Move) (story : Story) → (after moves story).notes ≡ story.notes ++ said moves story
notes_after [] story = sym (append-nil story.notes)
notes_after (Says w ∷ moves) story = notes_after moves (noted w story) ∙ append_assoc story.notes (record { item = story.item; what = w (counts_of story) } ∷ []) (said moves (noted w story))
notes_after (Does which op ∷ moves) story =
    notes_after moves (operated which op story) ∙ ap (λ (notes : List Note). notes ++ said moves (operated which op story)) (notes_operated which op story)
notes_after (Asks which ∷ moves) story = notes_after moves story

pub said_append : (moves more : List Move) (story : Story) → said (moves ++ more) story ≡ said moves story ++ said more (after moves story)
said_append [] more story = refl
said_append (Says w ∷ moves) more story = ap (λ (notes : List Note). record { item = story.item; what = w (counts_of story) } ∷ notes) (said_append moves more (noted w story))
said_append (Does which op ∷ moves) more story = said_append moves more (operated which op story)
said_append (Asks which ∷ moves) more story = said_append moves more story

-- ---- what a step made
pub record Made (old new : World) : Type 0 where
  pub trace : List Move
  pub is : story_of new ≡ after trace (story_of old)

abbrev pub made_then : (a b c : World) → Made a b → Made b c → Made a c
made_then a b c p q = record {
  trace = p.trace ++ q.trace;
  is = q.is ∙ ap (λ (s : Story). after q.trace s) p.is ∙ sym (after-append p.trace q.trace (story_of a));
}

pub Steps-made : (ss : List Stretch) (old new : World) → Steps ss old new → Made old new
Steps-made [] old new p = record { trace = []; is = p.is }
Steps-made (s ∷ ss) old new (inl (mid, c, rest)) = made_then old mid new (record { trace = s.plan (story_of old); is = c.is }) (Steps-made ss mid new rest)
Steps-made (s ∷ ss) old new (inr (inl (mid, f, rest))) =
    made_then old f.at new (record { trace = f.stopped.trace; is = f.stopped.is })
    (made_then f.at mid new (record { trace = s.on_fault f.which; is = f.noted.is }) (went_on s.goes_on (Steps ss) mid new (Made mid new) (λ e r. Steps-made ss mid new r) (λ r. record { trace = []; is = r.is }) rest))
Steps-made (s ∷ ss) old new (inr (inr l)) =
    made_then old l.at new (record { trace = l.stopped.trace; is = l.stopped.is }) (record { trace = lost l.which; is = l.noted.is })

-- the notes that it added
pub added_said : (old new : World) (m : Made old new) → added old new ≡ said m.trace (story_of old)
added_said old new m =
    ap (λ (notes : List Note). drop (length old.notes.list) notes) (ap (λ (s : Story). s.notes) m.is ∙ notes_after m.trace (story_of old)) ∙ drop-append_seam old.notes.list (said m.trace (story_of old))

-- ---- which notes moves make
pub noted_left : (xs ys : List Note) (that : What) → IsNoted xs that → IsNoted (xs ++ ys) that
noted_left [] ys that n = absurd n
noted_left (x ∷ xs) ys that (inl e) = inl e
noted_left (x ∷ xs) ys that (inr n) = inr (noted_left xs ys that n)

-- what is noted behind the first ones is so with more behind it
pub noted_dropped : (n : ℕ) (xs ys : List Note) (that : What) → IsNoted (drop n xs) that → IsNoted (drop n (xs ++ ys)) that
noted_dropped n xs ys that m = elim (cases_lt n (length xs)) [
  | inl below ↦ subst (λ (notes : List Note). IsNoted notes that) (sym (drop-append-le n xs ys (omega (arith, below)))) (noted_left (drop n xs) ys that m)
  | inr past ↦ absurd (subst (λ (notes : List Note). IsNoted notes that) (drop_all n xs past) m)
]

-- it stands behind that in more notes too
pub behind_within : (this that : What) (left notes right : List Note) → IsNotedBehind this that notes → IsNotedBehind this that (left ++ (notes ++ right))
behind_within this that left notes right k =
    let note : Note = record { item = k.item; what = this } in
    record {
      before = left ++ k.before;
      item = k.item;
      behind = k.behind ++ right;
      is = ap (λ (xs : List Note). left ++ (xs ++ right)) k.is ∙ ap (λ (xs : List Note). left ++ xs) (append_assoc k.before (note ∷ k.behind) right)
          ∙ sym (append_assoc left k.before (note ∷ (k.behind ++ right)));
      noted = noted_left k.behind right that k.noted;
    }

pub behind_next : (this that : What) (note : Note) (notes : List Note) → IsNotedBehind this that notes → IsNotedBehind this that (note ∷ notes)
behind_next this that note notes k =
    record { before = note ∷ k.before; item = k.item; behind = k.behind; is = ap (λ (xs : List Note). note ∷ xs) k.is; noted = k.noted }

pub noted_first : (moves more : List Move) (story : Story) (that : What) → IsNoted (said moves story) that → IsNoted (said (moves ++ more) story) that
noted_first moves more story that n =
    subst (λ (notes : List Note). IsNoted notes that) (sym (said_append moves more story)) (noted_left (said moves story) (said more (after moves story)) that n)

pub noted_next : (moves more : List Move) (story : Story) (that : What) → IsNoted (said more (after moves story)) that → IsNoted (said (moves ++ more) story) that
noted_next moves more story that n =
    subst (λ (notes : List Note). IsNoted notes that) (sym (said_append moves more story)) (noted_right (said moves story) (said more (after moves story)) that n)

-- each note that these moves make is so, whichever devices they call
abbrev pub Whichever : Device → Type 0
Whichever which = Unit {0}

abbrev pub AllSay : (What → Type 0) → List Move → Type 0
AllSay P moves = AllMake Whichever (λ w. (at : Counts) → P (w at)) moves

pub said_all : (P : What → Type 0) (moves : List Move) (story : Story) → AllSay P moves → (that : What) → IsNoted (said moves story) that → P that
said_all P [] story all that n = absurd n
said_all P (Says w ∷ moves) story all that (inl e) = subst P e (all.0 (counts_of story))
said_all P (Says w ∷ moves) story all that (inr n) = said_all P moves (noted w story) all.1 that n
said_all P (Does which op ∷ moves) story all that n = said_all P moves (operated which op story) all.1 that n
said_all P (Asks which ∷ moves) story all that n = said_all P moves story all.1 that n

-- ---- from one world to another
-- each note that was made is so
pub record Wrote (P : What → Type 0) (a b : World) : Type 0 where
  pub more : List Note
  pub is : b.notes.list ≡ a.notes.list ++ more
  pub all : (that : What) → IsNoted more that → P that

abbrev pub Anything : What → Type 0
Anything that = Unit {0}

pub wrote_then : (P : What → Type 0) (a b c : World) → Wrote P a b → Wrote P b c → Wrote P a c
wrote_then P a b c p q = record {
  more = p.more ++ q.more;
  is = q.is ∙ ap (λ (xs : List Note). xs ++ q.more) p.is ∙ append_assoc a.notes.list p.more q.more;
  all = λ that n. elim (noted_append p.more q.more that n) [ inl m ↦ p.all that m | inr m ↦ q.all that m ];
}

pub wrote_by : (P : What → Type 0) (moves : List Move) (a b : World) → story_of b ≡ after moves (story_of a) → AllSay P moves → Wrote P a b
wrote_by P moves a b e all = record {
  more = said moves (story_of a);
  is = ap (λ (s : Story). s.notes) e ∙ notes_after moves (story_of a);
  all = said_all P moves (story_of a) all;
}

pub wrote_cut : (P : What → Type 0) (moves : List Move) (which : Device) (fail : FlashFail) (a b : World) → Stopped moves which fail a b → AllSay P moves → Wrote P a b
wrote_cut P moves which fail a b p all =
    wrote_by P p.trace a b p.is (cut_makes Whichever (λ w. (at : Counts) → P (w at)) which moves p.trace (story_of a) all p.cut).1

pub wrote_moves : (moves : List Move) (a b : World) → story_of b ≡ after moves (story_of a) → Wrote Anything a b
wrote_moves moves a b e = record { more = said moves (story_of a); is = ap (λ (s : Story). s.notes) e ∙ notes_after moves (story_of a); all = λ that n. tt }

added_wrote : (P : What → Type 0) (old new : World) (w : Wrote P old new) → added old new ≡ w.more
added_wrote P old new w = ap (λ (notes : List Note). drop (length old.notes.list) notes) w.is ∙ drop-append_seam old.notes.list w.more

pub never_noted : (P : What → Type 0) (old new : World) → Wrote P old new → (that : What) → IsNoted (added old new) that → P that
never_noted P old new w that n = w.all that (subst (λ (notes : List Note). IsNoted notes that) (added_wrote P old new w) n)

-- ---- notes that were made between
module _ (P Q : What → Type 0) (old a b new : World) (notes : List Note) (front : Wrote P old a) (is : b.notes.list ≡ a.notes.list ++ notes) (back : Wrote Q b new) where
  pub added_is : added old new ≡ front.more ++ (notes ++ back.more)
  added_is =
      let whole : new.notes.list ≡ old.notes.list ++ (front.more ++ (notes ++ back.more)) =
      back.is ∙ ap (λ (xs : List Note). xs ++ back.more) (is ∙ ap (λ (xs : List Note). xs ++ notes) front.is)
      ∙ append_assoc (old.notes.list ++ front.more) notes back.more ∙ append_assoc old.notes.list front.more (notes ++ back.more) in
      ap (λ (xs : List Note). drop (length old.notes.list) xs) whole ∙ drop-append_seam old.notes.list (front.more ++ (notes ++ back.more))

  pub in_added : (that : What) → IsNoted notes that → IsNoted (added old new) that
  in_added that n =
      subst (λ (xs : List Note). IsNoted xs that) (sym added_is)
      (noted_right front.more (notes ++ back.more) that (noted_left notes back.more that n))

  pub only_between : (that : What) → ¬ P that → ¬ Q that → IsNoted (added old new) that → IsNoted notes that
  only_between that no_front no_back n = elim (noted_append front.more (notes ++ back.more) that (subst (λ (xs : List Note). IsNoted xs that) added_is n)) [
    | inl m ↦ absurd (no_front (front.all that m))
    | inr m ↦ elim (noted_append notes back.more that m) [ inl k ↦ k | inr k ↦ absurd (no_back (back.all that k)) ]
  ]
