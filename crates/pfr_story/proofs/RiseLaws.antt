-- The counts of a step's notes rise.
use Rattle.std.proofs.Common.{◌≡◌, sym, subst, arith, Some, None, List, [], ◌∷◌, ◌++◌}
use Rattle.pfr_flash.specs.FlashState.{size_of}
use Rattle.pfr_flash.specs.declared.names.Counts.{Counts}
use Rattle.pfr_engine.specs.Acceptance.{Acceptance}
use Rattle.pfr_script.specs.declared.event.Event.{Event}
use Rattle.pfr_report.specs.declared.note.Note.{Note}
use Rattle.pfr_report.specs.declared.note.What.{What}
use Rattle.pfr_report.specs.declared.note.What.TheVariants as what
use Rattle.pfr_story.specs.Story.{Story, Move, Says, Does, Asks, after, noted, operated, counts_of}
use Rattle.pfr_story.specs.World.{World, story_of, counts_in}
use Rattle.pfr_story.specs.Safety.{AllGood}
use Rattle.pfr_story.specs.Turn.{begun, Turn}
use Rattle.pfr_story.specs.Promises.{NotBefore}
use Rattle.pfr_story.specs.Recovery.{moments_with, moments_of, Rise, CountsRise}
use Rattle.pfr_story.proofs.Traces.{IsStamped, Precedes-refl, Precedes-move, not_before}
use Rattle.pfr_story.proofs.Made.{Made, said, added_said}
use Rattle.pfr_story.proofs.Facts.{Setting, Fact, IsTrue}
use Rattle.pfr_story.proofs.Turns.{step_of, Turn-traced}

pub NotBefore-refl : (a : Counts) → NotBefore a a
NotBefore-refl a = record { bmc = omega arith; pch = omega arith; nv = omega arith }

pub NotBefore-trans : (a b c : Counts) → NotBefore a b → NotBefore b c → NotBefore a c
NotBefore-trans a b c p q = record { bmc = omega (arith, p.bmc, q.bmc); pch = omega (arith, p.pch, q.pch); nv = omega (arith, p.nv, q.nv) }

-- a true note is stamped
stamped : (s : Setting) (that : What) (story : Story) → Fact s that story → IsStamped that (counts_of story)
stamped s (what.Held b at) story f = f
stamped s (what.Released b svn at) story f = f.0
stamped s (what.Locked b cause at) story f = f.0
stamped s (what.Lost (Some which) at) story f = f.0
stamped s (what.Lost None at) story f = f.0
stamped s _ story f = tt

note_rises : (that : What) (others more : List Counts) (from now : Counts) → IsStamped that now → NotBefore from now
    → ((here : Counts) → NotBefore here now → Rise here (others ++ more)) → Rise from (moments_with that others ++ more)
note_rises (what.Held b at) others more from now e p rest = subst (λ (c : Counts). NotBefore from c × Rise c (others ++ more)) (sym e) (p, rest now (NotBefore-refl now))
note_rises (what.Released b svn at) others more from now e p rest = subst (λ (c : Counts). NotBefore from c × Rise c (others ++ more)) (sym e) (p, rest now (NotBefore-refl now))
note_rises (what.Locked b cause at) others more from now e p rest = subst (λ (c : Counts). NotBefore from c × Rise c (others ++ more)) (sym e) (p, rest now (NotBefore-refl now))
note_rises (what.Lost device at) others more from now e p rest = subst (λ (c : Counts). NotBefore from c × Rise c (others ++ more)) (sym e) (p, rest now (NotBefore-refl now))
note_rises that others more from now e p rest = rest from p

moves_rise : (s : Setting) (trace : List Move) (story last : Story) (from : Counts) → NotBefore from (counts_of story) → AllGood (IsTrue s) trace story → last ≡ after trace story
    → Rise from (moments_of (said trace story) ++ counts_of last ∷ [])
moves_rise s [] story last from p good is = (subst (λ (t : Story). NotBefore from (counts_of t)) (sym is) p, tt)
moves_rise s (Says w ∷ trace) story last from p good is =
    note_rises (w (counts_of story)) (moments_of (said trace (noted w story))) (counts_of last ∷ []) from (counts_of story) (stamped s (w (counts_of story)) story good.0) p
    (λ here q. moves_rise s trace (noted w story) last here q good.1 is)
moves_rise s (Does which op ∷ trace) story last from p good is =
    let later = not_before story (operated which op story) (Precedes-move story story (Does which op) (Precedes-refl story)) in
    moves_rise s trace (operated which op story) last from (NotBefore-trans from (counts_of story) (counts_of (operated which op story)) p later) good.1 is
moves_rise s (Asks which ∷ trace) story last from p good is = moves_rise s trace story last from p good.1 is

-- The counts of a step's notes rise, from those at its begin to those at its end.
pub Turn-counted : (accepts : Acceptance) (e : Event) (old new : World) → size_of old.nv ≡ 32768 → Turn accepts e old new → CountsRise old new
Turn-counted accepts e old new size t =
    let traced = Turn-traced accepts e old new size t in
    let made : Made (begun e old) new = record { trace = traced.trace; is = traced.is } in
    let first : Story = story_of (begun e old) in
    subst (λ (notes : List Note). Rise (counts_in old) (moments_of notes ++ counts_in new ∷ [])) (sym (added_said (begun e old) new made))
    (moves_rise (step_of accepts e old new) traced.trace first (story_of new) (counts_in old) (not_before first first (Precedes-refl first)) traced.good traced.is)
