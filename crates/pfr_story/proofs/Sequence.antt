-- One plan after another.
use Rattle.std.proofs.Common.{◌≡◌, ◌∙◌, refl, sym, ap, subst, List, [], ◌∷◌, ◌++◌, append_assoc, Result, Ok, Err}
use Rattle.pfr_flash.specs.declared.flash.FlashFail.{FlashFail}
use Rattle.pfr_flash.specs.declared.names.Device.{Device}
use Rattle.pfr_story.specs.Story.{Story, Move, Plan, after, moved_by, then, FailedAt, IsCut}
use Rattle.pfr_story.specs.World.{World, story_of}
use Rattle.pfr_story.specs.Goes.{Ran, Stopped, Goes}
use Rattle.pfr_story.specs.declared.stop.Stop.{Stop}
use Rattle.pfr_story.proofs.WorldLaws.{AllMoved-refl, AllMoved-trans, NoneLost-refl, NoneLost-trans, NoneFailed-refl, NoneFailed-trans, Caused-later}

pub after-append : (moves more : List Move) (story : Story) → after (moves ++ more) story ≡ after more (after moves story)
after-append [] more story = refl
after-append (move ∷ moves) more story = after-append moves more (moved_by move story)

-- ---- a list of moves that was cut short
-- in the first of two lists
pub IsCut-first : (which : Device) (moves more : List Move) (story : Story) (trace : List Move)
    → IsCut which moves story trace → IsCut which (moves ++ more) story trace
IsCut-first which moves more story trace cut = record {
  front = cut.front;
  next = cut.next;
  rest = cut.rest ++ more;
  last = cut.last;
  plan = ap (λ (ms : List Move). ms ++ more) cut.plan ∙ append_assoc cut.front (cut.next ∷ cut.rest) more;
  is = cut.is;
  failed = cut.failed;
}

-- in the second
pub IsCut-second : (which : Device) (moves more : List Move) (story : Story) (trace : List Move)
    → IsCut which more (after moves story) trace → IsCut which (moves ++ more) story (moves ++ trace)
IsCut-second which moves more story trace cut = record {
  front = moves ++ cut.front;
  next = cut.next;
  rest = cut.rest;
  last = cut.last;
  plan = ap (λ (ms : List Move). moves ++ ms) cut.plan ∙ sym (append_assoc moves cut.front (cut.next ∷ cut.rest));
  is = ap (λ (ms : List Move). moves ++ ms) cut.is ∙ sym (append_assoc moves cut.front cut.last);
  failed = subst (λ (s : Story). FailedAt which s cut.next cut.last) (sym (after-append moves cut.front story)) cut.failed;
}

-- ---- one list of moves, and then another
pub Ran-refl : (w : World) → Ran [] w w
Ran-refl w = record { is = refl; moved = AllMoved-refl w; none_lost = NoneLost-refl w; none_failed = NoneFailed-refl w }

pub Ran-append : (first second : List Move) (old mid new : World) → Ran first old mid → Ran second mid new → Ran (first ++ second) old new
Ran-append first second old mid new p q = record {
  is = q.is ∙ ap (λ (s : Story). after second s) p.is ∙ sym (after-append first second (story_of old));
  moved = AllMoved-trans old mid new p.moved q.moved;
  none_lost = NoneLost-trans old mid new p.none_lost q.none_lost;
  none_failed = NoneFailed-trans old mid new p.none_failed q.none_failed;
}

-- ---- one plan, and then another: the plan goes no further where the first stops
pub Stopped-first : (a b : Plan) (which : Device) (fail : FlashFail) (old new : World)
    → Stopped (a (story_of old)) which fail old new → Stopped (then a b (story_of old)) which fail old new
Stopped-first a b which fail old new p = record {
  trace = p.trace;
  cut = IsCut-first which (a (story_of old)) (b (after (a (story_of old)) (story_of old))) (story_of old) p.trace p.cut;
  is = p.is;
  cause = p.cause;
  moved = p.moved;
}

-- the second stops
pub Stopped-next : (a b : Plan) (which : Device) (fail : FlashFail) (old mid new : World)
    → Ran (a (story_of old)) old mid → Stopped (b (story_of mid)) which fail mid new → Stopped (then a b (story_of old)) which fail old new
Stopped-next a b which fail old mid new p q =
    let first = a (story_of old) in
    let cut : IsCut which (b (after first (story_of old))) (after first (story_of old)) q.trace = subst (λ (s : Story). IsCut which (b s) s q.trace) p.is q.cut in
    record {
      trace = first ++ q.trace;
      cut = IsCut-second which first (b (after first (story_of old))) (story_of old) q.trace cut;
      is = q.is ∙ ap (λ (s : Story). after q.trace s) p.is ∙ sym (after-append first q.trace (story_of old));
      cause = Caused-later which fail old mid new p.none_lost p.none_failed q.cause;
      moved = AllMoved-trans old mid new p.moved q.moved;
    }

-- the first is done, and the whole ends as the second
pub Goes-then : {T : Type 0} (a b : Plan) (old mid new : World) (r : Result T Stop)
    → Ran (a (story_of old)) old mid → Goes b mid new r → Goes (then a b) old new r
Goes-then a b old mid new (Ok x) p q =
    Ran-append (a (story_of old)) (b (after (a (story_of old)) (story_of old))) old mid new p
    (subst (λ (s : Story). Ran (b s) mid new) p.is q)
Goes-then a b old mid new (Err stop) p q = Stopped-next a b stop.device stop.fail old mid new p q
