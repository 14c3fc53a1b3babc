-- How a stretch of one bank ends: all of it was done, or a call failed, which is noted.
use Rattle.std.proofs.Common.{◌≡◌, ◌∙◌, refl, sym, ap, subst, List, [], ◌∷◌, ◌++◌, length, ◌⊎◌, inl, inr, Some}
use Rattle.pfr_flash.specs.declared.names.Bank.{Bank}
use Rattle.pfr_flash.specs.declared.names.Bank.TheVariants as bank
use Rattle.pfr_flash.specs.declared.names.Counts.{Counts}
use Rattle.pfr_flash.specs.declared.names.Device.{Device}
use Rattle.pfr_flash.specs.declared.names.Device.TheVariants as device
use Rattle.pfr_report.specs.Texts.{IsNoted}
use Rattle.pfr_report.specs.declared.note.Note.{Note}
use Rattle.pfr_report.specs.declared.note.What.{What}
use Rattle.pfr_report.specs.declared.note.What.TheVariants as what
use Rattle.pfr_story.specs.Story.{Story, Move, Says, Does, Asks, after, moved_by, noted, operated, counts_of, FailedAt, asking, unbegun, torn, IsCut}
use Rattle.pfr_story.specs.World.{World, story_of}
use Rattle.pfr_story.specs.Course.{Stretch, Crosses, Faults, LosesPower, Steps, lost, Course, Follows}
use Rattle.pfr_story.specs.Safety.{Rule, AllGood, AllSafe}
use Rattle.pfr_story.specs.Bringing.{IsOver, IsCalm}
use Rattle.pfr_story.specs.Plans.{store}
use Rattle.pfr_story.specs.Turn.{fault_of}
use Rattle.pfr_story.proofs.Sequence.{after-append}
use Rattle.pfr_story.proofs.BringAllowed.{IsSized}
use Rattle.pfr_story.proofs.JobWalks.{store_sized}
use Rattle.pfr_story.proofs.SafetyLaws.{AllGood-append, safe_whole, safe_cut}
use Rattle.pfr_story.proofs.Courses.{went_on}
use Rattle.pfr_story.proofs.Traces.{Traced, Traced-then, Traced-ran, Traced-whole, Traced-cut}
use Rattle.pfr_story.proofs.Made.{said, notes_after, noted_next, Wrote}
use Rattle.pfr_flash.specs.declared.flash.FlashFail.TheVariants.{Fault, Lost as Loses}

-- ---- how it ends
-- what is noted where a call of this device failed: that the bank is locked for it, or the loss of power, of which L is known
abbrev pub IsTrouble : Bank → Type 0 → Device → (Counts → What) → Type 0
IsTrouble b L which w = (w ≡ what.Locked b (fault_of which)) ⊎ ((w ≡ what.Lost (Some which)) × L)

-- a call failed on the way, and that was noted
pub record IsBroken (b : Bank) (L : Type 0) (moves : List Move) (from to : Story) : Type 0 where
  pub which : Device
  pub trace : List Move
  pub cut : IsCut which moves from trace
  pub last : Counts → What
  pub trouble : IsTrouble b L which last
  pub is : to ≡ noted last (after trace from)

abbrev pub Ending : Bank → Type 0 → List Move → Story → Story → Type 0
Ending b L moves from to = (to ≡ after moves from) ⊎ IsBroken b L moves from to

module _ (s : Stretch) (b : Bank) (L : Type 0) (locks : (d : Device) → s.on_fault d ≡ Says (what.Locked b (fault_of d)) ∷ []) (old : World) where
  pub faulted_ends : (mid : World) → Faults s old mid → Ending b L (s.plan (story_of old)) (story_of old) (story_of mid)
  faulted_ends mid f = inr (record {
    which = f.which;
    trace = f.stopped.trace;
    cut = f.stopped.cut;
    last = what.Locked b (fault_of f.which);
    trouble = inl refl;
    is = f.noted.is ∙ ap (λ (moves : List Move). after moves (story_of f.at)) (locks f.which) ∙ ap (λ (t : Story). noted (what.Locked b (fault_of f.which)) t) f.stopped.is;
  })

  pub lost_ends : L → (new : World) → LosesPower s old new → Ending b L (s.plan (story_of old)) (story_of old) (story_of new)
  lost_ends known new l = inr (record {
    which = l.which;
    trace = l.stopped.trace;
    cut = l.stopped.cut;
    last = what.Lost (Some l.which);
    trouble = inr (refl, known);
    is = l.noted.is ∙ ap (λ (t : Story). noted (what.Lost (Some l.which)) t) l.stopped.is;
  })

  -- the last stretch of a step
  pub last_ends : L → (new : World) → Steps (s ∷ []) old new → Ending b L (s.plan (story_of old)) (story_of old) (story_of new)
  last_ends known new (inl (mid, c, ends)) = inl (ends.is ∙ c.is)
  last_ends known new (inr (inl (mid, f, rest))) =
      let same : story_of new ≡ story_of mid = went_on s.goes_on (Steps []) mid new (story_of new ≡ story_of mid) (λ e r. r.is) (λ r. r.is) rest in
      subst (λ (t : Story). Ending b L (s.plan (story_of old)) (story_of old) t) (sym same) (faulted_ends mid f)
  last_ends known new (inr (inr l)) = lost_ends known new l

-- a step of one stretch
pub single_ends : (s : Stretch) (b : Bank) (L : Type 0) → ((d : Device) → s.on_fault d ≡ Says (what.Locked b (fault_of d)) ∷ []) → L → (first new : World) → Follows (record { first = []; stretches = s ∷ [] }) first new
    → Ending b L (s.plan (story_of first)) (story_of first) (story_of new)
single_ends s b L locks known first new (mid, start, rest) = subst (λ (t : Story). Ending b L (s.plan t) t (story_of new)) start.is (last_ends s b L locks mid known new rest)

-- ---- what is noted first is noted however it ends
fails_saying : (which : Device) (story : Story) (next : Move) (last : List Move) (w : Counts → What) → FailedAt which story next last → ¬ (next ≡ Says w)
fails_saying which story _ _ w asking e = absurd cc
fails_saying which story _ _ w (unbegun op) e = absurd cc
fails_saying which story _ _ w (torn op done t) e = absurd cc

-- the rest was cut short, behind what is noted first
pub record IsCutBehind (w : Counts → What) (which : Device) (moves : List Move) (from : Story) (trace : List Move) : Type 0 where
  pub more : List Move
  pub is : trace ≡ Says w ∷ more
  pub cut : IsCut which moves (noted w from) more

cut_behind : (w : Counts → What) (which : Device) (moves : List Move) (from : Story) (trace front : List Move) (next : Move) (rest last : List Move)
    → Says w ∷ moves ≡ front ++ (next ∷ rest) → trace ≡ front ++ last → FailedAt which (after front from) next last → IsCutBehind w which moves from trace
cut_behind w which moves from trace [] next rest last plan is failed = absurd (let same : next ≡ Says w = cc in fails_saying which from next last w failed same)
cut_behind w which moves from trace (first ∷ front) next rest last plan is failed =
    let one : first ≡ Says w = cc in
    let more : moves ≡ front ++ (next ∷ rest) = cc in
    record {
      more = front ++ last;
      is = is ∙ ap (λ (m : Move). m ∷ (front ++ last)) one;
      cut = record { front = front; next = next; rest = rest; last = last; plan = more; is = refl; failed = subst (λ (m : Move). FailedAt which (after (m ∷ front) from) next last) one failed };
    }

pub ends_behind : (b : Bank) (L : Type 0) (w : Counts → What) (moves : List Move) (from to : Story) → Ending b L (Says w ∷ moves) from to → Ending b L moves (noted w from) to
ends_behind b L w moves from to (inl e) = inl e
ends_behind b L w moves from to (inr p) =
    let k = cut_behind w p.which moves from p.trace p.cut.front p.cut.next p.cut.rest p.cut.last p.cut.plan p.cut.is p.cut.failed in
    inr (record { which = p.which; trace = k.more; cut = k.cut; last = p.last; trouble = p.trouble; is = p.is ∙ ap (λ (trace : List Move). noted p.last (after trace from)) k.is })

no_cut : (front rest : List Move) (next : Move) → ¬ (front ++ (next ∷ rest) ≡ [])
no_cut [] rest next e = absurd cc
no_cut (first ∷ front) rest next e = absurd cc

-- ---- in the first part of what is to be done, or behind it
-- where it was cut: in the first part, or behind it, with this trace of the second
abbrev IsCutIn : Device → List Move → List Move → Story → List Move → Type 0
IsCutIn which moves more from trace = IsCut which moves from trace ⊎ ((behind : List Move) × (trace ≡ moves ++ behind) × IsCut which more (after moves from) behind)

in_next : (which : Device) (move : Move) (moves more : List Move) (from : Story) (trace whole : List Move) → whole ≡ move ∷ trace → IsCutIn which moves more (moved_by move from) trace
    → IsCutIn which (move ∷ moves) more from whole
in_next which move moves more from trace whole is (inl k) = inl (record {
  front = move ∷ k.front;
  next = k.next;
  rest = k.rest;
  last = k.last;
  plan = ap (λ (ms : List Move). move ∷ ms) k.plan;
  is = is ∙ ap (λ (ms : List Move). move ∷ ms) k.is;
  failed = k.failed;
})
in_next which move moves more from trace whole is (inr k) = inr (k.0, is ∙ ap (λ (ms : List Move). move ∷ ms) k.1, k.2)

cut_in : (which : Device) (moves more : List Move) (from : Story) (trace front : List Move) (next : Move) (rest last : List Move)
    → moves ++ more ≡ front ++ (next ∷ rest) → trace ≡ front ++ last → FailedAt which (after front from) next last → IsCutIn which moves more from trace
cut_in which [] more from trace front next rest last plan is failed = inr (trace, refl, record { front = front; next = next; rest = rest; last = last; plan = plan; is = is; failed = failed })
cut_in which (move ∷ moves) more from trace [] next rest last plan is failed =
    let same : next ≡ move = cc in
    inl (record { front = []; next = move; rest = moves; last = last; plan = refl; is = is; failed = subst (λ (m : Move). FailedAt which from m last) same failed })
cut_in which (move ∷ moves) more from trace (first ∷ front) next rest last plan is failed =
    let one : first ≡ move = cc in
    let left : moves ++ more ≡ front ++ (next ∷ rest) = cc in
    in_next which move moves more from (front ++ last) trace (is ∙ ap (λ (m : Move). m ∷ (front ++ last)) one)
    (cut_in which moves more (moved_by move from) (front ++ last) front next rest last left refl (subst (λ (m : Move). FailedAt which (after front (moved_by m from)) next last) one failed))

pub ends_parts : (b : Bank) (L : Type 0) (moves more : List Move) (from to : Story) → Ending b L (moves ++ more) from to → IsBroken b L moves from to ⊎ Ending b L more (after moves from) to
ends_parts b L moves more from to (inl e) = inr (inl (e ∙ after-append moves more from))
ends_parts b L moves more from to (inr p) = elim (cut_in p.which moves more from p.trace p.cut.front p.cut.next p.cut.rest p.cut.last p.cut.plan p.cut.is p.cut.failed) [
  | inl cut ↦ inl (record { which = p.which; trace = p.trace; cut = cut; last = p.last; trouble = p.trouble; is = p.is })
  | inr k ↦
      let is : to ≡ noted p.last (after k.0 (after moves from)) = p.is ∙ ap (λ (trace : List Move). noted p.last (after trace from)) k.1 ∙ ap (λ (s : Story). noted p.last s) (after-append moves k.0 from) in
      inr (inr (record { which = p.which; trace = k.0; cut = k.2; last = p.last; trouble = p.trouble; is = is }))
]

-- nothing that was left to do was cut short
pub ends_done : (b : Bank) (L : Type 0) (from to : Story) → Ending b L [] from to → to ≡ from
ends_done b L from to (inl e) = e
ends_done b L from to (inr p) = absurd (no_cut p.cut.front p.cut.rest p.cut.next (sym p.cut.plan))

-- ---- what was made
module _ (b : Bank) (L : Type 0) (moves : List Move) (from to : Story) where
  abbrev pub ended_trace : Ending b L moves from to → List Move
  ended_trace (inl e) = moves
  ended_trace (inr p) = p.trace ++ Says p.last ∷ []

  pub ended_is : (e : Ending b L moves from to) → to ≡ after (ended_trace e) from
  ended_is (inl e) = e
  ended_is (inr p) = p.is ∙ sym (after-append p.trace (Says p.last ∷ []) from)

  -- each move is good where each of the plan is, and what is noted of trouble
  pub ended_good : (G : Rule) → AllSafe G moves from → ((which : Device) (w : Counts → What) (story : Story) → IsTrouble b L which w → G (Says w) story) → (e : Ending b L moves from to) → AllGood G (ended_trace e) from
  ended_good G safe told (inl e) = safe_whole G moves from safe
  ended_good G safe told (inr p) =
      AllGood-append G p.trace (Says p.last ∷ []) from (safe_cut G p.which moves p.trace from safe p.cut) (told p.which p.last (after p.trace from) p.trouble, tt)

  -- ---- where it is calm all of it was done
  trouble_last : (p : IsBroken b L moves from to) → IsNoted (said (ended_trace (inr p)) from) (p.last (counts_of (after p.trace from)))
  trouble_last p = noted_next p.trace (Says p.last ∷ []) from (p.last (counts_of (after p.trace from))) (inl refl)

fault_noted : (b : Bank) (d : Device) (notes : List Note) (at : Counts) → IsCalm b notes → ¬ IsNoted notes (what.Locked b (fault_of d) at)
fault_noted b device.Bmc notes at calm n = calm.flash at n
fault_noted b device.Pch notes at calm n = calm.flash at n
fault_noted b device.Nv notes at calm n = calm.store at n

-- a call that failed was noted, which isn't calm where the work on the bank isn't over by a loss
trouble_calm : (b : Bank) (L : Type 0) (which : Device) (w : Counts → What) (notes : List Note) (at : Counts) → IsTrouble b L which w → IsCalm b notes → (L → ¬ IsOver b notes) → ¬ IsNoted notes (w at)
trouble_calm b L which w notes at (inl e) calm over n = fault_noted b which notes at calm (subst (λ (v : Counts → What). IsNoted notes (v at)) e n)
trouble_calm b L which w notes at (inr (e, known)) calm over n = over known (calm.on (Some which) at (subst (λ (v : Counts → What). IsNoted notes (v at)) e n))

pub ends_whole : (b : Bank) (L : Type 0) (moves : List Move) (from to : Story) (notes : List Note) (e : Ending b L moves from to)
    → ((that : What) → IsNoted (said (ended_trace b L moves from to e) from) that → IsNoted notes that) → IsCalm b notes → (L → ¬ IsOver b notes) → to ≡ after moves from
ends_whole b L moves from to notes (inl e) put calm over = e
ends_whole b L moves from to notes (inr p) put calm over =
    let at : Counts = counts_of (after p.trace from) in
    absurd (trouble_calm b L p.which p.last notes at p.trouble calm over (put (p.last at) (trouble_last b L moves from to p)))

-- the work on a bank isn't over where no other one is held
pub over_alone : (b : Bank) (notes : List Note) → ((c : Bank) (at : Counts) → IsNoted notes (what.Held c at) → c ≡ b) → ¬ IsOver b notes
over_alone bank.Bmc notes alone over = let e = alone bank.Pch over.0 over.1 in absurd (let never : bank.Pch ≡ bank.Bmc = e in cc)
over_alone bank.Pch notes alone over = over

-- ---- stretches whose moves are all good, wherever they begin with a store of its size
pub record IsKept (G : Rule) (s : Stretch) : Type 0 where
  pub plan : (story : Story) → IsSized story → AllSafe G (s.plan story) story
  pub fault : (which : Device) (story : Story) → AllGood G (s.on_fault which) story

abbrev pub AllKept : Rule → List Stretch → Type 0
AllKept G [] = Unit {0}
AllKept G (s ∷ ss) = IsKept G s × AllKept G ss

module _ (G : Rule) where
  -- the store keeps its size
  pub traced_sized : (old new : World) → Traced G old new → IsSized (story_of old) → IsSized (story_of new)
  traced_sized old new t sized = ap (λ (s : Story). length (store s)) t.is ∙ store_sized t.trace (story_of old) ∙ sized

  pub crossed_traced : (s : Stretch) → IsKept G s → (old mid : World) → IsSized (story_of old) → Crosses s old mid → Traced G old mid
  crossed_traced s kept old mid sized c = Traced-whole G (s.plan (story_of old)) old mid c (kept.plan (story_of old) sized)

  pub faulted_traced : (s : Stretch) → IsKept G s → (old mid : World) → IsSized (story_of old) → Faults s old mid → Traced G old mid
  faulted_traced s kept old mid sized f =
      Traced-then G old f.at mid (Traced-cut G (s.plan (story_of old)) f.which Fault old f.at f.stopped (kept.plan (story_of old) sized))
      (Traced-ran G (s.on_fault f.which) f.at mid f.noted (kept.fault f.which (story_of f.at)))

  module _ (losses : (which : Device) (story : Story) → G (Says (what.Lost (Some which))) story) where
    pub lost_traced : (s : Stretch) → IsKept G s → (old new : World) → IsSized (story_of old) → LosesPower s old new → Traced G old new
    lost_traced s kept old new sized l =
        Traced-then G old l.at new (Traced-cut G (s.plan (story_of old)) l.which Loses old l.at l.stopped (kept.plan (story_of old) sized))
        (Traced-ran G (lost l.which) l.at new l.noted (losses l.which (story_of l.at), tt))

    pub steps_traced : (ss : List Stretch) → AllKept G ss → (old new : World) → IsSized (story_of old) → Steps ss old new → Traced G old new
    steps_traced [] kept old new sized p = Traced-ran G [] old new p tt
    steps_traced (s ∷ ss) kept old new sized (inl (mid, c, rest)) =
        let first : Traced G old mid = crossed_traced s kept.0 old mid sized c in
        Traced-then G old mid new first (steps_traced ss kept.1 mid new (traced_sized old mid first sized) rest)
    steps_traced (s ∷ ss) kept old new sized (inr (inl (mid, f, rest))) =
        let first : Traced G old mid = faulted_traced s kept.0 old mid sized f in
        Traced-then G old mid new first
        (went_on s.goes_on (Steps ss) mid new (Traced G mid new) (λ e r. steps_traced ss kept.1 mid new (traced_sized old mid first sized) r) (λ r. Traced-ran G [] mid new r tt) rest)
    steps_traced (s ∷ ss) kept old new sized (inr (inr l)) = lost_traced s kept.0 old new sized l

    pub course_traced : (c : Course) (first new : World) → AllGood G c.first (story_of first) → AllKept G c.stretches → IsSized (story_of first) → Follows c first new → Traced G first new
    course_traced c first new good kept sized (mid, start, rest) =
        let begun : Traced G first mid = Traced-ran G c.first first mid start good in
        Traced-then G first mid new begun (steps_traced c.stretches kept mid new (traced_sized first mid begun sized) rest)

  -- and the notes that they make
  module _ (P : What → Type 0) (says : (w : Counts → What) (story : Story) → G (Says w) story → P (w (counts_of story))) where
    good_said : (trace : List Move) (story : Story) → AllGood G trace story → (that : What) → IsNoted (said trace story) that → P that
    good_said [] story good that n = absurd n
    good_said (Says w ∷ trace) story good that (inl e) = subst P e (says w story good.0)
    good_said (Says w ∷ trace) story good that (inr n) = good_said trace (noted w story) good.1 that n
    good_said (Does which op ∷ trace) story good that n = good_said trace (operated which op story) good.1 that n
    good_said (Asks which ∷ trace) story good that n = good_said trace story good.1 that n

    pub traced_wrote : (a b : World) → Traced G a b → Wrote P a b
    traced_wrote a b t = record {
      more = said t.trace (story_of a);
      is = ap (λ (s : Story). s.notes) t.is ∙ notes_after t.trace (story_of a);
      all = good_said t.trace (story_of a) t.good;
    }
