-- In a run no fuse of the store is taken back and no provision is lost, and behind each note of a raised floor or of a cancelled key the
-- store says so to the run's end.
use Rattle.std.proofs.Common.{◌≡◌, ◌∙◌, ℕ, ◌+◌, ◌≤◌, refl, sym, ap, subst, arith, List, [], ◌∷◌, ◌++◌, length, take, append-nil, ◌⊎◌, inl, inr}
use Rattle.std.proofs.lemmas.List.{take_all}
use Rattle.std.proofs.lemmas.List.Elements.{All-from_recursion, recursion_from_All}
use Rattle.std.specs.List.{All, AllByRecursion}
use Rattle.std.specs.Prelude.{slice_index_or}
use Rattle.pfr_flash.specs.FlashState.{upto, size_of}
use Rattle.pfr_flash.specs.Layout.{IsBankSize}
use Rattle.pfr_flash.specs.Moved.{Extends}
use Rattle.pfr_flash.specs.Operation.{Operation, play}
use Rattle.pfr_flash.specs.declared.names.Counts.{Counts}
use Rattle.pfr_flash.proofs.PlayLemmas.{length-play}
use Rattle.pfr_engine.specs.Acceptance.{Acceptance}
use Rattle.pfr_fuses.specs.FuseMap.{IsCancelled}
use Rattle.pfr_fuses.specs.Growth.{Grows, NeverGoesBack, KeepsProvision}
use Rattle.pfr_fuses.proofs.GrowthLemmas.{NeverGoesBack-trans, KeepsProvision-none, KeepsProvision-trans}
use Rattle.pfr_script.specs.Slots.{HasKnownSlot}
use Rattle.pfr_script.specs.declared.item.Item.{Item}
use Rattle.pfr_script.specs.declared.item.Item.TheVariants as item
use Rattle.pfr_report.specs.Texts.{IsNoted}
use Rattle.pfr_report.specs.declared.note.Note.{Note}
use Rattle.pfr_report.specs.declared.note.What.{What}
use Rattle.pfr_report.specs.declared.note.What.TheVariants as what
use Rattle.pfr_story.specs.JobPromises.{HasFloor, HoldsBehind, ChangesFuses}
use Rattle.pfr_story.specs.Promises.{NotBefore}
use Rattle.pfr_story.specs.Recovery.{moments_of, Rise}
use Rattle.pfr_story.specs.Run.{Did, Reached}
use Rattle.pfr_story.specs.Story.{Story}
use Rattle.pfr_story.specs.World.{World, story_of, past_of, counts_in, added}
use Rattle.pfr_story.proofs.Bytes.{HaveBytes}
use Rattle.pfr_story.proofs.ChangedFuses.{floor_grows}
use Rattle.pfr_story.proofs.ChangeLaws.{StaysFrom, rest_of, Turn-changes}
use Rattle.pfr_story.proofs.GrownSteps.{Turn-grown}
use Rattle.pfr_story.proofs.PowerRunLaws.{rise_tail, nothing_added}
use Rattle.pfr_story.proofs.RunLaws.{IsLater, added_is, adds_then, armed_story}
use Rattle.pfr_story.proofs.Traces.{noted_append, noted_right, upto_begins}
use Rattle.pfr_story.proofs.TrustedRunLaws.{IsUnderway}
use Rattle.pfr_story.proofs.WholeLaws.{sized_later, Reached-along, Recovers, recovers_refl, recovers_then, did_recovers, R, moments_append, rise_last, early}

-- ---- a note in one of two parts of a list
abbrev first_or : Note → List Note → Note
first_or other [] = other
first_or other (note ∷ notes) = note

-- it is in the first, and some of that behind it, or in the second
note_in : (xs ys before behind : List Note) (note : Note) → xs ++ ys ≡ before ++ note ∷ behind
    → ((rest : List Note) × (xs ≡ before ++ note ∷ rest) × (behind ≡ rest ++ ys)) ⊎ ((front : List Note) × (ys ≡ front ++ note ∷ behind))
note_in [] ys before behind note e = inr (before, e)
note_in (x ∷ xs) ys [] behind note e = inl (xs, ap (λ (n : Note). n ∷ xs) (ap (first_or note) e), sym (ap rest_of e))
note_in (x ∷ xs) ys (z ∷ before) behind note e = elim (note_in xs ys before behind note (ap rest_of e)) [
  | inl (rest, here, more) ↦ inl (rest, ap (λ (n : Note). n ∷ xs) (ap (first_or x) e) ∙ ap (λ (ns : List Note). z ∷ ns) here, more)
  | inr there ↦ inr there
]

-- ---- moments
-- of counts that rise, what is true of each by one part of a run is so by the next
each_later : (P Q : Counts → Type 0) (from last : Counts) (ats : List Counts) → Rise from (ats ++ last ∷ []) → ((at : Counts) → NotBefore at last → P at → Q at) → AllByRecursion P ats → AllByRecursion Q ats
each_later P Q from last [] r f p = tt
each_later P Q from last (at ∷ ats) r f p = (f at (rise_last at last ats r.1) p.0, each_later P Q at last ats r.1 f p.1)

each_behind : (P : Counts → Type 0) (begin from last : Counts) (ats : List Counts) → begin.nv ≤ from.nv → Rise from (ats ++ last ∷ []) → ((at : Counts) → begin.nv ≤ at.nv → at.nv ≤ last.nv → P at) → AllByRecursion P ats
each_behind P begin from last [] low r f = tt
each_behind P begin from last (at ∷ ats) low r f =
    let here : begin.nv ≤ at.nv = omega (arith, low, r.0.nv) in
    (f at here (rise_last at last ats r.1).nv, each_behind P begin at last ats here r.1 f)

all_then : (P : Counts → Type 0) (xs ys : List Counts) → AllByRecursion P xs → AllByRecursion P ys → AllByRecursion P (xs ++ ys)
all_then P [] ys p q = q
all_then P (x ∷ xs) ys p q = (p.0, all_then P xs ys p.1 q)

-- the counts behind a note rise too
rise_rest : (before : List Note) (note : Note) (rest : List Note) (from last : Counts) → Rise from (moments_of (before ++ note ∷ rest) ++ last ∷ []) → (next : Counts) × Rise next (moments_of rest ++ last ∷ [])
rise_rest [] note rest from last r = rise_tail note.what (moments_of rest) from last r
rise_rest (n ∷ before) note rest from last r =
    let next = rise_tail n.what (moments_of (before ++ note ∷ rest)) from last r in
    rise_rest before note rest next.0 last next.1

-- ---- two parts of a run
-- what a note tells of the store stays true in the part behind it
module _ (P : List ℕ → Type 0) (that : What) (b c : World) (later : IsLater b c) (stays : StaysFrom P (length b.nv.ops) c)
    (xs ys : List Note) (from : Counts) (rise : Rise from (moments_of xs ++ counts_in b ∷ [])) (more : Rise (counts_in b) (moments_of ys ++ counts_in c ∷ [])) where
  abbrev IsTrueAt : Counts → Type 0
  IsTrueAt at = P (upto c.nv at.nv)

  seam : HoldsBehind P that b xs → P (upto c.nv (length b.nv.ops))
  seam h = subst P (sym (upto_begins (past_of b.nv) (past_of c.nv) later.precedes.nv)) h.end

  behind_first : HoldsBehind P that b xs → (before : List Note) (item : ℕ) (rest : List Note) → xs ≡ before ++ record { item = item; what = that } ∷ rest → AllByRecursion IsTrueAt (moments_of rest ++ moments_of ys)
  behind_first h before item rest is =
      let next = rise_rest before (record { item = item; what = that }) rest from (counts_in b) (subst (λ (notes : List Note). Rise from (moments_of notes ++ counts_in b ∷ [])) is rise) in
      all_then IsTrueAt (moments_of rest) (moments_of ys)
      (each_later (λ at. P (upto b.nv at.nv)) IsTrueAt next.0 (counts_in b) (moments_of rest) next.1
      (λ at end p. subst P (sym (early b.nv c.nv at.nv later.precedes.nv end.nv)) p)
      (recursion_from_All (λ (at : Counts). P (upto b.nv at.nv)) (moments_of rest) (h.later before item rest is)))
      (each_behind IsTrueAt (counts_in b) (counts_in b) (counts_in c) (moments_of ys) (omega arith) more
      (λ at low high. stays (length b.nv.ops) at.nv (omega arith) low high (seam h)))

  holds_then : (IsNoted xs that → HoldsBehind P that b xs) → (IsNoted ys that → HoldsBehind P that c ys) → IsNoted (xs ++ ys) that → HoldsBehind P that c (xs ++ ys)
  holds_then first second n = record {
    later = λ before item behind e. elim (note_in xs ys before behind (record { item = item; what = that }) e) [
      | inl (rest, here, whole) ↦
          let noted : IsNoted xs that = subst (λ (notes : List Note). IsNoted notes that) (sym here) (noted_right before (record { item = item; what = that } ∷ rest) that (inl refl)) in
          subst (λ (notes : List Note). All IsTrueAt (moments_of notes)) (sym whole)
          (subst (λ (ats : List Counts). All IsTrueAt ats) (sym (moments_append rest ys))
          (All-from_recursion IsTrueAt (moments_of rest ++ moments_of ys) (behind_first (first noted) before item rest here)))
      | inr (front, there) ↦
          (second (subst (λ (notes : List Note). IsNoted notes that) (sym there) (noted_right front (record { item = item; what = that } ∷ behind) that (inl refl)))).later front item behind there
    ];
    end = elim (noted_append xs ys that n) [
      | inl m ↦ subst P (ap (λ (ops : List Operation). play c.nv.start ops) (take_all (length c.nv.ops) c.nv.ops (omega arith)))
          (stays (length b.nv.ops) (length c.nv.ops) (omega arith) (rise_last (counts_in b) (counts_in c) (moments_of ys) more).nv (omega arith) (seam (first m)))
      | inr m ↦ (second m).end
    ];
  }

-- ---- of a run
-- no fuse is taken back, and what provisions the platform stays
pub record KeepsStore (old new : World) : Type 0 where
  pub grows : NeverGoesBack old.nv new.nv
  pub keeps : KeepsProvision old.nv new.nv
  pub changes : ChangesFuses old new

module _ (accepts : Acceptance) (tears : List (List ℕ)) (first : World) (bmc : IsBankSize (size_of first.bmc)) (pch : IsBankSize (size_of first.pch)) (size : size_of first.nv ≡ 32768) where
  -- a part of a run in which the counts of the notes rise
  abbrev Rises : World → World → Type 0
  Rises old new = Recovers (R accepts tears first bmc pch size) old new

  -- where nothing was done in the store and nothing noted
  grows_refl : (old new : List ℕ) → old ≡ new → Grows old new
  grows_refl old new e = subst (λ (bytes : List ℕ). Grows old bytes) e (record { floors = λ bank k h. h; cancels = λ type id h. h })

  stays_none : (old new : World) → new.nv.ops ≡ old.nv.ops → added old new ≡ [] → KeepsStore old new
  stays_none old new same none = record {
    grows = record {
      grows = λ m n low order high.
          let one : m ≡ n = omega (arith, low, order, high, ap (λ (ops : List Operation). length ops) same) in
          grows_refl (upto new.nv m) (upto new.nv n) (ap (λ (k : ℕ). upto new.nv k) one);
    };
    keeps = KeepsProvision-none old.nv new.nv same;
    changes = record {
      raised = λ which svn n. absurd (subst (λ (notes : List Note). IsNoted notes (what.RecoveryUpdated which svn)) none n);
      cancelled = λ type id n. absurd (subst (λ (notes : List Note). IsNoted notes (what.Cancelled type id)) none n);
    };
  }

  did_keeps : (i : Item) (old new : World) → HasKnownSlot i → IsUnderway accepts first old → HaveBytes new → Did accepts tears i old new → KeepsStore old new
  did_keeps (item.Event e) old new slot u held t =
      let here = sized_later first old u.later bmc pch size in
      let grown = Turn-grown accepts old new e here.nv held (λ on. slot) t in
      record { grows = grown.0; keeps = grown.1; changes = Turn-changes accepts e old new t held here.bmc here.pch here.nv (λ on. slot) u.trusted }
  did_keeps (item.Arm arm) old new slot u held is =
      let same : story_of new ≡ record (story_of old) { item = old.item + 1 } = ap story_of is ∙ armed_story arm (slice_index_or tears arm.tear []) old in
      stays_none old new (ap (λ (s : Story). s.nv.ops) same) (nothing_added old new (ap (λ (s : Story). s.notes) same))

  stays_then : (b c : World) → IsLater first b → IsLater b c → Rises first b → Rises b c → KeepsStore first b → KeepsStore b c → KeepsStore first c
  stays_then b c before later p q s t = record {
    grows = NeverGoesBack-trans first.nv b.nv c.nv later.precedes.nv.start more s.grows t.grows;
    keeps = KeepsProvision-trans first.nv b.nv c.nv later.precedes.nv.start more s.keeps t.keeps;
    changes = record {
      raised = λ which svn n.
          by_parts (λ bytes. HasFloor bytes which svn) (what.RecoveryUpdated which svn) (λ m n low order high. floor_grows (upto c.nv m) (upto c.nv n) which svn (sized n) (t.grows.grows m n low order high))
          (s.changes.raised which svn) (t.changes.raised which svn) n;
      cancelled = λ type id n.
          by_parts (λ bytes. IsCancelled bytes type id) (what.Cancelled type id) (λ m n low order high. (t.grows.grows m n low order high).cancels type id) (s.changes.cancelled type id) (t.changes.cancelled type id) n;
    };
  }
    where
      more : Extends b.nv.ops c.nv.ops
      more = record { more = later.precedes.nv.more; is = later.precedes.nv.ops }

      sized : (n : ℕ) → length (upto c.nv n) ≡ 32768
      sized n = length-play c.nv.start (take n c.nv.ops) ∙ ap (λ (start : List ℕ). length start) (later.precedes.nv.start ∙ before.precedes.nv.start) ∙ size

      whole : added first c ≡ added first b ++ added b c
      whole =
          added_is first c (adds_then first b c p.adds q.adds)
          ∙ (ap (λ (notes : List Note). notes ++ q.adds.0) (sym (added_is first b p.adds)) ∙ ap (λ (notes : List Note). added first b ++ notes) (sym (added_is b c q.adds)))

      by_parts : (P : List ℕ → Type 0) (that : What) → StaysFrom P (length b.nv.ops) c → (IsNoted (added first b) that → HoldsBehind P that b (added first b)) → (IsNoted (added b c) that → HoldsBehind P that c (added b c))
          → IsNoted (added first c) that → HoldsBehind P that c (added first c)
      by_parts P that stays early_part late_part n =
          subst (λ (notes : List Note). HoldsBehind P that c notes) (sym whole)
          (holds_then P that b c later stays (added first b) (added b c) (counts_in first) p.counted q.counted early_part late_part (subst (λ (notes : List Note). IsNoted notes that) whole n))

  -- No run takes a fuse back or loses a provision, where all that is provisioned are slots.
  pub Reached-keeps : (items : List Item) (new : World) → AllByRecursion HasKnownSlot items → IsUnderway accepts first first → HaveBytes new → Reached (Did accepts tears) items first new → KeepsStore first new
  Reached-keeps items new slots u held r =
      let none : added first first ≡ [] = nothing_added first first refl in
      let both = Reached-along accepts tears first bmc pch size HasKnownSlot (λ old here. Rises old here × KeepsStore old here)
      (recovers_refl (R accepts tears first bmc pch size) first none ([], sym (append-nil first.notes.list)), stays_none first first refl none)
      (λ i old mid slot under bytes did. (did_recovers accepts tears first bmc pch size i old mid under bytes did, did_keeps i old mid slot under bytes did))
      (λ mid here before behind p q. (recovers_then (R accepts tears first bmc pch size) first mid here behind.precedes p.0 q.0, stays_then mid here before behind p.0 q.0 p.1 q.1))
      items new slots u held r in
      both.1
