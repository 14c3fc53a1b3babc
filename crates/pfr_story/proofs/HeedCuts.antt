-- Where the work on a job that is resumed was cut: in its first pass, behind which the failed call is noted next, or not.
use Rattle.std.proofs.Common.{◌≡◌, ◌≢◌, ◌∙◌, refl, sym, ap, subst, ℕ, Bool, List, [], ◌∷◌, ◌++◌, append_assoc, ◌⊎◌, inl, inr, Result}
use Rattle.std.proofs.lemmas.List.{append-nil}
use Rattle.pfr_flash.specs.Operation.{Operation}
use Rattle.pfr_flash.specs.declared.names.Bank.{Bank}
use Rattle.pfr_flash.specs.declared.names.Counts.{Counts}
use Rattle.pfr_flash.specs.declared.names.Device.{Device}
use Rattle.pfr_flash.specs.declared.names.Device.TheVariants as device
use Rattle.pfr_engine.specs.Acceptance.{Acceptance}
use Rattle.pfr_fuses.specs.FusesState.{FusesState}
use Rattle.pfr_fuses.specs.RootSlot.{layout_of}
use Rattle.pfr_capsule.specs.CapsuleState.{CapsuleState}
use Rattle.pfr_capsule.specs.declared.fail.CapsuleFail.{CapsuleFail}
use Rattle.pfr_jobs.specs.declared.job.JobKind.{JobKind}
use Rattle.pfr_jobs.specs.declared.job.JobKind.TheVariants.{ActiveFromRecovery, ActiveFromStaging, RecoveryFromStaging}
use Rattle.pfr_jobs.specs.declared.job.OpenJob.{OpenJob}
use Rattle.pfr_rebuilt.specs.Passing.{active_heeding, recovery_heeding}
use Rattle.pfr_strokes.specs.Deeds.{Deed, side_ops}
use Rattle.pfr_strokes.specs.declared.side.Side.TheVariants as side
use Rattle.pfr_report.specs.Texts.{IsNoted}
use Rattle.pfr_report.specs.declared.note.LockWhy.{LockWhy}
use Rattle.pfr_report.specs.declared.note.Note.{Note}
use Rattle.pfr_report.specs.declared.note.What.{What}
use Rattle.pfr_report.specs.declared.note.What.TheVariants as what
use Rattle.pfr_story.specs.Causes.{IsResumable}
use Rattle.pfr_story.specs.Deeds.{deed_moves}
use Rattle.pfr_story.specs.JobPlans.{job_notes, work_of, resumed_if, by_source, by_open}
use Rattle.pfr_story.specs.JobPromises.{left_strokes, IsFailure, IsCutBehind}
use Rattle.pfr_story.specs.Plans.{mine, store, brought_up, checked_then}
use Rattle.pfr_story.specs.Safety.{AllMake}
use Rattle.pfr_story.specs.Story.{Past, Story, Move, Says, Does, Asks, after, noted, operated, past_at, device_of}
use Rattle.pfr_story.specs.Turn.{fault_of}
use Rattle.pfr_story.specs.World.{World, story_of, added}
use Rattle.pfr_story.proofs.BringRules.{IsOwn, ready_is}
use Rattle.pfr_story.proofs.Endings.{IsTrouble, IsBroken, Ending, ended_trace, ended_is, ends_parts, ends_behind}
use Rattle.pfr_story.proofs.Fronts.{Starts, whole_front, deeds_first, told_past}
use Rattle.pfr_story.proofs.JobFront.{NoNote}
use Rattle.pfr_story.proofs.JobMakes.{deeds_make}
use Rattle.pfr_story.proofs.JobRecoveryBegun.{same_spelled}
use Rattle.pfr_story.proofs.JobSteps.{active_strokes, recovery_strokes}
use Rattle.pfr_story.proofs.Made.{said, notes_after, Whichever, AllSay, Wrote, wrote_by, added_is, only_between}
use Rattle.pfr_story.proofs.SafetyLaws.{AllMake-append, cut_makes, image_noted}
use Rattle.pfr_story.proofs.Sequence.{after-append}
use Rattle.pfr_story.proofs.TailLaws.{Apart}
use Rattle.pfr_story.proofs.TakenLaws.{taken_by, taken, checked_at, ready_parts}
use Rattle.pfr_story.proofs.TakenNotes.{judged_good_source}
use Rattle.pfr_story.proofs.TakesUpLaws.{Begun}

-- moves that tell nothing
none_said : (D : Device → Type 0) (moves : List Move) (story : Story) → AllMake D NoNote moves → said moves story ≡ []
none_said D [] story all = refl
none_said D (Says w ∷ moves) story all = absurd all.0
none_said D (Asks which ∷ moves) story all = none_said D moves story all.1
none_said D (Does which op ∷ moves) story all = none_said D moves (operated which op story) all.1

fault_fails : (b : Bank) (d : Device) (at : Counts) → IsFailure b (what.Locked b (fault_of d) at)
fault_fails b device.Bmc at = refl
fault_fails b device.Pch at = refl
fault_fails b device.Nv at = refl

trouble_fails : (b : Bank) (L : Type 0) (which : Device) (w : Counts → What) (at : Counts) → IsTrouble b L which w → IsFailure b (w at)
trouble_fails b L which w at (inl e) = subst (λ (v : Counts → What). IsFailure b (v at)) (sym e) (fault_fails b which at)
trouble_fails b L which w at (inr (e, known)) = subst (λ (v : Counts → What). IsFailure b (v at)) (sym e) tt

-- ---- what is done of a job that is resumed, by its parts
module _ (accepts : Acceptance) (b : Bank) where
  abbrev first_pass : JobKind → FusesState → CapsuleState → Story → List Deed
  first_pass RecoveryFromStaging fuses capsule story = recovery_heeding b (mine b story) (store story) capsule.length (layout_of fuses.provision b)
  first_pass kind fuses capsule story = active_heeding kind b (mine b story) (store story) capsule (layout_of fuses.provision b)

  -- what is behind its first pass
  pub record HasPass (kind : JobKind) (fuses : FusesState) (capsule : CapsuleState) (story : Story) : Type 0 where
    pub rest : List Move
    pub is : work_of (job_notes b) accepts b fuses capsule kind story ≡ deed_moves b (first_pass kind fuses capsule story) ++ rest

  has_pass : (kind : JobKind) (fuses : FusesState) (capsule : CapsuleState) (story : Story) → HasPass kind fuses capsule story
  has_pass (ActiveFromRecovery level) fuses capsule story = record { rest = _; is = refl }
  has_pass (ActiveFromStaging dynamic) fuses capsule story = record { rest = _; is = refl }
  has_pass RecoveryFromStaging fuses capsule story = record { rest = _; is = refl }

  module _ (kind : JobKind) (story : Story) (r : IsResumable kind b (mine b story) (store story) accepts) where
    abbrev told : Story
    told = noted (λ _. what.Resumed b kind) story

    abbrev digest : List ℕ
    digest = r.good.capsule.digest

    abbrev pub pass : List Deed
    pass = first_pass kind r.fuses r.good.capsule (noted (λ _. what.Resumed b kind) story)

    taken_is : taken accepts b story ≡ Asks device.Nv ∷ Asks (device_of b) ∷ Says (λ _. what.Resumed b kind) ∷ work_of (job_notes b) accepts b r.fuses r.good.capsule kind told
    taken_is =
        ap (λ (x : Result FusesState LockWhy). taken_by accepts b x story) (ready_is b r.fuses story r.provisioned r.layout)
        ∙ ap (λ (opened : OpenJob). Asks device.Nv ∷ by_open (job_notes b) accepts b r.fuses opened story) r.opened
        ∙ ap (λ (judged : Result CapsuleState CapsuleFail). Asks device.Nv ∷ Asks (device_of b) ∷ by_source (job_notes b) accepts b r.fuses kind digest judged story) (judged_good_source accepts b r.fuses kind story r.provisioned r)
        ∙ ap (λ (t : Bool). Asks device.Nv ∷ Asks (device_of b) ∷ resumed_if t (job_notes b) accepts b r.fuses r.good.capsule kind story) (same_spelled digest)

    pass_strokes : side_ops side.Bank pass ≡ left_strokes kind b (mine b story) (store story) accepts r
    pass_strokes = by_kind kind r
      where
        by_kind : (k : JobKind) (q : IsResumable k b (mine b story) (store story) accepts)
            → side_ops side.Bank (first_pass k q.fuses q.good.capsule (noted (λ _. what.Resumed b k) story)) ≡ left_strokes k b (mine b story) (store story) accepts q
        by_kind (ActiveFromRecovery level) q =
            ap (λ (image : List ℕ). side_ops side.Bank (active_heeding (ActiveFromRecovery level) b image (store story) q.good.capsule (layout_of q.fuses.provision b))) (image_noted (device_of b) (λ _. what.Resumed b (ActiveFromRecovery level)) story)
            ∙ active_strokes (ActiveFromRecovery level) b (mine b story) (store story) q.good.capsule (layout_of q.fuses.provision b)
        by_kind (ActiveFromStaging dynamic) q =
            ap (λ (image : List ℕ). side_ops side.Bank (active_heeding (ActiveFromStaging dynamic) b image (store story) q.good.capsule (layout_of q.fuses.provision b))) (image_noted (device_of b) (λ _. what.Resumed b (ActiveFromStaging dynamic)) story)
            ∙ active_strokes (ActiveFromStaging dynamic) b (mine b story) (store story) q.good.capsule (layout_of q.fuses.provision b)
        by_kind RecoveryFromStaging q =
            ap (λ (image : List ℕ). side_ops side.Bank (recovery_heeding b image (store story) q.good.capsule.length (layout_of q.fuses.provision b))) (image_noted (device_of b) (λ _. what.Resumed b RecoveryFromStaging) story)
            ∙ recovery_strokes b (mine b story) (store story) q.good.capsule.length (layout_of q.fuses.provision b)

  -- of a bank that is brought up
  module _ (kind : JobKind) (from : Story) (r : IsResumable kind b (mine b (noted (what.Held b) from)) (store (noted (what.Held b) from)) accepts) where
    abbrev held : Story
    held = noted (what.Held b) from

    abbrev before : List Move
    before = Says (what.Held b) ∷ Asks device.Nv ∷ Asks device.Nv ∷ Asks (device_of b) ∷ []

    abbrev again : Story
    again = noted (λ _. what.Resumed b kind) held

    abbrev deeds : List Deed
    deeds = pass kind held r

    rest : List Move
    rest = (has_pass kind r.fuses r.good.capsule again).rest ++ checked_then accepts b (checked_at accepts b held)

    brought_parts : brought_up accepts b from ≡ before ++ (Says (λ _. what.Resumed b kind) ∷ (deed_moves b deeds ++ rest))
    unfolding rest
    brought_parts =
        let work : List Move = work_of (job_notes b) accepts b r.fuses r.good.capsule kind again in
        let check : List Move = checked_then accepts b (checked_at accepts b held) in
        let p = has_pass kind r.fuses r.good.capsule again in
        ap (λ (moves : List Move). Says (what.Held b) ∷ Asks device.Nv ∷ moves) (ready_parts accepts b held)
        ∙ ap (λ (moves : List Move). Says (what.Held b) ∷ Asks device.Nv ∷ (moves ++ check)) (taken_is kind held r)
        ∙ ap (λ (moves : List Move). before ++ (Says (λ _. what.Resumed b kind) ∷ (moves ++ check))) p.is
        ∙ ap (λ (moves : List Move). before ++ (Says (λ _. what.Resumed b kind) ∷ moves)) (append_assoc (deed_moves b deeds) p.rest check)

-- ---- in a power-on
module _ (accepts : Acceptance) (first new : World) (b : Bank) (c : Begun accepts first new b) (kind : JobKind)
    (r : IsResumable kind b (mine b (noted (what.Held b) (story_of c.at))) (store (noted (what.Held b) (story_of c.at))) accepts) where
  abbrev start : Story
  start = story_of c.at

  abbrev end : Story
  end = story_of c.end

  abbrev here : Story
  here = noted (λ _. what.Resumed b kind) (noted (what.Held b) start)

  abbrev moves : List Move
  moves = deed_moves b (pass accepts b kind (noted (what.Held b) start) r)

  abbrev more : List Move
  more = rest accepts b kind start r

  -- the bank did all of the first pass, and then more
  abbrev pub IsWhole : Type 0
  IsWhole = (ops : List Operation) × ((past_at (device_of b) (story_of new)).ops ≡ (past_at (device_of b) (story_of c.at)).ops ++ (left_strokes kind b (mine b (noted (what.Held b) (story_of c.at))) (store (noted (what.Held b) (story_of c.at))) accepts r ++ ops))

  whole_done : Ending b (Unit {0}) more (after moves here) end → IsWhole
  whole_done e =
      let trace : List Move = ended_trace b (Unit {0}) more (after moves here) end e in
      let is : end ≡ after (moves ++ trace) here = ended_is b (Unit {0}) more (after moves here) end e ∙ sym (after-append moves trace here) in
      let strokes : List Operation = side_ops side.Bank (pass accepts b kind (noted (what.Held b) start) r) in
      let s : Starts ⊥ strokes (past_at (device_of b) here) (past_at (device_of b) (after (moves ++ trace) here)) =
      deeds_first ⊥ b (pass accepts b kind (noted (what.Held b) start) r) trace here (moves ++ trace) (whole_front ⊥ (moves ++ trace) here) in
      elim s.first [
        | inl w ↦ (
          w.0,
          ap (λ (past : Past). past.ops) (c.same ∙ ap (λ (t : Story). past_at (device_of b) t) is) ∙ s.is
              ∙ ap (λ (past : Past). past.ops ++ s.ops) (told_past b (λ _. what.Resumed b kind) (noted (what.Held b) start) ∙ told_past b (what.Held b) start)
              ∙ ap (λ (ops : List Operation). (past_at (device_of b) start).ops ++ ops) (w.1 ∙ ap (λ (ops : List Operation). ops ++ w.0) (pass_strokes accepts b kind (noted (what.Held b) start) r)),
        )
        | inr short ↦ absurd short.0
      ]

  -- it was cut in that
  cut_told : IsBroken b (Unit {0}) moves here end → IsCutBehind b (what.Resumed b kind) (added first new)
  cut_told p =
      let there : Story = after p.trace here in
      let quiet : said p.trace here ≡ [] = none_said (IsOwn b) p.trace here
      (cut_makes (IsOwn b) NoNote p.which moves p.trace here (deeds_make (IsOwn b) NoNote b (inr refl) (inl refl) (pass accepts b kind (noted (what.Held b) start) r)) p.cut).1 in
      let held : Note = record { item = start.item; what = what.Held b (_) } in
      let resumed : Note = record { item = start.item; what = what.Resumed b kind } in
      let last : Note = record { item = there.item; what = p.last (_) } in
      let own : List Note = held ∷ resumed ∷ last ∷ [] in
      let noted_there : there.notes ≡ here.notes = notes_after p.trace here ∙ ap (λ (notes : List Note). here.notes ++ notes) quiet ∙ append-nil here.notes in
      let is : c.end.notes.list ≡ c.at.notes.list ++ own =
      ap (λ (t : Story). t.notes) p.is ∙ ap (λ (notes : List Note). notes ++ (last ∷ [])) noted_there
      ∙ append_assoc (start.notes ++ (held ∷ [])) (resumed ∷ []) (last ∷ []) ∙ append_assoc start.notes (held ∷ []) (resumed ∷ last ∷ []) in
      record {
        before = c.before.more ++ (held ∷ []);
        item = start.item;
        next = last;
        behind = c.behind.more;
        is = added_is (Apart b) (Apart b) first c.at c.end new own c.before is c.behind ∙ sym (append_assoc c.before.more (held ∷ []) (resumed ∷ last ∷ c.behind.more));
        failed = trouble_fails b (Unit {0}) p.which p.last _ p.trouble;
      }

  -- or before it was noted to be resumed
  abbrev IsOtherNote : What → Type 0
  IsOtherNote that = that ≢ what.Resumed b kind

  trouble_other : (which : Device) (w : Counts → What) → IsTrouble b (Unit {0}) which w → (at : Counts) → w at ≢ what.Resumed b kind
  trouble_other which w (inl e) at = subst (λ (v : Counts → What). v at ≢ what.Resumed b kind) (sym e) (λ same. cc)
  trouble_other which w (inr (e, known)) at = subst (λ (v : Counts → What). v at ≢ what.Resumed b kind) (sym e) (λ same. cc)

  never_told : IsBroken b (Unit {0}) (before accepts b kind start r) start end → ¬ IsNoted (added first new) (what.Resumed b kind)
  never_told p n =
      let trace : List Move = p.trace ++ (Says p.last ∷ []) in
      let is : end ≡ after trace start = ended_is b (Unit {0}) (before accepts b kind start r) start end (inr p) in
      let front : AllSay IsOtherNote (before accepts b kind start r) = ((λ at same. cc), (tt, (tt, (tt, tt)))) in
      let all : AllSay IsOtherNote trace = AllMake-append Whichever (λ w. (at : Counts) → IsOtherNote (w at)) p.trace (Says p.last ∷ [])
      (cut_makes Whichever (λ w. (at : Counts) → IsOtherNote (w at)) p.which (before accepts b kind start r) p.trace start front p.cut).1 (trouble_other p.which p.last p.trouble, tt) in
      let own : Wrote IsOtherNote c.at c.end = wrote_by IsOtherNote trace c.at c.end is all in
      own.all (what.Resumed b kind) (only_between (Apart b) (Apart b) first c.at c.end new own.more c.before own.is c.behind (what.Resumed b kind) (λ apart. apart refl) (λ apart. apart refl) n) refl

  -- A job that is resumed does its first pass, or a call fails in that.
  pub done_or_cut : IsNoted (added first new) (what.Resumed b kind) → IsWhole ⊎ IsCutBehind b (what.Resumed b kind) (added first new)
  done_or_cut n =
      let w : Counts → What = λ _. what.Resumed b kind in
      let front : List Move = before accepts b kind start r in
      let ended : Ending b (Unit {0}) (front ++ (Says w ∷ (moves ++ more))) start end =
      subst (λ (ms : List Move). Ending b (Unit {0}) ms start end) (brought_parts accepts b kind start r) c.ended in
      elim (ends_parts b (Unit {0}) front (Says w ∷ (moves ++ more)) start end ended) [
        | inl broken ↦ absurd (never_told broken n)
        | inr behind ↦ elim (ends_parts b (Unit {0}) moves more here end (ends_behind b (Unit {0}) w (moves ++ more) (noted (what.Held b) start) end behind)) [
          | inl broken ↦ inr (cut_told broken)
          | inr done ↦ inl (whole_done done)
        ]
      ]
