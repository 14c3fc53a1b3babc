-- While a bank stands released no job of it is open, at any count of the store.
use Rattle.std.proofs.Common.{◌≡◌, ◌∙◌, ℕ, ◌+◌, ◌≤◌, refl, sym, ap, subst, arith, List, [], ◌∷◌, length, length-append, inl, inr}
use Rattle.std.proofs.lemmas.Bool.{cases_lt}
use Rattle.std.proofs.lemmas.List.{take-append-le}
use Rattle.std.proofs.lemmas.List.Elements.{All-from_recursion}
use Rattle.std.specs.List.{AllByRecursion}
use Rattle.std.specs.Prelude.{slice_index_or}
use Rattle.pfr_flash.specs.FlashState.{size_of}
use Rattle.pfr_flash.specs.Layout.{IsBankSize}
use Rattle.pfr_flash.specs.Operation.{Operation, applied, play}
use Rattle.pfr_flash.specs.declared.names.Bank.{Bank}
use Rattle.pfr_flash.specs.declared.names.Counts.{Counts}
use Rattle.pfr_flash.specs.declared.names.Device.TheVariants as device
use Rattle.pfr_flash.proofs.PlayLemmas.{length-applied, length-play}
use Rattle.pfr_engine.specs.Acceptance.{Acceptance}
use Rattle.pfr_jobs.specs.Log.{open_job}
use Rattle.pfr_jobs.specs.declared.job.OpenJob.TheVariants as job
use Rattle.pfr_script.specs.declared.item.Item.{Item}
use Rattle.pfr_script.specs.declared.item.Item.TheVariants as item
use Rattle.pfr_report.specs.declared.note.Note.{Note}
use Rattle.pfr_report.specs.declared.note.What.{What}
use Rattle.pfr_report.specs.declared.note.What.TheVariants as what
use Rattle.pfr_story.specs.Plans.{store}
use Rattle.pfr_story.specs.Run.{Did, Reached}
use Rattle.pfr_story.specs.Safety.{Keeps}
use Rattle.pfr_story.specs.Spans.{closes, opens_from, ended_from, spans_of}
use Rattle.pfr_story.specs.Story.{Past, Story, Says, Does, Asks, with_op, operated, counts_of, image_of}
use Rattle.pfr_story.specs.Turn.{begun}
use Rattle.pfr_story.specs.Whole.{IsJobless, RunsJobless}
use Rattle.pfr_story.specs.World.{World, story_of}
use Rattle.pfr_story.proofs.Bytes.{HaveBytes}
use Rattle.pfr_story.proofs.IdleLaws.{Turn-idling}
use Rattle.pfr_story.proofs.IdleRules.{KeepsIdle, IsIdleWhere}
use Rattle.pfr_story.proofs.RunLaws.{armed_story}
use Rattle.pfr_story.proofs.SafetyLaws.{image_operated}
use Rattle.pfr_story.proofs.SpanLaws.{past_upto, AllOpen, AllEnded, open_none, open_map, ended_map, ended_append, ended_closes, opens_push, ended_push, IsReleaseOf, noted_all, none_or_running, upto_last}
use Rattle.pfr_story.proofs.Traces.{Traced-keeps}
use Rattle.pfr_story.proofs.TrustedRunLaws.{IsUnderway}
use Rattle.pfr_story.proofs.WholeLaws.{sized_later, AnyItem, any_items, Reached-carries}

each_ended : (P : Counts → Counts → Type 0) (spans : List (Counts × Counts)) → AllEnded P spans → AllByRecursion (λ span. P span.0 span.1) spans
each_ended P [] p = tt
each_ended P (span ∷ spans) p = (p.0, each_ended P spans p.1)

longer : (past : Past) (op : Operation) → length (with_op past op).ops ≡ length past.ops + 1
longer past op = length-append past.ops (op ∷ [])

upto_longer : (past : Past) (op : Operation) (n : ℕ) → n ≤ length past.ops → past_upto (with_op past op) n ≡ past_upto past n
upto_longer past op n within = ap (λ (ops : List Operation). play past.start ops) (take-append-le n past.ops (op ∷ []) within)

-- ---- of a story
module _ (which : Bank) where
  abbrev IsNone : List ℕ → Type 0
  IsNone nv = open_job nv which ≡ job.None

  none_where : (w : What) (nv : List ℕ) → IsIdleWhere which w nv → IsReleaseOf which w → IsNone nv
  none_where (what.Released b svn counts) nv idle release = idle release
  none_where _ nv idle release = absurd release

  -- no job is open at any count of the store from this one on
  abbrev IsIdleFrom : Past → Counts → Type 0
  IsIdleFrom nv begin = (begin.nv ≤ length nv.ops) × ((n : ℕ) → begin.nv ≤ n → n ≤ length nv.ops → IsNone (past_upto nv n))

  -- nor at any between these
  abbrev IsIdleSpan : Past → Counts → Counts → Type 0
  IsIdleSpan nv begin end = (end.nv ≤ length nv.ops) × IsJobless which nv begin end

  pub record IdleSpans (story : Story) : Type 0 where
    pub size : length (store story) ≡ 32768
    pub closed : AllEnded (IsIdleSpan story.nv) (ended_from which [] story.notes)
    pub opened : AllOpen (IsIdleFrom story.nv) (opens_from which [] story.notes)

  -- one operation more
  span_longer : (nv : Past) (op : Operation) (begin end : Counts) → IsIdleSpan nv begin end → IsIdleSpan (with_op nv op) begin end
  span_longer nv op begin end p = (
    omega (arith, p.0, longer nv op),
    λ n low high. subst IsNone (sym (upto_longer nv op n (omega (arith, high, p.0)))) (p.1 n low high),
  )

  open_longer : (nv : Past) (op : Operation) (begin : Counts) → (IsNone (image_of nv) → IsNone (image_of (with_op nv op))) → IsIdleFrom nv begin → IsIdleFrom (with_op nv op) begin
  open_longer nv op begin keeps p = (
    omega (arith, p.0, longer nv op),
    λ n low high. elim (cases_lt (length nv.ops) n) [
      | inl last ↦ subst IsNone (sym (upto_last (with_op nv op) n (omega (arith, last, high, longer nv op))))
          (keeps (subst IsNone (upto_last nv (length nv.ops) refl) (p.1 (length nv.ops) p.0 (omega arith))))
      | inr before ↦ subst IsNone (sym (upto_longer nv op n before)) (p.1 n low before)
    ],
  )

  idle_spans : Keeps (KeepsIdle which) IdleSpans
  idle_spans (Says w) story g p =
      let here : Counts = counts_of story in
      let note : Note = record { item = story.item; what = w here } in
      let now = λ (release : IsReleaseOf which (w here)). none_where (w here) (store story) g.1 release in
      let q = noted_all which (IsIdleSpan story.nv) (IsIdleFrom story.nv) here (λ begin o. (omega arith, o.1)) (w here) g.0
      (λ release. (omega arith, λ n low high. subst IsNone (sym (upto_last story.nv n (omega (arith, low, high)))) (now release)))
      (ended_from which [] story.notes) (opens_from which [] story.notes) (p.closed, p.opened) in
      record {
        size = p.size;
        closed = rw (ended_push which [] story.notes note) q.0;
        opened = rw (opens_push which [] story.notes note) q.1;
      }
  idle_spans (Does device.Bmc op) story g p = record { size = p.size; closed = p.closed; opened = p.opened }
  idle_spans (Does device.Pch op) story g p = record { size = p.size; closed = p.closed; opened = p.opened }
  idle_spans (Does device.Nv op) story g p =
      let is : store (operated device.Nv op story) ≡ applied (store story) op = image_operated device.Nv op story in
      let opens : List Counts = opens_from which [] story.notes in
      let later : Past = with_op story.nv op in
      record {
        size = ap (λ (image : List ℕ). length image) is ∙ length-applied (store story) op ∙ p.size;
        closed = ended_map (IsIdleSpan story.nv) (IsIdleSpan later) (λ begin end q. span_longer story.nv op begin end q) (ended_from which [] story.notes) p.closed;
        opened = elim (none_or_running which story.notes (AllOpen (IsIdleFrom later) opens)
            (λ runs. open_map (IsIdleFrom story.nv) (IsIdleFrom later) (λ begin q. open_longer story.nv op begin (λ none. subst IsNone (sym is) (g p.size runs none)) q) opens p.opened)) [
              | inl none ↦ open_none (IsIdleFrom later) opens none
              | inr all ↦ all
            ];
      }
  idle_spans (Asks at) story g p = p

  jobless_spans : (story : Story) → IdleSpans story → RunsJobless which story
  jobless_spans story p =
      let here : Counts = counts_of story in
      let opens : List Counts = opens_from which [] story.notes in
      let Span : Counts → Counts → Type 0 = λ begin end. IsJobless which story.nv begin end in
      All-from_recursion (λ (span : Counts × Counts). IsJobless which story.nv span.0 span.1) (spans_of which story.notes here)
      (each_ended Span (spans_of which story.notes here)
      (ended_append Span (ended_from which [] story.notes) (closes here opens)
      (ended_map (IsIdleSpan story.nv) Span (λ begin end q. q.1) (ended_from which [] story.notes) p.closed)
      (ended_closes Span here opens (open_map (IsIdleFrom story.nv) (λ begin. Span begin here) (λ begin q. q.1) opens p.opened))))

-- ---- of a run
module _ (accepts : Acceptance) (tears : List (List ℕ)) (first : World) (bmc : IsBankSize (size_of first.bmc)) (pch : IsBankSize (size_of first.pch)) (size : size_of first.nv ≡ 32768) where
  did_jobless : (which : Bank) (i : Item) (old new : World) → IsUnderway accepts first old → HaveBytes new → Did accepts tears i old new → IdleSpans which (story_of old) → IdleSpans which (story_of new)
  did_jobless which (item.Event e) old new u held t p =
      let here = sized_later first old u.later bmc pch size in
      Traced-keeps (KeepsIdle which) (IdleSpans which) (idle_spans which) (begun e old) new (Turn-idling accepts which e old new t held here.bmc here.pch here.nv u.trusted)
      (record { size = p.size; closed = p.closed; opened = p.opened })
  did_jobless which (item.Arm arm) old new u held is p =
      subst (λ (s : Story). IdleSpans which s) (sym (ap story_of is ∙ armed_story arm (slice_index_or tears arm.tear []) old))
      (record { size = p.size; closed = p.closed; opened = p.opened })

  none_noted : (which : Bank) → first.notes.list ≡ [] → IdleSpans which (story_of first)
  none_noted which none = record { size = length-play first.nv.start first.nv.ops ∙ size; closed = rw none tt; opened = rw none tt }

  -- No job of a bank that stands released is open in a run.
  pub Reached-jobless : (items : List Item) (new : World) → IsUnderway accepts first first → HaveBytes new → Reached (Did accepts tears) items first new → first.notes.list ≡ []
      → (which : Bank) → RunsJobless which (story_of new)
  Reached-jobless items new u held r none which =
      jobless_spans which (story_of new)
      (Reached-carries accepts tears first bmc pch size AnyItem (λ done w. IdleSpans which (story_of w)) (λ done i old mid any under bytes did p. did_jobless which i old mid under bytes did p)
      [] items first new (any_items items) u held r (none_noted which none))
