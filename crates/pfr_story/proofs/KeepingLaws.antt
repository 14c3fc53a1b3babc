-- What a platform carries of its banks' spans, from step to step.
use Rattle.std.proofs.Common.{◌≡◌, ◌∙◌, ℕ, ◌≤◌, refl, sym, ap, subst, arith, List, [], ◌∷◌, ◌++◌, length, take, inl, inr, append_assoc}
use Rattle.std.proofs.lemmas.List.{take-append-le}
use Rattle.pfr_flash.specs.FlashState.{now, size_of}
use Rattle.pfr_flash.specs.Layout.{IsBankSize}
use Rattle.pfr_flash.specs.Operation.{Operation, play}
use Rattle.pfr_flash.specs.declared.names.Bank.{Bank}
use Rattle.pfr_flash.specs.declared.names.Bank.TheVariants as bank
use Rattle.pfr_flash.specs.declared.names.Counts.{Counts}
use Rattle.pfr_flash.specs.declared.names.Device.TheVariants as device
use Rattle.pfr_engine.specs.Acceptance.{Acceptance}
use Rattle.pfr_fuses.specs.FusesState.{FusesState}
use Rattle.pfr_manifest.specs.declared.manifest.Manifest.{Manifest}
use Rattle.pfr_auth.specs.Trusted.{IsTrusted}
use Rattle.pfr_auth.proofs.TrustedLaw.{trusted_judged}
use Rattle.pfr_script.specs.declared.event.Event.{Event}
use Rattle.pfr_report.specs.Texts.{IsNoted}
use Rattle.pfr_report.specs.declared.note.Note.{Note}
use Rattle.pfr_report.specs.declared.note.What.TheVariants as what
use Rattle.pfr_story.specs.Story.{Past, Story, counts_of, past_at, device_of, image_at}
use Rattle.pfr_story.specs.World.{World, story_of, state_at, added}
use Rattle.pfr_story.specs.Standing as standing
use Rattle.pfr_story.specs.Standing.{standing_of}
use Rattle.pfr_story.specs.Promises.{count_at}
use Rattle.pfr_story.specs.Spans.{opens_after, closes, ended, opens_from, ended_from, IsSpan, AllSpans}
use Rattle.pfr_story.specs.Keeping.{IsSettled, HasTrustedSpans}
use Rattle.pfr_story.specs.Turn.{Turn}
use Rattle.pfr_story.proofs.Bytes.{HaveBytes}
use Rattle.pfr_story.proofs.Traces.{Begins, Precedes, begins_at}
use Rattle.pfr_story.proofs.IdleLaws.{Turn-idle}
use Rattle.pfr_story.proofs.NoteLaws.{Turn-releases}
use Rattle.pfr_story.proofs.RunLaws.{IsLater-turn, trusted_at, adds_added, turn_adds}
use Rattle.pfr_story.proofs.SpanLaws.{past_upto, AreSpared, IsKept, IsTrustedAt, IsOpen, Kept, AllOpen, AllEnded, open_none, ended_append, begins, running_spans, none_or_running, ReleasedSpans-begun, settled_running, upto_last}
use Rattle.pfr_story.proofs.SpanSteps.{Turn-spans}

-- ---- spans are kept
-- what an image is trusted by is one
module _ (accepts : Acceptance) (which : Bank) (image nv : List ℕ) (s t : IsTrusted image nv which accepts) where
  same_fuses : s.fuses ≡ t.fuses
  same_fuses = let a = s.provisioned in let b = t.provisioned in cc

  same_manifest : s.manifest ≡ t.manifest
  same_manifest =
      let a = trusted_judged image nv which accepts s in
      let b = trusted_judged image nv which accepts t in
      let e = same_fuses in
      cc

  spared_as : (ops nv_ops : List Operation) → AreSpared which s.fuses s.manifest ops nv_ops → AreSpared which t.fuses t.manifest ops nv_ops
  spared_as ops nv_ops p =
      subst (λ (m : Manifest). AreSpared which t.fuses m ops nv_ops) same_manifest (subst (λ (f : FusesState). AreSpared which f s.manifest ops nv_ops) same_fuses p)

module _ (accepts : Acceptance) (which : Bank) where
  span_kept : (mine nv : Past) (begin end : Counts) → IsSpan accepts which mine nv begin end → IsKept accepts which mine nv begin end
  span_kept mine nv begin end p = record {
    forth = p.forth;
    forth_store = p.forth_store;
    done = p.done;
    done_store = p.done_store;
    spared = record { each = λ t. spared_as accepts which _ _ p.trusted t _ _ (record { image = p.image; recovery = p.recovery; store = p.store }) };
  }

  -- of spans that ended, and of those that are open
  ended_spans : (P : Counts → Counts → Type 0) (mine nv : Past) → ((begin end : Counts) → IsSpan accepts which mine nv begin end → P begin end)
      → (spans more : List (Counts × Counts)) → AllSpans accepts which mine nv (spans ++ more) → AllEnded P spans × AllSpans accepts which mine nv more
  ended_spans P mine nv f [] more p = (tt, p)
  ended_spans P mine nv f (span ∷ spans) more p = let q = ended_spans P mine nv f spans more p.1 in ((f span.0 span.1 p.0, q.0), q.1)

  open_spans : (P : Counts → Type 0) (mine nv : Past) (end : Counts) → ((begin : Counts) → IsSpan accepts which mine nv begin end → P begin)
      → (opens : List Counts) → AllSpans accepts which mine nv (closes end opens) → AllOpen P opens
  open_spans P mine nv end f [] p = tt
  open_spans P mine nv end f (begin ∷ begins) p = (f begin p.0, open_spans P mine nv end f begins p.1)

  module _ (story : Story) (h : HasTrustedSpans accepts which story) where
    -- what holds of each span holds of the spans that ended, and of the open ones
    all_ended : (P : Counts → Counts → Type 0) → ((begin end : Counts) → IsSpan accepts which (past_at (device_of which) story) story.nv begin end → P begin end)
        → AllEnded P (ended_from which [] story.notes)
    all_ended P f = (ended_spans P (past_at (device_of which) story) story.nv f (ended_from which [] story.notes) (closes (counts_of story) (opens_from which [] story.notes)) h.spans).0

    all_open : (P : Counts → Type 0) → ((begin : Counts) → IsSpan accepts which (past_at (device_of which) story) story.nv begin (counts_of story) → P begin)
        → AllOpen P (opens_from which [] story.notes)
    all_open P f =
        let mine : Past = past_at (device_of which) story in
        open_spans P mine story.nv (counts_of story) f (opens_from which [] story.notes)
        (ended_spans (λ begin end. Unit {0}) mine story.nv (λ begin end p. tt) (ended_from which [] story.notes) (closes (counts_of story) (opens_from which [] story.notes)) h.spans).1

    kept_so : Kept accepts which story
    kept_so = record {
      closed = all_ended (IsKept accepts which (past_at (device_of which) story) story.nv) (λ begin end p. span_kept (past_at (device_of which) story) story.nv begin end p);
      opened = elim (none_or_running which story.notes (IsSettled (image_at device.Nv story)) h.settled) [
        | inl none ↦ open_none (IsOpen accepts which story) (opens_from which [] story.notes) none
        | inr settled ↦ all_open (IsOpen accepts which story) (λ begin p. record { kept = span_kept (past_at (device_of which) story) story.nv begin (counts_of story) p; settled = settled })
      ];
    }

  -- ---- what was trusted at counts of an earlier story is so later
  upto_same : (a b : Past) (n : ℕ) → Begins a b → n ≤ length a.ops → past_upto b n ≡ past_upto a n
  upto_same a b n p h =
      ap (λ (start : List ℕ). play start (take n b.ops)) p.start
      ∙ ap (λ (ops : List Operation). play a.start ops) (ap (λ (ops : List Operation). take n ops) p.ops ∙ take-append-le n a.ops p.more h)

  trusted_later : (mine nv more later : Past) (begin end : Counts) → Begins mine more → Begins nv later → IsSpan accepts which mine nv begin end → IsTrustedAt accepts which more later begin
  trusted_later mine nv more later begin end b n p =
      rw (upto_same mine more (count_at which begin) b (omega (arith, p.forth, p.done)), upto_same nv later begin.nv n (omega (arith, p.forth_store, p.done_store))) p.trusted

-- ---- notes that are added
opens_append : (which : Bank) (opens : List Counts) (notes more : List Note) → opens_from which opens (notes ++ more) ≡ opens_from which (opens_from which opens notes) more
opens_append which opens [] more = refl
opens_append which opens (note ∷ notes) more = opens_append which (opens_after which note.what opens) notes more

ended_more : (which : Bank) (opens : List Counts) (notes more : List Note)
    → ended_from which opens (notes ++ more) ≡ ended_from which opens notes ++ ended_from which (opens_from which opens notes) more
ended_more which opens [] more = refl
ended_more which opens (note ∷ notes) more =
    ap (λ (spans : List (Counts × Counts)). ended which note.what opens ++ spans) (ended_more which (opens_after which note.what opens) notes more)
    ∙ sym (append_assoc (ended which note.what opens) (ended_from which (opens_after which note.what opens) notes) _)

-- spans that begin with P still do, where each release that is added does
begin_more : (which : Bank) (P : Counts → Type 0) (notes more : List Note) → AllEnded (λ begin end. P begin) (ended_from which [] notes) → AllOpen P (opens_from which [] notes)
    → ((svn : ℕ) (at : Counts) → IsNoted more (what.Released which svn at) → P at)
    → AllEnded (λ begin end. P begin) (ended_from which [] (notes ++ more)) × AllOpen P (opens_from which [] (notes ++ more))
begin_more which P notes more closed opened f =
    let b = begins which P (opens_from which [] notes) more opened f in (
      subst (λ (spans : List (Counts × Counts)). AllEnded (λ begin end. P begin) spans) (sym (ended_more which [] notes more))
          (ended_append (λ begin end. P begin) (ended_from which [] notes) (ended_from which (opens_from which [] notes) more) closed b.0),
      subst (λ (opens : List Counts). AllOpen P opens) (sym (opens_append which [] notes more)) b.1,
    )

-- A step keeps it.
pub Turn-trusted_spans : (accepts : Acceptance) (which : Bank) (e : Event) (old new : World) → Turn accepts e old new → HaveBytes new → IsBankSize (size_of old.bmc) → IsBankSize (size_of old.pch) → size_of old.nv ≡ 32768
    → ((c : Bank) → HasTrustedSpans accepts c (story_of old)) → HasTrustedSpans accepts which (story_of new)
Turn-trusted_spans accepts which e old new t held bmc pch size spans =
    let h : HasTrustedSpans accepts which (story_of old) = spans which in
    let a : Story = story_of old in
    let b : Story = story_of new in
    let p : Precedes a b = (IsLater-turn accepts e old new t).precedes in
    let P : Counts → Type 0 = IsTrustedAt accepts which (past_at (device_of which) b) b.nv in
    let later : (begin end : Counts) → IsSpan accepts which (past_at (device_of which) a) a.nv begin end → P begin =
    λ begin end s. trusted_later accepts which (past_at (device_of which) a) a.nv (past_at (device_of which) b) b.nv begin end (begins_at (device_of which) a b p) p.nv s in
    let begun = begin_more which P old.notes.list (added old new) (all_ended accepts which a h (λ begin end. P begin) later) (all_open accepts which a h P (λ begin s. later begin (counts_of a) s))
    (λ svn at n. trusted_at accepts which svn at new (Turn-releases accepts e old new size t held which svn at n)) in
    let notes : old.notes.list ++ added old new ≡ new.notes.list = sym (adds_added old new (turn_adds accepts e old new t)) in
    let kept : Kept accepts which b = Turn-spans accepts which e old new t size (kept_so accepts which a h) in
    record {
      spans = ReleasedSpans-begun accepts which b kept
          (subst (λ (ns : List Note). AllEnded (λ begin end. P begin) (ended_from which [] ns)) notes begun.0)
          (subst (λ (ns : List Note). AllOpen P (opens_from which [] ns)) notes begun.1);
      settled = λ runs. settled_running accepts which b kept runs;
      idle = Turn-idle accepts which e old new t held bmc pch size spans;
    }

-- ---- a bank that stands released is trusted now
trusted_at_end : (accepts : Acceptance) (which : Bank) (mine nv : Past) (begin end : Counts) → count_at which end ≡ length mine.ops → end.nv ≡ length nv.ops
    → IsSpan accepts which mine nv begin end → IsTrusted (play mine.start mine.ops) (play nv.start nv.ops) which accepts
trusted_at_end accepts which mine nv begin end b n p =
    let t = p.throughout (count_at which end) end.nv p.forth (omega arith) p.forth_store (omega arith) in
    rw (upto_last mine (count_at which end) b, upto_last nv end.nv n) at t.0

trusted_open : (accepts : Acceptance) (which : Bank) (story : Story) → count_at which (counts_of story) ≡ length (past_at (device_of which) story).ops → HasTrustedSpans accepts which story
    → standing_of which story.notes ≡ standing.Running → IsTrusted (image_at (device_of which) story) (image_at device.Nv story) which accepts
trusted_open accepts which story counts h runs =
    let first = running_spans which story.notes runs in
    let P : Counts → Type 0 = λ begin. IsTrusted (image_at (device_of which) story) (image_at device.Nv story) which accepts in
    let each = all_open accepts which story h P (λ begin p. trusted_at_end accepts which (past_at (device_of which) story) story.nv begin (counts_of story) counts refl p) in
    (subst (λ (opens : List Counts). AllOpen P opens) first.2 each).0

pub trusted_now : (accepts : Acceptance) (which : Bank) (w : World) → HasTrustedSpans accepts which (story_of w) → standing_of which w.notes.list ≡ standing.Running
    → IsTrusted (now (state_at (device_of which) w)) (now w.nv) which accepts
trusted_now accepts bank.Bmc w h runs = trusted_open accepts bank.Bmc (story_of w) refl h runs
trusted_now accepts bank.Pch w h runs = trusted_open accepts bank.Pch (story_of w) refl h runs
