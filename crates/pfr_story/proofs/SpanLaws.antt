-- How spans are kept, move by move.
use Rattle.std.proofs.Common.{◌≡◌, ◌∙◌, ℕ, ◌≤◌, refl, sym, ap, subst, arith, List, [], ◌∷◌, ◌++◌, length, take, drop, All, append_assoc, ◌⊎◌, inl, inr, true, false, Bool, cond, length-append}
use Rattle.std.proofs.lemmas.List.{append-nil, take-append-le, take_all, take-take, take-append-drop, drop-append-le}
use Rattle.std.proofs.lemmas.List.Elements.{All-push}
use Rattle.std.proofs.Math.ListN.{drop_of_length-le}
use Rattle.pfr_flash.specs.Operation.{Operation, play, play_first}
use Rattle.pfr_flash.specs.Range.{Leaves}
use Rattle.pfr_flash.specs.declared.names.Bank.{Bank}
use Rattle.pfr_flash.specs.declared.names.Bank.TheVariants as bank
use Rattle.pfr_flash.specs.declared.names.Counts.{Counts}
use Rattle.pfr_flash.specs.declared.names.Device.{Device}
use Rattle.pfr_flash.specs.declared.names.Device.TheVariants as device
use Rattle.pfr_flash.proofs.PlayLemmas.{play-append}
use Rattle.pfr_engine.specs.Acceptance.{Acceptance}
use Rattle.pfr_fuses.specs.FusesState.{FusesState}
use Rattle.pfr_fuses.specs.RootSlot.{layout_of}
use Rattle.pfr_fuses.specs.declared.root_slot.RootSlot.{RootSlot}
use Rattle.pfr_fuses.proofs.StandsLemmas.{fuses_of-ok}
use Rattle.pfr_manifest.specs.declared.manifest.Manifest.{Manifest}
use Rattle.pfr_auth.specs.Leaving.{LeavesImage, LeavesStore}
use Rattle.pfr_auth.specs.Throughout.{IsTrustedBy, between}
use Rattle.pfr_auth.specs.Trusted.{IsTrusted, StandFor}
use Rattle.pfr_auth.proofs.LastingLaw.{store_lasts}
use Rattle.pfr_auth.proofs.LeavingLaw.{left_store, trusted_between}
use Rattle.pfr_report.specs.Texts.{IsNoted}
use Rattle.pfr_report.specs.declared.note.Note.{Note}
use Rattle.pfr_report.specs.declared.note.What.{What}
use Rattle.pfr_report.specs.declared.note.What.TheVariants as what
use Rattle.pfr_story.specs.Guards.{same_bank}
use Rattle.pfr_story.specs.Story.{Past, Story, Says, Does, Asks, counts_of, past_at, device_of, with_op, operated, noted, image_of, image_at}
use Rattle.pfr_story.specs.Safety.{Rule, Keeps}
use Rattle.pfr_story.specs.Promises.{count_at}
use Rattle.pfr_story.specs.Standing as standing
use Rattle.pfr_story.specs.Standing.{Standing, standing_after, standing_from, standing_of}
use Rattle.pfr_story.proofs.Traces.{IsStamped}
use Rattle.pfr_story.specs.Keeping.{IsSettled}
use Rattle.pfr_story.specs.Spans.{opens_after, closes, ended, opens_from, ended_from, IsSpan, AllSpans, ReleasedSpans}

-- ---- what is left where a span is open
-- what a device held at a count
abbrev pub past_upto : Past → ℕ → List ℕ
past_upto past count = play_first count past.start past.ops

-- a bank's own operation touches neither what its trust reads nor its recovery area
pub record LeavesBank (which : Bank) (fuses : FusesState) (manifest : Manifest) (op : Operation) : Type 0 where
  pub image : LeavesImage (layout_of fuses.provision which) manifest op
  pub recovery : Leaves (layout_of fuses.provision which).recovery_at (layout_of fuses.provision which).area_len op

-- an operation of a device, by the ranges that it leaves
abbrev pub Spares : Bank → Device → FusesState → Manifest → Operation → Type 0
Spares bank.Bmc device.Bmc fuses manifest op = LeavesBank bank.Bmc fuses manifest op
Spares bank.Bmc device.Pch fuses manifest op = Unit {0}
Spares bank.Bmc device.Nv fuses manifest op = LeavesStore fuses bank.Bmc op
Spares bank.Pch device.Bmc fuses manifest op = Unit {0}
Spares bank.Pch device.Pch fuses manifest op = LeavesBank bank.Pch fuses manifest op
Spares bank.Pch device.Nv fuses manifest op = LeavesStore fuses bank.Pch op

-- a bank's operations and the store's, one by one
pub record AreSpared (which : Bank) (fuses : FusesState) (manifest : Manifest) (ops nv_ops : List Operation) : Type 0 where
  pub image : All (LeavesImage (layout_of fuses.provision which) manifest) ops
  pub recovery : All (Leaves (layout_of fuses.provision which).recovery_at (layout_of fuses.provision which).area_len) ops
  pub store : All (LeavesStore fuses which) nv_ops

-- from bytes where the bank is trusted
pub record SpareTrust (accepts : Acceptance) (which : Bank) (image nv : List ℕ) (ops nv_ops : List Operation) : Type 0 where
  pub each : (t : IsTrusted image nv which accepts) → AreSpared which t.fuses t.manifest ops nv_ops

-- a span, but for the trust where it begins
pub record IsKept (accepts : Acceptance) (which : Bank) (mine nv : Past) (begin end : Counts) : Type 0 where
  pub forth : count_at which begin ≤ count_at which end
  pub forth_store : begin.nv ≤ end.nv
  pub done : count_at which end ≤ length mine.ops
  pub done_store : end.nv ≤ length nv.ops
  pub spared : SpareTrust accepts which (past_upto mine (count_at which begin)) (past_upto nv begin.nv)
      (between (count_at which begin) (count_at which end) mine.ops) (between begin.nv end.nv nv.ops)

abbrev pub IsTrustedAt : Acceptance → Bank → Past → Past → Counts → Type 0
IsTrustedAt accepts which mine nv at = IsTrusted (past_upto mine (count_at which at)) (past_upto nv at.nv) which accepts

-- ---- of all open spans, and of all that ended
abbrev pub AllOpen : (Counts → Type 0) → List Counts → Type 0
AllOpen P [] = Unit {0}
AllOpen P (begin ∷ begins) = P begin × AllOpen P begins

abbrev pub AllEnded : (Counts → Counts → Type 0) → List (Counts × Counts) → Type 0
AllEnded P [] = Unit {0}
AllEnded P (span ∷ spans) = P span.0 span.1 × AllEnded P spans

pub open_none : (P : Counts → Type 0) (opens : List Counts) → opens ≡ [] → AllOpen P opens
open_none P opens e = subst (λ (begins : List Counts). AllOpen P begins) (sym e) tt

pub open_any : (P : Counts → Type 0) → ((begin : Counts) → P begin) → (opens : List Counts) → AllOpen P opens
open_any P f [] = tt
open_any P f (begin ∷ begins) = (f begin, open_any P f begins)

open_both : (P Q R : Counts → Type 0) → ((begin : Counts) → P begin → Q begin → R begin) → (opens : List Counts) → AllOpen P opens → AllOpen Q opens → AllOpen R opens
open_both P Q R f [] p q = tt
open_both P Q R f (begin ∷ begins) p q = (f begin p.0 q.0, open_both P Q R f begins p.1 q.1)

pub ended_map : (P Q : Counts → Counts → Type 0) → ((begin end : Counts) → P begin end → Q begin end) → (spans : List (Counts × Counts)) → AllEnded P spans → AllEnded Q spans
ended_map P Q f [] p = tt
ended_map P Q f (span ∷ spans) p = (f span.0 span.1 p.0, ended_map P Q f spans p.1)

pub ended_append : (P : Counts → Counts → Type 0) (spans more : List (Counts × Counts)) → AllEnded P spans → AllEnded P more → AllEnded P (spans ++ more)
ended_append P [] more p q = q
ended_append P (span ∷ spans) more p q = (p.0, ended_append P spans more p.1 q)

pub ended_closes : (P : Counts → Counts → Type 0) (end : Counts) (opens : List Counts) → AllOpen (λ begin. P begin end) opens → AllEnded P (closes end opens)
ended_closes P end [] p = tt
ended_closes P end (begin ∷ begins) p = (p.0, ended_closes P end begins p.1)

pub open_map : (P Q : Counts → Type 0) → ((begin : Counts) → P begin → Q begin) → (opens : List Counts) → AllOpen P opens → AllOpen Q opens
open_map P Q f [] p = tt
open_map P Q f (begin ∷ begins) p = (f begin p.0, open_map P Q f begins p.1)

-- ---- one note more
pub opens_push : (which : Bank) (opens : List Counts) (notes : List Note) (note : Note)
    → opens_from which opens (notes ++ note ∷ []) ≡ opens_after which note.what (opens_from which opens notes)
opens_push which opens [] note = refl
opens_push which opens (n ∷ notes) note = opens_push which (opens_after which n.what opens) notes note

pub ended_push : (which : Bank) (opens : List Counts) (notes : List Note) (note : Note)
    → ended_from which opens (notes ++ note ∷ []) ≡ ended_from which opens notes ++ ended which note.what (opens_from which opens notes)
ended_push which opens [] note = append-nil (ended which note.what opens)
ended_push which opens (n ∷ notes) note =
    ap (λ (xs : List (Counts × Counts)). ended which n.what opens ++ xs) (ended_push which (opens_after which n.what opens) notes note)
    ∙ sym (append_assoc (ended which n.what opens) (ended_from which (opens_after which n.what opens) notes) _)

pub same_one : (which b : Bank) → same_bank which b ≡ true → b ≡ which
same_one bank.Bmc bank.Bmc e = refl
same_one bank.Bmc bank.Pch e = absurd cc
same_one bank.Pch bank.Bmc e = absurd cc
same_one bank.Pch bank.Pch e = refl

-- the bank is released only where the store is settled
abbrev pub IsSettledWhere : Bank → What → List ℕ → Type 0
IsSettledWhere which (what.Released b svn counts) nv = same_bank which b ≡ true → IsSettled nv
IsSettledWhere which that nv = Unit {0}

-- the bank is released by this note
abbrev pub IsReleaseOf : Bank → What → Type 0
IsReleaseOf which (what.Released b svn counts) = same_bank which b ≡ true
IsReleaseOf which that = ⊥

settled_where : (which : Bank) (w : What) (nv : List ℕ) → IsSettledWhere which w nv → IsReleaseOf which w → IsSettled nv
settled_where which (what.Released b svn counts) nv s r = s r
settled_where which _ nv s r = absurd r

-- P holds of spans that ended, and Q of those that are open here
module _ (which : Bank) (P : Counts → Counts → Type 0) (Q : Counts → Type 0) (here : Counts) (ends : (begin : Counts) → Q begin → P begin here) where
  abbrev AreAll : List (Counts × Counts) → List Counts → Type 0
  AreAll spans opens = AllEnded P spans × AllOpen Q opens

  closing : (counts : Counts) (spans : List (Counts × Counts)) (opens : List Counts) → counts ≡ here → AreAll spans opens → AreAll (spans ++ closes counts opens) []
  closing counts spans opens e p =
      let now : AllEnded P (closes here opens) = ended_closes P here opens (open_map Q (λ begin. P begin here) ends opens p.1) in
      (ended_append P spans (closes counts opens) p.0 (subst (λ (end : Counts). AllEnded P (closes end opens)) (sym e) now), tt)

  staying : (spans : List (Counts × Counts)) (opens : List Counts) → AreAll spans opens → AreAll (spans ++ []) opens
  staying spans opens p = (ended_append P spans [] p.0 tt, p.1)

  closing_if : (same : Bool) (counts : Counts) (spans : List (Counts × Counts)) (opens : List Counts) → counts ≡ here → AreAll spans opens
      → AreAll (spans ++ (cond same (closes counts opens) [])) (cond same [] opens)
  closing_if true counts spans opens e p = closing counts spans opens e p
  closing_if false counts spans opens e p = staying spans opens p

  opening_if : (same : Bool) (counts : Counts) (spans : List (Counts × Counts)) (opens : List Counts) → counts ≡ here → (same ≡ true → Q here) → AreAll spans opens
      → AreAll (spans ++ []) (cond same (counts ∷ opens) opens)
  opening_if true counts spans opens e q p = ((staying spans opens p).0, (subst Q (sym e) (q refl), p.1))
  opening_if false counts spans opens e q p = staying spans opens p

  pub noted_all : (w : What) → IsStamped w here → (IsReleaseOf which w → Q here) → (spans : List (Counts × Counts)) (opens : List Counts) → AreAll spans opens
      → AreAll (spans ++ ended which w opens) (opens_after which w opens)
  noted_all (what.Held b counts) e q spans opens p = closing_if (same_bank which b) counts spans opens e p
  noted_all (what.Locked b cause counts) e q spans opens p = closing_if (same_bank which b) counts spans opens e p
  noted_all (what.Lost which counts) e q spans opens p = closing counts spans opens e p
  noted_all (what.Released b svn counts) e q spans opens p = opening_if (same_bank which b) counts spans opens e q p
  noted_all _ e q spans opens p = staying spans opens p

-- where a span begins a release is noted
module _ (which : Bank) (P : Counts → Type 0) where
  abbrev Begin : List (Counts × Counts) → List Counts → Type 0
  Begin spans opens = AllEnded (λ begin end. P begin) spans × AllOpen P opens

  begin_if : (same : Bool) (counts : Counts) (opens : List Counts) → AllOpen P opens → Begin (cond same (closes counts opens) []) (cond same [] opens)
  begin_if true counts opens p = (ended_closes (λ begin end. P begin) counts opens p, tt)
  begin_if false counts opens p = (tt, p)

  begin_more : (same : Bool) (counts : Counts) (opens : List Counts) → (same ≡ true → P counts) → AllOpen P opens → AllOpen P (cond same (counts ∷ opens) opens)
  begin_more true counts opens f p = (f refl, p)
  begin_more false counts opens f p = p

  begin_note : (w : What) (opens : List Counts) → AllOpen P opens → ((svn : ℕ) (at : Counts) → w ≡ what.Released which svn at → P at)
      → Begin (ended which w opens) (opens_after which w opens)
  begin_note (what.Held b counts) opens p f = begin_if (same_bank which b) counts opens p
  begin_note (what.Locked b cause counts) opens p f = begin_if (same_bank which b) counts opens p
  begin_note (what.Lost device counts) opens p f = (ended_closes (λ begin end. P begin) counts opens p, tt)
  begin_note (what.Released b svn counts) opens p f =
      (tt, begin_more (same_bank which b) counts opens (λ e. f svn counts (ap (λ (x : Bank). what.Released x svn counts) (same_one which b e))) p)
  begin_note _ opens p f = (tt, p)

  pub begins : (opens : List Counts) (notes : List Note) → AllOpen P opens → ((svn : ℕ) (at : Counts) → IsNoted notes (what.Released which svn at) → P at)
      → Begin (ended_from which opens notes) (opens_from which opens notes)
  begins opens [] p f = (tt, p)
  begins opens (note ∷ notes) p f =
      let now = begin_note note.what opens p (λ svn at e. f svn at (inl e)) in
      let rest = begins (opens_after which note.what opens) notes now.1 (λ svn at n. f svn at (inr n)) in
      (ended_append (λ begin end. P begin) (ended which note.what opens) (ended_from which (opens_after which note.what opens) notes) now.0 rest.0, rest.1)

-- ---- a bank stands released exactly where a span of it is open
abbrev IsRunningWhere : Standing → List Counts → Type 0
IsRunningWhere standing.Running opens = (begin : Counts) × (begins : List Counts) × (opens ≡ begin ∷ begins)
IsRunningWhere s opens = opens ≡ []

closed_if : (same : Bool) (to s : Standing) (opens : List Counts) → IsRunningWhere to [] → IsRunningWhere s opens → IsRunningWhere (cond same to s) (cond same [] opens)
closed_if true to s opens p q = p
closed_if false to s opens p q = q

opened_if : (same : Bool) (at : Counts) (s : Standing) (opens : List Counts) → IsRunningWhere s opens → IsRunningWhere (cond same standing.Running s) (cond same (at ∷ opens) opens)
opened_if true at s opens q = (at, opens, refl)
opened_if false at s opens q = q

running_note : (which : Bank) (w : What) (s : Standing) (opens : List Counts) → IsRunningWhere s opens → IsRunningWhere (standing_after which w s) (opens_after which w opens)
running_note which (what.Held b at) s opens p = closed_if (same_bank which b) standing.Held s opens refl p
running_note which (what.Locked b why at) s opens p = closed_if (same_bank which b) standing.Locked s opens refl p
running_note which (what.Released b svn at) s opens p = opened_if (same_bank which b) at s opens p
running_note which (what.Lost d at) s opens p = refl
running_note which _ s opens p = p

running_from : (which : Bank) (notes : List Note) (s : Standing) (opens : List Counts) → IsRunningWhere s opens → IsRunningWhere (standing_from which s notes) (opens_from which opens notes)
running_from which [] s opens p = p
running_from which (note ∷ notes) s opens p = running_from which notes (standing_after which note.what s) (opens_after which note.what opens) (running_note which note.what s opens p)

pub running_spans : (which : Bank) (notes : List Note) → standing_of which notes ≡ standing.Running → (begin : Counts) × (begins : List Counts) × (opens_from which [] notes ≡ begin ∷ begins)
running_spans which notes e = subst (λ (s : Standing). IsRunningWhere s (opens_from which [] notes)) e (running_from which notes standing.Off [] refl)

pub none_or_running : (which : Bank) (notes : List Note) (P : Type 0) → (standing_of which notes ≡ standing.Running → P) → (opens_from which [] notes ≡ []) ⊎ P
none_or_running which notes P f = by_standing (standing_of which notes) f (running_from which notes standing.Off [] refl)
  where
    by_standing : (s : Standing) → (s ≡ standing.Running → P) → IsRunningWhere s (opens_from which [] notes) → (opens_from which [] notes ≡ []) ⊎ P
    by_standing standing.Running g p = inr (g refl)
    by_standing standing.Off g p = inl p
    by_standing standing.Held g p = inl p
    by_standing standing.Locked g p = inl p

module _ (accepts : Acceptance) (which : Bank) where
  -- a span as its devices go on, by what is the same and by the operations that it has now
  grown : (mine more nv later : Past) (ops nv_ops : List Operation) (begin end there : Counts)
      → past_upto more (count_at which begin) ≡ past_upto mine (count_at which begin) → past_upto later begin.nv ≡ past_upto nv begin.nv
      → between (count_at which begin) (count_at which there) more.ops ≡ ops → between begin.nv there.nv later.ops ≡ nv_ops
      → count_at which end ≤ count_at which there → end.nv ≤ there.nv → count_at which there ≤ length more.ops → there.nv ≤ length later.ops
      → ((t : IsTrustedAt accepts which mine nv begin) → AreSpared which t.fuses t.manifest (between (count_at which begin) (count_at which end) mine.ops) (between begin.nv end.nv nv.ops)
      → AreSpared which t.fuses t.manifest ops nv_ops)
      → IsKept accepts which mine nv begin end → IsKept accepts which more later begin there
  grown mine more nv later ops nv_ops begin end there u v x y m n done done_store spares p =
      let all : SpareTrust accepts which (past_upto mine (count_at which begin)) (past_upto nv begin.nv) ops nv_ops = record { each = λ t. spares t (p.spared.each t) } in
      record { forth = omega (arith, p.forth, m); forth_store = omega (arith, p.forth_store, n); done = done; done_store = done_store; spared = rw (u, v, x, y) all }

  -- ---- what is done behind a span leaves it
  module _ (past more : Past) (begin end : ℕ) (forth : begin ≤ end) (start : more.start ≡ past.start) (same : take end more.ops ≡ take end past.ops) where
    same_upto : past_upto more begin ≡ past_upto past begin
    same_upto =
        ap (λ (xs : List ℕ). play xs (take begin more.ops)) start
        ∙ ap (λ (ops : List Operation). play past.start ops)
        (sym (take-take begin end more.ops forth) ∙ ap (λ (ops : List Operation). take begin ops) same ∙ take-take begin end past.ops forth)

    same_between : between begin end more.ops ≡ between begin end past.ops
    same_between = ap (λ (ops : List Operation). drop begin ops) same

  same_kept : (mine more nv later : Past) (begin end : Counts) → more.start ≡ mine.start → later.start ≡ nv.start
      → take (count_at which end) more.ops ≡ take (count_at which end) mine.ops → take end.nv later.ops ≡ take end.nv nv.ops
      → length mine.ops ≤ length more.ops → length nv.ops ≤ length later.ops
      → IsKept accepts which mine nv begin end → IsKept accepts which more later begin end
  same_kept mine more nv later begin end s t e f m n p =
      grown mine more nv later (between (count_at which begin) (count_at which end) mine.ops) (between begin.nv end.nv nv.ops) begin end end
      (same_upto mine more (count_at which begin) (count_at which end) p.forth s e) (same_upto nv later begin.nv end.nv p.forth_store t f)
      (same_between mine more (count_at which begin) (count_at which end) p.forth s e) (same_between nv later begin.nv end.nv p.forth_store t f)
      (omega arith) (omega arith) (omega (arith, p.done, m)) (omega (arith, p.done_store, n)) (λ trust all. all) p

  longer : (past : Past) (op : Operation) → length past.ops ≤ length (with_op past op).ops
  longer past op = omega (arith, length-append past.ops (op ∷ []))

  later_mine : (mine nv : Past) (op : Operation) (begin end : Counts) → IsKept accepts which mine nv begin end → IsKept accepts which (with_op mine op) nv begin end
  later_mine mine nv op begin end p =
      same_kept mine (with_op mine op) nv nv begin end refl refl
      (take-append-le (count_at which end) mine.ops (op ∷ []) p.done) refl (longer mine op) (omega arith) p

  later_store : (mine nv : Past) (op : Operation) (begin end : Counts) → IsKept accepts which mine nv begin end → IsKept accepts which mine (with_op nv op) begin end
  later_store mine nv op begin end p =
      same_kept mine mine nv (with_op nv op) begin end refl refl
      refl (take-append-le end.nv nv.ops (op ∷ []) p.done_store) (omega arith) (longer nv op) p

  -- ---- a span that is open goes on
  -- the operations from a count on, with one more
  one_more : (ops : List Operation) (op : Operation) (begin here there : ℕ) → begin ≤ here → here ≡ length ops → there ≡ length (ops ++ op ∷ [])
      → between begin there (ops ++ op ∷ []) ≡ between begin here ops ++ op ∷ []
  one_more ops op begin here there forth h t =
      ap (λ (xs : List Operation). drop begin xs) (take_all there (ops ++ op ∷ []) (omega (arith, t)))
      ∙ drop-append-le begin ops (op ∷ []) (omega (arith, forth, h))
      ∙ ap (λ (xs : List Operation). drop begin xs ++ op ∷ []) (sym (take_all here ops (omega (arith, h))))

  pub longer_upto : (past : Past) (op : Operation) (begin : ℕ) → begin ≤ length past.ops → past_upto (with_op past op) begin ≡ past_upto past begin
  longer_upto past op begin within = ap (λ (ops : List Operation). play past.start ops) (take-append-le begin past.ops (op ∷ []) within)

  grown_mine : (mine nv : Past) (op : Operation) (begin here there : Counts) → count_at which here ≡ length mine.ops → count_at which there ≡ length (with_op mine op).ops → there.nv ≡ here.nv
      → ((t : IsTrustedAt accepts which mine nv begin) → LeavesBank which t.fuses t.manifest op) → IsKept accepts which mine nv begin here → IsKept accepts which (with_op mine op) nv begin there
  grown_mine mine nv op begin here there h t same spares p =
      let more = longer mine op in
      grown mine (with_op mine op) nv nv (between (count_at which begin) (count_at which here) mine.ops ++ op ∷ []) (between begin.nv here.nv nv.ops) begin here there
      (longer_upto mine op (count_at which begin) (omega (arith, p.forth, h))) refl (one_more mine.ops op (count_at which begin) (count_at which here) (count_at which there) p.forth h t)
      (ap (λ (n : ℕ). between begin.nv n nv.ops) same) (omega (arith, h, t, more)) (omega (arith, same)) (omega (arith, t)) (omega (arith, p.done_store, same))
      (λ trust all. let one = spares trust in
      record { image = All-push (LeavesImage _ trust.manifest) _ op all.image one.image; recovery = All-push (Leaves _ _) _ op all.recovery one.recovery; store = all.store }) p

  grown_store : (mine nv : Past) (op : Operation) (begin here there : Counts) → here.nv ≡ length nv.ops → there.nv ≡ length (with_op nv op).ops → count_at which there ≡ count_at which here
      → ((t : IsTrustedAt accepts which mine nv begin) → LeavesStore t.fuses which op) → IsKept accepts which mine nv begin here → IsKept accepts which mine (with_op nv op) begin there
  grown_store mine nv op begin here there h t same spares p =
      let more = longer nv op in
      grown mine mine nv (with_op nv op) (between (count_at which begin) (count_at which here) mine.ops) (between begin.nv here.nv nv.ops ++ op ∷ []) begin here there
      refl (longer_upto nv op begin.nv (omega (arith, p.forth_store, h))) (ap (λ (n : ℕ). between (count_at which begin) n mine.ops) same)
      (one_more nv.ops op begin.nv here.nv there.nv p.forth_store h t) (omega (arith, same)) (omega (arith, h, t, more)) (omega (arith, p.done, same)) (omega (arith, t))
      (λ trust all. record { image = all.image; recovery = all.recovery; store = All-push (LeavesStore trust.fuses which) _ op all.store (spares trust) }) p

  -- the other bank's device did something
  elsewhere : (mine nv : Past) (begin here there : Counts) → count_at which there ≡ count_at which here → there.nv ≡ here.nv → IsKept accepts which mine nv begin here → IsKept accepts which mine nv begin there
  elsewhere mine nv begin here there e f p =
      grown mine mine nv nv (between (count_at which begin) (count_at which here) mine.ops) (between begin.nv here.nv nv.ops) begin here there refl refl
      (ap (λ (n : ℕ). between (count_at which begin) n mine.ops) e) (ap (λ (n : ℕ). between begin.nv n nv.ops) f)
      (omega (arith, e)) (omega (arith, f)) (omega (arith, e, p.done)) (omega (arith, f, p.done_store)) (λ trust all. all) p

  -- one that begins now
  begins_now : (mine nv : Past) (here : Counts) → count_at which here ≡ length mine.ops → here.nv ≡ length nv.ops → IsKept accepts which mine nv here here
  begins_now mine nv here m n =
      let c : between (count_at which here) (count_at which here) mine.ops ≡ [] =
      ap (λ (ops : List Operation). drop (count_at which here) ops) (take_all (count_at which here) mine.ops (omega (arith, m))) ∙ drop_of_length-le mine.ops (omega (arith, m)) in
      let d : between here.nv here.nv nv.ops ≡ [] =
      ap (λ (ops : List Operation). drop here.nv ops) (take_all here.nv nv.ops (omega (arith, n))) ∙ drop_of_length-le nv.ops (omega (arith, n)) in
      let none : SpareTrust accepts which (past_upto mine (count_at which here)) (past_upto nv here.nv) [] [] =
      record {
        each = λ trust. record { image = λ k x h. absurd (omega (arith, h)); recovery = λ k x h. absurd (omega (arith, h)); store = λ k x h. absurd (omega (arith, h)) };
      } in
      record {
        forth = omega arith;
        forth_store = omega arith;
        done = omega (arith, m);
        done_store = omega (arith, n);
        spared = rw (c, d) none;
      }

  -- ---- the spans of a story
  -- the bank's span that began here is open, in a store that is settled
  pub record IsOpen (story : Story) (begin : Counts) : Type 0 where
    pub kept : IsKept accepts which (past_at (device_of which) story) story.nv begin (counts_of story)
    pub settled : IsSettled (image_at device.Nv story)

  pub record Kept (story : Story) : Type 0 where
    pub closed : AllEnded (IsKept accepts which (past_at (device_of which) story) story.nv) (ended_from which [] story.notes)
    pub opened : AllOpen (IsOpen story) (opens_from which [] story.notes)

  -- What an operation has to leave of a span that is open.
  pub record SparesOpen (at : Device) (op : Operation) (story : Story) (begin : Counts) : Type 0 where
    pub spares : (t : IsTrustedAt accepts which (past_at (device_of which) story) story.nv begin) → Spares which at t.fuses t.manifest op
    pub settled : IsSettled (image_at device.Nv (operated at op story))

  -- A move that keeps the bank's spans.
  abbrev pub KeepsSpans : Rule
  KeepsSpans (Says w) story = IsStamped (w (counts_of story)) (counts_of story) × IsSettledWhere which (w (counts_of story)) (image_at device.Nv story)
  KeepsSpans (Does at op) story = AllOpen (SparesOpen at op story) (opens_from which [] story.notes)
  KeepsSpans (Asks at) story = Unit {0}

  -- spans that are kept are spans, where the bank is trusted at each begin
  is_span : (mine nv : Past) (begin end : Counts) → IsKept accepts which mine nv begin end → IsTrustedAt accepts which mine nv begin → IsSpan accepts which mine nv begin end
  is_span mine nv begin end k t =
      let all = k.spared.each t in
      record {
        forth = k.forth;
        forth_store = k.forth_store;
        done = k.done;
        done_store = k.done_store;
        trusted = t;
        image = all.image;
        recovery = all.recovery;
        store = all.store;
        throughout = trusted_between accepts which mine.start nv.start mine.ops nv.ops (count_at which begin) (count_at which end) begin.nv end.nv t all.image all.store;
      }

  are_spans : (mine nv : Past) (spans : List (Counts × Counts)) → AllEnded (IsKept accepts which mine nv) spans → AllEnded (λ begin end. IsTrustedAt accepts which mine nv begin) spans
      → AllSpans accepts which mine nv spans
  are_spans mine nv [] k t = tt
  are_spans mine nv (span ∷ spans) k t = (is_span mine nv span.0 span.1 k.0 t.0, are_spans mine nv spans k.1 t.1)

  -- what is kept of a story whose spans begin with trust
  pub ReleasedSpans-begun : (story : Story) → Kept story
      → AllEnded (λ begin end. IsTrustedAt accepts which (past_at (device_of which) story) story.nv begin) (ended_from which [] story.notes)
      → AllOpen (IsTrustedAt accepts which (past_at (device_of which) story) story.nv) (opens_from which [] story.notes) → ReleasedSpans accepts which story
  ReleasedSpans-begun story k closed opened =
      let mine : Past = past_at (device_of which) story in
      let here : Counts = counts_of story in
      let opens : List Counts = opens_from which [] story.notes in
      are_spans mine story.nv (ended_from which [] story.notes ++ closes here opens)
      (ended_append (IsKept accepts which mine story.nv) (ended_from which [] story.notes) (closes here opens) k.closed
      (ended_closes (IsKept accepts which mine story.nv) here opens (open_map (IsOpen story) (λ begin. IsKept accepts which mine story.nv begin here) (λ begin o. o.kept) opens k.opened)))
      (ended_append (λ begin end. IsTrustedAt accepts which mine story.nv begin) (ended_from which [] story.notes) (closes here opens) closed
      (ended_closes (λ begin end. IsTrustedAt accepts which mine story.nv begin) here opens opened))

  pub ReleasedSpans-kept : (story : Story) → Kept story
      → ((svn : ℕ) (at : Counts) → IsNoted story.notes (what.Released which svn at) → IsTrustedAt accepts which (past_at (device_of which) story) story.nv at) → ReleasedSpans accepts which story
  ReleasedSpans-kept story k trusts =
      let b = begins which (IsTrustedAt accepts which (past_at (device_of which) story) story.nv) [] story.notes tt trusts in
      ReleasedSpans-begun story k b.0 b.1

  -- either no span of the bank is open, or the store is settled
  pub none_or_settled : (story : Story) → Kept story → (opens_from which [] story.notes ≡ []) ⊎ IsSettled (image_at device.Nv story)
  none_or_settled story k = by_opens (opens_from which [] story.notes) k.opened
    where
      by_opens : (opens : List Counts) → AllOpen (IsOpen story) opens → (opens ≡ []) ⊎ IsSettled (image_at device.Nv story)
      by_opens [] p = inl refl
      by_opens (begin ∷ begins) p = inr p.0.settled

  -- and where the bank stands released the store is
  pub settled_running : (story : Story) → Kept story → standing_of which story.notes ≡ standing.Running → IsSettled (image_at device.Nv story)
  settled_running story k runs =
      let first = running_spans which story.notes runs in
      (subst (λ (opens : List Counts). AllOpen (IsOpen story) opens) first.2 k.opened).0.settled

-- ---- moves that keep spans keep them
module _ (accepts : Acceptance) where
  -- what a note leaves, by the spans and the open ones before
  noted_kept : (which : Bank) (w : Counts → What) (story : Story) → count_at which (counts_of story) ≡ length (past_at (device_of which) story).ops → KeepsSpans accepts which (Says w) story
      → Kept accepts which story
      → AllEnded (IsKept accepts which (past_at (device_of which) story) story.nv) (ended_from which [] (noted w story).notes) × AllOpen (IsOpen accepts which story) (opens_from which [] (noted w story).notes)
  noted_kept which w story same g k =
      let here : Counts = counts_of story in
      let mine : Past = past_at (device_of which) story in
      let note : Note = record { item = story.item; what = w here } in
      let q = noted_all which (IsKept accepts which mine story.nv) (IsOpen accepts which story) here (λ begin o. o.kept) (w here) g.0
      (λ release. record { kept = begins_now accepts which mine story.nv here same refl; settled = settled_where which (w here) (image_at device.Nv story) g.1 release })
      (ended_from which [] story.notes) (opens_from which [] story.notes) (k.closed, k.opened) in
      rw (ended_push which [] story.notes note, opens_push which [] story.notes note) q

  pub Kept-moves : (which : Bank) → Keeps (KeepsSpans accepts which) (Kept accepts which)
  Kept-moves bank.Bmc (Says w) story g k =
      let q = noted_kept bank.Bmc w story refl g k in
      record { closed = q.0; opened = open_map (IsOpen accepts bank.Bmc story) (IsOpen accepts bank.Bmc (noted w story)) (λ begin o. record { kept = o.kept; settled = o.settled }) _ q.1 }
  Kept-moves bank.Pch (Says w) story g k =
      let q = noted_kept bank.Pch w story refl g k in
      record { closed = q.0; opened = open_map (IsOpen accepts bank.Pch story) (IsOpen accepts bank.Pch (noted w story)) (λ begin o. record { kept = o.kept; settled = o.settled }) _ q.1 }
  Kept-moves bank.Bmc (Does device.Bmc op) story g k = record {
    closed = ended_map _ _ (λ begin end p. later_mine accepts bank.Bmc story.bmc story.nv op begin end p) _ k.closed;
    opened = open_both _ _ _ (λ begin o s. record { kept = grown_mine accepts bank.Bmc story.bmc story.nv op begin _ _ refl refl refl s.spares o.kept; settled = s.settled }) _ k.opened g;
  }
  Kept-moves bank.Pch (Does device.Pch op) story g k = record {
    closed = ended_map _ _ (λ begin end p. later_mine accepts bank.Pch story.pch story.nv op begin end p) _ k.closed;
    opened = open_both _ _ _ (λ begin o s. record { kept = grown_mine accepts bank.Pch story.pch story.nv op begin _ _ refl refl refl s.spares o.kept; settled = s.settled }) _ k.opened g;
  }
  Kept-moves bank.Bmc (Does device.Nv op) story g k = record {
    closed = ended_map _ _ (λ begin end p. later_store accepts bank.Bmc story.bmc story.nv op begin end p) _ k.closed;
    opened = open_both _ _ _ (λ begin o s. record { kept = grown_store accepts bank.Bmc story.bmc story.nv op begin _ _ refl refl refl s.spares o.kept; settled = s.settled }) _ k.opened g;
  }
  Kept-moves bank.Pch (Does device.Nv op) story g k = record {
    closed = ended_map _ _ (λ begin end p. later_store accepts bank.Pch story.pch story.nv op begin end p) _ k.closed;
    opened = open_both _ _ _ (λ begin o s. record { kept = grown_store accepts bank.Pch story.pch story.nv op begin _ _ refl refl refl s.spares o.kept; settled = s.settled }) _ k.opened g;
  }
  Kept-moves bank.Bmc (Does device.Pch op) story g k = record {
    closed = k.closed;
    opened = open_both _ _ _ (λ begin o s. record { kept = elsewhere accepts bank.Bmc story.bmc story.nv begin _ _ refl refl o.kept; settled = s.settled }) _ k.opened g;
  }
  Kept-moves bank.Pch (Does device.Bmc op) story g k = record {
    closed = k.closed;
    opened = open_both _ _ _ (λ begin o s. record { kept = elsewhere accepts bank.Pch story.pch story.nv begin _ _ refl refl o.kept; settled = s.settled }) _ k.opened g;
  }
  Kept-moves which (Asks at) story g k = k

-- ---- what a span that is open stands on
-- what a device held at its last count it holds
pub upto_last : (past : Past) (count : ℕ) → count ≡ length past.ops → past_upto past count ≡ image_of past
upto_last past count same = ap (λ (ops : List Operation). play past.start ops) (take_all count past.ops (omega (arith, same)))

play_between : (image : List ℕ) (ops : List Operation) (begin end : ℕ) → begin ≤ end → play (play_first begin image ops) (between begin end ops) ≡ play_first end image ops
play_between image ops begin end forth =
    sym (play-append image (take begin ops) (between begin end ops))
    ∙ ap (λ (xs : List Operation). play image (xs ++ between begin end ops)) (sym (take-take begin end ops forth))
    ∙ ap (λ (xs : List Operation). play image xs) (take-append-drop begin (take end ops))

module _ (accepts : Acceptance) (which : Bank) (mine nv : Past) where
  -- a bank that was trusted at a count is trusted now, by the same manifest and the same layout
  pub record IsTrustedStill (begin : Counts) (t : IsTrustedAt accepts which mine nv begin) : Type 0 where
    pub trusted : IsTrusted (image_of mine) (image_of nv) which accepts
    pub manifest : trusted.manifest ≡ t.manifest
    pub layout : layout_of trusted.fuses.provision which ≡ layout_of t.fuses.provision which

  module _ (begin end : Counts) (same : count_at which end ≡ length mine.ops) (same_store : end.nv ≡ length nv.ops) (k : IsKept accepts which mine nv begin end) where
    trusted_last : (t : IsTrustedAt accepts which mine nv begin) → IsTrustedBy t.manifest (image_of mine) (image_of nv) which accepts
    trusted_last t =
        let all = k.spared.each t in
        let last = trusted_between accepts which mine.start nv.start mine.ops nv.ops (count_at which begin) (count_at which end) begin.nv end.nv t all.image all.store
        (count_at which end) end.nv k.forth (omega arith) k.forth_store (omega arith) in
        subst (λ (image : List ℕ). IsTrustedBy t.manifest image (image_of nv) which accepts) (upto_last mine (count_at which end) same)
        (subst (λ (store : List ℕ). IsTrustedBy t.manifest (past_upto mine (count_at which end)) store which accepts) (upto_last nv end.nv same_store) last)

    stands_still : (t : IsTrustedAt accepts which mine nv begin) → StandFor (image_of nv) t.fuses which
    stands_still t =
        let found = fuses_of-ok (past_upto nv begin.nv) t.fuses t.provisioned in
        let left = left_store which t.fuses (past_upto nv begin.nv) (between begin.nv end.nv nv.ops) (ap (λ (f : FusesState). f.profile) found.2) (k.spared.each t).store in
        subst (λ (store : List ℕ). StandFor store t.fuses which) (play_between nv.start nv.ops begin.nv end.nv k.forth_store ∙ upto_last nv end.nv same_store)
        (store_lasts which (past_upto nv begin.nv) _ t.fuses left t.provisioned)

    pub still_trusted : (t : IsTrustedAt accepts which mine nv begin) → IsTrustedStill begin t
    still_trusted t =
        let last = trusted_last t in
        let stands = stands_still t in
        let same : last.0.fuses ≡ stands.all = (let here = last.0.provisioned in let was = stands.provisioned in cc) in
        record {
          trusted = last.0;
          manifest = last.1;
          layout = ap (λ (f : FusesState). layout_of f.provision which) same ∙ ap (λ (root : RootSlot). layout_of root which) (sym stands.provision);
        }
