-- An update by a certificate of a bank that runs is judged before anything is written.
use Rattle.std.proofs.Common.{◌≡◌, ◌∙◌, refl, sym, ap, subst, ℕ, List, [], ◌∷◌, ◌++◌, inl, inr, ◌⊎◌, Result, Ok, Err}
use Rattle.std.proofs.lemmas.List.{append-nil}
use Rattle.pfr_flash.specs.FlashState.{size_of}
use Rattle.pfr_flash.specs.declared.names.Bank.{Bank}
use Rattle.pfr_flash.specs.declared.names.Counts.{Counts}
use Rattle.pfr_flash.specs.declared.names.Device.{Device}
use Rattle.pfr_flash.specs.declared.names.Device.TheVariants as device
use Rattle.pfr_flash.proofs.PlayLemmas.{length-play}
use Rattle.pfr_engine.specs.Acceptance.{Acceptance}
use Rattle.pfr_fuses.specs.Changes.{cancellation}
use Rattle.pfr_fuses.specs.FusesState.{FusesState}
use Rattle.pfr_auth.specs.Trusted.{IsTrusted}
use Rattle.pfr_cert.specs.declared.cert.Cert.{Cert}
use Rattle.pfr_cert.specs.declared.fail.CertFail.{CertFail}
use Rattle.pfr_recoverable.proofs.StaysLaw.{fuses_one}
use Rattle.pfr_script.specs.declared.event.Event.{Event}
use Rattle.pfr_script.specs.declared.event.Event.TheVariants as event
use Rattle.pfr_script.specs.declared.event.Intent.TheVariants as intent
use Rattle.pfr_report.specs.Texts.{IsNoted}
use Rattle.pfr_report.specs.declared.note.LockWhy.{LockWhy}
use Rattle.pfr_report.specs.declared.note.Note.{Note}
use Rattle.pfr_report.specs.declared.note.Refusal.{Refusal}
use Rattle.pfr_report.specs.declared.note.Refusal.TheVariants as refusing
use Rattle.pfr_report.specs.declared.note.What.{What}
use Rattle.pfr_report.specs.declared.note.What.TheVariants as what
use Rattle.pfr_story.specs.Story.{Story, Move, Says, Asks, after, noted, called, counts_of, device_of}
use Rattle.pfr_story.specs.World.{World, story_of, counts_in, AllMoved, added}
use Rattle.pfr_story.specs.Course.{Follows}
use Rattle.pfr_story.specs.Safety.{AllSafe}
use Rattle.pfr_story.specs.Plans.{mine, store, ready_of, checked_then}
use Rattle.pfr_story.specs.UpdatePlans.{refused_so, judged_cert, cancelled_key, by_use, by_cert, updated_with, updating}
use Rattle.pfr_story.specs.Standing.{standing_of}
use Rattle.pfr_story.specs.Turn.{update_stretch, update_course, begun, Turn}
use Rattle.pfr_story.specs.Promises.{AtCounts, Runs, count_at, ReleasesTrusted, LocksHaveCauses}
use Rattle.pfr_story.specs.Bringing.{IsCalm, IsNotedBehind}
use Rattle.pfr_story.specs.JobPromises.{HasCert, HasBadCert, IsCheckedAnew, CancelsKey, Cancels}
use Rattle.pfr_story.proofs.SafetyLaws.{AllSafe-append, AllMake-append, AllMake-called}
use Rattle.pfr_story.proofs.Sequence.{after-append}
use Rattle.pfr_story.proofs.Bytes.{HaveBytes, images_then}
use Rattle.pfr_story.proofs.BringAllowed.{IsSized, AllowsBank, allowed_table}
use Rattle.pfr_story.proofs.WorkShapes.{Brings}
use Rattle.pfr_story.proofs.WorkWalks.{tail_on, then_on}
use Rattle.pfr_story.proofs.BringRules.{Any, IsReady, ready_noted, ready_is, use_judged}
use Rattle.pfr_story.proofs.Courses.{Turn-cases}
use Rattle.pfr_story.proofs.Traces.{noted_append, noted_right, Precedes, Precedes-refl, Precedes-after, not_before, precedes_moved, Saying, call_says, Traced-known, KnownBefore}
use Rattle.pfr_story.proofs.Made.{said, said_append, said_all, added_said, Whichever, behind_within}
use Rattle.pfr_story.proofs.NoteLaws.{at_moment, Turn-releases, Turn-locks}
use Rattle.pfr_story.proofs.CheckLaws.{IsOfCheck, HasCheck, checks_so}
use Rattle.pfr_story.proofs.TailLaws.{behind as checks_of}
use Rattle.pfr_story.proofs.JobCounts.{noted_count, store_count}
use Rattle.pfr_story.proofs.Entry.{TrustedRunning, trusted_here, trusted_ready, follows_moved, takes}
use Rattle.pfr_story.proofs.Endings.{IsTrouble, Ending, single_ends, ended_trace, ended_is, ended_good, ends_whole, over_alone, ends_behind}
use Rattle.pfr_story.proofs.JobLaws.{Still, same_pasts, same_counts}
use Rattle.pfr_story.proofs.JobQuiet.{told_jobs}
use Rattle.pfr_story.proofs.JobWalks.{store_sized}
use Rattle.pfr_story.proofs.RefusalLaws.{refused_still, trusted_held}

-- what is noted before the check behind a cancellation
abbrev IsOfCancel : What → Type 0
IsOfCancel (what.Held b at) = Unit {0}
IsOfCancel (what.Cancelled type id) = Unit {0}
IsOfCancel that = ⊥

no_cancel : (which : Bank) (that : What) → IsOfCheck which that → ¬ IsOfCancel that
no_cancel which (what.Released b svn at) of other = other
no_cancel which (what.Locked b cause at) of other = other
no_cancel which (what.Untrusted b cause) of other = other
no_cancel which that of other = absurd of

-- ---- what is known of each note
module _ (accepts : Acceptance) (b : Bank) (fuses : FusesState) (from : Story) where
  abbrev held : Story
  held = noted (what.Held b) from

  abbrev judged : Result Cert CertFail
  judged = judged_cert accepts b fuses held

  -- the first cause against the certificate, or against the cancellation of its key
  abbrev IsAgainstCert : CertFail → Type 0
  IsAgainstCert cause = (judged ≡ Err cause) ⊎ ((cert : Cert) × (judged ≡ Ok cert) × (use_judged accepts b fuses cert held ≡ Err cause))

  abbrev IsFor : Cert → Type 0
  IsFor cert = (judged ≡ Ok cert) × (use_judged accepts b fuses cert held ≡ Ok tt)

  abbrev Key : What → Story → Type 0
  Key (what.Held c at) story = c ≡ b
  Key (what.Cancelled type id) story = IsFor (record { ty = type; id = id })
  Key (what.Refused c (refusing.Cert cause)) story = IsAgainstCert cause
  Key (what.Refused c why) story = ⊥
  Key that story = Unit {0}

  allows_key : AllowsBank (Saying Key) b
  allows_key = record {
    released = λ svn story. tt;
    locked = λ cause story. tt;
    untrusted = λ cause story. tt;
    jobs = told_jobs b Key;
    tells = record { resumed = λ kind story. tt; given_up = λ story. tt; restored = λ level story. tt; updated = λ dynamic svn story. tt; recovery_updated = λ svn story. tt };
  }

  trouble_known : (which : Device) (w : Counts → What) (story : Story) → IsTrouble b (Unit {0}) which w → Saying Key (Says w) story
  trouble_known which w story (inl e) = subst (λ (v : Counts → What). Saying Key (Says v) story) (sym e) tt
  trouble_known which w story (inr (e, known)) = subst (λ (v : Counts → What). Saying Key (Says v) story) (sym e) tt

  -- the check behind it
  refused_known : (cause : CertFail) → IsSized from → IsReady b fuses held → IsAgainstCert cause → AllSafe (Saying Key) (by_cert accepts b fuses (Err cause) held) held
  refused_known cause sized here against = (
    against,
    tail_on (Saying Key) Any accepts b Brings ⊥ (allowed_table (Saying Key) accepts b allows_key Brings tt) tt fuses (noted (λ _. what.Refused b (refusing.Cert cause)) held) (record { size = sized; ready = ready_noted b fuses (λ _. what.Refused b (refusing.Cert cause)) held here; known = λ none. absurd none; kept = tt }),
  )

  cancelled_known : (cert : Cert) → IsSized from → IsFor cert → AllSafe (Saying Key) (by_use accepts b fuses cert (Ok tt) held) held
  cancelled_known cert sized is =
      let moves : List Move = cancelled_key cert held in
      let call : List Move = called device.Nv (cancellation cert.ty cert.id) in
      let left : Story = after moves held in
      AllSafe-append (Saying Key) moves (checked_then accepts b left) held
      (AllSafe-append (Saying Key) call (Says (λ _. what.Cancelled cert.ty cert.id) ∷ []) held (call_says Key device.Nv (cancellation cert.ty cert.id) held) (is, tt))
      (then_on (Saying Key) Any accepts b Brings ⊥ (allowed_table (Saying Key) accepts b allows_key Brings tt) tt left (record { size = store_sized moves held ∙ sized; known = λ none. absurd none; kept = tt }))

  use_known : (cert : Cert) → IsSized from → IsReady b fuses held → judged ≡ Ok cert → (used : Result (Unit {0}) CertFail) → use_judged accepts b fuses cert held ≡ used → AllSafe (Saying Key) (by_use accepts b fuses cert used held) held
  use_known cert sized here j (Ok free) u = cancelled_known cert sized (j, u)
  use_known cert sized here j (Err cause) u = refused_known cause sized here (inr (cert, j, u))

  -- what is done behind that it is held
  abbrev work : Result Cert CertFail → List Move
  work found = Asks device.Nv ∷ Asks (device_of b) ∷ by_cert accepts b fuses found held

  cert_known : (found : Result Cert CertFail) → IsSized from → IsReady b fuses held → judged ≡ found → AllSafe (Saying Key) (work found) held
  cert_known (Ok cert) sized here j = (tt, (tt, (tt, use_known cert sized here j (use_judged accepts b fuses cert held) refl)))
  cert_known (Err cause) sized here j = (tt, (tt, refused_known cause sized here (inl j)))

  work_is : IsReady b fuses from → Asks device.Nv ∷ updated_with accepts b intent.Cert (ready_of b held) held ≡ work judged
  work_is ready =
      let here : IsReady b fuses held = ready_noted b fuses (what.Held b) from ready in
      ap (λ (r : Result FusesState LockWhy). Asks device.Nv ∷ updated_with accepts b intent.Cert r held) (ready_is b fuses held here.provisioned here.layout)

-- ---- from one world to another
module _ (accepts : Acceptance) (b : Bank) (fuses : FusesState) (first new : World) (ready : IsReady b fuses (story_of first)) (sized : IsSized (story_of first))
    (ending : Ending b (Unit {0}) (updating accepts b intent.Cert (story_of first)) (story_of first) (story_of new)) (moved : AllMoved first new) where
  abbrev start : Story
  start = story_of first

  abbrev there : Story
  there = noted (what.Held b) start

  abbrev found : Result Cert CertFail
  found = judged_cert accepts b fuses there

  abbrev todo : Result Cert CertFail → List Move
  todo answer = work accepts b fuses start answer

  behind : Ending b (Unit {0}) (todo found) there (story_of new)
  behind =
      let moves : List Move = Asks device.Nv ∷ updated_with accepts b intent.Cert (ready_of b there) there in
      subst (λ (ms : List Move). Ending b (Unit {0}) ms there (story_of new)) (work_is accepts b fuses start ready) (ends_behind b (Unit {0}) (what.Held b) moves start (story_of new) ending)

  make_noted : (moves : List Move) → story_of new ≡ after moves there → (that : What) → IsNoted (said (Says (what.Held b) ∷ moves) start) that → IsNoted (added first new) that
  make_noted moves is that n = subst (λ (notes : List Note). IsNoted notes that) (sym (added_said first new (record { trace = Says (what.Held b) ∷ moves; is = is }))) n

  known : (that : What) → IsNoted (added first new) that → KnownBefore (Key accepts b fuses start) that (story_of new)
  known =
      Traced-known (Key accepts b fuses start) first new (record {
        trace = Says (what.Held b) ∷ ended_trace b (Unit {0}) (todo found) there (story_of new) behind;
        is = ended_is b (Unit {0}) (todo found) there (story_of new) behind;
        good = (refl, ended_good b (Unit {0}) (todo found) there (story_of new) (Saying (Key accepts b fuses start)) (cert_known accepts b fuses start found sized (ready_noted b fuses (what.Held b) start ready) refl) (trouble_known accepts b fuses start) behind);
        moved = moved;
      })

  -- where it is calm all of it was done
  whole : IsCalm b (added first new) → story_of new ≡ after (todo found) there
  whole calm =
      ends_whole b (Unit {0}) (todo found) there (story_of new) (added first new) behind
      (λ that n. make_noted (ended_trace b (Unit {0}) (todo found) there (story_of new) behind) (ended_is b (Unit {0}) (todo found) there (story_of new) behind) that (inr n)) calm
      (λ lost. over_alone b (added first new) (λ c at n. (known (what.Held c at) n).1))

  whole_by : (answer : Result Cert CertFail) → found ≡ answer → IsCalm b (added first new) → story_of new ≡ after (todo answer) there
  whole_by answer j calm = whole calm ∙ ap (λ (r : Result Cert CertFail). after (todo r) there) j

  -- of a good certificate
  abbrev used : Cert → Result (Unit {0}) CertFail → List Move
  used cert answer = Asks device.Nv ∷ Asks (device_of b) ∷ Asks (device_of b) ∷ by_use accepts b fuses cert answer there

  whole_used : (cert : Cert) (answer : Result (Unit {0}) CertFail) → found ≡ Ok cert → use_judged accepts b fuses cert there ≡ answer → IsCalm b (added first new) → story_of new ≡ after (used cert answer) there
  whole_used cert answer j u calm = whole_by (Ok cert) j calm ∙ ap (λ (r : Result (Unit {0}) CertFail). after (used cert r) there) u

  refuses_so : (cause : CertFail) → IsCalm b (added first new) → IsAgainstCert accepts b fuses start cause → IsNoted (added first new) (what.Refused b (refusing.Cert cause))
  refuses_so cause calm (inl j) = make_noted (todo (Err cause)) (whole_by (Err cause) j calm) (what.Refused b (refusing.Cert cause)) (inr (inl refl))
  refuses_so cause calm (inr (cert, j, u)) = make_noted (used cert (Err cause)) (whole_used cert (Err cause) j u calm) (what.Refused b (refusing.Cert cause)) (inr (inl refl))

  -- one that is refused does no operation
  module _ (t : IsTrusted (mine b (story_of first)) (store (story_of first)) b accepts) where
    still : (cause : CertFail) → AllSafe Still (refused_so accepts b fuses (refusing.Cert cause) there) there
    still cause = refused_still accepts b fuses there ready.provisioned (trusted_held accepts b start t) (refusing.Cert cause)

    nothing_done : (moves : List Move) → todo found ≡ moves → AllSafe Still moves there → counts_of (story_of new) ≡ counts_of start
    nothing_done moves is safe =
        same_counts there (story_of new) (same_pasts b (Unit {0}) moves there (story_of new) safe (subst (λ (ms : List Move). Ending b (Unit {0}) ms there (story_of new)) is behind))

    by_cause : (cause : CertFail) → IsAgainstCert accepts b fuses start cause → counts_of (story_of new) ≡ counts_of start
    by_cause cause (inl j) = nothing_done (todo (Err cause)) (ap (λ (r : Result Cert CertFail). todo r) j) (tt, (tt, still cause))
    by_cause cause (inr (cert, j, u)) =
        nothing_done (used cert (Err cause)) (ap (λ (r : Result Cert CertFail). todo r) j ∙ ap (λ (r : Result (Unit {0}) CertFail). used cert r) u) (tt, (tt, (tt, still cause)))

    writes_nothing : (why : Refusal) → IsNoted (added first new) (what.Refused b why) → counts_of (story_of new) ≡ counts_of start
    writes_nothing (refusing.Cert cause) n = by_cause cause (known (what.Refused b (refusing.Cert cause)) n).1
    writes_nothing (refusing.Capsule cause) n = absurd (known (what.Refused b (refusing.Capsule cause)) n).1
    writes_nothing refusing.ManifestDiffers n = absurd (known (what.Refused b refusing.ManifestDiffers) n).1
    writes_nothing refusing.JobsSpent n = absurd (known (what.Refused b refusing.JobsSpent) n).1

  cancels_so : (cert : Cert) → IsCalm b (added first new) → IsFor accepts b fuses start cert → IsNoted (added first new) (what.Cancelled cert.ty cert.id)
  cancels_so cert calm is = make_noted (used cert (Ok tt)) (whole_used cert (Ok tt) is.0 is.1 calm) (what.Cancelled cert.ty cert.id) (inr (inl refl))

  -- ---- by the contents where it is held
  ready_there : IsReady b fuses there
  ready_there = ready_noted b fuses (what.Held b) start ready

  by_counts : (P : List ℕ → List ℕ → Type 0) → P (mine b there) (store there) → AtCounts P b (counts_in first) new
  by_counts P h =
      let p = precedes_moved first new moved in
      at_moment P b there (counts_in first) new refl (record { bmc = p.bmc; pch = p.pch; nv = p.nv }) h

  bad_cert : (cause : CertFail) → IsAgainstCert accepts b fuses start cause → HasBadCert cause b (mine b there) (store there) accepts
  bad_cert cause against = record { fuses = fuses; provisioned = ready_there.provisioned; judged = against }

  against_cert : (cause : CertFail) → HasBadCert cause b (mine b there) (store there) accepts → IsAgainstCert accepts b fuses start cause
  against_cert cause h =
      subst (λ (f : FusesState). (judged_cert accepts b f there ≡ Err cause) ⊎ ((cert : Cert) × (judged_cert accepts b f there ≡ Ok cert) × (use_judged accepts b f cert there ≡ Err cause)))
      (fuses_one (store there) h.fuses fuses h.provisioned ready_there.provisioned) h.judged

  has_cert : (cert : Cert) → IsFor accepts b fuses start cert → HasCert cert b (mine b there) (store there) accepts
  has_cert cert is = record { fuses = fuses; provisioned = ready_there.provisioned; judged = is.0; free = is.1 }

  for_cert : (cert : Cert) → HasCert cert b (mine b there) (store there) accepts → IsFor accepts b fuses start cert
  for_cert cert h =
      subst (λ (f : FusesState). (judged_cert accepts b f there ≡ Ok cert) × (use_judged accepts b f cert there ≡ Ok tt))
      (fuses_one (store there) h.fuses fuses h.provisioned ready_there.provisioned) (h.judged, h.free)

  -- ---- behind a cancellation the bank is checked
  module _ (cert : Cert) (is : IsFor accepts b fuses start cert) (calm : IsCalm b (added first new)) where
    abbrev cancels : List Move
    cancels = cancelled_key cert there

    abbrev left : Story
    left = after (cancelled_key cert there) there

    abbrev front : List Note
    front = record { item = start.item; what = what.Held b (counts_of start) } ∷ said cancels there

    parts : added first new ≡ front ++ checks_of accepts b left
    parts =
        added_said first new (record { trace = Says (what.Held b) ∷ used cert (Ok tt); is = whole_used cert (Ok tt) is.0 is.1 calm })
        ∙ ap (λ (notes : List Note). record { item = start.item; what = what.Held b (counts_of start) } ∷ notes) (said_append cancels (checked_then accepts b left) there)

    ends : story_of new ≡ after (checked_then accepts b left) left
    ends = whole_used cert (Ok tt) is.0 is.1 calm ∙ after-append cancels (checked_then accepts b left) there

    front_of : (that : What) → IsNoted (record { item = (story_of first).item; what = what.Held b (counts_of (story_of first)) } ∷ said (cancelled_key cert there) there) that → IsOfCancel that
    front_of that (inl e) = subst IsOfCancel e tt
    front_of that (inr n) =
        said_all IsOfCancel cancels there
        (AllMake-append Whichever (λ w. (at : Counts) → IsOfCancel (w at)) (called device.Nv (cancellation cert.ty cert.id)) (Says (λ _. what.Cancelled cert.ty cert.id) ∷ [])
        (AllMake-called Whichever (λ w. (at : Counts) → IsOfCancel (w at)) device.Nv (cancellation cert.ty cert.id) tt) ((λ at. tt), tt)) that n

    in_check : (that : What) → ¬ IsOfCancel that → IsNoted (added first new) that → IsNoted (checks_of accepts b left) that
    in_check that other n = elim (noted_append front (checks_of accepts b left) that (subst (λ (notes : List Note). IsNoted notes that) parts n)) [
      | inl m ↦ absurd (other (front_of that m))
      | inr m ↦ m
    ]

    has_check : HasCheck accepts b left (added first new)
    has_check = record {
      put = λ that n. subst (λ (notes : List Note). IsNoted notes that) (sym parts) (noted_right front (checks_of accepts b left) that n);
      put_behind = λ this that k. subst (λ (notes : List Note). IsNotedBehind this that notes) (ap (λ (notes : List Note). front ++ notes) (append-nil (checks_of accepts b left)) ∙ sym parts)
          (behind_within this that front (checks_of accepts b left) [] k);
      own = λ that of n. in_check that (no_cancel b that of) n;
      restored = λ level n. inr (in_check (what.Restored b level) (λ e. e) n);
    }

    precedes : Precedes left (story_of new)
    precedes = subst (λ (s : Story). Precedes left s) (sym ends) (Precedes-after left left (checked_then accepts b left) (Precedes-refl left))

    still_banks : (c : Bank) → count_at c (counts_of left) ≡ count_at c (counts_of start)
    still_banks c =
        let call : List Move = called device.Nv (cancellation cert.ty cert.id) in
        let told : Counts → What = λ _. what.Cancelled cert.ty cert.id in
        ap (λ (s : Story). count_at c (counts_of s)) (after-append call (Says told ∷ []) there) ∙ noted_count c told (after call there)
        ∙ store_count c (cancellation cert.ty cert.id) there ∙ noted_count c (what.Held b) start

    checked_anew : HaveBytes new → ReleasesTrusted accepts first new → LocksHaveCauses accepts first new → IsCheckedAnew accepts b new (added first new) (counts_in first)
    checked_anew have releases locks = record {
      from = counts_of left;
      forth = not_before there left (Precedes-after there there cancels (Precedes-refl there));
      still = still_banks;
      checks = checks_so accepts first new b left precedes (images_then left new precedes have (device_of b)) has_check calm releases locks;
    }

  cancels_key : IsTrusted (mine b (story_of first)) (store (story_of first)) b accepts → HaveBytes new → ReleasesTrusted accepts first new → LocksHaveCauses accepts first new
      → CancelsKey accepts b new (added first new) (counts_in first)
  cancels_key t have releases locks = record {
    held = make_noted (ended_trace b (Unit {0}) (todo found) there (story_of new) behind) (ended_is b (Unit {0}) (todo found) there (story_of new) behind) (what.Held b (counts_in first)) (inl refl);
    refused = λ cause n. by_counts (λ image nv. HasBadCert cause b image nv accepts) (bad_cert cause (known (what.Refused b (refusing.Cert cause)) n).1);
    refuses = λ cause calm. by_counts (λ image nv. HasBadCert cause b image nv accepts → IsNoted (added first new) (what.Refused b (refusing.Cert cause))) (λ h. refuses_so cause calm (against_cert cause h));
    cancelled = λ type id n. by_counts (λ image nv. HasCert (record { ty = type; id = id }) b image nv accepts) (has_cert (record { ty = type; id = id }) (known (what.Cancelled type id) n).1);
    cancels = λ cert calm. by_counts (λ image nv. HasCert cert b image nv accepts → IsNoted (added first new) (what.Cancelled cert.ty cert.id)) (λ h. cancels_so cert calm (for_cert cert h));
    tail = λ type id calm n. checked_anew (record { ty = type; id = id }) (known (what.Cancelled type id) n).1 calm have releases locks;
    writes_nothing = λ why n. writes_nothing t why n;
  }

-- ---- a whole step
module _ (accepts : Acceptance) (b : Bank) (old new : World) where
  abbrev first : World
  first = begun (event.Update b intent.Cert) old

  cancels_by : IsSized (story_of first) → IsTrusted (mine b (story_of first)) (store (story_of first)) b accepts → HaveBytes new → ReleasesTrusted accepts old new → LocksHaveCauses accepts old new
      → Follows (update_course accepts b intent.Cert) first new → CancelsKey accepts b new (added old new) (counts_in old)
  cancels_by sized t have releases locks f =
      let ready : IsReady b t.fuses (story_of first) = trusted_ready accepts b (story_of first) t in
      let ending = single_ends (update_stretch accepts b intent.Cert) b (Unit {0}) (λ d. refl) tt first new f in
      cancels_key accepts b t.fuses first new ready sized ending (follows_moved (update_course accepts b intent.Cert) first new f) t have releases locks

  cancel_turn : Turn accepts (event.Update b intent.Cert) old new → HaveBytes new → size_of old.nv ≡ 32768 → TrustedRunning accepts old → Runs b old → CancelsKey accepts b new (added old new) (counts_in old)
  cancel_turn t have nv trusted runs = elim (Turn-cases accepts (event.Update b intent.Cert) old new t) [
    | inl none ↦ absurd (takes (standing_of b old.notes.list) runs none.0)
    | inr on ↦ cancels_by (length-play old.nv.start old.nv.ops ∙ nv) (trusted_here accepts (event.Update b intent.Cert) old trusted b runs) have
        (Turn-releases accepts (event.Update b intent.Cert) old new nv t have) (Turn-locks accepts (event.Update b intent.Cert) old new nv t have) on.1
  ]

-- A certificate is judged before anything is written, and behind a cancellation the bank is checked.
pub Turn-cancels : (accepts : Acceptance) (e : Event) (old new : World) → Turn accepts e old new → HaveBytes new → size_of old.nv ≡ 32768 → TrustedRunning accepts old → Cancels e accepts old new
Turn-cancels accepts (event.Update b intent.Cert) old new t have nv trusted = cancel_turn accepts b old new t have nv trusted
Turn-cancels accepts e old new t have nv trusted = tt
