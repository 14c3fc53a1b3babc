-- An update of a bank that runs is judged before anything is written.
use Rattle.std.proofs.Common.{◌⊎◌, ◌≡◌, ◌≢◌, ◌∙◌, refl, sym, ap, subst, ℕ, Bool, true, false, List, [], ◌∷◌, length, inl, inr, Result, Ok, Err}
use Rattle.pfr_flash.specs.Bytes.{AreBytes}
use Rattle.pfr_flash.specs.FlashState.{size_of}
use Rattle.pfr_flash.specs.Layout.{IsBankSize}
use Rattle.pfr_flash.specs.declared.layout.Layout.{Layout}
use Rattle.pfr_flash.specs.declared.names.Bank.{Bank}
use Rattle.pfr_flash.specs.declared.names.Counts.{Counts}
use Rattle.pfr_flash.specs.declared.names.Device.{Device}
use Rattle.pfr_flash.specs.declared.names.Device.TheVariants as device
use Rattle.pfr_flash.proofs.PlayLemmas.{length-play}
use Rattle.pfr_engine.specs.Acceptance.{Acceptance}
use Rattle.pfr_fuses.specs.FusesState.{FusesState}
use Rattle.pfr_fuses.specs.RootSlot.{layout_of}
use Rattle.pfr_manifest.specs.declared.manifest.Manifest.{Manifest}
use Rattle.pfr_capsule.specs.CapsuleState.{CapsuleState}
use Rattle.pfr_capsule.specs.declared.fail.CapsuleFail.{CapsuleFail}
use Rattle.pfr_capsule.proofs.GoodLaw.{good_found}
use Rattle.pfr_auth.specs.Trusted.{IsTrusted}
use Rattle.pfr_auth.specs.Judge.{judge_active}
use Rattle.pfr_auth.specs.declared.fail.ActiveFail.{ActiveFail}
use Rattle.pfr_auth.proofs.TrustedLaw.{trusted_judged}
use Rattle.pfr_jobs.specs.LogState.{is_spent}
use Rattle.pfr_jobs.specs.declared.job.JobKind.{JobKind}
use Rattle.pfr_rebuilt.specs.ActiveCopying.{active_rebuilt}
use Rattle.pfr_story.specs.Stopping.{IsOpenOrMade}
use Rattle.pfr_story.proofs.StoppedLaws.{stopped_so, open_or_made}
use Rattle.pfr_jobs.specs.Log.{open_job}
use Rattle.pfr_jobs.specs.declared.job.JobKind.TheVariants.{ActiveFromStaging}
use Rattle.pfr_jobs.specs.declared.job.OpenJob.TheVariants as job
use Rattle.pfr_recoverable.proofs.StaysLaw.{fuses_one}
use Rattle.pfr_script.specs.declared.event.Event.{Event}
use Rattle.pfr_script.specs.declared.event.Event.TheVariants as event
use Rattle.pfr_script.specs.declared.event.Intent.{Intent}
use Rattle.pfr_script.specs.declared.event.Intent.TheVariants as intent
use Rattle.pfr_report.specs.Texts.{IsNoted}
use Rattle.pfr_report.specs.declared.note.LockWhy.{LockWhy}
use Rattle.pfr_report.specs.declared.note.Note.{Note}
use Rattle.pfr_report.specs.declared.note.Refusal.TheVariants as refusing
use Rattle.pfr_report.specs.declared.note.What.{What}
use Rattle.pfr_report.specs.declared.note.What.TheVariants as what
use Rattle.pfr_story.specs.Story.{Story, Move, Plan, Says, Does, Asks, after, noted, counts_of, past_at, device_of}
use Rattle.pfr_story.specs.World.{World, story_of, counts_in, AllMoved, added}
use Rattle.pfr_story.specs.Course.{Follows}
use Rattle.pfr_story.specs.Safety.{Rule, AllSafe, Keeps}
use Rattle.pfr_story.specs.Plans.{mine, store, ready_of, judged_active, judged_staging, by_second, checked_again, by_active}
use Rattle.pfr_story.specs.UpdatePlans.{updated, by_staged, active_updated, by_intent, updated_with, updating}
use Rattle.pfr_story.specs.Standing.{standing_of}
use Rattle.pfr_story.specs.Turn.{fault_of, update_stretch, update_course, begun, Turn}
use Rattle.pfr_story.specs.Causes.{HasBadStaging, HasGoodStaging}
use Rattle.pfr_story.specs.Promises.{AtCounts, Runs, RunningHasNoJob}
use Rattle.pfr_story.specs.Bringing.{IsCalm, IsNotedBehind}
use Rattle.pfr_story.specs.Making.{IsMadeFrom}
use Rattle.pfr_story.specs.Updating.{UpdatesAt, UpdatesBy, Updates}
use Rattle.pfr_story.proofs.SafetyLaws.{AllSafe-append, image_noted, kept_by}
use Rattle.pfr_story.proofs.RestoreLaws.{not_staging, stand_for, found_staged}
use Rattle.pfr_story.proofs.BringAllowed.{IsSized, AllowsBank, AllowsUpdate, updating_allowed}
use Rattle.pfr_story.proofs.BringRules.{IsReady, ready_noted, ready_is, IsOwn, Making}
use Rattle.pfr_story.proofs.Courses.{Turn-cases}
use Rattle.pfr_story.proofs.Traces.{Precedes, precedes_moved, Saying, Traced-known, KnownBefore}
use Rattle.pfr_story.proofs.Made.{said, added_said, behind_next}
use Rattle.pfr_story.proofs.Bytes.{HaveBytes, images_then}
use Rattle.pfr_story.proofs.NoteLaws.{at_moment}
use Rattle.pfr_story.proofs.Entry.{TrustedRunning, trusted_here, trusted_ready, sized_here, follows_moved, takes}
use Rattle.pfr_story.proofs.Endings.{IsTrouble, IsBroken, Ending, single_ends, ended_trace, ended_is, ended_good, ends_whole, over_alone, ends_behind}
use Rattle.pfr_story.proofs.AnewLaws.{MadeFrom, IsAnew, made_so}
use Rattle.pfr_story.proofs.FoundLaws.{found_begins}
use Rattle.pfr_story.proofs.JobFront.{job_true}
use Rattle.pfr_story.proofs.JobQuiet.{own_jobs}
use Rattle.pfr_story.proofs.JobRestores.{anew_releases}
use Rattle.pfr_story.proofs.JobLaws.{same_pasts, same_counts, IsOther, working, whole_job, job_ends, cut_untold}
use Rattle.pfr_story.proofs.FilterLaws.{past_noted, past_other, same_ops}

-- the intent that updates the active image with all of its regions, or with the static ones
abbrev pub intent_of : Bool → Intent
intent_of false = intent.Active
intent_of true = intent.Full

intent_is : (accepts : Acceptance) (b : Bank) (dynamic : Bool) (fuses : FusesState) → by_intent accepts b (intent_of dynamic) fuses ≡ active_updated accepts b dynamic fuses
intent_is accepts b false fuses = refl
intent_is accepts b true fuses = refl

-- ---- no device but the bank's and the store does anything
abbrev Own : Bank → Rule
Own b = Making (IsOwn b) (λ w. Unit {0})

own_bank : (b : Bank) → AllowsBank (Own b) b
own_bank b = record {
  released = λ svn story. tt;
  locked = λ cause story. tt;
  untrusted = λ cause story. tt;
  jobs = own_jobs b (λ w. Unit {0});
  tells = record { resumed = λ kind story. tt; given_up = λ story. tt; restored = λ level story. tt; updated = λ dynamic svn story. tt; recovery_updated = λ svn story. tt };
}

own_update : (b : Bank) → AllowsUpdate (Own b) b
own_update b = record {
  refused = λ cause story. tt;
  cancelled = λ type id story. tt;
  cancels = λ type op story own clear. inr refl;
}

abbrev OthersSame : Bank → Story → Story → Type 0
OthersSame b from story = (other : Device) → other ≢ device_of b → other ≢ device.Nv → past_at other story ≡ past_at other from

own_apart : (b : Bank) (which other : Device) → IsOwn b which → other ≢ device_of b → other ≢ device.Nv → other ≢ which
own_apart b which other (inl own) apart stored e = apart (e ∙ own)
own_apart b which other (inr own) apart stored e = stored (e ∙ own)

own_keeps : (b : Bank) (from : Story) → Keeps (Own b) (OthersSame b from)
own_keeps b from (Says w) story g p = λ other apart stored. past_noted other w story ∙ p other apart stored
own_keeps b from (Does which op) story g p = λ other apart stored. past_other which other op story (own_apart b which other g apart stored) ∙ p other apart stored
own_keeps b from (Asks which) story g p = p

-- ---- what is known of each note
module _ (accepts : Acceptance) (b : Bank) (dynamic : Bool) (fuses : FusesState) (from : Story) where
  abbrev held : Story
  held = noted (what.Held b) from

  abbrev judged : Result CapsuleState CapsuleFail
  judged = judged_staging accepts b fuses held

  -- what is known of each note, by the capsule that was staged
  abbrev Update : What → Story → Type 0
  Update (what.Held c at) story = c ≡ b
  Update (what.Updated c d svn) story = (capsule : CapsuleState) × (judged ≡ Ok capsule) × (capsule.manifest.svn ≡ svn)
  Update (what.Refused c (refusing.Capsule cause)) story = judged ≡ Err cause
  Update that story = Unit {0}

  fault_known : (which : Device) (at : Counts) (story : Story) → Update (what.Locked b (fault_of which) at) story
  fault_known device.Bmc at story = tt
  fault_known device.Pch at story = tt
  fault_known device.Nv at story = tt

  trouble_known : (which : Device) (w : Counts → What) (story : Story) → IsTrouble b (Unit {0}) which w → Saying Update (Says w) story
  trouble_known which w story (inl e) = subst (λ (v : Counts → What). Saying Update (Says v) story) (sym e) (fault_known which (counts_of story) story)
  trouble_known which w story (inr (e, known)) = subst (λ (v : Counts → What). Saying Update (Says v) story) (sym e) tt

  second_known : (again : Result Manifest ActiveFail) (story : Story) → AllSafe (Saying Update) (by_second b again story) story
  second_known (Ok m) story = (tt, tt)
  second_known (Err cause) story = tt

  module _ (ready : IsReady b fuses from) (t : IsTrusted (mine b from) (store from) b accepts) (sized : IsSized from) where
    ready_held : IsReady b fuses held
    ready_held = ready_noted b fuses (what.Held b) from ready

    mine_held : mine b held ≡ mine b from
    mine_held = image_noted (device_of b) (what.Held b) from

    abbrev refused : CapsuleFail → Story
    refused cause = noted (λ _. what.Refused b (refusing.Capsule cause)) held

    -- what is done behind that it is held
    abbrev staged : Result CapsuleState CapsuleFail → List Move
    staged found = Asks device.Nv ∷ Asks (device_of b) ∷ by_staged accepts b dynamic fuses found held

    staged_is : Asks device.Nv ∷ updated_with accepts b (intent_of dynamic) (ready_of b held) held ≡ staged judged
    staged_is =
        ap (λ (r : Result FusesState LockWhy). Asks device.Nv ∷ updated_with accepts b (intent_of dynamic) r held) (ready_is b fuses held ready_held.provisioned ready_held.layout)
        ∙ ap (λ (plan : Plan). Asks device.Nv ∷ plan held) (intent_is accepts b dynamic fuses)

    -- one that is refused is released as it is, since it is trusted
    refused_is : (cause : CapsuleFail) → staged (Err cause)
        ≡ Asks device.Nv ∷ Asks (device_of b) ∷ Says (λ _. what.Refused b (refusing.Capsule cause)) ∷ Asks (device_of b) ∷ Says (what.Released b t.manifest.svn) ∷ []
    refused_is cause =
        let same : mine b (refused cause) ≡ mine b from = image_noted (device_of b) (λ _. what.Refused b (refusing.Capsule cause)) held ∙ mine_held in
        let one : t.fuses ≡ fuses = fuses_one (store from) t.fuses fuses t.provisioned ready.provisioned in
        let again : judged_active accepts b fuses (refused cause) ≡ Ok t.manifest =
        ap (λ (image : List ℕ). judge_active image b fuses accepts) same
        ∙ subst (λ (f : FusesState). judge_active (mine b from) b f accepts ≡ Ok t.manifest) one (trusted_judged (mine b from) (store from) b accepts t) in
        ap (λ (r : Result Manifest ActiveFail). Asks device.Nv ∷ Asks (device_of b) ∷ Says (λ _. what.Refused b (refusing.Capsule cause)) ∷ Asks (device_of b) ∷ by_active accepts b fuses r (refused cause)) again

    -- ---- each of its notes is known
    staged_known : (found : Result CapsuleState CapsuleFail) → judged ≡ found → AllSafe (Saying Update) (staged found) held
    staged_known (Ok capsule) j =
        let made : List Move = updated b dynamic fuses capsule held in
        let left : Story = after made held in (
          tt,
          (
            tt,
            AllSafe-append (Saying Update) made (checked_again accepts b fuses left) held
                (job_true b (ActiveFromStaging dynamic) fuses capsule held (λ unspent. found_begins accepts b fuses (ActiveFromStaging dynamic) capsule held j sized unspent) Update
                (what.Updated b dynamic capsule.manifest.svn) (capsule, j, refl))
                (tt, second_known (judged_active accepts b fuses left) left),
          ),
        )
    staged_known (Err cause) j = subst (λ (moves : List Move). AllSafe (Saying Update) moves held) (sym (refused_is cause)) (tt, (tt, (j, (tt, (tt, tt)))))

-- ---- from one world to another
module _ (accepts : Acceptance) (b : Bank) (dynamic : Bool) (fuses : FusesState) (first new : World) (ready : IsReady b fuses (story_of first))
    (t : IsTrusted (mine b (story_of first)) (store (story_of first)) b accepts) (sized : IsSized (story_of first))
    (ending : Ending b (Unit {0}) (updating accepts b (intent_of dynamic) (story_of first)) (story_of first) (story_of new)) (moved : AllMoved first new) where
  abbrev start : Story
  start = story_of first

  abbrev there : Story
  there = noted (what.Held b) start

  abbrev found : Result CapsuleState CapsuleFail
  found = judged_staging accepts b fuses there

  abbrev work : Result CapsuleState CapsuleFail → List Move
  work answer = Asks device.Nv ∷ Asks (device_of b) ∷ by_staged accepts b dynamic fuses answer there

  behind : Ending b (Unit {0}) (work found) there (story_of new)
  behind =
      let moves : List Move = Asks device.Nv ∷ updated_with accepts b (intent_of dynamic) (ready_of b there) there in
      subst (λ (ms : List Move). Ending b (Unit {0}) ms there (story_of new)) (staged_is accepts b dynamic fuses start ready t sized) (ends_behind b (Unit {0}) (what.Held b) moves start (story_of new) ending)

  abbrev with_held : List Move → List Move
  with_held moves = Says (what.Held b) ∷ moves

  make_noted : (moves : List Move) → story_of new ≡ after moves there → (that : What) → IsNoted (said (with_held moves) start) that → IsNoted (added first new) that
  make_noted moves is that n = subst (λ (notes : List Note). IsNoted notes that) (sym (added_said first new (record { trace = with_held moves; is = is }))) n

  known : (that : What) → IsNoted (added first new) that → KnownBefore (Update accepts b dynamic fuses start) that (story_of new)
  known =
      Traced-known (Update accepts b dynamic fuses start) first new (record {
        trace = with_held (ended_trace b (Unit {0}) (work found) there (story_of new) behind);
        is = ended_is b (Unit {0}) (work found) there (story_of new) behind;
        good = (refl, ended_good b (Unit {0}) (work found) there (story_of new) (Saying (Update accepts b dynamic fuses start)) (staged_known accepts b dynamic fuses start ready t sized found refl) (trouble_known accepts b dynamic fuses start) behind);
        moved = moved;
      })

  -- where it is calm all of it was done
  whole : IsCalm b (added first new) → story_of new ≡ after (work found) there
  whole calm =
      ends_whole b (Unit {0}) (work found) there (story_of new) (added first new) behind
      (λ that n. make_noted (ended_trace b (Unit {0}) (work found) there (story_of new) behind) (ended_is b (Unit {0}) (work found) there (story_of new) behind) that (inr n)) calm
      (λ lost. over_alone b (added first new) (λ c at n. (known (what.Held c at) n).1))

  whole_by : (answer : Result CapsuleState CapsuleFail) → found ≡ answer → IsCalm b (added first new) → story_of new ≡ after (work answer) there
  whole_by answer j calm = whole calm ∙ ap (λ (r : Result CapsuleState CapsuleFail). after (work r) there) j

  -- an update that is refused does no operation
  abbrev refusal : CapsuleFail → List Move
  refusal cause = Asks device.Nv ∷ Asks (device_of b) ∷ Says (λ _. what.Refused b (refusing.Capsule cause)) ∷ Asks (device_of b) ∷ Says (what.Released b t.manifest.svn) ∷ []

  refusal_is : (cause : CapsuleFail) → found ≡ Err cause → work found ≡ refusal cause
  refusal_is cause j = ap (λ (r : Result CapsuleState CapsuleFail). work r) j ∙ refused_is accepts b dynamic fuses start ready t sized cause

  nothing_done : (cause : CapsuleFail) → found ≡ Err cause → counts_of (story_of new) ≡ counts_of start
  nothing_done cause j =
      let e : Ending b (Unit {0}) (refusal cause) there (story_of new) = subst (λ (ms : List Move). Ending b (Unit {0}) ms there (story_of new)) (refusal_is cause j) behind in
      same_counts there (story_of new) (same_pasts b (Unit {0}) (refusal cause) there (story_of new) (tt, (tt, (tt, (tt, (tt, tt))))) e)

  -- and the bank is released again as it is
  refused_so : (cause : CapsuleFail) → found ≡ Err cause → IsCalm b (added first new) → IsNotedBehind (what.Refused b (refusing.Capsule cause)) (what.Released b t.manifest.svn (counts_in first)) (added first new)
  refused_so cause j calm =
      let is : story_of new ≡ after (refusal cause) there = whole calm ∙ ap (λ (moves : List Move). after moves there) (refusal_is cause j) in
      let hold : Note = record { item = start.item; what = what.Held b (counts_of start) } in
      let released : Note = record { item = start.item; what = what.Released b t.manifest.svn (counts_of start) } in
      subst (λ (notes : List Note). IsNotedBehind (what.Refused b (refusing.Capsule cause)) (what.Released b t.manifest.svn (counts_in first)) notes)
      (sym (added_said first new (record { trace = with_held (refusal cause); is = is })))
      (record { before = hold ∷ []; item = start.item; behind = released ∷ []; is = refl; noted = inl refl })

  -- no other device does anything
  others_same : OthersSame b start (story_of new)
  others_same =
      let moves : List Move = updating accepts b (intent_of dynamic) start in
      let good = ended_good b (Unit {0}) moves start (story_of new) (Own b) (updating_allowed (Own b) accepts b (own_bank b) (intent_of dynamic) start sized (own_update b) tt) (λ which w story trouble. tt) ending in
      subst (λ (s : Story). OthersSame b start s) (sym (ended_is b (Unit {0}) moves start (story_of new) ending))
      (kept_by (Own b) (OthersSame b start) (own_keeps b start) (ended_trace b (Unit {0}) moves start (story_of new) ending) start good (λ other apart stored. refl))

  -- ---- by the contents where it is held
  module _ (have : HaveBytes new) (size : IsBankSize (length (mine b start))) (idle : open_job (store start) b ≡ job.None) where
    precedes : Precedes there (story_of new)
    precedes = let p = precedes_moved first new moved in record { bmc = p.bmc; pch = p.pch; nv = p.nv }

    bytes : AreBytes (mine b there)
    bytes = images_then there new precedes have (device_of b)

    ready_there : IsReady b fuses there
    ready_there = ready_held accepts b dynamic fuses start ready t sized

    by_counts : (P : List ℕ → List ℕ → Type 0) → P (mine b there) (store there) → AtCounts P b (counts_in first) new
    by_counts P h = at_moment P b there (counts_in first) new refl precedes h

    found_bad : (cause : CapsuleFail) → HasBadStaging cause b (mine b there) (store there) accepts → found ≡ Err cause
    found_bad cause h =
        subst (λ (f : FusesState). judged_staging accepts b f there ≡ Err cause) (fuses_one (store there) h.fuses fuses h.provisioned ready_there.provisioned) h.judged

    found_good : (g : HasGoodStaging b (mine b there) (store there) accepts) → found ≡ Ok g.good.capsule
    found_good g =
        let layout : Layout = layout_of g.fuses.provision b in
        subst (λ (f : FusesState). judged_staging accepts b f there ≡ Ok g.good.capsule) (fuses_one (store there) g.fuses fuses g.provisioned ready_there.provisioned)
        (good_found (mine b there) (store there) layout.staging_at layout.area_len b accepts g.fuses (stand_for (store there) g.fuses b g.provisioned) g.good)

    made_from : (capsule : CapsuleState) → found ≡ Ok capsule → MadeFrom accepts b fuses capsule there
    made_from capsule j =
        let layout : Layout = layout_of fuses.provision b in
        let k = found_staged accepts b fuses capsule there ready_there.provisioned ready_there.layout bytes j in
        record {
          place = layout.staging_at;
          len = layout.area_len;
          good = k.0;
          capsule_is = k.1;
          provisioned = ready_there.provisioned;
          inside = ready_there.layout.inside.staging;
          size = subst (λ (image : List ℕ). IsBankSize (length image)) (sym (mine_held accepts b dynamic fuses start ready t sized)) size;
          bytes = bytes;
        }

    -- ---- what an update leaves, and from which capsule
    abbrev IsUpdatedFrom : ℕ → List ℕ → List ℕ → Type 0
    IsUpdatedFrom svn image nv =
        (g : HasGoodStaging b image nv accepts) × (svn ≡ g.good.capsule.manifest.svn) × IsMadeFrom accepts b (ActiveFromStaging dynamic) image g.good.capsule (layout_of g.fuses.provision b) new

    updated_untold : (capsule : CapsuleState) → found ≡ Ok capsule → IsBroken b (Unit {0}) (working accepts b (ActiveFromStaging dynamic) (not_staging dynamic) (what.Updated b dynamic capsule.manifest.svn) there fuses capsule) there (story_of new)
        → ¬ IsNoted (added first new) (what.Updated b dynamic capsule.manifest.svn)
    updated_untold capsule j p n =
        let told : What = what.Updated b dynamic capsule.manifest.svn in
        let moves : List Move = working accepts b (ActiveFromStaging dynamic) (not_staging dynamic) told there fuses capsule in
        let cut = cut_untold accepts b (ActiveFromStaging dynamic) (not_staging dynamic) told there fuses capsule (Unit {0}) (λ cause then e. cc) (λ d then e. cc)
        (λ unspent. found_begins accepts b fuses (ActiveFromStaging dynamic) capsule there j sized unspent) (story_of new) p in
        (Traced-known (IsOther told) first new (record {
          trace = with_held (ended_trace b (Unit {0}) moves there (story_of new) (inr p));
          is = ended_is b (Unit {0}) moves there (story_of new) (inr p);
          good = ((λ e. cc), cut);
          moved = moved;
        }) told n).1 refl

    updated_anew : (capsule : CapsuleState) → found ≡ Ok capsule → IsNoted (added first new) (what.Updated b dynamic capsule.manifest.svn)
        → IsAnew accepts b (ActiveFromStaging dynamic) fuses capsule (mine b there) (story_of new)
    updated_anew capsule j n =
        let told : What = what.Updated b dynamic capsule.manifest.svn in
        let work_here : Ending b (Unit {0}) (whole_job accepts b (ActiveFromStaging dynamic) (not_staging dynamic) told there fuses capsule) there (story_of new) =
        subst (λ (r : Result CapsuleState CapsuleFail). Ending b (Unit {0}) (work r) there (story_of new)) j behind in
        elim (job_ends accepts b (ActiveFromStaging dynamic) (not_staging dynamic) told there fuses capsule (made_from capsule j) sized idle tt (Unit {0}) (story_of new) work_here) [
          | inl p ↦ absurd (updated_untold capsule j p n)
          | inr anew ↦ anew
        ]

    updated_from : (svn : ℕ) → IsNoted (added first new) (what.Updated b dynamic svn) → IsUpdatedFrom svn (mine b there) (store there)
    updated_from svn n =
        let k = (known (what.Updated b dynamic svn) n).1 in
        let capsule : CapsuleState = k.0 in
        let good = found_staged accepts b fuses capsule there ready_there.provisioned ready_there.layout bytes k.1 in
        let anew = updated_anew capsule k.1 (subst (λ (x : ℕ). IsNoted (added first new) (what.Updated b dynamic x)) (sym k.2) n) in (
          record { fuses = fuses; provisioned = ready_there.provisioned; good = good.0 },
          sym k.2 ∙ ap (λ (c : CapsuleState). c.manifest.svn) (sym good.1),
          made_so accepts b (ActiveFromStaging dynamic) fuses good.0.capsule (mine b there) new
              (subst (λ (c : CapsuleState). IsAnew accepts b (ActiveFromStaging dynamic) fuses c (mine b there) (story_of new)) (sym good.1) anew),
        )

    abbrev UpdatesAndReleases : ℕ → Type 0
    UpdatesAndReleases svn = (then : Counts) × IsNotedBehind (what.Updated b dynamic svn) (what.Released b svn then) (added first new)

    updates_so : IsCalm b (added first new) → (capsule : CapsuleState) → found ≡ Ok capsule → UpdatesAndReleases capsule.manifest.svn
    updates_so calm capsule j =
        let svn : ℕ = capsule.manifest.svn in
        let hold : Note = record { item = start.item; what = what.Held b (counts_of start) } in
        let then : Counts = counts_of (after (updated b dynamic fuses capsule there) there) in
        let anew = anew_releases accepts b (ActiveFromStaging dynamic) (not_staging dynamic) fuses capsule (what.Updated b dynamic svn) there (made_from capsule j) sized idle tt in
        let notes = behind_next (what.Updated b dynamic svn) (what.Released b svn then) hold _ anew in (
          then,
          subst (λ (all : List Note). IsNotedBehind (what.Updated b dynamic svn) (what.Released b svn then) all)
              (sym (added_said first new (record { trace = with_held (work (Ok capsule)); is = whole_by (Ok capsule) j calm }))) notes,
        )

    -- wherever it was stopped
    abbrev IsStoppedFrom : List ℕ → List ℕ → Type 0
    IsStoppedFrom image nv =
        (g : HasGoodStaging b image nv accepts) → (is_spent nv b ≡ true)
        ⊎ IsOpenOrMade b (ActiveFromStaging dynamic) g.good.capsule.digest (active_rebuilt (ActiveFromStaging dynamic) image g.good.capsule (layout_of g.fuses.provision b)) new (counts_in first)

    stopped_from : IsStoppedFrom (mine b there) (store there)
    stopped_from g =
        let kind : JobKind = ActiveFromStaging dynamic in
        let capsule : CapsuleState = g.good.capsule in
        let j = found_good g in
        let told : What = what.Updated b dynamic capsule.manifest.svn in
        let from_here = made_from capsule j in
        let IsLeft : FusesState → Type 0 = λ f. (is_spent (store there) b ≡ true) ⊎ IsOpenOrMade b kind capsule.digest (active_rebuilt kind (mine b there) capsule (layout_of f.provision b)) new (counts_in first) in
        let image : List ℕ = active_rebuilt kind (mine b there) capsule (layout_of fuses.provision b) in
        let work_here : Ending b (Unit {0}) (whole_job accepts b kind (not_staging dynamic) told there fuses capsule) there (story_of new) =
        subst (λ (r : Result CapsuleState CapsuleFail). Ending b (Unit {0}) (work r) there (story_of new)) j behind in
        subst IsLeft (fuses_one (store there) fuses g.fuses ready_there.provisioned g.provisioned)
        (elim (job_ends accepts b kind (not_staging dynamic) told there fuses capsule from_here sized idle tt (Unit {0}) (story_of new) work_here) [
          | inl p ↦ elim (stopped_so accepts b kind (not_staging dynamic) told there fuses capsule from_here sized idle tt (Unit {0}) (story_of new) p) [
            | inl spent ↦ inl spent
            | inr left ↦ inr (open_or_made b kind capsule.digest image there new left)
          ]
          | inr anew ↦ inr (open_or_made b kind capsule.digest image there new (inr (inr anew.image)))
        ])

    -- it is refused, and released again
    abbrev IsRefused : CapsuleFail → Type 0
    IsRefused cause = (svn : ℕ) × IsNotedBehind (what.Refused b (refusing.Capsule cause)) (what.Released b svn (counts_in first)) (added first new)

    updates_at : UpdatesAt accepts b dynamic new (added first new) (counts_in first)
    updates_at = record {
      held = make_noted (ended_trace b (Unit {0}) (work found) there (story_of new) behind) (ended_is b (Unit {0}) (work found) there (story_of new) behind) (what.Held b (counts_in first)) (inl refl);
      refused = λ cause n. by_counts (λ image nv. HasBadStaging cause b image nv accepts) (record { fuses = fuses; provisioned = ready_there.provisioned; judged = (known (what.Refused b (refusing.Capsule cause)) n).1 });
      refuses = λ cause calm. by_counts (λ image nv. HasBadStaging cause b image nv accepts → IsRefused cause) (λ h. (t.manifest.svn, refused_so cause (found_bad cause h) calm));
      updated = λ svn n. by_counts (IsUpdatedFrom svn) (updated_from svn n);
      updates = λ calm. by_counts (λ image nv. (g : HasGoodStaging b image nv accepts) → UpdatesAndReleases g.good.capsule.manifest.svn) (λ g. updates_so calm g.good.capsule (found_good g));
      stopped = by_counts IsStoppedFrom stopped_from;
    }

-- ---- a whole step
module _ (accepts : Acceptance) (b : Bank) (dynamic : Bool) (old new : World) where
  abbrev e : Event
  e = event.Update b (intent_of dynamic)

  abbrev first : World
  first = begun (event.Update b (intent_of dynamic)) old

  updates_by : HaveBytes new → IsBankSize (length (mine b (story_of first))) → IsSized (story_of first) → IsTrusted (mine b (story_of first)) (store (story_of first)) b accepts
      → open_job (store (story_of first)) b ≡ job.None → Follows (update_course accepts b (intent_of dynamic)) first new → UpdatesBy accepts b dynamic old new
  updates_by have size sized t idle f =
      let ready : IsReady b t.fuses (story_of first) = trusted_ready accepts b (story_of first) t in
      let ending = single_ends (update_stretch accepts b (intent_of dynamic)) b (Unit {0}) (λ d. refl) tt first new f in
      let moved : AllMoved first new = follows_moved (update_course accepts b (intent_of dynamic)) first new f in
      record {
        updates = updates_at accepts b dynamic t.fuses first new ready t sized ending moved have size idle;
        writes_nothing = λ cause n.
            nothing_done accepts b dynamic t.fuses first new ready t sized ending moved cause (known accepts b dynamic t.fuses first new ready t sized ending moved (what.Refused b (refusing.Capsule cause)) n).1;
        others = λ other apart stored. same_ops e other old new (others_same accepts b dynamic t.fuses first new ready t sized ending moved other apart stored);
      }

  update_turn : Turn accepts (event.Update b (intent_of dynamic)) old new → HaveBytes new → IsBankSize (size_of old.bmc) → IsBankSize (size_of old.pch) → size_of old.nv ≡ 32768
      → TrustedRunning accepts old → RunningHasNoJob old → Runs b old → UpdatesBy accepts b dynamic old new
  update_turn t have bmc pch nv trusted idle runs = elim (Turn-cases accepts e old new t) [
    | inl none ↦ absurd (takes (standing_of b old.notes.list) runs none.0)
    | inr on ↦ updates_by have (sized_here e old bmc pch b) (length-play old.nv.start old.nv.ops ∙ nv) (trusted_here accepts e old trusted b runs) (idle b runs) on.1
  ]

-- An update of the active image of a bank that runs is judged before anything is written.
pub Turn-updates : (accepts : Acceptance) (e : Event) (old new : World) → Turn accepts e old new → HaveBytes new → IsBankSize (size_of old.bmc) → IsBankSize (size_of old.pch)
    → size_of old.nv ≡ 32768 → TrustedRunning accepts old → RunningHasNoJob old → Updates e accepts old new
Turn-updates accepts (event.Update b intent.Active) old new t have bmc pch nv trusted idle = update_turn accepts b false old new t have bmc pch nv trusted idle
Turn-updates accepts (event.Update b intent.Full) old new t have bmc pch nv trusted idle = update_turn accepts b true old new t have bmc pch nv trusted idle
Turn-updates accepts e old new t have bmc pch nv trusted idle = tt
