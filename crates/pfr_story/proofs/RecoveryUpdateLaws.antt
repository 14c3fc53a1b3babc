-- An update of the recovery area of a bank that runs is judged before anything is written, and leaves the staged capsule there.
use Rattle.std.proofs.Common.{◌≡◌, ◌∙◌, refl, sym, ap, subst, ℕ, Bool, true, false, List, [], ◌∷◌, ◌++◌, length, append_assoc, inl, inr, Result, Ok, Err}
use Rattle.pfr_flash.specs.FlashState.{now, size_of}
use Rattle.pfr_flash.specs.Layout.{IsBankSize}
use Rattle.pfr_flash.specs.declared.layout.Layout.{Layout}
use Rattle.pfr_flash.specs.declared.names.Bank.{Bank}
use Rattle.pfr_flash.specs.declared.names.Bank.TheVariants as bank
use Rattle.pfr_flash.specs.declared.names.Counts.{Counts}
use Rattle.pfr_flash.specs.declared.names.Device.{Device}
use Rattle.pfr_flash.specs.declared.names.Device.TheVariants as device
use Rattle.pfr_flash.proofs.PlayLemmas.{length-play}
use Rattle.pfr_engine.specs.Acceptance.{Acceptance}
use Rattle.pfr_fuses.specs.Changes.{raised}
use Rattle.pfr_fuses.specs.FusesState.{FusesState}
use Rattle.pfr_fuses.specs.RootSlot.{layout_of}
use Rattle.pfr_manifest.specs.declared.manifest.Manifest.{Manifest}
use Rattle.pfr_capsule.specs.CapsuleState.{CapsuleState}
use Rattle.pfr_capsule.specs.declared.fail.CapsuleFail.{CapsuleFail}
use Rattle.pfr_capsule.proofs.GoodLaw.{good_found}
use Rattle.pfr_auth.specs.Trusted.{IsTrusted}
use Rattle.pfr_auth.specs.Judge.{judge_active}
use Rattle.pfr_auth.specs.declared.fail.ActiveFail.{ActiveFail}
use Rattle.pfr_jobs.specs.Log.{open_job}
use Rattle.pfr_jobs.specs.LogState.{is_spent}
use Rattle.pfr_jobs.specs.declared.job.JobKind.TheVariants.{ActiveFromRecovery}
use Rattle.pfr_jobs.specs.declared.job.OpenJob.TheVariants as job
use Rattle.pfr_rebuilt.specs.Copying.{recovery_rebuilt}
use Rattle.pfr_recoverable.specs.Recoverable.{HasGoodRecovery}
use Rattle.pfr_recoverable.proofs.StaysLaw.{fuses_one}
use Rattle.pfr_script.specs.declared.event.Event.{Event}
use Rattle.pfr_script.specs.declared.event.Event.TheVariants as event
use Rattle.pfr_script.specs.declared.event.Intent.{Intent}
use Rattle.pfr_script.specs.declared.event.Intent.TheVariants as intent
use Rattle.pfr_report.specs.Texts.{IsNoted}
use Rattle.pfr_report.specs.declared.note.LockWhy.{LockWhy}
use Rattle.pfr_report.specs.declared.note.Note.{Note}
use Rattle.pfr_report.specs.declared.note.Refusal.{Refusal}
use Rattle.pfr_report.specs.declared.note.Refusal.TheVariants as refusing
use Rattle.pfr_report.specs.declared.note.What.{What}
use Rattle.pfr_report.specs.declared.note.What.TheVariants as what
use Rattle.pfr_story.specs.Story.{Story, Move, Says, Does, Asks, after, moved_by, noted, counts_of, device_of}
use Rattle.pfr_story.specs.World.{World, story_of, counts_in, state_at, AllMoved, added}
use Rattle.pfr_story.specs.Course.{Follows}
use Rattle.pfr_story.specs.Safety.{AllSafe, AllMake}
use Rattle.pfr_story.specs.Keeping.{IsSettled}
use Rattle.pfr_story.specs.JobContents.{CanWork}
use Rattle.pfr_story.specs.JobPlans.{recovery_job}
use Rattle.pfr_story.specs.Plans.{mine, store, ready_of, judged_active, judged_recovery, judged_staging, restored, by_recovery, by_active, by_fuses, checked_then}
use Rattle.pfr_story.specs.UpdatePlans.{refused_so, has_manifest, by_room, by_manifest, by_new_recovery, updated_with, updating}
use Rattle.pfr_story.specs.Standing.{standing_of}
use Rattle.pfr_story.specs.Turn.{update_stretch, update_course, begun, Turn}
use Rattle.pfr_story.specs.Causes.{HasBadStaging}
use Rattle.pfr_story.specs.Promises.{AtCounts, Runs, RunningHasNoJob}
use Rattle.pfr_story.specs.Bringing.{IsCalm}
use Rattle.pfr_story.specs.JobPromises.{HasStagedFor, IsCopiedFrom, UpdatesRecovery, RecoveryUpdates}
use Rattle.pfr_story.proofs.Sequence.{after-append}
use Rattle.pfr_story.proofs.SafetyLaws.{AllSafe-append, kept_by}
use Rattle.pfr_story.proofs.RestoreLaws.{stand_for, found_staged}
use Rattle.pfr_story.proofs.BringAllowed.{IsSized}
use Rattle.pfr_story.proofs.BringRules.{IsReady, ready_noted, ready_is, IsOwn, Walks, tail_safe, then_safe}
use Rattle.pfr_story.proofs.Courses.{Turn-cases}
use Rattle.pfr_story.proofs.Traces.{precedes_moved, Saying, Traced-known, KnownBefore}
use Rattle.pfr_story.proofs.Made.{said, added_said, noted_first, noted_next}
use Rattle.pfr_story.proofs.Bytes.{HaveBytes}
use Rattle.pfr_story.proofs.NoteLaws.{at_moment}
use Rattle.pfr_story.proofs.Entry.{TrustedRunning, trusted_here, trusted_ready, sized_here, follows_moved, takes}
use Rattle.pfr_story.proofs.Endings.{IsTrouble, IsBroken, Ending, single_ends, ended_trace, ended_is, ended_good, ends_whole, over_alone, ends_behind, ends_parts}
use Rattle.pfr_story.proofs.FoundLaws.{found_begins}
use Rattle.pfr_story.proofs.HeldLaws.{can_there}
use Rattle.pfr_story.proofs.JobFront.{NoNote}
use Rattle.pfr_story.proofs.JobLaws.{Still, same_pasts, same_counts, same_mine, IsOther}
use Rattle.pfr_story.proofs.JobQuiet.{told_jobs}
use Rattle.pfr_story.proofs.JobWalks.{job_allowed, store_sized}
use Rattle.pfr_story.proofs.JudgedLaws.{Turn-judges}
use Rattle.pfr_story.proofs.RecoveryTail.{Tame, IsStanding, tame_keeps, tail_tame}
use Rattle.pfr_story.proofs.RecoveryTold.{IsCopying, copying}
use Rattle.pfr_story.proofs.RefusalLaws.{refused_still, trusted_held}

-- moves that tell nothing
quiet_says : (F : What → Story → Type 0) (D : Device → Type 0) (moves : List Move) (story : Story) → AllMake D NoNote moves → AllSafe (Saying F) moves story
quiet_says F D [] story all = tt
quiet_says F D (Says w ∷ moves) story all = absurd all.0
quiet_says F D (Asks which ∷ moves) story all = (tt, quiet_says F D moves story all.1)
quiet_says F D (Does which op ∷ moves) story all = ((tt, λ done t. tt), quiet_says F D moves (moved_by (Does which op) story) all.1)

-- ---- what is known of each note
module _ (accepts : Acceptance) (b : Bank) (fuses : FusesState) (from : Story) where
  abbrev held : Story
  held = noted (what.Held b) from

  abbrev judged : Result CapsuleState CapsuleFail
  judged = judged_staging accepts b fuses held

  -- this capsule was staged, whose manifest the active image has or hasn't
  abbrev IsStagedFor : Bool → CapsuleState → Type 0
  IsStagedFor same capsule = (judged ≡ Ok capsule) × (has_manifest capsule (judged_active accepts b fuses held) ≡ same)

  abbrev Copy : What → Story → Type 0
  Copy (what.Held c at) story = c ≡ b
  Copy (what.Refused c (refusing.Capsule cause)) story = judged ≡ Err cause
  Copy (what.Refused c refusing.ManifestDiffers) story = (capsule : CapsuleState) × IsStagedFor false capsule
  Copy (what.Refused c refusing.JobsSpent) story = (capsule : CapsuleState) × IsStagedFor true capsule × (is_spent (store held) b ≡ true)
  Copy (what.Refused c (refusing.Cert cause)) story = ⊥
  Copy (what.Abandoned c) story = ⊥
  Copy (what.RecoveryUpdated c svn) story = (capsule : CapsuleState) × IsStagedFor true capsule × (is_spent (store held) b ≡ false) × (capsule.manifest.svn ≡ svn)
  Copy that story = Unit {0}

  trouble_known : (which : Device) (w : Counts → What) (story : Story) → IsTrouble b (Unit {0}) which w → Saying Copy (Says w) story
  trouble_known which w story (inl e) = subst (λ (v : Counts → What). Saying Copy (Says v) story) (sym e) tt
  trouble_known which w story (inr (e, known)) = subst (λ (v : Counts → What). Saying Copy (Says v) story) (sym e) tt

  -- the check behind it
  copy_walks : Walks (Saying Copy) accepts b (λ story. ⊥) IsSized (λ f story. IsSized story) (λ f c story. IsSized story) (λ f story. IsSized story)
  copy_walks = record {
    asks = λ which story own. tt;
    resumes = λ f story q e. absurd q;
    unset = λ cause story q e. tt;
    ready = λ f story s e. s;
    unready = λ cause story s e. tt;
    released = λ f m story p j. tt;
    untrusted = λ f cause story p j. (tt, p);
    no_image = λ f cause other story p j. tt;
    restores = λ f cause capsule story p j. (
      job_allowed (Saying Copy) b (told_jobs b Copy) (ActiveFromRecovery 1) f capsule (what.Restored b 1) (λ there. tt) story (λ unspent. found_begins accepts b f (ActiveFromRecovery 1) capsule story j p unspent),
      store_sized (restored b 1 f capsule story) story ∙ p,
    );
    again = λ f m story r j. tt;
  }

  refused_known : (cause : Refusal) → IsSized from → Copy (what.Refused b cause) held → AllSafe (Saying Copy) (refused_so accepts b fuses cause held) held
  refused_known cause sized is = (
    is,
    tail_safe (Saying Copy) accepts b (λ story. ⊥) IsSized (λ f story. IsSized story) (λ f c story. IsSized story) (λ f story. IsSized story) copy_walks fuses (noted (λ _. what.Refused b cause) held) sized,
  )

  -- ---- the job
  abbrev told : ℕ → What
  told svn = what.RecoveryUpdated b svn

  abbrev job_moves : CapsuleState → List Move
  job_moves capsule = recovery_job (what.Abandoned b) (λ svn. what.RecoveryUpdated b svn) accepts b fuses capsule held

  abbrev left : CapsuleState → Story
  left capsule = after (job_moves capsule) held

  module _ (can : CanWork b fuses held) (idle : open_job (store held) b ≡ job.None) where
    copies : (capsule : CapsuleState) → judged ≡ Ok capsule → is_spent (store held) b ≡ false → IsCopying (what.Abandoned b) (λ svn. what.RecoveryUpdated b svn) accepts b fuses capsule held
    copies capsule j free = copying (what.Abandoned b) (λ svn. what.RecoveryUpdated b svn) accepts b fuses capsule held can idle free j

    job_known : (capsule : CapsuleState) → IsStagedFor true capsule → is_spent (store held) b ≡ false → AllSafe (Saying Copy) (job_moves capsule) held
    job_known capsule staged free =
        let c = copies capsule staged.0 free in
        subst (λ (moves : List Move). AllSafe (Saying Copy) moves held) (sym c.is)
        (AllSafe-append (Saying Copy) c.front (Says (λ _. told capsule.manifest.svn) ∷ []) held (quiet_says Copy (IsOwn b) c.front held c.quiet) ((capsule, staged, free, refl), tt))

    room_known : (capsule : CapsuleState) → IsStagedFor true capsule → (spent : Bool) → is_spent (store held) b ≡ spent → AllSafe (Saying Copy) (by_room spent accepts b fuses capsule held) held
    room_known capsule staged true e = refused_known refusing.JobsSpent can.store_size (capsule, staged, e)
    room_known capsule staged false e =
        AllSafe-append (Saying Copy) (job_moves capsule) (checked_then accepts b (left capsule)) held (job_known capsule staged e)
        (then_safe (Saying Copy) accepts b (λ story. ⊥) IsSized (λ f story. IsSized story) (λ f c story. IsSized story) (λ f story. IsSized story) copy_walks (left capsule)
        (store_sized (job_moves capsule) held ∙ can.store_size))

    manifest_known : (capsule : CapsuleState) → judged ≡ Ok capsule → (same : Bool) → has_manifest capsule (judged_active accepts b fuses held) ≡ same → AllSafe (Saying Copy) (by_manifest same accepts b fuses capsule held) held
    manifest_known capsule j true e = (tt, room_known capsule (j, e) (is_spent (store held) b) refl)
    manifest_known capsule j false e = refused_known refusing.ManifestDiffers can.store_size (capsule, (j, e))

    -- what is done behind that it is held
    abbrev work : Result CapsuleState CapsuleFail → List Move
    work found = Asks device.Nv ∷ Asks (device_of b) ∷ by_new_recovery accepts b fuses found held

    copy_known : (found : Result CapsuleState CapsuleFail) → judged ≡ found → AllSafe (Saying Copy) (work found) held
    copy_known (Ok capsule) j = (tt, (tt, (tt, manifest_known capsule j (has_manifest capsule (judged_active accepts b fuses held)) refl)))
    copy_known (Err cause) j = (tt, (tt, refused_known (refusing.Capsule cause) can.store_size j))

    work_is : IsReady b fuses held → Asks device.Nv ∷ updated_with accepts b intent.Recovery (ready_of b held) held ≡ work judged
    work_is here = ap (λ (r : Result FusesState LockWhy). Asks device.Nv ∷ updated_with accepts b intent.Recovery r held) (ready_is b fuses held here.provisioned here.layout)

-- what a bank holds in a world
image_in : (b : Bank) (w : World) → mine b (story_of w) ≡ now (state_at (device_of b) w)
image_in bank.Bmc w = refl
image_in bank.Pch w = refl

-- ---- from one world to another
module _ (accepts : Acceptance) (b : Bank) (fuses : FusesState) (first new : World) (ready : IsReady b fuses (noted (what.Held b) (story_of first))) (can : CanWork b fuses (noted (what.Held b) (story_of first)))
    (idle : open_job (store (story_of first)) b ≡ job.None) (ending : Ending b (Unit {0}) (updating accepts b intent.Recovery (story_of first)) (story_of first) (story_of new)) (moved : AllMoved first new) where
  abbrev start : Story
  start = story_of first

  abbrev there : Story
  there = noted (what.Held b) start

  abbrev found : Result CapsuleState CapsuleFail
  found = judged_staging accepts b fuses there

  abbrev todo : Result CapsuleState CapsuleFail → List Move
  todo answer = work accepts b fuses start can idle answer

  behind : Ending b (Unit {0}) (todo found) there (story_of new)
  behind =
      let moves : List Move = Asks device.Nv ∷ updated_with accepts b intent.Recovery (ready_of b there) there in
      subst (λ (ms : List Move). Ending b (Unit {0}) ms there (story_of new)) (work_is accepts b fuses start can idle ready) (ends_behind b (Unit {0}) (what.Held b) moves start (story_of new) ending)

  make_noted : (moves : List Move) → story_of new ≡ after moves there → (that : What) → IsNoted (said (Says (what.Held b) ∷ moves) start) that → IsNoted (added first new) that
  make_noted moves is that n = subst (λ (notes : List Note). IsNoted notes that) (sym (added_said first new (record { trace = Says (what.Held b) ∷ moves; is = is }))) n

  known : (that : What) → IsNoted (added first new) that → KnownBefore (Copy accepts b fuses start) that (story_of new)
  known =
      Traced-known (Copy accepts b fuses start) first new (record {
        trace = Says (what.Held b) ∷ ended_trace b (Unit {0}) (todo found) there (story_of new) behind;
        is = ended_is b (Unit {0}) (todo found) there (story_of new) behind;
        good = (refl, ended_good b (Unit {0}) (todo found) there (story_of new) (Saying (Copy accepts b fuses start)) (copy_known accepts b fuses start can idle found refl) (trouble_known accepts b fuses start) behind);
        moved = moved;
      })

  -- where it is calm all of it was done
  whole : IsCalm b (added first new) → story_of new ≡ after (todo found) there
  whole calm =
      ends_whole b (Unit {0}) (todo found) there (story_of new) (added first new) behind
      (λ that n. make_noted (ended_trace b (Unit {0}) (todo found) there (story_of new) behind) (ended_is b (Unit {0}) (todo found) there (story_of new) behind) that (inr n)) calm
      (λ lost. over_alone b (added first new) (λ c at n. (known (what.Held c at) n).1))

  -- of a good capsule, and of one with the manifest of the active image
  abbrev by_same : CapsuleState → Bool → List Move
  by_same capsule same = Asks device.Nv ∷ Asks (device_of b) ∷ Asks (device_of b) ∷ by_manifest same accepts b fuses capsule there

  abbrev in_room : CapsuleState → Bool → List Move
  in_room capsule spent = Asks device.Nv ∷ Asks (device_of b) ∷ Asks (device_of b) ∷ Asks device.Nv ∷ by_room spent accepts b fuses capsule there

  same_is : (capsule : CapsuleState) (same : Bool) → IsStagedFor accepts b fuses start same capsule → todo found ≡ by_same capsule same
  same_is capsule same staged = ap (λ (r : Result CapsuleState CapsuleFail). todo r) staged.0 ∙ ap (λ (t : Bool). by_same capsule t) staged.1

  room_is : (capsule : CapsuleState) (spent : Bool) → IsStagedFor accepts b fuses start true capsule → is_spent (store there) b ≡ spent → todo found ≡ in_room capsule spent
  room_is capsule spent staged e = same_is capsule true staged ∙ ap (λ (t : Bool). in_room capsule t) e

  make_calm : IsCalm b (added first new) → (moves : List Move) → todo found ≡ moves → (that : What) → IsNoted (said (Says (what.Held b) ∷ moves) start) that → IsNoted (added first new) that
  make_calm calm moves is that n = make_noted moves (whole calm ∙ ap (λ (ms : List Move). after ms there) is) that n

  refuses_bad : (cause : CapsuleFail) → IsCalm b (added first new) → found ≡ Err cause → IsNoted (added first new) (what.Refused b (refusing.Capsule cause))
  refuses_bad cause calm j = make_calm calm (todo (Err cause)) (ap (λ (r : Result CapsuleState CapsuleFail). todo r) j) (what.Refused b (refusing.Capsule cause)) (inr (inl refl))

  refuses_other : (capsule : CapsuleState) → IsCalm b (added first new) → IsStagedFor accepts b fuses start false capsule → IsNoted (added first new) (what.Refused b refusing.ManifestDiffers)
  refuses_other capsule calm staged = make_calm calm (by_same capsule false) (same_is capsule false staged) (what.Refused b refusing.ManifestDiffers) (inr (inl refl))

  refuses_spent : (capsule : CapsuleState) → IsCalm b (added first new) → IsStagedFor accepts b fuses start true capsule → is_spent (store there) b ≡ true → IsNoted (added first new) (what.Refused b refusing.JobsSpent)
  refuses_spent capsule calm staged e = make_calm calm (in_room capsule true) (room_is capsule true staged e) (what.Refused b refusing.JobsSpent) (inr (inl refl))

  -- ---- one that is refused does no operation
  module _ (t : IsTrusted (mine b (story_of first)) (store (story_of first)) b accepts) where
    still : (why : Refusal) → AllSafe Still (refused_so accepts b fuses why there) there
    still why = refused_still accepts b fuses there can.provisioned (trusted_held accepts b start t) why

    nothing_done : (moves : List Move) → todo found ≡ moves → AllSafe Still moves there → counts_of (story_of new) ≡ counts_of start
    nothing_done moves is safe =
        same_counts there (story_of new) (same_pasts b (Unit {0}) moves there (story_of new) safe (subst (λ (ms : List Move). Ending b (Unit {0}) ms there (story_of new)) is behind))

    writes_nothing : (why : Refusal) → IsNoted (added first new) (what.Refused b why) → counts_of (story_of new) ≡ counts_of start
    writes_nothing (refusing.Capsule cause) n =
        let j = (known (what.Refused b (refusing.Capsule cause)) n).1 in
        nothing_done (todo (Err cause)) (ap (λ (r : Result CapsuleState CapsuleFail). todo r) j) (tt, (tt, still (refusing.Capsule cause)))
    writes_nothing (refusing.Cert cause) n = absurd (known (what.Refused b (refusing.Cert cause)) n).1
    writes_nothing refusing.ManifestDiffers n =
        let k = (known (what.Refused b refusing.ManifestDiffers) n).1 in
        nothing_done (by_same k.0 false) (same_is k.0 false k.1) (tt, (tt, (tt, still refusing.ManifestDiffers)))
    writes_nothing refusing.JobsSpent n =
        let k = (known (what.Refused b refusing.JobsSpent) n).1 in
        nothing_done (in_room k.0 true) (room_is k.0 true k.1 k.2) (tt, (tt, (tt, (tt, still refusing.JobsSpent))))

  updates_so : (capsule : CapsuleState) → IsCalm b (added first new) → IsStagedFor accepts b fuses start true capsule → is_spent (store there) b ≡ false → IsNoted (added first new) (what.RecoveryUpdated b capsule.manifest.svn)
  updates_so capsule calm staged free =
      let c = copies accepts b fuses start can idle capsule staged.0 free in
      let that : What = what.RecoveryUpdated b capsule.manifest.svn in
      let moves : List Move = job_moves accepts b fuses start capsule in
      let at_end : IsNoted (said moves there) that =
      subst (λ (ms : List Move). IsNoted (said ms there) that) (sym c.is) (noted_next c.front (Says (λ _. that) ∷ []) there that (inl refl)) in
      make_calm calm (in_room capsule false) (room_is capsule false staged free) that (inr (noted_first moves (checked_then accepts b (left accepts b fuses start capsule)) there that at_end))

  -- ---- what stands in the recovery area then
  module _ (capsule : CapsuleState) (staged : IsStagedFor accepts b fuses start true capsule) (free : is_spent (store there) b ≡ false) where
    c : IsCopying (what.Abandoned b) (λ svn. what.RecoveryUpdated b svn) accepts b fuses capsule there
    c = copies accepts b fuses start can idle capsule staged.0 free

    abbrev that : What
    that = what.RecoveryUpdated b capsule.manifest.svn

    -- before the note
    abbrev working : List Move
    working = Asks device.Nv ∷ Asks (device_of b) ∷ Asks (device_of b) ∷ Asks device.Nv ∷ c.front

    abbrev done : Story
    done = left accepts b fuses start capsule

    parts : in_room capsule false ≡ working ++ (Says (λ _. that) ∷ checked_then accepts b done)
    parts =
        ap (λ (moves : List Move). Asks device.Nv ∷ Asks (device_of b) ∷ Asks (device_of b) ∷ Asks device.Nv ∷ moves)
        (ap (λ (moves : List Move). moves ++ checked_then accepts b done) c.is ∙ append_assoc c.front (Says (λ _. that) ∷ []) (checked_then accepts b done))

    trouble_other : (which : Device) (w : Counts → What) (story : Story) → IsTrouble b (Unit {0}) which w → Saying (IsOther that) (Says w) story
    trouble_other which w story (inl e) = subst (λ (v : Counts → What). Saying (IsOther that) (Says v) story) (sym e) (λ same. cc)
    trouble_other which w story (inr (e, lost)) = subst (λ (v : Counts → What). Saying (IsOther that) (Says v) story) (sym e) (λ same. cc)

    untold : IsBroken b (Unit {0}) working there (story_of new) → ¬ IsNoted (added first new) that
    untold p n =
        let quiet : AllSafe (Saying (IsOther that)) working there = (tt, (tt, (tt, (tt, quiet_says (IsOther that) (IsOwn b) c.front there c.quiet)))) in
        (Traced-known (IsOther that) first new (record {
          trace = Says (what.Held b) ∷ ended_trace b (Unit {0}) working there (story_of new) (inr p);
          is = ended_is b (Unit {0}) working there (story_of new) (inr p);
          good = ((λ e. cc), ended_good b (Unit {0}) working there (story_of new) (Saying (IsOther that)) quiet trouble_other (inr p));
          moved = moved;
        }) that n).1 refl

    abbrev fuses_then : FusesState
    fuses_then = raised fuses b c.svn

    abbrev IsThere : Story → Type 0
    IsThere story = IsStanding accepts b fuses_then capsule story

    -- how the check behind it ended
    tail_ends : Ending b (Unit {0}) (Says (λ _. that) ∷ checked_then accepts b done) (after working there) (story_of new) → Ending b (Unit {0}) (checked_then accepts b done) done (story_of new)
    tail_ends e =
        let told_story : Story = noted (λ _. that) (after working there) in
        let is : done ≡ told_story = ap (λ (moves : List Move). after moves there) c.is ∙ after-append c.front (Says (λ _. that) ∷ []) there in
        subst (λ (s : Story). Ending b (Unit {0}) (checked_then accepts b done) s (story_of new)) (sym is) (ends_behind b (Unit {0}) (λ _. that) (checked_then accepts b done) (after working there) (story_of new) e)

    -- the check leaves it
    stands_behind : Ending b (Unit {0}) (checked_then accepts b done) done (story_of new) → IsThere (story_of new)
    stands_behind last =
        let G = Tame b (layout_of fuses_then.provision b).recovery_at (layout_of fuses_then.provision b).area_len in
        let tail : List Move = checked_then accepts b done in
        let good = ended_good b (Unit {0}) tail done (story_of new) G (tail_tame accepts b fuses_then done c.jobless) (λ which w story trouble. tt) last in
        subst IsThere (sym (ended_is b (Unit {0}) tail done (story_of new) last))
        (kept_by G IsThere (tame_keeps accepts b fuses_then capsule) (ended_trace b (Unit {0}) tail done (story_of new) last) done good c.standing)

    -- ---- where the image isn't called untrusted the check changes nothing
    abbrev NoneCalled : Type 0
    NoneCalled = (cause : ActiveFail) → ¬ IsNoted (added first new) (what.Untrusted b cause)

    called_noted : (cause : ActiveFail) (more : List Move) → Ending b (Unit {0}) (Says (λ _. what.Untrusted b cause) ∷ more) done (story_of new) → IsNoted (added first new) (what.Untrusted b cause)
    called_noted cause more e =
        let w : Counts → What = λ _. what.Untrusted b cause in
        let rest : Ending b (Unit {0}) more (noted w done) (story_of new) = ends_behind b (Unit {0}) w more done (story_of new) e in
        let trace : List Move = Says w ∷ ended_trace b (Unit {0}) more (noted w done) (story_of new) rest in
        let moves : List Move = job_moves accepts b fuses start capsule in
        make_noted (moves ++ trace) (ended_is b (Unit {0}) more (noted w done) (story_of new) rest ∙ sym (after-append moves trace there)) (what.Untrusted b cause)
        (inr (noted_next moves trace there (what.Untrusted b cause) (inl refl)))

    still_there : (moves : List Move) → AllSafe Still moves done → Ending b (Unit {0}) moves done (story_of new) → mine b (story_of new) ≡ mine b done
    still_there moves safe e = same_mine b done (story_of new) (same_pasts b (Unit {0}) moves done (story_of new) safe e)

    active_still : NoneCalled → (f : FusesState) (r : Result Manifest ActiveFail) → Ending b (Unit {0}) (Asks (device_of b) ∷ by_active accepts b f r done) done (story_of new) → mine b (story_of new) ≡ mine b done
    active_still none f (Ok m) e = still_there (Asks (device_of b) ∷ Says (what.Released b m.svn) ∷ []) (tt, (tt, tt)) e
    active_still none f (Err cause) e =
        let told_story : Story = noted (λ _. what.Untrusted b cause) done in
        let more : List Move = Asks (device_of b) ∷ by_recovery accepts b f cause (judged_recovery accepts b f told_story) told_story in
        elim (ends_parts b (Unit {0}) (Asks (device_of b) ∷ []) (Says (λ _. what.Untrusted b cause) ∷ more) done (story_of new) e) [
          | inl broken ↦ still_there (Asks (device_of b) ∷ []) (tt, tt) (inr broken)
          | inr told_so ↦ absurd (none cause (called_noted cause more told_so))
        ]

    tail_still : NoneCalled → (r : Result FusesState LockWhy) → Ending b (Unit {0}) (by_fuses accepts b r done) done (story_of new) → mine b (story_of new) ≡ mine b done
    tail_still none (Ok f) e = active_still none f (judged_active accepts b f done) e
    tail_still none (Err why) e = still_there (Says (what.Locked b why) ∷ []) (tt, tt) e

    replaced_so : IsNoted (added first new) that → NoneCalled → mine b (story_of new) ≡ recovery_rebuilt (mine b there) (layout_of fuses.provision b).staging_at capsule.length (layout_of fuses.provision b)
    replaced_so n none =
        let here : Ending b (Unit {0}) (working ++ (Says (λ _. that) ∷ checked_then accepts b done)) there (story_of new) =
        subst (λ (moves : List Move). Ending b (Unit {0}) moves there (story_of new)) (room_is capsule false staged free ∙ parts) behind in
        elim (ends_parts b (Unit {0}) working (Says (λ _. that) ∷ checked_then accepts b done) there (story_of new) here) [
          | inl broken ↦ absurd (untold broken n)
          | inr told ↦ tail_still none (ready_of b done) (tail_ends told) ∙ c.image
        ]

    stands : IsNoted (added first new) that → IsThere (story_of new)
    stands n =
        let here : Ending b (Unit {0}) (working ++ (Says (λ _. that) ∷ checked_then accepts b done)) there (story_of new) =
        subst (λ (moves : List Move). Ending b (Unit {0}) moves there (story_of new)) (room_is capsule false staged free ∙ parts) behind in
        elim (ends_parts b (Unit {0}) working (Says (λ _. that) ∷ checked_then accepts b done) there (story_of new) here) [
          | inl broken ↦ absurd (untold broken n)
          | inr told ↦ stands_behind (tail_ends told)
        ]

    abbrev IsRecoveredBy : List ℕ → List ℕ → List ℕ → Type 0
    IsRecoveredBy digest image nv = (r : HasGoodRecovery b image nv accepts) × (r.good.capsule.digest ≡ digest)

    recovered : IsNoted (added first new) that → IsRecoveredBy capsule.digest (now (state_at (device_of b) new)) (now new.nv)
    recovered n =
        let s = stands n in
        subst (λ (image : List ℕ). IsRecoveredBy capsule.digest image (now new.nv)) (image_in b new) (record { fuses = fuses_then; provisioned = s.says; good = s.good }, s.digest)

  -- ---- by the contents where it is held
  by_counts : (P : List ℕ → List ℕ → Type 0) → P (mine b there) (store there) → AtCounts P b (counts_in first) new
  by_counts P h =
      let p = precedes_moved first new moved in
      at_moment P b there (counts_in first) new refl (record { bmc = p.bmc; pch = p.pch; nv = p.nv }) h

  found_bad : (cause : CapsuleFail) → HasBadStaging cause b (mine b there) (store there) accepts → found ≡ Err cause
  found_bad cause h =
      subst (λ (f : FusesState). judged_staging accepts b f there ≡ Err cause) (fuses_one (store there) h.fuses fuses h.provisioned can.provisioned) h.judged

  staged_for : (same : Bool) (h : HasStagedFor same b (mine b there) (store there) accepts) → IsStagedFor accepts b fuses start same h.staged.good.capsule
  staged_for same h =
      let g = h.staged in
      let one : g.fuses ≡ fuses = fuses_one (store there) g.fuses fuses g.provisioned can.provisioned in
      let place : Layout = layout_of g.fuses.provision b in (
        subst (λ (f : FusesState). judged_staging accepts b f there ≡ Ok g.good.capsule) one
            (good_found (mine b there) (store there) place.staging_at place.area_len b accepts g.fuses (stand_for (store there) g.fuses b g.provisioned) g.good),
        subst (λ (f : FusesState). has_manifest g.good.capsule (judge_active (mine b there) b f accepts) ≡ same) one h.manifest,
      )

  -- a capsule that was staged is a good one
  abbrev IsStagedAs : Bool → CapsuleState → Type 0
  IsStagedAs same capsule = (h : HasStagedFor same b (mine b there) (store there) accepts) × (h.staged.good.capsule ≡ capsule)

  has_staged : (same : Bool) (capsule : CapsuleState) → IsStagedFor accepts b fuses start same capsule → IsStagedAs same capsule
  has_staged same capsule staged =
      let good = found_staged accepts b fuses capsule there can.provisioned can.layout can.bytes staged.0 in
      let alike : has_manifest good.0.capsule (judged_active accepts b fuses there) ≡ same =
      ap (λ (x : CapsuleState). has_manifest x (judged_active accepts b fuses there)) good.1 ∙ staged.1 in
      (record { staged = record { fuses = fuses; provisioned = can.provisioned; good = good.0 }; manifest = alike }, good.1)

  abbrev IsUpdatedFrom : ℕ → List ℕ → List ℕ → Type 0
  IsUpdatedFrom svn image nv =
      (s : HasStagedFor true b image nv accepts) × (svn ≡ s.staged.good.capsule.manifest.svn)
      × (r : HasGoodRecovery b (now (state_at (device_of b) new)) (now new.nv) accepts) × (r.good.capsule.digest ≡ s.staged.good.capsule.digest)

  updated_from : (svn : ℕ) → IsNoted (added first new) (what.RecoveryUpdated b svn) → IsUpdatedFrom svn (mine b there) (store there)
  updated_from svn n =
      let k = (known (what.RecoveryUpdated b svn) n).1 in
      let capsule : CapsuleState = k.0 in
      let s = has_staged true capsule k.1 in
      let same : capsule.manifest.svn ≡ svn = k.3 in
      let r = recovered capsule k.1 k.2 (subst (λ (x : ℕ). IsNoted (added first new) (what.RecoveryUpdated b x)) (sym same) n) in
      (s.0, sym same ∙ ap (λ (x : CapsuleState). x.manifest.svn) (sym s.1), r.0, r.1 ∙ ap (λ (x : CapsuleState). x.digest) (sym s.1))

  replaced_from : (svn : ℕ) → IsNoted (added first new) (what.RecoveryUpdated b svn) → ((cause : ActiveFail) → ¬ IsNoted (added first new) (what.Untrusted b cause))
      → IsCopiedFrom b (mine b there) (store there) accepts (now (state_at (device_of b) new))
  replaced_from svn n none =
      let k = (known (what.RecoveryUpdated b svn) n).1 in
      let capsule : CapsuleState = k.0 in
      let s = has_staged true capsule k.1 in
      let image = replaced_so capsule k.1 k.2 (subst (λ (x : ℕ). IsNoted (added first new) (what.RecoveryUpdated b x)) (sym k.3) n) none in
      let one : fuses ≡ s.0.staged.fuses = fuses_one (store there) fuses s.0.staged.fuses can.provisioned s.0.staged.provisioned in
      record {
        from = s.0;
        is = sym (image_in b new) ∙ image
            ∙ ap (λ (f : FusesState). recovery_rebuilt (mine b there) (layout_of f.provision b).staging_at capsule.length (layout_of f.provision b)) one
            ∙ ap (λ (x : CapsuleState). recovery_rebuilt (mine b there) (layout_of s.0.staged.fuses.provision b).staging_at x.length (layout_of s.0.staged.fuses.provision b)) (sym s.1);
      }

  abbrev IsSpentFor : Bool → List ℕ → List ℕ → Type 0
  IsSpentFor spent image nv = HasStagedFor true b image nv accepts × (is_spent nv b ≡ spent)

  updates_recovery : IsTrusted (mine b (story_of first)) (store (story_of first)) b accepts → ((cause : ActiveFail) → ¬ IsNoted (added first new) (what.Untrusted b cause))
      → UpdatesRecovery accepts b new (added first new) (counts_in first)
  updates_recovery t none = record {
    held = make_noted (ended_trace b (Unit {0}) (todo found) there (story_of new) behind) (ended_is b (Unit {0}) (todo found) there (story_of new) behind) (what.Held b (counts_in first)) (inl refl);
    bad = λ cause n. by_counts (λ image nv. HasBadStaging cause b image nv accepts) (record { fuses = fuses; provisioned = can.provisioned; judged = (known (what.Refused b (refusing.Capsule cause)) n).1 });
    refuses_bad = λ cause calm. by_counts (λ image nv. HasBadStaging cause b image nv accepts → IsNoted (added first new) (what.Refused b (refusing.Capsule cause))) (λ h. refuses_bad cause calm (found_bad cause h));
    differs = λ n. by_counts (λ image nv. HasStagedFor false b image nv accepts) (let k = (known (what.Refused b refusing.ManifestDiffers) n).1 in (has_staged false k.0 k.1).0);
    refuses_other = λ calm. by_counts (λ image nv. HasStagedFor false b image nv accepts → IsNoted (added first new) (what.Refused b refusing.ManifestDiffers))
        (λ h. refuses_other h.staged.good.capsule calm (staged_for false h));
    spent = λ n. by_counts (IsSpentFor true) (let k = (known (what.Refused b refusing.JobsSpent) n).1 in ((has_staged true k.0 k.1).0, k.2));
    refuses_spent = λ calm. by_counts (λ image nv. IsSpentFor true image nv → IsNoted (added first new) (what.Refused b refusing.JobsSpent))
        (λ h. refuses_spent h.0.staged.good.capsule calm (staged_for true h.0) h.1);
    updated = λ svn n. by_counts (IsUpdatedFrom svn) (updated_from svn n);
    replaced = λ svn n. by_counts (λ image nv. IsCopiedFrom b image nv accepts (now (state_at (device_of b) new))) (replaced_from svn n none);
    updates = λ calm. by_counts (λ image nv. (h : IsSpentFor false image nv) → IsNoted (added first new) (what.RecoveryUpdated b h.0.staged.good.capsule.manifest.svn))
        (λ h. updates_so h.0.staged.good.capsule calm (staged_for true h.0) h.1);
    writes_nothing = λ why n. writes_nothing t why n;
  }

  -- its job isn't given up
  gives_none_up : (c : Bank) → ¬ IsNoted (added first new) (what.Abandoned c)
  gives_none_up c n = (known (what.Abandoned c) n).1

-- ---- a whole step
module _ (accepts : Acceptance) (b : Bank) (old new : World) where
  abbrev first : World
  first = begun (event.Update b intent.Recovery) old

  updates_by : HaveBytes new → IsBankSize (length (mine b (story_of first))) → IsSized (story_of first) → IsTrusted (mine b (story_of first)) (store (story_of first)) b accepts
      → open_job (store (story_of first)) b ≡ job.None → IsSettled (store (story_of first)) → Follows (update_course accepts b intent.Recovery) first new → ((cause : ActiveFail) → ¬ IsNoted (added old new) (what.Untrusted b cause))
      → UpdatesRecovery accepts b new (added old new) (counts_in old) × ((c : Bank) → ¬ IsNoted (added old new) (what.Abandoned c))
  updates_by have size sized t idle settled f none =
      let moved : AllMoved first new = follows_moved (update_course accepts b intent.Recovery) first new f in
      let ending = single_ends (update_stretch accepts b intent.Recovery) b (Unit {0}) (λ d. refl) tt first new f in
      let ready : IsReady b t.fuses (noted (what.Held b) (story_of first)) = ready_noted b t.fuses (what.Held b) (story_of first) (trusted_ready accepts b (story_of first) t) in
      let can : CanWork b t.fuses (noted (what.Held b) (story_of first)) = can_there accepts b first new t moved have size sized settled in
      (updates_recovery accepts b t.fuses first new ready can idle ending moved t none, gives_none_up accepts b t.fuses first new ready can idle ending moved)

  update_turn : Turn accepts (event.Update b intent.Recovery) old new → HaveBytes new → IsBankSize (size_of old.bmc) → IsBankSize (size_of old.pch) → size_of old.nv ≡ 32768
      → TrustedRunning accepts old → RunningHasNoJob old → ((which : Bank) → Runs which old → IsSettled (now old.nv)) → Runs b old → UpdatesRecovery accepts b new (added old new) (counts_in old) × ((c : Bank) → ¬ IsNoted (added old new) (what.Abandoned c))
  update_turn t have bmc pch nv trusted idle settled runs =
      let e : Event = event.Update b intent.Recovery in
      elim (Turn-cases accepts e old new t) [
        | inl none ↦ absurd (takes (standing_of b old.notes.list) runs none.0)
        | inr on ↦ updates_by have (sized_here e old bmc pch b) (length-play old.nv.start old.nv.ops ∙ nv) (trusted_here accepts e old trusted b runs) (idle b runs) (settled b runs) on.1
            ((Turn-judges accepts e old new t have bmc pch nv trusted idle settled (λ power. power) (λ cert. cert)).trusted b)
      ]

-- An update of the recovery area of a bank that runs is judged before anything is written.
pub Turn-updates_recovery : (accepts : Acceptance) (e : Event) (old new : World) → Turn accepts e old new → HaveBytes new → IsBankSize (size_of old.bmc) → IsBankSize (size_of old.pch)
    → size_of old.nv ≡ 32768 → TrustedRunning accepts old → RunningHasNoJob old → ((which : Bank) → Runs which old → IsSettled (now old.nv)) → RecoveryUpdates e accepts old new
Turn-updates_recovery accepts (event.Update b intent.Recovery) old new t have bmc pch nv trusted idle settled = λ runs. (update_turn accepts b old new t have bmc pch nv trusted idle settled runs).0
Turn-updates_recovery accepts e old new t have bmc pch nv trusted idle settled = tt

-- And its job isn't given up.
pub Turn-gives_none_up : (accepts : Acceptance) (b : Bank) (how : Intent) (old new : World) → Turn accepts (event.Update b how) old new → HaveBytes new → IsBankSize (size_of old.bmc) → IsBankSize (size_of old.pch)
    → size_of old.nv ≡ 32768 → TrustedRunning accepts old → RunningHasNoJob old → ((which : Bank) → Runs which old → IsSettled (now old.nv)) → Runs b old → how ≡ intent.Recovery
    → (c : Bank) → ¬ IsNoted (added old new) (what.Abandoned c)
Turn-gives_none_up accepts b intent.Recovery old new t have bmc pch nv trusted idle settled runs e = (update_turn accepts b old new t have bmc pch nv trusted idle settled runs).1
Turn-gives_none_up accepts b intent.Active old new t have bmc pch nv trusted idle settled runs e = absurd cc
Turn-gives_none_up accepts b intent.Full old new t have bmc pch nv trusted idle settled runs e = absurd cc
Turn-gives_none_up accepts b intent.Cert old new t have bmc pch nv trusted idle settled runs e = absurd cc
