-- What a job on the recovery area that is taken up at a power-on leaves: the capsule of the job stands there, and its version is noted.
use Rattle.std.proofs.Common.{◌≡◌, ◌∙◌, refl, sym, ap, subst, ℕ, Bool, true, false, List, [], ◌∷◌, ◌++◌, append_assoc, ◌⊎◌, inl, inr, Result, Ok, Err}
use Rattle.std.specs.Cmp.Lexicographic.{same_text}
use Rattle.pfr_flash.specs.FlashState.{now, size_of}
use Rattle.pfr_flash.specs.Layout.{IsBankSize}
use Rattle.pfr_flash.specs.declared.names.Bank.{Bank}
use Rattle.pfr_flash.specs.declared.names.Bank.TheVariants as bank
use Rattle.pfr_flash.specs.declared.names.Counts.{Counts}
use Rattle.pfr_flash.specs.declared.names.Device.{Device}
use Rattle.pfr_flash.specs.declared.names.Device.TheVariants as device
use Rattle.pfr_engine.specs.Acceptance.{Acceptance}
use Rattle.pfr_fuses.specs.Changes.{raised}
use Rattle.pfr_fuses.specs.FuseMap.{profile_of}
use Rattle.pfr_fuses.specs.FusesState.{FusesState}
use Rattle.pfr_fuses.specs.RootSlot.{layout_of}
use Rattle.pfr_fuses.specs.declared.profile.Profile.TheVariants.{Two}
use Rattle.pfr_capsule.specs.CapsuleState.{CapsuleState}
use Rattle.pfr_capsule.specs.declared.fail.CapsuleFail.{CapsuleFail}
use Rattle.pfr_auth.specs.Areas.{judge_area}
use Rattle.pfr_jobs.specs.Log.{open_job}
use Rattle.pfr_jobs.specs.declared.job.JobKind.{JobKind}
use Rattle.pfr_jobs.specs.declared.job.JobKind.TheVariants.{ActiveFromRecovery, ActiveFromStaging, RecoveryFromStaging}
use Rattle.pfr_jobs.specs.declared.job.OpenJob.{OpenJob}
use Rattle.pfr_jobs.specs.declared.job.OpenJob.TheVariants as job
use Rattle.pfr_recoverable.specs.Recoverable.{HasGoodRecovery}
use Rattle.pfr_report.specs.Texts.{IsNoted}
use Rattle.pfr_report.specs.declared.note.LockWhy.{LockWhy}
use Rattle.pfr_report.specs.declared.note.Note.{Note}
use Rattle.pfr_report.specs.declared.note.What.{What}
use Rattle.pfr_report.specs.declared.note.What.TheVariants as what
use Rattle.pfr_story.specs.Causes.{IsResumable}
use Rattle.pfr_story.specs.JobContents.{CanWork}
use Rattle.pfr_story.specs.JobPlans.{job_notes, source_of, judged_source, same_digest, abandoned, recovery_work, resumed_if, by_source, by_open}
use Rattle.pfr_story.specs.Plans.{mine, store, ready_of, by_ready, checked_then}
use Rattle.pfr_story.specs.Promises.{AtCounts}
use Rattle.pfr_story.specs.Safety.{AllMake}
use Rattle.pfr_story.specs.Story.{Past, Story, Move, Says, Does, Asks, after, noted, image_of, past_at, device_of}
use Rattle.pfr_story.specs.World.{World, story_of, state_at, added}
use Rattle.pfr_story.proofs.Bytes.{HaveBytes}
use Rattle.pfr_story.proofs.Endings.{IsTrouble, IsBroken, Ending, ended_trace, ended_is, ended_good, ends_behind, ends_parts}
use Rattle.pfr_story.proofs.FuseLaws.{profile_kept}
use Rattle.pfr_story.proofs.JobFront.{NoNote}
use Rattle.pfr_story.proofs.JobMakes.{abandoned_makes, done_makes}
use Rattle.pfr_story.proofs.JobRecoveryWork.{recovery_work_ends}
use Rattle.pfr_story.proofs.JobReleases.{holds_jobs}
use Rattle.pfr_story.proofs.JobResumed.{held_noted}
use Rattle.pfr_story.proofs.JobSafety.{IsJobless}
use Rattle.pfr_story.proofs.JobSafetyRaise.{raised_provision}
use Rattle.pfr_story.proofs.JobSafetyRecovery.{staged_from, recovery_work_leads}
use Rattle.pfr_story.proofs.Made.{said, said_append, notes_after, Whichever, AllSay, said_all, only_between}
use Rattle.pfr_story.proofs.OtherStands.{IsThereBy}
use Rattle.pfr_story.proofs.RecoveryTail.{Tame, IsStanding, tame_keeps, tail_tame}
use Rattle.pfr_story.proofs.RecoveryTold.{work_told, told_stands}
use Rattle.pfr_story.proofs.SafetyLaws.{image_noted, kept_by}
use Rattle.pfr_story.proofs.Sequence.{after-append}
use Rattle.pfr_story.proofs.TailLaws.{Apart}
use Rattle.pfr_story.proofs.TakenLaws.{CanTake, taken_by, taken, checked_at, ready_parts, can_work}
use Rattle.pfr_story.proofs.TakenNotes.{behind_of, resumable, staged_of}
use Rattle.pfr_story.proofs.TakesUpLaws.{Begun, cut_said, own_noted, by_held, can as can_take}
use Rattle.pfr_story.proofs.Traces.{noted_append}

-- ---- what is noted of an update of the recovery area
abbrev IsNoUpdate : What → Type 0
IsNoUpdate (what.RecoveryUpdated b svn) = ⊥
IsNoUpdate that = Unit {0}

quiet_moves : (D : Device → Type 0) (moves : List Move) → AllMake D NoNote moves → AllSay IsNoUpdate moves
quiet_moves D [] all = tt
quiet_moves D (Says w ∷ moves) all = absurd all.0
quiet_moves D (Does which op ∷ moves) all = (tt, quiet_moves D moves all.1)
quiet_moves D (Asks which ∷ moves) all = (tt, quiet_moves D moves all.1)

module _ (accepts : Acceptance) (b : Bank) where
  -- a job on the recovery area, by its moves: at their end the version of the capsule is noted which stands there then
  record IsRenewing (digest : List ℕ) (moves : List Move) (story : Story) : Type 0 where
    found : CapsuleState
    named : found.digest ≡ digest
    front : List Move
    is : moves ≡ front ++ Says (λ _. what.RecoveryUpdated b found.manifest.svn) ∷ []
    quiet : AllSay IsNoUpdate front
    fuses : FusesState
    jobless : IsJobless b fuses (after moves story)
    standing : IsStanding accepts b fuses found (after moves story)

  behind_first : (first : Move) (digest : List ℕ) (moves : List Move) (story : Story) → AllSay IsNoUpdate (first ∷ []) → IsRenewing digest moves (after (first ∷ []) story) → IsRenewing digest (first ∷ moves) story
  behind_first (Says w) digest moves story q k = record {
    found = k.found;
    named = k.named;
    front = Says w ∷ k.front;
    is = ap (λ (ms : List Move). Says w ∷ ms) k.is;
    quiet = (q.0, k.quiet);
    fuses = k.fuses;
    jobless = k.jobless;
    standing = k.standing;
  }
  behind_first (Does which op) digest moves story q k = record {
    found = k.found;
    named = k.named;
    front = Does which op ∷ k.front;
    is = ap (λ (ms : List Move). Does which op ∷ ms) k.is;
    quiet = (q.0, k.quiet);
    fuses = k.fuses;
    jobless = k.jobless;
    standing = k.standing;
  }
  behind_first (Asks which) digest moves story q k = record {
    found = k.found;
    named = k.named;
    front = Asks which ∷ k.front;
    is = ap (λ (ms : List Move). Asks which ∷ ms) k.is;
    quiet = (q.0, k.quiet);
    fuses = k.fuses;
    jobless = k.jobless;
    standing = k.standing;
  }

  abbrev told : ℕ → What
  told svn = what.RecoveryUpdated b svn

  work_renews : (fuses : FusesState) (capsule : CapsuleState) (story : Story) → CanWork b fuses story → judged_source accepts b fuses RecoveryFromStaging story ≡ Ok capsule
      → open_job (store story) b ≡ job.Job RecoveryFromStaging capsule.digest → IsRenewing capsule.digest (recovery_work (what.Abandoned b) (λ svn. what.RecoveryUpdated b svn) accepts b fuses capsule story) story
  work_renews fuses capsule story h j opened =
      let moves : List Move = recovery_work (what.Abandoned b) told accepts b fuses capsule story in
      let staged = staged_of accepts b fuses capsule story h j in
      let t = work_told (what.Abandoned b) told accepts b fuses capsule story staged in
      let u = recovery_work_ends (what.Abandoned b) told accepts b fuses h.two capsule story staged (λ e. absurd (let never : job.None ≡ job.Job RecoveryFromStaging capsule.digest = sym e ∙ opened in cc)) in
      let ends = (recovery_work_leads accepts b fuses (what.Abandoned b) told capsule).ends story (staged_from accepts b fuses capsule story (holds_jobs b fuses story h) j opened) in
      let one : t.found ≡ u.found = let both : Ok t.found ≡ Ok u.found = sym t.judged ∙ u.judged in cc in
      record {
        found = t.found;
        named = ap (λ (c : CapsuleState). c.digest) one ∙ u.digest;
        front = t.front;
        is = t.is;
        quiet = quiet_moves _ t.front t.quiet;
        fuses = raised fuses b ends.svn;
        jobless = ends.jobless;
        standing = told_stands (what.Abandoned b) told accepts b fuses capsule moves story t (raised fuses b ends.svn) ends.jobless (raised_provision fuses b ends.svn) u.good;
      }

  -- ---- whichever job is open
  abbrev CanRenew : Story → Type 0
  CanRenew story = IsResumable RecoveryFromStaging b (mine b story) (store story) accepts

  -- such a job was taken up, or nothing of the kind is noted
  abbrev Cases : List Move → Story → Type 0
  Cases moves story = ((r : IsResumable RecoveryFromStaging b (mine b story) (store story) accepts) × IsRenewing r.good.capsule.digest moves story) ⊎ AllSay IsNoUpdate moves

  asks_cases : (which : Device) (moves : List Move) (story : Story) → Cases moves story → Cases (Asks which ∷ moves) story
  asks_cases which moves story (inl k) = inl (k.0, behind_first (Asks which) k.0.good.capsule.digest moves story (tt, tt) k.1)
  asks_cases which moves story (inr none) = inr (tt, none)

  given_cases : (story : Story) → Cases (abandoned (what.Abandoned b) b story) story
  given_cases story = inr (abandoned_makes Whichever (λ w. (at : Counts) → IsNoUpdate (w at)) b tt tt (what.Abandoned b) story (λ at. tt))

  module _ (fuses : FusesState) (story : Story) (h : CanWork b fuses story) where
    renews : (capsule : CapsuleState) (digest : List ℕ) → judged_source accepts b fuses RecoveryFromStaging story ≡ Ok capsule → open_job (store story) b ≡ job.Job RecoveryFromStaging digest → capsule.digest ≡ digest
        → Cases (resumed_if true (job_notes b) accepts b fuses capsule RecoveryFromStaging story) story
    renews capsule digest j opened same =
        let w : Counts → What = λ _. what.Resumed b RecoveryFromStaging in
        let there : Story = noted w story in
        let moves : List Move = recovery_work (what.Abandoned b) told accepts b fuses capsule there in
        let r : CanRenew story = resumable accepts b fuses RecoveryFromStaging capsule digest story h j opened same in
        let k : IsRenewing capsule.digest moves there =
        work_renews fuses capsule there (held_noted b fuses w story h) (ap (λ (image : List ℕ). judge_area (source_of RecoveryFromStaging) b image fuses accepts) (image_noted (device_of b) w story) ∙ j)
        (opened ∙ ap (λ (d : List ℕ). job.Job RecoveryFromStaging d) (sym same)) in
        let both : job.Job RecoveryFromStaging digest ≡ job.Job RecoveryFromStaging r.good.capsule.digest = sym opened ∙ r.opened in
        let named : digest ≡ r.good.capsule.digest = cc in
        inl (r, behind_first (Says w) r.good.capsule.digest moves story ((λ at. tt), tt) (subst (λ (d : List ℕ). IsRenewing d moves there) (same ∙ named) k))

    if_cases : (t : Bool) (capsule : CapsuleState) (kind : JobKind) (digest : List ℕ) → same_digest capsule.digest digest ≡ t → judged_source accepts b fuses kind story ≡ Ok capsule
        → open_job (store story) b ≡ job.Job kind digest → Cases (resumed_if t (job_notes b) accepts b fuses capsule kind story) story
    if_cases false capsule kind digest e j opened = given_cases story
    if_cases true capsule (ActiveFromRecovery level) digest e j opened =
        inr ((λ at. tt), done_makes Whichever (λ w. (at : Counts) → IsNoUpdate (w at)) b tt tt (ActiveFromRecovery level) fuses capsule (what.Restored b level) (λ at. tt) (noted (λ _. what.Resumed b (ActiveFromRecovery level)) story))
    if_cases true capsule (ActiveFromStaging dynamic) digest e j opened =
        inr ((λ at. tt), done_makes Whichever (λ w. (at : Counts) → IsNoUpdate (w at)) b tt tt (ActiveFromStaging dynamic) fuses capsule (what.Updated b dynamic capsule.manifest.svn) (λ at. tt) (noted (λ _. what.Resumed b (ActiveFromStaging dynamic)) story))
    if_cases true capsule RecoveryFromStaging digest e j opened = renews capsule digest j opened (same_text capsule.digest digest (sym e))

    source_cases : (kind : JobKind) (digest : List ℕ) (judged : Result CapsuleState CapsuleFail) → judged_source accepts b fuses kind story ≡ judged → open_job (store story) b ≡ job.Job kind digest
        → Cases (by_source (job_notes b) accepts b fuses kind digest judged story) story
    source_cases kind digest (Ok capsule) j opened = if_cases (same_digest capsule.digest digest) capsule kind digest refl j opened
    source_cases kind digest (Err cause) j opened = given_cases story

    open_cases : (opened : OpenJob) → open_job (store story) b ≡ opened → Cases (by_open (job_notes b) accepts b fuses opened story) story
    open_cases job.None e = inr tt
    open_cases job.Bad e = given_cases story
    open_cases (job.Job kind digest) e =
        asks_cases (device_of b) (by_source (job_notes b) accepts b fuses kind digest (judged_source accepts b fuses kind story) story) story (source_cases kind digest (judged_source accepts b fuses kind story) refl e)

  ready_cases : (r : Result FusesState LockWhy) (story : Story) → CanTake b story → ready_of b story ≡ r → Cases (taken_by accepts b r story) story
  ready_cases (Ok fuses) story can e =
      asks_cases device.Nv (by_open (job_notes b) accepts b fuses (open_job (store story) b) story) story (open_cases fuses story (can_work accepts b fuses story can e) (open_job (store story) b) refl)
  ready_cases (Err why) story can e = inr tt

  taken_cases : (story : Story) → CanTake b story → Cases (taken accepts b story) story
  taken_cases story can = ready_cases (ready_of b story) story can refl

-- ---- notes at a call that failed are of no update
trouble_apart : (b : Bank) (which : Device) (w : Counts → What) (at : Counts) (svn : ℕ) → IsTrouble b (Unit {0}) which w → ¬ (w at ≡ what.RecoveryUpdated b svn)
trouble_apart b which w at svn (inl e) same = let is = ap (λ (v : Counts → What). v at) e in absurd cc
trouble_apart b which w at svn (inr (e, known)) same = let is = ap (λ (v : Counts → What). v at) e in absurd cc

image_in : (b : Bank) (w : World) → mine b (story_of w) ≡ now (state_at (device_of b) w)
image_in bank.Bmc w = refl
image_in bank.Pch w = refl

mine_past : (b : Bank) (one other : Story) → past_at (device_of b) one ≡ past_at (device_of b) other → mine b one ≡ mine b other
mine_past b one other e = ap (λ (past : Past). image_of past) e

-- what stands in the recovery area at the end
abbrev pub IsRenewedFrom : (accepts : Acceptance) (which : Bank) (new : World) (svn : ℕ) (image nv : List ℕ) → Type 0
IsRenewedFrom accepts which new svn image nv =
    (r : IsResumable RecoveryFromStaging which image nv accepts) × (g : HasGoodRecovery which (now (state_at (device_of which) new)) (now new.nv) accepts)
    × (svn ≡ g.good.capsule.manifest.svn) × (g.good.capsule.digest ≡ r.good.capsule.digest)

module _ (accepts : Acceptance) (first new : World) (have : HaveBytes new) (which : Bank) (bank_size : IsBankSize (size_of (state_at (device_of which) new))) (c : Begun accepts first new which) where
  abbrev held : Story
  held = noted (what.Held which) (story_of c.at)

  abbrev end : Story
  end = story_of c.end

  abbrev tail : List Move
  tail = checked_then accepts which (checked_at accepts which held)

  can : CanTake which held
  can = can_take accepts first new have which bank_size c

  -- how its part ended behind Held
  ending : Ending which (Unit {0}) (Asks device.Nv ∷ (taken accepts which held ++ tail)) held end
  ending =
      subst (λ (moves : List Move). Ending which (Unit {0}) (Asks device.Nv ∷ moves) held end) (ready_parts accepts which held)
      (ends_behind which (Unit {0}) (what.Held which) (Asks device.Nv ∷ by_ready accepts which (ready_of which held) held) (story_of c.at) end c.ended)

  -- what was noted by then
  noted_in : (trace : List Move) → end ≡ after trace held → (svn : ℕ) → IsNoted (added first new) (what.RecoveryUpdated which svn) → IsNoted (said trace held) (what.RecoveryUpdated which svn)
  noted_in trace is svn n =
      let that : What = what.RecoveryUpdated which svn in
      let whole : List Move = Says (what.Held which) ∷ trace in
      let notes_is : c.end.notes.list ≡ c.at.notes.list ++ said whole (story_of c.at) = ap (λ (s : Story). s.notes) is ∙ notes_after whole (story_of c.at) in
      elim (only_between (Apart which) (Apart which) first c.at c.end new (said whole (story_of c.at)) c.before notes_is c.behind that (λ apart. apart refl) (λ apart. apart refl) n) [
        | inl e ↦ absurd cc
        | inr m ↦ m
      ]

  module _ (svn : ℕ) (n : IsNoted (added first new) (what.RecoveryUpdated which svn)) where
    abbrev that : What
    that = what.RecoveryUpdated which svn

    -- it was noted of the work on the job
    noted_taken : IsNoted (said (taken accepts which held) held) (what.RecoveryUpdated which svn)
    noted_taken = elim (own_noted accepts first new have which bank_size c that refl (λ e. e) n) [
      | inl e ↦ absurd cc
      | inr (inl m) ↦ m
      | inr (inr m) ↦ absurd (behind_of accepts which (checked_at accepts which held) that m)
    ]

    module _ (digest : List ℕ) (k : IsRenewing accepts which digest (taken accepts which held) held) where
      abbrev last : What
      last = what.RecoveryUpdated which k.found.manifest.svn

      same_svn : svn ≡ k.found.manifest.svn
      same_svn =
          let is : said (taken accepts which held) held ≡ said k.front held ++ said (Says (λ _. last) ∷ []) (after k.front held) =
          ap (λ (moves : List Move). said moves held) k.is ∙ said_append k.front (Says (λ _. last) ∷ []) held in
          elim (noted_append (said k.front held) (said (Says (λ _. last) ∷ []) (after k.front held)) that (subst (λ (notes : List Note). IsNoted notes that) is noted_taken)) [
            | inl m ↦ absurd (said_all IsNoUpdate k.front held k.quiet that m)
            | inr (inl e) ↦ cc
            | inr (inr m) ↦ absurd m
          ]

      -- before the note
      abbrev working : List Move
      working = Asks device.Nv ∷ k.front

      parts : Asks device.Nv ∷ (taken accepts which held ++ tail) ≡ working ++ (Says (λ _. last) ∷ tail)
      parts =
          ap (λ (moves : List Move). Asks device.Nv ∷ moves)
          (ap (λ (moves : List Move). moves ++ tail) k.is ∙ append_assoc k.front (Says (λ _. last) ∷ []) tail)

      untold : ¬ IsBroken which (Unit {0}) working held end
      untold p =
          let trace : List Move = p.trace ++ Says p.last ∷ [] in
          let there : Story = after p.trace held in
          let m : IsNoted (said trace held) that = noted_in trace (ended_is which (Unit {0}) working held end (inr p)) svn n in
          elim (noted_append (said p.trace held) (said (Says p.last ∷ []) there) that (subst (λ (notes : List Note). IsNoted notes that) (said_append p.trace (Says p.last ∷ []) held) m)) [
            | inl k_front ↦ said_all IsNoUpdate k.front held k.quiet that (cut_said p.which working p.trace held p.cut that k_front)
            | inr (inl e) ↦ trouble_apart which p.which p.last _ svn p.trouble e
            | inr (inr none) ↦ none
          ]

      abbrev IsThere : Story → Type 0
      IsThere story = IsStanding accepts which k.fuses k.found story

      -- the check leaves it
      stands_behind : Ending which (Unit {0}) (Says (λ _. last) ∷ tail) (after working held) end → IsThere end
      stands_behind e =
          let G = Tame which (layout_of k.fuses.provision which).recovery_at (layout_of k.fuses.provision which).area_len in
          let done : Story = checked_at accepts which held in
          let is : done ≡ noted (λ _. last) (after k.front held) = ap (λ (moves : List Move). after moves held) k.is ∙ after-append k.front (Says (λ _. last) ∷ []) held in
          let rest : Ending which (Unit {0}) tail done end =
          subst (λ (s : Story). Ending which (Unit {0}) tail s end) (sym is) (ends_behind which (Unit {0}) (λ _. last) tail (after working held) end e) in
          let good = ended_good which (Unit {0}) tail done end G (tail_tame accepts which k.fuses done k.jobless) (λ d w story trouble. tt) rest in
          subst IsThere (sym (ended_is which (Unit {0}) tail done end rest))
          (kept_by G IsThere (tame_keeps accepts which k.fuses k.found) (ended_trace which (Unit {0}) tail done end rest) done good k.standing)

      stands : IsThere end
      stands = elim (ends_parts which (Unit {0}) working (Says (λ _. last) ∷ tail) held end (subst (λ (moves : List Move). Ending which (Unit {0}) moves held end) parts ending)) [
        | inl broken ↦ absurd (untold broken)
        | inr told_so ↦ stands_behind told_so
      ]

      -- and so does the other bank's part
      there_then : IsThereBy accepts which (mine which end) k.found (store end)
      there_then =
          let s = stands in
          let done : Story = checked_at accepts which held in
          let two : profile_of (store end) ≡ Two =
          sym (profile_kept (store end) k.fuses s.says) ∙ profile_kept (store done) k.fuses k.jobless.holds.provisioned ∙ k.jobless.holds.two in
          record { two = two; area = record { fuses = k.fuses; provisioned = s.says; good = s.good }; digest = s.digest; manifest = s.manifest }

      at_end : IsThereBy accepts which (now (state_at (device_of which) new)) k.found (now new.nv)
      at_end =
          let image : mine which end ≡ now (state_at (device_of which) new) = sym (mine_past which (story_of new) end c.same) ∙ image_in which new in
          subst (λ (bytes : List ℕ). IsThereBy accepts which bytes k.found (now new.nv)) image
          (c.left (mine which end) k.found there_then)

      renewed_so : (g : HasGoodRecovery which (now (state_at (device_of which) new)) (now new.nv) accepts) × (svn ≡ g.good.capsule.manifest.svn) × (g.good.capsule.digest ≡ digest)
      renewed_so = let s = at_end in (s.area, same_svn ∙ sym (ap (λ m. m.svn) s.manifest), s.digest ∙ k.named)

    -- the job that was open
    renewed_held : IsRenewedFrom accepts which new svn (mine which held) (store held)
    renewed_held = elim (taken_cases accepts which held can) [
      | inl k ↦ let s = renewed_so k.0.good.capsule.digest k.1 in (k.0, s.0, s.1, s.2)
      | inr none ↦ absurd (said_all IsNoUpdate (taken accepts which held) held none (what.RecoveryUpdated which svn) noted_taken)
    ]

  pub renewed_at : (at : Counts) → IsNoted (added first new) (what.Held which at) → (svn : ℕ) → IsNoted (added first new) (what.RecoveryUpdated which svn) → AtCounts (IsRenewedFrom accepts which new svn) which at new
  renewed_at at h svn n = by_held accepts first new have which bank_size c (IsRenewedFrom accepts which new svn) at h (renewed_held svn n)
