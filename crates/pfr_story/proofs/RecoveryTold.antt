-- A job on the recovery area tells nothing before its end; then it tells the version of the staged capsule, which stands in the recovery
-- area.
use Rattle.std.proofs.Common.{◌≡◌, ◌∙◌, refl, sym, ap, subst, arith, ℕ, ◌+◌, ◌-◌, Bool, true, false, min, List, [], ◌∷◌, ◌++◌, length, append_assoc, inl, inr, Result, Ok, Err}
use Rattle.sha2.specs.Sha256.{sha256}
use Rattle.pfr_flash.specs.Bytes.{bytes_at}
use Rattle.pfr_flash.specs.Names.{manifest_type}
use Rattle.pfr_flash.specs.Numbers.{number_at}
use Rattle.pfr_flash.specs.Operation.{Operation}
use Rattle.pfr_flash.specs.declared.layout.Layout.{Layout}
use Rattle.pfr_flash.specs.declared.names.Bank.{Bank}
use Rattle.pfr_flash.specs.declared.names.ContentType.{ContentType}
use Rattle.pfr_flash.specs.declared.names.Device.TheVariants as device
use Rattle.pfr_engine.specs.Acceptance.{Acceptance}
use Rattle.pfr_chain.specs.Block.{magic_of_block0, block_length, head_at}
use Rattle.pfr_chain.specs.Chain.{IsChain}
use Rattle.pfr_chain.specs.declared.form.Form.{Form}
use Rattle.pfr_chain.specs.declared.form.Form.TheVariants as form
use Rattle.pfr_chain.specs.declared.judging.Chain.{Chain}
use Rattle.pfr_fuses.specs.Changes.{raise_plan, raised}
use Rattle.pfr_fuses.specs.FusesOf.{fuses_of}
use Rattle.pfr_fuses.specs.FusesState.{FusesState, floor_of, row_of}
use Rattle.pfr_fuses.specs.RootSlot.{layout_of}
use Rattle.pfr_fuses.specs.declared.root_slot.RootSlot.{RootSlot}
use Rattle.pfr_manifest.specs.Manifest.{IsManifestOf}
use Rattle.pfr_manifest.specs.declared.manifest.Manifest.{Manifest}
use Rattle.pfr_manifest.proofs.FindingLaw.{manifest_is_one}
use Rattle.pfr_capsule.specs.CapsuleState.{CapsuleState}
use Rattle.pfr_capsule.specs.Good.{IsGood}
use Rattle.pfr_capsule.specs.Signed.{end_of}
use Rattle.pfr_capsule.specs.declared.fail.CapsuleFail.{CapsuleFail}
use Rattle.pfr_auth.specs.Areas.{judge_area}
use Rattle.pfr_auth.specs.declared.areas.Area.TheVariants.{Recovery}
use Rattle.pfr_jobs.specs.Log.{open_job}
use Rattle.pfr_jobs.specs.LogPlans.{begin_plan, finish_plan}
use Rattle.pfr_jobs.specs.LogState.{is_spent}
use Rattle.pfr_jobs.specs.declared.job.JobKind.TheVariants.{RecoveryFromStaging}
use Rattle.pfr_jobs.specs.declared.job.OpenJob.TheVariants as job
use Rattle.pfr_jobs.proofs.SlotLaw.{IsDigest}
use Rattle.pfr_rebuilt.specs.Copying.{recovery_rebuilt}
use Rattle.pfr_rebuilt.specs.Passing.{recovery_heeding, recovery_ignoring}
use Rattle.pfr_recoverable.specs.Recoverable.{HasGoodRecovery}
use Rattle.pfr_recoverable.proofs.StaysLaw.{fuses_one}
use Rattle.pfr_report.specs.declared.note.What.{What}
use Rattle.pfr_story.specs.JobContents.{CanWork}
use Rattle.pfr_story.specs.JobPlans.{begun_job, finished_job, copied_over, copied_again, raised_to, concluded, by_second_pass, second_pass, same_digest, by_digest, by_first_pass, recovery_work, recovery_job}
use Rattle.pfr_story.specs.Plans.{mine, store, asks, judged_staging, judged_recovery}
use Rattle.pfr_story.specs.Safety.{AllMake}
use Rattle.pfr_story.specs.Story.{Story, Move, Says, after, called}
use Rattle.pfr_story.proofs.BringRules.{IsOwn}
use Rattle.pfr_story.proofs.JobContentsLaws.{source_made, given_up_bank}
use Rattle.pfr_story.proofs.JobFresh.{takes_job}
use Rattle.pfr_story.proofs.JobFront.{NoNote}
use Rattle.pfr_story.proofs.JobMakes.{deeds_make}
use Rattle.pfr_story.proofs.JobPages.{IsSameCapsule}
use Rattle.pfr_story.proofs.JobRecovery.{IsStaged, first_staged, second_stands, second_staged, IsCopied, second_good}
use Rattle.pfr_story.proofs.JobRecoveryBegun.{staged_still, IsRecoveryDone, recovery_job_ends}
use Rattle.pfr_story.proofs.JobReleases.{holds_jobs}
use Rattle.pfr_story.proofs.JobRestores.{made_digest}
use Rattle.pfr_story.proofs.JobSafety.{IsJobless}
use Rattle.pfr_story.proofs.JobSafetyLaws.{recovery_job_ends as replaces}
use Rattle.pfr_story.proofs.JobSafetyRecovery.{IsReplaced}
use Rattle.pfr_story.proofs.JobSafetyRaise.{raised_provision}
use Rattle.pfr_story.proofs.JobSteps.{bank_called, begun_stands}
use Rattle.pfr_story.proofs.RecoveryTail.{IsStanding, standing_as}
use Rattle.pfr_story.proofs.RestoreLaws.{found_good, found_staged}
use Rattle.pfr_story.proofs.SafetyLaws.{AllMake-append, AllMake-called}
use Rattle.pfr_story.proofs.Sequence.{after-append}

-- ---- a good capsule's digest is said by the bytes alone
one_form : (number : ℕ) (one other : Form) → number ≡ magic_of_block0 one → number ≡ magic_of_block0 other → one ≡ other
one_form number form.One form.One p q = refl
one_form number form.Two form.Two p q = refl
one_form number form.One form.Two p q = absurd (omega (arith, p, q))
one_form number form.Two form.One p q = absurd (omega (arith, p, q))

one_content : (image : List ℕ) (place len count : ℕ) (type other : ContentType) (root row key line : List ℕ) (accepts : Acceptance) (x y : Chain) → IsChain image place len type root row accepts x → IsChain image place count other key line accepts y
    → (x.content_at ≡ y.content_at) × (x.length ≡ y.length)
one_content image place len count type other root row key line accepts x y p q =
    let forms : p.block.form ≡ q.block.form = one_form (number_at (head_at image place) 0) p.block.form q.block.form p.block.block0_magic q.block.block0_magic in
    let blocks : p.blen ≡ q.blen = p.block.block_length ∙ ap (λ (f : Form). block_length f (head_at image place)) forms ∙ sym q.block.block_length in
    (p.content_at ∙ ap (λ (n : ℕ). place + n) blocks ∙ sym q.content_at, p.length ∙ sym q.length)

one_end : (image : List ℕ) (place len count : ℕ) (type other : ContentType) (root row key line : List ℕ) (accepts : Acceptance) (x y : Chain) → IsChain image place len type root row accepts x → IsChain image place count other key line accepts y
    → end_of x ≡ end_of y
one_end image place len count type other root row key line accepts x y p q =
    let same = one_content image place len count type other root row key line accepts x y p q in
    ap (λ (n : ℕ). n + x.length) same.0 ∙ ap (λ (n : ℕ). y.content_at + n) same.1

pub one_digest : (image nv later : List ℕ) (place len : ℕ) (b : Bank) (accepts : Acceptance) (g : IsGood image place len nv b accepts) (h : IsGood image place len later b accepts) → g.capsule.digest ≡ h.capsule.digest
one_digest image nv later place len b accepts g h =
    let ends : end_of g.parts.capsule ≡ end_of h.parts.capsule = one_end image place len len _ _ _ _ _ _ accepts g.parts.capsule h.parts.capsule g.signed.capsule h.signed.capsule in
    ap (λ (c : CapsuleState). c.digest) g.found
    ∙ ap (λ (n : ℕ). sha256 (bytes_at image place (n - place))) ends
    ∙ sym (ap (λ (c : CapsuleState). c.digest) h.found)

-- and its manifest, for a layout
pub one_manifest : (image nv later : List ℕ) (place len : ℕ) (b : Bank) (accepts : Acceptance) (g : IsGood image place len nv b accepts) (h : IsGood image place len later b accepts)
    → g.fuses.provision ≡ h.fuses.provision → g.capsule.manifest ≡ h.capsule.manifest
one_manifest image nv later place len b accepts g h same =
    let outer = one_content image place len len _ _ _ _ _ _ accepts g.parts.capsule h.parts.capsule g.signed.capsule h.signed.capsule in
    let inner = one_content image g.parts.capsule.content_at _ _ _ _ _ _ _ _ accepts g.parts.inner h.parts.inner g.signed.inner
    (subst (λ (at : ℕ). IsChain image at (min h.parts.capsule.length (layout_of h.fuses.provision b).manifest_len) (manifest_type b) h.fuses.provision.root (row_of h.fuses (manifest_type b)) accepts h.parts.inner) (sym outer.0) h.signed.inner) in
    let bytes : bytes_at image g.parts.inner.content_at g.parts.inner.length ≡ bytes_at image h.parts.inner.content_at h.parts.inner.length =
    ap (λ (n : ℕ). bytes_at image n g.parts.inner.length) inner.0 ∙ ap (λ (n : ℕ). bytes_at image h.parts.inner.content_at n) inner.1 in
    let spelled : IsManifestOf (bytes_at image h.parts.inner.content_at h.parts.inner.length) g.parts.manifest (layout_of h.fuses.provision b) (length image) =
    subst (λ (text : List ℕ). IsManifestOf text g.parts.manifest (layout_of h.fuses.provision b) (length image)) bytes
    (subst (λ (p : RootSlot). IsManifestOf (bytes_at image g.parts.inner.content_at g.parts.inner.length) g.parts.manifest (layout_of p b) (length image)) same g.signed.spelled) in
    ap (λ (c : CapsuleState). c.manifest) g.found
    ∙ manifest_is_one (bytes_at image h.parts.inner.content_at h.parts.inner.length) (layout_of h.fuses.provision b) (length image) g.parts.manifest h.parts.manifest spelled h.signed.spelled
    ∙ ap (λ (c : CapsuleState). c.manifest) (sym h.found)

-- ---- what the job tells
module _ (given_up : What) (told : ℕ → What) (accepts : Acceptance) (b : Bank) (fuses : FusesState) (capsule : CapsuleState) where
  abbrev layout : Layout
  layout = layout_of fuses.provision b

  -- a capsule stands good in the recovery area, by some store
  abbrev pub Stood : List ℕ → CapsuleState → Story → Type 0
  Stood nv found story = (g : IsGood (mine b story) (layout_of fuses.provision b).recovery_at (layout_of fuses.provision b).area_len nv b accepts) × (g.capsule ≡ found)

  -- moves that tell nothing, and then the version of the capsule that is found in the recovery area
  pub record IsTold (moves : List Move) (story : Story) : Type 0 where
    pub found : CapsuleState
    pub front : List Move
    pub is : moves ≡ front ++ Says (λ _. told found.manifest.svn) ∷ []
    pub quiet : AllMake (IsOwn b) NoNote front
    pub judged : judged_recovery accepts b fuses (after moves story) ≡ Ok found
    pub nv : List ℕ
    pub says : fuses_of nv ≡ Ok fuses
    pub stood : Stood nv found (after moves story)

  told_behind : (moves more : List Move) (story : Story) → AllMake (IsOwn b) NoNote moves → IsTold more (after moves story) → IsTold (moves ++ more) story
  told_behind moves more story quiet p =
      let e : after (moves ++ more) story ≡ after more (after moves story) = after-append moves more story in
      record {
        found = p.found;
        front = moves ++ p.front;
        is = ap (λ (ms : List Move). moves ++ ms) p.is ∙ sym (append_assoc moves p.front (Says (λ _. told p.found.manifest.svn) ∷ []));
        quiet = AllMake-append (IsOwn b) NoNote moves p.front quiet p.quiet;
        judged = ap (λ (s : Story). judged_recovery accepts b fuses s) e ∙ p.judged;
        nv = p.nv;
        says = p.says;
        stood = subst (λ (s : Story). Stood p.nv p.found s) (sym e) p.stood;
      }

  quiet_store : (ops : List Operation) → AllMake (IsOwn b) NoNote (called device.Nv ops)
  quiet_store ops = AllMake-called (IsOwn b) NoNote device.Nv ops (inr refl)

  concluded_told : (found : CapsuleState) (there : Story) → IsStaged accepts b fuses capsule there → judged_recovery accepts b fuses there ≡ Ok found → IsTold (concluded told b fuses found there) there
  concluded_told found there staged j =
      let svn : ℕ = found.manifest.svn in
      let plan : List Operation = raise_plan (floor_of fuses b) b svn in
      let raises : List Move = raised_to svn b fuses there in
      let higher : Story = after raises there in
      let ends : List Move = finished_job b higher in
      let last : List Move = Says (λ _. told svn) ∷ [] in
      let same : mine b (after (concluded told b fuses found there) there) ≡ mine b there =
      ap (λ (s : Story). mine b s) (after-append raises (ends ++ last) there) ∙ given_up_bank (told svn) b b higher ∙ bank_called b plan there in
      record {
        found = found;
        front = raises ++ ends;
        is = sym (append_assoc raises ends last);
        quiet = AllMake-append (IsOwn b) NoNote raises ends (quiet_store plan) (quiet_store (finish_plan (store higher) b));
        judged = ap (λ (image : List ℕ). judge_area Recovery b image fuses accepts) same ∙ j;
        nv = store there;
        says = staged.provisioned;
        stood = subst (λ (image : List ℕ). (g : IsGood image (layout_of fuses.provision b).recovery_at (layout_of fuses.provision b).area_len (store there) b accepts) × (g.capsule ≡ found)) (sym same)
            (found_good accepts b fuses found there staged.provisioned staged.layout staged.bytes j);
      }

  module _ (once : Story) (staged : IsStaged accepts b fuses capsule once) where
    abbrev twice : Story
    twice = after (copied_again b fuses capsule once) once

    by_second : (r : Result CapsuleState CapsuleFail) → judged_recovery accepts b fuses twice ≡ r → IsTold (by_second_pass given_up told b fuses r twice) twice
    by_second (Ok found) j = concluded_told found twice (second_staged accepts b fuses capsule once staged) j
    by_second (Err cause) j =
        let copied : IsCopied accepts b fuses capsule.digest capsule.manifest twice = second_good accepts b fuses capsule once staged in
        absurd (let never : Err cause ≡ Ok copied.found = sym j ∙ copied.judged in cc)

    second_told : IsTold (second_pass given_up told accepts b fuses capsule once) once
    second_told =
        told_behind (copied_again b fuses capsule once) (asks b twice ++ by_second_pass given_up told b fuses (judged_recovery accepts b fuses twice) twice) once
        (deeds_make (IsOwn b) NoNote b (inr refl) (inl refl) (recovery_ignoring (mine b once) capsule.length layout))
        (told_behind (asks b twice) (by_second_pass given_up told b fuses (judged_recovery accepts b fuses twice) twice) twice (inl refl, tt) (by_second (judged_recovery accepts b fuses twice) refl))

    by_first : (r : Result CapsuleState CapsuleFail) → judged_recovery accepts b fuses once ≡ r → IsTold (by_first_pass given_up told accepts b fuses capsule r once) once
    by_first (Err cause) j = second_told
    by_first (Ok found) j = by_same (same_digest found.digest capsule.digest)
      where
        by_same : (t : Bool) → IsTold (by_digest t given_up told accepts b fuses capsule found once) once
        by_same true = concluded_told found once staged j
        by_same false = second_told

  pub work_told : (story : Story) → IsStaged accepts b fuses capsule story → IsTold (recovery_work given_up told accepts b fuses capsule story) story
  work_told story staged =
      let once : Story = after (copied_over b fuses capsule story) story in
      told_behind (copied_over b fuses capsule story) (asks b once ++ by_first_pass given_up told accepts b fuses capsule (judged_recovery accepts b fuses once) once) story
      (deeds_make (IsOwn b) NoNote b (inr refl) (inl refl) (recovery_heeding b (mine b story) (store story) capsule.length layout))
      (told_behind (asks b once) (by_first_pass given_up told accepts b fuses capsule (judged_recovery accepts b fuses once) once) once (inl refl, tt)
      (by_first once (first_staged accepts b fuses capsule story staged) (judged_recovery accepts b fuses once) refl))

-- ---- what stands in the recovery area then, by the store then
module _ (given_up : What) (told : ℕ → What) (accepts : Acceptance) (b : Bank) (fuses : FusesState) (capsule : CapsuleState) (moves : List Move) (story : Story) (t : IsTold given_up told accepts b fuses capsule moves story)
    (now : FusesState) (jobless : IsJobless b now (after moves story)) (provision : now.provision ≡ fuses.provision) (area : HasGoodRecovery b (mine b (after moves story)) (store (after moves story)) accepts) where
  abbrev end : Story
  end = after moves story

  good_now : IsGood (mine b end) (layout_of now.provision b).recovery_at (layout_of now.provision b).area_len (store end) b accepts
  good_now =
      subst (λ (f : FusesState). IsGood (mine b end) (layout_of f.provision b).recovery_at (layout_of f.provision b).area_len (store end) b accepts)
      (fuses_one (store end) area.fuses now area.provisioned jobless.holds.provisioned) area.good

  -- The capsule that is told of.
  pub told_stands : IsStanding accepts b now t.found (after moves story)
  told_stands =
      let stood = subst (λ (p : RootSlot). (g : IsGood (mine b end) (layout_of p b).recovery_at (layout_of p b).area_len t.nv b accepts) × (g.capsule ≡ t.found)) (sym provision) t.stood in
      let same : good_now.fuses.provision ≡ stood.0.fuses.provision =
      ap (λ (f : FusesState). f.provision) (fuses_one (store end) good_now.fuses now good_now.provisioned jobless.holds.provisioned) ∙ provision
      ∙ ap (λ (f : FusesState). f.provision) (fuses_one t.nv fuses stood.0.fuses t.says stood.0.provisioned) in
      let place : ℕ = (layout_of now.provision b).recovery_at in
      let len : ℕ = (layout_of now.provision b).area_len in
      record {
        says = jobless.holds.provisioned;
        store_size = jobless.holds.store_size;
        valid = jobless.holds.layout;
        blocks = jobless.holds.size.blocks;
        good = good_now;
        digest = one_digest (mine b end) (store end) t.nv place len b accepts good_now stood.0 ∙ ap (λ (c : CapsuleState). c.digest) stood.1;
        manifest = one_manifest (mine b end) (store end) t.nv place len b accepts good_now stood.0 same ∙ ap (λ (c : CapsuleState). c.manifest) stood.1;
      }

-- Such a job, by its moves and by what it leaves.
pub record IsCopying (given_up : What) (told : ℕ → What) (accepts : Acceptance) (b : Bank) (fuses : FusesState) (capsule : CapsuleState) (story : Story) : Type 0 where
  pub front : List Move
  pub is : recovery_job given_up told accepts b fuses capsule story ≡ front ++ Says (λ _. told capsule.manifest.svn) ∷ []
  pub quiet : AllMake (IsOwn b) NoNote front
  pub image : mine b (after (recovery_job given_up told accepts b fuses capsule story) story) ≡ recovery_rebuilt (mine b story) (layout_of fuses.provision b).staging_at capsule.length (layout_of fuses.provision b)
  pub svn : ℕ
  pub jobless : IsJobless b (raised fuses b svn) (after (recovery_job given_up told accepts b fuses capsule story) story)
  pub standing : IsStanding accepts b (raised fuses b svn) capsule (after (recovery_job given_up told accepts b fuses capsule story) story)

module _ (given_up : What) (told : ℕ → What) (accepts : Acceptance) (b : Bank) (fuses : FusesState) (capsule : CapsuleState) (story : Story) (h : CanWork b fuses story) (none : open_job (store story) b ≡ job.None)
    (free : is_spent (store story) b ≡ false) (j : judged_staging accepts b fuses story ≡ Ok capsule) where
  abbrev new : Story
  new = after (recovery_job given_up told accepts b fuses capsule story) story

  staged : IsStaged accepts b fuses capsule story
  staged =
      let found = found_staged accepts b fuses capsule story h.provisioned h.layout h.bytes j in
      record {
        good = found.0;
        same = subst (λ (c : CapsuleState). IsSameCapsule found.0.capsule c) found.1 (record { len = refl; digest = refl; manifest = refl });
        provisioned = h.provisioned;
        layout = h.layout;
        size = h.size;
        bytes = h.bytes;
        store_size = h.store_size;
      }

  d : IsDigest capsule.digest
  d = made_digest accepts b fuses capsule story (source_made accepts b RecoveryFromStaging fuses capsule story h j)

  job_told : IsTold given_up told accepts b fuses capsule (recovery_job given_up told accepts b fuses capsule story) story
  job_told =
      let plan : List Operation = begin_plan (store story) b RecoveryFromStaging capsule.digest in
      let begun : List Move = begun_job b RecoveryFromStaging capsule.digest story in
      let there : Story = after begun story in
      let stands = begun_stands b RecoveryFromStaging capsule.digest story h.store_size none (takes_job (store story) b free) d tt in
      told_behind given_up told accepts b fuses capsule begun (recovery_work given_up told accepts b fuses capsule there) story (quiet_store given_up told accepts b fuses capsule plan)
      (work_told given_up told accepts b fuses capsule there (staged_still accepts b fuses capsule (job.Job RecoveryFromStaging capsule.digest) story there stands staged))

  ends : IsRecoveryDone accepts b fuses capsule story new
  ends = recovery_job_ends given_up told accepts b fuses h.two capsule story staged none free d

  same_found : (x y : CapsuleState) → Ok x ≡ judged_recovery accepts b fuses new → judged_recovery accepts b fuses new ≡ Ok y → x ≡ y
  same_found x y p q = cc

  -- the manifest is that of the staged capsule
  manifest : job_told.found.manifest ≡ capsule.manifest
  manifest =
      let copied = second_good accepts b fuses capsule story staged in
      let there : judge_area Recovery b (mine b new) fuses accepts ≡ Ok copied.found =
      ap (λ (bytes : List ℕ). judge_area Recovery b bytes fuses accepts) (ends.image ∙ sym (second_stands accepts b fuses capsule story staged).bank) ∙ copied.judged in
      let same : job_told.found ≡ copied.found = same_found job_told.found copied.found (sym job_told.judged) there in
      ap (λ (c : CapsuleState). c.manifest) same ∙ copied.manifest

  -- and so is the digest
  digest : job_told.found.digest ≡ capsule.digest
  digest = ap (λ (c : CapsuleState). c.digest) (same_found job_told.found ends.found (sym job_told.judged) ends.judged) ∙ ends.digest

  replaced : IsReplaced accepts b fuses new
  replaced = replaces accepts b fuses given_up told capsule story (record { holds = holds_jobs b fuses story h; none = none }) free j

  pub copying : IsCopying given_up told accepts b fuses capsule story
  copying =
      let moves : List Move = recovery_job given_up told accepts b fuses capsule story in
      let now : FusesState = raised fuses b replaced.svn in
      record {
        front = job_told.front;
        is = job_told.is ∙ ap (λ (m : Manifest). job_told.front ++ Says (λ _. told m.svn) ∷ []) manifest;
        quiet = job_told.quiet;
        image = ends.image;
        svn = replaced.svn;
        jobless = replaced.jobless;
        standing = standing_as accepts b now job_told.found capsule (mine b new) (store new) digest manifest
            (told_stands given_up told accepts b fuses capsule moves story job_told now replaced.jobless (raised_provision fuses b replaced.svn) ends.good);
      }
