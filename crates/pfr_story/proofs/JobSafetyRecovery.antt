-- A job that replaces a bank's recovery area leaves both banks ones that can be recovered, and the area good.
use Rattle.std.proofs.Common.{◌≡◌, ◌∙◌, refl, sym, ap, subst, arith, ℕ, ◌≤◌, Bool, true, false, List, length, inr, Result, Ok, Err}
use Rattle.pfr_flash.specs.Bytes.{bytes_at}
use Rattle.pfr_flash.specs.Operation.{play}
use Rattle.pfr_flash.specs.declared.layout.Layout.{Layout}
use Rattle.pfr_flash.specs.declared.names.Bank.{Bank}
use Rattle.pfr_flash.proofs.PartsLemmas.{same_front}
use Rattle.pfr_engine.specs.Acceptance.{Acceptance}
use Rattle.pfr_fuses.specs.Changes.{raised}
use Rattle.pfr_fuses.specs.FusesState.{FusesState}
use Rattle.pfr_fuses.specs.FusesOf.{fuses_of}
use Rattle.pfr_fuses.specs.RootSlot.{layout_of}
use Rattle.pfr_capsule.specs.CapsuleState.{CapsuleState}
use Rattle.pfr_capsule.specs.Good.{IsGood}
use Rattle.pfr_capsule.specs.Judge.{judge_capsule}
use Rattle.pfr_capsule.specs.declared.fail.CapsuleFail.{CapsuleFail}
use Rattle.pfr_capsule.proofs.DigestLaw.{good_digest}
use Rattle.pfr_capsule.proofs.GoodFacts.{good_within}
use Rattle.pfr_capsule.proofs.GoodLaw.{good_judged}
use Rattle.pfr_capsule.proofs.MovedLaw.{good_moved, capsule_moved, length_moved, digest_moved}
use Rattle.pfr_jobs.specs.Log.{current_at, open_job}
use Rattle.pfr_jobs.specs.LogState.{is_spent}
use Rattle.pfr_jobs.specs.declared.job.JobKind.TheVariants.{RecoveryFromStaging}
use Rattle.pfr_jobs.specs.declared.job.OpenJob.TheVariants as job
use Rattle.pfr_jobs.proofs.SlotLaw.{IsDigest}
use Rattle.pfr_strokes.specs.Deeds.{Deed, unmarked, side_ops}
use Rattle.pfr_strokes.specs.Strokes.{strokes_of}
use Rattle.pfr_strokes.specs.declared.side.Side.TheVariants as side
use Rattle.pfr_strokes.proofs.PassLaws.{pass_strokes}
use Rattle.pfr_rebuilt.specs.Copying.{recovery_pages, recovery_page, recovery_rebuilt}
use Rattle.pfr_rebuilt.specs.Passing.{group_pages, recovery_heeding, recovery_ignoring}
use Rattle.pfr_rebuilt.proofs.CopiedLaw.{copied_good, copied_played}
use Rattle.pfr_recoverable.proofs.CutLaw.{IsAtWork, good_with}
use Rattle.pfr_recoverable.proofs.StaysLaw.{fuses_one}
use Rattle.pfr_report.specs.declared.note.What.{What}
use Rattle.pfr_story.specs.Story.{Story, after, other_bank}
use Rattle.pfr_story.specs.Deeds.{deed_moves}
use Rattle.pfr_story.specs.Safety.{Leads}
use Rattle.pfr_story.specs.Plans.{mine, store, asks, judged_staging, judged_recovery}
use Rattle.pfr_story.specs.JobPlans.{begun_job, copied_over, copied_again, concluded, by_second_pass, second_pass, same_digest, by_digest, by_first_pass, recovery_work, recovery_job}
use Rattle.pfr_story.specs.Recovery.{KeepsRecoverable}
use Rattle.pfr_story.proofs.Lift.{image_deeds}
use Rattle.pfr_story.proofs.SafetyLaws.{Leads-then}
use Rattle.pfr_story.proofs.RestoreLaws.{found_good, found_staged}
use Rattle.pfr_story.proofs.JobSafety.{HoldsJobs, IsJobless, holds_kept, CanBe}
use Rattle.pfr_story.proofs.JobSafetyPasses.{AllWork, IsPassed, all_passed, recovery_work as heeding_work, recovery_over, staged_safe}
use Rattle.pfr_story.proofs.JobSafetyOther.{KeepsBoth, safe_both, other_deeds}
use Rattle.pfr_story.proofs.JobSafetyActive.{LeadsAt, leads_from, leads_at, begun_at}
use Rattle.pfr_story.proofs.JobSafetyRaise.{IsRecovered, concluded_leads}

abbrev pub found_ok : CapsuleState → Result CapsuleState CapsuleFail
found_ok x = Ok x

pub one_capsule : (x y : CapsuleState) → found_ok x ≡ found_ok y → x ≡ y
one_capsule x y h = cc

-- a good capsule is judged well, by the fuses that the store says
pub good_found : (image nv : List ℕ) (place len : ℕ) (b : Bank) (accepts : Acceptance) (fuses : FusesState) (g : IsGood image place len nv b accepts) → fuses_of nv ≡ Ok fuses
    → judge_capsule image place len b (layout_of fuses.provision b) fuses accepts ≡ found_ok g.capsule
good_found image nv place len b accepts fuses g is =
    let same : g.fuses ≡ fuses = fuses_one nv g.fuses fuses g.provisioned is in
    subst (λ (f : FusesState). judge_capsule image place len b (layout_of f.provision b) f accepts ≡ found_ok g.capsule) same (good_judged image nv place len b accepts g)

module _ (accepts : Acceptance) (b : Bank) (fuses : FusesState) where
  abbrev layout : Layout
  layout = layout_of fuses.provision b

  abbrev IsGoodAt : ℕ → Story → Type 0
  IsGoodAt place story = IsGood (mine b story) place (layout_of fuses.provision b).area_len (store story) b accepts

  -- a job that replaces the recovery area is open, and its capsule stands good in the staging area, of so many bytes
  pub record IsStaged (count : ℕ) (digest : List ℕ) (story : Story) : Type 0 where
    pub holds : HoldsJobs b fuses story
    pub good : IsGood (mine b story) (layout_of fuses.provision b).staging_at (layout_of fuses.provision b).area_len (store story) b accepts
    pub long : good.capsule.length ≡ count
    pub named : good.capsule.digest ≡ digest
    pub opened : open_job (store story) b ≡ job.Job RecoveryFromStaging digest

  pub staged_from : (capsule : CapsuleState) (story : Story) → HoldsJobs b fuses story → judged_staging accepts b fuses story ≡ Ok capsule → open_job (store story) b ≡ job.Job RecoveryFromStaging capsule.digest
      → IsStaged capsule.length capsule.digest story
  staged_from capsule story h judged opened =
      let g = found_staged accepts b fuses capsule story h.provisioned h.layout h.bytes judged in
      record {
        holds = h;
        good = g.0;
        long = ap (λ (c : CapsuleState). c.length) g.1;
        named = ap (λ (c : CapsuleState). c.digest) g.1;
        opened = opened;
      }

  module _ (count : ℕ) (digest : List ℕ) where
    at_work : (story : Story) → IsStaged count digest story → IsAtWork (layout_of fuses.provision b) b (mine b story) (store story) accepts
    at_work story p = record {
      job = record {
        fuses = fuses;
        provisioned = p.holds.provisioned;
        good = p.good;
        opened = p.opened ∙ ap (λ (d : List ℕ). job.Job RecoveryFromStaging d) (sym p.named);
      };
      by_layout = λ other is. ap (λ (f : FusesState). layout_of f.provision b) (fuses_one (store story) other fuses is p.holds.provisioned);
      blocks = p.holds.size.blocks;
      store = p.holds.store_size;
    }

    -- such a bank can be recovered
    pub staged_can : (story : Story) → IsStaged count digest story → CanBe accepts b story
    staged_can story p = inr (at_work story p).job

    fits : (story : Story) → IsStaged count digest story → count ≤ (layout_of fuses.provision b).area_len
    fits story p = omega (arith, p.long, good_within (mine b story) (store story) (layout_of fuses.provision b).staging_at (layout_of fuses.provision b).area_len b accepts p.good)

    -- what leaves the staging area leaves it staged
    staged_passed : (old new : Story) → IsPassed b layout.staging_at layout.area_len old new → IsStaged count digest old → IsStaged count digest new
    staged_passed old new passed p =
        let at : ℕ = (layout_of fuses.provision b).staging_at in
        let len : ℕ = (layout_of fuses.provision b).area_len in
        let g = p.good in
        let room : g.capsule.length ≤ len = good_within (mine b old) (store old) at len b accepts g in
        let here : bytes_at (mine b old) at g.capsule.length ≡ bytes_at (mine b new) at g.capsule.length =
        same_front (mine b old) (mine b new) at at len g.capsule.length (sym (passed.left p.holds.layout.inside.staging)) room in
        let moved : IsGood (mine b new) at len (store old) b accepts = good_moved (mine b old) (mine b new) (store old) at at len len b accepts g (sym passed.kept.size) p.holds.size.blocks here room in
        let is = capsule_moved (mine b old) (mine b new) (store old) at at len len b accepts g (sym passed.kept.size) p.holds.size.blocks here room in
        let kept = good_with (mine b new) (store old) (store new) at len b accepts moved passed.kept.fuses in
        record {
          holds = holds_kept b fuses old new passed.kept p.holds;
          good = kept.0;
          long = ap (λ (c : CapsuleState). c.length) (kept.1 ∙ is) ∙ length_moved (mine b old) (mine b new) (store old) at at len len b accepts g (sym passed.kept.size) p.holds.size.blocks here room ∙ p.long;
          named = ap (λ (c : CapsuleState). c.digest) (kept.1 ∙ is) ∙ digest_moved (mine b old) (mine b new) (store old) at at len len b accepts g (sym passed.kept.size) p.holds.size.blocks here room ∙ p.named;
          opened = passed.still ∙ p.opened;
        }

    -- a pass over the recovery area
    pass_at : (deeds : List Deed) (story : Story) → IsStaged count digest story → AllWork layout.staging_at layout.area_len (current_at (store story) b) deeds
        → LeadsAt (KeepsBoth accepts b) (deed_moves b deeds) (IsStaged count digest) story
    pass_at deeds story p work = record {
      safe = safe_both (KeepsRecoverable accepts b) (KeepsRecoverable accepts (other_bank b)) (deed_moves b deeds) story
          (staged_safe accepts b (layout_of fuses.provision b) deeds story (at_work story p) work)
          (other_deeds accepts b layout.staging_at layout.area_len deeds story p.holds.store_size work);
      ends = staged_passed story (after (deed_moves b deeds) story) (all_passed b layout.staging_at layout.area_len deeds story p.holds.store_size work) p;
    }

    -- ---- behind a pass that ignores marks the recovery area is good
    pub record IsCopied (story : Story) : Type 0 where
      pub staged : IsStaged count digest story
      pub good : IsGood (mine b story) (layout_of fuses.provision b).recovery_at (layout_of fuses.provision b).area_len (store story) b accepts

    over_strokes : (image : List ℕ) (n : ℕ) → side_ops side.Bank (recovery_ignoring image n (layout_of fuses.provision b))
        ≡ strokes_of (recovery_page image (layout_of fuses.provision b).staging_at n (layout_of fuses.provision b)) (recovery_pages (layout_of fuses.provision b) n (length image))
    unfolding recovery_ignoring
    over_strokes image n =
        pass_strokes (recovery_page image (layout_of fuses.provision b).staging_at n (layout_of fuses.provision b)) (group_pages (length image)) unmarked (λ number. refl)
        (recovery_pages (layout_of fuses.provision b) n (length image))

    over_image : (story : Story) (p : IsStaged count digest story) → mine b (after (deed_moves b (recovery_ignoring (mine b story) count (layout_of fuses.provision b))) story)
        ≡ recovery_rebuilt (mine b story) (layout_of fuses.provision b).staging_at p.good.capsule.length (layout_of fuses.provision b)
    over_image story p =
        let image : List ℕ = mine b story in
        let lay : Layout = layout_of fuses.provision b in
        image_deeds b side.Bank (recovery_ignoring (mine b story) count (layout_of fuses.provision b)) story
        ∙ ap (λ ops. play (mine b story) ops) (over_strokes (mine b story) count)
        ∙ ap (λ (n : ℕ). play (mine b story) (strokes_of (recovery_page (mine b story) (layout_of fuses.provision b).staging_at n (layout_of fuses.provision b)) (recovery_pages (layout_of fuses.provision b) n (length (mine b story))))) (sym p.long)
        ∙ copied_played (mine b story) (store story) b accepts (layout_of fuses.provision b) p.good p.holds.layout p.holds.size.blocks p.holds.bytes

    over_at : (story : Story) → IsStaged count digest story → LeadsAt (KeepsBoth accepts b) (deed_moves b (recovery_ignoring (mine b story) count (layout_of fuses.provision b))) IsCopied story
    over_at story p =
        let lay : Layout = layout_of fuses.provision b in
        let deeds : List Deed = recovery_ignoring (mine b story) count (layout_of fuses.provision b) in
        let later : Story = after (deed_moves b deeds) story in
        let work = recovery_over b (mine b story) (store story) count (layout_of fuses.provision b) p.holds.layout (fits story p) in
        let pass = pass_at deeds story p work in
        let passed : IsPassed b layout.staging_at layout.area_len story later = all_passed b layout.staging_at layout.area_len deeds story p.holds.store_size work in
        let g = copied_good (mine b story) (store story) b accepts (layout_of fuses.provision b) p.good p.holds.layout p.holds.size.blocks p.holds.bytes in
        let there : IsGood (mine b later) lay.recovery_at lay.area_len (store story) b accepts =
        subst (λ (image : List ℕ). IsGood image (layout_of fuses.provision b).recovery_at (layout_of fuses.provision b).area_len (store story) b accepts) (sym (over_image story p)) g in
        record {
          safe = pass.safe;
          ends = record {
            staged = pass.ends;
            good = (good_with (mine b later) (store story) (store later) lay.recovery_at lay.area_len b accepts there passed.kept.fuses).0;
          };
        }

    still_open : (story : Story) → IsStaged count digest story → ¬ (open_job (store story) b ≡ job.None)
    still_open story p none = let opened = p.opened in absurd cc

    recovered_from : (found : CapsuleState) (story : Story) → IsStaged count digest story → judged_recovery accepts b fuses story ≡ Ok found → IsRecovered accepts b fuses found story
    recovered_from found story p judged =
        let g = found_good accepts b fuses found story p.holds.provisioned p.holds.layout p.holds.bytes judged in
        record { holds = p.holds; good = g.0; is = g.1; opened = still_open story p }

  -- no job is open, and the floor was raised to a security version number
  pub record IsReplaced (story : Story) : Type 0 where
    pub svn : ℕ
    pub jobless : IsJobless b (raised fuses b svn) story

  -- ---- the work
  module _ (given_up : What) (told : ℕ → What) (capsule : CapsuleState) where
    abbrev Staged : Story → Type 0
    Staged story = IsStaged capsule.length capsule.digest story

    abbrev Copied : Story → Type 0
    Copied story = IsCopied capsule.length capsule.digest story

    concluded_at : (found : CapsuleState) (story : Story) → IsRecovered accepts b fuses found story → LeadsAt (KeepsBoth accepts b) (concluded told b fuses found story) IsReplaced story
    concluded_at found story p =
        let at = leads_at (KeepsBoth accepts b) (IsRecovered accepts b fuses found) (IsJobless b (raised fuses b found.manifest.svn)) (concluded told b fuses found) (concluded_leads accepts b fuses found told) story p in
        record { safe = at.safe; ends = record { svn = found.manifest.svn; jobless = at.ends } }

    second_at : (r : Result CapsuleState CapsuleFail) (story : Story) → judged_recovery accepts b fuses story ≡ r → IsCopied capsule.length capsule.digest story
        → LeadsAt (KeepsBoth accepts b) (by_second_pass given_up told b fuses r story) IsReplaced story
    second_at (Ok found) story judged p = concluded_at found story (recovered_from capsule.length capsule.digest found story p.staged judged)
    second_at (Err cause) story judged p =
        let is = good_found (mine b story) (store story) (layout_of fuses.provision b).recovery_at (layout_of fuses.provision b).area_len b accepts fuses p.good p.staged.holds.provisioned in
        absurd cc

    pub second_leads : Leads (KeepsBoth accepts b) (IsStaged capsule.length capsule.digest) (second_pass given_up told accepts b fuses capsule) IsReplaced
    second_leads =
        Leads-then (KeepsBoth accepts b) (IsStaged capsule.length capsule.digest) (IsCopied capsule.length capsule.digest) IsReplaced (copied_again b fuses capsule) _
        (leads_from (KeepsBoth accepts b) (IsStaged capsule.length capsule.digest) (IsCopied capsule.length capsule.digest) (copied_again b fuses capsule) (λ story p. over_at capsule.length capsule.digest story p))
        (Leads-then (KeepsBoth accepts b) (IsCopied capsule.length capsule.digest) (IsCopied capsule.length capsule.digest) IsReplaced (asks b) (λ story. by_second_pass given_up told b fuses (judged_recovery accepts b fuses story) story)
        (record { safe = λ story p. ((tt, tt), tt); ends = λ story p. p })
        (leads_from (KeepsBoth accepts b) (IsCopied capsule.length capsule.digest) IsReplaced (λ story. by_second_pass given_up told b fuses (judged_recovery accepts b fuses story) story)
        (λ story p. second_at (judged_recovery accepts b fuses story) story refl p)))

    second_from : (story : Story) → IsStaged capsule.length capsule.digest story → LeadsAt (KeepsBoth accepts b) (second_pass given_up told accepts b fuses capsule story) IsReplaced story
    second_from story p = leads_at (KeepsBoth accepts b) (IsStaged capsule.length capsule.digest) IsReplaced (second_pass given_up told accepts b fuses capsule) second_leads story p

    first_at : (r : Result CapsuleState CapsuleFail) (story : Story) → judged_recovery accepts b fuses story ≡ r → IsStaged capsule.length capsule.digest story
        → LeadsAt (KeepsBoth accepts b) (by_first_pass given_up told accepts b fuses capsule r story) IsReplaced story
    first_at (Ok found) story judged p = by_same (same_digest found.digest capsule.digest)
      where
        by_same : (same : Bool) → LeadsAt (KeepsBoth accepts b) (by_digest same given_up told accepts b fuses capsule found story) IsReplaced story
        by_same true = concluded_at found story (recovered_from capsule.length capsule.digest found story p judged)
        by_same false = second_from story p
    first_at (Err cause) story judged p = second_from story p

    -- From an open job on, its work leaves both banks so and no job open, and the store says the raised fuses.
    pub recovery_work_leads : Leads (KeepsBoth accepts b) (IsStaged capsule.length capsule.digest) (recovery_work given_up told accepts b fuses capsule) IsReplaced
    recovery_work_leads =
        Leads-then (KeepsBoth accepts b) (IsStaged capsule.length capsule.digest) (IsStaged capsule.length capsule.digest) IsReplaced (copied_over b fuses capsule) _
        (leads_from (KeepsBoth accepts b) (IsStaged capsule.length capsule.digest) (IsStaged capsule.length capsule.digest) (copied_over b fuses capsule) (λ story p.
        pass_at capsule.length capsule.digest (recovery_heeding b (mine b story) (store story) capsule.length (layout_of fuses.provision b)) story p
        (heeding_work b (mine b story) (store story) capsule.length (layout_of fuses.provision b) p.holds.layout (fits capsule.length capsule.digest story p))))
        (Leads-then (KeepsBoth accepts b) (IsStaged capsule.length capsule.digest) (IsStaged capsule.length capsule.digest) IsReplaced (asks b) (λ story. by_first_pass given_up told accepts b fuses capsule (judged_recovery accepts b fuses story) story)
        (record { safe = λ story p. ((tt, tt), tt); ends = λ story p. p })
        (leads_from (KeepsBoth accepts b) (IsStaged capsule.length capsule.digest) IsReplaced (λ story. by_first_pass given_up told accepts b fuses capsule (judged_recovery accepts b fuses story) story)
        (λ story p. first_at (judged_recovery accepts b fuses story) story refl p)))

    -- ---- begun now
    -- no job is open, the log takes one, and this capsule is staged
    pub record IsStagedNext (story : Story) : Type 0 where
      pub jobless : IsJobless b fuses story
      pub unspent : is_spent (store story) b ≡ false
      pub judged : judged_staging accepts b fuses story ≡ Ok capsule

    pub begun_staged : (story : Story) → IsStagedNext story → LeadsAt (KeepsBoth accepts b) (begun_job b RecoveryFromStaging capsule.digest story) (IsStaged capsule.length capsule.digest) story
    begun_staged story p =
        let h = p.jobless.holds in
        let g = found_staged accepts b fuses capsule story h.provisioned h.layout h.bytes p.judged in
        let digest = good_digest (mine b story) (store story) (layout_of fuses.provision b).staging_at (layout_of fuses.provision b).area_len b accepts g.0 in
        let d : IsDigest capsule.digest = subst (λ (c : CapsuleState). IsDigest c.digest) g.1 (record { long = digest.0; bytes = digest.1 }) in
        let begun = begun_at accepts b fuses RecoveryFromStaging capsule.digest tt d story p.jobless p.unspent in
        let later : Story = after (begun_job b RecoveryFromStaging capsule.digest story) story in
        record {
          safe = begun.safe;
          ends = staged_from capsule later (holds_kept b fuses story later begun.ends.kept h)
              (ap (λ (image : List ℕ). judge_capsule image (layout_of fuses.provision b).staging_at (layout_of fuses.provision b).area_len b (layout_of fuses.provision b) fuses accepts) begun.ends.same ∙ p.judged)
              begun.ends.opened;
        }

    -- A job that is begun now, whether the recovery area is good or not.
    pub recovery_job_leads : Leads (KeepsBoth accepts b) IsStagedNext (recovery_job given_up told accepts b fuses capsule) IsReplaced
    recovery_job_leads =
        Leads-then (KeepsBoth accepts b) IsStagedNext (IsStaged capsule.length capsule.digest) IsReplaced (begun_job b RecoveryFromStaging capsule.digest) (recovery_work given_up told accepts b fuses capsule)
        (leads_from (KeepsBoth accepts b) IsStagedNext (IsStaged capsule.length capsule.digest) (begun_job b RecoveryFromStaging capsule.digest) (λ story p. begun_staged story p)) recovery_work_leads
