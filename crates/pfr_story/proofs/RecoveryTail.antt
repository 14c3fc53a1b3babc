-- Behind an update of the recovery area the bank is checked, and perhaps restored: the capsule that stands there stays.
use Rattle.std.proofs.Common.{◌≡◌, ◌∙◌, refl, sym, ap, subst, ℕ, ◌/◌, ◌%◌, Bool, true, false, List, [], ◌∷◌, ◌++◌, length, All, ◌⊎◌, inl, inr, Ok}
use Rattle.pfr_flash.specs.Layout.{IsValidLayout}
use Rattle.pfr_flash.specs.Operation.{Operation, applied}
use Rattle.pfr_flash.specs.Range.{Leaves}
use Rattle.pfr_flash.specs.declared.layout.Layout.{Layout}
use Rattle.pfr_flash.specs.declared.names.Bank.{Bank}
use Rattle.pfr_flash.specs.declared.names.Device.{Device}
use Rattle.pfr_flash.specs.declared.names.Device.TheVariants as device
use Rattle.pfr_flash.proofs.LeavingLemmas.{leaves_torn, left_bytes}
use Rattle.pfr_flash.proofs.PlayLemmas.{length-applied}
use Rattle.pfr_engine.specs.Acceptance.{Acceptance}
use Rattle.pfr_fuses.specs.FusesState.{FusesState}
use Rattle.pfr_fuses.specs.FusesOf.{fuses_of}
use Rattle.pfr_fuses.specs.RootSlot.{layout_of}
use Rattle.pfr_manifest.specs.Regions.{IsRegion}
use Rattle.pfr_capsule.specs.CapsuleState.{CapsuleState}
use Rattle.pfr_capsule.specs.Good.{IsGood}
use Rattle.pfr_jobs.specs.Log.{log_at, current_at}
use Rattle.pfr_jobs.specs.LogPlans.{begin_plan, finish_plan}
use Rattle.pfr_jobs.specs.LogState.{is_spent}
use Rattle.pfr_jobs.specs.declared.job.JobKind.TheVariants.{ActiveFromRecovery}
use Rattle.pfr_rebuilt.specs.ActiveCopying.{active_page, active_pages, is_active_page}
use Rattle.pfr_rebuilt.specs.Passing.{group_pages, active_heeding, active_ignoring}
use Rattle.pfr_recoverable.proofs.CutLaw.{logs_same, good_with}
use Rattle.pfr_recoverable.proofs.StaysLaw.{fuses_one}
use Rattle.pfr_report.specs.declared.note.What.{What}
use Rattle.pfr_report.specs.declared.note.What.TheVariants as what
use Rattle.pfr_strokes.specs.Deeds.{Deed, Asks as AsksSide, Does as DoesSide}
use Rattle.pfr_strokes.specs.declared.side.Side.TheVariants as side
use Rattle.pfr_strokes.proofs.ReplacedLaws.{pages_are}
use Rattle.pfr_story.specs.Deeds.{deed_moves}
use Rattle.pfr_story.specs.JobPlans.{begun_job, finished_job, worked, written_over, done_with, by_log}
use Rattle.pfr_story.specs.Plans.{mine, store, judged_recovery, restored, checked_then}
use Rattle.pfr_story.specs.Safety.{Rule, AllSafe, Keeps}
use Rattle.pfr_story.specs.Story.{Story, Move, Says, Does, Asks, after, operated, called, device_of}
use Rattle.pfr_story.proofs.BringRules.{ready_found, Walks, then_safe}
use Rattle.pfr_story.proofs.FoundLaws.{found_begins}
use Rattle.pfr_story.proofs.JobPages.{good_again}
use Rattle.pfr_story.proofs.JobRules.{IsInLog, AllInLog, torn_within, finish_own, AllOwnDeeds, heeding_own, ignoring_own}
use Rattle.pfr_story.proofs.JobSafety.{IsJobless, holds_noted, mine_called, own_logs}
use Rattle.pfr_story.proofs.JobSafetyActive.{regions_good}
use Rattle.pfr_story.proofs.JobSafetyPasses.{AllWork, active_work, active_over}
use Rattle.pfr_story.proofs.RestoreLaws.{found_good}
use Rattle.pfr_story.proofs.SafetyLaws.{AllSafe-append, image_noted, image_operated, mine_operated, store_operated}

-- ---- moves that leave so many bytes of the bank from a place, and write the bank's log alone in the store
abbrev pub Tame : Bank → ℕ → ℕ → Rule
Tame b from len (Says w) story = Unit {0}
Tame b from len (Does which op) story = ((which ≡ device_of b) × Leaves from len op) ⊎ ((which ≡ device.Nv) × IsInLog b op)
Tame b from len (Asks which) story = Unit {0}

-- ---- a capsule with the digest and the manifest of this one stands good in the recovery area, by a store that says these fuses
module _ (accepts : Acceptance) (b : Bank) (fuses : FusesState) (capsule : CapsuleState) where
  abbrev place : ℕ
  place = (layout_of fuses.provision b).recovery_at

  abbrev len : ℕ
  len = (layout_of fuses.provision b).area_len

  pub record IsStandingIn (image nv : List ℕ) : Type 0 where
    pub says : fuses_of nv ≡ Ok fuses
    pub store_size : length nv ≡ 32768
    pub valid : IsValidLayout (layout_of fuses.provision b) (length image)
    pub blocks : length image % 65536 ≡ 0
    pub good : IsGood image (layout_of fuses.provision b).recovery_at (layout_of fuses.provision b).area_len nv b accepts
    pub digest : good.capsule.digest ≡ capsule.digest
    pub manifest : good.capsule.manifest ≡ capsule.manifest

  abbrev pub IsStanding : Story → Type 0
  IsStanding story = IsStandingIn (mine b story) (store story)

  standing_left : (image nv : List ℕ) (op : Operation) → IsStandingIn image nv → Leaves place len op → IsStandingIn (applied image op) nv
  standing_left image nv op p leaves =
      let size = length-applied image op in
      let again = good_again image (applied image op) nv nv place len b accepts p.good size p.blocks (left_bytes image op place len leaves p.valid.inside.recovery) refl in
      record {
        says = p.says;
        store_size = p.store_size;
        valid = subst (λ (n : ℕ). IsValidLayout (layout_of fuses.provision b) n) (sym size) p.valid;
        blocks = subst (λ (n : ℕ). n % 65536 ≡ 0) (sym size) p.blocks;
        good = again.0;
        digest = again.1.digest ∙ p.digest;
        manifest = again.1.manifest ∙ p.manifest;
      }

  standing_logged : (image nv : List ℕ) (op : Operation) → IsStandingIn image nv → IsInLog b op → IsStandingIn image (applied nv op)
  standing_logged image nv op p own =
      let is : fuses_of (applied nv op) ≡ fuses_of nv = logs_same nv op p.store_size (own_logs b op own) in
      let kept = good_with image nv (applied nv op) place len b accepts p.good is in
      record {
        says = is ∙ p.says;
        store_size = length-applied nv op ∙ p.store_size;
        valid = p.valid;
        blocks = p.blocks;
        good = kept.0;
        digest = ap (λ (c : CapsuleState). c.digest) kept.1 ∙ p.digest;
        manifest = ap (λ (c : CapsuleState). c.manifest) kept.1 ∙ p.manifest;
      }

  by_bank : (which : Device) (op : Operation) (story : Story) → which ≡ device_of b → Leaves place len op → IsStanding story → IsStanding (operated which op story)
  by_bank which op story e leaves p =
      subst (λ (d : Device). IsStanding (operated d op story)) (sym e)
      (subst (λ (nv : List ℕ). IsStandingIn (mine b (operated (device_of b) op story)) nv) (sym (store_operated b op story))
      (subst (λ (image : List ℕ). IsStandingIn image (store story)) (sym (image_operated (device_of b) op story)) (standing_left (mine b story) (store story) op p leaves)))

  by_store : (which : Device) (op : Operation) (story : Story) → which ≡ device.Nv → IsInLog b op → IsStanding story → IsStanding (operated which op story)
  by_store which op story e own p =
      subst (λ (d : Device). IsStanding (operated d op story)) (sym e)
      (subst (λ (image : List ℕ). IsStandingIn image (store (operated device.Nv op story))) (sym (mine_operated b op story))
      (subst (λ (nv : List ℕ). IsStandingIn (mine b story) nv) (sym (image_operated device.Nv op story)) (standing_logged (mine b story) (store story) op p own)))

  -- Such moves leave it so.
  pub tame_keeps : Keeps (Tame b (layout_of fuses.provision b).recovery_at (layout_of fuses.provision b).area_len) IsStanding
  tame_keeps (Says w) story g p = subst (λ (image : List ℕ). IsStandingIn image (store story)) (sym (image_noted (device_of b) w story)) p
  tame_keeps (Does which op) story (inl (e, leaves)) p = by_bank which op story e leaves p
  tame_keeps (Does which op) story (inr (e, own)) p = by_store which op story e own p
  tame_keeps (Asks which) story g p = p

-- of another one with the same digest and the same manifest too
pub standing_as : (accepts : Acceptance) (b : Bank) (fuses : FusesState) (one other : CapsuleState) (image nv : List ℕ) → one.digest ≡ other.digest → one.manifest ≡ other.manifest
    → IsStandingIn accepts b fuses one image nv → IsStandingIn accepts b fuses other image nv
standing_as accepts b fuses one other image nv digest manifest p = record {
  says = p.says;
  store_size = p.store_size;
  valid = p.valid;
  blocks = p.blocks;
  good = p.good;
  digest = p.digest ∙ digest;
  manifest = p.manifest ∙ manifest;
}

-- ---- calls of the store, and the deeds of a job
module _ (b : Bank) (from len : ℕ) where
  called_tame : (ops : List Operation) (story : Story) → AllInLog b ops → AllSafe (Tame b from len) (called device.Nv ops) story
  called_tame [] story own = (tt, tt)
  called_tame (op ∷ ops) story own =
      ((inr (refl, own.0), λ done t. inr (refl, torn_within (log_at b) 0x3000 (store story) op done t own.0)), called_tame ops (operated device.Nv op story) own.1)

  deeds_tame : (at : ℕ) (deeds : List Deed) (story : Story) → AllWork from len at deeds → AllOwnDeeds b deeds → AllSafe (Tame b from len) (deed_moves b deeds) story
  deeds_tame at [] story work own = tt
  deeds_tame at (AsksSide s ∷ deeds) story work own = (tt, deeds_tame at deeds story work.1 own.1)
  deeds_tame at (DoesSide side.Bank op ∷ deeds) story work own =
      ((inl (refl, work.0.0), λ done t. inl (refl, leaves_torn (mine b story) from len op done t work.0.0)), deeds_tame at deeds (operated (device_of b) op story) work.1 own.1)
  deeds_tame at (DoesSide side.Store op ∷ deeds) story work own =
      ((inr (refl, own.0), λ done t. inr (refl, torn_within (log_at b) 0x3000 (store story) op done t own.0)), deeds_tame at deeds (operated device.Nv op story) work.1 own.1)

  told_tame : (that : What) (moves : List Move) (story : Story) → AllSafe (Tame b from len) moves story → AllSafe (Tame b from len) (moves ++ Says (λ _. that) ∷ []) story
  told_tame that moves story safe = AllSafe-append (Tame b from len) moves (Says (λ _. that) ∷ []) story safe (tt, tt)

-- ---- a restore
module _ (accepts : Acceptance) (b : Bank) (fuses : FusesState) (level : ℕ) (capsule : CapsuleState) where
  abbrev layout : Layout
  layout = layout_of fuses.provision b

  abbrev HaveRegions : ℕ → Type 0
  HaveRegions size = All (IsRegion (layout_of fuses.provision b) size) capsule.manifest.regions

  worked_tame : (story : Story) → IsValidLayout layout (length (mine b story)) → HaveRegions (length (mine b story))
      → AllSafe (Tame b layout.recovery_at layout.area_len) (worked b (ActiveFromRecovery level) fuses capsule story) story
  unfolding active_heeding active_pages
  worked_tame story valid regions =
      let image : List ℕ = mine b story in
      deeds_tame b layout.recovery_at layout.area_len (current_at (store story) b) (active_heeding (ActiveFromRecovery level) b image (store story) capsule layout) story
      (active_work (ActiveFromRecovery level) b image (store story) capsule layout valid regions)
      (heeding_own b (store story) (active_page image capsule layout) (length image) (active_pages (ActiveFromRecovery level) image capsule layout)
      (λ page one. ((pages_are (is_active_page (ActiveFromRecovery level) image capsule layout) (length image / 4096)).only page one).0))

  written_tame : (story : Story) → IsValidLayout layout (length (mine b story)) → HaveRegions (length (mine b story))
      → AllSafe (Tame b layout.recovery_at layout.area_len) (written_over b (ActiveFromRecovery level) fuses capsule story) story
  unfolding active_ignoring
  written_tame story valid regions =
      let image : List ℕ = mine b story in
      deeds_tame b layout.recovery_at layout.area_len (current_at (store story) b) (active_ignoring (ActiveFromRecovery level) image capsule layout) story
      (active_over (ActiveFromRecovery level) b image (store story) capsule layout valid regions)
      (ignoring_own b (active_page image capsule layout) (group_pages (length image)) (active_pages (ActiveFromRecovery level) image capsule layout))

  restored_tame : (story : Story) → IsJobless b fuses story → judged_recovery accepts b fuses story ≡ Ok capsule → AllSafe (Tame b layout.recovery_at layout.area_len) (restored b level fuses capsule story) story
  restored_tame story p j = (tt, by_spent (is_spent (store story) b) refl)
    where
      that : What
      that = what.Restored b level

      regions : HaveRegions (length (mine b story))
      regions =
          let h = p.holds in
          regions_good accepts b fuses capsule story layout.recovery_at layout.area_len (found_good accepts b fuses capsule story h.provisioned h.layout h.bytes j) h.provisioned

      by_spent : (t : Bool) → is_spent (store story) b ≡ t → AllSafe (Tame b layout.recovery_at layout.area_len) (by_log t b (ActiveFromRecovery level) fuses capsule that story) story
      by_spent true e = told_tame b layout.recovery_at layout.area_len that (written_over b (ActiveFromRecovery level) fuses capsule story) story (written_tame story p.holds.layout regions)
      by_spent false e =
          let plan : List Operation = begin_plan (store story) b (ActiveFromRecovery level) capsule.digest in
          let begun : List Move = begun_job b (ActiveFromRecovery level) capsule.digest story in
          let there : Story = after begun story in
          let same : length (mine b there) ≡ length (mine b story) = ap (λ (image : List ℕ). length image) (mine_called b plan story) in
          let work : List Move = worked b (ActiveFromRecovery level) fuses capsule there in
          let left : Story = after work there in
          AllSafe-append (Tame b layout.recovery_at layout.area_len) begun (done_with b (ActiveFromRecovery level) fuses capsule that there) story
          (called_tame b layout.recovery_at layout.area_len plan story (found_begins accepts b fuses (ActiveFromRecovery level) capsule story j p.holds.store_size e))
          (AllSafe-append (Tame b layout.recovery_at layout.area_len) work (finished_job b left ++ Says (λ _. that) ∷ []) there
          (worked_tame there (subst (λ (n : ℕ). IsValidLayout layout n) (sym same) p.holds.layout) (subst HaveRegions (sym same) regions))
          (told_tame b layout.recovery_at layout.area_len that (finished_job b left) left (called_tame b layout.recovery_at layout.area_len (finish_plan (store left) b) left (finish_own (store left) b))))

-- ---- the check of a bank of which no job is open
module _ (accepts : Acceptance) (b : Bank) (now : FusesState) where
  abbrev Own : Rule
  Own = Tame b (layout_of now.provision b).recovery_at (layout_of now.provision b).area_len

  abbrev Fit : FusesState → Story → Type 0
  Fit fuses story = (fuses ≡ now) × IsJobless b now story

  restores_tame : (fuses : FusesState) (capsule : CapsuleState) (story : Story) → Fit fuses story → judged_recovery accepts b fuses story ≡ Ok capsule → AllSafe Own (restored b 1 fuses capsule story) story
  restores_tame fuses capsule story p j =
      subst (λ (f : FusesState). AllSafe Own (restored b 1 f capsule story) story) (sym p.0)
      (restored_tame accepts b now 1 capsule story p.1 (subst (λ (f : FusesState). judged_recovery accepts b f story ≡ Ok capsule) p.0 j))

  tame_walks : Walks Own accepts b (λ story. ⊥) (IsJobless b now) Fit (λ fuses cause story. Fit fuses story) (λ fuses story. Unit {0})
  tame_walks = record {
    asks = λ which story own. tt;
    resumes = λ fuses story q e. absurd q;
    unset = λ cause story q e. tt;
    ready = λ fuses story s e. (fuses_one (store story) fuses now (ready_found b fuses story e).provisioned s.holds.provisioned, s);
    unready = λ cause story s e. tt;
    released = λ fuses m story p j. tt;
    untrusted = λ fuses cause story p j. (tt, (p.0, record { holds = holds_noted b now (λ _. what.Untrusted b cause) story p.1.holds; none = p.1.none }));
    no_image = λ fuses cause other story p j. tt;
    restores = λ fuses cause capsule story p j. (restores_tame fuses capsule story p j, tt);
    again = λ fuses m story r j. tt;
  }

  -- The check leaves the recovery area.
  pub tail_tame : (story : Story) → IsJobless b now story → AllSafe (Tame b (layout_of now.provision b).recovery_at (layout_of now.provision b).area_len) (checked_then accepts b story) story
  tail_tame story p = then_safe Own accepts b (λ here. ⊥) (IsJobless b now) Fit (λ fuses cause here. Fit fuses here) (λ fuses here. Unit {0}) tame_walks story p
