-- What a verdict tells is so, and what is so it tells.
use Rattle.std.proofs.Common.{◌≡◌, ◌∙◌, refl, sym, ap, subst, ◌↔◌, ℕ, List, length, Bool, true, false, IsTrue, Result, Ok, Err, IfOk}
use Rattle.std.specs.Cmp.Lexicographic.{same_text, other_text}
use Rattle.std.proofs.lemmas.Cmp.{nat_list_eq_equiv}
use Rattle.pfr_flash.specs.Layout.{judge_layout}
use Rattle.pfr_flash.specs.declared.layout.Layout.{Layout}
use Rattle.pfr_flash.specs.declared.layout.LayoutRule.{LayoutRule}
use Rattle.pfr_flash.specs.declared.names.Bank.{Bank}
use Rattle.pfr_flash.proofs.LayoutLemmas.{valid_judged}
use Rattle.pfr_engine.specs.Acceptance.{Acceptance}
use Rattle.pfr_manifest.specs.Manifest.{IsManifestOf}
use Rattle.pfr_manifest.specs.Spelling.{manifest_bytes}
use Rattle.pfr_manifest.specs.declared.manifest.Manifest.{Manifest}
use Rattle.pfr_manifest.proofs.SameLemmas.{same_texts}
use Rattle.pfr_fuses.specs.FuseMap.{IsFloor}
use Rattle.pfr_fuses.specs.FusesState.{FusesState, floor_of}
use Rattle.pfr_fuses.specs.FusesOf.{fuses_of}
use Rattle.pfr_fuses.specs.RootSlot.{layout_of}
use Rattle.pfr_fuses.specs.declared.fuse_fail.FuseFail.{FuseFail}
use Rattle.pfr_fuses.specs.declared.fuse_fail.FuseFail.TheVariants as fuse
use Rattle.pfr_fuses.proofs.StandsLemmas.{fuses_of-stands, kept_floor}
use Rattle.pfr_capsule.specs.CapsuleState.{CapsuleState}
use Rattle.pfr_capsule.specs.Good.{IsGood}
use Rattle.pfr_capsule.specs.declared.fail.CapsuleFail.{CapsuleFail}
use Rattle.pfr_capsule.proofs.GoodLaw.{good_found}
use Rattle.pfr_auth.specs.Areas.{judge_area}
use Rattle.pfr_auth.specs.Judge.{judge_active}
use Rattle.pfr_auth.specs.declared.areas.Area.{Area}
use Rattle.pfr_auth.specs.declared.areas.Area.TheVariants.{Recovery, Staging}
use Rattle.pfr_auth.specs.declared.fail.ActiveFail.{ActiveFail}
use Rattle.pfr_auth.proofs.TrustedLaw.{stands_whole, trusted_found}
use Rattle.pfr_report.specs.declared.verdict.BankVerdict.{BankVerdict}
use Rattle.pfr_jobs.specs.Log.{open_job}
use Rattle.pfr_jobs.specs.LogState.{LogState, log_of}
use Rattle.pfr_jobs.specs.declared.job.OpenJob.{OpenJob}
use Rattle.pfr_report.specs.declared.verdict.Standing.{Standing}
use Rattle.pfr_report.specs.declared.verdict.Standing.TheVariants.{Ready, Unprovisioned, SlotsSpent, LayoutBad}
use Rattle.pfr_story.specs.UpdatePlans.{spell_same}
use Rattle.pfr_machine.specs.Verdicts.{HasGood, HasSameManifest, HasTrusted, IsVerdict, images_of, job_told, ready, ready_if, share_manifest, svn_of_capsule, svn_of_image, verdict_of, verdict_with}
use Rattle.pfr_machine.specs.VerdictsInside.{AreOne, IsBorneOut, IsGoodIn, IsSound, TellsImages, tells}
use Rattle.pfr_machine.proofs.JudgeLemmas.{stands_bank}

-- ---- whether two manifests have one text

by_texts : (m n : Manifest) (layout : Layout) (size : ℕ) → IsManifestOf (manifest_bytes m) m layout size → IsManifestOf (manifest_bytes n) n layout size
    → (r s : Bool) → s ≡ spell_same m n → (IsTrue r ↔ n ≡ m) → r ≡ s
by_texts m n layout size is also true true e both = refl
by_texts m n layout size is also false false e both = refl
by_texts m n layout size is also true false e both = absurd (other_text (manifest_bytes m) (manifest_bytes n) e (ap manifest_bytes (sym (both.0 refl))))
by_texts m n layout size is also false true e both = both.1 (sym (same_texts m n layout size is also (same_text (manifest_bytes m) (manifest_bytes n) e)))

spelled : (bytes : List ℕ) (m : Manifest) (layout : Layout) (size : ℕ) → IsManifestOf bytes m layout size → IsManifestOf (manifest_bytes m) m layout size
spelled bytes m layout size is = subst (λ (text : List ℕ). IsManifestOf text m layout size) is.spelled is

-- ---- what was judged well in the image of a bank with these fuses
module _ (bank : Bank) (image nv : List ℕ) (accepts : Acceptance) (fuses : FusesState) (is : fuses_of nv ≡ Ok fuses) where
  image_spelled : (m : Manifest) → IsBorneOut bank image fuses accepts m → IsManifestOf (manifest_bytes m) m (layout_of fuses.provision bank) (length image)
  image_spelled m borne =
      let t = borne nv is in
      let provisioned = t.0.provisioned in
      let e : t.0.fuses ≡ fuses = cc in
      subst (λ (x : Manifest). IsManifestOf (manifest_bytes x) x (layout_of fuses.provision bank) (length image)) t.1
      (subst (λ (f : FusesState). IsManifestOf (manifest_bytes t.0.manifest) t.0.manifest (layout_of f.provision bank) (length image)) e (spelled _ t.0.manifest _ _ t.0.spelled))

  capsule_spelled : (area : Area) (found : CapsuleState) → IsGoodIn area bank image fuses accepts found
      → IsManifestOf (manifest_bytes found.manifest) found.manifest (layout_of fuses.provision bank) (length image)
  capsule_spelled area found good =
      let g = good nv is in
      let provisioned = g.0.provisioned in
      let e : g.0.fuses ≡ fuses = cc in
      let m : g.0.parts.manifest ≡ found.manifest = ap (λ (c : CapsuleState). c.manifest) (sym g.0.found ∙ g.1) in
      subst (λ (x : Manifest). IsManifestOf (manifest_bytes x) x (layout_of fuses.provision bank) (length image)) m
      (subst (λ (f : FusesState). IsManifestOf (manifest_bytes g.0.parts.manifest) g.0.parts.manifest (layout_of f.provision bank) (length image)) e (spelled _ g.0.parts.manifest _ _ g.0.signed.spelled))

  shares : (r : Bool) (active : Result Manifest ActiveFail) (staged : Result CapsuleState CapsuleFail) → IfOk active (IsBorneOut bank image fuses accepts)
      → IfOk staged (IsGoodIn Staging bank image fuses accepts) → (IsTrue r ↔ AreOne active staged) → r ≡ share_manifest active staged
  shares r (Ok m) (Ok found) borne good both =
      by_texts m found.manifest (layout_of fuses.provision bank) (length image) (image_spelled m borne) (capsule_spelled Staging found good) r (spell_same m found.manifest) refl both
  shares true (Ok m) (Err cause) borne good both = absurd (both.0 refl)
  shares false (Ok m) (Err cause) borne good both = refl
  shares true (Err cause) staged borne good both = absurd (both.0 refl)
  shares false (Err cause) staged borne good both = refl

  -- the verdict of a bank that is ready is by what was judged
  pub told_ready : (v : BankVerdict) (floor : ℕ) (active : Result Manifest ActiveFail) (recovery staged : Result CapsuleState CapsuleFail)
      → v ≡ tells floor active recovery staged v.same_manifest → (IsTrue v.same_manifest ↔ AreOne active staged)
      → IfOk active (IsBorneOut bank image fuses accepts) → IfOk staged (IsGoodIn Staging bank image fuses accepts)
      → floor ≡ floor_of fuses bank → active ≡ judge_active image bank fuses accepts → recovery ≡ judge_area Recovery bank image fuses accepts → staged ≡ judge_area Staging bank image fuses accepts
      → v ≡ ready bank image fuses accepts
  told_ready v floor active recovery staged e both borne good a b d f =
      e ∙ ap (λ (same : Bool). tells floor active recovery staged same) (shares v.same_manifest active staged borne good both)
      ∙ (rw (a, b, d, f) refl)

  image_told : (active : Result Manifest ActiveFail) → IfOk active (IsBorneOut bank image fuses accepts) → IfOk (svn_of_image active) (λ svn. HasTrusted svn bank image nv accepts)
  image_told (Ok m) borne = let t = borne nv is in record { trusted = t.0; numbered = ap (λ (x : Manifest). x.svn) t.1 }
  image_told (Err cause) borne = tt

  capsule_told : (area : Area) (found : Result CapsuleState CapsuleFail) → IfOk found (IsGoodIn area bank image fuses accepts) → IfOk (svn_of_capsule found) (λ svn. HasGood area svn bank image nv accepts)
  capsule_told area (Ok found) good =
      let g = good nv is in record { fuses = fuses; provisioned = is; good = g.0; numbered = ap (λ (x : CapsuleState). x.manifest.svn) g.1 }
  capsule_told area (Err cause) good = tt

  same_told : (active : Result Manifest ActiveFail) (staged : Result CapsuleState CapsuleFail) → IfOk active (IsBorneOut bank image fuses accepts)
      → IfOk staged (IsGoodIn Staging bank image fuses accepts) → AreOne active staged → HasSameManifest bank image nv accepts
  same_told (Ok m) (Ok found) borne good one =
      let t = borne nv is in
      let g = good nv is in
      let e : t.0.manifest ≡ g.0.parts.manifest = t.1 ∙ sym one ∙ ap (λ (c : CapsuleState). c.manifest) (sym g.1 ∙ g.0.found) in
      record {
        trusted = t.0;
        fuses = fuses;
        provisioned = is;
        staged = g.0;
        same = t.0.spelled.spelled ∙ ap manifest_bytes e ∙ sym g.0.signed.spelled.spelled;
      }
  same_told (Ok m) (Err cause) borne good one = absurd one
  same_told (Err cause) staged borne good one = absurd one

  -- and it is sound
  pub told_sound : (v : BankVerdict) (floor : ℕ) (active : Result Manifest ActiveFail) (recovery staged : Result CapsuleState CapsuleFail)
      → v ≡ tells floor active recovery staged v.same_manifest → (IsTrue v.same_manifest ↔ AreOne active staged)
      → IfOk active (IsBorneOut bank image fuses accepts) → IfOk recovery (IsGoodIn Recovery bank image fuses accepts) → IfOk staged (IsGoodIn Staging bank image fuses accepts)
      → IsSound v bank image nv accepts
  told_sound v floor active recovery staged e both borne good staged_good = record {
    active = subst (λ (x : Result ℕ ActiveFail). IfOk x (λ svn. HasTrusted svn bank image nv accepts)) (sym (ap (λ (x : BankVerdict). x.active) e)) (image_told active borne);
    recovery = subst (λ (x : Result ℕ CapsuleFail). IfOk x (λ svn. HasGood Recovery svn bank image nv accepts)) (sym (ap (λ (x : BankVerdict). x.recovery) e)) (capsule_told Recovery recovery good);
    staging = subst (λ (x : Result ℕ CapsuleFail). IfOk x (λ svn. HasGood Staging svn bank image nv accepts)) (sym (ap (λ (x : BankVerdict). x.staging) e)) (capsule_told Staging staged staged_good);
    same_manifest = λ yes. same_told active staged borne staged_good (both.0 yes);
  }

-- ---- what is so is told
module _ (bank : Bank) (image nv : List ℕ) (accepts : Acceptance) where
  trusted_told : (svn : ℕ) → HasTrusted svn bank image nv accepts → (images_of bank image nv accepts).active ≡ Ok svn
  unfolding images_of
  trusted_told svn h =
      let t = h.trusted in
      let valid = valid_judged (layout_of t.fuses.provision bank) (length image) t.layout in
      let judged = trusted_found image nv bank accepts t.fuses (stands_whole nv t.fuses bank t.provisioned) t in
      rw (t.provisioned, valid, judged) (ap (λ (x : ℕ). Ok x) h.numbered)

  valid_for : (place len : ℕ) (fuses : FusesState) → fuses_of nv ≡ Ok fuses → IsGood image place len nv bank accepts → judge_layout (layout_of fuses.provision bank) (length image) ≡ Ok tt
  valid_for place len fuses is g =
      let provisioned = g.provisioned in
      let e : g.fuses ≡ fuses = cc in
      subst (λ (f : FusesState). judge_layout (layout_of f.provision bank) (length image) ≡ Ok tt) e (valid_judged (layout_of g.fuses.provision bank) (length image) g.layout)

  recovery_told : (svn : ℕ) → HasGood Recovery svn bank image nv accepts → (images_of bank image nv accepts).recovery ≡ Ok svn
  unfolding images_of
  recovery_told svn h =
      let valid = valid_for _ _ h.fuses h.provisioned h.good in
      let judged = good_found image nv _ _ bank accepts h.fuses (stands_bank nv h.fuses bank h.provisioned) h.good in
      rw (h.provisioned, valid, judged) (ap (λ (x : ℕ). Ok x) h.numbered)

  staging_told : (svn : ℕ) → HasGood Staging svn bank image nv accepts → (images_of bank image nv accepts).staging ≡ Ok svn
  unfolding images_of
  staging_told svn h =
      let valid = valid_for _ _ h.fuses h.provisioned h.good in
      let judged = good_found image nv _ _ bank accepts h.fuses (stands_bank nv h.fuses bank h.provisioned) h.good in
      rw (h.provisioned, valid, judged) (ap (λ (x : ℕ). Ok x) h.numbered)

  one_text : (h : HasSameManifest bank image nv accepts) → manifest_bytes h.trusted.manifest ≡ manifest_bytes h.staged.capsule.manifest
  one_text h =
      let e : h.staged.parts.manifest ≡ h.staged.capsule.manifest = ap (λ (c : CapsuleState). c.manifest) (sym h.staged.found) in
      sym h.trusted.spelled.spelled ∙ h.same ∙ h.staged.signed.spelled.spelled ∙ ap manifest_bytes e

  same_manifest_told : HasSameManifest bank image nv accepts → IsTrue (images_of bank image nv accepts).same_manifest
  unfolding images_of
  same_manifest_told h =
      let valid = valid_for _ _ h.fuses h.provisioned h.staged in
      let active = trusted_found image nv bank accepts h.fuses (stands_whole nv h.fuses bank h.provisioned) h.trusted in
      let staged = good_found image nv _ _ bank accepts h.fuses (stands_bank nv h.fuses bank h.provisioned) h.staged in
      rw (h.provisioned, valid, active, staged, one_text h) (nat_list_eq_equiv.refl (manifest_bytes h.staged.capsule.manifest))

  exact_images : (v : BankVerdict) → v ≡ images_of bank image nv accepts → IsSound v bank image nv accepts → TellsImages v bank image nv accepts
  exact_images v e s = record {
    active = λ svn. ((λ told. rw told at s.active), (λ h. ap (λ (x : BankVerdict). x.active) e ∙ trusted_told svn h));
    recovery = λ svn. ((λ told. rw told at s.recovery), (λ h. ap (λ (x : BankVerdict). x.recovery) e ∙ recovery_told svn h));
    staging = λ svn. ((λ told. rw told at s.staging), (λ h. ap (λ (x : BankVerdict). x.staging) e ∙ staging_told svn h));
    same_manifest = (s.same_manifest, λ h. ap (λ (x : BankVerdict). x.same_manifest) e ∙ same_manifest_told h);
  }

  -- ---- what the log has open is told besides
  job_verdict : (opened : OpenJob) → opened ≡ open_job nv bank → (s : Standing) (v : BankVerdict) → s ≡ v.standing → TellsImages v bank image nv accepts → IsVerdict (job_told s opened v) bank image nv accepts
  job_verdict opened e Ready v standing t = record { active = t.active; recovery = t.recovery; staging = t.staging; same_manifest = t.same_manifest; job = λ ready. e }
  job_verdict opened e Unprovisioned v standing t = record { active = t.active; recovery = t.recovery; staging = t.staging; same_manifest = t.same_manifest; job = λ ready. absurd cc }
  job_verdict opened e SlotsSpent v standing t = record { active = t.active; recovery = t.recovery; staging = t.staging; same_manifest = t.same_manifest; job = λ ready. absurd cc }
  job_verdict opened e (LayoutBad rule) v standing t = record { active = t.active; recovery = t.recovery; staging = t.staging; same_manifest = t.same_manifest; job = λ ready. absurd cc }

  -- ---- of a store of which this was found
  module _ (found : Result FusesState FuseFail) (is : found ≡ fuses_of nv) where
    by_store : (v : BankVerdict) → (fuses_of nv ≡ found → v ≡ verdict_with bank image accepts found) → v ≡ images_of bank image nv accepts
    unfolding images_of
    by_store v told = told (sym is) ∙ ap (λ (f : Result FusesState FuseFail). verdict_with bank image accepts f) is

    abbrev IsBy : BankVerdict → Type 0
    IsBy v = (store : List ℕ) → fuses_of store ≡ found → v ≡ verdict_with bank image accepts found

    abbrev IsSoundBy : BankVerdict → Type 0
    IsSoundBy v = (store : List ℕ) → fuses_of store ≡ found → IsSound v bank image store accepts

    -- with what the log has open
    module _ (opened : OpenJob) (log : opened ≡ open_job nv bank) where
      pub told_is : (v told : BankVerdict) → told ≡ job_told v.standing opened v → IsBy v → told ≡ verdict_of bank image nv accepts
      told_is v told e by =
          e ∙ ap (λ (j : OpenJob). job_told v.standing j v) log ∙ ap (λ (x : BankVerdict). job_told x.standing (open_job nv bank) x) (by_store v (by nv))

      pub told_means : (v told : BankVerdict) → told ≡ job_told v.standing opened v → IsBy v → IsSoundBy v → IsVerdict told bank image nv accepts
      told_means v told e by sound =
          subst (λ (x : BankVerdict). IsVerdict x bank image nv accepts) (sym (e ∙ ap (λ (j : OpenJob). job_told v.standing j v) log))
          (job_verdict (open_job nv bank) refl v.standing v refl (exact_images v (by_store v (by nv)) (sound nv (sym is))))

  -- ---- the floor of a bank that is ready
  floor_by : (judged : Result (Unit {0}) LayoutRule) (v : BankVerdict) → IsFloor nv bank v.floor → (ready_if judged v).standing ≡ Ready → IsFloor nv bank (ready_if judged v).floor
  floor_by (Ok valid) v floor standing = floor
  floor_by (Err rule) v floor standing = cc

  floor_with : (found : Result FusesState FuseFail) → length nv ≡ 32768 → fuses_of nv ≡ found → (verdict_with bank image accepts found).standing ≡ Ready
      → IsFloor nv bank (verdict_with bank image accepts found).floor
  floor_with (Ok fuses) long is standing =
      floor_by (judge_layout (layout_of fuses.provision bank) (length image)) (ready bank image fuses accepts) (kept_floor nv fuses bank ((fuses_of-stands nv fuses long is).floors bank)) standing
  floor_with (Err fuse.SlotsSpent) long is standing = cc
  floor_with (Err _) long is standing = cc

  floor_of_images : length nv ≡ 32768 → (images_of bank image nv accepts).standing ≡ Ready → IsFloor nv bank (images_of bank image nv accepts).floor
  unfolding images_of
  floor_of_images long standing = floor_with (fuses_of nv) long refl standing

  job_floor : (opened : OpenJob) (s : Standing) (v : BankVerdict) → (v.standing ≡ Ready → IsFloor nv bank v.floor) → (job_told s opened v).standing ≡ Ready → IsFloor nv bank (job_told s opened v).floor
  job_floor opened Ready v floor ready = floor ready
  job_floor opened Unprovisioned v floor ready = floor ready
  job_floor opened SlotsSpent v floor ready = floor ready
  job_floor opened (LayoutBad rule) v floor ready = floor ready

  pub floor_told : (told : BankVerdict) → length nv ≡ 32768 → told ≡ verdict_of bank image nv accepts → told.standing ≡ Ready → IsFloor nv bank told.floor
  floor_told told long e =
      subst (λ (x : BankVerdict). x.standing ≡ Ready → IsFloor nv bank x.floor) (sym e)
      (job_floor (open_job nv bank) (images_of bank image nv accepts).standing (images_of bank image nv accepts) (floor_of_images long))

-- what a log that was loaded has open is that of the store as it was before its reads
pub job_by : (opened : OpenJob) (log : LogState) (bank : Bank) (nv later : List ℕ) → opened ≡ log.job → log ≡ log_of later bank → later ≡ nv → opened ≡ open_job nv bank
job_by opened log bank nv later e found same = e ∙ ap (λ (l : LogState). l.job) found ∙ ap (λ (bytes : List ℕ). open_job bytes bank) same
