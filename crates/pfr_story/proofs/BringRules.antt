-- When each move that brings a bank up, or back, or that updates it, is safe: what has to be shown at each of its steps.
use Rattle.std.proofs.Common.{◌≡◌, refl, sym, subst, ℕ, Bool, true, false, List, [], ◌∷◌, ◌++◌, length, ◌⊎◌, inl, inr, Result, Ok, Err}
use Rattle.std.specs.Prelude.{nat_lt}
use Rattle.pfr_flash.specs.Judging.{◌>>◌, told_as}
use Rattle.pfr_flash.specs.Layout.{IsValidLayout, judge_layout}
use Rattle.pfr_flash.specs.declared.layout.LayoutRule.{LayoutRule}
use Rattle.pfr_flash.specs.declared.names.Bank.{Bank}
use Rattle.pfr_flash.specs.declared.names.Counts.{Counts}
use Rattle.pfr_flash.specs.declared.names.Device.{Device}
use Rattle.pfr_flash.specs.declared.names.Device.TheVariants as device
use Rattle.pfr_flash.proofs.LayoutLemmas.{judged_valid, valid_judged}
use Rattle.pfr_engine.specs.Acceptance.{Acceptance}
use Rattle.pfr_fuses.specs.FusesState.{FusesState}
use Rattle.pfr_fuses.specs.FusesOf.{fuses_of}
use Rattle.pfr_fuses.specs.RootSlot.{layout_of}
use Rattle.pfr_fuses.specs.declared.fuse_fail.FuseFail.{FuseFail}
use Rattle.pfr_manifest.specs.declared.manifest.Manifest.{Manifest}
use Rattle.pfr_capsule.specs.CapsuleState.{CapsuleState}
use Rattle.pfr_capsule.specs.declared.fail.CapsuleFail.{CapsuleFail}
use Rattle.pfr_auth.specs.declared.fail.ActiveFail.{ActiveFail}
use Rattle.pfr_cert.specs.Applying.{judge_apply}
use Rattle.pfr_cert.specs.declared.cert.Cert.{Cert}
use Rattle.pfr_cert.specs.declared.fail.CertFail.{CertFail}
use Rattle.pfr_jobs.specs.LogState.{is_spent}
use Rattle.pfr_script.specs.declared.event.Intent.{Intent}
use Rattle.pfr_script.specs.declared.event.Intent.TheVariants.{Active, Full, Recovery, Cert as CertIntent}
use Rattle.pfr_report.specs.declared.note.LockWhy.{LockWhy}
use Rattle.pfr_report.specs.declared.note.LockWhy.TheVariants as why
use Rattle.pfr_report.specs.declared.note.Refusal.{Refusal}
use Rattle.pfr_report.specs.declared.note.Refusal.TheVariants as refusing
use Rattle.pfr_report.specs.declared.note.What.{What}
use Rattle.pfr_report.specs.declared.note.What.TheVariants as what
use Rattle.pfr_story.specs.Guards.{guard_at}
use Rattle.pfr_story.specs.JobPlans.{job_notes, recovery_job, resumed}
use Rattle.pfr_story.specs.Plans.{mine, store, restored, by_second, checked_again, judged_active, judged_staging, judged_recovery, by_recovery, by_active, tail, ready_in, ready_of, by_fuses, checked_then, by_ready, brought_up, level_after, by_capsule, recovered_with, by_level, expired_to, expired}
use Rattle.pfr_story.specs.Safety.{Rule, AllSafe, AllMake}
use Rattle.pfr_story.specs.Story.{Story, Move, Says, Does, Asks, after, moved_by, noted, device_of}
use Rattle.pfr_story.specs.UpdatePlans.{refused_so, updated, by_staged, active_updated, has_manifest, standing_capsule, by_room, by_manifest, by_new_recovery, recovery_updated, judged_cert, cancelled_key, by_use, by_cert, key_cancelled, by_intent, updated_with, updating}
use Rattle.pfr_story.proofs.SafetyLaws.{AllSafe-append, image_noted}

abbrev pub Any : Story → Type 0
Any story = Unit {0}

-- ---- the fuses by which a bank is checked
-- its fuses are these, and its layout is valid
pub record IsReady (b : Bank) (fuses : FusesState) (story : Story) : Type 0 where
  pub provisioned : fuses_of (store story) ≡ Ok fuses
  pub layout : IsValidLayout (layout_of fuses.provision b) (length (mine b story))

pub ready_noted : (b : Bank) (fuses : FusesState) (w : Counts → What) (story : Story) → IsReady b fuses story → IsReady b fuses (noted w story)
ready_noted b fuses w story r =
    let same : mine b story ≡ mine b (noted w story) = sym (image_noted (device_of b) w story) in
    record { provisioned = r.provisioned; layout = subst (λ (image : List ℕ). IsValidLayout (layout_of fuses.provision b) (length image)) same r.layout }

ready_by_layout : (b : Bank) (fuses found : FusesState) (story : Story) (judged : Result (Unit {0}) LayoutRule) → fuses_of (store story) ≡ Ok found
    → judge_layout (layout_of found.provision b) (length (mine b story)) ≡ judged → (told_as (λ rule. why.Layout rule) judged >> Ok found) ≡ Ok fuses → IsReady b fuses story
ready_by_layout b fuses found story (Ok valid) f l e =
    let same : found ≡ fuses = cc in subst (λ (x : FusesState). IsReady b x story) same (record { provisioned = f; layout = judged_valid _ _ l })
ready_by_layout b fuses found story (Err rule) f l e = absurd cc

ready_by_read : (b : Bank) (fuses : FusesState) (story : Story) (read : Result FusesState FuseFail) → fuses_of (store story) ≡ read → ready_in b (length (mine b story)) read ≡ Ok fuses → IsReady b fuses story
ready_by_read b fuses story (Ok found) f e = ready_by_layout b fuses found story (judge_layout (layout_of found.provision b) (length (mine b story))) f refl e
ready_by_read b fuses story (Err cause) f e = absurd cc

pub ready_found : (b : Bank) (fuses : FusesState) (story : Story) → ready_of b story ≡ Ok fuses → IsReady b fuses story
ready_found b fuses story e = ready_by_read b fuses story (fuses_of (store story)) refl e

pub ready_is : (b : Bank) (fuses : FusesState) (story : Story) → fuses_of (store story) ≡ Ok fuses → IsValidLayout (layout_of fuses.provision b) (length (mine b story)) → ready_of b story ≡ Ok fuses
ready_is b fuses story f l = rw (f, valid_judged _ _ l) refl

-- ---- step by step
-- the devices that a bank's work calls
abbrev pub IsOwn : Bank → Device → Type 0
IsOwn b which = (which ≡ device_of b) ⊎ (which ≡ device.Nv)

-- What has to be shown behind Held, where Q holds: S holds where no job is open any more, P where the fuses are read, N where the
-- image was called untrusted, and R where the bank was restored.
pub record Walks (G : Rule) (accepts : Acceptance) (b : Bank) (Q S : Story → Type 0) (P : FusesState → Story → Type 0) (N : FusesState → ActiveFail → Story → Type 0) (R : FusesState → Story → Type 0) : Type 0 where
  pub asks : (which : Device) (story : Story) → IsOwn b which → G (Asks which) story
  pub resumes : (fuses : FusesState) (story : Story) → Q story → ready_of b story ≡ Ok fuses
      → AllSafe G (resumed (job_notes b) accepts b fuses story) story × S (after (resumed (job_notes b) accepts b fuses story) story)
  pub unset : (cause : LockWhy) (story : Story) → Q story → ready_of b story ≡ Err cause → G (Says (what.Locked b cause)) story
  pub ready : (fuses : FusesState) (story : Story) → S story → ready_of b story ≡ Ok fuses → P fuses story
  pub unready : (cause : LockWhy) (story : Story) → S story → ready_of b story ≡ Err cause → G (Says (what.Locked b cause)) story
  pub released : (fuses : FusesState) (m : Manifest) (story : Story) → P fuses story → judged_active accepts b fuses story ≡ Ok m → G (Says (what.Released b m.svn)) story
  pub untrusted : (fuses : FusesState) (cause : ActiveFail) (story : Story) → P fuses story → judged_active accepts b fuses story ≡ Err cause
      → G (Says (λ _. what.Untrusted b cause)) story × N fuses cause (noted (λ _. what.Untrusted b cause) story)
  pub no_image : (fuses : FusesState) (cause : ActiveFail) (other : CapsuleFail) (story : Story) → N fuses cause story → judged_recovery accepts b fuses story ≡ Err other
      → G (Says (what.Locked b (why.NoGoodImage cause other))) story
  pub restores : (fuses : FusesState) (cause : ActiveFail) (capsule : CapsuleState) (story : Story) → N fuses cause story → judged_recovery accepts b fuses story ≡ Ok capsule
      → AllSafe G (restored b 1 fuses capsule story) story × R fuses (after (restored b 1 fuses capsule story) story)
  pub again : (fuses : FusesState) (m : Manifest) (story : Story) → R fuses story → judged_active accepts b fuses story ≡ Ok m → G (Says (what.Released b m.svn)) story

-- how many recoveries there are by an expiry
abbrev pub level_at : Bank → Story → ℕ
level_at b story = level_after (guard_at b story.guards).watch

-- and what besides, where its watch expired to this level
pub record WalksBack (G : Rule) (accepts : Acceptance) (b : Bank) (level : ℕ) (S : Story → Type 0) (P R : FusesState → Story → Type 0) : Type 0 where
  pub spent : (story : Story) → nat_lt level 4 ≡ false → S story → G (Says (what.Locked b why.WatchdogSpent)) story
  pub no_recovery : (fuses : FusesState) (cause : CapsuleFail) (story : Story) → nat_lt level 4 ≡ true → P fuses story → judged_recovery accepts b fuses story ≡ Err cause
      → G (Says (what.Locked b (why.NoRecovery cause))) story
  pub restores : (fuses : FusesState) (capsule : CapsuleState) (story : Story) → nat_lt level 4 ≡ true → P fuses story → judged_recovery accepts b fuses story ≡ Ok capsule
      → AllSafe G (restored b level fuses capsule story) story × R fuses (after (restored b level fuses capsule story) story)

-- what is noted of an update that is refused, and where P holds behind it
abbrev pub Refuses : Rule → Bank → (FusesState → Story → Type 0) → FusesState → Refusal → Story → Type 0
Refuses G b P fuses cause story = G (Says (λ _. what.Refused b cause)) story × P fuses (noted (λ _. what.Refused b cause) story)

-- where its active image is updated
pub record WalksAnew (G : Rule) (accepts : Acceptance) (b : Bank) (dynamic : Bool) (P R : FusesState → Story → Type 0) : Type 0 where
  pub staged : (fuses : FusesState) (capsule : CapsuleState) (story : Story) → P fuses story → judged_staging accepts b fuses story ≡ Ok capsule
      → AllSafe G (updated b dynamic fuses capsule story) story × R fuses (after (updated b dynamic fuses capsule story) story)
  pub refused : (fuses : FusesState) (cause : CapsuleFail) (story : Story) → P fuses story → judged_staging accepts b fuses story ≡ Err cause → Refuses G b P fuses (refusing.Capsule cause) story

-- where its recovery area is
pub record WalksCopy (G : Rule) (accepts : Acceptance) (b : Bank) (S : Story → Type 0) (P : FusesState → Story → Type 0) : Type 0 where
  pub copies : (fuses : FusesState) (capsule : CapsuleState) (story : Story) → P fuses story → judged_staging accepts b fuses story ≡ Ok capsule
      → has_manifest capsule (judged_active accepts b fuses story) ≡ true → is_spent (store story) b ≡ false
      → AllSafe G (recovery_job (job_notes b).given_up (job_notes b).recovery_updated accepts b fuses capsule story) story
      × S (after (recovery_job (job_notes b).given_up (job_notes b).recovery_updated accepts b fuses capsule story) story)
  pub refused : (fuses : FusesState) (cause : CapsuleFail) (story : Story) → P fuses story → judged_staging accepts b fuses story ≡ Err cause → Refuses G b P fuses (refusing.Capsule cause) story
  pub differs : (fuses : FusesState) (capsule : CapsuleState) (story : Story) → P fuses story → judged_staging accepts b fuses story ≡ Ok capsule
      → has_manifest capsule (judged_active accepts b fuses story) ≡ false → Refuses G b P fuses refusing.ManifestDiffers story
  pub spent : (fuses : FusesState) (capsule : CapsuleState) (story : Story) → P fuses story → judged_staging accepts b fuses story ≡ Ok capsule
      → has_manifest capsule (judged_active accepts b fuses story) ≡ true → is_spent (store story) b ≡ true → Refuses G b P fuses refusing.JobsSpent story

-- what becomes of a certificate, by the capsule that stands in the recovery area
abbrev pub use_judged : Acceptance → Bank → FusesState → Cert → Story → Result (Unit {0}) CertFail
use_judged accepts b fuses cert story = judge_apply fuses cert (standing_capsule (judged_recovery accepts b fuses story))

-- where a key is cancelled
pub record WalksCert (G : Rule) (accepts : Acceptance) (b : Bank) (S : Story → Type 0) (P : FusesState → Story → Type 0) : Type 0 where
  pub cancels : (fuses : FusesState) (cert : Cert) (story : Story) → P fuses story → judged_cert accepts b fuses story ≡ Ok cert → use_judged accepts b fuses cert story ≡ Ok tt
      → AllSafe G (cancelled_key cert story) story × S (after (cancelled_key cert story) story)
  pub refused : (fuses : FusesState) (cause : CertFail) (story : Story) → P fuses story → judged_cert accepts b fuses story ≡ Err cause → Refuses G b P fuses (refusing.Cert cause) story
  pub kept : (fuses : FusesState) (cert : Cert) (cause : CertFail) (story : Story) → P fuses story → judged_cert accepts b fuses story ≡ Ok cert → use_judged accepts b fuses cert story ≡ Err cause
      → Refuses G b P fuses (refusing.Cert cause) story

-- whatever is updated
abbrev pub WalksUpdate : Rule → Acceptance → Bank → Intent → (Story → Type 0) → (FusesState → Story → Type 0) → (FusesState → Story → Type 0) → Type 0
WalksUpdate G accepts b Active S P R = WalksAnew G accepts b false P R
WalksUpdate G accepts b Full S P R = WalksAnew G accepts b true P R
WalksUpdate G accepts b Recovery S P R = WalksCopy G accepts b S P
WalksUpdate G accepts b CertIntent S P R = WalksCert G accepts b S P

module _ (G : Rule) (accepts : Acceptance) (b : Bank) (Q S : Story → Type 0) (P : FusesState → Story → Type 0) (N : FusesState → ActiveFail → Story → Type 0) (R : FusesState → Story → Type 0)
    (w : Walks G accepts b Q S P N R) where
  second_safe : (fuses : FusesState) (judged : Result Manifest ActiveFail) (story : Story) → R fuses story → judged_active accepts b fuses story ≡ judged → AllSafe G (by_second b judged story) story
  second_safe fuses (Ok m) story r j = (w.again fuses m story r j, tt)
  second_safe fuses (Err cause) story r j = tt

  -- what makes the image anew, and the second check behind it
  anew_safe : (fuses : FusesState) (moves : List Move) (story : Story) → AllSafe G moves story × R fuses (after moves story) → AllSafe G (moves ++ checked_again accepts b fuses (after moves story)) story
  anew_safe fuses moves story made =
      let there : Story = after moves story in
      AllSafe-append G moves (checked_again accepts b fuses there) story made.0 (w.asks (device_of b) there (inl refl), second_safe fuses (judged_active accepts b fuses there) there made.1 refl)

  recovery_safe : (fuses : FusesState) (cause : ActiveFail) (judged : Result CapsuleState CapsuleFail) (story : Story) → N fuses cause story → judged_recovery accepts b fuses story ≡ judged
      → AllSafe G (by_recovery accepts b fuses cause judged story) story
  recovery_safe fuses cause (Ok capsule) story n j = anew_safe fuses (restored b 1 fuses capsule story) story (w.restores fuses cause capsule story n j)
  recovery_safe fuses cause (Err other) story n j = (w.no_image fuses cause other story n j, tt)

  active_safe : (fuses : FusesState) (judged : Result Manifest ActiveFail) (story : Story) → P fuses story → judged_active accepts b fuses story ≡ judged → AllSafe G (by_active accepts b fuses judged story) story
  active_safe fuses (Ok m) story p j = (w.released fuses m story p j, tt)
  active_safe fuses (Err cause) story p j =
      let told : Story = noted (λ _. what.Untrusted b cause) story in
      let u = w.untrusted fuses cause story p j in
      (u.0, (w.asks (device_of b) told (inl refl), recovery_safe fuses cause (judged_recovery accepts b fuses told) told u.1 refl))

  pub tail_safe : (fuses : FusesState) (story : Story) → P fuses story → AllSafe G (tail accepts b fuses story) story
  tail_safe fuses story p = (w.asks (device_of b) story (inl refl), active_safe fuses (judged_active accepts b fuses story) story p refl)

  fuses_safe : (ready : Result FusesState LockWhy) (story : Story) → S story → ready_of b story ≡ ready → AllSafe G (by_fuses accepts b ready story) story
  fuses_safe (Ok fuses) story s e = tail_safe fuses story (w.ready fuses story s e)
  fuses_safe (Err cause) story s e = (w.unready cause story s e, tt)

  pub then_safe : (story : Story) → S story → AllSafe G (checked_then accepts b story) story
  then_safe story s = fuses_safe (ready_of b story) story s refl

  -- moves behind which no job is open, and the check behind them
  settled_safe : (moves : List Move) (story : Story) → AllSafe G moves story × S (after moves story) → AllSafe G (moves ++ checked_then accepts b (after moves story)) story
  settled_safe moves story done = AllSafe-append G moves (checked_then accepts b (after moves story)) story done.0 (then_safe (after moves story) done.1)

  ready_safe : (ready : Result FusesState LockWhy) (story : Story) → Q story → ready_of b story ≡ ready → AllSafe G (by_ready accepts b ready story) story
  ready_safe (Ok fuses) story q e = settled_safe (resumed (job_notes b) accepts b fuses story) story (w.resumes fuses story q e)
  ready_safe (Err cause) story q e = (w.unset cause story q e, tt)

  behind_safe : (story : Story) → Q story → AllSafe G (by_ready accepts b (ready_of b story) story) story
  behind_safe story q = ready_safe (ready_of b story) story q refl

  pub walk_safe : (story : Story) → G (Says (what.Held b)) story → Q (noted (what.Held b) story) → AllSafe G (brought_up accepts b story) story
  walk_safe story held q = let there : Story = noted (what.Held b) story in (held, (w.asks device.Nv there (inr refl), behind_safe there q))

  -- ---- the watch over its boot expires
  capsule_safe : (level : ℕ) → WalksBack G accepts b level S P R → (fuses : FusesState) (judged : Result CapsuleState CapsuleFail) (story : Story) → nat_lt level 4 ≡ true → P fuses story
      → judged_recovery accepts b fuses story ≡ judged → AllSafe G (by_capsule accepts b fuses level judged story) story
  capsule_safe level back fuses (Ok capsule) story few p j = anew_safe fuses (restored b level fuses capsule story) story (back.restores fuses capsule story few p j)
  capsule_safe level back fuses (Err cause) story few p j = (back.no_recovery fuses cause story few p j, tt)

  recovered_safe : (level : ℕ) → WalksBack G accepts b level S P R → (ready : Result FusesState LockWhy) (story : Story) → nat_lt level 4 ≡ true → S story → ready_of b story ≡ ready
      → AllSafe G (recovered_with accepts b level ready story) story
  recovered_safe level back (Ok fuses) story few s e = (w.asks (device_of b) story (inl refl), capsule_safe level back fuses (judged_recovery accepts b fuses story) story few (w.ready fuses story s e) refl)
  recovered_safe level back (Err cause) story few s e = (w.unready cause story s e, tt)

  level_safe : (level : ℕ) → WalksBack G accepts b level S P R → (few : Bool) (story : Story) → nat_lt level 4 ≡ few → S story → AllSafe G (by_level accepts b level few story) story
  level_safe level back true story few s = (w.asks device.Nv story (inr refl), recovered_safe level back (ready_of b story) story few s refl)
  level_safe level back false story few s = (back.spent story few s, tt)

  expired_to_safe : (level : ℕ) (story : Story) → WalksBack G accepts b level S P R → G (Says (λ _. what.Expired b level)) story → G (Says (what.Held b)) (noted (λ _. what.Expired b level) story)
      → S (noted (what.Held b) (noted (λ _. what.Expired b level) story)) → AllSafe G (expired_to accepts b level story) story
  expired_to_safe level story back expires held s =
      (expires, (held, level_safe level back (nat_lt level 4) (noted (what.Held b) (noted (λ _. what.Expired b level) story)) refl s))

  pub expired_safe : (story : Story) → WalksBack G accepts b (level_at b story) S P R → G (Says (λ _. what.Expired b (level_at b story))) story
      → G (Says (what.Held b)) (noted (λ _. what.Expired b (level_at b story)) story) → S (noted (what.Held b) (noted (λ _. what.Expired b (level_at b story)) story)) → AllSafe G (expired accepts b story) story
  expired_safe story back expires held s = expired_to_safe (level_at b story) story back expires held s

  -- ---- it is updated
  -- an update that is refused, and the check behind it
  refused_safe : (fuses : FusesState) (cause : Refusal) (story : Story) → Refuses G b P fuses cause story → AllSafe G (refused_so accepts b fuses cause story) story
  refused_safe fuses cause story r = (r.0, tail_safe fuses (noted (λ _. what.Refused b cause) story) r.1)

  module _ (dynamic : Bool) (anew : WalksAnew G accepts b dynamic P R) where
    staged_safe : (fuses : FusesState) (judged : Result CapsuleState CapsuleFail) (story : Story) → P fuses story → judged_staging accepts b fuses story ≡ judged → AllSafe G (by_staged accepts b dynamic fuses judged story) story
    staged_safe fuses (Ok capsule) story p j = anew_safe fuses (updated b dynamic fuses capsule story) story (anew.staged fuses capsule story p j)
    staged_safe fuses (Err cause) story p j = refused_safe fuses (refusing.Capsule cause) story (anew.refused fuses cause story p j)

    active_updated_safe : (fuses : FusesState) (story : Story) → P fuses story → AllSafe G (active_updated accepts b dynamic fuses story) story
    active_updated_safe fuses story p = (w.asks (device_of b) story (inl refl), staged_safe fuses (judged_staging accepts b fuses story) story p refl)

  module _ (copy : WalksCopy G accepts b S P) (fuses : FusesState) where
    room_safe : (capsule : CapsuleState) (spent : Bool) (story : Story) → P fuses story → judged_staging accepts b fuses story ≡ Ok capsule → has_manifest capsule (judged_active accepts b fuses story) ≡ true
        → is_spent (store story) b ≡ spent → AllSafe G (by_room spent accepts b fuses capsule story) story
    room_safe capsule true story p j m e = refused_safe fuses refusing.JobsSpent story (copy.spent fuses capsule story p j m e)
    room_safe capsule false story p j m e = settled_safe (recovery_job (job_notes b).given_up (job_notes b).recovery_updated accepts b fuses capsule story) story (copy.copies fuses capsule story p j m e)

    manifest_safe : (capsule : CapsuleState) (same : Bool) (story : Story) → P fuses story → judged_staging accepts b fuses story ≡ Ok capsule → has_manifest capsule (judged_active accepts b fuses story) ≡ same
        → AllSafe G (by_manifest same accepts b fuses capsule story) story
    manifest_safe capsule true story p j m = (w.asks device.Nv story (inr refl), room_safe capsule (is_spent (store story) b) story p j m refl)
    manifest_safe capsule false story p j m = refused_safe fuses refusing.ManifestDiffers story (copy.differs fuses capsule story p j m)

    copy_safe : (judged : Result CapsuleState CapsuleFail) (story : Story) → P fuses story → judged_staging accepts b fuses story ≡ judged → AllSafe G (by_new_recovery accepts b fuses judged story) story
    copy_safe (Ok capsule) story p j = (w.asks (device_of b) story (inl refl), manifest_safe capsule (has_manifest capsule (judged_active accepts b fuses story)) story p j refl)
    copy_safe (Err cause) story p j = refused_safe fuses (refusing.Capsule cause) story (copy.refused fuses cause story p j)

    recovery_updated_safe : (story : Story) → P fuses story → AllSafe G (recovery_updated accepts b fuses story) story
    recovery_updated_safe story p = (w.asks (device_of b) story (inl refl), copy_safe (judged_staging accepts b fuses story) story p refl)

  module _ (key : WalksCert G accepts b S P) (fuses : FusesState) where
    use_safe : (cert : Cert) (judged : Result (Unit {0}) CertFail) (story : Story) → P fuses story → judged_cert accepts b fuses story ≡ Ok cert → use_judged accepts b fuses cert story ≡ judged
        → AllSafe G (by_use accepts b fuses cert judged story) story
    use_safe cert (Ok free) story p j u = settled_safe (cancelled_key cert story) story (key.cancels fuses cert story p j u)
    use_safe cert (Err cause) story p j u = refused_safe fuses (refusing.Cert cause) story (key.kept fuses cert cause story p j u)

    cert_safe : (judged : Result Cert CertFail) (story : Story) → P fuses story → judged_cert accepts b fuses story ≡ judged → AllSafe G (by_cert accepts b fuses judged story) story
    cert_safe (Ok cert) story p j = (w.asks (device_of b) story (inl refl), use_safe cert (use_judged accepts b fuses cert story) story p j refl)
    cert_safe (Err cause) story p j = refused_safe fuses (refusing.Cert cause) story (key.refused fuses cause story p j)

    key_cancelled_safe : (story : Story) → P fuses story → AllSafe G (key_cancelled accepts b fuses story) story
    key_cancelled_safe story p = (w.asks (device_of b) story (inl refl), cert_safe (judged_cert accepts b fuses story) story p refl)

  intent_safe : (intent : Intent) (fuses : FusesState) (story : Story) → WalksUpdate G accepts b intent S P R → P fuses story → AllSafe G (by_intent accepts b intent fuses story) story
  intent_safe Active fuses story h p = active_updated_safe false h fuses story p
  intent_safe Full fuses story h p = active_updated_safe true h fuses story p
  intent_safe Recovery fuses story h p = recovery_updated_safe h fuses story p
  intent_safe CertIntent fuses story h p = key_cancelled_safe h fuses story p

  updated_safe : (intent : Intent) (ready : Result FusesState LockWhy) (story : Story) → WalksUpdate G accepts b intent S P R → S story → ready_of b story ≡ ready → AllSafe G (updated_with accepts b intent ready story) story
  updated_safe intent (Ok fuses) story h s e = intent_safe intent fuses story h (w.ready fuses story s e)
  updated_safe intent (Err cause) story h s e = (w.unready cause story s e, tt)

  pub updating_safe : (intent : Intent) (story : Story) → WalksUpdate G accepts b intent S P R → G (Says (what.Held b)) story → S (noted (what.Held b) story) → AllSafe G (updating accepts b intent story) story
  updating_safe intent story h held s =
      let there : Story = noted (what.Held b) story in
      (held, (w.asks device.Nv there (inr refl), updated_safe intent (ready_of b there) there h s refl))

-- ---- which devices are called, and which notes are made
abbrev pub Making : (Device → Type 0) → ((Counts → What) → Type 0) → Rule
Making D S (Says w) story = S w
Making D S (Does which op) story = D which
Making D S (Asks which) story = D which

pub safe_made : (D : Device → Type 0) (S : (Counts → What) → Type 0) (moves : List Move) (story : Story) → AllSafe (Making D S) moves story → AllMake D S moves
safe_made D S [] story p = tt
safe_made D S (Says w ∷ moves) story p = (p.0, safe_made D S moves (moved_by (Says w) story) p.1)
safe_made D S (Does which op ∷ moves) story p = (p.0.0, safe_made D S moves (moved_by (Does which op) story) p.1)
safe_made D S (Asks which ∷ moves) story p = (p.0, safe_made D S moves story p.1)
