-- What else leaves a bank one that can be recovered: a migration of the fuses, and calls of its device while no job is open.
use Rattle.std.proofs.Common.{◌≡◌, ◌∙◌, refl, sym, ap, subst, arith, ℕ, ◌+◌, ◌≤◌, List, [], ◌∷◌, length, ◌⊎◌, inl, inr, Result, Ok, Err}
use Rattle.pfr_flash.specs.Bytes.{AreBytes}
use Rattle.pfr_flash.specs.Operation.{Operation, applied, play}
use Rattle.pfr_flash.specs.Plan.{IsPart}
use Rattle.pfr_flash.specs.Range.{place_of, len_of}
use Rattle.pfr_flash.specs.declared.names.Bank.{Bank}
use Rattle.pfr_flash.specs.declared.names.Device.TheVariants as device
use Rattle.pfr_flash.proofs.PlayLemmas.{length-applied}
use Rattle.pfr_flash.proofs.RangeLemmas.{IsTorn-within}
use Rattle.pfr_engine.specs.Acceptance.{Acceptance}
use Rattle.pfr_fuses.specs.Changes.{migration}
use Rattle.pfr_fuses.specs.FuseMap.{profile_of}
use Rattle.pfr_fuses.specs.FusesState.{FusesState}
use Rattle.pfr_fuses.specs.FusesOf.{fuses_of}
use Rattle.pfr_fuses.specs.RootSlot.{layout_of}
use Rattle.pfr_fuses.specs.declared.fuse_fail.FuseFail.{FuseFail}
use Rattle.pfr_fuses.specs.declared.profile.Profile.{Profile}
use Rattle.pfr_fuses.specs.declared.profile.Profile.TheVariants as profile
use Rattle.pfr_capsule.specs.Good.{StandForBank}
use Rattle.pfr_jobs.specs.Log.{log_at, open_job}
use Rattle.pfr_jobs.proofs.BeginLaw.{log_low, log_high}
use Rattle.pfr_jobs.proofs.CutLaws.{outside_keeps}
use Rattle.pfr_recoverable.specs.Recoverable.{HasRecoveryJob}
use Rattle.pfr_recoverable.proofs.OtherLaw.{job_served}
use Rattle.pfr_recoverable.proofs.StaysLaw.{fuses_one}
use Rattle.pfr_story.specs.Story.{Story, Does, operated, device_of, called}
use Rattle.pfr_story.specs.Safety.{AllSafe}
use Rattle.pfr_story.specs.Plans.{mine, store, migration_by, migration_in}
use Rattle.pfr_story.specs.Recovery.{LeavesTrue, KeepsRecoverable}
use Rattle.pfr_story.proofs.SafetyLaws.{image_did, mine_operated, store_operated, called_safe}
use Rattle.pfr_story.proofs.KeepLaws.{GoodRecovery, SaysFuses, good_still, still_same, says_stand, recovery_says, migration_says}
use Rattle.pfr_story.proofs.JobSafety.{NoReplacing, calm_good}

-- ---- calls of the bank's device, where no open job replaces the recovery area
module _ (accepts : Acceptance) (b : Bank) where
  -- What leaves a good recovery area good leaves the bank one that can be recovered.
  pub calm_safe : (ops : List Operation) (story : Story) → NoReplacing b (store story) → AllSafe (LeavesTrue (GoodRecovery accepts b) b) (called (device_of b) ops) story
      → AllSafe (KeepsRecoverable accepts b) (called (device_of b) ops) story
  calm_safe [] story calm safe = (tt, tt)
  calm_safe (op ∷ ops) story calm safe = (
    (
      λ can. inl (safe.0.0 (calm_good accepts b story calm can)),
      λ done t can. inl (safe.0.1 done t (calm_good accepts b story calm can)),
    ),
    calm_safe ops (operated (device_of b) op story) (λ digest e. calm digest (sym (ap (λ (nv : List ℕ). open_job nv b) (store_operated b op story)) ∙ e)) safe.1,
  )

-- ---- a migration
-- it lies outside of a bank's log
abbrev IsApart : Bank → Operation → Type 0
IsApart c op = (place_of op + len_of op ≤ log_at c) ⊎ (log_at c + 0x3000 ≤ place_of op)

abbrev AllApart : Bank → List Operation → Type 0
AllApart c [] = Unit {0}
AllApart c (op ∷ ops) = IsApart c op × AllApart c ops

torn_apart : (c : Bank) (op done : Operation) → (place_of done ≡ place_of op) × (len_of done ≡ len_of op) → IsApart c op → IsApart c done
torn_apart c op done same (inl before) = inl (omega (arith, before, same.0, same.1))
torn_apart c op done same (inr behind) = inr (omega (arith, behind, same.0))

-- whatever is done of such operations, what is open stays open
apart_open : (c : Bank) (nv : List ℕ) (plan added : List Operation) → length nv ≡ 32768 → AllApart c plan → IsPart nv plan added → open_job (play nv added) c ≡ open_job nv c
apart_open c nv plan [] size all part = refl
apart_open c nv [] (op ∷ ops) size all part = absurd part
apart_open c nv (next ∷ plan) (op ∷ ops) size all (inl whole) =
    subst (λ (o : Operation). open_job (play (applied nv o) ops) c ≡ open_job nv c) (sym whole.0)
    (apart_open c (applied nv next) plan ops (length-applied nv next ∙ size) all.1 whole.1 ∙ outside_keeps nv c size next all.0)
apart_open c nv (next ∷ plan) (op ∷ ops) size all (inr torn) =
    subst (λ (more : List Operation). open_job (play (applied nv op) more) c ≡ open_job nv c) (sym torn.1)
    (outside_keeps nv c size op (torn_apart c next op (IsTorn-within nv next op torn.0) all.0))

migration_apart : (c : Bank) (fuses : FusesState) → AllApart c (migration fuses)
migration_apart c fuses = (inr (omega (arith, log_high c)), (inr (omega (arith, log_high c)), (inl (omega (arith, log_low c)), tt)))

-- an open job that replaces the recovery area does so by a store that says the same
job_says : (accepts : Acceptance) (b : Bank) (image nv later : List ℕ) (fuses : FusesState) → SaysFuses fuses nv → SaysFuses fuses later → open_job later b ≡ open_job nv b → HasRecoveryJob b image nv accepts
    → HasRecoveryJob b image later accepts
job_says accepts b image nv later fuses before behind stays r =
    let place : ℕ = (layout_of r.fuses.provision b).staging_at in
    let len : ℕ = (layout_of r.fuses.provision b).area_len in
    let same : r.good.fuses ≡ record fuses { profile = profile_of nv } = fuses_one nv r.good.fuses (record fuses { profile = profile_of nv }) r.good.provisioned before in
    let stand : StandForBank later r.good.fuses b = subst (λ (kept : FusesState). StandForBank later kept b) (sym same) (says_stand fuses (profile_of nv) b later behind) in
    job_served image nv later b accepts r (good_still accepts b image nv later place len r.good stand) (still_same accepts b image nv later place len r.good stand) stays

module _ (accepts : Acceptance) (b : Bank) (story : Story) (size : length (store story) ≡ 32768) (small : AreBytes (store story)) where
  -- the store says the same fuses, and has the same open
  abbrev Same : FusesState → Story → Type 0
  Same fuses here = SaysFuses fuses (store here) × (open_job (store here) b ≡ open_job (store story) b)

  same_keeps : (fuses : FusesState) (op : Operation) (here : Story) → Same fuses here → Same fuses (operated device.Nv op here) → KeepsRecoverable accepts b (Does device.Nv op) here
  same_keeps fuses op here before behind (inl r) =
      inl (subst (λ (image : List ℕ). GoodRecovery accepts b image (store (operated device.Nv op here))) (sym (mine_operated b op here))
      (recovery_says accepts b (mine b here) (store here) (store (operated device.Nv op here)) fuses before.0 behind.0 r))
  same_keeps fuses op here before behind (inr r) =
      inr (subst (λ (image : List ℕ). HasRecoveryJob b image (store (operated device.Nv op here)) accepts) (sym (mine_operated b op here))
      (job_says accepts b (mine b here) (store here) (store (operated device.Nv op here)) fuses before.0 behind.0 (behind.1 ∙ sym before.1) r))

  by_profile : (fuses : FusesState) (p : Profile) → fuses_of (store story) ≡ Ok fuses → fuses.profile ≡ p → AllSafe (KeepsRecoverable accepts b) (called device.Nv (migration_by p fuses)) story
  by_profile fuses profile.One was one =
      called_safe (KeepsRecoverable accepts b) device.Nv (λ here. Same fuses here) (λ op here before behind. same_keeps fuses op here before behind) (λ here. tt) (migration fuses) story
      (λ added part.
      let is = image_did device.Nv added story in (
        subst (λ (nv : List ℕ). SaysFuses fuses nv) (sym is) (migration_says (store story) fuses added size small was one part),
        ap (λ (nv : List ℕ). open_job nv b) is ∙ apart_open b (store story) (migration fuses) added size (migration_apart b fuses) part,
      ))
  by_profile fuses profile.Two was two = (tt, tt)

  -- At each cut of a migration a bank that can be recovered can be.
  pub migration_recoverable : (read : Result FusesState FuseFail) → fuses_of (store story) ≡ read → AllSafe (KeepsRecoverable accepts b) (called device.Nv (migration_in read)) story
  migration_recoverable (Ok fuses) was = by_profile fuses fuses.profile was refl
  migration_recoverable (Err cause) was = (tt, tt)
