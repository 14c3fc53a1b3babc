-- At every cut of a pass over the recovery area, whatever it tore, the bank can be recovered.
use Rattle.std.proofs.Common.{◌≡◌, ◌∙◌, sym, subst, refl, arith, ℕ, ◌+◌, ◌*◌, ◌/◌, ◌≤◌, ◌<◌, List, [], ◌∷◌, length, ◌⊎◌, inl, inr}
use Rattle.pfr_flash.specs.Operation.{Operation, play}
use Rattle.pfr_flash.specs.Layout.{IsValidLayout}
use Rattle.pfr_flash.specs.Range.{place_of, len_of, IsWithin, Leaves}
use Rattle.pfr_flash.specs.declared.layout.Layout.{Layout}
use Rattle.pfr_flash.specs.declared.names.Bank.{Bank}
use Rattle.pfr_flash.proofs.PlayLemmas.{length-applied}
use Rattle.pfr_engine.specs.Acceptance.{Acceptance}
use Rattle.pfr_jobs.specs.Log.{spent_in, selector, current_at}
use Rattle.pfr_jobs.proofs.LogLaws.{page_inside}
use Rattle.pfr_jobs.proofs.BeginLaw.{log_low, log_high}
use Rattle.pfr_jobs.proofs.CutLaws.{mark_keeps, mark_current}
use Rattle.pfr_strokes.specs.Deeds.{Deed, Asks, Does, side_ops}
use Rattle.pfr_strokes.specs.declared.side.Side.TheVariants as side
use Rattle.pfr_recoverable.specs.Recoverable.{IsRecoverable}
use Rattle.pfr_recoverable.proofs.CutLaw.{IsJobDeed, AllJobDeeds, store_after, IsAtWork, work_recoverable}

-- a mark of the log's page at this place, whole or torn
pub record IsMarkAt (at : ℕ) (op : Operation) : Type 0 where
  pub slot : ℕ
  pub group : ℕ
  pub few : slot < 64
  pub small : group < 128
  pub place : place_of op ≡ at + (64 * slot + (36 + group / 8))
  pub one : len_of op ≡ 1

-- a deed of a pass over the recovery area, whole or torn
abbrev pub IsPassDeed : Layout → ℕ → Deed → Type 0
IsPassDeed layout at (Asks which) = Unit {0}
IsPassDeed layout at (Does side.Bank op) = IsWithin layout.recovery_at layout.area_len op
IsPassDeed layout at (Does side.Store op) = IsMarkAt at op

abbrev pub AllPassDeeds : Layout → ℕ → List Deed → Type 0
AllPassDeeds layout at [] = Unit {0}
AllPassDeeds layout at (deed ∷ deeds) = IsPassDeed layout at deed × AllPassDeeds layout at deeds

module _ (layout : Layout) (b : Bank) (size : ℕ) (valid : IsValidLayout layout size) where
  apart : (op : Operation) → IsWithin layout.recovery_at layout.area_len op → ((layout.recovery_at + layout.area_len ≤ layout.staging_at) ⊎ (layout.staging_at + layout.area_len ≤ layout.recovery_at)) → Leaves layout.staging_at layout.area_len op
  apart op within (inl before) = inl (omega (arith, within.high, before))
  apart op within (inr behind) = inr (omega (arith, within.low, behind))

  pub one_deed : (nv : List ℕ) (deed : Deed) → length nv ≡ 32768 → IsPassDeed layout (current_at nv b) deed → IsJobDeed layout b nv deed
  one_deed nv (Asks which) whole within = tt
  one_deed nv (Does side.Bank op) whole within = apart op within valid.apart.recovery_staging
  one_deed nv (Does side.Store op) whole m = (
    record {
      low = omega (arith, m.place, log_low b);
      high = omega (arith, m.place, m.one, m.few, m.small, page_inside b (spent_in (selector nv b)), log_high b);
    },
    mark_keeps nv b whole op m.slot m.group m.few m.small m.place m.one,
  )

  pub same_current : (nv : List ℕ) (deed : Deed) → length nv ≡ 32768 → IsPassDeed layout (current_at nv b) deed → current_at (store_after deed nv) b ≡ current_at nv b
  same_current nv (Asks which) whole within = refl
  same_current nv (Does side.Bank op) whole within = refl
  same_current nv (Does side.Store op) whole m = mark_current nv b whole op m.slot m.group m.few m.small m.place m.one

  pub same_size : (nv : List ℕ) (deed : Deed) → length nv ≡ 32768 → length (store_after deed nv) ≡ 32768
  same_size nv (Asks which) whole = whole
  same_size nv (Does side.Bank op) whole = whole
  same_size nv (Does side.Store op) whole = length-applied nv op ∙ whole

  pub pass_deeds : (nv : List ℕ) (deeds : List Deed) → length nv ≡ 32768 → AllPassDeeds layout (current_at nv b) deeds → AllJobDeeds layout b nv deeds
  pass_deeds nv [] whole all = tt
  pass_deeds nv (deed ∷ deeds) whole all = (
    one_deed nv deed whole all.0,
    pass_deeds (store_after deed nv) deeds (same_size nv deed whole) (subst (λ (at : ℕ). AllPassDeeds layout at deeds) (sym (same_current nv deed whole all.0)) all.1),
  )

-- Whatever front of a pass was done, its last operation torn or not, and whatever marks were made: the bank can be recovered.
pub pass_recoverable : (layout : Layout) (b : Bank) (image nv : List ℕ) (accepts : Acceptance) (deeds : List Deed) → IsValidLayout layout (length image)
    → AllPassDeeds layout (current_at nv b) deeds → IsAtWork layout b image nv accepts → IsRecoverable b (play image (side_ops side.Bank deeds)) (play nv (side_ops side.Store deeds)) accepts
pass_recoverable layout b image nv accepts deeds valid all w =
    work_recoverable layout b image nv accepts deeds (pass_deeds layout b (length image) valid nv deeds w.store all) w
