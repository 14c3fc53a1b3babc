-- No job of a bank that runs is open: what each move does to that.
use Rattle.std.proofs.Common.{◌≡◌, ◌∙◌, refl, sym, ap, arith, ℕ, ◌+◌, ◌≤◌, Bool, true, false, if◌then◌else◌, List, [], ◌∷◌, length, ◌⊎◌, inl, inr, Result, Ok, Err}
use Rattle.pfr_flash.specs.Operation.{Operation, applied, IsTorn}
use Rattle.pfr_flash.specs.Range.{place_of, len_of}
use Rattle.pfr_flash.specs.declared.names.Bank.{Bank}
use Rattle.pfr_flash.specs.declared.names.Bank.TheVariants as bank
use Rattle.pfr_flash.specs.declared.names.Counts.{Counts}
use Rattle.pfr_flash.specs.declared.names.Device.TheVariants as device
use Rattle.pfr_flash.proofs.PlayLemmas.{length-applied}
use Rattle.pfr_flash.proofs.RangeLemmas.{IsTorn-within}
use Rattle.pfr_fuses.specs.Changes.{migration}
use Rattle.pfr_fuses.specs.FusesOf.{fuses_of}
use Rattle.pfr_fuses.specs.FusesState.{FusesState}
use Rattle.pfr_fuses.specs.declared.fuse_fail.FuseFail.{FuseFail}
use Rattle.pfr_fuses.specs.declared.profile.Profile.{Profile}
use Rattle.pfr_fuses.specs.declared.profile.Profile.TheVariants.{One, Two}
use Rattle.pfr_jobs.specs.Log.{log_at, open_job}
use Rattle.pfr_jobs.specs.declared.job.OpenJob.TheVariants as job
use Rattle.pfr_jobs.proofs.BeginLaw.{log_low, log_high}
use Rattle.pfr_jobs.proofs.CutLaws.{outside_keeps}
use Rattle.pfr_report.specs.declared.note.What.{What}
use Rattle.pfr_report.specs.declared.note.What.TheVariants as what
use Rattle.pfr_story.specs.Guards.{same_bank}
use Rattle.pfr_story.specs.Plans.{store, migration_by, migration_in, migrated}
use Rattle.pfr_story.specs.Safety.{Rule, IsSafe, AllSafe, Keeps}
use Rattle.pfr_story.specs.Standing.{Standing, Off, Held, Running, Locked, standing_after, standing_of}
use Rattle.pfr_story.specs.Story.{Story, Says, Does, Asks, noted, operated, counts_of, device_of, called}
use Rattle.pfr_story.proofs.Carried.{Carrying}
use Rattle.pfr_story.proofs.LossLaws.{standing_push}
use Rattle.pfr_story.proofs.SafetyLaws.{image_operated}
use Rattle.pfr_story.proofs.Traces.{IsStamped}

-- ---- the rule
-- a note that carries counts carries those of its story, and the bank is released only where no job of it is open
abbrev pub IsIdleWhere : Bank → What → List ℕ → Type 0
IsIdleWhere which (what.Released b svn counts) nv = same_bank which b ≡ true → open_job nv which ≡ job.None
IsIdleWhere which that nv = Unit {0}

-- and while it runs none is opened
abbrev pub KeepsIdle : Bank → Rule
KeepsIdle which (Says w) story = IsStamped (w (counts_of story)) (counts_of story) × IsIdleWhere which (w (counts_of story)) (store story)
KeepsIdle which (Does device.Bmc op) story = Unit {0}
KeepsIdle which (Does device.Pch op) story = Unit {0}
KeepsIdle which (Does device.Nv op) story = length (store story) ≡ 32768 → standing_of which story.notes ≡ Running → open_job (store story) which ≡ job.None → open_job (applied (store story) op) which ≡ job.None
KeepsIdle which (Asks at) story = Unit {0}

pub record IsIdle (which : Bank) (story : Story) : Type 0 where
  pub size : length (store story) ≡ 32768
  pub none : standing_of which story.notes ≡ Running → open_job (store story) which ≡ job.None

-- ---- such moves keep it so
pub standing_told : (which : Bank) (w : Counts → What) (story : Story) → standing_of which (noted w story).notes ≡ standing_after which (w (counts_of story)) (standing_of which story.notes)
standing_told which w story = standing_push which Off story.notes (record { item = story.item; what = w (counts_of story) })

module _ (which : Bank) (nv : List ℕ) (s : Standing) (none : s ≡ Running → open_job nv which ≡ job.None) where
  ended_if : (same : Bool) (to : Standing) → ¬ (to ≡ Running) → (if same then to else s) ≡ Running → open_job nv which ≡ job.None
  ended_if true to never runs = absurd (never runs)
  ended_if false to never runs = none runs

  begun_if : (same : Bool) → (same ≡ true → open_job nv which ≡ job.None) → (if same then Running else s) ≡ Running → open_job nv which ≡ job.None
  begun_if true g runs = g refl
  begun_if false g runs = none runs

  idle_note : (w : What) → IsIdleWhere which w nv → standing_after which w s ≡ Running → open_job nv which ≡ job.None
  idle_note (what.Held b counts) g runs = ended_if (same_bank which b) Held (λ e. absurd cc) runs
  idle_note (what.Locked b why counts) g runs = ended_if (same_bank which b) Locked (λ e. absurd cc) runs
  idle_note (what.Released b svn counts) g runs = begun_if (same_bank which b) g runs
  idle_note (what.Lost device counts) g runs = absurd cc
  idle_note _ g runs = none runs

pub idle_moves : (which : Bank) → Keeps (KeepsIdle which) (IsIdle which)
idle_moves which (Says w) story g p = record {
  size = p.size;
  none = λ runs. idle_note which (store story) (standing_of which story.notes) p.none (w (counts_of story)) g.1 (sym (standing_told which w story) ∙ runs);
}
idle_moves which (Does device.Bmc op) story g p = record { size = p.size; none = p.none }
idle_moves which (Does device.Pch op) story g p = record { size = p.size; none = p.none }
idle_moves which (Does device.Nv op) story g p =
    let is : store (operated device.Nv op story) ≡ applied (store story) op = image_operated device.Nv op story in
    record {
      size = ap (λ (image : List ℕ). length image) is ∙ length-applied (store story) op ∙ p.size;
      none = λ runs. ap (λ (image : List ℕ). open_job image which) is ∙ g p.size runs (p.none runs);
    }
idle_moves which (Asks at) story g p = p

-- ---- what lies outside of its log
pub own_idle : (which b : Bank) (op : Operation) (story : Story) → KeepsIdle which (Does (device_of b) op) story
own_idle which bank.Bmc op story = tt
own_idle which bank.Pch op story = tt

abbrev pub IsOut : Bank → Operation → Type 0
IsOut which op = (place_of op + len_of op ≤ log_at which) ⊎ (log_at which + 0x3000 ≤ place_of op)

pub out_keeps : (which : Bank) (op : Operation) (story : Story) → IsOut which op → KeepsIdle which (Does device.Nv op) story
out_keeps which op story out size runs none = outside_keeps (store story) which size op out ∙ none

out_torn : (which : Bank) (image : List ℕ) (op done : Operation) → IsTorn image op done → IsOut which op → IsOut which done
out_torn which image op done torn (inl before) = let same = IsTorn-within image op done torn in inl (omega (arith, before, same.0, same.1))
out_torn which image op done torn (inr behind) = let same = IsTorn-within image op done torn in inr (omega (arith, behind, same.0))

pub out_safe : (which : Bank) (op : Operation) (story : Story) → IsOut which op → IsSafe (KeepsIdle which) (Does device.Nv op) story
out_safe which op story out = (out_keeps which op story out, λ done torn. out_keeps which done story (out_torn which (store story) op done torn out))

abbrev AllOut : Bank → List Operation → Type 0
AllOut which [] = Unit {0}
AllOut which (op ∷ ops) = IsOut which op × AllOut which ops

called_out : (which : Bank) (ops : List Operation) (story : Story) → AllOut which ops → AllSafe (KeepsIdle which) (called device.Nv ops) story
called_out which [] story out = (tt, tt)
called_out which (op ∷ ops) story out = (out_safe which op story out.0, called_out which ops (operated device.Nv op story) out.1)

-- the migration of the fuses does
migration_idle : (which : Bank) (p : Profile) (fuses : FusesState) (story : Story) → AllSafe (KeepsIdle which) (called device.Nv (migration_by p fuses)) story
migration_idle which One fuses story = called_out which (migration fuses) story (inr (omega (arith, log_high which)), (inr (omega (arith, log_high which)), (inl (omega (arith, log_low which)), tt)))
migration_idle which Two fuses story = (tt, tt)

migrating_idle : (which : Bank) (read : Result FusesState FuseFail) (story : Story) → AllSafe (KeepsIdle which) (called device.Nv (migration_in read)) story
migrating_idle which (Ok fuses) story = migration_idle which fuses.profile fuses story
migrating_idle which (Err cause) story = (tt, tt)

pub migrated_idle : (which : Bank) (story : Story) → AllSafe (KeepsIdle which) (migrated story) story
migrated_idle which story = (tt, migrating_idle which (fuses_of (store story)) story)

-- ---- this bank is in work, and doesn't run
abbrev pub IsStopped : Bank → Story → Type 0
IsStopped which story = ¬ (standing_of which story.notes ≡ Running)

module _ (which : Bank) where
  pub stopped_held : (story : Story) → IsStopped which (noted (what.Held which) story)
  stopped_held story runs = by_bank which (sym (standing_told which (what.Held which) story) ∙ runs)
    where
      by_bank : (b : Bank) → ¬ (standing_after b (what.Held b (counts_of story)) (standing_of which story.notes) ≡ Running)
      by_bank bank.Bmc e = absurd cc
      by_bank bank.Pch e = absurd cc

  pub stopped_told : (that : What) (story : Story) → ((s : Standing) → standing_after which that s ≡ s) → IsStopped which story → IsStopped which (noted (λ _. that) story)
  stopped_told that story still p runs = p (sym (still (standing_of which story.notes)) ∙ sym (standing_told which (λ _. that) story) ∙ runs)

  pub nv_stopped : (op : Operation) (story : Story) → Carrying (IsStopped which) (KeepsIdle which) (Does device.Nv op) story
  nv_stopped op story p = (λ size runs none. absurd (p runs), p)
