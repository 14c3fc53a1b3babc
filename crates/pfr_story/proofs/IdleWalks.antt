-- Where a bank is brought up, restored or updated, it is released only where no job of it is open.
use Rattle.std.proofs.Common.{◌≡◌, ◌∙◌, refl, sym, ap, subst, arith, Bool, true, false, List, length, inr}
use Rattle.pfr_flash.specs.Operation.{Operation, applied}
use Rattle.pfr_flash.specs.declared.names.Bank.{Bank}
use Rattle.pfr_flash.specs.declared.names.Device.{Device}
use Rattle.pfr_flash.specs.declared.names.Device.TheVariants as device
use Rattle.pfr_engine.specs.Acceptance.{Acceptance}
use Rattle.pfr_fuses.proofs.StaysLemmas.{row_in_sector}
use Rattle.pfr_jobs.specs.Log.{open_job}
use Rattle.pfr_jobs.specs.declared.job.OpenJob.TheVariants as job
use Rattle.pfr_jobs.proofs.BeginLaw.{log_high}
use Rattle.pfr_script.specs.declared.event.Intent.{Intent}
use Rattle.pfr_report.specs.declared.note.Note.{Note}
use Rattle.pfr_report.specs.declared.note.What.{What}
use Rattle.pfr_report.specs.declared.note.What.TheVariants as what
use Rattle.pfr_story.specs.Guards.{same_bank}
use Rattle.pfr_story.specs.Plans.{store, brought_up, expired}
use Rattle.pfr_story.specs.Recovery.{KeepsRecoverable}
use Rattle.pfr_story.specs.Safety.{AllSafe}
use Rattle.pfr_story.specs.Standing.{Standing, standing_after, standing_of}
use Rattle.pfr_story.specs.Story.{Story, Move, Says, Does, moved_by, noted, operated, device_of, other_bank}
use Rattle.pfr_story.specs.UpdatePlans.{updating}
use Rattle.pfr_story.proofs.BringRules.{level_at}
use Rattle.pfr_story.proofs.IdleRules.{KeepsIdle, IsStopped, stopped_held, stopped_told, own_idle, out_keeps}
use Rattle.pfr_story.proofs.JobGrowth.{floor_in_sector}
use Rattle.pfr_story.proofs.JobLeaves.{other_one}
use Rattle.pfr_story.proofs.JobRules.{IsInLog}
use Rattle.pfr_story.proofs.JobSafetyCancelled.{own_signs}
use Rattle.pfr_story.proofs.JobSafetyOther.{logs_apart}
use Rattle.pfr_story.proofs.WorkKnown.{CanBeWorked, IsClosed}
use Rattle.pfr_story.proofs.SafetyLaws.{notes_operated}
use Rattle.pfr_story.proofs.SpanLaws.{same_one}
use Rattle.pfr_story.proofs.WorkShapes.{Table, Going, Ended, Task, Brings, Expires, Updates, stroked, logged, raised, cleared, untrusted, refused, resumed, given_up, restored, updated, recovery_updated, cancelled, released, unready, no_image, no_recovery, spent}
use Rattle.pfr_story.proofs.WorkWalks.{brought_worked, expired_worked, updating_worked}

module _ (accepts : Acceptance) (which b : Bank) where
  abbrev IsOne : Type 0
  IsOne = same_bank which b ≡ true

  -- where it is the bank in work, it doesn't run
  abbrev IsStill : Story → Type 0
  IsStill story = IsOne → IsStopped which story

  still_did : (d : Device) (op : Operation) (story : Story) → IsStill story → IsStill (operated d op story)
  still_did d op story i one runs = i one (ap (λ (notes : List Note). standing_of which notes) (sym (notes_operated d op story)) ∙ runs)

  -- a log's operation opens no job of a bank that runs
  log_idle : (op : Operation) (story : Story) → IsInLog b op → IsStill story → KeepsIdle which (Does device.Nv op) story
  log_idle op story own i size runs none = by_same (same_bank which b) refl
    where
      by_same : (same : Bool) → same_bank which b ≡ same → open_job (applied (store story) op) which ≡ job.None
      by_same true e = absurd (i e runs)
      by_same false e = subst (λ (w : Bank). KeepsIdle w (Does device.Nv op) story) (other_one which b e) (out_keeps (other_bank b) op story (logs_apart b op own)) size runs none

  aside : (that : What) (story : Story) → KeepsIdle which (Says (λ _. that)) story → ((s : Standing) → standing_after which that s ≡ s) → IsStill story → KeepsIdle which (Says (λ _. that)) story × IsStill (noted (λ _. that) story)
  aside that story idle still i = (idle, λ one. stopped_told which that story still (i one))

  goes : (task : Task) (move : Move) (story : Story) → Going b task IsOne story move → (IsOne → (c : Bank) → KeepsRecoverable accepts c move story) → IsStill story → KeepsIdle which move story × IsStill (moved_by move story)
  goes task _ story (stroked op) keeps i = (own_idle which b op story, still_did (device_of b) op story i)
  goes task _ story (logged op own) keeps i = (log_idle op story own i, still_did device.Nv op story i)
  goes task _ story (raised op raise) keeps i = (out_keeps which op story (inr (omega (arith, raise.within.low, (floor_in_sector b).0, log_high which))), still_did device.Nv op story i)
  goes task _ story (cleared cancels type op own clear) keeps i =
      (out_keeps which op story (inr (omega (arith, clear.within.low, (row_in_sector type (own_signs b type own)).0, log_high which))), still_did device.Nv op story i)
  goes task _ story (untrusted checks cause) keeps i = aside (what.Untrusted b cause) story (tt, tt) (λ s. refl) i
  goes task _ story (refused cause may) keeps i = aside (what.Refused b cause) story (tt, tt) (λ s. refl) i
  goes task _ story (resumed resumes kind) keeps i = aside (what.Resumed b kind) story (tt, tt) (λ s. refl) i
  goes task _ story (given_up copies) keeps i = aside (what.Abandoned b) story (tt, tt) (λ s. refl) i
  goes task _ story (restored level) keeps i = aside (what.Restored b level) story (tt, tt) (λ s. refl) i
  goes task _ story (updated dynamic replaces svn) keeps i = aside (what.Updated b dynamic svn) story (tt, tt) (λ s. refl) i
  goes task _ story (recovery_updated copies svn floor) keeps i = aside (what.RecoveryUpdated b svn) story (tt, tt) (λ s. refl) i
  goes task _ story (cancelled cancels type id clear) keeps i = aside (what.Cancelled type id) story (tt, tt) (λ s. refl) i

  ends : (task : Task) (move : Move) (story : Story) → Ended accepts b task IsOne story move → IsStill story → KeepsIdle which move story
  ends task _ story (released fuses m ready j known) i = (refl, λ one. subst (λ (w : Bank). open_job (store story) w ≡ job.None) (same_one which b one) (known one).none)
  ends task _ story (unready cause e) i = (refl, tt)
  ends task _ story (no_image fuses cause other ready j known) i = (refl, tt)
  ends task _ story (no_recovery expires fuses cause ready j known) i = (refl, tt)
  ends task _ story (spent expires) i = (refl, tt)

  idle_table : (task : Task) → Table (KeepsIdle which) IsStill accepts b task IsOne
  idle_table task = record { asks = λ d story own. tt; goes = goes task; ends = ends task }

  held_still : (story : Story) → IsStill (noted (what.Held b) story)
  held_still story one = subst (λ (c : Bank). IsStopped which (noted (what.Held c) story)) (sym (same_one which b one)) (stopped_held which story)

  module _ (story : Story) (size : length (store story) ≡ 32768) where
    pub brought_idle : (IsOne → CanBeWorked b (noted (what.Held b) story)) → AllSafe (KeepsIdle which) (brought_up accepts b story) story
    brought_idle known = brought_worked (KeepsIdle which) IsStill accepts b IsOne (idle_table Brings) story size known (refl, tt) (held_still story)

    pub expired_idle : (IsOne → IsClosed b (noted (what.Held b) (noted (λ _. what.Expired b (level_at b story)) story))) → AllSafe (KeepsIdle which) (expired accepts b story) story
    expired_idle known = expired_worked (KeepsIdle which) IsStill accepts b IsOne (idle_table Expires) story size known (tt, tt) (refl, tt) (held_still (noted (λ _. what.Expired b (level_at b story)) story))

    pub updating_idle : (intent : Intent) → (IsOne → IsClosed b (noted (what.Held b) story)) → AllSafe (KeepsIdle which) (updating accepts b intent story) story
    updating_idle intent known = updating_worked (KeepsIdle which) IsStill accepts b IsOne intent (idle_table (Updates intent)) story size known (refl, tt) (held_still story)
