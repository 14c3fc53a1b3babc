-- Where a bank is brought up, restored or updated, each of its moves leaves each bank one that can be recovered.
use Rattle.std.proofs.Common.{◌≡◌, ◌∙◌, refl, sym, ℕ, List, length}
use Rattle.pfr_flash.specs.Layout.{IsBankSize}
use Rattle.pfr_flash.specs.declared.names.Bank.{Bank}
use Rattle.pfr_engine.specs.Acceptance.{Acceptance}
use Rattle.pfr_jobs.specs.Log.{open_job}
use Rattle.pfr_jobs.specs.declared.job.OpenJob.TheVariants as job
use Rattle.pfr_recoverable.specs.Recoverable.{IsRecoverable}
use Rattle.pfr_script.specs.declared.event.Intent.{Intent}
use Rattle.pfr_report.specs.declared.note.What.TheVariants as what
use Rattle.pfr_story.specs.Plans.{mine, store, brought_up, expired}
use Rattle.pfr_story.specs.Recovery.{KeepsRecoverable}
use Rattle.pfr_story.specs.Safety.{Rule, AllSafe}
use Rattle.pfr_story.specs.Story.{Story, Move, moved_by, noted, device_of}
use Rattle.pfr_story.specs.UpdatePlans.{updating}
use Rattle.pfr_story.proofs.FuseLaws.{profile_kept}
use Rattle.pfr_story.proofs.BringRules.{Any, ready_found, level_at}
use Rattle.pfr_story.proofs.Traces.{AreImages}
use Rattle.pfr_story.proofs.MomentLaws.{StaysTrue}
use Rattle.pfr_story.proofs.SpanRules.{NotOne}
use Rattle.pfr_story.proofs.WorkKnown.{IsSized, CanBeWorked, IsClosed}
use Rattle.pfr_story.proofs.WorkShapes.{Table, Going, Ended, Task, Brings, Expires, Updates, stroked, logged, raised, cleared, untrusted, refused, resumed, given_up, restored, updated, recovery_updated, cancelled, released, unready, no_image, no_recovery, spent}
use Rattle.pfr_story.proofs.WorkWalks.{brought_worked, expired_worked, updating_worked}

-- the bank can be recovered
abbrev pub Recoverable : Acceptance → Bank → List ℕ → List ℕ → Type 0
Recoverable accepts b image nv = IsRecoverable b image nv accepts

-- that stays true from moment to moment
abbrev pub Keeping : Acceptance → Bank → Rule
Keeping accepts b = StaysTrue (Recoverable accepts b) b

-- ---- what is known where the work on a bank begins
-- the devices hold bytes and have their sizes
pub record HasSizes (story : Story) : Type 0 where
  pub images : AreImages story
  pub banks : (b : Bank) → IsBankSize (length (mine b story))
  pub store_size : length (store story) ≡ 32768

pub worked_from : (c : Bank) (story : Story) → HasSizes story → NotOne (store story) → CanBeWorked c story
worked_from c story sized two fuses e =
    let r = ready_found c fuses story e in
    record {
      provisioned = r.provisioned;
      layout = r.layout;
      size = sized.banks c;
      bytes = sized.images (device_of c);
      store_size = sized.store_size;
      two = sym (profile_kept (store story) fuses r.provisioned) ∙ two fuses r.provisioned;
    }

pub closed_from : (c : Bank) (story : Story) → HasSizes story → NotOne (store story) → open_job (store story) c ≡ job.None → IsClosed c story
closed_from c story sized two none fuses e = record { holds = worked_from c story sized two fuses e; none = none }

module _ (accepts : Acceptance) (b c : Bank) where
  goes : (task : Task) (move : Move) (story : Story) → Going c task (Unit {0}) story move → (Unit {0} → (d : Bank) → KeepsRecoverable accepts d move story) → Any story → Keeping accepts b move story × Any (moved_by move story)
  goes task _ story (stroked op) keeps any = (keeps tt b, tt)
  goes task _ story (logged op own) keeps any = (keeps tt b, tt)
  goes task _ story (raised op raise) keeps any = (keeps tt b, tt)
  goes task _ story (cleared cancels type op own clear) keeps any = (keeps tt b, tt)
  goes task _ story (untrusted checks cause) keeps any = (tt, tt)
  goes task _ story (refused cause may) keeps any = (tt, tt)
  goes task _ story (resumed resumes kind) keeps any = (tt, tt)
  goes task _ story (given_up copies) keeps any = (tt, tt)
  goes task _ story (restored level) keeps any = (tt, tt)
  goes task _ story (updated dynamic replaces svn) keeps any = (tt, tt)
  goes task _ story (recovery_updated copies svn floor) keeps any = (tt, tt)
  goes task _ story (cancelled cancels type id clear) keeps any = (tt, tt)

  ends : (task : Task) (move : Move) (story : Story) → Ended accepts c task (Unit {0}) story move → Any story → Keeping accepts b move story
  ends task _ story (released fuses m ready j known) any = refl
  ends task _ story (unready cause e) any = refl
  ends task _ story (no_image fuses cause other ready j known) any = refl
  ends task _ story (no_recovery expires fuses cause ready j known) any = refl
  ends task _ story (spent expires) any = refl

  keeping : (task : Task) → Table (Keeping accepts b) Any accepts c task (Unit {0})
  keeping task = record { asks = λ which story own. tt; goes = goes task; ends = ends task }

  pub brought_keeps : (story : Story) → IsSized story → CanBeWorked c (noted (what.Held c) story) → AllSafe (Keeping accepts b) (brought_up accepts c story) story
  brought_keeps story size q = brought_worked (Keeping accepts b) Any accepts c (Unit {0}) (keeping Brings) story size (λ h. q) refl tt

  pub expired_keeps : (story : Story) → IsSized story → IsClosed c (noted (what.Held c) (noted (λ _. what.Expired c (level_at c story)) story)) → AllSafe (Keeping accepts b) (expired accepts c story) story
  expired_keeps story size s = expired_worked (Keeping accepts b) Any accepts c (Unit {0}) (keeping Expires) story size (λ h. s) tt refl tt

  pub updating_keeps : (intent : Intent) (story : Story) → IsSized story → IsClosed c (noted (what.Held c) story) → AllSafe (Keeping accepts b) (updating accepts c intent story) story
  updating_keeps intent story size s = updating_worked (Keeping accepts b) Any accepts c (Unit {0}) intent (keeping (Updates intent)) story size (λ h. s) refl tt
