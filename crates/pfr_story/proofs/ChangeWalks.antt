-- Where a bank is brought up, restored or updated, each note of a raised floor or of a cancelled key is true of the store there.
use Rattle.std.proofs.Common.{refl, List, ℕ}
use Rattle.pfr_flash.specs.declared.names.Bank.{Bank}
use Rattle.pfr_engine.specs.Acceptance.{Acceptance}
use Rattle.pfr_fuses.specs.FuseMap.{IsCancelled}
use Rattle.pfr_script.specs.declared.event.Intent.{Intent}
use Rattle.pfr_report.specs.declared.note.What.{What}
use Rattle.pfr_report.specs.declared.note.What.TheVariants as what
use Rattle.pfr_story.specs.JobPromises.{HasFloor}
use Rattle.pfr_story.specs.Plans.{store, brought_up, expired}
use Rattle.pfr_story.specs.Recovery.{KeepsRecoverable}
use Rattle.pfr_story.specs.Safety.{Rule, AllSafe}
use Rattle.pfr_story.specs.Story.{Story, Move, moved_by, noted, counts_of}
use Rattle.pfr_story.specs.UpdatePlans.{updating}
use Rattle.pfr_story.proofs.WorkKnown.{IsSized}
use Rattle.pfr_story.proofs.BringRules.{Any, level_at}
use Rattle.pfr_story.proofs.WorkKnown.{CanBeWorked, IsClosed}
use Rattle.pfr_story.proofs.Traces.{IsStamped, Saying}
use Rattle.pfr_story.proofs.WorkShapes.{Table, Going, Ended, Task, Brings, Expires, Updates, stroked, logged, raised, cleared, untrusted, refused, resumed, given_up, restored, updated, recovery_updated, cancelled, released, unready, no_image, no_recovery, spent}
use Rattle.pfr_story.proofs.WorkWalks.{brought_worked, expired_worked, updating_worked}

-- what a note tells of the store's fuses
abbrev pub ChangedBy : What → List ℕ → Type 0
ChangedBy (what.RecoveryUpdated b svn) nv = HasFloor nv b svn
ChangedBy (what.Cancelled type id) nv = IsCancelled nv type id
ChangedBy that nv = Unit {0}

-- a note that carries counts carries those of its story, and one of changed fuses is true of the store
abbrev pub Changed : What → Story → Type 0
Changed that story = IsStamped that (counts_of story) × ChangedBy that (store story)

abbrev pub Changing : Rule
Changing = Saying Changed

module _ (accepts : Acceptance) (b : Bank) where
  goes : (task : Task) (move : Move) (story : Story) → Going b task (Unit {0}) story move → ((Unit {0}) → (c : Bank) → KeepsRecoverable accepts c move story) → Any story → Changing move story × Any (moved_by move story)
  goes task _ story (stroked op) keeps any = (tt, tt)
  goes task _ story (logged op own) keeps any = (tt, tt)
  goes task _ story (raised op raise) keeps any = (tt, tt)
  goes task _ story (cleared cancels type op own clear) keeps any = (tt, tt)
  goes task _ story (untrusted checks cause) keeps any = ((tt, tt), tt)
  goes task _ story (refused cause may) keeps any = ((tt, tt), tt)
  goes task _ story (resumed resumes kind) keeps any = ((tt, tt), tt)
  goes task _ story (given_up copies) keeps any = ((tt, tt), tt)
  goes task _ story (restored level) keeps any = ((tt, tt), tt)
  goes task _ story (updated dynamic replaces svn) keeps any = ((tt, tt), tt)
  goes task _ story (recovery_updated copies svn floor) keeps any = ((tt, floor tt), tt)
  goes task _ story (cancelled cancels type id clear) keeps any = ((tt, clear tt), tt)

  ends : (task : Task) (move : Move) (story : Story) → Ended accepts b task (Unit {0}) story move → Any story → Changing move story
  ends task _ story (released fuses m ready j known) any = (refl, tt)
  ends task _ story (unready cause e) any = (refl, tt)
  ends task _ story (no_image fuses cause other ready j known) any = (refl, tt)
  ends task _ story (no_recovery expires fuses cause ready j known) any = (refl, tt)
  ends task _ story (spent expires) any = (refl, tt)

  changes : (task : Task) → Table Changing Any accepts b task (Unit {0})
  changes task = record { asks = λ which story own. tt; goes = goes task; ends = ends task }

  pub brought_changes : (story : Story) → IsSized story → CanBeWorked b (noted (what.Held b) story) → AllSafe Changing (brought_up accepts b story) story
  brought_changes story size q = brought_worked Changing Any accepts b (Unit {0}) (changes Brings) story size (λ h. q) (refl, tt) tt

  pub expired_changes : (story : Story) → IsSized story → IsClosed b (noted (what.Held b) (noted (λ _. what.Expired b (level_at b story)) story)) → AllSafe Changing (expired accepts b story) story
  expired_changes story size s = expired_worked Changing Any accepts b (Unit {0}) (changes Expires) story size (λ h. s) (tt, tt) (refl, tt) tt

  pub updating_changes : (intent : Intent) (story : Story) → IsSized story → IsClosed b (noted (what.Held b) story) → AllSafe Changing (updating accepts b intent story) story
  updating_changes intent story size s = updating_worked Changing Any accepts b (Unit {0}) intent (changes (Updates intent)) story size (λ h. s) (refl, tt) tt
