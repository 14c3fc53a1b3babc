-- When each move that brings a bank up, or back, or that updates it, is safe where the contents don't matter.
use Rattle.std.proofs.Common.{ℕ}
use Rattle.pfr_flash.specs.Operation.{Operation}
use Rattle.pfr_flash.specs.declared.names.Bank.{Bank}
use Rattle.pfr_flash.specs.declared.names.ContentType.{ContentType}
use Rattle.pfr_flash.specs.declared.names.Device.TheVariants as device
use Rattle.pfr_engine.specs.Acceptance.{Acceptance}
use Rattle.pfr_auth.specs.declared.fail.ActiveFail.{ActiveFail}
use Rattle.pfr_script.specs.declared.event.Intent.{Intent}
use Rattle.pfr_report.specs.declared.note.LockWhy.{LockWhy}
use Rattle.pfr_report.specs.declared.note.LockWhy.TheVariants as why
use Rattle.pfr_report.specs.declared.note.Refusal.{Refusal}
use Rattle.pfr_report.specs.declared.note.What.TheVariants as what
use Rattle.pfr_story.specs.JobPlans.{job_notes}
use Rattle.pfr_story.specs.Plans.{store, brought_up, expired}
use Rattle.pfr_story.specs.Recovery.{KeepsRecoverable}
use Rattle.pfr_story.specs.Safety.{Rule, AllSafe}
use Rattle.pfr_story.specs.Story.{Story, Move, Says, Does, moved_by, noted}
use Rattle.pfr_story.specs.UpdatePlans.{updating}
use Rattle.pfr_story.proofs.BringRules.{Any, level_at}
use Rattle.pfr_story.proofs.JobRules.{AllowsJobs}
use Rattle.pfr_story.proofs.JobSafetyCancelled.{IsTypeOf}
use Rattle.pfr_story.proofs.JobWalks.{TellsJobs}
use Rattle.pfr_story.proofs.WorkShapes.{IsClearing, Table, Going, Ended, Task, Brings, Expires, Updates, Cancels, MayRefuse, stroked, logged, raised, cleared, untrusted, refused, resumed, given_up, restored, updated, recovery_updated, cancelled, released, unready, no_image, no_recovery, spent}
use Rattle.pfr_story.proofs.WorkWalks.{brought_worked, expired_worked, updating_worked}
pub use Rattle.pfr_story.proofs.WorkKnown.{IsSized}

-- all that is noted of a bank behind Held, and all that its device and its jobs do, is good
pub record AllowsBank (G : Rule) (b : Bank) : Type 0 where
  pub released : (svn : ℕ) (story : Story) → G (Says (what.Released b svn)) story
  pub locked : (cause : LockWhy) (story : Story) → G (Says (what.Locked b cause)) story
  pub untrusted : (cause : ActiveFail) (story : Story) → G (Says (λ _. what.Untrusted b cause)) story
  pub jobs : AllowsJobs G b
  pub tells : TellsJobs G b (job_notes b)

-- and all that is noted of it where it is updated, and what a cancellation does
pub record AllowsUpdate (G : Rule) (b : Bank) : Type 0 where
  pub refused : (cause : Refusal) (story : Story) → G (Says (λ _. what.Refused b cause)) story
  pub cancelled : (type : ContentType) (id : ℕ) (story : Story) → G (Says (λ _. what.Cancelled type id)) story
  pub cancels : (type : ContentType) (op : Operation) (story : Story) → IsTypeOf b type → IsClearing type (store story) op → G (Does device.Nv op) story

-- what is asked of a rule by what is done on the bank
abbrev UpdatesIn : Rule → Bank → Task → Type 0
UpdatesIn G b (Updates intent) = AllowsUpdate G b
UpdatesIn G b task = Unit {0}

cancels_in : (G : Rule) (b : Bank) (task : Task) → UpdatesIn G b task → Cancels task → AllowsUpdate G b
cancels_in G b Brings u is = absurd is
cancels_in G b Expires u is = absurd is
cancels_in G b (Updates intent) u is = u

refuses_in : (G : Rule) (b : Bank) (task : Task) (cause : Refusal) → UpdatesIn G b task → MayRefuse cause task → AllowsUpdate G b
refuses_in G b Brings cause u may = absurd may
refuses_in G b Expires cause u may = absurd may
refuses_in G b (Updates intent) cause u may = u

module _ (G : Rule) (accepts : Acceptance) (b : Bank) (h : AllowsBank G b) where
  goes : (task : Task) → UpdatesIn G b task → (move : Move) (story : Story) → Going b task ⊥ story move → (⊥ → (c : Bank) → KeepsRecoverable accepts c move story) → Any story → G move story × Any (moved_by move story)
  goes task u _ story (stroked op) keeps any = (h.jobs.works op story, tt)
  goes task u _ story (logged op own) keeps any = (h.jobs.logs op story own, tt)
  goes task u _ story (raised op raise) keeps any = (h.jobs.raises op story raise, tt)
  goes task u _ story (cleared cancels type op own clear) keeps any = ((cancels_in G b task u cancels).cancels type op story own clear, tt)
  goes task u _ story (untrusted checks cause) keeps any = (h.untrusted cause story, tt)
  goes task u _ story (refused cause may) keeps any = ((refuses_in G b task cause u may).refused cause story, tt)
  goes task u _ story (resumed resumes kind) keeps any = (h.tells.resumed kind story, tt)
  goes task u _ story (given_up copies) keeps any = (h.tells.given_up story, tt)
  goes task u _ story (restored level) keeps any = (h.tells.restored level story, tt)
  goes task u _ story (updated dynamic replaces svn) keeps any = (h.tells.updated dynamic svn story, tt)
  goes task u _ story (recovery_updated copies svn floor) keeps any = (h.tells.recovery_updated svn story, tt)
  goes task u _ story (cancelled cancels type id clear) keeps any = ((cancels_in G b task u cancels).cancelled type id story, tt)

  ends : (task : Task) (move : Move) (story : Story) → Ended accepts b task ⊥ story move → Any story → G move story
  ends task _ story (released fuses m ready j known) any = h.released m.svn story
  ends task _ story (unready cause e) any = h.locked cause story
  ends task _ story (no_image fuses cause other ready j known) any = h.locked (why.NoGoodImage cause other) story
  ends task _ story (no_recovery expires fuses cause ready j known) any = h.locked (why.NoRecovery cause) story
  ends task _ story (spent expires) any = h.locked why.WatchdogSpent story

  pub allowed_table : (task : Task) → UpdatesIn G b task → Table G Any accepts b task ⊥
  allowed_table task u = record { asks = λ which story own. h.jobs.asks which story own; goes = goes task u; ends = ends task }

  pub allowed_safe : (story : Story) → IsSized story → G (Says (what.Held b)) story → AllSafe G (brought_up accepts b story) story
  allowed_safe story size held = brought_worked G Any accepts b ⊥ (allowed_table Brings tt) story size (λ none. absurd none) held tt

  pub expired_allowed : (story : Story) → IsSized story → G (Says (λ _. what.Expired b (level_at b story))) story → G (Says (what.Held b)) (noted (λ _. what.Expired b (level_at b story)) story) → AllSafe G (expired accepts b story) story
  expired_allowed story size expires held = expired_worked G Any accepts b ⊥ (allowed_table Expires tt) story size (λ none. absurd none) expires held tt

  pub updating_allowed : (intent : Intent) (story : Story) → IsSized story → AllowsUpdate G b → G (Says (what.Held b)) story → AllSafe G (updating accepts b intent story) story
  updating_allowed intent story size u held = updating_worked G Any accepts b ⊥ intent (allowed_table (Updates intent) u) story size (λ none. absurd none) held tt
