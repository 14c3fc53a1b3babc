-- What each step promises of its notes.
use Rattle.std.specs.Prelude.{◌≡◌, ◌≢◌, ◌↔◌, ◌⊎◌, Bool, false, ℕ, ◌+◌, ◌<◌, ◌≤◌, List, [], ◌∷◌, ◌++◌, Option, Some, None, Result, Ok, Err, true}
use Rattle.pfr_flash.specs.FlashState.{now, upto, Rose, size_of}
use Rattle.pfr_flash.specs.declared.names.Bank.{Bank}
use Rattle.pfr_flash.specs.declared.names.Bank.TheVariants as bank
use Rattle.pfr_flash.specs.declared.names.Counts.{Counts}
use Rattle.pfr_flash.specs.declared.names.Device.{Device}
use Rattle.pfr_engine.specs.Acceptance.{Acceptance}
use Rattle.pfr_fuses.specs.RootSlot.{provision_in}
use Rattle.pfr_fuses.specs.Slots.{IsProvisionedBy, slot_at}
use Rattle.pfr_fuses.specs.Provisioning.{judge_provision}
use Rattle.pfr_fuses.specs.declared.fuse_fail.FuseFail.{FuseFail}
use Rattle.pfr_fuses.specs.declared.root_slot.RootSlot.{RootSlot}
use Rattle.pfr_auth.specs.declared.fail.ActiveFail.{ActiveFail}
use Rattle.pfr_recoverable.specs.Recoverable.{HasGoodRecovery}
use Rattle.pfr_watch.specs.Stages.{next_stage}
use Rattle.pfr_watch.specs.declared.stage.Stage.{Stage}
use Rattle.pfr_watch.specs.declared.stage.Stage.TheVariants.{Done}
use Rattle.pfr_jobs.specs.Log.{open_job}
use Rattle.pfr_jobs.specs.declared.job.JobKind.TheVariants.{ActiveFromRecovery}
use Rattle.pfr_jobs.specs.declared.job.OpenJob.TheVariants as job
use Rattle.pfr_script.specs.declared.event.Intent.{Intent}
use Rattle.pfr_script.specs.declared.event.Intent.TheVariants.{Active, Full, Recovery, Cert}
use Rattle.pfr_script.specs.declared.event.Event.{Event}
use Rattle.pfr_script.specs.declared.event.Event.TheVariants as event
use Rattle.pfr_report.specs.Texts.{IsNoted}
use Rattle.pfr_report.specs.declared.note.LockWhy.{LockWhy}
use Rattle.pfr_report.specs.declared.note.LockWhy.TheVariants as why
use Rattle.pfr_report.specs.declared.note.Note.{Note}
use Rattle.pfr_report.specs.declared.note.Refusal.{Refusal}
use Rattle.pfr_report.specs.declared.note.Refusal.TheVariants as refusing
use Rattle.pfr_report.specs.declared.note.What.TheVariants.{Power, Held, Released, Locked, Lost, Untrusted, Restored, Provisioned, ProvisionRefused, Ignored, BusPassed, BusBlocked, SmbusPassed, SmbusBlocked, Expired, Passed, Booted, Updated, Refused, Resumed, Abandoned, RecoveryUpdated, Cancelled}
use Rattle.pfr_report.specs.declared.note.ProvisionWhy.{ProvisionWhy}
use Rattle.pfr_report.specs.declared.note.What.{What}
use Rattle.pfr_story.specs.Story.{device_of}
use Rattle.pfr_story.specs.World.{World, story_of, counts_in, state_at, NoneFailed, IsOn, IsDark, SameDevices, added}
use Rattle.pfr_story.specs.Standing.{standing_of, is_off, Off, Running}
use Rattle.pfr_story.specs.Guards.{guard_at}
use Rattle.pfr_story.specs.Plans.{refusal_of, level_after}
use Rattle.pfr_story.specs.Turn.{is_idle, is_due, stage_at}
use Rattle.pfr_story.specs.Causes.{IsTrustedWith, IsRestorable, IsResumable, IsAgainst, IsDue}

-- the count of a bank's operations
abbrev pub count_at : Bank → Counts → ℕ
count_at bank.Bmc counts = counts.bmc
count_at bank.Pch counts = counts.pch

-- something that is true of the bytes of a bank and of the store at these counts
abbrev pub AtCounts : (List ℕ → List ℕ → Type 0) → Bank → Counts → World → Type 0
AtCounts P which at w = P (upto (state_at (device_of which) w) (count_at which at)) (upto w.nv at.nv)

-- no device had done fewer operations at the second of these counts
pub record NotBefore (first second : Counts) : Type 0 where
  pub bmc : first.bmc ≤ second.bmc
  pub pch : first.pch ≤ second.pch
  pub nv : first.nv ≤ second.nv

-- counts of a moment of the step
pub record IsMoment (old new : World) (at : Counts) : Type 0 where
  pub behind : NotBefore (counts_in old) at
  pub before : NotBefore at (counts_in new)

-- Released is noted of a bank only where it was trusted at the counts of the note, with this security version number.
abbrev pub ReleasesTrusted : Acceptance → World → World → Type 0
ReleasesTrusted accepts old new = (which : Bank) (svn : ℕ) (at : Counts) → IsNoted (added old new) (Released which svn at)
    → AtCounts (λ image nv. IsTrustedWith svn image nv which accepts) which at new

-- a lock that is noted at a fault
abbrev pub IsFaultLock : LockWhy → Type 0
IsFaultLock why.FlashFault = Unit {0}
IsFaultLock why.StoreFault = Unit {0}
IsFaultLock cause = ⊥

-- a lock that an expired watch calls for
abbrev pub IsWatchLock : LockWhy → Type 0
IsWatchLock why.WatchdogSpent = Unit {0}
IsWatchLock (why.NoRecovery recovery) = Unit {0}
IsWatchLock cause = ⊥

-- a bank is locked for a fault only where a count of faults rose: its own device's, or the store's
pub record FaultsHaveCauses (old new : World) : Type 0 where
  pub flash : (which : Bank) (at : Counts) → IsNoted (added old new) (Locked which why.FlashFault at)
      → Rose (state_at (device_of which) old).faults (state_at (device_of which) new).faults
  pub store : (which : Bank) (at : Counts) → IsNoted (added old new) (Locked which why.StoreFault at) → Rose old.nv.faults new.nv.faults

-- Each lock, but for a fault or by an expired watch, has its cause in the contents at its counts.
abbrev pub LocksHaveCauses : Acceptance → World → World → Type 0
LocksHaveCauses accepts old new = (which : Bank) (cause : LockWhy) (at : Counts) → IsNoted (added old new) (Locked which cause at) → ¬ IsFaultLock cause → ¬ IsWatchLock cause
    → AtCounts (λ image nv. IsDue cause which image nv accepts) which at new

-- An image is called untrusted only with the first cause against it, at a moment of the step; also where a call fails behind it.
abbrev pub DistrustsWithCause : Acceptance → World → World → Type 0
DistrustsWithCause accepts old new = (which : Bank) (cause : ActiveFail) → IsNoted (added old new) (Untrusted which cause)
    → (at : Counts) × IsMoment old new at × AtCounts (λ image nv. IsAgainst cause which image nv accepts) which at new

-- A bank is restored only where a good capsule stands in its recovery area, at a moment of the step: at level 1 where its image
-- isn't trusted, and else at the level to which its watch expired, or at that of the job which is resumed.
abbrev pub CallsForRestore : Acceptance → Bank → ℕ → List Note → List ℕ → List ℕ → Type 0
CallsForRestore accepts which level notes image nv =
    ((level ≡ 1) × IsRestorable which image nv accepts) ⊎ (IsNoted notes (Expired which level) × HasGoodRecovery which image nv accepts)
    ⊎ (IsNoted notes (Resumed which (ActiveFromRecovery level)) × IsResumable (ActiveFromRecovery level) which image nv accepts)

abbrev pub RestoresGood : Acceptance → World → World → Type 0
RestoresGood accepts old new = (which : Bank) (level : ℕ) → IsNoted (added old new) (Restored which level)
    → (at : Counts) × IsMoment old new at × AtCounts (CallsForRestore accepts which level (added old new)) which at new

-- no bank is locked for a fault
pub record IsUndisturbed (notes : List Note) : Type 0 where
  pub flash : (which : Bank) (at : Counts) → ¬ IsNoted notes (Locked which why.FlashFault at)
  pub store : (which : Bank) (at : Counts) → ¬ IsNoted notes (Locked which why.StoreFault at)

-- this bank isn't locked for a fault, and no loss of power is noted
pub record IsUntroubled (which : Bank) (notes : List Note) : Type 0 where
  pub flash : (at : Counts) → ¬ IsNoted notes (Locked which why.FlashFault at)
  pub store : (at : Counts) → ¬ IsNoted notes (Locked which why.StoreFault at)
  pub on : (device : Option Device) (at : Counts) → ¬ IsNoted notes (Lost device at)

-- No fault of a device is passed over: where none of these is noted, no call of a device answered one.
abbrev pub FaultsAreNoted : World → World → Type 0
FaultsAreNoted old new = IsUndisturbed (added old new) → NoneFailed old new

-- the banks are off: both are, or neither
abbrev pub AreOff : World → Type 0
AreOff w = is_off (standing_of bank.Bmc w.notes.list) ≡ true

-- the power is taken by an event: at `off`, where the banks aren't off
abbrev pub IsSwitchedOff : Event → World → Type 0
IsSwitchedOff event.Off old = ¬ AreOff old
IsSwitchedOff e old = ⊥

-- Without a device a loss is noted exactly there.
pub record NotesOff (e : Event) (old new : World) : Type 0 where
  pub only : (at : Counts) → IsNoted (added old new) (Lost None at) → IsSwitchedOff e old
  pub all : IsSwitchedOff e old → IsNoted (added old new) (Lost None (counts_in new))

-- it was noted that this device lost the power
pub record HasLost (which : Device) (notes : List Note) : Type 0 where
  pub at : Counts
  pub noted : IsNoted notes (Lost (Some which) at)

-- It is noted exactly of a device whose count of losses rose.
abbrev pub LossesAreNoted : World → World → Type 0
LossesAreNoted old new = (which : Device) → (HasLost which (added old new) ↔ ((state_at which old).losses < (state_at which new).losses))

-- it is the last note, with the counts at the end, and both banks are off
pub record IsLast (device : Option Device) (at : Counts) (w : World) : Type 0 where
  pub before : List Note
  pub last : w.notes.list ≡ before ++ record { item = w.item; what = Lost device at } ∷ []
  pub counts : at ≡ counts_in w
  pub bmc : standing_of bank.Bmc w.notes.list ≡ Off
  pub pch : standing_of bank.Pch w.notes.list ≡ Off

-- Lost ends the step.
abbrev pub LostEnds : World → World → Type 0
LostEnds old new = (device : Option Device) (at : Counts) → IsNoted (added old new) (Lost device at) → IsLast device at new

-- No device has power once a loss of power is noted.
abbrev pub LostIsDark : World → World → Type 0
LostIsDark old new = (device : Option Device) (at : Counts) → IsNoted (added old new) (Lost device at) → IsDark new

-- ---- events that aren't taken

abbrev pub IsPower : Event → Type 0
IsPower event.Power = Unit {0}
IsPower e = ⊥

-- The banks don't take the event as they stand: off and provisions where they are off; a frame, a boot or an update where its
-- bank doesn't run, and a boot where it is done.
abbrev pub IsIdle : Event → World → Type 0
IsIdle e old = is_idle e (story_of old) ≡ true

-- such an event does no operation, and is noted to be ignored
pub record IsIgnored (old new : World) : Type 0 where
  pub counts : counts_in new ≡ counts_in old
  pub notes : added old new ≡ record { item = old.item + 1; what = Ignored } ∷ []

-- ticks by which no watch expires
abbrev pub IsUneventful : Event → World → Type 0
IsUneventful (event.Tick n) old = (which : Bank) → is_due which n (story_of old) ≡ false
IsUneventful e old = ⊥

-- such ticks do no operation, and nothing is noted
pub record IsUnnoted (old new : World) : Type 0 where
  pub counts : counts_in new ≡ counts_in old
  pub notes : added old new ≡ []

pub record StaysQuiet (e : Event) (old new : World) : Type 0 where
  pub idle : IsIdle e old → IsIgnored old new
  pub uneventful : IsUneventful e old → IsUnnoted old new

-- and no device is called
abbrev pub CallsNone : Event → World → World → Type 0
CallsNone e old new = IsIdle e old ⊎ IsUneventful e old → SameDevices old new

-- The devices have power where the banks aren't off.
abbrev pub HasPower : World → Type 0
HasPower w = ¬ AreOff w → IsOn w

-- ---- what is noted at which event

abbrev pub IsProvision : Event → Type 0
IsProvision (event.Provision what) = Unit {0}
IsProvision e = ⊥

abbrev pub IsSpi : Bank → Event → Type 0
IsSpi which (event.Spi b frame) = b ≡ which
IsSpi which e = ⊥

abbrev pub IsSmbus : Bank → Event → Type 0
IsSmbus which (event.Smbus b frame) = b ≡ which
IsSmbus which e = ⊥

-- intents by which the active image is replaced, with all of its regions where `dynamic` and else with the static ones
abbrev pub Replaces : Bool → Intent → Type 0
Replaces dynamic Active = dynamic ≡ false
Replaces dynamic Full = dynamic ≡ true
Replaces dynamic Recovery = ⊥
Replaces dynamic Cert = ⊥

abbrev pub IsUpdate : Bank → Bool → Event → Type 0
IsUpdate which dynamic (event.Update b intent) = (b ≡ which) × Replaces dynamic intent
IsUpdate which dynamic e = ⊥

abbrev pub IsUpdateTo : Bank → Intent → Event → Type 0
IsUpdateTo which intent (event.Update b other) = (b ≡ which) × (other ≡ intent)
IsUpdateTo which intent e = ⊥

abbrev pub IsUpdateOf : Bank → Event → Type 0
IsUpdateOf which (event.Update b intent) = b ≡ which
IsUpdateOf which e = ⊥

abbrev pub IsPassing : Bank → Event → Type 0
IsPassing which (event.Boot b true) = b ≡ which
IsPassing which e = ⊥

abbrev pub Runs : Bank → World → Type 0
Runs which w = standing_of which w.notes.list ≡ Running

-- No job of a bank that runs is open.
abbrev pub RunningHasNoJob : World → Type 0
RunningHasNoJob w = (which : Bank) → Runs which w → open_job (now w.nv) which ≡ job.None

-- a bank that runs is at this stage of its boot, which isn't done
pub record IsAtStage (which : Bank) (stage : Stage) (w : World) : Type 0 where
  pub runs : Runs which w
  pub at : stage_at which (story_of w) ≡ stage
  pub undone : stage ≢ Done

-- the watch of a bank that runs expires: by ticks, or since its boot failed
abbrev pub IsExpiring : Event → Bank → World → Type 0
IsExpiring (event.Tick n) which old = is_due which n (story_of old) ≡ true
IsExpiring (event.Boot b false) which old = (b ≡ which) × (is_idle (event.Boot b false) (story_of old) ≡ false)
IsExpiring e which old = ⊥

-- intents that an update can be refused with for this cause
abbrev pub IsRefusedFor : Refusal → Intent → Type 0
IsRefusedFor (refusing.Capsule cause) intent = intent ≢ Cert
IsRefusedFor (refusing.Cert cause) intent = intent ≡ Cert
IsRefusedFor refusing.ManifestDiffers intent = intent ≡ Recovery
IsRefusedFor refusing.JobsSpent intent = intent ≡ Recovery

abbrev pub IsRefusable : Bank → Refusal → Event → Type 0
IsRefusable which why (event.Update b intent) = (b ≡ which) × IsRefusedFor why intent
IsRefusable which why e = ⊥

-- a bank is checked: at a power-on, and where it runs at an update of it
abbrev pub IsCheck : Bank → Event → World → Type 0
IsCheck which e old = IsPower e ⊎ (Runs which old × IsUpdateOf which e)

-- a bank is in work: it is checked, or where it runs its watch expires
abbrev pub IsWork : Bank → Event → World → Type 0
IsWork which e old = IsCheck which e old ⊎ (Runs which old × IsExpiring e which old)

-- a bank is held: where it is in work, and where it runs at a frame on its SPI bus
abbrev pub IsHolding : Bank → Event → World → Type 0
IsHolding which e old = IsWork which e old ⊎ (Runs which old × IsSpi which e)

-- A power-on is noted only at one. A bank is called untrusted only where it is checked, and released or restored only where it is in
-- work; it is held only there and at a frame on its SPI bus, and locked only at these and at a provision of banks that aren't off. An
-- event is noted to be ignored only where it isn't taken; what a provision comes to is noted only at a provision of banks that
-- aren't off; what a frame comes to only at a frame on that bus of that bank, which runs; stages only as they are passed, expiries
-- only where a watch expires, to the next count of recoveries; updates, refusals and cancelled keys only at an update of a bank that
-- runs, by what it is to replace; and jobs that are taken up, or given up, only at a power-on. Of a loss of power other promises tell.
abbrev pub BelongsTo : Event → World → What → Type 0
BelongsTo e old Power = IsPower e
BelongsTo e old (Held which at) = IsHolding which e old
BelongsTo e old (Released which svn at) = IsWork which e old
BelongsTo e old (Locked which why at) = IsHolding which e old ⊎ (¬ AreOff old × IsProvision e)
BelongsTo e old (Lost device at) = Unit {0}
BelongsTo e old (Untrusted which why) = IsCheck which e old
BelongsTo e old (Restored which level) = IsWork which e old
BelongsTo e old Ignored = IsIdle e old
BelongsTo e old Provisioned = ¬ AreOff old × IsProvision e
BelongsTo e old (ProvisionRefused why) = ¬ AreOff old × IsProvision e
BelongsTo e old (BusPassed which op) = Runs which old × IsSpi which e
BelongsTo e old (BusBlocked which why) = Runs which old × IsSpi which e
BelongsTo e old (SmbusPassed which) = Runs which old × IsSmbus which e
BelongsTo e old (SmbusBlocked which why) = Runs which old × IsSmbus which e
BelongsTo e old (Expired which level) = IsExpiring e which old × (level ≡ level_after (guard_at which old.guards).watch)
BelongsTo e old (Passed which stage) = IsPassing which e × IsAtStage which stage old × (next_stage stage ≢ Done)
BelongsTo e old (Booted which) = IsPassing which e × (stage : Stage) × IsAtStage which stage old × (next_stage stage ≡ Done)
BelongsTo e old (Updated which dynamic svn) = IsPower e ⊎ (Runs which old × IsUpdate which dynamic e)
BelongsTo e old (Resumed which kind) = IsPower e
BelongsTo e old (Abandoned which) = IsPower e
BelongsTo e old (RecoveryUpdated which svn) = IsPower e ⊎ (Runs which old × IsUpdateTo which Recovery e)
BelongsTo e old (Cancelled type id) = (which : Bank) × Runs which old × IsUpdateTo which Cert e
BelongsTo e old (Refused which why) = Runs which old × IsRefusable which why e

abbrev pub NotesBelong : Event → World → World → Type 0
NotesBelong e old new = (that : What) → IsNoted (added old new) that → BelongsTo e old that

-- ---- what is judged anew at a power-on, and where a key may be cancelled

-- no bank is locked but for a fault or by an expired watch, and none is called untrusted
pub record JudgesNone (notes : List Note) : Type 0 where
  pub locked : (which : Bank) (cause : LockWhy) (at : Counts) → IsNoted notes (Locked which cause at) → IsFaultLock cause ⊎ IsWatchLock cause
  pub trusted : (which : Bank) (cause : ActiveFail) → ¬ IsNoted notes (Untrusted which cause)

-- an update by a certificate, behind which the bank may be checked by other cancellations than before
abbrev pub IsCertUpdate : Event → Type 0
IsCertUpdate (event.Update which Cert) = Unit {0}
IsCertUpdate e = ⊥

-- At no other event is a bank locked for its contents or called untrusted, since one that runs is trusted.
abbrev pub JudgesAtPower : Event → World → World → Type 0
JudgesAtPower e old new = ¬ IsPower e → ¬ IsCertUpdate e → JudgesNone (added old new)

-- ---- provisions

abbrev pub sizes_judged : RootSlot → World → Result ℕ FuseFail
sizes_judged what w = judge_provision (now w.nv) what (size_of w.bmc) (size_of w.pch)

-- what `provision` notes where no call of a device failed, of banks that aren't off
pub record TriesProvision (what : RootSlot) (old new : World) : Type 0 where
  -- It is noted as done exactly where a slot is found for it, and then the store is provisioned so.
  pub done : IsNoted (added old new) Provisioned → (number : ℕ) × (sizes_judged what old ≡ Ok number)
      × IsProvisionedBy (now new.nv) number × (provision_in (slot_at (now new.nv) number) ≡ what)
  pub all : (number : ℕ) → sizes_judged what old ≡ Ok number → IsUntroubled bank.Bmc (added old new) → IsNoted (added old new) Provisioned
  -- It is refused exactly by the first cause.
  pub only : (why : ProvisionWhy) → IsNoted (added old new) (ProvisionRefused why)
      → (cause : FuseFail) × (sizes_judged what old ≡ Err cause) × (why ≡ refusal_of cause)
  pub refused : (cause : FuseFail) → sizes_judged what old ≡ Err cause → IsUntroubled bank.Bmc (added old new) → IsNoted (added old new) (ProvisionRefused (refusal_of cause))

abbrev pub ProvisionsSo : Event → World → World → Type 0
ProvisionsSo (event.Provision what) old new = ¬ AreOff old → TriesProvision what old new
ProvisionsSo e old new = Unit {0}
