-- What a step does where no device call fails, from the contents as they are.
use Rattle.std.specs.Prelude.{ℕ, ◌+◌, min, nat_lt, Bool, true, false, List, [], length, Option, Some, None, Result, Ok, Err}
use Rattle.pfr_flash.specs.Judging.{◌>>=◌}
use Rattle.pfr_flash.specs.Operation.{Operation}
use Rattle.pfr_flash.specs.declared.names.Bank.{Bank}
use Rattle.pfr_flash.specs.declared.names.Device.TheVariants as device
use Rattle.pfr_flash.specs.declared.layout.Layout.{Layout}
use Rattle.pfr_engine.specs.Acceptance.{Acceptance}
use Rattle.pfr_fuses.specs.FusesState.{FusesState}
use Rattle.pfr_fuses.specs.FusesOf.{fuses_of}
use Rattle.pfr_fuses.specs.Provisioning.{judge_provision, provision_plan}
use Rattle.pfr_fuses.specs.RootSlot.{layout_of}
use Rattle.pfr_fuses.specs.Changes.{migration}
use Rattle.pfr_fuses.specs.declared.fuse_fail.FuseFail.{FuseFail}
use Rattle.pfr_fuses.specs.declared.fuse_fail.FuseFail.TheVariants as fuse
use Rattle.pfr_fuses.specs.declared.profile.Profile.{Profile}
use Rattle.pfr_fuses.specs.declared.profile.Profile.TheVariants as profile
use Rattle.pfr_fuses.specs.declared.root_slot.RootSlot.{RootSlot}
use Rattle.pfr_manifest.specs.declared.manifest.Manifest.{Manifest}
use Rattle.pfr_manifest.specs.declared.rule.Rule.{Rule}
use Rattle.pfr_filter.specs.Asking.{bus_ops}
use Rattle.pfr_filter.specs.Frames.{verdict_on}
use Rattle.pfr_filter.specs.declared.verdict.BusOp.{BusOp}
use Rattle.pfr_filter.specs.declared.verdict.BusOp.TheVariants.{Program, Erase}
use Rattle.pfr_filter.specs.declared.verdict.Verdict.{Verdict}
use Rattle.pfr_filter.specs.declared.verdict.Verdict.TheVariants.{Pass, Block}
use Rattle.pfr_smbus.specs.Frames.{judge_frame, judge_allowed}
use Rattle.pfr_smbus.specs.declared.cause.SmbusCause.{SmbusCause}
use Rattle.pfr_capsule.specs.CapsuleState.{CapsuleState}
use Rattle.pfr_capsule.specs.declared.fail.CapsuleFail.{CapsuleFail}
use Rattle.pfr_auth.specs.declared.fail.ActiveFail.{ActiveFail}
use Rattle.pfr_jobs.specs.declared.job.JobKind.TheVariants.{ActiveFromRecovery}
use Rattle.pfr_watch.specs.declared.watch.Watch.{Watch}
use Rattle.pfr_report.specs.declared.note.LockWhy.{LockWhy}
use Rattle.pfr_report.specs.declared.note.LockWhy.TheVariants as lock
use Rattle.pfr_report.specs.declared.note.ProvisionWhy.{ProvisionWhy}
use Rattle.pfr_report.specs.declared.note.ProvisionWhy.TheVariants as refusal
use Rattle.pfr_report.specs.declared.note.What.{What}
use Rattle.pfr_report.specs.declared.note.What.TheVariants.{Held, Released, Locked, Untrusted, Restored, Provisioned, ProvisionRefused, BusPassed, BusBlocked, SmbusPassed, SmbusBlocked, Expired}
use Rattle.pfr_story.specs.Guards.{guard_at}
use Rattle.pfr_story.specs.JobPlans.{job_notes, with_job, resumed}
use Rattle.pfr_story.specs.Story.{Story, Move, Plan, then, says, called, device_of}
pub use Rattle.pfr_story.specs.Views.{mine, store, asks, asks_store, lock_of, ready_in, ready_of, judged_active, judged_staging, judged_recovery}

-- ---- a bank is brought up

-- its active image is made anew from the recovery area, at a level of recovery
abbrev pub restored : Bank → ℕ → FusesState → CapsuleState → Plan
restored bank level fuses capsule = with_job bank (ActiveFromRecovery level) fuses capsule (Restored bank level)

-- the second check, behind that: what was made anew is released, since it is trusted always
abbrev pub by_second : Bank → Result Manifest ActiveFail → Plan
by_second bank (Ok m) = says (Released bank m.svn)
by_second bank (Err why) = λ story. []

abbrev pub checked_again : Acceptance → Bank → FusesState → Plan
checked_again accepts bank fuses = then (asks bank) (λ story. by_second bank (judged_active accepts bank fuses story) story)

-- a bank whose active image isn't trusted for this cause is restored from a good capsule at level 1, or locked where there is none
abbrev pub by_recovery : Acceptance → Bank → FusesState → ActiveFail → Result CapsuleState CapsuleFail → Plan
by_recovery accepts bank fuses why (Ok capsule) = then (restored bank 1 fuses capsule) (checked_again accepts bank fuses)
by_recovery accepts bank fuses why (Err cause) = says (Locked bank (lock.NoGoodImage why cause))

abbrev pub recovered : Acceptance → Bank → FusesState → ActiveFail → Plan
recovered accepts bank fuses why = then (asks bank) (λ story. by_recovery accepts bank fuses why (judged_recovery accepts bank fuses story) story)

-- it is released where its active image is trusted, else its recovery area is looked at
abbrev pub by_active : Acceptance → Bank → FusesState → Result Manifest ActiveFail → Plan
by_active accepts bank fuses (Ok m) = says (Released bank m.svn)
by_active accepts bank fuses (Err why) =
    then (says (λ _. Untrusted bank why)) (recovered accepts bank fuses why)

abbrev pub tail : Acceptance → Bank → FusesState → Plan
tail accepts bank fuses = then (asks bank) (λ story. by_active accepts bank fuses (judged_active accepts bank fuses story) story)

-- behind work on the store it is checked by the fuses as they are then
abbrev pub by_fuses : Acceptance → Bank → Result FusesState LockWhy → Plan
by_fuses accepts bank (Ok fuses) = tail accepts bank fuses
by_fuses accepts bank (Err why) = says (Locked bank why)

abbrev pub checked_then : Acceptance → Bank → Plan
checked_then accepts bank story = by_fuses accepts bank (ready_of bank story) story

-- a job that is open is taken up or given up first
abbrev pub by_ready : Acceptance → Bank → Result FusesState LockWhy → Plan
by_ready accepts bank (Ok fuses) = then (resumed (job_notes bank) accepts bank fuses) (checked_then accepts bank)
by_ready accepts bank (Err why) = says (Locked bank why)

-- It is held, its fuses are read off the store, the job that is open is resumed or given up, and it is checked.
abbrev pub brought_up : Acceptance → Bank → Plan
brought_up accepts bank = then (says (Held bank)) (then asks_store (λ story. by_ready accepts bank (ready_of bank story) story))

-- ---- the watch over a bank's boot expires
-- how many recoveries there are by an expiry, 4 at most
abbrev pub level_after : Watch → ℕ
level_after watch = min (watch.recoveries + 1) 4

-- a bank is restored from a good capsule at this level, or locked where there is none
abbrev pub by_capsule : Acceptance → Bank → FusesState → ℕ → Result CapsuleState CapsuleFail → Plan
by_capsule accepts bank fuses level (Ok capsule) = then (restored bank level fuses capsule) (checked_again accepts bank fuses)
by_capsule accepts bank fuses level (Err cause) = says (Locked bank (lock.NoRecovery cause))

abbrev pub recovered_with : Acceptance → Bank → ℕ → Result FusesState LockWhy → Plan
recovered_with accepts bank level (Ok fuses) = then (asks bank) (λ story. by_capsule accepts bank fuses level (judged_recovery accepts bank fuses story) story)
recovered_with accepts bank level (Err why) = says (Locked bank why)

-- the fourth expiry locks the bank
abbrev pub by_level : Acceptance → Bank → ℕ → Bool → Plan
by_level accepts bank level true = then asks_store (λ story. recovered_with accepts bank level (ready_of bank story) story)
by_level accepts bank level false = says (Locked bank lock.WatchdogSpent)

abbrev pub expired_to : Acceptance → Bank → ℕ → Plan
expired_to accepts bank level = then (says (λ _. Expired bank level)) (then (says (Held bank)) (by_level accepts bank level (nat_lt level 4)))

abbrev pub expired : Acceptance → Bank → Plan
expired accepts bank story = expired_to accepts bank (level_after (guard_at bank story.guards).watch) story

-- ---- the fuses are read and migrated at power-on, where the store is provisioned and of profile 1
abbrev pub migration_by : Profile → FusesState → List Operation
migration_by profile.One fuses = migration fuses
migration_by profile.Two fuses = []

abbrev pub migration_in : Result FusesState FuseFail → List Operation
migration_in (Ok fuses) = migration_by fuses.profile fuses
migration_in (Err cause) = []

abbrev pub migrated : Plan
migrated = then asks_store (λ story. called device.Nv (migration_in (fuses_of (store story))))

-- ---- the platform is provisioned, or refuses to be
abbrev pub refusal_of : FuseFail → ProvisionWhy
refusal_of fuse.AlreadyProvisioned = refusal.AlreadyProvisioned
refusal_of (fuse.LayoutBad bank rule) = refusal.LayoutBad bank rule
refusal_of cause = refusal.SlotsSpent

abbrev pub provisioned_in : RootSlot → Result ℕ FuseFail → Plan
provisioned_in what (Ok number) = then (λ story. called device.Nv (provision_plan number what)) (says (λ _. Provisioned))
provisioned_in what (Err cause) = says (λ _. ProvisionRefused (refusal_of cause))

-- it is judged by the store, which is asked first
abbrev pub provisioned : RootSlot → Plan
provisioned what = then asks_store (λ story. provisioned_in what (judge_provision (store story) what (length story.bmc.start) (length story.pch.start)) story)

-- ---- frames on the buses of a bank that runs
-- the manifest that a bank's image is trusted by, and the layout that the store provisions it with
pub record Ruling : Type 0 where
  pub manifest : Manifest
  pub layout : Layout

abbrev pub ruling_by : Bank → FusesState → Result Manifest ActiveFail → Option Ruling
ruling_by bank fuses (Ok m) = Some (record { manifest = m; layout = layout_of fuses.provision bank })
ruling_by bank fuses (Err why) = None

abbrev pub ruling_with : Acceptance → Bank → Story → Result FusesState LockWhy → Option Ruling
ruling_with accepts bank story (Ok fuses) = ruling_by bank fuses (judged_active accepts bank fuses story)
ruling_with accepts bank story (Err why) = None

abbrev pub ruling : Acceptance → Bank → Story → Option Ruling
ruling accepts bank story = ruling_with accepts bank story (ready_of bank story)

-- the calls of a frame that passed: one that writes nothing calls nothing
abbrev pub bus_calls : Bank → BusOp → List Move
bus_calls bank (Program at page) = called (device_of bank) (bus_ops (Program at page))
bus_calls bank (Erase sector count) = called (device_of bank) (bus_ops (Erase sector count))
bus_calls bank op = []

-- what passes is handed to the flash and noted, and what doesn't is noted
abbrev pub by_verdict : Bank → Verdict → Plan
by_verdict bank (Pass op) = then (λ story. bus_calls bank op) (says (λ _. BusPassed bank op))
by_verdict bank (Block why) = says (λ _. BusBlocked bank why)

-- a bank that runs is trusted, so there is always a ruling
abbrev pub by_ruling : Bank → List ℕ → Bool → Option Ruling → Plan
by_ruling bank frame latch (Some r) = λ story. by_verdict bank (verdict_on frame r.manifest r.layout (length (mine bank story)) latch) story
by_ruling bank frame latch None = λ story. []

-- a frame on the SPI bus
abbrev pub filtered : Acceptance → Bank → List ℕ → Plan
filtered accepts bank frame story = by_ruling bank frame (guard_at bank story.guards).latch (ruling accepts bank story) story

-- a frame on the SMBus, by the rules of a manifest
abbrev pub judge_smbus : List Rule → List ℕ → Result (Unit {0}) SmbusCause
judge_smbus rules frame = judge_frame frame >>= judge_allowed rules

abbrev pub smbus_note : Bank → Result (Unit {0}) SmbusCause → What
smbus_note bank (Ok passed) = SmbusPassed bank
smbus_note bank (Err why) = SmbusBlocked bank why

abbrev pub smbus_by : Bank → List ℕ → Option Ruling → Plan
smbus_by bank frame (Some r) = says (λ _. smbus_note bank (judge_smbus r.manifest.rules frame))
smbus_by bank frame None = λ story. []

abbrev pub smbus_judged : Acceptance → Bank → List ℕ → Plan
smbus_judged accepts bank frame story = smbus_by bank frame (ruling accepts bank story) story
