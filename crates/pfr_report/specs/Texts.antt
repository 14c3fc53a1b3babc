-- The lines of a report.
use Rattle.std.specs.Prelude.{◌≡◌, ◌⊎◌, ℕ, List, [], ◌∷◌, ◌++◌, Bool, true, false, Option, Some, None, codes, decimal}
use Rattle.std.specs.List.{flat_map}
use Rattle.pfr_flash.specs.Answer.{IsFound}
use Rattle.pfr_auth.specs.Answer.{active_failure}
use Rattle.pfr_flash.specs.declared.names.Bank.{Bank}
use Rattle.pfr_flash.specs.declared.names.Bank.TheVariants as bank
use Rattle.pfr_flash.specs.declared.names.Device.{Device}
use Rattle.pfr_flash.specs.declared.names.Device.TheVariants as device
use Rattle.pfr_filter.specs.declared.verdict.BusOp.{BusOp}
use Rattle.pfr_filter.specs.declared.verdict.BusOp.TheVariants as op
use Rattle.pfr_capsule.specs.Answer.{capsule_failure}
use Rattle.pfr_cert.specs.Answer.{cert_failure}
use Rattle.pfr_fuses.specs.FuseMap.{IsSigning}
use Rattle.pfr_watch.specs.declared.stage.Stage.{Stage}
use Rattle.pfr_watch.specs.declared.stage.Stage.TheVariants as stage
use Rattle.pfr_report.specs.Words.{rule_word, active_text, capsule_text, cert_text, block_text, smbus_word, kind_word, type_word, AreFound}
use Rattle.pfr_report.specs.declared.note.LockWhy.{LockWhy}
use Rattle.pfr_report.specs.declared.note.LockWhy.TheVariants.{Unprovisioned, SlotsSpent, Layout, FlashFault, StoreFault, NoGoodImage, WatchdogSpent, NoRecovery}
use Rattle.pfr_report.specs.declared.note.ProvisionWhy.{ProvisionWhy}
use Rattle.pfr_report.specs.declared.note.ProvisionWhy.TheVariants as provision
use Rattle.pfr_report.specs.declared.note.Refusal.{Refusal}
use Rattle.pfr_report.specs.declared.note.Refusal.TheVariants.{Capsule, Cert, ManifestDiffers, JobsSpent}
use Rattle.pfr_report.specs.declared.note.What.{What}
use Rattle.pfr_report.specs.declared.note.What.TheVariants.{Power, Held, Released, Locked, Lost, Untrusted, Resumed, Abandoned, Restored, Updated, RecoveryUpdated, Cancelled, Refused, Expired, Passed, Booted, BusPassed, BusBlocked, SmbusPassed, SmbusBlocked, Provisioned, ProvisionRefused, Ignored}
use Rattle.pfr_report.specs.declared.note.Note.{Note}

abbrev pub bank_word : Bank → List ℕ
bank_word bank.Bmc = codes "bmc"
bank_word bank.Pch = codes "pch"

abbrev pub lock_word : LockWhy → List ℕ
lock_word Unprovisioned = codes "unprovisioned"
lock_word SlotsSpent = codes "slots-spent"
lock_word (Layout rule) = codes "layout " ++ rule_word rule
lock_word FlashFault = codes "flash-fault"
lock_word StoreFault = codes "store-fault"
lock_word (NoGoodImage active recovery) = codes "no-good-image " ++ (active_text active ++ (codes " " ++ capsule_text recovery))
lock_word WatchdogSpent = codes "watchdog-spent"
lock_word (NoRecovery recovery) = codes "no-recovery " ++ capsule_text recovery

-- a lock without causes in the bank's images
abbrev pub HasWord : LockWhy → Type 0
HasWord (NoGoodImage active recovery) = ⊥
HasWord (NoRecovery recovery) = ⊥
HasWord why = Unit {0}

abbrev pub device_word : Device → List ℕ
device_word device.Bmc = codes "bmc"
device_word device.Pch = codes "pch"
device_word device.Nv = codes "nv"

-- the word behind `lost`, and a space before it, where a device lost the power
abbrev pub lost_word : Option Device → List ℕ
lost_word None = []
lost_word (Some device) = codes " " ++ device_word device

abbrev pub provision_word : ProvisionWhy → List ℕ
provision_word provision.AlreadyProvisioned = codes "already-provisioned"
provision_word (provision.LayoutBad bank rule) = codes "layout " ++ (bank_word bank ++ (codes " " ++ rule_word rule))
provision_word provision.SlotsSpent = codes "slots-spent"

-- what a frame asks of a flash: enabling writes and disabling them have one word
abbrev pub op_word : BusOp → List ℕ
op_word op.Read = codes "read"
op_word op.Status = codes "status"
op_word op.Id = codes "id"
op_word op.WriteEnable = codes "latch"
op_word op.WriteDisable = codes "latch"
op_word (op.Program at page) = codes "program"
op_word (op.Erase sector count) = codes "erase"

-- which regions an update writes: the static ones, or all
abbrev pub update_word : Bool → List ℕ
update_word false = codes "active"
update_word true = codes "full"

abbrev pub refusal_text : Refusal → List ℕ
refusal_text (Capsule cause) = capsule_text cause
refusal_text (Cert cause) = cert_text cause
refusal_text ManifestDiffers = codes "manifest-differs"
refusal_text JobsSpent = codes "jobs-spent"

-- a stage that is passed on the way of a boot; of no other is it noted that it was passed
abbrev pub stage_word : Stage → List ℕ
stage_word stage.Me = codes "me"
stage_word stage.Acm = codes "acm"
stage_word stage.Ibb = codes "ibb"
stage_word stage = []

abbrev pub HasStageWord : Stage → Type 0
HasStageWord stage.Me = Unit {0}
HasStageWord stage.Acm = Unit {0}
HasStageWord stage.Ibb = Unit {0}
HasStageWord stage = ⊥

abbrev pub what_text : What → List ℕ
what_text Power = codes "power"
what_text (Held bank counts) = bank_word bank ++ codes " held"
what_text (Released bank svn counts) = bank_word bank ++ (codes " released svn " ++ decimal svn)
what_text (Locked bank why counts) = bank_word bank ++ (codes " locked " ++ lock_word why)
what_text (Lost device counts) = codes "lost" ++ lost_word device
what_text (Untrusted bank why) = bank_word bank ++ (codes " untrusted " ++ active_text why)
what_text (Resumed bank kind) = bank_word bank ++ (codes " resumed " ++ kind_word kind)
what_text (Abandoned bank) = bank_word bank ++ codes " job abandoned"
what_text (Restored bank level) = bank_word bank ++ (codes " restored level " ++ decimal level)
what_text (Updated bank dynamic svn) = bank_word bank ++ (codes " updated " ++ (update_word dynamic ++ (codes " svn " ++ decimal svn)))
what_text (RecoveryUpdated bank svn) = bank_word bank ++ (codes " recovery updated svn " ++ decimal svn)
what_text (Cancelled type id) = codes "cancelled " ++ (type_word type ++ (codes " " ++ decimal id))
what_text (Refused bank why) = bank_word bank ++ (codes " refused " ++ refusal_text why)
what_text (Expired bank level) = bank_word bank ++ (codes " watchdog " ++ decimal level)
what_text (Passed bank stage) = bank_word bank ++ (codes " passed " ++ stage_word stage)
what_text (Booted bank) = bank_word bank ++ codes " booted"
what_text (BusPassed bank op) = bank_word bank ++ (codes " pass " ++ op_word op)
what_text (BusBlocked bank why) = bank_word bank ++ (codes " blocked " ++ block_text why)
what_text (SmbusPassed bank) = bank_word bank ++ codes " smbus pass"
what_text (SmbusBlocked bank why) = bank_word bank ++ (codes " smbus blocked " ++ smbus_word why)
what_text Provisioned = codes "provisioned"
what_text (ProvisionRefused why) = codes "provision refused " ++ provision_word why
what_text Ignored = codes "ignored"

-- the line of a note: the item's number, a space, the text
unfoldable pub note_text : Note → List ℕ
note_text note = decimal note.item ++ (codes " " ++ (what_text note.what ++ codes "\n"))

-- the report of a run
abbrev pub report : List Note → List ℕ
report notes = flat_map note_text notes

-- a lock's causes are no failed devices
abbrev pub HasLockText : LockWhy → Type 0
HasLockText (NoGoodImage active recovery) = AreFound active recovery
HasLockText (NoRecovery recovery) = IsFound capsule_failure recovery
HasLockText why = Unit {0}

-- the same of a refusal
abbrev pub HasRefusalText : Refusal → Type 0
HasRefusalText (Capsule cause) = IsFound capsule_failure cause
HasRefusalText (Cert cause) = IsFound cert_failure cause
HasRefusalText why = Unit {0}

-- a note's cause is no failed device, and its stage or type has a word
abbrev pub HasText : What → Type 0
HasText (Untrusted bank why) = IsFound active_failure why
HasText (Locked bank why counts) = HasLockText why
HasText (Cancelled type id) = IsSigning type
HasText (Refused bank why) = HasRefusalText why
HasText (Passed bank stage) = HasStageWord stage
HasText what = Unit {0}

abbrev pub AllText : List Note → Type 0
AllText [] = Unit {0}
AllText (note ∷ notes) = HasText note.what × AllText notes

-- this was noted
abbrev pub IsNoted : List Note → What → Type 0
IsNoted [] what = ⊥
IsNoted (note ∷ notes) what = (note.what ≡ what) ⊎ IsNoted notes what
