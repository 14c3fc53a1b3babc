-- What a plan looks at: the bytes of a bank and of the store, and what is judged of them.
use Rattle.std.specs.Prelude.{ℕ, List, [], length, Result, Ok}
use Rattle.pfr_flash.specs.Judging.{◌>>=◌, ◌>>◌, told_as}
use Rattle.pfr_flash.specs.Layout.{judge_layout}
use Rattle.pfr_flash.specs.declared.names.Bank.{Bank}
use Rattle.pfr_flash.specs.declared.names.Device.TheVariants as device
use Rattle.pfr_engine.specs.Acceptance.{Acceptance}
use Rattle.pfr_fuses.specs.FusesState.{FusesState}
use Rattle.pfr_fuses.specs.FusesOf.{fuses_of}
use Rattle.pfr_fuses.specs.RootSlot.{layout_of}
use Rattle.pfr_fuses.specs.declared.fuse_fail.FuseFail.{FuseFail}
use Rattle.pfr_fuses.specs.declared.fuse_fail.FuseFail.TheVariants as fuse
use Rattle.pfr_manifest.specs.declared.manifest.Manifest.{Manifest}
use Rattle.pfr_capsule.specs.CapsuleState.{CapsuleState}
use Rattle.pfr_capsule.specs.declared.fail.CapsuleFail.{CapsuleFail}
use Rattle.pfr_auth.specs.Areas.{judge_area}
use Rattle.pfr_auth.specs.Judge.{judge_active}
use Rattle.pfr_auth.specs.declared.areas.Area.TheVariants.{Recovery, Staging}
use Rattle.pfr_auth.specs.declared.fail.ActiveFail.{ActiveFail}
use Rattle.pfr_report.specs.declared.note.LockWhy.{LockWhy}
use Rattle.pfr_report.specs.declared.note.LockWhy.TheVariants as lock
use Rattle.pfr_story.specs.Story.{Story, Plan, called, image_at, device_of}

-- the bytes of a bank, and of the store
abbrev pub mine : Bank → Story → List ℕ
mine bank story = image_at (device_of bank) story

abbrev pub store : Story → List ℕ
store story = image_at device.Nv story

-- a bank's device is only asked, or the store is
abbrev pub asks : Bank → Plan
asks bank story = called (device_of bank) []

abbrev pub asks_store : Plan
asks_store story = called device.Nv []

abbrev pub lock_of : FuseFail → LockWhy
lock_of fuse.SlotsSpent = lock.SlotsSpent
lock_of cause = lock.Unprovisioned

-- the fuses by which a bank of this size can be checked, or why it is locked
abbrev pub ready_in : Bank → ℕ → Result FusesState FuseFail → Result FusesState LockWhy
ready_in bank size read = told_as lock_of read >>= λ fuses. told_as (λ rule. lock.Layout rule) (judge_layout (layout_of fuses.provision bank) size) >> Ok fuses

abbrev pub ready_of : Bank → Story → Result FusesState LockWhy
ready_of bank story = ready_in bank (length (mine bank story)) (fuses_of (store story))

abbrev pub judged_active : Acceptance → Bank → FusesState → Story → Result Manifest ActiveFail
judged_active accepts bank fuses story = judge_active (mine bank story) bank fuses accepts

abbrev pub judged_staging : Acceptance → Bank → FusesState → Story → Result CapsuleState CapsuleFail
judged_staging accepts bank fuses story = judge_area Staging bank (mine bank story) fuses accepts

abbrev pub judged_recovery : Acceptance → Bank → FusesState → Story → Result CapsuleState CapsuleFail
judged_recovery accepts bank fuses story = judge_area Recovery bank (mine bank story) fuses accepts
