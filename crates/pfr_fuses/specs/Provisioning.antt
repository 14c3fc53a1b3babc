-- How a store is provisioned, and why it isn't.
use Rattle.std.specs.Prelude.{◌≡◌, ◌≢◌, ◌↔◌, ℕ, zero, suc, ◌+◌, ◌*◌, ◌<◌, ◌⊎◌, if◌then◌else◌, List, [], ◌∷◌, Option, Some, None, Result, Ok, Err, MatchOption}
use Rattle.std.specs.List.{list_any}
use Rattle.pfr_flash.specs.Answer.{Answers}
use Rattle.pfr_flash.specs.FlashState.{FlashState, now}
use Rattle.pfr_flash.specs.Judging.{◌>>=◌, known, told_as}
use Rattle.pfr_flash.specs.Layout.{IsValidLayout, judge_layout}
use Rattle.pfr_flash.specs.Operation.{Operation, Program}
use Rattle.pfr_flash.specs.Plan.{FailsWorking, Follows}
use Rattle.pfr_flash.specs.Reading.{EndsAt, failed_by}
use Rattle.pfr_flash.specs.declared.names.Bank.{Bank}
use Rattle.pfr_flash.specs.declared.names.Bank.TheVariants.{Bmc, Pch}
use Rattle.pfr_flash.specs.declared.names.ContentType.{ContentType}
use Rattle.pfr_fuses.specs.Answer.{fuse_failure}
use Rattle.pfr_fuses.specs.FuseMap.{IsFloorBit, IsCancelBit, profile_of}
use Rattle.pfr_fuses.specs.RootSlot.{slot_bytes, provision_in}
use Rattle.pfr_fuses.specs.Slots.{IsBlank, IsProvisionedBy, IsUnset, HasBlank, slot_at, slots_from, is_set, is_blank}
use Rattle.pfr_fuses.specs.declared.root_slot.RootSlot.{RootSlot}
use Rattle.pfr_fuses.specs.declared.fuse_fail.FuseFail.{FuseFail}
use Rattle.pfr_fuses.specs.declared.fuse_fail.FuseFail.TheVariants.{NotProvisioned, SlotsSpent, AlreadyProvisioned, LayoutBad, Flash}

-- the provision is programmed, and the slot's gate last
abbrev pub provision_plan : ℕ → RootSlot → List Operation
provision_plan number what = Program (256 * number) (slot_bytes what) ∷ Program (256 * number + 255) (0 ∷ []) ∷ []

-- ---- what may be provisioned
-- the first slot that is blank
pub record IsFirstBlank (nv : List ℕ) (number : ℕ) : Type 0 where
  pub within : number < 8
  pub blank : IsBlank (slot_at nv number)
  pub first : (k : ℕ) → k < number → ¬ IsBlank (slot_at nv k)

-- No slot is set, both layouts fit their banks, and this is the first blank slot.
pub record IsProvisionable (nv : List ℕ) (what : RootSlot) (bmc_size pch_size number : ℕ) : Type 0 where
  pub unset : IsUnset nv
  pub bmc : IsValidLayout what.bmc bmc_size
  pub pch : IsValidLayout what.pch pch_size
  pub slot : IsFirstBlank nv number

abbrev pub CanProvision : List ℕ → RootSlot → ℕ → ℕ → Type 0
CanProvision nv what bmc_size pch_size = (number : ℕ) × IsProvisionable nv what bmc_size pch_size number

-- why a provision is refused
abbrev pub IsBarred : List ℕ → RootSlot → ℕ → ℕ → FuseFail → Type 0
IsBarred nv what bmc_size pch_size AlreadyProvisioned = (number : ℕ) × IsProvisionedBy nv number
IsBarred nv what bmc_size pch_size (LayoutBad Bmc rule) = IsUnset nv × (judge_layout what.bmc bmc_size ≡ Err rule)
IsBarred nv what bmc_size pch_size (LayoutBad Pch rule) = IsUnset nv × IsValidLayout what.bmc bmc_size × (judge_layout what.pch pch_size ≡ Err rule)
IsBarred nv what bmc_size pch_size SlotsSpent = IsUnset nv × IsValidLayout what.bmc bmc_size × IsValidLayout what.pch pch_size × ¬ HasBlank nv
IsBarred nv what bmc_size pch_size NotProvisioned = ⊥
IsBarred nv what bmc_size pch_size (Flash f) = ⊥

-- ---- the same by tests, in order
-- the number of the first blank slot among so many from one on
abbrev pub blank_from : List ℕ → ℕ → ℕ → Option ℕ
blank_from nv number zero = None
blank_from nv number (suc count) = if is_blank (slot_at nv number) then Some number else blank_from nv (number + 1) count

-- what was found before, or else what is found now
abbrev pub found_first : Option ℕ → Option ℕ → Option ℕ
found_first (Some number) next = Some number
found_first None next = next

-- the number of the first blank slot, in a store where no slot is set
unfoldable pub judge_slots : List ℕ → Result (Option ℕ) FuseFail
judge_slots nv = if list_any is_set (slots_from nv 0 8) then Err AlreadyProvisioned else Ok (blank_from nv 0 8)

unfoldable pub judge_places : RootSlot → ℕ → ℕ → Option ℕ → Result ℕ FuseFail
judge_places what bmc_size pch_size blank =
    told_as (LayoutBad Bmc) (judge_layout what.bmc bmc_size) >>= λ _. (told_as (LayoutBad Pch) (judge_layout what.pch pch_size) >>= λ _. known SlotsSpent blank)

-- the number of the slot that is to be provisioned, or the first cause against it
unfoldable pub judge_provision : List ℕ → RootSlot → ℕ → ℕ → Result ℕ FuseFail
judge_provision nv what bmc_size pch_size = judge_slots nv >>= judge_places what bmc_size pch_size

-- ---- what is done
-- what the calls of the device do that a call of the fuses makes
abbrev pub FollowsAs : List Operation → FlashState → FlashState → Result (Unit {0}) FuseFail → Type 0
FollowsAs plan old new (Ok done) = Follows plan old new (Ok done)
FollowsAs plan old new (Err cause) = MatchOption (fuse_failure cause) ⊥ (λ f. Follows {A = Unit {0}} plan old new (Err f))

-- The provision is programmed in the slot that was judged. Where it is refused, the device is only read, and no read's fault is passed over.
abbrev pub Provisions : RootSlot → FlashState → FlashState → Result (Unit {0}) FuseFail → Result ℕ FuseFail → Type 0
Provisions what old new result (Ok number) = FollowsAs (provision_plan number what) old new result
Provisions what old new result (Err cause) = Answers fuse_failure result (Err cause) × EndsAt (failed_by fuse_failure result) old new

-- ---- what it leaves
-- a slot provisions the platform with this
pub record IsProvisionedWith (nv : List ℕ) (what : RootSlot) : Type 0 where
  pub number : ℕ
  pub by : IsProvisionedBy nv number
  pub provision : provision_in (slot_at nv number) ≡ what

-- no slot is set, and one that was blank isn't any more
pub record IsUsedUp (old new : List ℕ) : Type 0 where
  pub unset : IsUnset new
  pub number : ℕ
  pub within : number < 8
  pub was : IsBlank (slot_at old number)
  pub used : ¬ IsBlank (slot_at new number)
  pub others : (k : ℕ) → k < 8 → k ≢ number → slot_at new k ≡ slot_at old k

-- Where the device failed, the store is provisioned with this, or a slot is used up, or all is as before.
abbrev pub LeavesProvision : FlashState → FlashState → RootSlot → Type 0
LeavesProvision old new what = IsProvisionedWith (now new) what ⊎ (IsUsedUp (now old) (now new) ⊎ (now new ≡ now old))

-- Why it answered a refusal, and what it left. Unless the device failed, nothing changed but the count of bytes that were asked for.
abbrev pub ProvisionFails : FlashState → FlashState → RootSlot → ℕ → ℕ → FuseFail → Type 0
ProvisionFails old new what bmc_size pch_size cause =
    MatchOption (fuse_failure cause) (IsBarred (now old) what bmc_size pch_size cause × EndsAt None old new) (λ f. FailsWorking f old new × LeavesProvision old new what)

-- the profile, the floors and the cancelled keys are the same
pub record KeepsFuses (old new : List ℕ) : Type 0 where
  pub profile : profile_of new ≡ profile_of old
  pub floors : (bank : Bank) (k : ℕ) → (IsFloorBit new bank k ↔ IsFloorBit old bank k)
  pub cancels : (type : ContentType) (id : ℕ) → (IsCancelBit new type id ↔ IsCancelBit old type id)
